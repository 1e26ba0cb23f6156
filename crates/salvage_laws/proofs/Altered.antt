-- Laws: nothing that is kept is altered: the new file is the old one with those of its leases, holds and releases that break no rule. It has the form of a file and is no
-- longer than the old one, and its book is sound.
use mathlib.Core.Bool.{Bool, false, true}
use mathlib.Core.List.{List, [], ◌++◌, ◌∷◌, map}
use mathlib.Core.Logic.{◌⊎◌, inl, inr, ⊎_elim}
use mathlib.Core.Path.{◌∙◌, ◌≡◌, ap, ap₂, refl, sym}
use Prim.Native.Nat.{◌+◌, ◌<◌, ◌≤◌, suc, zero, ℕ}
use native.Mathlib.Omega.{arith}
use lib.Dec.{eqb, ltb}
use lib.ListN.{get_or, length, length-append, length-map}
use borrow.Author.Tests.{eqb-false, le-leb, le-ltb, lt-ltb, ltb-false, ltb-true, ne_eqb}
use Rattle.lists.specs.All.{all_by, all_to, pairs_by}
use Rattle.lists.specs.Pick.{pick}
use Rattle.lists.specs.laws.All.{each_to}
use Rattle.lists.specs.laws.Pick.{both}
use Rattle.identifier.specs.Order.{order_of}
use Rattle.identifier.specs.laws.Order.{order_refl, order_same}
use Rattle.identifier.specs.laws.Trans.{order_total, order_trans}
use Rattle.format.specs.Format.{Format, ◌⊗◌, after, counted, number}
use Rattle.format.specs.Section.{section_format}
use Rattle.format.specs.Tenants.{own}
use Rattle.state.specs.Book.{differ, leases_of, ordered}
use Rattle.state.specs.declared.Lease.{Lease}
use Rattle.state.specs.declared.LeaseTable.{LeaseTable}
use Rattle.state.specs.declared.Memory.{Memory}
use Rattle.state.specs.laws.Layout.{table_back}
use Rattle.soundness.specs.Sound.{sound_b}
use Rattle.soundness.specs.laws.Added.{few_at}
use Rattle.soundness.proofs.Lists.{sound_lists}
use Rattle.releases.specs.Rules.{memory_b}
use Rattle.lease_file.specs.Records.{few_of, hold_fit_b, hold_tenant, lease_tenant, merged_from, records_fit_b, stored, stored_hold}
use Rattle.lease_file.specs.Section.{FileHold, FileLease, hold_after, hold_format, hold_key, holds_format, is_after, lease_after, lease_format, lease_key, leases_format}
use Rattle.lease_file.specs.laws.Merge.{merged_length}
use Rattle.release_file.specs.Section.{FileRelease, filed_memory, release_after, release_format, release_key, releases_fit_b, releases_format, stored_memory}
use Rattle.state_file.specs.File.{File, file_format, scope_format, tenant_format}
use Rattle.state_file.specs.Records.{filed_as, filed_book, fits_b, settings_fit_b, stored_state, stored_table}
use Rattle.state_file.specs.StateFile.{octets_of, with_board, zero_table}
use Rattle.state_file.specs.laws.File.{file_reads}
use Rattle.state_file.proofs.ReadAgain.{book_again}
use Rattle.salvage_walk.specs.Walk.{hold_rules, lease_rules, records_kept, release_rules, releases_kept, settings_sound}
use Rattle.salvage_file.specs.Salvage.{kept_book, kept_file}
use Rattle.salvage_laws.specs.Statement.{NothingAltered, kept_in, kept_ones}
use Rattle.salvage_laws.proofs.Chosen.{kept_each, kept_fewer, kept_ordered, kept_shorter}
use Rattle.salvage_laws.proofs.Memory.{Remembers, memory_fits, memory_holds, memory_sound_on, release_facts, release_not}
use Rattle.salvage_laws.proofs.Records.{Holds, holds_sound, lists_apart, records_hold, settings_alone, settings_laid}
use Rattle.salvage_laws.proofs.Table.{merged_at}

-- ---- sections stay in order
order_most : (x y : List ℕ) → order_of x y ≤ 2
unfolding order_of pick
order_most [] [] = omega arith
order_most [] (y ∷ ys) = omega arith
order_most (x ∷ xs) [] = omega arith
order_most (x ∷ xs) (y ∷ ys) = go (ltb x y) (ltb y x) (order_most xs ys)
  where
    go : (p q : Bool) → order_of xs ys ≤ 2 → pick p 0 (pick q 2 (order_of xs ys)) ≤ 2
    go true q ih = omega arith
    go false true ih = omega arith
    go false false ih = ih

-- what is not after the next is not after the next but one
order_on : (a b c : List ℕ) → (order_of a b ≡ 2 → ⊥) → (order_of b c ≡ 2 → ⊥) → order_of a c ≡ 2 → ⊥
order_on a b c p q e = go (order_of a b) refl (order_most a b)
  where
    down : order_of c a ≡ 0
    down = order_total a c (λ z. absurd (omega arith)) (λ z. absurd (omega arith))

    -- c before b
    low : order_of c b ≡ 0 → (n : ℕ) → order_of b c ≡ n → n ≤ 2 → ⊥
    low z zero f h = let r = order_refl c in let w = order_trans c b c z f in absurd (omega arith)
    low z (suc zero) f h = let r = order_refl c in let w : order_of c c ≡ 0 = ap (order_of c) (sym (order_same b c f)) ∙ z in absurd (omega arith)
    low z (suc (suc zero)) f h = q f
    low z (suc (suc (suc n))) f h = absurd (omega arith)

    go : (n : ℕ) → order_of a b ≡ n → n ≤ 2 → ⊥
    go zero f h = low (order_trans c a b down f) (order_of b c) refl (order_most b c)
    go (suc zero) f h = q (ap (λ (x : List ℕ). order_of x c) (sym (order_same a b f)) ∙ e)
    go (suc (suc zero)) f h = p f
    go (suc (suc (suc n))) f h = absurd (omega arith)

after_facts : (t u : ℕ) (a b : List ℕ) → is_after t a u b ≡ false → (t < u) ⊎ ((t ≡ u) × (order_of a b ≡ 2 → ⊥))
unfolding is_after pick
after_facts t u a b e = go (ltb t u) refl (ltb u t) refl (eqb (order_of a b) 2) refl e
  where
    go : (p : Bool) → ltb t u ≡ p → (q : Bool) → ltb u t ≡ q → (c : Bool) → eqb (order_of a b) 2 ≡ c → pick p false (pick q true c) ≡ false → (t < u) ⊎ ((t ≡ u) × (order_of a b ≡ 2 → ⊥))
    go true p q f c g e = inl (ltb-true t u p)
    go false p true f c g e = absurd (let w : ◌≡◌ {A = ℕ} 0 1 = cc in omega arith)
    go false p false f true g e = absurd (let w : ◌≡◌ {A = ℕ} 0 1 = cc in omega arith)
    go false p false f false g e = let h = ltb-false t u p in let k = ltb-false u t f in inr ((let z : t ≡ u = omega arith in z), eqb-false (order_of a b) 2 g)

after_not : (t u : ℕ) (a b : List ℕ) → (t < u) ⊎ ((t ≡ u) × (order_of a b ≡ 2 → ⊥)) → is_after t a u b ≡ false
unfolding is_after pick
after_not t u a b s = ⊎_elim early same s
  where
    early : t < u → pick (ltb t u) false (pick (ltb u t) true (eqb (order_of a b) 2)) ≡ false
    early h = ap (λ (p : Bool). pick p false (pick (ltb u t) true (eqb (order_of a b) 2))) (lt-ltb t u h)

    same : (t ≡ u) × (order_of a b ≡ 2 → ⊥) → pick (ltb t u) false (pick (ltb u t) true (eqb (order_of a b) 2)) ≡ false
    same s =
        let q = s.0 in
        ap₂ (λ (p r : Bool). pick p false (pick r true (eqb (order_of a b) 2))) (le-ltb t u (omega arith)) (le-ltb u t (omega arith)) ∙ ne_eqb (order_of a b) 2 s.1

after_trans : (t u v : ℕ) (a b c : List ℕ) → is_after t a u b ≡ false → is_after u b v c ≡ false → is_after t a v c ≡ false
after_trans t u v a b c p q = after_not t v a c (⊎_elim first second (after_facts t u a b p))
  where
    rest : (u < v) ⊎ ((u ≡ v) × (order_of b c ≡ 2 → ⊥))
    rest = after_facts u v b c q

    first : t < u → (t < v) ⊎ ((t ≡ v) × (order_of a c ≡ 2 → ⊥))
    first h = ⊎_elim (λ (g : u < v). inl (let z : t < v = omega arith in z)) (λ g. inl (let y = g.0 in let z : t < v = omega arith in z)) rest

    second : (t ≡ u) × (order_of a b ≡ 2 → ⊥) → (t < v) ⊎ ((t ≡ v) × (order_of a c ≡ 2 → ⊥))
    second s =
        let h = s.0 in
        ⊎_elim (λ (g : u < v). inl (let z : t < v = omega arith in z)) (λ g. inr (h ∙ g.0, order_on a b c s.1 g.1)) rest

lease_trans : (k : ℕ × List ℕ) (x y : FileLease) → lease_after k x ≡ false → lease_after (lease_key x) y ≡ false → lease_after k y ≡ false
lease_trans k x y p q = after_trans k.0 x.tenant y.tenant k.1 x.id y.id p q

hold_trans : (k : ℕ × List ℕ) (x y : FileHold) → hold_after k x ≡ false → hold_after (hold_key x) y ≡ false → hold_after k y ≡ false
hold_trans k x y p q = lease_trans k x.lease y.lease p q

release_trans : (k : ℕ × ℕ) (x y : FileRelease) → release_after k x ≡ false → release_after (release_key x) y ≡ false → release_after k y ≡ false
release_trans k x y p q =
    let f = release_facts k x p in
    let g = release_facts (release_key x) y q in
    let a = f.0 in
    let b = g.0 in
    release_not k y (omega arith) (λ e.
    let c : x.tenant ≡ k.0 = omega arith in
    let d : y.tenant ≡ x.tenant = omega arith in
    let u = f.1 c in
    let w = g.1 d in
    omega arith)

-- ---- the form of a section
module _ {A K : Type 0} (key : A → K) (wrong : K → A → Bool) (k : K) (t : Format A) (rs : List ℕ) (xs : List A) where
  section_kept : ((k : K) (x y : A) → wrong k x ≡ false → wrong (key x) y ≡ false → wrong k y ≡ false) → (section_format key wrong k t).ok xs → (section_format key wrong k t).ok (kept_ones rs xs)
  section_kept trans h = (((let a = kept_fewer rs xs in let b = h.0.0 in omega arith), kept_each t.ok rs xs h.0.1), kept_ordered key wrong trans k rs xs h.1)

  section_shorter : length ((section_format key wrong k t).write (kept_ones rs xs)) ≤ length ((section_format key wrong k t).write xs)
  section_shorter = let a = kept_shorter t.write rs xs in omega arith

seven : (a t c l n r h : List ℕ) → length (a ++ (t ++ (c ++ (l ++ (n ++ (r ++ h)))))) ≡ length a + (length t + (length c + (length l + (length n + (length r + length h)))))
seven a t c l n r h =
    length-append a (t ++ (c ++ (l ++ (n ++ (r ++ h)))))
    ∙ ap (λ (k : ℕ). length a + k) (length-append t (c ++ (l ++ (n ++ (r ++ h))))
    ∙ ap (λ (k : ℕ). length t + k) (length-append c (l ++ (n ++ (r ++ h)))
    ∙ ap (λ (k : ℕ). length c + k) (length-append l (n ++ (r ++ h))
    ∙ ap (λ (k : ℕ). length l + k) (length-append n (r ++ h)
    ∙ ap (λ (k : ℕ). length n + k) (length-append r h)))))

seven_less : (a t c l l' n r r' h h' : List ℕ) → length l' ≤ length l → length r' ≤ length r → length h' ≤ length h
    → length (a ++ (t ++ (c ++ (l' ++ (n ++ (r' ++ h')))))) ≤ length (a ++ (t ++ (c ++ (l ++ (n ++ (r ++ h))))))
seven_less a t c l l' n r r' h h' p q s = let x = seven a t c l' n r' h' in let y = seven a t c l n r h in omega arith

-- ---- the file
pub kept_shorter_file : (f : File) → length (file_format.write (kept_in f)) ≤ length (file_format.write f)
kept_shorter_file f =
    seven_less ((after 1 (number ⊗ number)).write (f.server, f.clock)) ((counted tenant_format).write f.tenants) ((counted (scope_format (length f.tenants))).write f.scopes)
    (leases_format.write f.leases) (leases_format.write (kept_in f).leases) f.names (releases_format.write f.releases) (releases_format.write (kept_in f).releases)
    (holds_format.write f.holds) (holds_format.write (kept_in f).holds) (section_shorter lease_key lease_after (0, []) lease_format (lease_rules f) f.leases) (section_shorter release_key release_after (0, 0) release_format (release_rules f) f.releases)
    (section_shorter hold_key hold_after (0, []) hold_format (hold_rules f) f.holds)

pub kept_ok : (f : File) → file_format.ok f → file_format.ok (kept_in f)
kept_ok f h = (
  h.0,
  (
    h.1.0,
    (
      h.1.1.0,
      (
        section_kept lease_key lease_after (0, []) lease_format (lease_rules f) f.leases lease_trans h.1.1.1.0,
        (
          h.1.1.1.1.0,
          (
            section_kept release_key release_after (0, 0) release_format (release_rules f) f.releases release_trans h.1.1.1.1.1.0,
            section_kept hold_key hold_after (0, []) hold_format (hold_rules f) f.holds hold_trans h.1.1.1.1.1.1,
          ),
        ),
      ),
    ),
  ),
)

module _ (f : File) (ok : file_format.ok f) (e : settings_sound f ≡ true) where
  held : Holds (stored_state f) (kept_in f).leases (kept_in f).holds (records_kept f)
  held = records_hold f e

  remembers : Remembers (stored_state f) (records_kept f) (kept_in f).releases (releases_kept f)
  remembers = memory_holds f

  pub table_kept : stored_table (kept_in f) ≡ records_kept f
  unfolding stored_table
  table_kept = sym held.table

  pub memory_kept : stored_memory (kept_in f).releases ≡ releases_kept f
  memory_kept = sym remembers.memory

  pub state_kept : stored_state (kept_in f) ≡ stored_state f
  unfolding stored_state
  state_kept = refl

  pub records_sound : sound_b (stored_state f) (records_kept f) ≡ true
  records_sound = holds_sound (stored_state f) (kept_in f).leases (kept_in f).holds (records_kept f) held (settings_laid (stored_state f) zero_table (settings_alone f e))

  pub memory_sound_kept : memory_b (stored_state f) (records_kept f) (releases_kept f) ≡ true
  memory_sound_kept = memory_sound_on (stored_state f) (records_kept f) (kept_in f).releases (releases_kept f) remembers (kept_ok f ok).1.1.1.1.1.0.1

  -- sixteen records a tenant
  few_kept : (i : ℕ) → i < 8 → length (own lease_tenant (i + 1) (kept_in f).leases) + length (own hold_tenant (i + 1) (kept_in f).holds) ≤ 16
  few_kept i p =
      let few = few_at (stored_state f) (leases_of (records_kept f)) (sound_lists (stored_state f) (records_kept f) records_sound) i in
      let q : get_or (leases_of (records_kept f)) i [] ≡ get_or (merged_from 1 8 (kept_in f).leases (kept_in f).holds) i [] = ap (λ (l : List (List Lease)). get_or l i []) (ap leases_of held.table ∙ table_back (merged_from 1 8 (kept_in f).leases (kept_in f).holds)) in
      let r = ap length (q ∙ merged_at 8 1 i (kept_in f).leases (kept_in f).holds p) in
      let m = merged_length ordered (map stored_hold (own hold_tenant (i + 1) (kept_in f).holds)) (map stored (own lease_tenant (i + 1) (kept_in f).leases)) in
      let x = length-map (own hold_tenant (i + 1) (kept_in f).holds) stored_hold in
      let y = length-map (own lease_tenant (i + 1) (kept_in f).leases) stored in
      omega arith

  pub kept_fits : fits_b (kept_in f) ≡ true
  unfolding fits_b records_fit_b settings_sound pick few_of
  kept_fits =
      ap₂ (λ (p q : Bool). pick p (pick (pick q (pick (all_by hold_fit_b (kept_in f).holds) (all_to (λ i. few_of (kept_in f).leases (kept_in f).holds (i + 1)) 8) false) false) (releases_fit_b (kept_in f).releases) false) false) (both (settings_fit_b f) _ e).0 held.leases
      ∙ ap₂ (λ (p q : Bool). pick (pick p q false) (releases_fit_b (kept_in f).releases) false) held.holds (each_to (λ i. few_of (kept_in f).leases (kept_in f).holds (i + 1)) 8 (λ i p. le-leb _ 16 (few_kept i p)))
      ∙ memory_fits (stored_state f) (records_kept f) (kept_in f).releases (releases_kept f) remembers

  apart_kept : all_by (pairs_by differ) (leases_of (stored_table (kept_in f))) ≡ true
  unfolding stored_table
  apart_kept = ap (all_by (pairs_by differ)) (table_back (merged_from 1 8 (kept_in f).leases (kept_in f).holds)) ∙ lists_apart (stored_state f) (kept_in f).leases (kept_in f).holds (records_kept f) held

  -- the board is no part of a file
  boardless : (b : LeaseTable) (m : Memory) → filed_book (record { state = stored_state f; table = b; memory = m; names = f.names }) ≡ filed_book (record { state = stored_state f; table = b; memory = with_board b m; names = f.names })
  unfolding filed_book filed_as filed_memory
  boardless b m = refl

  pub file_kept : filed_book (kept_book f) ≡ kept_in f
  unfolding kept_book stored_state
  file_kept =
      ap₂ (λ (b : LeaseTable) (m : Memory). filed_book (record { state = stored_state f; table = b; memory = m; names = f.names })) (sym table_kept) (sym memory_kept)
      ∙ boardless (stored_table (kept_in f)) (stored_memory (kept_in f).releases)
      ∙ book_again (kept_in f) (kept_ok f ok) kept_fits apart_kept

  pub octets_kept : kept_file f ≡ file_format.write (kept_in f)
  unfolding kept_file octets_of
  octets_kept = ap file_format.write file_kept

pub nothing_altered : NothingAltered
unfolding NothingAltered
nothing_altered s f o e c = file_kept f (file_reads s f o e).0 c
