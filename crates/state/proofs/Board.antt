-- Laws: what the leases say of the board with one lease more or less is just the board's own alteration, where no other tenant has an address of the lease.
use Prim.Native.Nat.{ℕ, zero, suc, ◌+◌, ◌-◌, ◌≤◌, ◌<◌, min}
use Rattle.std.specs.Prelude.{◌≡◌, Bool, get_or, set, replicate}
use Rattle.std.proofs.Math.Path.{refl, sym, ap, ap₂}
use Rattle.std.proofs.Common.{◌∙◌, length-set, get_or-set_same, get_or-set_other, ext_get_or}
use Rattle.std.proofs.Math.Bool.{true, false}
use mathlib.Core.List.{List, [], ◌∷◌}
use native.Mathlib.Omega.{arith}
use Rattle.std.proofs.Math.Dec.{eqb}
use Rattle.std.specs.Int.Bits.{bit_or}
use Rattle.std.proofs.Math.ListN.{length, length-map}
use borrow.Author.Tests.{eqb-true, eqb-false, eq-eqb, ne_eqb}
use Rattle.lists.specs.Pick.{pick}
use Rattle.lists.specs.Fold.{fold}
use Rattle.lists.specs.Filter.{is_in, filter_by}
use Rattle.lists.specs.laws.Each.{map_at}
use Rattle.lists.specs.Reordered.{Reordered}
use Rattle.address_set.specs.AddressSet.{bit, keep, offsets, offsets_from, up_to}
use Rattle.address_set.specs.laws.Bits.{bit_le, or_bit, bit_of_zero, length_offsets, offsets_of_zero}
use Rattle.address_set.specs.laws.Offsets.{rises_offsets, offsets_small, in_bit, in_small, each_long, each_at}
use Rattle.occupancy.specs.declared.Entry.{Entry}
use Rattle.occupancy.specs.declared.ScopeBoard.{ScopeBoard}
use Rattle.occupancy.specs.declared.Board.{Board}
use Rattle.occupancy.specs.Board.{no_entry, no_board, more_on, grown, entry_at, held_in, scope_board_at, laid_on, lifted_off, altered_by}
use Rattle.occupancy.specs.laws.Loop.{altered_in, place_scope}
use Rattle.occupancy.specs.laws.Entries.{number_in, fold_entries, fold_others, fold_long, laid_held, lifted_laid, Free}
use Rattle.state.specs.declared.Lease.{Lease}
use Rattle.state.specs.Book.{held_of, held_count, in_scope, addresses_of, union_all, board_with, board_without}
use Rattle.state.specs.Board.{count_in, count_on, owner_from, entry_by, scope_by, board_of}
use Rattle.state.specs.laws.Sets.{adds}
use Rattle.state.proofs.Said.{count_few, none_on, some_on, Only, owner_none, owner_mine, own_count, held_with, count_with, owner_stays, owner_with}

-- ---- what is said of a scope, by places
module _ (ts : List (List Lease)) (s : ℕ) where
  entries_long : length (scope_by ts s).entries ≡ 64
  unfolding scope_by
  entries_long = each_long (entry_by ts s) 64

  pub entry_said : (a : ℕ) → a < 64 → entry_at (scope_by ts s) a ≡ entry_by ts s a
  unfolding scope_by
  entry_said a h = each_at (entry_by ts s) 64 a no_entry h

  held_long : length (scope_by ts s).held ≡ length ts
  unfolding scope_by
  held_long = length-map ts (held_count s)

  pub held_said : (g : ℕ) → g < length ts → held_in (scope_by ts s) g ≡ held_count s (get_or ts g [])
  unfolding scope_by
  held_said g h = map_at (held_count s) ts g [] 0 h

-- ---- one scope, with a lease l of tenant h more, among its own in whichever order
module _ (l : Lease) (h : ℕ) (ts : List (List Lease)) (y : List Lease) (there : h < length ts) (r : Reordered y (l ∷ get_or ts h [])) (few : length (get_or ts h []) ≤ 16) (s : ℕ)
    (apart : (g : ℕ) → (g ≡ h → ⊥) → (a : ℕ) → bit (adds (in_scope s) l) a + bit (held_of s (get_or ts g [])) a ≤ 1) where
  -- the lease's addresses in the scope, those that the tenant had, and the scope's board before
  abbrev laid : ℕ
  laid = adds (in_scope s) l

  abbrev own : ℕ
  own = held_of s (get_or ts h [])

  abbrev was : ScopeBoard
  was = scope_by ts s

  clear : (a : ℕ) → bit laid a ≡ 1 → Only s a h ts
  clear a o g n = let p = apart g n a in omega arith

  -- on an address of the lease there are only the tenant's own leases
  mine : (a : ℕ) → bit laid a ≡ 1 → count_on s a ts ≡ count_in s a (get_or ts h [])
  mine a o = own_count s a ts h there (clear a o)

  few_on : (a : ℕ) → bit laid a ≡ 1 → count_on s a ts ≤ 16
  few_on a o = let c = mine a o in let n = count_few s a (get_or ts h []) in omega arith

  entry_with : (a : ℕ) → a < 64 → entry_by (set ts h y) s a ≡ pick (is_in a (offsets laid)) (more_on h (entry_by ts s a)) (entry_by ts s a)
  unfolding entry_by more_on pick
  entry_with a small = go (eqb (bit laid a) 1) refl ∙ sym (ap (λ (b : Bool). pick b (more_on h (entry_by ts s a)) (entry_by ts s a)) (in_bit laid a small))
    where
      go : (b : Bool) → eqb (bit laid a) 1 ≡ b → entry_by (set ts h y) s a ≡ pick b (more_on h (entry_by ts s a)) (entry_by ts s a)
      go true e =
          let o = eqb-true (bit laid a) 1 e in
          ap₂ {C = Entry} (λ (o n : ℕ). record { owner = o; count = n }) (owner_with l h ts y there r s a o (clear a o))
          (let u = count_with l h ts y there r s a in let v = few_on a o in let c : count_on s a (set ts h y) ≡ min (count_on s a ts + 1) 255 = omega arith in c)
      go false e =
          let z : bit laid a ≡ 0 = (let n = eqb-false (bit laid a) 1 e in let q = bit_le laid a in omega arith) in
          ap₂ {C = Entry} (λ (o n : ℕ). record { owner = o; count = n }) (owner_stays l h ts y there r s a z)
          (let u = count_with l h ts y there r s a in let c : count_on s a (set ts h y) ≡ count_on s a ts = omega arith in c)

  -- the addresses of the lease without a lease are those that the tenant does not have
  fresh_is : (a : ℕ) → a < 64 → bit laid a ≡ 1 → eqb (entry_at was a).count 0 ≡ eqb (bit own a) 0
  unfolding entry_by
  fresh_is a small o = ap (λ (e : Entry). eqb e.count 0) (entry_said ts s a small) ∙ ap (λ (n : ℕ). eqb n 0) (mine a o) ∙ go (eqb (bit own a) 0) refl
    where
      go : (b : Bool) → eqb (bit own a) 0 ≡ b → eqb (count_in s a (get_or ts h [])) 0 ≡ b
      go true e = eq-eqb _ 0 (none_on s a (get_or ts h []) (eqb-true _ 0 e))
      go false e = ne_eqb _ 0 (λ z. eqb-false _ 0 e (some_on s a (get_or ts h []) z))

  -- so as many are added to what the tenant holds
  sizes : (at k : ℕ) → at + k ≤ 64 → length (offsets_from (bit_or laid own) at k) ≡ length (offsets_from own at k) + number_in (λ c. eqb c 0) was (offsets_from laid at k)
  unfolding offsets_from number_in pick
  sizes at zero q = refl
  sizes at (suc k) q = go (bit laid at) refl (bit own at) refl (bit (bit_or laid own) at) refl (sizes (suc at) k (omega arith))
    where
      go : (b : ℕ) → bit laid at ≡ b → (c : ℕ) → bit own at ≡ c → (d : ℕ) → bit (bit_or laid own) at ≡ d
          → length (offsets_from (bit_or laid own) (suc at) k) ≡ length (offsets_from own (suc at) k) + number_in (λ c. eqb c 0) was (offsets_from laid (suc at) k)
          → length (keep d at (offsets_from (bit_or laid own) (suc at) k)) ≡ length (keep c at (offsets_from own (suc at) k)) + number_in (λ c. eqb c 0) was (keep b at (offsets_from laid (suc at) k))
      go zero e zero f zero i ih = ih
      go zero e zero f (suc d) i ih = let o = or_bit laid own at in absurd (omega arith)
      go zero e (suc c) f zero i ih = let o = or_bit laid own at in absurd (omega arith)
      go zero e (suc c) f (suc d) i ih = omega arith
      go (suc b) e c f zero i ih = let o = or_bit laid own at in absurd (omega arith)
      go (suc b) e zero f (suc d) i ih =
          let u = bit_le laid at in
          let t : pick {A = ℕ} (eqb (entry_at was at).count 0) 1 0 ≡ 1 = ap (λ (b : Bool). pick {A = ℕ} b 1 0) (fresh_is at (omega arith) (omega arith) ∙ eq-eqb (bit own at) 0 f) in
          omega arith
      go (suc b) e (suc c) f (suc d) i ih =
          let u = bit_le laid at in
          let t : pick {A = ℕ} (eqb (entry_at was at).count 0) 1 0 ≡ 0 = ap (λ (b : Bool). pick {A = ℕ} b 1 0) (fresh_is at (omega arith) (omega arith) ∙ ne_eqb (bit own at) 0 (λ q. absurd (omega arith))) in
          omega arith

  held_more : held_count s y ≡ held_in was h + number_in (λ c. eqb c 0) was (offsets laid)
  held_more =
      ap (λ (m : ℕ). length (offsets m)) (held_with l h ts y there r s) ∙ sizes 0 64 (omega arith)
      ∙ ap (λ (n : ℕ). n + number_in (λ c. eqb c 0) was (offsets laid)) (sym (held_said ts s h there))

  held_fits : held_in was h + number_in (λ c. eqb c 0) was (offsets laid) ≤ 255
  held_fits = let u = held_more in let v = length_offsets (held_of s y) in omega arith

  inside : h < length was.held
  inside = let u = held_long ts s in omega arith

  scope_gained : scope_by (set ts h y) s ≡ fold (laid_on h) was (offsets laid)
  scope_gained =
      let n = fold_long (more_on h) grown h (offsets laid) was in
      ap₂ {C = ScopeBoard} (λ (e : List Entry) (n : List ℕ). record { entries = e; held = n })
      (ext_get_or no_entry _ _ (entries_long (set ts h y) s ∙ sym (n.0 ∙ entries_long ts s)) (λ a q. let p = entries_long (set ts h y) s in entries a (omega arith)))
      (ext_get_or 0 _ _ (helds_long ∙ sym (n.1 ∙ held_long ts s)) (λ g q. let p = helds_long in helds g (eqb g h) refl (omega arith)))
    where
      helds_long : length (scope_by (set ts h y) s).held ≡ length ts
      helds_long = held_long (set ts h y) s ∙ length-set ts h y

      entries : (a : ℕ) → a < 64 → entry_at (scope_by (set ts h y) s) a ≡ entry_at (fold (laid_on h) was (offsets laid)) a
      entries a small =
          entry_said (set ts h y) s a small ∙ entry_with a small
          ∙ sym (fold_entries (more_on h) grown h (offsets laid) 0 was (rises_offsets laid) (offsets_small laid) (entries_long ts s) a
          ∙ ap (λ (e : Entry). pick (is_in a (offsets laid)) (more_on h e) e) (entry_said ts s a small))

      helds : (g : ℕ) (b : Bool) → eqb g h ≡ b → g < length ts → held_in (scope_by (set ts h y) s) g ≡ held_in (fold (laid_on h) was (offsets laid)) g
      helds g true e q =
          let z : g ≡ h = eqb-true g h e in
          let n = length-set ts h y in
          ap (held_in (scope_by (set ts h y) s)) z ∙ held_said (set ts h y) s h (omega arith) ∙ ap (held_count s) (get_or-set_same ts h y [] there) ∙ held_more
          ∙ sym (laid_held h (offsets laid) 0 was (rises_offsets laid) inside held_fits) ∙ ap (held_in (fold (laid_on h) was (offsets laid))) (sym z)
      helds g false e q =
          let n = length-set ts h y in
          held_said (set ts h y) s g (omega arith) ∙ ap (held_count s) (get_or-set_other ts h g y [] (eqb-false g h e)) ∙ sym (held_said ts s g q)
          ∙ sym (fold_others (more_on h) grown h (offsets laid) was g (eqb-false g h e))

  -- ---- and the lease less
  free_at : (a : ℕ) → a < 64 → bit laid a ≡ 1 → Free h (entry_at was a)
  unfolding entry_by
  free_at a small o =
      let e = entry_said ts s a small in
      let c : (entry_at was a).count ≡ count_on s a ts = ap (λ (x : Entry). x.count) e in
      let w : (entry_at was a).owner ≡ owner_from 1 s a ts = ap (λ (x : Entry). x.owner) e in
      record {
        few = let f = few_on a o in omega arith;
        none = λ z. w ∙ owner_none s a ts (λ g. none g (eqb g h) refl (sym (mine a o) ∙ sym c ∙ z));
        mine = λ z. w ∙ owner_mine s a ts h there (clear a o) (one (λ x. z (c ∙ mine a o ∙ x)));
      }
    where
      none : (g : ℕ) (b : Bool) → eqb g h ≡ b → count_in s a (get_or ts h []) ≡ 0 → bit (held_of s (get_or ts g [])) a ≡ 0
      none g true p z = ap (λ (i : ℕ). bit (held_of s (get_or ts i [])) a) (eqb-true g h p) ∙ some_on s a (get_or ts h []) z
      none g false p z = clear a o g (eqb-false g h p)

      one : (count_in s a (get_or ts h []) ≡ 0 → ⊥) → bit own a ≡ 1
      one n = go (bit own a) refl (bit_le own a)
        where
          go : (b : ℕ) → bit own a ≡ b → b ≤ 1 → bit own a ≡ 1
          go zero p q = absurd (n (none_on s a (get_or ts h []) p))
          go (suc zero) p q = p
          go (suc (suc b)) p q = absurd (omega arith)

  scope_lost : scope_by ts s ≡ fold (lifted_off h) (scope_by (set ts h y) s) (offsets laid)
  scope_lost =
      sym (ap (λ (v : ScopeBoard). fold (lifted_off h) v (offsets laid)) scope_gained
      ∙ lifted_laid h (offsets laid) 0 was (rises_offsets laid) (offsets_small laid) (entries_long ts s) inside
      (λ x e. let small = in_small laid x e in free_at x small (eqb-true (bit laid x) 1 (sym (in_bit laid x small) ∙ e))) held_fits)

-- ---- the board
-- scope s, counted from 1, is said so, and no other otherwise than before
said_altered : (f : ScopeBoard → ℕ → ScopeBoard) (us ts : List (List Lease)) (h s m : ℕ) → h < 8 → 0 < s → s ≤ 4
    → scope_by ts s ≡ fold f (scope_by us s) (offsets m) → ((k : ℕ) → (s ≡ k → ⊥) → scope_by ts k ≡ scope_by us k) → board_of ts ≡ altered_by f (board_of us) h s m
unfolding board_of
said_altered f us ts h s m known some most here others =
    ap {B = Board} (λ (l : List ScopeBoard). record { scopes = l }) (go s some most here others)
    ∙ altered_in (s - 1) h s (place_scope h s known some) f (board_of us) m (scope_by us s) (fold f (scope_by us s) (offsets m)) (at s some most) refl (omega arith)
  where
    at : (s : ℕ) → 0 < s → s ≤ 4 → scope_by us s ≡ scope_board_at (board_of us) (s - 1)
    at zero p q = absurd (omega arith)
    at (suc zero) p q = refl
    at (suc (suc zero)) p q = refl
    at (suc (suc (suc zero))) p q = refl
    at (suc (suc (suc (suc zero)))) p q = refl
    at (suc (suc (suc (suc (suc s))))) p q = absurd (omega arith)

    four : {a b c d a' b' c' d' : ScopeBoard} → a ≡ a' → b ≡ b' → c ≡ c' → d ≡ d' → ◌≡◌ {A = List ScopeBoard} (a ∷ b ∷ c ∷ d ∷ []) (a' ∷ b' ∷ c' ∷ d' ∷ [])
    four p q r s = cc

    other : (s k : ℕ) → eqb s k ≡ false → ((k : ℕ) → (s ≡ k → ⊥) → scope_by ts k ≡ scope_by us k) → scope_by ts k ≡ scope_by us k
    other s k e f = f k (eqb-false s k e)

    go : (s : ℕ) → 0 < s → s ≤ 4 → scope_by ts s ≡ fold f (scope_by us s) (offsets m) → ((k : ℕ) → (s ≡ k → ⊥) → scope_by ts k ≡ scope_by us k)
        → (board_of ts).scopes ≡ set (board_of us).scopes (s - 1) (fold f (scope_by us s) (offsets m))
    go zero p q e o = absurd (omega arith)
    go (suc zero) p q e o = four e (other 1 2 refl o) (other 1 3 refl o) (other 1 4 refl o)
    go (suc (suc zero)) p q e o = four (other 2 1 refl o) e (other 2 3 refl o) (other 2 4 refl o)
    go (suc (suc (suc zero))) p q e o = four (other 3 1 refl o) (other 3 2 refl o) e (other 3 4 refl o)
    go (suc (suc (suc (suc zero)))) p q e o = four (other 4 1 refl o) (other 4 2 refl o) (other 4 3 refl o) e
    go (suc (suc (suc (suc (suc s))))) p q e o = absurd (omega arith)

-- the lease's addresses in its scope and in another
adds_in : (l : Lease) → adds (in_scope l.scope) l ≡ l.addresses
unfolding pick
adds_in l = ap (λ (b : Bool). pick b l.addresses 0) (eq-eqb l.scope l.scope refl)

adds_out : (l : Lease) (s : ℕ) → (l.scope ≡ s → ⊥) → offsets (adds (in_scope s) l) ≡ []
unfolding pick
adds_out l s n = ap (λ (b : Bool). offsets (pick b l.addresses 0)) (ne_eqb l.scope s n) ∙ offsets_of_zero 0 64

module _ (l : Lease) (h : ℕ) (ts : List (List Lease)) (y : List Lease) (there : h < length ts) (known : h < 8) (some : 0 < l.scope) (most : l.scope ≤ 4)
    (r : Reordered y (l ∷ get_or ts h [])) (few : length (get_or ts h []) ≤ 16)
    (apart : (g : ℕ) → (g ≡ h → ⊥) → (a : ℕ) → bit l.addresses a + bit (held_of l.scope (get_or ts g [])) a ≤ 1) where
  -- whatever the scope
  apart_in_law : (s g : ℕ) → (g ≡ h → ⊥) → (a : ℕ) → bit (adds (in_scope s) l) a + bit (held_of s (get_or ts g [])) a ≤ 1
  unfolding pick
  apart_in_law s g n a = go (eqb l.scope s) refl
    where
      go : (b : Bool) → eqb l.scope s ≡ b → bit (pick b l.addresses 0) a + bit (held_of s (get_or ts g [])) a ≤ 1
      go true e =
          let p = apart g n a in
          let z : bit (held_of l.scope (get_or ts g [])) a ≡ bit (held_of s (get_or ts g [])) a = ap (λ (i : ℕ). bit (held_of i (get_or ts g [])) a) (eqb-true l.scope s e) in
          omega arith
      go false e = let z = bit_of_zero a in let q = bit_le (held_of s (get_or ts g [])) a in omega arith

  gained : (s : ℕ) → scope_by (set ts h y) s ≡ fold (laid_on h) (scope_by ts s) (offsets (adds (in_scope s) l))
  gained s = scope_gained l h ts y there r few s (apart_in_law s)

  pub board_gained : board_of (set ts h y) ≡ board_with h (board_of ts) l
  unfolding board_with
  board_gained =
      said_altered (laid_on h) ts (set ts h y) h l.scope l.addresses known some most
      (gained l.scope ∙ ap (λ (m : ℕ). fold (laid_on h) (scope_by ts l.scope) (offsets m)) (adds_in l))
      (λ k n. gained k ∙ ap (fold (laid_on h) (scope_by ts k)) (adds_out l k n))

  lost : (s : ℕ) → scope_by ts s ≡ fold (lifted_off h) (scope_by (set ts h y) s) (offsets (adds (in_scope s) l))
  lost s = scope_lost l h ts y there r few s (apart_in_law s)

  pub board_lost : board_of ts ≡ board_without h (board_of (set ts h y)) l
  unfolding board_without
  board_lost =
      said_altered (lifted_off h) (set ts h y) ts h l.scope l.addresses known some most
      (lost l.scope ∙ ap (λ (m : ℕ). fold (lifted_off h) (scope_by (set ts h y) l.scope) (offsets m)) (adds_in l))
      (λ k n. lost k ∙ ap (fold (lifted_off h) (scope_by (set ts h y) k)) (adds_out l k n))

-- no lease, an empty board
pub empty_board : board_of (replicate 8 []) ≡ no_board
unfolding board_of scope_by entry_by owner_from count_on count_in addresses_of union_all filter_by up_to offsets_from bit pick
empty_board = refl
