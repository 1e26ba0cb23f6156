-- Laws: an entry that stands at a place of the octets, part by part, the order of two, and the walk over those of a section.
use Rattle.std.specs.Prelude.{Bool, ◌≡◌, eqb, ltb, drop, get_or, None, Option, Some}
use Rattle.std.specs.Cmp.Lexicographic.{slice_partial_cmp}
use Rattle.std.specs.Ordering.{MatchOrdering, is_lt, is_some_and, nat_cmp}
use Rattle.std.specs.declared.cmp.Ordering.{Ordering}
use Rattle.std.specs.declared.cmp.Ordering.TheVariants.{Equal, Greater, Less}
use Rattle.std.proofs.lemmas.Cmp.{ranked, same_from_slice_cmp_tested}
use Rattle.std.proofs.Math.Bool.{false, true}
use mathlib.Core.List.{List, [], ◌++◌, ◌∷◌, append_assoc}
use Rattle.std.proofs.Common.{◌∙◌, ap₂, length-append, length-drop, get_or-append-add, get_or-drop, lt-ltb, ne_eqb}
use Rattle.std.proofs.Math.Path.{ap, refl, subst, sym}
use Prim.Native.Nat.{◌+◌, ◌-◌, ◌<◌, ◌≤◌, ℕ}
use native.Mathlib.Omega.{arith}
use Rattle.std.proofs.Math.ListN.{length, take}
use Rattle.address_set.specs.AddressSet.{rises}
use Rattle.format.specs.Format.{Octets, counted, got, number, octet}
use Rattle.format.specs.Place.{Fails, Stands}
use Rattle.format.specs.Section.{IsAt}
use Rattle.format.specs.laws.Entries.{not_got}
use Rattle.format.specs.laws.Format.{plain}
use Rattle.format.specs.laws.Place.{as_nowhere, as_there, fails_first, fails_second, number_stands, octet_stands, octets_stand, only_fails, only_stands, stands_both, stands_to, viewed_none, viewed_stands}
use Rattle.format.specs.laws.Section.{SectionInv, entry_in, entry_is, section_broken, section_done, section_from, section_next, section_none, section_start, section_wrong}
use Rattle.identifier.specs.Order.{order_of}
use Rattle.lists.specs.Pick.{pick}
use Rattle.lists.specs.laws.Pick.{pick_lt, pick_not_lt}
use Rattle.octets.specs.Octets.{at32, octets32}
use Rattle.lease_file.specs.Place.{EntryEndsAt, SectionEndsAt, after_entry, after_lease, entry_at, file_lease_at, tail_of}
use Rattle.lease_file.specs.Section.{Entry, FileLease, entry_after, entry_format, entry_key, is_after, lease_format, lease_in, lease_key, of_parts, to_parts}
use Rattle.lease_file.specs.laws.Section.{hold_lawful, lease_lawful}

-- what the octets of a lease say of its lengths, with n octets behind it
record Shape (s : List ℕ) (at : ℕ) (x : FileLease) (n : ℕ) : Type 0 where
  long : length s - at ≡ length x.id + 17 + length x.offsets + n
  ids : get_or s (at + 2) 0 ≡ length x.id
  count : get_or s (at + (length x.id + 16)) 0 ≡ length x.offsets

shape : (s : List ℕ) (at : ℕ) (x : FileLease) (r : List ℕ) → drop at s ≡ lease_format.write x ++ r → Shape s at x (length r)
shape s at x r e =
    let front : List ℕ = x.tenant ∷ x.scope ∷ length x.id ∷ x.id in
    let back : List ℕ = x.kind ∷ octets32 x.xid ++ octets32 x.start ++ octets32 x.end ++ (length x.offsets ∷ x.offsets) in
    let q : drop at s ≡ (front ++ back) ++ r = e ∙ simp plain in
    let a : drop at s ≡ front ++ (back ++ r) = q ∙ append_assoc front back r in
    record {
      long = sym (length-drop at s) ∙ ap length q ∙ simp length-append (omega arith);
      ids = sym (get_or-drop at s 2 0) ∙ ap (λ (l : List ℕ). get_or l 2 0) a;
      count =
          sym (get_or-drop at s (length x.id + 16) 0) ∙ ap (λ (l : List ℕ). get_or l (length x.id + 16) 0) a
          ∙ ap (λ (n : ℕ). get_or (front ++ (back ++ r)) n 0) (let k : length x.id + 16 ≡ length front + 13 = omega arith in k)
          ∙ get_or-append-add front (back ++ r) 13 0;
    }

entry_shape : (holds : Bool) (s : List ℕ) (at : ℕ) (x : Entry holds) (r : List ℕ) → Octets (drop at s) → (entry_format holds).read (drop at s) ≡ got x r → Shape s at (lease_in holds x) (tail_of holds + length r)
unfolding entry_format lease_in tail_of pick
entry_shape true s at x r o e =
    subst (Shape s at x.lease) (let g : length (octets32 x.lapse ++ r) ≡ 4 + length r = omega arith in g)
    (shape s at x.lease (octets32 x.lapse ++ r) ((hold_lawful.reads (drop at s) x r o e).1 ∙ append_assoc (lease_format.write x.lease) (octets32 x.lapse) r))
entry_shape false s at x r o e = subst (Shape s at x) (let g : length r ≡ 0 + length r = omega arith in g) (shape s at x r (lease_lawful.reads (drop at s) x r o e).1)

none : (holds : Bool) {s : List ℕ} {at : ℕ} → Fails (entry_format holds) s at → EntryEndsAt holds s at None
unfolding IsAt
none holds p = record { is = record { ends = as_nowhere p; there = tt } }

short : (holds : Bool) (s : List ℕ) (at : ℕ) → Octets s → ((x : FileLease) (n : ℕ) → Shape s at x (tail_of holds + n) → ⊥) → EntryEndsAt holds s at None
short holds s at o h =
    none holds (record {
      reads = not_got ((entry_format holds).read (drop at s)) (λ x r e. h (lease_in holds x) (length r) (entry_shape holds s at x r (λ i. subst (λ (n : ℕ). n < 256) (sym (get_or-drop at s i 0)) (o (at + i))) e));
    })

pub entry_short_1 : (holds : Bool) (s : List ℕ) (at : ℕ) → Octets s → length s - at < 3 → EntryEndsAt holds s at None
entry_short_1 holds s at o h = short holds s at o (λ x r v. let l = v.long in omega arith)

pub entry_short_2 : (holds : Bool) (s : List ℕ) (at n : ℕ) → Octets s → n ≡ get_or s (at + 2) 0 → length s - at < n + 17 → EntryEndsAt holds s at None
entry_short_2 holds s at n o e h = short holds s at o (λ x r v. let l = v.long in let i = v.ids in omega arith)

pub entry_short_3 : (holds : Bool) (s : List ℕ) (at n k z : ℕ) → Octets s → n ≡ get_or s (at + 2) 0 → k ≡ get_or s (at + (n + 16)) 0 → z ≡ tail_of holds → length s - at < n + 17 + k + z → EntryEndsAt holds s at None
entry_short_3 holds s at n k z o e f g h =
    short holds s at o (λ x r v.
    let l = v.long in let i = v.ids in
    let c : k ≡ length x.offsets = f ∙ ap (λ (z : ℕ). get_or s (at + (z + 16)) 0) (e ∙ i) ∙ v.count in
    omega arith)

pub next_at : (s : List ℕ) (at n k : ℕ) → n ≡ get_or s (at + 2) 0 → k ≡ get_or s (at + (n + 16)) 0 → at + (n + 17 + k) ≡ after_lease s at
next_at s at n k en ek = ap₂ (λ (x y : ℕ). at + (x + 17 + y)) en (ek ∙ ap (λ (z : ℕ). get_or s (at + (z + 16)) 0) en)

pub entry_next : (holds : Bool) (s : List ℕ) (at n k z : ℕ) → n ≡ get_or s (at + 2) 0 → k ≡ get_or s (at + (n + 16)) 0 → z ≡ tail_of holds → at + (n + 17 + k) + z ≡ after_entry holds s at
entry_next holds s at n k z en ek ez = ap₂ (λ (x y : ℕ). x + y) (next_at s at n k en ek) ez

-- the parts of a lease one after the other
module _ (s : List ℕ) (at n k : ℕ) (en : n ≡ get_or s (at + 2) 0) (ek : k ≡ get_or s (at + (n + 16)) 0) (h : n + 17 + k ≤ length s - at) (a : at ≤ length s) where
  octet_to : (i : ℕ) {m : ℕ} → m ≡ i + 1 → i < length s → Stands octet s i (get_or s i 0) m
  octet_to i e l = stands_to (sym e) (octet_stands s i l)

  number_to : (i : ℕ) {m : ℕ} → m ≡ i + 4 → i + 4 ≤ length s → Stands number s i (at32 s i) m
  number_to i e l = stands_to (sym e) (number_stands s i l)

  octets_to : (i p m j : ℕ) → j ≡ get_or s i 0 → p ≡ i + 1 → m ≡ p + j → m ≤ length s → Stands (counted octet) s i (take j (drop p s)) m
  octets_to i p m j e ep em l =
      subst (λ (q : ℕ). Stands (counted octet) s i (take j (drop q s)) m) (sym ep)
      (stands_to (let g : i + 1 + j ≡ m = omega arith in g) (octets_stand s i j (omega arith) e (omega arith)))

  offsets_stand : Stands (counted octet) s (at + (n + 16)) (take k (drop (at + (n + 17)) s)) (at + (n + 17 + k))
  offsets_stand = octets_to (at + (n + 16)) (at + (n + 17)) (at + (n + 17 + k)) k ek (omega arith) (omega arith) (omega arith)

  lease_stands : true ≡ rises (take k (drop (at + (n + 17)) s)) → Stands lease_format s at (file_lease_at s at) (after_lease s at)
  unfolding file_lease_at
  lease_stands e =
      let st =
      viewed_stands
      (stands_both _ (octet_to at {m = at + 1} refl (omega arith))
      (stands_both _ (octet_to (at + 1) {m = at + 2} (omega arith) (omega arith))
      (stands_both _ (octets_to (at + 2) (at + 3) (at + (n + 3)) n en (omega arith) (omega arith) (omega arith))
      (stands_both _ (octet_to (at + (n + 3)) {m = at + (n + 4)} (omega arith) (omega arith))
      (stands_both _ (number_to (at + (n + 4)) {m = at + (n + 8)} (omega arith) (omega arith))
      (stands_both _ (number_to (at + (n + 8)) {m = at + (n + 12)} (omega arith) (omega arith))
      (stands_both _ (number_to (at + (n + 12)) {m = at + (n + 16)} (omega arith) (omega arith))
      (only_stands offsets_stand rises (sym e)))))))))
      of_parts to_parts in
      record { reads = rw (← en, ← ek) st.reads }

  lease_fails : false ≡ rises (take k (drop (at + (n + 17)) s)) → Fails lease_format s at
  lease_fails e =
      viewed_none
      (fails_second _ (octet_to at {m = at + 1} refl (omega arith))
      (fails_second _ (octet_to (at + 1) {m = at + 2} (omega arith) (omega arith))
      (fails_second _ (octets_to (at + 2) (at + 3) (at + (n + 3)) n en (omega arith) (omega arith) (omega arith))
      (fails_second _ (octet_to (at + (n + 3)) {m = at + (n + 4)} (omega arith) (omega arith))
      (fails_second _ (number_to (at + (n + 4)) {m = at + (n + 8)} (omega arith) (omega arith))
      (fails_second _ (number_to (at + (n + 8)) {m = at + (n + 12)} (omega arith) (omega arith))
      (fails_second _ (number_to (at + (n + 12)) {m = at + (n + 16)} (omega arith) (omega arith))
      (only_fails offsets_stand rises (sym e)))))))))
      of_parts to_parts

  -- the offsets as they are cut out
  part : rises (take (at + (n + 17) + k - (at + (n + 17))) (drop (at + (n + 17)) s)) ≡ rises (take k (drop (at + (n + 17)) s))
  part = ap (λ (x : ℕ). rises (take x (drop (at + (n + 17)) s))) (let q : at + (n + 17) + k - (at + (n + 17)) ≡ k = omega arith in q)

  pub entry_falls : (holds : Bool) → false ≡ rises (take (at + (n + 17) + k - (at + (n + 17))) (drop (at + (n + 17)) s)) → EntryEndsAt holds s at None
  unfolding entry_format
  entry_falls holds e = none holds (fails holds)
    where
      fails : (holds : Bool) → Fails (entry_format holds) s at
      fails true = viewed_none (fails_first number (lease_fails (e ∙ part))) _ _
      fails false = lease_fails (e ∙ part)

  -- with a hold's lapse behind them
  module _ (holds : Bool) (z : ℕ) (ez : z ≡ tail_of holds) (long : n + 17 + k + z ≤ length s - at) where
    there : at + (n + 17 + k + z) ≡ after_entry holds s at
    there = let e = next_at s at n k en ek in let g : at + (n + 17 + k + z) ≡ after_lease s at + tail_of holds = omega arith in g

    pub entry_rises : true ≡ rises (take (at + (n + 17) + k - (at + (n + 17))) (drop (at + (n + 17)) s)) → EntryEndsAt holds s at (Some (at + (n + 17 + k + z)))
    unfolding IsAt entry_format entry_at tail_of pick
    entry_rises e = record { is = record { ends = as_there (stands_to (sym there) (stands holds (let g = there in omega arith))) (omega arith) (omega arith); there = there } }
      where
        stands : (holds : Bool) → after_entry holds s at ≤ length s → Stands (entry_format holds) s at (entry_at holds s at) (after_entry holds s at)
        stands true l = viewed_stands (stands_both _ (lease_stands (e ∙ part)) (number_stands s (after_lease s at) l)) _ _
        stands false l = stands_to (let g : after_lease s at ≡ after_lease s at + 0 = omega arith in g) (lease_stands (e ∙ part))

-- the order of two entries
octets_before : (xs ys : List ℕ) (r : Bool) → r ≡ is_some_and is_lt (slice_partial_cmp (λ x y. Some (nat_cmp x y)) xs ys) → r ≡ eqb (order_of ys xs) 2
unfolding order_of
octets_before = same_from_slice_cmp_tested nat_cmp is_lt (λ xs ys. eqb (order_of ys xs) 2) refl (λ y ys. refl) (λ x xs. refl) (λ x y xs ys o e. go x y xs ys o (ranked x y o e))
  where
    go : (x y : ℕ) (xs ys : List ℕ) (o : Ordering) → MatchOrdering o (x < y) (x ≡ y) (y < x)
        → MatchOrdering o (eqb (order_of (y ∷ ys) (x ∷ xs)) 2 ≡ true) (eqb (order_of (y ∷ ys) (x ∷ xs)) 2 ≡ eqb (order_of ys xs) 2) (eqb (order_of (y ∷ ys) (x ∷ xs)) 2 ≡ false)
    go x y xs ys Less h = sym (ap (λ (k : ℕ). eqb k 2) (pick_not_lt _ _ _ y x (omega arith) (pick_lt _ _ _ x y h refl)))
    go x y xs ys Equal h = sym (ap (λ (k : ℕ). eqb k 2) (pick_not_lt _ _ (order_of ys xs) y x (omega arith) (pick_not_lt _ _ _ x y (omega arith) refl)))
    go x y xs ys Greater h = sym (ap (λ (k : ℕ). eqb k 2) (pick_lt _ _ _ y x h refl))

module _ (t u : ℕ) (a b : List ℕ) where
  pub after_more : u < t → ltb u t ≡ is_after t a u b
  unfolding is_after
  after_more h = lt-ltb u t h ∙ pick_not_lt _ _ _ t u (omega arith) (pick_lt _ _ _ u t h refl)

  pub after_less : t ≤ u → (u ≡ t → ⊥) → eqb u t ≡ is_after t a u b
  unfolding is_after
  after_less h n = ne_eqb u t n ∙ pick_lt _ _ _ t u (omega arith) refl

  after_same : (r : Bool) → t ≤ u → u ≡ t → r ≡ eqb (order_of a b) 2 → r ≡ is_after t a u b
  unfolding is_after
  after_same r h e p = pick_not_lt _ _ _ t u (omega arith) (pick_not_lt _ _ _ u t (omega arith) p)

pub after_told : (t u : ℕ) (a b x : List ℕ) (r : Bool) → t ≤ u → u ≡ t → x ≡ b → r ≡ is_some_and is_lt (slice_partial_cmp (λ x y. Some (nat_cmp x y)) x a) → r ≡ is_after t a u b
after_told t u a b x r h e f p = after_same t u a b r h e (octets_before x a r p ∙ ap (λ (l : List ℕ). eqb (order_of a l) 2) f)

-- ---- the loop over the entries of the section at a place, with the identifier before
pub lease_of_law : (holds : Bool) (s : List ℕ) (at : ℕ) → lease_in holds (entry_at holds s at) ≡ file_lease_at s at
unfolding lease_in entry_at
lease_of_law true s at = refl
lease_of_law false s at = refl

pub record EntriesInv (holds : Bool) (s : List ℕ) (at count here i tenant : ℕ) (id : List ℕ) : Type 0 where
  pub many : count ≡ get_or s at 0
  pub start : at < length s
  pub inv : SectionInv (entry_key holds) (entry_after holds) (entry_format holds) (entry_at holds) (after_entry holds) s (0, []) (at + 1) count here i (tenant, id)

pub entries_none : {holds : Bool} {s : List ℕ} {at : ℕ} → length s ≤ at → SectionEndsAt holds s at None
entries_none h = record { is = section_none h }

pub entries_start : {holds : Bool} {s : List ℕ} {at count : ℕ} → at < length s → count ≡ get_or s at 0 → EntriesInv holds s at count (at + 1) 0 0 []
entries_start h e = record { many = e; start = h; inv = section_start (omega arith) }

pub lease_in_law : {holds : Bool} {s : List ℕ} {at n : ℕ} {r : Option ℕ} → EntryEndsAt holds s at r → r ≡ Some n → after_lease s at ≤ length s
lease_in_law w e = let l = entry_in (entry_is w.is e) in omega arith

module _ {holds : Bool} {s : List ℕ} {at count here i tenant : ℕ} {id : List ℕ} (v : EntriesInv holds s at count here i tenant id) where
  pub entries_inside : here ≤ length s
  entries_inside = v.inv.inside

  pub entries_done : count ≤ i → SectionEndsAt holds s at (Some here)
  entries_done h = record { is = section_from v.start v.many (section_done v.inv h) }

  module _ {r : Option ℕ} (h : i < count) (w : EntryEndsAt holds s here r) where
    pub entries_broken : r ≡ None → SectionEndsAt holds s at None
    entries_broken e = record { is = section_from v.start v.many (section_broken v.inv h (entry_is w.is e)) }

    module _ {next : ℕ} (e : r ≡ Some next) {q : Bool} (eq : q ≡ is_after tenant id (get_or s here 0) (take (get_or s (here + 2) 0) (drop (here + 3) s))) where
      after_is : entry_after holds (tenant, id) (entry_at holds s here) ≡ q
      unfolding file_lease_at
      after_is = ap (λ (x : FileLease). is_after tenant id x.tenant x.id) (lease_of_law holds s here) ∙ sym eq

      pub entries_after : q ≡ true → SectionEndsAt holds s at None
      entries_after t = record { is = section_from v.start v.many (section_wrong v.inv h (entry_is w.is e) (after_is ∙ t)) }

      pub entries_next : {n : List ℕ} → q ≡ false → n ≡ take (get_or s (here + 2) 0) (drop (here + 3) s) → EntriesInv holds s at count next (i + 1) (get_or s here 0) n
      unfolding file_lease_at
      entries_next t en = record {
        many = v.many;
        start = v.start;
        inv = subst (λ (k : ℕ × List ℕ). SectionInv (entry_key holds) (entry_after holds) (entry_format holds) (entry_at holds) (after_entry holds) s (0, []) (at + 1) count next (i + 1) k)
            (ap lease_key (lease_of_law holds s here) ∙ ap {B = ℕ × List ℕ} (λ (m : List ℕ). (get_or s here 0, m)) (sym en))
            (section_next v.inv h (entry_is w.is e) (after_is ∙ t));
      }

pub ruleset entry_walk = (entries_none, entries_start, entries_inside, lease_in_law, entries_broken, entries_after, entries_next, entries_done)

-- a hold has its lapse behind it
pub tail_four : (holds : Bool) → holds ≡ true → tail_of holds ≡ 4
unfolding tail_of pick
tail_four holds e = ap tail_of e
