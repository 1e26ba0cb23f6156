-- Laws: what keeps the rules on what is remembered: each kind of edit.
use Rattle.std.specs.Prelude.{Option, None, Some, IfSome, Bool, false, not, ◌&&◌, ◌||◌, ◌≡◌, leb, ltb, get_or, drop, replicate}
use Rattle.std.specs.Option.{option_map_or}
use Prim.Native.Nat.{ℕ, zero, suc, ◌-◌, ◌≤◌, ◌<◌}
use Rattle.std.proofs.Math.Bool.{true}
use mathlib.Core.List.{List, [], ◌∷◌, ◌++◌}
use Rattle.std.proofs.Math.Path.{refl, ap}
use Rattle.std.proofs.Common.{sym, ◌∙◌, subst, arith, length-drop, length-set, drop_at, get_or-set_other, get_or-set_same}
use Rattle.std.proofs.Math.Dec.{eqb}
use Rattle.std.proofs.Math.ListN.{length, length-take}
use borrow.Author.Tests.{eqb-false, eqb-true, le-leb, leb-true, lt-ltb}
use Rattle.lists.specs.Pick.{pick}
use Rattle.lists.specs.All.{all_by, pairs_by}
use Rattle.lists.specs.laws.All.{all_head, all_cons, all_both, all_append, pairs_head, pairs_append}
use Rattle.lists.specs.laws.Both.{and_both, and_parts}
use Rattle.lists.specs.Filter.{filter_by}
use Rattle.lists.specs.laws.Filter.{filter_all, filter_length, filter_pairs, filter_passes}
use Rattle.lists.specs.laws.Reordered.{reordered_all}
use Rattle.identifier.specs.Order.{same_of}
use Rattle.state.specs.declared.Edit.{Edit}
use Rattle.state.specs.declared.Lease.{Lease}
use Rattle.state.specs.declared.LeaseTable.{LeaseTable}
use Rattle.state.specs.declared.Memory.{Memory}
use Rattle.state.specs.declared.Release.{Release}
use Rattle.state.specs.declared.TenantLeases.{TenantLeases}
use Rattle.state.specs.declared.TenantReleases.{TenantReleases}
use Rattle.state.specs.Book.{Book, differ, id_of, in_use, insert_of, inserted_in, is_hold, laid_out, laid_releases, lease_at, lease_with, other, other_release, release_id, releases_at, remembered, remove_of, tenant_at, zero_lease, zero_release, inserted_by}
use Rattle.state.specs.laws.Edit.{applied}
use Rattle.state.specs.Edit.{dropping_first, edited_book, edited_in, entering, forget_of, giving_way, leaving, left_in, no_edit, noted, noted_in, release_of, remember_of, applied_by, edited_by}
use Rattle.state.specs.laws.Edited.{applied_others, edited_none}
use Rattle.state.specs.laws.Layout.{read_back, releases_back}
use Rattle.state.specs.laws.Sorted.{differ_turn, insert_same}
use Rattle.soundness.specs.Sound.{id_b, padded_b, tenants_in, zero_from}
use Rattle.releases.specs.Rules.{differs, few_b, filled_b, tenant_b, laid_b, own_leases, length_b, not_leased, older, once_b, past_b, rules_at, unused_r}
use Rattle.releases.specs.Whole.{memory_good}
use Rattle.releases.specs.laws.Tenants.{Holds, each_memory, memory_each}

-- ---- what every edit keeps
pub noted_count : (e : Edit) (h : ℕ) (m : Memory) → length (noted e h m).releases ≡ length m.releases
unfolding noted
noted_count e h m = length-set m.releases h (noted_in e (releases_at m h))

pub noted_other : (e : Edit) (h g : ℕ) (m : Memory) → (g ≡ h → ⊥) → releases_at (noted e h m) g ≡ releases_at m g
unfolding noted
noted_other e h g m n = get_or-set_other m.releases h g (noted_in e (releases_at m h)) (laid_releases []) n

pub noted_own : (e : Edit) (h : ℕ) (m : Memory) → h < length m.releases → releases_at (noted e h m) h ≡ noted_in e (releases_at m h)
unfolding noted
noted_own e h m p = get_or-set_same m.releases h (noted_in e (releases_at m h)) (laid_releases []) p

applied_own : (e : Edit) (h : ℕ) (t : LeaseTable) → h < length t.tenants → tenant_at (applied e h t) h ≡ edited_in e (tenant_at t h)
unfolding applied_by
applied_own e h t p = get_or-set_same t.tenants h (edited_in e (tenant_at t h)) (laid_out []) p

-- ---- lists
all_drop : {A : Type 0} (t : A → Bool) (k : ℕ) (l : List A) → all_by t l ≡ true → all_by t (drop k l) ≡ true
all_drop t zero l h = h
all_drop t (suc k) [] h = h
all_drop t (suc k) (x ∷ l) h = all_drop t k l (all_head t x l h).1

pairs_drop : {A : Type 0} (t : A → A → Bool) (k : ℕ) (l : List A) → pairs_by t l ≡ true → pairs_by t (drop k l) ≡ true
pairs_drop t zero l h = h
pairs_drop t (suc k) [] h = h
pairs_drop t (suc k) (x ∷ l) h = pairs_drop t k l (pairs_head t x l h).1

all_at : {A : Type 0} (t : A → Bool) (d : A) (l : List A) (k : ℕ) → k < length l → all_by t l ≡ true → t (get_or l k d) ≡ true
all_at t d [] k p h = absurd (omega arith)
all_at t d (x ∷ l) zero p h = (all_head t x l h).0
all_at t d (x ∷ l) (suc k) p h = all_at t d l k (omega arith) (all_head t x l h).1

one : {A : Type 0} (t : A → Bool) (x : A) → t x ≡ true → all_by t (x ∷ []) ≡ true
unfolding all_by
one t x h = all_cons t x [] h refl

-- an identifier on a lease and one that is remembered differ, whichever is named first
turned : (r : Release) (l : Lease) → other_release (id_of l) r ≡ other (release_id r) l
unfolding differ
turned r l = differ_turn (lease_with 0 r.id_len r.id 0 0 0 0 0) l

-- ---- what is remembered of one tenant, as a list
pub record Good (clock : ℕ) (ls : List Lease) (q : List Release) : Type 0 where
  pub few : length q ≤ 4
  pub lengths : all_by length_b q ≡ true
  pub apart : pairs_by differs q ≡ true
  pub free : all_by (not_leased ls) q ≡ true
  pub times : all_by (past_b clock) q ≡ true
  pub order : pairs_by older q ≡ true
  pub filled : all_by filled_b q ≡ true

module _ (n clock h : ℕ) (ls : List Lease) where
  good_of : (q : TenantReleases) → Holds (rules_at n clock h ls q) → Good clock ls (remembered q)
  unfolding rules_at few_b once_b laid_b
  good_of q v =
      let o = and_parts (pairs_by differs (remembered q)) (all_by (not_leased ls) (remembered q)) v.once in
      let l = and_parts (pairs_by older (remembered q)) (all_by filled_b (remembered q) && all_by unused_r (drop q.count q.releases)) v.layout in
      let f = and_parts (all_by filled_b (remembered q)) (all_by unused_r (drop q.count q.releases)) l.1 in
      let k = leb-true q.count 4 v.few in
      let m = length-take q.count q.releases in
      record { few = omega arith; lengths = v.lengths; apart = o.0; free = o.1; times = v.times; order = l.0; filled = f.0 }

  unused_zeros : (k : ℕ) → all_by unused_r (replicate k zero_release) ≡ true
  unfolding all_by unused_r zero_from pick
  unused_zeros zero = refl
  unused_zeros (suc k) = all_cons unused_r zero_release (replicate k zero_release) blank (unused_zeros k)
    where
      blank : unused_r zero_release ≡ true
      blank = refl

  laid_holds : (p : List Release) → h < n → Good clock ls p → Holds (rules_at n clock h ls (laid_releases p))
  unfolding rules_at tenant_b few_b once_b laid_b laid_releases
  laid_holds p g v =
      let e = releases_back p in
      record {
        tenants = ap (λ (b : Bool). b || eqb (length p) 0) (lt-ltb h n g);
        few = le-leb (length p) 4 v.few;
        lengths = ap (all_by length_b) e ∙ v.lengths;
        once = and_both (ap (pairs_by differs) e ∙ v.apart) (ap (all_by (not_leased ls)) e ∙ v.free);
        times = ap (all_by (past_b clock)) e ∙ v.times;
        layout =
            and_both (ap (pairs_by older) e ∙ v.order)
            (and_both (ap (all_by filled_b) e ∙ v.filled) (ap (all_by unused_r) (drop_at p (replicate (4 - length p) zero_release) (length p) refl) ∙ unused_zeros (4 - length p)));
      }

  -- with other leases
  leased_holds : (ls' : List Lease) (q : TenantReleases) → all_by (not_leased ls') (remembered q) ≡ true → Holds (rules_at n clock h ls q) → Holds (rules_at n clock h ls' q)
  unfolding rules_at once_b
  leased_holds ls' q f v =
      let o = and_parts (pairs_by differs (remembered q)) (all_by (not_leased ls) (remembered q)) v.once in
      record { tenants = v.tenants; few = v.few; lengths = v.lengths; once = and_both o.0 f; times = v.times; layout = v.layout }

leased_good : (clock : ℕ) (ls ls' : List Lease) (q : List Release) → ((r : Release) → not_leased ls r ≡ true → not_leased ls' r ≡ true) → Good clock ls q → Good clock ls' q
leased_good clock ls ls' q f v = record {
  few = v.few;
  lengths = v.lengths;
  apart = v.apart;
  free = all_both (not_leased ls) (not_leased ls) (not_leased ls') q (λ r p p'. f r p) v.free v.free;
  times = v.times;
  order = v.order;
  filled = v.filled;
}

-- those of other identifiers are left, and none has this one
pub forget_good : (clock : ℕ) (ls ls' : List Lease) (i : List ℕ) (q : List Release)
    → ((r : Release) → other_release i r ≡ true → not_leased ls r ≡ true → not_leased ls' r ≡ true) → Good clock ls q → Good clock ls' (forget_of i q)
unfolding forget_of
forget_good clock ls ls' i q f v =
    let u : Release → Bool = other_release i in
    let k = filter_length u q in
    let g = v.few in
    record {
      few = omega arith;
      lengths = filter_all length_b u q v.lengths;
      apart = filter_pairs differs u q v.apart;
      free = all_both u (not_leased ls) (not_leased ls') (filter_by u q) f (filter_passes u q) (filter_all (not_leased ls) u q v.free);
      times = filter_all (past_b clock) u q v.times;
      order = filter_pairs older u q v.order;
      filled = filter_all filled_b u q v.filled;
    }

-- one more of an identifier that none has, with the clock as its time
pub remember_good : (clock : ℕ) (ls : List Lease) (r : Release) (q : List Release) → length_b r ≡ true → filled_b r ≡ true → r.time ≡ clock → not_leased ls r ≡ true
    → all_by (λ a. differs a r) q ≡ true → Good clock ls q → Good clock ls (remember_of r q)
unfolding remember_of past_b older pairs_by pick all_by
remember_good clock ls r q len fill now free new v =
    let l : List Release = q ++ r ∷ [] in
    let k : ℕ = length l - 4 in
    let j = length-drop k l in
    record {
      few = omega arith;
      lengths = all_drop length_b k l (all_append length_b q (r ∷ []) v.lengths (one length_b r len));
      apart = pairs_drop differs k l (pairs_append differs q (r ∷ []) v.apart (alone differs) (with_last differs new));
      free = all_drop (not_leased ls) k l (all_append (not_leased ls) q (r ∷ []) v.free (one (not_leased ls) r free));
      times = all_drop (past_b clock) k l (all_append (past_b clock) q (r ∷ []) v.times (one (past_b clock) r (le-leb r.time clock (omega arith))));
      order = pairs_drop older k l (pairs_append older q (r ∷ []) v.order (alone older) (with_last older (all_both (past_b clock) (past_b clock) (λ a. older a r) q (λ a p p'. past a p) v.times v.times)));
      filled = all_drop filled_b k l (all_append filled_b q (r ∷ []) v.filled (one filled_b r fill));
    }
  where
    alone : (t : Release → Release → Bool) → pairs_by t (r ∷ []) ≡ true
    alone t = refl

    past : (a : Release) → leb a.time clock ≡ true → leb a.time r.time ≡ true
    past a p = le-leb a.time r.time (let g = leb-true a.time clock p in omega arith)

    with_last : (t : Release → Release → Bool) → all_by (λ a. t a r) q ≡ true → all_by (λ a. all_by (t a) (r ∷ [])) q ≡ true
    with_last t p = all_both (λ a. t a r) (λ a. t a r) (λ a. all_by (t a) (r ∷ [])) q (λ a x y. one (t a) r x) p p

-- ---- the leases after an edit: those that were there, and the new one
edited_all : (u : Lease → Bool) (e : Edit) (t : TenantLeases) → IfSome e.enters (λ l. u l ≡ true) → all_by u (in_use t) ≡ true → all_by u (in_use (edited_in e t)) ≡ true
unfolding edited_by left_in inserted_by pick remove_of
edited_all u e t new h = enter e.enters new (left_in e t) (leave e.leaves)
  where
    laid : (l : List Lease) → all_by u l ≡ true → all_by u (in_use (laid_out l)) ≡ true
    laid l p = ap (all_by u) (read_back l) ∙ p

    leave : (c : Option Lease) → all_by u (in_use (option_map_or (λ x. laid_out (remove_of (id_of x) (in_use t))) c t)) ≡ true
    leave (Some x) = laid (remove_of (id_of x) (in_use t)) (filter_all u (other (id_of x)) (in_use t) h)
    leave None = h

    inserted : (l : Lease) → u l ≡ true → (c : Bool) (x : TenantLeases) → all_by u (in_use x) ≡ true → all_by u (in_use (pick c (laid_out (insert_of l (in_use x))) x)) ≡ true
    inserted l n true x p = laid (insert_of l (in_use x)) (reordered_all u (insert_same l (in_use x)) ∙ all_cons u l (in_use x) n p)
    inserted l n false x p = p

    enter : (c : Option Lease) → IfSome c (λ l. u l ≡ true) → (x : TenantLeases) → all_by u (in_use x) ≡ true → all_by u (in_use (option_map_or (λ l. inserted_in l x) c x)) ≡ true
    enter (Some l) n x p = inserted l n (ltb (length (in_use x)) 16) x p
    enter None n x p = p

left_is : (o : Lease) (x c : ℕ) (t : TenantLeases) → in_use (edited_in (leaving o x c) t) ≡ remove_of (id_of o) (in_use t)
unfolding edited_by left_in pick
left_is o x c t = read_back (remove_of (id_of o) (in_use t))

-- ---- the book
abbrev HoldsAt : Book → ℕ → List Lease → TenantReleases → Type 0
HoldsAt b g ls q = Holds (rules_at (tenants_in b.state) b.state.clock g ls q)

pub none_kept : (b : Book) (h : ℕ) → memory_good b ≡ true → memory_good (edited_book no_edit h b) ≡ true
none_kept b h v = ap memory_good (edited_none b h) ∙ v

module _ (b : Book) (h : ℕ) (known : h < tenants_in b.state) (there : h < length b.table.tenants) (eight : length b.memory.releases ≡ 8) (good : memory_good b ≡ true) where
  -- the other tenants keep their rules
  edited_kept : (e : Edit) → HoldsAt b h (in_use (edited_in e (tenant_at b.table h))) (noted_in e (releases_at b.memory h)) → memory_good (edited_book e h b) ≡ true
  edited_kept e v = each_memory b.state (applied e h b.table) (noted e h b.memory) (λ g p. go g p (eqb g h) refl)
    where
      go : (g : ℕ) → g < 8 → (c : Bool) → eqb g h ≡ c → HoldsAt b g (own_leases (applied e h b.table) g) (releases_at (noted e h b.memory) g)
      go g p true q =
          subst (λ (k : ℕ). HoldsAt b k (own_leases (applied e h b.table) k) (releases_at (noted e h b.memory) k)) (sym (eqb-true g h q))
          (subst (λ (x : TenantReleases). HoldsAt b h (own_leases (applied e h b.table) h) x) (sym (noted_own e h b.memory (omega arith)))
          (subst (λ (x : TenantLeases). HoldsAt b h (in_use x) (noted_in e (releases_at b.memory h))) (sym (applied_own e h b.table there)) v))
      go g p false q =
          let d = eqb-false g h q in
          subst (λ (x : TenantReleases). HoldsAt b g (own_leases (applied e h b.table) g) x) (sym (noted_other e h g b.memory d))
          (subst (λ (x : TenantLeases). HoldsAt b g (in_use x) (releases_at b.memory g)) (sym (applied_others e h g b.table d)) (memory_each b.state b.table b.memory good g p))

  own : HoldsAt b h (own_leases b.table h) (releases_at b.memory h)
  own = memory_each b.state b.table b.memory good h (omega arith)

  own_good : Good b.state.clock (own_leases b.table h) (remembered (releases_at b.memory h))
  own_good = good_of (tenants_in b.state) b.state.clock h (own_leases b.table h) (releases_at b.memory h) own

  -- a new record, which forgets its identifier; one that stood before may have left
  forgetting_kept : (o : Option Lease) (l : Lease) → memory_good (edited_book (record { leaves = o; enters = Some l; forgets = Some l; remembers = None }) h b) ≡ true
  unfolding noted_in pick not_leased
  forgetting_kept o l =
      edited_kept e
      (laid_holds (tenants_in b.state) b.state.clock h after (forget_of (id_of l) (remembered (releases_at b.memory h))) known
      (forget_good b.state.clock (own_leases b.table h) after (id_of l) (remembered (releases_at b.memory h))
      (λ r p q. edited_all (other (release_id r)) e (tenant_at b.table h) (sym (turned r l) ∙ p) q) own_good))
    where
      e : Edit
      e = record { leaves = o; enters = Some l; forgets = Some l; remembers = None }

      after : List Lease
      after = in_use (edited_in e (tenant_at b.table h))

  pub entering_kept : (l : Lease) → memory_good (edited_book (entering l) h b) ≡ true
  entering_kept l = forgetting_kept None l

  -- the same after a hold is dropped
  pub dropping_entering_kept : (o l : Lease) → memory_good (edited_book (dropping_first o (entering l)) h b) ≡ true
  dropping_entering_kept o l = forgetting_kept (Some o) l

  -- a hold is dropped, and nothing else
  pub dropping_kept : (o : Lease) → memory_good (edited_book (dropping_first o no_edit) h b) ≡ true
  unfolding edited_by left_in noted_in pick not_leased remove_of
  dropping_kept o =
      edited_kept (dropping_first o no_edit)
      (subst (λ (ls : List Lease). HoldsAt b h ls (releases_at b.memory h)) (sym (left_is o 0 0 (tenant_at b.table h)))
      (leased_holds (tenants_in b.state) b.state.clock h (own_leases b.table h) (remove_of (id_of o) (own_leases b.table h)) (releases_at b.memory h)
      (all_both (not_leased (own_leases b.table h)) (not_leased (own_leases b.table h)) (not_leased (remove_of (id_of o) (own_leases b.table h))) (remembered (releases_at b.memory h))
      (λ a p p'. filter_all (other (release_id a)) (other (id_of o)) (own_leases b.table h) p) own_good.free own_good.free) own))

  -- what holds of all of the tenant's leases holds of one that stands among them
  stands : (o : Lease) (k : ℕ) → o ≡ lease_at (in_use (tenant_at b.table h)) k → k < length (in_use (tenant_at b.table h)) → (u : Lease → Bool) → all_by u (own_leases b.table h) ≡ true → u o ≡ true
  stands o k held below u p = ap u held ∙ all_at u zero_lease (own_leases b.table h) k below p

  -- a lease is released, and is remembered
  pub leaving_kept : (o : Lease) (x k : ℕ) → o ≡ lease_at (in_use (tenant_at b.table h)) k → k < length (in_use (tenant_at b.table h)) → id_b o ≡ true → padded_b o ≡ true
      → memory_good (edited_book (leaving o x b.state.clock) h b) ≡ true
  unfolding noted_in pick not_leased remove_of id_b padded_b length_b filled_b differs
  leaving_kept o x k held below len pad =
      edited_kept (leaving o x c)
      (subst (λ (ls : List Lease). HoldsAt b h ls (laid_releases (remember_of r q))) (sym (left_is o x c (tenant_at b.table h)))
      (laid_holds (tenants_in b.state) c h rest (remember_of r q) known
      (remember_good c rest r q len (and_parts (is_hold o || eqb o.lapse 0) (zero_from o.id_len o.id) pad).1 refl (filter_passes (other (id_of o)) (own_leases b.table h)) new fewer)))
    where
      c : ℕ
      c = b.state.clock

      r : Release
      r = release_of o x c

      q : List Release
      q = remembered (releases_at b.memory h)

      rest : List Lease
      rest = remove_of (id_of o) (own_leases b.table h)

      off : (a : Release) → all_by (other (release_id a)) (own_leases b.table h) ≡ true → other_release (id_of o) a ≡ true
      off a p = turned a o ∙ stands o k held below (other (release_id a)) p

      new : all_by (λ a. differs a r) q ≡ true
      new = all_both (not_leased (own_leases b.table h)) (not_leased (own_leases b.table h)) (λ a. differs a r) q (λ a p p'. off a p) own_good.free own_good.free

      fewer : Good c rest q
      fewer = leased_good c (own_leases b.table h) rest q (λ a p. filter_all (other (release_id a)) (other (id_of o)) (own_leases b.table h) p) own_good

  -- o gives way to a lease of its identifier
  pub way_kept : (o l : Lease) (k : ℕ) → o ≡ lease_at (in_use (tenant_at b.table h)) k → k < length (in_use (tenant_at b.table h)) → id_of l ≡ id_of o
      → memory_good (edited_book (giving_way o l) h b) ≡ true
  unfolding noted_in pick not_leased
  way_kept o l k held below same =
      edited_kept (giving_way o l)
      (leased_holds (tenants_in b.state) b.state.clock h (own_leases b.table h) after (releases_at b.memory h)
      (all_both (not_leased (own_leases b.table h)) (not_leased (own_leases b.table h)) (not_leased after) (remembered (releases_at b.memory h)) (λ a p p'. off a p) own_good.free own_good.free) own)
    where
      after : List Lease
      after = in_use (edited_in (giving_way o l) (tenant_at b.table h))

      off : (a : Release) → all_by (other (release_id a)) (own_leases b.table h) ≡ true → all_by (other (release_id a)) after ≡ true
      off a p =
          edited_all (other (release_id a)) (giving_way o l) (tenant_at b.table h)
          (ap (λ (i : List ℕ). not (same_of i (release_id a))) same ∙ stands o k held below (other (release_id a)) p) p
