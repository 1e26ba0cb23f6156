-- Laws: calls keep each lease's addresses within 64 bits: what they drop or remove leaves some of them, and a grant's addresses are 64 at most.
use Rattle.std.specs.Prelude.{Option, None, Some, IfSome}
use Rattle.std.specs.Option.{option_map_or}
use Prim.Native.Nat.{ℕ, zero, suc, ◌<◌, ◌^◌, min}
use mathlib.Core.Path.{sym, subst}
use mathlib.Core.Bool.{Bool, true, false, not}
use mathlib.Core.List.{List, [], ◌∷◌}
use native.Mathlib.Omega.{arith}
use lib.ListN.{get_or, length, set}
use lib.Dec.{ltb}
use Rattle.lists.specs.Pick.{pick}
use Rattle.lists.specs.All.{All}
use Rattle.lists.specs.laws.All.{all_joined}
use Rattle.lists.specs.Arranged.{insert_in}
use Rattle.lists.specs.Filter.{filter_by}
use Rattle.message.specs.declared.Fields.{Fields}
use Rattle.message.specs.laws.Placed.{pick_cases}
use Rattle.state.specs.declared.Lease.{Lease}
use Rattle.state.specs.declared.LeaseTable.{LeaseTable}
use Rattle.state.specs.declared.Release.{Release}
use Rattle.state.specs.declared.State.{State}
use Rattle.state.specs.declared.TenantLeases.{TenantLeases}
use Rattle.state.specs.declared.Scope.{Scope}
use Rattle.state.specs.declared.Edit.{Edit}
use Rattle.state.specs.Book.{Book, id_of, in_use, insert_of, inserted_in, laid_out, ordered, remove_of, tenant_at, zero_lease, inserted_by}
use Rattle.state.specs.laws.Edit.{applied}
use Rattle.state.specs.Edit.{edited_in, left_in, applied_by, edited_by}
use Rattle.allocation.specs.declared.Ask.{Ask}
use Rattle.allocation.specs.declared.Grant.{Grant}
use Rattle.allocation.specs.Rule.{grant_to}
use Rattle.state.specs.laws.Layout.{read_back}
use Rattle.decision.specs.declared.Decided.{Decided}
use Rattle.decision_laws.specs.laws.Cases.{decided_by, new_for, old_for, without}
use Rattle.proposal.specs.Proposals.{held_from, lease_from, new_at, new_of, new_with, renewed_of, renewed_to, turned}
use Rattle.admission.specs.Tests.{own_of, lease_id_in}
use Rattle.decision.specs.Decide.{decide_of}
use Rattle.server.specs.Serve.{Answer, Call, at_clock, for_server, serve_of, with_reading}
use Rattle.guarantee.specs.Statement.{book_at, run}
use Rattle.call_guarantee.specs.Statement.{Narrow, StaysNarrow}
use Rattle.guarantee.proofs.Ranges.{grant_small}
use Rattle.call_guarantee.proofs.Walked.{all_filter, now_narrow}
use Rattle.admission.specs.laws.Found.{found_at}
use Rattle.std.proofs.Common.{subst, sym}

abbrev F : Lease → Type 0
F l = l.addresses < 2 ^ 64

-- ---- lists of leases
pub inserted : (l : Lease) (ls : List Lease) → F l → All F ls → All F (insert_of l ls)
unfolding insert_in All
inserted l ls f h = all_joined F (filter_by (λ x. ordered x l) ls) (l ∷ filter_by (λ x. not (ordered x l)) ls) (all_filter F (λ x. ordered x l) ls h) (f, all_filter F (λ x. not (ordered x l)) ls h)

removed : (i : List ℕ) (ls : List Lease) → All F ls → All F (remove_of i ls)
unfolding remove_of
removed i ls h = all_filter F _ ls h

-- ---- an edit of a tenant's records
left : (e : Edit) (t : TenantLeases) → All F (in_use t) → All F (in_use (left_in e t))
unfolding left_in pick
left e t h = leave e.leaves
  where
    leave : (c : Option Lease) → All F (in_use (option_map_or (λ l. laid_out (remove_of (id_of l) (in_use t))) c t))
    leave (Some l) = subst (All F) (sym (read_back (remove_of (id_of l) (in_use t)))) (removed (id_of l) (in_use t) h)
    leave None = h

entered : (l : Lease) (t : TenantLeases) → F l → All F (in_use t) → All F (in_use (inserted_in l t))
unfolding inserted_by pick
entered l t f h = enter (ltb (length (in_use t)) 16)
  where
    enter : (c : Bool) → All F (in_use (pick c (laid_out (insert_of l (in_use t))) t))
    enter true = subst (All F) (sym (read_back (insert_of l (in_use t)))) (inserted l (in_use t) f h)
    enter false = h

edited : (e : Edit) (t : TenantLeases) → IfSome e.enters F → All F (in_use t) → All F (in_use (edited_in e t))
unfolding edited_by
edited e t f h = go e.enters f
  where
    go : (c : Option Lease) → IfSome c F → All F (in_use (option_map_or (λ l. inserted_in l (left_in e t)) c (left_in e t)))
    go (Some l) p = entered l (left_in e t) p (left e t h)
    go None p = left e t h

pub set_either : (P : TenantLeases → Type 0) (l : List TenantLeases) (i : ℕ) (v : TenantLeases) (c : ℕ) (d : TenantLeases) → P v → P (get_or l c d) → P (get_or (set l i v) c d)
set_either P [] i v c d p q = q
set_either P (x ∷ l) zero v zero d p q = p
set_either P (x ∷ l) zero v (suc c) d p q = q
set_either P (x ∷ l) (suc i) v zero d p q = q
set_either P (x ∷ l) (suc i) v (suc c) d p q = set_either P l i v c d p q

put : (e : Edit) (t : LeaseTable) (h g : ℕ) → IfSome e.enters F → All F (own_of t h) → All F (own_of t g) → All F (own_of (applied e h t) g)
unfolding applied_by
put e t h g f own old = set_either (λ x. All F (in_use x)) t.tenants h (edited_in e (tenant_at t h)) g (laid_out []) (edited e (tenant_at t h) f own) old

-- ---- the lease that a message is given
at_or_zero : (ls : List Lease) (i : ℕ) → All F ls → F (get_or ls i zero_lease)
unfolding All
at_or_zero [] i h = omega arith
at_or_zero (x ∷ ls) zero h = h.0
at_or_zero (x ∷ ls) (suc i) h = at_or_zero ls i h.1

grant_to_small : (c : Scope) (n : ℕ) (t : List (List Lease)) (a : Ask) → (grant_to c n t a).addresses < 2 ^ 64
unfolding grant_to
grant_to_small c n t a = pick_cases (λ (g : Grant). g.addresses < 2 ^ 64) (ltb a.tenant (min n 8)) _ _ (λ _. grant_small c (min n 8) t a) (λ _. omega arith)

-- a new one, by any table
new_small : (s : State) (t : LeaseTable) (h : ℕ) (m : Fields) → F (new_for s t h m)
unfolding lease_from new_of new_at new_with
new_small s t h m = grant_to_small _ _ _ _

-- ---- the decision: what enters
module _ (s : State) (t : LeaseTable) (h : ℕ) (m : Fields) (n : (g : ℕ) → All F (own_of t g)) where
  P : Decided → Type 0
  P d = IfSome d.edit.enters F

  none : Unit {0}
  none = tt

  mine : F (old_for t h m)
  mine = subst F (sym (found_at (lease_id_in m) (own_of t h))) (at_or_zero (own_of t h) _ (n h))

  enters : (q : List Release) → P (decide_of s t q h m)
  unfolding P lease_from renewed_of renewed_to turned held_from
  enters q = decided_by s t h m P (record {
    resent = λ _. none;
    again = none;
    refused = λ _. none;
    repeated = λ _ _. none;
    taken = λ _ _. mine;
    offered = λ _ _ _ _. new_small s t h m;
    requested = λ _ _ _ _. new_small s t h m;
    dropped = λ _ _. none;
    moved = λ _ _ _ _. new_small s (without t h m) h m;
    renewed = λ _ _ _ _. mine;
    released = λ _ _. none;
    informed = none;
  }) q

  decided : (q : List Release) (g : ℕ) → All F (own_of (applied (decide_of s t q h m).edit h t) g)
  unfolding P
  decided q g = put (decide_of s t q h m).edit t h g (enters q) (n h) (n g)

-- ---- the call, and any list
module _ (b : Book) (c : Call) (v : Narrow b) (g : ℕ) where
  Q : Answer → Type 0
  Q a = All F (own_of a.book.table g)

  call_narrow : Q (serve_of b c)
  unfolding serve_of at_clock with_reading for_server Q Narrow
  call_narrow =
      pick_cases Q _ _ _
      (λ _. pick_cases Q _ _ _ (λ _. v g)
      (λ _. pick_cases Q _ _ _
      (λ _. pick_cases Q _ _ _ (λ _. pick_cases Q _ _ _ (λ _. now_narrow b c v g) (λ _. decided (book_at b c).state (book_at b c).table _ _ (now_narrow b c v) _ g))
      (λ _. now_narrow b c v g)) (λ _. now_narrow b c v g))) (λ _. v g)

next : (b : Book) (c : Call) → Narrow b → Narrow (serve_of b c).book
unfolding Narrow Q
next b c v g = call_narrow b c v g

after : (b : Book) (cs : List Call) → Narrow b → Narrow (run b cs)
unfolding run
after b [] v = v
after b (c ∷ cs) v = after (serve_of b c).book cs (next b c v)

pub stays_narrow : StaysNarrow
unfolding StaysNarrow
stays_narrow b v cs = after b cs v
