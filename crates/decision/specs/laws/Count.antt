-- Laws: a test that does not ask for the identifier goes by no record as by the record, error 1 is tested in two steps, and a lookup compares few.
use Rattle.std.specs.Prelude.{ℕ, ◌≤◌, min, Bool, not, ◌&&◌, ◌||◌, Option, unwrap_or, List, ◌≡◌, eqb, length}
use Rattle.std.proofs.Math.Bool.{true, false}
use Rattle.std.proofs.Math.Path.{refl, ap}
use Rattle.std.proofs.Common.{sym, ◌∙◌}
use native.Mathlib.Omega.{arith}
use Rattle.lists.specs.Pick.{pick}
use Rattle.lists.specs.laws.Both.{and_parts}
use Rattle.message.specs.declared.Fields.{Fields}
use Rattle.state.specs.declared.Lease.{Lease}
use Rattle.state.specs.declared.Release.{Release}
use Rattle.state.specs.declared.State.{State}
use Rattle.state.specs.declared.TenantLeases.{TenantLeases}
use Rattle.state.specs.Book.{in_use, zero_lease}
use Rattle.state.specs.laws.Layout.{length_in_use}
use Rattle.state.specs.laws.Lookup.{compared_few}
use Rattle.decision.specs.declared.Decided.{Decided}
use Rattle.proposal.specs.declared.Proposal.{Proposal}
use Rattle.decision.specs.declared.Recorded.{Recorded}
use Rattle.admission.specs.Tests.{early1_of, error1_of, error2_of, error3_of, has_period, held_already, is_for_hold, is_new, lease_id_in, recorded_of, released_again, resends, asks_identifier, asks_resend}
use Rattle.decision.specs.Verdicts.{plain_reply, refusal_of, with_lease}
use Rattle.decision.specs.Decide.{judged_of, unchanged, plain_of}
use Rattle.decision.specs.Count.{lookup_count}
use Rattle.decision.specs.Gather.{looked_up, not_asked, past_early, past_errors, recorded_in}
use Rattle.decision.specs.declared.Reply.TheVariants.{InfoAck, LeaseAck, ReleaseAck}
use Rattle.decision.specs.laws.Code.{or_none}

-- what a lookup compared, made or not
pub looked_count : (b : Bool) (own : List Lease) (m : Fields) → (looked_up b own m).compared ≡ lookup_count b own m
unfolding looked_up lookup_count recorded_in pick
looked_count true own m = refl
looked_count false own m = refl

-- the resend test
pub resends_asked : (own : List Lease) (m : Fields) → resends m (unwrap_or (looked_up (asks_resend m) own m).lease zero_lease) ≡ resends m (recorded_of own m)
unfolding resends looked_up recorded_in pick
resends_asked own m = go (asks_resend m) refl
  where
    same : Lease → Bool
    same l = eqb l.kind m.kind && eqb l.xid m.xid

    go : (b : Bool) → asks_resend m ≡ b → (asks_resend m && same (unwrap_or (pick b (recorded_in (lease_id_in m) own) not_asked).lease zero_lease)) ≡ (asks_resend m && same (recorded_of own m))
    go true e = refl
    go false e = ap (λ (b : Bool). b && same zero_lease) e ∙ sym (ap (λ (b : Bool). b && same (recorded_of own m)) e)

-- where it holds, it has asked for the record
pub lease_asked : (own : List Lease) (m : Fields) → resends m (recorded_of own m) ≡ true → unwrap_or (looked_up (asks_resend m) own m).lease zero_lease ≡ recorded_of own m
unfolding resends looked_up recorded_in pick
lease_asked own m e = ap (λ (b : Bool). unwrap_or (pick b (recorded_in (lease_id_in m) own) not_asked).lease zero_lease) (and_parts (asks_resend m) _ e).0

-- from error 1's last test on: a message of which neither error 1 nor error 3 asks a record draws error 2, or it is a GETINFO
module _ (s : State) (m : Fields) (first : eqb m.kind 1 ≡ false) (third : eqb m.kind 3 ≡ false) (p : Proposal) (o : Option Lease) where
  early_2 : error2_of s m ≡ true → past_early s p m o ≡ unchanged (refusal_of m 2)
  unfolding past_early held_already is_new pick
  early_2 e = rw (first, third, e) refl

  informs : error2_of s m ≡ false → eqb m.kind 4 ≡ false → eqb m.kind 7 ≡ false → past_early s p m o ≡ unchanged (plain_reply InfoAck)
  unfolding past_early past_errors held_already error3_of is_for_hold has_period is_new plain_of pick
  informs e fourth seventh = rw (first, third, e, fourth, seventh) refl

and_all : (a : Bool) → (a && true) ≡ a
and_all true = refl
and_all false = refl

pub named_asked : (s : State) (own : List Lease) (m : Fields) (p : Recorded → Proposal) → let x = looked_up (asks_identifier s m) own m in let y = recorded_in (lease_id_in m) own in
    past_early s (p x) m x.lease ≡ past_early s (p y) m y.lease
unfolding looked_up asks_identifier is_new pick
named_asked s own m p = go (asks_identifier s m) refl
  where
    at : Recorded → Decided
    at x = past_early s (p x) m x.lease

    y : Recorded
    y = recorded_in (lease_id_in m) own

    by_2 : (is_new m ≡ false) → (b : Bool) → error2_of s m ≡ b → ((eqb m.kind 4 || eqb m.kind 7) && not b) ≡ false → at not_asked ≡ at y
    by_2 n true e k = let z = or_none (eqb m.kind 1) (eqb m.kind 3) n in early_2 s m z.0 z.1 _ _ e ∙ sym (early_2 s m z.0 z.1 _ _ e)
    by_2 n false e k =
        let z = or_none (eqb m.kind 1) (eqb m.kind 3) n in
        let u = or_none (eqb m.kind 4) (eqb m.kind 7) (sym (and_all (eqb m.kind 4 || eqb m.kind 7)) ∙ k) in
        informs s m z.0 z.1 _ _ e u.0 u.1 ∙ sym (informs s m z.0 z.1 _ _ e u.0 u.1)

    go : (b : Bool) → asks_identifier s m ≡ b → at (pick b y not_asked) ≡ at y
    go true e = refl
    go false e =
        let z = or_none (is_new m) ((eqb m.kind 4 || eqb m.kind 7) && not (error2_of s m)) e in
        by_2 z.0 (error2_of s m) refl z.1

-- error 1 is tested in two steps
pub judged_steps : (s : State) (p : Proposal) (q : List Release) (m : Fields) (o : Option Lease) → judged_of s p q m o
    ≡ pick (resends m (unwrap_or o zero_lease)) (unchanged (with_lease LeaseAck (unwrap_or o zero_lease))) (pick (released_again s q m) (unchanged (plain_reply ReleaseAck)) (pick (early1_of s m) (unchanged (refusal_of m 1)) (past_early s p m o)))
unfolding judged_of past_early past_errors error1_of pick
judged_steps s p q m o = go (resends m l) (released_again s q m) (early1_of s m)
  where
    l : Lease
    l = unwrap_or o zero_lease

    rest : Decided
    rest = pick (error2_of s m) (unchanged (refusal_of m 2)) (pick (error3_of m o) (unchanged (refusal_of m 3)) (past_errors s p m o))

    go : (x y z : Bool) → pick x (unchanged (with_lease LeaseAck l)) (pick y (unchanged (plain_reply ReleaseAck)) (pick (z || held_already s m o) (unchanged (refusal_of m 1)) rest))
        ≡ pick x (unchanged (with_lease LeaseAck l)) (pick y (unchanged (plain_reply ReleaseAck)) (pick z (unchanged (refusal_of m 1)) (pick (held_already s m o) (unchanged (refusal_of m 1)) rest)))
    go true y z = refl
    go false true z = refl
    go false false true = refl
    go false false false = refl

pub found_few : (i : List ℕ) (own : TenantLeases) {r : Recorded} → r ≡ recorded_in i (in_use own) → length own.leases ≡ 16 → r.compared ≤ 16
unfolding recorded_in
found_few i own e g =
    let p = ap (λ (x : Recorded). x.compared) e in
    let k = compared_few i (in_use own) in
    let n = length_in_use own (min own.count 16) g refl in
    omega arith

pub none_few : {r : Recorded} → r ≡ not_asked → r.compared ≤ 16
none_few e = let p = ap (λ (x : Recorded). x.compared) e in omega arith
