-- Laws: the decision with its lookups made where they are asked is the decision, and what they compared is the count (document 02, W-210), at most 32.
use Rattle.std.specs.Prelude.{ℕ, ◌+◌, ◌≤◌, Bool, unwrap_or, List, ◌≡◌, length}
use Rattle.std.proofs.Math.Bool.{true, false}
use Rattle.std.proofs.Math.Path.{refl, ap}
use Rattle.std.proofs.Common.{sym, ap₂, ◌∙◌}
use native.Mathlib.Omega.{arith}
use Rattle.lists.specs.Pick.{pick}
use Rattle.lists.specs.laws.Pick.{pick_yes, pick_no}
use Rattle.message.specs.declared.Fields.{Fields}
use Rattle.state.specs.declared.Edit.{Edit}
use Rattle.state.specs.declared.Lease.{Lease}
use Rattle.state.specs.declared.Release.{Release}
use Rattle.state.specs.declared.State.{State}
use Rattle.state.specs.Book.{compared_of, zero_lease}
use Rattle.state.specs.Edit.{no_edit}
use Rattle.state.specs.laws.Lookup.{compared_few}
use Rattle.soundness.specs.declared.HeldTable.{HeldTable}
use Rattle.decision.specs.declared.Counted.{Counted}
use Rattle.decision.specs.declared.Decided.{Decided}
use Rattle.proposal.specs.declared.Proposal.{Proposal}
use Rattle.decision.specs.declared.Recorded.{Recorded}
use Rattle.admission.specs.Tests.{early1_of, found_of, lease_id_in, recorded_of, released_again, resends, asks_identifier, asks_resend}
use Rattle.decision.specs.Verdicts.{plain_reply, refusal_of, with_lease}
use Rattle.decision.specs.Decide.{changed, unchanged}
use Rattle.decision.specs.Count.{count_of, identifier_count, lookup_count}
use Rattle.proposal.specs.Gather.{brought_in, proposal_in}
use Rattle.decision.specs.Gather.{decide_in, looked_up, past_early, recorded_in}
use Rattle.decision.specs.declared.Reply.TheVariants.{LeaseAck, ReleaseAck}
use Rattle.decision.specs.laws.Count.{looked_count, resends_asked, lease_asked, named_asked, judged_steps}

-- ---- the code's steps
-- the decision and the count by the tests in their order
module _ (s : State) (own : List Lease) (q : List Release) (held : HeldTable) (h : ℕ) (m : Fields) where
  -- what the first lookup compares, and the second
  abbrev N : ℕ
  N = lookup_count (asks_resend m) own m

  abbrev K : ℕ
  K = lookup_count (asks_identifier s m) own m

  abbrev from : Recorded → Proposal
  from x = proposal_in s (brought_in own m x.lease) held h m (unwrap_or x.lease zero_lease)

  abbrev past : Recorded → Decided
  past x = past_early s (from x) m x.lease

  abbrev with : Decided → ℕ → Counted
  with d n = record { decided = d; count = n }

  abbrev Y : Recorded
  Y = recorded_in (lease_id_in m) own

  counted_steps : pick (resends m (recorded_of own m)) (with (unchanged (with_lease LeaseAck (recorded_of own m))) N)
      (pick (released_again s q m) (with (unchanged (plain_reply ReleaseAck)) N) (pick (early1_of s m) (with (unchanged (refusal_of m 1)) N) (with (past Y) (N + K))))
      ≡ with (decide_in s own q held h m) (count_of s own q m)
  unfolding decide_in recorded_in count_of identifier_count pick
  counted_steps =
      go (unchanged (with_lease LeaseAck (recorded_of own m))) (unchanged (plain_reply ReleaseAck)) (unchanged (refusal_of m 1)) (past Y) N K (resends m (recorded_of own m)) (released_again s q m) (early1_of s m)
      ∙ ap (λ (d : Decided). with d (count_of s own q m)) (sym (judged_steps s (from Y) q m (found_of own m)))
    where
      go : (a b c d : Decided) (n k : ℕ) (x y z : Bool) → pick x (with a n) (pick y (with b n) (pick z (with c n) (with d (n + k)))) ≡ with (pick x a (pick y b (pick z c d))) (n + pick x 0 (pick y 0 (pick z 0 k)))
      go a b c d n k true y z = ap (with a) (let e : n ≡ n + 0 = omega arith in e)
      go a b c d n k false true z = ap (with b) (let e : n ≡ n + 0 = omega arith in e)
      go a b c d n k false false true = ap (with c) (let e : n ≡ n + 0 = omega arith in e)
      go a b c d n k false false false = refl

  -- f is what the first lookup gave, x the resend test by it
  module _ {a x : Bool} {f : Recorded} (ea : a ≡ asks_resend m) (ef : f ≡ looked_up a own m) (ex : x ≡ resends m (unwrap_or f.lease zero_lease)) where
    asked : f ≡ looked_up (asks_resend m) own m
    asked = ef ∙ ap (λ (b : Bool). looked_up b own m) ea

    tested : x ≡ resends m (recorded_of own m)
    tested = ex ∙ ap (λ (y : Recorded). resends m (unwrap_or y.lease zero_lease)) asked ∙ resends_asked own m

    first_is : f.compared ≡ N
    first_is = ap (λ (y : Recorded). y.compared) asked ∙ looked_count (asks_resend m) own m

    pub resent_is : {e : Edit} {d : Decided} {r : Counted} → r ≡ with d f.compared → d ≡ changed e (with_lease LeaseAck (unwrap_or f.lease zero_lease)) → e ≡ no_edit → x ≡ true
        → r ≡ with (decide_in s own q held h m) (count_of s own q m)
    resent_is {r = r} er ed ee y =
        pick_yes _ _ r tested y
        (er ∙ ap₂ with (ed ∙ ap₂ (λ (e : Edit) (l : Lease). changed e (with_lease LeaseAck l)) ee (ap (λ (y : Recorded). unwrap_or y.lease zero_lease) asked ∙ lease_asked own m (sym tested ∙ y))) first_is)
        ∙ counted_steps

    module _ (n : x ≡ false) {b : Bool} (eb : b ≡ released_again s q m) where
      pub released_is : {d : Decided} {r : Counted} → r ≡ with d f.compared → d ≡ unchanged (plain_reply ReleaseAck) → b ≡ true → r ≡ with (decide_in s own q held h m) (count_of s own q m)
      released_is {r = r} er ed y = pick_no _ _ r tested n (pick_yes _ _ r eb y (er ∙ ap₂ with ed first_is)) ∙ counted_steps

      module _ (k : b ≡ false) {c : Bool} (ec : c ≡ early1_of s m) where
        pub refused_is : {d : Decided} {r : Counted} → r ≡ with d f.compared → d ≡ unchanged (refusal_of m 1) → c ≡ true → r ≡ with (decide_in s own q held h m) (count_of s own q m)
        refused_is {r = r} er ed y = pick_no _ _ r tested n (pick_no _ _ r eb k (pick_yes _ _ r ec y (er ∙ ap₂ with ed first_is))) ∙ counted_steps

        -- g is what the second lookup gave
        pub judged_is : {t : Bool} {g : Recorded} {d : Decided} {r : Counted} → r ≡ with d (f.compared + g.compared) → d ≡ past g → g ≡ looked_up t own m → t ≡ asks_identifier s m → c ≡ false
            → r ≡ with (decide_in s own q held h m) (count_of s own q m)
        judged_is {t} {g} {r = r} er ed eg et z =
            let again : g ≡ looked_up (asks_identifier s m) own m = eg ∙ ap (λ (b : Bool). looked_up b own m) et in
            pick_no _ _ r tested n (pick_no _ _ r eb k (pick_no _ _ r ec z
            (er ∙ ap₂ with (ed ∙ ap past again ∙ named_asked s own m from) (ap₂ (λ (x y : ℕ). x + y) first_is (ap (λ (y : Recorded). y.compared) again ∙ looked_count (asks_identifier s m) own m)))))
            ∙ counted_steps

-- each lookup compares at most 16 records of 16
pub count_few : (s : State) (own : List Lease) (q : List Release) (m : Fields) → length own ≤ 16 → count_of s own q m ≤ 32
unfolding count_of identifier_count lookup_count pick
count_few s own q m h =
    let k = compared_few (lease_id_in m) own in
    let a = made (asks_resend m) in
    let b = second (resends m (recorded_of own m)) (released_again s q m) (early1_of s m) in
    omega arith
  where
    made : (b : Bool) → pick b (compared_of (lease_id_in m) own) 0 ≤ 16
    made true = let k = compared_few (lease_id_in m) own in omega arith
    made false = omega arith

    second : (x y z : Bool) → pick x 0 (pick y 0 (pick z 0 (pick (asks_identifier s m) (compared_of (lease_id_in m) own) 0))) ≤ 16
    second true y z = omega arith
    second false true z = omega arith
    second false false true = omega arith
    second false false false = made (asks_identifier s m)
