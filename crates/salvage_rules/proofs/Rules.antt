-- Laws: rule 13's first half, and the rule that an entry of the file breaks.
use Rattle.std.specs.Prelude.{Bool, ◌≡◌, refl, ℕ, eqb, get_or}
use Rattle.std.proofs.Math.Bool.{false, true}
use mathlib.Core.List.{List}
use Rattle.std.proofs.Common.{◌∙◌, arith, eq-eqb, eqb-true, ne_eqb}
use Rattle.std.proofs.Math.Path.{ap, ap₂, sym}
use Rattle.lists.specs.Pick.{pick}
use Rattle.format.specs.Section.{Inside}
use Rattle.state.specs.declared.Lease.{Lease}
use Rattle.state.specs.declared.LeaseTable.{LeaseTable}
use Rattle.state.specs.declared.State.{State}
use Rattle.soundness.specs.Sound.{first_rule, rules_of}
use Rattle.soundness.specs.declared.Rules.{Rules}
use Rattle.lease_file.specs.Place.{StorableAt, after_entry, entry_at, file_lease_at}
use Rattle.lease_file.specs.Records.{stored_entry}
use Rattle.salvage_rules.specs.Rules.{KeptWhole, entry_rule, hold_rule, lease_rule, limits_kept, names_known, offsets_kept, record_rule, type_after, with_record}
use Rattle.salvage_rules.specs.laws.Rules.{judged_entry, record_zero, storable_here, typed_in}

-- ---- rule 13's first half
module _ (kind r : ℕ) (holds : Bool) where
  pub after_lease_law : holds ≡ false → r ≡ pick holds (type_after kind r) r
  unfolding pick
  after_lease_law e = sym (ap (λ (z : Bool). pick z (type_after kind r) r) e)

  hold_open : holds ≡ true → pick (eqb r 0) (pick {A = ℕ} (eqb kind 1) 0 13) r ≡ pick holds (type_after kind r) r
  unfolding pick type_after
  hold_open e = sym (ap (λ (z : Bool). pick z (type_after kind r) r) e)

  pub after_broken : holds ≡ true → (r ≡ 0 → ⊥) → r ≡ pick holds (type_after kind r) r
  unfolding pick
  after_broken e h = sym (ap (λ (z : Bool). pick z (pick {A = ℕ} (eqb kind 1) 0 13) r) (ne_eqb r 0 h)) ∙ hold_open e

  pub after_typed : holds ≡ true → r ≡ 0 → kind ≡ 1 → 0 ≡ pick holds (type_after kind r) r
  unfolding pick
  after_typed e h k = sym (ap₂ (λ (y z : Bool). pick y (pick {A = ℕ} z 0 13) r) (eq-eqb r 0 h) (eq-eqb kind 1 k)) ∙ hold_open e

  pub after_other : holds ≡ true → r ≡ 0 → (kind ≡ 1 → ⊥) → 13 ≡ pick holds (type_after kind r) r
  unfolding pick
  after_other e h k = sym (ap₂ (λ (y z : Bool). pick y (pick {A = ℕ} z 0 13) r) (eq-eqb r 0 h) (ne_eqb kind 1 k)) ∙ hold_open e

pub ruleset afters = (after_lease_law, after_broken, after_typed, after_other)

-- ---- an entry
entry_is : (holds : Bool) (s : List ℕ) (at : ℕ) (st : State) (b : LeaseTable)
    → pick holds (type_after (file_lease_at s at).kind (record_rule st b (file_lease_at s at) (typed_in holds s at) (judged_entry holds s at))) (record_rule st b (file_lease_at s at) (typed_in holds s at) (judged_entry holds s at))
    ≡ entry_rule holds st b (entry_at holds s at)
unfolding entry_rule entry_at hold_rule lease_rule stored_entry pick
entry_is true s at st b = refl
entry_is false s at st b = refl

-- a rule that is no 0 stands, whatever the type
kept_number : (holds : Bool) (kind r : ℕ) → (r ≡ 0 → ⊥) → r ≡ pick holds (type_after kind r) r
kept_number true kind r h = after_broken kind r true refl h
kept_number false kind r h = after_lease_law kind r false refl

module _ (holds : Bool) (s : List ℕ) (at : ℕ) (st : State) (b : LeaseTable) where
  abbrev whole : ℕ → ℕ
  whole r = pick holds (type_after (file_lease_at s at).kind r) r

  module _ {p : Bool} (ep : p ≡ limits_kept st b (file_lease_at s at)) where
    rule_first : (y : Bool) → p ≡ y
        → pick y (pick (offsets_kept st (file_lease_at s at)) (pick (names_known st (file_lease_at s at) (typed_in holds s at)) (first_rule (rules_of st (with_record b (file_lease_at s at).tenant (judged_entry holds s at)))) 7) 2) 1
        ≡ record_rule st b (file_lease_at s at) (typed_in holds s at) (judged_entry holds s at)
    unfolding record_rule
    rule_first y e =
        ap (λ (z : Bool). pick z (pick (offsets_kept st (file_lease_at s at)) (pick (names_known st (file_lease_at s at) (typed_in holds s at)) (first_rule (rules_of st (with_record b (file_lease_at s at).tenant (judged_entry holds s at)))) 7) 2) 1)
        (sym e ∙ ep)

    pub entry_limits : p ≡ false → 1 ≡ entry_rule holds st b (entry_at holds s at)
    unfolding pick
    entry_limits e = kept_number holds (file_lease_at s at).kind 1 (λ z. omega arith) ∙ ap whole (rule_first false e) ∙ entry_is holds s at st b

    module _ {q : Bool} (eq : q ≡ offsets_kept st (file_lease_at s at)) (yp : p ≡ true) where
      rule_second : (y : Bool) → q ≡ y → pick y (pick (names_known st (file_lease_at s at) (typed_in holds s at)) (first_rule (rules_of st (with_record b (file_lease_at s at).tenant (judged_entry holds s at)))) 7) 2
          ≡ record_rule st b (file_lease_at s at) (typed_in holds s at) (judged_entry holds s at)
      unfolding pick
      rule_second y e =
          ap (λ (z : Bool). pick z (pick (names_known st (file_lease_at s at) (typed_in holds s at)) (first_rule (rules_of st (with_record b (file_lease_at s at).tenant (judged_entry holds s at)))) 7) 2) (sym e ∙ eq)
          ∙ rule_first true yp

      pub entry_offsets : q ≡ false → 2 ≡ entry_rule holds st b (entry_at holds s at)
      unfolding pick
      entry_offsets e = kept_number holds (file_lease_at s at).kind 2 (λ z. omega arith) ∙ ap whole (rule_second false e) ∙ entry_is holds s at st b

      module _ {r : Bool} (er : r ≡ names_known st (file_lease_at s at) (typed_in holds s at)) (yq : q ≡ true) where
        rule_third : (y : Bool) → r ≡ y → pick y (first_rule (rules_of st (with_record b (file_lease_at s at).tenant (judged_entry holds s at)))) 7 ≡ record_rule st b (file_lease_at s at) (typed_in holds s at) (judged_entry holds s at)
        unfolding pick
        rule_third y e = ap (λ (z : Bool). pick z (first_rule (rules_of st (with_record b (file_lease_at s at).tenant (judged_entry holds s at)))) 7) (sym e ∙ er) ∙ rule_second true yq

        pub entry_unnamed : r ≡ false → 7 ≡ entry_rule holds st b (entry_at holds s at)
        unfolding pick
        entry_unnamed e = kept_number holds (file_lease_at s at).kind 7 (λ z. omega arith) ∙ ap whole (rule_third false e) ∙ entry_is holds s at st b

        pub entry_judged : (l : Lease) (t : LeaseTable) (all : Rules) (f k x : ℕ) → r ≡ true → l ≡ judged_entry holds s at → t ≡ with_record b (get_or s at 0) l → all ≡ rules_of st t → f ≡ first_rule all → k ≡ (file_lease_at s at).kind
            → x ≡ pick holds (type_after k f) f → x ≡ entry_rule holds st b (entry_at holds s at)
        unfolding pick file_lease_at
        entry_judged l t all f k x e el et ea ef ek ex =
            let g : f ≡ first_rule (rules_of st (with_record b (file_lease_at s at).tenant (judged_entry holds s at))) = ef ∙ ap first_rule (ea ∙ ap (rules_of st) (et ∙ ap (with_record b (get_or s at 0)) el)) in
            ex ∙ ap₂ (λ (y z : ℕ). pick holds (type_after y z) z) ek (g ∙ rule_third true e) ∙ entry_is holds s at st b

-- what breaks no rule can be kept
pub type_zero : (kind r : ℕ) → type_after kind r ≡ 0 → r ≡ 0
unfolding type_after pick
type_zero kind r e = go (eqb r 0) refl e
  where
    go : (b : Bool) → eqb r 0 ≡ b → pick b (pick {A = ℕ} (eqb kind 1) 0 13) r ≡ 0 → r ≡ 0
    go true q p = eqb-true r 0 q
    go false q p = p

after_zero : (holds : Bool) (kind r : ℕ) → pick holds (type_after kind r) r ≡ 0 → r ≡ 0
unfolding pick
after_zero true kind r e = type_zero kind r e
after_zero false kind r e = e

pub entry_kept : (holds : Bool) (s : List ℕ) (at : ℕ) (st : State) (b : LeaseTable) {r : ℕ} → Inside (after_entry holds) s at → r ≡ entry_rule holds st b (entry_at holds s at) → KeptWhole (StorableAt holds s at) r
entry_kept holds s at st b {r} v e = record {
  fits = λ z.
      let a = after_zero holds (file_lease_at s at).kind _ (entry_is holds s at st b ∙ sym e ∙ z) in
      let f = record_zero st b (file_lease_at s at) (typed_in holds s at) (judged_entry holds s at) a in
      storable_here holds s at st b v (sym f.0) refl (sym f.2) refl;
}
