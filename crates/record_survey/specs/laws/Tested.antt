-- Laws: what a survey and the tests of it say of the book: whether it is sound.
use Rattle.std.specs.Prelude.{◌≡◌, refl, Bool, true, false, ◌&&◌, List, ℕ, eqb}
use Rattle.std.proofs.Common.{sym, ap, ap₂, ◌∙◌}
use Rattle.occupancy.specs.Board.{same_board}
use Rattle.state.specs.declared.Lease.{Lease}
use Rattle.state.specs.declared.Ledger.{Ledger}
use Rattle.state.specs.Board.{built_of}
use Rattle.agreement.specs.Agrees.{agrees_b}
use Rattle.agreement.specs.laws.Agrees.{made_agrees}
use Rattle.names.specs.Names.{names_b}
use Rattle.releases.specs.Whole.{book_b}
use Rattle.releases.specs.declared.ReleaseRules.{ReleaseRules}
use Rattle.releases.specs.Rules.{broken_memory, broken_release, memory_b, release_rules_of}
use Rattle.soundness.specs.Sound.{sound_b}
use Rattle.soundness.specs.Parts.{sound_from, table_rules_of}
use Rattle.soundness.proofs.Lists.{sound_from_law}
use Rattle.record_survey.specs.declared.Surveyed.{Surveyed}
use Rattle.records.specs.Records.{table_from}
use Rattle.records.specs.Lent.{book_from}
use Rattle.record_survey.specs.Survey.{SoundFrom}
use Rattle.records.specs.laws.Table.{table_eight}

-- what the survey promises, and what test 1 tests of it
abbrev pub Surveys : Ledger → List Lease → Surveyed → Type 0
Surveys g ls c =
    (c.rules ≡ table_rules_of g.state (table_from ls)) × (c.releases ≡ release_rules_of g.state (table_from ls) g.memory) × (c.built ≡ built_of (table_from ls))

abbrev pub Tested : Ledger → List ℕ → Surveyed → Bool
Tested g names c =
    sound_from g.state c.rules
    && (eqb (broken_release c.releases) 0 && (same_board g.memory.board c.built && names_b g.state.scope_count g.state.tenant_count names))

-- the board is asked about where the rules hold
and_where : (a : Bool) {x y : Bool} → (a ≡ true → x ≡ y) → (a && x) ≡ (a && y)
and_where true e = e refl
and_where false e = refl

pub tested : (g : Ledger) (ls : List Lease) (names : List ℕ) (c : Surveyed) {t : Bool} → Surveys g ls c → t ≡ Tested g names c → t ≡ book_b (book_from g ls names)
unfolding book_b memory_b broken_memory
tested g ls names c v w =
    w ∙ ap₂ (λ (x y : Bool). x && (y && (same_board g.memory.board c.built && good))) (sound_from_law g.state (table_from ls) c.rules v.0)
    (ap (λ (x : ReleaseRules). eqb (broken_release x) 0) v.1)
    ∙ and_where (sound_b g.state (table_from ls)) (λ p. ap (λ (x : Bool). memory_b g.state (table_from ls) g.memory && (x && good)) (agrees p))
  where
    good : Bool
    good = names_b g.state.scope_count g.state.tenant_count names

    agrees : sound_b g.state (table_from ls) ≡ true → same_board g.memory.board c.built ≡ agrees_b (table_from ls) g.memory.board
    agrees p = ap (same_board g.memory.board) v.2 ∙ made_agrees g.state (table_from ls) g.memory.board (table_eight ls) p

pub tested_sound : (g : Ledger) (ls : List Lease) (names : List ℕ) {c : Surveyed} {t : Bool} → Surveys g ls c → t ≡ Tested g names c → t ≡ true → SoundFrom g ls names
tested_sound g ls names {c} v w y = sym (tested g ls names c v w) ∙ y
