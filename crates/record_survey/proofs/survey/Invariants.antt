use Rattle.std.proofs.Common.{◌≡◌}
use Rattle.records.specs.Records.{table_from}
use Rattle.releases.specs.laws.Tenants.{MemoryInv}
use Rattle.state.specs.Board.{built_to}
use Rattle.soundness.specs.laws.Survey.{SurveyInv}
use Rattle.record_survey.proofs.survey.Given as goal

abbrev pub invariant-loop-h : goal.invariant-loop-h
invariant-loop-h l = SurveyInv l.s (table_from l.records.leases) l.rules l.h × MemoryInv l.s (table_from l.records.leases) l.memory l.n l.releases l.h × (l.built ≡ built_to (table_from l.records.leases) l.h)
