-- Laws: the book of an accepted file is sound, and so is what a call on it leaves.
use Prim.Native.Nat.{ℕ}
use mathlib.Core.Path.{◌≡◌, sym, ◌∙◌, subst}
use mathlib.Core.List.{List}
use lib.ListN.{replicate, take}
use Rattle.state.specs.declared.Lease.{Lease}
use Rattle.state.specs.declared.Ledger.{Ledger}
use Rattle.state.specs.Book.{zero_lease}
use Rattle.state_file.specs.StateFile.{zero_ledger}
use Rattle.records.specs.laws.Files.{blank_accepted, blank_refusal}
use Rattle.records.specs.Lent.{LentReading}
use Rattle.record_survey.specs.Survey.{SoundFrom}
use Rattle.record_verdict.specs.Verdict.{judge_lent}
use Rattle.record_call.specs.Call.{serve_lent}
use Rattle.server.specs.Serve.{Call}
use Rattle.owned.specs.declared.OwnedCall.{OwnedCall}
use Rattle.owned.specs.declared.OwnedJudged.{OwnedJudged}
use Rattle.owned.specs.Owned.{JudgesOwned, ServesOwned}
use Rattle.lent_guarantee.specs.Statement.{SoundLent}
use Rattle.lent_guarantee.proofs.Written.{file_sound}
use Rattle.embed.specs.declared.Opening.{Opening}
use Rattle.embed.specs.Embed.{ledger_in, leases_in, names_in, refusal_in}
use Rattle.embed.specs.Promises.{Keeps, Opened}
use Rattle.call_list.specs.Promises.{OwnedSound}
use Rattle.call_list.proofs.Sound.{judged_sound, lent, served_sound}
use Rattle.embed.proofs.Files.{accepted_parts, names_are, names_at, zero_in}

-- ---- a buffer whose file is not refused
module _ (b : List ℕ) (n : ℕ) (e : refusal_in b n ≡ 0) where
  pub book_sound : SoundLent (lent (ledger_in b n) (leases_in b n) (names_in b n))
  unfolding lent
  book_sound =
      let r = (accepted_parts b n e).2 in
      subst (λ (x : LentReading). SoundLent (lent x.ledger x.leases (names_in b n))) (blank_accepted (take n b) r)
      (file_sound (take n b) zero_ledger (replicate 128 zero_lease) (blank_refusal (take n b) ∙ r))

-- ---- the book that was read of it, and what a call leaves
module _ {b kept : List ℕ} {n k : ℕ} {f : Opening} (o : Opened b n f) (z : f.refusal ≡ 0) (g : Keeps (names_at b f) kept k) where
  pub opened_sound : OwnedSound f.owned (take k kept)
  unfolding lent
  opened_sound =
      let e = zero_in b n o z in
      subst (λ (x : List ℕ). OwnedSound f.owned x) (sym (names_are b n o g z))
      (subst (λ (x : Ledger). SoundLent (record { ledger = x; leases = f.owned.records.leases; names = names_in b n })) (sym (o.ledger e))
      (subst (λ (x : List Lease). SoundLent (record { ledger = ledger_in b n; leases = x; names = names_in b n })) (sym (o.leases e)) (book_sound b n e)))

  pub opened_known : SoundFrom f.owned.ledger f.owned.records.leases (take k kept)
  opened_known = opened_sound.sound

  pub call_sound : (c : Call) {before after : List ℕ} {r : OwnedCall} → ServesOwned (serve_lent f.owned.ledger f.owned.records.leases (take k kept) c) before after r → OwnedSound r.owned (take k kept)
  call_sound c a = served_sound (take k kept) opened_sound c a

  pub half_sound : (client time : ℕ) (d : List ℕ) {r : OwnedJudged} → JudgesOwned (judge_lent f.owned.ledger f.owned.records.leases (take k kept) client time d) r → OwnedSound r.owned (take k kept)
  half_sound client time d a = judged_sound (take k kept) opened_sound client time d a
