-- Laws: what a host is told of a salvage: 0 and both lengths, or a refusal's number and none.
use Rattle.std.specs.Prelude.{List, ℕ, ◌≡◌, Result, Ok, Err}
use Rattle.std.proofs.Common.{subst, sym}
use Rattle.salvage_file.specs.Salvage.{Salvage}
use Rattle.salvage_file.specs.Walk.{Answers, Salvages, number_of}
use Rattle.salvage_file.specs.declared.Refusal.{Refusal}
use Rattle.salvage_file.specs.declared.Salvaged.{Salvaged}

module _ {a : Salvage} {room list room' list' : List ℕ} {r : Result Salvaged Refusal} (v : Answers a room list room' list' r) where
  pub salvage_told : {t : Salvaged} → r ≡ Ok t → Salvages a room list room' list' 0 t.length t.listed
  unfolding Answers
  salvage_told e = subst (λ (x : Result Salvaged Refusal). Answers a room list room' list' x) e v

  pub salvage_refused : {i : Refusal} {k : ℕ} → r ≡ Err i → k ≡ number_of i → Salvages a room list room' list' k 0 0
  unfolding Answers
  salvage_refused e g = subst (λ (n : ℕ). Salvages a room list room' list' n 0 0) (sym g) (subst (λ (x : Result Salvaged Refusal). Answers a room list room' list' x) e v)
