-- Definitions: what the salvage promises of its answer and of both rooms.
use Rattle.std.specs.Prelude.{List, ◌++◌, ◌≡◌, ℕ, length, drop, Result, Ok, Err}
use Rattle.salvage_file.specs.Salvage.{Salvage}
use Rattle.salvage_file.specs.declared.Refusal.{Refusal}
use Rattle.salvage_file.specs.declared.Refusal.TheVariants.{WrongForm, ShortRoom, UnsoundSettings}
use Rattle.salvage_file.specs.declared.Salvaged.{Salvaged}

-- the number of each refusal
abbrev pub number_of : Refusal → ℕ
number_of WrongForm = 20
number_of ShortRoom = 23
number_of UnsoundSettings = 25

-- ---- the answer: the number, and the octets of the new file and of the list in front of their rooms, past them what these held. A refusal has neither: it writes
-- nothing
pub record Salvages (a : Salvage) (room list room' list' : List ℕ) (number n m : ℕ) : Type 0 where
  pub refusal : number ≡ a.refusal
  pub long : n ≡ length a.file
  pub listed : m ≡ length a.list
  pub file : room' ≡ a.file ++ drop (length a.file) room
  pub dropped : list' ≡ a.list ++ drop (length a.list) list

-- the same of an answer: 0 and both lengths, or a refusal's number and none
unfoldable pub Answers : Salvage → List ℕ → List ℕ → List ℕ → List ℕ → Result Salvaged Refusal → Type 0
Answers a room list room' list' (Ok t) = Salvages a room list room' list' 0 t.length t.listed
Answers a room list room' list' (Err e) = Salvages a room list room' list' (number_of e) 0 0
