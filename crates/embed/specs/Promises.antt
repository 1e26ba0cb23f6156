-- Definitions: what each function promises of its answer and of what was lent to it.
use Rattle.std.specs.Prelude.{ℕ, ◌-◌, ◌≤◌, ◌≡◌, List, [], ◌∷◌, ◌++◌, drop, length, take}
use Rattle.server.specs.declared.Outcome.{Outcome}
use Rattle.server.specs.Serve.{Said, Tells}
use Rattle.state_file.specs.StateFile.{book_in, names_of, read_file, refusal_number}
use Rattle.records.specs.Lent.{ledger_from}
use Rattle.records.specs.Records.{records_of}
use Rattle.embed.specs.declared.Opening.{Opening}
use Rattle.embed.specs.Embed.{Filed, largest_names, ledger_in, leases_in, names_in, refusal_in}

-- the book of a file that is opened, and its names by where they stand
pub record OpenedFile (s : List ℕ) (r : Opening) : Type 0 where
  pub refusal : r.refusal ≡ refusal_number (read_file s)
  pub ledger : refusal_number (read_file s) ≡ 0 → r.owned.ledger ≡ ledger_from (book_in (read_file s))
  pub leases : refusal_number (read_file s) ≡ 0 → r.owned.records.leases ≡ records_of (book_in (read_file s)).table
  pub order : r.from ≤ r.end
  pub within : r.end ≤ length s
  pub names : refusal_number (read_file s) ≡ 0 → take (r.end - r.from) (drop r.from s) ≡ names_of s

-- the same of the first n octets of a buffer
pub record Opened (b : List ℕ) (n : ℕ) (r : Opening) : Type 0 where
  pub refusal : r.refusal ≡ refusal_in b n
  pub ledger : refusal_in b n ≡ 0 → r.owned.ledger ≡ ledger_in b n
  pub leases : refusal_in b n ≡ 0 → r.owned.records.leases ≡ leases_in b n
  pub order : r.from ≤ r.end
  pub within : r.end ≤ length b
  pub names : refusal_in b n ≡ 0 → take (r.end - r.from) (drop r.from b) ≡ names_in b n

-- names, copied to the front of a buffer: the first r octets of it. Names longer than `largest_names` are cut there; an accepted file has none so long
pub record Keeps (names kept : List ℕ) (r : ℕ) : Type 0 where
  pub within : r ≤ length kept
  pub front : take r kept ≡ take largest_names names

-- the file's buffer and length afterwards
pub record Files (a : Filed) (b : List ℕ) (n : ℕ) : Type 0 where
  pub file : b ≡ a.buffer
  pub long : n ≡ a.length

-- what of it the caller of one call is told
abbrev pub filed_said : Filed → Said
filed_said a = record { outcome = a.number; offset = a.offset; count = a.count; reply = a.out }

pub record ServesFile (a : Filed) (b : List ℕ) (n : ℕ) (before after : List ℕ) (r : Outcome) : Type 0 where
  pub tells : Tells (filed_said a) before after r
  pub files : Files a b n

-- a room of their size with octets that are handed out, or with what stood there where there are none
unfoldable pub handed_out : List ℕ → List ℕ → List ℕ
handed_out [] before = before
handed_out (x ∷ xs) before = x ∷ xs

-- of the first half the number, the file, and every octet of the verdict's room, which a refusal leaves as it was
pub record JudgesFile (a : Filed) (b : List ℕ) (n : ℕ) (before after : List ℕ) (r : ℕ) : Type 0 where
  pub number : r ≡ a.number
  pub verdict : after ≡ handed_out a.out before
  pub files : Files a b n

-- the number, the octets of calls used, those of answers filled with every octet of their room, and the file
pub record ReplaysFile (a : Filed) (b : List ℕ) (n u : ℕ) (before after : List ℕ) (k r : ℕ) : Type 0 where
  pub number : r ≡ a.number
  pub used : u ≡ a.used
  pub filled : k ≡ length a.out
  pub answers : after ≡ a.out ++ drop (length a.out) before
  pub files : Files a b n
