-- Definitions: what a writer promises: which options stand in the buffer, how far it came, and in the end the whole buffer.
use Rattle.std.specs.Prelude.{◌≡◌, List, ◌++◌, ℕ, ◌+◌, ◌≤◌, length, drop}
use Rattle.octets.specs.Octets.{Wrote}
use Rattle.reply.specs.Reply.{Option, options_octets}

-- the options were written from `at` on, in at most `most` octets
pub record Put (before : List ℕ) (at : ℕ) (options : List Option) (after : List ℕ) (next most : ℕ) : Type 0 where
  pub wrote : Wrote before at (options_octets options) after next
  pub near : next ≤ at + most

-- the reply stands at the buffer's start, its length is n, and past it the buffer is as it was
pub record Replied (before reply after : List ℕ) (n : ℕ) : Type 0 where
  pub size : n ≡ length reply
  pub buffer : after ≡ reply ++ drop (length reply) before
