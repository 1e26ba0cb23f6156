-- Definitions: the values of a message's options, and what stands for an absent one (document 01).
use Rattle.std.specs.Prelude.{ℕ, zero, suc, ◌+◌, ◌-◌, ◌/◌, min, List, [], ◌∷◌, ◌++◌, Bool, true, false, ◌&&◌, Option, Some, None, is_some, option_map, get_or, take, drop, replicate, eqb}
use Rattle.lists.specs.Pick.{pick}
use Rattle.lists.specs.All.{all_to}
use Rattle.octets.specs.Octets.{at16, at32}
use Rattle.lists.specs.Filter.{is_in}
use Rattle.message.specs.Codes.{allows}
use Rattle.message.specs.Walk.{length_at}
use Rattle.message.specs.declared.Counts.{Counts}
use Rattle.message.specs.declared.Fields.{Fields}
use Rattle.message.specs.declared.Identifier.{Identifier}
use Rattle.message.specs.declared.Language.{Language}
use Rattle.message.specs.declared.Message.{Message}
use Rattle.message.specs.declared.Times.{Times}

-- where the option with a code from 1 to 16 stands; place 0 is that of no option
unfoldable pub found_at : ℕ → Option ℕ
found_at at = pick (eqb at 0) None (Some at)

abbrev pub find_of : List ℕ → ℕ → Option ℕ
find_of places code = found_at (get_or places code 0)

-- Number: least(2), desired(2); "absent Number is least 1, desired 1"
abbrev pub counts_at : List ℕ → ℕ → Counts
counts_at s at = record { least = at16 s (at + 4); desired = at16 s (at + 6) }

abbrev pub counts_of : List ℕ → Option ℕ → Counts
counts_of s (Some at) = counts_at s at
counts_of s None = record { least = 1; desired = 1 }

-- Server Identifier: the six octets of family 1 and our address
unfoldable pub names_server : List ℕ → ℕ → ℕ → Bool
names_server s server at = eqb (length_at s at) 6 && (eqb (at16 s (at + 4)) 1 && eqb (at32 s (at + 6)) server)

-- test 7, asked of a REQUEST: it passes if option 2 is absent or is ours
abbrev pub server_ok : List ℕ → ℕ → Option ℕ → Bool
server_ok s server (Some at) = names_server s server at
server_ok s server None = true

-- the k codes of two octets from p on
unfoldable pub codes_from : List ℕ → ℕ → ℕ → List ℕ
codes_from s p zero = []
codes_from s p (suc k) = at16 s p ∷ codes_from s (p + 2) k

-- Option Request List: does it name a code
abbrev pub names_of : List ℕ → ℕ → Option ℕ → Bool
names_of s code (Some at) = is_in code (codes_from s (at + 4) (length_at s at / 2))
names_of s code None = false

-- n octets and zeros up to a size
abbrev pub padded : ℕ → ℕ → List ℕ → List ℕ
padded size n v = take n v ++ replicate (size - n) 0

-- Lease Identifier, opaque
abbrev pub identifier_at : List ℕ → ℕ → Identifier
identifier_at s at = record { octets = padded 32 (length_at s at) (drop (at + 4) s); len = length_at s at }

abbrev pub identifier_of : List ℕ → Option ℕ → Identifier
identifier_of s (Some at) = identifier_at s at
identifier_of s None = record { octets = replicate 32 0; len = 0 }

-- "the language asked for by option 8" (document 02): its length, and its octets, of which no more than eight are kept, since "tags [have] at
-- most 8" and match "octet for octet": a longer one matches none
abbrev pub language_at : List ℕ → ℕ → Language
language_at s at = record { asked = true; len = length_at s at; octets = padded 8 (min (length_at s at) 8) (drop (at + 4) s) }

abbrev pub language_of : List ℕ → Option ℕ → Language
language_of s (Some at) = language_at s at
language_of s None = record { asked = false; len = 0; octets = replicate 8 0 }

-- error 1's "an option that isn't allowed": every option that is there is one that the message type allows
unfoldable pub allowed_at : ℕ → List ℕ → ℕ → Bool
allowed_at kind places code = pick (is_some (find_of places code)) (allows kind code) true

abbrev pub all_allowed : Message → Bool
all_allowed m = all_to (allowed_at m.kind.number m.places) 17

-- ---- all values of a message

-- the value of an option of four octets, if it is there
abbrev pub wish_of : List ℕ → Option ℕ → Option ℕ
wish_of s = option_map (λ at. at32 s (at + 4))

-- Lease Time, Start Time, Current Time, Minimum Lease, Maximum Start
unfoldable pub times_of : List ℕ → List ℕ → Times
times_of s places = record {
  length = wish_of s (find_of places 1);
  start = wish_of s (find_of places 6);
  current = wish_of s (find_of places 11);
  shortest = wish_of s (find_of places 14);
  latest = wish_of s (find_of places 15);
}

-- what a datagram says, to the server at an address
unfoldable pub fields_of : List ℕ → ℕ → Message → Fields
fields_of s server m = record {
  kind = m.kind.number;
  xid = m.xid;
  id = identifier_of s (find_of m.places 3);
  allowed = all_allowed m;
  scope = wish_of s (find_of m.places 4);
  counts = counts_of s (find_of m.places 7);
  times = times_of s m.places;
  features = is_some (find_of m.places 12);
  ours = server_ok s server (find_of m.places 2);
  list_asked = names_of s 9 (find_of m.places 5);
  time_asked = names_of s 11 (find_of m.places 5);
  language = language_of s (find_of m.places 8);
}
