-- Definitions: a verdict (document 02, W-208) as octets, which a host keeps between the two halves of a call, and prints. Numbers have their high octet first; at
-- 0 outcome(1), 1 reply(1: 0 none, 1 OFFER, 2 ACK with a lease, 3 ACK to a RELEASE, 4 ACK to a GETINFO, 5 NAK), 2 a NAK's error(1), 3 scope(1, from 1), 4 the
-- offset that goes with discard 5 (2), 6 house(1, its place counted from 0), 7 transaction id(4), 11 start(4), 15 end(4), 19 addresses(8, the set as a
-- number: bit a for the scope's address a), 27 features(1), 28 list asked(1), 29 time asked(1), 30 language asked(1), 31 language length(2), 33 language
-- octets(8), 41 identifier length(1), 42 identifier octets(32), 74 how many records were read for it (1, W-210). A house is a tenant here.
use Rattle.std.specs.Prelude.{Bool, not, List, [], ◌++◌, ◌∷◌, ◌≡◌, ◌%◌, ◌*◌, ◌+◌, ◌/◌, ◌<◌, ℕ, eqb, drop, get_or, length, take}
use Rattle.lists.specs.Pick.{pick}
use Rattle.octets.specs.Octets.{at16, at32, octets16, octets32}
use Rattle.message.specs.declared.Identifier.{Identifier}
use Rattle.message.specs.declared.Language.{Language}
use Rattle.decision.specs.declared.Reply.{Reply}
use Rattle.decision.specs.declared.Reply.TheVariants.{InfoAck, LeaseAck, Nak, Nothing, Offer, ReleaseAck}
use Rattle.decision.specs.declared.Verdict.{Verdict}
use Rattle.server.specs.declared.Ruling.{Ruling}

-- ---- written
abbrev pub reply_number : Reply → ℕ
reply_number Nothing = 0
reply_number Offer = 1
reply_number LeaseAck = 2
reply_number ReleaseAck = 3
reply_number InfoAck = 4
reply_number Nak = 5

unfoldable pub flag_of : Bool → ℕ
flag_of b = pick b 1 0

unfoldable pub outcome_octets : Verdict → List ℕ
outcome_octets v = v.outcome ∷ reply_number v.reply ∷ v.error ∷ v.scope ∷ []

unfoldable pub place_octets : ℕ → ℕ → List ℕ
place_octets offset tenant = octets16 offset ++ (tenant % 256 ∷ [])

-- the set's high 32 bits before its low ones
unfoldable pub number_octets : ℕ → Verdict → List ℕ
number_octets xid v = octets32 xid ++ octets32 v.start ++ octets32 v.end ++ octets32 (v.addresses / 4294967296) ++ octets32 v.addresses

unfoldable pub asked_octets : Ruling → List ℕ
asked_octets r = flag_of r.features ∷ flag_of r.list_asked ∷ flag_of r.time_asked ∷ []

unfoldable pub language_octets : Language → List ℕ
language_octets l = flag_of l.asked ∷ octets16 l.len ++ l.octets

unfoldable pub identifier_octets : Identifier → List ℕ
identifier_octets i = i.len ∷ i.octets

-- document 02, W-210
unfoldable pub last_octets : Ruling → List ℕ
last_octets r = identifier_octets r.id ++ (r.count % 256 ∷ [])

unfoldable pub verdict_octets : Ruling → List ℕ
verdict_octets r =
    outcome_octets r.verdict ++ place_octets r.offset r.tenant ++ number_octets r.xid r.verdict ++ asked_octets r ++ language_octets r.language ++ last_octets r

-- ---- read back
-- another number than 1 to 5 is none
unfoldable pub reply_for : ℕ → Reply
reply_for n =
    pick (eqb n 1) Offer (pick (eqb n 2) LeaseAck (pick (eqb n 3) ReleaseAck (pick (eqb n 4) InfoAck (pick (eqb n 5) Nak Nothing))))

-- another number than 0 is true
abbrev pub is_set : ℕ → Bool
is_set n = not (eqb n 0)

unfoldable pub set_at : List ℕ → ℕ → ℕ
set_at s at = at32 s at * 4294967296 + at32 s (at + 4)

-- the n octets from a place on
abbrev pub run : List ℕ → ℕ → ℕ → List ℕ
run s at n = take n (drop at s)

abbrev pub verdict_in : List ℕ → Verdict
verdict_in s = record {
  outcome = get_or s 0 0;
  reply = reply_for (get_or s 1 0);
  error = get_or s 2 0;
  scope = get_or s 3 0;
  start = at32 s 11;
  end = at32 s 15;
  addresses = set_at s 19;
}

abbrev pub language_in : List ℕ → Language
language_in s = record { asked = is_set (get_or s 30 0); len = at16 s 31; octets = run s 33 8 }

abbrev pub identifier_in : List ℕ → Identifier
identifier_in s = record { octets = run s 42 32; len = get_or s 41 0 }

unfoldable pub ruling_in : List ℕ → Ruling
ruling_in s = record {
  verdict = verdict_in s;
  offset = at16 s 4;
  count = get_or s 74 0;
  tenant = get_or s 6 0;
  xid = at32 s 7;
  id = identifier_in s;
  features = is_set (get_or s 27 0);
  list_asked = is_set (get_or s 28 0);
  time_asked = is_set (get_or s 29 0);
  language = language_in s;
}

-- ---- of which verdicts that is the same verdict again: those with the numbers and arrays of their types, as all that code has,
pub record TypedRuling (r : Ruling) : Type 0 where
  pub xid : r.xid < 4294967296
  pub start : r.verdict.start < 4294967296
  pub end : r.verdict.end < 4294967296
  pub addresses : r.verdict.addresses < 18446744073709551616
  pub tag : length r.language.octets ≡ 8
  pub identifier : length r.id.octets ≡ 32

-- whose offset and language length are below 65,536 and whose tenant and count are below 256, as the first half's are
pub record Holds (r : Ruling) : Type 0 where
  pub offset : r.offset < 65536
  pub count : r.count < 256
  pub tenant : r.tenant < 256
  pub language : r.language.len < 65536

-- "read back it is the same verdict"
unfoldable pub ReadBack : Type 0
ReadBack = (r : Ruling) → TypedRuling r → Holds r → ruling_in (verdict_octets r) ≡ r
