-- Specimens: the octets of verdicts by computation, and what octets that no verdict has are read as.
use mathlib.Core.Bool.{false, true}
use mathlib.Core.List.{List, [], ◌++◌, ◌∷◌}
use mathlib.Core.Path.{◌≡◌, refl}
use Prim.Native.Nat.{ℕ}
use lib.ListN.{replicate}
use Rattle.lists.specs.Pick.{pick}
use Rattle.octets.specs.Octets.{at16, at32}
use Rattle.decision.specs.Verdicts.{discard_with}
use Rattle.decision.specs.declared.Reply.TheVariants.{InfoAck, Nothing, Offer}
use Rattle.server.specs.Halves.{discard_ruling}
use Rattle.server.specs.declared.Ruling.{Ruling}
use Rattle.verdict_octets.specs.Octets.{asked_octets, flag_of, identifier_octets, language_octets, last_octets, number_octets, outcome_octets, place_octets, reply_for, ruling_in, set_at, verdict_octets}

-- discard 5 at octet 23
discard_octets : verdict_octets (discard_ruling 5 23) ≡ (5 ∷ 0 ∷ 0 ∷ 0 ∷ 0 ∷ 23 ∷ []) ++ replicate 69 0
unfolding verdict_octets outcome_octets place_octets number_octets asked_octets language_octets identifier_octets last_octets flag_of discard_with pick
discard_octets = refl

-- an OFFER to the third house, for which 5 records were read: in scope 2 from 1,000 to 4,600 the addresses 0, 1 and 63; the client sent features and an identifier of three octets
offer : Ruling
offer = record {
  verdict = record { outcome = 0; reply = Offer; error = 0; scope = 2; start = 1000; end = 4600; addresses = 9223372036854775811 };
  offset = 0;
  count = 5;
  tenant = 2;
  xid = 16909060;
  id = record { octets = 7 ∷ 8 ∷ 9 ∷ replicate 29 0; len = 3 };
  features = true;
  list_asked = false;
  time_asked = false;
  language = record { asked = false; len = 0; octets = replicate 8 0 };
}

offer_octets : List ℕ
offer_octets =
    (0 ∷ 1 ∷ 0 ∷ 2 ∷ 0 ∷ 0 ∷ 2 ∷ 1 ∷ 2 ∷ 3 ∷ 4 ∷ 0 ∷ 0 ∷ 3 ∷ 232 ∷ 0 ∷ 0 ∷ 17 ∷ 248 ∷ 128 ∷ 0 ∷ 0 ∷ 0 ∷ 0 ∷ 0 ∷ 0 ∷ 3 ∷ 1 ∷ [])
    ++ replicate 13 0 ++ (3 ∷ 7 ∷ 8 ∷ 9 ∷ replicate 29 0) ++ (5 ∷ [])

offer_octets_law : verdict_octets offer ≡ offer_octets
unfolding verdict_octets outcome_octets place_octets number_octets asked_octets language_octets identifier_octets last_octets flag_of pick offer offer_octets
offer_octets_law = refl

offer_back : ruling_in offer_octets ≡ offer
unfolding ruling_in set_at at16 at32 reply_for pick offer offer_octets
offer_back = refl

-- an ACK to a GETINFO that names options 9 and 11 and asks for the language "en-GB"
info : Ruling
info = record {
  verdict = record { outcome = 0; reply = InfoAck; error = 0; scope = 0; start = 0; end = 0; addresses = 0 };
  offset = 0;
  count = 0;
  tenant = 0;
  xid = 255;
  id = record { octets = 1 ∷ 2 ∷ replicate 30 0; len = 2 };
  features = false;
  list_asked = true;
  time_asked = true;
  language = record { asked = true; len = 5; octets = 101 ∷ 110 ∷ 45 ∷ 71 ∷ 66 ∷ 0 ∷ 0 ∷ 0 ∷ [] };
}

info_octets : verdict_octets info
    ≡ (0 ∷ 4 ∷ replicate 8 0) ++ (255 ∷ replicate 17 0) ++ (1 ∷ 1 ∷ 1 ∷ 0 ∷ 5 ∷ 101 ∷ 110 ∷ 45 ∷ 71 ∷ 66 ∷ 0 ∷ 0 ∷ 0 ∷ 2 ∷ 1 ∷ 2 ∷ replicate 31 0)
unfolding verdict_octets outcome_octets place_octets number_octets asked_octets language_octets identifier_octets last_octets flag_of pick info
info_octets = refl

-- octets that no verdict has: a reply's number of 255 is none, and a flag of 255 is true
made_up : ruling_in (replicate 75 255)
    ≡ record {
      verdict = record { outcome = 255; reply = Nothing; error = 255; scope = 255; start = 4294967295; end = 4294967295; addresses = 18446744073709551615 };
      offset = 65535;
      count = 255;
      tenant = 255;
      xid = 4294967295;
      id = record { octets = replicate 32 255; len = 255 };
      features = true;
      list_asked = true;
      time_asked = true;
      language = record { asked = true; len = 65535; octets = replicate 8 255 };
    }
unfolding ruling_in set_at at16 at32 reply_for pick
made_up = refl
