-- Specimens: datagrams, the discard and the offset that each gets, and where options 1 and 3 stand, computed from the definitions: one table, one theorem.
use mathlib.Core.Path.{◌≡◌, refl}
use mathlib.Core.List.{List, [], ◌∷◌, ◌++◌}
use mathlib.Core.Bool.{Bool, true, false}
use Prim.Native.Nat.{ℕ}
use lib.ListN.{get_or, replicate}
use lib.Dec.{eqb}
use Rattle.lists.specs.Pick.{pick}
use Rattle.lists.specs.All.{all_by}
use Rattle.octets.specs.Octets.{at16, at32}
use Rattle.lists.specs.Filter.{is_in}
use Rattle.message.specs.Codes.{length_ok}
use Rattle.message.specs.Walk.{layout_ok, exactly_filled, value_ok, option_taken, step_of, walk_from, walk_of}
use Rattle.message.specs.Read.{header_ok, required_empty, none_required, ended, read_of}

-- a datagram, the number of its discard (0: it is a message), the offset that discard 5 reports, and where options 1 and 3 stand
record Case : Type 0 where
  octets : List ℕ
  discard : ℕ
  fault : ℕ
  lease_time : ℕ
  identifier : ℕ

both : Bool → Bool → Bool
both a b = pick a b false

holds : Case → Bool
holds c =
    both (eqb (read_of c.octets).discard c.discard)
    (both (eqb (read_of c.octets).fault c.fault)
    (both (eqb (get_or (read_of c.octets).message.places 1 0) c.lease_time) (eqb (get_or (read_of c.octets).message.places 3 0) c.identifier)))

-- discarded with a number and an offset
bad : List ℕ → ℕ → ℕ → Case
bad s number fault = record { octets = s; discard = number; fault = fault; lease_time = 0; identifier = 0 }

good : List ℕ → ℕ → ℕ → Case
good s lease_time identifier = record { octets = s; discard = 0; fault = 0; lease_time = lease_time; identifier = identifier }

header : List ℕ
header = 0 ∷ 3 ∷ 0 ∷ 1 ∷ 1 ∷ 2 ∷ 3 ∷ 4 ∷ []

id : List ℕ
id = 0 ∷ 3 ∷ 0 ∷ 2 ∷ 0 ∷ 0x41 ∷ []

time : List ℕ
time = 0 ∷ 1 ∷ 0 ∷ 4 ∷ 0 ∷ 0 ∷ 14 ∷ 16 ∷ []

end : List ℕ
end = 0 ∷ 0 ∷ 0 ∷ 0 ∷ []

-- an option above 16, of n octets
unknown : ℕ → List ℕ
unknown n = 1 ∷ 1 ∷ 0 ∷ n ∷ replicate n 9

-- option 12 with one code supported, none requested and none required
features : List ℕ
features = 0 ∷ 12 ∷ 0 ∷ 8 ∷ 0 ∷ 1 ∷ 0 ∷ 1 ∷ 0 ∷ 0 ∷ 0 ∷ 0 ∷ []

-- the option with a code and n octets of value
any : ℕ → ℕ → List ℕ
any code n = 0 ∷ code ∷ 0 ∷ n ∷ replicate n 7

table : List Case
table =
    -- P10: 11 octets
    bad (replicate 11 0) 4 0
    -- P11: header and End alone
    ∷ bad (header ++ end) 5 12
    -- nothing; 1,473 octets; version 1; family 2; OFFER
    ∷ bad [] 4 0
    ∷ bad (header ++ id ++ replicate 1459 0) 4 0
    ∷ bad (1 ∷ 3 ∷ 0 ∷ 1 ∷ 1 ∷ 2 ∷ 3 ∷ 4 ∷ id ++ end) 4 0
    ∷ bad (0 ∷ 3 ∷ 0 ∷ 2 ∷ 1 ∷ 2 ∷ 3 ∷ 4 ∷ id ++ end) 4 0
    ∷ bad (0 ∷ 2 ∷ 0 ∷ 1 ∷ 1 ∷ 2 ∷ 3 ∷ 4 ∷ id ++ end) 4 0
    -- options in any order; codes above 16 may repeat
    ∷ good (header ++ time ++ id ++ end) 8 16
    ∷ good (header ++ id ++ unknown 5 ++ time ++ unknown 0 ++ end) 23 8
    -- test 5, a rule each: an option longer than the datagram, octets left over, no End, an early End, a second End
    ∷ bad (header ++ id ++ 1 ∷ 1 ∷ 0 ∷ 5 ∷ end) 5 14
    ∷ bad (header ++ id ++ 0 ∷ 0 ∷ []) 5 14
    ∷ bad (header ++ id ++ time) 5 22
    ∷ bad (header ++ id ++ end ++ time ++ end) 5 14
    ∷ bad (header ++ id ++ end ++ end) 5 14
    -- a repeat (the later), a wrong length, an identifier of one octet, an odd list of codes, no identifier
    ∷ bad (header ++ time ++ id ++ time ++ end) 5 22
    ∷ bad (header ++ id ++ 0 ∷ 1 ∷ 0 ∷ 3 ∷ 0 ∷ 0 ∷ 9 ∷ end) 5 14
    ∷ bad (header ++ time ++ 0 ∷ 3 ∷ 0 ∷ 1 ∷ 7 ∷ end) 5 16
    ∷ bad (header ++ id ++ 0 ∷ 5 ∷ 0 ∷ 3 ∷ 0 ∷ 9 ∷ 0 ∷ end) 5 14
    ∷ bad (header ++ time ++ end) 5 20
    -- the longest identifier, and one octet more; 18 octets of option 2, and 7; one range, and one octet more; no codes asked for; an empty language
    ∷ good (header ++ any 3 32 ++ end) 0 8
    ∷ bad (header ++ any 3 33 ++ end) 5 8
    ∷ good (header ++ id ++ any 2 18 ++ any 10 6 ++ end) 0 8
    ∷ bad (header ++ id ++ any 2 7 ++ end) 5 14
    ∷ bad (header ++ id ++ any 10 7 ++ end) 5 14
    ∷ bad (header ++ id ++ any 5 0 ++ end) 5 14
    ∷ bad (header ++ id ++ any 8 0 ++ end) 5 14
    -- code 16 twice, 17 twice; End with a value; one and three octets left over; an early End with octets left over
    ∷ bad (header ++ id ++ any 16 2 ++ any 16 2 ++ end) 5 20
    ∷ good (header ++ any 17 3 ++ any 17 3 ++ id ++ end) 0 22
    ∷ bad (header ++ id ++ 0 ∷ 0 ∷ 0 ∷ 1 ∷ 0 ∷ []) 5 14
    ∷ bad (header ++ id ++ 0 ∷ []) 5 14
    ∷ bad (header ++ id ++ end ++ 0 ∷ 0 ∷ 0 ∷ []) 5 14
    -- a wrong length before a missing identifier: the first counts; 1,472 octets
    ∷ bad (header ++ any 1 3 ++ end) 5 8
    ∷ good (header ++ id ++ 1 ∷ 1 ∷ 5 ∷ 166 ∷ replicate 1446 9 ++ end) 0 8
    -- option 12 with a list that runs past its value, and with an octet pair left over
    ∷ bad (header ++ id ++ 0 ∷ 12 ∷ 0 ∷ 6 ∷ 0 ∷ 0 ∷ 0 ∷ 1 ∷ 0 ∷ 0 ∷ end) 5 14
    ∷ bad (header ++ id ++ 0 ∷ 12 ∷ 0 ∷ 8 ∷ 0 ∷ 0 ∷ 0 ∷ 0 ∷ 0 ∷ 0 ∷ 0 ∷ 0 ∷ end) 5 14
    -- test 6: a required feature; and none
    ∷ bad (header ++ id ++ 0 ∷ 12 ∷ 0 ∷ 8 ∷ 0 ∷ 0 ∷ 0 ∷ 0 ∷ 0 ∷ 1 ∷ 0 ∷ 7 ∷ end) 6 0
    ∷ good (header ++ id ++ features ++ end) 0 8
    ∷ []

specimens : all_by holds table ≡ true
unfolding at16 at32 pick all_by both holds bad good header id time end unknown features any table is_in length_ok layout_ok exactly_filled value_ok option_taken step_of walk_from walk_of header_ok required_empty none_required ended read_of
specimens = refl
