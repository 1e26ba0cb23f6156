-- Specimens: which options each message type allows, the value of each option and what stands for an absent one, computed from the definitions.
use Rattle.std.specs.Prelude.{◌≡◌, refl, List, [], ◌∷◌, ◌++◌, Bool, true, false, Option, is_some, unwrap_or, ℕ, zero, suc, length, replicate, eqb}
use Rattle.lists.specs.Pick.{pick}
use Rattle.lists.specs.All.{all_by, all_to}
use Rattle.lists.specs.Filter.{filter_by, is_in}
use Rattle.octets.specs.Octets.{at16, at32}
use Rattle.message.specs.Codes.{allowed_in, allows, length_ok}
use Rattle.message.specs.Walk.{layout_ok, exactly_filled, value_ok, option_taken, step_of, walk_from, walk_of}
use Rattle.message.specs.Read.{header_ok, required_empty, none_required, ended, read_of}
use Rattle.message.specs.Values.{found_at, names_server, codes_from, allowed_at, times_of, fields_of}
use Rattle.message.specs.declared.Fields.{Fields}

-- ---- "Options allowed besides 3 and 12", and End and codes above 16, of the codes from 0 to 17
onwards : ℕ → ℕ → List ℕ
onwards zero k = []
onwards (suc n) k = k ∷ onwards n (suc k)

allowed_by : ℕ → List ℕ
allowed_by kind = filter_by (allows kind) (onwards 18 0)

discover_allows : allowed_by 1 ≡ 0 ∷ 1 ∷ 3 ∷ 4 ∷ 6 ∷ 7 ∷ 10 ∷ 11 ∷ 12 ∷ 14 ∷ 15 ∷ 17 ∷ []
unfolding allowed_by onwards filter_by allows allowed_in is_in pick
discover_allows = refl

request_allows : allowed_by 3 ≡ 0 ∷ 1 ∷ 2 ∷ 3 ∷ 4 ∷ 6 ∷ 7 ∷ 10 ∷ 11 ∷ 12 ∷ 14 ∷ 15 ∷ 17 ∷ []
unfolding allowed_by onwards filter_by allows allowed_in is_in pick
request_allows = refl

renew_allows : allowed_by 4 ≡ 0 ∷ 1 ∷ 3 ∷ 6 ∷ 11 ∷ 12 ∷ 14 ∷ 15 ∷ 17 ∷ []
unfolding allowed_by onwards filter_by allows allowed_in is_in pick
renew_allows = refl

release_allows : allowed_by 7 ≡ 0 ∷ 3 ∷ 12 ∷ 17 ∷ []
unfolding allowed_by onwards filter_by allows allowed_in is_in pick
release_allows = refl

getinfo_allows : allowed_by 8 ≡ 0 ∷ 3 ∷ 5 ∷ 8 ∷ 12 ∷ 17 ∷ []
unfolding allowed_by onwards filter_by allows allowed_in is_in pick
getinfo_allows = refl

-- ---- what a datagram says to the server 10.1.1.1, in numbers
flag : Bool → ℕ
flag b = pick b 1 0

-- an option of four octets: is it there, and its value
shown : Option ℕ → List ℕ
shown w = flag (is_some w) ∷ unwrap_or w 0 ∷ []

-- type, transaction id; are all options allowed, is it for this server, was 12 sent, are 9 and 11 asked for; least, desired; Scope, Lease Time, Start Time, Current Time,
-- Minimum Lease, Maximum Start; the identifier's length and 32 octets; Requested Language: is it there, its length and 8 octets
flat : Fields → List ℕ
flat f =
    f.kind ∷ f.xid ∷ flag f.allowed ∷ flag f.ours ∷ flag f.features ∷ flag f.list_asked ∷ flag f.time_asked ∷ f.counts.least ∷ f.counts.desired ∷ shown f.scope
    ++ shown f.times.length ++ shown f.times.start ++ shown f.times.current ++ shown f.times.shortest ++ shown f.times.latest ++ f.id.len ∷ f.id.octets
    ++ flag f.language.asked ∷ f.language.len ∷ f.language.octets

record Case : Type 0 where
  octets : List ℕ
  says : List ℕ

same : List ℕ → List ℕ → Bool
same [] [] = true
same [] (y ∷ ys) = false
same (x ∷ xs) [] = false
same (x ∷ xs) (y ∷ ys) = pick (eqb x y) (same xs ys) false

-- it is read, and says just this
holds : Case → Bool
holds c = pick (eqb (read_of c.octets).discard 0) (same (flat (fields_of c.octets 0x0A010101 (read_of c.octets).message)) c.says) false

option : ℕ → List ℕ → List ℕ
option code value = 0 ∷ code ∷ 0 ∷ length value ∷ value

-- a datagram with identifier 00 41 and other options
sent : ℕ → List ℕ → List ℕ
sent kind more = 0 ∷ kind ∷ 0 ∷ 1 ∷ 1 ∷ 2 ∷ 3 ∷ 4 ∷ option 3 (0 ∷ 0x41 ∷ []) ++ more ++ 0 ∷ 0 ∷ 0 ∷ 0 ∷ []

-- no language is asked for
silent : List ℕ
silent = replicate 10 0

short : List ℕ
short = 2 ∷ 0 ∷ 0x41 ∷ replicate 30 0 ++ silent

-- nothing but the identifier, with these flags: "absent Number is least 1, desired 1", and no option of four octets is there
bare : ℕ → ℕ → ℕ → ℕ → ℕ → ℕ → Case → Case
bare kind allowed ours features list time c = record { octets = c.octets; says = kind ∷ 0x01020304 ∷ allowed ∷ ours ∷ features ∷ list ∷ time ∷ 1 ∷ 1 ∷ replicate 12 0 ++ short }

of : List ℕ → Case
of s = record { octets = s; says = [] }

-- nothing but the identifier and a language: its length and octets
spoken : ℕ → ℕ → List ℕ → List ℕ → Case
spoken kind allowed s language = record { octets = s; says = kind ∷ 0x01020304 ∷ allowed ∷ 1 ∷ 0 ∷ 0 ∷ 0 ∷ 1 ∷ 1 ∷ replicate 12 0 ++ 2 ∷ 0 ∷ 0x41 ∷ replicate 30 0 ++ 1 ∷ language }

table : List Case
table =
    -- P12's RELEASE; a GETINFO
    bare 7 1 1 0 0 0 (of (sent 7 []))
    ∷ bare 8 1 1 0 0 0 (of (sent 8 []))
    -- every option that a REQUEST may have, each with another value: Number's 00 01 is 1, and not 256
    ∷ record {
      octets =
          sent 3 (option 1 (0 ∷ 0 ∷ 14 ∷ 16 ∷ []) ++ option 2 (0 ∷ 1 ∷ 0x0A ∷ 1 ∷ 1 ∷ 1 ∷ []) ++ option 4 (0xEF ∷ 0xC0 ∷ 0 ∷ 0 ∷ []) ++ option 6 (0 ∷ 0 ∷ 7 ∷ 0xD0 ∷ []) ++ option 7 (0 ∷ 1 ∷ 1 ∷ 0 ∷ [])
          ++ option 10 (0xEF ∷ 0xC0 ∷ 0 ∷ 0 ∷ 0 ∷ 2 ∷ []) ++ option 11 (1 ∷ 2 ∷ 3 ∷ 4 ∷ []) ++ option 12 (0 ∷ 0 ∷ 0 ∷ 0 ∷ 0 ∷ 0 ∷ []) ++ option 14 (0 ∷ 0 ∷ 0 ∷ 9 ∷ []) ++ option 15 (0 ∷ 0 ∷ 1 ∷ 0 ∷ []));
      says = 3 ∷ 0x01020304 ∷ 1 ∷ 1 ∷ 1 ∷ 0 ∷ 0 ∷ 1 ∷ 256 ∷ 1 ∷ 0xEFC00000 ∷ 1 ∷ 3600 ∷ 1 ∷ 2000 ∷ 1 ∷ 0x01020304 ∷ 1 ∷ 9 ∷ 1 ∷ 256 ∷ short;
    }
    -- Lease Time 0 is there, and is 0
    ∷ record { octets = sent 4 (option 1 (0 ∷ 0 ∷ 0 ∷ 0 ∷ [])); says = 4 ∷ 0x01020304 ∷ 1 ∷ 1 ∷ 0 ∷ 0 ∷ 0 ∷ 1 ∷ 1 ∷ 0 ∷ 0 ∷ 1 ∷ 0 ∷ replicate 8 0 ++ short }
    -- test 7: another address, another family, 18 octets that begin with ours
    ∷ bare 3 1 0 0 0 0 (of (sent 3 (option 2 (0 ∷ 1 ∷ 0x0A ∷ 1 ∷ 1 ∷ 2 ∷ []))))
    ∷ bare 3 1 0 0 0 0 (of (sent 3 (option 2 (0 ∷ 2 ∷ 0x0A ∷ 1 ∷ 1 ∷ 1 ∷ []))))
    ∷ bare 3 1 0 0 0 0 (of (sent 3 (option 2 (0 ∷ 1 ∷ 0x0A ∷ 1 ∷ 1 ∷ 1 ∷ replicate 12 0))))
    -- Option Request List: 9; 11; both behind others; their octets turned round
    ∷ bare 8 1 1 0 1 0 (of (sent 8 (option 5 (0 ∷ 9 ∷ []))))
    ∷ bare 8 1 1 0 0 1 (of (sent 8 (option 5 (0 ∷ 11 ∷ []))))
    ∷ bare 8 1 1 0 1 1 (of (sent 8 (option 5 (0 ∷ 10 ∷ 0 ∷ 11 ∷ 1 ∷ 9 ∷ 0 ∷ 9 ∷ []))))
    ∷ bare 8 1 1 0 0 0 (of (sent 8 (option 5 (9 ∷ 0 ∷ 11 ∷ 0 ∷ []))))
    -- an option that isn't allowed: 5 in a REQUEST, 8 in a RELEASE; a code above 16 is allowed everywhere
    ∷ bare 3 0 1 0 1 0 (of (sent 3 (option 5 (0 ∷ 9 ∷ []))))
    ∷ spoken 7 0 (sent 7 (option 8 (0 ∷ []))) (1 ∷ replicate 8 0)
    ∷ bare 7 1 1 0 0 0 (of (sent 7 (option 17 (0 ∷ []))))
    -- Lease Identifier: 32 octets, and zeros, which are octets like any other
    ∷ record {
      octets = 0 ∷ 7 ∷ 0 ∷ 1 ∷ 1 ∷ 2 ∷ 3 ∷ 4 ∷ option 3 (replicate 31 7 ++ 8 ∷ []) ++ 0 ∷ 0 ∷ 0 ∷ 0 ∷ [];
      says = 7 ∷ 0x01020304 ∷ 1 ∷ 1 ∷ 0 ∷ 0 ∷ 0 ∷ 1 ∷ 1 ∷ replicate 12 0 ++ 32 ∷ replicate 31 7 ++ 8 ∷ silent;
    }
    ∷ record {
      octets = 0 ∷ 7 ∷ 0 ∷ 1 ∷ 1 ∷ 2 ∷ 3 ∷ 4 ∷ option 3 (replicate 3 0) ++ 0 ∷ 0 ∷ 0 ∷ 0 ∷ [];
      says = 7 ∷ 0x01020304 ∷ 1 ∷ 1 ∷ 0 ∷ 0 ∷ 0 ∷ 1 ∷ 1 ∷ replicate 12 0 ++ 3 ∷ replicate 32 0 ++ silent;
    }
    -- Requested Language: "de"; eight octets; of nine, its length and the first eight
    ∷ spoken 8 1 (sent 8 (option 8 (0x64 ∷ 0x65 ∷ []))) (2 ∷ 0x64 ∷ 0x65 ∷ replicate 6 0)
    ∷ spoken 8 1 (sent 8 (option 8 (1 ∷ 2 ∷ 3 ∷ 4 ∷ 5 ∷ 6 ∷ 7 ∷ 8 ∷ []))) (8 ∷ 1 ∷ 2 ∷ 3 ∷ 4 ∷ 5 ∷ 6 ∷ 7 ∷ 8 ∷ [])
    ∷ spoken 8 1 (sent 8 (option 8 (1 ∷ 2 ∷ 3 ∷ 4 ∷ 5 ∷ 6 ∷ 7 ∷ 8 ∷ 9 ∷ []))) (9 ∷ 1 ∷ 2 ∷ 3 ∷ 4 ∷ 5 ∷ 6 ∷ 7 ∷ 8 ∷ [])
    ∷ []

values : all_by holds table ≡ true
unfolding flag shown flat same holds option sent silent short bare of spoken table pick all_by all_to filter_by is_in at16 at32 length_ok allowed_in allows layout_ok exactly_filled value_ok option_taken step_of walk_from walk_of header_ok required_empty none_required ended read_of found_at names_server codes_from allowed_at times_of fields_of
values = refl
