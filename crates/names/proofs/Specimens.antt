-- Specimens: which octets are a section of names, and which name is sent, computed from the definitions.
use mathlib.Core.Path.{◌≡◌, refl}
use mathlib.Core.List.{List, [], ◌∷◌, ◌++◌}
use mathlib.Core.Bool.{Bool, true, false, not}
use Prim.Native.Nat.{ℕ, ◌-◌}
use lib.ListN.{length, replicate}
use Rattle.lists.specs.Pick.{pick}
use Rattle.lists.specs.All.{all_by}
use Rattle.format.specs.Format.{read_octet, read_times, then, write_all}
use Rattle.format.specs.Place.{is_whole}
use Rattle.message.specs.declared.Language.{Language}
use Rattle.names.specs.Names.{chosen_of, default_of, first_by, in_language, lists_in, match_of, names_b, or_else, same, sent_for, shown, sizes_ok, value_or}

name : ℕ → List ℕ → List ℕ → List ℕ
name flags tag text = flags ∷ length tag ∷ tag ++ length text ∷ text

-- the tags de, en and en-GB, and tags of eight octets that differ in the last
de : List ℕ
de = 0x64 ∷ 0x65 ∷ []

en : List ℕ
en = 0x65 ∷ 0x6E ∷ []

en_gb : List ℕ
en_gb = 0x65 ∷ 0x6E ∷ 0x2D ∷ 0x47 ∷ 0x42 ∷ []

eight : ℕ → List ℕ
eight x = replicate 7 0x61 ++ x ∷ []

-- ---- which octets are a section
record Case : Type 0 where
  scopes : ℕ
  houses : ℕ
  octets : List ℕ

of : ℕ → ℕ → List ℕ → Case
of k h s = record { scopes = k; houses = h; octets = s }

is_good : Case → Bool
is_good c = names_b c.scopes c.houses c.octets

is_bad : Case → Bool
is_bad c = not (is_good c)

good : List Case
good =
    -- no scope; a scope of one house without names; of three houses
    of 0 8 (0 ∷ [])
    ∷ of 1 1 (1 ∷ 0 ∷ 0 ∷ [])
    ∷ of 1 3 (1 ∷ 0 ∷ 0 ∷ 0 ∷ 0 ∷ [])
    -- two scopes of one house: campus, house, campus, house
    ∷ of 2 1 (2 ∷ 1 ∷ name 0 de (1 ∷ []) ++ 0 ∷ 0 ∷ 1 ∷ name 128 en (2 ∷ []))
    -- four names; two of one tag, two flagged 128, equal ones
    ∷ of 1 0 (1 ∷ 4 ∷ name 128 en (1 ∷ []) ++ name 0 en (2 ∷ []) ++ name 128 de (3 ∷ []) ++ name 128 en (1 ∷ []))
    -- a tag of 8 and a text of 32 octets; octets that are no letters
    ∷ of 1 0 (1 ∷ 1 ∷ name 0 (eight 0x61) (replicate 32 7))
    ∷ of 1 0 (1 ∷ 1 ∷ name 0 (0 ∷ []) (255 ∷ []))
    -- counts that no sound book has: 9 houses, 5 scopes
    ∷ of 1 9 (1 ∷ replicate 10 0)
    ∷ of 5 1 (5 ∷ replicate 10 0)
    ∷ []

bad : List Case
bad =
    -- missing; a count other than that of the scopes, also where the octets would fit
    of 1 1 []
    ∷ of 0 1 []
    ∷ of 1 1 (2 ∷ 0 ∷ 0 ∷ [])
    ∷ of 2 1 (1 ∷ 0 ∷ 0 ∷ 0 ∷ 0 ∷ [])
    ∷ of 1 1 (0 ∷ [])
    -- cut off: before a list, in a name; an octet too many
    ∷ of 1 1 (1 ∷ 0 ∷ [])
    ∷ of 1 0 (1 ∷ 1 ∷ 0 ∷ 2 ∷ 0x64 ∷ [])
    ∷ of 1 0 (1 ∷ 1 ∷ 0 ∷ 2 ∷ 0x64 ∷ 0x65 ∷ [])
    ∷ of 1 0 (1 ∷ 1 ∷ 0 ∷ 2 ∷ 0x64 ∷ 0x65 ∷ 2 ∷ 7 ∷ [])
    ∷ of 1 1 (1 ∷ 0 ∷ 0 ∷ 0 ∷ [])
    -- flags other than 0 and 128
    ∷ of 1 0 (1 ∷ 1 ∷ name 1 de (1 ∷ []))
    ∷ of 1 0 (1 ∷ 1 ∷ name 129 de (1 ∷ []))
    -- a tag of 0 and of 9 octets, a text of 0 and of 33
    ∷ of 1 0 (1 ∷ 1 ∷ name 0 [] (1 ∷ []))
    ∷ of 1 0 (1 ∷ 1 ∷ name 0 (replicate 9 0x61) (1 ∷ []))
    ∷ of 1 0 (1 ∷ 1 ∷ name 0 de [])
    ∷ of 1 0 (1 ∷ 1 ∷ name 0 de (replicate 33 7))
    -- a bad name in a house's list, in a later scope
    ∷ of 1 1 (1 ∷ 0 ∷ 1 ∷ name 1 de (1 ∷ []))
    ∷ of 2 1 (2 ∷ 0 ∷ 0 ∷ 0 ∷ 1 ∷ name 1 de (1 ∷ []))
    -- five names
    ∷ of 1 0 (1 ∷ 5 ∷ name 0 de (1 ∷ []) ++ name 0 de (1 ∷ []) ++ name 0 de (1 ∷ []) ++ name 0 de (1 ∷ []) ++ name 0 de (1 ∷ []))
    ∷ []

goods : all_by is_good good ≡ true
unfolding name de en en_gb eight of is_good good all_by pick names_b is_whole then read_octet read_times sizes_ok
goods = refl

bads : all_by is_bad bad ≡ true
unfolding name de en en_gb eight of is_good is_bad bad all_by pick names_b is_whole then read_octet read_times sizes_ok
bads = refl

-- a full section of four scopes and eight houses has as many octets as one can have
full : List ℕ
full = 4 ∷ write_all {A = ℕ} (λ x. 4 ∷ name 0 (eight x) (replicate 32 7) ++ name 0 (eight x) (replicate 32 7) ++ name 0 (eight x) (replicate 32 7) ++ name 0 (eight x) (replicate 32 7)) (replicate 36 0)

full_good : names_b 4 8 full ≡ true
unfolding name eight full write_all pick names_b is_whole then read_octet read_times sizes_ok
full_good = refl

longest : length full ≡ 6229
unfolding name eight full write_all
longest = refl

-- ---- which name is sent: two scopes and two houses
names : List ℕ
names =
    -- scope 1: the campus list, without a name flagged 128 in front; house 1's own; house 2 has none
    2 ∷ 4 ∷ name 0 de (1 ∷ []) ++ name 128 en (2 ∷ []) ++ name 128 en_gb (3 ∷ []) ++ name 0 (eight 0x61) (4 ∷ [])
    ++ 3 ∷ name 128 de (5 ∷ []) ++ name 0 de (6 ∷ []) ++ name 128 (eight 0x62) (7 ∷ [])
    ++ 0
    -- scope 2: no campus name is flagged, house 1 has none, house 2 has one
    ∷ 2 ∷ name 0 en (8 ∷ []) ++ name 0 en (9 ∷ [])
    ++ 0
    ∷ 1 ∷ name 128 de (10 ∷ [])

-- another section of one scope: the campus has none, and house 1 has one flagged 128
more : List ℕ
more = 1 ∷ 0 ∷ 1 ∷ name 128 de (11 ∷ []) ++ 0 ∷ []

-- another: the campus has de, flagged 128, and en-GB; house 1 has de twice, the second flagged 128
twice : List ℕ
twice = 1 ∷ 2 ∷ name 128 de (12 ∷ []) ++ name 0 en_gb (13 ∷ []) ++ 2 ∷ name 0 de (14 ∷ []) ++ name 128 de (15 ∷ []) ++ 0 ∷ []

silent : Language
silent = record { asked = false; len = 0; octets = replicate 8 0 }

asks : List ℕ → Language
asks tag = record { asked = true; len = length tag; octets = tag ++ replicate (8 - length tag) 0 }

-- nine octets, the first eight of which are a campus tag
nine : Language
nine = record { asked = true; len = 9; octets = eight 0x61 }

record Sent : Type 0 where
  section : List ℕ
  place : ℕ
  tenant : ℕ
  language : Language
  octets : List ℕ

sends : ℕ → ℕ → Language → List ℕ → Sent
sends place tenant language octets = record { section = names; place = place; tenant = tenant; language = language; octets = octets }

is_sent : Sent → Bool
is_sent c = same (shown (sent_for 2 c.section c.tenant c.place c.language)) c.octets

sent : List Sent
sent =
    -- the house's own, of two of one tag the first; the other house gets the campus one
    sends 0 0 (asks de) (name 128 de (5 ∷ []))
    ∷ sends 0 1 (asks de) (name 0 de (1 ∷ []))
    -- the campus one, though the house has names of other languages
    ∷ sends 0 0 (asks en) (name 128 en (2 ∷ []))
    -- a tag is matched whole: en-GB is not en, and e is neither
    ∷ sends 0 0 (asks en_gb) (name 128 en_gb (3 ∷ []))
    ∷ sends 0 0 (asks (0x65 ∷ [])) (name 128 en (2 ∷ []))
    -- case counts
    ∷ sends 0 0 (asks (0x44 ∷ 0x45 ∷ [])) (name 128 en (2 ∷ []))
    -- eight octets; nine match nothing
    ∷ sends 0 0 (asks (eight 0x61)) (name 0 (eight 0x61) (4 ∷ []))
    ∷ sends 0 0 (asks (eight 0x62)) (name 128 (eight 0x62) (7 ∷ []))
    ∷ sends 0 0 nine (name 128 en (2 ∷ []))
    -- no language asked for: the campus default, whatever the house has
    ∷ sends 0 0 silent (name 128 en (2 ∷ []))
    ∷ sends 1 1 silent (name 0 en (8 ∷ []))
    -- no campus name is flagged 128: the first
    ∷ sends 1 0 (asks de) (name 0 en (8 ∷ []))
    ∷ sends 1 1 (asks de) (name 128 de (10 ∷ []))
    ∷ sends 1 1 (asks en) (name 0 en (8 ∷ []))
    -- no en and no e, though en-GB begins so; the first match counts, and not the flagged one
    ∷ record { section = twice; place = 0; tenant = 0; language = asks en; octets = name 128 de (12 ∷ []) }
    ∷ record { section = twice; place = 0; tenant = 0; language = asks (0x65 ∷ []); octets = name 128 de (12 ∷ []) }
    ∷ record { section = twice; place = 0; tenant = 0; language = asks de; octets = name 0 de (14 ∷ []) }
    -- neither match nor default: none, though the house's own is flagged 128
    ∷ record { section = more; place = 0; tenant = 0; language = asks en; octets = [] }
    ∷ record { section = more; place = 0; tenant = 0; language = silent; octets = [] }
    ∷ record { section = more; place = 0; tenant = 0; language = asks de; octets = name 128 de (11 ∷ []) }
    ∷ []

are_sent : all_by is_sent sent ≡ true
unfolding name de en en_gb eight names more twice silent asks nine sends is_sent sent all_by pick lists_in value_or then read_octet read_times write_all sizes_ok sent_for chosen_of match_of default_of first_by or_else in_language same
are_sent = refl

all_good : all_by is_good (of 2 2 names ∷ of 1 2 more ∷ of 1 2 twice ∷ []) ≡ true
unfolding name de en en_gb eight names more twice of is_good all_by pick names_b is_whole then read_octet read_times sizes_ok
all_good = refl
