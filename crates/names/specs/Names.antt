-- Definitions: names for the scopes (document 02, W-201): their section, whether octets are one, and the name that is sent.
use Rattle.std.specs.Prelude.{◌⊎◌, Bool, true, false, ◌&&◌, ◌||◌, List, [], ◌∷◌, ◌≡◌, ℕ, ◌+◌, ◌≤◌, eqb, leb, ltb, length, drop, take, get_or, None, Option, Some}
use Rattle.lists.specs.Pick.{pick}
use Rattle.format.specs.Place.{EndsAs, is_whole}
use Rattle.format.specs.Format.{Format, Got, got, bad, octet, ◌⊗◌, times, counted, only, viewed, after, write_all}
use Rattle.message.specs.declared.Language.{Language}

-- ---- the section

-- a name: "flags (0 or 128), language tag and text"
pub record Name : Type 0 where
  pub flags : ℕ
  pub tag : List ℕ
  pub text : List ℕ

-- "tags at most 8", "names have at most 32 octets", by RFC 2730 neither is empty; "flags (0 or 128)", where RFC 2730 ignores the other bits: of the
-- flags and the two lengths
unfoldable pub sizes_ok : ℕ → ℕ → ℕ → Bool
sizes_ok flags tag text = leb 1 tag && (leb tag 8 && (leb 1 text && (leb text 32 && (eqb flags 0 || eqb flags 128))))

-- the same, as what holds of them
abbrev pub Sized : ℕ → ℕ → ℕ → Type 0
Sized flags tag text = (1 ≤ tag) × (tag ≤ 8) × (1 ≤ text) × (text ≤ 32) × ((flags ≡ 0) ⊎ (flags ≡ 128))

abbrev pub name_ok : Name → Bool
name_ok x = sizes_ok x.flags (length x.tag) (length x.text)

-- "laid out as in RFC 2730's option 9": flags(1), tag length(1), tag, text length(1), text
abbrev pub plain_name : Format Name
plain_name = viewed (λ p. record { flags = p.0; tag = p.1.0; text = p.1.1 }) (λ x. (x.flags, (x.tag, x.text))) (octet ⊗ counted octet ⊗ counted octet)

abbrev pub name_format : Format Name
name_format = only name_ok plain_name

-- "a scope at most four names a list", "each after a count"
abbrev pub few_names : List Name → Bool
few_names l = leb (length l) 4

abbrev pub list_format : Format (List Name)
list_format = only few_names (counted name_format)

-- "a scope, its names, then the next scope, until both counts run out": n lists for each of k scopes. Both counts, the section's and the scopes', are
-- k; no scope is numbered, its place tells which it is
abbrev pub scopes_format : ℕ → ℕ → Format (List (List (List Name)))
scopes_format k n = times k (times n list_format)

-- the section of k scopes and h houses: "its count that of the scopes"; "a scope's names are the campus list and then each house's own"
abbrev pub names_format : ℕ → ℕ → Format (List (List (List Name)))
names_format k h = after k (scopes_format k (h + 1))

-- are octets such a section, and nothing more: "a bad or missing names section is 20, bad names lent 1 or 22"
unfoldable pub names_b : ℕ → ℕ → List ℕ → Bool
names_b k h s = is_whole ((names_format k h).read s)

-- ---- the name that is sent: a list of one name, or of none

-- "the first match counts": of a list of names, the first that passes a test
unfoldable pub first_by : (Name → Bool) → List Name → List Name
first_by t [] = []
first_by t (x ∷ l) = pick (t x) (x ∷ []) (first_by t l)

-- the first, or the second where the first is none
unfoldable pub or_else : {A : Type 0} → List A → List A → List A
or_else a b = pick (ltb 0 (length a)) a b

-- "octet for octet"
unfoldable pub same : List ℕ → List ℕ → Bool
same [] [] = true
same [] (y ∷ b) = false
same (x ∷ a) [] = false
same (x ∷ a) (y ∷ b) = pick (eqb x y) (same a b) false

-- "tags match octet for octet": a tag that is as long as the language asked for, and has its octets. Case counts, unlike in RFC 2730
unfoldable pub in_language : Language → Name → Bool
in_language l x = pick (eqb (length x.tag) l.len) (same x.tag (take l.len l.octets)) false

abbrev pub is_flagged : Name → Bool
is_flagged x = eqb x.flags 128

-- "the default is the first campus name flagged 128, else the first"
unfoldable pub default_of : List Name → List Name
default_of campus = or_else (first_by is_flagged campus) (take 1 campus)

-- "the part of the house's own list, or of the campus list where the house has none in the language asked for by option 8"; without option 8 no
-- language is asked for, and none matches
unfoldable pub match_of : Language → List Name → List Name → List Name
match_of l own campus = pick l.asked (or_else (first_by (in_language l) own) (first_by (in_language l) campus)) []

-- ".. and the campus default otherwise"; "a scope with neither match nor default sends none". (Without option 8 RFC 2730 has all names sent.)
unfoldable pub chosen_of : Language → List Name → List Name → List Name
chosen_of l own campus = or_else (match_of l own campus) (default_of campus)

-- ---- of octets

-- what was read; d where nothing was
unfoldable pub value_or : {A : Type 0} → A → Got A → A
value_or d (got x r) = x
value_or d bad = d

-- the names of a list's octets
abbrev pub names_in : List ℕ → List Name
names_in s = value_or [] (list_format.read s)

-- the lists of a section of h houses, scope by scope; its first octet counts the scopes
unfoldable pub lists_in : ℕ → List ℕ → List (List (List Name))
lists_in h s = value_or [] ((names_format (get_or s 0 0) h).read s)

-- of the scope at a place (from 0): list 0 is the campus list, list j that of the house with number j
abbrev pub list_in : ℕ → List ℕ → ℕ → ℕ → List Name
list_in h s place j = get_or (get_or (lists_in h s) place []) j []

-- the name that is sent to the tenant at a place (from 0) for the scope at a place
unfoldable pub sent_for : ℕ → List ℕ → ℕ → ℕ → Language → List Name
sent_for h s tenant place l = chosen_of l (list_in h s place (tenant + 1)) (list_in h s place 0)

-- its octets, as they stand in the section; no name has no octets
abbrev pub shown : List Name → List ℕ
shown l = write_all name_format.write l

-- the same, where there is a name
unfoldable pub shown_if : List Name → Option (List ℕ)
shown_if [] = None
shown_if (x ∷ l) = Some (shown (x ∷ l))

-- ---- what the readers promise

-- the name whose first octet is at a place, by its lengths
abbrev pub name_at : List ℕ → ℕ → Name
name_at s at = record {
  flags = get_or s at 0;
  tag = take (get_or s (at + 1) 0) (drop (at + 2) s);
  text = take (get_or s (at + (get_or s (at + 1) 0 + 2)) 0) (drop (at + (get_or s (at + 1) 0 + 3)) s);
}

-- a test asked of places is t of the names that stand there
abbrev pub Tells : (ℕ → Bool → Type 0) → List ℕ → (Name → Bool) → Type 0
Tells post s t = (at : ℕ) (b : Bool) → post at b → b ≡ t (name_at s at)

-- the tag of the name at a place lies before n and has at most eight octets
abbrev pub HasTag : List ℕ → ℕ → ℕ → Type 0
HasTag s at n = (at + (get_or s (at + 1) 0 + 3) ≤ n) × (get_or s (at + 1) 0 ≤ 8)

-- and before the name's end
unfoldable pub TagIn : List ℕ → ℕ → Option ℕ → Type 0
TagIn s at (Some n) = HasTag s at n
TagIn s at None = Unit {0}

-- where the name at a place ends
pub record NameEnds (s : List ℕ) (at : ℕ) (r : Option ℕ) : Type 0 where
  pub ends : EndsAs name_format (name_at s at) s at 1 r
  pub tag : TagIn s at r

-- the value x stands at a place
pub record Begins {A : Type 0} (f : Format A) (s : List ℕ) (at : ℕ) (x : A) : Type 0 where
  pub inside : at ≤ length s
  pub rest : List ℕ
  pub reads : f.read (drop at s) ≡ got x rest

-- octets are just the list l
pub record IsList (s : List ℕ) (l : List Name) : Type 0 where
  pub reads : list_format.read s ≡ got l []
