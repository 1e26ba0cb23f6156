-- Definitions: the replies of document 01 ("Replies"), as lists of octets: "the transaction id is echoed; options stand in rising order of code, End last".
use Rattle.std.specs.Prelude.{◌≡◌, ℕ, suc, ◌+◌, ◌-◌, ◌<◌, List, [], ◌∷◌, ◌++◌, Bool, true, false, length, take}
use Rattle.octets.specs.Octets.{octets16, octets32}
use Rattle.address_set.specs.declared.Range.{Range}
use Rattle.names.specs.Names.{Name, names_b, sent_for, shown}
use Rattle.address_set.specs.AddressSet.{offsets, fewest_ranges}
use Rattle.reply.specs.declared.Head.{Head}
use Rattle.reply.specs.declared.Terms.{Terms}
use Rattle.reply.specs.declared.Info.{Info}
use Rattle.reply.specs.declared.ScopeEntry.{ScopeEntry}

-- how many octets a reply room has at least: no reply is longer
abbrev pub least_room : ℕ
least_room = 512

-- ---- a message: header, options, End

pub record Option : Type 0 where
  pub code : ℕ
  pub value : List ℕ

abbrev pub option : ℕ → List ℕ → Option
option code value = record { code = code; value = value }

-- code(2), length(2), value
abbrev pub option_octets : Option → List ℕ
option_octets o = octets16 o.code ++ octets16 (length o.value) ++ o.value

unfoldable pub options_octets : List Option → List ℕ
options_octets [] = []
options_octets (o ∷ os) = option_octets o ++ options_octets os

-- version(1)=0, type(1), family(2)=1, transaction id(4)
abbrev pub header : ℕ → ℕ → List ℕ
header kind xid = 0 ∷ kind ∷ octets16 1 ++ octets32 xid

unfoldable pub message_octets : ℕ → ℕ → List Option → List ℕ
message_octets kind xid options = header kind xid ++ options_octets options ++ option_octets (option 0 [])

-- ---- the options

-- an option that is there only if it is wanted
abbrev pub wanted : Bool → Option → List Option
wanted true o = o ∷ []
wanted false o = []

-- 2, Server Identifier: family(2), address
abbrev pub server_option : Head → Option
server_option h = option 2 (octets16 1 ++ octets32 h.server)

-- 3, Lease Identifier
abbrev pub identifier_option : Head → Option
identifier_option h = option 3 (take h.id.len h.id.octets)

-- 12, Features with three zero counts, if the client sent 12
abbrev pub features_option : Head → List Option
features_option h = wanted h.features (option 12 (0 ∷ 0 ∷ 0 ∷ 0 ∷ 0 ∷ 0 ∷ []))

-- a range: first address(4), count(2)
abbrev pub range_octets : ℕ → Range → List ℕ
range_octets lowest r = octets32 (lowest + r.first) ++ octets16 r.count

unfoldable pub ranges_octets : ℕ → List Range → List ℕ
ranges_octets lowest [] = []
ranges_octets lowest (r ∷ rs) = range_octets lowest r ++ ranges_octets lowest rs

-- 10, Ranges: the fewest that name the addresses, rising
abbrev pub ranges_option : Terms → Option
ranges_option t = option 10 (ranges_octets t.scope (fewest_ranges (offsets t.addresses)))

-- a scope: lowest address, highest address, TTL(1), number of names(1), names
abbrev pub entry_octets : ScopeEntry → ℕ → List ℕ → List ℕ
entry_octets e n names = octets32 e.lowest ++ octets32 (e.lowest + (e.size - 1)) ++ e.ttl ∷ n ∷ names

-- with the names that are sent, "laid out as in RFC 2730's option 9" (document 02)
abbrev pub scope_octets : ScopeEntry → List Name → List ℕ
scope_octets e ns = entry_octets e (length ns) (shown ns)

-- scopes in a row, the first at a place, each with the names for its place
unfoldable pub scopes_octets : (ℕ → List Name) → ℕ → List ScopeEntry → List ℕ
scopes_octets names place [] = []
scopes_octets names place (e ∷ es) = scope_octets e (names place) ++ scopes_octets names (suc place) es

-- "the name sent" to the client's house for the scope at a place, one or none, of the octets of a section of names
abbrev pub name_for : Info → List ℕ → ℕ → List Name
name_for i names place = sent_for i.tenants names i.tenant place i.language

-- the names are good ones and the client's house is one of those that they are for, as tests 1 and 3 have shown
abbrev pub Sendable : Info → List ℕ → Type 0
Sendable i names = (names_b i.count i.tenants names ≡ true) × (i.tenant < i.tenants)

-- the scopes that are there
abbrev pub scope_entries_of : Info → List ScopeEntry
scope_entries_of i = take i.count i.scopes

-- 9, Scope List: a count(1) and the scopes
abbrev pub scope_list_option : Info → List ℕ → Option
scope_list_option i names = option 9 (length (scope_entries_of i) ∷ scopes_octets (name_for i names) 0 (scope_entries_of i))

-- ---- the replies

-- OFFER, and the ACK to REQUEST and RENEW: 1, 2, 3, 4, 6, 10, 11
abbrev pub lease_options : Head → Terms → List Option
lease_options h t =
    option 1 (octets32 t.length)
    ∷ server_option h
    ∷ identifier_option h
    ∷ option 4 (octets32 t.scope)
    ∷ option 6 (octets32 t.start)
    ∷ ranges_option t
    ∷ option 11 (octets32 t.clock)
    ∷ features_option h

-- ACK to RELEASE: 2, 3
abbrev pub release_options : Head → List Option
release_options h = server_option h ∷ identifier_option h ∷ features_option h

-- ACK to GETINFO: 2, 3, and 9 and 11 if option 5 names them
abbrev pub info_options : Head → Info → List ℕ → List Option
info_options h i names =
    server_option h
    ∷ identifier_option h
    ∷ wanted i.list_asked (scope_list_option i names)
    ++ wanted i.time_asked (option 11 (octets32 i.clock))
    ++ features_option h

-- NAK: 2, 3, 16
abbrev pub nak_options : Head → ℕ → List Option
nak_options h error = server_option h ∷ identifier_option h ∷ features_option h ++ option 16 (octets16 error) ∷ []

unfoldable pub offer_of : Head → Terms → List ℕ
offer_of h t = message_octets 2 h.xid (lease_options h t)

unfoldable pub lease_ack_of : Head → Terms → List ℕ
lease_ack_of h t = message_octets 5 h.xid (lease_options h t)

unfoldable pub release_ack_of : Head → List ℕ
release_ack_of h = message_octets 5 h.xid (release_options h)

unfoldable pub info_ack_of : Head → Info → List ℕ → List ℕ
info_ack_of h i names = message_octets 5 h.xid (info_options h i names)

unfoldable pub nak_of : Head → ℕ → List ℕ
nak_of h error = message_octets 6 h.xid (nak_options h error)
