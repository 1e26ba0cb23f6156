-- Specimens: document 01's specimens on the wire, computed from the definitions: one table, one theorem.
use mathlib.Core.Path.{◌≡◌, refl}
use mathlib.Core.List.{List, [], ◌∷◌, ◌++◌}
use mathlib.Core.Bool.{Bool, true, false}
use Prim.Native.Nat.{ℕ}
use lib.ListN.{replicate}
use Rattle.lists.specs.Pick.{pick}
use Rattle.lists.specs.All.{all_by}
use Rattle.address_set.specs.AddressSet.{bit, offsets_from, joined, fewest_ranges, offsets}
use Rattle.format.specs.Format.{read_octet, read_times, then, write_all}
use Rattle.names.specs.Names.{chosen_of, default_of, first_by, in_language, lists_in, match_of, or_else, same, sent_for, sizes_ok, value_or}
use Rattle.reply.specs.Reply.{options_octets, message_octets, ranges_octets, scopes_octets, lease_ack_of, release_ack_of, info_ack_of, nak_of}
use Rattle.reply.specs.declared.Head.{Head}
use Rattle.reply.specs.declared.Terms.{Terms}
use Rattle.reply.specs.declared.Info.{Info}

record Case : Type 0 where
  octets : List ℕ
  expected : List ℕ

holds : Case → Bool
holds c = same c.octets c.expected

-- server 10.1.1.1, transaction id 01 02 03 04, identifier 00 41
head : Bool → Head
head sent = record { xid = 0x01020304; server = 0x0A010101; id = record { octets = 0 ∷ 0x41 ∷ replicate 30 0; len = 2 }; features = sent }

-- scope 239.192.0.0, from 1000 for 3,600 seconds, at clock 1000
terms : ℕ → Terms
terms addresses = record { length = 3600; start = 1000; scope = 0xEFC00000; addresses = addresses; clock = 1000 }

-- the scope of the specimens, of size 4 and TTL 15, for the first of two houses, which asks for no language
info : Bool → Bool → Info
info list time = record {
  scopes = record { lowest = 0xEFC00000; size = 4; ttl = 15 } ∷ replicate 3 (record { lowest = 0; size = 0; ttl = 0 });
  count = 1;
  list_asked = list;
  clock = 1000;
  time_asked = time;
  tenants = 2;
  tenant = 0;
  language = record { asked = false; len = 0; octets = replicate 8 0 };
}

-- no names; the campus name "a" in en, flagged 128, which is the default, behind one in de; the first house has one of its own
unnamed : List ℕ
unnamed = 1 ∷ 0 ∷ 0 ∷ 0 ∷ []

named : List ℕ
named = 1 ∷ 2 ∷ 0 ∷ 2 ∷ 0x64 ∷ 0x65 ∷ 1 ∷ 0x62 ∷ 128 ∷ 2 ∷ 0x65 ∷ 0x6E ∷ 1 ∷ 0x61 ∷ 1 ∷ 128 ∷ 2 ∷ 0x64 ∷ 0x65 ∷ 2 ∷ 0x63 ∷ 0x64 ∷ 0 ∷ []

-- the house has a name, but the campus none, and it is asked for in no language
own : List ℕ
own = 1 ∷ 0 ∷ 1 ∷ 128 ∷ 2 ∷ 0x64 ∷ 0x65 ∷ 1 ∷ 0x62 ∷ 0 ∷ []

-- two scopes, named or not: the campus names "a" and "b", or the first alone
first : List ℕ
first = 1 ∷ 0 ∷ 2 ∷ 0x65 ∷ 0x6E ∷ 1 ∷ 0x61 ∷ 0 ∷ 0 ∷ []

second : List ℕ
second = 1 ∷ 0 ∷ 2 ∷ 0x64 ∷ 0x65 ∷ 1 ∷ 0x62 ∷ 0 ∷ 0 ∷ []

scope : List ℕ
scope = 0xEF ∷ 0xC0 ∷ 0 ∷ 0 ∷ 0xEF ∷ 0xC0 ∷ 0 ∷ 3 ∷ 15 ∷ []

-- the scope twice
doubled : Info → Info
doubled i = record {
  scopes = replicate 4 (record { lowest = 0xEFC00000; size = 4; ttl = 15 });
  count = 2;
  list_asked = true;
  clock = i.clock;
  time_asked = false;
  tenants = i.tenants;
  tenant = i.tenant;
  language = i.language;
}

-- the same, asking for de
in_german : Info → Info
in_german i = record {
  scopes = i.scopes;
  count = i.count;
  list_asked = true;
  clock = i.clock;
  time_asked = false;
  tenants = i.tenants;
  tenant = i.tenant;
  language = record { asked = true; len = 2; octets = 0x64 ∷ 0x65 ∷ replicate 6 0 };
}

-- header, options 2 and 3 of a reply of a type
front : ℕ → List ℕ
front kind = 0 ∷ kind ∷ 0 ∷ 1 ∷ 1 ∷ 2 ∷ 3 ∷ 4 ∷ 0 ∷ 2 ∷ 0 ∷ 6 ∷ 0 ∷ 1 ∷ 0x0A ∷ 1 ∷ 1 ∷ 1 ∷ 0 ∷ 3 ∷ 0 ∷ 2 ∷ 0 ∷ 0x41 ∷ []

end : List ℕ
end = 0 ∷ 0 ∷ 0 ∷ 0 ∷ []

features : List ℕ
features = 0 ∷ 12 ∷ 0 ∷ 6 ∷ 0 ∷ 0 ∷ 0 ∷ 0 ∷ 0 ∷ 0 ∷ []

clock : List ℕ
clock = 0 ∷ 11 ∷ 0 ∷ 4 ∷ 0 ∷ 0 ∷ 3 ∷ 0xE8 ∷ []

table : List Case
table =
    -- P12: NAK with error 3
    record { octets = nak_of (head false) 3; expected = front 6 ++ 0 ∷ 0x10 ∷ 0 ∷ 2 ∷ 0 ∷ 3 ∷ end }
    -- P1: .0 and .1
    ∷ record { octets = ranges_octets 0xEFC00000 (fewest_ranges (offsets 3)); expected = 0xEF ∷ 0xC0 ∷ 0 ∷ 0 ∷ 0 ∷ 2 ∷ [] }
    -- .0, .2, .3 and .63: three ranges
    ∷ record { octets = ranges_octets 0xEFC00000 (fewest_ranges (offsets 9223372036854775821)); expected = 0xEF ∷ 0xC0 ∷ 0 ∷ 0 ∷ 0 ∷ 1 ∷ 0xEF ∷ 0xC0 ∷ 0 ∷ 2 ∷ 0 ∷ 2 ∷ 0xEF ∷ 0xC0 ∷ 0 ∷ 63 ∷ 0 ∷ 1 ∷ [] }
    -- a NAK to a client that sent option 12: 12 before 16
    ∷ record { octets = nak_of (head true) 0; expected = front 6 ++ features ++ 0 ∷ 0x10 ∷ 0 ∷ 2 ∷ 0 ∷ 0 ∷ end }
    -- P1's ACK whole
    ∷ record {
      octets = lease_ack_of (head false) (terms 3);
      expected = 0 ∷ 5 ∷ 0 ∷ 1 ∷ 1 ∷ 2 ∷ 3 ∷ 4 ∷ 0 ∷ 1 ∷ 0 ∷ 4 ∷ 0 ∷ 0 ∷ 0x0E ∷ 0x10 ∷ 0 ∷ 2 ∷ 0 ∷ 6 ∷ 0 ∷ 1 ∷ 0x0A ∷ 1 ∷ 1 ∷ 1 ∷ 0 ∷ 3 ∷ 0 ∷ 2 ∷ 0 ∷ 0x41 ∷ 0 ∷ 4 ∷ 0 ∷ 4 ∷ 0xEF ∷ 0xC0 ∷ 0 ∷ 0
          ∷ 0 ∷ 6 ∷ 0 ∷ 4 ∷ 0 ∷ 0 ∷ 3 ∷ 0xE8 ∷ 0 ∷ 10 ∷ 0 ∷ 6 ∷ 0xEF ∷ 0xC0 ∷ 0 ∷ 0 ∷ 0 ∷ 2 ∷ clock ++ end;
    }
    -- ACK to RELEASE; to GETINFO asking for nothing, and for the scopes and the time
    ∷ record { octets = release_ack_of (head true); expected = front 5 ++ features ++ end }
    ∷ record { octets = info_ack_of (head false) (info false false) named; expected = front 5 ++ end }
    ∷ record { octets = info_ack_of (head true) (info true true) unnamed; expected = front 5 ++ 0 ∷ 9 ∷ 0 ∷ 11 ∷ 1 ∷ 0xEF ∷ 0xC0 ∷ 0 ∷ 0 ∷ 0xEF ∷ 0xC0 ∷ 0 ∷ 3 ∷ 15 ∷ 0 ∷ clock ++ features ++ end }
    -- with a name, as it stands in its list: the campus default; the house's own in the language asked for
    ∷ record {
      octets = info_ack_of (head false) (info true false) named;
      expected = front 5 ++ 0 ∷ 9 ∷ 0 ∷ 17 ∷ 1 ∷ 0xEF ∷ 0xC0 ∷ 0 ∷ 0 ∷ 0xEF ∷ 0xC0 ∷ 0 ∷ 3 ∷ 15 ∷ 1 ∷ 128 ∷ 2 ∷ 0x65 ∷ 0x6E ∷ 1 ∷ 0x61 ∷ end;
    }
    ∷ record {
      octets = info_ack_of (head false) (in_german (info true false)) named;
      expected = front 5 ++ 0 ∷ 9 ∷ 0 ∷ 18 ∷ 1 ∷ 0xEF ∷ 0xC0 ∷ 0 ∷ 0 ∷ 0xEF ∷ 0xC0 ∷ 0 ∷ 3 ∷ 15 ∷ 1 ∷ 128 ∷ 2 ∷ 0x64 ∷ 0x65 ∷ 2 ∷ 0x63 ∷ 0x64 ∷ end;
    }
    -- neither match nor default: number 0, though the house has a name
    ∷ record { octets = info_ack_of (head false) (info true false) own; expected = front 5 ++ 0 ∷ 9 ∷ 0 ∷ 11 ∷ 1 ∷ scope ++ 0 ∷ end }
    -- two scopes: each with its own name; the first alone with one; the second alone
    ∷ record {
      octets = info_ack_of (head false) (doubled (info true false)) (2 ∷ first ++ second);
      expected = front 5 ++ 0 ∷ 9 ∷ 0 ∷ 33 ∷ 2 ∷ scope ++ 1 ∷ 0 ∷ 2 ∷ 0x65 ∷ 0x6E ∷ 1 ∷ 0x61 ∷ scope ++ 1 ∷ 0 ∷ 2 ∷ 0x64 ∷ 0x65 ∷ 1 ∷ 0x62 ∷ end;
    }
    ∷ record {
      octets = info_ack_of (head false) (doubled (info true false)) (2 ∷ first ++ 0 ∷ 0 ∷ 0 ∷ []);
      expected = front 5 ++ 0 ∷ 9 ∷ 0 ∷ 27 ∷ 2 ∷ scope ++ 1 ∷ 0 ∷ 2 ∷ 0x65 ∷ 0x6E ∷ 1 ∷ 0x61 ∷ scope ++ 0 ∷ end;
    }
    ∷ record {
      octets = info_ack_of (head false) (doubled (info true false)) (2 ∷ 0 ∷ 0 ∷ 0 ∷ second);
      expected = front 5 ++ 0 ∷ 9 ∷ 0 ∷ 27 ∷ 2 ∷ scope ++ 0 ∷ scope ++ 1 ∷ 0 ∷ 2 ∷ 0x64 ∷ 0x65 ∷ 1 ∷ 0x62 ∷ end;
    }
    ∷ []

specimens : all_by holds table ≡ true
unfolding pick all_by same holds head terms info unnamed named own first second scope doubled in_german front end features clock table bit offsets_from joined fewest_ranges options_octets message_octets ranges_octets scopes_octets lease_ack_of release_ack_of info_ack_of nak_of sent_for chosen_of match_of default_of first_by or_else in_language lists_in value_or sizes_ok then read_octet read_times write_all
specimens = refl
