-- Specimens: how many octets the longest reply of each kind has, where the reader's walk finds each option of an ACK, and which addresses it names.
use mathlib.Core.Path.{◌≡◌, refl}
use mathlib.Core.List.{List, [], ◌∷◌, ◌++◌}
use mathlib.Core.Bool.{false, true}
use Prim.Native.Nat.{ℕ}
use lib.ListN.{length, replicate}
use Rattle.lists.specs.Pick.{pick}
use Rattle.lists.specs.Filter.{is_in}
use Rattle.octets.specs.Octets.{at16, at32}
use Rattle.address_set.specs.AddressSet.{bit, joined, named_by, offsets_from, onwards, fewest_ranges}
use Rattle.message.specs.Codes.{length_ok}
use Rattle.message.specs.Values.{found_at}
use Rattle.message.specs.Walk.{exactly_filled, layout_ok, step_of, option_taken, value_ok, walk_from, walk_of}
use Rattle.message.specs.declared.Stage.TheVariants.{Done}
use Rattle.format.specs.Format.{read_octet, read_times, then, write_all}
use Rattle.names.specs.Names.{chosen_of, default_of, first_by, lists_in, match_of, or_else, sent_for, sizes_ok, value_or}
use Rattle.reply.specs.Ranges.{addresses_in, ranges_from}
use Rattle.reply.specs.Reply.{info_ack_of, lease_ack_of, message_octets, nak_of, offer_of, options_octets, ranges_octets, release_ack_of, scopes_octets}
use Rattle.reply.specs.declared.Head.{Head}
use Rattle.reply.specs.declared.Info.{Info}
use Rattle.reply.specs.declared.Terms.{Terms}

-- server 10.1.1.1, an identifier of 32 octets, option 12 sent
head : Head
head = record { xid = 0x01020304; server = 0x0A010101; id = record { octets = replicate 32 7; len = 32 }; features = true }

-- every second address of 64: 32 ranges, which is the most there can be; and .0, .1, .3
terms : ℕ → Terms
terms addresses = record { length = 3600; start = 1000; scope = 0xEFC00000; addresses = addresses; clock = 1000 }

-- four scopes, 9 and 11 asked for; of each the campus name has a tag of 8 octets and a text of 32
info : Info
info = record { scopes = replicate 4 (record { lowest = 0xEFC00000; size = 64; ttl = 15 }); count = 4; list_asked = true; clock = 1000; time_asked = true; tenants = 1; tenant = 0; language = record { asked = false; len = 0; octets = replicate 8 0 } }

name : List ℕ
name = 1 ∷ 0 ∷ 8 ∷ replicate 8 0x61 ++ 32 ∷ replicate 32 0x62 ++ 0 ∷ []

names : List ℕ
names = 4 ∷ name ++ name ++ name ++ name

-- the most octets that each kind of reply has: Short.antt bounds them by 488, within "reply room at least 512"
longest_offer : length (offer_of head (terms 0x5555555555555555)) ≡ 296
unfolding head terms bit offsets_from joined fewest_ranges ranges_octets options_octets message_octets offer_of
longest_offer = refl

longest_ack : length (lease_ack_of head (terms 0x5555555555555555)) ≡ 296
unfolding head terms bit offsets_from joined fewest_ranges ranges_octets options_octets message_octets lease_ack_of
longest_ack = refl

longest_info : length (info_ack_of head info names) ≡ 293
unfolding head info name names scopes_octets options_octets message_octets info_ack_of sent_for chosen_of match_of default_of first_by or_else lists_in value_or sizes_ok then read_octet read_times write_all pick
longest_info = refl

longest_release : length (release_ack_of head) ≡ 68
unfolding head options_octets message_octets release_ack_of
longest_release = refl

longest_nak : length (nak_of head 3) ≡ 74
unfolding head options_octets message_octets nak_of
longest_nak = refl

-- ---- read back: the walk ends at End, and each option stands where it was written; the addresses are those that were granted
ack_walked : walk_of (lease_ack_of head (terms 11))
    ≡ record { at = 112; stage = Done; places = 0 ∷ 8 ∷ 16 ∷ 26 ∷ 62 ∷ 0 ∷ 70 ∷ 0 ∷ 0 ∷ 0 ∷ 78 ∷ 94 ∷ 102 ∷ 0 ∷ 0 ∷ 0 ∷ 0 ∷ [] }
unfolding head terms bit offsets_from joined fewest_ranges ranges_octets options_octets message_octets lease_ack_of walk_of walk_from step_of layout_ok value_ok exactly_filled option_taken length_ok is_in pick at16
ack_walked = refl

ack_names : addresses_in (lease_ack_of head (terms 11)) ≡ 0xEFC00000 ∷ 0xEFC00001 ∷ 0xEFC00003 ∷ []
unfolding head terms bit offsets_from joined fewest_ranges ranges_octets options_octets message_octets lease_ack_of walk_of walk_from step_of layout_ok value_ok exactly_filled option_taken length_ok is_in pick at16 at32 addresses_in ranges_from found_at named_by onwards
ack_names = refl
