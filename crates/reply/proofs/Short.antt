-- Laws: no reply is longer than the least room, so that a room that passes test 2 always suffices.
use mathlib.Core.Path.{◌≡◌, ap, ◌∙◌}
use mathlib.Core.List.{List, [], ◌∷◌, ◌++◌}
use mathlib.Core.Bool.{Bool, true, false}
use Prim.Native.Nat.{ℕ, ◌+◌, ◌≤◌}
use native.Mathlib.Omega.{arith}
use lib.ListN.{length, take, length-append, length-take}
use Rattle.address_set.specs.AddressSet.{offsets, fewest_ranges}
use Rattle.address_set.proofs.Ranges.{ranges_few}
use Rattle.octets.specs.Octets.{octets16, octets32}
use Rattle.reply.specs.Reply.{least_room, Option, option, option_octets, options_octets, message_octets, wanted, scope_list_option, lease_options, release_options, info_options, nak_options, offer_of, lease_ack_of, release_ack_of, info_ack_of, nak_of}
use Rattle.reply.specs.declared.Head.{Head}
use Rattle.reply.specs.declared.Terms.{Terms}
use Rattle.reply.specs.declared.Info.{Info}
use Rattle.reply.proofs.Writes.{names_length, options_append, ranges_length}

-- at most n octets of options
record Within (options : List Option) (n : ℕ) : Type 0 where
  within : length (options_octets options) ≤ n

none : Within [] 0
unfolding options_octets
none = record { within = omega arith }

more : (o : Option) (os : List Option) (m n : ℕ) → length o.value ≤ m → Within os n → Within (o ∷ os) (4 + m + n)
unfolding options_octets
more o os m n h w = let a = length-append o.value (options_octets os) in let b = w.within in record { within = omega arith }

maybe : (b : Bool) (o : Option) (os : List Option) (m n : ℕ) → length o.value ≤ m → Within os n → Within (wanted b o ++ os) (4 + m + n)
maybe true o os m n h w = more o os m n h w
maybe false o os m n h w = let b = w.within in record { within = omega arith }

last : (b : Bool) (o : Option) (m : ℕ) → length o.value ≤ m → Within (wanted b o) (4 + m)
last true o m h = let w = (more o [] m 0 h none).within in record { within = omega arith }
last false o m h = let b = none.within in record { within = omega arith }

message : (kind xid : ℕ) (options : List Option) (n : ℕ) → Within options n → length (message_octets kind xid options) ≤ 12 + n
unfolding message_octets
message kind xid options n w = let a = length-append (options_octets options) (option_octets (option 0 [])) in let b = w.within in omega arith

ap_length : (xs ys : List Option) → length (options_octets (xs ++ ys)) ≡ length (options_octets xs) + length (options_octets ys)
ap_length xs ys = ap length (options_append xs ys) ∙ length-append (options_octets xs) (options_octets ys)

-- an array of 32 octets has no more than 32 for the identifier
module _ (h : Head) (array : length h.id.octets ≡ 32) where
  id : length (take h.id.len h.id.octets) ≤ 32
  id = let e = length-take h.id.len h.id.octets in omega arith

  named : (os : List Option) (n : ℕ) → Within os n → Within (option 2 (octets16 1 ++ octets32 h.server) ∷ option 3 (take h.id.len h.id.octets) ∷ os) (10 + (36 + n))
  named os n w = more _ _ 6 (36 + n) (omega arith) (more _ os 32 n id w)

  lease : (kind : ℕ) (t : Terms) → length (message_octets kind h.xid (lease_options h t)) ≤ 488
  lease kind t =
      let f = ranges_few t.addresses in
      let l = ranges_length t.scope (fewest_ranges (offsets t.addresses)) in
      let m = message kind h.xid (lease_options h t) 476
      (more _ _ 4 468 (omega arith) (named _ 422 (more _ _ 4 414 (omega arith) (more _ _ 4 406 (omega arith) (more _ _ 384 18 (omega arith) (more _ _ 4 10 (omega arith) (last h.features _ 6 (omega arith)))))))) in
      omega arith

  pub offer_short : (t : Terms) → length (offer_of h t) ≤ least_room
  unfolding offer_of
  offer_short t = let m = lease 2 t in omega arith

  pub lease_ack_short : (t : Terms) → length (lease_ack_of h t) ≤ least_room
  unfolding lease_ack_of
  lease_ack_short t = let m = lease 5 t in omega arith

  pub release_ack_short : length (release_ack_of h) ≤ least_room
  unfolding release_ack_of
  release_ack_short = let m = message 5 h.xid (release_options h) 56 (named _ 10 (last h.features _ 6 (omega arith))) in omega arith

  -- four scopes, each with a name of 43 octets: 293
  pub info_ack_short : (i : Info) (names : List ℕ) → length i.scopes ≡ 4 → length (info_ack_of h i names) ≤ least_room
  unfolding info_ack_of
  info_ack_short i names four =
      let k = length-take i.count i.scopes in
      let l = names_length i names in
      let a : Within (wanted i.list_asked (scope_list_option i names)) 217 = last i.list_asked (scope_list_option i names) 213 (omega arith) in
      let b : Within (wanted i.time_asked (option 11 (octets32 i.clock))) 8 = last i.time_asked _ 4 (omega arith) in
      let c : Within (wanted h.features (option 12 (0 ∷ 0 ∷ 0 ∷ 0 ∷ 0 ∷ 0 ∷ []))) 10 = last h.features _ 6 (omega arith) in
      let m = message 5 h.xid (info_options h i names) 281 (named _ 235 (both _ _ 225 10 (both _ _ 217 8 a b) c)) in
      omega arith
    where
      both : (xs ys : List Option) (m n : ℕ) → Within xs m → Within ys n → Within (xs ++ ys) (m + n)
      both xs ys m n v w = let e = ap_length xs ys in let a = v.within in let b = w.within in record { within = omega arith }

  pub nak_short : (error : ℕ) → length (nak_of h error) ≤ least_room
  unfolding nak_of
  nak_short error =
      let m = message 6 h.xid (nak_options h error) 62 (named _ 16 (maybe h.features _ _ 6 6 (omega arith) (more _ [] 2 0 (omega arith) none))) in omega arith
