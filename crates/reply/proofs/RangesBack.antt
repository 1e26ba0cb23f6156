-- Laws: a reply's option 10, decoded from the reply's octets, names just the addresses that it was written from.
use mathlib.Core.Path.{◌≡◌, refl, sym, ap, ap₂, ◌∙◌}
use mathlib.Core.List.{List, [], ◌∷◌, ◌++◌, append_assoc, map}
use mathlib.Core.Bool.{Bool, true, false}
use Rattle.std.specs.Prelude.{Some, None}
use Prim.Native.Nat.{ℕ, ◌+◌, ◌/◌, ◌^◌, ◌≤◌, ◌<◌}
use native.Mathlib.Omega.{arith}
use native.Mathlib.Nat.{add_assoc, add-zero}
use borrow.Author.Tests.{ne_eqb}
use lib.ListN.{length, get_or, set, replicate, length-append}
use lib.Seq.{get_or-append-add}
use Rattle.lists.specs.All.{All}
use Rattle.lists.specs.Pick.{pick}
use Rattle.octets.specs.Octets.{at16, at32, octets16, octets32}
use Rattle.octets.specs.laws.Octets.{read_back16, read_back32}
use Rattle.address_set.specs.declared.Range.{Range}
use Rattle.address_set.specs.AddressSet.{named_by, offsets, fewest_ranges}
use Rattle.address_set.specs.laws.Offsets.{offsets_small}
use Rattle.address_set.proofs.Ranges.{ranges_few}
use Rattle.address_set.proofs.Fewest.{moved_names, moved_by, ranges_name, fewest_below}
use Rattle.message.specs.Values.{found_at}
use Rattle.message.specs.Walk.{length_at, walk_of}
use Rattle.message.specs.declared.Walk.{Walk}
use Rattle.reply.specs.declared.Head.{Head}
use Rattle.reply.specs.declared.Terms.{Terms}
use Rattle.reply.specs.Reply.{Option, features_option, header, identifier_option, lease_options, message_octets, option, option_octets, options_octets, range_octets, ranges_octets, ranges_option, server_option, wanted}
use Rattle.reply.specs.Ranges.{addresses_in, ranges_at, ranges_from}
use Rattle.reply.proofs.ReadBack.{Named, ReadBack, at16_past, lease_back, places_from}
use Rattle.reply.proofs.Writes.{options_append, ranges_length}

at32_past : (xs ys : List ℕ) (n : ℕ) → at32 (xs ++ ys) (length xs + n) ≡ at32 ys n
unfolding at32
at32_past xs ys n =
    let a : get_or (xs ++ ys) (length xs + n) 0 ≡ get_or ys n 0 = get_or-append-add xs ys n 0 in
    let b : get_or (xs ++ ys) (length xs + n + 1) 0 ≡ get_or ys (n + 1) 0 = on 1 in
    let c : get_or (xs ++ ys) (length xs + n + 2) 0 ≡ get_or ys (n + 2) 0 = on 2 in
    let d : get_or (xs ++ ys) (length xs + n + 3) 0 ≡ get_or ys (n + 3) 0 = on 3 in
    cc
  where
    on : (k : ℕ) → get_or (xs ++ ys) (length xs + n + k) 0 ≡ get_or ys (n + k) 0
    on k = ap (λ (j : ℕ). get_or (xs ++ ys) j 0) (add_assoc (length xs) n k) ∙ get_or-append-add xs ys (n + k) 0

-- ranges that were written one after the other are read back; no sum of an address and an offset wraps
ranges_read : (pre : List ℕ) (lowest : ℕ) (rs : List Range) (rest : List ℕ) → lowest + 64 < 4294967296 → All (λ r. r.first + r.count ≤ 64) rs
    → ranges_from (pre ++ (ranges_octets lowest rs ++ rest)) (length pre) (length rs) ≡ map (moved_by lowest) rs
unfolding ranges_from ranges_octets All moved_by at16 at32
ranges_read pre lowest [] rest f h = refl
ranges_read pre lowest (r ∷ rs) rest f h =
    let low = h.0 in
    let tail : List ℕ = range_octets lowest r ++ (ranges_octets lowest rs ++ rest) in
    let s : List ℕ = pre ++ tail in
    let a : at32 s (length pre) ≡ lowest + r.first = ap (at32 s) (sym (add-zero (length pre))) ∙ at32_past pre tail 0 ∙ read_back32 (lowest + r.first) (omega arith) in
    let b : at16 s (length pre + 4) ≡ r.count = at16_past pre tail 4 ∙ read_back16 r.count (omega arith) in
    let c : ranges_from s (length pre + 6) (length rs) ≡ map (moved_by lowest) rs =
    ap₂ (λ (l : List ℕ) (k : ℕ). ranges_from l k (length rs)) (sym (append_assoc pre (range_octets lowest r) (ranges_octets lowest rs ++ rest))) (sym (length-append pre (range_octets lowest r)))
    ∙ ranges_read (pre ++ range_octets lowest r) lowest rs rest f h.1 in
    ap₂ (λ (x : Range) (l : List Range). x ∷ l) (ap₂ {C = Range} (λ (x y : ℕ). record { first = x; count = y }) a b) c

-- options behind others are recorded behind them
places_behind : (at : ℕ) (xs ys : List Option) (places : List ℕ) → places_from at (xs ++ ys) places ≡ places_from (at + length (options_octets xs)) ys (places_from at xs places)
unfolding places_from options_octets
places_behind at [] ys places = ap (λ (k : ℕ). places_from k ys places) (sym (add-zero at))
places_behind at (o ∷ xs) ys places =
    places_behind (at + 4 + length o.value) xs ys (set places o.code at)
    ∙ ap (λ (k : ℕ). places_from k ys (places_from (at + 4 + length o.value) xs (set places o.code at)))
    (let e = length-append (option_octets o) (options_octets xs) in let g : at + 4 + length o.value + length (options_octets xs) ≡ at + length (option_octets o ++ options_octets xs) = omega arith in g)

head : (o : Option) (os : List Option) → options_octets (o ∷ os) ≡ option_octets o ++ options_octets os
unfolding options_octets
head o os = refl

module _ (h : Head) (n : Named h) (kind : ℕ) (t : Terms) (some : 0 < t.addresses) (small : t.addresses < 2 ^ 64) (fits : t.scope + 64 < 4294967296) where
  abbrev reply : List ℕ
  reply = message_octets kind h.xid (lease_options h t)

  -- the options before option 10 and behind it
  abbrev lower : List Option
  lower = option 1 (octets32 t.length) ∷ server_option h ∷ identifier_option h ∷ option 4 (octets32 t.scope) ∷ option 6 (octets32 t.start) ∷ []

  abbrev higher : List Option
  higher = option 11 (octets32 t.clock) ∷ features_option h

  abbrev found : List Range
  found = fewest_ranges (offsets t.addresses)

  abbrev pre : List ℕ
  pre = header kind h.xid ++ options_octets lower

  abbrev rest : List ℕ
  rest = options_octets higher ++ option_octets (option 0 [])

  reply_is : reply ≡ pre ++ (option_octets (ranges_option t) ++ rest)
  unfolding message_octets
  reply_is =
      let o : List ℕ = option_octets (ranges_option t) in
      let end : List ℕ = option_octets (option 0 []) in
      ap (λ (l : List ℕ). header kind h.xid ++ (l ++ end)) (options_append lower (ranges_option t ∷ higher) ∙ opened)
      ∙ ap (λ (l : List ℕ). header kind h.xid ++ l) (append_assoc (options_octets lower) (o ++ options_octets higher) end ∙ ap (λ (l : List ℕ). options_octets lower ++ l) (append_assoc o (options_octets higher) end))
      ∙ sym (append_assoc (header kind h.xid) (options_octets lower) (o ++ rest))
    where
      opened : options_octets lower ++ options_octets (ranges_option t ∷ higher) ≡ options_octets lower ++ (option_octets (ranges_option t) ++ options_octets higher)
      opened = ap (λ (l : List ℕ). options_octets lower ++ l) (head (ranges_option t) higher)

  recorded : (at : ℕ) (b : Bool)
      → get_or (places_from at (ranges_option t ∷ option 11 (octets32 t.clock) ∷ wanted b (option 12 (0 ∷ 0 ∷ 0 ∷ 0 ∷ 0 ∷ 0 ∷ []))) (places_from 8 lower (replicate 17 0))) 10 0 ≡ at
  unfolding places_from
  recorded at true = refl
  recorded at false = refl

  place : get_or (walk_of reply).places 10 0 ≡ length pre
  unfolding ReadBack
  place =
      ap (λ (w : Walk). get_or w.places 10 0) (lease_back h n kind t some small)
      ∙ ap (λ (p : List ℕ). get_or p 10 0) (places_behind 8 lower (ranges_option t ∷ higher) (replicate 17 0))
      ∙ recorded (8 + length (options_octets lower)) h.features
      ∙ (let e = length-append (header kind h.xid) (options_octets lower) in let g : 8 + length (options_octets lower) ≡ length pre = omega arith in g)

  length_is : length_at reply (length pre) ≡ length (ranges_octets t.scope found)
  unfolding at16
  length_is =
      ap (λ (l : List ℕ). length_at l (length pre)) reply_is ∙ at16_past pre (option_octets (ranges_option t) ++ rest) 2
      ∙ read_back16 (length (ranges_octets t.scope found)) (let f = ranges_few t.addresses in let l = ranges_length t.scope found in omega arith)

  ranges_are : ranges_from reply (length pre + 4) (length_at reply (length pre) / 6) ≡ map (moved_by t.scope) found
  ranges_are =
      let four : List ℕ = octets16 10 ++ octets16 (length (ranges_octets t.scope found)) in
      let l = ranges_length t.scope found in
      let e = length_is in
      let k : length_at reply (length pre) / 6 ≡ length found = omega arith in
      ap₂ (λ (s : List ℕ) (j : ℕ). ranges_from s (length pre + 4) j) reply_is k
      ∙ ap₂ (λ (s : List ℕ) (p : ℕ). ranges_from s p (length found)) (sym (append_assoc pre four (ranges_octets t.scope found ++ rest))) (sym (length-append pre four))
      ∙ ranges_read (pre ++ four) t.scope found rest fits (fewest_below 64 (offsets t.addresses) (offsets_small t.addresses))

  -- an OFFER, or an ACK to REQUEST or RENEW, names just the addresses of its terms: lowest + offset
  pub addresses_back : addresses_in reply ≡ map (λ a. t.scope + a) (offsets t.addresses)
  unfolding addresses_in found_at pick
  addresses_back =
      ap (λ (p : ℕ). named_by (ranges_at reply (found_at p))) place
      ∙ ap (λ (b : Bool). named_by (ranges_at reply (pick b None (Some (length pre))))) (ne_eqb (length pre) 0 (λ z. let e = length-append (header kind h.xid) (options_octets lower) in omega arith))
      ∙ ap named_by ranges_are ∙ moved_names t.scope found ∙ ap (map (λ a. t.scope + a)) (ranges_name (offsets t.addresses))
