-- Laws: the Ranges of an ACK or an OFFER name the addresses of its lease: what the octets of option 10 need of a sound book and of a datagram that was read.
use Prim.Native.Nat.{ℕ, zero, suc, ◌+◌, ◌≤◌, ◌<◌, ◌^◌}
use mathlib.Core.Path.{◌≡◌, refl, sym, ap, ◌∙◌}
use mathlib.Core.Bool.{Bool, true, false}
use mathlib.Core.List.{List, [], ◌∷◌, map}
use native.Mathlib.Omega.{arith}
use lib.Dec.{ltb, leb}
use lib.ListN.{length, get_or, length-take, get_or-eq_default}
use lib.Seq.{get_or-take}
use borrow.Author.Tests.{leb-true, ltb-true, ltb-false}
use Rattle.lists.specs.All.{all_by}
use Rattle.lists.specs.laws.All.{all_head, all_joined, all_take}
use Rattle.lists.specs.laws.Both.{and_parts}
use Rattle.address_set.specs.AddressSet.{chosen, fewest_ranges, offsets, set_of}
use Rattle.address_set.specs.laws.Bits.{offsets_of_zero}
use Rattle.address_set.specs.laws.Offsets.{offsets_set_of, offsets_small, rises_offsets, set_of_small}
use Rattle.message.specs.Read.{read_of}
use Rattle.message.specs.Values.{fields_of}
use Rattle.reply.specs.declared.Head.{Head}
use Rattle.reply.specs.declared.Terms.{Terms}
use Rattle.octets.specs.Octets.{octets32}
use Rattle.reply.specs.Reply.{features_option, identifier_option, lease_ack_of, lease_options, message_octets, offer_of, option, ranges_octets, server_option}
use Rattle.reply.specs.Ranges.{addresses_in}
use Rattle.reply.proofs.ReadBack.{Named}
use Rattle.reply.proofs.RangesBack.{addresses_back}
use Rattle.state.specs.declared.Lease.{Lease}
use Rattle.state.specs.declared.Scope.{Scope}
use Rattle.state.specs.declared.State.{State}
use Rattle.state.specs.Book.{scope_at, scopes_of, zero_scope}
use Rattle.soundness.specs.Sound.{pool_b, rule3, rule4, scopes_in}
use Rattle.soundness.specs.laws.Book.{Sound, settings_front}
use Rattle.soundness.specs.laws.Facts.{scopes_in_law}
use Rattle.allocation.specs.declared.Ask.{Ask}
use Rattle.allocation.specs.Rule.{free_of, grant_of, nobodys_of}
use Rattle.decision_laws.specs.laws.Reads.{read_array, read_id}
use Rattle.server.specs.Serve.{head_of}

-- ---- a set of 64 bits with at least one
pub offsets_some : (m : ℕ) → 1 ≤ length (offsets m) → 0 < m
offsets_some zero h = absurd (let e = ap length (offsets_of_zero 0 64) in omega arith)
offsets_some (suc m) h = omega arith

pub grant_small : (c : Scope) (n : ℕ) (t : List (List Lease)) (a : Ask) → (grant_of c n t a).addresses < 2 ^ 64
unfolding grant_of
grant_small c n t a =
    set_of_small 64 (chosen (grant_of c n t a).number (free_of t a) (nobodys_of c t a))
    (all_take _ (grant_of c n t a).number _ (all_joined _ (offsets (free_of t a)) (offsets (nobodys_of c t a)) (offsets_small (free_of t a)) (offsets_small (nobodys_of c t a))))

-- ---- a sound pool does not wrap
passes_at : (t : Scope → Bool) (l : List Scope) (i : ℕ) → all_by t l ≡ true → i < length l → t (get_or l i zero_scope) ≡ true
passes_at t [] i h p = absurd (omega arith)
passes_at t (x ∷ l) zero h p = (all_head t x l h).0
passes_at t (x ∷ l) (suc i) h p = passes_at t l i (all_head t x l h).1 (omega arith)

module _ (s : State) (ls : List (List Lease)) (v : Sound s ls) (k : ℕ) (here : k < scopes_in s) where
  pools : all_by pool_b (scopes_of s) ≡ true
  unfolding rule4
  pools = (and_parts (all_by pool_b (scopes_of s)) _ (and_parts (rule3 s) (rule4 s) (settings_front s ls v).1).1).0

  pub pool_fits : (scope_at s k).lowest + 64 < 4294967296
  unfolding pool_b
  pool_fits = go (ltb k (length s.scopes)) refl
    where
      go : (b : Bool) → ltb k (length s.scopes) ≡ b → (scope_at s k).lowest + 64 < 4294967296
      go true e =
          let n = length-take s.scope_count s.scopes in
          let i = ltb-true k (length s.scopes) e in
          let m = scopes_in_law s ls v in
          let p : pool_b (scope_at s k) ≡ true = ap pool_b (sym (get_or-take s.scope_count s.scopes k zero_scope (omega arith))) ∙ passes_at pool_b (scopes_of s) k pools (omega arith) in
          let q = leb-true ((scope_at s k).lowest + (scope_at s k).size) 4026531840 (and_parts (leb 3758096384 (scope_at s k).lowest) (leb ((scope_at s k).lowest + (scope_at s k).size) 4026531840) p).1 in
          omega arith
      go false e =
          let z : (scope_at s k).lowest ≡ 0 = ap (λ (c : Scope). c.lowest) (get_or-eq_default s.scopes zero_scope {n = k} (ltb-false k (length s.scopes) e)) in
          omega arith

-- ---- the identifier of a datagram that was read has 2 to 32 octets
pub named_head : (d : List ℕ) (s : State) → (read_of d).discard ≡ 0 → Named (head_of s (fields_of d s.server (read_of d).message))
named_head d s e =
    let g = read_id d s.server e in
    let n : ℕ = (fields_of d s.server (read_of d).message).id.len in
    let p = and_parts (leb 2 n) (leb n 32) g.long in
    let lo = leb-true 2 n p.0 in
    let hi = leb-true n 32 p.1 in
    let a = read_array d s.server e in
    let t = length-take n (fields_of d s.server (read_of d).message).id.octets in
    (omega arith, omega arith)

-- ---- the ACK and the OFFER, of any number that has at least one offset
-- as of the 64 bits that the offsets are
lease_names : (h : Head) (kind : ℕ) (t : Terms) → Named h → 1 ≤ length (offsets t.addresses) → t.scope + 64 < 4294967296
    → addresses_in (message_octets kind h.xid (lease_options h t)) ≡ map (λ a. t.scope + a) (offsets t.addresses)
lease_names h kind t n some fits =
    ap (λ (l : List ℕ). addresses_in (message_octets kind h.xid
    (option 1 (octets32 t.length) ∷ server_option h ∷ identifier_option h ∷ option 4 (octets32 t.scope) ∷ option 6 (octets32 t.start) ∷ option 10 (ranges_octets t.scope (fewest_ranges l)) ∷ option 11 (octets32 t.clock) ∷ features_option h))) (sym back)
    ∙ addresses_back h n kind (record { length = t.length; start = t.start; scope = t.scope; addresses = bits; clock = t.clock })
    (offsets_some bits (let e : length (offsets bits) ≡ length (offsets t.addresses) = ap length back in omega arith)) (set_of_small 64 (offsets t.addresses) (offsets_small t.addresses)) fits
    ∙ ap (map (λ a. t.scope + a)) back
  where
    bits : ℕ
    bits = set_of (offsets t.addresses)

    back : offsets bits ≡ offsets t.addresses
    back = offsets_set_of (offsets t.addresses) (rises_offsets t.addresses) (offsets_small t.addresses)

pub ack_names : (h : Head) (t : Terms) → Named h → 1 ≤ length (offsets t.addresses) → t.scope + 64 < 4294967296 → addresses_in (lease_ack_of h t) ≡ map (λ a. t.scope + a) (offsets t.addresses)
unfolding lease_ack_of
ack_names h t n some fits = lease_names h 5 t n some fits

pub offer_names : (h : Head) (t : Terms) → Named h → 1 ≤ length (offsets t.addresses) → t.scope + 64 < 4294967296 → addresses_in (offer_of h t) ≡ map (λ a. t.scope + a) (offsets t.addresses)
unfolding offer_of
offer_names h t n some fits = lease_names h 2 t n some fits
