-- Laws: plain facts that a sound book gives: of its counts, of a scope and of a lease.
use Rattle.std.specs.Prelude.{ℕ, zero, suc, ◌≤◌, ◌<◌, ◌≡◌, Bool, true, ◌&&◌, List, [], ◌∷◌, ltb, leb, length, get_or}
use Rattle.std.proofs.Common.{arith}
use borrow.Author.Tests.{leb-true, ltb-true}
use Rattle.lists.specs.All.{all_by}
use Rattle.lists.specs.laws.All.{all_head}
use Rattle.lists.specs.laws.Both.{and_parts}
use Rattle.state.specs.declared.Lease.{Lease}
use Rattle.state.specs.declared.State.{State}
use Rattle.state.specs.Book.{scopes_of}
use Rattle.soundness.specs.Sound.{one_to, scopes_in, size_b, id_b, counts_b, scope_known, offsets_b, kind_b, period_b, lease_b, padded_b, hold_b}
use Rattle.soundness.specs.laws.Book.{lease_ok, Sound, settings_front}
use Rattle.soundness.specs.laws.Added.{each_at}

-- ---- counts and scopes

at_of : {A : Type 0} (t : A → Bool) (l : List A) (i : ℕ) (d : A) → all_by t l ≡ true → i < length l → t (get_or l i d) ≡ true
at_of t [] i d h p = absurd (omega arith)
at_of t (x ∷ l) zero d h p = (all_head t x l h).0
at_of t (x ∷ l) (suc i) d h p = at_of t l i d (all_head t x l h).1 (omega arith)

module _ (s : State) (ls : List (List Lease)) (v : Sound s ls) where
  counts : (one_to 8 s.tenant_count ≡ true) × ((one_to 4 s.scope_count && all_by size_b (scopes_of s)) ≡ true)
  unfolding counts_b
  counts = and_parts (one_to 8 s.tenant_count) (one_to 4 s.scope_count && all_by size_b (scopes_of s)) (settings_front s ls v).0

  scopes : (one_to 4 s.scope_count ≡ true) × (all_by size_b (scopes_of s) ≡ true)
  scopes = and_parts (one_to 4 s.scope_count) (all_by size_b (scopes_of s)) counts.1

  pub scopes_few : s.scope_count ≤ 4
  unfolding one_to
  scopes_few = leb-true s.scope_count 4 (and_parts (leb 1 s.scope_count) (leb s.scope_count 4) scopes.0).1

  pub scopes_in_law : scopes_in s ≡ s.scope_count
  scopes_in_law = let h = scopes_few in omega arith

-- ---- a lease
pub record LeaseFacts (s : State) (l : Lease) : Type 0 where
  pub id_some : 2 ≤ l.id_len
  pub id_few : l.id_len ≤ 32
  pub scope_some : 1 ≤ l.scope
  pub scope_known_law : l.scope ≤ s.scope_count
  pub kind : kind_b l ≡ true
  pub period : l.start < l.end
  pub alive : s.clock < l.end
  pub addresses : 0 < l.addresses
  pub offsets : offsets_b s l ≡ true
  pub padded : padded_b l ≡ true
  pub hold : hold_b s.clock l ≡ true

pub lease_facts : (s : State) (l : Lease) → lease_ok s l ≡ true → LeaseFacts s l
unfolding lease_ok id_b lease_b one_to kind_b period_b
lease_facts s l e =
    let p = and_parts (id_b l && offsets_b s l) (lease_b s l && (padded_b l && hold_b s.clock l)) e in
    let i = and_parts (id_b l) (offsets_b s l) p.0 in
    let j = and_parts (leb 2 l.id_len) (leb l.id_len 32) i.0 in
    let q = and_parts (lease_b s l) (padded_b l && hold_b s.clock l) p.1 in
    let d = and_parts (padded_b l) (hold_b s.clock l) q.1 in
    let r = and_parts (scope_known s l) (kind_b l && period_b s.clock l) q.0 in
    let c = and_parts (leb 1 l.scope) (leb l.scope s.scope_count) r.0 in
    let k = and_parts (kind_b l) (period_b s.clock l) r.1 in
    let t = and_parts (ltb l.start l.end) (ltb s.clock l.end && ltb 0 l.addresses) k.1 in
    let a = and_parts (ltb s.clock l.end) (ltb 0 l.addresses) t.1 in
    record {
      id_some = leb-true 2 l.id_len j.0;
      id_few = leb-true l.id_len 32 j.1;
      scope_some = leb-true 1 l.scope c.0;
      scope_known_law = leb-true l.scope s.scope_count c.1;
      kind = k.0;
      period = ltb-true l.start l.end t.0;
      alive = ltb-true s.clock l.end a.0;
      addresses = ltb-true 0 l.addresses a.1;
      offsets = i.1;
      padded = d.0;
      hold = d.1;
    }

-- the lease at a place of a tenant's
pub lease_at_facts : (s : State) (ls : List (List Lease)) → Sound s ls → (h at : ℕ) (d : Lease) → at < length (get_or ls h []) → LeaseFacts s (get_or (get_or ls h []) at d)
lease_at_facts s ls v h at d p = lease_facts s (get_or (get_or ls h []) at d) (at_of (lease_ok s) (get_or ls h []) at d (each_at s ls v h) p)
