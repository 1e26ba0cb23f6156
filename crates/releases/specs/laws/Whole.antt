-- Laws: the clock keeps a book's names and what it remembers.
use Rattle.std.specs.Prelude.{ℕ, ◌≤◌, max, Bool, true, List, [], map, ◌≡◌, refl, get_or}
use Rattle.std.proofs.Common.{sym, ◌∙◌, subst, arith, le-leb, leb-true}
use Rattle.std.proofs.Math.Path.{ap}
use Rattle.std.proofs.Math.ListN.{get_or-map}
use Rattle.lists.specs.All.{all_by, pairs_by}
use Rattle.lists.specs.laws.All.{all_both}
use Rattle.lists.specs.laws.Both.{and_both, and_parts}
use Rattle.lists.specs.Filter.{filter_by}
use Rattle.lists.specs.laws.Filter.{filter_all}
use Rattle.state.specs.declared.Lease.{Lease}
use Rattle.state.specs.declared.LeaseTable.{LeaseTable}
use Rattle.state.specs.declared.Release.{Release}
use Rattle.state.specs.declared.State.{State}
use Rattle.state.specs.declared.TenantReleases.{TenantReleases}
use Rattle.state.specs.Book.{Book, advanced, dropped, in_use, laid_out, leases_of, live, live_of, other, raised, release_id, releases_at, remembered, table_of, with_clock}
use Rattle.state.specs.laws.Layout.{read_back}
use Rattle.soundness.specs.Sound.{tenants_in}
use Rattle.releases.specs.Rules.{differs, own_leases, not_leased, once_b, past_b, rules_at}
use Rattle.releases.specs.Whole.{memory_good, names_good}
use Rattle.releases.specs.laws.Tenants.{Holds, each_memory, memory_each}

-- ---- the clock is raised and the ended leases are dropped
pub advanced_names : (b : Book) (time : ℕ) → (advanced b time).names ≡ b.names
unfolding advanced
advanced_names b time = refl

pub advanced_named : (b : Book) (time : ℕ) → names_good b ≡ true → names_good (advanced b time) ≡ true
unfolding advanced raised
advanced_named b time w = w

-- a tenant's leases afterwards
leases_dropped : (c : ℕ) (t : LeaseTable) (h : ℕ) → own_leases (dropped c t) h ≡ live_of c (own_leases t h)
unfolding dropped table_of live_of filter_by laid_out
leases_dropped c t h =
    ap in_use (get_or-map laid_out (map (live_of c) (leases_of t)) h []) ∙ read_back (get_or (map (live_of c) (leases_of t)) h []) ∙ get_or-map (live_of c) (leases_of t) h []
    ∙ ap (live_of c) (get_or-map in_use t.tenants h (laid_out []))

-- times stay in the past, and identifiers off the leases that are left
past_later : (c c' : ℕ) (r : Release) → c ≤ c' → past_b c r ≡ true → past_b c' r ≡ true
unfolding past_b
past_later c c' r g p = le-leb r.time c' (let a = leb-true r.time c p in omega arith)

off_fewer : (u : Lease → Bool) (ls : List Lease) (r : Release) → not_leased ls r ≡ true → not_leased (filter_by u ls) r ≡ true
unfolding not_leased
off_fewer u ls r p = filter_all (other (release_id r)) u ls p

later : (n c c' h : ℕ) (ls : List Lease) (q : TenantReleases) → c ≤ c' → Holds (rules_at n c h ls q) → Holds (rules_at n c' h (live_of c' ls) q)
unfolding rules_at once_b live_of
later n c c' h ls q g v =
    let o = and_parts (pairs_by differs (remembered q)) (all_by (not_leased ls) (remembered q)) v.once in
    let l : List Lease = filter_by (live c') ls in
    record {
      tenants = v.tenants;
      few = v.few;
      lengths = v.lengths;
      once = and_both o.0 (all_both (not_leased ls) (not_leased ls) (not_leased l) (remembered q) (λ r p p'. off_fewer (live c') ls r p) o.1 o.1);
      times = all_both (past_b c) (past_b c) (past_b c') (remembered q) (λ r p p'. past_later c c' r g p) v.times v.times;
      layout = v.layout;
    }

pub advanced_memory : (b : Book) (time : ℕ) → memory_good b ≡ true → memory_good (advanced b time) ≡ true
unfolding advanced raised
advanced_memory b time e =
    let s : State = b.state in
    let c : ℕ = max s.clock time in
    each_memory (with_clock s c) (dropped c b.table) (advanced b time).memory (λ h p.
    subst (λ (ls : List Lease). Holds (rules_at (tenants_in s) c h ls (releases_at b.memory h))) (sym (leases_dropped c b.table h))
    (later (tenants_in s) s.clock c h (own_leases b.table h) (releases_at b.memory h) (omega arith) (memory_each s b.table b.memory e h p)))
