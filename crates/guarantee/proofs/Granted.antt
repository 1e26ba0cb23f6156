-- Proof of demand 3: a new REQUEST within the unused reserve is granted on every sound book, and so after any list of calls.
use Prim.Native.Nat.{ℕ, ◌≤◌, ◌<◌}
use mathlib.Core.Path.{◌≡◌, refl, ap, ap₂, ◌∙◌}
use mathlib.Core.Bool.{Bool, true, false, not, ◌&&◌, ◌||◌}
use mathlib.Core.List.{List}
use native.Mathlib.Omega.{arith}
use lib.Dec.{eqb}
use lib.ListN.{length}
use Rattle.lists.specs.Pick.{pick}
use Rattle.address_set.specs.AddressSet.{offsets}
use Rattle.message.specs.declared.Fields.{Fields}
use Rattle.reply.specs.Reply.{lease_ack_of}
use Rattle.reply.specs.Ranges.{addresses_in}
use Rattle.state.specs.declared.Lease.{Lease}
use Rattle.state.specs.declared.LeaseTable.{LeaseTable}
use Rattle.state.specs.declared.Release.{Release}
use Rattle.state.specs.declared.State.{State}
use Rattle.state.specs.Book.{Book, advanced, id_of, in_use, insert_of, laid_releases, leases_of, put_releases, releases_at, remembered, remove_of}
use Rattle.state.specs.Edit.{entering, forget_of, noted, noted_in}
use Rattle.state.specs.laws.Edited.{applied_others}
use Rattle.releases.specs.laws.Whole.{advanced_names}
use Rattle.releases.proofs.Whole.{book_board, book_sound}
use Rattle.soundness.specs.Sound.{scopes_in, tenants_in}
use Rattle.soundness.specs.laws.Book.{Sound}
use Rattle.soundness.proofs.Lists.{sound_lists}
use Rattle.decision.specs.declared.Decided.{Decided}
use Rattle.decision.specs.declared.Reply.TheVariants.{LeaseAck}
use Rattle.releases.specs.Again.{any_again}
use Rattle.decision_laws.specs.laws.Cases.{Passed, new_type, nothing_there, passed}
use Rattle.decision.specs.laws.Code.{or_none}
use Rattle.decision_laws.specs.laws.Ensured.{decide_free, judged_free}
use Rattle.admission.specs.Tests.{early1_of, held_already, is_held, bad_counts, error1_of, error2_of, has_period, is_new, knows_scope, lease_id_in, own_of, recorded_of, released_again, resends, found_of}
use Rattle.proposal.specs.Proposals.{error0_of, lease_from, new_of, proposal_of}
use Rattle.decision.specs.Verdicts.{with_lease}
use Rattle.decision.specs.Decide.{changed, decide_of, leased_of, settled_of}
use Rattle.server.specs.Serve.{Answer, Call, answered, head_of, reply_of, serve_of}
use Rattle.guarantee.specs.Statement.{Demand3, Granted, NewRequest, SoundBook, book_at, grant_for, lease_for, place_for, releases_for, run, says_of, state_at, table_at, tenant_for, terms_for}
use Rattle.guarantee.proofs.Inserted.{entered, others_stay}
use Rattle.guarantee.proofs.Proposed as proposed
use Rattle.guarantee.proofs.Reached.{decided_there, pick_else, pick_then}
use Rattle.guarantee.proofs.Ranges.{ack_names, named_head, pool_fits}
use Rattle.guarantee.proofs.Kept.{call_sound, now_sound, run_sound, within_limits}
use Rattle.std.specs.Prelude.{Option, is_some}

-- ---- a REQUEST that passes the checks before error 0, for a tenant h of a sound book, whose identifier has no hold
module _ (s : State) (t : LeaseTable) (h : ℕ) (m : Fields) (v : Sound s (leases_of t)) (known : h < tenants_in s) (request : m.kind ≡ 3)
    (new : resends m (recorded_of (own_of t h) m) ≡ false) (free : is_held (found_of (own_of t h) m) ≡ false)
    (error1 : error1_of s m (found_of (own_of t h) m) ≡ false) (error2 : error2_of s m ≡ false) where
  abbrev O : Option Lease
  O = found_of (own_of t h) m

  abbrev L : Lease
  L = recorded_of (own_of t h) m

  abbrev T : Bool
  T = is_some (found_of (own_of t h) m)

  is_new_law : is_new m ≡ true
  is_new_law = new_type m request refl

  -- what error 1 leaves: the scope is ours, least is not 0 and at most desired, and the identifier is not held
  left : Passed s m O
  left = passed s m O error1

  pub ours : knows_scope s m ≡ true
  ours = left.scope is_new_law

  pub good : bad_counts m ≡ false
  good = left.counts

  pub not_held : T ≡ false
  not_held = nothing_there O (left.new is_new_law) free

  no_error1 : (early1_of s m || (is_new m && T)) ≡ false
  unfolding error1_of
  no_error1 = ap₂ (λ (x y : Bool). x || (is_new m && y)) (or_none (early1_of s m) (held_already s m O) error1).0 not_held ∙ ap (λ (x : Bool). x && false) is_new_law

  -- a REQUEST is no RELEASE sent again
  no_again : (q : List Release) → released_again s q m ≡ false
  unfolding released_again
  no_again q = ap (λ (k : ℕ). eqb k 7 && any_again s.clock (lease_id_in m) m.xid q) request

  has_period_law : has_period m ≡ true
  unfolding has_period
  has_period_law = ap (λ (b : Bool). b || eqb m.kind 4) is_new_law

  proposal_is : proposal_of s t h m L ≡ new_of s t h m
  unfolding proposal_of
  proposal_is = pick_then (is_new m) _ _ is_new_law

  -- it is recorded where error 0 passes
  pub decided : (q : List Release) (l : Lease) → error0_of s m (new_of s t h m) ≡ false → lease_from m (new_of s t h m) ≡ l → decide_of s t q h m ≡ changed (entering l) (with_lease LeaseAck l)
  unfolding judged_free settled_of leased_of
  decided q l error0 recorded =
      decide_free s t q h m free
      ∙ pick_else (resends m L) _ _ new
      ∙ pick_else (released_again s q m) _ _ (no_again q)
      ∙ pick_else (early1_of s m || (is_new m && T)) _ _ no_error1
      ∙ pick_else (error2_of s m) _ _ error2
      ∙ pick_else ((eqb m.kind 4 || eqb m.kind 7) && not T) _ _ (ap (λ (k : ℕ). (eqb k 4 || eqb k 7) && not T) request)
      ∙ pick_then (has_period m) _ _ has_period_law
      ∙ ap (settled_of s m L) proposal_is
      ∙ pick_else (error0_of s m (new_of s t h m)) _ _ error0
      ∙ ap (leased_of s m L) recorded
      ∙ pick_else (eqb m.kind 1) _ _ (ap (λ (k : ℕ). eqb k 1) request)
      ∙ pick_then (eqb m.kind 3) _ _ (ap (λ (k : ℕ). eqb k 3) request)

-- ---- the call
module _ (b : Book) (c : Call) (v : SoundBook b) (r : NewRequest b c) where
  pub S : Sound (state_at b c) (leases_of (table_at b c))
  S = sound_lists (state_at b c) (table_at b c) (book_sound (book_at b c) (now_sound b c v).sound)

  scope_ours : knows_scope (state_at b c) (says_of b c) ≡ true
  scope_ours = ours (state_at b c) (table_at b c) (tenant_for b c) (says_of b c) S r.house r.request r.new r.free r.error1 r.error2

  counts_good : bad_counts (says_of b c) ≡ false
  counts_good = good (state_at b c) (table_at b c) (tenant_for b c) (says_of b c) S r.house r.request r.new r.free r.error1 r.error2

  -- the scope is one of the settings'
  pub place_known : place_for b c < scopes_in (state_at b c)
  place_known = proposed.here (state_at b c) (table_at b c) (tenant_for b c) (says_of b c) S r.house scope_ours counts_good

  no_error : error0_of (state_at b c) (says_of b c) (new_of (state_at b c) (table_at b c) (tenant_for b c) (says_of b c)) ≡ false
  no_error = proposed.no_error (state_at b c) (table_at b c) (tenant_for b c) (says_of b c) S r.house scope_ours counts_good r.soon r.fits r.met r.left r.least

  -- it is more than least, so that there is one
  some : ((says_of b c).counts.least ≤ (grant_for b c).number) × (1 ≤ (grant_for b c).number)
  some =
      let p = proposed.enough (state_at b c) (table_at b c) (tenant_for b c) (says_of b c) S r.house scope_ours counts_good in
      let q = proposed.counts (state_at b c) (table_at b c) (tenant_for b c) (says_of b c) S r.house scope_ours counts_good in
      let e = r.least in
      (omega arith, omega arith)

  exact : length (offsets (grant_for b c).addresses) ≡ (grant_for b c).number
  exact = proposed.exact (state_at b c) (table_at b c) (tenant_for b c) (says_of b c) S r.house scope_ours counts_good some.0

  abbrev D : Decided
  D = changed (entering (lease_for b c)) (with_lease LeaseAck (lease_for b c))

  served : serve_of b c ≡ answered (book_at b c) (tenant_for b c) (says_of b c) D
  served =
      decided_there b c (record {
        sound = v.sound;
        room = r.room;
        house = r.house;
        read = r.read;
        ours = ap₂ (λ (k : ℕ) (o : Bool). eqb k 3 && not o) r.request r.ours;
      })
      ∙ ap (answered (book_at b c) (tenant_for b c) (says_of b c))
      (decided (state_at b c) (table_at b c) (tenant_for b c) (says_of b c) S r.house r.request r.new r.free r.error1 r.error2
      (remembered (releases_at (book_at b c).memory (tenant_for b c))) (lease_for b c) no_error
      (proposed.recorded (state_at b c) (table_at b c) (tenant_for b c) (says_of b c) S r.house scope_ours counts_good r.request r.fits))

  after : own_of (serve_of b c).book.table (tenant_for b c) ≡ insert_of (lease_for b c) (own_of (table_at b c) (tenant_for b c))
  after =
      ap (λ (a : Answer). own_of a.book.table (tenant_for b c)) served
      ∙ entered (table_at b c) (tenant_for b c) (lease_for b c) (let e = (now_sound b c v).tenants in let h = r.house in omega arith) r.left

  acknowledged : (serve_of b c).reply ≡ lease_ack_of (head_of (state_at b c) (says_of b c)) (terms_for b c)
  unfolding reply_of with_lease
  acknowledged =
      ap (λ (a : Answer). a.reply) served
      ∙ ap (lease_ack_of (head_of (state_at b c) (says_of b c))) (proposed.told (state_at b c) (table_at b c) (tenant_for b c) (says_of b c) S r.house scope_ours counts_good LeaseAck 3)

  -- what is remembered of the tenant, but for the identifier
  forgotten : (noted (entering (lease_for b c)) (tenant_for b c) (book_at b c).memory).releases
      ≡ (put_releases b.memory (tenant_for b c) (laid_releases (forget_of (id_of (lease_for b c)) (releases_for b c)))).releases
  unfolding noted noted_in pick advanced
  forgotten = refl

  pub granted : Granted b c (serve_of b c)
  unfolding with_lease
  granted = record {
    outcome = ap (λ (a : Answer). a.outcome) served;
    enough = proposed.enough (state_at b c) (table_at b c) (tenant_for b c) (says_of b c) S r.house scope_ours counts_good;
    exact = exact;
    reply = acknowledged;
    names =
        ap addresses_in acknowledged
        ∙ ack_names (head_of (state_at b c) (says_of b c)) (terms_for b c) (named_head c.datagram (state_at b c) r.read) (let p = exact in let q = some.1 in omega arith)
        (pool_fits (state_at b c) (leases_of (table_at b c)) S (place_for b c) place_known);
    state = ap (λ (a : Answer). a.book.state) served;
    titles = ap (λ (a : Answer). a.book.names) served ∙ advanced_names b c.time;
    forgets = ap (λ (a : Answer). a.book.memory.releases) served ∙ forgotten;
    board = book_board (serve_of b c).book (call_sound b c v).sound;
    others = λ g n.
        ap (λ (a : Answer). own_of a.book.table g) served ∙ ap in_use (applied_others (entering (lease_for b c)) (tenant_for b c) g (table_at b c) n);
    own = after;
    unchanged =
        ap (remove_of (id_of (lease_for b c))) after
        ∙ others_stay (state_at b c) (table_at b c) (tenant_for b c) (says_of b c) (lease_for b c) (book_sound (book_at b c) (now_sound b c v).sound) refl
        (not_held (state_at b c) (table_at b c) (tenant_for b c) (says_of b c) S r.house r.request r.new r.free r.error1 r.error2);
  }

pub demand3 : Demand3
unfolding Demand3
demand3 b v cs =
    let w : SoundBook (run b cs) = run_sound b cs v in
    record { sound = w; limits = within_limits (run b cs) w; next = λ c r. granted (run b cs) c w r }
