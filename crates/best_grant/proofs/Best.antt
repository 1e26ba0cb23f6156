-- Proof of W-214: nobody could have given more than the grant rule, from the laws of allocation, on the book that a REQUEST brings to it.
use Prim.Native.Nat.{ℕ, ◌≤◌, ◌<◌}
use mathlib.Core.Path.{◌≡◌, refl, sym, ap, ap₂, ◌∙◌, subst}
use mathlib.Core.Bool.{Bool, true, false, not, ◌&&◌, ◌||◌}
use mathlib.Core.List.{List, []}
use native.Mathlib.Omega.{arith}
use lib.Dec.{eqb}
use lib.ListN.{get_or, length, length-map, set}
use lib.Seq.{get_or-set_same, set-get_or, set-set}
use Rattle.lists.specs.Pick.{pick}
use Rattle.message.specs.declared.Fields.{Fields}
use Rattle.reply.specs.Reply.{lease_ack_of, message_octets, nak_of}
use Rattle.state.specs.declared.Lease.{Lease}
use Rattle.state.specs.declared.LeaseTable.{LeaseTable}
use Rattle.state.specs.declared.Release.{Release}
use Rattle.state.specs.declared.State.{State}
use Rattle.state.specs.declared.TenantLeases.{TenantLeases}
use Rattle.state.specs.declared.TenantReleases.{TenantReleases}
use Rattle.state.specs.Book.{Book, id_of, in_use, insert_of, inserted_in, laid_out, laid_releases, leases_of, releases_at, remembered, remove_of, tenant_at}
use Rattle.state.specs.Edit.{applied_by, board_edited, board_left, dropping_first, edited_book, edited_by, entering, forget_of, left_in, no_edit, noted, noted_in}
use Rattle.state.specs.laws.Edit.{applied}
use Rattle.state.specs.laws.Edited.{applied_count, applied_entering}
use Rattle.releases.specs.Again.{any_again}
use Rattle.releases.proofs.Whole.{book_sound}
use Rattle.soundness.specs.Sound.{scopes_in}
use Rattle.soundness.specs.laws.Book.{Sound}
use Rattle.soundness.proofs.Lists.{sound_lists}
use Rattle.allocation.specs.laws.Best as best
use Rattle.decision.specs.declared.Decided.{Decided}
use Rattle.decision.specs.declared.Reply.TheVariants.{LeaseAck}
use Rattle.decision.specs.declared.Verdict.{Verdict}
use Rattle.admission.specs.Tests.{bad_counts, drops_hold, error1_of, error2_of, error3_of, has_period, is_for_hold, is_leased, is_new, knows_scope, lease_id_in, own_of, recorded_of, released_again, resends, found_of, dropped_of}
use Rattle.proposal.specs.Proposals.{brought_by, error0_of, lease_from, new_of, proposal_of, updated}
use Rattle.decision.specs.Verdicts.{with_lease}
use Rattle.decision.specs.Decide.{changed, decide_of, dropped_first, judged_of, leased_of, settled_of}
use Rattle.decision_laws.specs.laws.Cases.{Passed, without, drops_some, held_there, new_type, passed}
use Rattle.decision_laws.specs.laws.Kept.{applied_dropping, held_named, own_is, release_sound, updated_leases}
use Rattle.server.specs.Serve.{Answer, Call, answered, head_of, reply_of, serve_of}
use Rattle.guarantee.specs.Statement.{SoundBook, ask_for, book_at, own_for, place_for, record_for, says_of, state_at, table_at, tenant_for, found_for}
use Rattle.best_grant.specs.Best.{AsksRule, Choice, NobodyMore, book_with, brought_for, size_of, lease_on, new_in, rule_for}
use Rattle.guarantee.proofs.Kept.{now_sound}
use Rattle.guarantee.proofs.Proposed as proposed
use Rattle.guarantee.proofs.Reached.{decided_there, pick_else, pick_then}
use Rattle.std.specs.Prelude.{Option, Some, None}
use Rattle.decision.specs.laws.Code.{dropped_is}

-- ---- a REQUEST that comes to the rule with the table u
module _ (s : State) (t u : LeaseTable) (h : ℕ) (m : Fields) (request : m.kind ≡ 3) (new : resends m (recorded_of (own_of t h) m) ≡ false)
    (error1 : error1_of s m (found_of (own_of t h) m) ≡ false) (error2 : error2_of s m ≡ false)
    (elsewhere : is_for_hold s m (found_of (own_of t h) m) ≡ false)
    (brought : brought_by t h m (found_of (own_of t h) m) ≡ u) where
  abbrev O : Option Lease
  O = found_of (own_of t h) m

  abbrev L : Lease
  L = recorded_of (own_of t h) m

  is_new_law : is_new m ≡ true
  is_new_law = new_type m request refl

  left : Passed s m O
  left = passed s m O error1

  pub ours : knows_scope s m ≡ true
  ours = left.scope is_new_law

  pub good : bad_counts m ≡ false
  good = left.counts

  no_again : (q : List Release) → released_again s q m ≡ false
  unfolding released_again
  no_again q = ap (λ (k : ℕ). eqb k 7 && any_again s.clock (lease_id_in m) m.xid q) request

  no_error3 : error3_of m O ≡ false
  unfolding error3_of
  no_error3 = ap (λ (k : ℕ). (eqb k 4 || eqb k 7) && not (is_leased O)) request

  has_period_law : has_period m ≡ true
  unfolding has_period
  has_period_law = ap (λ (b : Bool). b || eqb m.kind 4) is_new_law

  proposal_is : proposal_of s (brought_by t h m O) h m L ≡ new_of s u h m
  unfolding proposal_of
  proposal_is = pick_then (is_new m) _ _ is_new_law ∙ ap (λ (x : LeaseTable). new_of s x h m) brought

  -- it is recorded where error 0 passes, its hold in another scope dropped first
  pub decided : (q : List Release) (l : Lease) → error0_of s m (new_of s u h m) ≡ false → lease_from m (new_of s u h m) ≡ l
      → decide_of s t q h m ≡ dropped_first (dropped_of m O) (changed (entering l) (with_lease LeaseAck l))
  unfolding decide_of judged_of settled_of leased_of
  decided q l error0 recorded =
      pick_else (resends m L) _ _ new
      ∙ pick_else (released_again s q m) _ _ (no_again q)
      ∙ pick_else (error1_of s m O) _ _ error1
      ∙ pick_else (error2_of s m) _ _ error2
      ∙ pick_else (error3_of m O) _ _ no_error3
      ∙ pick_else (is_for_hold s m O) _ _ elsewhere
      ∙ pick_then (has_period m) _ _ has_period_law
      ∙ ap (dropped_first (dropped_of m O))
      (ap (settled_of s m L) proposal_is
      ∙ pick_else (error0_of s m (new_of s u h m)) _ _ error0
      ∙ ap (leased_of s m L) recorded
      ∙ pick_else (eqb m.kind 1) _ _ (ap (λ (k : ℕ). eqb k 1) request)
      ∙ pick_then (eqb m.kind 3) _ _ (ap (λ (k : ℕ). eqb k 3) request))

-- ---- the drop of a hold, then a record: one after the other
moved_table : (o l : Lease) (h : ℕ) (t : LeaseTable) → h < length t.tenants → applied (dropping_first o (entering l)) h t ≡ applied (entering l) h (applied (dropping_first o no_edit) h t)
unfolding applied_by edited_by left_in pick
moved_table o l h t there =
    let x : TenantLeases = laid_out (remove_of (id_of o) (in_use (tenant_at t h))) in
    ap {B = LeaseTable} (λ (y : List TenantLeases). record { tenants = y })
    (sym (set-set t.tenants h x (inserted_in l (get_or (set t.tenants h x) h (laid_out []))) ∙ ap (λ (y : TenantLeases). set t.tenants h (inserted_in l y)) (get_or-set_same t.tenants h x (laid_out []) there)))

moved_book : (o l : Lease) (h : ℕ) (b : Book) → h < length b.table.tenants → edited_book (dropping_first o (entering l)) h b ≡ edited_book (entering l) h (edited_book (dropping_first o no_edit) h b)
unfolding noted noted_in board_edited board_left pick
moved_book o l h b there =
    let q : List TenantReleases = b.memory.releases in
    let forgets : List TenantReleases → List TenantReleases = λ (x : List TenantReleases). set x h (laid_releases (forget_of (id_of l) (remembered (get_or x h (laid_releases []))))) in
    ap₂ (λ (t : LeaseTable) (x : List TenantReleases). record {
      state = b.state;
      table = t;
      memory = record { releases = x; board = (noted (dropping_first o (entering l)) h b.memory).board };
      names = b.names;
    }) (moved_table o l h b.table there) (ap forgets (sym (set-get_or q h (laid_releases []))))

-- an edit that drops a hold first answers the same
same_verdict : (o : Option Lease) (x : Decided) → (dropped_first o x).verdict ≡ x.verdict
unfolding dropped_first
same_verdict (Some l) x = refl
same_verdict None x = refl

-- ---- the call
module _ (b : Book) (c : Call) (v : SoundBook b) (r : AsksRule b c) where
  S : Sound (state_at b c) (leases_of (table_at b c))
  S = sound_lists (state_at b c) (table_at b c) (book_sound (book_at b c) (now_sound b c v).sound)

  there : tenant_for b c < length (table_at b c).tenants
  there = let e = (now_sound b c v).tenants in let h = r.house in omega arith

  abbrev drops : Bool
  drops = drops_hold (says_of b c) (found_for b c)

  abbrev without_hold : Book
  without_hold = edited_book (dropping_first (record_for b c) no_edit) (tenant_for b c) (book_at b c)

  -- ---- the book that it brings
  brought_state : (brought_for b c).state ≡ state_at b c
  unfolding pick
  brought_state = go drops
    where
      go : (d : Bool) → (pick d without_hold (book_at b c)).state ≡ state_at b c
      go true = refl
      go false = refl

  brought_there : tenant_for b c < length (leases_of (brought_for b c).table)
  unfolding pick
  brought_there = go drops
    where
      go : (d : Bool) → tenant_for b c < length (leases_of (pick d without_hold (book_at b c)).table)
      go true =
          let e = applied_count (dropping_first (record_for b c) no_edit) (tenant_for b c) (table_at b c) in
          let f = length-map without_hold.table.tenants in_use in
          let g = there in
          omega arith
      go false = let f = length-map (table_at b c).tenants in_use in let g = there in omega arith

  brought_sound : Sound (state_at b c) (leases_of (brought_for b c).table)
  unfolding pick
  brought_sound = go drops
    where
      go : (d : Bool) → Sound (state_at b c) (leases_of (pick d without_hold (book_at b c)).table)
      go true =
          subst (λ (t : LeaseTable). Sound (state_at b c) (leases_of t)) (sym (applied_dropping (table_at b c) (tenant_for b c) (record_for b c)))
          (release_sound (state_at b c) (table_at b c) (tenant_for b c) there (id_of (record_for b c)) S)
      go false = S

  brought_is : brought_by (table_at b c) (tenant_for b c) (says_of b c) (found_for b c) ≡ (brought_for b c).table
  unfolding brought_by pick
  brought_is = go drops refl
    where
      go : (d : Bool) → drops ≡ d → pick d (without (table_at b c) (tenant_for b c) (says_of b c)) (table_at b c) ≡ (pick d without_hold (book_at b c)).table
      go true e =
          sym (applied_dropping (table_at b c) (tenant_for b c) (record_for b c)
          ∙ ap (λ (i : List ℕ). updated (table_at b c) (tenant_for b c) (remove_of i (own_for b c)))
          (held_named (state_at b c) (table_at b c) (tenant_for b c) (says_of b c) (held_there (found_for b c) (drops_some (says_of b c) (found_for b c) e).1)))
      go false e = refl

  -- ---- a choice leaves the lists of leases sound
  scope_ours : knows_scope (state_at b c) (says_of b c) ≡ true
  scope_ours = ours (state_at b c) (table_at b c) (brought_for b c).table (tenant_for b c) (says_of b c) r.request r.new r.error1 r.error2 r.elsewhere brought_is

  counts_good : bad_counts (says_of b c) ≡ false
  counts_good = good (state_at b c) (table_at b c) (brought_for b c).table (tenant_for b c) (says_of b c) r.request r.new r.error1 r.error2 r.elsewhere brought_is

  here : place_for b c < scopes_in (state_at b c)
  here = proposed.here (state_at b c) (brought_for b c).table (tenant_for b c) (says_of b c) brought_sound r.house scope_ours counts_good

  choice : (m : ℕ) → Choice b c m → best.Choice (state_at b c) (leases_of (brought_for b c).table) (ask_for b c) (lease_on b c m)
  choice m x =
      let l : Lease = lease_on b c m in
      let u : LeaseTable = (brought_for b c).table in
      let w : Sound (brought_for b c).state (leases_of (applied (entering l) (tenant_for b c) u)) = sound_lists (brought_for b c).state (applied (entering l) (tenant_for b c) u) (book_sound (book_with b c m) x.sound) in
      let e : leases_of (applied (entering l) (tenant_for b c) u) ≡ set (leases_of u) (tenant_for b c) (insert_of l (get_or (leases_of u) (tenant_for b c) [])) =
      ap leases_of (applied_entering u (tenant_for b c) l r.left) ∙ updated_leases u (tenant_for b c) (insert_of l (own_of u (tenant_for b c)))
      ∙ ap (λ (y : List Lease). set (leases_of u) (tenant_for b c) (insert_of l y)) (own_is u (tenant_for b c)) in
      record {
        scope = refl;
        start = refl;
        end = refl;
        sound = subst (λ (s : State). Sound s (set (leases_of u) (tenant_for b c) (insert_of l (get_or (leases_of u) (tenant_for b c) [])))) brought_state (subst (Sound (brought_for b c).state) e w);
      }

  none_more : (m : ℕ) → Choice b c m → size_of m ≤ (rule_for b c).number
  none_more m x =
      best.none_more (state_at b c) (leases_of (brought_for b c).table) (place_for b c) here (ask_for b c) refl r.house brought_there (lease_on b c m) (choice m x) x.desired

  none_fewer_new : (m : ℕ) → Choice b c m → size_of m ≡ (rule_for b c).number → new_in b c (rule_for b c).addresses ≤ new_in b c m
  none_fewer_new m x =
      best.none_fewer_new (state_at b c) (leases_of (brought_for b c).table) (place_for b c) here (ask_for b c) refl r.house brought_there (lease_on b c m) (choice m x)

  -- ---- what the call does where the grant is not below least
  module _ (enough : (says_of b c).counts.least ≤ (rule_for b c).number) where
    abbrev D : Decided
    D = dropped_first (dropped_of (says_of b c) (found_for b c)) (changed (entering (lease_on b c (rule_for b c).addresses)) (with_lease LeaseAck (lease_on b c (rule_for b c).addresses)))

    served : serve_of b c ≡ answered (book_at b c) (tenant_for b c) (says_of b c) D
    served =
        decided_there b c (record {
          sound = v.sound;
          room = r.room;
          house = r.house;
          read = r.read;
          ours = ap₂ (λ (k : ℕ) (o : Bool). eqb k 3 && not o) r.request r.ours;
        })
        ∙ ap (answered (book_at b c) (tenant_for b c) (says_of b c))
        (decided (state_at b c) (table_at b c) (brought_for b c).table (tenant_for b c) (says_of b c) r.request r.new r.error1 r.error2 r.elsewhere brought_is
        (remembered (releases_at (book_at b c).memory (tenant_for b c))) (lease_on b c (rule_for b c).addresses)
        (proposed.passes (state_at b c) (brought_for b c).table (tenant_for b c) (says_of b c) brought_sound r.house scope_ours counts_good r.soon r.fits r.met r.left enough)
        (proposed.recorded (state_at b c) (brought_for b c).table (tenant_for b c) (says_of b c) brought_sound r.house scope_ours counts_good r.request r.fits))

    exact : size_of (rule_for b c).addresses ≡ (rule_for b c).number
    exact = proposed.exact (state_at b c) (brought_for b c).table (tenant_for b c) (says_of b c) brought_sound r.house scope_ours counts_good enough

    -- an ACK, so no NAK
    acknowledged : get_or (serve_of b c).reply 1 0 ≡ 5
    unfolding reply_of with_lease lease_ack_of message_octets
    acknowledged =
        ap (λ (a : Answer). get_or a.reply 1 0) served
        ∙ ap (λ (x : Verdict). get_or (reply_of (state_at b c) (book_at b c).names (tenant_for b c) (says_of b c) x) 1 0)
        (same_verdict (dropped_of (says_of b c) (found_for b c)) (changed (entering (lease_on b c (rule_for b c).addresses)) (with_lease LeaseAck (lease_on b c (rule_for b c).addresses))))

    given : (serve_of b c).book ≡ book_with b c (rule_for b c).addresses
    unfolding pick
    given =
        ap (λ (a : Answer). a.book) served
        ∙ ap (λ (d : Decided). edited_book d.edit (tenant_for b c) (book_at b c)) (dropped_is (says_of b c) (found_for b c) _) ∙ go drops
      where
        l : Lease
        l = lease_on b c (rule_for b c).addresses

        go : (d : Bool) → edited_book (pick d (changed (dropping_first (record_for b c) (entering l)) (with_lease LeaseAck l)) (changed (entering l) (with_lease LeaseAck l))).edit (tenant_for b c) (book_at b c)
            ≡ edited_book (entering l) (tenant_for b c) (pick d without_hold (book_at b c))
        go true = moved_book (record_for b c) l (tenant_for b c) (book_at b c) there
        go false = refl

  none_enough : (serve_of b c).reply ≡ nak_of (head_of (state_at b c) (says_of b c)) 0 → (m : ℕ) → Choice b c m → (says_of b c).counts.least ≤ size_of m → ⊥
  unfolding nak_of message_octets
  none_enough e m x p =
      let n = none_more m x in
      let f : get_or (serve_of b c).reply 1 0 ≡ 6 = ap (λ (a : List ℕ). get_or a 1 0) e in
      let g = acknowledged (omega arith) in
      absurd (omega arith)

pub nobody_more : NobodyMore
unfolding NobodyMore
nobody_more b v c r = record {
  none_more = none_more b c v r;
  none_fewer_new = none_fewer_new b c v r;
  none_enough = none_enough b c v r;
  exact = exact b c v r;
  given = given b c v r;
}
