-- Laws: a decision on a sound book keeps its board what its leases say (document 02, W-207): what leaves is one of the tenant's records, and what enters has room.
use Rattle.std.specs.Prelude.{Option, None, Some, IfSome, ℕ, ◌<◌, ◌≡◌, true}
use Rattle.std.proofs.Common.{sym}
use Rattle.std.proofs.Math.Path.{subst}
use mathlib.Core.List.{List, ◌∷◌}
use Rattle.std.proofs.Math.ListN.{length}
use Rattle.lists.specs.Pick.{pick}
use Rattle.lists.specs.Reordered.{Reordered}
use Rattle.message.specs.declared.Fields.{Fields}
use Rattle.state.specs.declared.Lease.{Lease}
use Rattle.state.specs.declared.LeaseTable.{LeaseTable}
use Rattle.state.specs.declared.Release.{Release}
use Rattle.state.specs.declared.State.{State}
use Rattle.state.specs.Book.{Book, id_of, in_use, laid_out, leases_of, remove_of, tenant_at}
use Rattle.state.specs.Edit.{edited_book, entering, left_in, no_edit, noted}
use Rattle.state.specs.laws.Layout.{read_back}
use Rattle.soundness.specs.Sound.{sound_b, tenants_in}
use Rattle.soundness.specs.laws.Book.{Sound}
use Rattle.soundness.proofs.Lists.{sound_lists}
use Rattle.agreement.specs.laws.Agrees.{Stands, edited_agrees}
use Rattle.releases.specs.Whole.{board_good}
use Rattle.decision.specs.declared.Decided.{Decided}
use Rattle.proposal.specs.Proposals.{held_from}
use Rattle.admission.specs.Tests.{own_of}
use Rattle.decision.specs.Decide.{decide_of}
use Rattle.decision_laws.specs.laws.Cases.{decided_by, found_for, held_there, leased_there, new_for, old_for, there_for}
use Rattle.decision_laws.specs.laws.Kept.{GoodId, decided_sound, held_named, held_out, held_room, new_room}

module _ (s : State) (b : LeaseTable) (h : ℕ) (m : Fields) (v : Sound s (leases_of b)) where
  Fits : Decided → Type 0
  Fits d = Stands d.edit (tenant_at b h)

  none : Stands no_edit (tenant_at b h)
  none = record { old = tt; room = tt }

  enters : (l : Lease) → length (own_of b h) < 16 → Stands (entering l) (tenant_at b h)
  unfolding left_in pick
  enters l few = record { old = tt; room = few }

  -- the record of the message's identifier leaves, whatever enters and is remembered
  leaves : (x f : Option Lease) (r : Option Release) → there_for b h m ≡ true → Stands (record { leaves = Some (old_for b h m); enters = x; forgets = f; remembers = r }) (tenant_at b h)
  unfolding left_in
  leaves x f r held = record {
    old = subst (λ (i : List ℕ). Reordered (own_of b h) (old_for b h m ∷ remove_of i (own_of b h))) (sym (held_named s b h m held)) (held_out s b h m held v);
    room = room x;
  }
    where
      room : (c : Option Lease) → IfSome c (λ l. length (in_use (laid_out (remove_of (id_of (old_for b h m)) (own_of b h)))) < 16)
      room (Some l) = subst (λ (l : List Lease). length l < 16) (sym (read_back (remove_of (id_of (old_for b h m)) (own_of b h)))) (held_room s b h m held v)
      room None = tt

  pub decided_stands : (q : List Release) → Stands (decide_of s b q h m).edit (tenant_at b h)
  unfolding Fits
  decided_stands q = decided_by s b h m Fits (record {
    resent = λ e. none;
    again = none;
    refused = λ e. none;
    repeated = λ k held. none;
    taken = λ k held. leaves _ _ _ (held_there (found_for b h m) held);
    offered = λ k ok free e. enters (held_from s.clock (new_for s b h m)) (new_room s b h m e);
    requested = λ k ok free e. enters (new_for s b h m) (new_room s b h m e);
    dropped = λ k held. leaves _ _ _ (held_there (found_for b h m) held);
    moved = λ k ok held e. leaves _ _ _ (held_there (found_for b h m) held);
    renewed = λ k ok leased e. leaves _ _ _ (leased_there (found_for b h m) leased);
    released = λ k leased. leaves _ _ _ (leased_there (found_for b h m) leased);
    informed = none;
  }) q

-- so the board after a decision is what the leases then say
pub decision_agrees : (b : Book) (h : ℕ) (m : Fields) → sound_b b.state b.table ≡ true → board_good b ≡ true → h < tenants_in b.state → h < length b.table.tenants → GoodId m
    → (q : List Release) → board_good (edited_book (decide_of b.state b.table q h m).edit h b) ≡ true
unfolding noted
decision_agrees b h m v agrees known there good q =
    let s : State = b.state in
    let t : LeaseTable = b.table in
    let w = sound_lists s t v in
    edited_agrees s t h (decide_of s t q h m).edit b.memory.board w there known (decided_stands s t h m w q) (decided_sound s t h m w known there good q) agrees
