-- Laws: a decision on a sound book keeps what is remembered sound: a grant, held or recorded, forgets, a release is remembered, or nothing changes.
use Rattle.std.specs.Prelude.{ℕ, ◌<◌, ◌≡◌, true, List, length}
use Rattle.std.proofs.Math.Path.{refl}
use Rattle.std.proofs.Common.{sym}
use Rattle.message.specs.declared.Fields.{Fields}
use Rattle.state.specs.declared.Release.{Release}
use Rattle.state.specs.Book.{Book, place_of}
use Rattle.state.specs.Edit.{edited_book, no_edit}
use Rattle.soundness.specs.Sound.{sound_b, tenants_in}
use Rattle.soundness.proofs.Lists.{sound_lists}
use Rattle.releases.specs.Whole.{memory_good}
use Rattle.releases.specs.laws.Kept.{dropping_entering_kept, dropping_kept, entering_kept, leaving_kept, none_kept, way_kept}
use Rattle.decision.specs.declared.Decided.{Decided}
use Rattle.proposal.specs.Proposals.{held_from, lease_from, turned}
use Rattle.admission.specs.laws.Found.{found_at}
use Rattle.admission.specs.Tests.{lease_id_in, own_of}
use Rattle.decision.specs.Decide.{decide_of}
use Rattle.decision_laws.specs.laws.Cases.{decided_by, found_for, held_there, leased_there, new_for, old_for, renewed_for, without}
use Rattle.decision_laws.specs.laws.Kept.{held_at, held_good, held_named, id_rules}

module _ (b : Book) (h : ℕ) (m : Fields) (v : sound_b b.state b.table ≡ true) (good : memory_good b ≡ true) (eight : length b.memory.releases ≡ 8)
    (known : h < tenants_in b.state) (there : h < length b.table.tenants) where
  Keeps : Decided → Type 0
  Keeps d = memory_good (edited_book d.edit h b) ≡ true

  none : memory_good (edited_book no_edit h b) ≡ true
  none = none_kept b h good

  -- whatever the decision took for the tenant's releases
  pub decision_remembers : (q : List Release) → memory_good (edited_book (decide_of b.state b.table q h m).edit h b) ≡ true
  unfolding Keeps lease_from turned held_from
  decision_remembers q = decided_by b.state b.table h m Keeps (record {
    resent = λ e. none;
    again = none;
    refused = λ e. none;
    repeated = λ k held. none;
    taken = λ k held.
        let t = held_there (found_for b.table h m) held in
        way_kept b h known there eight good (old_for b.table h m) (turned m (old_for b.table h m)) (place_of (lease_id_in m) (own_of b.table h)) (found_at (lease_id_in m) (own_of b.table h)) (held_at b.state b.table h m t) refl;
    offered = λ k ok free e. entering_kept b h known there eight good (held_from b.state.clock (new_for b.state b.table h m));
    requested = λ k ok free e. entering_kept b h known there eight good (new_for b.state b.table h m);
    dropped = λ k held. dropping_kept b h known there eight good (old_for b.table h m);
    moved = λ k ok held e. dropping_entering_kept b h known there eight good (old_for b.table h m) (new_for b.state (without b.table h m) h m);
    renewed = λ k ok leased e.
        let t = leased_there (found_for b.table h m) leased in
        way_kept b h known there eight good (old_for b.table h m) (renewed_for b.state b.table h m) (place_of (lease_id_in m) (own_of b.table h)) (found_at (lease_id_in m) (own_of b.table h)) (held_at b.state b.table h m t)
        (sym (held_named b.state b.table h m t));
    released = λ k leased.
        let t = leased_there (found_for b.table h m) leased in
        let r = id_rules b.state (old_for b.table h m) (held_good b.state b.table h m t (sound_lists b.state b.table v)) in
        leaving_kept b h known there eight good (old_for b.table h m) m.xid (place_of (lease_id_in m) (own_of b.table h)) (found_at (lease_id_in m) (own_of b.table h)) (held_at b.state b.table h m t) r.0 r.1;
    informed = none;
  }) q
