-- Laws: between the code and the definitions: an edit, the loop that takes a tenant's first records off, and the loop over the tenants.
use Rattle.std.specs.Prelude.{ℕ, ◌+◌, ◌≤◌, ◌<◌, ◌≡◌, Bool, [], length, get_or, Option, None, Some}
use Rattle.std.specs.Option.{option_map_or}
use Rattle.std.proofs.Math.Path.{sym, ap₂}
use Rattle.std.proofs.Common.{ap, ◌∙◌, arith, add-one}
use Rattle.lists.specs.Fold.{fold}
use Rattle.lists.specs.laws.Part.{unmapped}
use Rattle.lists.specs.laws.Row.{at_in}
use Rattle.occupancy.specs.declared.Board.{Board}
use Rattle.occupancy.specs.Board.{no_board, same_board}
use Rattle.state.specs.declared.Edit.{Edit}
use Rattle.state.specs.declared.Lease.{Lease}
use Rattle.state.specs.declared.LeaseTable.{LeaseTable}
use Rattle.state.specs.declared.TenantLeases.{TenantLeases}
use Rattle.state.specs.Book.{in_use, laid_out, board_with}
use Rattle.state.specs.Board.{built_of, built_to}
use Rattle.state.specs.Edit.{board_edited, board_left}

-- ---- an edit
module _ (e : Edit) (h : ℕ) (b : Board) {rest : Board} (p : rest ≡ board_left e h b) where
  pub board_some : {l : Lease} {r : Board} → e.enters ≡ Some l → r ≡ board_with h rest l → r ≡ board_edited e h b
  unfolding board_edited
  board_some {l} q f = f ∙ ap (λ (x : Board). board_with h x l) p ∙ sym (ap (λ (o : Option Lease). option_map_or (board_with h (board_left e h b)) o (board_left e h b)) q)

  pub board_rest : e.enters ≡ None → rest ≡ board_edited e h b
  unfolding board_edited
  board_rest q = p ∙ sym (ap (λ (o : Option Lease). option_map_or (board_with h (board_left e h b)) o (board_left e h b)) q)

-- ---- all tenants
pub record BuiltInv (t : LeaseTable) (now : Board) (h : ℕ) : Type 0 where
  pub within : h ≤ 8
  pub whole : now ≡ built_to t h

pub built_start : {t : LeaseTable} {now : Board} → now ≡ no_board → BuiltInv t now 0
unfolding built_to
built_start e = record { within = omega arith; whole = e }

module _ {t : LeaseTable} {now : Board} {h : ℕ} (v : BuiltInv t now h) where
  -- d is what the code's element is past the end
  pub built_next : (d : TenantLeases) {r : Board} → length t.tenants ≡ 8 → h < 8 → r ≡ fold (board_with h) now (in_use (get_or t.tenants h d)) → BuiltInv t r (h + 1)
  unfolding built_to
  built_next d e p q = record {
    within = omega arith;
    whole =
        q ∙ ap₂ (λ (b : Board) (x : TenantLeases). fold (board_with h) b (in_use x)) v.whole (at_in t.tenants 8 h d (laid_out []) e p)
        ∙ sym (ap (built_to t) (add-one h));
  }

  pub built_end : 8 ≤ h → now ≡ built_of t
  built_end p = v.whole ∙ ap (built_to t) (let e : h ≡ 8 = omega (arith, v.within) in e)

pub ruleset builds = (built_start, built_next, built_end, unmapped)

-- ---- the comparison
pub same_as : (b : Board) {q : Bool} {x w : Board} → q ≡ same_board b x → x ≡ w → q ≡ same_board b w
same_as b e p = e ∙ ap (same_board b) p
