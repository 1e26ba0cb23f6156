-- Laws: an edit keeps the order of records, whichever decides between identifiers that differ.
use Rattle.std.specs.Prelude.{ℕ, ◌<◌, ◌≡◌, Bool, ltb, length, Option, None, Some}
use Rattle.std.specs.Option.{option_map_or}
use Rattle.std.proofs.Math.Path.{sym, ap}
use Rattle.std.proofs.Common.{◌∙◌, arith}
use Rattle.std.proofs.Math.Bool.{true, false}
use mathlib.Core.List.{List, []}
use Rattle.std.proofs.Math.ListN.{get_or, length-map, get_or-map}
use Rattle.std.proofs.Math.Seq.{get_or-set_same}
use Rattle.lists.specs.Pick.{pick}
use Rattle.lists.specs.All.{all_by, pairs_by}
use Rattle.lists.specs.Arranged.{insert_in}
use Rattle.lists.specs.laws.All.{pairs_head}
use Rattle.lists.specs.laws.Arranged.{Ordering, insert_reordered, insert_sorted}
use Rattle.lists.specs.laws.Both.{and_parts, pairs_and}
use Rattle.lists.specs.laws.Each.{map_set}
use Rattle.lists.specs.laws.Filter.{filter_pairs}
use Rattle.lists.specs.laws.Reordered.{reordered_pairs}
use Rattle.state.specs.declared.Edit.{Edit}
use Rattle.state.specs.declared.Lease.{Lease}
use Rattle.state.specs.declared.LeaseTable.{LeaseTable}
use Rattle.state.specs.declared.State.{State}
use Rattle.state.specs.declared.TenantLeases.{TenantLeases}
use Rattle.state.specs.Book.{Order, differ, id_of, in_use, laid_out, leases_of, inserted_by, other, remove_of, tenant_at}
use Rattle.state.specs.Edit.{applied_by, edited_by, left_in}
use Rattle.state.specs.laws.Layout.{read_back}
use Rattle.state.specs.laws.Sorted.{differ_turn}
use Rattle.soundness.specs.Sound.{compatible}
use Rattle.soundness.specs.laws.Added.{all_set, pairs_at, rises_at}
use Rattle.soundness.specs.laws.Book.{Sound, pair_ok}

-- a tenant's records of a sound book have different identifiers
pub differ_at : (s : State) (ls : List (List Lease)) → Sound s ls → (h : ℕ) → pairs_by differ (get_or ls h []) ≡ true
unfolding pair_ok
differ_at s ls v h = (and_parts (pairs_by differ (get_or ls h [])) (pairs_by compatible (get_or ls h [])) (sym (pairs_and differ compatible (get_or ls h [])) ∙ pairs_at s ls v h)).0

module _ (o : Order) (decides : Ordering differ o) (e : Edit) where
  -- one tenant's records, whose identifiers differ afterwards too
  pub edited_rises : (t : TenantLeases) → pairs_by o (in_use t) ≡ true → pairs_by differ (in_use (edited_by o e t)) ≡ true → pairs_by o (in_use (edited_by o e t)) ≡ true
  unfolding edited_by left_in inserted_by remove_of pick
  edited_rises t rises apart = enter e.enters (option_map_or (λ x. laid_out (remove_of (id_of x) (in_use t))) e.leaves t) (leave e.leaves) apart
    where
      leave : (c : Option Lease) → pairs_by o (in_use (option_map_or (λ x. laid_out (remove_of (id_of x) (in_use t))) c t)) ≡ true
      leave (Some x) = ap (pairs_by o) (read_back (remove_of (id_of x) (in_use t))) ∙ filter_pairs o (other (id_of x)) (in_use t) rises
      leave None = rises

      inserted : (l : Lease) (c : Bool) (u : TenantLeases) → pairs_by o (in_use u) ≡ true → pairs_by differ (in_use (pick c (laid_out (insert_in o l (in_use u))) u)) ≡ true
          → pairs_by o (in_use (pick c (laid_out (insert_in o l (in_use u))) u)) ≡ true
      inserted l true u p d =
          let back = read_back (insert_in o l (in_use u)) in
          let new = pairs_head differ l (in_use u) (sym (reordered_pairs differ differ_turn (insert_reordered o l (in_use u))) ∙ ap (pairs_by differ) (sym back) ∙ d) in
          ap (pairs_by o) back ∙ insert_sorted differ o decides l (in_use u) new.0 p
      inserted l false u p d = p

      enter : (c : Option Lease) (u : TenantLeases) → pairs_by o (in_use u) ≡ true → pairs_by differ (in_use (option_map_or (λ l. inserted_by o l u) c u)) ≡ true
          → pairs_by o (in_use (option_map_or (λ l. inserted_by o l u) c u)) ≡ true
      enter (Some l) u p d = inserted l (ltb (length (in_use u)) 16) u p d
      enter None u p d = p

  pub applied_rises : (s : State) (t : LeaseTable) (h : ℕ) → h < length t.tenants → all_by (pairs_by o) (leases_of t) ≡ true → Sound s (leases_of (applied_by o e h t)) → all_by (pairs_by o) (leases_of (applied_by o e h t)) ≡ true
  unfolding applied_by laid_out
  applied_rises s t h there rises v =
      let x : TenantLeases = edited_by o e (tenant_at t h) in
      let is : leases_of (applied_by o e h t) ≡ _ = sym (map_set in_use t.tenants h x) in
      let own : get_or (leases_of (applied_by o e h t)) h [] ≡ in_use x = ap (λ (l : List (List Lease)). get_or l h []) is ∙ get_or-set_same (leases_of t) h (in_use x) [] (let n = length-map t.tenants in_use in omega arith) in
      ap (all_by (pairs_by o)) is
      ∙ all_set (pairs_by o) (leases_of t) h (in_use x)
      (edited_rises (tenant_at t h) (ap (pairs_by o) (sym (get_or-map in_use t.tenants h (laid_out []))) ∙ rises_at o (leases_of t) h rises)
      (ap (pairs_by differ) (sym own) ∙ differ_at s (leases_of (applied_by o e h t)) v h)) rises
