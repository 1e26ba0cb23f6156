-- Laws: an insertion leaves the tenant's leases of other identifiers alone.
use Rattle.std.specs.Prelude.{◌≡◌, Bool, true, not, List, ◌∷◌}
use Rattle.std.proofs.Common.{sym, ap, ◌∙◌, subst}
use mathlib.Core.List.Permᴰ
use Rattle.lists.specs.Pick.{pick}
use Rattle.lists.specs.All.{all_by, pairs_by}
use Rattle.lists.specs.Filter.{filter_by}
use Rattle.lists.specs.laws.Filter.{filter_pairs, filter_none_out}
use Rattle.lists.specs.Reordered.{Reordered}
use Rattle.lists.specs.laws.Reordered.{reordered_filter}
use Rattle.lists.specs.laws.Arranged.{sorted_unique}
use Rattle.identifier.specs.laws.Order.{same_refl}
use Rattle.state.specs.declared.Lease.{Lease}
use Rattle.state.specs.Book.{id_of, differ, ordered, other, insert_of, remove_of}
use Rattle.state.specs.laws.Sorted.{insert_same}
use Rattle.state.proofs.Sorted.{rising, insert_rises}

-- a new lease, taken out again, leaves what was there
pub insert_leaves : (l : Lease) (ls : List Lease) → all_by (other (id_of l)) ls ≡ true → pairs_by differ ls ≡ true → pairs_by ordered ls ≡ true → remove_of (id_of l) (insert_of l ls) ≡ ls
unfolding remove_of filter_by pick
insert_leaves l ls new apart h =
    sym (sorted_unique differ ordered rising {x = ls} {y = filter_by (other (id_of l)) (insert_of l ls)}
    (Permᴰ.symm (subst (λ (x : List Lease). Reordered (filter_by (other (id_of l)) (insert_of l ls)) x) left (reordered_filter (other (id_of l)) (insert_same l ls))))
    apart h (filter_pairs ordered (other (id_of l)) (insert_of l ls) (insert_rises l ls new h)))
  where
    left : filter_by (other (id_of l)) (l ∷ ls) ≡ ls
    left =
        ap (λ (b : Bool). pick (not b) (l ∷ filter_by (other (id_of l)) ls) (filter_by (other (id_of l)) ls)) (same_refl (id_of l)) ∙ filter_none_out (other (id_of l)) ls new
