-- Laws: a tenant of lent records has at most sixteen in use, so that a lookup among them compares at most sixteen.
use Prim.Native.Nat.{ℕ, zero, suc, ◌≤◌}
use mathlib.Core.Bool.{Bool, true, false}
use mathlib.Core.List.{List, [], map}
use native.Mathlib.Omega.{arith}
use lib.ListN.{drop, get_or, length, length-take, take}
use Rattle.lists.specs.Pick.{pick}
use Rattle.lists.specs.Place.{place_by}
use Rattle.state.specs.declared.Lease.{Lease}
use Rattle.state.specs.Book.{in_use, laid_out, lookup_of, no_lookup}
use Rattle.state.specs.laws.Lookup.{compared_few}
use Rattle.soundness.specs.Sound.{unused_b}
use Rattle.admission.specs.Tests.{own_of}
use Rattle.records.specs.Records.{rows, table_from, tenant_from}
use Rattle.records.specs.Lent.{find_with, is128}
use Rattle.lent_guarantee.specs.Statement.{FindsFew}

own_few : (n h : ℕ) (ls : List Lease) → length (in_use (get_or (map tenant_from (rows n ls)) h (laid_out []))) ≤ 16
unfolding rows tenant_from laid_out
own_few zero h ls = omega arith
own_few (suc n) zero ls = let a = length-take (place_by unused_b (take 16 ls)) (take 16 ls) in let b = length-take 16 ls in omega arith
own_few (suc n) (suc h) ls = own_few n h (drop 16 ls)

pub finds_few : FindsFew
unfolding FindsFew find_with table_from pick
finds_few h i ls = go (is128 (length ls))
  where
    go : (b : Bool) → (pick b (lookup_of i (own_of (table_from ls) h)) no_lookup).compared ≤ 16
    go true = let f = compared_few i (own_of (table_from ls) h) in let n = own_few 8 h ls in omega arith
    go false = omega arith
