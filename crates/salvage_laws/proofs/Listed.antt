-- Laws: the list of those dropped: each is judged with those kept before it, and the list names just those that break a rule.
use mathlib.Core.Bool.{Bool, false, true}
use mathlib.Core.List.{List, [], ◌++◌, ◌∷◌, append_assoc}
use mathlib.Core.Path.{◌≡◌, refl, subst, sym}
use Prim.Native.Nat.{◌+◌, ◌-◌, ◌<◌, ℕ}
use native.Mathlib.Omega.{arith}
use lib.Dec.{eqb}
use lib.ListN.{get_or, length, length-append}
use lib.Seq.{get_or_at}
use borrow.Author.Tests.{eqb-false}
use Rattle.lists.specs.All.{All}
use Rattle.lists.specs.Pick.{pick}
use Rattle.salvage_list.specs.List.{dropped_from}
use Rattle.salvage_walk.specs.Walk.{kept_after, kept_with, rules_in}
use Rattle.salvage_laws.specs.Statement.{JudgedInTurn, ListedIn, ListedRight}

judged_after : {A B : Type 0} (rule : B → A → ℕ) (add : B → A → B) (b : B) (before : List A) (x : A) (after : List A)
    → get_or (rules_in rule add b (before ++ x ∷ after)) (length before) 0 ≡ rule (kept_after rule add b before) x
unfolding rules_in
judged_after rule add b [] x after = refl
judged_after rule add b (y ∷ before) x after = judged_after rule add (kept_with rule add b y) before x after

pub judged_in_turn : JudgedInTurn
unfolding JudgedInTurn
judged_in_turn A B rule add b before x after = judged_after rule add b before x after

-- the rules before a place, and from it on
listed_from : (kind n : ℕ) (before rs : List ℕ) → n ≡ length before + 1 → All (ListedIn kind (before ++ rs)) (dropped_from kind n rs)
unfolding dropped_from All pick
listed_from kind n before [] e = tt
listed_from kind n before (r ∷ rs) e =
    go (eqb r 0) refl
    (subst (λ (l : List ℕ). All (ListedIn kind l) (dropped_from kind (n + 1) rs)) (append_assoc before (r ∷ []) rs)
    (listed_from kind (n + 1) (before ++ r ∷ []) rs (let k = length-append before (r ∷ []) in let q : n + 1 ≡ length (before ++ r ∷ []) + 1 = omega arith in q)))
  where
    go : (b : Bool) → eqb r 0 ≡ b → All (ListedIn kind (before ++ r ∷ rs)) (dropped_from kind (n + 1) rs)
        → All (ListedIn kind (before ++ r ∷ rs)) (pick b (dropped_from kind (n + 1) rs) (record { kind = kind; place = n; rule = r } ∷ dropped_from kind (n + 1) rs))
    go true q ih = ih
    go false q ih = (
      record {
        kinds = refl;
        from = omega arith;
        to = let k = length-append before (r ∷ rs) in omega arith;
        ruled = sym (get_or_at before r rs 0 (n - 1) (let z : length before ≡ n - 1 = omega arith in z));
        broken = let z = eqb-false r 0 q in positive r z;
      },
      ih,
    )
      where
        positive : (r : ℕ) → (r ≡ 0 → ⊥) → 0 < r
        positive r z = omega arith

pub listed_right : ListedRight
unfolding ListedRight
listed_right kind rs = listed_from kind 1 [] rs refl
