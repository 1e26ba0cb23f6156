-- Laws: the walk over a section: each entry is judged with those kept before it, and a loop over the octets of the entries keeps them and their rules.
use mathlib.Core.List.{List, [], ◌++◌, ◌∷◌, append-nil}
use Rattle.std.proofs.Common.{◌∙◌}
use Rattle.std.specs.Prelude.{◌≡◌, replicate}
use Rattle.std.proofs.Math.Path.{ap, refl, subst, sym}
use Prim.Native.Nat.{◌+◌, ◌-◌, ◌<◌, ◌≤◌, suc, ℕ}
use native.Mathlib.Omega.{arith}
use Rattle.std.proofs.Math.ListN.{length, length-append}
use Rattle.std.proofs.lemmas.List.{length-replicate}
use Rattle.lists.specs.Row.{laid_row}
use Rattle.format.specs.Place.{EachAt, walk}
use Rattle.format.specs.Section.{InRow, Inside}
use Rattle.salvage_list.specs.List.{marked}
use Rattle.salvage_walk.specs.Walk.{kept_after, kept_with, rules_in}

module _ {A B : Type 0} (rule : B → A → ℕ) (add : B → A → B) where
  pub rules_length : (b : B) (xs : List A) → length (rules_in rule add b xs) ≡ length xs
  unfolding rules_in
  rules_length b [] = refl
  rules_length b (x ∷ xs) = ap suc (rules_length (kept_with rule add b x) xs)

  -- what a loop over a section keeps: b of those kept and the rules told so far; what is left, from `here` on, gives the rest of the rules and the same end
  pub record WalkInv (v : List ℕ → ℕ → A) (next : List ℕ → ℕ → ℕ) (s : List ℕ) (from count : ℕ) (before b : B) (rules : List ℕ) (here i : ℕ) : Type 0 where
    pub within : i ≤ count
    pub few : count < 256
    pub each : InRow next s here (count - i)
    pub front : List ℕ
    pub many : length front ≡ i
    pub laid : rules ≡ laid_row 0 255 front
    pub kept : kept_after rule add b (walk v next (count - i) s here) ≡ kept_after rule add before (walk v next count s from)
    pub told : front ++ rules_in rule add b (walk v next (count - i) s here) ≡ rules_in rule add before (walk v next count s from)

module _ {A B : Type 0} {rule : B → A → ℕ} {add : B → A → B} {v : List ℕ → ℕ → A} {next : List ℕ → ℕ → ℕ} {s : List ℕ} {from count : ℕ} {before : B} where
  pub walk_start : count < 256 → InRow next s from count → WalkInv rule add v next s from count before before (replicate 255 0) from 0
  walk_start h r =
      let z : count - 0 ≡ count = omega arith in
      record {
        within = omega arith;
        few = h;
        each = subst (λ (k : ℕ). InRow next s from k) (sym z) r;
        front = [];
        many = refl;
        laid = refl;
        kept = ap (λ (k : ℕ). kept_after rule add before (walk v next k s from)) z;
        told = ap (λ (k : ℕ). rules_in rule add before (walk v next k s from)) z;
      }

  module _ {b : B} {rules : List ℕ} {here i : ℕ} (w : WalkInv rule add v next s from count before b rules here i) where
    pub walk_head : i < count → Inside next s here × InRow next s (next s here) (count - (i + 1))
    unfolding EachAt
    walk_head h = let e : count - i ≡ suc (count - (i + 1)) = omega arith in subst (λ (k : ℕ). InRow next s here k) e w.each

    pub walk_in : i < count → Inside next s here
    walk_in h = (walk_head h).0

    pub walk_long : length rules ≡ 255
    walk_long =
        ap length w.laid ∙ length-append w.front (replicate (255 - length w.front) 0) ∙ ap (λ (k : ℕ). length w.front + k) (length-replicate (255 - length w.front) 0)
        ∙ (let e = w.many in let f = w.few in let g = w.within in let q : length w.front + (255 - length w.front) ≡ 255 = omega arith in q)

    pub walk_open : i < count → walk v next (count - i) s here ≡ v s here ∷ walk v next (count - (i + 1)) s (next s here)
    unfolding walk
    walk_open h = let e : count - i ≡ suc (count - (i + 1)) = omega arith in ap (λ (k : ℕ). walk v next k s here) e

    ended : count ≤ i → walk v next (count - i) s here ≡ []
    unfolding walk
    ended h = let e : count - i ≡ 0 = omega arith in ap (λ (k : ℕ). walk v next k s here) e

    pub walk_kept : count ≤ i → b ≡ kept_after rule add before (walk v next count s from)
    walk_kept h = sym (ap (kept_after rule add b) (ended h)) ∙ w.kept

    pub walk_rules : count ≤ i → rules ≡ marked (rules_in rule add before (walk v next count s from))
    unfolding rules_in
    walk_rules h =
        w.laid ∙ ap (laid_row 0 255) (sym (append-nil w.front) ∙ ap (λ (l : List ℕ). w.front ++ l) (sym (ap (rules_in rule add b) (ended h))) ∙ w.told)
