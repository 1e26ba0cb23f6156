-- Laws: a message that was read has a good identifier, so that the law of soundness applies to it.
use Rattle.std.specs.Prelude.{ℕ, zero, suc, ◌+◌, ◌-◌, ◌≡◌, refl, Bool, true, ◌&&◌, Some, None, List, leb, eqb, length, get_or, take, drop, replicate}
use Rattle.std.proofs.Common.{sym, ap, ◌∙◌, subst, arith, length-append, length-take, length-drop, drop_at, leb-true, ne_eqb}
use Rattle.std.proofs.lemmas.List.{length-replicate}
use Rattle.std.proofs.lemmas.Bool.{eqb-false}
use Rattle.lists.specs.Pick.{pick}
use Rattle.lists.specs.All.{all_by}
use Rattle.lists.specs.laws.All.{all_cons}
use Rattle.lists.specs.laws.Both.{and_parts}
use Rattle.lists.specs.Filter.{is_in}
use Rattle.message.specs.Codes.{length_ok}
use Rattle.message.specs.Walk.{code_at, length_at, after_at, value_ok, exactly_filled, walk_of}
use Rattle.message.specs.Read.{header_ok, no_message, none_required, ended, by_stage, read_of}
use Rattle.message.specs.Values.{found_at, find_of, padded, identifier_at, identifier_of, fields_of}
use Rattle.message.specs.Placed.{Placed}
use Rattle.message.specs.laws.Placed.{placed, read_good, pick_cases}
use Rattle.message.specs.declared.Identifier.{Identifier}
use Rattle.message.specs.declared.Reading.{Reading}
use Rattle.message.specs.declared.Stage.{Stage}
use Rattle.message.specs.declared.Stage.TheVariants.{Walking, Done, Broken}
use Rattle.soundness.specs.Sound.{zero_from}
use Rattle.decision_laws.specs.laws.Kept.{GoodId}

-- option 3 is required
read_named : (s : List ℕ) → (read_of s).discard ≡ 0 → get_or (read_of s).message.places 3 0 ≡ 0 → ⊥
unfolding read_of ended
read_named s =
    pick_cases P (header_ok s) _ _ (λ e. at_stage (walk_of s).stage) (λ e d z. absurd (omega arith))
  where
    P : Reading → Type 0
    P r = r.discard ≡ 0 → get_or r.message.places 3 0 ≡ 0 → ⊥

    at_stage : (t : Stage) → P (by_stage t (ended s (walk_of s).places) (no_message 5 (walk_of s).at))
    at_stage Walking = λ d z. absurd (omega arith)
    at_stage Done =
        pick_cases P (eqb (get_or (walk_of s).places 3 0) 0) _ _ (λ e d z. absurd (omega arith)) (λ e.
        pick_cases P (none_required s (walk_of s).places) _ _ (λ u d z. eqb-false (get_or (walk_of s).places 3 0) 0 e z) (λ u d z. absurd (omega arith)))
    at_stage Broken = λ d z. absurd (omega arith)

-- its length is from 2 to 32
id_long : (s : List ℕ) (at : ℕ) → Placed s 3 at → (leb 2 (length_at s at) && leb (length_at s at) 32) ≡ true
unfolding value_ok length_ok pick is_in
id_long s at p =
    let e : (length_ok (code_at s at) (length_at s at) && pick (eqb (code_at s at) 12) (exactly_filled s (at + 4) (after_at s at)) true) ≡ true = p.right in
    let f = and_parts (length_ok (code_at s at) (length_at s at)) (pick (eqb (code_at s at) 12) (exactly_filled s (at + 4) (after_at s at)) true) e in
    sym (ap (λ (c : ℕ). length_ok c (length_at s at)) p.named) ∙ f.0

zeros : (k : ℕ) → all_by (λ x. eqb x 0) (replicate k 0) ≡ true
unfolding all_by
zeros zero = refl
zeros (suc k) = all_cons (λ x. eqb x 0) 0 (replicate k 0) refl (zeros k)

-- and zeros stand behind it
id_padded : (s : List ℕ) (at : ℕ) → Placed s 3 at → zero_from (length_at s at) (padded 32 (length_at s at) (drop (at + 4) s)) ≡ true
unfolding zero_from
id_padded s at p =
    let f = p.fits in
    let a = length-take (length_at s at) (drop (at + 4) s) in
    let b = length-drop (at + 4) s in
    ap (all_by (λ x. eqb x 0)) (drop_at (take (length_at s at) (drop (at + 4) s)) (replicate (32 - length_at s at) 0) (length_at s at) (omega arith)) ∙ zeros (32 - length_at s at)

pub read_id : (s : List ℕ) (server : ℕ) → (read_of s).discard ≡ 0 → GoodId (fields_of s server (read_of s).message)
unfolding fields_of found_at pick
read_id s server e =
    let at : ℕ = get_or (read_of s).message.places 3 0 in
    let p = placed s (read_of s).message.places 3 (read_good s) (read_named s e) in
    let q : identifier_at s at ≡ identifier_of s (find_of (read_of s).message.places 3) = ap (λ (b : Bool). identifier_of s (pick b None (Some at))) (sym (ne_eqb at 0 (read_named s e))) in
    record {
      long = subst (λ (i : Identifier). (leb 2 i.len && leb i.len 32) ≡ true) q (id_long s at p);
      padded = subst (λ (i : Identifier). zero_from i.len i.octets ≡ true) q (id_padded s at p);
    }

-- in an array of 32 octets
pub read_array : (s : List ℕ) (server : ℕ) → (read_of s).discard ≡ 0 → length (fields_of s server (read_of s).message).id.octets ≡ 32
unfolding fields_of found_at pick
read_array s server e =
    let at : ℕ = get_or (read_of s).message.places 3 0 in
    let p = placed s (read_of s).message.places 3 (read_good s) (read_named s e) in
    let q : identifier_at s at ≡ identifier_of s (find_of (read_of s).message.places 3) = ap (λ (b : Bool). identifier_of s (pick b None (Some at))) (sym (ne_eqb at 0 (read_named s e))) in
    let n : ℕ = length_at s at in
    let few = leb-true n 32 (and_parts (leb 2 n) (leb n 32) (id_long s at p)).1 in
    let f = p.fits in
    let a = length-take n (drop (at + 4) s) in
    let b = length-drop (at + 4) s in
    let c = length-append (take n (drop (at + 4) s)) (replicate (32 - n) 0) in
    let d = length-replicate {A = ℕ} (32 - n) 0 in
    ap (λ (i : Identifier). length i.octets) (sym q) ∙ (let g : length (padded 32 n (drop (at + 4) s)) ≡ 32 = omega arith in g)
