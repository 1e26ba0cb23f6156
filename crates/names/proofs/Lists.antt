-- Laws: the lists of a section: where list j of the scope at a place begins, and that it is a part of the section.
use Rattle.std.specs.Prelude.{IsSome, None, Option, Some}
use Rattle.std.proofs.Common.{inl, inr, rules, zero}
use Rattle.std.proofs.lemmas.Option.{same_Some}
use mathlib.Core.Bool.{true}
use mathlib.Core.List.{List, [], ◌∷◌, append-nil}
use mathlib.Core.Path.{◌≡◌, refl, sym, ap, ap₂, ◌∙◌, subst}
use Prim.Native.Nat.{ℕ, suc, ◌+◌, ◌-◌, ◌≤◌, ◌<◌}
use native.Mathlib.Omega.{arith}
use native.Mathlib.Nat.{add-zero}
use lib.ListN.{length, drop, take, get_or, length-drop, length-append}
use lib.Seq.{take_at, get_or-drop, drop-drop}
use Rattle.format.specs.Format.{Format, got, bad, read_times, times, Octets}
use Rattle.format.specs.Place.{Ends, Leads}
use Rattle.format.specs.laws.Format.{then_got}
use Rattle.format.specs.laws.Place.{ends_in, ends_value, ends_bad}
use Rattle.message.specs.declared.Language.{Language}
use Rattle.names.specs.Names.{Name, list_format, names_b, names_in, lists_in, list_in, sent_for, chosen_of, value_or, shown, Begins, IsList}
use Rattle.names.specs.laws.Names.{list_lawful, good_opened}

-- ---- the loop that passes over the first m of k values: those that are left
pub record Left {A : Type 0} (f : Format A) (s : List ℕ) (k m : ℕ) (xs : List A) (here i : ℕ) : Type 0 where
  pub within : i ≤ m
  pub inside : here ≤ length s
  pub rest : List A
  pub tail : List ℕ
  pub reads : read_times (k - i) f.read (drop here s) ≡ got rest tail
  pub are : rest ≡ drop i xs

pub left_start : {A : Type 0} {f : Format A} {s : List ℕ} {k m : ℕ} {xs : List A} {at : ℕ} → Begins (times k f) s at xs → Left f s k m xs at 0
left_start {f = f} {s = s} {k = k} {xs = xs} {at = at} b = record {
  within = omega arith;
  inside = b.inside;
  rest = xs;
  tail = b.rest;
  reads = ap (λ (n : ℕ). read_times n f.read (drop at s)) (let e : k - 0 ≡ k = omega arith in e) ∙ b.reads;
  are = refl;
}

-- the next value, and the others
record Next {A : Type 0} (f : Format A) (s : List ℕ) (j here : ℕ) (rest : List A) : Type 0 where
  first : A
  others : List A
  at : List ℕ
  end : List ℕ
  is : rest ≡ first ∷ others
  here_reads : f.read (drop here s) ≡ got first at
  reads : read_times j f.read at ≡ got others end

module _ {A : Type 0} {f : Format A} {s : List ℕ} {k m : ℕ} {xs : List A} {here i : ℕ} (v : Left f s k m xs here i) where
  step : i < k → read_times (suc (k - (i + 1))) f.read (drop here s) ≡ got v.rest v.tail
  step h = ap (λ (n : ℕ). read_times n f.read (drop here s)) (let e : suc (k - (i + 1)) ≡ k - i = omega arith in e) ∙ v.reads

  next_of : i < k → Next f s (k - (i + 1)) here v.rest
  unfolding read_times
  next_of h =
      let (x, t, ex, e') = then_got (f.read (drop here s)) _ v.rest v.tail (step h) in
      let (ys, u, ey, e'') = then_got (read_times (k - (i + 1)) f.read t) _ v.rest v.tail e' in
      let p : x ∷ ys ≡ v.rest = cc in
      record { first = x; others = ys; at = t; end = u; is = sym p; here_reads = ex; reads = ey }

  pub left_next : {next a : ℕ} → i < m → m < k → Ends f s here a (Some next) → Left f s k m xs next (i + 1)
  left_next {next} {a} h g w =
      let n = next_of (omega arith) in
      let e = ends_value w in
      let same : got n.first n.at ≡ got e.0 (drop next s) = sym n.here_reads ∙ e.1.reads in
      let p : n.at ≡ drop next s = cc in
      record {
        within = omega arith;
        inside = (ends_in w).1;
        rest = n.others;
        tail = n.end;
        reads = ap (read_times (k - (i + 1)) f.read) (sym p) ∙ n.reads;
        are = ap (drop 1) (sym n.is ∙ v.are) ∙ drop-drop 1 i xs;
      }

  -- a section has no broken value
  pub left_broken : {B : Type 0} {a : ℕ} → i < m → m < k → Ends f s here a None → B
  left_broken h g w =
      let n = next_of (omega arith) in
      let e : bad ≡ got n.first n.at = sym (ends_bad w).reads ∙ n.here_reads in
      let z : ◌≡◌ {A = ℕ} 0 1 = cc in absurd (omega arith)

  -- past m values, the one at place m begins
  pub left_done : (d : A) → m ≤ i → m < k → Begins f s here (get_or xs m d)
  left_done d h g =
      let n = next_of (let w = v.within in omega arith) in
      let e : i ≡ m = (let w = v.within in omega arith) in
      let q : get_or xs m d ≡ n.first = ap (λ (j : ℕ). get_or xs j d) (sym e ∙ sym (add-zero i)) ∙ sym (get_or-drop i xs 0 d) ∙ ap (λ (l : List A). get_or l 0 d) (sym v.are ∙ n.is) in
      record { inside = v.inside; rest = n.at; reads = n.here_reads ∙ ap (λ (x : A). got x n.at) (sym q) }

-- past m values, steps of which each ends a value lead to where the one at place m begins
leads_left : {A : Type 0} {f : Format A} {s : List ℕ} {k m : ℕ} {xs : List A} {step : ℕ → Option ℕ → Type 0} (d : A)
    → ((here : ℕ) (r : Option ℕ) → here ≤ length s → step here r → (a : ℕ) × Ends f s here a r) → m < k
    → (j i here : ℕ) (r : Option ℕ) → i + j ≡ m → Left f s k m xs here i → Leads step j here r → (n : ℕ) × (r ≡ Some n) × Begins f s n (get_or xs m d)
unfolding Leads
leads_left d ends h zero i here r e v w = (here, w, left_done v d (omega arith) h)
leads_left d ends h (suc j) i here r e v (inl (n, p, w)) =
    leads_left d ends h j (i + 1) n r (omega arith) (left_next v (omega arith) h (ends here (Some n) v.inside p).1) w
leads_left d ends h (suc j) i here r e v (inr (p, w)) = left_broken v (omega arith) h (ends here None v.inside p).1

pub leads_begin : {A : Type 0} {f : Format A} {s : List ℕ} {k m at : ℕ} {xs : List A} {r : Option ℕ} {step : ℕ → Option ℕ → Type 0} (d : A)
    → ((here : ℕ) (r : Option ℕ) → here ≤ length s → step here r → (a : ℕ) × Ends f s here a r) → m < k
    → Begins (times k f) s at xs → Leads step m at r → (n : ℕ) × (r ≡ Some n) × Begins f s n (get_or xs m d)
leads_begin {m = m} {at = at} {r = r} d ends h b w = leads_left d ends h m 0 at r (omega arith) (left_start b) w

-- ---- scopes and their lists
module _ (h : ℕ) (s : List ℕ) {step : ℕ → Option ℕ → Type 0} {r : Option ℕ} where
  pub scope_past : {n m : ℕ} → n ≡ h + 1 → names_b (get_or s 0 0) h s ≡ true → m < get_or s 0 0
      → ((here : ℕ) (r : Option ℕ) → here ≤ length s → step here r → Ends (times n list_format) s here n r) → Leads step m 1 r
      → (t : ℕ) × (r ≡ Some t) × Begins (times (h + 1) list_format) s t (get_or (lists_in h s) m [])
  scope_past {n} {m} e g l ends w =
      let o = good_opened (get_or s 0 0) h s g in
      let a = o.0 in
      let reads : read_times (get_or s 0 0) (times n list_format).read (drop 1 s) ≡ got (lists_in h s) [] = ap (λ (j : ℕ). read_times (get_or s 0 0) (times j list_format).read (drop 1 s)) e ∙ o.2 in
      let p = leads_begin {f = times n list_format} {step = step} [] (λ here r i p. (n, ends here r i p)) l (record { inside = omega arith; rest = []; reads = reads }) w in
      (p.0, p.1, subst (λ (j : ℕ). Begins (times j list_format) s p.0 (get_or (lists_in h s) m [])) e p.2)

  pub list_past : {at m : ℕ} {xs : List (List Name)} → m ≤ h → Begins (times (h + 1) list_format) s at xs
      → ((here : ℕ) (r : Option ℕ) → here ≤ length s → step here r → Ends list_format s here 1 r) → Leads step m at r → (t : ℕ) × (r ≡ Some t) × Begins list_format s t (get_or xs m [])
  list_past l b ends w = leads_begin {f = list_format} {step = step} [] (λ here r i p. (1, ends here r i p)) (omega arith) b w

module _ {A : Type 0} {f : Format A} {s : List ℕ} {x : A} {r : Option ℕ} (w : (t : ℕ) × (r ≡ Some t) × Begins f s t x) where
  pub past_some : IsSome r
  past_some = subst IsSome (sym w.1) (search rules)

  pub past_at : {n : ℕ} → r ≡ Some n → Begins f s n x
  past_at e = subst (λ (t : ℕ). Begins f s t x) (same_Some _ _ (sym w.1 ∙ e)) w.2

-- what lies between two places is the list that begins at the first and ends at the second
pub part_list : {s : List ℕ} {here next a : ℕ} {l : List Name} → Octets s → Begins list_format s here l → Ends list_format s here a (Some next) → IsList (take (next - here) (drop here s)) l
part_list {s} {here} {next} {a} {l} o b w =
    let e = ends_value w in
    let same : got l b.rest ≡ got e.0 (drop next s) = sym b.reads ∙ e.1.reads in
    let p : b.rest ≡ drop next s = cc in
    let q : list_format.read (drop here s) ≡ got l (drop next s) = b.reads ∙ ap (got l) p in
    let r = list_lawful.reads (drop here s) l (drop next s) (λ j. subst (λ (x : ℕ). x < 256) (sym (get_or-drop here s j 0)) (o (here + j))) q in
    let x = length-drop here s in
    let y = length-drop next s in
    let z : length (drop here s) ≡ length (list_format.write l) + length (drop next s) = ap length r.1 ∙ length-append (list_format.write l) (drop next s) in
    let c = (ends_in w).0 in let d = (ends_in w).1 in
    let is : take (next - here) (drop here s) ≡ list_format.write l =
    ap (take (next - here)) r.1 ∙ take_at (list_format.write l) (drop next s) (next - here) (let g : length (list_format.write l) ≡ next - here = omega arith in g) in
    record { reads = ap list_format.read (is ∙ sym (append-nil (list_format.write l))) ∙ list_lawful.written l [] r.0 }

pub part_some : {s : List ℕ} {here a : ℕ} {l : List Name} {r : Option ℕ} → Begins list_format s here l → Ends list_format s here a r → IsSome r
part_some {r = Some n} b w = search rules
part_some {l = l} {r = None} b w =
    let e : bad ≡ got l b.rest = sym (ends_bad w).reads ∙ b.reads in
    let z : ◌≡◌ {A = ℕ} 0 1 = cc in absurd (omega arith)

-- ---- the name of a scope
pub names_are : {s : List ℕ} {l : List Name} → IsList s l → IsList s (names_in s)
unfolding value_or
names_are {s} {l} v = record { reads = v.reads ∙ ap (λ (x : List Name). got x []) (sym (ap (value_or []) v.reads)) }

pub sent_is : {own campus r : List ℕ} (h : ℕ) (s : List ℕ) (tenant place : ℕ) (l : Language) → IsList own (list_in h s place (tenant + 1)) → IsList campus (list_in h s place 0)
    → r ≡ shown (chosen_of l (names_in own) (names_in campus)) → r ≡ shown (sent_for h s tenant place l)
unfolding sent_for value_or
sent_is h s tenant place l a b e = e ∙ ap₂ (λ (x y : List Name). shown (chosen_of l x y)) (ap (value_or []) a.reads) (ap (value_or []) b.reads)
