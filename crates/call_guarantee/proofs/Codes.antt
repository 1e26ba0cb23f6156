-- Laws: what the reader finds in a reply: the codes of the options that it was written from.
use Prim.Native.Nat.{ℕ, ◌+◌, ◌<◌}
use mathlib.Core.Path.{◌≡◌, refl, sym, ap, ap₂, ◌∙◌}
use mathlib.Core.Bool.{Bool, true, false, not}
use mathlib.Core.List.{List, [], ◌∷◌, ◌++◌, map}
use native.Mathlib.Omega.{arith}
use lib.Dec.{eqb}
use lib.ListN.{length, get_or, set, replicate, get_or-replicate, length-set}
use lib.Seq.{get_or-set_same, get_or-set_other}
use borrow.Author.Tests.{eqb-true, eqb-false, ne_eqb}
use Rattle.lists.specs.Pick.{pick}
use Rattle.lists.specs.All.{All}
use Rattle.lists.specs.Filter.{filter_by, is_in}
use Rattle.message.specs.declared.Walk.{Walk}
use Rattle.reply.specs.Reply.{Option, message_octets, option, wanted}
use Rattle.reply.proofs.ReadBack.{ReadBack, places_from}
use Rattle.call_guarantee.specs.Statement.{ReadAs, codes_in, option_codes, replies}

abbrev pub codes : List Option → List ℕ
codes os = map (λ o. o.code) os

-- ---- the place of a code is 0 just where no option has it
pub found : (os : List Option) (at : ℕ) (places : List ℕ) (c : ℕ) → 0 < at → c < length places
    → eqb (get_or (places_from at os places) c 0) 0 ≡ pick (is_in c (codes os)) false (eqb (get_or places c 0) 0)
unfolding places_from is_in pick
found [] at places c h l = refl
found (o ∷ os) at places c h l =
    found os (at + 4 + length o.value) (set places o.code at) c (omega arith) (let e = length-set places o.code at in omega arith)
    ∙ go (eqb c o.code) refl (is_in c (codes os))
  where
    go : (t : Bool) → eqb c o.code ≡ t → (i : Bool)
        → pick i false (eqb (get_or (set places o.code at) c 0) 0) ≡ pick (pick t true i) false (eqb (get_or places c 0) 0)
    go true e i =
        let k : c ≡ o.code = eqb-true c o.code e in
        let v : get_or (set places o.code at) c 0 ≡ at = ap (λ (x : ℕ). get_or (set places x at) c 0) (sym k) ∙ get_or-set_same places c at 0 l in
        ap (λ (x : ℕ). pick i false (eqb x 0)) v ∙ ap (λ (x : Bool). pick i false x) (ne_eqb at 0 (λ z. absurd (omega arith))) ∙ none i
      where
        none : (i : Bool) → pick i false false ≡ false
        none true = refl
        none false = refl
    go false e i = ap (λ (x : ℕ). pick i false (eqb x 0)) (get_or-set_other places o.code c at 0 (eqb-false c o.code e))

filter_below : (f g : ℕ → Bool) (n : ℕ) (l : List ℕ) → ((c : ℕ) → c < n → f c ≡ g c) → All (λ c. c < n) l → filter_by f l ≡ filter_by g l
unfolding filter_by All
filter_below f g n [] e a = refl
filter_below f g n (x ∷ l) e a = ap₂ (λ (t : Bool) (r : List ℕ). pick t (x ∷ r) r) (e x a.0) (filter_below f g n l e a.1)

pub codes_found : (kind xid : ℕ) (os : List Option) → ReadBack kind xid os → codes_in (message_octets kind xid os) ≡ filter_by (λ c. is_in c (codes os)) option_codes
unfolding ReadBack codes_in All pick
codes_found kind xid os e =
    ap (λ (w : Walk). filter_by (λ c. not (eqb (get_or w.places c 0) 0)) option_codes) e
    ∙ filter_below _ _ 17 option_codes each
    (omega arith, (omega arith, (omega arith, (omega arith, (omega arith, (omega arith, (omega arith, (omega arith, (omega arith, (omega arith, (omega arith, (omega arith, (omega arith, (omega arith, (omega arith, tt)))))))))))))))
  where
    put : (i : Bool) → not (pick i false true) ≡ i
    put true = refl
    put false = refl

    each : (c : ℕ) → c < 17 → not (eqb (get_or (places_from 8 os (replicate 17 0)) c 0) 0) ≡ is_in c (codes os)
    each c h =
        ap not (found os 8 (replicate 17 0) c (omega arith) h)
        ∙ ap (λ (x : ℕ). not (pick (is_in c (codes os)) false (eqb x 0))) (get_or-replicate 17 c 0 0 h) ∙ put (is_in c (codes os))

-- ---- so a reply is read as the one of document 01 whose codes it was written with
pub OneOf : ℕ → List Option → Type 0
OneOf kind os = (k : ℕ) × ((k < length replies) × ((kind ∷ filter_by (λ c. is_in c (codes os)) option_codes) ≡ get_or replies k []))

pub read_as : (kind xid : ℕ) (os : List Option) → ReadBack kind xid os → OneOf kind os → ReadAs (message_octets kind xid os)
unfolding ReadBack message_octets OneOf
read_as kind xid os e o = record {
  whole = ap (λ (w : Walk). w.stage) e;
  one = (o.0, (o.1.0, ap (λ (l : List ℕ). kind ∷ l) (codes_found kind xid os e) ∙ o.1.1));
}

-- ---- the codes of each reply, with 12 or without
pub offer_found : (v1 v2 v3 v4 v6 v10 v11 v12 : List ℕ) (f : Bool)
    → OneOf 2 (option 1 v1 ∷ option 2 v2 ∷ option 3 v3 ∷ option 4 v4 ∷ option 6 v6 ∷ option 10 v10 ∷ option 11 v11 ∷ wanted f (option 12 v12))
unfolding OneOf filter_by is_in pick
offer_found v1 v2 v3 v4 v6 v10 v11 v12 true = (0, (omega arith, refl))
offer_found v1 v2 v3 v4 v6 v10 v11 v12 false = (0, (omega arith, refl))

pub lease_found : (v1 v2 v3 v4 v6 v10 v11 v12 : List ℕ) (f : Bool)
    → OneOf 5 (option 1 v1 ∷ option 2 v2 ∷ option 3 v3 ∷ option 4 v4 ∷ option 6 v6 ∷ option 10 v10 ∷ option 11 v11 ∷ wanted f (option 12 v12))
unfolding OneOf filter_by is_in pick
lease_found v1 v2 v3 v4 v6 v10 v11 v12 true = (1, (omega arith, refl))
lease_found v1 v2 v3 v4 v6 v10 v11 v12 false = (1, (omega arith, refl))

pub release_found : (v2 v3 v12 : List ℕ) (f : Bool) → OneOf 5 (option 2 v2 ∷ option 3 v3 ∷ wanted f (option 12 v12))
unfolding OneOf filter_by is_in pick
release_found v2 v3 v12 true = (2, (omega arith, refl))
release_found v2 v3 v12 false = (2, (omega arith, refl))

pub info_found : (v2 v3 v9 v11 v12 : List ℕ) (a b f : Bool) → OneOf 5 (option 2 v2 ∷ option 3 v3 ∷ wanted a (option 9 v9) ++ wanted b (option 11 v11) ++ wanted f (option 12 v12))
unfolding OneOf filter_by is_in pick
info_found v2 v3 v9 v11 v12 false false true = (2, (omega arith, refl))
info_found v2 v3 v9 v11 v12 false false false = (2, (omega arith, refl))
info_found v2 v3 v9 v11 v12 true false true = (3, (omega arith, refl))
info_found v2 v3 v9 v11 v12 true false false = (3, (omega arith, refl))
info_found v2 v3 v9 v11 v12 false true true = (4, (omega arith, refl))
info_found v2 v3 v9 v11 v12 false true false = (4, (omega arith, refl))
info_found v2 v3 v9 v11 v12 true true true = (5, (omega arith, refl))
info_found v2 v3 v9 v11 v12 true true false = (5, (omega arith, refl))

pub nak_found : (v2 v3 v12 v16 : List ℕ) (f : Bool) → OneOf 6 (option 2 v2 ∷ option 3 v3 ∷ wanted f (option 12 v12) ++ option 16 v16 ∷ [])
unfolding OneOf filter_by is_in pick
nak_found v2 v3 v12 v16 true = (6, (omega arith, refl))
nak_found v2 v3 v12 v16 false = (6, (omega arith, refl))
