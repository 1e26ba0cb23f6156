-- Laws: of formats that take octets off the front and go by these alone; and of the names in a file, which by themselves are a section.
use Rattle.std.specs.Prelude.{Bool, refl, eqb, length, take}
use Rattle.std.proofs.Math.Bool.{false, true}
use mathlib.Core.List.{List, [], ◌++◌, ◌∷◌, append_assoc, append-nil}
use Rattle.std.proofs.Common.{◌∙◌, ap₂, subst, arith, length-append, take_at}
use Rattle.std.proofs.Math.Path.{◌≡◌, ap, sym}
use Prim.Native.Nat.{◌+◌, ◌-◌, suc, zero, ℕ}
use Rattle.lists.specs.Pick.{pick}
use Rattle.format.specs.Format.{Format, Got, ◌⊗◌, ◌▷◌, after, bad, closed, counted, got, number, octet, only, read_octet, read_times, then, times, viewed}
use Rattle.format.specs.Place.{is_whole}
use Rattle.format.specs.Section.{verbatim}
use Rattle.format.specs.laws.Format.{closed_got, then_got, then_with}
use Rattle.lease_file.specs.Section.{FileHold, FileLease, holds_format, leases_format}
use Rattle.names.specs.Names.{few_names, list_format, name_format, name_ok, names_b, names_format, value_or}
use Rattle.release_file.specs.Section.{FileRelease, releases_format}
use Rattle.state.specs.declared.ClientRange.{ClientRange}
use Rattle.state_file.specs.File.{File, FileScope, Sections, file_format, last_format, of_sections, scope_format, tenant_format}

-- the octets that are taken, and that they alone give the value, whatever follows
pub record Front {A : Type 0} (f : Format A) (s : List ℕ) (x : A) (r : List ℕ) : Type 0 where
  pub taken : List ℕ
  pub joined : s ≡ taken ++ r
  pub alone : (t : List ℕ) → f.read (taken ++ t) ≡ got x t

pub record Local {A : Type 0} (f : Format A) : Type 0 where
  pub front : (s : List ℕ) (x : A) (r : List ℕ) → f.read s ≡ got x r → Front f s x r

octet_local : Local octet
unfolding read_octet
octet_local = record { front = go }
  where
    go : (s : List ℕ) (x : ℕ) (r : List ℕ) → read_octet s ≡ got x r → Front octet s x r
    go [] x r e = let z : ◌≡◌ {A = ℕ} 0 1 = cc in absurd (omega arith)
    go (y ∷ s) x r e = let p : y ≡ x = cc in let q : s ≡ r = cc in record { taken = y ∷ []; joined = cc; alone = λ t. ap (λ (v : ℕ). got v t) p }

-- one and then another
chain : {A B C : Type 0} {f : Format A} {g : Format B} {s t u : List ℕ} {x : A} {y : B} (h : A → B → C) → Front f s x t → Front g t y u
    → (w : List ℕ) × (s ≡ w ++ u) × ((v : List ℕ) → then (f.read (w ++ v)) (λ x r. then (g.read r) (λ y t. got (h x y) t)) ≡ got (h x y) v)
chain {f = f} {g = g} {u = u} {x = x} {y = y} h a b = (
  a.taken ++ b.taken,
  a.joined ∙ ap (λ (l : List ℕ). a.taken ++ l) b.joined ∙ sym (append_assoc a.taken b.taken u),
  λ v. then_with _ x (b.taken ++ v) (ap f.read (append_assoc a.taken b.taken v) ∙ a.alone (b.taken ++ v)) ∙ then_with _ y v (b.alone v),
)

both_local : {A B : Type 0} {f : Format A} {g : Format B} → Local f → Local g → Local (f ⊗ g)
both_local {A} {B} {f} {g} lf lg = record { front = go }
  where
    go : (s : List ℕ) (p : A × B) (r : List ℕ) → (f ⊗ g).read s ≡ got p r → Front (f ⊗ g) s p r
    go s p r e =
        let (x, t, ex, e') = then_got (f.read s) _ p r e in
        let (y, u, ey, e'') = then_got (g.read t) _ p r e' in
        let (w, j, q) = chain {C = A × B} (λ x y. (x, y)) (lf.front s x t ex) (lg.front t y u ey) in
        let ep : (x, y) ≡ p = cc in
        let er : u ≡ r = cc in
        record { taken = w; joined = j ∙ ap (λ (l : List ℕ). w ++ l) er; alone = λ v. q v ∙ ap (λ (z : A × B). got z v) ep }

module _ {A : Type 0} {f : Format A} (lf : Local f) where
  times_local : (n : ℕ) → Local (times n f)
  unfolding read_times
  times_local n = record { front = go n }
    where
      go : (n : ℕ) (s : List ℕ) (xs : List A) (r : List ℕ) → (times n f).read s ≡ got xs r → Front (times n f) s xs r
      go zero s xs r e = let p : [] ≡ xs = cc in let q : s ≡ r = cc in record { taken = []; joined = q; alone = λ t. ap (λ (l : List A). got l t) p }
      go (suc n) s xs r e =
          let (x, t, ex, e') = then_got (f.read s) _ xs r e in
          let (ys, u, ey, e'') = then_got (read_times n f.read t) _ xs r e' in
          let (w, j, q) = chain {C = List A} (λ x y. x ∷ y) (lf.front s x t ex) (go n t ys u ey) in
          let ep : x ∷ ys ≡ xs = cc in
          let er : u ≡ r = cc in
          record { taken = w; joined = j ∙ ap (λ (l : List ℕ). w ++ l) er; alone = λ v. q v ∙ ap (λ (z : List A). got z v) ep }

  counted_local : Local (counted f)
  unfolding read_octet
  counted_local = record { front = go }
    where
      go : (s : List ℕ) (xs : List A) (r : List ℕ) → (counted f).read s ≡ got xs r → Front (counted f) s xs r
      go s xs r e =
          let (n, t, en, e') = then_got (read_octet s) _ xs r e in
          let a = octet_local.front s n t en in
          let b = (times_local n).front t xs r e' in
          record {
            taken = a.taken ++ b.taken;
            joined = a.joined ∙ ap (λ (l : List ℕ). a.taken ++ l) b.joined ∙ sym (append_assoc a.taken b.taken r);
            alone = λ v. then_with _ n (b.taken ++ v) (ap read_octet (append_assoc a.taken b.taken v) ∙ a.alone (b.taken ++ v)) ∙ b.alone v;
          }

  only_local : (t : A → Bool) → Local (only t f)
  unfolding pick
  only_local t = record { front = go }
    where
      pass : (b : Bool) (x y : A) (u r : List ℕ) → pick b (got x u) bad ≡ got y r → (b ≡ true) × (got x u ≡ got y r)
      pass true x y u r e = (refl, e)
      pass false x y u r e = let z : ◌≡◌ {A = ℕ} 0 1 = cc in absurd (omega arith)

      go : (s : List ℕ) (y : A) (r : List ℕ) → (only t f).read s ≡ got y r → Front (only t f) s y r
      go s y r e =
          let (x, u, ex, e') = then_got (f.read s) _ y r e in
          let (et, eg) = pass (t x) x y u r e' in
          let p : x ≡ y = cc in
          let q : u ≡ r = cc in
          let a = lf.front s x u ex in
          record {
            taken = a.taken;
            joined = a.joined ∙ ap (λ (l : List ℕ). a.taken ++ l) q;
            alone = λ v. then_with _ x v (a.alone v) ∙ ap (λ (b : Bool). pick b (got x v) bad) et ∙ ap (λ (z : A). got z v) p;
          }

  after_local : (n : ℕ) → Local (after n f)
  unfolding pick read_octet
  after_local n = record { front = go }
    where
      pass : (b : Bool) (g : Got A) (y : A) (r : List ℕ) → pick b g bad ≡ got y r → (b ≡ true) × (g ≡ got y r)
      pass true g y r e = (refl, e)
      pass false g y r e = let z : ◌≡◌ {A = ℕ} 0 1 = cc in absurd (omega arith)

      go : (s : List ℕ) (y : A) (r : List ℕ) → (after n f).read s ≡ got y r → Front (after n f) s y r
      go s y r e =
          let (k, u, ek, e') = then_got (read_octet s) _ y r e in
          let (et, eg) = pass (eqb k n) (f.read u) y r e' in
          let a = octet_local.front s k u ek in
          let b = lf.front u y r eg in
          record {
            taken = a.taken ++ b.taken;
            joined = a.joined ∙ ap (λ (l : List ℕ). a.taken ++ l) b.joined ∙ sym (append_assoc a.taken b.taken r);
            alone = λ v. then_with _ k (b.taken ++ v) (ap read_octet (append_assoc a.taken b.taken v) ∙ a.alone (b.taken ++ v))
                ∙ ap (λ (c : Bool). pick c (f.read (b.taken ++ v)) bad) et ∙ b.alone v;
          }

  viewed_local : {B : Type 0} (to : A → B) (from : B → A) → Local (viewed to from f)
  viewed_local {B} to from = record { front = go }
    where
      go : (s : List ℕ) (y : B) (r : List ℕ) → (viewed to from f).read s ≡ got y r → Front (viewed to from f) s y r
      go s y r e =
          let (x, u, ex, e') = then_got (f.read s) _ y r e in
          let p : to x ≡ y = cc in
          let q : u ≡ r = cc in
          let a = lf.front s x u ex in
          record { taken = a.taken; joined = a.joined ∙ ap (λ (l : List ℕ). a.taken ++ l) q; alone = λ v. then_with _ x v (a.alone v) ∙ ap (λ (z : B). got z v) p }

name_local : Local name_format
name_local = only_local (viewed_local (both_local octet_local (both_local (counted_local octet_local) (counted_local octet_local))) _ _) name_ok

list_local : Local list_format
list_local = only_local (counted_local name_local) few_names

names_local : (k h : ℕ) → Local (names_format k h)
names_local k h = after_local (times_local (times_local list_local (h + 1)) k) k

-- the octets that a section of names kept are good names
names_kept : (k h : ℕ) (s o r : List ℕ) → (verbatim (names_format k h)).read s ≡ got o r → names_b k h o ≡ true
unfolding names_b is_whole
names_kept k h s o r e =
    let (x, t, ex, e') = then_got ((names_format k h).read s) _ o r e in
    let p : take (length s - length t) s ≡ o = cc in
    let a = (names_local k h).front s x t ex in
    let n : length a.taken ≡ length (a.taken ++ t) - length t = (let l = length-append a.taken t in omega arith) in
    let w : o ≡ a.taken = sym p ∙ ap (λ (l : List ℕ). take (length l - length t) l) a.joined ∙ take_at a.taken t _ n in
    ap is_whole (ap (names_format k h).read (w ∙ sym (append-nil a.taken)) ∙ a.alone [])

same_value : {A : Type 0} {x y : A} {r t : List ℕ} → got x r ≡ got y t → (x ≡ y) × (r ≡ t)
unfolding value_or
same_value {x = x} {r = r} e = (ap (value_or x) e, ap rest_of e)
  where
    rest_of : {A : Type 0} → Got A → List ℕ
    rest_of (got x r) = r
    rest_of bad = []

-- the parts of what was got
pair_got : {A B : Type 0} (f : Format A) (g : A → Format B) (s : List ℕ) (p : A × B) (r : List ℕ) → (f ▷ g).read s ≡ got p r
    → (t : List ℕ) × (f.read s ≡ got p.0 t) × ((g p.0).read t ≡ got p.1 r)
pair_got {A} {B} f g s p r e =
    let (x, t, ex, e') = then_got (f.read s) _ p r e in
    let (y, u, ey, e'') = then_got ((g x).read t) _ p r e' in
    let (q, w) = same_value e'' in
    let ep : x ≡ p.0 = ap (λ (z : A × B). z.0) q in
    (t, ex ∙ ap (λ (z : A). got z t) ep, subst (λ (z : A). (g z).read t ≡ got p.1 r) ep (ey ∙ ap₂ got (ap (λ (z : A × B). z.1) q) w))

-- so those of a file are, for as many scopes and tenants as it has
pub file_names : (s : List ℕ) (f : File) (r : List ℕ) → closed (file_format.read s) ≡ got f r → names_b (length f.scopes) (length f.tenants) f.names ≡ true
file_names s f r e = go (then_got (body.read s) _ f [] (closed_got (file_format.read s) f r e))
  where
    after_scopes : List ClientRange → List FileScope → Format (List FileLease × (List ℕ × (List FileRelease × List FileHold)))
    after_scopes ts cs = last_format cs ts

    after_tenants : List ClientRange → Format (List FileScope × (List FileLease × (List ℕ × (List FileRelease × List FileHold))))
    after_tenants ts = counted (scope_format (length ts)) ▷ after_scopes ts

    rest : Format (List ClientRange × (List FileScope × (List FileLease × (List ℕ × (List FileRelease × List FileHold)))))
    rest = counted tenant_format ▷ after_tenants

    server : Format (ℕ × ℕ)
    server = after 1 (number ⊗ number)

    body : Format Sections
    body = server ▷ (λ _. rest)

    names : Sections → Format (List ℕ)
    names x = verbatim (names_format (length x.1.1.0) (length x.1.0))

    inner : (x : Sections) (t : List ℕ) → body.read s ≡ got x t → names_b (length x.1.1.0) (length x.1.0) x.1.1.1.1.0 ≡ true
    inner x t ex =
        let (t1, a1, e1) = pair_got server (λ _. rest) s x t ex in
        let (t2, a2, e2) = pair_got (counted tenant_format) after_tenants t1 x.1 t e1 in
        let (t3, a3, e3) = pair_got (counted (scope_format (length x.1.0))) (after_scopes x.1.0) t2 x.1.1 t e2 in
        let (t4, a4, e4) = pair_got leases_format (λ _. names x ⊗ releases_format ⊗ holds_format) t3 x.1.1.1 t e3 in
        let (t5, a5, e5) = pair_got (names x) (λ _. releases_format ⊗ holds_format) t4 x.1.1.1.1 t e4 in
        names_kept (length x.1.1.0) (length x.1.0) t4 x.1.1.1.1.0 t5 a5

    go : ((x : Sections) × (t : List ℕ) × (body.read s ≡ got x t) × (got (of_sections x) t ≡ got f [])) → names_b (length f.scopes) (length f.tenants) f.names ≡ true
    go (x, t, ex, ef) = subst (λ (z : File). names_b (length z.scopes) (length z.tenants) z.names ≡ true) (same_value ef).0 (inner x t ex)
