-- Laws: what is printed file by file is what the definition on the list of files says: no total gets to the largest u64, so that each is exact.
use Rattle.std.specs.Prelude.{ℕ, zero, suc, ◌+◌, ◌*◌, ◌≤◌, ◌<◌, ◌≡◌, refl, Bool, true, false, List, [], ◌∷◌, ◌++◌, eqb, leb, get_or, length, replicate}
use Rattle.std.proofs.Common.{sym, ap, ap₂, ◌∙◌, subst, arith, eq-eqb, ne_eqb, eqb-true, leb-true}
use Rattle.std.proofs.lemmas.Bool.{eqb-false}
use Rattle.lists.specs.Pick.{pick}
use Rattle.lists.specs.All.{All}
use Rattle.lists.specs.Fold.{fold}
use Rattle.lists.specs.laws.Both.{and_parts}
use Rattle.address_set.specs.laws.Offsets.{each_at}
use Rattle.state.specs.declared.LeaseTable.{LeaseTable}
use Rattle.state.specs.declared.State.{State}
use Rattle.state.specs.Book.{in_use, tenant_at, scope_at}
use Rattle.soundness.specs.Sound.{one_to, scopes_in, tenants_in}
use Rattle.state_file.specs.StateFile.{book_in, refusal_number}
use Rattle.number_text.specs.Text.{lines_to}
use Rattle.usage.specs.declared.ScopeTotals.{ScopeTotals}
use Rattle.usage.specs.declared.Totals.{Totals}
use Rattle.usage.specs.declared.Report.{Report}
use Rattle.usage.specs.Usage.{Reading, clock_of, covered_in, header_line, last_clock, line_text, most_files, number_of, printed_of, records_in, refusal, Refusal, refusal_from, refusal_in, refusal_of, refused_text, report_text, scope_lines, settings_of, total_line, total_lines, total_of}
use Rattle.usage.specs.Report.{Step, added_scope, added_tenant, added_totals, begun, capped_sum, cut, first_count, gathered, next_of, no_scope_totals, no_totals, step_of, step_text, total_in, walked_text, with_file}
use Rattle.usage.specs.laws.Bound.{SoundFile, total_small}
use Rattle.usage.specs.laws.Sums.{cut_cut}

-- ---- one file more adds what the file before covers
pub added_total : (t : LeaseTable) (c n : ℕ) (v : Totals) (k g : ℕ) → k < 4 → g < 8 → total_in (added_totals t c n v) k g ≡ capped_sum (total_in v k g) (cut (covered_in (k + 1) c n (in_use (tenant_at t g))))
unfolding added_totals added_scope added_tenant
added_total t c n v k g h l =
    ap (λ (x : ScopeTotals). get_or x.tenants g 0) (each_at (λ k. added_scope t (k + 1) c n (get_or v.scopes k no_scope_totals)) 4 k no_scope_totals h)
    ∙ each_at (added_tenant t (k + 1) c n (get_or v.scopes k no_scope_totals)) 8 g 0 l

replicate_at : {A : Type 0} (n i : ℕ) (x d : A) → i < n → get_or (replicate n x) i d ≡ x
replicate_at zero i x d h = absurd (omega arith)
replicate_at (suc n) zero x d h = refl
replicate_at (suc n) (suc i) x d h = replicate_at n i x d (omega arith)

no_total : (k g : ℕ) → k < 4 → g < 8 → total_in no_totals k g ≡ 0
no_total k g h l =
    ap (λ (x : ScopeTotals). get_or x.tenants g 0) (replicate_at 4 k (record { tenants = replicate 8 0 }) no_scope_totals h) ∙ replicate_at 8 g 0 0 l

-- ---- what is kept after files of which the last is f: p of them, with settings s and totals that stop at the largest u64
pub record Kept (s : State) (p : ℕ) (f : Reading) (total : ℕ → ℕ → ℕ) (r : Report) : Type 0 where
  pub count : r.count ≡ p
  pub first : r.first ≡ s
  pub clock : r.clock ≡ clock_of f
  pub table : r.table ≡ (book_in f).table
  pub totals : (k g : ℕ) → k < 4 → g < 8 → total_in r.totals k g ≡ cut (total k g)

-- what is kept at the end: the totals with those of the files to come, or the refusal of one of them
pub record Ends (s : State) (total : ℕ → ℕ → ℕ) (x : Refusal) (e : Step) : Type 0 where
  pub number : e.refusal ≡ x.number
  pub place : (x.number ≡ 0 → ⊥) → capped_sum e.report.count 1 ≡ x.place
  pub first : e.report.first ≡ s
  pub totals : x.number ≡ 0 → (k g : ℕ) → k < 4 → g < 8 → total_in e.report.totals k g ≡ cut (total k g)

-- ---- one step
capped_few : (p : ℕ) → p ≤ 1000 → capped_sum p 1 ≡ p + 1
unfolding capped_sum cut
capped_few p h = omega arith

step_accepted : (r : Report) (h : Reading) → number_of r.first r.clock h ≡ 0 → step_of (record { refusal = 0; report = r }) h ≡ record { refusal = 0; report = with_file r (book_in h) }
unfolding step_of next_of pick
step_accepted r h e =
    ap (λ (b : Bool). pick {A = Step} b (record { refusal = 0; report = with_file r (book_in h) }) (record { refusal = number_of r.first r.clock h; report = r })) (eq-eqb (number_of r.first r.clock h) 0 e)

step_refused : (r : Report) (h : Reading) → (number_of r.first r.clock h ≡ 0 → ⊥) → step_of (record { refusal = 0; report = r }) h ≡ record { refusal = number_of r.first r.clock h; report = r }
unfolding step_of next_of pick
step_refused r h e =
    ap (λ (b : Bool). pick {A = Step} b (record { refusal = 0; report = with_file r (book_in h) }) (record { refusal = number_of r.first r.clock h; report = r })) (ne_eqb (number_of r.first r.clock h) 0 e)

-- after a refusal no file is looked at
refused_stays : (n : ℕ) (r : Report) (fs : List Reading) → (n ≡ 0 → ⊥) → fold step_of (record { refusal = n; report = r }) fs ≡ record { refusal = n; report = r }
unfolding step_of pick
refused_stays n r [] h = refl
refused_stays n r (f ∷ fs) h =
    ap (λ (b : Bool). fold step_of (pick {A = Step} b (next_of r f) (record { refusal = n; report = r })) fs) (ne_eqb n 0 h) ∙ refused_stays n r fs h

kept_next : (s : State) (p : ℕ) (f h : Reading) (total : ℕ → ℕ → ℕ) (r : Report) → p ≤ 1000 → Kept s p f total r → Kept s (p + 1) h (λ k g. total k g + covered_in (k + 1) (clock_of f) (clock_of h) (records_in f g)) (with_file r (book_in h))
unfolding with_file
kept_next s p f h total r l v = record {
  count = ap (λ (n : ℕ). capped_sum n 1) v.count ∙ capped_few p l;
  first = v.first;
  clock = refl;
  table = refl;
  totals = λ k g a b.
      added_total r.table r.clock (clock_of h) r.totals k g a b
      ∙ ap₂ (λ (t : LeaseTable) (c : ℕ). capped_sum (total_in r.totals k g) (cut (covered_in (k + 1) c (clock_of h) (in_use (tenant_at t g))))) v.table v.clock
      ∙ ap (λ (n : ℕ). capped_sum n (cut (covered_in (k + 1) (clock_of f) (clock_of h) (records_in f g)))) (v.totals k g a b)
      ∙ cut_cut (total k g) (covered_in (k + 1) (clock_of f) (clock_of h) (records_in f g));
}

-- ---- one after the other
ends_as : (s : State) (t u : ℕ → ℕ → ℕ) (x y : Refusal) (a b : Step) → ((k g : ℕ) → t k g ≡ u k g) → x ≡ y → a ≡ b → Ends s t x a → Ends s u y b
ends_as s t u x y a b p q e v =
    subst (λ (z : Step). Ends s u y z) e (subst (λ (z : Refusal). Ends s u z a) q
    (record { number = v.number; place = v.place; first = v.first; totals = λ n k g h l. v.totals n k g h l ∙ ap cut (p k g) }))

walk_next : (s : State) (p : ℕ) (f h : Reading) (total : ℕ → ℕ → ℕ) (r : Report) (fs : List Reading) → p ≤ 1000 → Kept s p f total r
    → Ends s (λ k g. (total k g + covered_in (k + 1) (clock_of f) (clock_of h) (records_in f g)) + total_of k g (h ∷ fs)) (refusal_from s (clock_of h) (p + 1 + 1) fs) (fold step_of (record { refusal = 0; report = with_file r (book_in h) }) fs)
    → Ends s (λ k g. total k g + total_of k g (f ∷ h ∷ fs)) (refusal_from s (clock_of f) (p + 1) (h ∷ fs)) (fold step_of (record { refusal = 0; report = r }) (h ∷ fs))
unfolding refusal_from total_of pick
walk_next s p f h total r fs l v ih = go (eqb (number_of s (clock_of f) h) 0) refl
  where
    same : number_of r.first r.clock h ≡ number_of s (clock_of f) h
    same = ap₂ (λ (x : State) (c : ℕ). number_of x c h) v.first v.clock

    go : (b : Bool) → eqb (number_of s (clock_of f) h) 0 ≡ b
        → Ends s (λ k g. total k g + total_of k g (f ∷ h ∷ fs)) (pick (eqb (number_of s (clock_of f) h) 0) (refusal_from s (clock_of h) (p + 1 + 1) fs) (refusal (number_of s (clock_of f) h) (p + 1))) (fold step_of (record { refusal = 0; report = r }) (h ∷ fs))
    go true e =
        ends_as s _ _ _ _ _ _ (λ k g. let z : (total k g + covered_in (k + 1) (clock_of f) (clock_of h) (records_in f g)) + total_of k g (h ∷ fs) ≡ total k g + (covered_in (k + 1) (clock_of f) (clock_of h) (records_in f g) + total_of k g (h ∷ fs)) = omega arith in z)
        (sym (ap (λ (b : Bool). pick b (refusal_from s (clock_of h) (p + 1 + 1) fs) (refusal (number_of s (clock_of f) h) (p + 1))) e))
        (sym (ap (λ (x : Step). fold step_of x fs) (step_accepted r h (same ∙ eqb-true _ _ e)))) ih
    go false e =
        let not : number_of r.first r.clock h ≡ 0 → ⊥ = λ z. eqb-false (number_of s (clock_of f) h) 0 e (sym same ∙ z) in
        ends_as s (λ k g. total k g + total_of k g (f ∷ h ∷ fs)) _ (refusal (number_of r.first r.clock h) (p + 1)) _ (record { refusal = number_of r.first r.clock h; report = r }) _ (λ k g. refl)
        (ap (λ (n : ℕ). refusal n (p + 1)) same ∙ sym (ap (λ (b : Bool). pick b (refusal_from s (clock_of h) (p + 1 + 1) fs) (refusal (number_of s (clock_of f) h) (p + 1))) e))
        (sym (ap (λ (x : Step). fold step_of x fs) (step_refused r h not) ∙ refused_stays _ r fs not))
        (record { number = refl; place = λ z. ap (λ (n : ℕ). capped_sum n 1) v.count ∙ capped_few p l; first = v.first; totals = λ z. absurd (not z) })

walk : (s : State) (p : ℕ) (f : Reading) (total : ℕ → ℕ → ℕ) (r : Report) (fs : List Reading) → p + length fs ≤ 1000 → Kept s p f total r
    → Ends s (λ k g. total k g + total_of k g (f ∷ fs)) (refusal_from s (clock_of f) (p + 1) fs) (fold step_of (record { refusal = 0; report = r }) fs)
unfolding refusal_from total_of
walk s p f total r [] l v = record {
  number = refl;
  place = λ z. absurd (z refl);
  first = v.first;
  totals = λ e k g a b. v.totals k g a b ∙ ap cut (let z : total k g ≡ total k g + 0 = omega arith in z);
}
walk s p f total r (h ∷ fs) l v =
    walk_next s p f h total r fs (omega arith) v
    (walk s (p + 1) h (λ k g. total k g + covered_in (k + 1) (clock_of f) (clock_of h) (records_in f g)) (with_file r (book_in h)) fs (omega arith) (kept_next s p f h total r (omega arith) v))

-- ---- the text goes by the totals that have a line
lines_same : (f g : ℕ → List ℕ) (n : ℕ) → ((i : ℕ) → i < n → f i ≡ g i) → lines_to f n ≡ lines_to g n
unfolding lines_to
lines_same f g zero h = refl
lines_same f g (suc n) h = ap₂ (λ (x y : List ℕ). x ++ y) (lines_same f g n (λ i p. h i (omega arith))) (h n (omega arith))

pub text_same : (s : State) (t u : ℕ → ℕ → ℕ) → ((k g : ℕ) → k < 4 → g < 8 → t k g ≡ u k g) → report_text s t ≡ report_text s u
unfolding total_lines scope_lines total_line
text_same s t u h =
    ap (λ (x : List ℕ). header_line ++ x)
    (lines_same _ _ (scopes_in s) (λ k p. lines_same _ _ (tenants_in s) (λ g q. ap (λ (n : ℕ). line_text (scope_at s k).lowest (g + 1) n) (h k g (omega arith) (omega arith)))))

cut_small : (n m : ℕ) → n ≤ 64 * m → m < 4294967296 → cut (0 + n) ≡ n
unfolding cut
cut_small n m h l = omega arith

-- what is printed at the end is what the definition says
ends_text : (fs : List Reading) (s : State) (e : Step) (x : Refusal) → settings_of fs ≡ s → x ≡ refusal_of fs → Ends s (λ k g. 0 + total_of k g fs) x e → ((k g : ℕ) → x.number ≡ 0 → total_of k g fs ≤ 64 * last_clock fs) → last_clock fs < 4294967296
    → step_text e ≡ printed_of fs
unfolding step_text printed_of pick
ends_text fs s e x q p v m l = go (eqb x.number 0) refl
  where
    go : (b : Bool) → eqb x.number 0 ≡ b → step_text e ≡ printed_of fs
    go true y =
        let z = eqb-true x.number 0 y in
        ap (λ (b : Bool). pick b (report_text e.report.first (total_in e.report.totals)) (refused_text e.refusal (capped_sum e.report.count 1))) (eq-eqb e.refusal 0 (v.number ∙ z))
        ∙ text_same e.report.first (total_in e.report.totals) (λ k g. total_of k g fs) (λ k g a b. v.totals z k g a b ∙ cut_small (total_of k g fs) (last_clock fs) (m k g z) l)
        ∙ ap (λ (t : State). report_text t (λ k g. total_of k g fs)) (v.first ∙ sym q)
        ∙ sym (ap (λ (b : Bool). pick b (report_text (settings_of fs) (λ k g. total_of k g fs)) (refused_text (refusal_of fs).number (refusal_of fs).place)) (ap (λ (r : Refusal). eqb r.number 0) (sym p) ∙ y))
    go false y =
        let z = eqb-false x.number 0 y in
        ap (λ (b : Bool). pick b (report_text e.report.first (total_in e.report.totals)) (refused_text e.refusal (capped_sum e.report.count 1))) (ne_eqb e.refusal 0 (λ w. z (sym v.number ∙ w)))
        ∙ ap₂ refused_text v.number (v.place z)
        ∙ ap (λ (r : Refusal). refused_text r.number r.place) p
        ∙ sym (ap (λ (b : Bool). pick b (report_text (settings_of fs) (λ k g. total_of k g fs)) (refused_text (refusal_of fs).number (refusal_of fs).place)) (ap (λ (r : Refusal). eqb r.number 0) (sym p) ∙ y))

-- ---- the whole
begun_kept : (f : Reading) → (refusal_number f) ≡ 0 → Kept (book_in f).state 1 f (λ k g. 0) (begun f).report
unfolding begun first_count pick cut
begun_kept f e = record {
  count = ap (λ (b : Bool). pick {A = ℕ} b 1 0) (eq-eqb (refusal_number f) 0 e);
  first = refl;
  clock = refl;
  table = refl;
  totals = λ k g h l. no_total k g h l;
}

begun_accepted : (f : Reading) → (refusal_number f) ≡ 0 → record { refusal = 0; report = (begun f).report } ≡ begun f
unfolding begun
begun_accepted f e = ap {B = Step} (λ (n : ℕ). record { refusal = n; report = (begun f).report }) (sym e)

begun_ends : (f : Reading) (t : ℕ → ℕ → ℕ) → ((refusal_number f) ≡ 0 → ⊥) → Ends (book_in f).state t (refusal (refusal_number f) 1) (begun f)
unfolding begun first_count pick capped_sum cut
begun_ends f t h = record { number = refl; place = λ z. ap (λ (b : Bool). capped_sum (pick {A = ℕ} b 1 0) 1) (ne_eqb (refusal_number f) 0 h); first = refl; totals = λ z. absurd (h z) }

few : (fs : List Reading) → one_to most_files (length fs) ≡ true → length fs ≤ 1000
unfolding one_to
few fs e = leb-true (length fs) 1000 (and_parts (leb 1 (length fs)) (leb (length fs) 1000) e).1

refusal_one : (fs : List Reading) → one_to most_files (length fs) ≡ true → refusal_in fs ≡ refusal_of fs
unfolding refusal_of pick
refusal_one fs e = sym (ap (λ (b : Bool). pick b (refusal_in fs) (refusal 26 0)) e)

-- what is printed file by file for accepted or refused files that the reader gives is what the definition on their list says
pub printed_is : (fs : List Reading) → All SoundFile fs → last_clock fs < 4294967296 → walked_text fs ≡ printed_of fs
unfolding walked_text gathered printed_of refusal_of refusal_in pick one_to settings_of begun
printed_is [] a l = refl
printed_is (f ∷ fs) a l = go (one_to most_files (length (f ∷ fs))) refl (eqb (refusal_number f) 0) refl
  where
    most : (k g : ℕ) (x : Refusal) → x ≡ refusal_of (f ∷ fs) → x.number ≡ 0 → total_of k g (f ∷ fs) ≤ 64 * last_clock (f ∷ fs)
    most k g x p z = total_small (f ∷ fs) a (ap (λ (r : Refusal). r.number) (sym p) ∙ z) k g

    in_turn : step_text (fold step_of (begun f) fs) ≡ printed_of (f ∷ fs) → one_to most_files (length (f ∷ fs)) ≡ true → walked_text (f ∷ fs) ≡ printed_of (f ∷ fs)
    in_turn p e = ap (λ (b : Bool). pick b (step_text (fold step_of (begun f) fs)) (refused_text 26 0)) e ∙ p

    go : (b : Bool) → one_to most_files (length (f ∷ fs)) ≡ b → (c : Bool) → eqb (refusal_number f) 0 ≡ c → walked_text (f ∷ fs) ≡ printed_of (f ∷ fs)
    go false e c q =
        ap (λ (b : Bool). pick b (step_text (fold step_of (begun f) fs)) (refused_text 26 0)) e
        ∙ sym (ap (λ (r : Refusal). pick (eqb r.number 0) (report_text (book_in f).state (λ k g. total_of k g (f ∷ fs))) (refused_text r.number r.place)) (ap (λ (b : Bool). pick b (refusal_in (f ∷ fs)) (refusal 26 0)) e))
    go true e true q =
        let z = eqb-true (refusal_number f) 0 q in
        let p : refusal_from (book_in f).state (clock_of f) 2 fs ≡ refusal_of (f ∷ fs) = sym (ap (λ (b : Bool). pick b (refusal_from (book_in f).state (clock_of f) 2 fs) (refusal (refusal_number f) 1)) q) ∙ refusal_one (f ∷ fs) e in
        let m = few (f ∷ fs) e in
        let w = subst (λ (x : Step). Ends (book_in f).state (λ k g. 0 + total_of k g (f ∷ fs)) (refusal_from (book_in f).state (clock_of f) 2 fs) (fold step_of x fs)) (begun_accepted f z) (walk (book_in f).state 1 f (λ k g. 0) (begun f).report fs (omega arith) (begun_kept f z)) in
        in_turn (ends_text (f ∷ fs) (book_in f).state (fold step_of (begun f) fs) (refusal_from (book_in f).state (clock_of f) 2 fs) refl p w (λ k g y. most k g _ p y) l) e
    go true e false q =
        let z = eqb-false (refusal_number f) 0 q in
        let p : refusal (refusal_number f) 1 ≡ refusal_of (f ∷ fs) = sym (ap (λ (b : Bool). pick b (refusal_from (book_in f).state (clock_of f) 2 fs) (refusal (refusal_number f) 1)) q) ∙ refusal_one (f ∷ fs) e in
        let w : Ends (book_in f).state (λ k g. 0 + total_of k g (f ∷ fs)) (refusal (refusal_number f) 1) (fold step_of (begun f) fs) = subst (λ (x : Step). Ends (book_in f).state (λ k g. 0 + total_of k g (f ∷ fs)) (refusal (refusal_number f) 1) x) (sym (refused_stays (refusal_number f) (begun f).report fs z)) (begun_ends f _ z) in
        in_turn (ends_text (f ∷ fs) (book_in f).state (fold step_of (begun f) fs) (refusal (refusal_number f) 1) refl p w (λ k g y. most k g _ p y) l) e
