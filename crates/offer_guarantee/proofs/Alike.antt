-- Laws: a DISCOVER without option 2, with its type octet set to REQUEST, is read alike but for its type.
use Prim.Native.Nat.{ℕ, zero, suc, ◌+◌, ◌-◌, ◌*◌, ◌/◌, ◌≤◌, ◌<◌, min}
use mathlib.Core.Path.{◌≡◌, refl, sym, ap, ap₂, ◌∙◌, subst}
use mathlib.Core.Bool.{Bool, true, false, ◌&&◌, ◌||◌}
use Rattle.std.specs.Prelude.{Option, Some, None, is_some}
use mathlib.Core.List.{List, [], ◌∷◌, ◌++◌}
use mathlib.Core.Logic.{◌⊎◌, inl, inr, ⊎_elim}
use native.Mathlib.Omega.{arith}
use native.Mathlib.Decide.{dec_lt}
use lib.Dec.{ltb, leb, eqb}
use lib.ListN.{length, get_or, set, take, drop, replicate, get_or-replicate, get_or-eq_default}
use borrow.Author.Tests.{eqb-true, ne_eqb}
use Rattle.lists.specs.Pick.{pick}
use Rattle.lists.specs.All.{all_to}
use Rattle.lists.specs.laws.All.{to_same}
use Rattle.lists.specs.Filter.{is_in}
use Rattle.octets.specs.Octets.{at16, at32, be16}
use Rattle.message.specs.Codes.{allowed_in, allows, length_ok}
use Rattle.message.specs.laws.Placed.{pick_cases}
use Rattle.message.specs.Read.{by_stage, ended, header_ok, message_of, none_required, read_of, required_empty}
use Rattle.message.specs.Read as read
use Rattle.message.specs.Values.{allowed_at, codes_from, counts_of, fields_of, find_of, found_at, identifier_of, language_of, names_of, names_server, server_ok, times_of, wish_of}
use Rattle.message.specs.Walk.{broken, code_at, exactly_filled, layout_ok, length_at, onward, past_list, start, step_of, option_taken, value_ok, walk_from, walk_of}
use Rattle.message.specs.declared.Counts.{Counts}
use Rattle.message.specs.declared.Fields.{Fields}
use Rattle.message.specs.declared.Language.{Language}
use Rattle.message.specs.declared.Identifier.{Identifier}
use Rattle.message.specs.declared.Reading.{Reading}
use Rattle.message.specs.declared.Stage.{Stage}
use Rattle.message.specs.declared.Stage.TheVariants.{Walking, Done, Broken}
use Rattle.message.specs.declared.Times.{Times}
use Rattle.message.specs.declared.Walk.{Walk}
use Rattle.state.specs.declared.State.{State}
use Rattle.decision_laws.specs.laws.Ensured.{sent_as}
use Rattle.offer_guarantee.specs.Statement.{as_request}

-- ---- a place of an option: 0, or past the header
Fine : ℕ → Type 0
Fine p = (p ≡ 0) ⊎ (2 ≤ p)

set_either : (P : ℕ → Type 0) (l : List ℕ) (i v c : ℕ) → P v → P (get_or l c 0) → P (get_or (set l i v) c 0)
set_either P [] i v c p q = q
set_either P (x ∷ l) zero v zero p q = p
set_either P (x ∷ l) zero v (suc c) p q = q
set_either P (x ∷ l) (suc i) v zero p q = q
set_either P (x ∷ l) (suc i) v (suc c) p q = set_either P l i v c p q

record On (w : Walk) : Type 0 where
  at : 2 ≤ w.at
  places : (c : ℕ) → Fine (get_or w.places c 0)

start_on : On start
unfolding Fine
start_on = record { at = omega arith; places = λ c. inl (none c) }
  where
    none : (d : ℕ) → ◌≡◌ {A = ℕ} (get_or (replicate 17 0) d 0) 0
    none d = by (dec_lt d 17)
      where
        by : Dec (d < 17) → ◌≡◌ {A = ℕ} (get_or (replicate 17 0) d 0) 0
        by (yes l) = get_or-replicate 17 d 0 0 l
        by (no l) = get_or-eq_default (replicate 17 0) 0 {n = d} (omega arith)

-- ---- two datagrams that differ in the type octet
module _ (x a b : ℕ) (l : List ℕ) where
  abbrev A : List ℕ
  A = x ∷ a ∷ l

  abbrev B : List ℕ
  B = x ∷ b ∷ l

  same_at : (k : ℕ) → 2 ≤ k → get_or A k 0 ≡ get_or B k 0
  same_at zero h = absurd (omega arith)
  same_at (suc zero) h = absurd (omega arith)
  same_at (suc (suc k)) h = refl

  same_drop : (k : ℕ) → 2 ≤ k → drop k A ≡ drop k B
  same_drop zero h = absurd (omega arith)
  same_drop (suc zero) h = absurd (omega arith)
  same_drop (suc (suc k)) h = refl

  same16 : (k : ℕ) → 2 ≤ k → at16 A k ≡ at16 B k
  unfolding at16
  same16 k h = ap₂ be16 (same_at k h) (same_at (k + 1) (omega arith))

  same32 : (k : ℕ) → 2 ≤ k → at32 A k ≡ at32 B k
  unfolding at32
  same32 k h =
      let p = same_at k h in
      let q = same_at (k + 1) (omega arith) in
      let r = same_at (k + 2) (omega arith) in
      let s = same_at (k + 3) (omega arith) in
      cc

  same_past : (p : ℕ) → 2 ≤ p → past_list A p ≡ past_list B p
  same_past p h = ap (λ (n : ℕ). p + 2 + 2 * n) (same16 p h)

  same_two : (p : ℕ) → 2 ≤ p → past_list A (past_list A p) ≡ past_list B (past_list B p)
  same_two p h = same_past (past_list A p) (omega arith) ∙ ap (past_list B) (same_past p h)

  same_filled : (p end : ℕ) → 2 ≤ p → exactly_filled A p end ≡ exactly_filled B p end
  unfolding exactly_filled
  same_filled p end h =
      ap (λ (n : ℕ). eqb n end) (same_past (past_list A (past_list A p)) (omega arith) ∙ ap (past_list B) (same_two p h))

  same_layout : (at : ℕ) → 2 ≤ at → layout_ok A at ≡ layout_ok B at
  unfolding layout_ok
  same_layout at h = ap (λ (n : ℕ). leb (at + 4) (length A) && leb (at + 4 + n) (length A)) (same16 (at + 2) (omega arith))

  same_value : (at : ℕ) → 2 ≤ at → value_ok A at ≡ value_ok B at
  unfolding value_ok
  same_value at h =
      ap₂ (λ (c n : ℕ). length_ok c n && pick (eqb c 12) (exactly_filled A (at + 4) (at + 4 + n)) true) (same16 at h) (same16 (at + 2) (omega arith))
      ∙ ap (λ (t : Bool). length_ok (at16 B at) (at16 B (at + 2)) && pick (eqb (at16 B at) 12) t true) (same_filled (at + 4) (at + 4 + at16 B (at + 2)) (omega arith))

  same_step : (w : Walk) → 2 ≤ w.at → step_of A w ≡ step_of B w
  unfolding step_of
  same_step w h =
      ap₂ (λ (p q : Bool). pick p (pick q (option_taken (length A) (code_at A w.at) (length_at A w.at) w) (broken w)) (broken w)) (same_layout w.at h) (same_value w.at h)
      ∙ ap₂ (λ (c n : ℕ). pick (layout_ok B w.at) (pick (value_ok B w.at) (option_taken (length A) c n w) (broken w)) (broken w)) (same16 w.at h) (same16 (w.at + 2) (omega arith))

  step_on : (w : Walk) → On w → On (step_of A w)
  unfolding step_of option_taken Fine
  step_on w v =
      pick_cases On (layout_ok A w.at) _ _
      (λ _. pick_cases On (value_ok A w.at) _ _
      (λ _. pick_cases On (eqb (code_at A w.at) 0) _ _ (λ _. pick_cases On (eqb (w.at + 4) (length A)) _ _ (λ _. record { at = v.at; places = v.places }) (λ _. still))
      (λ _. pick_cases On (ltb 16 (code_at A w.at)) _ _ (λ _. record { at = let h = v.at in omega arith; places = v.places })
      (λ _. pick_cases On (eqb (get_or w.places (code_at A w.at) 0) 0) _ _
      (λ _. record { at = let h = v.at in omega arith; places = λ c. set_either Fine w.places (code_at A w.at) w.at c (inr v.at) (v.places c) })
      (λ _. still))))
      (λ _. still))
      (λ _. still)
    where
      still : On (broken w)
      still = record { at = v.at; places = v.places }

  same_walk : (k : ℕ) (w : Walk) → On w → walk_from k A w ≡ walk_from k B w
  unfolding walk_from
  same_walk zero w v = refl
  same_walk (suc k) w v = ap (onward w.stage w) (same_walk k (step_of A w) (step_on w v) ∙ ap (walk_from k B) (same_step w v.at))

  walk_on : (k : ℕ) (w : Walk) → On w → On (walk_from k A w)
  unfolding walk_from
  walk_on zero w v = v
  walk_on (suc k) w v = go w.stage (walk_from k A (step_of A w)) (walk_on k (step_of A w) (step_on w v))
    where
      go : (t : Stage) (more : Walk) → On more → On (onward t w more)
      go Walking more m = m
      go Done more m = v
      go Broken more m = v

  walked_same : walk_of A ≡ walk_of B
  unfolding walk_of
  walked_same = same_walk (length A) start start_on

  walked_on : On (walk_of A)
  unfolding walk_of
  walked_on = walk_on (length A) start start_on

  -- ---- what the options say
  same_codes : (p k : ℕ) → 2 ≤ p → codes_from A p k ≡ codes_from B p k
  unfolding codes_from
  same_codes p zero h = refl
  same_codes p (suc k) h = ap₂ (λ (c : ℕ) (r : List ℕ). c ∷ r) (same16 p h) (same_codes (p + 2) k (omega arith))

  module _ (places : List ℕ) (fine : (c : ℕ) → Fine (get_or places c 0)) where
    by_found : {X : Type 0} (F G : Option ℕ → X) → F None ≡ G None → ((at : ℕ) → 2 ≤ at → F (Some at) ≡ G (Some at)) → (c : ℕ) → F (find_of places c) ≡ G (find_of places c)
    unfolding found_at pick Fine
    by_found F G none some c = ⊎_elim
        (λ e. ap (λ (p : ℕ). F (found_at p)) e ∙ none ∙ sym (ap (λ (p : ℕ). G (found_at p)) e))
        (λ h. let n = ne_eqb (get_or places c 0) 0 (λ z. absurd (omega arith)) in
        ap (λ (t : Bool). F (pick t None (Some (get_or places c 0)))) n ∙ some (get_or places c 0) h ∙ sym (ap (λ (t : Bool). G (pick t None (Some (get_or places c 0)))) n))
        (fine c)

    same_wish : (c : ℕ) → wish_of A (find_of places c) ≡ wish_of B (find_of places c)
    same_wish c = by_found (wish_of A) (wish_of B) refl (λ at h. ap {B = Option ℕ} (λ (n : ℕ). Some n) (same32 (at + 4) (omega arith))) c

    same_counts_law : (c : ℕ) → counts_of A (find_of places c) ≡ counts_of B (find_of places c)
    same_counts_law c = by_found (counts_of A) (counts_of B) refl (λ at h. ap₂ {C = Counts} (λ (n m : ℕ). record { least = n; desired = m }) (same16 (at + 4) (omega arith)) (same16 (at + 6) (omega arith))) c

    same_id : (c : ℕ) → identifier_of A (find_of places c) ≡ identifier_of B (find_of places c)
    same_id c = by_found (identifier_of A) (identifier_of B) refl
        (λ at h. ap₂ {C = Identifier} (λ (n : ℕ) (r : List ℕ). record { octets = take n r ++ replicate (32 - n) 0; len = n }) (same16 (at + 2) (omega arith)) (same_drop (at + 4) (omega arith))) c

    same_language : (c : ℕ) → language_of A (find_of places c) ≡ language_of B (find_of places c)
    same_language c = by_found (language_of A) (language_of B) refl
        (λ at h. ap₂ {C = Language} (λ (n : ℕ) (r : List ℕ). record { asked = true; len = n; octets = take (min n 8) r ++ replicate (8 - min n 8) 0 }) (same16 (at + 2) (omega arith)) (same_drop (at + 4) (omega arith))) c

    same_server : (server c : ℕ) → server_ok A server (find_of places c) ≡ server_ok B server (find_of places c)
    unfolding names_server
    same_server server c = by_found (server_ok A server) (server_ok B server) refl
        (λ at h. ap₂ (λ (n m : ℕ). eqb n 6 && (eqb m 1 && eqb (at32 A (at + 6)) server)) (same16 (at + 2) (omega arith)) (same16 (at + 4) (omega arith))
        ∙ ap (λ (m : ℕ). eqb (length_at B at) 6 && (eqb (at16 B (at + 4)) 1 && eqb m server)) (same32 (at + 6) (omega arith))) c

    same_names : (code c : ℕ) → names_of A code (find_of places c) ≡ names_of B code (find_of places c)
    same_names code c = by_found (names_of A code) (names_of B code) refl
        (λ at h. ap (λ (n : ℕ). is_in code (codes_from A (at + 4) (n / 2))) (same16 (at + 2) (omega arith)) ∙ ap (is_in code) (same_codes (at + 4) (length_at B at / 2) (omega arith))) c

    same_times : times_of A places ≡ times_of B places
    unfolding times_of
    same_times =
        ap₂ (λ (p q : Option ℕ). made p q (wish_of A (find_of places 11)) (wish_of A (find_of places 14)) (wish_of A (find_of places 15))) (same_wish 1) (same_wish 6)
        ∙ ap₂ (λ (p q : Option ℕ). made (wish_of B (find_of places 1)) (wish_of B (find_of places 6)) p q (wish_of A (find_of places 15))) (same_wish 11) (same_wish 14)
        ∙ ap (made (wish_of B (find_of places 1)) (wish_of B (find_of places 6)) (wish_of B (find_of places 11)) (wish_of B (find_of places 14))) (same_wish 15)
      where
        made : Option ℕ → Option ℕ → Option ℕ → Option ℕ → Option ℕ → Times
        made p q r s t = record { length = p; start = q; current = r; shortest = s; latest = t }

    same_required : none_required A places ≡ none_required B places
    unfolding none_required required_empty pick Fine
    same_required = ⊎_elim
        (λ e. ap (λ (p : ℕ). pick (eqb p 0) true (eqb (at16 A (past_list A (past_list A (p + 4)))) 0)) e
        ∙ sym (ap (λ (p : ℕ). pick (eqb p 0) true (eqb (at16 B (past_list B (past_list B (p + 4)))) 0)) e))
        (λ h. ap (λ (n : ℕ). pick (eqb (get_or places 12 0) 0) true (eqb n 0))
        (same16 (past_list A (past_list A (get_or places 12 0 + 4))) (omega arith) ∙ ap (at16 B) (same_two (get_or places 12 0 + 4) (omega arith))))
        (fine 12)

-- ---- without option 2, DISCOVER allows what REQUEST allows
allowed_same : (places : List ℕ) → get_or places 2 0 ≡ 0 → (i : ℕ) → allowed_at 1 places i ≡ allowed_at 3 places i
unfolding allowed_at allows allowed_in found_at is_in pick
allowed_same places e i = go (eqb i 2) refl
  where
    go : (t : Bool) → eqb i 2 ≡ t → allowed_at 1 places i ≡ allowed_at 3 places i
    go true p = let q = eqb-true i 2 p in
        ap (λ (j : ℕ). allowed_at 1 places j) q ∙ absent 1 ∙ sym (absent 3) ∙ sym (ap (λ (j : ℕ). allowed_at 3 places j) q)
      where
        absent : (k : ℕ) → allowed_at k places 2 ≡ true
        absent k = ap (λ (p : ℕ). pick (is_some (found_at p)) (allows k 2) true) e
    go false p = ap (λ (t : Bool). pick (is_some (find_of places i)) (ltb 16 i || pick (eqb i 0) true (pick (eqb i 3) true (pick (eqb i 12) true t))) true)
        (sym (ap (λ (t : Bool). pick t true (is_in i (1 ∷ 4 ∷ 6 ∷ 7 ∷ 10 ∷ 11 ∷ 14 ∷ 15 ∷ []))) p))

kind_one : (m : Fields) → m.kind ≡ 1 → m ≡ sent_as 1 m
unfolding sent_as
kind_one m e = ap {B = Fields} (λ (k : ℕ). record {
  kind = k;
  xid = m.xid;
  id = m.id;
  allowed = m.allowed;
  scope = m.scope;
  counts = m.counts;
  times = m.times;
  features = m.features;
  ours = m.ours;
  list_asked = m.list_asked;
  time_asked = m.time_asked;
  language = m.language;
}) e

-- ---- the reading
-- what a datagram says to a server of that state
abbrev pub words_of : State → List ℕ → Fields
words_of s d = fields_of d s.server (read_of d).message

-- a DISCOVER and the same message as a REQUEST say the same, and name no other server
pub record Alike (s : State) (d : List ℕ) : Type 0 where
  pub words : Fields
  pub discover : words_of s d ≡ sent_as 1 words
  pub request : words_of s (as_request d) ≡ sent_as 3 words
  pub ours : words.ours ≡ true

module _ (x : ℕ) (l : List ℕ) where
  abbrev D : List ℕ
  D = x ∷ 1 ∷ l

  abbrev R : List ℕ
  R = x ∷ 3 ∷ l

  abbrev good : List ℕ → List ℕ → Reading
  good s places = record { discard = 0; fault = 0; message = message_of s places }

  same_header : header_ok D ≡ header_ok R
  unfolding header_ok at16 is_in pick
  same_header = refl

  both_read : (read_of D).discard ≡ 0 → (read_of D ≡ good D (walk_of D).places) × (read_of R ≡ good R (walk_of D).places)
  unfolding read_of ended pick
  both_read e =
      let r = go (header_ok D) (walk_of D).stage (eqb (get_or (walk_of D).places 3 0) 0) (none_required D (walk_of D).places) e in (
        r.0,
        ap (λ (h : Bool). pick h (by_stage (walk_of R).stage (ended R (walk_of R).places) (read.no_message 5 (walk_of R).at)) (read.no_message 4 0)) (sym same_header)
            ∙ ap (λ (w : Walk). pick (header_ok D) (by_stage w.stage (ended R w.places) (read.no_message 5 w.at)) (read.no_message 4 0)) (sym (walked_same x 1 3 l))
            ∙ ap (λ (t : Bool). pick (header_ok D) (by_stage (walk_of D).stage (pick (eqb (get_or (walk_of D).places 3 0) 0) (read.no_message 5 (length R)) (pick t (good R (walk_of D).places) (read.no_message 6 0))) (read.no_message 5 (walk_of D).at)) (read.no_message 4 0))
            (sym (same_required x 1 3 l (walk_of D).places (walked_on x 1 3 l).places))
            ∙ r.1,
      )
    where
      go : (h : Bool) (g : Stage) (p q : Bool)
          → (pick h (by_stage g (pick p (read.no_message 5 (length D)) (pick q (good D (walk_of D).places) (read.no_message 6 0))) (read.no_message 5 (walk_of D).at)) (read.no_message 4 0)).discard ≡ 0
          → (pick h (by_stage g (pick p (read.no_message 5 (length D)) (pick q (good D (walk_of D).places) (read.no_message 6 0))) (read.no_message 5 (walk_of D).at)) (read.no_message 4 0) ≡ good D (walk_of D).places)
          × (pick h (by_stage g (pick p (read.no_message 5 (length R)) (pick q (good R (walk_of D).places) (read.no_message 6 0))) (read.no_message 5 (walk_of D).at)) (read.no_message 4 0) ≡ good R (walk_of D).places)
      go false g p q e = absurd (omega arith)
      go true Walking p q e = absurd (omega arith)
      go true Broken p q e = absurd (omega arith)
      go true Done true q e = absurd (omega arith)
      go true Done false false e = absurd (omega arith)
      go true Done false true e = (refl, refl)

  abbrev P : List ℕ
  P = (walk_of D).places

  fields_same : (server : ℕ) → get_or P 2 0 ≡ 0 → fields_of R server (message_of R P) ≡ sent_as 3 (fields_of D server (message_of D P))
  unfolding fields_of sent_as
  fields_same server e =
      let fine = (walked_on x 1 3 l).places in
      sym (
      ap₂ (λ (i : Identifier) (t : Bool). made (at32 D 4) i t (wish_of D (find_of P 4)) (counts_of D (find_of P 7)) (times_of D P) (server_ok D server (find_of P 2)) (names_of D 9 (find_of P 5)) (names_of D 11 (find_of P 5)) (language_of D (find_of P 8)))
      (same_id x 1 3 l P fine 3) (to_same (allowed_at 1 P) (allowed_at 3 P) 17 (λ i h. allowed_same P e i))
      ∙ ap₂ (λ (w : Option ℕ) (k : Counts). made (at32 D 4) (identifier_of R (find_of P 3)) (all_to (allowed_at 3 P) 17) w k (times_of D P) (server_ok D server (find_of P 2)) (names_of D 9 (find_of P 5)) (names_of D 11 (find_of P 5)) (language_of D (find_of P 8)))
      (same_wish x 1 3 l P fine 4) (same_counts_law x 1 3 l P fine 7)
      ∙ ap₂ (λ (w : Times) (k : Bool). made (at32 D 4) (identifier_of R (find_of P 3)) (all_to (allowed_at 3 P) 17) (wish_of R (find_of P 4)) (counts_of R (find_of P 7)) w k (names_of D 9 (find_of P 5)) (names_of D 11 (find_of P 5)) (language_of D (find_of P 8)))
      (same_times x 1 3 l P fine) (same_server x 1 3 l P fine server 2)
      ∙ ap₂ (λ (w k : Bool). made (at32 D 4) (identifier_of R (find_of P 3)) (all_to (allowed_at 3 P) 17) (wish_of R (find_of P 4)) (counts_of R (find_of P 7)) (times_of R P) (server_ok R server (find_of P 2)) w k (language_of D (find_of P 8)))
      (same_names x 1 3 l P fine 9 5) (same_names x 1 3 l P fine 11 5)
      ∙ ap₂ (λ (n : ℕ) (v : Language). made n (identifier_of R (find_of P 3)) (all_to (allowed_at 3 P) 17) (wish_of R (find_of P 4)) (counts_of R (find_of P 7)) (times_of R P) (server_ok R server (find_of P 2)) (names_of R 9 (find_of P 5)) (names_of R 11 (find_of P 5)) v)
      (same32 x 1 3 l 4 (omega arith)) (same_language x 1 3 l P fine 8)
      )
    where
      made : ℕ → Identifier → Bool → Option ℕ → Counts → Times → Bool → Bool → Bool → Language → Fields
      made n i t w k u o p q v = record {
        kind = 3;
        xid = n;
        id = i;
        allowed = t;
        scope = w;
        counts = k;
        times = u;
        features = is_some (find_of P 12);
        ours = o;
        list_asked = p;
        time_asked = q;
        language = v;
      }

  kind_is : (server : ℕ) → (fields_of D server (message_of D P)).kind ≡ 1
  unfolding fields_of
  kind_is server = refl

  ours_is : (server : ℕ) → (fields_of D server (message_of D P)).ours ≡ server_ok D server (find_of P 2)
  unfolding fields_of
  ours_is server = refl

  -- what both say
  alike : (s : State) → (read_of D).discard ≡ 0 → get_or (read_of D).message.places 2 0 ≡ 0 → Alike s D
  unfolding sent_as found_at pick
  alike s e two =
      let r = both_read e in
      let places : get_or P 2 0 ≡ 0 = ap (λ (g : Reading). get_or g.message.places 2 0) (sym r.0) ∙ two in
      record {
        words = fields_of D s.server (message_of D P);
        discover = ap (λ (g : Reading). fields_of D s.server g.message) r.0 ∙ kind_one (fields_of D s.server (message_of D P)) (kind_is s.server);
        request = ap (λ (g : Reading). fields_of R s.server g.message) r.1 ∙ fields_same s.server places;
        ours = ours_is s.server ∙ ap (λ (p : ℕ). server_ok D s.server (found_at p)) places;
      }

  -- both are read or neither is
  number : Bool → Stage → Bool → Bool → ℕ
  number h g p q = pick h (by_number g) 4
    where
      by_number : Stage → ℕ
      by_number Walking = 5
      by_number Done = pick p 5 (pick q 0 6)
      by_number Broken = 5

  numbered : (d : List ℕ) → (read_of d).discard ≡ number (header_ok d) (walk_of d).stage (eqb (get_or (walk_of d).places 3 0) 0) (none_required d (walk_of d).places)
  unfolding read_of ended pick number
  numbered d = go (header_ok d) (walk_of d).stage (eqb (get_or (walk_of d).places 3 0) 0) (none_required d (walk_of d).places)
    where
      go : (h : Bool) (g : Stage) (p q : Bool)
          → (pick h (by_stage g (pick p (read.no_message 5 (length d)) (pick q (good d (walk_of d).places) (read.no_message 6 0))) (read.no_message 5 (walk_of d).at)) (read.no_message 4 0)).discard ≡ number h g p q
      go false g p q = refl
      go true Walking p q = refl
      go true Broken p q = refl
      go true Done true q = refl
      go true Done false true = refl
      go true Done false false = refl

  same_number : (read_of D).discard ≡ (read_of R).discard
  same_number =
      numbered D
      ∙ ap₂ (λ (h q : Bool). number h (walk_of D).stage (eqb (get_or (walk_of D).places 3 0) 0) q) same_header (same_required x 1 3 l (walk_of D).places (walked_on x 1 3 l).places)
      ∙ ap (λ (w : Walk). number (header_ok R) w.stage (eqb (get_or w.places 3 0) 0) (none_required R w.places)) (walked_same x 1 3 l)
      ∙ sym (numbered R)

-- ---- any datagram of type 1
pub both_numbers : (d : List ℕ) → get_or d 1 0 ≡ 1 → (read_of d).discard ≡ (read_of (as_request d)).discard
both_numbers [] e = absurd (omega arith)
both_numbers (x ∷ []) e = absurd (omega arith)
both_numbers (x ∷ k ∷ l) e = subst (λ (n : ℕ). (read_of (x ∷ n ∷ l)).discard ≡ (read_of (x ∷ 3 ∷ l)).discard) (sym e) (same_number x l)

pub both_say : (s : State) (d : List ℕ) → get_or d 1 0 ≡ 1 → (read_of d).discard ≡ 0 → get_or (read_of d).message.places 2 0 ≡ 0 → Alike s d
both_say s [] e = absurd (omega arith)
both_say s (x ∷ []) e = absurd (omega arith)
both_say s (x ∷ k ∷ l) e = subst (λ (n : ℕ). (read_of (x ∷ n ∷ l)).discard ≡ 0 → get_or (read_of (x ∷ n ∷ l)).message.places 2 0 ≡ 0 → Alike s (x ∷ n ∷ l)) (sym e) (alike x l s)
