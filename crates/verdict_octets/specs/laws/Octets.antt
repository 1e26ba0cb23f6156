-- Laws: the octets of a verdict, part by part as they are written; a verdict has 75; and read back they are that verdict.
use Rattle.std.specs.Prelude.{Bool, false, true, ◌≡◌, refl, ◌%◌, ◌*◌, ◌+◌, ◌-◌, ◌/◌, ◌<◌, ◌≤◌, ℕ, length, replicate, take}
use mathlib.Core.List.{List, [], ◌++◌, ◌∷◌, append_assoc, append-nil}
use Rattle.std.proofs.Common.{◌∙◌}
use Rattle.std.proofs.Math.Path.{ap, ap₂, sym}
use native.Mathlib.Omega.{arith}
use Rattle.std.proofs.Math.ListN.{drop, get_or, length-append}
use Rattle.std.proofs.Math.Seq.{drop-append-add, drop-length, get_or_at, take_at}
use Rattle.std.specs.Int.{from_bool}
use Rattle.lists.specs.Pick.{pick}
use Rattle.lists.specs.Row.{laid_row}
use Rattle.octets.specs.Octets.{Wrote, at16, at32, be32, octets16, octets32}
use Rattle.octets.specs.laws.Octets.{read_back16, read_back32, wrote_as, wrote_joined, wrote_whole}
use Rattle.octets.specs.laws.Run.{part_length}
use Rattle.message.specs.declared.Identifier.{Identifier}
use Rattle.message.specs.declared.Language.{Language}
use Rattle.decision.specs.declared.Reply.{Reply}
use Rattle.decision.specs.declared.Reply.TheVariants.{InfoAck, LeaseAck, Nak, Nothing, Offer, ReleaseAck}
use Rattle.decision.specs.declared.Verdict.{Verdict}
use Rattle.server.specs.declared.Ruling.{Ruling}
use Rattle.verdict_octets.specs.Octets.{Holds, ReadBack, TypedRuling, asked_octets, flag_of, identifier_in, identifier_octets, is_set, language_in, language_octets, last_octets, number_octets, outcome_octets, place_octets, reply_for, reply_number, ruling_in, run, set_at, verdict_in, verdict_octets}

-- ---- written
pub flag_is : (b : Bool) → from_bool b ≡ flag_of b
unfolding flag_of pick
flag_is true = refl
flag_is false = refl

-- the low 16 bits of a number have its octets
pub low16 : (v : ℕ) → octets16 (v % 65536) ≡ octets16 v
low16 v = ap₂ (λ (x y : ℕ). x ∷ y ∷ []) (omega arith) (omega arith)

pub outcome_wrote : {r₀ r₁ r₂ r₃ r₄ : List ℕ} {at a b c n k : ℕ} (v : Verdict) → at ≤ length r₀ → Wrote r₀ at (v.outcome ∷ []) r₁ a → k ≡ reply_number v.reply → Wrote r₁ a (k ∷ []) r₂ b
    → Wrote r₂ b (v.error ∷ []) r₃ c → Wrote r₃ c (v.scope ∷ []) r₄ n → Wrote r₀ at (outcome_octets v) r₄ n × (n ≡ at + 4)
unfolding outcome_octets
outcome_wrote v h p e q s t =
    let w = wrote_as (ap (λ (x : ℕ). v.outcome ∷ x ∷ v.error ∷ v.scope ∷ []) e) (wrote_joined h (wrote_joined h (wrote_joined h p q) s) t) in
    (w, w.next)

pub place_wrote : {r₀ r₁ r₂ : List ℕ} {at a n : ℕ} (offset tenant : ℕ) → at ≤ length r₀ → Wrote r₀ at (octets16 (offset % 65536)) r₁ a → Wrote r₁ a (tenant % 256 ∷ []) r₂ n
    → Wrote r₀ at (place_octets offset tenant) r₂ n × (n ≡ at + 3)
unfolding place_octets
place_wrote offset tenant h p q =
    let w = wrote_as (ap (λ (l : List ℕ). l ++ (tenant % 256 ∷ [])) (low16 offset)) (wrote_joined h p q) in
    (w, w.next)

pub numbers_wrote : {r₀ r₁ r₂ r₃ r₄ r₅ : List ℕ} {at a b c d n : ℕ} (xid : ℕ) (v : Verdict) → at ≤ length r₀ → Wrote r₀ at (octets32 xid) r₁ a → Wrote r₁ a (octets32 v.start) r₂ b → Wrote r₂ b (octets32 v.end) r₃ c
    → Wrote r₃ c (octets32 (v.addresses / 4294967296)) r₄ d → Wrote r₄ d (octets32 v.addresses) r₅ n → Wrote r₀ at (number_octets xid v) r₅ n × (n ≡ at + 20)
unfolding number_octets
numbers_wrote xid v h p q s t u = let w = wrote_joined h (wrote_joined h (wrote_joined h (wrote_joined h p q) s) t) u in (w, w.next)

pub asked_wrote : {r₀ r₁ r₂ r₃ : List ℕ} {at a b n x y z : ℕ} (r : Ruling) → at ≤ length r₀ → x ≡ flag_of r.features → Wrote r₀ at (x ∷ []) r₁ a → y ≡ flag_of r.list_asked → Wrote r₁ a (y ∷ []) r₂ b
    → z ≡ flag_of r.time_asked → Wrote r₂ b (z ∷ []) r₃ n → Wrote r₀ at (asked_octets r) r₃ n × (n ≡ at + 3)
unfolding asked_octets
asked_wrote {x = x} {y} {z} r h e p f q g s =
    let w =
    wrote_as
    (ap (λ (k : ℕ). k ∷ y ∷ z ∷ []) e ∙ ap (λ (k : ℕ). flag_of r.features ∷ k ∷ z ∷ []) f ∙ ap (λ (k : ℕ). flag_of r.features ∷ flag_of r.list_asked ∷ k ∷ []) g)
    (wrote_joined h (wrote_joined h p q) s) in
    (w, w.next)

pub language_wrote : {r₀ r₁ r₂ r₃ : List ℕ} {at a b n x : ℕ} (l : Language) → length l.octets ≡ 8 → at ≤ length r₀ → x ≡ flag_of l.asked → Wrote r₀ at (x ∷ []) r₁ a → Wrote r₁ a (octets16 (l.len % 65536)) r₂ b
    → Wrote r₂ b l.octets r₃ n → Wrote r₀ at (language_octets l) r₃ n × (n ≡ at + 11)
unfolding language_octets
language_wrote l g h e p q s =
    let w =
    wrote_as
    (ap₂ (λ (k : ℕ) (o : List ℕ). (k ∷ o) ++ l.octets) e (low16 l.len))
    (wrote_joined h (wrote_joined h p q) s) in
    (w, omega (arith, w.next))

pub identifier_wrote : {r₀ r₁ r₂ : List ℕ} {at a n : ℕ} (i : Identifier) → length i.octets ≡ 32 → at ≤ length r₀ → Wrote r₀ at (i.len ∷ []) r₁ a → Wrote r₁ a i.octets r₂ n
    → Wrote r₀ at (identifier_octets i) r₂ n × (n ≡ at + 33)
unfolding identifier_octets
identifier_wrote i g h p q = let w = wrote_joined h p q in (w, omega (arith, w.next))

pub last_wrote : {r₀ r₁ r₂ : List ℕ} {at a n : ℕ} (r : Ruling) → at ≤ length r₀ → Wrote r₀ at (identifier_octets r.id) r₁ a × (a ≡ at + 33) → Wrote r₁ a (r.count % 256 ∷ []) r₂ n
    → Wrote r₀ at (last_octets r) r₂ n × (n ≡ at + 34)
unfolding last_octets
last_wrote r h p q = let w = wrote_joined h p.0 q in (w, omega (arith, q.next, p.1))

pub verdict_wrote : {r₀ r₁ r₂ r₃ r₄ r₅ r₆ : List ℕ} {a b c d e n : ℕ} (r : Ruling) → length r₀ ≡ 75
    → Wrote r₀ 0 (outcome_octets r.verdict) r₁ a × (a ≡ 0 + 4) → Wrote r₁ a (place_octets r.offset r.tenant) r₂ b × (b ≡ a + 3) → Wrote r₂ b (number_octets r.xid r.verdict) r₃ c × (c ≡ b + 20)
    → Wrote r₃ c (asked_octets r) r₄ d × (d ≡ c + 3) → Wrote r₄ d (language_octets r.language) r₅ e × (e ≡ d + 11) → Wrote r₅ e (last_octets r) r₆ n × (n ≡ e + 34) → r₆ ≡ verdict_octets r
unfolding verdict_octets
verdict_wrote {r₀} r g p q s t u v =
    let h : 0 ≤ length r₀ = omega arith in
    let w = wrote_joined h (wrote_joined h (wrote_joined h (wrote_joined h (wrote_joined h p.0 q.0) s.0) t.0) u.0) v.0 in
    let z : length (verdict_octets r) ≡ length r₀ = omega (arith, w.next, p.1, q.1, s.1, t.1, u.1, v.1) in
    wrote_whole w ∙ ap (λ (l : List ℕ). verdict_octets r ++ l) (ap (λ (k : ℕ). drop k r₀) z ∙ drop-length r₀) ∙ append-nil (verdict_octets r)

-- ---- read
module _ {n : ℕ} where
  pub reply_offer : n ≡ 1 → Offer ≡ reply_for n
  unfolding reply_for pick
  reply_offer e = sym (ap reply_for e)

  pub reply_lease : n ≡ 2 → LeaseAck ≡ reply_for n
  unfolding reply_for pick
  reply_lease e = sym (ap reply_for e)

  pub reply_release : n ≡ 3 → ReleaseAck ≡ reply_for n
  unfolding reply_for pick
  reply_release e = sym (ap reply_for e)

  pub reply_info : n ≡ 4 → InfoAck ≡ reply_for n
  unfolding reply_for pick
  reply_info e = sym (ap reply_for e)

  pub reply_nak : n ≡ 5 → Nak ≡ reply_for n
  unfolding reply_for pick
  reply_nak e = sym (ap reply_for e)

module _ (s : List ℕ) where
  pub set_is : {x y a b : ℕ} → x ≡ at32 s 19 → y ≡ at32 s 23 → a ≡ x → b ≡ y → a * 4294967296 + b ≡ set_at s 19
  unfolding set_at
  set_is p q u v = ap₂ (λ (x y : ℕ). x * 4294967296 + y) (u ∙ p) (v ∙ q)

  pub verdict_is : {k : Reply} {a b m : ℕ} → k ≡ reply_for (get_or s 1 0) → a ≡ at32 s 11 → b ≡ at32 s 15 → m ≡ set_at s 19
      → record { outcome = get_or s 0 0; reply = k; error = get_or s 2 0; scope = get_or s 3 0; start = a; end = b; addresses = m } ≡ verdict_in s
  verdict_is p q t u = λ i. record { outcome = get_or s 0 0; reply = p i; error = get_or s 2 0; scope = get_or s 3 0; start = q i; end = t i; addresses = u i }

  -- an array that is filled to its end
  pub run_full : (at n : ℕ) {o : List ℕ} → at + n ≤ length s → o ≡ laid_row 0 n (run s at n) → o ≡ run s at n
  run_full at n h e =
      e ∙ ap (λ (k : ℕ). run s at n ++ replicate k 0) (let l = part_length s at n h in let z : n - length (run s at n) ≡ 0 = omega arith in z) ∙ append-nil (run s at n)

  pub identifier_is : {o : List ℕ} → 75 ≤ length s → o ≡ laid_row 0 32 (run s 42 32) → record { octets = o; len = get_or s 41 0 } ≡ identifier_in s
  identifier_is h e = let p = run_full 42 32 (omega arith) e in λ i. record { octets = p i; len = get_or s 41 0 }

  pub language_is : {b : Bool} {n : ℕ} {m : ℕ} {o : List ℕ} → o ≡ run s 33 8 → b ≡ is_set (get_or s 30 0) → n ≡ at16 s 31 → m ≡ n → record { asked = b; len = m; octets = o } ≡ language_in s
  language_is p q t u = let v = u ∙ t in λ i. record { asked = q i; len = v i; octets = p i }

  pub ruling_is : {v : Verdict} {d : Identifier} {l : Language} {a o n t x : ℕ} {f g h : Bool} → v ≡ verdict_in s → d ≡ identifier_in s → l ≡ language_in s → a ≡ at16 s 4 → o ≡ a → n ≡ get_or s 74 0 → t ≡ get_or s 6 0 → x ≡ at32 s 7
      → f ≡ is_set (get_or s 27 0) → g ≡ is_set (get_or s 28 0) → h ≡ is_set (get_or s 29 0)
      → record { verdict = v; offset = o; count = n; tenant = t; xid = x; id = d; features = f; list_asked = g; time_asked = h; language = l } ≡ ruling_in s
  unfolding ruling_in
  ruling_is p q u a o n t x f g h =
      let y = o ∙ a in
      λ i. record { verdict = p i; offset = y i; count = n i; tenant = t i; xid = x i; id = q i; features = f i; list_asked = g i; time_asked = h i; language = u i }

-- ---- read back
reply_back : (k : Reply) → reply_for (reply_number k) ≡ k
unfolding reply_for pick
reply_back Nothing = refl
reply_back Offer = refl
reply_back LeaseAck = refl
reply_back ReleaseAck = refl
reply_back InfoAck = refl
reply_back Nak = refl

flag_back : (b : Bool) → is_set (flag_of b) ≡ b
unfolding flag_of pick
flag_back true = refl
flag_back false = refl

-- the low 32 bits of any number
low32 : (v : ℕ) → be32 (v / 16777216 % 256) (v / 65536 % 256) (v / 256 % 256) (v % 256) ≡ v % 4294967296
low32 v =
    let a : v / 16777216 % 256 ≡ v % 4294967296 / 16777216 % 256 = omega arith in
    let b : v / 65536 % 256 ≡ v % 4294967296 / 65536 % 256 = omega arith in
    let c : v / 256 % 256 ≡ v % 4294967296 / 256 % 256 = omega arith in
    let d : v % 256 ≡ v % 4294967296 % 256 = omega arith in
    let whole : be32 (v / 16777216 % 256) (v / 65536 % 256) (v / 256 % 256) (v % 256) ≡ be32 (v % 4294967296 / 16777216 % 256) (v % 4294967296 / 65536 % 256) (v % 4294967296 / 256 % 256) (v % 4294967296 % 256) =
    λ i. be32 (a i) (b i) (c i) (d i) in
    whole ∙ read_back32 (v % 4294967296) (omega arith)

module _ (r : Ruling) (t : TypedRuling r) where
  set_back : set_at (verdict_octets r) 19 ≡ r.verdict.addresses
  unfolding set_at at32 verdict_octets outcome_octets place_octets number_octets asked_octets language_octets identifier_octets last_octets
  set_back =
      let a = r.verdict.addresses in
      let g : a / 4294967296 < 4294967296 = omega (arith, t.addresses) in
      ap₂ (λ (x y : ℕ). x * 4294967296 + y) (read_back32 (a / 4294967296) g) (low32 a) ∙ (let z : a / 4294967296 * 4294967296 + a % 4294967296 ≡ a = omega arith in z)

  -- from the language's octets on
  abbrev L : List ℕ
  L = r.language.octets

  abbrev O : List ℕ
  O = r.id.octets

  abbrev C : List ℕ
  C = r.count % 256 ∷ []

  tag_back : run (verdict_octets r) 33 8 ≡ L
  unfolding verdict_octets outcome_octets place_octets number_octets asked_octets language_octets identifier_octets last_octets
  tag_back = take_at L (r.id.len ∷ O ++ C) 8 t.tag

  length_back : get_or (verdict_octets r) 41 0 ≡ r.id.len
  unfolding verdict_octets outcome_octets place_octets number_octets asked_octets language_octets identifier_octets last_octets
  length_back = get_or_at L r.id.len (O ++ C) 0 8 t.tag

  identifier_back : run (verdict_octets r) 42 32 ≡ O
  unfolding verdict_octets outcome_octets place_octets number_octets asked_octets language_octets identifier_octets last_octets
  identifier_back =
      ap (take 32) (ap (λ (k : ℕ). drop (k + 1) (L ++ (r.id.len ∷ O ++ C))) (sym t.tag) ∙ drop-append-add L (r.id.len ∷ O ++ C) 1) ∙ take_at O C 32 t.identifier

  count_back : r.count < 256 → get_or (verdict_octets r) 74 0 ≡ r.count
  unfolding verdict_octets outcome_octets place_octets number_octets asked_octets language_octets identifier_octets last_octets
  count_back h =
      ap (λ (l : List ℕ). get_or l 41 0) (sym (append_assoc L (r.id.len ∷ O) C))
      ∙ get_or_at (L ++ (r.id.len ∷ O)) (r.count % 256) [] 0 41 (let n = length-append L (r.id.len ∷ O) in omega (arith, t.tag, t.identifier))
      ∙ (let z : r.count % 256 ≡ r.count = omega arith in z)

  same_back : Holds r → ruling_in (verdict_octets r) ≡ r
  unfolding ruling_in at16 at32 verdict_octets outcome_octets place_octets number_octets asked_octets language_octets identifier_octets last_octets
  same_back h =
      let tenant : r.tenant % 256 ≡ r.tenant = omega (arith, h.tenant) in
      λ i. record {
        verdict = record {
          outcome = r.verdict.outcome;
          reply = reply_back r.verdict.reply i;
          error = r.verdict.error;
          scope = r.verdict.scope;
          start = read_back32 r.verdict.start t.start i;
          end = read_back32 r.verdict.end t.end i;
          addresses = set_back i;
        };
        offset = read_back16 r.offset h.offset i;
        count = count_back h.count i;
        tenant = tenant i;
        xid = read_back32 r.xid t.xid i;
        id = record { octets = identifier_back i; len = length_back i };
        features = flag_back r.features i;
        list_asked = flag_back r.list_asked i;
        time_asked = flag_back r.time_asked i;
        language = record { asked = flag_back r.language.asked i; len = read_back16 r.language.len h.language i; octets = tag_back i };
      }

pub verdict_back : ReadBack
unfolding ReadBack
verdict_back r t h = same_back r t h
