-- Laws: the reader's walk over a reply ends at its End, with each option where it was written.
use mathlib.Core.Path.{◌≡◌, refl, sym, ap, ap₂, ◌∙◌, subst}
use mathlib.Core.List.{List, [], ◌∷◌, ◌++◌, append_assoc}
use mathlib.Core.Bool.{Bool, true, false, ◌&&◌}
use Prim.Native.Nat.{ℕ, zero, suc, ◌+◌, ◌-◌, ◌%◌, ◌^◌, ◌≤◌, ◌<◌}
use native.Mathlib.Omega.{arith}
use native.Mathlib.Nat.{add_assoc, add-zero}
use borrow.Author.Tests.{eqb-true, eq-eqb, ne_eqb, le-ltb, le-leb}
use lib.Dec.{ltb, leb, eqb}
use lib.ListN.{length, get_or, take, set, replicate, length-append, get_or-replicate, get_or-eq_default}
use lib.Seq.{get_or-append-add, get_or-set_other}
use native.Mathlib.Decide.{dec_lt}
use Rattle.lists.specs.Pick.{pick}
use Rattle.octets.specs.Octets.{be16, at16, octets16, octets32}
use Rattle.octets.specs.laws.Octets.{read_back16}
use Rattle.address_set.specs.AddressSet.{offsets, fewest_ranges, first_range, behind}
use Rattle.address_set.proofs.Ranges.{ranges_next, ranges_few}
use Rattle.lists.specs.Filter.{is_in}
use Rattle.message.specs.Codes.{length_ok}
use Rattle.message.specs.Walk.{code_at, length_at, after_at, layout_ok, past_list, exactly_filled, value_ok, done, moved, option_taken, step_of, onward, walk_from, walk_of, start}
use Rattle.message.specs.declared.Walk.{Walk}
use Rattle.message.specs.declared.Stage.{Stage}
use Rattle.message.specs.declared.Stage.TheVariants.{Walking, Done, Broken}
use Rattle.reply.specs.Reply.{Option, option, option_octets, options_octets, header, message_octets, wanted, ranges_octets, lease_options, release_options, info_options, nak_options, name_for, scope_entries_of, scope_list_option, scopes_octets}
use Rattle.reply.specs.declared.Head.{Head}
use Rattle.reply.specs.declared.Terms.{Terms}
use Rattle.reply.specs.declared.Info.{Info}
use Rattle.reply.proofs.Writes.{names_length, ranges_length}

-- ---- what is stated

-- the places of options that are written one after the other from `at` on
unfoldable pub places_from : ℕ → List Option → List ℕ → List ℕ
places_from at [] places = places
places_from at (o ∷ os) places = places_from (at + 4 + length o.value) os (set places o.code at)

-- the walk over the message came to its End, and found each option at its place
unfoldable pub ReadBack : ℕ → ℕ → List Option → Type 0
ReadBack kind xid options =
    walk_of (message_octets kind xid options) ≡ record { at = 8 + length (options_octets options); stage = Done; places = places_from 8 options (replicate 17 0) }

-- ---- options that the reader takes

abbrev zeros : List ℕ
zeros = 0 ∷ 0 ∷ 0 ∷ 0 ∷ 0 ∷ 0 ∷ []

abbrev features_sent : Option
features_sent = option 12 zeros

-- a value of a right length; option 12's has three zero counts
pub record Right (o : Option) : Type 0 where
  pub known : o.code ≤ 16
  pub short : length o.value < 65536
  pub length_right_law : length_ok o.code (length o.value) ≡ true
  pub features : o.code ≡ 12 → o.value ≡ zeros

-- rising codes above c, each option right
pub Rising : ℕ → List Option → Type 0
Rising c [] = Unit {0}
Rising c (o ∷ os) = (c < o.code) × (Right o × Rising o.code os)

-- ---- one option

pub at16_past : (xs ys : List ℕ) (n : ℕ) → at16 (xs ++ ys) (length xs + n) ≡ at16 ys n
unfolding at16
at16_past xs ys n =
    ap₂ be16 (get_or-append-add xs ys n 0) (ap (λ (k : ℕ). get_or (xs ++ ys) k 0) (add_assoc (length xs) n 1) ∙ get_or-append-add xs ys (n + 1) 0)

module _ (pre : List ℕ) (o : Option) (rest : List ℕ) (short : length o.value < 65536) (known : o.code ≤ 16) where
  whole : List ℕ
  whole = pre ++ (option_octets o ++ rest)

  code_read : code_at whole (length pre) ≡ o.code
  unfolding whole at16
  code_read =
      ap (at16 whole) (sym (add-zero (length pre))) ∙ at16_past pre (option_octets o ++ rest) 0 ∙ read_back16 o.code (omega arith)

  length_read : length_at whole (length pre) ≡ length o.value
  unfolding whole at16
  length_read = at16_past pre (option_octets o ++ rest) 2 ∙ read_back16 (length o.value) short

  whole_long : length whole ≡ length pre + (4 + length o.value + length rest)
  unfolding whole
  whole_long =
      let a : length whole ≡ length pre + length (option_octets o ++ rest) = length-append pre (option_octets o ++ rest) in
      let b : length (option_octets o ++ rest) ≡ 4 + length o.value + length rest = (let e = length-append o.value rest in omega arith) in
      omega arith

  layout_right : layout_ok whole (length pre) ≡ true
  unfolding layout_ok pick
  layout_right =
      let n = length_read in
      let l = whole_long in
      ap (λ (b : Bool). b && leb (after_at whole (length pre)) (length whole)) (le-leb (length pre + 4) (length whole) (omega arith))
      ∙ le-leb (after_at whole (length pre)) (length whole) (omega arith)

  -- its value, from a place of it on
  value_read : (n : ℕ) → at16 whole (length pre + 4 + n) ≡ at16 (o.value ++ rest) n
  unfolding whole at16
  value_read n =
      ap (at16 whole) (add_assoc (length pre) 4 n) ∙ at16_past pre (option_octets o ++ rest) (4 + n) ∙ four_on
    where
      four_on : at16 (option_octets o ++ rest) (4 + n) ≡ at16 (o.value ++ rest) n
      four_on = at16_past (octets16 o.code ++ octets16 (length o.value)) (o.value ++ rest) n

  -- three zero counts fill the value of option 12
  filled_right : o.value ≡ zeros → exactly_filled whole (length pre + 4) (after_at whole (length pre)) ≡ true
  unfolding exactly_filled at16
  filled_right e =
      let zero_at : (n : ℕ) → at16 (o.value ++ rest) n ≡ at16 (zeros ++ rest) n = (λ n. ap (λ (v : List ℕ). at16 (v ++ rest) n) e) in
      let a : at16 whole (length pre + 4) ≡ 0 = ap (at16 whole) (sym (add-zero (length pre + 4))) ∙ value_read 0 ∙ zero_at 0 in
      let b : at16 whole (length pre + 4 + 2) ≡ 0 = value_read 2 ∙ zero_at 2 in
      let c : at16 whole (length pre + 4 + 4) ≡ 0 = value_read 4 ∙ zero_at 4 in
      let n : length o.value ≡ 6 = ap length e in
      let m = length_read in
      let p : past_list whole (length pre + 4) ≡ length pre + 4 + 2 = omega arith in
      let q : past_list whole (length pre + 4 + 2) ≡ length pre + 4 + 4 = omega arith in
      let r : past_list whole (length pre + 4 + 4) ≡ after_at whole (length pre) = omega arith in
      eq-eqb _ _ (ap (λ (k : ℕ). past_list whole (past_list whole k)) p ∙ ap (past_list whole) q ∙ r)

  value_right : Right o → value_ok whole (length pre) ≡ true
  unfolding value_ok pick
  value_right v =
      ap (λ (b : Bool). b && pick (eqb (code_at whole (length pre)) 12) (exactly_filled whole (length pre + 4) (after_at whole (length pre))) true)
      (ap₂ length_ok code_read length_read ∙ v.length_right_law)
      ∙ by_code (eqb (code_at whole (length pre)) 12) refl
    where
      by_code : (b : Bool) → eqb (code_at whole (length pre)) 12 ≡ b → pick b (exactly_filled whole (length pre + 4) (after_at whole (length pre))) true ≡ true
      by_code true e = filled_right (v.features (sym code_read ∙ eqb-true _ _ e))
      by_code false e = refl

  -- the walk's turn at it
  step_right : (places : List ℕ) → 0 < o.code → get_or places o.code 0 ≡ 0 → Right o
      → step_of whole (record { at = length pre; stage = Walking; places = places })
      ≡ record { at = length pre + 4 + length o.value; stage = Walking; places = set places o.code (length pre) }
  unfolding step_of option_taken pick
  step_right places pos fresh v =
      let w : Walk = record { at = length pre; stage = Walking; places = places } in
      ap (λ (b : Bool). pick b (pick (value_ok whole (length pre)) (option_taken (length whole) (code_at whole (length pre)) (length_at whole (length pre)) w) (stopped w)) (stopped w)) layout_right
      ∙ ap (λ (b : Bool). pick b (option_taken (length whole) (code_at whole (length pre)) (length_at whole (length pre)) w) (stopped w)) (value_right v)
      ∙ ap₂ (λ (c n : ℕ). option_taken (length whole) c n w) code_read length_read
      ∙ ap (λ (b : Bool). pick b (pick (eqb (length pre + 4) (length whole)) (done w) (stopped w)) (later w)) (ne_eqb o.code 0 (λ e. absurd (omega arith)))
      ∙ ap (λ (b : Bool). pick b (moved (length o.value) places w) (last w)) (le-ltb 16 o.code v.known)
      ∙ ap (λ (b : Bool). pick b (moved (length o.value) (set places o.code (length pre)) w) (stopped w)) (eq-eqb (get_or places o.code 0) 0 fresh)
    where
      stopped : Walk → Walk
      stopped w = record { at = w.at; stage = Broken; places = w.places }

      last : Walk → Walk
      last w = pick (eqb (get_or w.places o.code 0) 0) (moved (length o.value) (set w.places o.code w.at) w) (stopped w)

      later : Walk → Walk
      later w = pick (ltb 16 o.code) (moved (length o.value) w.places w) (last w)

-- ---- the whole walk

-- no option above c is recorded
Fresh : ℕ → List ℕ → Type 0
Fresh c places = (d : ℕ) → c < d → get_or places d 0 ≡ 0

fresh_set : (c at : ℕ) (places : List ℕ) (b : ℕ) → b < c → Fresh b places → Fresh c (set places c at)
unfolding Fresh
fresh_set c at places b h f d g = get_or-set_other places c d at 0 (λ e. absurd (omega arith)) ∙ f d (omega arith)

end_octets : List ℕ
end_octets = option_octets (option 0 [])

module _ (pre : List ℕ) (places : List ℕ) where
  -- at End
  ends : step_of (pre ++ end_octets) (record { at = length pre; stage = Walking; places = places }) ≡ record { at = length pre; stage = Done; places = places }
  unfolding step_of option_taken layout_ok value_ok length_ok pick at16 end_octets
  ends =
      let s : List ℕ = pre ++ end_octets in
      let w : Walk = record { at = length pre; stage = Walking; places = places } in
      let long : length s ≡ length pre + 4 = length-append pre end_octets in
      let code : code_at s (length pre) ≡ 0 = ap (at16 s) (sym (add-zero (length pre))) ∙ at16_past pre end_octets 0 in
      let none : length_at s (length pre) ≡ 0 = at16_past pre end_octets 2 in
      ap (λ (b : Bool). pick b (pick (value_ok s (length pre)) (option_taken (length s) (code_at s (length pre)) (length_at s (length pre)) w) (stopped w)) (stopped w))
      (ap (λ (b : Bool). b && leb (after_at s (length pre)) (length s)) (le-leb (length pre + 4) (length s) (omega arith)) ∙ le-leb (after_at s (length pre)) (length s) (omega arith))
      ∙ ap (λ (b : Bool). pick b (option_taken (length s) (code_at s (length pre)) (length_at s (length pre)) w) (stopped w))
      (ap₂ (λ (c n : ℕ). length_ok c n && pick (eqb c 12) (exactly_filled s (length pre + 4) (after_at s (length pre))) true) code none)
      ∙ ap₂ (λ (c n : ℕ). option_taken (length s) c n w) code none
      ∙ ap (λ (b : Bool). pick b (done w) (stopped w)) (eq-eqb (length pre + 4) (length s) (sym long))
    where
      stopped : Walk → Walk
      stopped w = record { at = w.at; stage = Broken; places = w.places }

-- one turn of a walk that is on
turn : (k : ℕ) (s : List ℕ) (w v : Walk) → w.stage ≡ Walking → step_of s w ≡ v → walk_from (suc (suc k)) s w ≡ walk_from (suc k) s v
unfolding walk_from
turn k s w v e p = ap (λ (t : Stage). onward t w (walk_from (suc k) s (step_of s w))) e ∙ ap (walk_from (suc k) s) p

-- from a place on
walk_right : (k : ℕ) (pre : List ℕ) (os : List Option) (c : ℕ) (places : List ℕ) → length os < k → Rising c os → Fresh c places
    → walk_from (suc k) (pre ++ (options_octets os ++ end_octets)) (record { at = length pre; stage = Walking; places = places })
    ≡ record { at = length pre + length (options_octets os); stage = Done; places = places_from (length pre) os places }
unfolding walk_from options_octets places_from Rising Fresh whole
walk_right zero pre os c places h r f = absurd (omega arith)
walk_right (suc k) pre [] c places h r f =
    ap (walk_from (suc k) (pre ++ end_octets)) (ends pre places) ∙ ap (λ (n : ℕ). at_end n) (sym (add-zero (length pre)))
  where
    at_end : ℕ → Walk
    at_end n = record { at = n; stage = Done; places = places }
walk_right (suc k) pre (o ∷ os) c places h r f =
    let v : Right o = r.1.0 in
    let rest : List ℕ = options_octets os ++ end_octets in
    let s : pre ++ ((option_octets o ++ options_octets os) ++ end_octets) ≡ pre ++ (option_octets o ++ rest) = ap (λ (l : List ℕ). pre ++ l) (append_assoc (option_octets o) (options_octets os) end_octets) in
    let here : length (pre ++ option_octets o) ≡ length pre + 4 + length o.value = (let e = length-append pre (option_octets o) in omega arith) in
    ap (λ (l : List ℕ). walk_from (suc (suc k)) l (record { at = length pre; stage = Walking; places = places })) s
    ∙ turn k (pre ++ (option_octets o ++ rest)) _ _ refl (step_right pre o rest v.short v.known places (omega arith) (f o.code r.0) v)
    ∙ ap (λ (l : List ℕ). walk_from (suc k) l (record { at = length pre + 4 + length o.value; stage = Walking; places = set places o.code (length pre) })) (sym (append_assoc pre (option_octets o) rest))
    ∙ ap (λ (n : ℕ). walk_from (suc k) ((pre ++ option_octets o) ++ rest) (record { at = n; stage = Walking; places = set places o.code (length pre) })) (sym here)
    ∙ walk_right k (pre ++ option_octets o) os o.code (set places o.code (length pre)) (omega arith) r.1.1 (fresh_set o.code (length pre) places c r.0 f)
    ∙ ap₂ (λ (n m : ℕ). at_end n m) (let e = length-append (option_octets o) (options_octets os) in let g : length (pre ++ option_octets o) + length (options_octets os) ≡ length pre + length (option_octets o ++ options_octets os) = omega arith in g) here
  where
    at_end : ℕ → ℕ → Walk
    at_end n m = record { at = n; stage = Done; places = places_from m os (set places o.code (length pre)) }

-- an option has octets
count : (os : List Option) → length os ≤ length (options_octets os)
unfolding options_octets
count [] = omega arith
count (o ∷ os) = let h = count os in let e = length-append (option_octets o) (options_octets os) in omega arith

-- any message whose options rise and are right is read back
pub read_back : (kind xid : ℕ) (options : List Option) → Rising 0 options → ReadBack kind xid options
unfolding ReadBack message_octets walk_of Fresh end_octets
read_back kind xid options r =
    let s : List ℕ = header kind xid ++ (options_octets options ++ end_octets) in
    let long : length s ≡ 8 + (length (options_octets options) + 4) = (let e = length-append (options_octets options) end_octets in omega arith) in
    let few = count options in
    let k : ℕ = length s - 1 in
    let fuel : length s ≡ suc k = omega arith in
    ap (λ (n : ℕ). walk_from n s start) fuel ∙ walk_right k (header kind xid) options 0 (replicate 17 0) (omega arith) r none
  where
    none : (d : ℕ) → 0 < d → ◌≡◌ {A = ℕ} (get_or (replicate 17 0) d 0) 0
    none d h = by (dec_lt d 17)
      where
        by : Dec (d < 17) → ◌≡◌ {A = ℕ} (get_or (replicate 17 0) d 0) 0
        by (yes l) = get_or-replicate 17 d 0 0 l
        by (no l) = get_or-eq_default (replicate 17 0) 0 {n = d} (omega arith)

-- ---- the replies

-- an identifier of 2 to 32 octets
abbrev pub Named : Head → Type 0
Named h = (2 ≤ length (take h.id.len h.id.octets)) × (length (take h.id.len h.id.octets) ≤ 32)

-- an option other than 12
plain : (code : ℕ) (value : List ℕ) → code ≤ 16 → (code ≡ 12 → ⊥) → length value < 65536 → length_ok code (length value) ≡ true → Right (option code value)
plain code value k n s r = record { known = k; short = s; length_right_law = r; features = λ e. absurd (n e) }

server_right : (h : Head) → Right (option 2 (octets16 1 ++ octets32 h.server))
unfolding length_ok is_in pick
server_right h = plain 2 _ (omega arith) (λ e. omega arith) (omega arith) refl

time_right : (v : ℕ) → Right (option 11 (octets32 v))
unfolding length_ok is_in pick
time_right v = plain 11 _ (omega arith) (λ e. omega arith) (omega arith) refl

id_right : (h : Head) → Named h → Right (option 3 (take h.id.len h.id.octets))
unfolding length_ok is_in pick
id_right h n =
    let a = n.0 in
    let b = n.1 in
    plain 3 _ (omega arith) (λ e. omega arith) (omega arith)
    (ap (λ (t : Bool). t && leb (length (take h.id.len h.id.octets)) 32) (le-leb 2 (length (take h.id.len h.id.octets)) a) ∙ le-leb (length (take h.id.len h.id.octets)) 32 b)

zeros_right : Right (features_sent)
unfolding length_ok is_in pick
zeros_right = record { known = omega arith; short = omega arith; length_right_law = refl; features = λ e. refl }

ranges_right : (t : Terms) → 0 < t.addresses → t.addresses < 2 ^ 64 → Right (option 10 (ranges_octets t.scope (fewest_ranges (offsets t.addresses))))
unfolding length_ok is_in pick
ranges_right t p h =
    let n : ℕ = length (ranges_octets t.scope (fewest_ranges (offsets t.addresses))) in
    let l = ranges_length t.scope (fewest_ranges (offsets t.addresses)) in
    let f = ranges_few t.addresses in
    let some : length (fewest_ranges (offsets t.addresses)) ≡ suc (length (fewest_ranges (offsets (behind t.addresses (first_range (fewest_ranges (offsets t.addresses))))))) = ap length (ranges_next h p refl refl) in
    plain 10 _ (omega arith) (λ e. omega arith) (omega arith)
    (ap (λ (b : Bool). b && eqb (n % 6) 0) (le-leb 6 n (omega arith)) ∙ eq-eqb (n % 6) 0 (omega arith))

scopes_right : (i : Info) (names : List ℕ) → length (scope_entries_of i) ≤ 4 → Right (scope_list_option i names)
unfolding length_ok is_in pick
scopes_right i names h =
    let l = names_length i names in
    plain 9 _ (omega arith) (λ e. omega arith) (omega arith) (le-leb 1 (suc (length (scopes_octets (name_for i names) 0 (scope_entries_of i)))) (omega arith))

-- an option that may be there, before others
wanted_rise : (b : Bool) (o : Option) (c : ℕ) (os : List Option) → c < o.code → Right o → ((d : ℕ) → d ≤ o.code → Rising d os) → Rising c (wanted b o ++ os)
unfolding Rising
wanted_rise true o c os h r f = (h, (r, f o.code (omega arith)))
wanted_rise false o c os h r f = f c (omega arith)

-- the last, if it is there
last_rise : (b : Bool) (o : Option) (c : ℕ) → c < o.code → Right o → Rising c (wanted b o)
unfolding Rising
last_rise true o c h r = (h, (r, tt))
last_rise false o c h r = tt

module _ (h : Head) (n : Named h) where
  -- OFFER and the ACK to REQUEST and RENEW, of at least one address
  pub lease_back : (kind : ℕ) (t : Terms) → 0 < t.addresses → t.addresses < 2 ^ 64 → ReadBack kind h.xid (lease_options h t)
  unfolding Rising length_ok is_in pick
  lease_back kind t p q = read_back kind h.xid (lease_options h t) (
    omega arith,
    (
      four 1 t.length (omega arith) (λ e. omega arith) refl,
      (
        omega arith,
        (
          server_right h,
          (
            omega arith,
            (
              id_right h n,
              (
                omega arith,
                (
                  four 4 t.scope (omega arith) (λ e. omega arith) refl,
                  (
                    omega arith,
                    (
                      four 6 t.start (omega arith) (λ e. omega arith) refl,
                      (
                        omega arith,
                        (
                          ranges_right t p q,
                          (omega arith, (time_right t.clock, last_rise h.features (features_sent) 11 (omega arith) zeros_right)),
                        ),
                      ),
                    ),
                  ),
                ),
              ),
            ),
          ),
        ),
      ),
    ),
  )
    where
      four : (code v : ℕ) → code ≤ 16 → (code ≡ 12 → ⊥) → length_ok code 4 ≡ true → Right (option code (octets32 v))
      four code v k m r = plain code (octets32 v) k m (omega arith) r

  -- ACK to RELEASE
  pub release_back : ReadBack 5 h.xid (release_options h)
  unfolding Rising
  release_back = read_back 5 h.xid (release_options h) (
    omega arith,
    (
      server_right h,
      (omega arith, (id_right h n, last_rise h.features (features_sent) 3 (omega arith) zeros_right)),
    ),
  )

  -- ACK to GETINFO
  pub info_back : (i : Info) (names : List ℕ) → length (scope_entries_of i) ≤ 4 → ReadBack 5 h.xid (info_options h i names)
  unfolding Rising
  info_back i names few = read_back 5 h.xid (info_options h i names) (
    omega arith,
    (
      server_right h,
      (
        omega arith,
        (
          id_right h n,
          subst (λ (l : List Option). Rising 3 l) (sym (append_assoc (wanted i.list_asked (scope_list_option i names)) (wanted i.time_asked (option 11 (octets32 i.clock))) (wanted h.features (features_sent))))
              (wanted_rise i.list_asked _ 3 _ (omega arith) (scopes_right i names few) (λ c a.
              wanted_rise i.time_asked _ c _ (omega arith) (time_right i.clock) (λ d b.
              last_rise h.features (features_sent) d (omega arith) zeros_right))),
        ),
      ),
    ),
  )

  -- NAK
  pub nak_back : (error : ℕ) → ReadBack 6 h.xid (nak_options h error)
  unfolding Rising length_ok is_in pick
  nak_back error = read_back 6 h.xid (nak_options h error) (
    omega arith,
    (
      server_right h,
      (
        omega arith,
        (
          id_right h n,
          wanted_rise h.features (features_sent) 3 _ (omega arith) zeros_right (λ d a. (omega arith, (plain 16 _ (omega arith) (λ e. omega arith) (omega arith) refl, tt))),
        ),
      ),
    ),
  )
