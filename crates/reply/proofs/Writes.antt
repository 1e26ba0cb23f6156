-- Laws: writes one after the other: an option of its parts, options in a row, a message of header, options and End; ranges and scopes in a loop.
use mathlib.Core.Bool.{true}
use mathlib.Core.Path.{◌≡◌, refl, sym, ap, ap₂, ◌∙◌, subst}
use mathlib.Core.List.{List, [], ◌∷◌, ◌++◌, append_assoc, append-nil}
use Prim.Native.Nat.{ℕ, zero, suc, ◌+◌, ◌-◌, ◌*◌, ◌^◌, ◌≤◌, ◌<◌, min}
use native.Mathlib.Omega.{arith}
use native.Mathlib.Nat.{add-zero}
use native.Mathlib.Numerals.{add-one}
use lib.ListN.{length, get_or, take, drop, length-take, length-append}
use lib.Seq.{take-suc, take-take, take_all, take-append-le, drop-append_seam, length-take-le}
use Rattle.lists.specs.laws.Part.{cut_take}
use Rattle.octets.specs.Octets.{octets16, put, Wrote}
use Rattle.octets.specs.laws.Octets.{wrote_joined, wrote_whole, whole_length, wrote_none, wrote_as}
use Rattle.address_set.specs.declared.Range.{Range}
use Rattle.address_set.specs.AddressSet.{offsets, fewest_ranges, first_range, behind}
use Rattle.address_set.proofs.Ranges.{ranges_none, ranges_next, ranges_less, ranges_few, range_count}
use Rattle.reply.specs.Reply.{Option, option, option_octets, options_octets, header, message_octets, range_octets, ranges_octets, entry_octets, scope_octets, scopes_octets, name_for, scope_entries_of, Sendable}
use Rattle.reply.specs.Put.{Put, Replied}
use Rattle.reply.specs.declared.Info.{Info}
use Rattle.reply.specs.declared.ScopeEntry.{ScopeEntry}
use Rattle.names.specs.Names.{Name, names_b, shown}
use Rattle.names.specs.laws.Names.{good_opened, sent_most, sent_count}

-- ---- options

one_option : (code : ℕ) (value : List ℕ) → octets16 code ++ octets16 (length value) ++ value ≡ options_octets (option code value ∷ [])
unfolding options_octets
one_option code value = sym (append-nil (octets16 code ++ octets16 (length value) ++ value))

-- code and length, and then the value
pub option_put : (code n most : ℕ) (value : List ℕ) {b₀ b₁ b₂ : List ℕ} {at a r : ℕ} → n ≡ length value → length value + 4 ≤ most → at ≤ length b₀
    → Wrote b₀ at (octets16 code ++ octets16 n) b₁ a → Wrote b₁ a value b₂ r → Put b₀ at (option code value ∷ []) b₂ r most
option_put code n most value {b₀ = b₀} {b₂ = b₂} {at = at} {r = r} e m h p q =
    let w : Wrote b₀ at (octets16 code ++ octets16 n ++ value) b₂ r = wrote_joined h p q in
    let l : length (octets16 code ++ octets16 n ++ value) ≡ 4 + length value = omega arith in
    record {
      wrote = wrote_as (ap (λ (k : ℕ). octets16 code ++ octets16 k ++ value) e ∙ one_option code value) w;
      near = let k = w.next in omega arith;
    }

pub options_append : (xs ys : List Option) → options_octets (xs ++ ys) ≡ options_octets xs ++ options_octets ys
unfolding options_octets
options_append [] ys = refl
options_append (o ∷ xs) ys = ap (λ (l : List ℕ). option_octets o ++ l) (options_append xs ys) ∙ sym (append_assoc (option_octets o) (options_octets xs) (options_octets ys))

-- options, and then others
pub put_joined : {b₀ b₁ b₂ : List ℕ} {at a r m n : ℕ} {xs ys : List Option} → at ≤ length b₀ → Put b₀ at xs b₁ a m → Put b₁ a ys b₂ r n → Put b₀ at (xs ++ ys) b₂ r (m + n)
put_joined {xs = xs} {ys = ys} h p q = record {
  wrote = wrote_as (sym (options_append xs ys)) (wrote_joined h p.wrote q.wrote);
  near = let x = p.near in let y = q.near in omega arith;
}

pub put_none : (b : List ℕ) (at most : ℕ) → Put b at [] b at most
unfolding options_octets
put_none b at most = record { wrote = wrote_none b at; near = omega arith }

-- ---- a message

pub replied : (kind xid : ℕ) {b₀ b₁ b₂ b₃ : List ℕ} {a n r most : ℕ} {options : List Option} → Wrote b₀ 0 (header kind xid) b₁ a → Put b₁ a options b₂ n most → Wrote b₂ n (option_octets (option 0 [])) b₃ r
    → a ≤ length b₁ → Replied b₀ (message_octets kind xid options) b₃ r
unfolding message_octets
replied kind xid {b₀ = b₀} {b₃ = b₃} {r = r} {options = options} p q e h =
    let w : Wrote b₀ 0 (header kind xid ++ options_octets options ++ option_octets (option 0 [])) b₃ r = wrote_joined (omega arith) (wrote_joined (omega arith) p q.wrote) e in
    record { size = whole_length w; buffer = wrote_whole w }

-- ---- ranges

pub ranges_length : (lowest : ℕ) (rs : List Range) → length (ranges_octets lowest rs) ≡ 6 * length rs
unfolding ranges_octets
ranges_length lowest [] = refl
ranges_length lowest (r ∷ rs) = let h = ranges_length lowest rs in omega arith

-- what the loop that counts them keeps
pub record CountInv (set left n : ℕ) : Type 0 where
  pub small : left < 2 ^ 64
  pub whole : n + length (fewest_ranges (offsets left)) ≡ length (fewest_ranges (offsets set))

pub count_start : {set : ℕ} → set < 2 ^ 64 → CountInv set set 0
count_start h = record { small = h; whole = omega arith }

module _ {set left n : ℕ} {r : Range} (v : CountInv set left n) (p : 0 < left) (e : r ≡ first_range (fewest_ranges (offsets left))) where
  pub count_less : {left' : ℕ} → left' ≡ behind left r → left' < left
  count_less q = ranges_less v.small p e q

  pub count_next : {left' : ℕ} → left' ≡ behind left r → CountInv set left' (n + 1)
  count_next {left'} q =
      let w = v.whole in
      let l : length (fewest_ranges (offsets left)) ≡ suc (length (fewest_ranges (offsets left'))) = ap length (ranges_next v.small p e q) in
      record { small = let s = v.small in let t = count_less q in omega arith; whole = omega arith }

  pub count_more : n + 1 ≤ 64
  count_more = let w = (count_next refl).whole in let f = ranges_few set in omega arith

pub count_end : {set left n : ℕ} → CountInv set left n → left ≤ 0 → n ≡ length (fewest_ranges (offsets set))
count_end {left = left} v h =
    let z : left ≡ 0 = omega arith in
    let e : length (fewest_ranges (offsets left)) ≡ 0 = ap (λ (m : ℕ). length (fewest_ranges (offsets m))) z ∙ ap length ranges_none in
    let w = v.whole in
    omega arith

-- what the loop that writes them keeps: those that are written, and that the others fit
pub record RangesInv (b₀ : List ℕ) (at lowest set : ℕ) (b : List ℕ) (left to : ℕ) : Type 0 where
  pub small : left < 2 ^ 64
  pub done : List ℕ
  pub wrote : Wrote b₀ at done b to
  pub rest : ranges_octets lowest (fewest_ranges (offsets set)) ≡ done ++ ranges_octets lowest (fewest_ranges (offsets left))
  pub room : to + 6 * length (fewest_ranges (offsets left)) ≤ at + 384
  pub kept : length b ≡ length b₀

pub ranges_start : {b : List ℕ} {at lowest set : ℕ} → set < 2 ^ 64 → RangesInv b at lowest set b set at
ranges_start {b} {at} {lowest} {set} h = record { small = h; done = []; wrote = wrote_none b at; rest = refl; room = let f = ranges_few set in omega arith; kept = refl }

module _ {b₀ : List ℕ} {at lowest set : ℕ} {b : List ℕ} {left to : ℕ} {r : Range} (v : RangesInv b₀ at lowest set b left to) (p : 0 < left) (e : r ≡ first_range (fewest_ranges (offsets left))) where
  next : ranges_octets lowest (fewest_ranges (offsets left)) ≡ range_octets lowest r ++ ranges_octets lowest (fewest_ranges (offsets (behind left r)))
  unfolding ranges_octets
  next = ap (ranges_octets lowest) (ranges_next v.small p e refl)

  fewer : length (fewest_ranges (offsets left)) ≡ suc (length (fewest_ranges (offsets (behind left r))))
  fewer = ap length (ranges_next v.small p e refl)

  pub ranges_fall : {left' : ℕ} → left' ≡ behind left r → left' < left
  ranges_fall q = ranges_less v.small p e q

  pub range_short : r.count ≤ 64
  range_short = range_count v.small p e

  pub ranges_room : to + 6 ≤ at + 384
  ranges_room = let m = v.room in let f = fewer in omega arith

  pub ranges_turn : {b₁ : List ℕ} {to₁ left' : ℕ} → at ≤ length b₀ → Wrote b to (range_octets lowest r) b₁ to₁ → length b₁ ≡ length b → left' ≡ behind left r → RangesInv b₀ at lowest set b₁ left' to₁
  ranges_turn {b₁} {to₁} {left'} g w l q = record {
    small = let s = v.small in let t = ranges_fall q in omega arith;
    done = v.done ++ range_octets lowest r;
    wrote = wrote_joined g v.wrote w;
    rest = v.rest ∙ ap (λ (x : List ℕ). v.done ++ x) next ∙ sym (append_assoc v.done (range_octets lowest r) (ranges_octets lowest (fewest_ranges (offsets (behind left r)))))
        ∙ ap (λ (m : ℕ). (v.done ++ range_octets lowest r) ++ ranges_octets lowest (fewest_ranges (offsets m))) (sym q);
    room = let m = v.room in let f = fewer in let k = w.next in let x : length (fewest_ranges (offsets left')) ≡ length (fewest_ranges (offsets (behind left r))) = ap (λ (m : ℕ). length (fewest_ranges (offsets m))) q in omega arith;
    kept = l ∙ v.kept;
  }

pub ranges_end : {b₀ : List ℕ} {at lowest set : ℕ} {b : List ℕ} {left to : ℕ} → RangesInv b₀ at lowest set b left to → left ≤ 0 → Wrote b₀ at (ranges_octets lowest (fewest_ranges (offsets set))) b to
unfolding ranges_octets
ranges_end {lowest = lowest} {left = left} v h =
    let z : left ≡ 0 = omega arith in
    wrote_as (sym (v.rest ∙ ap (λ (m : ℕ). v.done ++ ranges_octets lowest (fewest_ranges (offsets m))) z ∙ ap (λ (rs : List Range). v.done ++ ranges_octets lowest rs) ranges_none ∙ append-nil v.done)) v.wrote

-- ---- scopes

scopes_append : (f : ℕ → List Name) (k : ℕ) (xs ys : List ScopeEntry) → scopes_octets f k (xs ++ ys) ≡ scopes_octets f k xs ++ scopes_octets f (k + length xs) ys
unfolding scopes_octets
scopes_append f k [] ys = ap (λ (j : ℕ). scopes_octets f j ys) (sym (add-zero k))
scopes_append f k (x ∷ xs) ys =
    ap (λ (l : List ℕ). scope_octets x (f k) ++ l) (scopes_append f (suc k) xs ys ∙ ap (λ (j : ℕ). scopes_octets f (suc k) xs ++ scopes_octets f j ys) (let e : suc k + length xs ≡ k + suc (length xs) = omega arith in e))
    ∙ sym (append_assoc (scope_octets x (f k)) (scopes_octets f (suc k) xs) (scopes_octets f (k + suc (length xs)) ys))

-- no name has more than 43 octets, so no scope more than 53
pub scopes_length : (f : ℕ → List Name) (k : ℕ) (l : List ScopeEntry) → ((place : ℕ) → length (shown (f place)) ≤ 43) → length (scopes_octets f k l) ≤ 53 * length l
unfolding scopes_octets
scopes_length f k [] h = omega arith
scopes_length f k (e ∷ l) h =
    let i = scopes_length f (suc k) l h in
    let m = h k in
    let a = length-append (scope_octets e (f k)) (scopes_octets f (suc k) l) in
    omega arith

-- what the loop that writes them keeps
pub record ScopesInv (b₀ : List ℕ) (at : ℕ) (f : ℕ → List Name) (l : List ScopeEntry) (n : ℕ) (b : List ℕ) (i to : ℕ) : Type 0 where
  pub within : i ≤ n
  pub long : n ≤ length l
  pub near : to ≤ at + 53 * i
  pub wrote : Wrote b₀ at (scopes_octets f 0 (take i l)) b to
  pub kept : length b ≡ length b₀

pub scopes_start : {b : List ℕ} {at : ℕ} {f : ℕ → List Name} {l : List ScopeEntry} {n : ℕ} → n ≤ length l → ScopesInv b at f l n b 0 at
unfolding scopes_octets
scopes_start {b} {at} h = record { within = omega arith; long = h; near = omega arith; wrote = wrote_none b at; kept = refl }

module _ {b₀ : List ℕ} {at : ℕ} {f : ℕ → List Name} {l : List ScopeEntry} {n : ℕ} {b : List ℕ} {i to : ℕ} (v : ScopesInv b₀ at f l n b i to) where
  pub scopes_next : {b₁ : List ℕ} {to₁ : ℕ} (d : ScopeEntry) → at ≤ length b₀ → i < n → length (shown (f i)) ≤ 43 → Wrote b to (scope_octets (get_or l i d) (f i)) b₁ to₁ → length b₁ ≡ length b
      → ScopesInv b₀ at f l n b₁ (i + 1) to₁
  unfolding scopes_octets
  scopes_next {b₁} {to₁} d g h m w k =
      let s : take (i + 1) l ≡ take i l ++ (get_or l i d ∷ []) = ap (λ (x : ℕ). take x l) (add-one i) ∙ take-suc l i d (let o = v.long in omega arith) in
      let p : 0 + length (take i l) ≡ i = (let o = v.long in let e = length-take-le i l (omega arith) in omega arith) in
      record {
        within = omega arith;
        long = v.long;
        near = let p = v.near in let q = w.next in omega arith;
        wrote = wrote_as
            (ap (λ (x : List ℕ). scopes_octets f 0 (take i l) ++ x) (sym (append-nil (scope_octets (get_or l i d) (f i))) ∙ ap (λ (j : ℕ). scopes_octets f j (get_or l i d ∷ [])) (sym p))
            ∙ sym (scopes_append f 0 (take i l) (get_or l i d ∷ [])) ∙ ap (scopes_octets f 0) (sym s))
            (wrote_joined g v.wrote w);
        kept = k ∙ v.kept;
      }

  pub scopes_end : n ≤ i → Wrote b₀ at (scopes_octets f 0 (take n l)) b to
  scopes_end h = let e : i ≡ n = (let o = v.within in omega arith) in wrote_as (ap (λ (x : ℕ). scopes_octets f 0 (take x l)) e) v.wrote

-- a run, and then what stands before it
wrote_before : {b₀ b₁ b₂ xs ys : List ℕ} {at a end : ℕ} → a ≡ at + length xs → a ≤ length b₀ → Wrote b₀ a ys b₁ end → Wrote b₁ at xs b₂ a → Wrote b₀ at (xs ++ ys) b₂ end
unfolding put
wrote_before {b₀ = b₀} {b₁ = b₁} {xs = xs} {ys = ys} {at = at} {a = a} {end = end} e h p q =
    let front : List ℕ = take a b₀ in
    let back : List ℕ = drop (a + length ys) b₀ in
    let long : length front ≡ a = length-take-le a b₀ h in
    let both : length (front ++ ys) ≡ a + length ys = length-append front ys ∙ ap (λ (k : ℕ). k + length ys) long in
    let joined : length (xs ++ ys) ≡ length xs + length ys = length-append xs ys in
    let left : take at b₁ ≡ take at b₀ =
    ap (take at) p.buffer ∙ take-append-le at (front ++ ys) back (omega arith) ∙ take-append-le at front ys (omega arith) ∙ take-take at a b₀ (omega arith) in
    let right : drop (at + length xs) b₁ ≡ ys ++ back =
    ap₂ (λ (k : ℕ) (l : List ℕ). drop k l) (sym e ∙ sym long) (p.buffer ∙ append_assoc front ys back) ∙ drop-append_seam front (ys ++ back) in
    record {
      next = let n = p.next in omega arith;
      buffer = q.buffer ∙ ap₂ (λ (x y : List ℕ). x ++ xs ++ y) left right ∙ sym (append_assoc (take at b₀ ++ xs) ys back)
          ∙ ap₂ (λ (x : List ℕ) (k : ℕ). x ++ drop k b₀) (append_assoc (take at b₀) xs ys) (let g : a + length ys ≡ at + length (xs ++ ys) = omega arith in g);
    }

-- ---- options whose value is cut or counted

-- an identifier's octets: as many as its length says, and no more than the array has
pub id_cut : (l : List ℕ) (len n : ℕ) → length l ≡ 32 → n ≡ min len 32 → n ≡ length (take len l)
id_cut l len n e p = p ∙ sym (length-take len l ∙ ap (min len) e)

pub id_fits : (l : List ℕ) (len n : ℕ) → n ≡ length (take len l) → n ≤ length l
id_fits l len n e = let h = length-take len l in omega arith

take_cut : (len : ℕ) (l : List ℕ) → take (length (take len l)) l ≡ take len l
take_cut zero l = refl
take_cut (suc len) [] = refl
take_cut (suc len) (x ∷ l) = ap {B = List ℕ} (λ (r : List ℕ). x ∷ r) (take_cut len l)

pub scopes_long : (l : List ScopeEntry) (n : ℕ) → length l ≡ 4 → n ≤ 4 → n ≤ length l
scopes_long l n e h = omega arith

pub id_put : (l : List ℕ) (len n : ℕ) {b₀ b₁ b₂ : List ℕ} {at a r : ℕ} → n ≡ length (take len l) → n ≤ 32 → at ≤ length b₀
    → Wrote b₀ at (octets16 3 ++ octets16 n) b₁ a → Wrote b₁ a (take n l) b₂ r → Put b₀ at (option 3 (take len l) ∷ []) b₂ r 36
id_put l len n e q h v w = option_put 3 n 36 (take len l) e (omega arith) h v (wrote_as (ap (λ (k : ℕ). take k l) e ∙ take_cut len l) w)

-- the ranges, counted first
pub ranges_put : (lowest set n : ℕ) {b₀ b₁ b₂ : List ℕ} {at a r : ℕ} → n ≡ length (fewest_ranges (offsets set)) → at ≤ length b₀
    → Wrote b₀ at (octets16 10 ++ octets16 (n * 6)) b₁ a → Wrote b₁ a (ranges_octets lowest (fewest_ranges (offsets set))) b₂ r → Put b₀ at (option 10 (ranges_octets lowest (fewest_ranges (offsets set))) ∷ []) b₂ r 388
ranges_put lowest set n e h v w =
    let l = ranges_length lowest (fewest_ranges (offsets set)) in
    let f = ranges_few set in
    option_put 10 (n * 6) 388 _ (omega arith) (omega arith) h v w

-- the scopes, and then the code, the length and the count before them
pub scopes_put : (f : ℕ → List Name) (l : List ScopeEntry) (count n m : ℕ) {b₀ b₁ b₂ b₃ : List ℕ} {at end a b : ℕ} → ((place : ℕ) → length (shown (f place)) ≤ 43) → length l ≡ 4 → n ≡ min count 4
    → at + 5 ≤ length b₀ → at ≤ length b₁ → Wrote b₀ (at + 5) (scopes_octets f 0 (take n l)) b₁ end → m ≡ end - (at + 4)
    → Wrote b₁ at (octets16 9 ++ octets16 m) b₂ a → Wrote b₂ a (n ∷ []) b₃ b → Put b₀ at (option 9 (length (take count l) ∷ scopes_octets f 0 (take count l)) ∷ []) b₃ end 217
scopes_put f l count n m {b₀ = b₀} {b₁ = b₁} {b₂ = b₂} {b₃ = b₃} {at = at} {end = end} {a = a} {b = b} short e q h g u em v w =
    let t : take n l ≡ take count l = ap (λ (k : ℕ). take k l) q ∙ cut_take 4 count l e in
    let c : length (take count l) ≡ n = ap length (sym t) ∙ length-take n l ∙ (let z : min n (length l) ≡ n = omega arith in z) in
    let body : List ℕ = scopes_octets f 0 (take n l) in
    let k = scopes_length f 0 (take n l) short in
    let few : length (take n l) ≤ 4 = (let z = ap length t in omega arith) in
    let x : Wrote b₁ at (octets16 9 ++ octets16 m ++ (n ∷ [])) b₃ b = wrote_joined g v w in
    let y : Wrote b₀ at ((octets16 9 ++ octets16 m ++ (n ∷ [])) ++ body) b₃ end = wrote_before (omega arith) h u (subst (λ (j : ℕ). Wrote b₁ at (octets16 9 ++ octets16 m ++ (n ∷ [])) b₃ j) (let j : b ≡ at + 5 = (let i = x.next in omega arith) in j) x) in
    let len : m ≡ length (n ∷ body) = (let i = u.next in omega arith) in
    let value : n ∷ body ≡ length (take count l) ∷ scopes_octets f 0 (take count l) = ap₂ {C = List ℕ} (λ (j : ℕ) (s : List ScopeEntry). j ∷ scopes_octets f 0 s) (sym c) t in
    record {
      wrote = wrote_as (ap (λ (j : ℕ). octets16 9 ++ octets16 j ++ (n ∷ body)) len ∙ one_option 9 (n ∷ body) ∙ ap (λ (s : List ℕ). options_octets (option 9 s ∷ [])) value) y;
      near = let i = u.next in omega arith;
    }

-- the scopes of a reply, with their names
pub names_length : (i : Info) (names : List ℕ) → length (scopes_octets (name_for i names) 0 (scope_entries_of i)) ≤ 53 * length (scope_entries_of i)
names_length i names = scopes_length (name_for i names) 0 (scope_entries_of i) (λ place. sent_most i.tenants names i.tenant place i.language)

-- its length fits two octets
pub list_fits : (f : ℕ → List Name) (l : List ScopeEntry) (n at : ℕ) {b₀ b₁ : List ℕ} {end : ℕ} → ((place : ℕ) → length (shown (f place)) ≤ 43) → n ≤ 4 → Wrote b₀ (at + 5) (scopes_octets f 0 (take n l)) b₁ end
    → (at + 4 ≤ end) × (end - (at + 4) < 65536)
list_fits f l n at short h u =
    let k = scopes_length f 0 (take n l) short in
    let e = length-take n l in
    let i = u.next in
    (omega arith, omega arith)

-- names that are good for the scopes' count are good for their own
pub sendable_good : (i : Info) (names : List ℕ) → Sendable i names → names_b (get_or names 0 0) i.tenants names ≡ true
sendable_good i names s = ap (λ (k : ℕ). names_b k i.tenants names) (good_opened i.count i.tenants names s.0).1 ∙ s.0

pub sendable_place : (i : Info) (names : List ℕ) (place : ℕ) → Sendable i names → place < i.count → place < get_or names 0 0
sendable_place i names place s h = let e = (good_opened i.count i.tenants names s.0).1 in omega arith

-- the entry, and then the name that was found
pub scope_put : (i : Info) (names : List ℕ) (place : ℕ) (e : ScopeEntry) {name : List ℕ} (n c : ℕ) {b₀ b₁ b₂ : List ℕ} {at a r : ℕ} → name ≡ shown (name_for i names place) → n ≡ length name → c ≡ min n 1
    → at ≤ length b₀ → Wrote b₀ at (entry_octets e c []) b₁ a → Wrote b₁ a (take n name) b₂ r → Wrote b₀ at (scope_octets e (name_for i names place)) b₂ r
scope_put i names place e {name} n c p l k h v w =
    let count : c ≡ length (name_for i names place) = k ∙ ap (λ (j : ℕ). min j 1) (l ∙ ap length p) ∙ sent_count i.tenants names i.tenant place i.language in
    wrote_as (ap₂ (λ (j : ℕ) (x : List ℕ). entry_octets e j x) count (take_all n name (omega arith) ∙ p)) (wrote_joined h v w)

pub name_short : (i : Info) (names : List ℕ) (place : ℕ) {name : List ℕ} → name ≡ shown (name_for i names place) → length name ≤ 43
name_short i names place p = let m = sent_most i.tenants names i.tenant place i.language in let e = ap length p in omega arith
