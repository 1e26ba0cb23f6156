-- Laws: what the functions on one record of a list of calls are proved by: the numbers in it, why it is not answered, and its answer in a buffer.
use mathlib.Core.Path.{◌≡◌, refl, sym, ap, ◌∙◌, subst}
use mathlib.Core.Bool.{Bool, true, false}
use mathlib.Core.List.{List, [], ◌∷◌, ◌++◌, append_assoc}
use Prim.Native.Nat.{ℕ, ◌+◌, ◌-◌, ◌%◌, ◌≤◌, ◌<◌, min}
use native.Mathlib.Omega.{arith}
use native.Mathlib.Nat.{add_assoc, add-zero}
use lib.Dec.{ltb}
use lib.ListN.{drop, length, length-append, length-drop, length-take, take, take-append-drop}
use lib.Seq.{drop-append-le, drop_at, drop-drop, get_or-drop, length-take-le, take-append-le, take-take}
use borrow.Author.Tests.{le-ltb, lt-ltb, ltb-false}
use Rattle.reply.specs.Reply.{least_room}
use Rattle.lists.specs.Pick.{pick}
use Rattle.lists.specs.laws.Pick.{pick_false, pick_lt, pick_not_lt, pick_true}
use Rattle.octets.specs.Octets.{at16, at32, octets16, put, Wrote}
use Rattle.octets.specs.laws.Octets.{put_put}
use Rattle.state.specs.declared.Lease.{Lease}
use Rattle.state.specs.declared.Ledger.{Ledger}
use Rattle.server.specs.declared.Outcome.{Outcome}
use Rattle.server.specs.Serve.{Call}
use Rattle.verdict_octets.specs.laws.Octets.{low16}
use Rattle.record_call.specs.Call.{LentAnswer, serve_lent}
use Rattle.owned.specs.declared.OwnedCall.{OwnedCall}
use Rattle.owned.specs.Owned.{ServesOwned}
use Rattle.call_list.specs.CallList.{answer_room, call_in, cut_off, record_size, stop_in}
use Rattle.call_list.specs.Promises.{Answers}

-- ---- numbers in what is left of a list
pub at16_in : (s : List ℕ) (at k : ℕ) → at16 s (at + k) ≡ at16 (drop at s) k
unfolding at16
at16_in s at k = simp (get_or-drop, add_assoc)

at32_in : (s : List ℕ) (at k : ℕ) → at32 s (at + k) ≡ at32 (drop at s) k
unfolding at32
at32_in s at k = simp (get_or-drop, add_assoc)

pub size_in : (s : List ℕ) (at : ℕ) {n : ℕ} → n ≡ at16 s (at + 10) → 12 + n ≡ record_size (drop at s)
size_in s at e = ap (λ (k : ℕ). 12 + k) (e ∙ at16_in s at 10)

-- the datagram of a record that is there whole lies in the list
pub datagram_in : (s : List ℕ) (at : ℕ) {n : ℕ} → n ≡ at16 s (at + 10) → at + record_size (drop at s) ≤ length s → at + 12 + n ≤ length s
datagram_in s at e h = let p = size_in s at e in omega arith

-- ---- why a record is not answered
module _ (s : List ℕ) (at room : ℕ) where
  -- twelve octets are there
  cut_by : 12 ≤ length s - at → ltb (length (drop at s)) (record_size (drop at s)) ≡ cut_off (drop at s)
  unfolding cut_off
  cut_by h = let e = length-drop at s in pick_not_lt _ _ _ (length (drop at s)) 12 (omega arith) refl

  pub stop_short : length s - at < 12 → 24 ≡ stop_in (drop at s) room
  unfolding stop_in cut_off
  stop_short h = let e = length-drop at s in pick_true _ _ _ _ (sym (pick_lt _ _ _ (length (drop at s)) 12 (omega arith) refl)) refl

  module _ {n : ℕ} (e : n ≡ at16 s (at + 10)) (h : 12 ≤ length s - at) where
    pub stop_cut : length s - at < 12 + n → 24 ≡ stop_in (drop at s) room
    unfolding stop_in
    stop_cut k =
        let p = length-drop at s in
        let q = size_in s at e in
        pick_true _ _ _ _ (sym (cut_by h) ∙ lt-ltb (length (drop at s)) (record_size (drop at s)) (omega arith)) refl

    -- the record is there whole
    cut_not : 12 + n ≤ length s - at → cut_off (drop at s) ≡ false
    cut_not k = let p = length-drop at s in let q = size_in s at e in sym (cut_by h) ∙ le-ltb (length (drop at s)) (record_size (drop at s)) (omega arith)

    pub stop_room : 12 + n ≤ length s - at → room < answer_room → 27 ≡ stop_in (drop at s) room
    unfolding stop_in
    stop_room k r = pick_false _ _ _ _ (cut_not k) (pick_lt _ _ _ room answer_room r refl)

    pub stop_none : 12 + n ≤ length s - at → answer_room ≤ room → 0 ≡ stop_in (drop at s) room
    unfolding stop_in
    stop_none k r = pick_false _ _ _ _ (cut_not k) (pick_not_lt _ _ _ room answer_room r refl)

-- where it is answered, it is there whole, and there is room
pub goes_on : (cs : List ℕ) (room : ℕ) → stop_in cs room ≡ 0 → (record_size cs ≤ length cs) × (answer_room ≤ room)
unfolding stop_in cut_off pick
goes_on cs room e = go (ltb (length cs) 12) (ltb (length cs) (record_size cs)) (ltb room answer_room) refl refl e
  where
    go : (t u v : Bool) → ltb (length cs) (record_size cs) ≡ u → ltb room answer_room ≡ v → ◌≡◌ {A = ℕ} (pick (pick t true u) 24 (pick v 27 0)) 0 → (record_size cs ≤ length cs) × (answer_room ≤ room)
    go true u v p q e = absurd (omega arith)
    go false true v p q e = absurd (omega arith)
    go false false true p q e = absurd (omega arith)
    go false false false p q e = (ltb-false (length cs) (record_size cs) p, ltb-false room answer_room q)

-- ---- octets put into a buffer
pub put_length : (b : List ℕ) (at : ℕ) (xs : List ℕ) → length (put b at xs) ≡ min at (length b) + length xs + (length b - (at + length xs))
unfolding put
put_length b at xs = simp (length-append, length-take, length-drop)

-- what was put stands in the buffer, where that kept its length
pub put_inside : (b : List ℕ) (at : ℕ) (xs : List ℕ) → at ≤ length b → length (put b at xs) ≡ length b → at + length xs ≤ length b
put_inside b at xs h e = let p = put_length b at xs in omega arith

-- octets put in front of others
put_under : (b : List ℕ) (at : ℕ) (xs ys : List ℕ) → at + length xs ≤ length b → put (put b (at + length xs) ys) at xs ≡ put b at (xs ++ ys)
unfolding put
put_under b at xs ys h =
    ap (λ (l : List ℕ). l ++ xs ++ drop n (take n b ++ ys ++ q)) (
    ap (take at) (append_assoc (take n b) ys q) ∙ take-append-le at (take n b) (ys ++ q) (rw (length-take-le n b h) (omega arith)) ∙ take-take at n b (omega arith)
    )
    ∙ ap (λ (l : List ℕ). take at b ++ xs ++ l) (ap (drop n) (append_assoc (take n b) ys q) ∙ drop_at (take n b) (ys ++ q) n (length-take-le n b h))
    ∙ sym (append_assoc (take at b ++ xs) ys q)
    ∙ ap (λ (l : List ℕ). l ++ q) (append_assoc (take at b) xs ys)
    ∙ ap (λ (k : ℕ). take at b ++ (xs ++ ys) ++ drop k b) (add_assoc at (length xs) (length ys) ∙ ap (λ (k : ℕ). at + k) (sym (length-append xs ys)))
  where
    n : ℕ
    n = at + length xs

    q : List ℕ
    q = drop (n + length ys) b

-- ---- a part of a buffer that was lent for a reply
-- the k octets of b from n on, and b with ys in their place
abbrev part_of : List ℕ → ℕ → ℕ → List ℕ
part_of b n k = take k (drop n b)

abbrev with_part : List ℕ → ℕ → ℕ → List ℕ → List ℕ
with_part b n k ys = take n b ++ (ys ++ drop k (drop n b))

module _ (b : List ℕ) (n k : ℕ) (x : List ℕ) {ys : List ℕ} (e : ys ≡ x ++ drop (length x) (part_of b n k)) (l : length ys ≡ length (part_of b n k)) where
  reply_inside : length x ≤ length (part_of b n k)
  reply_inside =
      let p : length ys ≡ length x + (length (part_of b n k) - length x) = ap length e ∙ length-append x _ ∙ ap (λ (j : ℕ). length x + j) (length-drop (length x) (part_of b n k)) in
      omega arith

  part_put : with_part b n k ys ≡ put b n x
  unfolding put
  part_put =
      ap (λ (y : List ℕ). take n b ++ (y ++ drop k d)) e
      ∙ ap (λ (y : List ℕ). take n b ++ y) (
      append_assoc x (drop (length x) (take k d)) (drop k d)
      ∙ ap (λ (y : List ℕ). x ++ y) (sym (drop-append-le (length x) (take k d) (drop k d) reply_inside) ∙ ap (drop (length x)) (take-append-drop k d) ∙ drop-drop (length x) n b)
      )
      ∙ sym (append_assoc (take n b) x (drop (n + length x) b))
    where
      d : List ℕ
      d = drop n b

-- the answer: the reply, then its outcome, its offset, its count and its length before it
module _ (g : Ledger) (ls : List Lease) (names d : List ℕ) (client time room : ℕ) (b : List ℕ) (to : ℕ) where
  abbrev width : ℕ
  width = to + 6 + room - (to + 6)

  abbrev lent : List ℕ
  lent = part_of b (to + 6) width

  abbrev call_with : ℕ → Call
  call_with k = record { datagram = d; client = client; time = time; room = k }

  pub answered : {ys x y z u : List ℕ} {k m n j : ℕ} {r : OwnedCall} → (to + answer_room ≤ length b) × (room ≤ least_room) → ServesOwned (serve_lent g ls names (call_with (length lent))) lent ys r → length ys ≡ length lent
      → Wrote (with_part b (to + 6) width ys) to (r.outcome.outcome ∷ []) x k → Wrote x (to + 1) (octets16 (r.outcome.offset % 65536)) y m → Wrote y (to + 3) (r.outcome.count % 256 ∷ []) z n
      → Wrote z (to + 4) (octets16 (r.outcome.length % 65536)) u j → Answers (serve_lent g ls names (call_with room)) b to u r
  answered {ys} {x} {y} {z} {u} {r = r} h v l p q t s = subst (λ (k : ℕ). Answers (serve_lent g ls names (call_with k)) b to u r) full (record {
    size = v.tells.size;
    ledger = v.ledger;
    leases = v.leases;
    buffer =
        s.buffer ∙ ap (λ (w : List ℕ). put w (to + 4) size) t.buffer
        ∙ ap (λ (w : List ℕ). put (put w (to + 3) read) (to + 4) size) q.buffer
        ∙ ap (λ (w : List ℕ). put (put (put w (to + 1) place) (to + 3) read) (to + 4) size) p.buffer
        ∙ ap (λ (w : List ℕ). put (put (put (put w to (o.outcome ∷ [])) (to + 1) place) (to + 3) read) (to + 4) size) (part_put b (to + 6) width a.reply v.tells.buffer l)
        ∙ ap (λ (w : List ℕ). put (put w (to + 3) read) (to + 4) size) (put_put with_reply to (o.outcome ∷ []) place reaches)
        ∙ ap (λ (w : List ℕ). put w (to + 4) size) (put_put with_reply to (o.outcome ∷ place) read reaches)
        ∙ put_put with_reply to (o.outcome ∷ place ++ read) size reaches
        ∙ put_under b to (o.outcome ∷ place ++ read ++ size) a.reply (omega arith)
        ∙ ap (λ (j : ℕ). put b to (j ∷ place ++ read ++ size ++ a.reply)) v.tells.outcome
        ∙ ap (λ (w : List ℕ). put b to (a.outcome ∷ w ++ read ++ size ++ a.reply)) (low16 o.offset ∙ ap octets16 v.tells.offset)
        ∙ ap (λ (j : ℕ). put b to (a.outcome ∷ octets16 a.offset ++ (j % 256) ∷ size ++ a.reply)) v.tells.count
        ∙ ap (λ (w : List ℕ). put b to (a.outcome ∷ octets16 a.offset ++ (a.count % 256) ∷ w ++ a.reply)) (low16 o.length ∙ ap octets16 v.tells.size);
  })
    where
      o : Outcome
      o = r.outcome

      a : LentAnswer
      a = serve_lent g ls names (call_with (length lent))

      place : List ℕ
      place = octets16 (o.offset % 65536)

      read : List ℕ
      read = o.count % 256 ∷ []

      size : List ℕ
      size = octets16 (o.length % 65536)

      with_reply : List ℕ
      with_reply = put b (to + 6) a.reply

      reaches : to ≤ length with_reply
      reaches = let e = put_length b (to + 6) a.reply in omega arith

      full : length lent ≡ room
      full = let e = length-drop (to + 6) b in length-take-le width (drop (to + 6) b) (omega arith) ∙ (let q : to + 6 + room - (to + 6) ≡ room = omega arith in q)

-- ---- the call of a record
module _ (cs : List ℕ) (at : ℕ) where
  call_is : {time client size n room : ℕ} → time ≡ at32 cs at → client ≡ at32 cs (at + 4) → size ≡ at16 cs (at + 8) → n ≡ at16 cs (at + 10) → room ≡ min size least_room
      → record { datagram = take (at + 12 + n - (at + 12)) (drop (at + 12) cs); client = client; time = time; room = room } ≡ call_in (drop at cs)
  call_is {time} {client} {size} {n} {room} t c z e r =
      ap (λ (k : ℕ). call (take k (drop (at + 12) cs)) client time room) (let q : at + 12 + n - (at + 12) ≡ n = omega arith in q ∙ e ∙ at16_in cs at 10)
      ∙ ap (λ (l : List ℕ). call (take (at16 (drop at cs) 10) l) client time room) (sym (drop-drop 12 at cs))
      ∙ ap (λ (k : ℕ). call datagram k time room) (c ∙ at32_in cs at 4)
      ∙ ap (λ (k : ℕ). call datagram (at32 (drop at cs) 4) k room) (t ∙ ap (at32 cs) (sym (add-zero at)) ∙ at32_in cs at 0)
      ∙ ap (λ (k : ℕ). call datagram (at32 (drop at cs) 4) (at32 (drop at cs) 0) k) (r ∙ ap (λ (k : ℕ). min k least_room) (z ∙ at16_in cs at 8))
    where
      datagram : List ℕ
      datagram = take (at16 (drop at cs) 10) (drop 12 (drop at cs))

      call : List ℕ → ℕ → ℕ → ℕ → Call
      call d c t r = record { datagram = d; client = c; time = t; room = r }

  pub answered_record : (g : Ledger) (ls : List Lease) (names : List ℕ) {b after : List ℕ} {to : ℕ} {r : OwnedCall} {time client size n room : ℕ}
      → time ≡ at32 cs at → client ≡ at32 cs (at + 4) → size ≡ at16 cs (at + 8) → n ≡ at16 cs (at + 10) → room ≡ min size least_room
      → Answers (serve_lent g ls names (record { datagram = take (at + 12 + n - (at + 12)) (drop (at + 12) cs); client = client; time = time; room = room })) b to after r
      → Answers (serve_lent g ls names (call_in (drop at cs))) b to after r
  answered_record g ls names {b} {after} {to} {r} t c z e k v = subst (λ (x : Call). Answers (serve_lent g ls names x) b to after r) (call_is t c z e k) v
