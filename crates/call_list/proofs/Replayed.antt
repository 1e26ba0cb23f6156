-- Laws: what the loop over a list of calls is proved by: one record is answered and the rest goes on, and what the loop keeps.
use mathlib.Core.Path.{◌≡◌, refl, sym, ap, ◌∙◌}
use mathlib.Core.List.{List, [], ◌++◌, append_assoc, append-nil}
use Prim.Native.Nat.{ℕ, zero, suc, ◌+◌, ◌-◌, ◌≤◌, ◌<◌}
use native.Mathlib.Omega.{arith}
use native.Mathlib.Nat.{add_assoc, add-zero, zero-add}
use lib.Dec.{eqb}
use lib.ListN.{drop, length, length-append, length-drop, take, take-append-drop}
use lib.Seq.{drop_at, drop-drop, length-take-le, take_at}
use Rattle.lists.specs.Pick.{pick}
use Rattle.lists.specs.laws.Pick.{pick_eq, pick_not_eq}
use Rattle.octets.specs.Octets.{put}
use Rattle.state.specs.declared.Lease.{Lease}
use Rattle.state.specs.declared.Ledger.{Ledger}
use Rattle.record_call.specs.Call.{LentAnswer, serve_lent}
use Rattle.owned.specs.declared.Owned.{Owned}
use Rattle.owned.specs.declared.OwnedCall.{OwnedCall}
use Rattle.call_list.specs.CallList.{answer_room, answer_octets, call_in, answer_before, record_size, Worked, replayed, stop_in, stopped}
use Rattle.call_list.specs.Promises.{Answers, Replays}
use Rattle.call_list.proofs.Answered.{goes_on, put_inside}

module _ (names : List ℕ) where
  -- ---- a list of calls, record by record
  abbrev first_answer : Ledger → List Lease → List ℕ → LentAnswer
  first_answer g ls cs = serve_lent g ls names (call_in cs)

  -- the first record answered, with what the others give, or why it is not
  abbrev first : Ledger → List Lease → List ℕ → ℕ → Worked → Worked
  first g ls cs room r = pick (eqb (stop_in cs room) 0) (answer_before cs (first_answer g ls cs) r) (stopped (stop_in cs room) g ls)

  -- the others, at most k
  abbrev others : ℕ → Ledger → List Lease → List ℕ → ℕ → Worked
  others k g ls cs room =
      replayed k (first_answer g ls cs).ledger (first_answer g ls cs).leases names (drop (record_size cs) cs) (room - length (answer_octets (first_answer g ls cs)))

  none_left : (k : ℕ) (g : Ledger) (ls : List Lease) (cs : List ℕ) (room : ℕ) → length cs ≡ 0 → replayed k g ls names cs room ≡ stopped 0 g ls
  unfolding replayed
  none_left zero g ls cs room e = refl
  none_left (suc k) g ls cs room e = sym (pick_eq _ _ _ (length cs) 0 e refl)

  fewer : (k : ℕ) (cs : List ℕ) → length cs ≤ suc k → length (drop (record_size cs) cs) ≤ k
  fewer k cs h = let e = length-drop (record_size cs) cs in omega arith

  -- no list has more records than octets
  same_fuel : (k j : ℕ) (g : Ledger) (ls : List Lease) (cs : List ℕ) (room : ℕ) → length cs ≤ k → length cs ≤ j → replayed k g ls names cs room ≡ replayed j g ls names cs room
  unfolding replayed
  same_fuel zero j g ls cs room h i = sym (none_left j g ls cs room (omega arith))
  same_fuel (suc k) zero g ls cs room h i = none_left (suc k) g ls cs room (omega arith)
  same_fuel (suc k) (suc j) g ls cs room h i =
      ap (λ (r : Worked). pick (eqb (length cs) 0) (stopped 0 g ls) (first g ls cs room r))
      (same_fuel k j (first_answer g ls cs).ledger (first_answer g ls cs).leases (drop (record_size cs) cs) (room - length (answer_octets (first_answer g ls cs))) (fewer k cs h) (fewer j cs i))

  abbrev going : Ledger → List Lease → List ℕ → ℕ → Worked
  going g ls cs room = replayed (length cs) g ls names cs room

  module _ (g : Ledger) (ls : List Lease) (cs : List ℕ) (room : ℕ) (h : 0 < length cs) where
    one : going g ls cs room ≡ first g ls cs room (others (length (drop (record_size cs) cs)) g ls cs room)
    unfolding replayed
    one = go (length cs) refl
      where
        go : (n : ℕ) → length cs ≡ n → replayed n g ls names cs room ≡ first g ls cs room (others (length (drop (record_size cs) cs)) g ls cs room)
        go zero e = absurd (omega arith)
        go (suc n) e =
            sym (pick_not_eq _ _ _ (length cs) 0 (λ p. omega arith) refl)
            ∙ ap (first g ls cs room)
            (same_fuel n (length (drop (record_size cs) cs)) (first_answer g ls cs).ledger (first_answer g ls cs).leases (drop (record_size cs) cs) (room - length (answer_octets (first_answer g ls cs))) (fewer n cs (omega arith)) (omega arith))

    one_more : stop_in cs room ≡ 0 → going g ls cs room ≡ answer_before cs (first_answer g ls cs) (others (length (drop (record_size cs) cs)) g ls cs room)
    one_more e = one ∙ sym (pick_eq _ _ _ (stop_in cs room) 0 e refl)

    no_more : (stop_in cs room ≡ 0 → ⊥) → going g ls cs room ≡ stopped (stop_in cs room) g ls
    no_more e = one ∙ sym (pick_not_eq _ _ _ (stop_in cs room) 0 e refl)

  -- ---- what the loop keeps
  -- what is done, `at` octets of calls with the answers xs, before what the rest gives
  abbrev joined : ℕ → List ℕ → Worked → Worked
  joined at xs r = record { number = r.number; offset = r.offset; count = r.count; ledger = r.ledger; leases = r.leases; used = at + r.used; out = xs ++ r.out }

  -- With `at` octets of the calls cs done and `to` octets of answers in the buffer b, which was `before`: to go on from there gives w.
  pub record ReplayInv (cs before : List ℕ) (w : Worked) (g : Ledger) (ls : List Lease) (b : List ℕ) (at to : ℕ) : Type 0 where
    pub within : at ≤ length cs
    pub inside : to ≤ length before
    pub long : length b ≡ length before
    pub rest : drop to b ≡ drop to before
    pub whole : joined at (take to b) (going g ls (drop at cs) (length before - to)) ≡ w

  pub replay_start : (cs before : List ℕ) (g : Ledger) (ls : List Lease) → ReplayInv cs before (replayed (length cs) g ls names cs (length before)) g ls before 0 0
  replay_start cs before g ls = record {
    within = omega arith;
    inside = omega arith;
    long = refl;
    rest = refl;
    whole =
        ap (λ (k : ℕ). joined 0 [] (going g ls cs k)) (let q : length before - 0 ≡ length before = omega arith in q)
        ∙ ap {B = Worked} (λ (k : ℕ). record { number = r.number; offset = r.offset; count = r.count; ledger = r.ledger; leases = r.leases; used = k; out = r.out }) (zero-add r.used);
  }
    where
      r : Worked
      r = going g ls cs (length before)

  module _ {cs before : List ℕ} {w : Worked} {g : Ledger} {ls : List Lease} {b : List ℕ} {at to : ℕ} (v : ReplayInv cs before w g ls b at to) {k : ℕ} (e : k ≡ stop_in (drop at cs) (length b - to)) (z : k ≡ 0) where
    goes : stop_in (drop at cs) (length before - to) ≡ 0
    goes = ap (λ (n : ℕ). stop_in (drop at cs) (n - to)) (sym v.long) ∙ sym e ∙ z

    -- the next record is there whole, and there is room for its answer
    pub record_inside : at + record_size (drop at cs) ≤ length cs
    record_inside = let p = (goes_on (drop at cs) (length before - to) goes).0 in let q = length-drop at cs in let h = v.within in omega arith

    pub record_head : at + 12 ≤ length cs
    record_head = let i = record_inside in omega arith

    pub answer_room_law : to + answer_room ≤ length b
    answer_room_law = let p = (goes_on (drop at cs) (length before - to) goes).1 in let h = v.inside in let l = v.long in omega arith

    module _ {r : OwnedCall} {b' : List ℕ} (a : Answers (serve_lent g ls names (call_in (drop at cs))) b to b' r) (l : length b' ≡ length b) where
      octets : List ℕ
      octets = answer_octets (first_answer g ls (drop at cs))

      filled : to + 6 + r.outcome.length ≡ to + length octets
      unfolding octets
      filled = let q = a.size in omega arith

      pub answer_inside : to + 6 + r.outcome.length ≤ length b
      unfolding octets
      answer_inside =
          let p = put_inside b to octets (let i = v.inside in let g = v.long in omega arith) (sym (ap length a.buffer) ∙ l) in
          let f = filled in
          omega arith

      head_length : length (take to b ++ octets) ≡ to + length octets
      head_length = length-append (take to b) octets ∙ ap (λ (n : ℕ). n + length octets) (length-take-le to b (let i = v.inside in let g = v.long in omega arith))

      pub replay_next : {n : ℕ} → at < length cs → n ≡ record_size (drop at cs) → ReplayInv cs before w r.owned.ledger r.owned.records.leases b' (at + n) (to + 6 + r.outcome.length)
      unfolding octets put
      replay_next {n} h m = record {
        within = let i = record_inside in omega arith;
        inside = let i = answer_inside in let g = v.long in omega arith;
        long = l ∙ v.long;
        rest =
            ap (λ (j : ℕ). drop j b') filled ∙ ap (drop (to + length octets)) a.buffer
            ∙ drop_at (take to b ++ octets) (drop (to + length octets) b) (to + length octets) head_length
            ∙ sym (drop-drop (length octets) to b) ∙ ap (drop (length octets)) v.rest ∙ drop-drop (length octets) to before
            ∙ ap (λ (j : ℕ). drop j before) (sym filled);
        whole =
            ap (λ (y : List ℕ). joined (at + n) y (going r.owned.ledger r.owned.records.leases (drop (at + n) cs) (length before - (to + 6 + r.outcome.length)))) taken
            ∙ ap (joined (at + n) (take to b ++ octets)) same
            ∙ ap {B = Worked} (λ (j : ℕ). record { number = o.number; offset = o.offset; count = o.count; ledger = o.ledger; leases = o.leases; used = j; out = take to b ++ octets ++ o.out }) (
            add_assoc at n o.used ∙ ap (λ (j : ℕ). at + (j + o.used)) m
            )
            ∙ ap {B = Worked} (λ (y : List ℕ). record { number = o.number; offset = o.offset; count = o.count; ledger = o.ledger; leases = o.leases; used = at + (record_size c + o.used); out = y }) (append_assoc (take to b) octets o.out)
            ∙ ap (joined at (take to b)) (sym (one_more g ls c (length before - to) (let q = length-drop at cs in omega arith) goes)) ∙ v.whole;
      }
        where
          c : List ℕ
          c = drop at cs

          o : Worked
          o = others (length (drop (record_size c) c)) g ls c (length before - to)

          taken : take (to + 6 + r.outcome.length) b' ≡ take to b ++ octets
          taken = ap (λ (j : ℕ). take j b') filled ∙ ap (take (to + length octets)) a.buffer ∙ take_at (take to b ++ octets) (drop (to + length octets) b) (to + length octets) head_length

          same : going r.owned.ledger r.owned.records.leases (drop (at + n) cs) (length before - (to + 6 + r.outcome.length)) ≡ o
          same =
              ap (λ (x : Ledger). going x r.owned.records.leases (drop (at + n) cs) (length before - (to + 6 + r.outcome.length))) a.ledger
              ∙ ap (λ (x : List Lease). going (first_answer g ls c).ledger x (drop (at + n) cs) (length before - (to + 6 + r.outcome.length))) a.leases
              ∙ ap (λ (x : List ℕ). going (first_answer g ls c).ledger (first_answer g ls c).leases x (length before - (to + 6 + r.outcome.length)))
              (ap (λ (j : ℕ). drop (at + j) cs) m ∙ sym (drop-drop (record_size c) at cs))
              ∙ ap (going (first_answer g ls c).ledger (first_answer g ls c).leases (drop (record_size c) c))
              (let f = filled in let q : length before - (to + 6 + r.outcome.length) ≡ length before - to - length octets = omega arith in q)

  -- the loop ends with what is done
  module _ {cs before : List ℕ} {w : Worked} {o : Owned} {b : List ℕ} {at to : ℕ} (v : ReplayInv cs before w o.ledger o.records.leases b at to) where
    ends : {k : ℕ} → going o.ledger o.records.leases (drop at cs) (length before - to) ≡ stopped k o.ledger o.records.leases
        → Replays w before b (record { number = k; used = at; filled = to; owned = o })
    ends {k} e = record {
      number = ap (λ (x : Worked). x.number) is;
      used = sym (add-zero at) ∙ ap (λ (x : Worked). x.used) is;
      filled = sym full ∙ ap (λ (x : Worked). length x.out) is;
      ledger = ap (λ (x : Worked). x.ledger) is;
      leases = ap (λ (x : Worked). x.leases) is;
      buffer =
          sym (take-append-drop to b) ∙ ap (λ (y : List ℕ). take to b ++ y) v.rest
          ∙ ap (λ (j : ℕ). take to b ++ drop j before) (sym full)
          ∙ ap (λ (y : List ℕ). y ++ drop (length (take to b ++ [])) before) (sym (append-nil (take to b)))
          ∙ ap (λ (x : Worked). x.out ++ drop (length x.out) before) is;
    }
      where
        is : joined at (take to b) (stopped k o.ledger o.records.leases) ≡ w
        is = ap (joined at (take to b)) (sym e) ∙ v.whole

        full : length (take to b ++ []) ≡ to
        full = ap length (append-nil (take to b)) ∙ length-take-le to b (let i = v.inside in let g = v.long in omega arith)

    pub replay_stopped : {k : ℕ} → at < length cs → k ≡ stop_in (drop at cs) (length b - to) → (k ≡ 0 → ⊥) → Replays w before b (record { number = k; used = at; filled = to; owned = o })
    replay_stopped {k} h e z =
        ends (no_more o.ledger o.records.leases (drop at cs) (length before - to) (let q = length-drop at cs in omega arith) (λ p. z (is ∙ p))
        ∙ ap (λ (j : ℕ). stopped j o.ledger o.records.leases) (sym is))
      where
        is : k ≡ stop_in (drop at cs) (length before - to)
        is = e ∙ ap (λ (n : ℕ). stop_in (drop at cs) (n - to)) v.long

    pub replay_ended : length cs ≤ at → Replays w before b (record { number = 0; used = at; filled = to; owned = o })
    replay_ended h = ends (none_left (length (drop at cs)) o.ledger o.records.leases (drop at cs) (length before - to) (let q = length-drop at cs in omega arith))
