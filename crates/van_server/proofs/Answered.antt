-- Laws: what the functions on one record are proved by: a reply fits the room and the line, the line is the call's, how long a record is, and which of the three turns it has.
use Prim.Native.Nat.{ℕ, ◌+◌, ◌-◌, ◌*◌, ◌≤◌, ◌<◌}
use mathlib.Core.Path.{◌≡◌, refl, sym, ap, ap₂, ◌∙◌, subst}
use mathlib.Core.Bool.{Bool, true, false}
use mathlib.Core.List.{List, []}
use native.Mathlib.Omega.{arith}
use lib.Dec.{eqb, ltb}
use lib.ListN.{drop, length, take}
use lib.Seq.{take_at}
use borrow.Author.Tests.{eqb-false, eqb-true, eq-eqb, le-ltb, lt-ltb, ne_eqb}
use Rattle.lists.specs.laws.Pick.{pick_false, pick_lt, pick_not_lt, pick_true}
use Rattle.octets.specs.Octets.{Wrote, at16, at32, put}
use Rattle.message.specs.laws.Placed.{pick_cases}
use Rattle.reply.specs.Reply.{least_room}
use Rattle.state.specs.declared.Lease.{Lease}
use Rattle.state.specs.declared.Ledger.{Ledger}
use Rattle.server.specs.Serve.{Call}
use Rattle.record_call.specs.Call.{serve_lent}
use Rattle.owned.specs.declared.Owned.{Owned}
use Rattle.owned.specs.declared.OwnedCall.{OwnedCall}
use Rattle.owned.specs.Owned.{ServesOwned}
use Rattle.lent_guarantee.specs.Statement.{Lent, served}
use Rattle.lent_guarantee.proofs.Guaranteed.{call_lent}
use Rattle.replay_text.specs.Replay.{outcome_line, refused_line}
use Rattle.van_server.specs.declared.Turn.{Turn}
use Rattle.van_server.specs.Van.{Turns, VanTurn, call_in, call_to, goes, head_size, record_size, stops, turn_of, van_names}

-- no reply is longer than the least room (demand 1), and a discard has none
reply_fits : (l : Lent) (c : Call) → length (served l c).reply ≤ least_room
reply_fits l c = go (eqb (served l c).outcome 0) refl
  where
    go : (t : Bool) → eqb (served l c).outcome 0 ≡ t → length (served l c).reply ≤ least_room
    go true e = ((call_lent l c).reply (eqb-true _ _ e)).short
    go false e = subst (λ (x : List ℕ). length x ≤ least_room) (sym ((call_lent l c).silent (eqb-false _ _ e))) (omega arith)

module _ (g : Ledger) (ls : List Lease) (c : Call) {before after : List ℕ} {r : OwnedCall} (v : ServesOwned (serve_lent g ls van_names c) before after r) where
  told_fits : r.outcome.length ≤ least_room
  told_fits = let e = v.tells.size in let p = reply_fits (record { ledger = g; leases = ls; names = van_names }) c in omega arith

  told_reply : take r.outcome.length after ≡ (serve_lent g ls van_names c).reply
  told_reply = ap₂ take v.tells.size v.tells.buffer ∙ take_at (serve_lent g ls van_names c).reply (drop (length (serve_lent g ls van_names c).reply) before) _ refl

  told : {line line' : List ℕ} {n : ℕ} → Wrote line 0 (outcome_line r.outcome.outcome (take r.outcome.length after)) line' n
      → Turns (goes (serve_lent g ls van_names c)) line line' (record { go = true; length = n; owned = r.owned })
  told {line} {line'} {n} w = record {
    go = refl;
    line = subst (λ (xs : List ℕ). Wrote line 0 xs line' n) (ap₂ outcome_line v.tells.outcome told_reply) w;
    ledger = v.ledger;
    leases = v.leases;
  }

-- ---- a call as it is made: of a record of n octets the part after its head, and the numbers that were read
abbrev made : List ℕ → ℕ → ℕ → ℕ → ℕ → Call
made i n time client room = record { datagram = take (n - head_size) (drop head_size i); client = client; time = time; room = room }

call_is : (i : List ℕ) (n : ℕ) {time client room : ℕ} → time ≡ at32 i 0 → client ≡ at32 i 4 → room ≡ least_room
    → made i n time client room ≡ call_to n i
call_is i n p q e = λ j. made i n (p j) (q j) (e j)

module _ (g : Ledger) (ls : List Lease) (i : List ℕ) (n : ℕ) where
  -- what was told fits the room and the line
  pub fits_room : {time client m : ℕ} {before after : List ℕ} {r : OwnedCall} → time ≡ at32 i 0 → client ≡ at32 i 4
      → ServesOwned (serve_lent g ls van_names (made i n time client (length before))) before after r
      → least_room ≤ m → r.outcome.length ≤ m
  fits_room {time} {client} {before = before} p q v h = let e = told_fits g ls (made i n time client (length before)) v in omega arith

  pub fits_line : {time client m : ℕ} {before after : List ℕ} {r : OwnedCall} → time ≡ at32 i 0 → client ≡ at32 i 4
      → ServesOwned (serve_lent g ls van_names (made i n time client (length before))) before after r
      → 2 * least_room + 8 ≤ m → 2 * r.outcome.length + 8 ≤ m
  fits_line {time} {client} {before = before} p q v h = let e = told_fits g ls (made i n time client (length before)) v in omega arith

  -- and is the turn
  pub answers : {time client m : ℕ} {before after line line' : List ℕ} {r : OwnedCall} → time ≡ at32 i 0 → client ≡ at32 i 4 → length before ≡ least_room
      → ServesOwned (serve_lent g ls van_names (made i n time client (length before))) before after r
      → Wrote line 0 (outcome_line r.outcome.outcome (take r.outcome.length after)) line' m
      → Turns (goes (serve_lent g ls van_names (call_to n i))) line line' (record { go = true; length = m; owned = r.owned })
  answers {time} {client} {m = m} {before = before} {line = line} {line' = line'} {r = r} p q e v w =
      subst (λ (c : Call). Turns (goes (serve_lent g ls van_names c)) line line' (record { go = true; length = m; owned = r.owned })) (call_is i n p q e) (told g ls (made i n time client (length before)) v w)

-- ---- how long a record is
module _ (i : List ℕ) where
  pub size_cut : length i < head_size → head_size ≡ record_size i
  unfolding record_size
  size_cut h = pick_lt _ _ _ (length i) head_size h refl

  pub size_told : {n : ℕ} → head_size ≤ length i → n ≡ at16 i 8 → head_size + n ≡ record_size i
  unfolding record_size
  size_told h e = pick_not_lt _ _ _ (length i) head_size h (ap (λ (k : ℕ). head_size + k) e)

  -- a head at least
  pub some : head_size ≤ record_size i
  unfolding record_size
  some = pick_cases (λ (n : ℕ). head_size ≤ n) (ltb (length i) head_size) _ _ (λ _. omega arith) (λ _. omega arith)

  pub head_in : {n : ℕ} → n ≡ record_size i → head_size ≤ n
  head_in e = let h = some in omega arith

-- ---- which turn it is
-- nothing is written
nothing : (line : List ℕ) → Wrote line 0 [] line 0
unfolding put
nothing line = record { next = refl; buffer = refl }

module _ (g : Ledger) (ls : List Lease) (i : List ℕ) where
  pub is_end : length i ≡ 0 → stops [] g ls ≡ turn_of g ls i
  unfolding turn_of
  is_end e = pick_true _ _ _ _ (eq-eqb (length i) 0 e) refl

  is_cut : (length i ≡ 0 → ⊥) → length i < record_size i → stops (refused_line 24) g ls ≡ turn_of g ls i
  unfolding turn_of
  is_cut e h = pick_false _ _ _ _ (ne_eqb (length i) 0 e) (pick_true _ _ _ _ (lt-ltb (length i) (record_size i) h) refl)

  is_whole : (length i ≡ 0 → ⊥) → record_size i ≤ length i → goes (serve_lent g ls van_names (call_in i)) ≡ turn_of g ls i
  unfolding turn_of
  is_whole e h = pick_false _ _ _ _ (ne_eqb (length i) 0 e) (pick_false _ _ _ _ (le-ltb (length i) (record_size i) h) refl)

  pub turns_end : {line : List ℕ} {x : Owned} → length i ≡ 0 → x.ledger ≡ g → x.records.leases ≡ ls → Turns (turn_of g ls i) line line (record { go = false; length = 0; owned = x })
  turns_end {line} {x} e p q =
      subst (λ (t : VanTurn). Turns t line line (record { go = false; length = 0; owned = x })) (is_end e) (record { go = refl; line = nothing line; ledger = p; leases = q })

  pub turns_cut : {line line' : List ℕ} {x : Owned} {n m : ℕ} → (length i ≡ 0 → ⊥) → n ≡ record_size i → length i < n → Wrote line 0 (refused_line 24) line' m → x.ledger ≡ g → x.records.leases ≡ ls
      → Turns (turn_of g ls i) line line' (record { go = false; length = m; owned = x })
  turns_cut {line} {line'} {x} {m = m} ne e h w p q =
      subst (λ (t : VanTurn). Turns t line line' (record { go = false; length = m; owned = x })) (is_cut ne (subst (λ (k : ℕ). length i < k) e h))
      (record { go = refl; line = w; ledger = p; leases = q })

  pub turns_whole : {line line' : List ℕ} {r : Turn} {n : ℕ} → (length i ≡ 0 → ⊥) → n ≡ record_size i → n ≤ length i → Turns (goes (serve_lent g ls van_names (call_to n i))) line line' r
      → Turns (turn_of g ls i) line line' r
  turns_whole {line} {line'} {r} ne e h w =
      subst (λ (t : VanTurn). Turns t line line' r)
      (ap (λ (k : ℕ). goes (serve_lent g ls van_names (call_to k i))) e ∙ is_whole ne (subst (λ (k : ℕ). k ≤ length i) e h)) w
