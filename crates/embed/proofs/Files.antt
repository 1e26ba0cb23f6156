-- Laws: what the functions on a file in a buffer are proved by: the book of its first n octets and its names, and the answer and the buffer after a call or a list
-- of calls, from what the calls below gave.
use mathlib.Core.Path.{◌≡◌, refl, sym, ap, ◌∙◌, subst}
use mathlib.Core.Bool.{Bool, true, false}
use mathlib.Core.List.{List, [], ◌∷◌, ◌++◌}
use Prim.Native.Nat.{ℕ, zero, suc, ◌+◌, ◌-◌, ◌≤◌, ◌<◌, min}
use native.Mathlib.Nat.{zero-add}
use native.Mathlib.Omega.{arith}
use lib.Dec.{ltb}
use lib.ListN.{drop, length, take}
use lib.Seq.{length-take-le, take_all, take_at, take-take}
use borrow.Author.Tests.{ltb-false, ltb-true}
use Rattle.lists.specs.Pick.{pick}
use Rattle.lists.specs.laws.Pick.{pick_eq, pick_lt, pick_not_eq, pick_not_lt}
use Rattle.octets.specs.Octets.{put, Wrote}
use Rattle.state.specs.declared.Lease.{Lease}
use Rattle.state.specs.declared.Ledger.{Ledger}
use Rattle.server.specs.declared.Ruling.{Ruling}
use Rattle.server.specs.Serve.{Call}
use Rattle.verdict_octets.specs.Octets.{outcome_octets, verdict_octets}
use Rattle.std.specs.Prelude.{Option, Some, None, Result, Ok, Err}
use Rattle.state_file.specs.declared.Refusal.{Refusal}
use Rattle.state_file.specs.declared.Refusal.TheVariants.{WrongForm}
use Rattle.state_file.specs.declared.Loaded.{Loaded}
use Rattle.state_file.specs.declared.Places.{Places}
use Rattle.state_file.specs.Place.{file_at, FormedBy}
use Rattle.state_file.specs.StateFile.{book_in, code_of, loaded, read_file, refusal_number}
use Rattle.state_file.proofs.Loads.{check_not, names_from, names_within, names_yes, read_yes}
use Rattle.state_file.proofs.RoundTrip.{names_short}
use Rattle.records.specs.Records.{records_of}
use Rattle.records.specs.Lent.{ledger_from, room_lent, written_lent}
use Rattle.records.specs.laws.Files.{refused_not_0}
use Rattle.record_verdict.specs.Verdict.{judge_lent}
use Rattle.record_call.specs.Call.{serve_lent}
use Rattle.owned.specs.declared.Owned.{Owned}
use Rattle.owned.specs.declared.OwnedCall.{OwnedCall}
use Rattle.owned.specs.declared.OwnedJudged.{OwnedJudged}
use Rattle.owned.specs.Owned.{JudgesOwned, ServesOwned}
use Rattle.call_list.specs.declared.Progress.{Progress}
use Rattle.call_list.proofs.Answered.{put_length}
use Rattle.embed.specs.declared.Opening.{Opening}
use Rattle.embed.specs.Embed.{called, filed, Filed, kept as unchanged, largest_file, largest_names, ledger_in, length_after, names_in, number_after, on_file, refusal_in, replay_file, serve_file}
use Rattle.call_list.specs.CallList.{replayed, Worked}
use Rattle.embed.specs.Halves.{judged, judge_file}
use Rattle.embed.specs.Promises.{Files, handed_out, JudgesFile, Keeps, Opened, OpenedFile, ReplaysFile, ServesFile}
use Rattle.call_list.specs.Promises.{Replays}

-- ---- a file that is opened
none_read : (s : List ℕ) {k : ℕ} {r : Opening} → k ≡ refusal_number (read_file s) → (k ≡ 0 → ⊥) → (r.refusal ≡ k) × (r.from ≡ 0) × (r.end ≡ 0) → OpenedFile s r
none_read s p z a =
    let q = a.1 in
    let w = a.2 in
    record { refusal = a.0 ∙ p; ledger = λ i. absurd (z (p ∙ i)); leases = λ i. absurd (z (p ∙ i)); order = omega arith; within = omega arith; names = λ i. absurd (z (p ∙ i)) }

module _ (s : List ℕ) {l : Option Places} (v : FormedBy s l) where
  pub open_not : {r : Opening} → l ≡ None → (r.refusal ≡ 20) × (r.from ≡ 0) × (r.end ≡ 0) → OpenedFile s r
  unfolding code_of
  open_not e a = none_read s (check_not s v WrongForm e refl) (λ i. absurd (omega arith)) a

  pub open_unsound : {p : Places} {e : Refusal} {k : ℕ} {r : Opening} → l ≡ Some p → Err e ≡ loaded (file_at s p) → k ≡ code_of e → (r.refusal ≡ k) × (r.from ≡ 0) × (r.end ≡ 0) → OpenedFile s r
  unfolding refusal_number
  open_unsound {e = e} i q g a = none_read s (g ∙ ap refusal_number (read_yes s v (Err e) i q)) (λ z. refused_not_0 e (sym g ∙ z)) a

  pub open_yes : {p : Places} {f : Loaded} {o : Owned} → l ≡ Some p → Ok f ≡ loaded (file_at s p) → (o.ledger ≡ ledger_from f) × (o.records.leases ≡ records_of f.table)
      → OpenedFile s (record { refusal = 0; owned = o; from = p.names; end = p.releases })
  unfolding refusal_number book_in
  open_yes {f = f} e q a =
      let w : Ok f ≡ read_file s = read_yes s v (Ok f) e q in
      record {
        refusal = ap refusal_number w;
        ledger = λ _. a.0 ∙ ap (λ (y : Result Loaded Refusal). ledger_from (book_in y)) w;
        leases = λ _. a.1 ∙ ap (λ (y : Result Loaded Refusal). records_of (book_in y).table) w;
        order = names_from s v e;
        within = names_within s v e;
        names = λ _. names_yes s v _ e refl;
      }

-- ---- the first n octets of a buffer
pub first_length : (b : List ℕ) (n : ℕ) → n ≤ length b → n ≡ length (take n b)
first_length b n h = sym (length-take-le n b h)

-- a part of them is that part of the buffer
part_first : (i k n : ℕ) (b : List ℕ) → i + k ≤ n → take k (drop i b) ≡ take k (drop i (take n b))
part_first zero k n b h = sym (take-take k n b (omega arith))
part_first (suc i) k zero b h = absurd (omega arith)
part_first (suc i) k (suc n) [] h = refl
part_first (suc i) k (suc n) (x ∷ b) h = part_first i k n b (omega arith)

module _ (b : List ℕ) (n : ℕ) where
  refusal_short : length b < largest_file → 23 ≡ refusal_in b n
  unfolding refusal_in
  refusal_short h = pick_lt _ _ _ (length b) largest_file h refl

  refusal_past : largest_file ≤ length b → length b < n → 28 ≡ refusal_in b n
  unfolding refusal_in
  refusal_past h k = pick_not_lt _ _ _ (length b) largest_file h (pick_lt _ _ _ (length b) n k refl)

  refusal_within : largest_file ≤ length b → n ≤ length b → refusal_number (read_file (take n b)) ≡ refusal_in b n
  unfolding refusal_in
  refusal_within h k = pick_not_lt _ _ _ (length b) largest_file h (pick_not_lt _ _ _ (length b) n k refl)

  -- where none is drawn
  pub accepted_parts : refusal_in b n ≡ 0 → (largest_file ≤ length b) × (n ≤ length b) × (refusal_number (read_file (take n b)) ≡ 0)
  unfolding refusal_in pick
  accepted_parts e = go (ltb (length b) largest_file) refl (ltb (length b) n) refl e
    where
      go : (p : Bool) → ltb (length b) largest_file ≡ p → (q : Bool) → ltb (length b) n ≡ q → pick p 23 (pick q 28 (refusal_number (read_file (take n b)))) ≡ 0
          → (largest_file ≤ length b) × (n ≤ length b) × (refusal_number (read_file (take n b)) ≡ 0)
      go true p q t e = absurd (omega arith)
      go false p true t e = absurd (omega arith)
      go false p false t e = (ltb-false (length b) largest_file p, ltb-false (length b) n t, e)

  -- a refusal says nothing of the book
  nothing : {r : Opening} {k : ℕ} → (r.refusal ≡ k) × (r.from ≡ 0) × (r.end ≡ 0) → k ≡ refusal_in b n → (k ≡ 0 → ⊥) → Opened b n r
  nothing a e z =
      let q = a.1 in
      let w = a.2 in
      record { refusal = a.0 ∙ e; ledger = λ p. absurd (z (e ∙ p)); leases = λ p. absurd (z (e ∙ p)); order = omega arith; within = omega arith; names = λ p. absurd (z (e ∙ p)) }

  pub opened_short : {r : Opening} → length b < largest_file → (r.refusal ≡ 23) × (r.from ≡ 0) × (r.end ≡ 0) → Opened b n r
  opened_short h a = nothing a (refusal_short h) (λ p. omega arith)

  pub opened_past : {r : Opening} → largest_file ≤ length b → length b < n → (r.refusal ≡ 28) × (r.from ≡ 0) × (r.end ≡ 0) → Opened b n r
  opened_past h k a = nothing a (refusal_past h k) (λ p. omega arith)

  pub opened_book : {r : Opening} → largest_file ≤ length b → n ≤ length b → OpenedFile (take n b) r → Opened b n r
  opened_book {r} h k v = record {
    refusal = v.refusal ∙ at;
    ledger = λ p. v.ledger (at ∙ p);
    leases = λ p. v.leases (at ∙ p);
    order = v.order;
    within = inside.1;
    names = λ p. part_first r.from (r.end - r.from) n b inside.0 ∙ v.names (at ∙ p);
  }
    where
      at : refusal_number (read_file (take n b)) ≡ refusal_in b n
      at = refusal_within h k

      inside : (r.from + (r.end - r.from) ≤ n) × (r.end ≤ length b)
      inside = let i = v.order in let j = v.within in let l = length-take-le n b k in (omega arith, omega arith)

-- ---- the names, copied
take_min : (l : List ℕ) (n : ℕ) → take (min (length l) n) l ≡ take n l
take_min l n = go (ltb (length l) n) refl
  where
    go : (t : Bool) → ltb (length l) n ≡ t → take (min (length l) n) l ≡ take n l
    go true p = let h = ltb-true (length l) n p in ap (λ (j : ℕ). take j l) (let e : min (length l) n ≡ length l = omega arith in e) ∙ take_all (length l) l (omega arith) ∙ sym (take_all n l (omega arith))
    go false p = let h = ltb-false (length l) n p in ap (λ (j : ℕ). take j l) (let e : min (length l) n ≡ n = omega arith in e)

pub keeps_front : {kept before names : List ℕ} {k m : ℕ} → k ≡ min (length names) largest_names → Wrote before 0 (take k names) kept m → Keeps names kept m
unfolding put
keeps_front {kept} {before} {names} {k} e w = record {
  within = let p = w.next in let q = ap length w.buffer ∙ put_length before 0 x in omega arith;
  front =
      ap (λ (j : ℕ). take j kept) (w.next ∙ zero-add (length x)) ∙ ap (take (length x)) w.buffer ∙ take_at x (drop (0 + length x) before) (length x) refl
      ∙ ap (λ (j : ℕ). take j names) e ∙ take_min names largest_names;
}
  where
    x : List ℕ
    x = take k names

pub kept_within : {names kept : List ℕ} {k : ℕ} → Keeps names kept k → k ≤ length kept
kept_within g = g.within

pub kept_length : {names kept : List ℕ} {k : ℕ} → Keeps names kept k → k ≡ length (take k kept)
kept_length {kept = kept} {k} g = first_length kept k g.within

-- ---- a verdict's octets, of which there is always one
verdict_out : (r : Ruling) (before : List ℕ) → handed_out (verdict_octets r) before ≡ verdict_octets r
unfolding handed_out verdict_octets outcome_octets
verdict_out r before = refl

-- ---- the call and the list of calls
-- the names of a file in a buffer, by where they stand
abbrev pub names_at : List ℕ → Opening → List ℕ
names_at b f = take (f.end - f.from) (drop f.from b)

module _ (b : List ℕ) (n : ℕ) {f : Opening} (o : Opened b n f) where
  pub names_inside : (f.from ≤ f.end) × (f.end ≤ length b)
  names_inside = (o.order, o.within)

  pub zero_in : f.refusal ≡ 0 → refusal_in b n ≡ 0
  zero_in z = sym o.refusal ∙ z

  -- what was copied of the names of an accepted file is all of them
  pub names_are : {kept : List ℕ} {k : ℕ} → Keeps (names_at b f) kept k → f.refusal ≡ 0 → take k kept ≡ names_in b n
  names_are g z = g.front ∙ ap (take largest_names) (o.names (zero_in z)) ∙ take_all largest_names (names_in b n) (names_short (take n b) (accepted_parts b n (zero_in z)).2)

  -- some work on the book that was read is that on the file's
  module _ (work : Ledger → List Lease → Worked) where
    abbrev done : Worked
    done = work f.owned.ledger f.owned.records.leases

    yes : f.refusal ≡ 0 → filed b n done ≡ on_file b n work
    unfolding on_file
    yes z =
        pick_eq _ _ _ (refusal_in b n) 0 (zero_in z) (ap (λ (g : Ledger). filed b n (work g f.owned.records.leases)) (o.ledger (zero_in z))
        ∙ ap (λ (ls : List Lease). filed b n (work (ledger_in b n) ls)) (o.leases (zero_in z)))

    no : (f.refusal ≡ 0 → ⊥) → unchanged b n ≡ on_file b n work
    unfolding on_file
    no z = pick_not_eq _ _ _ (refusal_in b n) 0 (λ p. z (o.refusal ∙ p)) refl

    told_no : (f.refusal ≡ 0 → ⊥) → f.refusal ≡ (on_file b n work).number
    told_no z = o.refusal ∙ ap (λ (x : Filed). x.number) (no z)

    files_no : (f.refusal ≡ 0 → ⊥) → Files (on_file b n work) b n
    files_no z = record { file = ap (λ (x : Filed). x.buffer) (no z); long = ap (λ (x : Filed). x.length) (no z) }

    -- the book afterwards, written
    module _ (z : f.refusal ≡ 0) {g : Ledger} {ls : List Lease} (p : g ≡ done.ledger) (q : ls ≡ done.leases) {w : Result ℕ Refusal} (e : w ≡ written_lent g ls (names_in b n) (length b)) where
      w_is : w ≡ written_lent done.ledger done.leases (names_in b n) (length b)
      w_is = e ∙ ap (λ (x : Ledger). written_lent x ls (names_in b n) (length b)) p ∙ ap (λ (x : List Lease). written_lent done.ledger x (names_in b n) (length b)) q

      told_yes : {j k : ℕ} → k ≡ number_after w j → j ≡ done.number → k ≡ (on_file b n work).number
      told_yes {j} i h = i ∙ ap (λ (x : Result ℕ Refusal). number_after x j) w_is ∙ ap (number_after (written_lent done.ledger done.leases (names_in b n) (length b))) h ∙ ap (λ (x : Filed). x.number) (yes z)

      files_yes : {b' : List ℕ} {m : ℕ} → b' ≡ room_lent g ls (names_in b n) b → m ≡ length_after w n → Files (on_file b n work) b' m
      files_yes i h = record {
        file = i ∙ ap (λ (x : Ledger). room_lent x ls (names_in b n) b) p ∙ ap (λ (x : List Lease). room_lent done.ledger x (names_in b n) b) q ∙ ap (λ (x : Filed). x.buffer) (yes z);
        long = h ∙ ap (λ (x : Result ℕ Refusal). length_after x n) w_is ∙ ap (λ (x : Filed). x.length) (yes z);
      }

  module _ (c : Call) where
    abbrev one : Ledger → List Lease → Worked
    one g ls = called (serve_lent g ls (names_in b n) c)

    pub file_served : {kept : List ℕ} {i : ℕ} {before after b' : List ℕ} {m k : ℕ} {r : OwnedCall} {w : Result ℕ Refusal} → f.refusal ≡ 0 → Keeps (names_at b f) kept i
        → ServesOwned (serve_lent f.owned.ledger f.owned.records.leases (take i kept) c) before after r
        → w ≡ written_lent r.owned.ledger r.owned.records.leases (take i kept) (length b) → b' ≡ room_lent r.owned.ledger r.owned.records.leases (take i kept) b
        → m ≡ length_after w n → k ≡ number_after w r.outcome.outcome → ServesFile (serve_file b n c) b' m before after (record { outcome = k; length = r.outcome.length; offset = r.outcome.offset; count = r.outcome.count })
    unfolding serve_file
    file_served {before = before} {after} {r = r} z g v' p q i j =
        let e = names_are g z in
        let v : ServesOwned (serve_lent f.owned.ledger f.owned.records.leases (names_in b n) c) before after r =
        subst (λ (x : List ℕ). ServesOwned (serve_lent f.owned.ledger f.owned.records.leases x c) before after r) e v' in
        let u = p ∙ ap (λ (x : List ℕ). written_lent r.owned.ledger r.owned.records.leases x (length b)) e in
        record {
          tells = record {
            outcome = told_yes one z v.ledger v.leases u j v.tells.outcome;
            offset = v.tells.offset ∙ ap (λ (x : Filed). x.offset) (yes one z);
            count = v.tells.count ∙ ap (λ (x : Filed). x.count) (yes one z);
            size = v.tells.size ∙ ap (λ (x : Filed). length x.out) (yes one z);
            buffer = v.tells.buffer ∙ ap (λ (x : Filed). x.out ++ drop (length x.out) before) (yes one z);
          };
          files = files_yes one z v.ledger v.leases u (q ∙ ap (λ (x : List ℕ). room_lent r.owned.ledger r.owned.records.leases x b) e) i;
        }

    pub file_kept : {before : List ℕ} → (f.refusal ≡ 0 → ⊥) → ServesFile (serve_file b n c) b n before before (record { outcome = f.refusal; length = 0; offset = 0; count = 0 })
    unfolding serve_file
    file_kept {before} z = record {
      tells = record {
        outcome = told_no one z;
        offset = ap (λ (x : Filed). x.offset) (no one z);
        count = ap (λ (x : Filed). x.count) (no one z);
        size = ap (λ (x : Filed). length x.out) (no one z);
        buffer = ap (λ (x : Filed). x.out ++ drop (length x.out) before) (no one z);
      };
      files = files_no one z;
    }

  -- the first half
  module _ (client time : ℕ) (d : List ℕ) where
    abbrev half : Ledger → List Lease → Worked
    half g ls = judged (judge_lent g ls (names_in b n) client time d)

    pub file_judged : {kept : List ℕ} {i : ℕ} {before after b' : List ℕ} {m k : ℕ} {j : OwnedJudged} {w : Result ℕ Refusal} → f.refusal ≡ 0 → Keeps (names_at b f) kept i
        → JudgesOwned (judge_lent f.owned.ledger f.owned.records.leases (take i kept) client time d) j
        → w ≡ written_lent j.owned.ledger j.owned.records.leases (take i kept) (length b) → b' ≡ room_lent j.owned.ledger j.owned.records.leases (take i kept) b
        → after ≡ verdict_octets j.ruling → m ≡ length_after w n → k ≡ number_after w j.ruling.verdict.outcome → JudgesFile (judge_file b n client time d) b' m before after k
    unfolding judge_file
    file_judged {before = before} {after} {j = j} z g v' p q a i h =
        let e = names_are g z in
        let v : JudgesOwned (judge_lent f.owned.ledger f.owned.records.leases (names_in b n) client time d) j =
        subst (λ (x : List ℕ). JudgesOwned (judge_lent f.owned.ledger f.owned.records.leases x client time d) j) e v' in
        let u = p ∙ ap (λ (x : List ℕ). written_lent j.owned.ledger j.owned.records.leases x (length b)) e in
        record {
          number = told_yes half z v.ledger v.leases u h (ap (λ (x : Ruling). x.verdict.outcome) v.ruling);
          verdict =
              a ∙ sym (verdict_out j.ruling before) ∙ ap (λ (x : Ruling). handed_out (verdict_octets x) before) v.ruling ∙ ap (λ (x : Filed). handed_out x.out before) (yes half z);
          files = files_yes half z v.ledger v.leases u (q ∙ ap (λ (x : List ℕ). room_lent j.owned.ledger j.owned.records.leases x b) e) i;
        }

    pub file_unjudged : {before : List ℕ} → (f.refusal ≡ 0 → ⊥) → JudgesFile (judge_file b n client time d) b n before before f.refusal
    unfolding judge_file handed_out
    file_unjudged {before} z = record { number = told_no half z; verdict = ap (λ (x : Filed). handed_out x.out before) (no half z); files = files_no half z }

  module _ (cs : List ℕ) (room : ℕ) where
    abbrev all : Ledger → List Lease → Worked
    all g ls = replayed (length cs) g ls (names_in b n) cs room

    pub file_replayed : {kept : List ℕ} {i : ℕ} {before after b' : List ℕ} {m k : ℕ} {r : Progress} {w : Result ℕ Refusal} → f.refusal ≡ 0 → Keeps (names_at b f) kept i
        → Replays (replayed (length cs) f.owned.ledger f.owned.records.leases (take i kept) cs room) before after r
        → w ≡ written_lent r.owned.ledger r.owned.records.leases (take i kept) (length b) → b' ≡ room_lent r.owned.ledger r.owned.records.leases (take i kept) b
        → m ≡ length_after w n → k ≡ number_after w r.number → ReplaysFile (replay_file b n cs room) b' m r.used before after r.filled k
    unfolding replay_file
    file_replayed {before = before} {after} {r = r} z g v' p q i j =
        let e = names_are g z in
        let v : Replays (all f.owned.ledger f.owned.records.leases) before after r =
        subst (λ (x : List ℕ). Replays (replayed (length cs) f.owned.ledger f.owned.records.leases x cs room) before after r) e v' in
        let u = p ∙ ap (λ (x : List ℕ). written_lent r.owned.ledger r.owned.records.leases x (length b)) e in
        record {
          number = told_yes all z v.ledger v.leases u j v.number;
          used = v.used ∙ ap (λ (x : Filed). x.used) (yes all z);
          filled = v.filled ∙ ap (λ (x : Filed). length x.out) (yes all z);
          answers = v.buffer ∙ ap (λ (x : Filed). x.out ++ drop (length x.out) before) (yes all z);
          files = files_yes all z v.ledger v.leases u (q ∙ ap (λ (x : List ℕ). room_lent r.owned.ledger r.owned.records.leases x b) e) i;
        }

    pub file_left : {before : List ℕ} → (f.refusal ≡ 0 → ⊥) → ReplaysFile (replay_file b n cs room) b n 0 before before 0 f.refusal
    unfolding replay_file
    file_left {before} z = record {
      number = told_no all z;
      used = ap (λ (x : Filed). x.used) (no all z);
      filled = ap (λ (x : Filed). length x.out) (no all z);
      answers = ap (λ (x : Filed). x.out ++ drop (length x.out) before) (no all z);
      files = files_no all z;
    }
