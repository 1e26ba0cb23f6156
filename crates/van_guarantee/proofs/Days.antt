-- Proof of `PrintsByRecord`, where the number of records that a day may have is no limit; and of `PrintsCut` and `PrintsSettings`.
use Prim.Native.Nat.{ℕ, zero, suc, ◌≤◌}
use mathlib.Core.Path.{◌≡◌, refl, sym, ap, ap₂, ◌∙◌}
use mathlib.Core.List.{List, [], ◌++◌}
use native.Mathlib.Omega.{arith}
use lib.Dec.{eqb}
use lib.ListN.{drop, length, length-drop}
use lib.Seq.{drop_at, take_all, take_at}
use Rattle.lists.specs.Pick.{pick}
use Rattle.state.specs.declared.Lease.{Lease}
use Rattle.state.specs.declared.Ledger.{Ledger}
use Rattle.records.specs.Lent.{LentReading}
use Rattle.replay_text.specs.Replay.{refused_line}
use Rattle.van_guarantee.specs.Statement.{PrintsByRecord, PrintsCut, PrintsSettings}
use Rattle.van_server.specs.Van.{VanTurn, day_of, day_to, open_of, printed_of, record_size, settings_size, turn_of}
use Rattle.van_server.proofs.Opened.{cut}
use Rattle.van_server.proofs.Answered.{is_end, some}

-- nothing is left: nothing is printed, and there is no further record
none_left : (k : ℕ) (g : Ledger) (ls : List Lease) (i : List ℕ) → length i ≡ 0 → day_to k g ls i ≡ []
unfolding day_to pick
none_left zero g ls i e = refl
none_left (suc k) g ls i e = sym (ap (λ (t : VanTurn). t.line ++ pick t.go (day_to k t.ledger t.leases (drop (record_size i) i)) []) (is_end g ls i e))

-- from as many as there are octets on, any number gives the same
same_day : (k n : ℕ) (g : Ledger) (ls : List Lease) (i : List ℕ) → length i ≤ k → length i ≤ n → day_to k g ls i ≡ day_to n g ls i
unfolding day_to
same_day zero n g ls i p q = sym (none_left n g ls i (omega arith))
same_day (suc k) zero g ls i p q = none_left (suc k) g ls i (omega arith)
same_day (suc k) (suc n) g ls i p q =
    let e = length-drop (record_size i) i in
    let h = some i in
    ap (λ (x : List ℕ). (turn_of g ls i).line ++ pick (turn_of g ls i).go x [])
    (same_day k n (turn_of g ls i).ledger (turn_of g ls i).leases (drop (record_size i) i) (omega arith) (omega arith))

pub prints_by_record : PrintsByRecord
unfolding PrintsByRecord day_of day_to
prints_by_record g ls i =
    let e = length-drop (record_size i) i in
    let h = some i in
    ap (λ (x : List ℕ). (turn_of g ls i).line ++ pick (turn_of g ls i).go x [])
    (same_day (length i) (suc (length (drop (record_size i) i))) (turn_of g ls i).ledger (turn_of g ls i).leases (drop (record_size i) i) (omega arith) (omega arith))

-- ---- the settings
-- what is printed once they are read
abbrev by_reading : List ℕ → LentReading → List ℕ
by_reading i r = pick (eqb r.refusal 0) (day_of r.ledger r.leases i) (refused_line r.refusal)

pub prints_cut : PrintsCut
unfolding PrintsCut printed_of pick
prints_cut i h = ap (by_reading (drop settings_size i)) (ap open_of (take_all settings_size i (omega arith)) ∙ cut i h)

pub prints_settings : PrintsSettings
unfolding PrintsSettings printed_of
prints_settings o i e = ap₂ (λ (x y : List ℕ). by_reading y (open_of x)) (take_at o i settings_size e) (drop_at o i settings_size e)
