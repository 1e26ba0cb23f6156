-- Laws: what `open` is proved by: the settings over a book that is all zero, a call without room, which tells whether a book is sound, and that the settings are refused or
-- open the van's book.
use Prim.Native.Nat.{ℕ, ◌≤◌, ◌<◌}
use mathlib.Core.Path.{◌≡◌, refl, sym, ap, ap₂, ◌∙◌, subst}
use mathlib.Core.Bool.{Bool, true, false, ◌&&◌}
use mathlib.Core.List.{List, [], ◌∷◌}
use native.Mathlib.Omega.{arith}
use lib.Dec.{eqb, ltb}
use lib.ListN.{get_or, length, length-replicate, set}
use borrow.Author.Tests.{lt-ltb}
use Rattle.lists.specs.Pick.{pick}
use Rattle.lists.specs.laws.Pick.{pick_false, pick_lt, pick_not_lt, pick_true}
use Rattle.octets.specs.Octets.{at32}
use Rattle.reply.specs.Reply.{least_room}
use Rattle.state.specs.declared.Lease.{Lease}
use Rattle.state.specs.declared.Ledger.{Ledger}
use Rattle.state.specs.declared.Scope.{Scope}
use Rattle.state.specs.declared.State.{State}
use Rattle.state.specs.Book.{Book, advanced, zero_lease}
use Rattle.releases.specs.Whole.{book_b}
use Rattle.server.specs.Serve.{Call, at_clock, discarded, serve_of}
use Rattle.state_file.specs.StateFile.{zero_ledger, zero_state}
use Rattle.records.specs.Lent.{LentReading, book_from, is128, untouched}
use Rattle.record_call.specs.Call.{LentAnswer, lent_answer, serve_lent, serve_with}
use Rattle.std.specs.Prelude.{Ok, Err}
use Rattle.van_server.specs.declared.Refusal.TheVariants.{CutOff, Unsound}
use Rattle.owned.specs.declared.Owned.{Owned}
use Rattle.owned.specs.declared.OwnedCall.{OwnedCall}
use Rattle.owned.specs.Owned.{ServesOwned}
use Rattle.van_server.specs.Van.{Opens, no_records, open_of, settings_size, van_ledger, van_names, van_scope, van_state}

-- ---- the settings over zeros
module _ (o : List ℕ) where
  pub scope_is : {n : ℕ} → n ≡ at32 o 12
      → record { lowest = n; size = get_or o 16 0; ttl = get_or o 17 0; reserve = get_or o 16 0 ∷ 0 ∷ 0 ∷ 0 ∷ 0 ∷ 0 ∷ 0 ∷ 0 ∷ []; limit = get_or o 16 0 ∷ 0 ∷ 0 ∷ 0 ∷ 0 ∷ 0 ∷ 0 ∷ 0 ∷ [] } ≡ van_scope o
  unfolding van_scope
  scope_is e = λ i. record { lowest = e i; size = get_or o 16 0; ttl = get_or o 17 0; reserve = get_or o 16 0 ∷ 0 ∷ 0 ∷ 0 ∷ 0 ∷ 0 ∷ 0 ∷ 0 ∷ []; limit = get_or o 16 0 ∷ 0 ∷ 0 ∷ 0 ∷ 0 ∷ 0 ∷ 0 ∷ 0 ∷ [] }

  pub state_is : {z : State} {a low high : ℕ} {c : Scope} → z ≡ zero_state → a ≡ at32 o 0 → low ≡ at32 o 4 → high ≡ at32 o 8 → c ≡ van_scope o
      → record { server = a; clock = z.clock; tenant_count = 1; tenants = set z.tenants 0 (record { low = low; high = high }); scope_count = 1; scopes = set z.scopes 0 c } ≡ van_state o
  unfolding van_state
  state_is e p q t u =
      λ i. record { server = p i; clock = (e i).clock; tenant_count = 1; tenants = set (e i).tenants 0 (record { low = q i; high = t i }); scope_count = 1; scopes = set (e i).scopes 0 (u i) }

  pub ledger_is : {g : Ledger} {s : State} → g ≡ zero_ledger → s ≡ van_state o → record { state = s; memory = g.memory } ≡ van_ledger o
  ledger_is e p = λ i. record { state = p i; memory = (e i).memory }

-- ---- a call without room: 1 for an unsound book, else 2
module _ (g : Ledger) (ls : List Lease) (names : List ℕ) (c : Call) (h : c.room < least_room) where
  abbrev b : Book
  b = book_from g ls names

  abbrev other : LentAnswer
  other = record { outcome = 1; offset = 0; count = 0; reply = []; ledger = g; leases = ls }

  told_sound : eqb (serve_lent g ls names c).outcome 2 ≡ (is128 (length ls) && book_b (book_from g ls names))
  unfolding serve_with serve_of pick
  told_sound =
      ap (λ (w : Bool). eqb (pick (is128 (length ls)) (lent_answer (pick (book_b b) (pick w (discarded 2 b) (at_clock (advanced b c.time) c.client c.datagram)) (discarded 1 b))) other).outcome 2)
      (lt-ltb c.room least_room h)
      ∙ go (is128 (length ls)) (book_b b)
    where
      go : (t u : Bool) → eqb (pick t (lent_answer (pick u (discarded 2 b) (discarded 1 b))) other).outcome 2 ≡ (t && u)
      go true true = refl
      go true false = refl
      go false u = refl

  pub says_sound : {before after : List ℕ} {r : OwnedCall} → ServesOwned (serve_lent g ls names c) before after r
      → eqb r.outcome.outcome 2 ≡ (is128 (length ls) && book_b (book_from g ls names))
  says_sound v = ap (λ (n : ℕ). eqb n 2) v.tells.outcome ∙ told_sound

-- ---- the settings
module _ (o : List ℕ) where
  abbrev sound : Bool
  sound = book_b (book_from (van_ledger o) no_records van_names)

  -- the records of the van's book are 128, so that the test of a book is that of its soundness
  whole_test : (is128 (length no_records) && sound) ≡ sound
  unfolding is128
  whole_test = ap (λ (n : ℕ). eqb n 128 && sound) (length-replicate 128 zero_lease)

  -- and so where a call told it of a book that is the van's
  told_test : {t : Bool} {g : Ledger} {ls : List Lease} → g ≡ van_ledger o → t ≡ (is128 (length ls) && book_b (book_from g ls van_names)) → ls ≡ no_records → t ≡ sound
  told_test p e q = e ∙ ap₂ (λ (g : Ledger) (ls : List Lease). is128 (length ls) && book_b (book_from g ls van_names)) p q ∙ whole_test

  pub cut : length o < settings_size → open_of o ≡ untouched 24 zero_ledger no_records
  unfolding open_of
  cut h = sym (pick_lt _ _ _ (length o) settings_size h refl)

  judged : settings_size ≤ length o → open_of o ≡ pick sound (record { refusal = 0; ledger = van_ledger o; leases = no_records }) (untouched 21 zero_ledger no_records)
  unfolding open_of
  judged h = sym (pick_not_lt _ _ _ (length o) settings_size h refl)

  pub opens_cut : length o < settings_size → Opens (open_of o) (Err CutOff)
  opens_cut h = subst (λ (a : LentReading). Opens a (Err CutOff)) (sym (cut h)) refl

  module _ {t : Bool} {g : Ledger} {ls : List Lease} (h : settings_size ≤ length o) (p : g ≡ van_ledger o) (e : t ≡ (is128 (length ls) && book_b (book_from g ls van_names))) (q : ls ≡ no_records) where
    pub opens_sound : {x : Owned} → t ≡ true → x.ledger ≡ van_ledger o → x.records.leases ≡ no_records → Opens (open_of o) (Ok x)
    opens_sound {x} s i j = subst (λ (a : LentReading). Opens a (Ok x)) (pick_true _ _ _ _ (sym (told_test p e q) ∙ s) refl ∙ sym (judged h)) (refl, i, j)

    pub opens_unsound : t ≡ false → Opens (open_of o) (Err Unsound)
    opens_unsound s = subst (λ (a : LentReading). Opens a (Err Unsound)) (pick_false _ _ _ _ (sym (told_test p e q) ∙ s) refl ∙ sym (judged h)) refl

-- what is not refused is sound
pub opened_sound : (o : List ℕ) → (open_of o).refusal ≡ 0 → book_b (book_from (van_ledger o) no_records van_names) ≡ true
unfolding open_of pick
opened_sound o e = go (ltb (length o) settings_size) (sound o) refl e
  where
    go : (t u : Bool) → sound o ≡ u
        → ◌≡◌ {A = ℕ} (pick t (untouched 24 zero_ledger no_records) (pick u (record { refusal = 0; ledger = van_ledger o; leases = no_records }) (untouched 21 zero_ledger no_records))).refusal 0
        → sound o ≡ true
    go true u p e = absurd (omega arith)
    go false true p e = p
    go false false p e = absurd (omega arith)
