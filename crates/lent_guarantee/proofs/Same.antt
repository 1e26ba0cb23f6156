-- Proof of `SameCall`: records and table stand for each other, where the leases are sound and in any book that a call leaves as it was.
use Prim.Native.Nat.{ℕ, ◌<◌}
use mathlib.Core.Path.{◌≡◌, refl, sym, ap, ap₂, ◌∙◌}
use mathlib.Core.Bool.{true}
use native.Mathlib.Omega.{arith}
use borrow.Author.Tests.{eqb-true, ltb-true}
use mathlib.Core.List.{List, [], map}
use mathlib.Core.Logic.{◌⊎◌, inl, inr, ⊎_elim}
use lib.Dec.{eqb, ltb}
use lib.ListN.{length, length-map}
use Rattle.reply.specs.Reply.{least_room}
use Rattle.message.specs.declared.Fields.{Fields}
use Rattle.message.specs.laws.Placed.{pick_cases}
use Rattle.message.specs.Read.{read_of}
use Rattle.state.specs.declared.Lease.{Lease}
use Rattle.state.specs.declared.LeaseTable.{LeaseTable}
use Rattle.state.specs.declared.Ledger.{Ledger}
use Rattle.state.specs.Book.{Book, ordered, advanced, dropped, in_use, laid_out, leases_of, live_of, releases_at, remembered, table_of}
use Rattle.state.specs.laws.Edited.{applied_count, applied_laid}
use Rattle.state.specs.laws.Layout.{table_back as lists_back}
use Rattle.releases.specs.Whole.{book_b}
use Rattle.soundness.specs.Sound.{sound_b, tenants_in}
use Rattle.soundness.proofs.Lists.{advanced_sound}
use Rattle.releases.proofs.Whole.{book_sound}
use Rattle.server.specs.Serve.{Answer, Call, answered, at_clock, book_of, decided_for, for_server, serve_of, tenant_of, with_reading}
use Rattle.guarantee.specs.Statement.{SoundBook}
use Rattle.call_guarantee.proofs.Discards.{call_tested}
use Rattle.decision_laws.specs.laws.Kept.{GoodId, decision_sound}
use Rattle.decision_laws.specs.laws.Reads.{read_id}
use Rattle.records.specs.laws.Back.{records_back, lent_table_back, table_long}
use Rattle.records.specs.laws.Table.{table_eight}
use Rattle.records.specs.Records.{records_of, table_from}
use Rattle.records.specs.Lent.{book_from}
use Rattle.record_call.specs.Call.{lent_answer, LentAnswer, serve_lent, serve_with}
use Rattle.records.specs.laws.Steps.{on_whole}
use Rattle.lent_guarantee.specs.Statement.{answer_of, SameCall}

-- ---- a table that only lays out its leases, of a sound book or not
Laid : LeaseTable → Type 0
Laid t = t ≡ table_of (leases_of t)

-- eight tenants' leases, sound and laid out
record Kept (b : Book) : Type 0 where
  tenants : length b.table.tenants ≡ 8
  sound : sound_b b.state b.table ≡ true
  laid : Laid b.table

-- a call leaves the book as it was, or its leases so. What is remembered is no matter, of however many tenants
module _ (b : Book) (c : Call) (eight : length b.table.tenants ≡ 8) where
  abbrev now : Book
  now = advanced b c.time

  advanced_kept : book_b b ≡ true → Kept now
  unfolding advanced dropped table_of Laid
  advanced_kept y = record {
    tenants = length-map (map (live_of _) (leases_of b.table)) laid_out ∙ length-map (leases_of b.table) (live_of _) ∙ length-map b.table.tenants in_use ∙ eight;
    sound = advanced_sound b c.time (book_sound b y);
    laid = ap table_of (sym (lists_back (map (live_of _) (leases_of b.table))));
  }

  decided_kept : (h : ℕ) (m : Fields) → book_b b ≡ true → h < tenants_in now.state → GoodId m → Kept (answered now h m (decided_for now h m)).book
  unfolding Laid
  decided_kept h m y known good =
      let v = advanced_kept y in
      let e = (decided_for now h m).edit in
      record {
        tenants = applied_count e h now.table ∙ v.tenants;
        sound = decision_sound now.state now.table (remembered (releases_at now.memory h)) h m v.sound v.laid known (let k = v.tenants in omega arith) good;
        laid = applied_laid ordered e h now.table v.laid;
      }

  Kind : Answer → Type 0
  Kind a = (a.book ≡ b) ⊎ Kept a.book

  kind : Kind (serve_of b c)
  unfolding serve_of at_clock with_reading for_server Kind
  kind =
      pick_cases Kind (book_b b) _ _
      (λ y. pick_cases Kind (ltb c.room least_room) _ _ (λ _. inl refl)
      (λ _. pick_cases Kind (ltb (tenant_of now.state c.client) (tenants_in now.state)) _ _
      (λ known. pick_cases Kind (eqb (read_of c.datagram).discard 0) _ _
      (λ whole. pick_cases Kind _ _ _ (λ _. inr (advanced_kept y))
      (λ _. inr (decided_kept _ _ y (ltb-true _ _ known) (read_id c.datagram now.state.server (eqb-true (read_of c.datagram).discard 0 whole)))))
      (λ _. inr (advanced_kept y))) (λ _. inr (advanced_kept y)))) (λ _. inl refl)

-- ---- the same call
module _ (g : Ledger) (ls : List Lease) (names : List ℕ) (c : Call) (long : length ls ≡ 128) where
  abbrev before : Book
  before = book_from g ls names

  pub sound_book : length g.memory.releases ≡ 8 → book_b before ≡ true → SoundBook before
  sound_book e y = record { tenants = table_eight ls; memory = e; sound = y }

  pub kept_back : (t : LeaseTable) → t ≡ table_from ls → records_of t ≡ ls
  kept_back t e = ap records_of e ∙ records_back ls long

  -- what a call leaves: the records as they were, or sound leases whose table is laid out
  abbrev after : LeaseTable
  after = (serve_of before c).book.table

  left : (P : Type 0) → (after ≡ table_from ls → P) → (length (leases_of after) ≡ 8 → after ≡ table_of (leases_of after) → sound_b (serve_of before c).book.state after ≡ true → P) → P
  unfolding Kind Laid
  left P f k = ⊎_elim
      (λ e. f (ap (λ (x : Book). x.table) e))
      (λ v. k (length-map after.tenants in_use ∙ v.tenants) v.laid v.sound)
      (kind before c (table_eight ls))

  back : table_from (records_of after) ≡ after
  back = left (table_from (records_of after) ≡ after) (λ t. ap table_from (kept_back after t) ∙ sym t) (lent_table_back (serve_of before c).book.state after)

  long_after : length (records_of after) ≡ 128
  long_after = left (length (records_of after) ≡ 128) (λ t. ap length (kept_back after t) ∙ long) (table_long (serve_of before c).book.state after)

  pub at_whole : serve_lent g ls names c ≡ lent_answer (serve_of before c)
  unfolding serve_with
  at_whole = sym (on_whole (lent_answer (serve_of before c)) (record { outcome = 1; offset = 0; count = 0; reply = []; ledger = g; leases = ls }) long)

  pub still_whole : length (serve_lent g ls names c).leases ≡ 128
  still_whole = ap (λ (x : LentAnswer). length x.leases) at_whole ∙ long_after

  pub same : answer_of names (serve_lent g ls names c) ≡ serve_of before c
  same = ap (answer_of names) at_whole
      ∙ ap₂ {C = Answer} (λ (t : LeaseTable) (n : List ℕ). record { outcome = (serve_of before c).outcome; offset = (serve_of before c).offset; count = (serve_of before c).count; reply = (serve_of before c).reply; book = book_of (serve_of before c).book.state t (serve_of before c).book.memory n })
      back (sym (call_tested before c).names)

pub same_call : SameCall
unfolding SameCall
same_call l c long = same l.ledger l.leases l.names c long
