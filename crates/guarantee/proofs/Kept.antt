-- Laws: any list of calls keeps a sound book sound: a call raises the clock and drops ended leases, and a decision keeps the leases sound, what is
-- remembered and the board.
use Prim.Native.Nat.{ℕ, ◌≤◌, ◌<◌}
use mathlib.Core.Path.{◌≡◌, refl, sym, ap, ◌∙◌}
use mathlib.Core.Bool.{◌&&◌}
use mathlib.Core.List.{List, [], ◌∷◌, map}
use native.Mathlib.Omega.{arith}
use lib.Dec.{ltb, leb, eqb}
use lib.ListN.{length, length-map}
use borrow.Author.Tests.{eqb-true, ltb-true, leb-true}
use Rattle.reply.specs.Reply.{least_room}
use Rattle.lists.specs.All.{all_by}
use Rattle.lists.specs.laws.Both.{and_parts}
use Rattle.message.specs.declared.Fields.{Fields}
use Rattle.message.specs.laws.Placed.{pick_cases}
use Rattle.message.specs.Read.{read_of}
use Rattle.state.specs.declared.Lease.{Lease}
use Rattle.state.specs.declared.State.{State}
use Rattle.state.specs.Book.{Book, advanced, dropped, in_use, laid_out, leases_of, live_of, releases_at, remembered, scopes_of, table_of}
use Rattle.state.specs.laws.Edited.{applied_count}
use Rattle.state.specs.laws.Layout.{table_back}
use Rattle.releases.specs.Whole.{book_b}
use Rattle.releases.proofs.Whole.{advanced_book, book_agrees, book_named, book_remembers, book_sound, both_book}
use Rattle.releases.specs.laws.Kept.{noted_count}
use Rattle.soundness.specs.Sound.{one_to, counts_b, rule3, rule4, rule5, rule6, settings_b, size_b, tenants_in}
use Rattle.soundness.specs.laws.Book.{Sound, settings_ok}
use Rattle.soundness.proofs.Lists.{sound_lists}
use Rattle.decision_laws.specs.laws.Kept.{GoodId, decision_sound}
use Rattle.decision_laws.specs.laws.Remembered.{decision_remembers}
use Rattle.decision_laws.specs.laws.Board.{decision_agrees}
use Rattle.decision_laws.specs.laws.Reads.{read_id}
use Rattle.server.specs.Serve.{Answer, Call, answered, at_clock, decided_for, for_server, serve_of, tenant_of, with_reading}
use Rattle.guarantee.specs.Statement.{SoundBook, WithinLimits, book_at, run}

-- ---- the records stay eight tenants', and laid out
advanced_eight : (b : Book) (time : ℕ) → length (advanced b time).table.tenants ≡ length b.table.tenants
unfolding advanced dropped table_of
advanced_eight b time =
    length-map (map (live_of _) (leases_of b.table)) laid_out ∙ length-map (leases_of b.table) (live_of _) ∙ length-map b.table.tenants in_use

pub advanced_laid : (b : Book) (time : ℕ) → (advanced b time).table ≡ table_of (leases_of (advanced b time).table)
unfolding advanced dropped
advanced_laid b time = ap table_of (sym (table_back (map (live_of _) (leases_of b.table))))

advanced_remembered : (b : Book) (time : ℕ) → length (advanced b time).memory.releases ≡ length b.memory.releases
unfolding advanced
advanced_remembered b time = refl

-- ---- the call
module _ (b : Book) (c : Call) (v : SoundBook b) where
  Keeps : Answer → Type 0
  Keeps a = SoundBook a.book

  pub now_sound : SoundBook (book_at b c)
  now_sound = record { tenants = advanced_eight b c.time ∙ v.tenants; memory = advanced_remembered b c.time ∙ v.memory; sound = advanced_book b c.time v.sound }

  decided_sound : (h : ℕ) (m : Fields) → h < tenants_in (book_at b c).state → GoodId m → Keeps (answered (book_at b c) h m (decided_for (book_at b c) h m))
  unfolding Keeps
  decided_sound h m known good = record {
    tenants = applied_count (decided_for (book_at b c) h m).edit h (book_at b c).table ∙ now_sound.tenants;
    memory = noted_count (decided_for (book_at b c) h m).edit h (book_at b c).memory ∙ now_sound.memory;
    sound =
        both_book (answered (book_at b c) h m (decided_for (book_at b c) h m)).book
        (decision_sound (book_at b c).state (book_at b c).table (remembered (releases_at (book_at b c).memory h)) h m (book_sound (book_at b c) now_sound.sound) (advanced_laid b c.time) known (let e = now_sound.tenants in omega arith) good)
        (decision_remembers (book_at b c) h m (book_sound (book_at b c) now_sound.sound) (book_remembers (book_at b c) now_sound.sound) now_sound.memory known
        (let e = now_sound.tenants in omega arith) (remembered (releases_at (book_at b c).memory h)))
        (decision_agrees (book_at b c) h m (book_sound (book_at b c) now_sound.sound) (book_agrees (book_at b c) now_sound.sound) known (let e = now_sound.tenants in omega arith) good
        (remembered (releases_at (book_at b c).memory h)))
        (book_named (book_at b c) now_sound.sound);
  }

  pub call_sound : SoundBook (serve_of b c).book
  unfolding serve_of at_clock with_reading for_server Keeps
  call_sound =
      let now : SoundBook (book_at b c) = now_sound in
      pick_cases Keeps (book_b b) _ _
      (λ _. pick_cases Keeps (ltb c.room least_room) _ _ (λ _. v)
      (λ _. pick_cases Keeps (ltb (tenant_of (book_at b c).state c.client) (tenants_in (book_at b c).state)) _ _
      (λ known. pick_cases Keeps (eqb (read_of c.datagram).discard 0) _ _
      (λ whole. pick_cases Keeps _ _ _ (λ _. now)
      (λ _. decided_sound _ _ (ltb-true _ _ known) (read_id c.datagram (book_at b c).state.server (eqb-true (read_of c.datagram).discard 0 whole))))
      (λ _. now)) (λ _. now))) (λ _. v)

-- ---- any list of calls
pub run_sound : (b : Book) (cs : List Call) → SoundBook b → SoundBook (run b cs)
unfolding run
run_sound b [] v = v
run_sound b (c ∷ cs) v = run_sound (serve_of b c).book cs (call_sound b c v)

-- ---- a sound book is within its limits
counts_few : (s : State) (ls : List (List Lease)) → Sound s ls → (s.tenant_count ≤ 8) × (s.scope_count ≤ 4)
unfolding settings_ok counts_b one_to
counts_few s ls v =
    let p = and_parts (counts_b s && (rule3 s && rule4 s)) (rule5 s && (rule6 s && settings_b s)) v.settings in
    let q = and_parts (counts_b s) (rule3 s && rule4 s) p.0 in
    let r = and_parts (one_to 8 s.tenant_count) (one_to 4 s.scope_count && all_by size_b (scopes_of s)) q.0 in
    let u = and_parts (one_to 4 s.scope_count) (all_by size_b (scopes_of s)) r.1 in (
      leb-true s.tenant_count 8 (and_parts (leb 1 s.tenant_count) (leb s.tenant_count 8) r.0).1,
      leb-true s.scope_count 4 (and_parts (leb 1 s.scope_count) (leb s.scope_count 4) u.0).1,
    )

pub within_limits : (b : Book) → SoundBook b → WithinLimits b
unfolding WithinLimits
within_limits b v k g here known =
    let w = sound_lists b.state b.table (book_sound b v.sound) in
    let n = counts_few b.state (leases_of b.table) w in
    w.holdings k g (omega arith) (omega arith)
