-- Laws: the first half of a call on 128 records by value: tests 1 and 3, the drop, and the edit of the records and the releases of the client's tenant and of the board.
use Rattle.std.specs.Prelude.{Option, None, Some, ◌≡◌, refl, Bool, true, false, ◌||◌, List, [], map, ℕ, ◌≤◌, ◌<◌, get_or}
use Rattle.std.specs.Option.{is_some, option_map_or}
use Rattle.std.proofs.Common.{sym, ap₂, ◌∙◌, subst, true≢false, arith}
use Rattle.std.proofs.Math.Path.{ap}
use Rattle.std.proofs.Math.ListN.{length, length-map, set}
use Rattle.std.proofs.lemmas.List.{set-get_or}
use Rattle.lists.specs.laws.Row.{at_in}
use Rattle.lists.specs.All.{All, all_by, pairs_by}
use Rattle.message.specs.Read.{read_of}
use Rattle.occupancy.specs.declared.Board.{Board}
use Rattle.state.specs.declared.Edit.{Edit}
use Rattle.state.specs.declared.Lease.{Lease}
use Rattle.state.specs.declared.LeaseTable.{LeaseTable}
use Rattle.state.specs.declared.Ledger.{Ledger}
use Rattle.state.specs.declared.Memory.{Memory}
use Rattle.state.specs.declared.State.{State}
use Rattle.state.specs.declared.TenantLeases.{TenantLeases}
use Rattle.state.specs.declared.Release.{Release}
use Rattle.state.specs.declared.TenantReleases.{TenantReleases}
use Rattle.state.specs.Book.{Book, advanced, cleared, dropped, id_of, in_use, inserted_in, laid_out, laid_releases, leases_of, live_of, ordered, put_at, raised, releases_at, remembered, remove_of, table_of, tenant_at, board_with, board_without}
use Rattle.state.specs.laws.Edit.{applied}
use Rattle.state.specs.Edit.{board_edited, board_left, edited_in, forget_of, left_in, noted, noted_in, remember_of, applied_by, edited_by}
use Rattle.state.specs.laws.Layout.{advanced_is, table_back}
use Rattle.soundness.specs.laws.Book.{sound_rises}
use Rattle.soundness.specs.declared.HeldTable.{HeldTable}
use Rattle.releases.proofs.Whole.{book_sound}
use Rattle.soundness.specs.Sound.{sound_b, tenants_in}
use Rattle.soundness.specs.Parts.{holdings_of}
use Rattle.soundness.proofs.Lists.{advanced_sound}
use Rattle.soundness.specs.laws.Survey.{held_from_law}
use Rattle.server.specs.declared.Judged.{Judged}
use Rattle.server.specs.declared.Ruling.{Ruling}
use Rattle.server.specs.Serve.{tenant_of}
use Rattle.server.specs.Halves.{Judges, JudgesTenant, discard_ruling, judge_clock, judge_of, judge_reading, judged_at}
use Rattle.server.specs.laws.Tests.{client_known, client_unknown, judge_sound, judge_unsound}
use Rattle.record_survey.specs.declared.Dropped.{Dropped}
use Rattle.record_verdict.specs.declared.JudgedRecords.{JudgedRecords}
use Rattle.records.specs.declared.Records.{Records}
use Rattle.record_survey.specs.declared.Surveyed.{Surveyed}
use Rattle.records.specs.Records.{put_row, records_of, table_from}
use Rattle.record_survey.specs.Survey.{Drops, ends_after, SoundFrom}
use Rattle.records.specs.Lent.{book_from}
use Rattle.record_verdict.specs.Verdict.{Gathered, JudgesRecords, JudgesSound, LentJudgement, judge_with, lent_judgement}
use Rattle.records.specs.laws.Back.{lent_table_back, records_back}
use Rattle.records.specs.laws.Rows.{Long, put_row_is}
use Rattle.record_survey.specs.laws.Rows.{clear_idle, drop_idle, sound_laid}
use Rattle.records.specs.laws.Steps.{off_whole, on_whole}
use Rattle.records.specs.laws.Table.{table_eight}
use Rattle.record_survey.specs.laws.Tested.{Surveys, Tested, tested, tested_sound}

-- ---- a discard gives back what it got
judges_as : {a b : LentJudgement} {r : JudgedRecords} → a ≡ b → JudgesRecords a r → JudgesRecords b r
judges_as {r = r} e v = subst (λ (z : LentJudgement). JudgesRecords z r) e v

abbrev pub unjudged : ℕ → Ledger → List Lease → LentJudgement
unjudged k g ls = record { ruling = discard_ruling k 0; ledger = g; leases = ls }

abbrev Dismisses : ℕ → Ledger → Records → JudgedRecords → Type 0
Dismisses k g m r = r ≡ record { ruling = discard_ruling k 0; clock = g.state.clock; memory = g.memory; records = m }

pub dismiss_is : (k : ℕ) (m : Memory) (z : Records) {clock : ℕ} {x : Ruling} → x ≡ discard_ruling k 0
    → ◌≡◌ {A = JudgedRecords} (record { ruling = x; clock = clock; memory = m; records = z }) (record { ruling = discard_ruling k 0; clock = clock; memory = m; records = z })
dismiss_is k m z {clock = clock} e = ap {B = JudgedRecords} (λ (x : Ruling). record { ruling = x; clock = clock; memory = m; records = z }) e

dismissed : (k : ℕ) (g : Ledger) (ls : List Lease) {m : Records} {r : JudgedRecords} → m.leases ≡ ls → length ls ≡ 128 → Dismisses k g m r → JudgesRecords (unjudged k g ls) r
dismissed k g ls a q e = record {
  ruling = ap (λ (z : JudgedRecords). z.ruling) e;
  clock = ap (λ (z : JudgedRecords). z.clock) e;
  memory = ap (λ (z : JudgedRecords). z.memory) e;
  leases = ap (λ (z : JudgedRecords). z.records.leases) e ∙ a;
  long = ap (λ (z : JudgedRecords). length z.records.leases) e ∙ ap length a ∙ q;
}

dismissed_is : (k : ℕ) (g : Ledger) (ls : List Lease) (names : List ℕ) → length ls ≡ 128 → unjudged k g ls ≡ lent_judgement (judged_at k 0 (book_from g ls names))
dismissed_is k g ls names q = ap (unjudged k g) (sym (records_back ls q))

-- ---- an edit by which nothing leaves, enters, is forgotten or remembered
or_none : (a b : Bool) → (a || b) ≡ false → (a ≡ false) × (b ≡ false)
or_none true b e = absurd (true≢false e)
or_none false true e = absurd (true≢false e)
or_none false false e = (refl, refl)

none_of : {A : Type 0} (o : Option A) → is_some o ≡ false → o ≡ None
none_of None e = refl
none_of (Some x) e = absurd (true≢false e)

idle : (e : Edit) (h : ℕ) (b : LeaseTable) → e.leaves ≡ None → e.enters ≡ None → applied e h b ≡ b
unfolding applied_by edited_by left_in
idle e h b p q =
    ap₂ (λ (x y : Option Lease). put_at b h (option_map_or (λ l. inserted_in l (gone x)) y (gone x))) p q
    ∙ ap {B = LeaseTable} (λ (x : List TenantLeases). record { tenants = x }) (set-get_or b.tenants h (laid_out []))
  where
    gone : Option Lease → TenantLeases
    gone x = option_map_or (λ l. laid_out (remove_of (id_of l) (in_use (tenant_at b h)))) x (tenant_at b h)

unnoted : (e : Edit) (h : ℕ) (m : Memory) → e.leaves ≡ None → e.enters ≡ None → e.forgets ≡ None → e.remembers ≡ None → noted e h m ≡ m
unfolding noted noted_in board_edited board_left
unnoted e h m a b f q = ap₂ {C = Memory} (λ (x : List TenantReleases) (y : Board). record { releases = x; board = y }) releases board
  where
    own : TenantReleases
    own = releases_at m h

    forgets : Option Lease → TenantReleases
    forgets x = option_map_or (λ l. laid_releases (forget_of (id_of l) (remembered own))) x own

    releases : set m.releases h (noted_in e own) ≡ m.releases
    releases =
        ap₂ (λ (x : Option Lease) (y : Option Release). set m.releases h (option_map_or (λ r. laid_releases (remember_of r (remembered own))) y (forgets x))) f q
        ∙ set-get_or m.releases h (laid_releases [])

    board : board_edited e h m.board ≡ m.board
    board = ap₂ (λ (x y : Option Lease). option_map_or (board_with h (option_map_or (board_without h m.board) x m.board)) y (option_map_or (board_without h m.board) x m.board)) a b

-- ---- test 3
-- what is remembered of tenant h, as the code reads it
pub own_releases : (m : Memory) (s : State) (d : TenantReleases) {h n : ℕ} → length m.releases ≡ 8 → n ≡ tenants_in s → h < n → get_or m.releases h d ≡ releases_at m h
own_releases m s d {h} e f p = at_in m.releases 8 h d (laid_releases []) e (omega arith)

module _ (g : Ledger) (ls : List Lease) (client : ℕ) (d : List ℕ) (size : length ls ≡ 128) {h n : ℕ} (e : h ≡ tenant_of g.state client) (f : n ≡ tenants_in g.state) where
  pub at_unknown : {m : Records} {r : JudgedRecords} → n ≤ h → m.leases ≡ ls → Dismisses 3 g m r → (names : List ℕ) → JudgesRecords (lent_judgement (judge_clock (book_from g ls names) client d)) r
  at_unknown p a v names = judges_as (dismissed_is 3 g ls names size ∙ ap lent_judgement (client_unknown (book_from g ls names) client d h n e f p)) (dismissed 3 g ls a size v)

  module _ {own : TenantLeases} {q : TenantReleases} {held : HeldTable} {r : Judged} (p : h < n) (w : Gathered g.state ls held) (o : own ≡ tenant_at (table_from ls) h)
      (u : q ≡ releases_at g.memory h) (v : JudgesTenant g.state own q held h (λ b. judge_reading b h d (read_of d)) r) where
    judged : (names : List ℕ) → Judges (judge_reading (book_from g ls names) h d (read_of d)) (book_from g ls names) h r
    judged names = v (table_from ls) g.memory names (record { sound = w.sound; eight = table_eight ls; known = omega arith; records = o; holdings = w.holdings }) u

    -- with what the edit leaves
    edits : {m : Memory} {z : Records} → m ≡ noted r.edit h g.memory → z.leases ≡ records_of (applied r.edit h (table_from ls)) → length z.leases ≡ 128
        → (names : List ℕ) → JudgesRecords (lent_judgement (judge_clock (book_from g ls names) client d)) (record { ruling = r.ruling; clock = g.state.clock; memory = m; records = z })
    edits a b c names = judges_as (ap lent_judgement (client_known (book_from g ls names) client d h n e f p)) (record {
      ruling = (judged names).ruling;
      clock = sym (ap (λ (z : Book). z.state.clock) (judged names).book);
      memory = a ∙ sym (ap (λ (z : Book). z.memory) (judged names).book);
      leases = b ∙ sym (ap (λ (z : Book). records_of z.table) (judged names).book);
      long = c;
    })

    pub at_edited : {t : TenantLeases} {i : TenantReleases} {j : Board} {z : Records} → t ≡ edited_in r.edit own → (z.leases ≡ put_row ls h t.leases) × (length z.leases ≡ 128)
        → i ≡ noted_in r.edit q → j ≡ board_edited r.edit h g.memory.board
        → (names : List ℕ) → JudgesRecords (lent_judgement (judge_clock (book_from g ls names) client d))
        (record { ruling = r.ruling; clock = g.state.clock; memory = record { releases = set g.memory.releases h i; board = j }; records = z })
    unfolding applied_by noted
    at_edited {t} a b c k =
        edits (ap₂ {C = Memory} (λ (i : TenantReleases) (j : Board). record { releases = set g.memory.releases h i; board = j }) (c ∙ ap (noted_in r.edit) u) k)
        (b.0 ∙ put_row_is ls h t size (omega (arith, f, p)) ∙ ap (λ (k : TenantLeases). records_of (put_at (table_from ls) h k)) (a ∙ ap (edited_in r.edit) o)) b.1

    pub at_same : {z : Records} {t : Bool} → t ≡ (is_some r.edit.leaves || (is_some r.edit.enters || (is_some r.edit.forgets || is_some r.edit.remembers))) → t ≡ false → z.leases ≡ ls
        → (names : List ℕ) → JudgesRecords (lent_judgement (judge_clock (book_from g ls names) client d)) (record { ruling = r.ruling; clock = g.state.clock; memory = g.memory; records = z })
    at_same a b c =
        let j = or_none (is_some r.edit.leaves) (is_some r.edit.enters || (is_some r.edit.forgets || is_some r.edit.remembers)) (sym a ∙ b) in
        let k = or_none (is_some r.edit.enters) (is_some r.edit.forgets || is_some r.edit.remembers) j.1 in
        let i = or_none (is_some r.edit.forgets) (is_some r.edit.remembers) k.1 in
        let leaves = none_of r.edit.leaves j.0 in
        let enters = none_of r.edit.enters k.0 in
        edits (sym (unnoted r.edit h g.memory leaves enters (none_of r.edit.forgets i.0) (none_of r.edit.remembers i.1)))
        (c ∙ sym (records_back ls size) ∙ ap records_of (sym (idle r.edit h (table_from ls) leaves enters))) (ap length c ∙ size)

-- ---- what is gathered of a sound book, by a survey that found it so, or by what it holds alone
pub sound_gathered : (g : Ledger) (ls : List Lease) (names : List ℕ) {held : HeldTable} → SoundFrom g ls names → held ≡ holdings_of (table_from ls) → Gathered g.state ls held
sound_gathered g ls names y e = record { sound = book_sound (book_from g ls names) y; holdings = e }

pub surveyed_gathered : (g : Ledger) (ls : List Lease) (names : List ℕ) {c : Surveyed} {t : Bool} → Surveys g ls c → t ≡ Tested g names c → t ≡ true → Gathered g.state ls c.rules.held
surveyed_gathered g ls names {c} v w y = sound_gathered g ls names (tested_sound g ls names v w y) (held_from_law g.state (table_from ls) c.rules v.0)

-- ---- the drop
module _ (g : Ledger) (ls : List Lease) (names : List ℕ) (time : ℕ) {s' : State} (e : s' ≡ raised g.state time) where
  -- the ledger then, with a board
  abbrev then : Board → Ledger
  then x = record { state = s'; memory = record { releases = g.memory.releases; board = x } }

  -- records and a board that stand for the advanced book
  module _ (ls' : List Lease) (x : Board) (p : table_from ls' ≡ dropped s'.clock (table_from ls)) (o : x ≡ cleared s'.clock (table_from ls) g.memory.board) where
    advanced_now : book_from (then x) ls' names ≡ advanced (book_from g ls names) time
    advanced_now = advanced_is (book_from g ls names) time s' (table_from ls') x e p o

    advanced_gathered : {held : HeldTable} → sound_b g.state (table_from ls) ≡ true → held ≡ holdings_of (table_from ls') → Gathered s' ls' held
    advanced_gathered q h = record { sound = subst (λ (b : Book). sound_b b.state b.table ≡ true) (sym advanced_now) (advanced_sound (book_from g ls names) time q); holdings = h }

  -- where none ended, the records themselves
  module _ {held : HeldTable} (size : length ls ≡ 128) (long : All Long ls) (v : Gathered g.state ls held) where
    laid : table_from ls ≡ table_of (leases_of (table_from ls))
    laid = sound_laid g.state ls size long v.sound

    module _ {n : Bool} (a : n ≡ all_by (ends_after s'.clock) held.tenants) (b : n ≡ true) where
      lives : all_by (ends_after s'.clock) (holdings_of (table_from ls)).tenants ≡ true
      lives = ap (λ (x : HeldTable). all_by (ends_after s'.clock) x.tenants) (sym v.holdings) ∙ sym a ∙ b

      same : table_from ls ≡ dropped s'.clock (table_from ls)
      same = drop_idle s'.clock (table_from ls) laid lives

      same_board_law : g.memory.board ≡ cleared s'.clock (table_from ls) g.memory.board
      same_board_law = clear_idle s'.clock (table_from ls) g.memory.board (table_eight ls) lives

      pub idle_gathered : Gathered s' ls held
      idle_gathered = advanced_gathered ls g.memory.board same same_board_law v.sound v.holdings

      pub idle_book : book_from (then g.memory.board) ls names ≡ advanced (book_from g ls names) time
      idle_book = advanced_now ls g.memory.board same same_board_law

    pub drop_ready : (table_from ls ≡ table_of (leases_of (table_from ls))) × (held ≡ holdings_of (table_from ls)) × (all_by (pairs_by ordered) (leases_of (table_from ls)) ≡ true)
    drop_ready = (laid, v.holdings, sound_rises g.state (table_from ls) v.sound)

    module _ {d : Dropped} (u : Drops s'.clock ls g.memory.board d) where
      live : sound_b s' (dropped s'.clock (table_from ls)) ≡ true
      live = subst (λ (z : Book). sound_b z.state z.table ≡ true) (sym (advanced_is (book_from g ls names) time s' (dropped s'.clock (table_from ls)) (cleared s'.clock (table_from ls) g.memory.board) e refl refl))
          (advanced_sound (book_from g ls names) time v.sound)

      left : table_from d.records.leases ≡ dropped s'.clock (table_from ls)
      unfolding dropped
      left =
          ap table_from u.records
          ∙ lent_table_back s' (dropped s'.clock (table_from ls))
          (ap length (table_back (map (live_of s'.clock) (leases_of (table_from ls)))) ∙ length-map (leases_of (table_from ls)) (live_of s'.clock) ∙ length-map (table_from ls).tenants in_use ∙ table_eight ls)
          (ap table_of (sym (table_back (map (live_of s'.clock) (leases_of (table_from ls)))))) live

      pub left_gathered : Gathered s' d.records.leases d.held
      left_gathered = advanced_gathered d.records.leases d.board left u.board v.sound (u.holdings ∙ ap holdings_of (sym left))

      pub left_book : book_from (then d.board) d.records.leases names ≡ advanced (book_from g ls names) time
      left_book = advanced_now d.records.leases d.board left u.board

-- ---- test 1
module _ (n : ℕ) (g : Ledger) (ls : List Lease) (names : List ℕ) (client time : ℕ) (d : List ℕ) where
  on_judged : n ≡ 128 → lent_judgement (judge_of (book_from g ls names) client time d) ≡ judge_with n g ls names client time d
  unfolding judge_with
  on_judged e = on_whole (lent_judgement (judge_of (book_from g ls names) client time d)) (unjudged 1 g ls) e

  pub judge_out : {m : Records} {r : JudgedRecords} → (n ≡ 128 → ⊥) → m.leases ≡ ls → length ls ≡ 128 → Dismisses 1 g m r → JudgesRecords (judge_with n g ls names client time d) r
  unfolding judge_with
  judge_out e a q v = judges_as (off_whole (lent_judgement (judge_of (book_from g ls names) client time d)) (unjudged 1 g ls) e) (dismissed 1 g ls a q v)

  module _ {k : Surveyed} {t : Bool} (e : n ≡ 128) (p : Surveys g ls k) (w : t ≡ Tested g names k) where
    pub judge_dismissed : {m : Records} {r : JudgedRecords} → t ≡ false → m.leases ≡ ls → length ls ≡ 128 → Dismisses 1 g m r → JudgesRecords (judge_with n g ls names client time d) r
    judge_dismissed f a q v =
        judges_as (dismissed_is 1 g ls names q ∙ ap lent_judgement (judge_unsound (book_from g ls names) client time d (sym (tested g ls names k p w) ∙ f)) ∙ on_judged e) (dismissed 1 g ls a q v)

  pub judge_on : {b : Book} {r : JudgedRecords} → n ≡ 128 → SoundFrom g ls names → b ≡ advanced (book_from g ls names) time → JudgesRecords (lent_judgement (judge_clock b client d)) r
      → JudgesRecords (judge_with n g ls names client time d) r
  judge_on e y i v =
      judges_as (ap (λ (z : Book). lent_judgement (judge_clock z client d)) i ∙ ap lent_judgement (judge_sound (book_from g ls names) client time d y) ∙ on_judged e) v

  -- what is promised of a sound book and its own records, of n of them
  pub judge_known : {r : JudgedRecords} → n ≡ 128 → length ls ≡ 128 → SoundFrom g ls names → JudgesSound g ls client time d r → JudgesRecords (judge_with n g ls names client time d) r
  judge_known {r} e q y v = subst (λ (k : ℕ). JudgesRecords (judge_with k g ls names client time d) r) (q ∙ sym e) (v names y)
