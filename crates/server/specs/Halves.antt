-- Definitions: the call in two halves (document 02, W-208): "the first gives the verdict and the book afterwards, the second writes the reply from these". That
-- the old call, `serve_of`, is made of them "after its own tests 1 and 2" is `ServeHalves` in Statement.antt.
use Rattle.std.specs.Prelude.{ℕ, min, Bool, true, false, not, ◌&&◌, List, [], ◌∷◌, ◌≡◌, ltb, eqb, replicate}
use Rattle.lists.specs.Pick.{pick}
use Rattle.message.specs.declared.Fields.{Fields}
use Rattle.message.specs.declared.Identifier.{Identifier}
use Rattle.message.specs.declared.Language.{Language}
use Rattle.message.specs.declared.Reading.{Reading}
use Rattle.message.specs.Read.{read_of}
use Rattle.message.specs.Values.{fields_of}
use Rattle.names.specs.Names.{names_b}
use Rattle.reply.specs.declared.Head.{Head}
use Rattle.reply.specs.declared.Info.{Info}
use Rattle.reply.specs.Reply.{least_room, offer_of, lease_ack_of, release_ack_of, info_ack_of, nak_of}
use Rattle.state.specs.declared.LeaseTable.{LeaseTable}
use Rattle.state.specs.declared.Memory.{Memory}
use Rattle.state.specs.declared.State.{State}
use Rattle.state.specs.declared.TenantLeases.{TenantLeases}
use Rattle.state.specs.declared.TenantReleases.{TenantReleases}
use Rattle.state.specs.Book.{Book, advanced, releases_at, scope_at}
use Rattle.state.specs.Edit.{edited_book}
use Rattle.soundness.specs.declared.HeldTable.{HeldTable}
use Rattle.soundness.specs.Sound.{tenants_in}
use Rattle.soundness.specs.View.{View}
use Rattle.releases.specs.Whole.{book_b}
use Rattle.decision.specs.declared.Decided.{Decided}
use Rattle.decision.specs.declared.Reply.{Reply}
use Rattle.decision.specs.declared.Reply.TheVariants.{Nothing, Offer, LeaseAck, ReleaseAck, InfoAck, Nak}
use Rattle.decision.specs.declared.Verdict.{Verdict}
use Rattle.decision.specs.Verdicts.{discard_with}
use Rattle.server.specs.declared.Judged.{Judged}
use Rattle.server.specs.declared.Ruling.{Ruling}
use Rattle.server.specs.Serve.{Answer, Said, book_of, count_for, decided_for, entry_of, tenant_of, terms_of}

-- ---- the verdict: the decision's, with what a reply needs of the message and of the client, the offset that goes with discard 5 (W-206), and the count of what was
-- read for it (W-210), n, which the second half tells
abbrev pub ruling_on : ℕ → Fields → ℕ → Verdict → Ruling
ruling_on h m n v = record {
  verdict = v;
  offset = 0;
  count = n;
  tenant = h;
  xid = m.xid;
  id = m.id;
  features = m.features;
  list_asked = m.list_asked;
  time_asked = m.time_asked;
  language = m.language;
}

-- that of discards 1 to 7: the client and its message are left out, and the zeros say nothing of them; discard 8 and a NAK have them
abbrev pub no_identifier : Identifier
no_identifier = record { octets = replicate 32 0; len = 0 }

abbrev pub no_language : Language
no_language = record { asked = false; len = 0; octets = replicate 8 0 }

abbrev pub discard_ruling : ℕ → ℕ → Ruling
discard_ruling n offset = record {
  verdict = discard_with n;
  offset = offset;
  count = 0;
  tenant = 0;
  xid = 0;
  id = no_identifier;
  features = false;
  list_asked = false;
  time_asked = false;
  language = no_language;
}

-- ---- the first half
pub record Judgement : Type 0 where
  pub ruling : Ruling
  pub book : Book

abbrev pub judged_at : ℕ → ℕ → Book → Judgement
judged_at n offset b = record { ruling = discard_ruling n offset; book = b }

-- the decision, and the book with what the tenant has edited
abbrev pub judged_by : Book → ℕ → Fields → Decided → Judgement
judged_by b h m d = record { ruling = ruling_on h m (count_for b h m) d.verdict; book = edited_book d.edit h b }

-- test 7
unfoldable pub judge_server : Book → ℕ → Fields → Judgement
judge_server b h m = pick (eqb m.kind 3 && not m.ours) (judged_at 7 0 b) (judged_by b h m (decided_for b h m))

-- tests 4, 5 and 6
unfoldable pub judge_reading : Book → ℕ → List ℕ → Reading → Judgement
judge_reading b h s r = pick (eqb r.discard 0) (judge_server b h (fields_of s b.state.server r.message)) (judged_at r.discard r.fault b)

-- test 3
unfoldable pub judge_clock : Book → ℕ → List ℕ → Judgement
judge_clock b client s =
    pick (ltb (tenant_of b.state client) (tenants_in b.state)) (judge_reading b (tenant_of b.state client) s (read_of s)) (judged_at 3 0 b)

-- test 1, and "all other calls first set the book's clock .. and drop leases ..". "The first never gives discard 2": there is no room to test
unfoldable pub judge_of : Book → ℕ → ℕ → List ℕ → Judgement
judge_of b client time s = pick (book_b b) (judge_clock (advanced b time) client s) (judged_at 1 0 b)

-- ---- the second half
abbrev pub head_in : State → Ruling → Head
head_in s r = record { xid = r.xid; server = s.server; id = r.id; features = r.features }

abbrev pub info_in : State → Ruling → Info
info_in s r = record {
  scopes = entry_of (scope_at s 0) ∷ entry_of (scope_at s 1) ∷ entry_of (scope_at s 2) ∷ entry_of (scope_at s 3) ∷ [];
  count = s.scope_count;
  list_asked = r.list_asked;
  clock = s.clock;
  time_asked = r.time_asked;
  tenants = s.tenant_count;
  tenant = r.tenant;
  language = r.language;
}

-- the reply of a verdict, with the names that are lent
abbrev pub ruled_by : State → List ℕ → Ruling → Reply → List ℕ
ruled_by s names r Nothing = []
ruled_by s names r Offer = offer_of (head_in s r) (terms_of s r.verdict)
ruled_by s names r LeaseAck = lease_ack_of (head_in s r) (terms_of s r.verdict)
ruled_by s names r ReleaseAck = release_ack_of (head_in s r)
ruled_by s names r InfoAck = info_ack_of (head_in s r) (info_in s r) names
ruled_by s names r Nak = nak_of (head_in s r) r.verdict.error

unfoldable pub ruled_reply : State → List ℕ → Ruling → List ℕ
ruled_reply s names r = ruled_by s names r r.verdict.reply

-- an ACK to GETINFO shows names: they have to be good for the settings, and the tenant one of these. The first half gives no other; of a verdict and a book "that the
-- first didn't give together" bad ones are discard 1, as in a call
abbrev pub sendable : State → List ℕ → Ruling → Bool
sendable s names r = names_b s.scope_count s.tenant_count names && ltb r.tenant s.tenant_count

abbrev pub shows : Reply → Bool
shows Nothing = false
shows Offer = false
shows LeaseAck = false
shows ReleaseAck = false
shows InfoAck = true
shows Nak = false

abbrev pub silent : ℕ → ℕ → ℕ → Said
silent n offset count = record { outcome = n; offset = offset; count = count; reply = [] }

-- an ACK to GETINFO
unfoldable pub info_with : Ruling → State → List ℕ → Said
info_with r s names = pick (sendable s names r) (record { outcome = 0; offset = 0; count = r.count; reply = info_ack_of (head_in s r) (info_in s r) names }) (silent 1 0 0)

-- a verdict of outcome 0
unfoldable pub replied_by : Ruling → State → List ℕ → Said
replied_by r s names =
    pick (shows r.verdict.reply && not (sendable s names r)) (silent 1 0 0) (record { outcome = 0; offset = 0; count = r.count; reply = ruled_reply s names r })

-- "writing into room below 512 is 2, tested first; writing a discard returns it", discard 8 with its count; "neither writes". A made-up number above 8 is 8: there is no other outcome
unfoldable pub write_of : Ruling → State → List ℕ → ℕ → Said
write_of r s names room =
    pick (ltb room least_room) (silent 2 0 0) (pick (eqb r.verdict.outcome 0) (replied_by r s names) (silent (min r.verdict.outcome 8) r.offset r.count))

-- ---- the old call is the two together: the book afterwards is the first half's, what is told the second's
abbrev pub both : Judgement → Said → Answer
both j w = record { outcome = w.outcome; offset = w.offset; count = w.count; reply = w.reply; book = j.book }

-- ---- what a function promises
-- the verdict, and the book b with what tenant h has edited
pub record Judges (a : Judgement) (b : Book) (h : ℕ) (r : Judged) : Type 0 where
  pub ruling : r.ruling ≡ a.ruling
  pub book : a.book ≡ edited_book r.edit h b

-- whatever book it is of which the state, the records of tenant h, what is remembered of it and what all tenants hold are at hand
abbrev pub JudgesTenant : State → TenantLeases → TenantReleases → HeldTable → ℕ → (Book → Judgement) → Judged → Type 0
JudgesTenant s own q held h judge r =
    (t : LeaseTable) (m : Memory) (names : List ℕ) → View s t h own held → q ≡ releases_at m h → Judges (judge (book_of s t m names)) (book_of s t m names) h r
