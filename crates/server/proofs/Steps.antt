-- Laws: between the code of the call and its definition: tests 4 to 7 one after the other, and the reply by the verdict.
use mathlib.Core.Path.{◌≡◌, refl, sym, ap, ap₂, ◌∙◌, subst}
use mathlib.Core.List.{List, [], ◌∷◌}
use mathlib.Core.Bool.{Bool, true, false, not, ◌&&◌}
use Prim.Native.Nat.{ℕ, ◌≤◌, ◌<◌, ◌-◌, min}
use borrow.Author.Tests.{eq-eqb, ltb-true, ne_eqb}
use lib.Dec.{ltb}
use lib.ListN.{length}
use Rattle.lists.specs.Pick.{pick}
use Rattle.lists.specs.laws.Both.{and_parts}
use Rattle.message.specs.declared.Fields.{Fields}
use Rattle.message.specs.declared.Identifier.{Identifier}
use Rattle.message.specs.declared.Language.{Language}
use Rattle.message.specs.declared.Reading.{Reading}
use Rattle.message.specs.Read.{longest_datagram, read_of}
use Rattle.message.specs.Placed.{GoodPlaces}
use Rattle.message.specs.laws.Placed.{read_good, read_short}
use Rattle.message.specs.Values.{fields_of}
use Rattle.names.specs.Names.{names_b}
use Rattle.reply.specs.Put.{Replied}
use Rattle.reply.specs.Reply.{Sendable, info_ack_of, least_room}
use Rattle.reply.specs.declared.Terms.{Terms}
use Rattle.reply.specs.declared.Info.{Info}
use Rattle.reply.specs.declared.ScopeEntry.{ScopeEntry}
use Rattle.state.specs.declared.Edit.{Edit}
use Rattle.state.specs.declared.Scope.{Scope}
use Rattle.state.specs.declared.State.{State}
use Rattle.state.specs.declared.LeaseTable.{LeaseTable}
use Rattle.state.specs.declared.Memory.{Memory}
use Rattle.state.specs.declared.TenantLeases.{TenantLeases}
use Rattle.state.specs.declared.TenantReleases.{TenantReleases}
use Rattle.state.specs.Book.{Book, in_use, releases_at, remembered, scope_at}
use Rattle.state.specs.Edit.{edited_book, no_edit}
use Rattle.state.specs.laws.Edited.{edited_none}
use Rattle.soundness.specs.declared.HeldTable.{HeldTable}
use Rattle.soundness.specs.View.{View}
use Rattle.decision.specs.declared.Counted.{Counted}
use Rattle.decision.specs.declared.Decided.{Decided}
use Rattle.decision.specs.declared.Reply.{Reply}
use Rattle.decision.specs.declared.Reply.TheVariants.{Nothing, InfoAck}
use Rattle.decision.specs.declared.Verdict.{Verdict}
use Rattle.decision.specs.Count.{count_of}
use Rattle.decision.specs.Decide.{decide_of}
use Rattle.decision.specs.Gather.{decide_in}
use Rattle.decision.specs.Verdicts.{discard_with}
use Rattle.admission.specs.Tests.{own_of}
use Rattle.decision_laws.specs.laws.View.{decide_in_law}
use Rattle.server.specs.declared.Judged.{Judged}
use Rattle.server.specs.declared.Outcome.{Outcome}
use Rattle.server.specs.declared.Ruling.{Ruling}
use Rattle.server.specs.Serve.{Said, Tells, book_of, decided_for, entry_of, terms_of}
use Rattle.server.specs.Halves.{Judgement, Judges, discard_ruling, info_in, head_in, info_with, judge_reading, judge_server, judged_at, judged_by, no_identifier, no_language, replied_by, ruled_by, ruling_on, sendable, shows, silent, write_of}
use Rattle.server.specs.laws.Told.{tells_as}
use Rattle.server.specs.laws.Halves.{replied_info, replied_plain, written_other, written_reply, written_short}

-- ---- the reply
pub terms_is : (s : State) (v : Verdict) (n : ℕ) (c : Scope) (k : ℕ) → n ≡ v.end - v.start → k ≡ v.scope - 1 → c ≡ scope_at s k
    → ◌≡◌ {A = Terms} (record { length = n; start = v.start; scope = c.lowest; addresses = v.addresses; clock = s.clock }) (terms_of s v)
terms_is s v n c k p q r =
    ap₂ {C = Terms} (λ (x y : ℕ). record { length = x; start = v.start; scope = y; addresses = v.addresses; clock = s.clock }) p
    (ap (λ (y : Scope). y.lowest) (r ∙ ap (scope_at s) q))

pub info_is : (s : State) (r : Ruling) {a b c d : ScopeEntry} {x y z w : Scope} → x ≡ scope_at s 0 → a ≡ entry_of x → y ≡ scope_at s 1 → b ≡ entry_of y → z ≡ scope_at s 2 → c ≡ entry_of z → w ≡ scope_at s 3 → d ≡ entry_of w
    → ◌≡◌ {A = Info} (record { scopes = a ∷ b ∷ c ∷ d ∷ []; count = s.scope_count; list_asked = r.list_asked; clock = s.clock; time_asked = r.time_asked; tenants = s.tenant_count; tenant = r.tenant; language = r.language }) (info_in s r)
info_is s r {a} {b} {c} {d} x a' y b' z c' w d' =
    ap₂ (λ (p q : ScopeEntry). made p q c d) (a' ∙ ap entry_of x) (b' ∙ ap entry_of y) ∙ ap₂ (λ (p q : ScopeEntry). made (entry_of (scope_at s 0)) (entry_of (scope_at s 1)) p q) (c' ∙ ap entry_of z) (d' ∙ ap entry_of w)
  where
    made : ScopeEntry → ScopeEntry → ScopeEntry → ScopeEntry → Info
    made p q u v = record { scopes = p ∷ q ∷ u ∷ v ∷ []; count = s.scope_count; list_asked = r.list_asked; clock = s.clock; time_asked = r.time_asked; tenants = s.tenant_count; tenant = r.tenant; language = r.language }

-- ---- what is told
pub tells_silent : (n o k : ℕ) (buffer : List ℕ) {x : Outcome} → x ≡ record { outcome = n; length = 0; offset = o; count = k } → Tells (silent n o k) buffer buffer x
tells_silent n o k buffer e = record { outcome = ap (λ (x : Outcome). x.outcome) e; offset = ap (λ (x : Outcome). x.offset) e; count = ap (λ (x : Outcome). x.count) e; size = ap (λ (x : Outcome). x.length) e; buffer = refl }

tells_reply : (reply : List ℕ) (k : ℕ) {before after : List ℕ} {n : ℕ} {x : Outcome} → Replied before reply after n → x ≡ record { outcome = 0; length = n; offset = 0; count = k } → Tells (record { outcome = 0; offset = 0; count = k; reply = reply }) before after x
tells_reply reply k w e = record { outcome = ap (λ (x : Outcome). x.outcome) e; offset = ap (λ (x : Outcome). x.offset) e; count = ap (λ (x : Outcome). x.count) e; size = ap (λ (x : Outcome). x.length) e ∙ w.size; buffer = w.buffer }

module _ (r : Ruling) (s : State) (names : List ℕ) where
  -- the names and the tenant that the writer of an ACK to GETINFO asks for
  pub can_show : {i : Info} {t : Bool} → i ≡ info_in s r → t ≡ sendable s names r → t ≡ true → Sendable i names
  can_show {i} e p y =
      let v = and_parts (names_b s.scope_count s.tenant_count names) (ltb r.tenant s.tenant_count) (sym p ∙ y) in
      subst (λ (i : Info). Sendable i names) (sym e) (v.0, ltb-true r.tenant s.tenant_count v.1)

  by_names : Bool → Said
  by_names t = pick t (record { outcome = 0; offset = 0; count = r.count; reply = info_ack_of (head_in s r) (info_in s r) names }) (silent 1 0 0)

  pub info_sent : {t : Bool} {before after : List ℕ} {n : ℕ} {x : Outcome} → t ≡ sendable s names r → t ≡ true → Replied before (info_ack_of (head_in s r) (info_in s r) names) after n
      → x ≡ record { outcome = 0; length = n; offset = 0; count = r.count } → Tells (info_with r s names) before after x
  unfolding info_with by_names pick
  info_sent p y w e = tells_as (sym (ap by_names (sym p ∙ y))) (tells_reply (info_ack_of (head_in s r) (info_in s r) names) r.count w e)

  pub info_kept : {t : Bool} (buffer : List ℕ) {x : Outcome} → t ≡ sendable s names r → t ≡ false → x ≡ record { outcome = 1; length = 0; offset = 0; count = 0 } → Tells (info_with r s names) buffer buffer x
  unfolding info_with by_names pick
  info_kept buffer p y e = tells_as (sym (ap by_names (sym p ∙ y))) (tells_silent 1 0 0 buffer e)

  -- the reply of a kind
  pub reply_as : (k : Reply) {before after : List ℕ} {n : ℕ} {x : Outcome} → r.verdict.reply ≡ k → shows k ≡ false → Replied before (ruled_by s names r k) after n
      → x ≡ record { outcome = 0; length = n; offset = 0; count = r.count } → Tells (replied_by r s names) before after x
  reply_as k e f w g = tells_as (sym (replied_plain r s names k e f)) (tells_reply (ruled_by s names r k) r.count w g)

  pub reply_none : (buffer : List ℕ) {x : Outcome} → r.verdict.reply ≡ Nothing → x ≡ record { outcome = 0; length = 0; offset = 0; count = r.count } → Tells (replied_by r s names) buffer buffer x
  reply_none buffer e g = reply_as Nothing e refl (record { size = refl; buffer = refl }) g

  pub reply_info : {before after : List ℕ} {x : Outcome} → r.verdict.reply ≡ InfoAck → Tells (info_with r s names) before after x → Tells (replied_by r s names) before after x
  reply_info e w = tells_as (sym (replied_info r s names e)) w

  -- room, then the discard's number, then the reply
  module _ (room : ℕ) where
    pub write_short : (buffer : List ℕ) {x : Outcome} → room < least_room → x ≡ record { outcome = 2; length = 0; offset = 0; count = 0 } → Tells (write_of r s names room) buffer buffer x
    write_short buffer g e = tells_as (written_short r s names room g) (tells_silent 2 0 0 buffer e)

    pub write_replied : {before after : List ℕ} {x : Outcome} → least_room ≤ room → r.verdict.outcome ≡ 0 → Tells (replied_by r s names) before after x → Tells (write_of r s names room) before after x
    write_replied g z w = tells_as (written_reply r s names room g z) w

    pub write_discard : (buffer : List ℕ) {n : ℕ} {x : Outcome} → least_room ≤ room → (r.verdict.outcome ≡ 0 → ⊥) → n ≡ min r.verdict.outcome 8 → x ≡ record { outcome = n; length = 0; offset = r.offset; count = r.count } → Tells (write_of r s names room) buffer buffer x
    write_discard buffer g z p e =
        tells_as (written_other r s names room g z) (tells_silent (min r.verdict.outcome 8) r.offset r.count buffer (e ∙ ap {B = Outcome} (λ (n : ℕ). record { outcome = n; length = 0; offset = r.offset; count = r.count }) p))

-- ---- verdicts
pub discard_is : (n o : ℕ) {v : Verdict} {i : Identifier} {l : Language} → v ≡ discard_with n → i ≡ no_identifier → l ≡ no_language
    → ◌≡◌ {A = Ruling} (record { verdict = v; offset = o; count = 0; tenant = 0; xid = 0; id = i; features = false; list_asked = false; time_asked = false; language = l }) (discard_ruling n o)
discard_is n o {v} {i} {l} p q w = ap₂ (λ (v : Verdict) (i : Identifier). made v i l) p q ∙ ap (made (discard_with n) no_identifier) w
  where
    made : Verdict → Identifier → Language → Ruling
    made v i l = record { verdict = v; offset = o; count = 0; tenant = 0; xid = 0; id = i; features = false; list_asked = false; time_asked = false; language = l }

pub untouched_is : (n o : ℕ) {r : Ruling} {e : Edit} → r ≡ discard_ruling n o → e ≡ no_edit → ◌≡◌ {A = Judged} (record { ruling = r; edit = e }) (record { ruling = discard_ruling n o; edit = no_edit })
untouched_is n o p q = ap₂ {C = Judged} (λ (r : Ruling) (e : Edit). record { ruling = r; edit = e }) p q

-- a discard edits nothing
pub judges_untouched : (n o : ℕ) (b : Book) (h : ℕ) (r : Judged) → r ≡ record { ruling = discard_ruling n o; edit = no_edit } → Judges (judged_at n o b) b h r
judges_untouched n o b h r e = record { ruling = ap (λ (x : Judged). x.ruling) e; book = sym (ap (λ (x : Judged). edited_book x.edit h b) e ∙ edited_none b h) }

judges_as : {a a' : Judgement} {b : Book} {h : ℕ} {r : Judged} → a ≡ a' → Judges a b h r → Judges a' b h r
judges_as {b = b} {h} {r} e v = subst (λ (z : Judgement). Judges z b h r) e v

-- of the book the code has the tenant's records and what all tenants hold; of the tenant's releases, the entries q
pub judges_decided : (s : State) (t : LeaseTable) (k : Memory) (names : List ℕ) (q : TenantReleases) (h : ℕ) (m : Fields) (x : Counted) {own : TenantLeases} {held : HeldTable} {r : Ruling}
    → View s t h own held → x ≡ record { decided = decide_in s (in_use own) (remembered q) held h m; count = count_of s (in_use own) (remembered q) m } → q ≡ releases_at k h → r ≡ ruling_on h m x.count x.decided.verdict
    → Judges (judged_by (book_of s t k names) h m (decided_for (book_of s t k names) h m)) (book_of s t k names) h (record { ruling = r; edit = x.decided.edit })
judges_decided s t k names q h m x {r = r} v e f w =
    subst (λ (z : Decided). Judges (judged_by (book_of s t k names) h m z) (book_of s t k names) h (record { ruling = r; edit = x.decided.edit }))
    (ap (λ (y : Counted). y.decided) e ∙ decide_in_law v m (remembered q) ∙ ap (λ (z : TenantReleases). decide_of s t (remembered z) h m) f)
    (record {
      ruling = w ∙ ap (λ (n : ℕ). ruling_on h m n x.decided.verdict) (ap (λ (y : Counted). y.count) e ∙ ap (λ (y : TenantLeases). count_of s (in_use y) (remembered q) m) v.records ∙ ap (λ (z : TenantReleases). count_of s (own_of t h) (remembered z) m) f);
      book = refl;
    })

-- ---- test 7
abbrev ruled : Book → ℕ → Fields → Judgement
ruled b h m = judged_by b h m (decided_for b h m)

module _ (b : Book) (h : ℕ) (m : Fields) {r : Judged} where
  pub for_any : (m.kind ≡ 3 → ⊥) → Judges (ruled b h m) b h r → Judges (judge_server b h m) b h r
  unfolding judge_server pick
  for_any e v = judges_as (sym (ap (λ (t : Bool). pick (t && not m.ours) (judged_at 7 0 b) (ruled b h m)) (ne_eqb m.kind 3 e))) v

  pub for_ours : m.kind ≡ 3 → m.ours ≡ true → Judges (ruled b h m) b h r → Judges (judge_server b h m) b h r
  unfolding judge_server pick
  for_ours e o v = judges_as (sym (ap₂ (λ (t u : Bool). pick (t && not u) (judged_at 7 0 b) (ruled b h m)) (eq-eqb m.kind 3 e) o)) v

  pub for_others : m.kind ≡ 3 → m.ours ≡ false → Judges (judged_at 7 0 b) b h r → Judges (judge_server b h m) b h r
  unfolding judge_server pick
  for_others e o v = judges_as (sym (ap₂ (λ (t u : Bool). pick (t && not u) (judged_at 7 0 b) (ruled b h m)) (eq-eqb m.kind 3 e) o)) v

-- ---- tests 4 to 6
module _ (s : List ℕ) (r : Reading) (e : r ≡ read_of s) where
  pub reading_good : GoodPlaces s r.message.places
  reading_good = subst (λ (x : Reading). GoodPlaces s x.message.places) (sym e) (read_good s)

  pub reading_short : r.discard ≡ 0 → length s ≤ longest_datagram
  reading_short z = read_short s (sym (ap (λ (x : Reading). x.discard) e) ∙ z)

  module _ (b : Book) (h : ℕ) {v : Judged} where
    pub reading_taken : (f : Fields) → r.discard ≡ 0 → f ≡ fields_of s b.state.server r.message → Judges (judge_server b h f) b h v → Judges (judge_reading b h s (read_of s)) b h v
    unfolding judge_reading pick
    reading_taken f z q w =
        subst (λ (q : Reading). Judges (judge_reading b h s q) b h v) e
        (judges_as (sym (ap (λ (t : Bool). pick t (judge_server b h (fields_of s b.state.server r.message)) (judged_at r.discard r.fault b)) (eq-eqb r.discard 0 z)))
        (judges_as (ap (judge_server b h) q) w))

    pub reading_discarded : (r.discard ≡ 0 → ⊥) → Judges (judged_at r.discard r.fault b) b h v → Judges (judge_reading b h s (read_of s)) b h v
    unfolding judge_reading pick
    reading_discarded z w =
        subst (λ (q : Reading). Judges (judge_reading b h s q) b h v) e
        (judges_as (sym (ap (λ (t : Bool). pick t (judge_server b h (fields_of s b.state.server r.message)) (judged_at r.discard r.fault b)) (ne_eqb r.discard 0 z))) w)
