-- Laws: calls of other houses, and of the house itself for other identifiers, leave the house's record of an identifier, as long as the clock has not come to its
-- lapse or end.
use Rattle.std.specs.Prelude.{IfSome}
use Rattle.std.proofs.lemmas.Option.{IfSome_then}
use Prim.Native.Nat.{ℕ, ◌≤◌, ◌<◌, max}
use mathlib.Core.Path.{◌≡◌, refl, sym, ap, ◌∙◌}
use mathlib.Core.Bool.{Bool, true, false}
use mathlib.Core.List.{List, [], ◌∷◌}
use native.Mathlib.Omega.{arith}
use lib.Dec.{ltb, eqb}
use borrow.Author.Tests.{eqb-false, eqb-true, lt-ltb}
use Rattle.lists.specs.Pick.{pick}
use Rattle.lists.specs.All.{All}
use Rattle.lists.specs.Filter.{filter_by}
use Rattle.message.specs.declared.Fields.{Fields}
use Rattle.message.specs.laws.Placed.{pick_cases}
use Rattle.message.specs.Read.{read_of}
use Rattle.message.specs.Values.{fields_of}
use Rattle.releases.specs.Whole.{book_b}
use Rattle.reply.specs.Reply.{least_room}
use Rattle.soundness.specs.Sound.{tenants_in}
use Rattle.state.specs.declared.Edit.{Edit}
use Rattle.state.specs.declared.Lease.{Lease}
use Rattle.state.specs.declared.LeaseTable.{LeaseTable}
use Rattle.state.specs.declared.Release.{Release}
use Rattle.state.specs.declared.State.{State}
use Rattle.state.specs.declared.TenantLeases.{TenantLeases}
use Rattle.state.specs.Book.{Book, advanced, dropped, id_of, in_use, laid_out, live_of, named, raised, tenant_at, until, with_clock}
use Rattle.state.specs.laws.Edit.{applied}
use Rattle.state.specs.Edit.{edited_in, no_edit, applied_by}
use Rattle.state.specs.laws.Edited.{applied_others}
use Rattle.state.specs.laws.Named.{edited_other, named_live}
use Rattle.decision.specs.declared.Decided.{Decided}
use Rattle.proposal.specs.Proposals.{held_from, lease_from, turned}
use Rattle.admission.specs.Tests.{is_held, is_leased, lease_id_in, own_of}
use Rattle.decision.specs.Decide.{decide_of}
use Rattle.decision_laws.specs.laws.Cases.{decided_by, held_there, leased_there, old_for, found_for}
use Rattle.decision_laws.specs.laws.Kept.{held_named}
use Rattle.server.specs.Serve.{Answer, Call, at_clock, for_server, serve_of, tenant_of, with_reading}
use Rattle.guarantee.specs.Statement.{book_at, run, says_of, state_at, tenant_for}
use Rattle.offer_guarantee.specs.Statement.{Elsewhere}
use Rattle.call_guarantee.proofs.Discards.{own_dropped}
use Rattle.call_guarantee.proofs.Bounded.{set_either}

-- ---- calls leave the settings as they are, and the clock never falls
-- x has the settings s, with a clock of its own
abbrev pub SetAs : State → State → Type 0
SetAs s x = x ≡ with_clock s x.clock

-- what a client's tenant is, and what its datagram says, goes by the settings
tenant_set : (s x : State) (client : ℕ) → SetAs s x → tenant_of x client ≡ tenant_of s client
unfolding tenant_of
tenant_set s x client e = ap (λ (y : State). tenant_of y client) e

pub raised_set : (s x : State) (time : ℕ) → SetAs s x → SetAs s (raised x time)
unfolding raised
raised_set s x time e = ap (λ (y : State). with_clock y (max x.clock time)) e

module _ (s : State) (b : Book) (c : Call) where
  Later : Answer → Type 0
  Later a = SetAs s a.book.state × (b.state.clock ≤ a.book.state.clock)

  pub now_set : SetAs s b.state → SetAs s (state_at b c)
  unfolding advanced
  now_set e = raised_set s b.state c.time e

  now_later : SetAs s b.state → Later (record { outcome = 0; offset = 0; count = 0; reply = []; book = book_at b c })
  unfolding advanced raised Later
  now_later e = (now_set e, omega arith)

  pub call_later : SetAs s b.state → SetAs s (serve_of b c).book.state × (b.state.clock ≤ (serve_of b c).book.state.clock)
  unfolding serve_of at_clock with_reading for_server Later
  call_later e =
      let still : SetAs s b.state × (b.state.clock ≤ b.state.clock) = (e, omega arith) in
      let now : SetAs s (state_at b c) × (b.state.clock ≤ (state_at b c).clock) = now_later e in
      pick_cases Later (book_b b) _ _
      (λ _. pick_cases Later (ltb c.room least_room) _ _ (λ _. still)
      (λ _. pick_cases Later (ltb (tenant_for b c) (tenants_in (state_at b c))) _ _
      (λ _. pick_cases Later (eqb (read_of c.datagram).discard 0) _ _ (λ _. pick_cases Later _ _ _ (λ _. now) (λ _. now)) (λ _. now)) (λ _. now))) (λ _. still)

pub run_later : (s : State) (b : Book) (cs : List Call) → SetAs s b.state → SetAs s (run b cs).state × (b.state.clock ≤ (run b cs).state.clock)
unfolding run
run_later s b [] e = (e, omega arith)
run_later s b (c ∷ cs) e =
    let p = call_later s b c e in
    let q = run_later s (serve_of b c).book cs p.0 in
    (q.0, let x = p.1 in let y = q.1 in omega arith)

-- ---- the record o of tenant h's identifier i, the only one
abbrev pub Has : ℕ → List ℕ → Lease → LeaseTable → Type 0
Has h i o t = filter_by (named i) (own_of t h) ≡ o ∷ []

-- what a decision on m does is about its identifier
AboutIt : Fields → Edit → Type 0
AboutIt m e = IfSome e.leaves (λ l. id_of l ≡ lease_id_in m) × IfSome e.enters (λ l. id_of l ≡ lease_id_in m)

about : (s : State) (t : LeaseTable) (q : List Release) (h : ℕ) (m : Fields) → AboutIt m (decide_of s t q h m).edit
unfolding AboutIt lease_from held_from turned
about s t q h m = decided_by s t h m (λ (d : Decided). AboutIt m d.edit) (record {
  resent = λ _. none;
  again = none;
  refused = λ _. none;
  repeated = λ _ _. none;
  taken = λ _ f. (held f, held f);
  offered = λ _ _ _ _. (tt, refl);
  requested = λ _ _ _ _. (tt, refl);
  dropped = λ _ f. (held f, tt);
  moved = λ _ _ f _. (held f, refl);
  renewed = λ _ _ f _. (leased f, refl);
  released = λ _ f. (leased f, tt);
  informed = none;
}) q
  where
    none : AboutIt m no_edit
    none = (tt, tt)

    held : is_held (found_for t h m) ≡ true → id_of (old_for t h m) ≡ lease_id_in m
    held f = held_named s t h m (held_there (found_for t h m) f)

    leased : is_leased (found_for t h m) ≡ true → id_of (old_for t h m) ≡ lease_id_in m
    leased f = held_named s t h m (leased_there (found_for t h m) f)

module _ (h : ℕ) (i : List ℕ) (o : Lease) where
  live_has : (clock : ℕ) (t : LeaseTable) → clock < until o → Has h i o t → Has h i o (dropped clock t)
  unfolding live_of filter_by pick
  live_has clock t z e =
      ap (filter_by (named i)) (own_dropped clock t h) ∙ named_live clock i (own_of t h) ∙ ap (live_of clock) e
      ∙ ap (λ (b : Bool). pick b (o ∷ []) []) (lt-ltb clock (until o) z)

  pub now_has : (b : Book) (time : ℕ) → (advanced b time).state.clock < until o → Has h i o b.table → Has h i o (advanced b time).table
  unfolding advanced raised
  now_has b time z e = live_has (max b.state.clock time) b.table z e

  edited_has : (e : Edit) (g : ℕ) (m : Fields) (t : LeaseTable) → AboutIt m e → (g ≡ h → lease_id_in m ≡ i → ⊥) → Has h i o t → Has h i o (applied e g t)
  unfolding applied_by AboutIt
  edited_has e g m t about away has = go (eqb g h) refl
    where
      go : (b : Bool) → eqb g h ≡ b → Has h i o (applied e g t)
      go true f =
          let n : lease_id_in m ≡ i → ⊥ = away (eqb-true g h f) in
          set_either (λ (x : TenantLeases). filter_by (named i) (in_use x) ≡ o ∷ []) t.tenants g (edited_in e (tenant_at t g)) h (laid_out [])
          (edited_other e i (tenant_at t g) o (IfSome_then e.leaves about.0 (λ l y p. n (sym y ∙ p))) (IfSome_then e.enters about.1 (λ l y p. n (sym y ∙ p))) (ap (λ (k : ℕ). filter_by (named i) (own_of t k)) (eqb-true g h f) ∙ has)) has
      go false f = ap (λ (x : TenantLeases). filter_by (named i) (in_use x)) (applied_others e g h t (λ p. eqb-false g h f (sym p))) ∙ has

  -- ---- one call elsewhere
  module _ (s : State) (b : Book) (c : Call) (settings : SetAs s b.state) (away : Elsewhere s h i c) (has : Has h i o b.table) where
    Keeps : Answer → Type 0
    Keeps a = a.book.state.clock < until o → Has h i o a.book.table

    away_now : tenant_for b c ≡ h → lease_id_in (says_of b c) ≡ i → ⊥
    unfolding Elsewhere
    away_now p q =
        away (sym (tenant_set s (state_at b c) c.client (now_set s b c settings)) ∙ p)
        (ap (λ (x : State). lease_id_in (fields_of c.datagram x.server (read_of c.datagram).message)) (sym (now_set s b c settings)) ∙ q)

    call_has : Keeps (serve_of b c)
    unfolding serve_of at_clock with_reading for_server Keeps
    call_has =
        let now : Keeps (record { outcome = 3; offset = 0; count = 0; reply = []; book = book_at b c }) = λ z. now_has b c.time z has in
        pick_cases Keeps (book_b b) _ _
        (λ _. pick_cases Keeps (ltb c.room least_room) _ _ (λ _ z. has)
        (λ _. pick_cases Keeps (ltb (tenant_for b c) (tenants_in (state_at b c))) _ _
        (λ _. pick_cases Keeps (eqb (read_of c.datagram).discard 0) _ _
        (λ _. pick_cases Keeps _ _ _ (λ _. now)
        (λ _ z. edited_has _ (tenant_for b c) (says_of b c) (book_at b c).table (about _ _ _ _ _) away_now (now z)))
        (λ _. now)) (λ _. now))) (λ _ z. has)

  -- ---- any list of them
  pub run_has : (s : State) (cs : List Call) (b : Book) → SetAs s b.state → All (Elsewhere s h i) cs → (run b cs).state.clock < until o → Has h i o b.table → Has h i o (run b cs).table
  unfolding run All Keeps
  run_has s [] b e away z has = has
  run_has s (c ∷ cs) b e away z has =
      let p = call_later s b c e in
      let q = run_later s (serve_of b c).book cs p.0 in
      run_has s cs (serve_of b c).book p.0 away.1 z (call_has s b c e away.0 has (let y = q.1 in omega arith))
