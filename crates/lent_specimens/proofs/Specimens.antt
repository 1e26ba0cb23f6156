-- Specimens: document 01's specimens, a RELEASE sent again (document 02, W-202) and the board (W-207) through the lent call, over the tables of guarantee's; and the premises of the lent statements, met by the same book, lent as 128
-- records.
use mathlib.Core.Path.{◌≡◌, refl, sym, ap, ◌∙◌, subst}
use mathlib.Core.Bool.{Bool, true}
use mathlib.Core.List.{List, [], ◌∷◌}
use lib.ListN.{replicate}
use Rattle.lists.specs.All.{All, all_by}
use Rattle.lists.specs.laws.All.{all_same}
use Rattle.state.specs.Book.{Book, zero_lease}
use Rattle.releases.specs.Whole.{book_b}
use Rattle.server.specs.Serve.{Answer, Call, serve_of}
use Rattle.admission.specs.Tests.{lease_id_in}
use Rattle.guarantee.specs.Statement.{Granted, NewRequest, NoHold, run, says_of, tenant_for}
use Rattle.offer_guarantee.specs.Statement.{Elsewhere, GrantedAsOffered, Offered, OfferedAs, TakesUp, requested}
use Rattle.call_guarantee.specs.Statement.{Narrow}
use Rattle.best_grant.specs.Best.{AsksRule, Best}
use Rattle.guarantee_specimens.proofs.BestSpecimens as best
use Rattle.guarantee_specimens.proofs.Opened.{computed}
use Rattle.guarantee_specimens.proofs.Specimens.{BoardCase, Case, ReleaseCase, agrees, between, board_specimens, board_table, book, d3, discover, discovers, discovers3, free, holds, house2, keeps, narrow, new, offered, offered3, others, p1, p3, release_specimens, release_table, remembers, shows, shows_on, sound, specimens, table, takes, takes_up}
use Rattle.record_verdict.specs.Verdict.{ledger_of}
use Rattle.records.specs.Records.{rows, table_from, tenant_from}
use Rattle.lent_guarantee.specs.Statement.{answer_of, lent_book, Lent, LentDemand3, LentOfferHeld, LentOfferRule, run_lent, served, SoundLent}
use Rattle.lent_guarantee.specs.Best.{LentNobodyMore}
use Rattle.lent_guarantee.proofs.Best.{lent_nobody_more}
use Rattle.lent_guarantee.proofs.Guaranteed.{lent_demand3, lent_offer_held, lent_offer_rule, run_lent_law}
use Rattle.lent_guarantee.proofs.Same.{same}

-- the specimens' book, lent as 128 unused records
campus : Lent
campus = record { ledger = ledger_of book; leases = replicate 128 zero_lease; names = book.names }

same_book : lent_book campus ≡ book
unfolding campus computed rows table_from tenant_from
same_book = refl

met : SoundLent campus
unfolding campus
met = record { whole = refl; eight = sound.memory; sound = ap book_b same_book ∙ sound.sound }

run_same : (cs : List Call) → lent_book (run_lent campus cs) ≡ run book cs
run_same cs = (run_lent_law campus cs met).1 ∙ ap (λ (b : Book). run b cs) same_book

-- the lent answer to the last of some calls
lent_answer_law : List Call → Call → Answer
lent_answer_law before last = answer_of (run_lent campus before).names (served (run_lent campus before) last)

as_served : (before : List Call) (last : Call) → lent_answer_law before last ≡ serve_of (run book before) last
unfolding lent_answer_law
as_served before last =
    same (run_lent campus before).ledger (run_lent campus before).leases (run_lent campus before).names last (run_lent_law campus before met).0.whole
    ∙ ap (λ (b : Book). serve_of b last) (run_same before)

-- ---- P1 to P12
lent_holds : Case → Bool
lent_holds c = agrees c (lent_answer_law c.before c.last)

lent_specimens : all_by lent_holds table ≡ true
unfolding lent_holds holds
lent_specimens = all_same lent_holds holds table (λ c. ap (agrees c) (as_served c.before c.last)) ∙ specimens

-- ---- a RELEASE sent again
lent_keeps : ReleaseCase → Bool
lent_keeps c = remembers c (lent_answer_law c.case.before c.case.last)

lent_release_specimens : all_by lent_keeps release_table ≡ true
unfolding lent_keeps keeps
lent_release_specimens = all_same lent_keeps keeps release_table (λ c. ap (remembers c) (as_served c.case.before c.case.last)) ∙ release_specimens

-- ---- the board
lent_shows : BoardCase → Bool
lent_shows c = shows_on c (run_lent campus c.calls).ledger.memory.board

lent_board_specimens : all_by lent_shows board_table ≡ true
unfolding lent_shows shows
lent_board_specimens = all_same lent_shows shows board_table (λ c. ap (λ (b : Book). shows_on c b.memory.board) (run_same c.calls)) ∙ board_specimens

-- ---- demand 3: P3 after P1
granted : Granted (lent_book (run_lent campus (p1 ∷ []))) p3 (answer_of (run_lent campus (p1 ∷ [])).names (served (run_lent campus (p1 ∷ [])) p3))
unfolding LentDemand3
granted = (lent_demand3 campus met (p1 ∷ [])).next p3 (subst (λ (b : Book). NewRequest b p3) (sym (run_same (p1 ∷ []))) new)

-- ---- W-214: a grant below the desired number, after house 1's lease on .0
best_met : Best (lent_book (run_lent campus (best.one ∷ []))) (best.later 1 4) (lent_answer_law (best.one ∷ []) (best.later 1 4))
unfolding LentNobodyMore lent_answer_law
best_met =
    lent_nobody_more (run_lent campus (best.one ∷ [])) (run_lent_law campus (best.one ∷ []) met).0 (best.later 1 4)
    (subst (λ (b : Book). AsksRule b (best.later 1 4)) (sym (run_same (best.one ∷ []))) best.asks)

-- ---- demand 1's bound, and the OFFER rule
lent_narrow : Narrow (lent_book campus)
lent_narrow = subst Narrow (sym same_book) narrow

abbrev asks : Call
asks = house2 1000 (discover 1 4)

offer_met : OfferedAs (lent_book campus) asks (answer_of campus.names (served campus asks)) (answer_of campus.names (served campus (requested asks)))
unfolding LentOfferRule campus
offer_met = lent_offer_rule campus asks refl discovers (subst (λ (b : Book). NoHold b asks) (sym same_book) free)

lent_offered : Offered (answer_of campus.names (served campus asks))
lent_offered = subst Offered (sym (same campus.ledger campus.leases campus.names asks met.whole ∙ ap (λ (b : Book). serve_of b asks) same_book)) offered

-- ---- the held offer, taken up at its last second
lent_held : GrantedAsOffered (lent_book campus) d3 (lent_book (run_lent campus (d3 ∷ between))) (takes_up 1029 2) (answer_of campus.names (served campus d3))
    (answer_of (run_lent campus (d3 ∷ between)).names (served (run_lent campus (d3 ∷ between)) (takes_up 1029 2)))
unfolding LentOfferHeld run campus
lent_held = lent_offer_held campus met d3 discovers3
    (subst Offered (sym (same campus.ledger campus.leases campus.names d3 met.whole ∙ ap (λ (b : Book). serve_of b d3) same_book)) offered3)
    between (subst (λ (b : Book). All (Elsewhere b.state (tenant_for b d3) (lease_id_in (says_of b d3))) between) (sym same_book) others)
    (takes_up 1029 2) (subst (λ (b : Book). TakesUp (lent_book campus) d3 b (takes_up 1029 2)) (sym (run_same (d3 ∷ between))) (subst (λ (b : Book). TakesUp b d3 (run book (d3 ∷ between)) (takes_up 1029 2)) (sym same_book) takes))
