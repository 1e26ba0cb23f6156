-- Laws: the first file, and one file more.
use Rattle.std.specs.Prelude.{ℕ, ◌≡◌, Bool, true, false, ◌&&◌, [], eqb, ltb, refl, replicate, Ok, Err}
use Rattle.std.proofs.Common.{ap, ap₂, sym, ◌∙◌}
use Rattle.lists.specs.Pick.{pick}
use Rattle.state.specs.declared.State.{State}
use Rattle.state.specs.declared.TenantLeases.{TenantLeases}
use Rattle.state.specs.Book.{laid_out, table_of}
use Rattle.state_file.specs.declared.Loaded.{Loaded}
use Rattle.state_file.specs.declared.Refusal.{Refusal}
use Rattle.state_file.specs.declared.Refusal.TheVariants.{WrongForm, UnsoundFile, UnsoundBook, ShortRoom}
use Rattle.state_file.specs.StateFile.{book_in, code_of, refusal_number, zero_state, zero_table}
use Rattle.usage.specs.declared.FileRefusal.TheVariants.{Unread, OutOfOrder}
use Rattle.usage.specs.declared.Totals.{Totals}
use Rattle.usage.specs.declared.Report.{Report}
use Rattle.usage.specs.Usage.{follows, number_of, same_settings}
use Rattle.usage.specs.Report.{Step, added_totals, begun, capped_sum, first_count, next_of, no_report, no_totals, told_after, with_file}

pub no_report_is : {s : State} {z : TenantLeases} {t : Totals} → s ≡ zero_state → z ≡ laid_out [] → t ≡ no_totals
    → ◌≡◌ {A = Report} (record { count = 0; first = s; clock = 0; table = record { tenants = replicate 8 z }; totals = t }) no_report
unfolding zero_table table_of
no_report_is p q r = rw (p, q, r) refl

pub begun_ok : (b : Loaded) (t : Totals) → t ≡ no_totals
    → told_after no_report (Ok (record { count = 1; first = b.state; clock = b.state.clock; table = b.table; totals = t })) ≡ begun (Ok b)
unfolding begun told_after book_in refusal_number first_count pick
begun_ok b t p = ap {B = Step} (λ (v : Totals). record { refusal = 0; report = record { count = 1; first = b.state; clock = b.state.clock; table = b.table; totals = v } }) p

pub begun_err : (e : Refusal) → told_after no_report (Err (Unread e)) ≡ begun (Err e)
unfolding begun told_after book_in refusal_number code_of first_count pick
begun_err WrongForm = refl
begun_err UnsoundFile = refl
begun_err UnsoundBook = refl
begun_err ShortRoom = refl

pub with_is : (r : Report) (f : Loaded) (n : ℕ) (t : Totals) → n ≡ capped_sum r.count 1 → t ≡ added_totals r.table r.clock f.state.clock r.totals
    → record { count = n; first = r.first; clock = f.state.clock; table = f.table; totals = t } ≡ with_file r f
unfolding with_file
with_is r f n t e p = ap₂ {C = Report} (λ (m : ℕ) (v : Totals). record { count = m; first = r.first; clock = f.state.clock; table = f.table; totals = v }) e p

-- ---- one file more
module _ (s : State) (c : ℕ) (b : Loaded) where
  pub follows_both : {q : Bool} → q ≡ same_settings s b.state → q ≡ true → ltb c b.state.clock ≡ follows s c (Ok b)
  unfolding follows book_in
  follows_both e y = ap (λ (x : Bool). x && ltb c b.state.clock) (sym y ∙ e)

  pub follows_not : {q : Bool} → q ≡ same_settings s b.state → q ≡ false → false ≡ follows s c (Ok b)
  unfolding follows book_in
  follows_not e y = ap (λ (x : Bool). x && ltb c b.state.clock) (sym y ∙ e)

module _ (r : Report) where
  module _ (b : Loaded) {q : Bool} (e : q ≡ follows r.first r.clock (Ok b)) where
    pub next_ok : (x : Report) → q ≡ true → x ≡ with_file r b → told_after r (Ok x) ≡ next_of r (Ok b)
    unfolding next_of number_of told_after book_in refusal_number pick
    next_ok x y p =
        ap {B = Step} (λ (z : Report). record { refusal = 0; report = z }) p
        ∙ ap (λ (t : Bool). pick {A = Step} (eqb (pick {A = ℕ} t 0 26) 0) (record { refusal = 0; report = with_file r b }) (record { refusal = pick {A = ℕ} t 0 26; report = r })) (sym y ∙ e)

    pub next_late : q ≡ false → told_after r (Err OutOfOrder) ≡ next_of r (Ok b)
    unfolding next_of number_of told_after book_in refusal_number pick
    next_late y =
        ap (λ (t : Bool). pick {A = Step} (eqb (pick {A = ℕ} t 0 26) 0) (record { refusal = 0; report = with_file r b }) (record { refusal = pick {A = ℕ} t 0 26; report = r })) (sym y ∙ e)

  pub next_err : (e : Refusal) → told_after r (Err (Unread e)) ≡ next_of r (Err e)
  unfolding next_of number_of told_after refusal_number code_of pick
  next_err WrongForm = refl
  next_err UnsoundFile = refl
  next_err UnsoundBook = refl
  next_err ShortRoom = refl
