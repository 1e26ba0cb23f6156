-- Laws: tests 1 to 3 of a call and of its first half, each as an equation.
use Rattle.std.specs.Prelude.{◌≡◌, Bool, true, false, List, ℕ, ◌≤◌, ◌<◌, ltb}
use Rattle.std.proofs.Math.Path.{sym, ap}
use Rattle.std.proofs.Common.{ap₂, ◌∙◌, arith, lt-ltb, le-ltb}
use Rattle.lists.specs.Pick.{pick}
use Rattle.message.specs.Read.{read_of}
use Rattle.reply.specs.Reply.{least_room}
use Rattle.state.specs.Book.{Book, advanced}
use Rattle.releases.specs.Whole.{book_b}
use Rattle.soundness.specs.Sound.{tenants_in}
use Rattle.server.specs.Serve.{Answer, Call, at_clock, discarded, serve_of, tenant_of}
use Rattle.server.specs.Halves.{Judgement, judge_clock, judge_of, judge_reading, judged_at}

-- ---- test 3
module _ (b : Book) (client : ℕ) (s : List ℕ) (h n : ℕ) (e : h ≡ tenant_of b.state client) (f : n ≡ tenants_in b.state) where
  abbrev by_tenant : Bool → Judgement
  by_tenant t = pick t (judge_reading b (tenant_of b.state client) s (read_of s)) (judged_at 3 0 b)

  pub client_known : h < n → judge_reading b h s (read_of s) ≡ judge_clock b client s
  unfolding judge_clock pick
  client_known g = ap (λ (k : ℕ). judge_reading b k s (read_of s)) e ∙ sym (ap by_tenant (lt-ltb (tenant_of b.state client) (tenants_in b.state) (omega arith)))

  pub client_unknown : n ≤ h → judged_at 3 0 b ≡ judge_clock b client s
  unfolding judge_clock pick
  client_unknown g = sym (ap by_tenant (le-ltb (tenant_of b.state client) (tenants_in b.state) (omega arith)))

-- ---- tests 1 and 2
at_test : Book → Call → Bool → Bool → Answer
at_test b c t u = pick t (pick u (discarded 2 b) (at_clock (advanced b c.time) c.client c.datagram)) (discarded 1 b)

module _ (b : Book) (c : Call) where
  pub call_unsound : book_b b ≡ false → discarded 1 b ≡ serve_of b c
  unfolding serve_of pick at_test
  call_unsound e = sym (ap (λ (t : Bool). at_test b c t (ltb c.room least_room)) e)

  pub call_short : book_b b ≡ true → c.room < least_room → discarded 2 b ≡ serve_of b c
  unfolding serve_of pick at_test
  call_short e g = sym (ap₂ (at_test b c) e (lt-ltb c.room least_room g))

-- test 1 of the first half
module _ (b : Book) (client time : ℕ) (s : List ℕ) where
  abbrev by_sound : Bool → Judgement
  by_sound t = pick t (judge_clock (advanced b time) client s) (judged_at 1 0 b)

  pub judge_unsound : book_b b ≡ false → judged_at 1 0 b ≡ judge_of b client time s
  unfolding judge_of pick
  judge_unsound e = sym (ap by_sound e)

  pub judge_sound : book_b b ≡ true → judge_clock (advanced b time) client s ≡ judge_of b client time s
  unfolding judge_of pick
  judge_sound e = sym (ap by_sound e)
