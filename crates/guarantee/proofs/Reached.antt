-- Laws: a call reaches the decision just where tests 1 to 7 pass.
use Prim.Native.Nat.{◌≤◌, ◌<◌}
use mathlib.Core.Path.{◌≡◌, ap, ◌∙◌}
use mathlib.Core.Bool.{Bool, true, false, not, ◌&&◌}
use native.Mathlib.Omega.{arith}
use lib.Dec.{ltb, eqb}
use borrow.Author.Tests.{eq-eqb, eqb-false, eqb-true, le-ltb, lt-ltb, ltb-false, ltb-true}
use Rattle.lists.specs.Pick.{pick}
use Rattle.message.specs.laws.Placed.{pick_cases}
use Rattle.message.specs.Read.{read_of}
use Rattle.reply.specs.Reply.{least_room}
use Rattle.state.specs.Book.{Book}
use Rattle.releases.specs.Whole.{book_b}
use Rattle.soundness.specs.Sound.{tenants_in}
use Rattle.server.specs.Serve.{Answer, Call, answered, at_clock, decided_for, for_server, serve_of, with_reading}
use Rattle.guarantee.specs.Statement.{book_at, says_of, state_at, tenant_for}

-- ---- tests that go one way
pub pick_then : {A : Type 0} (t : Bool) (x y : A) → t ≡ true → pick t x y ≡ x
unfolding pick
pick_then t x y e = ap (λ (b : Bool). pick b x y) e

pub pick_else : {A : Type 0} (t : Bool) (x y : A) → t ≡ false → pick t x y ≡ y
unfolding pick
pick_else t x y e = ap (λ (b : Bool). pick b x y) e

-- ---- tests 1 to 7
pub record Reaches (b : Book) (c : Call) : Type 0 where
  pub sound : book_b b ≡ true
  pub room : least_room ≤ c.room
  pub house : tenant_for b c < tenants_in (state_at b c)
  pub read : (read_of c.datagram).discard ≡ 0
  pub ours : (eqb (says_of b c).kind 3 && not (says_of b c).ours) ≡ false

module _ (b : Book) (c : Call) where
  pub decided_there : Reaches b c → serve_of b c ≡ answered (book_at b c) (tenant_for b c) (says_of b c) (decided_for (book_at b c) (tenant_for b c) (says_of b c))
  unfolding serve_of at_clock with_reading for_server
  decided_there v =
      pick_then (book_b b) _ _ v.sound
      ∙ pick_else (ltb c.room least_room) _ _ (le-ltb c.room least_room v.room)
      ∙ pick_then (ltb (tenant_for b c) (tenants_in (state_at b c))) _ _ (lt-ltb (tenant_for b c) (tenants_in (state_at b c)) v.house)
      ∙ pick_then (eqb (read_of c.datagram).discard 0) _ _ (eq-eqb (read_of c.datagram).discard 0 v.read)
      ∙ pick_else (eqb (says_of b c).kind 3 && not (says_of b c).ours) _ _ v.ours

  Replied : Answer → Type 0
  Replied a = a.outcome ≡ 0 → Reaches b c

  pub reaches : (serve_of b c).outcome ≡ 0 → Reaches b c
  unfolding serve_of at_clock with_reading for_server Replied
  reaches =
      pick_cases Replied (book_b b) _ _
      (λ sound. pick_cases Replied (ltb c.room least_room) _ _ (λ _ z. absurd (omega arith))
      (λ room. pick_cases Replied (ltb (tenant_for b c) (tenants_in (state_at b c))) _ _
      (λ house. pick_cases Replied (eqb (read_of c.datagram).discard 0) _ _
      (λ read. pick_cases Replied (eqb (says_of b c).kind 3 && not (says_of b c).ours) _ _ (λ _ z. absurd (omega arith))
      (λ ours _. record {
        sound = sound;
        room = ltb-false c.room least_room room;
        house = ltb-true (tenant_for b c) (tenants_in (state_at b c)) house;
        read = eqb-true (read_of c.datagram).discard 0 read;
        ours = ours;
      }))
      (λ read z. absurd (eqb-false (read_of c.datagram).discard 0 read z))) (λ _ z. absurd (omega arith)))) (λ _ z. absurd (omega arith))
