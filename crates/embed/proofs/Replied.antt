-- Laws: the second half for a host, in each of its cases: a short room, a refused file, a verdict that is written.
use Prim.Native.Nat.{ℕ, ◌-◌, ◌≤◌, ◌<◌}
use mathlib.Core.Path.{◌≡◌, refl, sym, ap, ◌∙◌, subst}
use mathlib.Core.List.{List}
use native.Mathlib.Omega.{arith}
use lib.ListN.{drop, length, take}
use Rattle.lists.specs.laws.Pick.{pick_eq, pick_lt, pick_not_eq, pick_not_lt}
use Rattle.reply.specs.Reply.{least_room}
use Rattle.server.specs.declared.Outcome.{Outcome}
use Rattle.server.specs.declared.Ruling.{Ruling}
use Rattle.server.specs.Serve.{Said, Tells}
use Rattle.server.specs.Halves.{silent, write_of}
use Rattle.verdict_octets.specs.Octets.{ruling_in}
use Rattle.std.specs.Prelude.{Option, Some, None, Result, Ok, Err}
use Rattle.state_file.specs.declared.Refusal.{Refusal}
use Rattle.state_file.specs.declared.Refusal.TheVariants.{WrongForm}
use Rattle.state_file.specs.declared.Loaded.{Loaded}
use Rattle.state_file.specs.declared.Places.{Places}
use Rattle.state_file.specs.Place.{file_at, FormedBy}
use Rattle.state_file.specs.StateFile.{book_in, code_of, loaded, names_of, read_file, refusal_number}
use Rattle.state_file.proofs.Loads.{check_not, names_yes, read_yes}
use Rattle.records.specs.laws.Files.{refused_not_0}
use Rattle.embed.specs.Halves.{reply_file}

-- a number alone, and a room that is left as it was
tells_silent : (k : ℕ) (room : List ℕ) {a : Said} {r : Outcome} → silent k 0 0 ≡ a → r ≡ record { outcome = k; length = 0; offset = 0; count = 0 } → Tells a room room r
tells_silent k room {r = r} e q =
    subst (λ (x : Said). Tells x room room r) e
    (record { outcome = ap (λ (x : Outcome). x.outcome) q; offset = ap (λ (x : Outcome). x.offset) q; count = ap (λ (x : Outcome). x.count) q; size = ap (λ (x : Outcome). x.length) q; buffer = refl })

module _ (f v room : List ℕ) where
  pub reply_short : {r : Outcome} → length room < least_room → r ≡ record { outcome = 2; length = 0; offset = 0; count = 0 } → Tells (reply_file f v (length room)) room room r
  unfolding reply_file
  reply_short h q = tells_silent 2 room (pick_lt _ _ _ (length room) least_room h refl) q

  module _ (h : least_room ≤ length room) where
    reply_refused : {k : ℕ} {r : Outcome} → (k ≡ 0 → ⊥) → k ≡ refusal_number (read_file f) → r ≡ record { outcome = k; length = 0; offset = 0; count = 0 } → Tells (reply_file f v (length room)) room room r
    unfolding reply_file
    reply_refused {k} z g q =
        tells_silent k room
        (pick_not_lt _ _ _ (length room) least_room h (pick_not_eq _ _ _ (refusal_number (read_file f)) 0 (λ p. z (g ∙ p)) (ap (λ (x : ℕ). silent x 0 0) g))) q

    reply_written : {l : Loaded} {x : Ruling} {names after : List ℕ} {r : Outcome} → Ok l ≡ read_file f → x ≡ ruling_in v → names ≡ names_of f → Tells (write_of x l.state names (length room)) room after r
        → Tells (reply_file f v (length room)) room after r
    unfolding reply_file refusal_number book_in
    reply_written {l} {x} {names} {after} {r} e p t u =
        subst (λ (a : Said). Tells a room after r)
        (pick_not_lt _ _ _ (length room) least_room h (pick_eq _ _ _ (refusal_number (read_file f)) 0 (sym (ap refusal_number e)) (
        ap (λ (y : Ruling). write_of y l.state names (length room)) p ∙ ap (λ (y : Result Loaded Refusal). write_of (ruling_in v) (book_in y).state names (length room)) e
        ∙ ap (λ (y : List ℕ). write_of (ruling_in v) (book_in (read_file f)).state y (length room)) t
        ))) u

    -- a form that is wrong, and one that is right
    module _ {y : Option Places} (w : FormedBy f y) where
      pub reply_wrong : {r : Outcome} → y ≡ None → r ≡ record { outcome = 20; length = 0; offset = 0; count = 0 } → Tells (reply_file f v (length room)) room room r
      unfolding code_of
      reply_wrong e q = reply_refused (λ p. absurd (omega arith)) (check_not f w WrongForm e refl) q

      module _ {p : Places} (e : y ≡ Some p) where
        pub reply_unsound : {i : Refusal} {k : ℕ} {r : Outcome} → Err i ≡ loaded (file_at f p) → k ≡ code_of i → r ≡ record { outcome = k; length = 0; offset = 0; count = 0 } → Tells (reply_file f v (length room)) room room r
        unfolding refusal_number
        reply_unsound {i} q g a = reply_refused (λ z. refused_not_0 i (sym g ∙ z)) (g ∙ ap refusal_number (read_yes f w (Err i) e q)) a

        pub reply_right : {l : Loaded} {x : Ruling} {after : List ℕ} {r : Outcome} → Ok l ≡ loaded (file_at f p) → x ≡ ruling_in v
            → Tells (write_of x l.state (take (p.releases - p.names) (drop p.names f)) (length room)) room after r → Tells (reply_file f v (length room)) room after r
        reply_right {l} q a u = reply_written (read_yes f w (Ok l) e q) a (names_yes f w _ e refl) u
