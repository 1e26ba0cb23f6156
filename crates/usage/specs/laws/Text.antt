-- Laws: the lines of a report, and the rooms that they are written into.
use Rattle.std.specs.Prelude.{ℕ, ◌+◌, ◌≤◌, ◌<◌, min, ◌≡◌, Bool, List, [], ◌∷◌, ◌++◌, get_or, length}
use Rattle.std.proofs.Math.Path.{sym}
use Rattle.std.proofs.Common.{ap, ap₂, ◌∙◌, append_assoc, arith}
use Rattle.std.proofs.Math.ListN.{drop}
use borrow.Author.Tests.{le-ltb, lt-ltb}
use Rattle.lists.specs.Pick.{pick}
use Rattle.octets.specs.Octets.{Wrote}
use Rattle.octets.specs.laws.Octets.{whole_length, wrote_as, wrote_joined, wrote_whole}
use Rattle.number_text.specs.Text.{Line, dotted, field, lines_to}
use Rattle.number_text.specs.laws.Text.{LinesInv, line_as, line_join, lines_end}
use Rattle.state.specs.declared.Scope.{Scope}
use Rattle.state.specs.declared.State.{State}
use Rattle.state.specs.Book.{scope_at}
use Rattle.usage.specs.declared.ScopeTotals.{ScopeTotals}
use Rattle.usage.specs.declared.Totals.{Totals}
use Rattle.usage.specs.Usage.{header_line, line_text, refused_text, report_text, scope_lines, total_line, total_lines}
use Rattle.usage.specs.Report.{length_in, no_scope_totals, room_with, total_in}

pub line_wrote : {r₀ r₁ r₂ r₃ r₄ : List ℕ} {at w x y z : ℕ} (a g total : ℕ) → at ≤ length r₀ → Line r₀ at (dotted a) r₁ w 15 → Line r₁ w (field g) r₂ x 21 → Line r₂ x (field total) r₃ y 21 → Line r₃ y (10 ∷ []) r₄ z 1
    → Line r₀ at (line_text a g total) r₄ z 58
unfolding line_text
line_wrote a g total h p q u v = line_as (simp append_assoc) (omega arith) (line_join h (line_join h (line_join h p q) u) v)

pub tenant_wrote : {r₀ r₁ : List ℕ} {at z : ℕ} (s : State) (t : Totals) (k g n : ℕ) (c : Scope) (v : ScopeTotals) → c ≡ scope_at s k → v ≡ get_or t.scopes k no_scope_totals → n ≡ g + 1
    → Line r₀ at (line_text c.lowest n (get_or v.tenants g 0)) r₁ z 58 → Line r₀ at (total_line s (total_in t) k g) r₁ z 58
unfolding total_line
tenant_wrote s t k g n c v e f p w =
    line_as (ap₂ (λ (x : Scope) (m : ℕ). line_text x.lowest m (get_or v.tenants g 0)) e p ∙ ap (λ (x : ScopeTotals). line_text (scope_at s k).lowest (g + 1) (get_or x.tenants g 0)) f) (omega arith) w

pub scope_done : {r₀ r₁ : List ℕ} {at to i n : ℕ} (s : State) (t : Totals) (k : ℕ) → LinesInv (total_line s (total_in t) k) 58 n r₀ at r₁ to i → n ≡ min s.tenant_count 8 → n ≤ i → Line r₀ at (scope_lines s (total_in t) k) r₁ to 464
unfolding scope_lines
scope_done s t k v e h = line_as (ap (lines_to (total_line s (total_in t) k)) e) (omega arith) (lines_end v h)

pub scopes_done : {r₀ r₁ : List ℕ} {at to i n : ℕ} (s : State) (t : Totals) → LinesInv (scope_lines s (total_in t)) 464 n r₀ at r₁ to i → n ≡ min s.scope_count 4 → n ≤ i → Line r₀ at (total_lines s (total_in t)) r₁ to 1856
unfolding total_lines
scopes_done s t v e h = line_as (ap (lines_to (scope_lines s (total_in t))) e) (omega arith) (lines_end v h)

pub report_wrote : {r₀ r₁ r₂ : List ℕ} {a b : ℕ} (s : State) (t : Totals) → Wrote r₀ 0 header_line r₁ a → Line r₁ a (total_lines s (total_in t)) r₂ b 1856 → Wrote r₀ 0 (report_text s (total_in t)) r₂ b
report_wrote s t p q = wrote_joined (omega arith) p q.wrote

pub refused_wrote : {r₀ r₁ r₂ r₃ r₄ : List ℕ} {a b c d : ℕ} (n p : ℕ) → Wrote r₀ 0 (114 ∷ 101 ∷ 102 ∷ 117 ∷ 115 ∷ 101 ∷ 100 ∷ []) r₁ a → Line r₁ a (field n) r₂ b 21 → Line r₂ b (field p) r₃ c 21 → Line r₃ c (10 ∷ []) r₄ d 1
    → Wrote r₀ 0 (refused_text n p) r₄ d
unfolding refused_text
refused_wrote n p e f g h =
    wrote_as (simp append_assoc) (wrote_joined (omega arith) (wrote_joined (omega arith) (wrote_joined (omega arith) e f.wrote) g.wrote) h.wrote)

-- ---- the room
module _ (text room : List ℕ) where
  pub room_short : length room < 4096 → (◌≡◌ {A = ℕ} 0 (length_in text room)) × (room ≡ room_with text room)
  unfolding length_in room_with pick
  room_short h = let e = lt-ltb (length room) 4096 h in
      (sym (ap (λ (b : Bool). pick b 0 (length text)) e), sym (ap (λ (b : Bool). pick b room (text ++ drop (length text) room)) e))

  pub room_wrote : (now : List ℕ) (k : ℕ) → 4096 ≤ length room → Wrote room 0 text now k → (k ≡ length_in text room) × (now ≡ room_with text room)
  unfolding length_in room_with pick
  room_wrote now k h w = let e = le-ltb (length room) 4096 h in
      (whole_length w ∙ sym (ap (λ (b : Bool). pick b 0 (length text)) e), wrote_whole w ∙ sym (ap (λ (b : Bool). pick b room (text ++ drop (length text) room)) e))
