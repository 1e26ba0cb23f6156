-- Laws: a board agrees with the leases where it is what they say; the drop and an edit keep it so, and the board that the leases make agrees.
use Rattle.std.specs.Prelude.{ℕ, ◌<◌, max, ◌≡◌, Bool, length, get_or, Option, None, Some, IfSome}
use Rattle.std.specs.Option.{option_map_or}
use Rattle.std.proofs.Math.Path.{refl, sym, ap}
use Rattle.std.proofs.Common.{◌∙◌, subst, arith, length-set, get_or-set_same, set-set, lt-ltb}
use Rattle.std.proofs.Math.Bool.{true}
use mathlib.Core.List.{List, [], ◌∷◌, map}
use Rattle.std.proofs.Math.ListN.{set}
use Rattle.std.proofs.lemmas.List.{length-map, set-get_or}
use Rattle.lists.specs.Pick.{pick}
use Rattle.lists.specs.laws.Each.{map_set}
use Rattle.lists.specs.Reordered.{Reordered}
use Rattle.lists.specs.laws.Some.{Part}
use Rattle.occupancy.specs.declared.Board.{Board}
use Rattle.occupancy.specs.Board.{same_board}
use Rattle.occupancy.specs.laws.Same.{board_same, same_board_law}
use Rattle.state.specs.declared.Edit.{Edit}
use Rattle.state.specs.declared.Lease.{Lease}
use Rattle.state.specs.declared.LeaseTable.{LeaseTable}
use Rattle.state.specs.declared.State.{State}
use Rattle.state.specs.declared.TenantLeases.{TenantLeases}
use Rattle.state.specs.Book.{Book, advanced, cleared_to, dropped, id_of, insert_of, inserted_in, in_use, laid_out, leases_of, live_of, remove_of, table_of, tenant_at, board_with, board_without, inserted_by}
use Rattle.state.specs.Board.{board_of, built_of}
use Rattle.state.specs.laws.Edit.{applied}
use Rattle.state.specs.Edit.{board_edited, board_left, edited_in, left_in, applied_by, edited_by}
use Rattle.state.specs.laws.Layout.{read_back, table_back}
use Rattle.state.specs.laws.Sorted.{insert_same}
use Rattle.soundness.specs.Sound.{sound_b, tenants_in}
use Rattle.soundness.specs.laws.Book.{Sound}
use Rattle.soundness.proofs.Lists.{sound_lists}
use Rattle.soundness.specs.laws.Kept.{all_part}
use Rattle.agreement.specs.Agrees.{agrees_b}
use Rattle.agreement.specs.laws.Steps.{Within, one_less, one_more}
use Rattle.agreement.specs.laws.Tenants.{at_tenant, built_all, cleared_all}

-- ---- the test and the fact
pub agrees_is : (t : LeaseTable) (b : Board) → agrees_b t b ≡ true → b ≡ board_of (leases_of t)
unfolding agrees_b
agrees_is t b e = same_board_law b (board_of (leases_of t)) e

pub is_agrees : (t : LeaseTable) (b : Board) → b ≡ board_of (leases_of t) → agrees_b t b ≡ true
unfolding agrees_b
is_agrees t b e = ap (λ (x : Board). same_board x (board_of (leases_of t))) e ∙ board_same (board_of (leases_of t))

-- ---- the board that the leases make
pub built_is : (s : State) (t : LeaseTable) → length t.tenants ≡ 8 → Sound s (leases_of t) → built_of t ≡ board_of (leases_of t)
built_is s t e v = built_all s t v e

-- so that to compare a board with it decides whether the board agrees
pub made_agrees : (s : State) (t : LeaseTable) (b : Board) → length t.tenants ≡ 8 → sound_b s t ≡ true → same_board b (built_of t) ≡ agrees_b t b
unfolding agrees_b
made_agrees s t b e v = ap (same_board b) (built_is s t e (sound_lists s t v))

-- ---- the drop
pub advanced_agrees : (b : Book) (time : ℕ) → Sound b.state (leases_of b.table) → agrees_b b.table b.memory.board ≡ true
    → agrees_b (advanced b time).table (advanced b time).memory.board ≡ true
unfolding advanced dropped
advanced_agrees b time v e =
    let c : ℕ = max b.state.clock time in
    let ts : List (List Lease) = leases_of b.table in
    is_agrees (table_of (map (live_of c) ts)) (cleared_to c b.table b.memory.board 8)
    (ap (λ (x : Board). cleared_to c b.table x 8) (agrees_is b.table b.memory.board e)
    ∙ cleared_all b.state b.table v c ∙ ap board_of (sym (table_back (map (live_of c) ts))))

-- ---- an edit
-- one that fits the records that it is made to: what leaves is there, and what enters has room
pub record Stands (e : Edit) (t : TenantLeases) : Type 0 where
  pub old : IfSome e.leaves (λ o. Reordered (in_use t) (o ∷ remove_of (id_of o) (in_use t)))
  pub room : IfSome e.enters (λ l. length (in_use (left_in e t)) < 16)

module _ (s : State) (t : LeaseTable) (h : ℕ) (e : Edit) (v : Sound s (leases_of t)) (there : h < length t.tenants) (known : h < tenants_in s) (fits : Stands e (tenant_at t h)) (after : Sound s (leases_of (applied e h t))) where
  abbrev ts : List (List Lease)
  ts = leases_of t

  abbrev own : List Lease
  own = in_use (tenant_at t h)

  abbrev rest : List Lease
  rest = in_use (left_in e (tenant_at t h))

  abbrev end : List Lease
  end = in_use (edited_in e (tenant_at t h))

  eighth : h < 8
  eighth = omega arith

  listed : h < length (leases_of t)
  listed = let n = length-map t.tenants in_use in omega arith

  before_is : set ts h own ≡ ts
  before_is = ap (λ (x : List Lease). set ts h x) (at_tenant t h) ∙ set-get_or ts h []

  after_is : leases_of (applied e h t) ≡ set ts h end
  unfolding applied_by
  after_is = sym (map_set in_use t.tenants h (edited_in e (tenant_at t h)))

  same_within : (w : List (List Lease)) → Within w w
  same_within w g = all_part (get_or w g [])

  left_is : board_left e h (board_of ts) ≡ board_of (set ts h rest)
  unfolding board_left left_in pick
  left_is = go e.leaves fits.old
    where
      go : (c : Option Lease) → IfSome c (λ o. Reordered own (o ∷ remove_of (id_of o) own))
          → option_map_or (board_without h (board_of ts)) c (board_of ts) ≡ board_of (set ts h (in_use (option_map_or (λ o. laid_out (remove_of (id_of o) own)) c (tenant_at t h))))
      go (Some o) q =
          ap (λ (x : List (List Lease)). board_without h (board_of x) o) (sym before_is)
          ∙ sym (one_less s ts v ts (same_within ts) h listed eighth o (remove_of (id_of o) own) own (subst (λ (x : List Lease). Part (get_or ts h []) x) (sym (at_tenant t h)) (all_part (get_or ts h []))) q)
          ∙ ap (λ (x : List Lease). board_of (set ts h x)) (sym (read_back (remove_of (id_of o) own)))
      go None q = ap board_of (sym before_is)

  sound_end : Sound s (set ts h end)
  sound_end = subst (λ (x : List (List Lease)). Sound s x) after_is after

  entered : (l : Lease) → length rest < 16 → in_use (inserted_in l (left_in e (tenant_at t h))) ≡ insert_of l rest
  unfolding inserted_by pick
  entered l room =
      ap (λ (c : Bool). in_use (pick c (laid_out (insert_of l rest)) (left_in e (tenant_at t h)))) (lt-ltb (length rest) 16 room)
      ∙ read_back (insert_of l rest)

  edited_is : board_edited e h (board_of ts) ≡ board_of (set ts h end)
  unfolding board_edited edited_by
  edited_is = go e.enters refl fits.room
    where
      now : List (List Lease)
      now = set ts h end

      there_now : h < length now
      there_now = let n = length-set ts h end in let m = listed in omega arith

      own_now : Part (get_or now h []) end
      own_now = subst (λ (x : List Lease). Part (get_or now h []) x) (get_or-set_same ts h end [] listed) (all_part (get_or now h []))

      go : (c : Option Lease) → e.enters ≡ c → IfSome c (λ l. length rest < 16)
          → option_map_or (board_with h (board_left e h (board_of ts))) c (board_left e h (board_of ts)) ≡ board_of (set ts h end)
      go (Some l) q room =
          let is : end ≡ insert_of l rest = ap (λ (c : Option Lease). in_use (option_map_or (λ x. inserted_in x (left_in e (tenant_at t h))) c (left_in e (tenant_at t h)))) q ∙ entered l room in
          ap (λ (x : Board). board_with h x l) (left_is ∙ ap board_of (sym (set-set ts h end rest)))
          ∙ sym (one_more s now sound_end now (same_within now) h there_now eighth l rest end own_now (subst (λ (x : List Lease). Reordered x (l ∷ rest)) (sym is) (insert_same l rest)))
          ∙ ap board_of (set-set ts h end end)
      go None q room = left_is ∙ ap (λ (x : List Lease). board_of (set ts h x)) (sym (ap (λ (c : Option Lease). in_use (option_map_or (λ x. inserted_in x (left_in e (tenant_at t h))) c (left_in e (tenant_at t h)))) q))

pub edited_agrees : (s : State) (t : LeaseTable) (h : ℕ) (e : Edit) (b : Board) → Sound s (leases_of t) → h < length t.tenants → h < tenants_in s → Stands e (tenant_at t h)
    → Sound s (leases_of (applied e h t)) → agrees_b t b ≡ true → agrees_b (applied e h t) (board_edited e h b) ≡ true
edited_agrees s t h e b v there known fits after q =
    is_agrees (applied e h t) (board_edited e h b)
    (ap (board_edited e h) (agrees_is t b q) ∙ edited_is s t h e v there known fits after ∙ ap board_of (sym (after_is s t h e v there known fits after)))
