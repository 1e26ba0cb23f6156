-- Laws: the board while all tenants' leases change, one tenant after the other: by the drop of ended leases, and where the board is built.
use Prim.Native.Nat.{ℕ, zero, suc, ◌-◌, ◌≤◌, ◌<◌}
use Rattle.std.specs.Prelude.{◌≡◌, Bool, length, drop, replicate}
use Rattle.std.proofs.Math.Path.{refl, sym, ap, ap₂, subst}
use Rattle.std.proofs.Common.{◌∙◌, arith, ext_get_or, get_or-drop}
use Rattle.std.proofs.Math.Bool.{true, false}
use mathlib.Core.List.Permᴰ
use mathlib.Core.List.{List, [], ◌∷◌, ◌++◌, map}
use Rattle.std.proofs.Math.Dec.{eqb, ltb}
use Rattle.std.proofs.Math.ListN.{get_or, set, length-set, get_or-map, get_or-eq_default}
use Rattle.std.proofs.lemmas.List.{length-map, length-replicate, set-get_or}
use Rattle.std.proofs.Math.Seq.{get_or-set_same, get_or-set_other, set_out}
use borrow.Author.Tests.{eqb-true, eqb-false, ltb-true, ltb-false}
use Rattle.lists.specs.Fold.{fold}
use Rattle.lists.specs.Filter.{filter_by}
use Rattle.lists.specs.Reordered.{Reordered}
use Rattle.lists.specs.laws.Arranged.{split_reordered}
use Rattle.lists.specs.laws.Some.{Part, filter_part}
use Rattle.occupancy.specs.declared.Board.{Board}
use Rattle.state.specs.declared.Lease.{Lease}
use Rattle.state.specs.declared.LeaseTable.{LeaseTable}
use Rattle.state.specs.declared.State.{State}
use Rattle.state.specs.Book.{cleared_to, ended_of, in_use, laid_out, leases_of, live, live_of, tenant_at, board_with, board_without}
use Rattle.state.specs.Board.{board_of, built_to}
use Rattle.state.proofs.Board.{empty_board}
use Rattle.state.specs.laws.Layout.{read_back}
use Rattle.soundness.specs.Sound.{tenants_in}
use Rattle.soundness.specs.laws.Book.{Sound, no_leases_b}
use Rattle.soundness.specs.laws.Added.{sound_at}
use Rattle.soundness.specs.laws.Kept.{all_part}
use Rattle.agreement.specs.laws.Steps.{Within, turned, run_less, run_more}

-- ---- lists whose first k elements are new
module _ (start : List (List Lease)) (new : ℕ → List Lease) where
  unfoldable pub swept : ℕ → List (List Lease)
  swept zero = start
  swept (suc k) = set (swept k) k (new k)

  pub swept_length : (k : ℕ) → length (swept k) ≡ length start
  unfolding swept
  swept_length zero = refl
  swept_length (suc k) = length-set (swept k) k (new k) ∙ swept_length k

  -- those from k on are as they were
  pub swept_rest : (k g : ℕ) → k ≤ g → get_or (swept k) g [] ≡ get_or start g []
  unfolding swept
  swept_rest zero g p = refl
  swept_rest (suc k) g p = get_or-set_other (swept k) k g (new k) [] (λ e. absurd (omega arith)) ∙ swept_rest k g (omega arith)

  -- and those before it new
  swept_new : (k g : ℕ) → g < k → g < length start → get_or (swept k) g [] ≡ new g
  unfolding swept
  swept_new zero g p q = absurd (omega arith)
  swept_new (suc k) g p q = go (eqb g k) refl (λ r. swept_new k g r q)
    where
      go : (b : Bool) → eqb g k ≡ b → (g < k → get_or (swept k) g [] ≡ new g) → get_or (set (swept k) k (new k)) g [] ≡ new g
      go true e ih =
          let z = eqb-true g k e in
          ap (λ (j : ℕ). get_or (set (swept k) k (new k)) j []) z ∙ get_or-set_same (swept k) k (new k) [] (let n = swept_length k in omega arith) ∙ ap new (sym z)
      go false e ih = let n = eqb-false g k e in get_or-set_other (swept k) k g (new k) [] n ∙ ih (omega arith)

  pub swept_is : (n : ℕ) (w : List (List Lease)) → length w ≡ length start → ((g : ℕ) → g < n → new g ≡ get_or w g []) → ((g : ℕ) → n ≤ g → get_or start g [] ≡ get_or w g []) → swept n ≡ w
  swept_is n w long front behind = ext_get_or [] (swept n) w (swept_length n ∙ sym long) (λ g p. at g (let m = swept_length n in omega arith) (ltb g n) refl)
    where
      at : (g : ℕ) → g < length start → (b : Bool) → ltb g n ≡ b → get_or (swept n) g [] ≡ get_or w g []
      at g p true e = let q = ltb-true g n e in swept_new n g q p ∙ front g q
      at g p false e = let q = ltb-false g n e in swept_rest n g q ∙ behind g q

  -- at any time each tenant has some of the leases that it has in ts
  pub swept_within : (ts : List (List Lease)) → Within ts start → ((g : ℕ) → Part (get_or ts g []) (new g)) → (k : ℕ) → Within ts (swept k)
  unfolding swept
  swept_within ts p q zero g = p g
  swept_within ts p q (suc k) g = go (eqb g k) refl (ltb k (length (swept k))) refl (swept_within ts p q k g)
    where
      go : (b : Bool) → eqb g k ≡ b → (c : Bool) → ltb k (length (swept k)) ≡ c → Part (get_or ts g []) (get_or (swept k) g []) → Part (get_or ts g []) (get_or (set (swept k) k (new k)) g [])
      go true e true f ih =
          let z = eqb-true g k e in
          subst (λ (x : List Lease). Part (get_or ts g []) x)
          (ap new z ∙ sym (ap (λ (j : ℕ). get_or (set (swept k) k (new k)) j []) z ∙ get_or-set_same (swept k) k (new k) [] (ltb-true k (length (swept k)) f))) (q g)
      go true e false f ih = subst (λ (x : List (List Lease)). Part (get_or ts g []) (get_or x g [])) (sym (set_out (swept k) k (new k) (ltb-false k (length (swept k)) f))) ih
      go false e c f ih = subst (λ (x : List Lease). Part (get_or ts g []) x) (sym (get_or-set_other (swept k) k g (new k) [] (eqb-false g k e))) ih

-- ---- a table's tenants
pub at_tenant : (t : LeaseTable) (k : ℕ) → in_use (tenant_at t k) ≡ get_or (leases_of t) k []
at_tenant t k = sym (get_or-map in_use t.tenants k (laid_out [])) ∙ ap (λ (d : List Lease). get_or (leases_of t) k d) (read_back [])

no_leases_law : (n g : ℕ) → ◌≡◌ {A = List Lease} (get_or (replicate n []) g []) []
no_leases_law zero g = refl
no_leases_law (suc n) zero = refl
no_leases_law (suc n) (suc g) = no_leases_law n g

none_part : (l : List Lease) → Part l []
none_part l = (l, Permᴰ.refl l)

module _ (s : State) (t : LeaseTable) (v : Sound s (leases_of t)) where
  -- tenants past the eighth have no lease
  past_none : (g : ℕ) → 8 ≤ g → get_or (leases_of t) g [] ≡ []
  past_none g p = nil (get_or (leases_of t) g []) (ap (λ (x : List Lease). no_leases_b x) at ∙ sound_at no_leases_b (drop (tenants_in s) (leases_of t)) (g - tenants_in s) refl v.tenants)
    where
      at : get_or (leases_of t) g [] ≡ get_or (drop (tenants_in s) (leases_of t)) (g - tenants_in s) []
      at = sym (get_or-drop (tenants_in s) (leases_of t) (g - tenants_in s) [] ∙ ap (λ (j : ℕ). get_or (leases_of t) j []) (omega arith))

      nil : (x : List Lease) → eqb (length x) 0 ≡ true → x ≡ []
      nil [] e = refl
      nil (a ∷ x) e = absurd (let z = eqb-true (suc (length x)) 0 e in omega arith)

  -- ---- the drop
  module _ (clock : ℕ) where
    abbrev kept : ℕ → List Lease
    kept g = live_of clock (get_or (leases_of t) g [])

    kept_part : (g : ℕ) → Part (get_or (leases_of t) g []) (live_of clock (get_or (leases_of t) g []))
    unfolding live_of
    kept_part g = filter_part (live clock) (get_or (leases_of t) g [])

    within : (k : ℕ) → Within (leases_of t) (swept (leases_of t) kept k)
    within k = swept_within (leases_of t) kept (leases_of t) (λ g. all_part (get_or (leases_of t) g [])) kept_part k

    apart_ended : (x : List Lease) → Reordered x (ended_of clock x ++ live_of clock x)
    unfolding ended_of live_of
    apart_ended x = Permᴰ.trans (Permᴰ.symm (split_reordered (live clock) x)) (turned (live_of clock x) (ended_of clock x))

    cleared_step : (k : ℕ) → k < 8 → fold (board_without k) (board_of (swept (leases_of t) kept k)) (ended_of clock (get_or (leases_of t) k [])) ≡ board_of (swept (leases_of t) kept (suc k))
    unfolding swept ended_of filter_by
    cleared_step k p = go (ltb k (length (swept (leases_of t) kept k))) refl
      where
        now : List (List Lease)
        now = swept (leases_of t) kept k

        own : List Lease
        own = get_or (leases_of t) k []

        as_was : get_or now k [] ≡ own
        as_was = swept_rest (leases_of t) kept k k (omega arith)

        go : (b : Bool) → ltb k (length now) ≡ b → fold (board_without k) (board_of now) (ended_of clock own) ≡ board_of (set now k (kept k))
        go true e =
            ap (λ (x : List (List Lease)). fold (board_without k) (board_of x) (ended_of clock own)) (sym (set-get_or now k []) ∙ ap (λ (x : List Lease). set now k x) as_was)
            ∙ run_less s (leases_of t) v now (within k) k (ltb-true k (length now) e) p (ended_of clock own) own (kept k) (all_part own) (apart_ended own)
        go false e =
            let q = ltb-false k (length now) e in
            let none : own ≡ [] = sym as_was ∙ get_or-eq_default now [] q in
            ap (λ (x : List Lease). fold (board_without k) (board_of now) (ended_of clock x)) none ∙ nothing ∙ ap board_of (sym (set_out now k (kept k) q))
          where
            nothing : fold (board_without k) (board_of now) (ended_of clock []) ≡ board_of now
            nothing = refl

    pub cleared_is : (k : ℕ) → k ≤ 8 → cleared_to clock t (board_of (leases_of t)) k ≡ board_of (swept (leases_of t) kept k)
    unfolding cleared_to swept
    cleared_is zero p = refl
    cleared_is (suc k) p =
        ap₂ (λ (b : Board) (x : List Lease). fold (board_without k) b (ended_of clock x)) (cleared_is k (omega arith)) (at_tenant t k) ∙ cleared_step k (omega arith)

    pub cleared_all : cleared_to clock t (board_of (leases_of t)) 8 ≡ board_of (map (live_of clock) (leases_of t))
    unfolding live_of filter_by
    cleared_all =
        cleared_is 8 (omega arith)
        ∙ ap board_of (swept_is (leases_of t) kept 8 (map (live_of clock) (leases_of t)) (length-map (leases_of t) (live_of clock)) (λ g p. sym (at g)) (λ g p. past_none g p ∙ sym (at g ∙ ap (live_of clock) (past_none g p) ∙ none)))
      where
        none : live_of clock [] ≡ []
        none = refl

        at : (g : ℕ) → get_or (map (live_of clock) (leases_of t)) g [] ≡ live_of clock (get_or (leases_of t) g [])
        at g = ap (λ (d : List Lease). get_or (map (live_of clock) (leases_of t)) g d) (sym none) ∙ get_or-map (live_of clock) (leases_of t) g []

  -- ---- building
  module _ (eight : length t.tenants ≡ 8) where
    abbrev none : List (List Lease)
    none = replicate 8 []

    none_long : length none ≡ 8
    none_long = length-replicate {A = List Lease} 8 []

    abbrev own : ℕ → List Lease
    own g = get_or (leases_of t) g []

    long : length (leases_of t) ≡ 8
    long = length-map t.tenants in_use ∙ eight

    partly : (k : ℕ) → Within (leases_of t) (swept none own k)
    partly k =
        swept_within none own (leases_of t) (λ g. subst (λ (x : List Lease). Part (get_or (leases_of t) g []) x) (sym (no_leases_law 8 g)) (none_part (get_or (leases_of t) g [])))
        (λ g. all_part (get_or (leases_of t) g [])) k

    built_step : (k : ℕ) → k < 8 → fold (board_with k) (board_of (swept none own k)) (own k) ≡ board_of (swept none own (suc k))
    unfolding swept
    built_step k p =
        ap (λ (x : List (List Lease)). fold (board_with k) (board_of x) (own k)) (sym (set-get_or now k []) ∙ ap (λ (x : List Lease). set now k x) (swept_rest none own k k (omega arith) ∙ no_leases_law 8 k))
        ∙ run_more s (leases_of t) v now (partly k) k there p (own k) (own k) [] (all_part (own k)) (Permᴰ.symm (Permᴰ.append-nil (own k)))
      where
        now : List (List Lease)
        now = swept none own k

        there : k < length now
        there = let e = swept_length none own k in let q = none_long in omega arith

    built_is_to : (k : ℕ) → k ≤ 8 → built_to t k ≡ board_of (swept none own k)
    unfolding built_to swept
    built_is_to zero p = sym empty_board
    built_is_to (suc k) p = ap₂ (λ (b : Board) (x : List Lease). fold (board_with k) b x) (built_is_to k (omega arith)) (at_tenant t k) ∙ built_step k (omega arith)

    pub built_all : built_to t 8 ≡ board_of (leases_of t)
    built_all =
        built_is_to 8 (omega arith)
        ∙ ap board_of (swept_is none own 8 (leases_of t) (long ∙ sym none_long) (λ g p. refl) (λ g p. no_leases_law 8 g ∙ sym (past_none g p)))
