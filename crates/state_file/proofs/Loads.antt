-- Laws: the records of a file that has the form and that they can hold.
use mathlib.Core.Bool.{Bool, ◌&&◌, false, true}
use mathlib.Core.List.{List, [], map}
use mathlib.Core.Path.{◌∙◌, ◌≡◌, ap, ap₂, refl, subst, sym}
use Prim.Native.Nat.{◌*◌, ◌+◌, ◌-◌, ◌<◌, ◌≤◌, ℕ}
use native.Mathlib.Omega.{arith}
use lib.ListN.{drop, get_or, length, replicate, take}
use borrow.Author.Tests.{leb-true, ltb-false}
use Rattle.format.specs.Place.{row}
use Rattle.format.specs.laws.Fixed.{walk_length}
use Rattle.agreement.specs.laws.Agrees.{built_is}
use Rattle.lease_file.specs.Place.{entries_in}
use Rattle.lease_file.specs.Records.{merged_from, records_fit_b}
use Rattle.lists.specs.Pick.{pick}
use Rattle.lists.specs.laws.Both.{and_parts}
use Rattle.lists.specs.laws.Pick.{both, neither}
use Rattle.occupancy.specs.Board.{no_board}
use Rattle.occupancy.specs.declared.Board.{Board}
use Rattle.octets.specs.Octets.{at32}
use Rattle.release_file.specs.Place.{releases_in}
use Rattle.release_file.specs.Section.{releases_fit_b, stored_memory}
use Rattle.releases.specs.Rules.{memory_b}
use Rattle.soundness.specs.Sound.{sound_b}
use Rattle.soundness.proofs.Lists.{sound_lists}
use Rattle.state.specs.Board.{built_of}
use Rattle.state.specs.Book.{laid_releases, table_of, zero_scope}
use Rattle.state.specs.declared.ClientRange.{ClientRange}
use Rattle.state.specs.declared.LeaseTable.{LeaseTable}
use Rattle.state.specs.declared.Memory.{Memory}
use Rattle.state.specs.declared.Scope.{Scope}
use Rattle.state.specs.declared.State.{State}
use Rattle.state.specs.declared.TenantReleases.{TenantReleases}
use Rattle.state_file.specs.Place.{Formed, FormedBy, SettingsIn, file_at, file_scope_at, range_at, scopes_in, state_at, tenant_count_in}
use Rattle.state_file.specs.Records.{counts_fit, filled, fits_b, settings_fit_b, stored_scope, stored_state, stored_table, zero_range}
use Rattle.state_file.specs.StateFile.{accepted, loaded_got, judged, loaded, names_got, names_of, read_file, code_of, refusal_number, zero_ledger, with_board, zero_memory, zero_state}
use Rattle.std.specs.Prelude.{Option, Some, None, Result, Err, Ok}
use Rattle.state_file.specs.declared.Refusal.{Refusal}
use Rattle.state_file.specs.declared.Refusal.TheVariants.{UnsoundFile, WrongForm}
use Rattle.state_file.specs.declared.Loaded.{Loaded}
use Rattle.state_file.specs.declared.Places.{Places}

-- ---- limits
pub counts_few : (h k : ℕ) → counts_fit h k ≡ true → (h ≤ 8) × (k ≤ 4)
unfolding counts_fit
counts_few h k e = let p = neither _ _ e in (ltb-false 8 h p.0, leb-true k 4 p.1)

module _ (s : List ℕ) (p : Places) where
  counts_same : settings_fit_b (file_at s p) ≡ counts_fit (get_or s 9 0) (get_or s p.scopes 0)
  unfolding file_at
  counts_same = ap₂ counts_fit (walk_length range_at _ (tenant_count_in s) s 10) (walk_length (file_scope_at (tenant_count_in s)) _ (get_or s p.scopes 0) s (p.scopes + 1))

  module _ {q : Bool} (e : q ≡ counts_fit (get_or s 9 0) (get_or s p.scopes 0)) where
    counts_tested : (c : Bool) → q ≡ c → pick c (pick (records_fit_b (entries_in false s p.leases) (entries_in true s p.holds)) (releases_fit_b (releases_in s p.releases)) false) false ≡ fits_b (file_at s p)
    unfolding fits_b file_at pick
    counts_tested c t = ap (λ (x : Bool). pick x (pick (records_fit_b (entries_in false s p.leases) (entries_in true s p.holds)) (releases_fit_b (releases_in s p.releases)) false) false) (sym t ∙ e ∙ sym counts_same)

    pub fits_not : q ≡ false → false ≡ fits_b (file_at s p)
    unfolding pick
    fits_not t = counts_tested false t

    module _ {l : Bool} (el : l ≡ records_fit_b (entries_in false s p.leases) (entries_in true s p.holds)) (t : q ≡ true) where
      records_tested : (c : Bool) → l ≡ c → pick c (releases_fit_b (releases_in s p.releases)) false ≡ fits_b (file_at s p)
      unfolding pick
      records_tested c u = ap (λ (x : Bool). pick x (releases_fit_b (releases_in s p.releases)) false) (sym u ∙ el) ∙ counts_tested true t

      pub fits_records : l ≡ false → false ≡ fits_b (file_at s p)
      unfolding pick
      fits_records u = records_tested false u

      pub fits_yes : (r : Bool) → l ≡ true → r ≡ releases_fit_b (releases_in s p.releases) → r ≡ fits_b (file_at s p)
      unfolding pick
      fits_yes r u w = w ∙ records_tested true u

  -- what the test of a file with the form says of its parts
  module _ (v : Formed s p) where
    pub formed_counts : (9 < length s) × (p.scopes < length s)
    formed_counts = let h = v.records.start in let t = v.tenants in let z = v.sizes in (omega arith, omega arith)

    module _ {q : Bool} (e : q ≡ fits_b (file_at s p)) (t : q ≡ true) where
      pub formed_settings : SettingsIn s p.scopes
      unfolding fits_b
      formed_settings =
          let c = counts_few _ _ (sym counts_same ∙ (both _ _ (sym e ∙ t)).0) in
          record { tenants = v.tenants; few = c.0; four = c.1; room = let h = v.records.start in let z = v.sizes in omega arith }

      pub formed_records : records_fit_b (entries_in false s p.leases) (entries_in true s p.holds) ≡ true
      unfolding fits_b file_at
      formed_records = (both _ _ (both _ _ (sym e ∙ t)).1).0

      pub formed_releases : releases_fit_b (releases_in s p.releases) ≡ true
      unfolding fits_b file_at
      formed_releases = (both _ _ (both _ _ (sym e ∙ t)).1).1

pub ruleset limits_fit = (fits_yes, fits_records, fits_not, formed_counts)

pub ruleset file_parts = (formed_settings, formed_records, formed_releases)

-- ---- settings
module _ {s : List ℕ} {at : ℕ} (v : SettingsIn s at) where
  pub settings_start : (9 < length s) × (at < length s)
  settings_start = let r = v.room in let t = v.tenants in (omega arith, omega arith)

  pub tenants_few : (n : ℕ) → n ≡ get_or s 9 0 → n ≤ 8
  tenants_few n e = let f = v.few in omega arith

  pub tenants_room : (n : ℕ) → n ≡ get_or s 9 0 → 10 + n * 8 ≤ length s
  tenants_room n e = let r = v.room in let t = v.tenants in omega arith

  pub scopes_few : (k : ℕ) → k ≡ get_or s at 0 → k ≤ 4
  scopes_few k e = let f = v.four in omega arith

  module _ (h k : ℕ) (eh : h ≡ get_or s 9 0) (ek : k ≡ get_or s at 0) where
    pub scopes_room : at + 1 + k * (6 + h * 2) ≤ length s
    scopes_room = let w : k * (6 + h * 2) ≡ get_or s at 0 * (6 + tenant_count_in s * 2) = ap₂ (λ (x y : ℕ). x * (6 + y * 2)) ek eh in let r = v.room in omega arith

    pub state_is : (a b : ℕ) (ts : List ClientRange) (cs : List Scope)
        → ts ≡ filled zero_range 8 (row range_at 8 h s 10) → cs ≡ filled zero_scope 4 (map stored_scope (row (file_scope_at h) (6 + h * 2) k s (at + 1)))
        → a ≡ at32 s 1 → b ≡ at32 s 5
        → record { server = a; clock = b; tenant_count = get_or s 9 0; tenants = ts; scope_count = get_or s at 0; scopes = cs } ≡ state_at s at
    unfolding stored_state file_at
    state_is a b ts cs et ec pa pb =
        let n : get_or s 9 0 ≡ length (row range_at 8 (tenant_count_in s) s 10) = sym (walk_length range_at _ (tenant_count_in s) s 10) in
        let m : get_or s at 0 ≡ length (scopes_in s at) = sym (walk_length (file_scope_at (tenant_count_in s)) _ (get_or s at 0) s (at + 1)) in
        let t : ts ≡ filled zero_range 8 (row range_at 8 (tenant_count_in s) s 10) = et ∙ ap (λ (x : ℕ). filled zero_range 8 (row range_at 8 x s 10)) eh in
        let c : cs ≡ filled zero_scope 4 (map stored_scope (scopes_in s at)) =
        ec ∙ ap₂ (λ (x y : ℕ). filled zero_scope 4 (map stored_scope (row (file_scope_at x) (6 + x * 2) y s (at + 1)))) eh ek in
        cc

pub ruleset settings = (settings_start, tenants_few, tenants_room, scopes_few, scopes_room, state_is)

-- ---- the answers
pub no_state_is : (x : ClientRange) (y : Scope) → x ≡ zero_range → y ≡ zero_scope
    → record { server = 0; clock = 0; tenant_count = 0; tenants = replicate 8 x; scope_count = 0; scopes = replicate 4 y } ≡ zero_state
no_state_is x y ex ey = cc

pub no_memory_is : (q : TenantReleases) (b : Board) → q ≡ laid_releases [] → b ≡ no_board → record { releases = replicate 8 q; board = b } ≡ zero_memory
no_memory_is q b e p = cc

pub no_ledger_is : (s : State) (m : Memory) → s ≡ zero_state → m ≡ zero_memory → record { state = s; memory = m } ≡ zero_ledger
no_ledger_is s m es em = cc

module _ (s : State) (b : LeaseTable) (m : Memory) {q : Bool} (e : q ≡ sound_b s b) where
  pub rules_not : q ≡ false → false ≡ (sound_b s b && memory_b s b m)
  rules_not t = ap (λ (x : Bool). x && memory_b s b m) (sym t ∙ e)

  pub rules_memory : (w : Bool) → w ≡ memory_b s b m → q ≡ true → w ≡ (sound_b s b && memory_b s b m)
  rules_memory w f t = f ∙ ap (λ (x : Bool). x && memory_b s b m) (sym t ∙ e)

module _ (s : State) (b : LeaseTable) (m : Memory) {q : Bool} (e : q ≡ (sound_b s b && memory_b s b m)) where
  book_judged : (c : Bool) → q ≡ c → pick c (accepted s b (with_board b m)) (Err UnsoundFile) ≡ judged s b m
  unfolding judged
  book_judged c t = ap (λ (x : Bool). pick x (accepted s b (with_board b m)) (Err UnsoundFile)) (sym t ∙ e)

  -- the board that the leases of a sound book make is what they say
  pub judged_yes : (x : Board) → q ≡ true → length b.tenants ≡ 8 → x ≡ built_of b → Ok (record { state = s; table = b; memory = record { releases = m.releases; board = x } }) ≡ judged s b m
  unfolding accepted pick
  judged_yes x t l p =
      ap (λ (y : Board). accepted s b (record { releases = m.releases; board = y })) (p ∙ built_is s b l (sound_lists s b (and_parts _ _ (sym e ∙ t)).0))
      ∙ book_judged true t

  pub judged_not : (r : Result Loaded Refusal) → q ≡ false → r ≡ Err UnsoundFile → r ≡ judged s b m
  unfolding pick
  judged_not r t p = p ∙ book_judged false t

  -- the refusal alone
  pub judged_none : q ≡ true → 0 ≡ refusal_number (judged s b m)
  unfolding accepted pick refusal_number
  judged_none t = ap refusal_number (book_judged true t)

  pub judged_one : q ≡ false → 21 ≡ refusal_number (judged s b m)
  unfolding pick refusal_number code_of
  judged_one t = ap refusal_number (book_judged false t)

module _ (s : List ℕ) (p : Places) {q : Bool} (e : q ≡ fits_b (file_at s p)) where
  loaded_tested : (c : Bool) → q ≡ c → pick c (judged (state_at s p.scopes) (table_of (merged_from 1 8 (entries_in false s p.leases) (entries_in true s p.holds))) (stored_memory (releases_in s p.releases))) (Err UnsoundFile) ≡ loaded (file_at s p)
  unfolding loaded stored_state stored_table file_at
  loaded_tested c t = ap (λ (x : Bool). pick x (judged (state_at s p.scopes) (table_of (merged_from 1 8 (entries_in false s p.leases) (entries_in true s p.holds))) (stored_memory (releases_in s p.releases))) (Err UnsoundFile)) (sym t ∙ e)

  pub loaded_yes : (x : State) (y : LeaseTable) (m : Memory) (r : Result Loaded Refusal) → q ≡ true → x ≡ state_at s p.scopes → y ≡ table_of (merged_from 1 8 (entries_in false s p.leases) (entries_in true s p.holds))
      → m ≡ stored_memory (releases_in s p.releases) → r ≡ judged x y m → r ≡ loaded (file_at s p)
  unfolding pick
  loaded_yes x y m r t ex ey em er = er ∙ ap₂ (λ (a : State) (b : LeaseTable). judged a b m) ex ey ∙ ap (judged (state_at s p.scopes) (table_of (merged_from 1 8 (entries_in false s p.leases) (entries_in true s p.holds)))) em ∙ loaded_tested true t

  pub loaded_not : (r : Result Loaded Refusal) → q ≡ false → r ≡ Err UnsoundFile → r ≡ loaded (file_at s p)
  unfolding pick
  loaded_not r t w = w ∙ loaded_tested false t

  pub loaded_judged : (x : State) (y : LeaseTable) (m : Memory) (r : ℕ) → q ≡ true → x ≡ state_at s p.scopes → y ≡ table_of (merged_from 1 8 (entries_in false s p.leases) (entries_in true s p.holds))
      → m ≡ stored_memory (releases_in s p.releases) → r ≡ refusal_number (judged x y m) → r ≡ refusal_number (loaded (file_at s p))
  loaded_judged x y m r t ex ey em er = er ∙ ap refusal_number (loaded_yes x y m (judged x y m) t ex ey em refl)

  pub loaded_one : q ≡ false → 21 ≡ refusal_number (loaded (file_at s p))
  unfolding refusal_number code_of
  loaded_one t = ap refusal_number (loaded_not (Err UnsoundFile) t refl)

module _ (s : List ℕ) {l : Option Places} (v : FormedBy s l) where
  pub layout_right : {p : Places} → l ≡ Some p → Formed s p
  unfolding FormedBy
  layout_right e = subst (FormedBy s) e v

  pub read_yes : {p : Places} (r : Result Loaded Refusal) → l ≡ Some p → r ≡ loaded (file_at s p) → r ≡ read_file s
  unfolding read_file loaded_got
  read_yes r e q = q ∙ sym (ap loaded_got (layout_right e).file)

  pub read_not : (r : Result Loaded Refusal) → l ≡ None → r ≡ Err WrongForm → r ≡ read_file s
  unfolding read_file loaded_got FormedBy
  read_not r e q = q ∙ sym (ap loaded_got (subst (FormedBy s) e v))

  -- the refusal alone
  pub check_yes : {p : Places} (k : ℕ) → l ≡ Some p → k ≡ refusal_number (loaded (file_at s p)) → k ≡ refusal_number (read_file s)
  check_yes k e q = q ∙ ap refusal_number (read_yes _ e refl)

  pub check_not : (e : Refusal) → l ≡ None → e ≡ WrongForm → code_of e ≡ refusal_number (read_file s)
  unfolding refusal_number
  check_not e n q = ap code_of q ∙ ap refusal_number (read_not (Err WrongForm) n refl)

  -- the names, as a part of the octets
  pub names_from : {p : Places} → l ≡ Some p → p.names ≤ p.releases
  names_from e = (layout_right e).names

  pub names_within : {p : Places} → l ≡ Some p → p.releases ≤ length s
  names_within e = let v = layout_right e in let h = v.memory.start in omega arith

  pub names_yes : {p : Places} (r : List ℕ) → l ≡ Some p → r ≡ take (p.releases - p.names) (drop p.names s) → r ≡ names_of s
  unfolding names_of names_got file_at
  names_yes {p} r e q = q ∙ sym (ap names_got (layout_right e).file)

  pub names_not : (r : List ℕ) → l ≡ None → r ≡ [] → r ≡ names_of s
  unfolding names_of names_got FormedBy
  names_not r e q = q ∙ sym (ap names_got (subst (FormedBy s) e v))
