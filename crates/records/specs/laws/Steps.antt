-- Laws: what the functions on 128 records by value are proved by: each branch of a definition, from what the calls gave.
use Rattle.std.specs.Prelude.{◌≡◌, refl, Bool, true, false, List, [], Result, Ok, Err, ℕ, ◌≤◌, ◌<◌, ltb}
use Rattle.std.proofs.Math.Path.{sym, ap}
use Rattle.std.proofs.Common.{◌∙◌, subst, eq-eqb, ne_eqb, lt-ltb, le-ltb}
use native.Mathlib.Omega.{arith}
use Rattle.std.proofs.Math.ListN.{length}
use Rattle.lists.specs.Pick.{pick}
use Rattle.lists.specs.Place.{place_by}
use Rattle.state.specs.declared.Lease.{Lease}
use Rattle.state.specs.declared.LeaseTable.{LeaseTable}
use Rattle.state.specs.declared.Ledger.{Ledger}
use Rattle.state.specs.declared.Lookup.{Lookup}
use Rattle.state.specs.declared.TenantLeases.{TenantLeases}
use Rattle.state.specs.Book.{compared_of, in_use, insert_of, inserted_in, laid_out, lookup_of, no_lookup, put_at, remove_of, tenant_at, inserted_by}
use Rattle.lists.specs.laws.Row.{at_out}
use Rattle.admission.specs.Tests.{own_of}
use Rattle.state_file.specs.declared.Loaded.{Loaded}
use Rattle.state_file.specs.declared.Refusal.{Refusal}
use Rattle.state_file.specs.declared.Refusal.TheVariants.{UnsoundBook, UnsoundFile}
use Rattle.state_file.specs.StateFile.{room_after, written_of}
use Rattle.records.specs.declared.Records.{Records}
use Rattle.records.specs.Records.{put_row, records_of, table_from}
use Rattle.records.specs.laws.Rows.{put_row_is}
use Rattle.records.specs.laws.Table.{table_eight}
use Rattle.server.specs.Serve.{book_of}
use Rattle.records.specs.Lent.{book_from, find_with, insert_with, for_records, ledger_from, Reads, remove_with, room_with, is128, with_own, written_with}

-- ---- a test on the number of records
pub is_whole : {n : ℕ} → n ≡ 128 → is128 n ≡ true
unfolding is128
is_whole e = eq-eqb _ _ e

pub not_whole : {n : ℕ} → (n ≡ 128 → ⊥) → is128 n ≡ false
unfolding is128
not_whole e = ne_eqb _ _ e

module _ {A : Type 0} {n : ℕ} (x y : A) where
  pub on_whole : n ≡ 128 → x ≡ pick (is128 n) x y
  unfolding pick
  on_whole e = sym (ap (λ (t : Bool). pick t x y) (is_whole e))

  pub off_whole : (n ≡ 128 → ⊥) → y ≡ pick (is128 n) x y
  unfolding pick
  off_whole e = sym (ap (λ (t : Bool). pick t x y) (not_whole e))

-- ---- one record
module _ (n h : ℕ) (ls : List Lease) where
  pub find_in : (i : List ℕ) {own : TenantLeases} {r : Lookup} → n ≡ 128 → own ≡ tenant_at (table_from ls) h → r ≡ lookup_of i (in_use own) → r ≡ find_with n h i ls
  unfolding find_with
  find_in i e b f = f ∙ ap (λ (x : TenantLeases). lookup_of i (in_use x)) b ∙ on_whole (lookup_of i (own_of (table_from ls) h)) no_lookup e

  -- no tenant has no lease
  pub find_none : (i : List ℕ) {r : Lookup} → n ≡ 128 → 8 ≤ h → r ≡ no_lookup → r ≡ find_with n h i ls
  unfolding find_with compared_of laid_out place_by pick
  find_none i e p f =
      f ∙ ap (λ (x : TenantLeases). lookup_of i (in_use x)) (at_out (table_from ls).tenants 8 h (laid_out []) (laid_out []) (table_eight ls) p refl)
      ∙ on_whole (lookup_of i (own_of (table_from ls) h)) no_lookup e

  pub find_out : (i : List ℕ) {r : Lookup} → (n ≡ 128 → ⊥) → r ≡ no_lookup → r ≡ find_with n h i ls
  unfolding find_with
  find_out i e f = f ∙ off_whole (lookup_of i (own_of (table_from ls) h)) no_lookup e

  -- the tenant's records, put in place
  put_in : (p : List Lease → List Lease) {own x : TenantLeases} {m : List Lease} → length ls ≡ 128 → h < 8
      → own ≡ tenant_at (table_from ls) h → x ≡ laid_out (p (in_use own)) → m ≡ put_row ls h x.leases → m ≡ with_own (table_from ls) h (p (own_of (table_from ls) h))
  put_in p {x = x} z f b c e =
      e ∙ put_row_is ls h x z f ∙ ap (λ (y : TenantLeases). records_of (put_at (table_from ls) h y)) (c ∙ ap (λ (y : TenantLeases). laid_out (p (in_use y))) b)

  abbrev inserted : Lease → List Lease
  inserted l = with_own (table_from ls) h (insert_of l (own_of (table_from ls) h))

  module _ (l : Lease) where
    pub insert_in_law : {own x : TenantLeases} {k : ℕ} {m : List Lease} → n ≡ 128 → h < 8 → length ls ≡ 128 → own ≡ tenant_at (table_from ls) h → k ≡ length (in_use own) → k < 16
        → x ≡ inserted_in l own → m ≡ put_row ls h x.leases → m ≡ insert_with n h l ls
    unfolding insert_with inserted_by pick
    insert_in_law {own = own} e f z b c g d j =
        put_in (insert_of l) z f b (d ∙ ap (λ (t : Bool). pick t (laid_out (insert_of l (in_use own))) own) (lt-ltb _ 16 (subst_lt c g))) j
        ∙ sym (ap (λ (t : Bool). pick t (inserted l) ls) (lt-ltb _ 16 (subst_lt (c ∙ ap (λ (y : TenantLeases). length (in_use y)) b) g)))
        ∙ sym (ap (λ (t : Bool). pick t (pick (ltb (length (own_of (table_from ls) h)) 16) (inserted l) ls) ls) (lt-ltb h 8 f))
        ∙ on_whole (pick (ltb h 8) (pick (ltb (length (own_of (table_from ls) h)) 16) (inserted l) ls) ls) ls e
      where
        subst_lt : {x y z : ℕ} → x ≡ y → x < z → y < z
        subst_lt p q = omega arith

    pub insert_full : {own : TenantLeases} {k : ℕ} → n ≡ 128 → h < 8 → own ≡ tenant_at (table_from ls) h → k ≡ length (in_use own) → 16 ≤ k → ls ≡ insert_with n h l ls
    unfolding insert_with pick
    insert_full e f b c g =
        sym (ap (λ (t : Bool). pick t (inserted l) ls) (le-ltb _ 16 (subst_le (c ∙ ap (λ (y : TenantLeases). length (in_use y)) b) g)))
        ∙ sym (ap (λ (t : Bool). pick t (pick (ltb (length (own_of (table_from ls) h)) 16) (inserted l) ls) ls) (lt-ltb h 8 f))
        ∙ on_whole (pick (ltb h 8) (pick (ltb (length (own_of (table_from ls) h)) 16) (inserted l) ls) ls) ls e
      where
        subst_le : {x y z : ℕ} → x ≡ y → z ≤ x → z ≤ y
        subst_le p q = omega arith

    pub insert_none : n ≡ 128 → 8 ≤ h → ls ≡ insert_with n h l ls
    unfolding insert_with pick
    insert_none e f =
        sym (ap (λ (t : Bool). pick t (pick (ltb (length (own_of (table_from ls) h)) 16) (inserted l) ls) ls) (le-ltb h 8 f))
        ∙ on_whole (pick (ltb h 8) (pick (ltb (length (own_of (table_from ls) h)) 16) (inserted l) ls) ls) ls e

    pub insert_out : (n ≡ 128 → ⊥) → ls ≡ insert_with n h l ls
    unfolding insert_with
    insert_out e = off_whole (pick (ltb h 8) (pick (ltb (length (own_of (table_from ls) h)) 16) (inserted l) ls) ls) ls e

  abbrev removed : List ℕ → List Lease
  removed i = with_own (table_from ls) h (remove_of i (own_of (table_from ls) h))

  module _ (i : List ℕ) where
    pub remove_in : {own x : TenantLeases} {m : List Lease} → n ≡ 128 → h < 8 → length ls ≡ 128 → own ≡ tenant_at (table_from ls) h
        → x ≡ laid_out (remove_of i (in_use own)) → m ≡ put_row ls h x.leases → m ≡ remove_with n h i ls
    unfolding remove_with pick
    remove_in e f z b d j =
        put_in (remove_of i) z f b d j ∙ sym (ap (λ (t : Bool). pick t (removed i) ls) (lt-ltb h 8 f)) ∙ on_whole (pick (ltb h 8) (removed i) ls) ls e

    pub remove_none : n ≡ 128 → 8 ≤ h → ls ≡ remove_with n h i ls
    unfolding remove_with pick
    remove_none e f = sym (ap (λ (t : Bool). pick t (removed i) ls) (le-ltb h 8 f)) ∙ on_whole (pick (ltb h 8) (removed i) ls) ls e

    pub remove_out : (n ≡ 128 → ⊥) → ls ≡ remove_with n h i ls
    unfolding remove_with
    remove_out e = off_whole (pick (ltb h 8) (removed i) ls) ls e

-- ---- the writer
module _ (n : ℕ) (g : Ledger) (ls : List Lease) (names : List ℕ) where
  pub write_in : (k : ℕ) {t : LeaseTable} {w : Result ℕ Refusal} → n ≡ 128 → t ≡ table_from ls → w ≡ written_of (book_of g.state t g.memory names) k → w ≡ written_with n g ls names k
  unfolding written_with
  write_in k e a b = b ∙ ap (λ (x : LeaseTable). written_of (book_of g.state x g.memory names) k) a ∙ on_whole (written_of (book_from g ls names) k) (Err UnsoundBook) e

  pub write_out : (k : ℕ) → (n ≡ 128 → ⊥) → Err UnsoundBook ≡ written_with n g ls names k
  unfolding written_with
  write_out k e = off_whole (written_of (book_from g ls names) k) (Err UnsoundBook) e

  pub room_in : (room : List ℕ) {t : LeaseTable} {after : List ℕ} → n ≡ 128 → t ≡ table_from ls → after ≡ room_after (book_of g.state t g.memory names) room → after ≡ room_with n g ls names room
  unfolding room_with
  room_in room e a b = b ∙ ap (λ (x : LeaseTable). room_after (book_of g.state x g.memory names) room) a ∙ on_whole (room_after (book_from g ls names) room) room e

  pub room_out : (room : List ℕ) → (n ≡ 128 → ⊥) → room ≡ room_with n g ls names room
  unfolding room_with
  room_out room e = off_whole (room_after (book_from g ls names) room) room e

-- ---- the reader
module _ (n : ℕ) {f : Result Loaded Refusal} where
  pub read_in : {k : Loaded} {x : Records} → f ≡ Ok k → n ≡ 128 → (x.leases ≡ records_of k.table) × (length x.leases ≡ 128)
      → Reads (for_records n f) (Ok (record { ledger = ledger_from k; records = x }))
  unfolding for_records
  read_in {k} {x} a e w =
      subst (λ (y : Result Loaded Refusal). Reads y (Ok (record { ledger = ledger_from k; records = x }))) (on_whole (Ok k) (Err UnsoundFile) e ∙ ap (for_records n) (sym a)) (refl, w.0, w.1)

  pub read_out : {k : Loaded} → f ≡ Ok k → (n ≡ 128 → ⊥) → Reads (for_records n f) (Err UnsoundFile)
  unfolding for_records
  read_out {k} a e = subst (λ (y : Result Loaded Refusal). Reads y (Err UnsoundFile)) (off_whole (Ok k) (Err UnsoundFile) e ∙ ap (for_records n) (sym a)) refl

  pub read_refused : {e : Refusal} → f ≡ Err e → Reads (for_records n f) (Err e)
  unfolding for_records
  read_refused {e} a = subst (λ (y : Result Loaded Refusal). Reads y (Err e)) (ap (for_records n) (sym a)) refl
