-- Laws: a file that the records can hold is the file of its records.
use mathlib.Core.Bool.{true}
use mathlib.Core.List.{List, [], ◌++◌, ◌∷◌, map}
use mathlib.Core.Path.{◌∙◌, ◌≡◌, ap, ap₂, refl, sym}
use Prim.Native.Nat.{◌-◌, ℕ}
use native.Mathlib.Omega.{arith}
use lib.ListN.{length, length-map, replicate, take}
use lib.Seq.{take-append_seam}
use Rattle.lists.specs.All.{All, all_by, pairs_by}
use Rattle.lists.specs.laws.Pick.{both}
use Rattle.lease_file.specs.Records.{filed_holds, filed_leases, in_file_order, merged_from, records_fit_b}
use Rattle.lease_file.specs.Section.{FileHold, FileLease}
use Rattle.lease_file.specs.laws.Table.{holds_again, leases_again}
use Rattle.release_file.specs.Section.{FileRelease, filed_memory, stored_memory}
use Rattle.release_file.specs.laws.Memory.{memory_again}
use Rattle.state.specs.Book.{differ, leases_of, ranges_of, scopes_of, zero_scope}
use Rattle.state.specs.laws.Layout.{table_back}
use Rattle.state.specs.declared.ClientRange.{ClientRange}
use Rattle.state_file.specs.File.{File, FilePart, FileScope, file_format, scope_format}
use Rattle.state_file.specs.laws.Records.{filled_take}
use Rattle.state_file.specs.Records.{filed_as, filed_book, filed_scope, filled, fits_b, pair_up, stored_scope, stored_state, stored_table, zero_range}
use Rattle.state_file.specs.StateFile.{with_board}

-- ---- scopes
pair_append : (a b x y : List ℕ) → length a ≡ length b → pair_up (a ++ x) (b ++ y) ≡ pair_up a b ++ pair_up x y
unfolding pair_up
pair_append [] [] x y e = refl
pair_append [] (c ∷ b) x y e = absurd (omega arith)
pair_append (c ∷ a) [] x y e = absurd (omega arith)
pair_append (c ∷ a) (d ∷ b) x y e = ap {B = List FilePart} (λ (r : List FilePart). record { reserve = c; limit = d } ∷ r) (pair_append a b x y (let q : length a ≡ length b = omega arith in q))

pair_parts : (ps : List FilePart) → pair_up (map (λ p. p.reserve) ps) (map (λ p. p.limit) ps) ≡ ps
unfolding pair_up
pair_parts [] = refl
pair_parts (p ∷ ps) = ap {B = List FilePart} (λ (r : List FilePart). p ∷ r) (pair_parts ps)

parts_again : (ps : List FilePart) → take (length ps) (pair_up (filled 0 8 (map (λ p. p.reserve) ps)) (filled 0 8 (map (λ p. p.limit) ps))) ≡ ps
unfolding filled
parts_again ps =
    let l : length (map (λ p. p.reserve) ps) ≡ length (map (λ p. p.limit) ps) = length-map ps (λ p. p.reserve) ∙ sym (length-map ps (λ p. p.limit)) in
    ap (take (length ps)) (pair_append (map (λ p. p.reserve) ps) (map (λ p. p.limit) ps) _ _ l ∙ ap (λ (x : List FilePart). x ++ pair_up (replicate (8 - length (map (λ p. p.reserve) ps)) 0) (replicate (8 - length (map (λ p. p.limit) ps)) 0)) (pair_parts ps))
    ∙ take-append_seam ps _

scope_again : (n : ℕ) (c : FileScope) → length c.parts ≡ n → filed_scope n (stored_scope c) ≡ c
unfolding filed_scope stored_scope
scope_again n c e =
    ap {B = FileScope} (λ (ps : List FilePart). record { lowest = c.lowest; size = c.size; ttl = c.ttl; parts = ps })
    (ap (λ (k : ℕ). take k (pair_up (filled 0 8 (map (λ p. p.reserve) c.parts)) (filled 0 8 (map (λ p. p.limit) c.parts)))) (sym e) ∙ parts_again c.parts)

scopes_again : (n : ℕ) (l : List FileScope) → All (scope_format n).ok l → map (filed_scope n) (map stored_scope l) ≡ l
unfolding All
scopes_again n [] h = refl
scopes_again n (c ∷ l) h = ap₂ {C = List FileScope} (λ (x : FileScope) (r : List FileScope). x ∷ r) (scope_again n c h.0.1.1.1.0) (scopes_again n l h.1)

-- ---- the file
module _ (f : File) (h : file_format.ok f) (e : fits_b f ≡ true) where
  releases_filed : filed_memory (with_board (stored_table f) (stored_memory f.releases)) ≡ f.releases
  unfolding fits_b filed_memory
  releases_filed = memory_again f.releases h.1.1.1.1.1.0.1 (both _ _ (both _ _ e).1).1

  records_fit : records_fit_b f.leases f.holds ≡ true
  unfolding fits_b
  records_fit = (both _ _ (both _ _ e).1).0

  -- where identifiers differ, as they do in a sound book
  module _ (d : all_by (pairs_by differ) (leases_of (stored_table f)) ≡ true) where
    apart_ids : all_by (pairs_by differ) (merged_from 1 8 f.leases f.holds) ≡ true
    unfolding stored_table
    apart_ids = ap (all_by (pairs_by differ)) (sym (table_back (merged_from 1 8 f.leases f.holds))) ∙ d

    leases_filed : filed_leases (in_file_order (stored_table f)) ≡ f.leases
    unfolding stored_table
    leases_filed = leases_again f.leases f.holds h.1.1.1.0 h.1.1.1.1.1.1 records_fit apart_ids

    holds_filed : filed_holds (in_file_order (stored_table f)) ≡ f.holds
    unfolding stored_table
    holds_filed = holds_again f.leases f.holds h.1.1.1.0 h.1.1.1.1.1.1 records_fit apart_ids

  ranges_filed : ranges_of (stored_state f) ≡ f.tenants
  unfolding stored_state
  ranges_filed = filled_take zero_range 8 f.tenants

  scopes_filed : map (filed_scope (length f.tenants)) (scopes_of (stored_state f)) ≡ f.scopes
  unfolding stored_state
  scopes_filed =
      ap (map (filed_scope (length f.tenants))) (ap (λ (k : ℕ). take k (filled zero_scope 4 (map stored_scope f.scopes))) (sym (length-map f.scopes stored_scope)) ∙ filled_take zero_scope 4 (map stored_scope f.scopes))
      ∙ scopes_again (length f.tenants) f.scopes h.1.1.0.1

  pub book_again : all_by (pairs_by differ) (leases_of (stored_table f)) ≡ true → filed_book (record { state = stored_state f; table = stored_table f; memory = with_board (stored_table f) (stored_memory f.releases); names = f.names }) ≡ f
  unfolding filed_book filed_as stored_state
  book_again d =
      ap₂ (λ (ts : List ClientRange) (cs : List FileScope). make ts cs (filed_leases (in_file_order (stored_table f))) (filed_memory (with_board (stored_table f) (stored_memory f.releases))) (filed_holds (in_file_order (stored_table f)))) ranges_filed scopes_filed
      ∙ ap₂ (λ (ls : List FileLease) (rs : List FileRelease). make f.tenants f.scopes ls rs (filed_holds (in_file_order (stored_table f)))) (leases_filed d) releases_filed
      ∙ ap (make f.tenants f.scopes f.leases f.releases) (holds_filed d)
    where
      make : List ClientRange → List FileScope → List FileLease → List FileRelease → List FileHold → File
      make ts cs ls rs hs = record { server = f.server; clock = f.clock; tenants = ts; scopes = cs; leases = ls; names = f.names; releases = rs; holds = hs }
