-- Laws: a sound book's file has at most 22,715 octets: whatever its records hold, what is written of them is cut by counts that soundness bounds, and
-- names are good.
use mathlib.Core.Bool.{◌&&◌, false, true}
use mathlib.Core.List.{List, [], ◌∷◌, map}
use mathlib.Core.Path.{◌≡◌, ap, subst, sym}
use Prim.Native.Nat.{◌*◌, ◌+◌, ◌≤◌, suc, ℕ}
use native.Mathlib.Omega.{arith}
use lib.Dec.{leb}
use lib.ListN.{length, length-append, length-map, length-take, take}
use borrow.Author.Tests.{leb-true}
use Rattle.format.specs.Rows.{write_from}
use Rattle.format.specs.laws.Rows.{all_most}
use Rattle.lease_file.specs.Records.{in_file_order, table_octets}
use Rattle.lease_file.specs.laws.Merge.{arranged_each, arranged_length}
use Rattle.lease_file.specs.laws.Table.{ShortTenant, both_most}
use Rattle.lists.specs.All.{All, all_by}
use Rattle.lists.specs.Arranged.{arranged}
use Rattle.lists.specs.laws.All.{all_facts, all_mapped, one_fact}
use Rattle.lists.specs.laws.Both.{and_parts}
use Rattle.names.specs.laws.Names.{names_most}
use Rattle.soundness.specs.laws.Book.{rules_of_law}
use Rattle.releases.proofs.Whole.{book_named, book_remembers, book_sound}
use Rattle.releases.specs.Whole.{book_b}
use Rattle.soundness.specs.Sound.{counts_b, one_to, id_b, records_b, rule1, size_b, sound_b, rules_by}
use Rattle.state.specs.Book.{Book, by_identifier, in_use, laid_out, ranges_of, scopes_of, table_of}
use Rattle.state.specs.laws.Layout.{read_back}
use Rattle.state.specs.declared.LeaseTable.{LeaseTable}
use Rattle.state.specs.declared.Scope.{Scope}
use Rattle.state.specs.declared.State.{State}
use Rattle.state.specs.declared.TenantLeases.{TenantLeases}
use Rattle.state_file.proofs.Remembered.{memory_short}
use Rattle.state_file.proofs.Writes.{file_length, ranges_length, sections_length}
use Rattle.state_file.specs.File.{FilePart, longest_file, part_format, scope_format}
use Rattle.state_file.specs.Records.{filed_book, filed_scope, pair_up}
use Rattle.state_file.specs.Rows.{scope_row}
use Rattle.state_file.specs.StateFile.{octets_as, octets_of}

-- ---- a scope with parts for at most eight tenants
scope_most : (n k : ℕ) (c : Scope) → n ≤ 8 → length ((scope_format k).write (filed_scope n c)) ≤ 22
unfolding filed_scope
scope_most n k c h =
    let p = all_most part_format.write 2 (λ (x : FilePart). omega arith) (take n (pair_up c.reserve c.limit)) in
    let t = length-take n (pair_up c.reserve c.limit) in
    omega arith

scopes_most : (n k : ℕ) (l : List Scope) → n ≤ 8 → length (write_from (scope_row n) k l) ≤ length l * 22
unfolding write_from scope_row
scopes_most n k [] h = omega arith
scopes_most n k (c ∷ l) h =
    let ih = scopes_most n (suc k) l h in
    let a = length-append ((scope_format n).write (filed_scope n c)) (write_from (scope_row n) (suc k) l) in
    let b = scope_most n n c h in
    omega arith

-- ---- a tenant's records
short_tenant : (t : TenantLeases) → records_b t ≡ true → ShortTenant t
unfolding records_b id_b
short_tenant t e =
    let p = and_parts (leb t.count 16) (all_by id_b (in_use t)) e in
    let c = leb-true t.count 16 p.0 in
    let n = length-take t.count t.leases in
    record { few = omega arith; ids = all_facts id_b (λ l. l.id_len ≤ 32) (in_use t) (λ l q. leb-true l.id_len 32 (and_parts (leb 2 l.id_len) (leb l.id_len 32) q).1) p.1 }

-- in the order of the file they are as many
short_order : (t : TenantLeases) → ShortTenant t → ShortTenant (laid_out (arranged by_identifier (in_use t)))
short_order t v =
    let x = read_back (arranged by_identifier (in_use t)) in
    record {
      few = let a = ap length x in let b = arranged_length by_identifier (in_use t) in let c = v.few in omega arith;
      ids = subst (All (λ l. l.id_len ≤ 32)) (sym x) (arranged_each (λ l. l.id_len ≤ 32) by_identifier (in_use t) v.ids);
    }

order_most : (b : LeaseTable) → length b.tenants ≤ 8 → All ShortTenant b.tenants → length (table_octets false (in_file_order b)) + length (table_octets true (in_file_order b)) ≤ 14978
unfolding in_file_order table_of
order_most b eight v =
    both_most (in_file_order b) (let x = length-map (map (arranged by_identifier) (map in_use b.tenants)) laid_out in let y = length-map (map in_use b.tenants) (arranged by_identifier) in let z = length-map b.tenants in_use in omega arith)
    (all_mapped ShortTenant laid_out (map (arranged by_identifier) (map in_use b.tenants))
    (all_mapped (λ l. ShortTenant (laid_out l)) (arranged by_identifier) (map in_use b.tenants)
    (all_mapped (λ l. ShortTenant (laid_out (arranged by_identifier l))) in_use b.tenants (one_fact ShortTenant (λ t. ShortTenant (laid_out (arranged by_identifier (in_use t)))) b.tenants short_order v))))

-- ---- how many houses and scopes a sound book has
counts_most : (s : State) (b : LeaseTable) → sound_b s b ≡ true → (s.tenant_count ≤ 8) × (s.scope_count ≤ 4)
unfolding rules_by rule1 counts_b one_to
counts_most s b v =
    let p = and_parts (counts_b s) (all_by records_b b.tenants) (rules_of_law s b v).limits in
    let q = and_parts (one_to 8 s.tenant_count) (one_to 4 s.scope_count && all_by size_b (scopes_of s)) p.0 in (
      leb-true s.tenant_count 8 (and_parts (leb 1 s.tenant_count) (leb s.tenant_count 8) q.0).1,
      leb-true s.scope_count 4 (and_parts (leb 1 s.scope_count) (leb s.scope_count 4) (and_parts (one_to 4 s.scope_count) (all_by size_b (scopes_of s)) q.1).0).1,
    )

-- and how many octets its names have
pub names_few : (b : Book) → book_b b ≡ true → length b.names ≤ 6229
names_few b v =
    let n = counts_most b.state b.table (book_sound b v) in
    names_most b.state.scope_count b.state.tenant_count b.names n.1 n.0 (book_named b v)

-- ---- the book: 9 octets of the server, 65 of the tenants, 89 of the scopes, 14,978 of the leases and holds, 6,229 of the names, 1,345 of the releases
pub sound_short : (b : Book) → length b.table.tenants ≤ 8 → length b.memory.releases ≤ 8 → book_b b ≡ true → length (octets_of b) ≤ longest_file
unfolding rules_by rule1 octets_of octets_as filed_book
sound_short k eight all v =
    let s : State = k.state in
    let b : LeaseTable = k.table in
    let p = and_parts (counts_b s) (all_by records_b b.tenants) (rules_of_law s b (book_sound k v)).limits in
    let n = (counts_most s b (book_sound k v)).0 in
    let m = (counts_most s b (book_sound k v)).1 in
    let o : LeaseTable = in_file_order k.table in
    let f = file_length s (in_file_order k.table) k.memory k.names in
    let g = sections_length s (in_file_order k.table) in
    let r = ranges_length 0 (ranges_of s) in
    let c = scopes_most s.tenant_count 0 (scopes_of s) n in
    let l = order_most b eight (all_facts records_b ShortTenant b.tenants short_tenant p.1) in
    let i = length-take s.tenant_count s.tenants in
    let j = length-take s.scope_count s.scopes in
    let w = names_few k v in
    let q = memory_short s b k.memory (book_remembers k v) all in
    omega arith
