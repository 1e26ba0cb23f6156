-- Laws: the state file's format is lawful: a file that is read is the one that would be written, and what is written is read again.
use Rattle.std.specs.Prelude.{Bool, false, true, List, [], ◌≡◌, refl, ◌≤◌, ℕ, leb, length}
use Rattle.std.proofs.Common.{◌∙◌, ap, arith, le-leb, leb-true}
use Rattle.lists.specs.Pick.{pick}
use Rattle.lease_file.specs.laws.Section.{holds_lawful, leases_lawful}
use Rattle.names.specs.laws.Names.{names_lawful}
use Rattle.release_file.specs.laws.Section.{releases_lawful}
use Rattle.state.specs.declared.ClientRange.{ClientRange}
use Rattle.state_file.specs.File.{File, FileScope, file_format, file_limit, file_of, last_format, part_format, scope_format, tenant_format}
use Rattle.format.specs.Format.{bad, closed, got, Octets}
use Rattle.format.specs.laws.Format.{Lawful, after_lawful, both_lawful, counted_lawful, number_lawful, octet_lawful, then_lawful, times_lawful, viewed_lawful, whole_reads, whole_written}
use Rattle.format.specs.laws.Section.{verbatim_lawful}

pub tenant_lawful : Lawful tenant_format
tenant_lawful = viewed_lawful (both_lawful number_lawful number_lawful) _ _ (λ x. refl) (λ y. refl)

pub part_lawful : Lawful part_format
part_lawful = viewed_lawful (both_lawful octet_lawful octet_lawful) _ _ (λ x. refl) (λ y. refl)

pub scope_lawful : (n : ℕ) → Lawful (scope_format n)
scope_lawful n = viewed_lawful (both_lawful number_lawful (both_lawful octet_lawful (both_lawful octet_lawful (times_lawful part_lawful n)))) _ _ (λ x. refl) (λ y. refl)

last_lawful : (cs : List FileScope) (ts : List ClientRange) → Lawful (last_format cs ts)
last_lawful cs ts =
    both_lawful leases_lawful (both_lawful (verbatim_lawful (names_lawful (length cs) (length ts))) (both_lawful releases_lawful holds_lawful))

pub file_lawful : Lawful file_format
file_lawful =
    viewed_lawful
    (both_lawful (after_lawful (both_lawful number_lawful number_lawful) 1)
    (then_lawful (counted_lawful tenant_lawful) (λ ts. then_lawful (counted_lawful (scope_lawful (length ts))) (λ cs. last_lawful cs ts))))
    _ _ (λ x. refl) (λ y. refl)

-- Octets that make a file are what the file's writing gives.
pub file_reads : (s : List ℕ) (f : File) → Octets s → file_of s ≡ got f [] → (file_format.ok f) × (s ≡ file_format.write f) × (length s ≤ file_limit)
unfolding file_of pick
file_reads s f o e = go (leb (length s) file_limit) refl e
  where
    go : (b : Bool) → leb (length s) file_limit ≡ b → pick b (closed (file_format.read s)) bad ≡ got f [] → (file_format.ok f) × (s ≡ file_format.write f) × (length s ≤ file_limit)
    go true q e = let (h, p) = whole_reads file_lawful s f [] o e in (h, p, leb-true _ _ q)
    go false q e = let z : ◌≡◌ {A = ℕ} 0 1 = cc in absurd (omega arith)

-- A file that has octets, few enough, is read from them.
pub file_written : (f : File) → file_format.ok f → length (file_format.write f) ≤ file_limit → file_of (file_format.write f) ≡ got f []
unfolding file_of pick
file_written f h l = ap (λ (b : Bool). pick b (closed (file_format.read (file_format.write f))) bad) (le-leb _ _ l) ∙ whole_written file_lawful f h
