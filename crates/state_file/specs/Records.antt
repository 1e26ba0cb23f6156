-- Definitions: how the file's values stand in the book's records, and the book's in the file.
use Rattle.std.specs.Prelude.{Bool, false, List, [], ◌++◌, ◌∷◌, map, ◌-◌, ℕ, leb, ltb, length, replicate, take}
use Rattle.lists.specs.Pick.{pick}
use Rattle.state.specs.Book.{Book, changed_to, ranges_of, scopes_of, table_of, zero_scope}
use Rattle.state.specs.declared.ClientRange.{ClientRange}
use Rattle.state.specs.declared.LeaseTable.{LeaseTable}
use Rattle.state.specs.declared.Scope.{Scope}
use Rattle.state.specs.declared.State.{State}
use Rattle.lease_file.specs.Records.{filed_holds, filed_leases, in_file_order, merged_from, records_fit_b}
use Rattle.release_file.specs.Section.{filed_memory, releases_fit_b}
use Rattle.state_file.specs.File.{File, FilePart, FileScope}

-- l and then z, n in all
unfoldable pub filled : {A : Type 0} → A → ℕ → List A → List A
filled z n l = l ++ replicate (n - length l) z

-- ---- scopes
unfoldable pub stored_scope : FileScope → Scope
stored_scope c = record {
  lowest = c.lowest;
  size = c.size;
  ttl = c.ttl;
  reserve = filled 0 8 (map (λ p. p.reserve) c.parts);
  limit = filled 0 8 (map (λ p. p.limit) c.parts);
}

unfoldable pub pair_up : List ℕ → List ℕ → List FilePart
pair_up [] ys = []
pair_up (x ∷ xs) [] = []
pair_up (x ∷ xs) (y ∷ ys) = record { reserve = x; limit = y } ∷ pair_up xs ys

-- with a part for each of n tenants
unfoldable pub filed_scope : ℕ → Scope → FileScope
filed_scope n c = record { lowest = c.lowest; size = c.size; ttl = c.ttl; parts = take n (pair_up c.reserve c.limit) }

-- ---- the book
abbrev pub zero_range : ClientRange
zero_range = record { low = 0; high = 0 }

-- the settings and the clock of a file
unfoldable pub stored_state : File → State
stored_state f = record {
  server = f.server;
  clock = f.clock;
  tenant_count = length f.tenants;
  tenants = filled zero_range 8 f.tenants;
  scope_count = length f.scopes;
  scopes = filled zero_scope 4 (map stored_scope f.scopes);
}

-- the lease records of a file
unfoldable pub stored_table : File → LeaseTable
stored_table f = table_of (merged_from 1 8 f.leases f.holds)

-- the file of a book, each tenant's records as they stand
unfoldable pub filed_as : Book → File
filed_as b = record {
  server = b.state.server;
  clock = b.state.clock;
  tenants = ranges_of b.state;
  scopes = map (filed_scope b.state.tenant_count) (scopes_of b.state);
  leases = filed_leases b.table;
  names = b.names;
  releases = filed_memory b.memory;
  holds = filed_holds b.table;
}

-- the book with each tenant's records in the order of the file
abbrev pub in_order : Book → Book
in_order b = changed_to b b.state (in_file_order b.table) b.memory

-- the file of a book: "The campus file keeps its own order" (document 02, W-209)
unfoldable pub filed_book : Book → File
filed_book b = filed_as (in_order b)

-- ---- limits
-- so many tenants and scopes (rule 1)
unfoldable pub counts_fit : ℕ → ℕ → Bool
counts_fit tenants scopes = pick (ltb 8 tenants) false (leb scopes 4)

-- the records can hold the settings
abbrev pub settings_fit_b : File → Bool
settings_fit_b f = counts_fit (length f.tenants) (length f.scopes)

-- the records can hold the file: its settings, its leases and holds, and its releases
unfoldable pub fits_b : File → Bool
fits_b f = pick (settings_fit_b f) (pick (records_fit_b f.leases f.holds) (releases_fit_b f.releases) false) false
