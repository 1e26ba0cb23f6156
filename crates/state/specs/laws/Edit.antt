-- Laws: what a call does to one tenant's leases and to what is remembered of it, as a value, and the book afterwards.
use Rattle.std.specs.Prelude.{ℕ}
use Rattle.state.specs.declared.LeaseTable.{LeaseTable}
use Rattle.state.specs.declared.Edit.{Edit}
use Rattle.state.specs.Book.{ordered}
use Rattle.state.specs.Edit.{applied_by}

-- ---- the leases

abbrev pub applied : Edit → ℕ → LeaseTable → LeaseTable
applied e h b = applied_by ordered e h b
