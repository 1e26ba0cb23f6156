-- Definitions: document 02, W-210: "A datagram's count .. is the sum over its lookups", on the tests after test 7 in their order (Decide.antt). s is the state, own
-- are the records of the client's house, ended leases and lapsed holds dropped, q the releases that are remembered of it, m what the message says. The memory of
-- releases is not among the records: to ask it is no lookup.
use Rattle.std.specs.Prelude.{ℕ, ◌+◌, Bool, List}
use Rattle.lists.specs.Pick.{pick}
use Rattle.message.specs.declared.Fields.{Fields}
use Rattle.state.specs.declared.Lease.{Lease}
use Rattle.state.specs.declared.Release.{Release}
use Rattle.state.specs.declared.State.{State}
use Rattle.state.specs.Book.{compared_of}
use Rattle.admission.specs.Tests.{lease_id_in, recorded_of, resends, released_again, early1_of, asks_resend, asks_identifier}

-- the records compared in one lookup, of the message's identifier, where it is made
unfoldable pub lookup_count : Bool → List Lease → Fields → ℕ
lookup_count made own m = pick made (compared_of (lease_id_in m) own) 0

-- "unless an earlier test has ended the matter": Resend, a RELEASE sent again (W-202), or one of error 1's tests before the identifier's
unfoldable pub identifier_count : State → List Lease → List Release → Fields → ℕ
identifier_count s own q m =
    pick (resends m (recorded_of own m)) 0
    (pick (released_again s q m) 0
    (pick (early1_of s m) 0
    (lookup_count (asks_identifier s m) own m)))

-- "the sum over its lookups"
unfoldable pub count_of : State → List Lease → List Release → Fields → ℕ
count_of s own q m = lookup_count (asks_resend m) own m + identifier_count s own q m
