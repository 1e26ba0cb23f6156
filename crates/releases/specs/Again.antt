-- Definitions: a RELEASE sent again (document 02, W-202).
use Rattle.std.specs.Prelude.{ℕ, ◌+◌, Bool, ◌&&◌, List, eqb, ltb, length}
use Rattle.lists.specs.Place.{place_by}
use Rattle.identifier.specs.Order.{same_of}
use Rattle.state.specs.declared.Release.{Release}
use Rattle.state.specs.Book.{release_id}

-- "less than 300 seconds after that"
abbrev pub resend_time : ℕ
resend_time = 300

-- "the same .. identifier and transaction id, at a clock less than 300 seconds after that": a sum above 32 bits does not wrap
unfoldable pub is_again : ℕ → List ℕ → ℕ → Release → Bool
is_again clock i xid r = same_of (release_id r) i && (eqb r.xid xid && ltb clock (r.time + resend_time))

-- one of the releases q that are remembered of a house is so
unfoldable pub any_again : ℕ → List ℕ → ℕ → List Release → Bool
any_again clock i xid q = ltb (place_by (is_again clock i xid) q) (length q)
