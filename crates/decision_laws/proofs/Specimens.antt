-- Specimens: document 01's specimens P1 to P9 and those of skew, with Resend, RELEASE and DISCOVER, a RELEASE sent again (document 02, W-202),
-- minimum lease and latest start (W-203), and holds (W-205), by computation: one table of cases; and how many records are compared (W-210).
use Rattle.std.specs.Prelude.{◌≡◌, refl, List, [], ◌∷◌, ◌++◌, Bool, true, false, ◌&&◌, Option, Some, None, ℕ, ◌+◌, replicate, eqb}
use Rattle.lists.specs.Pick.{pick}
use Rattle.lists.specs.Arranged.{insert_in}
use Rattle.lists.specs.Filter.{filter_by, is_in}
use Rattle.lists.specs.Place.{place_by}
use Rattle.lists.specs.Sums.{sum_to}
use Rattle.lists.specs.Down.{largest}
use Rattle.identifier.specs.Order.{order_of, same_of}
use Rattle.address_set.specs.AddressSet.{bit, offsets_from, set_of, difference_of, up_to}
use Rattle.message.specs.declared.Fields.{Fields}
use Rattle.message.specs.declared.Language.{Language}
use Rattle.occupancy.specs.Board.{no_board}
use Rattle.state.specs.declared.State.{State}
use Rattle.state.specs.Book.{Book, changed_to, with_clock, laid_releases, releases_at, remembered, by_identifier, zero_scope, laid_out, table_of, remove_of, live_of, dropped, is_hold, until, union_all, addresses_of, overlaps, used_in, with_held, committed, inserted_by, by_ending, compared_of}
use Rattle.allocation.specs.Rule.{taken_of, busy_in, allowed, grant_of, suffices, grant_to}
use Rattle.state.specs.Edit.{left_in, remember_of, forget_of, noted_in, noted, edited_book, applied_by, edited_by}
use Rattle.releases.specs.Again.{is_again, any_again}
use Rattle.decision.specs.declared.Decided.{Decided}
use Rattle.decision.specs.declared.Verdict.{Verdict}
use Rattle.admission.specs.Tests.{held_already, is_new, has_period, found_in, own_of, resends, released_again, scope_place, knows_scope, lacks_scope, zero_length, bad_counts, lacks_current, early1_of, error1_of, skewed, error2_of, error3_of, latest_first, is_leased, is_held, same_scope, is_for_hold, dropped_of, drops_hold, asks_identifier}
use Rattle.proposal.specs.Proposals.{start_of, length_of, end_of, ask_at, fits_new, new_with, new_at, new_of, others_busy, fits_renewed, renewed_to, renewed_of, proposal_of, error0_of, lease_from, too_short, too_late, meets, hold_meets, turned, brought_by, held_from}
use Rattle.decision.specs.Verdicts.{with_lease, plain_reply, nak_with, discard_with, refusal_of}
use Rattle.decision.specs.laws.Code.{reply_type}
use Rattle.decision.specs.Count.{count_of, identifier_count, lookup_count}
use Rattle.decision.specs.Decide.{leased_of, plain_of, settled_of, repeated_of, dropped_first, judged_of, decide_of}

-- scope 239.192.0.0, size 4; tenant 1 reserve 2 limit 3; tenant 2 reserve 1 limit 4
settings : ℕ → State
settings clock = record {
  server = 167837953;
  clock = clock;
  tenant_count = 2;
  tenants = record { low = 1; high = 9 } ∷ record { low = 10; high = 19 } ∷ replicate 6 (record { low = 0; high = 0 });
  scope_count = 1;
  scopes = record { lowest = 4022337536; size = 4; ttl = 1; reserve = 2 ∷ 1 ∷ replicate 6 0; limit = 3 ∷ 4 ∷ replicate 6 0 } ∷ replicate 3 zero_scope;
}

-- an option of four octets; 0 stands for none
wish : ℕ → Option ℕ
wish n = pick (eqb n 0) None (Some n)

-- no option 8
abbrev unasked : Language
unasked = record { asked = false; len = 0; octets = replicate 8 0 }

-- a call by a tenant counted from 0: time, type, identifier, transaction id, least, desired, Lease Time, Start Time, Current Time
record Call : Type 0 where
  tenant : ℕ
  time : ℕ
  fields : Fields

call : ℕ → ℕ → ℕ → ℕ → ℕ → ℕ → ℕ → ℕ → ℕ → ℕ → Call
call h time kind i xid least desired len start current = record {
  tenant = h;
  time = time;
  fields = record {
    kind = kind;
    xid = xid;
    id = record { octets = 0 ∷ i ∷ replicate 30 0; len = 2 };
    allowed = true;
    scope = wish 4022337536;
    counts = record { least = least; desired = desired };
    times = record { length = wish len; start = wish start; current = wish current; shortest = wish 0; latest = wish 0 };
    features = false;
    ours = true;
    list_asked = false;
    time_asked = false;
    language = unasked;
  };
}

-- an option of four octets with any value, 0 too; the specimens' scope
abbrev absent : Option ℕ
absent = None

abbrev given : ℕ → Option ℕ
given n = Some n

abbrev ours : Option ℕ
ours = given 4022337536

-- a REQUEST of house 2 for one address by what it says: are all options allowed, Scope, least, desired, Lease Time, and whether 15 is there
abbrev asks : Bool → Option ℕ → ℕ → ℕ → Option ℕ → Bool → Call
asks allowed scope least desired len latest = record {
  tenant = 1;
  time = 1000;
  fields = record {
    kind = 3;
    xid = 1;
    id = record { octets = 0 ∷ 1 ∷ replicate 30 0; len = 2 };
    allowed = allowed;
    scope = scope;
    counts = record { least = least; desired = desired };
    times = record { length = len; start = absent; current = absent; shortest = absent; latest = pick latest (Some 0) None };
    features = false;
    ours = true;
    list_asked = false;
    time_asked = false;
    language = unasked;
  };
}

-- the same call with an option that isn't allowed
abbrev forbidden : Call → Call
forbidden c = record {
  tenant = c.tenant;
  time = c.time;
  fields = record {
    kind = c.fields.kind;
    xid = c.fields.xid;
    id = c.fields.id;
    allowed = false;
    scope = c.fields.scope;
    counts = c.fields.counts;
    times = c.fields.times;
    features = c.fields.features;
    ours = c.fields.ours;
    list_asked = c.fields.list_asked;
    time_asked = c.fields.time_asked;
    language = c.fields.language;
  };
}

-- the same call with Minimum Lease Time and Maximum Start Time
abbrev bounded : Option ℕ → Option ℕ → Call → Call
bounded shortest latest c = record {
  tenant = c.tenant;
  time = c.time;
  fields = record {
    kind = c.fields.kind;
    xid = c.fields.xid;
    id = c.fields.id;
    allowed = c.fields.allowed;
    scope = c.fields.scope;
    counts = c.fields.counts;
    times = record { length = c.fields.times.length; start = c.fields.times.start; current = c.fields.times.current; shortest = shortest; latest = latest };
    features = c.fields.features;
    ours = c.fields.ours;
    list_asked = c.fields.list_asked;
    time_asked = c.fields.time_asked;
    language = c.fields.language;
  };
}

-- house 2 asks for one address: Lease Time, with a Minimum Lease Time; Start Time and Current Time, with a Maximum Start Time
abbrev lasting : ℕ → ℕ → Call
lasting len shortest = bounded (given shortest) absent (call 1 1000 3 1 1 1 1 len 0 0)

abbrev starting : ℕ → ℕ → ℕ → Call
starting start current latest = bounded absent (given latest) (call 1 1000 3 1 1 1 1 0 start current)

-- house 1 renews P3's lease, from 1000 to 2000, at 1500: Lease Time; and P5's, from 2000, at 1000: Start Time
abbrev renewing3 : ℕ → Option ℕ → Option ℕ → Call
renewing3 len shortest latest = bounded shortest latest (call 0 1500 4 2 4 1 1 len 0 1500)

abbrev renewing5 : ℕ → ℕ → Call
renewing5 start latest = bounded absent (given latest) (call 0 1000 4 3 4 1 1 0 start 1000)

-- the book that a call finds, and what is decided on it
now : Book → Call → Book
now b c = changed_to b (with_clock b.state c.time) (dropped c.time b.table) b.memory

decided : Book → Call → Decided
decided b c = decide_of b.state b.table (remembered (releases_at b.memory c.tenant)) c.tenant c.fields

run : Book → List Call → Book
run b [] = b
run b (c ∷ cs) = run (edited_book (decided (now b c) c).edit c.tenant (now b c)) cs

empty : State → Book
empty s = record { state = s; table = table_of (replicate 8 []); memory = record { releases = replicate 8 (laid_releases []); board = no_board }; names = [] }

record Case : Type 0 where
  settings_of_law : State
  before : List Call
  last : Call
  outcome : ℕ
  reply : ℕ
  error : ℕ
  addresses : ℕ

holds : Case → Bool
holds c =
    let v : Verdict = (decided (now (run (empty c.settings_of_law) c.before) c.last) c.last).verdict in
    eqb v.outcome c.outcome && (eqb (reply_type v.reply) c.reply && (eqb v.error c.error && eqb v.addresses c.addresses))

all_hold : List Case → Bool
all_hold [] = true
all_hold (c ∷ cs) = holds c && all_hold cs

-- in one scope: an ACK, a NAK, an OFFER, discard 8
ack : List Call → Call → ℕ → Case
ack before last addresses = record { settings_of_law = settings 0; before = before; last = last; outcome = 0; reply = 5; error = 0; addresses = addresses }

nak : List Call → Call → ℕ → Case
nak before last error = record { settings_of_law = settings 0; before = before; last = last; outcome = 0; reply = 6; error = error; addresses = 0 }

offer : List Call → Call → ℕ → Case
offer before last addresses = record { settings_of_law = settings 0; before = before; last = last; outcome = 0; reply = 2; error = 0; addresses = addresses }

unheard : List Call → Call → Case
unheard before last = record { settings_of_law = settings 0; before = before; last = last; outcome = 8; reply = 0; error = 0; addresses = 0 }

-- the same in two: a second, 239.193.0.0, size 2, of which either house may have both
two_scopes : State
two_scopes = record {
  server = 167837953;
  clock = 0;
  tenant_count = 2;
  tenants = record { low = 1; high = 9 } ∷ record { low = 10; high = 19 } ∷ replicate 6 (record { low = 0; high = 0 });
  scope_count = 2;
  scopes =
      record { lowest = 4022337536; size = 4; ttl = 1; reserve = 2 ∷ 1 ∷ replicate 6 0; limit = 3 ∷ 4 ∷ replicate 6 0 }
      ∷ record { lowest = 4022403072; size = 2; ttl = 1; reserve = replicate 8 0; limit = 2 ∷ 2 ∷ replicate 6 0 }
      ∷ replicate 2 zero_scope;
}

in_two : Case → Case
in_two c = record { settings_of_law = two_scopes; before = c.before; last = c.last; outcome = c.outcome; reply = c.reply; error = c.error; addresses = c.addresses }

-- the same call for the second scope
second : Call → Call
second c = record {
  tenant = c.tenant;
  time = c.time;
  fields = record {
    kind = c.fields.kind;
    xid = c.fields.xid;
    id = c.fields.id;
    allowed = c.fields.allowed;
    scope = given 4022403072;
    counts = c.fields.counts;
    times = c.fields.times;
    features = c.fields.features;
    ours = c.fields.ours;
    list_asked = c.fields.list_asked;
    time_asked = c.fields.time_asked;
    language = c.fields.language;
  };
}

p1 : Call
p1 = call 1 1000 3 1 1 1 4 0 0 0

p3 : Call
p3 = call 0 1000 3 2 2 2 3 1000 0 0

p5 : Call
p5 = call 0 1000 3 3 3 2 2 0 2000 1000

-- house 1 releases P3's lease at 1500; the same at a time
released : ℕ → Call
released time = call 0 time 7 2 5 1 1 0 0 0

-- house 2 requests an address and releases it: identifier and transaction id k, at 1000 + k
turn : ℕ → List Call
turn k = call 1 (1000 + k) 3 k k 1 1 0 0 0 ∷ call 1 (1000 + k) 7 k k 1 1 0 0 0 ∷ []

five : List Call
five = turn 1 ++ turn 2 ++ turn 3 ++ turn 4 ++ turn 5

-- W-205: house 1 is offered.0, .1 and .2 for a Lease Time from 1000; asks for them, by least and desired; house 2 asks for all that it can have
held : ℕ → Call
held len = call 0 1000 1 2 2 2 3 len 0 0

wants : ℕ → ℕ → ℕ → Call
wants time least desired = call 0 time 3 2 9 least desired 0 0 0

other : ℕ → Call
other time = call 1 time 3 1 1 1 4 0 0 0

table : List Case
table =
    -- P1: .0 and .1; P2: error 0
    ack [] p1 3 ∷ nak [] (call 1 1000 3 1 1 3 4 0 0 0) 0
    -- P3: .2, .3; P4: error 0
    ∷ ack (p1 ∷ []) p3 12 ∷ nak (p1 ∷ []) (call 0 1000 3 2 2 3 3 0 0 0) 0
    -- P5: .2, .3; P6: error 0
    ∷ ack (p1 ∷ p3 ∷ []) p5 12 ∷ nak (p1 ∷ p3 ∷ []) (call 0 1000 3 3 3 2 2 0 1999 1000) 0
    -- P7: error 0; P8: ACK
    ∷ nak (p1 ∷ p3 ∷ p5 ∷ []) (call 0 1000 4 2 4 1 1 1001 0 0) 0 ∷ ack (p1 ∷ p3 ∷ p5 ∷ []) (call 0 1000 4 2 4 1 1 1000 0 0) 12
    -- P9: P3's lease is there to be released at 1999, and gone at 2000
    ∷ ack (p1 ∷ p3 ∷ []) (call 0 1999 7 2 5 1 1 0 0 0) 0 ∷ nak (p1 ∷ p3 ∷ []) (call 0 2000 7 2 5 1 1 0 0 0) 3
    -- skew 1,800 passes, 1,801 draws error 2
    ∷ ack [] (call 1 1000 3 1 1 1 4 0 0 2800) 3 ∷ nak [] (call 1 1000 3 1 1 1 4 0 0 2801) 2
    -- Resend; a held identifier; RELEASE and REQUEST again; DISCOVER, and one that draws an error; GETINFO
    ∷ ack (p1 ∷ p3 ∷ []) p3 12 ∷ nak (p1 ∷ p3 ∷ []) (call 0 1000 3 2 7 2 3 1000 0 0) 1
    ∷ ack (p1 ∷ call 1 1000 7 1 9 1 1 0 0 0 ∷ []) (call 1 1000 3 1 1 1 4 0 0 0) 3
    ∷ offer (p1 ∷ []) (call 0 1000 1 2 2 2 3 0 0 0) 12
    ∷ unheard (p1 ∷ []) (call 0 1000 1 2 2 3 3 0 0 0)
    ∷ ack [] (call 0 1000 8 2 2 1 1 0 0 0) 0
    -- error 1, a test each: an option that isn't allowed, no scope, another's scope, Lease Time 0, least 0, least above desired, 15 and 6 without 11; and none of them
    ∷ nak [] (asks false ours 1 1 absent false) 1
    ∷ nak [] (asks true absent 1 1 absent false) 1
    ∷ nak [] (asks true (given 4022337537) 1 1 absent false) 1
    ∷ nak [] (asks true ours 1 1 (given 0) false) 1
    ∷ nak [] (asks true ours 0 1 absent false) 1
    ∷ nak [] (asks true ours 2 1 absent false) 1
    ∷ nak [] (asks true ours 1 1 absent true) 1
    ∷ nak [] (call 1 1000 3 1 1 1 1 0 2000 0) 1
    ∷ ack [] (asks true ours 1 1 (given 1) false) 1
    -- no Resend: a RENEW with the REQUEST's transaction id, and the REQUEST again after it
    ∷ ack (p1 ∷ []) (call 1 1000 4 1 1 1 1 0 0 0) 3
    ∷ nak (p1 ∷ call 1 1000 4 1 1 1 1 0 0 0 ∷ []) p1 1
    -- error 0: a start at the horizon and a second past it; an end at the last second of 32 bits and one past it
    ∷ ack [] (call 1 1000 3 1 1 1 1 0 2593000 1000) 1
    ∷ nak [] (call 1 1000 3 1 1 1 1 0 2593001 1000) 0
    ∷ ack [] (call 1 4294967000 3 1 1 1 1 295 0 0) 1
    ∷ nak [] (call 1 4294967000 3 1 1 1 1 296 0 0) 0
    -- the grant rule: house 1 gets no more than its limit, 3; house 2 gets 2 where house 1 holds 1 of its share of 2
    ∷ ack [] (call 0 1000 3 1 1 1 4 0 0 0) 7
    ∷ ack (call 0 1000 3 1 1 1 1 0 0 0 ∷ []) (call 1 1000 3 2 2 1 4 0 0 0) 6
    -- house 1's own .1, free from 2000, comes before .0, which is nobody's since 1010; then .0
    ∷ ack (call 1 1000 3 1 1 1 1 10 0 0 ∷ call 0 1000 3 2 2 1 1 1000 0 0 ∷ []) (call 0 1010 3 3 3 1 1 0 2000 1010) 2
    ∷ ack (call 1 1000 3 1 1 1 1 10 0 0 ∷ call 0 1000 3 2 2 1 1 1000 0 0 ∷ []) (call 0 1010 3 3 3 1 2 0 2000 1010) 3
    -- W-202: a RELEASE sent again, 299 and 300 seconds after the first; the one that was sent again renews nothing
    ∷ ack (p3 ∷ released 1500 ∷ []) (released 1799) 0
    ∷ nak (p3 ∷ released 1500 ∷ []) (released 1800) 3
    ∷ nak (p3 ∷ released 1500 ∷ released 1799 ∷ []) (released 1800) 3
    -- another transaction id; another identifier; another house; another type
    ∷ nak (p3 ∷ released 1500 ∷ []) (call 0 1500 7 2 6 1 1 0 0 0) 3
    ∷ nak (p3 ∷ released 1500 ∷ []) (call 0 1500 7 3 5 1 1 0 0 0) 3
    ∷ nak (p3 ∷ released 1500 ∷ []) (call 1 1500 7 2 5 1 1 0 0 0) 3
    ∷ nak (p3 ∷ released 1500 ∷ []) (call 0 1500 4 2 5 1 1 0 0 0) 3
    -- before error 1: an option that isn't allowed is acknowledged with the RELEASE sent again, and is error 1 with the first; a NAK is not remembered
    ∷ ack (p3 ∷ released 1500 ∷ []) (forbidden (released 1500)) 0
    ∷ nak (p3 ∷ []) (forbidden (released 1500)) 1
    ∷ nak (released 1500 ∷ []) (released 1500) 3
    -- a new lease on the identifier, which ends at 1510, forgets its release; till then the old RELEASE's octets release it
    ∷ nak (p3 ∷ released 1500 ∷ call 0 1500 3 2 8 1 1 10 0 0 ∷ []) (released 1510) 3
    ∷ ack (p3 ∷ released 1500 ∷ call 0 1500 3 2 8 1 1 10 0 0 ∷ released 1501 ∷ []) (call 0 1501 3 2 9 1 1 0 0 0) 1
    -- a REQUEST that is refused forgets nothing
    ∷ ack (p3 ∷ released 1500 ∷ call 0 1500 3 2 8 4 4 0 0 0 ∷ []) (released 1510) 0
    -- a fifth release forgets the oldest
    ∷ nak five (call 1 1005 7 1 1 1 1 0 0 0) 3
    ∷ ack five (call 1 1005 7 2 2 1 1 0 0 0) 0
    -- W-203: a length below Minimum Lease Time. Ten days asked for, of which seven can be given; the longest lease and a second more or less, the cut before the test
    ∷ nak [] (lasting 864000 864000) 0
    ∷ ack [] (lasting 604801 604800) 1
    ∷ nak [] (lasting 604801 604801) 0
    ∷ nak [] (lasting 604799 604800) 0
    -- equal passes, a second more does not; 0 is always met; without Lease Time the default counts, and is not raised
    ∷ ack [] (lasting 1000 1000) 1 ∷ nak [] (lasting 1000 1001) 0 ∷ ack [] (lasting 1000 0) 1
    ∷ ack [] (lasting 0 3600) 1 ∷ nak [] (lasting 0 3601) 0
    -- a start after Maximum Start Time: without Start Time it is the clock; one before the clock is raised past the latest, also where it is the latest itself
    ∷ ack [] (starting 0 1000 1000) 1 ∷ nak [] (starting 0 1000 999) 0 ∷ nak [] (starting 0 1000 0) 0
    ∷ nak [] (starting 900 1000 900) 0 ∷ nak [] (starting 900 1000 999) 0 ∷ ack [] (starting 900 1000 1000) 1
    -- Maximum Start Time before Start Time is error 1 and not 0, before the clock too, and before error 2; equal and later pass; 15 still needs 11
    ∷ nak [] (starting 2000 1000 1999) 1 ∷ nak [] (starting 900 1000 899) 1 ∷ ack [] (starting 2000 1000 2000) 1 ∷ ack [] (starting 2000 1000 2001) 1
    ∷ nak [] (starting 2000 9000 1999) 1 ∷ nak [] (starting 2000 9000 2000) 2 ∷ nak [] (starting 2000 0 2000) 1
    -- RENEW: Lease Time, or the old length of 1,000 seconds; 604,801 is never met
    ∷ ack (p1 ∷ p3 ∷ []) (renewing3 700 (given 700) absent) 12 ∷ nak (p1 ∷ p3 ∷ []) (renewing3 700 (given 701) absent) 0
    ∷ ack (p1 ∷ p3 ∷ []) (renewing3 0 (given 1000) absent) 12 ∷ nak (p1 ∷ p3 ∷ []) (renewing3 0 (given 1001) absent) 0
    ∷ ack (p1 ∷ p3 ∷ []) (renewing3 604801 (given 604800) absent) 12 ∷ nak (p1 ∷ p3 ∷ []) (renewing3 604801 (given 604801) absent) 0
    -- without Start Time the old start, raised to the clock; error 1 goes by Start Time and not by the old start; error 3 comes before error 0
    ∷ ack (p1 ∷ p3 ∷ []) (renewing3 0 absent (given 1500)) 12 ∷ nak (p1 ∷ p3 ∷ []) (renewing3 0 absent (given 1499)) 0
    ∷ ack (p1 ∷ p3 ∷ p5 ∷ []) (renewing5 0 2000) 12 ∷ nak (p1 ∷ p3 ∷ p5 ∷ []) (renewing5 0 1999) 0
    ∷ ack (p1 ∷ p3 ∷ p5 ∷ []) (renewing5 2500 2500) 12 ∷ nak (p1 ∷ p3 ∷ p5 ∷ []) (renewing5 2500 2499) 1
    ∷ nak (p1 ∷ p3 ∷ []) (renewing5 0 999) 3
    -- a Resend is acknowledged whatever 14 and 15 say, of a REQUEST and of a RENEW
    ∷ ack (p1 ∷ p3 ∷ []) (bounded (given 4294967295) (given 0) p3) 12
    ∷ ack (p1 ∷ p3 ∷ p5 ∷ []) (bounded (given 604801) (given 1999) p5) 12
    ∷ ack (p1 ∷ p3 ∷ renewing3 0 absent absent ∷ []) (renewing3 0 (given 604801) (given 0)) 12
    -- a DISCOVER draws the OFFER, or discard 8 for each of the three
    ∷ offer [] (bounded (given 3600) (given 1000) (call 1 1000 1 1 1 1 1 0 0 1000)) 1
    ∷ unheard [] (bounded (given 3601) (given 1000) (call 1 1000 1 1 1 1 1 0 0 1000))
    ∷ unheard [] (bounded (given 3600) (given 999) (call 1 1000 1 1 1 1 1 0 0 1000))
    ∷ unheard [] (bounded absent (given 1999) (call 1 1000 1 1 1 1 1 0 2000 1000))
    -- a REQUEST that is refused so forgets no release
    ∷ ack (p3 ∷ released 1500 ∷ bounded (given 604801) absent (call 0 1500 3 2 8 1 1 0 0 0) ∷ []) (released 1510) 0
    -- H1: an offer, and the REQUEST, which gets all that is held, also where it desires less; asked again it is a Resend, and a DISCOVER then is error 1
    ∷ offer [] (held 1000) 7 ∷ ack (held 1000 ∷ []) (wants 1029 2 3) 7 ∷ ack (held 1000 ∷ []) (wants 1000 1 1) 7
    ∷ ack (held 1000 ∷ wants 1029 2 3 ∷ []) (wants 1500 2 3) 7 ∷ unheard (held 1000 ∷ wants 1029 2 3 ∷ []) (call 0 1030 1 2 2 2 3 0 0 0)
    -- H2: another house between gets what is not held, and the REQUEST what was offered
    ∷ ack (held 1000 ∷ []) (other 1001) 8 ∷ ack (held 1000 ∷ other 1001 ∷ []) (wants 1029 2 3) 7
    -- H3: it lapses after thirty seconds, or at its period's end, and the REQUEST is then new
    ∷ ack (held 1000 ∷ []) (other 1029) 8 ∷ ack (held 1000 ∷ []) (other 1030) 3 ∷ ack (held 1000 ∷ other 1030 ∷ []) (wants 1030 2 3) 12
    ∷ ack (held 10 ∷ []) (other 1009) 8 ∷ ack (held 10 ∷ []) (other 1010) 3
    -- H4: a REQUEST for another scope drops it, where it is granted and where it is refused, but not by errors 1 and 2; a DISCOVER for another scope is error 1
    ∷ in_two (ack (held 1000 ∷ []) (second (wants 1001 1 2)) 3) ∷ in_two (ack (held 1000 ∷ second (wants 1001 1 2) ∷ []) (other 1001) 3)
    ∷ in_two (nak (held 1000 ∷ []) (second (wants 1001 3 3)) 0) ∷ in_two (ack (held 1000 ∷ second (wants 1001 3 3) ∷ []) (other 1001) 3)
    ∷ in_two (nak (held 1000 ∷ []) (second (wants 1001 0 3)) 1) ∷ in_two (ack (held 1000 ∷ second (wants 1001 0 3) ∷ []) (other 1001) 8)
    ∷ in_two (nak (held 1000 ∷ []) (second (call 0 1001 3 2 9 1 1 0 0 9000)) 2) ∷ in_two (ack (held 1000 ∷ second (call 0 1001 3 2 9 1 1 0 0 9000) ∷ []) (other 1001) 8)
    ∷ in_two (unheard (held 1000 ∷ []) (second (held 1000))) ∷ in_two (ack (held 1000 ∷ second (held 1000) ∷ []) (wants 1001 2 3) 7)
    -- H5: least above what is held, a length and a start that it does not have: error 0, and the hold is kept
    ∷ nak (held 1000 ∷ []) (wants 1001 4 4) 0 ∷ unheard (held 1000 ∷ []) (call 0 1001 1 2 3 4 4 0 0 0) ∷ ack (held 1000 ∷ wants 1001 4 4 ∷ []) (wants 1002 3 3) 7
    ∷ nak (held 1000 ∷ []) (bounded (given 1001) absent (wants 1001 1 1)) 0 ∷ ack (held 1000 ∷ []) (bounded (given 1000) absent (wants 1001 1 1)) 7
    ∷ nak (held 1000 ∷ []) (bounded absent (given 999) (call 0 1001 3 2 9 1 1 0 0 1001)) 0 ∷ ack (held 1000 ∷ []) (bounded absent (given 1000) (call 0 1001 3 2 9 1 1 0 0 1001)) 7
    -- H6: the offer again, whatever Start Time says, and it does not last longer for that
    ∷ offer (held 1000 ∷ []) (call 0 1020 1 2 3 1 1 0 9999999 1020) 7 ∷ ack (held 1000 ∷ call 0 1020 1 2 3 1 1 0 0 0 ∷ []) (other 1029) 8
    ∷ ack (held 1000 ∷ call 0 1020 1 2 3 1 1 0 0 0 ∷ []) (other 1030) 3
    -- H7: RENEW and RELEASE of a hold are error 3, and the hold stays
    ∷ nak (held 1000 ∷ []) (call 0 1001 4 2 4 1 1 0 0 0) 3 ∷ nak (held 1000 ∷ []) (call 0 1001 7 2 5 1 1 0 0 0) 3
    ∷ ack (held 1000 ∷ call 0 1001 4 2 4 1 1 0 0 0 ∷ call 0 1001 7 2 5 1 1 0 0 0 ∷ []) (wants 1029 2 3) 7
    -- H8: it forgets its identifier's release, which does not come back; an offer that isn't given forgets nothing
    ∷ nak (p3 ∷ released 1500 ∷ call 0 1500 1 2 8 1 1 0 0 0 ∷ []) (released 1530) 3 ∷ ack (p3 ∷ released 1500 ∷ call 0 1500 1 2 8 4 4 0 0 0 ∷ []) (released 1530) 0
    -- H9: P7 with a hold for P5's lease: a RENEW that overlaps it
    ∷ nak (p1 ∷ p3 ∷ call 0 1000 1 3 3 2 2 0 2000 1000 ∷ []) (call 0 1000 4 2 4 1 1 1001 0 0) 0
    ∷ ack (p1 ∷ p3 ∷ call 0 1000 1 3 3 2 2 0 2000 1000 ∷ []) (call 0 1000 4 2 4 1 1 1000 0 0) 12
    ∷ []

specimens : all_hold table ≡ true
unfolding settings wish call now decided run empty reply_type holds all_hold ack nak offer unheard two_scopes in_two second held wants other p1 p3 p5 released turn five table pick filter_by is_in place_by sum_to largest order_of same_of bit offsets_from set_of difference_of up_to laid_out table_of insert_in by_identifier remove_of live_of dropped union_all addresses_of overlaps used_in taken_of busy_in with_held committed allowed grant_of suffices is_new has_period found_in resends scope_place knows_scope lacks_scope zero_length bad_counts lacks_current error1_of skewed error2_of error3_of start_of length_of end_of ask_at fits_new new_with new_at new_of others_busy fits_renewed renewed_to renewed_of proposal_of error0_of lease_from with_lease plain_reply nak_with discard_with refusal_of leased_of plain_of settled_of judged_of decide_of inserted_by left_in edited_by applied_by grant_to early1_of held_already laid_releases remember_of forget_of noted_in noted is_again any_again released_again latest_first too_short too_late meets is_leased is_held is_for_hold drops_hold dropped_of brought_by dropped_first until is_hold same_scope hold_meets repeated_of turned held_from by_ending
specimens = refl

-- W-203: Maximum Start Time before Start Time ends the matter before the identifier is looked for; equal it does not
late_early : (early1_of (settings 1000) (starting 2000 1000 1999).fields ≡ true) × (early1_of (settings 1000) (starting 2000 1000 2000).fields ≡ false)
unfolding settings wish call pick place_by is_new scope_place knows_scope lacks_scope zero_length bad_counts lacks_current latest_first early1_of
late_early = (refl, refl)

-- ---- W-210: the records that the lookups for a call compare
compared : List Call → Call → ℕ
compared before last =
    let b : Book = now (run (empty (settings 0)) before) last in
    count_of b.state (own_of b.table last.tenant) (remembered (releases_at b.memory last.tenant)) last.fields

-- house 1 has P3's lease, which ends at 2000, and then P5's; or P3's, for one address, after a hold that lapses at 1030
two : List Call
two = p1 ∷ p3 ∷ p5 ∷ []

holding : List Call
holding = call 0 1000 3 2 2 1 1 1000 0 0 ∷ call 0 1000 1 3 3 1 1 0 0 0 ∷ []

-- a REQUEST: of a house without records, another house's don't count; of an identifier that it has not, and that it has; Resend, of its first record and of its second
counts_request : (compared [] p1 ≡ 0) × (compared (p3 ∷ []) p1 ≡ 0) × (compared two (call 0 1000 3 4 4 1 1 0 0 0) ≡ 4) × (compared two (call 0 1000 3 2 7 1 1 0 0 0) ≡ 2)
    × (compared two (call 0 1000 3 3 7 1 1 0 0 0) ≡ 4) × (compared two p3 ≡ 1) × (compared two p5 ≡ 2)
unfolding settings wish call now decided run empty p1 p3 p5 released pick filter_by is_in place_by sum_to largest order_of same_of bit offsets_from set_of difference_of up_to laid_out table_of insert_in by_identifier remove_of live_of dropped union_all addresses_of overlaps used_in taken_of busy_in with_held committed allowed grant_of suffices is_new has_period found_in resends scope_place knows_scope lacks_scope zero_length bad_counts lacks_current error1_of skewed error2_of error3_of start_of length_of end_of ask_at fits_new new_with new_at new_of others_busy fits_renewed renewed_to renewed_of proposal_of error0_of lease_from with_lease plain_reply nak_with discard_with refusal_of leased_of plain_of settled_of judged_of decide_of inserted_by left_in edited_by applied_by grant_to early1_of held_already laid_releases remember_of forget_of noted_in noted is_again any_again released_again latest_first too_short too_late meets is_leased is_held is_for_hold drops_hold dropped_of brought_by dropped_first until is_hold same_scope hold_meets repeated_of turned held_from by_ending compared_of lookup_count asks_identifier identifier_count count_of compared two
counts_request = (refl, refl, refl, refl, refl, refl, refl)

-- a DISCOVER; a RENEW, of its second record and of none; a RELEASE, of its first record, and sent again, when the house has one record left, and too late for that; a GETINFO
counts_others : (compared two (call 0 1000 1 4 4 1 1 0 0 0) ≡ 2) × (compared two (call 0 1000 4 3 4 1 1 0 0 0) ≡ 4) × (compared two (call 0 1000 4 4 4 1 1 0 0 0) ≡ 4) × (compared two (released 1500) ≡ 1)
    × (compared (two ++ released 1500 ∷ []) (released 1799) ≡ 0) × (compared (two ++ released 1500 ∷ []) (released 1800) ≡ 1) × (compared two (call 0 1000 8 2 2 1 1 0 0 0) ≡ 0)
unfolding settings wish call now decided run empty p1 p3 p5 released pick filter_by is_in place_by sum_to largest order_of same_of bit offsets_from set_of difference_of up_to laid_out table_of insert_in by_identifier remove_of live_of dropped union_all addresses_of overlaps used_in taken_of busy_in with_held committed allowed grant_of suffices is_new has_period found_in resends scope_place knows_scope lacks_scope zero_length bad_counts lacks_current error1_of skewed error2_of error3_of start_of length_of end_of ask_at fits_new new_with new_at new_of others_busy fits_renewed renewed_to renewed_of proposal_of error0_of lease_from with_lease plain_reply nak_with discard_with refusal_of leased_of plain_of settled_of judged_of decide_of inserted_by left_in edited_by applied_by grant_to early1_of held_already laid_releases remember_of forget_of noted_in noted is_again any_again released_again latest_first too_short too_late meets is_leased is_held is_for_hold drops_hold dropped_of brought_by dropped_first until is_hold same_scope hold_meets repeated_of turned held_from by_ending compared_of lookup_count asks_identifier identifier_count count_of compared two
counts_others = (refl, refl, refl, refl, refl, refl, refl)

-- error 1's tests before the identifier's end the matter: REQUEST, RENEW, DISCOVER, RELEASE; error 2 comes after the identifier's test for a REQUEST and a DISCOVER, and before it for a RENEW and a RELEASE
counts_ended : (compared two (forbidden (call 0 1000 3 4 4 1 1 0 0 0)) ≡ 2) × (compared two (forbidden (call 0 1000 4 3 4 1 1 0 0 0)) ≡ 2) × (compared two (forbidden (call 0 1000 1 4 4 1 1 0 0 0)) ≡ 0)
    × (compared two (forbidden (released 1500)) ≡ 0) × (compared two (call 0 1000 3 4 4 1 1 0 0 9000) ≡ 4) × (compared two (call 0 1000 1 4 4 1 1 0 0 9000) ≡ 2) × (compared two (call 0 1000 4 3 4 1 1 0 0 9000) ≡ 2)
    × (compared two (call 0 1000 7 3 4 1 1 0 0 9000) ≡ 0)
unfolding settings wish call now decided run empty p1 p3 p5 released pick filter_by is_in place_by sum_to largest order_of same_of bit offsets_from set_of difference_of up_to laid_out table_of insert_in by_identifier remove_of live_of dropped union_all addresses_of overlaps used_in taken_of busy_in with_held committed allowed grant_of suffices is_new has_period found_in resends scope_place knows_scope lacks_scope zero_length bad_counts lacks_current error1_of skewed error2_of error3_of start_of length_of end_of ask_at fits_new new_with new_at new_of others_busy fits_renewed renewed_to renewed_of proposal_of error0_of lease_from with_lease plain_reply nak_with discard_with refusal_of leased_of plain_of settled_of judged_of decide_of inserted_by left_in edited_by applied_by grant_to early1_of held_already laid_releases remember_of forget_of noted_in noted is_again any_again released_again latest_first too_short too_late meets is_leased is_held is_for_hold drops_hold dropped_of brought_by dropped_first until is_hold same_scope hold_meets repeated_of turned held_from by_ending compared_of lookup_count asks_identifier identifier_count count_of compared two
counts_ended = (refl, refl, refl, refl, refl, refl, refl, refl)

-- a hold is found in its place, by its lapse, and costs nothing more to turn into a lease; the lease after it, until it lapses
counts_held : (compared holding (call 0 1001 3 3 9 1 1 0 0 0) ≡ 2) × (compared holding (call 0 1029 3 2 2 1 1 1000 0 0) ≡ 2) × (compared holding (call 0 1030 3 2 2 1 1 1000 0 0) ≡ 1)
unfolding settings wish call now decided run empty p1 p3 p5 released pick filter_by is_in place_by sum_to largest order_of same_of bit offsets_from set_of difference_of up_to laid_out table_of insert_in by_identifier remove_of live_of dropped union_all addresses_of overlaps used_in taken_of busy_in with_held committed allowed grant_of suffices is_new has_period found_in resends scope_place knows_scope lacks_scope zero_length bad_counts lacks_current error1_of skewed error2_of error3_of start_of length_of end_of ask_at fits_new new_with new_at new_of others_busy fits_renewed renewed_to renewed_of proposal_of error0_of lease_from with_lease plain_reply nak_with discard_with refusal_of leased_of plain_of settled_of judged_of decide_of inserted_by left_in edited_by applied_by grant_to early1_of held_already laid_releases remember_of forget_of noted_in noted is_again any_again released_again latest_first too_short too_late meets is_leased is_held is_for_hold drops_hold dropped_of brought_by dropped_first until is_hold same_scope hold_meets repeated_of turned held_from by_ending compared_of lookup_count asks_identifier identifier_count count_of compared holding
counts_held = (refl, refl, refl)

-- ---- periods
-- start and length, from Lease Time and Start Time, the clock, and what stands for an absent one: the old start and length of a RENEW, the clock and 3,600 otherwise
abbrev period : Option ℕ → Option ℕ → ℕ → ℕ → ℕ → List ℕ
period len start clock old_start old_length =
    let m : Fields = record {
      kind = 4;
      xid = 1;
      id = record { octets = replicate 32 0; len = 2 };
      allowed = true;
      scope = absent;
      counts = record { least = 1; desired = 1 };
      times = record { length = len; start = start; current = given clock; shortest = absent; latest = absent };
      features = false;
      ours = true;
      list_asked = false;
      time_asked = false;
      language = unasked;
    } in
    start_of m clock old_start ∷ length_of m old_length ∷ []

-- the longest lease and a second more, an old one that is longer; absent; a Start Time before the clock and after it; an old start before the clock and after it
periods : (period (given 604800) absent 1000 1000 3600 ≡ 1000 ∷ 604800 ∷ [])
    × (period (given 604801) absent 1000 1000 3600 ≡ 1000 ∷ 604800 ∷ [])
    × (period absent absent 1000 1000 700000 ≡ 1000 ∷ 604800 ∷ [])
    × (period absent absent 1000 1000 3600 ≡ 1000 ∷ 3600 ∷ [])
    × (period (given 1) (given 999) 1000 1000 3600 ≡ 1000 ∷ 1 ∷ [])
    × (period (given 1) (given 1001) 1000 1000 3600 ≡ 1001 ∷ 1 ∷ [])
    × (period absent absent 1500 1000 1000 ≡ 1500 ∷ 1000 ∷ [])
    × (period absent absent 1500 2000 1000 ≡ 2000 ∷ 1000 ∷ [])
unfolding start_of length_of pick
periods = (refl, refl, refl, refl, refl, refl, refl, refl)
