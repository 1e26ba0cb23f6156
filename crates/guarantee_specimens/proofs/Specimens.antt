-- Specimens: document 01's specimens P1 to P12, those of skew and a few more, on whole datagrams, whole replies and the book afterwards, by computation: one table of
-- cases, one theorem; offers held (document 02, W-205) among them; a second table of a RELEASE sent again (W-202); a third of the board (W-207); how many records were read (W-210); and the premises of the statements, met on the same book.
use mathlib.Core.Path.{◌≡◌, refl, sym, ap, ◌∙◌, subst}
use mathlib.Core.List.{List, [], ◌∷◌, ◌++◌}
use mathlib.Core.Bool.{Bool, true, false}
use Prim.Native.Nat.{ℕ, zero, suc, ◌+◌, ◌<◌, ◌^◌}
use lib.ListN.{get_or, length, replicate, set}
use native.Mathlib.Omega.{arith}
use lib.Dec.{eqb}
use borrow.Author.Tests.{leb-true, ltb-true}
use Rattle.lists.specs.Pick.{pick}
use Rattle.lists.specs.All.{All, all_by}
use Rattle.occupancy.specs.declared.Board.{Board}
use Rattle.occupancy.specs.Board.{added_to, entry_at, held_in, no_board, scope_board_at}
use Rattle.state.specs.Book.{Book, laid_releases, release_id, remembered, table_of, zero_scope, id_of, leases_of}
use Rattle.server.specs.Serve.{Call, serve_of, Answer}
use Rattle.guarantee.specs.Statement.{BoardStays, Demand3, Granted, NewRequest, NoHold, SoundBook, run, says_of, tenant_for}
use Rattle.offer_guarantee.specs.Statement.{Elsewhere, GrantedAsOffered, OfferHeld, TakesUp, Discovers, Offered, OfferRule}
use Rattle.call_guarantee.specs.Statement.{Narrow}
use Rattle.state.specs.declared.Lease.{Lease}
use Rattle.state.specs.declared.Release.{Release}
use Rattle.state.specs.declared.TenantReleases.{TenantReleases}
use Rattle.state.specs.laws.Layout.{table_back}
use Rattle.admission.specs.Tests.{lease_id_in}
use Rattle.decision_laws.specs.laws.Kept.{own_is}
use Rattle.guarantee.proofs.Board.{board_stays}
use Rattle.guarantee.proofs.Granted.{demand3}
use Rattle.guarantee.proofs.Kept.{run_sound}
use Rattle.offer_guarantee.proofs.Offers.{offer_rule}
use Rattle.guarantee_specimens.proofs.Opened.{computed}
use Rattle.offer_guarantee.proofs.Taken.{offer_held}

-- names of a scope: "en", flagged 128, with the text A; "de" with the text B
abbrev pub english : List ℕ
english = 128 ∷ 2 ∷ 0x65 ∷ 0x6E ∷ 1 ∷ 0x41 ∷ []

abbrev pub german : List ℕ
german = 0 ∷ 2 ∷ 0x64 ∷ 0x65 ∷ 1 ∷ 0x42 ∷ []

-- scope 239.192.0.0, size 4; house 1 share 2 limit 3; house 2 share 1 limit 4; clock 1000; server 10.1.1.1; house 1's clients are 10.0.1.0 to
-- 10.0.1.255, house 2's 10.0.2.0 to 10.0.2.255
abbrev pub book : Book
book = record {
  state = record {
    server = 0x0A010101;
    clock = 1000;
    tenant_count = 2;
    tenants = record { low = 0x0A000100; high = 0x0A0001FF } ∷ record { low = 0x0A000200; high = 0x0A0002FF } ∷ replicate 6 (record { low = 0; high = 0 });
    scope_count = 1;
    scopes = record { lowest = 0xEFC00000; size = 4; ttl = 15; reserve = 2 ∷ 1 ∷ replicate 6 0; limit = 3 ∷ 4 ∷ replicate 6 0 } ∷ replicate 3 zero_scope;
  };
  table = table_of (replicate 8 []);
  memory = record { releases = replicate 8 (laid_releases []); board = no_board };
  names = 1 ∷ 1 ∷ english ++ 1 ∷ german ++ 0 ∷ [];
}

-- ---- datagrams and replies
-- an option with a code and a value
abbrev pub option : ℕ → List ℕ → List ℕ
option code value = 0 ∷ code ∷ 0 ∷ length value ∷ value

-- the four octets of a time whose upper two are 0
abbrev pub seconds : ℕ → ℕ → List ℕ
seconds high low = 0 ∷ 0 ∷ high ∷ low ∷ []

-- a type and transaction id 01 02 03 x
abbrev pub header : ℕ → ℕ → List ℕ
header kind x = 0 ∷ kind ∷ 0 ∷ 1 ∷ 1 ∷ 2 ∷ 3 ∷ x ∷ []

-- Lease Identifier 00 i
abbrev pub identifier : ℕ → List ℕ
identifier i = option 3 (0 ∷ i ∷ [])

abbrev pub scope : List ℕ
scope = option 4 (0xEF ∷ 0xC0 ∷ 0 ∷ 0 ∷ [])

abbrev pub server : List ℕ
server = option 2 (0 ∷ 1 ∷ 0x0A ∷ 1 ∷ 1 ∷ 1 ∷ [])

abbrev pub end : List ℕ
end = 0 ∷ 0 ∷ 0 ∷ 0 ∷ []

-- a REQUEST: transaction id, identifier, least, desired, other options
abbrev pub request : ℕ → ℕ → ℕ → ℕ → List ℕ → List ℕ
request x i least desired more = header 3 x ++ identifier i ++ scope ++ option 7 (0 ∷ least ∷ 0 ∷ desired ∷ []) ++ more ++ end

-- ACK to REQUEST and RENEW: Current Time, transaction id, identifier, Lease Time, Start Time, offset and count of the one range
abbrev pub ack_at : List ℕ → ℕ → ℕ → List ℕ → List ℕ → ℕ → ℕ → List ℕ
ack_at now x i lease start offset count =
    header 5 x ++ option 1 lease ++ server ++ identifier i ++ scope ++ option 6 start ++ option 10 (0xEF ∷ 0xC0 ∷ 0 ∷ offset ∷ 0 ∷ count ∷ []) ++ option 11 now ++ end

-- at 1000
abbrev pub ack : ℕ → ℕ → List ℕ → List ℕ → ℕ → ℕ → List ℕ
ack = ack_at (seconds 0x03 0xE8)

-- NAK: transaction id, identifier, error
abbrev pub nak : ℕ → ℕ → ℕ → List ℕ
nak x i error = header 6 x ++ server ++ identifier i ++ option 16 (0 ∷ error ∷ []) ++ end

-- ---- calls
abbrev pub call : ℕ → ℕ → List ℕ → Call
call client time datagram = record { datagram = datagram; client = client; time = time; room = 512 }

-- from 10.0.1.5, a client of house 1, and from 10.0.2.5, of house 2
abbrev pub house1 : ℕ → List ℕ → Call
house1 = call 0x0A000105

abbrev pub house2 : ℕ → List ℕ → Call
house2 = call 0x0A000205

abbrev pub p1 : Call
p1 = house2 1000 (request 1 0x41 1 4 [])

abbrev pub p3 : Call
p3 = house1 1000 (request 3 0x42 2 3 (option 1 (seconds 0x03 0xE8)))

abbrev pub p5 : Call
p5 = house1 1000 (request 5 0x43 2 2 (option 6 (seconds 0x07 0xD0) ++ option 11 (seconds 0x03 0xE8)))

-- ---- the leases and holds of a book, in numbers: house, scope, identifier length and octets, type, transaction id, start, end, set of offsets, lapse
abbrev pub row : ℕ → Lease → List ℕ
row h l = h ∷ l.scope ∷ l.id_len ∷ id_of l ++ l.kind ∷ l.xid ∷ l.start ∷ l.end ∷ l.addresses ∷ l.lapse ∷ []

unfoldable pub rows : ℕ → List Lease → List ℕ
rows h [] = []
rows h (l ∷ ls) = row h l ++ rows h ls

unfoldable pub all_rows : ℕ → List (List Lease) → List ℕ
all_rows h [] = []
all_rows h (ls ∷ more) = rows h ls ++ all_rows (suc h) more

-- such a row in the one scope: house, identifier 00 i, type, transaction id 01 02 03 x, start, end, set of offsets; a hold's, with its lapse
abbrev pub lease : ℕ → ℕ → ℕ → ℕ → ℕ → ℕ → ℕ → List ℕ
lease h i kind x from to set = h ∷ 1 ∷ 2 ∷ 0 ∷ i ∷ kind ∷ (0x01020300 + x) ∷ from ∷ to ∷ set ∷ 0 ∷ []

abbrev pub hold : ℕ → ℕ → ℕ → ℕ → ℕ → ℕ → ℕ → List ℕ
hold h i x from to set lapse = h ∷ 1 ∷ 2 ∷ 0 ∷ i ∷ 1 ∷ (0x01020300 + x) ∷ from ∷ to ∷ set ∷ lapse ∷ []

-- .0 and .1 are the set 3, .2 and .3 the set 12
abbrev pub lease1 : List ℕ
lease1 = lease 2 0x41 3 1 1000 4600 3

abbrev pub lease3 : List ℕ
lease3 = lease 1 0x42 3 3 1000 2000 12

abbrev pub lease5 : List ℕ
lease5 = lease 1 0x43 3 5 2000 5600 12

-- ---- the cases: the calls before, the last call; its outcome and reply, the book's clock and leases afterwards
pub record Case : Type 0 where
  pub before : List Call
  pub last : Call
  pub outcome : ℕ
  pub reply : List ℕ
  pub clock : ℕ
  pub leases : List ℕ

unfoldable pub same : List ℕ → List ℕ → Bool
same [] [] = true
same [] (y ∷ ys) = false
same (x ∷ xs) [] = false
same (x ∷ xs) (y ∷ ys) = pick (eqb x y) (same xs ys) false

-- an answer is the case's
unfoldable pub agrees : Case → Answer → Bool
agrees c a =
    pick (eqb a.outcome c.outcome)
    (pick (same a.reply c.reply) (pick (eqb a.book.state.clock c.clock) (same (all_rows 1 (leases_of a.book.table)) c.leases) false) false)
    false

unfoldable pub holds : Case → Bool
holds c = agrees c (serve_of (run book c.before) c.last)

-- a reply, with the leases afterwards
abbrev pub answers : List Call → Call → List ℕ → List ℕ → Case
answers before last reply leases = record { before = before; last = last; outcome = 0; reply = reply; clock = last.time; leases = leases }

-- a discard of the first call
abbrev pub discards : Call → ℕ → Case
discards last number = record { before = []; last = last; outcome = number; reply = []; clock = last.time; leases = [] }

-- P9: GETINFO asking for the time, and its ACK, at 1999 and 2000
abbrev pub getinfo : List ℕ
getinfo = header 8 9 ++ identifier 0x50 ++ option 5 (0 ∷ 11 ∷ []) ++ end

abbrev pub info_ack : List ℕ → List ℕ
info_ack now = header 5 9 ++ server ++ identifier 0x50 ++ option 11 now ++ end

-- document 02, W-201: GETINFO asking for the scopes, with other options before; its ACK, with the scope's names after their number
abbrev pub scopes_asked : List ℕ → List ℕ
scopes_asked more = header 8 9 ++ identifier 0x50 ++ option 5 (0 ∷ 9 ∷ []) ++ more ++ end

abbrev pub scopes_ack : List ℕ → List ℕ
scopes_ack named = header 5 9 ++ server ++ identifier 0x50 ++ option 9 (1 ∷ 0xEF ∷ 0xC0 ∷ 0 ∷ 0 ∷ 0xEF ∷ 0xC0 ∷ 0 ∷ 3 ∷ 15 ∷ named) ++ end

-- P12, as document 01 writes it
abbrev pub p12 : List ℕ
p12 = 0x00 ∷ 0x07 ∷ 0x00 ∷ 0x01 ∷ 0x01 ∷ 0x02 ∷ 0x03 ∷ 0x04 ∷ 0x00 ∷ 0x03 ∷ 0x00 ∷ 0x02 ∷ 0x00 ∷ 0x41 ∷ 0x00 ∷ 0x00 ∷ 0x00 ∷ 0x00 ∷ []

abbrev pub p12_reply : List ℕ
p12_reply =
    0x00 ∷ 0x06 ∷ 0x00 ∷ 0x01 ∷ 0x01 ∷ 0x02 ∷ 0x03 ∷ 0x04 ∷ 0x00 ∷ 0x02 ∷ 0x00 ∷ 0x06 ∷ 0x00 ∷ 0x01 ∷ 0x0A ∷ 0x01 ∷ 0x01 ∷ 0x01 ∷ 0x00 ∷ 0x03 ∷ 0x00 ∷ 0x02 ∷ 0x00 ∷ 0x41
    ∷ 0x00 ∷ 0x10 ∷ 0x00 ∷ 0x02 ∷ 0x00 ∷ 0x03 ∷ 0x00 ∷ 0x00 ∷ 0x00 ∷ 0x00 ∷ []

-- P1's REQUEST with a Current Time, and a RENEW of its lease with one
abbrev pub request_at : ℕ → ℕ → List ℕ
request_at high low = request 1 0x41 1 4 (option 11 (seconds high low))

abbrev pub renew_at : ℕ → ℕ → List ℕ
renew_at high low = header 4 12 ++ identifier 0x41 ++ option 11 (seconds high low) ++ end

-- a DISCOVER: transaction id, identifier, least, desired, other options; one as P1's REQUEST, with a least and a desired number
abbrev pub discover_as : ℕ → ℕ → ℕ → ℕ → List ℕ → List ℕ
discover_as x i least desired more = header 1 x ++ identifier i ++ scope ++ option 7 (0 ∷ least ∷ 0 ∷ desired ∷ []) ++ more ++ end

abbrev pub discover : ℕ → ℕ → List ℕ
discover least desired = discover_as 1 0x41 least desired []

-- the OFFER, of 3,600 seconds: Current Time, transaction id, identifier, Start Time, offset and count of the one range
abbrev pub offer_at : List ℕ → ℕ → ℕ → List ℕ → ℕ → ℕ → List ℕ
offer_at now x i start offset count =
    header 2 x ++ option 1 (seconds 0x0E 0x10) ++ server ++ identifier i ++ scope ++ option 6 start ++ option 10 (0xEF ∷ 0xC0 ∷ 0 ∷ offset ∷ 0 ∷ count ∷ []) ++ option 11 now ++ end

abbrev pub offer : List ℕ
offer = offer_at (seconds 0x03 0xE8) 1 0x41 (seconds 0x03 0xE8) 0 2

-- document 02, W-205: house 1's DISCOVER at 1000, which is offered.0 to .2, and its REQUEST with a least number; house 2's REQUEST for all
abbrev pub d3 : Call
d3 = house1 1000 (discover_as 3 0x42 2 3 [])

abbrev pub takes_up : ℕ → ℕ → Call
takes_up time least = house1 time (request 3 0x42 least 3 [])

abbrev pub wants_all : ℕ → ℕ → Call
wants_all time x = house2 time (request x (0x40 + x) 1 4 [])

abbrev pub between : List Call
between = wants_all 1001 1 ∷ wants_all 1029 2 ∷ []

-- the hold, and what house 2 then gets at 1001: .3
abbrev pub hold3 : List ℕ
hold3 = hold 1 0x42 3 1000 4600 7 1030

abbrev pub lease2 : List ℕ
lease2 = lease 2 0x41 3 1 1001 4601 8

-- document 02, W-203: P1's REQUEST with a Lease Time and a Minimum Lease Time of ten days; with a Maximum Start Time; RENEWs of P1's lease
abbrev pub ten_days : List ℕ
ten_days = 0 ∷ 0x0D ∷ 0x2F ∷ 0 ∷ []

abbrev pub request_by : ℕ → ℕ → List ℕ
request_by high low = request 1 0x41 1 4 (option 11 (seconds 0x03 0xE8) ++ option 15 (seconds high low))

abbrev pub renew_with : List ℕ → List ℕ
renew_with more = header 4 12 ++ identifier 0x41 ++ option 11 (seconds 0x07 0xD0) ++ more ++ end

unfoldable pub table : List Case
table =
    -- P1: .0 and .1; P2: error 0
    answers [] p1 (ack 1 0x41 (seconds 0x0E 0x10) (seconds 0x03 0xE8) 0 2) lease1
    ∷ answers [] (house2 1000 (request 2 0x41 3 4 [])) (nak 2 0x41 0) []
    -- P3: .2, .3; P4: error 0
    ∷ answers (p1 ∷ []) p3 (ack 3 0x42 (seconds 0x03 0xE8) (seconds 0x03 0xE8) 2 2) (lease3 ++ lease1)
    ∷ answers (p1 ∷ []) (house1 1000 (request 4 0x42 3 3 [])) (nak 4 0x42 0) lease1
    -- P5: from (2000).2, .3; P6: from 1999 error 0
    ∷ answers (p1 ∷ p3 ∷ []) p5 (ack 5 0x43 (seconds 0x0E 0x10) (seconds 0x07 0xD0) 2 2) (lease3 ++ lease5 ++ lease1)
    ∷ answers (p1 ∷ p3 ∷ []) (house1 1000 (request 6 0x43 2 2 (option 6 (seconds 0x07 0xCF) ++ option 11 (seconds 0x03 0xE8)))) (nak 6 0x43 0) (lease3 ++ lease1)
    -- P7: RENEW with Lease Time 1001, error 0; P8: with 1000, ACK, and the lease has the type and transaction id of the RENEW
    ∷ answers (p1 ∷ p3 ∷ p5 ∷ []) (house1 1000 (header 4 7 ++ option 1 (seconds 0x03 0xE9) ++ identifier 0x42 ++ end)) (nak 7 0x42 0) (lease3 ++ lease5 ++ lease1)
    ∷ answers (p1 ∷ p3 ∷ p5 ∷ []) (house1 1000 (header 4 8 ++ option 1 (seconds 0x03 0xE8) ++ identifier 0x42 ++ end)) (ack 8 0x42 (seconds 0x03 0xE8) (seconds 0x03 0xE8) 2 2)
    (lease 1 0x42 4 8 1000 2000 12 ++ lease5 ++ lease1)
    -- P9: P3's lease is in the book at 1999, to be released; at 2000 it is gone
    ∷ answers (p1 ∷ p3 ∷ []) (house2 1999 getinfo) (info_ack (seconds 0x07 0xCF)) (lease3 ++ lease1)
    ∷ answers (p1 ∷ p3 ∷ []) (house2 2000 getinfo) (info_ack (seconds 0x07 0xD0)) lease1
    ∷ answers (p1 ∷ p3 ∷ []) (house1 1999 (header 7 9 ++ identifier 0x42 ++ end)) (header 5 9 ++ server ++ identifier 0x42 ++ end) lease1
    ∷ answers (p1 ∷ p3 ∷ []) (house1 2000 (header 7 9 ++ identifier 0x42 ++ end)) (nak 9 0x42 3) lease1
    -- P10: 11 octets; P11: header and End alone; P12
    ∷ discards (house1 1000 (header 3 10 ++ 0 ∷ 3 ∷ 0 ∷ [])) 4
    ∷ discards (house1 1000 (header 3 11 ++ end)) 5
    ∷ answers [] (house1 1000 p12) p12_reply []
    -- skew 1,800 passes, 1,801 draws error 2: Current Time after the clock, and before it
    ∷ answers [] (house2 1000 (request_at 0x0A 0xF0)) (ack 1 0x41 (seconds 0x0E 0x10) (seconds 0x03 0xE8) 0 2) lease1
    ∷ answers [] (house2 1000 (request_at 0x0A 0xF1)) (nak 1 0x41 2) []
    ∷ answers (p1 ∷ []) (house2 2800 (renew_at 0x03 0xE8)) (ack_at (seconds 0x0A 0xF0) 12 0x41 (seconds 0x0E 0x10) (seconds 0x0A 0xF0) 0 2) (lease 2 0x41 4 12 2800 6400 3)
    ∷ answers (p1 ∷ []) (house2 2800 (renew_at 0x03 0xE7)) (nak 12 0x41 2) lease1
    -- a Resend: P1 again, at a later time, draws the ACK with the lease as it is; DISCOVER as P1 draws the OFFER, and is held
    ∷ answers (p1 ∷ []) (house2 2000 (request 1 0x41 1 4 [])) (ack_at (seconds 0x07 0xD0) 1 0x41 (seconds 0x0E 0x10) (seconds 0x03 0xE8) 0 2) lease1
    ∷ answers [] (house2 1000 (discover 1 4)) offer (hold 2 0x41 1 1000 4600 3 1030)
    -- discards: a room of 511 octets, at a later time, changes nothing; a stranger; a required feature; another server; a DISCOVER that draws an error
    ∷ record { before = p1 ∷ []; last = record { datagram = getinfo; client = 0x0A000105; time = 9000; room = 511 }; outcome = 2; reply = []; clock = 1000; leases = lease1 }
    ∷ discards (call 0x0A000305 1000 getinfo) 3
    ∷ discards (house1 1000 (header 8 9 ++ identifier 0x50 ++ option 12 (0 ∷ 0 ∷ 0 ∷ 0 ∷ 0 ∷ 1 ∷ 0 ∷ 7 ∷ []) ++ end)) 6
    ∷ discards (house2 1000 (request 1 0x41 1 4 (option 2 (0 ∷ 1 ∷ 0x0A ∷ 1 ∷ 1 ∷ 2 ∷ [])))) 7
    ∷ discards (house2 1000 (discover 3 4)) 8
    -- W-201: the house's own name in the language; the campus default where neither list has one, and where no language is asked for; after calls too
    ∷ answers [] (house1 1000 (scopes_asked (option 8 (0x64 ∷ 0x65 ∷ [])))) (scopes_ack (1 ∷ german)) []
    ∷ answers [] (house2 1000 (scopes_asked (option 8 (0x64 ∷ 0x65 ∷ [])))) (scopes_ack (1 ∷ english)) []
    ∷ answers (p1 ∷ p3 ∷ []) (house1 1000 (scopes_asked [])) (scopes_ack (1 ∷ english)) (lease3 ++ lease1)
    -- W-203: at least ten days can't be given; the default of 3,600 seconds against 3,600 and 3,601
    ∷ answers [] (house2 1000 (request 1 0x41 1 4 (option 1 ten_days ++ option 14 ten_days))) (nak 1 0x41 0) []
    ∷ answers [] (house2 1000 (request 1 0x41 1 4 (option 14 (seconds 0x0E 0x10)))) (ack 1 0x41 (seconds 0x0E 0x10) (seconds 0x03 0xE8) 0 2) lease1
    ∷ answers [] (house2 1000 (request 1 0x41 1 4 (option 14 (seconds 0x0E 0x11)))) (nak 1 0x41 0) []
    -- a latest start at the clock and a second before it; before Start Time
    ∷ answers [] (house2 1000 (request_by 0x03 0xE8)) (ack 1 0x41 (seconds 0x0E 0x10) (seconds 0x03 0xE8) 0 2) lease1
    ∷ answers [] (house2 1000 (request_by 0x03 0xE7)) (nak 1 0x41 0) []
    ∷ answers [] (house2 1000 (request 1 0x41 1 4 (option 6 (seconds 0x07 0xD0) ++ option 11 (seconds 0x03 0xE8) ++ option 15 (seconds 0x07 0xCF)))) (nak 1 0x41 1) []
    -- RENEW at 2000 of P1's lease: its old start is raised, its old length is 3,600
    ∷ answers (p1 ∷ []) (house2 2000 (renew_with (option 14 (seconds 0x0E 0x10) ++ option 15 (seconds 0x07 0xD0))))
    (ack_at (seconds 0x07 0xD0) 12 0x41 (seconds 0x0E 0x10) (seconds 0x07 0xD0) 0 2) (lease 2 0x41 4 12 2000 5600 3)
    ∷ answers (p1 ∷ []) (house2 2000 (renew_with (option 14 (seconds 0x0E 0x11)))) (nak 12 0x41 0) lease1
    ∷ answers (p1 ∷ []) (house2 2000 (renew_with (option 15 (seconds 0x07 0xCF)))) (nak 12 0x41 0) lease1
    -- a Resend is acknowledged whatever 14 says; a DISCOVER that it forbids is discard 8
    ∷ answers (p1 ∷ []) (house2 2000 (request 1 0x41 1 4 (option 14 ten_days))) (ack_at (seconds 0x07 0xD0) 1 0x41 (seconds 0x0E 0x10) (seconds 0x03 0xE8) 0 2) lease1
    ∷ discards (house2 1000 (header 1 1 ++ identifier 0x41 ++ scope ++ option 14 (seconds 0x0E 0x11) ++ end)) 8
    -- W-205: house 2, which asks for all, gets what is not held; the offer is taken up at 1029, from its own start, whatever house 2 has asked for
    ∷ answers (d3 ∷ []) (wants_all 1001 1) (ack_at (seconds 0x03 0xE9) 1 0x41 (seconds 0x0E 0x10) (seconds 0x03 0xE9) 3 1) (hold3 ++ lease2)
    ∷ answers (d3 ∷ between) (takes_up 1029 2) (ack_at (seconds 0x04 0x05) 3 0x42 (seconds 0x0E 0x10) (seconds 0x03 0xE8) 0 3) (lease 1 0x42 3 3 1000 4600 7 ++ lease2)
    -- at 1030 the hold has lapsed, and the REQUEST is judged anew: from 1030, and on what house 2 has left
    ∷ answers (d3 ∷ wants_all 1001 1 ∷ []) (takes_up 1030 2) (ack_at (seconds 0x04 0x06) 3 0x42 (seconds 0x0E 0x10) (seconds 0x04 0x06) 0 3) (lease 1 0x42 3 3 1030 4630 7 ++ lease2)
    ∷ answers (d3 ∷ wants_all 1001 1 ∷ wants_all 1030 2 ∷ []) (takes_up 1030 2) (ack_at (seconds 0x04 0x06) 3 0x42 (seconds 0x0E 0x10) (seconds 0x04 0x06) 1 2)
    (lease 1 0x42 3 3 1030 4630 6 ++ lease2 ++ lease 2 0x42 3 2 1030 4630 1)
    ∷ answers (d3 ∷ wants_all 1001 1 ∷ wants_all 1030 2 ∷ []) (takes_up 1030 3) (nak 3 0x42 0) (lease2 ++ lease 2 0x42 3 2 1030 4630 1)
    -- a DISCOVER repeats the offer under its own id and leaves the hold; more than is held is error 0, and a RENEW and a RELEASE of a hold are error 3
    ∷ answers (d3 ∷ []) (house1 1010 (discover_as 4 0x42 1 1 [])) (offer_at (seconds 0x03 0xF2) 4 0x42 (seconds 0x03 0xE8) 0 3) hold3
    ∷ record { before = d3 ∷ []; last = house1 1010 (discover_as 4 0x42 4 4 []); outcome = 8; reply = []; clock = 1010; leases = hold3 }
    ∷ answers (d3 ∷ []) (house1 1010 (request 4 0x42 4 4 [])) (nak 4 0x42 0) hold3
    ∷ answers (d3 ∷ []) (house1 1010 (request 4 0x42 1 1 (option 14 (seconds 0x0E 0x11)))) (nak 4 0x42 0) hold3
    ∷ answers (d3 ∷ []) (house1 1010 (header 4 8 ++ identifier 0x42 ++ end)) (nak 8 0x42 3) hold3
    ∷ answers (d3 ∷ []) (house1 1010 (header 7 8 ++ identifier 0x42 ++ end)) (nak 8 0x42 3) hold3
    -- a short period's end lapses the hold sooner
    ∷ answers [] (house1 1000 (discover_as 3 0x42 3 3 (option 1 (seconds 0 29))))
    (header 2 3 ++ option 1 (seconds 0 29) ++ server ++ identifier 0x42 ++ scope ++ option 6 (seconds 0x03 0xE8) ++ option 10 (0xEF ∷ 0xC0 ∷ 0 ∷ 0 ∷ 0 ∷ 3 ∷ []) ++ option 11 (seconds 0x03 0xE8) ++ end)
    (hold 1 0x42 3 1000 1029 7 1029)
    ∷ []

pub specimens : all_by holds table ≡ true
unfolding computed table rows all_rows same agrees holds
specimens = refl

-- ---- W-210: how many records were read for a call
unfoldable pub read_for : List Call → Call → ℕ
read_for before last = (serve_of (run book before) last).count

-- P1, by a house without records; P5, which is not found after P3; P5 again, the second of two; P8's RENEW, twice the first
pub read_twice : (read_for [] p1 ≡ 0) × (read_for (p1 ∷ p3 ∷ []) p5 ≡ 2) × (read_for (p1 ∷ p3 ∷ p5 ∷ []) p5 ≡ 2)
    × (read_for (p1 ∷ p3 ∷ p5 ∷ []) (house1 1000 (header 4 8 ++ option 1 (seconds 0x03 0xE8) ++ identifier 0x42 ++ end)) ≡ 2)
unfolding computed read_for
read_twice = (refl, refl, refl, refl)

-- discard 8 has its count: a DISCOVER for more than is held; a GETINFO and a REQUEST to another server have none
pub read_once : (read_for (d3 ∷ []) (house1 1010 (discover_as 4 0x42 4 4 [])) ≡ 1) × (read_for (p1 ∷ []) (house2 1000 getinfo) ≡ 0)
    × (read_for (p1 ∷ []) (house2 1000 (request 1 0x41 1 4 (option 2 (0 ∷ 1 ∷ 0x0A ∷ 1 ∷ 1 ∷ 2 ∷ [])))) ≡ 0)
unfolding computed read_for
read_once = (refl, refl, refl)

-- an offer taken up at once finds the hold; the REQUEST alone finds nothing (`AnswersAlike` leaves the count out)
pub read_held : (read_for (d3 ∷ []) (takes_up 1000 2) ≡ 2) × (read_for [] (takes_up 1000 2) ≡ 0)
unfolding computed read_for
read_held = (refl, refl)

-- ---- W-202: a RELEASE sent again
-- what a book remembers, in numbers: house, identifier length and octets, transaction id, time
abbrev pub release_row : ℕ → Release → List ℕ
release_row h r = h ∷ r.id_len ∷ release_id r ++ r.xid ∷ r.time ∷ []

unfoldable pub release_rows : ℕ → List Release → List ℕ
release_rows h [] = []
release_rows h (r ∷ rs) = release_row h r ++ release_rows h rs

unfoldable pub all_releases : ℕ → List TenantReleases → List ℕ
all_releases h [] = []
all_releases h (q ∷ more) = release_rows h (remembered q) ++ all_releases (suc h) more

-- such a row: house, identifier 00 i, transaction id 01 02 03 x, time
abbrev pub noted : ℕ → ℕ → ℕ → ℕ → List ℕ
noted h i x time = h ∷ 2 ∷ 0 ∷ i ∷ (0x01020300 + x) ∷ time ∷ []

-- a RELEASE, and the ACK to it
abbrev pub release : ℕ → ℕ → List ℕ
release x i = header 7 x ++ identifier i ++ end

abbrev pub release_ack : ℕ → ℕ → List ℕ
release_ack x i = header 5 x ++ server ++ identifier i ++ end

-- a case, with what is remembered afterwards
pub record ReleaseCase : Type 0 where
  pub case : Case
  pub releases : List ℕ

unfoldable pub remembers : ReleaseCase → Answer → Bool
remembers c a = pick (agrees c.case a) (same (all_releases 1 a.book.memory.releases) c.releases) false

unfoldable pub keeps : ReleaseCase → Bool
keeps c = remembers c (serve_of (run book c.case.before) c.case.last)

abbrev pub then : Case → List ℕ → ReleaseCase
then c releases = record { case = c; releases = releases }

-- house 1 releases P3's lease, at a time; P1, P3 and that at 1500
abbrev pub r3 : ℕ → Call
r3 time = house1 time (release 9 0x42)

abbrev pub released : List Call
released = p1 ∷ p3 ∷ r3 1500 ∷ []

-- house 1 requests the identifier anew: .2 from 1500
abbrev pub anew : Call
anew = house1 1500 (request 10 0x42 1 1 [])

-- house 2 requests one address and releases it
abbrev pub turn : ℕ → List Call
turn i = house2 1000 (request i i 1 1 []) ∷ house2 1000 (release i i) ∷ []

unfoldable pub release_table : List ReleaseCase
release_table =
    -- released; the same RELEASE 299 seconds later draws the ACK, and what is remembered is as it was; 300 seconds later, and after a resend, error 3
    then (answers (p1 ∷ p3 ∷ []) (r3 1500) (release_ack 9 0x42) lease1) (noted 1 0x42 9 1500)
    ∷ then (answers released (r3 1799) (release_ack 9 0x42) lease1) (noted 1 0x42 9 1500)
    ∷ then (answers released (r3 1800) (nak 9 0x42 3) lease1) (noted 1 0x42 9 1500)
    ∷ then (answers (released ++ r3 1799 ∷ []) (r3 1800) (nak 9 0x42 3) lease1) (noted 1 0x42 9 1500)
    -- another transaction id; another house's equal identifier
    ∷ then (answers released (house1 1500 (release 8 0x42)) (nak 8 0x42 3) lease1) (noted 1 0x42 9 1500)
    ∷ then (answers released (house2 1500 (release 9 0x42)) (nak 9 0x42 3) lease1) (noted 1 0x42 9 1500)
    -- before error 1: with Scope, which a RELEASE may not have
    ∷ then (answers released (house1 1500 (header 7 9 ++ identifier 0x42 ++ scope ++ end)) (release_ack 9 0x42) lease1) (noted 1 0x42 9 1500)
    -- a new lease on the identifier forgets it; then the old RELEASE's octets release the new lease
    ∷ then (answers released anew (ack_at (seconds 0x05 0xDC) 10 0x42 (seconds 0x0E 0x10) (seconds 0x05 0xDC) 2 1) (lease 1 0x42 3 10 1500 5100 4 ++ lease1)) []
    ∷ then (answers (released ++ anew ∷ []) (r3 1501) (release_ack 9 0x42) lease1) (noted 1 0x42 9 1501)
    -- W-205: and so does an OFFER, whose hold lapses without bringing it back; one that is not given forgets nothing
    ∷ then (answers released (house1 1500 (discover_as 10 0x42 1 1 [])) (offer_at (seconds 0x05 0xDC) 10 0x42 (seconds 0x05 0xDC) 2 1) (hold 1 0x42 10 1500 5100 4 1530 ++ lease1)) []
    ∷ then (answers (released ++ house1 1500 (discover_as 10 0x42 1 1 []) ∷ []) (r3 1530) (nak 9 0x42 3) lease1) []
    ∷ then (record { before = released; last = house1 1500 (discover_as 10 0x42 3 3 []); outcome = 8; reply = []; clock = 1500; leases = lease1 }) (noted 1 0x42 9 1500)
    -- a fifth release forgets the oldest
    ∷ then (answers (turn 1 ++ turn 2 ++ turn 3 ++ turn 4 ++ house2 1000 (request 5 5 1 1 []) ∷ []) (house2 1000 (release 5 5)) (release_ack 5 5) []) (noted 2 2 2 1000 ++ noted 2 3 3 1000 ++ noted 2 4 4 1000 ++ noted 2 5 5 1000)
    ∷ then (answers (turn 1 ++ turn 2 ++ turn 3 ++ turn 4 ++ turn 5) (house2 1000 (release 1 1)) (nak 1 1 3) []) (noted 2 2 2 1000 ++ noted 2 3 3 1000 ++ noted 2 4 4 1000 ++ noted 2 5 5 1000)
    ∷ then (answers (turn 1 ++ turn 2 ++ turn 3 ++ turn 4 ++ turn 5) (house2 1000 (release 2 2)) (release_ack 2 2) []) (noted 2 2 2 1000 ++ noted 2 3 3 1000 ++ noted 2 4 4 1000 ++ noted 2 5 5 1000)
    -- a discard leaves it
    ∷ then (record { before = released; last = record { datagram = release 9 0x42; client = 0x0A000105; time = 1600; room = 511 }; outcome = 2; reply = []; clock = 1500; leases = lease1 }) (noted 1 0x42 9 1500)
    ∷ []

pub release_specimens : all_by keeps release_table ≡ true
unfolding computed release_table rows all_rows release_rows all_releases same agrees remembers keeps
release_specimens = refl

-- ---- demand 3's premises are met: P3 after P1 is a new REQUEST within the unused share
pub sound : SoundBook book
unfolding computed
sound = record { tenants = refl; memory = refl; sound = refl }

pub new : NewRequest (run book (p1 ∷ [])) p3
unfolding computed
new = record {
  room = leb-true _ _ refl;
  house = ltb-true _ _ refl;
  read = refl;
  request = refl;
  ours = refl;
  new = refl;
  free = refl;
  error1 = refl;
  error2 = refl;
  soon = leb-true _ _ refl;
  fits = leb-true _ _ refl;
  met = refl;
  left = ltb-true _ _ refl;
  least = leb-true _ _ refl;
}

granted : Granted (run book (p1 ∷ [])) p3 (serve_of (run book (p1 ∷ [])) p3)
unfolding Demand3
granted = (demand3 book sound (p1 ∷ [])).next p3 new

-- ---- so are demand 1's, of every book that holds no lease, and the OFFER rule's
pub narrow : Narrow book
unfolding Narrow All
narrow g = subst (All (λ l. l.addresses < 2 ^ 64)) (sym (own_is book.table g ∙ ap (λ (l : List (List Lease)). get_or l g []) (table_back (replicate 8 [])) ∙ none 8 g)) tt
  where
    none : (n g : ℕ) → ◌≡◌ {A = List Lease} (get_or (replicate n []) g []) []
    none zero g = refl
    none (suc n) zero = refl
    none (suc n) (suc g) = none n g

pub discovers : Discovers (house2 1000 (discover 1 4))
unfolding computed
discovers = record { type = refl; alone = refl }

pub free : NoHold book (house2 1000 (discover 1 4))
unfolding computed
free = refl

-- the REQUEST would get a new grant, so the OFFER is drawn
pub offered : Offered (serve_of book (house2 1000 (discover 1 4)))
unfolding OfferRule computed
offered = (offer_rule book (house2 1000 (discover 1 4)) discovers free).offers (record { outcome = refl; type = refl; new = refl })

-- ---- and those of the held offer: house 1 takes up at 1029 what it was offered at 1000, though house 2 asked for all of it in between
pub discovers3 : Discovers d3
unfolding computed
discovers3 = record { type = refl; alone = refl }

pub offered3 : Offered (serve_of book d3)
unfolding computed
offered3 = record { outcome = refl; type = refl }

pub others : All (Elsewhere book.state (tenant_for book d3) (lease_id_in (says_of book d3))) between
unfolding All Elsewhere computed
others = (λ e. absurd (omega arith), (λ e. absurd (omega arith), tt))

pub takes : TakesUp book d3 (run (serve_of book d3).book between) (takes_up 1029 2)
unfolding computed
takes = record { message = refl; house = refl; room = leb-true _ _ refl; soon = ltb-true _ _ refl; current = refl }

held : GrantedAsOffered book d3 (run (serve_of book d3).book between) (takes_up 1029 2) (serve_of book d3)
    (serve_of (run (serve_of book d3).book between) (takes_up 1029 2))
unfolding OfferHeld computed
held = offer_held book sound d3 discovers3 offered3 between others (takes_up 1029 2) takes

-- ---- W-201: a book with bad names is unsound, before the room is looked at
abbrev badly : Book
badly = record { state = book.state; table = book.table; memory = book.memory; names = 1 ∷ 0 ∷ 0 ∷ [] }

named_badly : ((serve_of badly p1).outcome ≡ 1) × ((serve_of badly (record { datagram = getinfo; client = 0x0A000105; time = 1000; room = 511 })).outcome ≡ 1)
unfolding computed
named_badly = (refl, refl)

-- ---- W-202: and so is one with bad releases: an unknown house's, a time after the clock, an identifier of 1 octet; a time that is the clock's is good
abbrev remembering : ℕ → ℕ → ℕ → Book
remembering h len time = record {
  state = book.state;
  table = book.table;
  memory = record { releases = set (replicate 8 (laid_releases [])) h (laid_releases (record { id_len = len; id = 0 ∷ replicate 31 0; xid = 1; time = time } ∷ [])); board = no_board };
  names = book.names;
}

remembered_badly : ((serve_of (remembering 2 2 1000) p1).outcome ≡ 1) × ((serve_of (remembering 1 2 1001) p1).outcome ≡ 1) × ((serve_of (remembering 1 1 1000) p1).outcome ≡ 1) × ((serve_of (remembering 1 2 1000) p1).outcome ≡ 0)
unfolding computed
remembered_badly = (refl, refl, refl, refl)

-- ---- W-207: the board
-- what it says of the one scope, in numbers: owner and number of leases of each of the four addresses, then the houses' holdings
abbrev pub address : Board → ℕ → List ℕ
address b a = (entry_at (scope_board_at b 0) a).owner ∷ (entry_at (scope_board_at b 0) a).count ∷ []

abbrev pub board_row : Board → List ℕ
board_row b = address b 0 ++ address b 1 ++ address b 2 ++ address b 3 ++ held_in (scope_board_at b 0) 0 ∷ held_in (scope_board_at b 0) 1 ∷ []

-- such a row: two addresses of one owner and as many leases, the other two, the holdings
abbrev pub shown : ℕ → ℕ → ℕ → ℕ → ℕ → ℕ → List ℕ
shown h n g m a b = h ∷ n ∷ h ∷ n ∷ g ∷ m ∷ g ∷ m ∷ a ∷ b ∷ []

-- some calls, and the board afterwards
pub record BoardCase : Type 0 where
  pub calls : List Call
  pub board : List ℕ

abbrev pub leave : List Call → List ℕ → BoardCase
leave calls board = record { calls = calls; board = board }

unfoldable pub shows_on : BoardCase → Board → Bool
shows_on c b = same (board_row b) c.board

unfoldable pub shows : BoardCase → Bool
shows c = shows_on c (run book c.calls).memory.board

unfoldable pub board_table : List BoardCase
board_table =
    leave [] (shown 0 0 0 0 0 0)
    -- P1's lease is house 2's, P3's house 1's; P5's, at a later time, is on the addresses of P3's: two leases, one owner, and two addresses held
    ∷ leave (p1 ∷ []) (shown 2 1 0 0 0 2)
    ∷ leave (p1 ∷ p3 ∷ []) (shown 2 1 1 1 2 2)
    ∷ leave (p1 ∷ p3 ∷ p5 ∷ []) (shown 2 1 1 2 2 2)
    -- the drop: P3's has ended at 2000, P1's at 4600, P5's at 5600
    ∷ leave (p1 ∷ p3 ∷ p5 ∷ house2 1999 getinfo ∷ []) (shown 2 1 1 2 2 2)
    ∷ leave (p1 ∷ p3 ∷ p5 ∷ house2 2000 getinfo ∷ []) (shown 2 1 1 1 2 2)
    ∷ leave (p1 ∷ p3 ∷ p5 ∷ house2 2000 getinfo ∷ house2 4600 getinfo ∷ []) (shown 0 0 1 1 2 0)
    ∷ leave (p1 ∷ p3 ∷ p5 ∷ house2 5600 getinfo ∷ []) (shown 0 0 0 0 0 0)
    -- an offer is held as a lease is, also while its REQUEST turns it into one; its RELEASE, and the lapse of a hold, leave nothing
    ∷ leave (d3 ∷ []) (1 ∷ 1 ∷ 1 ∷ 1 ∷ 1 ∷ 1 ∷ 0 ∷ 0 ∷ 3 ∷ 0 ∷ [])
    ∷ leave (d3 ∷ takes_up 1029 2 ∷ []) (1 ∷ 1 ∷ 1 ∷ 1 ∷ 1 ∷ 1 ∷ 0 ∷ 0 ∷ 3 ∷ 0 ∷ [])
    ∷ leave (d3 ∷ takes_up 1029 2 ∷ r3 1030 ∷ []) (shown 0 0 0 0 0 0)
    ∷ leave (d3 ∷ house2 1030 getinfo ∷ []) (shown 0 0 0 0 0 0)
    -- a RENEW, a NAK and a discard move nothing
    ∷ leave (p1 ∷ house2 2800 (renew_at 0x03 0xE8) ∷ []) (shown 2 1 0 0 0 2)
    ∷ leave (p1 ∷ house1 1000 (request 4 0x42 3 3 []) ∷ []) (shown 2 1 0 0 0 2)
    ∷ leave (p1 ∷ record { datagram = getinfo; client = 0x0A000105; time = 9000; room = 511 } ∷ []) (shown 2 1 0 0 0 2)
    ∷ []

pub board_specimens : all_by shows board_table ≡ true
unfolding computed board_table same shows_on shows
board_specimens = refl

-- P3 after P1 meets the premises of what a call leaves of the board: it moves nothing of house 2
board_met : held_in (scope_board_at (serve_of (run book (p1 ∷ [])) p3).book.memory.board 0) 1 ≡ held_in (scope_board_at (run book (p1 ∷ [])).memory.board 0) 1
unfolding BoardStays computed
board_met = (board_stays (run book (p1 ∷ [])) (run_sound book (p1 ∷ []) sound) p3).holdings 0 1 (ltb-true _ _ refl) (ltb-true _ _ refl) refl

-- a book whose board disagrees is unsound: with a lease that the book does not have, in the scope, past its size or in no scope of the book, before the room is
-- looked at; and without one that it has
abbrev boarded : Book → Board → Book
boarded b x = record { state = b.state; table = b.table; memory = record { releases = b.memory.releases; board = x }; names = b.names }

short : Call
short = record { datagram = getinfo; client = 0x0A000105; time = 1000; room = 511 }

boarded_badly : ((serve_of (boarded book (added_to no_board 0 1 1)) short).outcome ∷ (serve_of (boarded book (added_to no_board 0 1 16)) p1).outcome ∷ (serve_of (boarded book (added_to no_board 1 2 1)) p1).outcome
    ∷ (serve_of (boarded (run book (p1 ∷ [])) no_board) p3).outcome ∷ (serve_of (boarded book no_board) p1).outcome ∷ [])
    ≡ 1 ∷ 1 ∷ 1 ∷ 1 ∷ 0 ∷ []
unfolding computed short
boarded_badly = refl

-- ---- W-206: the outcome of a call on the book, and the offset that it carries
told : List Call → List ℕ
told [] = []
told (c ∷ cs) = (serve_of book c).outcome ∷ (serve_of book c).offset ∷ told cs

-- with discard 5 the octet of the first option that breaks a rule: option 6 of three octets, an identifier sent again; where none does, the datagram's length:
-- P11, without an identifier. A stranger, P10, a required feature, another server, a DISCOVER that draws an error, a NAK and an ACK carry 0
carried : told
    (house1 1000 (header 3 1 ++ identifier 0x41 ++ option 17 (replicate 5 9) ++ option 6 (0 ∷ 0 ∷ 9 ∷ []) ++ end)
    ∷ house1 1000 (header 3 1 ++ identifier 0x41 ++ identifier 0x41 ++ end)
    ∷ house1 1000 (header 3 11 ++ end)
    ∷ call 0x0A000305 1000 (header 3 11 ++ end)
    ∷ house1 1000 (header 3 10 ++ 0 ∷ 3 ∷ 0 ∷ [])
    ∷ house1 1000 (header 8 9 ++ identifier 0x50 ++ option 12 (0 ∷ 0 ∷ 0 ∷ 0 ∷ 0 ∷ 1 ∷ 0 ∷ 7 ∷ []) ++ end)
    ∷ house2 1000 (request 1 0x41 1 4 (option 2 (0 ∷ 1 ∷ 0x0A ∷ 1 ∷ 1 ∷ 2 ∷ [])))
    ∷ house2 1000 (discover 3 4)
    ∷ house2 1000 (request 1 0x41 3 4 [])
    ∷ p1
    ∷ [])
    ≡ (5 ∷ 23 ∷ 5 ∷ 14 ∷ 5 ∷ 12 ∷ 3 ∷ 0 ∷ 4 ∷ 0 ∷ 6 ∷ 0 ∷ 7 ∷ 0 ∷ 8 ∷ 0 ∷ 0 ∷ 0 ∷ 0 ∷ 0 ∷ [])
unfolding computed told
carried = refl
