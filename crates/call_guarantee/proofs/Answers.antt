-- Laws: demand 1, put together: what the tests leave, the reply, its reading, and the leases.
use Rattle.guarantee.specs.Statement.{run}
use Rattle.call_guarantee.specs.Statement.{Answered, Demand1, NamesStay}
use Rattle.call_guarantee.proofs.Discards.{Tested, board_refused, call_tested, names_refused, releases_refused}
use Rattle.call_guarantee.proofs.Replies.{leases_stay, replied}
use Rattle.call_guarantee.proofs.Walked.{read_back}
use mathlib.Core.List.{List, [], ◌∷◌}
use mathlib.Core.Path.{◌≡◌, refl, ◌∙◌}
use Rattle.state.specs.Book.{Book}
use Rattle.server.specs.Serve.{Call, serve_of}

pub call_answered : (b : Book) (c : Call) → Answered b c (serve_of b c)
call_answered b c =
    let v : Tested b c (serve_of b c) = call_tested b c in
    record {
      outcome = v.outcome;
      reply = replied b c;
      reads = read_back b c;
      silent = v.silent;
      leases = leases_stay b c;
      bad_names = names_refused b c;
      bad_releases = releases_refused b c;
      bad_board = board_refused b c;
      names = v.names;
      untouched = v.untouched;
      untouched_too = v.untouched_too;
      advances = v.advances;
      carries = v.carries;
      carries_none = v.carries_none;
      inside = v.inside;
      few_read = v.few_read;
      none_read = v.none_read;
    }

pub demand1 : Demand1
unfolding Demand1
demand1 b c = call_answered b c

-- ---- no call changes the names
names_after : (b : Book) (cs : List Call) → (run b cs).names ≡ b.names
unfolding run
names_after b [] = refl
names_after b (c ∷ cs) = names_after (serve_of b c).book cs ∙ (call_tested b c).names

pub names_stay : NamesStay
unfolding NamesStay
names_stay b cs = names_after b cs
