-- Definitions: the call in two halves for a host (document 02, W-208): "the first gives the verdict and the book afterwards, the second writes the reply from
-- these". The book is the campus file, the verdict its 75 octets (`verdict_octets`).
use Rattle.std.specs.Prelude.{ℕ, List, eqb, ltb}
use Rattle.lists.specs.Pick.{pick}
use Rattle.reply.specs.Reply.{least_room}
use Rattle.server.specs.Serve.{Said}
use Rattle.server.specs.Halves.{silent, write_of}
use Rattle.verdict_octets.specs.Octets.{ruling_in, verdict_octets}
use Rattle.state_file.specs.StateFile.{book_in, names_of, read_file, refusal_number}
use Rattle.record_verdict.specs.Verdict.{judge_lent, LentJudgement}
use Rattle.embed.specs.Embed.{Filed, names_in, on_file}
use Rattle.call_list.specs.CallList.{Worked}

-- ---- the first: the number is the verdict's outcome, and the verdict's octets are handed out
abbrev pub judged : LentJudgement → Worked
judged a = record { number = a.ruling.verdict.outcome; offset = a.ruling.offset; count = a.ruling.count; ledger = a.ledger; leases = a.leases; used = 0; out = verdict_octets a.ruling }

-- on the first n octets of a buffer, for a datagram d; 23, 28, 20 and 21 as for a call
unfoldable pub judge_file : List ℕ → ℕ → ℕ → ℕ → List ℕ → Filed
judge_file b n client time d = on_file b n (λ g ls. judged (judge_lent g ls (names_in b n) client time d))

-- ---- the second, of a file and the octets of a verdict: "writing into room below 512 is 2, tested first", then the file's 20 or 21, then what the verdict says
-- with the file's settings and names
unfoldable pub reply_file : List ℕ → List ℕ → ℕ → Said
reply_file f v room =
    pick (ltb room least_room) (silent 2 0 0)
    (pick (eqb (refusal_number (read_file f)) 0) (write_of (ruling_in v) (book_in (read_file f)).state (names_of f) room) (silent (refusal_number (read_file f)) 0 0))
