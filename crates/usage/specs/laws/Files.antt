-- Laws: the report on files named by their octets: each total is at most the limit times the time, and what is printed is exact.
use Rattle.std.specs.Prelude.{ℕ, ◌*◌, ◌≤◌, ◌<◌, ◌≡◌, refl, Bool, true, false, ◌&&◌, List, [], ◌∷◌, map, leb, length}
use Rattle.std.proofs.Common.{Err, arith}
use Rattle.state_file.specs.declared.Refusal.TheVariants.{UnsoundFile}
use Rattle.lists.specs.Pick.{pick}
use Rattle.lists.specs.All.{All}
use Rattle.lists.specs.laws.Both.{and_parts}
use Rattle.format.specs.Format.{Got, Octets, bad, closed, got}
use Rattle.format.specs.laws.Format.{whole_reads}
use Rattle.release_file.specs.Section.{stored_memory}
use Rattle.releases.specs.Rules.{memory_b}
use Rattle.soundness.specs.Sound.{scopes_in, sound_b, tenants_in}
use Rattle.state.specs.declared.LeaseTable.{LeaseTable}
use Rattle.state.specs.declared.Memory.{Memory}
use Rattle.state.specs.declared.State.{State}
use Rattle.state.specs.Book.{limit_at, scope_at}
use Rattle.state_file.specs.File.{File, file_format, file_limit, file_of}
use Rattle.state_file.specs.Records.{fits_b, stored_state, stored_table}
use Rattle.state_file.specs.StateFile.{accepted, book_in, code_of, judged, loaded, loaded_got, read_file, refusal_number, with_board}
use Rattle.state_file.specs.laws.File.{file_lawful}
use Rattle.usage.specs.Usage.{clock_of, last_clock, printed_of, refusal_of, settings_of, time_of, total_of}
use Rattle.usage.specs.Report.{walked_text}
use Rattle.usage.specs.laws.Bound.{SoundFile, bound}
use Rattle.usage.specs.laws.Exact.{printed_is}

-- ---- what the reader accepts is sound
judged_sound : (s : State) (b : LeaseTable) (m : Memory) → SoundFile (judged s b m)
unfolding judged accepted pick book_in refusal_number code_of
judged_sound s b m = go (sound_b s b && memory_b s b m) refl
  where
    go : (t : Bool) → (sound_b s b && memory_b s b m) ≡ t → SoundFile (pick t (accepted s b (with_board b m)) (Err UnsoundFile))
    go true e = λ z. (and_parts (sound_b s b) (memory_b s b m) e).0
    go false e = λ z. absurd (omega arith)

pub read_sound : (s : List ℕ) → SoundFile (read_file s)
unfolding read_file loaded_got loaded pick refusal_number code_of
read_sound s = go (file_of s)
  where
    fit : (t : Bool) (f : File) → SoundFile (pick t (judged (stored_state f) (stored_table f) (stored_memory f.releases)) (Err UnsoundFile))
    fit true f = judged_sound (stored_state f) (stored_table f) (stored_memory f.releases)
    fit false f = λ z. absurd (omega arith)

    go : (g : Got File) → SoundFile (loaded_got g)
    go bad = λ z. absurd (omega arith)
    go (got f r) = fit (fits_b f) f

-- ---- its clock has 32 bits
read_ok : (s : List ℕ) (f : File) (r : List ℕ) → Octets s → file_of s ≡ got f r → file_format.ok f
unfolding file_of pick
read_ok s f r o e = go (leb (length s) file_limit) e
  where
    go : (b : Bool) → pick b (closed (file_format.read s)) bad ≡ got f r → file_format.ok f
    go true e = (whole_reads file_lawful s f r o e).0
    go false e = let z : ◌≡◌ {A = ℕ} 0 1 = cc in absurd (omega arith)

pub read_clock : (s : List ℕ) → Octets s → clock_of (read_file s) < 4294967296
unfolding read_file loaded_got loaded judged accepted stored_state pick book_in
read_clock s o = go (file_of s) refl
  where
    within : (t u : Bool) (f : File) → f.clock < 4294967296 → clock_of (pick t (pick u (accepted (stored_state f) (stored_table f) (with_board (stored_table f) (stored_memory f.releases))) (Err UnsoundFile)) (Err UnsoundFile)) < 4294967296
    within true true f h = h
    within true false f h = omega arith
    within false u f h = omega arith

    go : (g : Got File) → file_of s ≡ g → clock_of (loaded_got g) < 4294967296
    go bad e = omega arith
    go (got f r) e = within (fits_b f) (sound_b (stored_state f) (stored_table f) && memory_b (stored_state f) (stored_table f) (stored_memory f.releases)) f (read_ok s f r o e).0.1

-- ---- of all files
all_sound : (os : List (List ℕ)) → All SoundFile (map read_file os)
unfolding All
all_sound [] = tt
all_sound (s ∷ os) = (read_sound s, all_sound os)

last_small : (os : List (List ℕ)) → All Octets os → last_clock (map read_file os) < 4294967296
unfolding All last_clock
last_small [] o = omega arith
last_small (s ∷ []) (o, p) = read_clock s o
last_small (s ∷ t ∷ os) (o, p) = last_small (t ∷ os) p

-- "Each total is .. at most the limit times the time from first clock to last"
pub bound_files : (os : List (List ℕ)) → (refusal_of (map read_file os)).number ≡ 0 → (k g : ℕ) → k < scopes_in (settings_of (map read_file os)) → g < tenants_in (settings_of (map read_file os))
    → total_of k g (map read_file os) ≤ limit_at (scope_at (settings_of (map read_file os)) k) g * time_of (map read_file os)
bound_files os e k g p q = bound (map read_file os) (all_sound os) e k g p q

-- "Each total is exact": what the steps print, whose sums stop at the largest u64, is what the definition says, whose sums don't
pub exact_files : (os : List (List ℕ)) → All Octets os → walked_text (map read_file os) ≡ printed_of (map read_file os)
exact_files os o = printed_is (map read_file os) (all_sound os) (last_small os o)
