-- Laws: "The file is always accepted", and rooms that are always enough.
use mathlib.Core.Bool.{Bool, false, true, ◌&&◌, ◌||◌}
use mathlib.Core.List.{List, [], ◌++◌, ◌∷◌}
use mathlib.Core.Path.{◌∙◌, ◌≡◌, ap, ap₂, refl}
use Prim.Native.Nat.{◌+◌, ◌≤◌, suc, ℕ}
use native.Mathlib.Omega.{arith}
use lib.Dec.{eqb, leb, ltb}
use lib.ListN.{length, length-append}
use borrow.Author.Tests.{le-ltb}
use Rattle.lists.specs.Filter.{is_in}
use Rattle.lists.specs.Pick.{pick}
use Rattle.lists.specs.laws.Both.{and_both}
use Rattle.format.specs.Format.{Got, bad, closed, got}
use Rattle.releases.specs.Rules.{memory_b}
use Rattle.soundness.specs.Sound.{sound_b}
use Rattle.release_file.specs.Section.{stored_memory}
use Rattle.state.specs.declared.LeaseTable.{LeaseTable}
use Rattle.state.specs.declared.State.{State}
use Rattle.state_file.specs.File.{File, file_format, file_limit, file_of}
use Rattle.state_file.specs.Records.{stored_state, stored_table}
use Rattle.std.specs.Prelude.{Err}
use Rattle.state_file.specs.declared.Refusal.TheVariants.{UnsoundFile}
use Rattle.state_file.specs.StateFile.{accepted, judged, loaded, loaded_got, read_file, refusal_number, with_board, zero_memory, zero_table}
use Rattle.state_file.specs.laws.File.{file_reads, file_written}
use Rattle.salvage_rules.specs.Rules.{hold_rule, lease_rule, release_rule, with_hold, with_lease, with_release}
use Rattle.salvage_list.specs.List.{dropped_from, dropped_list}
use Rattle.salvage_list.specs.laws.List.{list_long}
use Rattle.salvage_walk.specs.Walk.{hold_rules, lease_rules, leases_kept, records_kept, release_rules, settings_sound}
use Rattle.salvage_walk.specs.laws.Walk.{rules_length}
use Rattle.salvage_file.specs.Salvage.{dropped_of, kept_file, refusing, salvage_file, salvage_got, salvage_of}
use Rattle.salvage_laws.specs.Statement.{AlwaysAccepted, RoomEnough, kept_in}
use Rattle.salvage_laws.proofs.Altered.{kept_fits, kept_ok, kept_shorter_file, memory_kept, memory_sound_kept, octets_kept, records_sound, state_kept, table_kept}

-- what is got is all there is
pub file_closed : (s : List ℕ) (f : File) (r : List ℕ) → file_of s ≡ got f r → file_of s ≡ got f []
unfolding file_of pick closed
file_closed s f r e = go (leb (length s) file_limit) (file_format.read s) e
  where
    go : (b : Bool) (g : Got File) → pick b (closed g) bad ≡ got f r → pick b (closed g) bad ≡ got f []
    go true (got x []) e = let p : x ≡ f = cc in ap (λ (y : File). got y []) p
    go true (got x (y ∷ l)) e = absurd (let z : ◌≡◌ {A = ℕ} 0 1 = cc in omega arith)
    go true bad e = absurd (let z : ◌≡◌ {A = ℕ} 0 1 = cc in omega arith)
    go false g e = absurd (let z : ◌≡◌ {A = ℕ} 0 1 = cc in omega arith)

module _ (f : File) (ok : file_format.ok f) (short : length (file_format.write f) ≤ file_limit) (e : settings_sound f ≡ true) where
  sound : (sound_b (stored_state (kept_in f)) (stored_table (kept_in f)) && memory_b (stored_state (kept_in f)) (stored_table (kept_in f)) (stored_memory (kept_in f).releases)) ≡ true
  sound =
      and_both (ap₂ sound_b (state_kept f ok e) (table_kept f ok e) ∙ records_sound f ok e)
      (ap₂ (λ (s : State) (b : LeaseTable). memory_b s b (stored_memory (kept_in f).releases)) (state_kept f ok e) (table_kept f ok e) ∙ ap (memory_b _ _) (memory_kept f ok e) ∙ memory_sound_kept f ok e)

  pub kept_accepted : refusal_number (read_file (kept_file f)) ≡ 0
  unfolding read_file loaded_got loaded judged accepted pick refusal_number
  kept_accepted =
      ap (λ (s : List ℕ). refusal_number (loaded_got (file_of s))) (octets_kept f ok e)
      ∙ ap (λ (g : Got File). refusal_number (loaded_got g)) (file_written (kept_in f) (kept_ok f ok) (let a = kept_shorter_file f in omega arith))
      ∙ ap₂ (λ (p q : Bool). refusal_number (pick p (pick q (accepted (stored_state (kept_in f)) (stored_table (kept_in f)) (with_board (stored_table (kept_in f)) (stored_memory (kept_in f).releases))) (Err UnsoundFile)) (Err UnsoundFile))) (kept_fits f ok e) sound

-- a salvage that is no refusal
salvaged : (f : File) (n m : ℕ) → (salvage_file f n m).refusal ≡ 0 → (settings_sound f ≡ true) × ((salvage_file f n m).file ≡ kept_file f)
unfolding salvage_file pick
salvaged f n m e = go (settings_sound f) refl (ltb n (length (kept_file f)) || ltb m (length (dropped_list (dropped_of f)))) e
  where
    go : (p : Bool) → settings_sound f ≡ p → (q : Bool)
        → (pick p (pick q (refusing 23) (record { refusal = 0; file = kept_file f; list = dropped_list (dropped_of f) })) (refusing 25)).refusal ≡ 0
        → (p ≡ true) × ((pick p (pick q (refusing 23) (record { refusal = 0; file = kept_file f; list = dropped_list (dropped_of f) })) (refusing 25)).file ≡ kept_file f)
    go true a true e = absurd (omega arith)
    go true a false e = (refl, refl)
    go false a q e = absurd (omega arith)

pub always_accepted : AlwaysAccepted
unfolding AlwaysAccepted salvage_of salvage_got
always_accepted s n m o e = go (file_of s) refl e
  where
    go : (g : Got File) → file_of s ≡ g → (salvage_got g n m).refusal ≡ 0 → refusal_number (read_file (salvage_got g n m).file) ≡ 0
    go bad p e = absurd (omega arith)
    go (got f r) p e =
        let w = file_reads s f o (file_closed s f r p) in
        let (c, q) = salvaged f n m e in
        ap (λ (l : List ℕ). refusal_number (read_file l)) q ∙ kept_accepted f w.0 (let z = ap length w.1 in let y = w.2 in omega arith) c

-- ---- rooms
dropped_few : (kind n : ℕ) (rs : List ℕ) → length (dropped_from kind n rs) ≤ length rs
unfolding dropped_from pick
dropped_few kind n [] = omega arith
dropped_few kind n (r ∷ rs) = go (eqb r 0) (dropped_few kind (n + 1) rs)
  where
    go : (b : Bool) → length (dropped_from kind (n + 1) rs) ≤ length rs
        → length (pick b (dropped_from kind (n + 1) rs) (record { kind = kind; place = n; rule = r } ∷ dropped_from kind (n + 1) rs)) ≤ suc (length rs)
    go true ih = omega arith
    go false ih = omega arith

list_few : (f : File) → file_format.ok f → length (dropped_list (dropped_of f)) ≤ 2297
unfolding dropped_of
list_few f h =
    let a = dropped_few 1 1 (lease_rules f) in
    let b = dropped_few 2 1 (hold_rules f) in
    let c = dropped_few 3 1 (release_rules f) in
    let x = rules_length (lease_rule (stored_state f)) with_lease zero_table f.leases in
    let y = rules_length (hold_rule (stored_state f)) with_hold (leases_kept f) f.holds in
    let z = rules_length (release_rule (stored_state f) (records_kept f)) with_release zero_memory f.releases in
    let u = h.1.1.1.0.0.0 in
    let v = h.1.1.1.1.1.1.0.0 in
    let w = h.1.1.1.1.1.0.0.0 in
    let l = list_long (dropped_of f) (length (dropped_of f)) refl in
    let p = length-append (dropped_from 1 1 (lease_rules f) ++ dropped_from 2 1 (hold_rules f)) (dropped_from 3 1 (release_rules f)) in
    let q = length-append (dropped_from 1 1 (lease_rules f)) (dropped_from 2 1 (hold_rules f)) in
    omega arith

pub room_enough : RoomEnough
unfolding RoomEnough salvage_of salvage_got salvage_file pick is_in
room_enough s n m o h g = go (file_of s) refl
  where
    go : (t : Got File) → file_of s ≡ t → is_in (salvage_got t n m).refusal (0 ∷ 20 ∷ 25 ∷ []) ≡ true
    go bad p = refl
    go (got f r) p = sound (settings_sound f) refl
      where
        w : (file_format.ok f) × (s ≡ file_format.write f) × (length s ≤ file_limit)
        w = file_reads s f o (file_closed s f r p)

        rooms : settings_sound f ≡ true → (ltb n (length (kept_file f)) || ltb m (length (dropped_list (dropped_of f)))) ≡ false
        rooms c =
            let z = ap length w.1 in
            let k = kept_shorter_file f in
            let y = ap length (octets_kept f w.0 c) in
            let l = list_few f w.0 in
            ap₂ (λ (a b : Bool). a || b) (le-ltb n (length (kept_file f)) (omega arith)) (le-ltb m (length (dropped_list (dropped_of f))) (omega arith))

        sound : (c : Bool) → settings_sound f ≡ c
            → is_in (pick c (pick (ltb n (length (kept_file f)) || ltb m (length (dropped_list (dropped_of f)))) (refusing 23) (record { refusal = 0; file = kept_file f; list = dropped_list (dropped_of f) })) (refusing 25)).refusal (0 ∷ 20 ∷ 25 ∷ []) ≡ true
        sound true c = ap (λ (b : Bool). is_in (pick b (refusing 23) (record { refusal = 0; file = kept_file f; list = dropped_list (dropped_of f) })).refusal (0 ∷ 20 ∷ 25 ∷ [])) (rooms c)
        sound false c = refl
