-- Laws: what is answered.
use Rattle.std.specs.Prelude.{Bool, ◌||◌, refl, ◌-◌, ◌<◌, ◌≤◌, ℕ, drop, take, Option, Some, None, Result, Ok, Err}
use Rattle.std.proofs.Math.Bool.{false, true}
use mathlib.Core.List.{List}
use Rattle.std.proofs.Common.{◌∙◌, le-ltb, lt-ltb}
use Rattle.std.proofs.Math.Path.{◌≡◌, ap, ap₂, subst, sym}
use Rattle.std.proofs.Math.Dec.{ltb}
use Rattle.std.proofs.Math.ListN.{length}
use Rattle.lists.specs.Pick.{pick}
use Rattle.octets.specs.Octets.{Wrote}
use Rattle.octets.specs.laws.Octets.{wrote_as, wrote_whole}
use Rattle.format.specs.Format.{Got, bad}
use Rattle.state.specs.Book.{Book}
use Rattle.state.specs.declared.LeaseTable.{LeaseTable}
use Rattle.state.specs.declared.Memory.{Memory}
use Rattle.state.specs.declared.State.{State}
use Rattle.lease_file.specs.Records.{in_file_order}
use Rattle.state_file.specs.File.{File, file_of}
use Rattle.state_file.specs.Place.{Formed, FormedBy, file_at}
use Rattle.state_file.specs.Records.{filed_book, stored_state}
use Rattle.state_file.specs.StateFile.{octets_as, octets_of}
use Rattle.state_file.specs.declared.Places.{Places}
use Rattle.salvage_walk.specs.declared.Kept.{Kept}
use Rattle.salvage_file.specs.declared.Refusal.{Refusal}
use Rattle.salvage_file.specs.declared.Refusal.TheVariants.{WrongForm, ShortRoom, UnsoundSettings}
use Rattle.salvage_file.specs.declared.Salvaged.{Salvaged}
use Rattle.salvage_list.specs.List.{dropped_in, dropped_list}
use Rattle.salvage_list.specs.laws.List.{marked_dropped}
use Rattle.salvage_walk.specs.Walk.{WalksFile, hold_rules, lease_rules, records_kept, release_rules, releases_kept, settings_sound}
use Rattle.salvage_file.specs.Salvage.{Salvage, dropped_of, kept_book, kept_file, refusing, salvage_file, salvage_got, salvage_of}
use Rattle.salvage_file.specs.Walk.{Answers, number_of}

-- ---- the answer
-- a refusal writes nothing
pub refused_as : {a : Salvage} (e : Refusal) (room list : List ℕ) (r : Result Salvaged Refusal) → refusing (number_of e) ≡ a → r ≡ Err e → Answers a room list room list r
unfolding Answers
refused_as e room list r ea er =
    subst (λ (x : Salvage). Answers x room list room list r) ea
    (subst (λ (x : Result Salvaged Refusal). Answers (refusing (number_of e)) room list room list x) (sym er)
    (record { refusal = refl; long = refl; listed = refl; file = refl; dropped = refl }))

module _ {f : File} {k : Kept} (w : WalksFile f k) where
  listed_as : dropped_list (dropped_in k.leases k.holds k.releases) ≡ dropped_list (dropped_of f)
  unfolding dropped_of
  listed_as = ap dropped_list (marked_dropped k.leases k.holds k.releases (lease_rules f) (hold_rules f) (release_rules f) w.leases w.holds w.releases)

  abbrev As : LeaseTable → List ℕ → List ℕ
  As t names = octets_as (record { state = k.state; table = t; memory = k.memory; names = names })

  filed_as_law : (t : LeaseTable) (names : List ℕ) → t ≡ in_file_order k.table → names ≡ f.names → As t names ≡ kept_file f
  unfolding kept_file kept_book octets_as octets_of filed_book
  filed_as_law t names et en =
      let a : k.state ≡ stored_state f = w.state in
      let b : t ≡ in_file_order (records_kept f) = et ∙ ap in_file_order w.table in
      let c : k.memory ≡ releases_kept f = w.memory in
      ap octets_as (book a b c en)
    where
      book : {s s' : State} {t t' : LeaseTable} {m m' : Memory} {o o' : List ℕ} → s ≡ s' → t ≡ t' → m ≡ m' → o ≡ o'
          → ◌≡◌ {A = Book} (record { state = s; table = t; memory = m; names = o }) (record { state = s'; table = t'; memory = m'; names = o' })
      book p q r u = cc

  module _ (sound : settings_sound f ≡ true) (room list names : List ℕ) (t : LeaseTable) (n m : ℕ) (et : t ≡ in_file_order k.table) (en : names ≡ f.names)
      (size : n ≡ length (As t names)) (many : m ≡ length (dropped_list (dropped_in k.leases k.holds k.releases))) where
    file_long : n ≡ length (kept_file f)
    file_long = size ∙ ap length (filed_as_law t names et en)

    list_many : m ≡ length (dropped_list (dropped_of f))
    list_many = many ∙ ap length listed_as

    rooms_open : (y z : Bool) → ltb (length room) n ≡ y → ltb (length list) m ≡ z
        → pick (y || z) (refusing 23) (record { refusal = 0; file = kept_file f; list = dropped_list (dropped_of f) }) ≡ salvage_file f (length room) (length list)
    unfolding salvage_file pick
    rooms_open y z ey ez =
        ap₂ (λ (a b : Bool). pick (a || b) (refusing 23) (record { refusal = 0; file = kept_file f; list = dropped_list (dropped_of f) }))
        (sym ey ∙ ap (ltb (length room)) file_long) (sym ez ∙ ap (ltb (length list)) list_many)
        ∙ sym (ap (λ (b : Bool). pick b (pick (ltb (length room) (length (kept_file f)) || ltb (length list) (length (dropped_list (dropped_of f)))) (refusing 23) (record { refusal = 0; file = kept_file f; list = dropped_list (dropped_of f) })) (refusing 25)) sound)

    pub room_short : (r : Result Salvaged Refusal) → length room < n → r ≡ Err ShortRoom → Answers (salvage_file f (length room) (length list)) room list room list r
    unfolding pick
    room_short r h er = refused_as ShortRoom room list r (rooms_open true (ltb (length list) m) (lt-ltb _ _ h) refl) er

    pub list_short : (r : Result Salvaged Refusal) → n ≤ length room → length list < m → r ≡ Err ShortRoom → Answers (salvage_file f (length room) (length list)) room list room list r
    unfolding pick
    list_short r h g er = refused_as ShortRoom room list r (rooms_open false true (le-ltb _ _ h) (lt-ltb _ _ g)) er

    pub both_written : (room' list' : List ℕ) (x y : ℕ) → n ≤ length room → m ≤ length list → Wrote room 0 (As t names) room' x → Wrote list 0 (dropped_list (dropped_in k.leases k.holds k.releases)) list' y
        → Answers (salvage_file f (length room) (length list)) room list room' list' (Ok (record { length = n; listed = m }))
    unfolding pick Answers
    both_written room' list' x y h g p q =
        subst (λ (a : Salvage). Answers a room list room' list' (Ok (record { length = n; listed = m }))) (rooms_open false false (le-ltb _ _ h) (le-ltb _ _ g))
        (record { refusal = refl; long = file_long; listed = list_many; file = wrote_whole (wrote_as (filed_as_law t names et en) p); dropped = wrote_whole (wrote_as listed_as q) })

pub names_part : (s : List ℕ) (p : Places) → take (p.releases - p.names) (drop p.names s) ≡ (file_at s p).names
unfolding file_at
names_part s p = refl

-- ---- the form
module _ (s : List ℕ) {l : Option Places} (v : FormedBy s l) where
  pub layout_formed : {p : Places} → l ≡ Some p → Formed s p
  unfolding FormedBy
  layout_formed e = subst (λ (x : Option Places). FormedBy s x) e v

  pub layout_wrong : (n m : ℕ) (e : Refusal) → l ≡ None → e ≡ WrongForm → refusing (number_of e) ≡ salvage_of s n m
  unfolding FormedBy salvage_of salvage_got
  layout_wrong n m e h w =
      let q : file_of s ≡ bad = subst (λ (x : Option Places). FormedBy s x) h v in ap (λ (x : Refusal). refusing (number_of x)) w ∙ sym (ap (λ (g : Got File). salvage_got g n m) q)

pub file_salvaged : {s : List ℕ} {p : Places} → Formed s p → (n m : ℕ) → salvage_file (file_at s p) n m ≡ salvage_of s n m
unfolding salvage_of salvage_got
file_salvaged v n m = sym (ap (λ (g : Got File). salvage_got g n m) v.file)

pub settings_refused : {s : List ℕ} {p : Places} {q : Bool} → Formed s p → (n m : ℕ) → q ≡ settings_sound (file_at s p) → q ≡ false → refusing (number_of UnsoundSettings) ≡ salvage_of s n m
unfolding salvage_file pick
settings_refused {s} {p} v n m e y =
    sym (ap (λ (b : Bool). pick b (pick (ltb n (length (kept_file (file_at s p))) || ltb m (length (dropped_list (dropped_of (file_at s p))))) (refusing 23) (record { refusal = 0; file = kept_file (file_at s p); list = dropped_list (dropped_of (file_at s p)) })) (refusing 25)) (sym e ∙ y))
    ∙ file_salvaged v n m

pub salvaged_as : {s : List ℕ} {p : Places} (room list room' list' : List ℕ) (r : Result Salvaged Refusal) → Formed s p → Answers (salvage_file (file_at s p) (length room) (length list)) room list room' list' r
    → Answers (salvage_of s (length room) (length list)) room list room' list' r
salvaged_as {s} {p} room list room' list' r v w = subst (λ (a : Salvage). Answers a room list room' list' r) (file_salvaged v (length room) (length list)) w
