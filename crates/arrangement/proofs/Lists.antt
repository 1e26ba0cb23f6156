-- Laws: lists of leases, tenant by tenant, that hold the same ones in whichever order, and what of them does not go by the order: addresses, the board, soundness
-- but for the order.
use Prim.Native.Nat.{ℕ, zero, suc, ◌+◌}
use mathlib.Core.Path.{◌≡◌, refl, sym, ap, ap₂, ◌∙◌, subst}
use mathlib.Core.Bool.{Bool, false}
use mathlib.Core.List.Permᴰ
use mathlib.Core.List.{List, [], ◌∷◌, map, append-nil}
use native.Mathlib.Omega.{arith}
use lib.Dec.{eqb}
use lib.ListN.{length, get_or, set}
use Rattle.lists.specs.Pick.{pick}
use Rattle.lists.specs.All.{all_by}
use Rattle.lists.specs.Reordered.{Reordered}
use Rattle.lists.specs.laws.Reordered.{reordered_all, reordered_filter, reordered_length}
use Rattle.address_set.specs.AddressSet.{bit, offsets, up_to}
use Rattle.occupancy.specs.declared.Board.{Board}
use Rattle.occupancy.specs.declared.Entry.{Entry}
use Rattle.occupancy.specs.declared.ScopeBoard.{ScopeBoard}
use Rattle.state.specs.declared.Lease.{Lease}
use Rattle.state.specs.declared.State.{State}
use Rattle.state.specs.Book.{held_of, held_count, in_scope, live, live_of}
use Rattle.state.specs.Board.{board_of, count_in, count_on, entry_by, is_on, owner_from, scope_by}
use Rattle.state.specs.laws.Sets.{addresses_reordered}
use Rattle.soundness.specs.laws.Book.{Sound, lease_ok}
use Rattle.soundness.specs.laws.Kept.{Shrunk, sound_shrunk}

unfoldable pub Same : List (List Lease) → List (List Lease) → Type 0
Same [] [] = Unit {0}
Same [] (y ∷ ys) = ⊥
Same (x ∷ xs) [] = ⊥
Same (x ∷ xs) (y ∷ ys) = Reordered x y × Same xs ys

pub same_symm : (xs ys : List (List Lease)) → Same xs ys → Same ys xs
unfolding Same
same_symm [] [] v = tt
same_symm [] (y ∷ ys) v = absurd v
same_symm (x ∷ xs) [] v = absurd v
same_symm (x ∷ xs) (y ∷ ys) v = (Permᴰ.symm v.0, same_symm xs ys v.1)

pub same_at : (xs ys : List (List Lease)) → Same xs ys → (g : ℕ) → Reordered (get_or xs g []) (get_or ys g [])
unfolding Same
same_at [] [] v g = Permᴰ.refl []
same_at [] (y ∷ ys) v g = absurd v
same_at (x ∷ xs) [] v g = absurd v
same_at (x ∷ xs) (y ∷ ys) v zero = v.0
same_at (x ∷ xs) (y ∷ ys) v (suc g) = same_at xs ys v.1 g

-- from each place to all
pub at_same : (xs ys : List (List Lease)) → length xs ≡ length ys → ((g : ℕ) → Reordered (get_or xs g []) (get_or ys g [])) → Same xs ys
unfolding Same
at_same [] [] n f = tt
at_same [] (y ∷ ys) n f = absurd (let z = n in omega arith)
at_same (x ∷ xs) [] n f = absurd (let z = n in omega arith)
at_same (x ∷ xs) (y ∷ ys) n f = (f 0, at_same xs ys (omega arith) (λ g. f (suc g)))

pub same_live : (c : ℕ) (xs ys : List (List Lease)) → Same xs ys → Same (map (live_of c) xs) (map (live_of c) ys)
unfolding Same live_of
same_live c [] [] v = tt
same_live c [] (y ∷ ys) v = absurd v
same_live c (x ∷ xs) [] v = absurd v
same_live c (x ∷ xs) (y ∷ ys) v = (reordered_filter (live c) v.0, same_live c xs ys v.1)

pub same_set : (xs ys : List (List Lease)) (h : ℕ) (a b : List Lease) → Same xs ys → Reordered a b → Same (set xs h a) (set ys h b)
unfolding Same
same_set [] [] h a b v d = tt
same_set [] (y ∷ ys) h a b v d = absurd v
same_set (x ∷ xs) [] h a b v d = absurd v
same_set (x ∷ xs) (y ∷ ys) zero a b v d = (d, v.1)
same_set (x ∷ xs) (y ∷ ys) (suc h) a b v d = (v.0, same_set xs ys h a b v.1 d)

-- what is made of each tenant's
pub each_same : {A : Type 0} (f : List Lease → A) → ((x y : List Lease) → Reordered x y → f x ≡ f y) → (xs ys : List (List Lease)) → Same xs ys → map f xs ≡ map f ys
unfolding Same
each_same f h [] [] v = refl
each_same f h [] (y ∷ ys) v = absurd v
each_same f h (x ∷ xs) [] v = absurd v
each_same {A} f h (x ∷ xs) (y ∷ ys) v = ap₂ {C = List A} (λ (a : A) (r : List A). a ∷ r) (h x y v.0) (each_same f h xs ys v.1)

pub held_same : (s : ℕ) (x y : List Lease) → Reordered x y → held_of s x ≡ held_of s y
held_same s x y d = addresses_reordered (in_scope s) d

pub held_at_same : (s : ℕ) (xs ys : List (List Lease)) → Same xs ys → (g : ℕ) → held_of s (get_or xs g []) ≡ held_of s (get_or ys g [])
held_at_same s xs ys v g = held_same s (get_or xs g []) (get_or ys g []) (same_at xs ys v g)

-- ---- the board
owner_same : (i s a : ℕ) (ts us : List (List Lease)) → Same ts us → owner_from i s a ts ≡ owner_from i s a us
unfolding Same owner_from
owner_same i s a [] [] v = refl
owner_same i s a [] (y ∷ us) v = absurd v
owner_same i s a (x ∷ ts) [] v = absurd v
owner_same i s a (x ∷ ts) (y ∷ us) v =
    ap₂ (λ (m o : ℕ). pick (eqb (bit m a) 1) i o) (held_same s x y v.0) (owner_same (suc i) s a ts us v.1)

number_same : (s a : ℕ) (ts us : List (List Lease)) → Same ts us → count_on s a ts ≡ count_on s a us
unfolding Same count_on count_in
number_same s a [] [] v = refl
number_same s a [] (y ∷ us) v = absurd v
number_same s a (x ∷ ts) [] v = absurd v
number_same s a (x ∷ ts) (y ∷ us) v = ap₂ (λ (m n : ℕ). m + n) (reordered_length (reordered_filter (is_on s a) v.0)) (number_same s a ts us v.1)

map_same : {A B : Type 0} (f g : A → B) → ((x : A) → f x ≡ g x) → (l : List A) → map f l ≡ map g l
map_same f g h [] = refl
map_same {B = B} f g h (x ∷ l) = ap₂ {C = List B} (λ (a : B) (r : List B). a ∷ r) (h x) (map_same f g h l)

scope_same : (ts us : List (List Lease)) → Same ts us → (s : ℕ) → scope_by ts s ≡ scope_by us s
unfolding scope_by entry_by
scope_same ts us v s =
    ap₂ {C = ScopeBoard} (λ (e : List Entry) (n : List ℕ). record { entries = e; held = n })
    (map_same (entry_by ts s) (entry_by us s) (λ a. ap₂ {C = Entry} (λ (o n : ℕ). record { owner = o; count = n }) (owner_same 1 s a ts us v) (number_same s a ts us v)) (up_to 64))
    (each_same (held_count s) (λ x y d. ap (λ (m : ℕ). length (offsets m)) (held_same s x y d)) ts us v)

pub board_same : (ts us : List (List Lease)) → Same ts us → board_of ts ≡ board_of us
unfolding board_of
board_same ts us v = ap {B = Board} (λ (l : List ScopeBoard). record { scopes = l }) (map_same (scope_by ts) (scope_by us) (scope_same ts us v) (1 ∷ 2 ∷ 3 ∷ 4 ∷ []))

-- ---- soundness, but for the order
same_shrunk : (xs ys : List (List Lease)) → Same xs ys → Shrunk xs ys
unfolding Same Shrunk
same_shrunk [] [] v = tt
same_shrunk [] (y ∷ ys) v = absurd v
same_shrunk (x ∷ xs) [] v = absurd v
same_shrunk (x ∷ xs) (y ∷ ys) v = (([], subst (λ (z : List Lease). Reordered x z) (sym (append-nil y)) v.0), same_shrunk xs ys v.1)

all_each : (t : List Lease → Bool) → ((x y : List Lease) → Reordered x y → t x ≡ t y) → (xs ys : List (List Lease)) → Same xs ys → all_by t xs ≡ all_by t ys
unfolding Same all_by
all_each t h [] [] v = refl
all_each t h [] (y ∷ ys) v = absurd v
all_each t h (x ∷ xs) [] v = absurd v
all_each t h (x ∷ xs) (y ∷ ys) v = ap₂ (λ (a b : Bool). pick a b false) (h x y v.0) (all_each t h xs ys v.1)

pub sound_same : (s : State) (xs ys : List (List Lease)) → Same xs ys → Sound s xs → Sound s ys
sound_same s xs ys v w =
    sound_shrunk s s.clock xs ys w (same_shrunk xs ys v) (sym (all_each (all_by (lease_ok s)) (λ x y d. reordered_all (lease_ok s) d) xs ys v) ∙ w.each)
