-- Laws: laws of an edit: the table after each kind, and what every edit keeps.
use Rattle.std.specs.Prelude.{ℕ, ◌<◌, ◌≡◌, Bool, true, false, ltb, length, get_or, Option, None, Some}
use Rattle.std.specs.Option.{option_map_or}
use Rattle.std.proofs.Math.Path.{refl, ap}
use Rattle.std.proofs.Common.{sym, ap₂, ◌∙◌, length-set, get_or-set_other, lt-ltb}
use mathlib.Core.List.{List, []}
use Rattle.std.proofs.Math.ListN.{get_or-map}
use Rattle.std.proofs.lemmas.List.{set-get_or}
use Rattle.lists.specs.Arranged.{insert_in}
use Rattle.lists.specs.Pick.{pick}
use Rattle.lists.specs.laws.Each.{map_set}
use Rattle.state.specs.declared.Lease.{Lease}
use Rattle.state.specs.declared.TenantLeases.{TenantLeases}
use Rattle.state.specs.declared.LeaseTable.{LeaseTable}
use Rattle.state.specs.declared.TenantReleases.{TenantReleases}
use Rattle.state.specs.declared.Memory.{Memory}
use Rattle.state.specs.declared.Edit.{Edit}
use Rattle.state.specs.Book.{Book, Order, laid_releases, in_use, laid_out, leases_of, table_of, tenant_at, put_at, id_of, insert_of, inserted_in, remove_of, inserted_by}
use Rattle.state.specs.Edit.{no_edit, entering, leaving, giving_way, left_in, edited_in, noted_in, board_left, board_edited, noted, edited_book, applied_by, edited_by}
use Rattle.state.specs.laws.Edit.{applied}
use Rattle.state.specs.laws.Layout.{read_back, put_laid}

-- ---- between the code and the definition
module _ (e : Edit) (t : TenantLeases) {rest : TenantLeases} (p : rest ≡ left_in e t) where
  pub edited_some : {l : Lease} {r : TenantLeases} → e.enters ≡ Some l → r ≡ inserted_in l rest → r ≡ edited_in e t
  unfolding edited_by
  edited_some {l} q f = f ∙ ap (inserted_in l) p ∙ sym (ap (λ (o : Option Lease). option_map_or (λ x. inserted_in x (left_in e t)) o (left_in e t)) q)

  pub edited_rest : e.enters ≡ None → rest ≡ edited_in e t
  unfolding edited_by
  edited_rest q = p ∙ sym (ap (λ (o : Option Lease). option_map_or (λ x. inserted_in x (left_in e t)) o (left_in e t)) q)

-- ---- the table after each kind of edit
module _ (b : LeaseTable) (h : ℕ) where
  pub applied_none : applied no_edit h b ≡ b
  unfolding applied_by edited_by left_in pick
  applied_none = ap {B = LeaseTable} (λ (x : List TenantLeases). record { tenants = x }) (set-get_or b.tenants h (laid_out []))

  pub applied_entering : (l : Lease) → length (in_use (tenant_at b h)) < 16 → applied (entering l) h b ≡ put_at b h (laid_out (insert_of l (in_use (tenant_at b h))))
  unfolding applied_by edited_by left_in inserted_by pick
  applied_entering l p = ap (λ (x : Bool). put_at b h (pick x (laid_out (insert_of l (in_use (tenant_at b h)))) (tenant_at b h))) (lt-ltb (length (in_use (tenant_at b h))) 16 p)

  pub applied_leaving : (o : Lease) (x c : ℕ) → applied (leaving o x c) h b ≡ put_at b h (laid_out (remove_of (id_of o) (in_use (tenant_at b h))))
  unfolding applied_by edited_by left_in pick
  applied_leaving o x c = refl

  pub applied_way : (o l : Lease) → length (remove_of (id_of o) (in_use (tenant_at b h))) < 16
      → applied (giving_way o l) h b ≡ put_at b h (laid_out (insert_of l (remove_of (id_of o) (in_use (tenant_at b h)))))
  unfolding applied_by edited_by left_in inserted_by pick
  applied_way o l p =
      let rest : List Lease = remove_of (id_of o) (in_use (tenant_at b h)) in
      ap (λ (x : List Lease). put_at b h (pick (ltb (length x) 16) (laid_out (insert_of l x)) (laid_out rest))) (read_back rest)
      ∙ ap (λ (x : Bool). put_at b h (pick x (laid_out (insert_of l rest)) (laid_out rest))) (lt-ltb (length rest) 16 p)

-- ---- what is remembered, and the book, after no edit
pub noted_none : (m : Memory) (h : ℕ) → noted no_edit h m ≡ m
unfolding noted noted_in board_edited board_left pick
noted_none m h = ap {B = Memory} (λ (x : List TenantReleases). record { releases = x; board = m.board }) (set-get_or m.releases h (laid_releases []))

pub edited_none : (b : Book) (h : ℕ) → edited_book no_edit h b ≡ b
edited_none b h = ap₂ (λ (t : LeaseTable) (m : Memory). record { state = b.state; table = t; memory = m; names = b.names }) (applied_none b.table h) (noted_none b.memory h)

-- ---- what every edit keeps
-- how many tenants there are, and the other tenants' records
pub applied_count : (e : Edit) (h : ℕ) (b : LeaseTable) → length (applied e h b).tenants ≡ length b.tenants
unfolding applied_by
applied_count e h b = length-set b.tenants h (edited_in e (tenant_at b h))

pub applied_others : (e : Edit) (h g : ℕ) (b : LeaseTable) → (g ≡ h → ⊥) → tenant_at (applied e h b) g ≡ tenant_at b g
unfolding applied_by
applied_others e h g b n = get_or-set_other b.tenants h g (edited_in e (tenant_at b h)) (laid_out []) n

-- records that only lay out their leases
laid_again : (x : List Lease) → laid_out x ≡ laid_out (in_use (laid_out x))
laid_again x = ap laid_out (sym (read_back x))

edited_laid : (o : Order) (e : Edit) (t : TenantLeases) → t ≡ laid_out (in_use t) → edited_by o e t ≡ laid_out (in_use (edited_by o e t))
unfolding edited_by left_in inserted_by pick
edited_laid o e t p = enter e.enters (option_map_or (λ x. laid_out (remove_of (id_of x) (in_use t))) e.leaves t) (leave e.leaves)
  where
    leave : (c : Option Lease) → let u = option_map_or (λ x. laid_out (remove_of (id_of x) (in_use t))) c t in u ≡ laid_out (in_use u)
    leave (Some x) = laid_again (remove_of (id_of x) (in_use t))
    leave None = p

    inserted : (l : Lease) (c : Bool) (u : TenantLeases) → u ≡ laid_out (in_use u) → pick c (laid_out (insert_in o l (in_use u))) u ≡ laid_out (in_use (pick c (laid_out (insert_in o l (in_use u))) u))
    inserted l true u q = laid_again (insert_in o l (in_use u))
    inserted l false u q = q

    enter : (c : Option Lease) (u : TenantLeases) → u ≡ laid_out (in_use u) → option_map_or (λ l. inserted_by o l u) c u ≡ laid_out (in_use (option_map_or (λ l. inserted_by o l u) c u))
    enter (Some l) u q = inserted l (ltb (length (in_use u)) 16) u q
    enter None u q = q

tenant_laid : (b : LeaseTable) (h : ℕ) → b ≡ table_of (leases_of b) → tenant_at b h ≡ laid_out (in_use (tenant_at b h))
unfolding table_of
tenant_laid b h e =
    let p : tenant_at b h ≡ laid_out (get_or (leases_of b) h []) = ap (λ (x : LeaseTable). tenant_at x h) e ∙ get_or-map laid_out (leases_of b) h [] in
    p ∙ laid_again (get_or (leases_of b) h []) ∙ ap (λ (x : TenantLeases). laid_out (in_use x)) (sym p)

-- by whichever order
pub applied_laid : (o : Order) (e : Edit) (h : ℕ) (b : LeaseTable) → b ≡ table_of (leases_of b) → applied_by o e h b ≡ table_of (leases_of (applied_by o e h b))
unfolding applied_by
applied_laid o e h b p =
    let t : TenantLeases = edited_by o e (tenant_at b h) in
    put_laid (leases_of b) b h t (in_use t) p (edited_laid o e (tenant_at b h) (tenant_laid b h p)) ∙ ap table_of (map_set in_use b.tenants h t)
