-- Laws: writing: the octets of a release piece by piece, of a tenant's and of all releases, and how many there are.
use mathlib.Core.List.{List, [], ◌++◌, ◌∷◌, append_assoc}
use Rattle.std.proofs.Common.{◌∙◌, ap, sym, arith, length-append, take_all}
use Rattle.std.specs.Prelude.{◌≡◌, refl, ◌+◌, ◌<◌, ◌≤◌, min, ℕ, get_or, length, take}
use Rattle.std.proofs.Math.Path.{ap₂}
use Rattle.format.specs.Rows.{write_from}
use Rattle.format.specs.laws.Format.{plain}
use Rattle.format.specs.laws.Rows.{RowInv, count_is, row_next, row_room, row_same, row_sum, rows, section_wrote, tenants_octets}
use Rattle.format.specs.laws.Tenants.{filed_sum}
use Rattle.lists.specs.Sums.{sum_to}
use Rattle.lists.specs.laws.Part.{cut_take}
use Rattle.lists.specs.laws.Sums.{sum_same}
use Rattle.octets.specs.Octets.{Wrote, octets32}
use Rattle.octets.specs.laws.Octets.{wrote_as, wrote_joined}
use Rattle.release_file.specs.Rows.{memory_rows, memory_total, release_octets, tenant_octets, tenant_row}
use Rattle.release_file.specs.Section.{filed_memory, filed_release, memory_octets, release_format}
use Rattle.state.specs.Book.{no_releases, release_id, remembered}
use Rattle.state.specs.laws.Layout.{no_release}
use Rattle.state.specs.declared.Memory.{Memory}
use Rattle.state.specs.declared.Release.{Release}
use Rattle.state.specs.declared.TenantReleases.{TenantReleases}

-- ---- a release
release_octets_law : (t : ℕ) (r : Release) → release_format.write (filed_release t r) ≡ ((t ∷ length (release_id r) ∷ release_id r) ++ octets32 r.xid) ++ octets32 r.time
unfolding filed_release
release_octets_law t r =
    ap (λ (i : List ℕ). t ∷ length (release_id r) ∷ (i ++ (octets32 r.xid ++ octets32 r.time))) (plain (release_id r))
    ∙ sym (append_assoc (t ∷ length (release_id r) ∷ release_id r) (octets32 r.xid) (octets32 r.time))

pub release_size : (t : ℕ) (r : Release) → length (release_format.write (filed_release t r)) ≡ length (release_id r) + 10
release_size t r = ap length (release_octets_law t r) ∙ simp length-append (omega arith)

pub id_length : (r : Release) (n : ℕ) → length r.id ≡ 32 → n ≡ min r.id_len 32 → n ≡ length (release_id r)
id_length r n e p = count_is 32 r.id_len n r.id e p

pub release_length : (r : Release) (n : ℕ) → length r.id ≡ 32 → n ≡ min r.id_len 32 → (n + 10 ≡ length (release_octets 0 0 r)) × (n + 10 ≤ 42)
unfolding release_octets
release_length r n e p = let a = id_length r n e p in let b = release_size 0 r in (omega arith, omega arith)

pub head_wrote : {r₀ r₁ r₂ r₃ : List ℕ} {at a b c t n : ℕ} (r : Release) → length r.id ≡ 32 → n ≡ min r.id_len 32 → at ≤ length r₀ → Wrote r₀ at (t ∷ []) r₁ a → Wrote r₁ a (n ∷ []) r₂ b → Wrote r₂ b (take n r.id) r₃ c
    → Wrote r₀ at (t ∷ length (release_id r) ∷ release_id r) r₃ c
head_wrote {r₁ = r₁} {r₂ = r₂} {r₃ = r₃} {a = a} {b = b} {c = c} r l m h p q z =
    wrote_joined h (wrote_joined h p (wrote_as (ap {B = List ℕ} (λ (j : ℕ). j ∷ []) (id_length r _ l m)) q))
    (wrote_as (ap (λ (j : ℕ). take j r.id) m ∙ cut_take 32 r.id_len r.id l) z)

pub release_wrote : {r₀ r₁ r₂ r₃ : List ℕ} {at a b c : ℕ} (t : ℕ) (r : Release) → at ≤ length r₀ → Wrote r₀ at (t ∷ length (release_id r) ∷ release_id r) r₁ a → Wrote r₁ a (octets32 r.xid) r₂ b → Wrote r₂ b (octets32 r.time) r₃ c
    → Wrote r₀ at (release_format.write (filed_release t r)) r₃ c
release_wrote t r h p q z = wrote_as (sym (release_octets_law t r)) (wrote_joined h (wrote_joined h p q) z)

-- ---- a tenant's, and all, where the search meets the octets and not their name
module _ (t : ℕ) {l : List Release} {m c n : ℕ} {r₀ : List ℕ} {at : ℕ} {buffer : List ℕ} {to i : ℕ} (v : RowInv (release_octets t) no_release l m c n r₀ at buffer to i) where
  pub release_room : i < n → to + length (release_format.write (filed_release t (get_or l i no_release))) ≤ length buffer
  unfolding release_octets
  release_room h = row_room v h

  pub release_next : {r₁ : List ℕ} {k : ℕ} → i < n → Wrote buffer to (release_format.write (filed_release t (get_or l i no_release))) r₁ k → length r₁ ≡ length buffer → RowInv (release_octets t) no_release l m c n r₀ at r₁ k (i + 1)
  unfolding release_octets
  release_next h p q = row_next v h p q

pub ruleset release_rows = (release_room, release_next, rows)

module _ {l : List TenantReleases} {m c n : ℕ} {r₀ : List ℕ} {at : ℕ} {buffer : List ℕ} {to i : ℕ} (v : RowInv tenant_row no_releases l m c n r₀ at buffer to i) where
  pub tenant_room : i < n → to + length (tenant_octets (i + 1) (get_or l i no_releases)) ≤ length buffer
  unfolding tenant_row
  tenant_room h = row_room v h

  pub tenant_next : {r₁ : List ℕ} {k : ℕ} → i < n → Wrote buffer to (tenant_octets (i + 1) (get_or l i no_releases)) r₁ k → length r₁ ≡ length buffer → RowInv tenant_row no_releases l m c n r₀ at r₁ k (i + 1)
  unfolding tenant_row
  tenant_next h p q = row_next v h p q

pub ruleset tenant_rows = (tenant_room, tenant_next, rows)

-- ---- how many octets
-- as many whoever's they are
tenant_any : (t : ℕ) (l : List Release) → length (write_from (release_octets t) 0 l) ≡ length (write_from (release_octets 0) 0 l)
unfolding release_octets
tenant_any t l = row_same (release_octets t) (release_octets 0) (λ k r. release_size t r ∙ sym (release_size 0 r)) 0 l

pub rows_length : (m : Memory) (sum : ℕ) → length m.releases ≡ 8 → sum ≡ sum_to (λ i. length (tenant_octets 0 (get_or m.releases i no_releases))) 8 → sum ≡ length (memory_rows m)
unfolding tenant_row
rows_length m sum e p =
    p ∙ sum_same (λ i. length (tenant_octets 0 (get_or m.releases i no_releases))) (λ i. length (tenant_row i (get_or m.releases i no_releases))) 8 (λ i h. sym (tenant_any (i + 1) (remembered (get_or m.releases i no_releases))))
    ∙ row_sum tenant_row no_releases m.releases 8 8 8 _ e refl refl
    ∙ ap (λ (x : List TenantReleases). length (write_from tenant_row 0 x)) (take_all 8 m.releases (omega arith))

-- ---- the section: its count and its rows
module _ (m : Memory) (e : length m.releases ≡ 8) where
  section_octets_law : memory_octets m ≡ memory_total m ∷ memory_rows m
  unfolding memory_octets filed_memory release_octets tenant_row
  section_octets_law =
      ap₂ {C = List ℕ} (λ (n : ℕ) (l : List ℕ). n ∷ l) (filed_sum filed_release remembered no_releases 8 1 m.releases e) (tenants_octets release_format.write filed_release remembered 0 m.releases)

  pub section_length : length (memory_octets m) ≡ 1 + length (memory_rows m)
  section_length = let q = ap length section_octets_law in omega arith

  pub section_size : (n : ℕ) → (n ≡ length (memory_rows m)) × (n ≤ 1344) → (1 + n ≡ length (memory_octets m)) × (1 + n ≤ 1345)
  section_size n p = let a = p.0 in let b = p.1 in let q = section_length in (omega arith, omega arith)

  pub memory_wrote : {r₀ r₁ r₂ : List ℕ} {at a b n : ℕ} → at ≤ length r₀ → n ≡ memory_total m → Wrote r₀ at (n ∷ []) r₁ a → Wrote r₁ a (memory_rows m) r₂ b → Wrote r₀ at (memory_octets m) r₂ b
  memory_wrote h q p w = wrote_as (sym section_octets_law) (section_wrote (memory_total m) h q p w)
