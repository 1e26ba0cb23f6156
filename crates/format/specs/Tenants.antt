-- Definitions: entries of a section that name a tenant, and the same tenant by tenant. Tenants count from 1 here, as in the file.
use Rattle.std.specs.Prelude.{List, [], ◌++◌, ◌∷◌, map, suc, zero, ℕ, eqb, length}
use Rattle.lists.specs.Filter.{filter_by}
use Rattle.lists.specs.Pick.{pick}

-- those of tenant t, where key is an entry's tenant
abbrev pub own : {A : Type 0} → (A → ℕ) → ℕ → List A → List A
own key t l = filter_by (λ x. eqb (key x) t) l

-- the lists of n tenants from t on
unfoldable pub apart : {A : Type 0} → (A → ℕ) → ℕ → ℕ → List A → List (List A)
apart key t zero l = []
apart key t (suc n) l = own key t l ∷ apart key (suc t) n l

-- the entries of the tenants from t on, one after the other: file gives the entry of a tenant's record
unfoldable pub filed_all : {A B : Type 0} → (ℕ → B → A) → ℕ → List (List B) → List A
filed_all file t [] = []
filed_all file t (l ∷ ls) = map (file t) l ++ filed_all file (suc t) ls

-- ---- a value for each tenant, as a loop over the entries has it
-- what f gives for each of n tenants from t on
unfoldable pub per_tenant : {B : Type 0} → (ℕ → B) → ℕ → ℕ → List B
per_tenant f t zero = []
per_tenant f t (suc n) = f t ∷ per_tenant f (suc t) n

-- b, and with the entry x as well if it is tenant t's
unfoldable pub keep_by : {A B : Type 0} → (A → ℕ) → (B → A → B) → ℕ → B → A → B
keep_by key g t b x = pick (eqb (key x) t) (g b x) b

-- how many each of eight tenants has
unfoldable pub tally_by : {A : Type 0} → (A → ℕ) → List A → List ℕ
tally_by key xs = per_tenant (λ t. length (own key t xs)) 1 8
