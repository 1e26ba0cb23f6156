-- Laws: the form of the whole file, section by section: one `then_ends` each.
use mathlib.Core.Bool.{Bool, false, true}
use mathlib.Core.List.{List, []}
use mathlib.Core.Path.{◌∙◌, ◌≡◌, ap, ap₂, refl, subst, sym}
use Prim.Native.Nat.{◌*◌, ◌+◌, ◌-◌, ◌<◌, ◌≤◌, ℕ}
use native.Mathlib.Nat.{mul-le-mul}
use native.Mathlib.Omega.{arith}
use lib.Dec.{leb}
use lib.ListN.{drop, get_or, length, length-drop, take}
use borrow.Author.Tests.{le-leb, lt-leb}
use Rattle.format.specs.Format.{Format, ◌⊗◌, ◌▷◌, after, bad, closed, counted, got, number}
use Rattle.format.specs.Place.{Ends, EndsAs, counted_end, row}
use Rattle.format.specs.laws.Fixed.{Fixed, after_ends, after_other, after_short, counted_place, fixed_as, fixed_both, fixed_ends, fixed_is, fixed_number, fixed_octet, fixed_times, fixed_viewed, walk_length}
use Rattle.format.specs.laws.Format.{then_with}
use Rattle.format.specs.laws.Place.{as_in, as_is, closed_ends, closed_not, closed_over, ends_at, ends_in, ends_not, ends_value, then_ends, then_not, viewed_ends}
use Rattle.format.specs.Section.{verbatim}
use Rattle.format.specs.laws.Section.{section_is, section_row}
use Rattle.lists.specs.Pick.{pick}
use Rattle.names.specs.Names.{names_format, value_or}
use Rattle.names.specs.laws.Names.{section_octets_law}
use Rattle.octets.specs.Octets.{at32}
use Rattle.lease_file.specs.Place.{SectionEndsAt, entries_in}
use Rattle.lease_file.specs.Section.{FileHold, FileLease, entry_format, holds_format, lease_in, leases_format}
use Rattle.release_file.specs.Place.{ReleaseSection, releases_in}
use Rattle.release_file.specs.Section.{FileRelease, releases_format}
use Rattle.state.specs.declared.ClientRange.{ClientRange}
use Rattle.state_file.specs.File.{FilePart, FileScope, Sections, file_format, file_limit, file_of, last_format, of_sections, part_format, scope_format, tenant_format, to_sections}
use Rattle.state_file.specs.Place.{FirstIn, FormedBy, file_at, file_scope_at, part_at, range_at, scopes_in, tenant_count_in}
use Rattle.std.specs.Prelude.{Option, Some, None}

-- ---- values of a fixed size
unfoldable fixed_pair : Fixed (number ⊗ number) 8
fixed_pair = fixed_both fixed_number fixed_number

unfoldable fixed_range : Fixed tenant_format 8
unfolding range_at fixed_pair fixed_both fixed_number fixed_viewed
fixed_range = fixed_is (fixed_viewed _ _ fixed_pair) range_at (λ s at. refl)

unfoldable fixed_part : Fixed part_format 2
unfolding part_at fixed_both fixed_octet fixed_viewed
fixed_part = fixed_is (fixed_viewed _ _ (fixed_both fixed_octet fixed_octet)) part_at (λ s at. refl)

unfoldable fixed_scope : (h : ℕ) → Fixed (scope_format h) (6 + h * 2)
unfolding file_scope_at fixed_part fixed_octet fixed_number fixed_both fixed_viewed fixed_as fixed_times fixed_is
fixed_scope h =
    fixed_is (fixed_viewed _ _ (fixed_as (let e : 4 + (1 + (1 + h * 2)) ≡ 6 + h * 2 = omega arith in e) (fixed_both fixed_number (fixed_both fixed_octet (fixed_both fixed_octet (fixed_times fixed_part h))))))
    (file_scope_at h)
    (λ s at. ap₂ {C = FileScope} (λ (t : ℕ) (p : List FilePart). record { lowest = at32 s at; size = get_or s (at + 4) 0; ttl = t; parts = p })
    (ap (λ (k : ℕ). get_or s k 0) (let e : at + 4 + 1 ≡ at + 5 = omega arith in e)) (ap (λ (k : ℕ). row part_at 2 h s k) (let e : at + 4 + 1 + 1 ≡ at + 6 = omega arith in e)))

-- ---- the sections
abbrev Server : Format (ℕ × ℕ)
Server = after 1 (number ⊗ number)

-- what follows the leases, and the names
abbrev Last : Type 0
Last = List ℕ × (List FileRelease × List FileHold)

abbrev after_scopes : List ClientRange → List FileScope → Format (List FileLease × Last)
after_scopes ts cs = last_format cs ts

abbrev after_tenants : List ClientRange → Format (List FileScope × (List FileLease × Last))
after_tenants ts = counted (scope_format (length ts)) ▷ after_scopes ts

abbrev after_server : (ℕ × ℕ) → Format (List ClientRange × (List FileScope × (List FileLease × Last)))
after_server p = counted tenant_format ▷ after_tenants

abbrev after_names : Format (List FileRelease × List FileHold)
after_names = releases_format ⊗ holds_format

-- the names are the octets from their place to where they end
names_is : (k h : ℕ) (s : List ℕ) (at n : ℕ) → Ends (names_format k h) s at 1 (Some n) → value_or [] ((verbatim (names_format k h)).read (drop at s)) ≡ take (n - at) (drop at s)
unfolding value_or
names_is k h s at n v =
    let w = ends_value v in
    let b = ends_in v in
    let d = length-drop at s in
    let e = length-drop n s in
    ap (value_or []) (then_with _ w.0 (drop n s) w.1.reads)
    ∙ ap (λ (m : ℕ). take m (drop at s)) (let q : length (drop at s) - length (drop n s) ≡ n - at = omega arith in q)

module _ (s : List ℕ) where
  file_bad : closed (file_format.read s) ≡ bad → file_of s ≡ bad
  unfolding file_of pick
  file_bad e = go (leb (length s) file_limit)
    where
      go : (g : Bool) → pick g (closed (file_format.read s)) bad ≡ bad
      go true = e
      go false = refl

  not_file : {x : Sections} {a : ℕ} → EndsAs (Server ▷ after_server) x s 0 a None → file_of s ≡ bad
  not_file v = file_bad (closed_not (viewed_ends of_sections to_sections v))

  pub form_long : file_limit < length s → FormedBy s None
  unfolding FormedBy file_of pick
  form_long h = ap (λ (b : Bool). pick b (closed (file_format.read s)) bad) (lt-leb _ _ h)

  pub form_short : length s < 9 → FormedBy s None
  unfolding FormedBy
  form_short h = not_file (then_not after_server 0 ((0, 0), ([], ([], ([], ([], ([], [])))))) (after_short fixed_pair 1 s 0 (0, 0) 0 (omega arith) (omega arith)))

  pub form_tag : 9 ≤ length s → (get_or s 0 0 ≡ 1 → ⊥) → FormedBy s None
  unfolding FormedBy
  form_tag h e = not_file (then_not after_server 0 ((0, 0), ([], ([], ([], ([], ([], [])))))) (after_other fixed_pair 1 s 0 (0, 0) 0 e (omega arith)))

  module _ (one : get_or s 0 0 ≡ 1) (long : 9 ≤ length s) where
    server : EndsAs Server (at32 s 1, at32 s 5) s 0 9 (Some 9)
    unfolding fixed_pair fixed_both fixed_number
    server = after_ends fixed_pair 1 s 0 one (omega arith)

    ts : List ClientRange
    ts = row range_at 8 (tenant_count_in s) s 10

    many : length ts ≡ tenant_count_in s
    unfolding ts
    many = walk_length range_at _ (tenant_count_in s) s 10

    tenants : {q : Option ℕ} → counted_end s 9 8 ≡ q → EndsAs (counted tenant_format) ts s 9 1 q
    unfolding ts fixed_range fixed_is
    tenants p = as_is (fixed_ends fixed_range s 9) p

    pub form_tenants : {r : Option ℕ} → r ≡ counted_end s 9 8 → r ≡ None → FormedBy s None
    unfolding FormedBy
    form_tenants e p = not_file (then_ends after_server server (then_not after_tenants 0 ([], ([], ([], ([], ([], []))))) (tenants (sym e ∙ p))))

    module _ {a : ℕ} (pr : counted_end s 9 8 ≡ Some a) where
      cs : List FileScope
      cs = scopes_in s a

      scopes : {q : Option ℕ} → counted_end s a (6 + tenant_count_in s * 2) ≡ q → EndsAs (counted (scope_format (length ts))) cs s a 1 q
      unfolding cs fixed_scope fixed_is
      scopes {q} p = subst (λ (n : ℕ). EndsAs (counted (scope_format n)) cs s a 1 q) (sym many) (as_is (fixed_ends (fixed_scope (tenant_count_in s)) s a) p)

      not_scopes : counted_end s a (6 + tenant_count_in s * 2) ≡ None → FormedBy s None
      unfolding FormedBy
      not_scopes p = not_file (then_ends after_server server (then_ends after_tenants (tenants pr) (then_not (after_scopes ts) 0 ([], ([], ([], ([], [])))) (scopes p))))

      module _ {b : ℕ} (pu : counted_end s a (6 + tenant_count_in s * 2) ≡ Some b) where
        ls : List FileLease
        ls = entries_in false s b

        leases : {q : Option ℕ} → SectionEndsAt false s b q → EndsAs leases_format ls s b 1 q
        unfolding ls entry_format lease_in
        leases v = v.is.ends

        first : {y : List FileLease × Last} {n : ℕ} {q : Option ℕ} → EndsAs (last_format cs ts) y s b n q → EndsAs (Server ▷ after_server) ((at32 s 1, at32 s 5), (ts, (cs, y))) s 0 (9 + (1 + (1 + n))) q
        first v = then_ends after_server server (then_ends after_tenants (tenants pr) (then_ends (after_scopes ts) (scopes pu) v))

        after_leases : Format Last
        after_leases = verbatim (names_format (length cs) (length ts)) ⊗ after_names

        not_leases : SectionEndsAt false s b None → FormedBy s None
        unfolding FormedBy after_leases
        not_leases v = not_file (first (then_not (λ _. after_leases) 0 ([], ([], ([], []))) (leases v)))

  -- for the code, which has each end by a name
  module _ (one : get_or s 0 0 ≡ 1) (long : 9 ≤ length s) {a : ℕ} {r : Option ℕ} (er : r ≡ counted_end s 9 8) (pr : r ≡ Some a) (h : ℕ) (eh : h ≡ get_or s 9 0) where
    pools_are : {u q : Option ℕ} → u ≡ counted_end s a (6 + h * 2) → u ≡ q → counted_end s a (6 + tenant_count_in s * 2) ≡ q
    pools_are e p = ap (λ (n : ℕ). counted_end s a (6 + n * 2)) (sym eh) ∙ sym e ∙ p

    pub form_scopes : {u : Option ℕ} → u ≡ counted_end s a (6 + h * 2) → u ≡ None → FormedBy s None
    form_scopes e p = not_scopes one long (sym er ∙ pr) (pools_are e p)

    module _ {b : ℕ} {u w : Option ℕ} (eu : u ≡ counted_end s a (6 + h * 2)) (pu : u ≡ Some b) (v : SectionEndsAt false s b w) where
      pub form_leases : w ≡ None → FormedBy s None
      form_leases p = not_leases one long (sym er ∙ pr) (pools_are eu pu) (record { is = section_is v.is p })

      pub form_first : {c : ℕ} → length s ≤ file_limit → w ≡ Some c → FirstIn s a b c
      form_first few p = record { few = few; long = long; one = one; tenants = sym er ∙ pr; pools = pools_are eu pu; records = record { is = section_is v.is p } }

  -- ---- the sections from the names on
  module _ {a b c : ℕ} (v : FirstIn s a b c) where
    tenants_in_law : List ClientRange
    tenants_in_law = ts v.one v.long

    scopes_in_law : List FileScope
    scopes_in_law = cs v.one v.long v.tenants

    counts : (get_or s a 0 ≡ length scopes_in_law) × (get_or s 9 0 ≡ length tenants_in_law)
    unfolding scopes_in_law tenants_in_law cs
    counts = (sym (walk_length (file_scope_at (tenant_count_in s)) _ (get_or s a 0) s (a + 1)), sym (many v.one v.long))

    same_counts_law : {q : Option ℕ} → Ends (names_format (get_or s a 0) (get_or s 9 0)) s c 1 q → Ends (names_format (length scopes_in_law) (length tenants_in_law)) s c 1 q
    same_counts_law {q} u =
        subst (λ (n : ℕ). Ends (names_format n (length tenants_in_law)) s c 1 q) counts.0 (subst (λ (n : ℕ). Ends (names_format (get_or s a 0) n) s c 1 q) counts.1 u)

    ns : List ℕ
    ns = value_or [] ((verbatim (names_format (length scopes_in_law) (length tenants_in_law))).read (drop c s))

    names : {q : Option ℕ} → Ends (names_format (get_or s a 0) (get_or s 9 0)) s c 1 q → EndsAs (verbatim (names_format (length scopes_in_law) (length tenants_in_law))) ns s c 1 q
    unfolding ns
    names u = section_octets_law (length scopes_in_law) (length tenants_in_law) s c (same_counts_law u)

    second : {y : Last} {n : ℕ} {q : Option ℕ} → EndsAs (verbatim (names_format (length scopes_in_law) (length tenants_in_law)) ⊗ after_names) y s c n q
        → EndsAs (Server ▷ after_server) ((at32 s 1, at32 s 5), (tenants_in_law, (scopes_in_law, (entries_in false s b, y)))) s 0 (9 + (1 + (1 + (1 + n)))) q
    unfolding tenants_in_law scopes_in_law ls
    second u = first v.one v.long v.tenants v.pools (then_ends (λ _. verbatim (names_format (length scopes_in_law) (length tenants_in_law)) ⊗ after_names) (leases v.one v.long v.tenants v.pools v.records) u)

    module _ {z : Option ℕ} (k : Ends (names_format (get_or s a 0) (get_or s 9 0)) s c 1 z) where
      pub form_names : z ≡ None → FormedBy s None
      unfolding FormedBy
      form_names f = not_file (second (then_not (λ _. after_names) 0 ([], ([], [])) (names (ends_not k f))))

      module _ {d : ℕ} (f : z ≡ Some d) {x : Option ℕ} (m : ReleaseSection s d x) where
        pub form_releases : x ≡ None → FormedBy s None
        unfolding FormedBy
        form_releases e = not_file (second (then_ends (λ _. after_names) (names (ends_at k f)) (then_not (λ _. holds_format) 0 ([], []) (section_is m e).ends)))

        module _ {n : ℕ} (g : x ≡ Some n) {t : Option ℕ} (last : SectionEndsAt true s n t) where
          held : {q : Option ℕ} → t ≡ q → EndsAs holds_format (entries_in true s n) s n 1 q
          unfolding entry_format lease_in
          held e = (section_is last.is e).ends

          whole : {q : Option ℕ} → t ≡ q → EndsAs (Server ▷ after_server) ((at32 s 1, at32 s 5), (tenants_in_law, (scopes_in_law, (entries_in false s b, (ns, (releases_in s d, entries_in true s n)))))) s 0 (9 + (1 + (1 + (1 + (1 + (1 + 1)))))) q
          whole e = second (then_ends (λ _. after_names) (names (ends_at k f)) (then_ends (λ _. holds_format) (section_is m g).ends (held e)))

          pub form_holds : t ≡ None → FormedBy s None
          unfolding FormedBy
          form_holds e = not_file (whole e)

          module _ {end : ℕ} (i : t ≡ Some end) where
            pub form_over : (end ≡ length s → ⊥) → FormedBy s None
            unfolding FormedBy
            form_over e = file_bad (closed_over (viewed_ends of_sections to_sections (whole i)) e)

            pub form_right : end ≡ length s → FormedBy s (Some (record { scopes = a; leases = b; names = c; releases = d; holds = n }))
            unfolding FormedBy file_of file_at tenants_in_law scopes_in_law ts cs ns pick
            form_right e =
                let x = counted_place s 9 8 v.tenants in
                let y = counted_place s a _ v.pools in
                let r = section_row v.records.is in
                let q = section_row (section_is m g) in
                let o = section_row (section_is last.is i) in
                let j = ends_in (ends_at k f) in
                record {
                  file = ap (λ (b : Bool). pick b (closed (file_format.read s)) bad) (le-leb _ _ v.few) ∙ closed_ends (viewed_ends of_sections to_sections (whole i)) e
                      ∙ ap (λ (l : List ℕ). got (record { server = at32 s 1; clock = at32 s 5; tenants = tenants_in_law; scopes = scopes_in_law; leases = entries_in false s b; names = l; releases = releases_in s d; holds = entries_in true s n }) [])
                      (names_is (length scopes_in_law) (length tenants_in_law) s c d (same_counts_law (ends_at k f)));
                  tenants = x.1;
                  sizes = y.1;
                  records = record { start = omega arith; each = r.1 };
                  names = omega arith;
                  memory = record { start = omega arith; each = q.1 };
                  last = record { start = omega arith; each = o.1 };
                }

-- the place of a count, and those of what follows
pub count_in_law : (s : List ℕ) (at z : ℕ) {a : ℕ} {r : Option ℕ} → r ≡ counted_end s at z → r ≡ Some a → at < length s
count_in_law s at z e p = (counted_place s at z (sym e ∙ p)).0

pub first_inside : {s : List ℕ} {a b c : ℕ} → FirstIn s a b c → (9 < length s) × (a < length s) × (c ≤ length s)
unfolding entry_format lease_in
first_inside {s} {a} {b} {c} v = let y = counted_place s a _ v.pools in let x = counted_place s 9 8 v.tenants in (x.0, y.0, (as_in v.records.is.ends).1)

pub names_inside : (s : List ℕ) (k h : ℕ) {c d : ℕ} {z : Option ℕ} → Ends (names_format k h) s c 1 z → z ≡ Some d → d ≤ length s
names_inside s k h u f = (ends_in (ends_at u f)).1

pub octets_bound : (n z : ℕ) → n < 256 → z < 600 → n * z < 200000
octets_bound n z h g = let l : n * z ≤ 255 * 599 = mul-le-mul (let a : n ≤ 255 = omega arith in a) (let b : z ≤ 599 = omega arith in b) in omega arith

pub ruleset forms = (form_long, form_short, form_tag, form_tenants, form_scopes)
