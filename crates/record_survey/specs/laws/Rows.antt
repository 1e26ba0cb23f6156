-- Laws: the records surveyed tenant by tenant, with the board that they make, and left as they are by the drop where no lease has ended, the board too.
use Rattle.std.specs.Prelude.{◌≡◌, Bool, true, false, ◌&&◌, ℕ, zero, suc, ◌+◌, ◌-◌, ◌*◌, ◌≤◌, ◌<◌, length, replicate, take, drop}
use Rattle.std.specs.List.{list_all}
use Rattle.std.proofs.Math.Path.{refl, sym, ap, ap₂, subst}
use Rattle.std.proofs.Common.{◌∙◌, arith, add-one, length-append, length-drop, length-take, take-append-drop, drop-cons, length-take-le, ltb-true}
use mathlib.Core.List.{List, [], ◌∷◌, ◌++◌, map}
use Rattle.std.proofs.Math.ListN.{get_or, set, get_or-map}
use Rattle.std.proofs.lemmas.List.{length-map, get_or_at, set-get_or}
use Rattle.lists.specs.Pick.{pick}
use Rattle.lists.specs.All.{All, all_by, pairs_by}
use Rattle.lists.specs.laws.All.{all_head, all_drop, all_take}
use Rattle.lists.specs.laws.Both.{and_parts}
use Rattle.lists.specs.laws.Each.{BuildInv, EachInv, build_start, each_start, each_next, each_end, map_set}
use Rattle.lists.specs.laws.Filter.{filter_both}
use Rattle.lists.specs.Fold.{fold}
use Rattle.lists.specs.Place.{place_by}
use Rattle.occupancy.specs.declared.Board.{Board}
use Rattle.occupancy.specs.Board.{no_board}
use Rattle.state.specs.declared.Lease.{Lease}
use Rattle.state.specs.declared.LeaseTable.{LeaseTable}
use Rattle.state.specs.declared.Memory.{Memory}
use Rattle.state.specs.declared.State.{State}
use Rattle.state.specs.declared.TenantLeases.{TenantLeases}
use Rattle.state.specs.declared.TenantReleases.{TenantReleases}
use Rattle.state.specs.Book.{cleared, cleared_to, dropped, ended_front, ended_of, in_use, laid_out, leases_of, live, live_of, no_leases, ordered, table_of, tenant_at, board_with, board_without, zero_lease}
use Rattle.state.specs.Board.{built_of, built_to}
use Rattle.lists.specs.laws.Row.{at_in}
use Rattle.state.specs.laws.Layout.{dropped_is, ended_in, read_back}
use Rattle.state.proofs.Sorted.{front_ended, rest_live}
use Rattle.agreement.specs.laws.Tenants.{at_tenant}
use Rattle.soundness.specs.laws.Added.{rises_at}
use Rattle.soundness.specs.declared.Held.{Held}
use Rattle.soundness.specs.declared.HeldTable.{HeldTable}
use Rattle.soundness.specs.declared.TableRules.{TableRules}
use Rattle.soundness.specs.Sound.{layout_b, padded_b, settings_b, sound_b, unused_b, layout_by, rule19_by, rules_by}
use Rattle.soundness.specs.Parts.{added_tenant, first_end_in, held_sets, holdings_of, no_held, no_tenants}
use Rattle.soundness.specs.laws.Book.{rules_of_law}
use Rattle.soundness.specs.laws.Code.{holdings_are}
use Rattle.releases.specs.declared.ReleaseRules.{ReleaseRules}
use Rattle.releases.specs.Rules.{both_rules, rules_at}
use Rattle.releases.specs.laws.Tenants.{MemoryInv, memory_next}
use Rattle.soundness.specs.laws.Survey.{SurveyInv, held_at, none_ended, survey_next, survey_start}
use Rattle.state_file.proofs.WriteAgain.{leases_zero}
use Rattle.records.specs.declared.Records.{Records}
use Rattle.records.specs.laws.Back.{rows_back}
use Rattle.records.specs.laws.Table.{place_within, rows_length, table_eight}
use Rattle.records.specs.Records.{put_row, records_of, rows, rows_of, table_from, tenant_from}
use Rattle.record_survey.specs.Survey.{Drops, ends_after}
use Rattle.records.specs.laws.Rows.{Long, Sixteen, put_rows, rows_sixteen}

-- ---- the survey
pub survey_first : {s : State} (ls : List Lease) {c : TableRules} → c ≡ no_tenants → SurveyInv s (table_from ls) c 0
survey_first ls e = survey_start (table_eight ls) e

pub survey_row : {s : State} (ls : List Lease) {c r : TableRules} {h : ℕ} {t : TenantLeases} → SurveyInv s (table_from ls) c h → h < 8 → t ≡ tenant_at (table_from ls) h → r ≡ added_tenant s c h t
    → SurveyInv s (table_from ls) r (h + 1)
survey_row ls {h = h} v p q e = survey_next v p (q ∙ at_in (table_from ls).tenants 8 h (laid_out []) no_leases (table_eight ls) p) e

-- ---- what the tenants hold, gathered by itself
abbrev pub HoldingInv : List Lease → List Held → ℕ → Type 0
HoldingInv ls now h = BuildInv held_sets no_leases (table_from ls).tenants no_tenants.held.tenants 8 now h

none_eight : length no_tenants.held.tenants ≡ 8
unfolding no_tenants
none_eight = refl

pub holding_first : (ls : List Lease) {c : TableRules} → c ≡ no_tenants → HoldingInv ls c.held.tenants 0
holding_first ls q = subst (λ (x : TableRules). HoldingInv ls x.held.tenants 0) (sym q) (build_start (table_eight ls) none_eight)

pub holding_row : (ls : List Lease) {now : List Held} {h : ℕ} {t : TenantLeases} {x : Held} → HoldingInv ls now h → h < 8 → t ≡ tenant_at (table_from ls) h → x ≡ held_sets t → HoldingInv ls (set now h x) (h + 1)
holding_row ls {h = h} v p q e = each_next v p (e ∙ ap held_sets (q ∙ at_in (table_from ls).tenants 8 h (laid_out []) no_leases (table_eight ls) p))

pub holding_end : (ls : List Lease) (r : HeldTable) {h : ℕ} → HoldingInv ls r.tenants h → 8 ≤ h → r ≡ holdings_of (table_from ls)
holding_end ls r v q = holdings_are (table_from ls) r (each_end v q)

-- ---- the rules on what is remembered, gathered in the same loop
pub memory_row : {s : State} (ls : List Lease) {m : Memory} {n : ℕ} {all r : ReleaseRules} {h : ℕ} {t : TenantLeases} (d : TenantReleases) → MemoryInv s (table_from ls) m n all h → length m.releases ≡ 8 → h < 8
    → t ≡ tenant_at (table_from ls) h → r ≡ both_rules all (rules_at n s.clock h (in_use t) (get_or m.releases h d)) → MemoryInv s (table_from ls) m n r (h + 1)
memory_row ls {m} {h = h} {t} d v e p q u =
    memory_next v t d e p (λ n clock. ap (λ (x : TenantLeases). rules_at n clock h (in_use x) (get_or m.releases h d)) q) u

-- ---- the board that the leases make, in the same loop
pub built_first : (t : LeaseTable) {b : Board} → b ≡ no_board → b ≡ built_to t 0
unfolding built_to
built_first t e = e

pub built_row : (ls : List Lease) (h : ℕ) {b r : Board} {t : TenantLeases} → b ≡ built_to (table_from ls) h → t ≡ tenant_at (table_from ls) h → r ≡ fold (board_with h) b (in_use t)
    → r ≡ built_to (table_from ls) (h + 1)
unfolding built_to
built_row ls h v q e =
    e ∙ ap₂ (λ (x : Board) (y : TenantLeases). fold (board_with h) x (in_use y)) v q ∙ ap (built_to (table_from ls)) (sym (add-one h))

pub built_whole : {s : State} {b : LeaseTable} {c : TableRules} {x : Board} {h : ℕ} → SurveyInv s b c h → x ≡ built_to b h → 8 ≤ h → x ≡ built_of b
built_whole {b = b} {h = h} v e p = e ∙ ap (built_to b) (let q = v.folded.within in let d : h ≡ 8 = omega arith in d)

-- ---- a sound book's records only lay out its leases
row_laid : (r : List Lease) → length r ≡ 16 → All Long r → layout_b (tenant_from r) ≡ true → laid_out (in_use (tenant_from r)) ≡ tenant_from r
unfolding laid_out tenant_from layout_by
row_laid r e v q =
    ap₂ {C = TenantLeases} (λ (l : List Lease) (n : ℕ). record { leases = l; count = n }) whole count
  where
    k : ℕ
    k = place_by unused_b r

    count : length (take k r) ≡ k
    count = length-take-le k r (place_within unused_b r)

    unused : all_by unused_b (drop k r) ≡ true
    unused = (and_parts (all_by padded_b (take k r)) (all_by unused_b (drop k r)) (and_parts (pairs_by ordered (take k r)) (all_by padded_b (take k r) && all_by unused_b (drop k r)) q).1).1

    whole : take k r ++ replicate (16 - length (take k r)) zero_lease ≡ r
    whole =
        ap (λ (n : ℕ). take k r ++ replicate n zero_lease) (let a = length-drop k r in let b = count in let c : 16 - length (take k r) ≡ length (drop k r) = omega arith in c)
        ∙ ap (λ (x : List Lease). take k r ++ x) (sym (leases_zero Long (λ l p. p) (drop k r) (all_drop Long k r v) unused)) ∙ take-append-drop k r

rows_laid : (n : ℕ) (ls : List Lease) → length ls ≡ 16 * n → All Long ls → all_by layout_b (map tenant_from (rows n ls)) ≡ true
    → map tenant_from (rows n ls) ≡ map laid_out (map in_use (map tenant_from (rows n ls)))
unfolding rows
rows_laid zero ls e v q = refl
rows_laid (suc n) ls e v q =
    let p = all_head layout_b (tenant_from (take 16 ls)) (map tenant_from (rows n (drop 16 ls))) q in
    ap₂ {C = List TenantLeases} (λ (x : TenantLeases) (y : List TenantLeases). x ∷ y) (sym (row_laid (take 16 ls) (length-take-le 16 ls (omega arith)) (all_take Long 16 ls v) p.0))
    (rows_laid n (drop 16 ls) (length-drop 16 ls ∙ (let c : length ls - 16 ≡ 16 * n = omega arith in c)) (all_drop Long 16 ls v) p.1)

pub sound_laid : (s : State) (ls : List Lease) → length ls ≡ 128 → All Long ls → sound_b s (table_from ls) ≡ true → table_from ls ≡ table_of (leases_of (table_from ls))
unfolding table_from table_of rules_by rule19_by
sound_laid s ls e v q =
    ap {B = LeaseTable} (λ (x : List TenantLeases). record { tenants = x })
    (rows_laid 8 ls e v (and_parts (settings_b s) (all_by layout_b (map tenant_from (rows 8 ls))) (rules_of_law s (table_from ls) q).layout).1)

-- ---- the drop
-- what std's `all` asks
pub every_is : {A : Type 0} (t : A → Bool) (l : List A) → list_all t l ≡ all_by t l
unfolding all_by pick
every_is t [] = refl
every_is t (x ∷ l) = go (t x) (every_is t l)
  where
    go : (b : Bool) → list_all t l ≡ all_by t l → (b && list_all t l) ≡ pick b (all_by t l) false
    go true e = e
    go false e = refl

-- before its first end a tenant's records stay
kept : (clock : ℕ) (t : TenantLeases) → t ≡ laid_out (in_use t) → clock < first_end_in (in_use t) → ended_in clock t ≡ t
kept clock t e p = ap laid_out (none_ended clock (in_use t) p) ∙ sym e

-- and nothing of them is taken off the board
no_length : {A : Type 0} (l : List A) → length l ≡ 0 → l ≡ []
no_length [] e = refl
no_length (x ∷ l) e = absurd (omega arith)

none_gone : (clock : ℕ) (ls : List Lease) → clock < first_end_in ls → ended_of clock ls ≡ []
unfolding ended_of live_of
none_gone clock ls p = no_length (ended_of clock ls) (let a = filter_both (live clock) ls in let b = ap length (none_ended clock ls p) in omega arith)

clear_none : (clock : ℕ) (b : LeaseTable) (x : Board) (h : ℕ) → clock < first_end_in (in_use (tenant_at b h)) → cleared_to clock b x (suc h) ≡ cleared_to clock b x h
unfolding cleared_to
clear_none clock b x h p = ap (fold (board_without h) (cleared_to clock b x h)) (none_gone clock (in_use (tenant_at b h)) p)

laid_at : (b : LeaseTable) (h : ℕ) → b ≡ table_of (leases_of b) → tenant_at b h ≡ laid_out (get_or (leases_of b) h [])
unfolding table_of
laid_at b h e = ap (λ (x : LeaseTable). tenant_at x h) e ∙ get_or-map laid_out (leases_of b) h []

laid_own : (b : LeaseTable) (h : ℕ) (t : TenantLeases) → t ≡ tenant_at b h → b ≡ table_of (leases_of b) → t ≡ laid_out (in_use t)
laid_own b h t e v =
    let p : t ≡ laid_out (get_or (leases_of b) h []) = e ∙ laid_at b h v in
    p ∙ ap laid_out (sym (read_back (get_or (leases_of b) h []))) ∙ ap (λ (x : TenantLeases). laid_out (in_use x)) (sym p)

-- with h tenants done
pub record DropInv (clock : ℕ) (b : LeaseTable) (x : Board) (now : List Lease) (held : List Held) (y : Board) (h : ℕ) : Type 0 where
  pub tenants : List TenantLeases
  pub each : EachInv (ended_in clock) no_leases b.tenants 8 tenants h
  pub sixteen : All Sixteen tenants
  pub records : now ≡ rows_of tenants
  pub sets : held ≡ map held_sets tenants
  pub board : y ≡ cleared_to clock b x h
  pub size : length now ≡ 128
  pub laid : b ≡ table_of (leases_of b)
  pub rises : all_by (pairs_by ordered) (leases_of b) ≡ true

pub drop_start : {clock : ℕ} {ls : List Lease} {held : HeldTable} {x : Board} → length ls ≡ 128 → table_from ls ≡ table_of (leases_of (table_from ls)) → held ≡ holdings_of (table_from ls) → all_by (pairs_by ordered) (leases_of (table_from ls)) ≡ true
    → DropInv clock (table_from ls) x ls held.tenants x 0
unfolding table_from holdings_of cleared_to
drop_start {ls = ls} e v q rises = record {
  tenants = map tenant_from (rows 8 ls);
  each = each_start (length-map (rows 8 ls) tenant_from ∙ rows_length 8 ls);
  sixteen = rows_sixteen 8 ls e;
  records = sym (rows_back 8 ls e);
  sets = ap (λ (x : HeldTable). x.tenants) q;
  board = refl;
  size = e;
  laid = v;
  rises = rises;
}

all_set : {A : Type 0} (P : A → Type 0) (l : List A) (i : ℕ) (x : A) → All P l → P x → All P (set l i x)
unfolding All
all_set P [] i x v p = v
all_set P (y ∷ l) zero x v p = (p, v.1)
all_set P (y ∷ l) (suc i) x v p = (v.0, all_set P l i x v.1 p)

module _ {clock : ℕ} {b : LeaseTable} {x : Board} {now : List Lease} {held : List Held} {y : Board} {h : ℕ} (v : DropInv clock b x now held y h) where
  long : length v.tenants ≡ 8
  long = ap length v.each.whole ∙ length-append (map (ended_in clock) (take h b.tenants)) (drop h b.tenants)
      ∙ (let a = length-map (take h b.tenants) (ended_in clock) in let c = length-take h b.tenants in let d = length-drop h b.tenants in let e = v.each.long in let f = v.each.within in omega arith)

  own : h < 8 → {t : TenantLeases} → t ≡ tenant_at b h → t ≡ get_or b.tenants h no_leases
  own p e = e ∙ at_in b.tenants 8 h (laid_out []) no_leases v.each.long p

  -- tenant h as it is still
  still : h < 8 → get_or v.tenants h no_leases ≡ get_or b.tenants h no_leases
  still p =
      ap (λ (x : List TenantLeases). get_or x h no_leases) (v.each.whole ∙ ap (λ (x : List TenantLeases). map (ended_in clock) (take h b.tenants) ++ x) (drop-cons b.tenants h no_leases (let e = v.each.long in omega arith)))
      ∙ get_or_at (map (ended_in clock) (take h b.tenants)) (get_or b.tenants h no_leases) (drop (suc h) b.tenants) no_leases h
      (length-map (take h b.tenants) (ended_in clock) ∙ length-take-le h b.tenants (let e = v.each.long in omega arith))

  -- its leases that ended go
  own_rises : {t : TenantLeases} → t ≡ tenant_at b h → pairs_by ordered (in_use t) ≡ true
  own_rises e = ap (λ (l : TenantLeases). pairs_by ordered (in_use l)) e ∙ ap (pairs_by ordered) (at_tenant b h) ∙ rises_at ordered (leases_of b) h v.rises

  pub drop_ended : {t left : TenantLeases} {n : ℕ} {r : List Lease} {g : Held} {z : Board} → h < 8 → t ≡ tenant_at b h → n ≡ ended_front clock (in_use t) → left ≡ laid_out (drop n (in_use t)) → length left.leases ≡ 16
      → (r ≡ put_row now h left.leases) × (length r ≡ 128) → g ≡ held_sets left → z ≡ fold (board_without h) y (take n (in_use t)) → DropInv clock b x r (set held h g) z (h + 1)
  unfolding cleared_to
  drop_ended {t} {left} {n} {z = k} p e en el z w u ed =
      let q : left ≡ laid_out (live_of clock (in_use t)) = el ∙ ap (λ (i : ℕ). laid_out (drop i (in_use t))) en ∙ ap laid_out (rest_live clock (in_use t) (own_rises e)) in
      let d : k ≡ fold (board_without h) y (ended_of clock (in_use t)) = ed ∙ ap (λ (i : ℕ). fold (board_without h) y (take i (in_use t))) en ∙ ap (fold (board_without h) y) (front_ended clock (in_use t) (own_rises e)) in
      record {
        tenants = set v.tenants h left;
        each = each_next v.each p (q ∙ ap (ended_in clock) (own p e));
        sixteen = all_set Sixteen v.tenants h left v.sixteen z;
        records = w.0 ∙ ap (λ (x : List Lease). put_row x h left.leases) v.records ∙ put_rows v.tenants h left v.sixteen (let k = long in omega arith);
        sets = ap₂ {C = List Held} (λ (x : List Held) (y : Held). set x h y) v.sets u ∙ map_set held_sets v.tenants h left;
        board = d ∙ ap₂ (λ (k : Board) (l : TenantLeases). fold (board_without h) k (ended_of clock (in_use l))) v.board e ∙ ap (cleared_to clock b x) (sym (add-one h));
        size = w.1;
        laid = v.laid;
        rises = v.rises;
      }

  -- none ended
  pub drop_none : {all : HeldTable} {g : Held} {q : Bool} → h < 8 → all ≡ holdings_of b → g ≡ get_or all.tenants h no_held → q ≡ ends_after clock g → q ≡ true
      → DropInv clock b x now held y (h + 1)
  unfolding held_sets
  drop_none {g = g} p a e q w = record {
    tenants = v.tenants;
    each = subst (λ (l : List TenantLeases). EachInv (ended_in clock) no_leases b.tenants 8 l (h + 1)) same (each_next v.each p (sym (kept clock t laid_t before)));
    sixteen = v.sixteen;
    records = v.records;
    sets = v.sets;
    board = v.board ∙ sym (clear_none clock b x h first) ∙ ap (cleared_to clock b x) (sym (add-one h));
    size = v.size;
    laid = v.laid;
    rises = v.rises;
  }
    where
      t : TenantLeases
      t = get_or b.tenants h no_leases

      at : t ≡ tenant_at b h
      at = sym (own p refl)

      laid_t : t ≡ laid_out (in_use t)
      laid_t = laid_own b h t at v.laid

      first : clock < first_end_in (in_use (tenant_at b h))
      first = subst (λ (z : Held). clock < z.first_end) (e ∙ ap (λ (z : HeldTable). get_or z.tenants h no_held) a ∙ held_at b h v.each.long p) (ltb-true clock g.first_end (sym q ∙ w))

      before : clock < first_end_in (in_use t)
      before = subst (λ (z : TenantLeases). clock < first_end_in (in_use z)) (sym at) first

      same : set v.tenants h t ≡ v.tenants
      same = ap (set v.tenants h) (sym (still p)) ∙ set-get_or v.tenants h no_leases

pub drop_end : {clock : ℕ} {ls : List Lease} {x : Board} {all : Records} {sets : HeldTable} {y : Board} {h : ℕ} → DropInv clock (table_from ls) x all.leases sets.tenants y h → 8 ≤ h
    → Drops clock ls x (record { records = all; held = sets; board = y })
unfolding records_of holdings_of
drop_end {clock} {ls} {x} {h = h} v p = record {
  records = v.records ∙ ap (λ (x : LeaseTable). rows_of x.tenants) done;
  long = v.size;
  holdings = ap {B = HeldTable} (λ (x : List Held). record { tenants = x }) (v.sets ∙ ap (λ (x : LeaseTable). map held_sets x.tenants) done);
  board = v.board ∙ ap (cleared_to clock (table_from ls) x) (let q = v.each.within in let e : h ≡ 8 = omega arith in e);
}
  where
    done : record { tenants = v.tenants } ≡ dropped clock (table_from ls)
    done = dropped_is clock (table_from ls) (record { tenants = v.tenants }) (each_end v.each p)

pub ruleset drops = (drop_start, drop_ended, drop_none, drop_end)

-- ---- where no lease at all has ended
pub drop_idle : (clock : ℕ) (b : LeaseTable) → b ≡ table_of (leases_of b) → all_by (ends_after clock) (holdings_of b).tenants ≡ true → b ≡ dropped clock b
unfolding holdings_of held_sets table_of
drop_idle clock b e q =
    dropped_is clock b b (ap (λ (x : LeaseTable). x.tenants) e ∙ go (leases_of b) (subst (λ (x : LeaseTable). all_by (ends_after clock) (map held_sets x.tenants) ≡ true) e q) ∙ ap (map (ended_in clock)) (sym (ap (λ (x : LeaseTable). x.tenants) e)))
  where
    go : (ll : List (List Lease)) → all_by (ends_after clock) (map held_sets (map laid_out ll)) ≡ true → map laid_out ll ≡ map (ended_in clock) (map laid_out ll)
    go [] p = refl
    go (l ∷ ll) p =
        let d = all_head (ends_after clock) (held_sets (laid_out l)) (map held_sets (map laid_out ll)) p in
        ap₂ {C = List TenantLeases} (λ (x : TenantLeases) (y : List TenantLeases). x ∷ y)
        (sym (kept clock (laid_out l) (ap laid_out (sym (read_back l))) (ltb-true clock (first_end_in (in_use (laid_out l))) d.0))) (go ll d.1)

-- nor is anything taken off the board
all_at : {A : Type 0} (t : A → Bool) (l : List A) (i : ℕ) (d : A) → all_by t l ≡ true → i < length l → t (get_or l i d) ≡ true
all_at t [] i d v p = absurd (omega arith)
all_at t (x ∷ l) zero d v p = (all_head t x l v).0
all_at t (x ∷ l) (suc i) d v p = all_at t l i d (all_head t x l v).1 (omega arith)

pub clear_idle : (clock : ℕ) (b : LeaseTable) (x : Board) → length b.tenants ≡ 8 → all_by (ends_after clock) (holdings_of b).tenants ≡ true → x ≡ cleared clock b x
unfolding cleared_to holdings_of held_sets
clear_idle clock b x e v = go 8 (omega arith)
  where
    first : (h : ℕ) → h < 8 → clock < first_end_in (in_use (tenant_at b h))
    first h p =
        ltb-true clock (first_end_in (in_use (tenant_at b h)))
        (ap (ends_after clock) (sym (held_at b h e p)) ∙ all_at (ends_after clock) (holdings_of b).tenants h no_held v (let n = length-map b.tenants held_sets in omega arith))

    go : (k : ℕ) → k ≤ 8 → x ≡ cleared_to clock b x k
    go zero p = refl
    go (suc k) p = go k (omega arith) ∙ sym (clear_none clock b x k (first k (omega arith)))
