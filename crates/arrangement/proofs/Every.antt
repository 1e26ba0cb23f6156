-- Laws: by ending the call with the order as a parameter is the library's; and to every sound book of one arrangement there is one of the other, equal but for the order. Both have one campus file.
use Prim.Native.Nat.{ℕ}
use mathlib.Core.Path.{◌≡◌, refl, sym, ap, ap₂, ◌∙◌, subst}
use mathlib.Core.Bool.{true}
use mathlib.Core.List.Permᴰ
use mathlib.Core.List.{List, [], ◌∷◌, map}
use lib.ListN.{length, length-map}
use Rattle.lists.specs.All.{all_by, pairs_by}
use Rattle.lists.specs.Arranged.{arranged}
use Rattle.lists.specs.Filter.{filter_by}
use Rattle.lists.specs.laws.All.{all_cons, all_head}
use Rattle.lists.specs.laws.Arranged.{Ordering, arranged_is, arranged_reordered, arranged_same, arranged_sorted}
use Rattle.lists.specs.laws.Both.{and_parts}
use Rattle.state.specs.declared.Lease.{Lease}
use Rattle.state.specs.declared.LeaseTable.{LeaseTable}
use Rattle.state.specs.Book.{Book, Order, by_ending, by_identifier, differ, in_use, is_hold, is_lease, laid_out, leases_of, ranges_of, scopes_of, table_of}
use Rattle.state.specs.laws.Layout.{table_back}
use Rattle.state.specs.laws.Sorted.{by_identifier_law}
use Rattle.state.proofs.Sorted.{rising}
use Rattle.soundness.specs.Sound.{compatible}
use Rattle.soundness.specs.laws.Book.{pairs_is, rises_by}
use Rattle.soundness.proofs.Lists.{lists_by}
use Rattle.release_file.specs.Section.{filed_memory}
use Rattle.format.specs.Tenants.{filed_all}
use Rattle.lease_file.specs.Records.{filed_hold, filed_holds, filed_lease, filed_leases, in_file_order}
use Rattle.state_file.specs.File.{file_format}
use Rattle.state_file.specs.Records.{filed_as, filed_book, filed_scope}
use Rattle.state_file.specs.StateFile.{octets_as, octets_of}
use Rattle.arrangement.specs.Statement.{EveryBook, NewIsTheCall, SameFile, SoundBy, arranged_book}
use Rattle.arrangement.proofs.Lists.{Same, same_symm}
use Rattle.arrangement.proofs.Decided.{own_same}
use Rattle.arrangement.proofs.Same.{book_ordered, is_twin, lists_alike, serve_ordered, sound_part, twin, twin_alike, twin_sound}

pub new_is_the_call : NewIsTheCall
unfolding NewIsTheCall
new_is_the_call = serve_ordered

same_arranged : (o : Order) (ls : List (List Lease)) → Same ls (map (arranged o) ls)
unfolding Same
same_arranged o [] = tt
same_arranged o (l ∷ ls) = (Permᴰ.symm (arranged_reordered o l), same_arranged o ls)

rises_arranged : (o : Order) → Ordering differ o → (ls : List (List Lease)) → all_by (pairs_by differ) ls ≡ true → all_by (pairs_by o) (map (arranged o) ls) ≡ true
unfolding all_by
rises_arranged o d [] h = refl
rises_arranged o d (l ∷ ls) h =
    let p = all_head (pairs_by differ) l ls h in
    all_cons (pairs_by o) (arranged o l) (map (arranged o) ls) (arranged_sorted differ o d l p.0) (rises_arranged o d ls p.1)

all_differ : (o : Order) (b : Book) → SoundBy o b → all_by (pairs_by differ) (leases_of b.table) ≡ true
all_differ o b v =
    (and_parts (all_by (pairs_by differ) (leases_of b.table)) (all_by (pairs_by compatible) (leases_of b.table))
    (sym (pairs_is (leases_of b.table)) ∙ (lists_by o b.state b.table (sound_part o b v)).pairs)).0

module _ (p o : Order) (decides : Ordering differ o) (b : Book) (v : SoundBy p b) where
  abbrev table : LeaseTable
  table = table_of (map (arranged o) (leases_of b.table))

  lists : leases_of table ≡ map (arranged o) (leases_of b.table)
  lists = table_back (map (arranged o) (leases_of b.table))

  eight : length table.tenants ≡ 8
  unfolding table_of
  eight = length-map (map (arranged o) (leases_of b.table)) laid_out ∙ length-map (leases_of b.table) (arranged o) ∙ length-map b.table.tenants in_use ∙ v.tenants

  same : Same (leases_of b.table) (leases_of table)
  same = subst (Same (leases_of b.table)) (sym lists) (same_arranged o (leases_of b.table))

  other_sound : SoundBy o (arranged_book o b)
  other_sound = twin_sound p o b table v eight (ap table_of (sym lists)) same (ap (all_by (pairs_by o)) lists ∙ rises_arranged o decides (leases_of b.table) (all_differ p b v))

pub every_book : (b : Book) → EveryBook b
every_book b = record {
  old = λ v. record {
    old = other_sound by_ending by_identifier by_identifier_law b v;
    new = v;
    alike = twin_alike b (table by_ending by_identifier by_identifier_law b v) (same_symm _ _ (same by_ending by_identifier by_identifier_law b v));
  };
  new = λ v. record {
    old = v;
    new = other_sound by_identifier by_ending rising b v;
    alike = record { state = refl; names = refl; memory = refl; records = own_same b.table (table by_identifier by_ending rising b v) (same by_identifier by_ending rising b v) };
  };
}

-- ---- the file
-- what rises by an order is the arrangement of the same ones
only : (o : Order) → Ordering differ o → (xs ys : List (List Lease)) → Same xs ys → all_by (pairs_by differ) xs ≡ true → all_by (pairs_by o) xs ≡ true → xs ≡ map (arranged o) ys
unfolding Same
only o d [] [] v h r = refl
only o d [] (y ∷ ys) v h r = absurd v
only o d (x ∷ xs) [] v h r = absurd v
only o d (x ∷ xs) (y ∷ ys) v h r =
    let p = all_head (pairs_by differ) x xs h in
    let q = all_head (pairs_by o) x xs r in
    ap₂ {C = List (List Lease)} (λ (a : List Lease) (b : List (List Lease)). a ∷ b) (sym (arranged_is differ o d x q.0) ∙ arranged_same differ o d v.0 p.0) (only o d xs ys v.1 p.1 q.1)

-- a file goes by the records in use alone
octets_by : (y : Book) (t u : LeaseTable) → leases_of t ≡ leases_of u → octets_as (twin y t) ≡ octets_as (twin y u)
unfolding octets_as filed_as filed_leases filed_holds
octets_by y t u e =
    ap {B = List ℕ} (λ (ls : List (List Lease)). file_format.write (record {
      server = y.state.server;
      clock = y.state.clock;
      tenants = ranges_of y.state;
      scopes = map (filed_scope y.state.tenant_count) (scopes_of y.state);
      leases = filed_all filed_lease 1 (map (filter_by is_lease) ls);
      names = y.names;
      releases = filed_memory y.memory;
      holds = filed_all filed_hold 1 (map (filter_by is_hold) ls);
    })) e

pub same_file : SameFile
unfolding SameFile octets_of filed_book octets_as in_file_order
same_file x y p =
    let new = book_ordered y p.new in
    let lists = lists_alike by_identifier x y p.old new p.alike in
    ap octets_as (is_twin by_identifier x y p.old new p.alike)
    ∙ octets_by y x.table (in_file_order y.table)
    (only by_identifier by_identifier_law (leases_of x.table) (leases_of y.table) lists (all_differ by_identifier x p.old) (rises_by by_identifier x.state x.table (sound_part by_identifier x p.old))
    ∙ sym (table_back (map (arranged by_identifier) (leases_of y.table))))
