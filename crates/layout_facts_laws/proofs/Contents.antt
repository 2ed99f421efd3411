-- Tables have one contents.
use Rattle.std.proofs.Common.{◌≡◌, ℕ, zero, suc, ◌+◌, ◌≤◌, ◌==◌, Bool, true, false, cond, if◌then◌else◌, List, [], ◌∷◌, map, Some, refl, sym, ap, ◌∙◌, arith, subst}
use Rattle.std.specs.Ordering.{nat_cmp}
use Rattle.std.specs.BTreeMap.{is_at}
use Rattle.std.specs.Map.{lookup}
use Rattle.std.specs.List.{flat_map}
use Rattle.bags.specs.Bag.{total, SameBag}
use Rattle.bags.specs.BagLaws.{same-sym, same-trans, total-append, total-map, total-cond}
use Rattle.rdf_meaning.specs.Terms.{RdfTriple}
use Rattle.table_meaning.specs.declared.cell.Cell.{Cell}
use Rattle.table_meaning.specs.Tables.{NamedTable}
use Rattle.layout_meaning.specs.Side.{ValueLists, or_empty, elements_of}
use Rattle.layout_meaning.specs.Sound.{one_if, numbered}
use Rattle.layout_meaning.proofs.Maps.{at_true, at_itself}
use Rattle.layout_standing_meaning.specs.Schemas.{LayoutOf, FiveRows, five_tables}
use Rattle.layout_standing_meaning.specs.Contents.{SideContents, Contents, rows_said, row_cells, element_cells, term_cells}
use Rattle.layout_standing_meaning.specs.Standing.{AreTables, Says}
use Rattle.layout_facts_laws.specs.Alike.{AreAlike, SayAlike}
use Rattle.layout_facts_laws.proofs.Cells.{undone, entry_in, entry-back, row_in, row-back, numbered_elements, elements-undone}

-- the rows of the table at a place
abbrev rows_at : ℕ → List NamedTable → List (List Cell)
rows_at n [] = []
rows_at zero (t ∷ ts) = t.rows
rows_at (suc n) (t ∷ ts) = rows_at n ts

-- the rows of five tables, each in whatever order
record SameRows (r q : FiveRows) : Type 0 where
  direct : SameBag r.direct q.direct
  direct_lists : SameBag r.direct_lists q.direct_lists
  reverse : SameBag r.reverse q.reverse
  reverse_lists : SameBag r.reverse_lists q.reverse_lists
  terms : SameBag r.terms q.terms

through : {X : Type 0} (a b c d : List X) → SameBag a b → a ≡ c → SameBag c d → SameBag b d
through {X} a b c d x e y = same-trans (same-sym x) (subst (λ (l : List X). SameBag l d) (sym e) y)

same_rows : (layout : LayoutOf) (c d : Contents) (tables : List NamedTable) → AreTables layout c tables → AreTables layout d tables → SameRows (rows_said c) (rows_said d)
same_rows layout c d tables x y = record {
  direct = through x.rows.direct (rows_said c).direct y.rows.direct (rows_said d).direct x.direct (ap (rows_at 0) e) y.direct;
  direct_lists = through x.rows.direct_lists (rows_said c).direct_lists y.rows.direct_lists (rows_said d).direct_lists x.direct_lists (ap (rows_at 1) e) y.direct_lists;
  reverse = through x.rows.reverse (rows_said c).reverse y.rows.reverse (rows_said d).reverse x.reverse (ap (rows_at 2) e) y.reverse;
  reverse_lists = through x.rows.reverse_lists (rows_said c).reverse_lists y.rows.reverse_lists (rows_said d).reverse_lists x.reverse_lists (ap (rows_at 3) e) y.reverse_lists;
  terms = through x.rows.terms (rows_said c).terms y.rows.terms (rows_said d).terms x.terms (ap (rows_at 4) e) y.terms;
}
  where
    e : five_tables layout x.rows ≡ five_tables layout y.rows
    e = sym x.five ∙ y.five

-- ---- the elements of one list

abbrev of_list : ℕ → (ℕ → ℕ) → ℕ × ℕ → ℕ
of_list n g e = cond (e.0 == n) (g e.1) 0

list-sum : (n m : ℕ) (g : ℕ → ℕ) (vs : List ℕ) → total (of_list n g) (map (λ (v : ℕ). (m, v)) vs) ≡ cond (m == n) (total g vs) 0
list-sum n m g vs = total-map (of_list n g) (λ (v : ℕ). (m, v)) vs ∙ total-cond (m == n) g vs

lists-sum : (n : ℕ) (g : ℕ → ℕ) (l : ℕ × List ℕ) (lists : ValueLists) → total (of_list n g) (numbered_elements (l ∷ lists)) ≡ cond (l.0 == n) (total g l.1) 0 + total (of_list n g) (numbered_elements lists)
lists-sum n g l lists =
    total-append (of_list n g) (map (λ (v : ℕ). (l.0, v)) l.1) (numbered_elements lists)
    ∙ ap (λ (k : ℕ). k + total (of_list n g) (numbered_elements lists)) (list-sum n l.0 g l.1)

none-listed : (n : ℕ) (g : ℕ → ℕ) (lists : ValueLists) → numbered n lists ≡ 0 → total (of_list n g) (numbered_elements lists) ≡ 0
none-listed n g [] z = refl
none-listed n g (l ∷ lists) z = lists-sum n g l lists ∙ by (l.0 == n) z (none-listed n g lists)
  where
    by : (b : Bool) → one_if b + numbered n lists ≡ 0 → (numbered n lists ≡ 0 → total (of_list n g) (numbered_elements lists) ≡ 0) → cond b (total g l.1) 0 + total (of_list n g) (numbered_elements lists) ≡ 0
    by true z ih = absurd (omega arith)
    by false z ih = let k = ih (omega arith) in omega arith

elements-sum : (n : ℕ) (g : ℕ → ℕ) (lists : ValueLists) → numbered n lists ≤ 1 → total g (elements_of lists n) ≡ total (of_list n g) (numbered_elements lists)
elements-sum n g [] once = refl
elements-sum n g (l ∷ lists) once = by (is_at (nat_cmp n) l.0) refl (l.0 == n) refl once (elements-sum n g lists) ∙ sym (lists-sum n g l lists)
  where
    by : (a : Bool) → is_at (nat_cmp n) l.0 ≡ a → (b : Bool) → (l.0 == n) ≡ b → one_if b + numbered n lists ≤ 1 → (numbered n lists ≤ 1 → total g (elements_of lists n) ≡ total (of_list n g) (numbered_elements lists))
        → total g (or_empty (if a then Some l.1 else lookup (is_at (nat_cmp n)) lists)) ≡ cond b (total g l.1) 0 + total (of_list n g) (numbered_elements lists)
    by true s true t once ih = let k = none-listed n g lists (omega arith) in omega arith
    by true s false t once ih = let k : l.0 ≡ n = at_true n l.0 s in let q : (l.0 == n) ≡ true = grind arith in cc
    by false s true t once ih = let k : l.0 ≡ n = grind arith in let q : is_at (nat_cmp n) l.0 ≡ true = rw k (at_itself n) in cc
    by false s false t once ih = let k = ih (omega arith) in omega arith

alike : (s t : SideContents) → SameBag (map row_cells s.rows) (map row_cells t.rows) → SameBag (flat_map element_cells s.lists) (flat_map element_cells t.lists)
    → ((n : ℕ) → numbered n s.lists ≤ 1) → ((n : ℕ) → numbered n t.lists ≤ 1) → AreAlike s t
alike s t rows elements once_s once_t = record {
  rows = undone row_cells row_in row-back s.rows t.rows rows;
  elements = λ (n : ℕ). record {
    totals = λ (g : ℕ → ℕ).
        elements-sum n g s.lists (once_s n)
        ∙ (elements-undone s.lists t.lists elements).totals (of_list n g)
        ∙ sym (elements-sum n g t.lists (once_t n));
  };
}

pub one_contents : (layout : LayoutOf) (tables : List NamedTable) (c d : Contents) (g h : List RdfTriple) → AreTables layout c tables → AreTables layout d tables → Says layout c g → Says layout d h → SayAlike c d
one_contents layout tables c d g h x y a b =
    let rows = same_rows layout c d tables x y in
    record {
      terms = undone term_cells entry_in entry-back c.terms d.terms rows.terms;
      direct = alike c.direct d.direct rows.direct rows.direct_lists a.direct_side.lists_once b.direct_side.lists_once;
      reverse = alike c.reverse d.reverse rows.reverse rows.reverse_lists a.reverse_side.lists_once b.reverse_side.lists_once;
    }
