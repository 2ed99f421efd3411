-- The rows of one SELECT are rows of its columns.
use Rattle.std.specs.Prelude.{◌≡◌, ℕ, zero, suc, Bool, true, false, if◌then◌else◌, List, [], ◌∷◌, map, Option, Some, None, take, drop, refl, Ok}
use Rattle.std.proofs.Common.{sym, ap, ◌∙◌, subst}
use Rattle.std.proofs.lemmas.Bool.{and_from}
use Rattle.std.specs.List.{list_any, AllByRecursion}
use Rattle.std.specs.Str.{bytes_eq}
use Rattle.bags.specs.Sort.{same_items, firsts}
use Rattle.bags.specs.BagLaws.{each-map, each-filter, each-weaker}
use Rattle.bags.specs.SortLaws.{each-sort}
use Rattle.table_meaning.specs.declared.kind.Kind.{Kind}
use Rattle.table_meaning.specs.declared.cell.Cell.{Cell}
use Rattle.table_meaning.specs.declared.schema.Column.{Column}
use Rattle.table_meaning.specs.Schemas.{column_names}
use Rattle.table_meaning.specs.Tables.{has_kind, is_row}
use Rattle.sql_meaning.specs.declared.expression.SqlExpr.{SqlExpr}
use Rattle.sql_meaning.specs.declared.script.Item.{Item}
use Rattle.sql_meaning.specs.declared.script.Core.{Core}
use Rattle.sql_rows_meaning.specs.Cells.{same_cell}
use Rattle.sql_rows_meaning.specs.Values.{Sight, is_true, value_of}
use Rattle.sql_rows_meaning.specs.Tables.{Relations}
use Rattle.sql_rows_meaning.specs.Sources.{all_joined, first_rows}
use Rattle.sql_rows_meaning.specs.Selects.{passed, key_order, item_cells, unrepeated, dropped, kept, sorted_sights, select_rows}
use Rattle.sql_rows_meaning.specs.declared.fault.FaultKind.TheVariants.{Twice, KindClash}
use Rattle.sql_rows_meaning.specs.Faults.{and_then, unless}
use Rattle.sql_rows_meaning.specs.Scopes.{Scope, Schemas, Seen}
use Rattle.sql_rows_meaning.specs.Checks.{check}
use Rattle.sql_rows_meaning.specs.Binding.{check_from, check_joins, check_items, check_like, check_where, check_keys, check_select, same_columns}
use Rattle.sql_rows_laws.specs.KindLaws.{IsInSight, went, fine-same, if_passed, value-kind}
use Rattle.sql_rows_laws.specs.SourceLaws.{AreRelationsOf, joins-in_sight, first-in_sight, unless-fine, unless-false}

abbrev pub item_names : List Item → List (List ℕ)
item_names items = map (λ (i : Item). i.name) items

-- ---- lists of which some items are kept

pub each-take : {X : Type 0} (P : X → Type 0) (n : ℕ) (xs : List X) → AllByRecursion P xs → AllByRecursion P (take n xs)
each-take P zero xs all = tt
each-take P (suc n) [] all = tt
each-take P (suc n) (x ∷ xs) all = (all.0, each-take P n xs all.1)

pub each-drop : {X : Type 0} (P : X → Type 0) (n : ℕ) (xs : List X) → AllByRecursion P xs → AllByRecursion P (drop n xs)
each-drop P zero xs all = all
each-drop P (suc n) [] all = tt
each-drop P (suc n) (x ∷ xs) all = each-drop P n xs all.1

pub each-firsts : {X : Type 0} (P : X → Type 0) (same : X → X → Bool) (seen xs : List X) → AllByRecursion P xs → AllByRecursion P (firsts same seen xs)
each-firsts P same seen [] all = tt
each-firsts P same seen (x ∷ xs) all = go (list_any (same x) seen) (each-firsts P same seen xs all.1) (each-firsts P same (x ∷ seen) xs all.1)
  where
    go : (b : Bool) → AllByRecursion P (firsts same seen xs) → AllByRecursion P (firsts same (x ∷ seen) xs) → AllByRecursion P (if b then firsts same seen xs else x ∷ firsts same (x ∷ seen) xs)
    go true here there = here
    go false here there = (all.0, there)

abbrev pub RowsOf : List Column → List (List Cell) → Type 0
RowsOf columns rows = AllByRecursion (λ row. is_row columns row ≡ true) rows

unrepeated-rows : (columns : List Column) (b : Bool) (rows : List (List Cell)) → RowsOf columns rows → RowsOf columns (unrepeated b rows)
unrepeated-rows columns true rows all = each-firsts (λ row. is_row columns row ≡ true) (same_items same_cell) [] rows all
unrepeated-rows columns false rows all = all

dropped-rows : (columns : List Column) (n : Option ℕ) (rows : List (List Cell)) → RowsOf columns rows → RowsOf columns (dropped n rows)
dropped-rows columns None rows all = all
dropped-rows columns (Some n) rows all = each-drop (λ row. is_row columns row ≡ true) n rows all

kept-rows : (columns : List Column) (n : Option ℕ) (rows : List (List Cell)) → RowsOf columns rows → RowsOf columns (kept n rows)
kept-rows columns None rows all = all
kept-rows columns (Some n) rows all = each-take (λ row. is_row columns row ≡ true) n rows all

passed-in_sight : (scope : Scope) (e : Option SqlExpr) (sights : List Sight) → AllByRecursion (IsInSight scope) sights → AllByRecursion (IsInSight scope) (passed e sights)
passed-in_sight scope None sights all = all
passed-in_sight scope (Some e) sights all = each-filter (IsInSight scope) (λ sight. is_true (value_of e sight)) sights all

-- ---- items

-- an item that is checked, and those behind it
pub record IsItem (scope : Scope) (names : List (List ℕ)) (i : Item) (items : List Item) (columns : List Column) : Type 0 where
  pub of : Kind
  pub first : check i.expr scope ≡ Ok of
  pub new : list_any (bytes_eq i.name) names ≡ false
  pub rest : List Column
  pub others : check_items scope (i.name ∷ names) items ≡ Ok rest
  pub whole : record { name = i.name; kind = of } ∷ rest ≡ columns

pub item-is : (scope : Scope) (names : List (List ℕ)) (i : Item) (items : List Item) (columns : List Column) → check_items scope names (i ∷ items) ≡ Ok columns → IsItem scope names i items columns
item-is scope names i items columns h =
    let w = went (check i.expr scope) (λ k. and_then (unless (list_any (bytes_eq i.name) names) Twice k) (λ k. and_then (check_items scope (i.name ∷ names) items) (λ columns. Ok (record { name = i.name; kind = k } ∷ columns)))) columns h in
    let v = went (unless (list_any (bytes_eq i.name) names) Twice w.what) (λ k. and_then (check_items scope (i.name ∷ names) items) (λ columns. Ok (record { name = i.name; kind = k } ∷ columns))) columns w.later in
    let same : w.what ≡ v.what = unless-fine (list_any (bytes_eq i.name) names) Twice w.what v.what v.first in
    let u = went (check_items scope (i.name ∷ names) items) (λ columns. Ok (record { name = i.name; kind = v.what } ∷ columns)) columns v.later in
    record { of = v.what; first = w.first ∙ ap Ok same; new = unless-false (list_any (bytes_eq i.name) names) Twice w.what v.what v.first; rest = u.what; others = u.first; whole = fine-same (record { name = i.name; kind = v.what } ∷ u.what) columns u.later }

items-row : (scope : Scope) (names : List (List ℕ)) (items : List Item) (columns : List Column) → check_items scope names items ≡ Ok columns → (sight : Sight) → IsInSight scope sight → is_row columns (item_cells items sight) ≡ true
items-row scope names [] columns h sight s = subst (λ (cs : List Column). is_row cs [] ≡ true) (fine-same [] columns h) refl
items-row scope names (i ∷ items) columns h sight s =
    let it = item-is scope names i items columns h in
    subst (λ (cs : List Column). is_row cs (item_cells (i ∷ items) sight) ≡ true) it.whole
    (and_from (has_kind it.of (value_of i.expr sight)) (is_row it.rest (item_cells items sight)) (value-kind i.expr scope it.of it.first sight s) (items-row scope (i.name ∷ names) items it.rest it.others sight s))

items-names : (scope : Scope) (names : List (List ℕ)) (items : List Item) (columns : List Column) → check_items scope names items ≡ Ok columns → item_names items ≡ column_names columns
items-names scope names [] columns h = ap column_names (fine-same [] columns h)
items-names scope names (i ∷ items) columns h =
    let it = item-is scope names i items columns h in
    ap (λ (ns : List (List ℕ)). i.name ∷ ns) (items-names scope (i.name ∷ names) items it.rest it.others) ∙ ap column_names it.whole

-- ---- a SELECT

-- what is seen, and the columns of the items
pub record IsSelect (schemas : Schemas) (first : Option (List Column)) (c : Core) (columns : List Column) : Type 0 where
  pub start : Seen
  pub from : check_from schemas c.from ≡ Ok start
  pub seen : Seen
  pub joins : check_joins schemas c.joins start ≡ Ok seen
  pub items : check_items seen.scope [] c.items ≡ Ok columns
  pub like : check_like first columns ≡ Ok columns

like-same : (first : Option (List Column)) (columns same : List Column) → check_like first columns ≡ Ok same → columns ≡ same
like-same None columns same h = fine-same columns same h
like-same (Some f) columns same h = (if_passed (same_columns f columns) columns same KindClash h).1

pub select-is : (schemas : Schemas) (first : Option (List Column)) (c : Core) (columns : List Column) → check_select schemas first c ≡ Ok columns → IsSelect schemas first c columns
select-is schemas first c columns h =
    let a = went (check_from schemas c.from) (λ start. and_then (check_joins schemas c.joins start) (λ seen. and_then (check_items seen.scope [] c.items) (λ columns. and_then (check_like first columns) (λ columns.
    and_then (check_where seen.scope c.condition) (λ _. and_then (check_keys seen.scope c.keys) (λ _. Ok columns)))))) columns h in
    let b = went (check_joins schemas c.joins a.what) (λ seen. and_then (check_items seen.scope [] c.items) (λ columns. and_then (check_like first columns) (λ columns.
    and_then (check_where seen.scope c.condition) (λ _. and_then (check_keys seen.scope c.keys) (λ _. Ok columns))))) columns a.later in
    let d = went (check_items b.what.scope [] c.items) (λ columns. and_then (check_like first columns) (λ columns.
    and_then (check_where b.what.scope c.condition) (λ _. and_then (check_keys b.what.scope c.keys) (λ _. Ok columns)))) columns b.later in
    let e = went (check_like first d.what) (λ columns. and_then (check_where b.what.scope c.condition) (λ _. and_then (check_keys b.what.scope c.keys) (λ _. Ok columns))) columns d.later in
    let f = went (check_where b.what.scope c.condition) (λ _. and_then (check_keys b.what.scope c.keys) (λ _. Ok e.what)) columns e.later in
    let g = went (check_keys b.what.scope c.keys) (λ _. Ok e.what) columns f.later in
    let same : d.what ≡ columns = like-same first d.what e.what e.first ∙ fine-same e.what columns g.later in
    record {
      start = a.what;
      from = a.first;
      seen = b.what;
      joins = b.first;
      items = d.first ∙ ap Ok same;
      like = ap (check_like first) (sym same) ∙ e.first ∙ ap Ok (fine-same e.what columns g.later);
    }

-- the columns have the names of the items
pub select-names : (schemas : Schemas) (first : Option (List Column)) (c : Core) (columns : List Column) → check_select schemas first c ≡ Ok columns → item_names c.items ≡ column_names columns
select-names schemas first c columns h = let s = select-is schemas first c columns h in items-names s.seen.scope [] c.items columns s.items

pub select-fits : {schemas : Schemas} {relations : Relations} → AreRelationsOf schemas relations → (first : Option (List Column)) (c : Core) (columns : List Column) → check_select schemas first c ≡ Ok columns → RowsOf columns (select_rows relations c)
select-fits {schemas} {relations} fit first c columns h =
    let s = select-is schemas first c columns h in
    let joined : AllByRecursion (IsInSight s.seen.scope) (all_joined relations c.joins (first_rows relations c.from)) =
    joins-in_sight fit c.joins s.start s.seen s.joins (first_rows relations c.from) (first-in_sight fit c.from s.start s.from) in
    let sorted : AllByRecursion (IsInSight s.seen.scope) (sorted_sights relations c) =
    each-sort (key_order c.keys) (IsInSight s.seen.scope) (passed c.condition (all_joined relations c.joins (first_rows relations c.from))) (passed-in_sight s.seen.scope c.condition (all_joined relations c.joins (first_rows relations c.from)) joined) in
    let rows : RowsOf columns (map (item_cells c.items) (sorted_sights relations c)) =
    each-map (λ row. is_row columns row ≡ true) (item_cells c.items) (sorted_sights relations c)
    (each-weaker (IsInSight s.seen.scope) (λ sight. is_row columns (item_cells c.items sight) ≡ true) (λ sight i. items-row s.seen.scope [] c.items columns s.items sight i) (sorted_sights relations c) sorted) in
    kept-rows columns c.most _ (dropped-rows columns c.skip _ (unrepeated-rows columns c.distinct _ rows))

-- a further SELECT of a union has the columns of the first
pub like-first : (schemas : Schemas) (first : List Column) (c : Core) (columns : List Column) → check_select schemas (Some first) c ≡ Ok columns → same_columns first columns ≡ true
like-first schemas first c columns h = let s = select-is schemas (Some first) c columns h in (if_passed (same_columns first columns) columns columns KindClash s.like).0
