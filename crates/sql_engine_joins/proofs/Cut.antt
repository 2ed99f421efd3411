-- All joins and WHERE, row by row of FROM.
use Rattle.std.proofs.Common.{◌≡◌, ℕ, suc, ◌+◌, List, [], ◌∷◌, ◌++◌, map, length, Option, Some, None, refl, sym, ap, ◌∙◌, arith}
use Rattle.std.specs.List.{flat_map, range_with_len}
use Rattle.std.proofs.lemmas.Grind.{flat_map-append}
use Rattle.std.proofs.lemmas.List.{length-map}
use Rattle.std.proofs.lemmas.List.Elements.{filter-append}
use Rattle.table_meaning.specs.declared.cell.Cell.{Cell}
use Rattle.sql_rows_meaning.specs.Values.{is_true}
use Rattle.sql_bind_meaning.specs.declared.expression.BoundExpr.{BoundExpr}
use Rattle.sql_bind_meaning.specs.declared.script.BoundCore.{BoundCore}
use Rattle.sql_bind_meaning.specs.declared.script.BoundJoin.{BoundJoin}
use Rattle.sql_bind_meaning.specs.Values.{Picked, bound_value}
use Rattle.sql_bind_meaning.specs.Sources.{relation_rows, bound_joined_to, bound_all_joined, bound_first_rows}
use Rattle.sql_bind_meaning.specs.Selects.{bound_passed, bound_sources}
use Rattle.sql_engine_values.specs.Places.{SourceList, picked, rows_at, join_numbers}
use Rattle.sql_engine_joins.specs.Rows.{PickedList, all_picked}
use Rattle.sql_engine_joins.specs.Runs.{one_number, first_at, row_gives, IsRun}
use Rattle.sql_engine_joins.proofs.Added.{each_row}

module _ (relations : List (List (List Cell))) where
  joined-append : (joins : List BoundJoin) (xs ys : List Picked) → bound_all_joined relations joins (xs ++ ys) ≡ bound_all_joined relations joins xs ++ bound_all_joined relations joins ys
  joined-append [] xs ys = refl
  joined-append (j ∷ joins) xs ys =
      ap (bound_all_joined relations joins) (flat_map-append (bound_joined_to relations j) xs ys) ∙ joined-append joins (flat_map (bound_joined_to relations j) xs) (flat_map (bound_joined_to relations j) ys)

  joined-none : (joins : List BoundJoin) → bound_all_joined relations joins [] ≡ []
  joined-none [] = refl
  joined-none (j ∷ joins) = joined-none joins

  passed-append : (condition : Option BoundExpr) (xs ys : List Picked) → bound_passed condition (xs ++ ys) ≡ bound_passed condition xs ++ bound_passed condition ys
  passed-append None xs ys = refl
  passed-append (Some e) xs ys = filter-append (λ (p : Picked). is_true (bound_value e p)) xs ys

  passed-none : (condition : Option BoundExpr) → bound_passed condition [] ≡ []
  passed-none None = refl
  passed-none (Some e) = refl

  -- the joins and WHERE of some rows of FROM
  each_row_gives : (c : BoundCore) (relation : ℕ) (rows : List ℕ)
      → bound_passed c.condition (bound_all_joined relations c.joins (map (first_at relations relation) rows)) ≡ flat_map (row_gives relations c relation) rows
  each_row_gives c relation [] = ap (bound_passed c.condition) (joined-none c.joins) ∙ passed-none c.condition
  each_row_gives c relation (row ∷ rows) =
      ap (bound_passed c.condition) (joined-append c.joins (first_at relations relation row ∷ []) (map (first_at relations relation) rows))
      ∙ passed-append c.condition (bound_all_joined relations c.joins (first_at relations relation row ∷ [])) (bound_all_joined relations c.joins (map (first_at relations relation) rows))
      ∙ ap (λ (ps : List Picked). row_gives relations c relation row ++ ps) (each_row_gives c relation rows)

-- what the sources and WHERE give, row by row of FROM
pub all_rows : (relations : List (List (List Cell))) (c : BoundCore) (relation : ℕ) → c.from ≡ Some relation
    → flat_map (row_gives relations c relation) (range_with_len 0 (length (relation_rows relations relation))) ≡ bound_passed c.condition (bound_sources relations c)
all_rows relations c relation from =
    sym (each_row_gives relations c relation (range_with_len 0 (length (relation_rows relations relation))))
    ∙ ap (λ (ps : List Picked). bound_passed c.condition (bound_all_joined relations c.joins ps)) (each_row (relation_rows relations relation) [])
    ∙ ap (λ (o : Option ℕ). bound_passed c.condition (bound_all_joined relations c.joins (bound_first_rows relations o))) (sym from)

first_picked : (s : SourceList) (relation : ℕ) (others rows : List ℕ) → s.numbers ≡ relation ∷ others → map (picked s) (map one_number rows) ≡ map (first_at s.relations relation) rows
first_picked s relation others [] is = refl
first_picked s relation others (row ∷ rows) is = λ i. rows_at s.relations (is i) (row ∷ []) ∷ first_picked s relation others rows is i

-- what the joins and WHERE give for a run
pub run_is : (s : SourceList) (c : BoundCore) (relation start count : ℕ) (first joined rows : PickedList) → s.numbers ≡ relation ∷ join_numbers c.joins
    → first ≡ record { width = 1; rows = map one_number (range_with_len start count) } → joined.width ≡ first.width + length c.joins → all_picked s joined ≡ bound_all_joined s.relations c.joins (all_picked s first)
    → rows.width ≡ joined.width → all_picked s rows ≡ bound_passed c.condition (all_picked s joined) → IsRun s c relation start count rows
run_is s c relation start count first joined rows sources is w j w' p =
    let one : first.width ≡ 1 = ap (λ (l : PickedList). l.width) is in
    let all : length s.numbers ≡ suc (length (join_numbers c.joins)) = ap length sources in (
      omega (arith, w, w', one, all, length-map c.joins (λ (k : BoundJoin). k.relation)),
      p ∙ ap (bound_passed c.condition) (j ∙ ap (bound_all_joined s.relations c.joins) (ap (all_picked s) is ∙ first_picked s relation (join_numbers c.joins) (range_with_len start count) sources))
          ∙ each_row_gives s.relations c relation (range_with_len start count),
    )
