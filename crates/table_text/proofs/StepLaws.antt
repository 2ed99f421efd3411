-- What a further line makes of the tables.
use Rattle.std.proofs.Common.{◌≡◌, ◌⊎◌, inl, inr, ℕ, true, false, not, ◌&&◌, List, [], ◌∷◌, ◌++◌, map, refl, sym, ap, ◌∙◌}
use Rattle.std.specs.Prelude.{Option, Some, None}
use Rattle.std.specs.List.{list_any, list_all}
use Rattle.std.specs.Str.{bytes_eq}
use Rattle.std.specs.Cmp.{first_so, second_so}
use Rattle.std.proofs.lemmas.Bool.{cases_Bool, both_ways}
use Rattle.std.proofs.lemmas.List.{map-append}
use Rattle.std.proofs.lemmas.List.Folds.{list_all-append}
use Rattle.table_meaning.specs.declared.schema.Column.{Column}
use Rattle.table_meaning.specs.Schemas.{are_distinct}
use Rattle.table_meaning.specs.Tables.{NamedTable, table_name, has_table, is_table, is_table_set}
use Rattle.table_meaning.specs.TableLaws.{any_name}
use Rattle.table_text.specs.Reading.{with_head}
use Rattle.table_text.proofs.NameLaws.{repeated}

pub head_taken : (tables : List NamedTable) (name : List ℕ) (columns : List Column) (head : Option (List ℕ × List Column)) (names : List (List ℕ)) → Some (name, columns) ≡ head
    → names ≡ map table_name tables → list_any (bytes_eq name) names ≡ true → with_head tables head ≡ None
head_taken tables name columns head names is same taken =
    let there : has_table tables name ≡ true = sym (any_name tables name) ∙ ap (list_any (bytes_eq name)) (sym same) ∙ taken in
    rw (← is, there) refl

pub head_new : (tables : List NamedTable) (name : List ℕ) (columns : List Column) (head : Option (List ℕ × List Column)) (names : List (List ℕ)) → Some (name, columns) ≡ head
    → names ≡ map table_name tables → list_any (bytes_eq name) names ≡ false → with_head tables head ≡ Some (tables ++ record { name = name; schema = columns; rows = [] } ∷ [])
head_new tables name columns head names is same new =
    let fresh : has_table tables name ≡ false = sym (any_name tables name) ∙ ap (list_any (bytes_eq name)) (sym same) ∙ new in
    rw (← is, fresh) refl

-- a table of a set has a name that none before it has
pub table_within : (front rest : List NamedTable) (table : NamedTable) (all : List NamedTable) → front ++ table ∷ rest ≡ all → is_table_set all ≡ true
    → (not (has_table front table.name) ≡ true) × (is_table table ≡ true)
table_within front rest table all is set =
    let set' : is_table_set (front ++ table ∷ rest) ≡ true = rw is set in
    let names : are_distinct (map table_name front ++ table.name ∷ map table_name rest) ≡ true = ap are_distinct (sym (map-append table_name front (table ∷ rest))) ∙ first_so _ _ set' in
    let all_fit : list_all is_table (front ++ table ∷ rest) ≡ true = second_so (are_distinct (map table_name (front ++ table ∷ rest))) _ set' in
    let fits : (list_all is_table front && (is_table table && list_all is_table rest)) ≡ true = sym (list_all-append is_table front (table ∷ rest)) ∙ all_fit in
    (by names (cases_Bool (has_table front table.name)), first_so _ _ (second_so (list_all is_table front) _ fits))
  where
    by : are_distinct (map table_name front ++ table.name ∷ map table_name rest) ≡ true → (has_table front table.name ≡ true) ⊎ (has_table front table.name ≡ false) → not (has_table front table.name) ≡ true
    by names (inl there) = absurd (both_ways _ (repeated (map table_name front) (map table_name rest) table.name (any_name front table.name ∙ there)) names)
    by names (inr fresh) = rw fresh refl
