-- The two steps of an optional join with a condition.
use Rattle.std.specs.Prelude.{◌≡◌, ℕ, ◌+◌, ◌/◌, ◌%◌, Bool, true, false, if◌then◌else◌, List, [], ◌∷◌, ◌++◌, map, Some, None}
use Rattle.std.specs.List.{AllByRecursion}
use Rattle.rdf_meaning.specs.Terms.{RdfTerm}
use Rattle.bags.specs.Bag.{SameBag}
use Rattle.table_meaning.specs.declared.cell.Cell.{Cell}
use Rattle.sql_meaning.specs.declared.script.Item.{Item}
use Rattle.sql_meaning.specs.declared.script.Core.{Core}
use Rattle.sql_meaning.specs.declared.script.Body.{Body}
use Rattle.sql_meaning.specs.declared.expression.SqlExpr.{SqlExpr}
use Rattle.sql_rows_meaning.specs.Tables.{Relation}
use Rattle.sql_gen_step_laws.specs.Carried.{Name, column, one, Ids, id_cell, carry, Over}
use Rattle.sql_gen_step_laws.specs.StepSelects.{left_alias, right_alias, cell_of, every, has, shared_sql, shared, merged_sql, one_item, variable_item, both, own_sql, project_core}
use Rattle.sql_gen_term_laws.specs.TermTable.{number_test, no_test, term_joins}
use Rattle.query_eval_meaning.specs.Matches.{Match}
use Rattle.sql_meaning.specs.declared.expression.SqlExpr.TheVariants as sql

-- the column of a variable of the left side: w and two digits
unfoldable pub kept : ℕ → Name
kept v = 119 ∷ (48 + v / 10) ∷ (48 + v % 10) ∷ []

-- the row of the number that either side has for a variable, or none where neither has a column for it
abbrev pub either_test : List ℕ → List ℕ → ℕ → SqlExpr
either_test vs ws v = if has vs v then number_test (merged_sql vs ws) v else if has ws v then number_test (merged_sql vs ws) v else no_test v

abbrev pub kept_item : ℕ → Item
kept_item v = record { expr = cell_of left_alias v; name = kept v }

-- the pairs that fit and of which the condition is true: what both bind, and beside it what the left side binds
abbrev pub matches_core : Name → Name → Name → List ℕ → List ℕ → List ℕ → List ℕ → SqlExpr → Core
matches_core a b terms vs ws us certain condition = record {
  distinct = false;
  items = one_item ∷ map (variable_item (merged_sql vs ws)) (both vs ws) ++ map kept_item vs;
  from = Some (record { table = a; alias = left_alias });
  joins = record { left = false; source = record { table = b; alias = right_alias }; on = every (map (shared_sql certain) (shared vs ws)) } ∷ term_joins terms (either_test vs ws) us;
  condition = Some condition;
  keys = [];
  most = None;
  skip = None;
}

-- equal, or unbound on both sides
abbrev pub kept_sql : List ℕ → ℕ → SqlExpr
kept_sql certain v =
    let mine = cell_of left_alias v in
    let its = sql.Name right_alias (kept v) in
    if has certain v then sql.Equal its mine else sql.Any (sql.Equal its mine ∷ sql.All (sql.IsNull its ∷ sql.IsNull mine ∷ []) ∷ [])

-- the rows of the left side of which no match came
abbrev pub unmatched_core : Name → Name → List ℕ → List ℕ → List ℕ → Core
unmatched_core a m vs ws certain = record {
  distinct = false;
  items = one_item ∷ map (variable_item (own_sql vs)) (both vs ws);
  from = Some (record { table = a; alias = left_alias });
  joins = record { left = true; source = record { table = m; alias = right_alias }; on = every (map (kept_sql certain) vs) } ∷ [];
  condition = Some (sql.IsNull (sql.Name right_alias one));
  keys = [];
  most = None;
  skip = None;
}

abbrev pub optional_body : Name → Name → List ℕ → List ℕ → List ℕ → Body
optional_body a m vs ws certain = record { cores = project_core m (both vs ws) (both vs ws) ∷ unmatched_core a m vs ws certain ∷ [] }

abbrev pub match_columns : List ℕ → List ℕ → List Name
match_columns vs us = one ∷ map column us ++ map kept vs

abbrev pub match_cells : Ids → List ℕ → List ℕ → Match → List Cell
match_cells ids vs us q = carry ids us q.merged ++ map (λ v. id_cell ids (q.left v)) vs

-- both parts of a match bind their own variables alone
pub record OverBoth (vs us : List ℕ) (known : RdfTerm → Bool) (q : Match) : Type 0 where
  pub left : Over vs known q.left
  pub merged : Over us known q.merged

-- a table stands for matches
pub record Matches (ids : Ids) (known : RdfTerm → Bool) (vs us : List ℕ) (qs : List Match) (t : Relation) : Type 0 where
  pub columns : t.columns ≡ match_columns vs us
  pub rows : SameBag t.rows (map (match_cells ids vs us) qs)
  pub fits : AllByRecursion (OverBoth vs us known) qs
