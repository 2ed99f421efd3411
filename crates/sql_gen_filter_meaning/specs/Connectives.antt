-- How deep an expression is, and which columns it names (this project's own).
use Rattle.std.specs.Prelude.{ℕ, suc, Bool, true, ◌&&◌, bytes_eq, List, [], ◌∷◌}
use Rattle.std.specs.List.{list_any}
use Rattle.query_meaning.specs.declared.expression.TruthExpr.{TruthExpr, fold-TruthExpr}
use Rattle.query_meaning.specs.declared.expression.TruthExpr.TheOpen as truth
use Rattle.query_meaning.specs.declared.expression.TruthExpr.TheOpen.{TruthExpr-F}
use Rattle.sql_meaning.specs.declared.expression.SqlExpr.{SqlExpr, fold-SqlExpr}
use Rattle.sql_meaning.specs.declared.expression.SqlExpr.TheOpen as o
use Rattle.sql_meaning.specs.declared.expression.SqlExpr.TheOpen.{SqlExpr-F}
use Rattle.sql_meaning.specs.declared.expression.Branch.{Branch-F}
use Rattle.sql_meaning.specs.Scripts.{largest, all_of}
use Rattle.sql_gen_step_laws.specs.Carried.{Name}
use Rattle.sql_gen_term_laws.specs.TermTable.{class_name, number_name, text_name, aux_name, term_alias}

abbrev pub connectives_step : TruthExpr-F ℕ → ℕ
connectives_step (truth.Not n) = suc n
connectives_step (truth.All ns) = suc (largest ns)
connectives_step (truth.Any ns) = suc (largest ns)
connectives_step _ = 0

-- how many of !, && and || stand inside one another
abbrev pub connectives : TruthExpr → ℕ
connectives = fold-TruthExpr ℕ connectives_step

abbrev pub is_term_column : Name → Bool
is_term_column c = list_any (bytes_eq c) (class_name ∷ number_name ∷ text_name ∷ aux_name ∷ [])

abbrev pub columns_step : List ℕ → SqlExpr-F Bool Bool → Bool
columns_step us (o.Name a c) = list_any (λ u. bytes_eq a (term_alias u)) us && is_term_column c
columns_step us (o.Int n) = true
columns_step us (o.Text s) = true
columns_step us (o.Truth b) = true
columns_step us (o.Null k) = true
columns_step us (o.Equal a b) = a && b
columns_step us (o.Less a b) = a && b
columns_step us (o.All es) = all_of (λ b. b) es
columns_step us (o.Any es) = all_of (λ b. b) es
columns_step us (o.Not a) = a
columns_step us (o.IsNull a) = a
columns_step us (o.Case bs last) = all_of (λ b. b) bs && last
columns_step us (o.First es) = all_of (λ b. b) es

abbrev pub branch_columns : Branch-F Bool Bool → Bool
branch_columns b = b.test && b.value

-- it names the columns of the terms of these variables alone
abbrev pub names_term_columns : List ℕ → SqlExpr → Bool
names_term_columns us = fold-SqlExpr Bool Bool (columns_step us) branch_columns
