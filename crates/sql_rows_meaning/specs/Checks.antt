-- The kind of an expression, or its first fault (this project's own). An expression's parts come before the expression itself.
-- In one CASE the tests and values are walked in the order of the text, then the tests are to be truths, then the values of one kind.
use Rattle.std.specs.Prelude.{Bool, true, false, if◌then◌else◌, List, [], ◌∷◌, ◌++◌, map, Ok, Err}
use Rattle.std.specs.List.{list_all}
use Rattle.table_meaning.specs.declared.kind.Kind.{Kind}
use Rattle.table_meaning.specs.declared.kind.Kind.TheVariants as kind
use Rattle.sql_meaning.specs.declared.expression.SqlExpr.{SqlExpr, fold-SqlExpr}
use Rattle.sql_meaning.specs.declared.expression.SqlExpr.TheOpen as o
use Rattle.sql_meaning.specs.declared.expression.SqlExpr.TheOpen.{SqlExpr-F}
use Rattle.sql_meaning.specs.declared.expression.Branch.{Branch-F}
use Rattle.sql_rows_meaning.specs.declared.fault.FaultKind.{FaultKind}
use Rattle.sql_rows_meaning.specs.declared.fault.FaultKind.TheVariants.{NoColumn, KindClash, NotTruth}
use Rattle.sql_rows_meaning.specs.Faults.{Checked, and_then, found, all_fine}
use Rattle.sql_rows_meaning.specs.Scopes.{Scope}

abbrev pub KindChecked : Type 0
KindChecked = Checked FaultKind Kind

abbrev pub same_kind : Kind → Kind → Bool
same_kind kind.Int kind.Int = true
same_kind kind.Text kind.Text = true
same_kind kind.Truth kind.Truth = true
same_kind _ _ = false

-- each is a truth
abbrev pub all_truths : List Kind → KindChecked
all_truths kinds = if list_all (same_kind kind.Truth) kinds then Ok kind.Truth else Err NotTruth

-- all are of one kind
abbrev pub one_kind : List Kind → KindChecked
one_kind [] = Err KindClash
one_kind (k ∷ kinds) = if list_all (same_kind k) kinds then Ok k else Err KindClash

-- `=` and `<` of two parts
abbrev pub compared : KindChecked → KindChecked → KindChecked
compared a b = and_then a (λ k. and_then b (λ l. if same_kind k l then Ok kind.Truth else Err KindClash))

-- the kinds of a branch's test and value
pub record BranchKinds : Type 0 where
  pub test : Kind
  pub value : Kind

abbrev pub case_kind : List BranchKinds → Kind → KindChecked
case_kind branches last =
    and_then (all_truths (map (λ (b : BranchKinds). b.test) branches)) (λ truth. one_kind (map (λ (b : BranchKinds). b.value) branches ++ last ∷ []))

abbrev pub check_step : SqlExpr-F (Scope → KindChecked) (Scope → Checked FaultKind BranchKinds) → Scope → KindChecked
check_step (o.Name alias column) s = found NoColumn (s alias column)
check_step (o.Int n) s = Ok kind.Int
check_step (o.Text text) s = Ok kind.Text
check_step (o.Truth b) s = Ok kind.Truth
check_step (o.Null k) s = Ok k
check_step (o.Equal a b) s = compared (a s) (b s)
check_step (o.Less a b) s = compared (a s) (b s)
check_step (o.All es) s = and_then (all_fine (map (λ e. e s) es)) all_truths
check_step (o.Any es) s = and_then (all_fine (map (λ e. e s) es)) all_truths
check_step (o.Not a) s = and_then (a s) (λ k. all_truths (k ∷ []))
check_step (o.IsNull a) s = and_then (a s) (λ k. Ok kind.Truth)
check_step (o.Case branches last) s = and_then (all_fine (map (λ b. b s) branches)) (λ kinds. and_then (last s) (case_kind kinds))
check_step (o.First es) s = and_then (all_fine (map (λ e. e s) es)) one_kind

abbrev pub check_branch : Branch-F (Scope → KindChecked) (Scope → Checked FaultKind BranchKinds) → Scope → Checked FaultKind BranchKinds
check_branch b s = and_then (b.test s) (λ k. and_then (b.value s) (λ l. Ok (record { test = k; value = l })))

-- the kind of an expression that may name these columns, or its first fault
abbrev pub check : SqlExpr → Scope → KindChecked
check = fold-SqlExpr (Scope → KindChecked) (Scope → Checked FaultKind BranchKinds) check_step check_branch

-- the expression is a truth
abbrev pub check_truth : SqlExpr → Scope → KindChecked
check_truth e s = and_then (check e s) (λ k. all_truths (k ∷ []))
