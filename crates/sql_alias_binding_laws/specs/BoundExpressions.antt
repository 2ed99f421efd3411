-- An expression under other aliases has the same kind or fault, over columns that are seen under these.
use Rattle.std.specs.Prelude.{◌≡◌, true, List, [], ◌∷◌, ◌++◌, map, Option, refl, Ok}
use Rattle.std.proofs.Common.{sym, ap, ap₂, ◌∙◌}
use Rattle.std.specs.List.{AllByRecursion, flat_map, list_any}
use Rattle.std.specs.Str.{bytes_eq}
use Rattle.table_meaning.specs.declared.kind.Kind.{Kind}
use Rattle.table_meaning.specs.declared.kind.Kind.TheVariants as kind
use Rattle.sql_meaning.specs.Levels.{fold_name, fold_int, fold_text, fold_truth, fold_null, fold_equal, fold_less, fold_all, fold_any, fold_not, fold_is_null, fold_case, fold_first, fold_branch}
use Rattle.sql_meaning.specs.declared.expression.SqlExpr.{SqlExpr}
use Rattle.sql_meaning.specs.declared.expression.SqlExpr.TheVariants as v
use Rattle.sql_meaning.specs.declared.expression.Branch.{Branch, fold-Branch}
use Rattle.sql_rows_meaning.specs.declared.fault.FaultKind.{FaultKind}
use Rattle.sql_rows_meaning.specs.declared.fault.FaultKind.TheVariants.{NoColumn}
use Rattle.sql_rows_meaning.specs.Faults.{Checked, and_then, found, all_fine}
use Rattle.sql_rows_meaning.specs.Scopes.{Scope}
use Rattle.sql_rows_meaning.specs.Checks.{KindChecked, BranchKinds, check, check_truth, compared, all_truths, one_kind, case_kind}
use Rattle.sql_rows_meaning.specs.CheckLaws.{branch_kinds, branch_kinds-is, check-Name, check-Int, check-Text, check-Truth, check-Null, check-Equal, check-Less, check-All, check-Any, check-Not, check-IsNull, check-Case, check-First}
use Rattle.sql_rows_laws.specs.ExpressionInduction.{OfBranch, IsPassedUp, every_expression}
use Rattle.sql_alias_laws.specs.Aliases.{Name, NewNames, alias_step, alias_branch_step, realias, realias_branch, aliases_step, branch_aliases_step, aliases}
use Rattle.sql_alias_laws.specs.RenamedValues.{Within, within-left, within-right, within-here}

abbrev at : {X : Type 0} → NewNames → (NewNames → X) → X
at f g = g f

through : {X Y : Type 0} (g : X → NewNames → Y) (f : NewNames) (xs : List X) → map (λ (h : NewNames → Y). h f) (map g xs) ≡ map (λ x. g x f) xs
through g f [] = refl
through {X} {Y} g f (x ∷ xs) = ap (λ (ys : List Y). g x f ∷ ys) (through g f xs)

flat-through : {X Y : Type 0} (g : X → List Y) (xs : List X) → flat_map (λ (l : List Y). l) (map g xs) ≡ flat_map g xs
flat-through g [] = refl
flat-through {X} {Y} g (x ∷ xs) = ap (λ (ys : List Y). g x ++ ys) (flat-through g xs)

abbrev of_branch : Branch → List Name
of_branch b = aliases b.test ++ aliases b.value

branches-are : (bs : List Branch) → flat_map (λ (l : List Name). l) (map (fold-Branch (List Name) (List Name) aliases_step branch_aliases_step) bs) ≡ flat_map of_branch bs
branches-are [] = refl
branches-are (b ∷ bs) = ap₂ (λ (x y : List Name). x ++ y) (fold_branch aliases_step branch_aliases_step b) (branches-are bs)

abbrev both_kinds : KindChecked → KindChecked → Checked FaultKind BranchKinds
both_kinds a b = and_then a (λ k. and_then b (λ l. Ok (record { test = k; value = l })))

-- under the new aliases are seen the columns that are seen under the old ones
pub record ScopesAgree (f : NewNames) (names : List Name) (scope moved : Scope) : Type 0 where
  pub same : (a c : Name) → list_any (bytes_eq a) names ≡ true → moved (f a) c ≡ scope a c

module _ {f : NewNames} {names : List Name} {scope moved : Scope} (agree : ScopesAgree f names scope moved) where
  abbrev Same : SqlExpr → Type 0
  Same e = Within (aliases e) names → check (realias e f) moved ≡ check e scope

  check-at : {x y : SqlExpr} → x ≡ y → check x moved ≡ check y moved
  check-at is = ap (λ (e : SqlExpr). check e moved) is

  inside : (e : SqlExpr) (xs : List Name) → aliases e ≡ xs → Within (aliases e) names → Within xs names
  inside e xs is w a h = w a (ap (list_any (bytes_eq a)) is ∙ h)

  all-same : (es : List SqlExpr) → Within (flat_map aliases es) names → AllByRecursion Same es → map (λ e. check e moved) (map (λ e. realias e f) es) ≡ map (λ e. check e scope) es
  all-same [] w h = refl
  all-same (e ∷ es) w h = ap₂ (λ (x : KindChecked) (xs : List KindChecked). x ∷ xs) (h.0 (within-left (aliases e) (flat_map aliases es) names w)) (all-same es (within-right (aliases e) (flat_map aliases es) names w) h.1)

  branch-same : (b : Branch) → Within (of_branch b) names → OfBranch Same b → branch_kinds (realias_branch b f) moved ≡ branch_kinds b scope
  branch-same b w h =
      ap (λ (x : Branch). branch_kinds x moved) (ap (at f) (fold_branch alias_step alias_branch_step b))
      ∙ branch_kinds-is (record { test = realias b.test f; value = realias b.value f }) moved
      ∙ ap₂ both_kinds (h.0 (within-left (aliases b.test) (aliases b.value) names w)) (h.1 (within-right (aliases b.test) (aliases b.value) names w))
      ∙ sym (branch_kinds-is b scope)

  branches-same : (bs : List Branch) → Within (flat_map of_branch bs) names → AllByRecursion (OfBranch Same) bs → map (λ b. branch_kinds b moved) (map (λ b. realias_branch b f) bs) ≡ map (λ b. branch_kinds b scope) bs
  branches-same [] w h = refl
  branches-same (b ∷ bs) w h =
      ap₂ (λ (x : Checked FaultKind BranchKinds) (xs : List (Checked FaultKind BranchKinds)). x ∷ xs) (branch-same b (within-left (of_branch b) (flat_map of_branch bs) names w) h.0)
      (branches-same bs (within-right (of_branch b) (flat_map of_branch bs) names w) h.1)

  abbrev of_case : List (Checked FaultKind BranchKinds) → KindChecked → KindChecked
  of_case branches last = and_then (all_fine branches) (λ kinds. and_then last (case_kind kinds))

  passed_up : IsPassedUp Same
  passed_up = record {
    name = λ a c w.
        check-at (ap (at f) (fold_name alias_step alias_branch_step a c)) ∙ check-Name (f a) c moved
        ∙ ap (λ (o : Option Kind). found NoColumn o) (agree.same a c (within-here a [] names (inside _ _ (fold_name aliases_step branch_aliases_step a c) w))) ∙ sym (check-Name a c scope);
    int = λ n w. check-at (ap (at f) (fold_int alias_step alias_branch_step n)) ∙ check-Int n moved ∙ sym (check-Int n scope);
    text = λ s w. check-at (ap (at f) (fold_text alias_step alias_branch_step s)) ∙ check-Text s moved ∙ sym (check-Text s scope);
    truth = λ b w. check-at (ap (at f) (fold_truth alias_step alias_branch_step b)) ∙ check-Truth b moved ∙ sym (check-Truth b scope);
    null = λ k w. check-at (ap (at f) (fold_null alias_step alias_branch_step k)) ∙ check-Null k moved ∙ sym (check-Null k scope);
    equal = λ a b h k w.
        let u = inside _ _ (fold_equal aliases_step branch_aliases_step a b) w in
        check-at (ap (at f) (fold_equal alias_step alias_branch_step a b)) ∙ check-Equal (realias a f) (realias b f) moved
        ∙ ap₂ compared (h (within-left (aliases a) (aliases b) names u)) (k (within-right (aliases a) (aliases b) names u)) ∙ sym (check-Equal a b scope);
    less = λ a b h k w.
        let u = inside _ _ (fold_less aliases_step branch_aliases_step a b) w in
        check-at (ap (at f) (fold_less alias_step alias_branch_step a b)) ∙ check-Less (realias a f) (realias b f) moved
        ∙ ap₂ compared (h (within-left (aliases a) (aliases b) names u)) (k (within-right (aliases a) (aliases b) names u)) ∙ sym (check-Less a b scope);
    all = λ es h w.
        check-at (ap (at f) (fold_all alias_step alias_branch_step es) ∙ ap v.All (through realias f es)) ∙ check-All (map (λ e. realias e f) es) moved
        ∙ ap (λ (cs : List KindChecked). and_then (all_fine cs) all_truths) (all-same es (inside _ _ (fold_all aliases_step branch_aliases_step es ∙ flat-through aliases es) w) h) ∙ sym (check-All es scope);
    any = λ es h w.
        check-at (ap (at f) (fold_any alias_step alias_branch_step es) ∙ ap v.Any (through realias f es)) ∙ check-Any (map (λ e. realias e f) es) moved
        ∙ ap (λ (cs : List KindChecked). and_then (all_fine cs) all_truths) (all-same es (inside _ _ (fold_any aliases_step branch_aliases_step es ∙ flat-through aliases es) w) h) ∙ sym (check-Any es scope);
    not = λ a h w.
        check-at (ap (at f) (fold_not alias_step alias_branch_step a)) ∙ check-Not (realias a f) moved
        ∙ ap (λ (c : KindChecked). and_then c (λ k. all_truths (k ∷ []))) (h (inside _ _ (fold_not aliases_step branch_aliases_step a) w)) ∙ sym (check-Not a scope);
    is_null = λ a h w.
        check-at (ap (at f) (fold_is_null alias_step alias_branch_step a)) ∙ check-IsNull (realias a f) moved
        ∙ ap (λ (c : KindChecked). and_then c (λ k. Ok kind.Truth)) (h (inside _ _ (fold_is_null aliases_step branch_aliases_step a) w)) ∙ sym (check-IsNull a scope);
    case = λ bs last h k w.
        let u = inside _ _ (fold_case aliases_step branch_aliases_step bs last ∙ ap (λ (l : List Name). l ++ aliases last) (branches-are bs)) w in
        check-at (ap (at f) (fold_case alias_step alias_branch_step bs last) ∙ ap (λ (cs : List Branch). v.Case cs (realias last f)) (through realias_branch f bs))
        ∙ check-Case (map (λ b. realias_branch b f) bs) (realias last f) moved
        ∙ ap₂ of_case (branches-same bs (within-left (flat_map of_branch bs) (aliases last) names u) h) (k (within-right (flat_map of_branch bs) (aliases last) names u)) ∙ sym (check-Case bs last scope);
    first = λ es h w.
        check-at (ap (at f) (fold_first alias_step alias_branch_step es) ∙ ap v.First (through realias f es)) ∙ check-First (map (λ e. realias e f) es) moved
        ∙ ap (λ (cs : List KindChecked). and_then (all_fine cs) one_kind) (all-same es (inside _ _ (fold_first aliases_step branch_aliases_step es ∙ flat-through aliases es) w) h) ∙ sym (check-First es scope);
  }

  pub expression-bound : (e : SqlExpr) → Within (aliases e) names → check (realias e f) moved ≡ check e scope
  expression-bound e = every_expression Same passed_up e

  pub truth-bound : (e : SqlExpr) → Within (aliases e) names → check_truth (realias e f) moved ≡ check_truth e scope
  truth-bound e w = ap (λ (c : KindChecked). and_then c (λ k. all_truths (k ∷ []))) (expression-bound e w)
