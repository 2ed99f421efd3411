-- An expression under other aliases has the same value over rows that are in sight under these.
use Rattle.std.specs.Prelude.{◌≡◌, Bool, true, false, ◌||◌, List, [], ◌∷◌, ◌++◌, map, refl}
use Rattle.std.proofs.Common.{sym, ap, ap₂, ◌∙◌}
use Rattle.std.proofs.lemmas.List.Folds.{list_any-append}
use Rattle.std.specs.List.{AllByRecursion, flat_map, list_any}
use Rattle.std.specs.Str.{bytes_eq}
use Rattle.std.proofs.lemmas.Slice.Eq.{bytes_eq-Decides}
use Rattle.table_meaning.specs.declared.cell.Cell.{Cell}
use Rattle.table_meaning.specs.declared.cell.Cell.TheVariants.{Truth}
use Rattle.sql_meaning.specs.Levels.{fold_name, fold_int, fold_text, fold_truth, fold_null, fold_equal, fold_less, fold_all, fold_any, fold_not, fold_is_null, fold_case, fold_first, fold_branch}
use Rattle.sql_meaning.specs.declared.expression.SqlExpr.{SqlExpr}
use Rattle.sql_meaning.specs.declared.expression.SqlExpr.TheVariants as v
use Rattle.sql_meaning.specs.declared.expression.Branch.{Branch, fold-Branch}
use Rattle.sql_rows_meaning.specs.Cells.{is_null, equal_cells, less_cells}
use Rattle.sql_rows_meaning.specs.Values.{Sight, Tried, value_of, all_cells, any_cells, not_cell, first_true, first_cell}
use Rattle.sql_rows_meaning.specs.ValueLaws.{tried, tried-is, value_of-Name, value_of-Int, value_of-Text, value_of-Truth, value_of-Null, value_of-Equal, value_of-Less, value_of-All, value_of-Any, value_of-Not, value_of-IsNull, value_of-Case, value_of-First}
use Rattle.sql_rows_laws.specs.ExpressionInduction.{OfBranch, IsPassedUp, every_expression}
use Rattle.sql_alias_laws.specs.Aliases.{Name, NewNames, alias_step, alias_branch_step, realias, realias_branch, aliases_step, branch_aliases_step, aliases}

abbrev at : {X : Type 0} → NewNames → (NewNames → X) → X
at f g = g f

through : {X Y : Type 0} (g : X → NewNames → Y) (f : NewNames) (xs : List X) → map (λ (h : NewNames → Y). h f) (map g xs) ≡ map (λ x. g x f) xs
through g f [] = refl
through {X} {Y} g f (x ∷ xs) = ap (λ (ys : List Y). g x f ∷ ys) (through g f xs)

flat-through : {X Y : Type 0} (g : X → List Y) (xs : List X) → flat_map (λ (l : List Y). l) (map g xs) ≡ flat_map g xs
flat-through g [] = refl
flat-through {X} {Y} g (x ∷ xs) = ap (λ (ys : List Y). g x ++ ys) (flat-through g xs)

-- what lists of names hold
abbrev pub Within : List Name → List Name → Type 0
Within some names = (a : Name) → list_any (bytes_eq a) some ≡ true → list_any (bytes_eq a) names ≡ true

or-left : (a b : Bool) → a ≡ true → (a || b) ≡ true
or-left true b h = refl
or-left false b h = cc

or-right : (a b : Bool) → b ≡ true → (a || b) ≡ true
or-right true b h = refl
or-right false b h = h

pub within-left : (xs ys names : List Name) → Within (xs ++ ys) names → Within xs names
within-left xs ys names w a h = w a (list_any-append (bytes_eq a) xs ys ∙ or-left (list_any (bytes_eq a) xs) (list_any (bytes_eq a) ys) h)

pub within-right : (xs ys names : List Name) → Within (xs ++ ys) names → Within ys names
within-right xs ys names w a h = w a (list_any-append (bytes_eq a) xs ys ∙ or-right (list_any (bytes_eq a) xs) (list_any (bytes_eq a) ys) h)

same-name : (a : Name) → bytes_eq a a ≡ true
same-name a = (bytes_eq-Decides a a).1 refl

pub within-here : (a : Name) (xs names : List Name) → Within (a ∷ xs) names → list_any (bytes_eq a) names ≡ true
within-here a xs names w = w a (or-left (bytes_eq a a) (list_any (bytes_eq a) xs) (same-name a))

-- under the new aliases stands what stands under the old ones
pub record Agree (f : NewNames) (names : List Name) (sight moved : Sight) : Type 0 where
  pub same : (a c : Name) → list_any (bytes_eq a) names ≡ true → moved (f a) c ≡ sight a c

module _ {f : NewNames} {names : List Name} {sight moved : Sight} (agree : Agree f names sight moved) where
  abbrev Same : SqlExpr → Type 0
  Same e = Within (aliases e) names → value_of (realias e f) moved ≡ value_of e sight

  value-at : {x y : SqlExpr} → x ≡ y → value_of x moved ≡ value_of y moved
  value-at is = ap (λ (e : SqlExpr). value_of e moved) is

  inside : (e : SqlExpr) (xs : List Name) → aliases e ≡ xs → Within (aliases e) names → Within xs names
  inside e xs is w a h = w a (ap (list_any (bytes_eq a)) is ∙ h)

  all-same : (es : List SqlExpr) → Within (flat_map aliases es) names → AllByRecursion Same es → map (λ e. value_of e moved) (map (λ e. realias e f) es) ≡ map (λ e. value_of e sight) es
  all-same [] w h = refl
  all-same (e ∷ es) w h = ap₂ (λ (x : Cell) (xs : List Cell). x ∷ xs) (h.0 (within-left (aliases e) (flat_map aliases es) names w)) (all-same es (within-right (aliases e) (flat_map aliases es) names w) h.1)

  abbrev of_branch : Branch → List Name
  of_branch b = aliases b.test ++ aliases b.value

  tried-same : (b : Branch) → Within (of_branch b) names → OfBranch Same b → tried (realias_branch b f) moved ≡ tried b sight
  tried-same b w h =
      let t = h.0 (within-left (aliases b.test) (aliases b.value) names w) in
      let u = h.1 (within-right (aliases b.test) (aliases b.value) names w) in
      let pair : record { test = value_of (realias b.test f) moved; value = value_of (realias b.value f) moved } ≡ record { test = value_of b.test sight; value = value_of b.value sight } = λ i. record { test = t i; value = u i } in
      ap (λ (x : Branch). tried x moved) (ap (at f) (fold_branch alias_step alias_branch_step b)) ∙ tried-is (record { test = realias b.test f; value = realias b.value f }) moved ∙ pair ∙ sym (tried-is b sight)

  tries-same : (bs : List Branch) → Within (flat_map of_branch bs) names → AllByRecursion (OfBranch Same) bs → map (λ b. tried b moved) (map (λ b. realias_branch b f) bs) ≡ map (λ b. tried b sight) bs
  tries-same [] w h = refl
  tries-same (b ∷ bs) w h = ap₂ (λ (x : Tried) (xs : List Tried). x ∷ xs) (tried-same b (within-left (of_branch b) (flat_map of_branch bs) names w) h.0) (tries-same bs (within-right (of_branch b) (flat_map of_branch bs) names w) h.1)

  branches-are : (bs : List Branch) → flat_map (λ (l : List Name). l) (map (fold-Branch (List Name) (List Name) aliases_step branch_aliases_step) bs) ≡ flat_map of_branch bs
  branches-are [] = refl
  branches-are (b ∷ bs) = ap₂ (λ (x y : List Name). x ++ y) (fold_branch aliases_step branch_aliases_step b) (branches-are bs)

  passed_up : IsPassedUp Same
  passed_up = record {
    name = λ a c w. value-at (ap (at f) (fold_name alias_step alias_branch_step a c)) ∙ value_of-Name (f a) c moved ∙ agree.same a c (within-here a [] names (inside _ _ (fold_name aliases_step branch_aliases_step a c) w)) ∙ sym (value_of-Name a c sight);
    int = λ n w. value-at (ap (at f) (fold_int alias_step alias_branch_step n)) ∙ value_of-Int n moved ∙ sym (value_of-Int n sight);
    text = λ s w. value-at (ap (at f) (fold_text alias_step alias_branch_step s)) ∙ value_of-Text s moved ∙ sym (value_of-Text s sight);
    truth = λ b w. value-at (ap (at f) (fold_truth alias_step alias_branch_step b)) ∙ value_of-Truth b moved ∙ sym (value_of-Truth b sight);
    null = λ k w. value-at (ap (at f) (fold_null alias_step alias_branch_step k)) ∙ value_of-Null k moved ∙ sym (value_of-Null k sight);
    equal = λ a b h k w.
        let u = inside _ _ (fold_equal aliases_step branch_aliases_step a b) w in
        value-at (ap (at f) (fold_equal alias_step alias_branch_step a b)) ∙ value_of-Equal (realias a f) (realias b f) moved ∙ ap₂ equal_cells (h (within-left (aliases a) (aliases b) names u)) (k (within-right (aliases a) (aliases b) names u)) ∙ sym (value_of-Equal a b sight);
    less = λ a b h k w.
        let u = inside _ _ (fold_less aliases_step branch_aliases_step a b) w in
        value-at (ap (at f) (fold_less alias_step alias_branch_step a b)) ∙ value_of-Less (realias a f) (realias b f) moved ∙ ap₂ less_cells (h (within-left (aliases a) (aliases b) names u)) (k (within-right (aliases a) (aliases b) names u)) ∙ sym (value_of-Less a b sight);
    all = λ es h w.
        value-at (ap (at f) (fold_all alias_step alias_branch_step es) ∙ ap v.All (through realias f es)) ∙ value_of-All (map (λ e. realias e f) es) moved
        ∙ ap all_cells (all-same es (inside _ _ (fold_all aliases_step branch_aliases_step es ∙ flat-through aliases es) w) h) ∙ sym (value_of-All es sight);
    any = λ es h w.
        value-at (ap (at f) (fold_any alias_step alias_branch_step es) ∙ ap v.Any (through realias f es)) ∙ value_of-Any (map (λ e. realias e f) es) moved
        ∙ ap any_cells (all-same es (inside _ _ (fold_any aliases_step branch_aliases_step es ∙ flat-through aliases es) w) h) ∙ sym (value_of-Any es sight);
    not = λ a h w. value-at (ap (at f) (fold_not alias_step alias_branch_step a)) ∙ value_of-Not (realias a f) moved ∙ ap not_cell (h (inside _ _ (fold_not aliases_step branch_aliases_step a) w)) ∙ sym (value_of-Not a sight);
    is_null = λ a h w.
        value-at (ap (at f) (fold_is_null alias_step alias_branch_step a)) ∙ value_of-IsNull (realias a f) moved ∙ ap (λ (c : Cell). Truth (is_null c)) (h (inside _ _ (fold_is_null aliases_step branch_aliases_step a) w)) ∙ sym (value_of-IsNull a sight);
    case = λ bs last h k w.
        let u = inside _ _ (fold_case aliases_step branch_aliases_step bs last ∙ ap (λ (l : List Name). l ++ aliases last) (branches-are bs)) w in
        value-at (ap (at f) (fold_case alias_step alias_branch_step bs last) ∙ ap (λ (cs : List Branch). v.Case cs (realias last f)) (through realias_branch f bs))
        ∙ value_of-Case (map (λ b. realias_branch b f) bs) (realias last f) moved
        ∙ ap₂ first_true (tries-same bs (within-left (flat_map of_branch bs) (aliases last) names u) h) (k (within-right (flat_map of_branch bs) (aliases last) names u)) ∙ sym (value_of-Case bs last sight);
    first = λ es h w.
        value-at (ap (at f) (fold_first alias_step alias_branch_step es) ∙ ap v.First (through realias f es)) ∙ value_of-First (map (λ e. realias e f) es) moved
        ∙ ap first_cell (all-same es (inside _ _ (fold_first aliases_step branch_aliases_step es ∙ flat-through aliases es) w) h) ∙ sym (value_of-First es sight);
  }

  pub value-renamed : (e : SqlExpr) → Within (aliases e) names → value_of (realias e f) moved ≡ value_of e sight
  value-renamed e = every_expression Same passed_up e
