-- The value of an expression has the kind that its check finds.
use Rattle.std.specs.Prelude.{◌≡◌, ℕ, Bool, true, false, if◌then◌else◌, ◌||◌, List, [], ◌∷◌, ◌++◌, map, Option, Some, None, refl, Ok, Err}
use Rattle.std.proofs.Common.{sym, ap, ◌∙◌, subst}
use Rattle.std.proofs.lemmas.Bool.{and_parts}
use Rattle.std.specs.List.{list_all, AllByRecursion}
use Rattle.table_meaning.specs.declared.kind.Kind.{Kind}
use Rattle.table_meaning.specs.declared.kind.Kind.TheVariants as kind
use Rattle.table_meaning.specs.declared.cell.Cell.{Cell}
use Rattle.table_meaning.specs.declared.cell.Cell.TheVariants.{Null, Int, Text, Truth}
use Rattle.table_meaning.specs.Tables.{has_kind}
use Rattle.sql_meaning.specs.declared.expression.SqlExpr.{SqlExpr}
use Rattle.sql_meaning.specs.declared.expression.SqlExpr.TheVariants as sql
use Rattle.sql_meaning.specs.declared.expression.Branch.{Branch}
use Rattle.sql_rows_meaning.specs.Cells.{is_null, unless_null}
use Rattle.sql_rows_meaning.specs.Values.{Sight, Tried, value_of, is_true, not_cell, and_cells, all_cells, or_cells, any_cells, first_cell, first_true}
use Rattle.sql_rows_meaning.specs.ValueLaws.{tried, tried-is, value_of-Name, value_of-Int, value_of-Text, value_of-Truth, value_of-Null, value_of-Equal, value_of-Less, value_of-All, value_of-Any, value_of-Not, value_of-IsNull, value_of-Case, value_of-First}
use Rattle.sql_rows_meaning.specs.declared.fault.FaultKind.TheVariants.{NoColumn, KindClash, NotTruth}
use Rattle.sql_rows_meaning.specs.Faults.{Checked, and_then, found, all_fine}
use Rattle.sql_rows_meaning.specs.Scopes.{Scope}
use Rattle.sql_rows_meaning.specs.Checks.{KindChecked, BranchKinds, same_kind, all_truths, one_kind, compared, case_kind, check}
use Rattle.sql_rows_meaning.specs.CheckLaws.{branch_kinds, branch_kinds-is, check-Name, check-Int, check-Text, check-Truth, check-Equal, check-Less, check-All, check-Any, check-Not, check-IsNull, check-Case, check-First}
use Rattle.sql_rows_laws.specs.ExpressionInduction.{IsPassedUp, OfBranch, every_expression}

-- each cell in sight is of the kind that expressions take it for
pub record IsInSight (scope : Scope) (sight : Sight) : Type 0 where
  pub kinds : (a c : List ℕ) (k : Kind) → scope a c ≡ Some k → has_kind k (sight a c) ≡ true

-- ---- checks that found no fault

-- what was found, and that the next check found no fault either
pub record Went {F X Y : Type 0} (c : Checked F X) (f : X → Checked F Y) (y : Y) : Type 0 where
  pub what : X
  pub first : c ≡ Ok what
  pub later : f what ≡ Ok y

pub went : {F X Y : Type 0} (c : Checked F X) (f : X → Checked F Y) (y : Y) → and_then c f ≡ Ok y → Went c f y
went (Ok x) f y e = record { what = x; first = refl; later = e }
went (Err b) f y e = cc

pub fine-same : {F X : Type 0} (x y : X) → ◌≡◌ {A = Checked F X} (Ok x) (Ok y) → x ≡ y
fine-same x y e = cc

pub found-is : {F X : Type 0} (e : F) (o : Option X) (x : X) → found e o ≡ Ok x → o ≡ Some x
found-is e None x h = cc
found-is e (Some y) x h = ap Some (fine-same y x h)

-- ---- kinds

same_kind-is : (k l : Kind) → same_kind k l ≡ true → k ≡ l
same_kind-is kind.Int kind.Int h = refl
same_kind-is kind.Int kind.Text h = cc
same_kind-is kind.Int kind.Truth h = cc
same_kind-is kind.Text kind.Int h = cc
same_kind-is kind.Text kind.Text h = refl
same_kind-is kind.Text kind.Truth h = cc
same_kind-is kind.Truth kind.Int h = cc
same_kind-is kind.Truth kind.Text h = cc
same_kind-is kind.Truth kind.Truth h = refl

pub kind-is : (k l : Kind) → same_kind k l ≡ true → k ≡ l
kind-is = same_kind-is

passed : {F X : Type 0} (b : Bool) (x y : X) (e : F) → ◌≡◌ {A = Checked F X} (if b then Ok x else Err e) (Ok y) → (b ≡ true) × (x ≡ y)
passed true x y e h = (refl, fine-same x y h)
passed false x y e h = cc

pub if_passed : {F X : Type 0} (b : Bool) (x y : X) (e : F) → ◌≡◌ {A = Checked F X} (if b then Ok x else Err e) (Ok y) → (b ≡ true) × (x ≡ y)
if_passed = passed

truths-kind : (ks : List Kind) (k : Kind) → all_truths ks ≡ Ok k → k ≡ kind.Truth
truths-kind ks k h = sym (passed (list_all (same_kind kind.Truth) ks) kind.Truth k NotTruth h).1

compared-kind : (a b : KindChecked) (k : Kind) → compared a b ≡ Ok k → k ≡ kind.Truth
compared-kind a b k h =
    let w = went a (λ j. and_then b (λ l. if same_kind j l then Ok kind.Truth else Err KindClash)) k h in
    let v = went b (λ l. if same_kind w.what l then Ok kind.Truth else Err KindClash) k w.later in
    sym (passed (same_kind w.what v.what) kind.Truth k KindClash v.later).1

all_same : (k : Kind) (ks : List Kind) → list_all (same_kind k) ks ≡ true → AllByRecursion (λ j. j ≡ k) ks
all_same k [] h = tt
all_same k (j ∷ ks) h = let p = and_parts (same_kind k j) (list_all (same_kind k) ks) h in (sym (same_kind-is k j p.0), all_same k ks p.1)

-- all are of the one kind
one_kind-each : (ks : List Kind) (k : Kind) → one_kind ks ≡ Ok k → AllByRecursion (λ j. j ≡ k) ks
one_kind-each [] k h = cc
one_kind-each (j ∷ ks) k h =
    let p = passed (list_all (same_kind j) ks) j k KindClash h in
    (p.1, subst (λ (l : Kind). AllByRecursion (λ i. i ≡ l) ks) p.1 (all_same j ks p.0))

last_of : (k : Kind) (ks : List Kind) (l : Kind) → AllByRecursion (λ j. j ≡ k) (ks ++ l ∷ []) → l ≡ k
last_of k [] l all = all.0
last_of k (j ∷ ks) l all = last_of k ks l all.1

front_of : (k : Kind) (ks : List Kind) (l : Kind) → AllByRecursion (λ j. j ≡ k) (ks ++ l ∷ []) → AllByRecursion (λ j. j ≡ k) ks
front_of k [] l all = tt
front_of k (j ∷ ks) l all = (all.0, front_of k ks l all.1)

-- ---- cells

pub null-kind : (k : Kind) → has_kind k Null ≡ true
null-kind kind.Int = refl
null-kind kind.Text = refl
null-kind kind.Truth = refl

unless_null-kind : (a b : Cell) (t : Bool) → has_kind kind.Truth (unless_null a b t) ≡ true
unless_null-kind a b t = go (is_null a || is_null b)
  where
    go : (n : Bool) → has_kind kind.Truth (if n then Null else Truth t) ≡ true
    go true = refl
    go false = refl

not-kind : (a : Cell) → has_kind kind.Truth (not_cell a) ≡ true
not-kind Null = refl
not-kind (Int n) = refl
not-kind (Text t) = refl
not-kind (Truth b) = refl

null_and : (a b : Cell) → and_cells a b ≡ and_cells Null b → has_kind kind.Truth b ≡ true → has_kind kind.Truth (and_cells Null b) ≡ true
null_and a Null e h = refl
null_and a (Int n) e h = refl
null_and a (Text t) e h = refl
null_and a (Truth true) e h = refl
null_and a (Truth false) e h = refl

and-kind : (a b : Cell) → has_kind kind.Truth b ≡ true → has_kind kind.Truth (and_cells a b) ≡ true
and-kind Null b h = null_and Null b refl h
and-kind (Int n) Null h = refl
and-kind (Int n) (Int m) h = refl
and-kind (Int n) (Text t) h = refl
and-kind (Int n) (Truth true) h = refl
and-kind (Int n) (Truth false) h = refl
and-kind (Text s) Null h = refl
and-kind (Text s) (Int m) h = refl
and-kind (Text s) (Text t) h = refl
and-kind (Text s) (Truth true) h = refl
and-kind (Text s) (Truth false) h = refl
and-kind (Truth true) b h = h
and-kind (Truth false) b h = refl

or-kind : (a b : Cell) → has_kind kind.Truth b ≡ true → has_kind kind.Truth (or_cells a b) ≡ true
or-kind Null Null h = refl
or-kind Null (Int m) h = refl
or-kind Null (Text t) h = refl
or-kind Null (Truth true) h = refl
or-kind Null (Truth false) h = refl
or-kind (Int n) Null h = refl
or-kind (Int n) (Int m) h = refl
or-kind (Int n) (Text t) h = refl
or-kind (Int n) (Truth true) h = refl
or-kind (Int n) (Truth false) h = refl
or-kind (Text s) Null h = refl
or-kind (Text s) (Int m) h = refl
or-kind (Text s) (Text t) h = refl
or-kind (Text s) (Truth true) h = refl
or-kind (Text s) (Truth false) h = refl
or-kind (Truth true) b h = refl
or-kind (Truth false) b h = h

all-kind : (xs : List Cell) → has_kind kind.Truth (all_cells xs) ≡ true
all-kind [] = refl
all-kind (x ∷ xs) = and-kind x (all_cells xs) (all-kind xs)

any-kind : (xs : List Cell) → has_kind kind.Truth (any_cells xs) ≡ true
any-kind [] = refl
any-kind (x ∷ xs) = or-kind x (any_cells xs) (any-kind xs)

chosen : (b : Bool) (k : Kind) (x y : Cell) → has_kind k x ≡ true → has_kind k y ≡ true → has_kind k (if b then x else y) ≡ true
chosen true k x y h i = h
chosen false k x y h i = i

-- ---- expressions

-- the value has the kind that the check finds
abbrev pub HasItsKind : SqlExpr → Type 0
HasItsKind e = (s : Scope) (k : Kind) → check e s ≡ Ok k → (sight : Sight) → IsInSight s sight → has_kind k (value_of e sight) ≡ true

as_kind : (k l : Kind) (x : Cell) → k ≡ l → has_kind l x ≡ true → has_kind k x ≡ true
as_kind k l x e h = subst (λ (j : Kind). has_kind j x ≡ true) (sym e) h

with_value : (k : Kind) (x y : Cell) → x ≡ y → has_kind k y ≡ true → has_kind k x ≡ true
with_value k x y e h = subst (λ (z : Cell). has_kind k z ≡ true) (sym e) h

firsts-kind : (k : Kind) (s : Scope) (sight : Sight) → IsInSight s sight → (es : List SqlExpr) → AllByRecursion HasItsKind es → (ks : List Kind) → all_fine (map (λ e. check e s) es) ≡ Ok ks → AllByRecursion (λ j. j ≡ k) ks →
    has_kind k (first_cell (map (λ e. value_of e sight) es)) ≡ true
firsts-kind k s sight seen [] all ks h same = null-kind k
firsts-kind k s sight seen (e ∷ es) all ks h same =
    let w = went (check e s) (λ x. and_then (all_fine (map (λ e. check e s) es)) (λ xs. Ok (x ∷ xs))) ks h in
    let v = went (all_fine (map (λ e. check e s) es)) (λ xs. Ok (w.what ∷ xs)) ks w.later in
    let list : w.what ∷ v.what ≡ ks = fine-same (w.what ∷ v.what) ks v.later in
    let both : AllByRecursion (λ j. j ≡ k) (w.what ∷ v.what) = subst (AllByRecursion (λ j. j ≡ k)) (sym list) same in
    chosen (is_null (value_of e sight)) k (first_cell (map (λ e. value_of e sight) es)) (value_of e sight)
    (firsts-kind k s sight seen es all.1 v.what v.first both.1)
    (all.0 s k (w.first ∙ ap Ok both.0) sight seen)

cases-kind : (k : Kind) (s : Scope) (sight : Sight) → IsInSight s sight → (bs : List Branch) → AllByRecursion (OfBranch HasItsKind) bs → (kinds : List BranchKinds) → all_fine (map (λ b. branch_kinds b s) bs) ≡ Ok kinds →
    AllByRecursion (λ j. j ≡ k) (map (λ (b : BranchKinds). b.value) kinds) → (last : Cell) → has_kind k last ≡ true → has_kind k (first_true (map (λ b. tried b sight) bs) last) ≡ true
cases-kind k s sight seen [] all kinds h same last l = l
cases-kind k s sight seen (b ∷ bs) all kinds h same last l =
    let w = went (branch_kinds b s) (λ x. and_then (all_fine (map (λ b. branch_kinds b s) bs)) (λ xs. Ok (x ∷ xs))) kinds h in
    let v = went (all_fine (map (λ b. branch_kinds b s) bs)) (λ xs. Ok (w.what ∷ xs)) kinds w.later in
    let list : w.what ∷ v.what ≡ kinds = fine-same (w.what ∷ v.what) kinds v.later in
    let both : AllByRecursion (λ j. j ≡ k) (w.what.value ∷ map (λ (b : BranchKinds). b.value) v.what) = subst (λ (ks : List BranchKinds). AllByRecursion (λ j. j ≡ k) (map (λ (b : BranchKinds). b.value) ks)) (sym list) same in
    let t = went (check b.test s) (λ i. and_then (check b.value s) (λ j. Ok (record { test = i; value = j }))) w.what (sym (branch_kinds-is b s) ∙ w.first) in
    let u = went (check b.value s) (λ j. Ok (record { test = t.what; value = j })) w.what t.later in
    let pair : record { test = t.what; value = u.what } ≡ w.what = fine-same (record { test = t.what; value = u.what }) w.what u.later in
    let value : u.what ≡ k = ap (λ (b : BranchKinds). b.value) pair ∙ both.0 in
    let mine : has_kind k (value_of b.value sight) ≡ true = all.0.1 s k (u.first ∙ ap Ok value) sight seen in
    with_value k _ _ (ap (λ (t : Tried). if is_true t.test then t.value else first_true (map (λ b. tried b sight) bs) last) (tried-is b sight))
    (chosen (is_true (value_of b.test sight)) k (value_of b.value sight) (first_true (map (λ b. tried b sight) bs) last) mine (cases-kind k s sight seen bs all.1 v.what v.first both.1 last l))

case_up : (bs : List Branch) (a : SqlExpr) → AllByRecursion (OfBranch HasItsKind) bs → HasItsKind a → HasItsKind (sql.Case bs a)
case_up bs a all last s k h sight seen =
    let w = went (all_fine (map (λ b. branch_kinds b s) bs)) (λ kinds. and_then (check a s) (case_kind kinds)) k (sym (check-Case bs a s) ∙ h) in
    let v = went (check a s) (case_kind w.what) k w.later in
    let u = went (all_truths (map (λ (b : BranchKinds). b.test) w.what)) (λ truth. one_kind (map (λ (b : BranchKinds). b.value) w.what ++ v.what ∷ [])) k v.later in
    let same : AllByRecursion (λ j. j ≡ k) (map (λ (b : BranchKinds). b.value) w.what ++ v.what ∷ []) = one_kind-each (map (λ (b : BranchKinds). b.value) w.what ++ v.what ∷ []) k u.later in
    with_value k _ _ (value_of-Case bs a sight)
    (cases-kind k s sight seen bs all w.what w.first (front_of k (map (λ (b : BranchKinds). b.value) w.what) v.what same) (value_of a sight)
    (last s k (v.first ∙ ap Ok (last_of k (map (λ (b : BranchKinds). b.value) w.what) v.what same)) sight seen))

first_up : (es : List SqlExpr) → AllByRecursion HasItsKind es → HasItsKind (sql.First es)
first_up es all s k h sight seen =
    let w = went (all_fine (map (λ e. check e s) es)) one_kind k (sym (check-First es s) ∙ h) in
    with_value k _ _ (value_of-First es sight) (firsts-kind k s sight seen es all w.what w.first (one_kind-each w.what k w.later))

passed_up : IsPassedUp HasItsKind
passed_up = record {
  name = λ a c s k h sight seen. with_value k _ _ (value_of-Name a c sight) (seen.kinds a c k (found-is NoColumn (s a c) k (sym (check-Name a c s) ∙ h)));
  int = λ n s k h sight seen. with_value k _ _ (value_of-Int n sight) (as_kind k kind.Int (Int n) (sym (fine-same kind.Int k (sym (check-Int n s) ∙ h))) refl);
  text = λ t s k h sight seen. with_value k _ _ (value_of-Text t sight) (as_kind k kind.Text (Text t) (sym (fine-same kind.Text k (sym (check-Text t s) ∙ h))) refl);
  truth = λ b s k h sight seen. with_value k _ _ (value_of-Truth b sight) (as_kind k kind.Truth (Truth b) (sym (fine-same kind.Truth k (sym (check-Truth b s) ∙ h))) refl);
  null = λ j s k h sight seen. with_value k _ _ (value_of-Null j sight) (null-kind k);
  equal = λ a b p q s k h sight seen. with_value k _ _ (value_of-Equal a b sight) (as_kind k kind.Truth _ (compared-kind (check a s) (check b s) k (sym (check-Equal a b s) ∙ h)) (unless_null-kind (value_of a sight) (value_of b sight) _));
  less = λ a b p q s k h sight seen. with_value k _ _ (value_of-Less a b sight) (as_kind k kind.Truth _ (compared-kind (check a s) (check b s) k (sym (check-Less a b s) ∙ h)) (unless_null-kind (value_of a sight) (value_of b sight) _));
  all = λ es p s k h sight seen.
      let w = went (all_fine (map (λ e. check e s) es)) all_truths k (sym (check-All es s) ∙ h) in
      with_value k _ _ (value_of-All es sight) (as_kind k kind.Truth _ (truths-kind w.what k w.later) (all-kind (map (λ e. value_of e sight) es)));
  any = λ es p s k h sight seen.
      let w = went (all_fine (map (λ e. check e s) es)) all_truths k (sym (check-Any es s) ∙ h) in
      with_value k _ _ (value_of-Any es sight) (as_kind k kind.Truth _ (truths-kind w.what k w.later) (any-kind (map (λ e. value_of e sight) es)));
  not = λ a p s k h sight seen.
      let w = went (check a s) (λ j. all_truths (j ∷ [])) k (sym (check-Not a s) ∙ h) in
      with_value k _ _ (value_of-Not a sight) (as_kind k kind.Truth _ (truths-kind (w.what ∷ []) k w.later) (not-kind (value_of a sight)));
  is_null = λ a p s k h sight seen.
      let w = went (check a s) (λ j. Ok kind.Truth) k (sym (check-IsNull a s) ∙ h) in
      with_value k _ _ (value_of-IsNull a sight) (as_kind k kind.Truth (Truth (is_null (value_of a sight))) (sym (fine-same kind.Truth k w.later)) refl);
  case = case_up;
  first = first_up;
}

pub value-kind : (e : SqlExpr) → HasItsKind e
value-kind = every_expression HasItsKind passed_up
