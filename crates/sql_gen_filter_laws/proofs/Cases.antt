-- What CASE and class tests give.
use Rattle.std.proofs.Common.{◌≡◌, ℕ, Bool, true, false, if◌then◌else◌, ◌&&◌, ◌||◌, ◌==◌, List, [], ◌∷◌, map, refl, sym, ap, ap₂, ◌∙◌, pos}
use Rattle.std.specs.List.{list_any}
use Rattle.table_meaning.specs.declared.cell.Cell.{Cell}
use Rattle.table_meaning.specs.declared.cell.Cell.TheVariants.{Null, Int, Text, Truth}
use Rattle.table_meaning.specs.declared.kind.Kind.TheVariants as kind
use Rattle.sql_meaning.specs.declared.expression.SqlExpr.{SqlExpr}
use Rattle.sql_meaning.specs.declared.expression.SqlExpr.TheVariants as sql
use Rattle.sql_meaning.specs.declared.expression.Branch.{Branch}
use Rattle.sql_rows_meaning.specs.Cells.{equal_cells, less_cells, is_null}
use Rattle.sql_rows_meaning.specs.Values.{Sight, Tried, value_of, is_true, and_cells, or_cells, any_cells, first_true}
use Rattle.sql_rows_meaning.specs.ValueLaws.{tried, tried-is, value_of-Int, value_of-Truth, value_of-Null, value_of-Equal, value_of-Less, value_of-All, value_of-Any, value_of-IsNull, value_of-Case}
use Rattle.sql_gen_step_laws.specs.StepTests.{same_number}
use Rattle.sql_gen_filter_meaning.specs.Columns.{branch, class_is}
use Rattle.sql_gen_filter_meaning.specs.Tests.{null_truth, class_in}

pub null_truth-is : (env : Sight) → value_of null_truth env ≡ Null
null_truth-is env = value_of-Equal (sql.Null kind.Int) (sql.Int (pos 0)) env ∙ ap₂ equal_cells (value_of-Null kind.Int env) (value_of-Int (pos 0) env)

-- ---- CASE

pub case_last : (last : SqlExpr) (env : Sight) → value_of (sql.Case [] last) env ≡ value_of last env
case_last last env = value_of-Case [] last env

pub case_first : (t v : SqlExpr) (bs : List Branch) (last : SqlExpr) (env : Sight) (b : Bool) → is_true (value_of t env) ≡ b → value_of (sql.Case (branch t v ∷ bs) last) env ≡ (if b then value_of v env else value_of (sql.Case bs last) env)
case_first t v bs last env b is =
    value_of-Case (branch t v ∷ bs) last env
    ∙ ap (λ (x : Tried). first_true (x ∷ map (λ b. tried b env) bs) (value_of last env)) (tried-is (branch t v) env)
    ∙ ap (λ (c : Bool). if c then value_of v env else first_true (map (λ b. tried b env) bs) (value_of last env)) is
    ∙ ap (λ (r : Cell). if b then value_of v env else r) (sym (value_of-Case bs last env))

-- ---- AND and OR of truths

and_truths : (b c : Bool) → and_cells (Truth b) (Truth c) ≡ Truth (b && c)
and_truths true c = refl
and_truths false c = refl

or_truths : (b c : Bool) → or_cells (Truth b) (Truth c) ≡ Truth (b || c)
or_truths true c = refl
or_truths false c = refl

or_self : (b : Bool) → b ≡ (b || false)
or_self true = refl
or_self false = refl

and_self : (b : Bool) → (b && true) ≡ b
and_self true = refl
and_self false = refl

pub both_truths : (e f : SqlExpr) (env : Sight) (b c : Bool) → value_of e env ≡ Truth b → value_of f env ≡ Truth c → value_of (sql.All (e ∷ f ∷ [])) env ≡ Truth (b && c)
both_truths e f env b c p q =
    value_of-All (e ∷ f ∷ []) env ∙ ap₂ (λ (x y : Cell). and_cells x (and_cells y (Truth true))) p q ∙ ap (λ (y : Cell). and_cells (Truth b) y) (and_truths c true ∙ ap (λ (x : Bool). Truth x) (and_self c)) ∙ and_truths b c

pub either_truth : (e f : SqlExpr) (env : Sight) (b c : Bool) → value_of e env ≡ Truth b → value_of f env ≡ Truth c → is_true (value_of (sql.Any (e ∷ f ∷ [])) env) ≡ (b || c)
either_truth e f env b c p q = ap is_true (value_of-Any (e ∷ f ∷ []) env ∙ ap₂ (λ (x y : Cell). or_cells x (or_cells y (Truth false))) p q) ∙ last b c
  where
    last : (b c : Bool) → is_true (or_cells (Truth b) (or_cells (Truth c) (Truth false))) ≡ (b || c)
    last true c = refl
    last false true = refl
    last false false = refl

and_null : (y : Cell) → is_true (and_cells Null y) ≡ false
and_null (Truth true) = refl
and_null (Truth false) = refl
and_null Null = refl
and_null (Int n) = refl
and_null (Text t) = refl

-- a null part, and AND is not true
pub first_null : (e f : SqlExpr) (env : Sight) → value_of e env ≡ Null → is_true (value_of (sql.All (e ∷ f ∷ [])) env) ≡ false
first_null e f env p = ap is_true (value_of-All (e ∷ f ∷ []) env ∙ ap (λ (x : Cell). and_cells x (and_cells (value_of f env) (Truth true))) p) ∙ and_null (and_cells (value_of f env) (Truth true))

pub three_truths : (e f g : SqlExpr) (env : Sight) (b c d : Bool) → value_of e env ≡ Truth b → value_of f env ≡ Truth c → value_of g env ≡ Truth d → value_of (sql.All (e ∷ f ∷ g ∷ [])) env ≡ Truth (b && (c && d))
three_truths e f g env b c d p q r =
    value_of-All (e ∷ f ∷ g ∷ []) env ∙ rw (p, q, r) (last b c d)
  where
    last : (b c d : Bool) → and_cells (Truth b) (and_cells (Truth c) (and_cells (Truth d) (Truth true))) ≡ Truth (b && (c && d))
    last true true true = refl
    last true true false = refl
    last true false d = refl
    last false c d = refl

pub three_nulls : (e f g : SqlExpr) (env : Sight) → value_of e env ≡ Null → value_of f env ≡ Null → value_of g env ≡ Null → value_of (sql.All (e ∷ f ∷ g ∷ [])) env ≡ Null
three_nulls e f g env p q r = value_of-All (e ∷ f ∷ g ∷ []) env ∙ rw (p, q, r) refl

-- ---- class tests

pub class_is-at : (c : SqlExpr) (env : Sight) (k : ℕ) → value_of c env ≡ Int (pos k) → (n : ℕ) → value_of (class_is c n) env ≡ Truth (k == n)
class_is-at c env k is n = value_of-Equal c (sql.Int (pos n)) env ∙ ap₂ equal_cells is (value_of-Int (pos n) env) ∙ ap (λ (b : Bool). Truth b) (same_number k n)

class_each : (c : SqlExpr) (env : Sight) (k : ℕ) → value_of c env ≡ Int (pos k) → (ns : List ℕ) → any_cells (map (λ e. value_of e env) (map (class_is c) ns)) ≡ Truth (list_any (λ n. k == n) ns)
class_each c env k is [] = refl
class_each c env k is (n ∷ ns) = ap₂ or_cells (class_is-at c env k is n) (class_each c env k is ns) ∙ or_truths (k == n) (list_any (λ n. k == n) ns)

pub class_in-at : (c : SqlExpr) (env : Sight) (k : ℕ) → value_of c env ≡ Int (pos k) → (ns : List ℕ) → value_of (class_in ns c) env ≡ Truth (list_any (λ n. k == n) ns)
class_in-at c env k is [] = value_of-Truth false env
class_in-at c env k is (n ∷ []) = class_is-at c env k is n ∙ ap (λ (b : Bool). Truth b) (or_self (k == n))
class_in-at c env k is (n ∷ n' ∷ ns) = value_of-Any (map (class_is c) (n ∷ n' ∷ ns)) env ∙ class_each c env k is (n ∷ n' ∷ ns)

null_each : (c : SqlExpr) (env : Sight) → value_of c env ≡ Null → (ns : List ℕ) → is_true (any_cells (map (λ e. value_of e env) (map (class_is c) ns))) ≡ false
null_each c env is [] = refl
null_each c env is (n ∷ ns) =
    let one : value_of (class_is c n) env ≡ Null = value_of-Equal c (sql.Int (pos n)) env ∙ ap₂ equal_cells is (value_of-Int (pos n) env) in
    ap (λ (x : Cell). is_true (or_cells x (any_cells (map (λ e. value_of e env) (map (class_is c) ns))))) one ∙ last (any_cells (map (λ e. value_of e env) (map (class_is c) ns))) (null_each c env is ns)
  where
    last : (y : Cell) → is_true y ≡ false → is_true (or_cells Null y) ≡ false
    last (Truth true) e = e
    last (Truth false) e = refl
    last Null e = refl
    last (Int n) e = refl
    last (Text t) e = refl

pub class_in-null : (c : SqlExpr) (env : Sight) → value_of c env ≡ Null → (ns : List ℕ) → is_true (value_of (class_in ns c) env) ≡ false
class_in-null c env is [] = ap is_true (value_of-Truth false env)
class_in-null c env is (n ∷ []) = ap is_true (value_of-Equal c (sql.Int (pos n)) env ∙ ap₂ equal_cells is (value_of-Int (pos n) env))
class_in-null c env is (n ∷ n' ∷ ns) = ap is_true (value_of-Any (map (class_is c) (n ∷ n' ∷ ns)) env) ∙ null_each c env is (n ∷ n' ∷ ns)

-- ---- cells

pub null_right : (x : Cell) → equal_cells x Null ≡ Null
null_right Null = refl
null_right (Int n) = refl
null_right (Text t) = refl
null_right (Truth b) = refl

pub equal_at : (e f : SqlExpr) (env : Sight) (x y : Cell) → value_of e env ≡ x → value_of f env ≡ y → value_of (sql.Equal e f) env ≡ equal_cells x y
equal_at e f env x y p q = value_of-Equal e f env ∙ ap₂ equal_cells p q

pub less_at : (e f : SqlExpr) (env : Sight) (x y : Cell) → value_of e env ≡ x → value_of f env ≡ y → value_of (sql.Less e f) env ≡ less_cells x y
less_at e f env x y p q = value_of-Less e f env ∙ ap₂ less_cells p q

pub null_at : (e : SqlExpr) (env : Sight) (x : Cell) → value_of e env ≡ x → value_of (sql.IsNull e) env ≡ Truth (is_null x)
null_at e env x p = value_of-IsNull e env ∙ ap (λ (c : Cell). Truth (is_null c)) p
