-- Expressions of the grammar's form, and how deep they are, kind by kind.
use Rattle.std.proofs.Common.{◌≡◌, ℕ, ℤ, suc, ◌+◌, ◌≤◌, Bool, true, ◌&&◌, nat_le, List, [], ◌∷◌, map, length, refl, ◌∙◌, arith}
use Rattle.std.specs.Prelude.{max}
use Rattle.std.specs.Str.{is_utf8}
use Rattle.std.proofs.lemmas.Bool.{and_from, le-leb}
use Rattle.std.proofs.lemmas.List.{length-map}
use Rattle.std.specs.List.{AllByRecursion}
use Rattle.table_meaning.specs.Ints.{is_wide_int}
use Rattle.table_meaning.specs.Names.{is_name}
use Rattle.table_meaning.specs.declared.kind.Kind.{Kind}
use Rattle.sql_meaning.specs.declared.expression.Branch.{Branch, fold-Branch}
use Rattle.sql_meaning.specs.declared.expression.SqlExpr.{SqlExpr}
use Rattle.sql_meaning.specs.declared.expression.SqlExpr.TheVariants as sql
use Rattle.sql_meaning.specs.Levels.{fold_name, fold_int, fold_text, fold_truth, fold_null, fold_equal, fold_less, fold_all, fold_any, fold_not, fold_is_null, fold_first, fold_case, fold_branch}
use Rattle.sql_meaning.specs.Scripts.{largest, all_of, expr_form, form_step, branch_form, expr_depth, depth_step, branch_depth}
use Rattle.sql_gen_step_laws.specs.Carried.{Name}
use Rattle.sql_gen_step_laws.specs.StepSelects.{every}
use Rattle.sql_gen_form_laws.specs.Fits.{ExprFits, BranchFits}

pub fits-more : (n m : ℕ) (e : SqlExpr) → n ≤ m → ExprFits n e → ExprFits m e
fits-more n m e l p = record { form = p.form; depth = omega (arith, p.depth) }

-- ---- leaves

leaf : (n d : ℕ) → d ≡ 1 → d ≤ n + 1
leaf n d e = omega arith

pub name-fits : (n : ℕ) (a c : Name) → is_name a ≡ true → is_name c ≡ true → ExprFits (n + 1) (sql.Name a c)
name-fits n a c p q = record { form = fold_name form_step branch_form a c ∙ and_from _ _ p q; depth = leaf n _ (fold_name depth_step branch_depth a c) }

pub int-fits : (n : ℕ) (i : ℤ) → is_wide_int i ≡ true → ExprFits (n + 1) (sql.Int i)
int-fits n i w = record { form = fold_int form_step branch_form i ∙ w; depth = leaf n _ (fold_int depth_step branch_depth i) }

pub text-fits : (n : ℕ) (s : List ℕ) → is_utf8 s ≡ true → ExprFits (n + 1) (sql.Text s)
text-fits n s w = record { form = fold_text form_step branch_form s ∙ w; depth = leaf n _ (fold_text depth_step branch_depth s) }

pub truth-fits : (n : ℕ) (b : Bool) → ExprFits (n + 1) (sql.Truth b)
truth-fits n b = record { form = fold_truth form_step branch_form b; depth = leaf n _ (fold_truth depth_step branch_depth b) }

pub null-fits : (n : ℕ) (k : Kind) → ExprFits (n + 1) (sql.Null k)
null-fits n k = record { form = fold_null form_step branch_form k; depth = leaf n _ (fold_null depth_step branch_depth k) }

-- ---- one part or two

one-deeper : (n a d : ℕ) → d ≡ suc a → a ≤ n → d ≤ n + 1
one-deeper n a d e l = omega arith

two-deeper : (n a b d : ℕ) → d ≡ suc (max a b) → a ≤ n → b ≤ n → d ≤ n + 1
two-deeper n a b d e l m = omega arith

pub equal-fits : (n : ℕ) (a b : SqlExpr) → ExprFits n a → ExprFits n b → ExprFits (n + 1) (sql.Equal a b)
equal-fits n a b p q = record {
  form = fold_equal form_step branch_form a b ∙ and_from _ _ p.form q.form;
  depth = two-deeper n (expr_depth a) (expr_depth b) _ (fold_equal depth_step branch_depth a b) p.depth q.depth;
}

pub less-fits : (n : ℕ) (a b : SqlExpr) → ExprFits n a → ExprFits n b → ExprFits (n + 1) (sql.Less a b)
less-fits n a b p q = record {
  form = fold_less form_step branch_form a b ∙ and_from _ _ p.form q.form;
  depth = two-deeper n (expr_depth a) (expr_depth b) _ (fold_less depth_step branch_depth a b) p.depth q.depth;
}

pub not-fits : (n : ℕ) (a : SqlExpr) → ExprFits n a → ExprFits (n + 1) (sql.Not a)
not-fits n a p = record { form = fold_not form_step branch_form a ∙ p.form; depth = one-deeper n (expr_depth a) _ (fold_not depth_step branch_depth a) p.depth }

pub is_null-fits : (n : ℕ) (a : SqlExpr) → ExprFits n a → ExprFits (n + 1) (sql.IsNull a)
is_null-fits n a p = record { form = fold_is_null form_step branch_form a ∙ p.form; depth = one-deeper n (expr_depth a) _ (fold_is_null depth_step branch_depth a) p.depth }

-- ---- two parts or more

both_below : (a b n : ℕ) → a ≤ n → b ≤ n → max a b ≤ n
both_below a b n l m = omega arith

all-forms : (n : ℕ) (es : List SqlExpr) → AllByRecursion (ExprFits n) es → all_of (λ (b : Bool). b) (map expr_form es) ≡ true
all-forms n [] all = refl
all-forms n (e ∷ es) all = and_from _ _ all.0.form (all-forms n es all.1)

largest-fits : (n : ℕ) (es : List SqlExpr) → AllByRecursion (ExprFits n) es → largest (map expr_depth es) ≤ n
largest-fits n [] all = omega arith
largest-fits n (e ∷ es) all = both_below (expr_depth e) (largest (map expr_depth es)) n all.0.depth (largest-fits n es all.1)

long : (es : List SqlExpr) → 2 ≤ length es → nat_le 2 (length (map expr_form es)) ≡ true
long es l = le-leb 2 _ (omega (arith, length-map es expr_form))

list-forms : (n : ℕ) (es : List SqlExpr) → 2 ≤ length es → AllByRecursion (ExprFits n) es → (nat_le 2 (length (map expr_form es)) && all_of (λ (b : Bool). b) (map expr_form es)) ≡ true
list-forms n es l all = and_from _ _ (long es l) (all-forms n es all)

pub all-fits : (n : ℕ) (es : List SqlExpr) → 2 ≤ length es → AllByRecursion (ExprFits n) es → ExprFits (n + 1) (sql.All es)
all-fits n es l all = record {
  form = fold_all form_step branch_form es ∙ list-forms n es l all;
  depth = one-deeper n (largest (map expr_depth es)) _ (fold_all depth_step branch_depth es) (largest-fits n es all);
}

pub any-fits : (n : ℕ) (es : List SqlExpr) → 2 ≤ length es → AllByRecursion (ExprFits n) es → ExprFits (n + 1) (sql.Any es)
any-fits n es l all = record {
  form = fold_any form_step branch_form es ∙ list-forms n es l all;
  depth = one-deeper n (largest (map expr_depth es)) _ (fold_any depth_step branch_depth es) (largest-fits n es all);
}

pub first-fits : (n : ℕ) (es : List SqlExpr) → 2 ≤ length es → AllByRecursion (ExprFits n) es → ExprFits (n + 1) (sql.First es)
first-fits n es l all = record {
  form = fold_first form_step branch_form es ∙ list-forms n es l all;
  depth = one-deeper n (largest (map expr_depth es)) _ (fold_first depth_step branch_depth es) (largest-fits n es all);
}

pub every-fits : (n : ℕ) (es : List SqlExpr) → AllByRecursion (ExprFits n) es → ExprFits (n + 1) (every es)
every-fits n [] all = truth-fits n true
every-fits n (e ∷ []) all = fits-more n (n + 1) e (omega arith) all.0
every-fits n (e ∷ f ∷ es) all = all-fits n (e ∷ f ∷ es) (omega arith) all

-- ---- CASE

branches-form : (n : ℕ) (bs : List Branch) → AllByRecursion (BranchFits n) bs → all_of (λ (b : Bool). b) (map (fold-Branch Bool Bool form_step branch_form) bs) ≡ true
branches-form n [] all = refl
branches-form n (b ∷ bs) all = and_from _ _ (fold_branch form_step branch_form b ∙ and_from _ _ all.0.test.form all.0.value.form) (branches-form n bs all.1)

branches-depth : (n : ℕ) (bs : List Branch) → AllByRecursion (BranchFits n) bs → largest (map (fold-Branch ℕ ℕ depth_step branch_depth) bs) ≤ n
branches-depth n [] all = omega arith
branches-depth n (b ∷ bs) all =
    most (expr_depth b.test) (expr_depth b.value) (fold-Branch ℕ ℕ depth_step branch_depth b) (largest (map (fold-Branch ℕ ℕ depth_step branch_depth) bs)) (fold_branch depth_step branch_depth b)
    all.0.test.depth all.0.value.depth (branches-depth n bs all.1)
  where
    most : (a c x y : ℕ) → x ≡ max a c → a ≤ n → c ≤ n → y ≤ n → max x y ≤ n
    most a c x y e l m k = omega arith

pub case-fits : (n : ℕ) (bs : List Branch) (last : SqlExpr) → 1 ≤ length bs → AllByRecursion (BranchFits n) bs → ExprFits n last → ExprFits (n + 1) (sql.Case bs last)
case-fits n bs last some all p = record {
  form = fold_case form_step branch_form bs last
      ∙ three _ _ _ (le-leb 1 _ (omega (arith, length-map bs (fold-Branch Bool Bool form_step branch_form)))) (branches-form n bs all) p.form;
  depth = two-deeper n (largest (map (fold-Branch ℕ ℕ depth_step branch_depth) bs)) (expr_depth last) _ (fold_case depth_step branch_depth bs last) (branches-depth n bs all) p.depth;
}
  where
    three : (a b c : Bool) → a ≡ true → b ≡ true → c ≡ true → (a && b && c) ≡ true
    three a b c p q r = rw (p, q, r) refl
