-- The trees of expressions that are read have their forms, and their levels are those of the text.
use Rattle.std.specs.Prelude.{Bool, true, false, if◌then◌else◌, ◌&&◌, nat_le, length, List, ◌∷◌, ◌≡◌, ℕ, suc, ◌+◌, max, map}
use Rattle.std.proofs.Common.{refl, sym, ap, ◌∙◌, arith}
use Rattle.std.proofs.lemmas.Bool.{le-leb}
use Rattle.grammar_meaning.specs.Grammar.{one}
use Rattle.sql_meaning.specs.Grammar.{Limit, rule, forms, Expr, Simple, NullOf, Inner, More, Cases, Branches, OneBranch, Firsts}
use Rattle.sql_meaning.specs.Grammar.{Parsed, build, constant, compared, kinded, token_name, an_expr, expr_list, a_branch, branch_list}
use Rattle.sql_meaning.specs.Scripts.{form_step, branch_form, depth_step, branch_depth, expr_form, expr_depth, largest}
use Rattle.sql_meaning.specs.Levels.{fold_name, fold_int, fold_text, fold_truth, fold_null, fold_equal, fold_less, fold_all, fold_any, fold_not, fold_is_null, fold_case, fold_first, fold_branch}
use Rattle.table_meaning.specs.Names.{is_name}
use Rattle.table_meaning.specs.declared.kind.Kind.{Kind as ColumnKind}
use Rattle.sql_meaning.specs.declared.token.Mark.TheVariants as m
use Rattle.sql_meaning.specs.declared.token.Separator.{Separator}
use Rattle.sql_meaning.specs.declared.token.Token.{Token}
use Rattle.sql_meaning.specs.declared.token.Token.TheVariants as t
use Rattle.sql_meaning.specs.declared.expression.SqlExpr.{SqlExpr}
use Rattle.sql_meaning.specs.declared.expression.SqlExpr.TheVariants as v
use Rattle.sql_meaning.specs.declared.expression.Branch.{Branch}
use Rattle.sql_text_reading_laws.specs.TokenForms.{token_form, name_form}
use Rattle.sql_text_reading_laws.specs.Parts.{of_branch, branch_levels, exprs_form, exprs_depth, branches_form, branches_depth, Built, built_expr, built_simple, built_null, built_inner, built_more, built_cases, built_branches, built_branch, built_firsts}
use Rattle.sql_text_reading_laws.specs.Parts.{Holds, holds_one, holds_call, holds_both, holds_left, holds_right}
use Rattle.sql_text_reading_laws.specs.Lists.{Inside, inside, exprs_hold, branches_hold}

both_true : {a b : Bool} → a ≡ true → b ≡ true → (a && b) ≡ true
both_true h k = rw (h, k) refl

-- leaves
constant_form : (x : Token) → token_form x ≡ true → expr_form (constant x) ≡ true
constant_form (t.Int n) h = fold_int form_step branch_form n ∙ h
constant_form (t.Text s) h = fold_text form_step branch_form s ∙ h
constant_form (t.Mark m.True) h = fold_truth form_step branch_form true
constant_form _ h = fold_truth form_step branch_form false

constant_depth : (x : Token) → expr_depth (constant x) ≡ 1
constant_depth (t.Int n) = fold_int depth_step branch_depth n
constant_depth (t.Text s) = fold_text depth_step branch_depth s
constant_depth (t.Mark m.True) = fold_truth depth_step branch_depth true
constant_depth _ = fold_truth depth_step branch_depth false

constant_built : (x : Token) → token_form x ≡ true → Built Simple (an_expr (constant x)) 0
constant_built x h = built_simple (constant x) 0 (constant_form x h) (constant_depth x) refl

name_built : (a c : List ℕ) (k : ℕ) → is_name a ≡ true → is_name c ≡ true → k ≡ 0 → Built Simple (an_expr (v.Name a c)) k
name_built a c k h i e = built_simple (v.Name a c) k (fold_name form_step branch_form a c ∙ both_true h i) (fold_name depth_step branch_depth a c) e

pub simple_holds : (n : Parsed) (k : ℕ) (c : Limit) → Holds (rule c Simple) n k → Built Simple (build Simple n) k
simple_holds n k c (holds_left (holds_both (holds_one {t = x} h i) (holds_both (holds_one d e) (holds_one {t = y} f g)))) = name_built (token_name x.token) (token_name y.token) _ (name_form x.token h i) (name_form y.token f g) (omega arith)
simple_holds n k c (holds_right (holds_left (holds_one {t = x} h i))) = constant_built x.token i
simple_holds n k c (holds_right (holds_right (holds_left (holds_one {t = x} h i)))) = constant_built x.token i
simple_holds n k c (holds_right (holds_right (holds_right (holds_left (holds_one {t = x} h i))))) = constant_built x.token i
simple_holds n k c (holds_right (holds_right (holds_right (holds_right (holds_one {t = x} h i))))) = constant_built x.token i

null_built : (x : ColumnKind) (k : ℕ) → k ≡ 0 → Built NullOf (an_expr (v.Null x)) k
null_built x k e = built_null (v.Null x) k (fold_null form_step branch_form x) (fold_null depth_step branch_depth x) e

pub null_holds : (n : Parsed) (k : ℕ) (c : Limit) → Holds (rule c NullOf) n k → Built NullOf (build NullOf n) k
null_holds n k c (holds_both (holds_one a b) (holds_both (holds_one d e) (holds_both (holds_one f g) (holds_both (holds_one h i) (holds_both {n = x} (holds_left (holds_one j l)) (holds_one o p)))))) = null_built (kinded x) _ (omega arith)
null_holds n k c (holds_both (holds_one a b) (holds_both (holds_one d e) (holds_both (holds_one f g) (holds_both (holds_one h i) (holds_both {n = x} (holds_right (holds_left (holds_one j l))) (holds_one o p)))))) = null_built (kinded x) _ (omega arith)
null_holds n k c (holds_both (holds_one a b) (holds_both (holds_one d e) (holds_both (holds_one f g) (holds_both (holds_one h i) (holds_both {n = x} (holds_right (holds_right (holds_one j l))) (holds_one o p)))))) = null_built (kinded x) _ (omega arith)

-- what stands in brackets
compared_form : (x : Token) (e d : SqlExpr) → expr_form e ≡ true → expr_form d ≡ true → expr_form (compared x e d) ≡ true
compared_form (t.Mark m.Less) e d h i = fold_less form_step branch_form e d ∙ both_true h i
compared_form _ e d h i = fold_equal form_step branch_form e d ∙ both_true h i

compared_depth : (x : Token) (e d : SqlExpr) → expr_depth (compared x e d) ≡ suc (max (expr_depth e) (expr_depth d))
compared_depth (t.Mark m.Less) e d = fold_less depth_step branch_depth e d
compared_depth _ e d = fold_equal depth_step branch_depth e d

compared_built : (m : ℕ) (x : Token) (e d : SqlExpr) (k : ℕ) → expr_form e ≡ true → expr_form d ≡ true → k ≡ m + max (expr_depth e) (expr_depth d) → Built (Inner m) (an_expr (compared x e d)) k
compared_built m x e d k h i s = built_inner m (compared x e d) (max (expr_depth e) (expr_depth d)) k (compared_form x e d h i) (compared_depth x e d) s

-- two or more of them
many_form : (e : SqlExpr) (x : SqlExpr) (xs : List SqlExpr) → expr_form e ≡ true → exprs_form (x ∷ xs) ≡ true → (nat_le 2 (length (map expr_form (e ∷ x ∷ xs))) && exprs_form (e ∷ x ∷ xs)) ≡ true
many_form e x xs h i = both_true (le-leb 2 (length (map expr_form (e ∷ x ∷ xs))) (omega arith)) (both_true h i)

all_built : (m : ℕ) (e x : SqlExpr) (xs : List SqlExpr) (k : ℕ) → expr_form e ≡ true → exprs_form (x ∷ xs) ≡ true → k ≡ m + exprs_depth (e ∷ x ∷ xs) → Built (Inner m) (an_expr (v.All (e ∷ x ∷ xs))) k
all_built m e x xs k h i s =
    built_inner m (v.All (e ∷ x ∷ xs)) (exprs_depth (e ∷ x ∷ xs)) k
    (fold_all form_step branch_form (e ∷ x ∷ xs) ∙ many_form e x xs h i) (fold_all depth_step branch_depth (e ∷ x ∷ xs)) s

any_built : (m : ℕ) (e x : SqlExpr) (xs : List SqlExpr) (k : ℕ) → expr_form e ≡ true → exprs_form (x ∷ xs) ≡ true → k ≡ m + exprs_depth (e ∷ x ∷ xs) → Built (Inner m) (an_expr (v.Any (e ∷ x ∷ xs))) k
any_built m e x xs k h i s =
    built_inner m (v.Any (e ∷ x ∷ xs)) (exprs_depth (e ∷ x ∷ xs)) k
    (fold_any form_step branch_form (e ∷ x ∷ xs) ∙ many_form e x xs h i) (fold_any depth_step branch_depth (e ∷ x ∷ xs)) s

first_built : (m : ℕ) (e x : SqlExpr) (xs : List SqlExpr) (k : ℕ) → expr_form e ≡ true → exprs_form (x ∷ xs) ≡ true → k ≡ m + exprs_depth (e ∷ x ∷ xs) → Built (Firsts m) (an_expr (v.First (e ∷ x ∷ xs))) k
first_built m e x xs k h i s =
    built_firsts m (v.First (e ∷ x ∷ xs)) (exprs_depth (e ∷ x ∷ xs)) k
    (fold_first form_step branch_form (e ∷ x ∷ xs) ∙ many_form e x xs h i) (fold_first depth_step branch_depth (e ∷ x ∷ xs)) s

-- the levels of an expression and of those behind it
with_more : (m a b j k : ℕ) → j ≡ m + b → k ≡ max (m + a) j → k ≡ m + max a b
with_more m a b j k h s = omega arith

pub inner_holds : (m : ℕ) (n : Parsed) (k : ℕ) (c : Limit) → Holds (rule c (Inner m)) n k → Built (Inner m) (build (Inner m) n) k
inner_holds m n k c (holds_left (holds_both (holds_one a b) (holds_call (built_expr i e j h s)))) =
    built_inner m (v.Not e) (expr_depth e) _ (fold_not form_step branch_form e ∙ h) (fold_not depth_step branch_depth e) (omega arith)
inner_holds m n k c (holds_right (holds_both (holds_call (built_expr i e j h s)) (holds_left (holds_both (holds_one {t = x} a b) (holds_call (built_expr o d l f g)))))) =
    compared_built m x.token e d _ h f (omega arith)
inner_holds m n k c (holds_right (holds_both (holds_call (built_expr i e j h s)) (holds_right (holds_left (holds_both (holds_one {t = x} a b) (holds_call (built_expr o d l f g))))))) =
    compared_built m x.token e d _ h f (omega arith)
inner_holds m n k c (holds_right (holds_both (holds_call (built_expr i e j h s)) (holds_right (holds_right (holds_left (holds_call (built_more y o x xs l f g))))))) =
    all_built m e x xs _ h f (with_more m (expr_depth e) (exprs_depth (x ∷ xs)) l _ g (omega arith))
inner_holds m n k c (holds_right (holds_both (holds_call (built_expr i e j h s)) (holds_right (holds_right (holds_right (holds_left (holds_call (built_more y o x xs l f g)))))))) =
    any_built m e x xs _ h f (with_more m (expr_depth e) (exprs_depth (x ∷ xs)) l _ g (omega arith))
inner_holds m n k c (holds_right (holds_both (holds_call (built_expr i e j h s)) (holds_right (holds_right (holds_right (holds_right (holds_both (holds_one a b) (holds_one f g)))))))) =
    built_inner m (v.IsNull e) (expr_depth e) _ (fold_is_null form_step branch_form e ∙ h) (fold_is_null depth_step branch_depth e) (omega arith)

more_built : (s : Separator) (m : ℕ) (e : SqlExpr) (es : List SqlExpr) (i j k : ℕ) → expr_form e ≡ true → i ≡ m + expr_depth e → Inside expr_form expr_depth m es j → k ≡ max i j → Built (More s m) (expr_list s (e ∷ es)) k
more_built s m e es i j k h d (inside f g) x = built_more s m e es k (both_true h f) (sum (expr_depth e) (largest (map expr_depth es)) d g x)
  where
    sum : (a b : ℕ) → i ≡ m + a → max m j ≡ m + b → k ≡ max i j → k ≡ m + max a b
    sum a b d g x = omega arith

pub more_holds : (s : Separator) (m : ℕ) (n : Parsed) (k : ℕ) (c : Limit) → Holds (rule c (More s m)) n k → Built (More s m) (build (More s m) n) k
more_holds s m n k c (holds_both (holds_one a b) (holds_both {k = j} (holds_call (built_expr o e i h d)) r)) = more_built s m e _ i j _ h d (exprs_hold _ m _ j r) (omega arith)

-- CASE and COALESCE
branch_built : (m : ℕ) (x y : SqlExpr) (k : ℕ) → expr_form x ≡ true → expr_form y ≡ true → k ≡ m + max (expr_depth x) (expr_depth y) → Built (OneBranch m) (a_branch (record { test = x; value = y })) k
branch_built m x y k h i s =
    let b : Branch = record { test = x; value = y } in
    built_branch m b k (fold_branch form_step branch_form b ∙ both_true h i) (s ∙ ap (λ z. m + z) (sym (fold_branch depth_step branch_depth b)))

pub branch_holds : (m : ℕ) (n : Parsed) (k : ℕ) (c : Limit) → Holds (rule c (OneBranch m)) n k → Built (OneBranch m) (build (OneBranch m) n) k
branch_holds m n k c (holds_both (holds_one a b) (holds_both (holds_call (built_expr i x j h s)) (holds_both (holds_one d e) (holds_call (built_expr o y l f g))))) = branch_built m x y _ h f (omega arith)

branches_built : (m : ℕ) (b : Branch) (bs : List Branch) (i j k : ℕ) → of_branch b ≡ true → i ≡ m + branch_levels b → Inside of_branch branch_levels m bs j → k ≡ max i j → Built (Branches m) (branch_list (b ∷ bs)) k
branches_built m b bs i j k h d (inside f g) x = built_branches m b bs k (both_true h f) (sum (branch_levels b) (largest (map branch_levels bs)) d g x)
  where
    sum : (a b : ℕ) → i ≡ m + a → max m j ≡ m + b → k ≡ max i j → k ≡ m + max a b
    sum a b d g x = omega arith

pub branches_holds : (m : ℕ) (n : Parsed) (k : ℕ) (c : Limit) → Holds (rule c (Branches m)) n k → Built (Branches m) (build (Branches m) n) k
branches_holds m n k c (holds_both {k = j} (holds_call (built_branch o e i h d)) r) = branches_built m e _ i j _ h d (branches_hold m _ j r) refl

case_built : (m : ℕ) (b : Branch) (bs : List Branch) (e : SqlExpr) (k : ℕ) → branches_form (b ∷ bs) ≡ true → expr_form e ≡ true → k ≡ m + max (branches_depth (b ∷ bs)) (expr_depth e) → Built (Cases m) (an_expr (v.Case (b ∷ bs) e)) k
case_built m b bs e k h i s =
    built_cases m (v.Case (b ∷ bs) e) (max (branches_depth (b ∷ bs)) (expr_depth e)) k
    (fold_case form_step branch_form (b ∷ bs) e ∙ rw (le-leb 1 (length (map of_branch (b ∷ bs))) (omega arith), h, i) refl) (fold_case depth_step branch_depth (b ∷ bs) e) s

pub cases_holds : (m : ℕ) (n : Parsed) (k : ℕ) (c : Limit) → Holds (rule c (Cases m)) n k → Built (Cases m) (build (Cases m) n) k
cases_holds m n k c (holds_both (holds_one a b) (holds_both (holds_call (built_branches i x xs j h s)) (holds_both (holds_one d e) (holds_both (holds_call (built_expr o y l f g)) (holds_one p q))))) =
    case_built m x xs y _ h f (sum (branches_depth (x ∷ xs)) (expr_depth y) s g)
  where
    sum : (a b : ℕ) → j ≡ m + a → l ≡ m + b → max 0 (max j (max 0 (max l 0))) ≡ m + max a b
    sum a b s g = omega arith

pub firsts_holds : (m : ℕ) (n : Parsed) (k : ℕ) (c : Limit) → Holds (rule c (Firsts m)) n k → Built (Firsts m) (build (Firsts m) n) k
firsts_holds m n k c (holds_both (holds_one a b) (holds_both (holds_one d f) (holds_both (holds_call (built_expr i e j h s)) (holds_both (holds_call (built_more y o x xs l g q)) (holds_one p r))))) =
    first_built m e x xs _ h g (with_more m (expr_depth e) (exprs_depth (x ∷ xs)) l _ q (omega arith))

-- an expression and those around it
formed : (m : ℕ) (n : Parsed) (k : ℕ) → Holds (forms (m + 1)) n k → Built (Expr m) (build (Expr m) n) (max (m + 1) k)
formed m n k (holds_left (holds_call (built_simple e j h d s))) = built_expr m e _ h (omega arith)
formed m n k (holds_right (holds_left (holds_call (built_null e j h d s)))) = built_expr m e _ h (omega arith)
formed m n k (holds_right (holds_right (holds_left (holds_both (holds_one a b) (holds_both (holds_call (built_inner i e d j h l s)) (holds_one f g)))))) = built_expr m e _ h (omega arith)
formed m n k (holds_right (holds_right (holds_right (holds_left (holds_call (built_cases i e d j h l s)))))) = built_expr m e _ h (omega arith)
formed m n k (holds_right (holds_right (holds_right (holds_right (holds_call (built_firsts i e d j h l s)))))) = built_expr m e _ h (omega arith)

none : (m : ℕ) (n : Parsed) (k : ℕ) → Holds (one (λ k. false)) n k → Built (Expr m) (build (Expr m) n) (max (m + 1) k)
none m n k (holds_one a b) = absurd cc

pub expr_holds : (m : ℕ) (n : Parsed) (k : ℕ) (c : Limit) → Holds (rule c (Expr m)) n k → Built (Expr m) (build (Expr m) n) (max (m + 1) k)
expr_holds m n k c h = by (c m) h
  where
    by : (b : Bool) → Holds (if b then forms (m + 1) else one (λ k. false)) n k → Built (Expr m) (build (Expr m) n) (max (m + 1) k)
    by true h = formed m n k h
    by false h = none m n k h
