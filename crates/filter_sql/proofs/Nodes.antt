-- The SQL of each kind of truth expression.
use Rattle.std.proofs.Common.{◌≡◌, ℕ, Bool, true, List, [], ◌∷◌, map, refl, sym, ap, ap₂, ◌∙◌}
use Rattle.std.specs.Prelude.{Result, Ok, Err, IfOk}
use Rattle.std.specs.List.{list_all}
use Rattle.std.proofs.lemmas.Bool.{and_from}
use Rattle.query_meaning.specs.declared.expression.CompareOp.{CompareOp}
use Rattle.query_meaning.specs.declared.expression.TermTest.{TermTest}
use Rattle.query_meaning.specs.declared.expression.ValueExpr.{ValueExpr}
use Rattle.query_meaning.specs.declared.expression.TruthExpr.{TruthExpr, out-TruthExpr, fold_out-TruthExpr, map-TruthExpr}
use Rattle.query_meaning.specs.declared.expression.TruthExpr.TheVariants as truths
use Rattle.query_meaning.specs.declared.expression.TruthExpr.TheOpen as truth
use Rattle.query_meaning.specs.declared.expression.TruthExpr.TheOpen.{TruthExpr-F}
use Rattle.query_meaning.specs.declared.expression.TruthExpr.TheViews as views
use Rattle.sql_meaning.specs.declared.expression.SqlExpr.{SqlExpr}
use Rattle.sql_meaning.specs.declared.expression.SqlExpr.TheVariants as sql
use Rattle.sql_alias_meaning.specs.Each.{Each, none, next}
use Rattle.sql_gen_step_laws.specs.StepSelects.{every}
use Rattle.sql_gen_filter_meaning.specs.Chains.{Chain, chain_of, chain_value, value_sql}
use Rattle.sql_gen_filter_meaning.specs.Tests.{some_of, same_sql, equal_sql, compare_sql, kind_sql, effective_sql, bound_sql}
use Rattle.sql_gen_filter_meaning.specs.Filters.{filter_sql, filter_sql_step}
use Rattle.sql_gen_filter_meaning.specs.Leaves.{truth_passes_step}
use Rattle.sql_gen_filter_form_laws.specs.Written.{is_variable, is_written_term, is_written_value, is_written}
use Rattle.filter_sql.specs.SqlOf.{IsSqlOf}

-- what is there of one level
level : (n : TruthExpr) (d : TruthExpr-F TruthExpr) (x : SqlExpr) → out-TruthExpr n ≡ d → x ≡ filter_sql_step (map-TruthExpr TruthExpr SqlExpr filter_sql d) →
    truth_passes_step is_variable is_written_term (map-TruthExpr TruthExpr Bool is_written d) ≡ true → IsSqlOf x n
level n d x is same ok = record {
  sql = same ∙ sym (fold_out-TruthExpr SqlExpr filter_sql_step n ∙ ap (λ (d : TruthExpr-F TruthExpr). filter_sql_step (map-TruthExpr TruthExpr SqlExpr filter_sql d)) is);
  written = fold_out-TruthExpr Bool (truth_passes_step is_variable is_written_term) n ∙ ap (λ (d : TruthExpr-F TruthExpr). truth_passes_step is_variable is_written_term (map-TruthExpr TruthExpr Bool is_written d)) is ∙ ok;
}

-- a node that is made so opens to that
opens : (n : TruthExpr) (d : TruthExpr-F TruthExpr) → n ≡ views.roll-TruthExpr d → out-TruthExpr n ≡ d
opens n d is = ap out-TruthExpr is ∙ views.out-roll-TruthExpr d

pub of_value : (n : TruthExpr) (a : ValueExpr) (x : SqlExpr) → n ≡ truths.Value a → x ≡ effective_sql (value_sql a) → is_written_value a ≡ true → IsSqlOf x n
of_value n a x is same ok = level n (truth.Value a) x (opens n (truth.Value a) (is ∙ sym (views.rolls-Value a))) same ok

pub of_bound : (n : TruthExpr) (v : ℕ) (x : SqlExpr) → n ≡ truths.Bound v → x ≡ bound_sql v → is_variable v ≡ true → IsSqlOf x n
of_bound n v x is same ok = level n (truth.Bound v) x (opens n (truth.Bound v) (is ∙ sym (views.rolls-Bound v))) same ok

pub of_compare : (n : TruthExpr) (c : CompareOp) (a b : ValueExpr) (x : SqlExpr) → n ≡ truths.Compare c a b → x ≡ compare_sql c (value_sql a) (value_sql b) → is_written_value a ≡ true → is_written_value b ≡ true → IsSqlOf x n
of_compare n c a b x is same p q = level n (truth.Compare c a b) x (opens n (truth.Compare c a b) (is ∙ sym (views.rolls-Compare c a b))) same (and_from _ _ p q)

pub of_one_of : (n : TruthExpr) (a : ValueExpr) (bs : List ValueExpr) (x : SqlExpr) → n ≡ truths.OneOf a bs → x ≡ some_of (map (λ d. equal_sql (value_sql a) (value_sql d)) bs) → is_written_value a ≡ true → list_all is_written_value bs ≡ true → IsSqlOf x n
of_one_of n a bs x is same p q = level n (truth.OneOf a bs) x (opens n (truth.OneOf a bs) (is ∙ sym (views.rolls-OneOf a bs))) same (and_from _ _ p q)

pub of_same_term : (n : TruthExpr) (a b : ValueExpr) (x : SqlExpr) → n ≡ truths.SameTerm a b → x ≡ same_sql (value_sql a) (value_sql b) → is_written_value a ≡ true → is_written_value b ≡ true → IsSqlOf x n
of_same_term n a b x is same p q = level n (truth.SameTerm a b) x (opens n (truth.SameTerm a b) (is ∙ sym (views.rolls-SameTerm a b))) same (and_from _ _ p q)

pub of_kind : (n : TruthExpr) (t : TermTest) (a : ValueExpr) (x : SqlExpr) → n ≡ truths.Is t a → x ≡ kind_sql t (value_sql a) → is_written_value a ≡ true → IsSqlOf x n
of_kind n t a x is same ok = level n (truth.Is t a) x (opens n (truth.Is t a) (is ∙ sym (views.rolls-Is t a))) same ok

pub of_not : (n e : TruthExpr) (x y : SqlExpr) → out-TruthExpr n ≡ truth.Not e → IsSqlOf y e → x ≡ sql.Not y → IsSqlOf x n
of_not n e x y is part same = level n (truth.Not e) x is (same ∙ ap (λ (s : SqlExpr). sql.Not s) part.sql) part.written

each_sql : (xs : List SqlExpr) (es : List TruthExpr) → Each IsSqlOf xs es → xs ≡ map filter_sql es
each_sql [] [] none = refl
each_sql [] (e ∷ es) h = elim h [ ]
each_sql (x ∷ xs) [] h = elim h [ ]
each_sql (x ∷ xs) (e ∷ es) (next p h) = ap₂ (λ (y : SqlExpr) (ys : List SqlExpr). y ∷ ys) p.sql (each_sql xs es h)

each_written : (xs : List SqlExpr) (es : List TruthExpr) → Each IsSqlOf xs es → list_all (λ b. b) (map is_written es) ≡ true
each_written [] [] none = refl
each_written [] (e ∷ es) h = elim h [ ]
each_written (x ∷ xs) [] h = elim h [ ]
each_written (x ∷ xs) (e ∷ es) (next p h) = and_from _ _ p.written (each_written xs es h)

pub of_all : (n : TruthExpr) (es : List TruthExpr) (x : SqlExpr) (xs : List SqlExpr) → out-TruthExpr n ≡ truth.All es → Each (λ y e. IsSqlOf y e) xs es → x ≡ every xs → IsSqlOf x n
of_all n es x xs is parts same = level n (truth.All es) x is (same ∙ ap every (each_sql xs es parts)) (each_written xs es parts)

pub of_any : (n : TruthExpr) (es : List TruthExpr) (x : SqlExpr) (xs : List SqlExpr) → out-TruthExpr n ≡ truth.Any es → Each (λ y e. IsSqlOf y e) xs es → x ≡ some_of xs → IsSqlOf x n
of_any n es x xs is parts same = level n (truth.Any es) x is (same ∙ ap some_of (each_sql xs es parts)) (each_written xs es parts)

pub if_ok : {X E : Type 0} {P Q : X → Type 0} (r : Result X E) → ((x : X) → P x → Q x) → IfOk r P → IfOk r Q
if_ok (Ok x) f p = f x p
if_ok (Err e) f p = tt

if_both : {X E : Type 0} {P Q R : X → Type 0} (r : Result X E) → ((x : X) → P x → Q x → R x) → IfOk r P → IfOk r Q → IfOk r R
if_both (Ok x) f p q = f x p q
if_both (Err e) f p q = tt

pub one_of_made : {E : Type 0} (r : Result SqlExpr E) (n : TruthExpr) (a : ValueExpr) (c : Chain) (bs ds : List ValueExpr) → n ≡ truths.OneOf a bs → c ≡ chain_of a → ds ≡ bs → is_written_value a ≡ true →
    IfOk r (λ x. x ≡ some_of (map (λ d. equal_sql (chain_value c) (value_sql d)) ds)) → IfOk r (λ x. list_all is_written_value ds ≡ true) → IfOk r (λ x. IsSqlOf x n)
one_of_made r n a c bs ds is chain same ok made written =
    if_both r (λ x p q. of_one_of n a bs x is
    (p ∙ ap₂ (λ (k : Chain) (es : List ValueExpr). some_of (map (λ d. equal_sql (chain_value k) (value_sql d)) es)) chain same) ok
    (ap (λ (es : List ValueExpr). list_all is_written_value es) (sym same) ∙ q)) made written

pub ruleset node_laws = (of_value, of_bound, of_compare, of_same_term, of_kind, of_not, of_all, of_any)
