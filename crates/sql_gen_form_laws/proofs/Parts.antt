-- The parts of a SELECT: its columns, joins, condition and keys, and the whole of them.
use Rattle.std.proofs.Common.{◌≡◌, ℕ, ◌+◌, ◌<◌, ◌≤◌, Bool, true, ◌&&◌, ◌==◌, ◌⊎◌, inl, inr, List, [], ◌∷◌, ◌++◌, map, length, Some, None, pos, refl, subst, arith}
use Rattle.std.specs.Prelude.{max, false, if◌then◌else◌}
use Rattle.std.proofs.lemmas.Bool.{and_from, le-leb, eqb-true, or_cases}
use Rattle.std.specs.List.{filter}
use Rattle.bags.specs.BagLaws.{each-append, each-filter}
use Rattle.query_eval_meaning.specs.Mapping.{width}
use Rattle.table_meaning.specs.Names.{is_name}
use Rattle.sql_meaning.specs.declared.expression.SqlExpr.{SqlExpr}
use Rattle.sql_meaning.specs.declared.script.Core.{Core}
use Rattle.sql_meaning.specs.declared.script.Item.{Item}
use Rattle.sql_meaning.specs.declared.script.JoinTo.{JoinTo}
use Rattle.sql_meaning.specs.declared.script.SqlKey.{SqlKey}
use Rattle.sql_meaning.specs.Scripts.{largest, expr_depth, condition_depth, item_depth, join_depth, key_depth, sources_form, count_form}
use Rattle.sql_gen_step_laws.specs.StepSelects.{has, both, one_item, variable_item}
use Rattle.sql_gen_form_laws.specs.Fits.{ExprFits, ItemsFit, JoinsFit, ConditionFits, KeysFit, CoreFits, AreVariables}
use Rattle.sql_gen_form_laws.proofs.Expressions.{int-fits}
use Rattle.sql_gen_form_laws.proofs.Names.{column-name, one-name}

both_below : (a b n : ℕ) → a ≤ n → b ≤ n → max a b ≤ n
both_below a b n l m = omega arith

-- ---- variables

pub below_width : (vs : List ℕ) → AreVariables vs → (v : ℕ) → has vs v ≡ true → v < width
below_width [] all v e = cc
below_width (w ∷ vs) all v e = go (or_cases (w == v) (has vs v) e) (below_width vs all.1 v)
  where
    go : ((w == v) ≡ true) ⊎ (has vs v ≡ true) → (has vs v ≡ true → v < width) → v < width
    go (inl q) r = subst (λ u. u < width) (eqb-true w v q) all.0
    go (inr q) r = r q

pub both-variables : (vs ws : List ℕ) → AreVariables vs → AreVariables ws → AreVariables (both vs ws)
both-variables vs ws a b = each-append (λ v. v < width) vs (filter (λ w. if has vs w then false else true) ws) a (each-filter (λ v. v < width) (λ w. if has vs w then false else true) ws b)

-- ---- columns

pub no-items : (n : ℕ) → ItemsFit n []
no-items n = record { form = refl; depth = omega arith }

pub next-item : (n : ℕ) (i : Item) (items : List Item) → ExprFits n i.expr → is_name i.name ≡ true → ItemsFit n items → ItemsFit n (i ∷ items)
next-item n i items e p r = record { form = and_from _ _ (and_from _ _ e.form p) r.form; depth = both_below (expr_depth i.expr) (largest (map item_depth items)) n e.depth r.depth }

-- the columns of variables, before others
pub variable-items : (n : ℕ) (f : ℕ → SqlExpr) (us : List ℕ) (more : List Item) → ((v : ℕ) → v < width → ExprFits n (f v)) → AreVariables us → ItemsFit n more → ItemsFit n (map (variable_item f) us ++ more)
variable-items n f [] more fits all r = r
variable-items n f (u ∷ us) more fits all r = next-item n (variable_item f u) (map (variable_item f) us ++ more) (fits u all.0) (column-name u all.0) (variable-items n f us more fits all.1 r)

lone-variables : (n : ℕ) (f : ℕ → SqlExpr) (us : List ℕ) → ((v : ℕ) → v < width → ExprFits n (f v)) → AreVariables us → ItemsFit n (map (variable_item f) us)
lone-variables n f [] fits all = no-items n
lone-variables n f (u ∷ us) fits all = next-item n (variable_item f u) (map (variable_item f) us) (fits u all.0) (column-name u all.0) (lone-variables n f us fits all.1)

-- the ones, before others
pub one-before : (n : ℕ) (items : List Item) → ItemsFit (n + 1) items → ItemsFit (n + 1) (one_item ∷ items)
one-before n items r = next-item (n + 1) one_item items (int-fits n (pos 1) refl) one-name r

-- the ones and the columns of variables
pub step-items : (n : ℕ) (f : ℕ → SqlExpr) (us : List ℕ) → ((v : ℕ) → v < width → ExprFits (n + 1) (f v)) → AreVariables us → ItemsFit (n + 1) (one_item ∷ map (variable_item f) us)
step-items n f us fits all = one-before n (map (variable_item f) us) (lone-variables (n + 1) f us fits all)

-- ---- joins, conditions, keys

pub no-joins : (n : ℕ) → JoinsFit n []
no-joins n = record { form = refl; depth = omega arith }

pub next-join : (n : ℕ) (j : JoinTo) (joins : List JoinTo) → is_name j.source.table ≡ true → is_name j.source.alias ≡ true → ExprFits n j.on → JoinsFit n joins → JoinsFit n (j ∷ joins)
next-join n j joins p q e r = record { form = and_from _ _ (and_from _ _ (and_from _ _ p q) e.form) r.form; depth = both_below (expr_depth j.on) (largest (map join_depth joins)) n e.depth r.depth }

pub joins-more : (n m : ℕ) (joins : List JoinTo) → n ≤ m → JoinsFit n joins → JoinsFit m joins
joins-more n m joins l p = record { form = p.form; depth = omega (arith, p.depth) }

pub items-more : (n m : ℕ) (items : List Item) → n ≤ m → ItemsFit n items → ItemsFit m items
items-more n m items l p = record { form = p.form; depth = omega (arith, p.depth) }

pub no-condition : (n : ℕ) → ConditionFits n None
no-condition n = record { form = refl; depth = omega arith }

pub some-condition : (n : ℕ) (e : SqlExpr) → ExprFits n e → ConditionFits n (Some e)
some-condition n e p = record { form = p.form; depth = p.depth }

pub no-keys : (n : ℕ) → KeysFit n []
no-keys n = record { form = refl; depth = omega arith }

pub next-key : (n : ℕ) (k : SqlKey) (keys : List SqlKey) → ExprFits n k.expr → KeysFit n keys → KeysFit n (k ∷ keys)
next-key n k keys e r = record { form = and_from _ _ e.form r.form; depth = both_below (expr_depth k.expr) (largest (map key_depth keys)) n e.depth r.depth }

-- ---- the whole

seven : (a b c d e f g : Bool) → a ≡ true → b ≡ true → c ≡ true → d ≡ true → e ≡ true → f ≡ true → g ≡ true → (a && b && c && d && e && f && g) ≡ true
seven a b c d e f g p q r s t u v = rw (p, q, r, s, t, u, v) refl

pub core-fits : (n : ℕ) (c : Core) → 1 ≤ length c.items → ItemsFit n c.items → sources_form c.from c.joins ≡ true → largest (map join_depth c.joins) ≤ n → ConditionFits n c.condition → KeysFit n c.keys →
    count_form c.most ≡ true → count_form c.skip ≡ true → CoreFits n c
core-fits n c some items sources joins condition keys most skip = record {
  form = seven _ _ _ _ _ _ _ (le-leb 1 _ some) items.form sources condition.form keys.form most skip;
  depth = deepest (largest (map item_depth c.items)) (largest (map join_depth c.joins)) (condition_depth c.condition) (largest (map key_depth c.keys)) items.depth joins condition.depth keys.depth;
}
  where
    deepest : (a b d e : ℕ) → a ≤ n → b ≤ n → d ≤ n → e ≤ n → max a (max b (max d e)) ≤ n
    deepest a b d e k l m o = omega arith

-- a first source and joins to it
pub sources-fit : (n : ℕ) (a alias : List ℕ) (joins : List JoinTo) → is_name a ≡ true → is_name alias ≡ true → JoinsFit n joins → sources_form (Some (record { table = a; alias = alias })) joins ≡ true
sources-fit n a alias joins p q r = and_from _ _ (and_from _ _ p q) r.form
