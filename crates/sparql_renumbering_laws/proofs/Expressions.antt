-- Expressions with other numbers for their variables.
use Rattle.std.specs.Prelude.{◌≡◌, ℕ, suc, max, true, ◌&&◌, nat_lt, List, [], ◌∷◌, map, refl}
use Rattle.std.specs.List.{list_all, AllByRecursion}
use Rattle.std.proofs.Common.{sym, ap, ◌∙◌, subst}
use Rattle.rdf_meaning.specs.Terms.{RdfTerm}
use Rattle.query_meaning.specs.declared.expression.CompareOp.{CompareOp}
use Rattle.query_meaning.specs.declared.expression.TermTest.{TermTest}
use Rattle.query_meaning.specs.declared.expression.ValueExpr.{ValueExpr, map-ValueExpr}
use Rattle.query_meaning.specs.declared.expression.ValueExpr.TheVariants as values
use Rattle.query_meaning.specs.declared.expression.ValueExpr.TheOpen as value_layer
use Rattle.query_meaning.specs.declared.expression.ValueExpr.TheOpen.{ValueExpr-F}
use Rattle.query_meaning.specs.declared.expression.ValueExpr.TheFolds.{fold-roll-ValueExpr, ind-ValueExpr}
use Rattle.query_meaning.specs.declared.expression.ValueExpr.TheViews as value_views
use Rattle.query_meaning.specs.declared.expression.TruthExpr.{TruthExpr, map-TruthExpr}
use Rattle.query_meaning.specs.declared.expression.TruthExpr.TheVariants as truths
use Rattle.query_meaning.specs.declared.expression.TruthExpr.TheOpen as truth_layer
use Rattle.query_meaning.specs.declared.expression.TruthExpr.TheOpen.{TruthExpr-F}
use Rattle.query_meaning.specs.declared.expression.TruthExpr.TheFolds.{fold-roll-TruthExpr, ind-TruthExpr}
use Rattle.query_meaning.specs.declared.expression.TruthExpr.TheViews as truth_views
use Rattle.sparql_query_meaning.specs.Fragment.{value_step, renumbered_value, truth_step, renumbered_truth}
use Rattle.sparql_query_laws.specs.Within.{value_within, truth_within, all_true, within-Var, within-Const, within-Str, within-Lang, within-Datatype, within-Value, within-Bound, within-Compare, within-OneOf, within-SameTerm, within-Is, within-Not, within-All, within-Any}
use Rattle.sparql_query_laws.specs.Passing.{both_true}
use Rattle.sparql_query_laws.specs.Sound.{left_true, right_true}
use Rattle.sparql_query_laws.specs.Connectives.{deepest, connectives, connectives-Value, connectives-Bound, connectives-Compare, connectives-OneOf, connectives-SameTerm, connectives-Is, connectives-Not, connectives-All, connectives-Any}

-- ---- values

value_induction : (P : ValueExpr → Type 0) → ((v : ℕ) → P (values.Var v)) → ((t : RdfTerm) → P (values.Const t)) → ((e : ValueExpr) → P e → P (values.Str e)) → ((e : ValueExpr) → P e → P (values.Lang e)) →
    ((e : ValueExpr) → P e → P (values.Datatype e)) → (e : ValueExpr) → P e
value_induction P var const str lang datatype =
    ind-ValueExpr P (λ x y is. subst (λ (z : ValueExpr-F ValueExpr). P (value_views.roll-ValueExpr z)) is (node y))
  where
    node : (y : ValueExpr-F ((e : ValueExpr) × P e)) → P (value_views.roll-ValueExpr (map-ValueExpr ((e : ValueExpr) × P e) ValueExpr (λ e. e.0) y))
    node (value_layer.Var v) = subst P (sym (value_views.rolls-Var v)) (var v)
    node (value_layer.Const t) = subst P (sym (value_views.rolls-Const t)) (const t)
    node (value_layer.Str e) = subst P (sym (value_views.rolls-Str e.0)) (str e.0 e.1)
    node (value_layer.Lang e) = subst P (sym (value_views.rolls-Lang e.0)) (lang e.0 e.1)
    node (value_layer.Datatype e) = subst P (sym (value_views.rolls-Datatype e.0)) (datatype e.0 e.1)

module _ (f : ℕ → ℕ) where
  value-Var : (v : ℕ) → renumbered_value f (values.Var v) ≡ values.Var (f v)
  value-Var v = ap (renumbered_value f) (sym (value_views.rolls-Var v)) ∙ fold-roll-ValueExpr ValueExpr (value_step f) (value_layer.Var v)

  value-Const : (t : RdfTerm) → renumbered_value f (values.Const t) ≡ values.Const t
  value-Const t = ap (renumbered_value f) (sym (value_views.rolls-Const t)) ∙ fold-roll-ValueExpr ValueExpr (value_step f) (value_layer.Const t)

  value-Str : (e : ValueExpr) → renumbered_value f (values.Str e) ≡ values.Str (renumbered_value f e)
  value-Str e = ap (renumbered_value f) (sym (value_views.rolls-Str e)) ∙ fold-roll-ValueExpr ValueExpr (value_step f) (value_layer.Str e)

  value-Lang : (e : ValueExpr) → renumbered_value f (values.Lang e) ≡ values.Lang (renumbered_value f e)
  value-Lang e = ap (renumbered_value f) (sym (value_views.rolls-Lang e)) ∙ fold-roll-ValueExpr ValueExpr (value_step f) (value_layer.Lang e)

  value-Datatype : (e : ValueExpr) → renumbered_value f (values.Datatype e) ≡ values.Datatype (renumbered_value f e)
  value-Datatype e = ap (renumbered_value f) (sym (value_views.rolls-Datatype e)) ∙ fold-roll-ValueExpr ValueExpr (value_step f) (value_layer.Datatype e)

-- ---- truths

-- what holds of an expression whenever it holds of its parts
pub record IsPassedUp (P : TruthExpr → Type 0) : Type 0 where
  pub value : (e : ValueExpr) → P (truths.Value e)
  pub bound : (v : ℕ) → P (truths.Bound v)
  pub compare : (c : CompareOp) (a b : ValueExpr) → P (truths.Compare c a b)
  pub one_of : (e : ValueExpr) (es : List ValueExpr) → P (truths.OneOf e es)
  pub same_term : (a b : ValueExpr) → P (truths.SameTerm a b)
  pub is : (t : TermTest) (e : ValueExpr) → P (truths.Is t e)
  pub not : (e : TruthExpr) → P e → P (truths.Not e)
  pub all : (es : List TruthExpr) → AllByRecursion P es → P (truths.All es)
  pub any : (es : List TruthExpr) → AllByRecursion P es → P (truths.Any es)

each_first : {A : Type 0} (P : A → Type 0) (xs : List ((x : A) × P x)) → AllByRecursion P (map (λ e. e.0) xs)
each_first P [] = tt
each_first P (x ∷ xs) = (x.1, each_first P xs)

truth_induction : (P : TruthExpr → Type 0) → IsPassedUp P → (e : TruthExpr) → P e
truth_induction P up =
    ind-TruthExpr P (λ x y is. subst (λ (z : TruthExpr-F TruthExpr). P (truth_views.roll-TruthExpr z)) is (node y))
  where
    node : (y : TruthExpr-F ((e : TruthExpr) × P e)) → P (truth_views.roll-TruthExpr (map-TruthExpr ((e : TruthExpr) × P e) TruthExpr (λ e. e.0) y))
    node (truth_layer.Value e) = subst P (sym (truth_views.rolls-Value e)) (up.value e)
    node (truth_layer.Bound v) = subst P (sym (truth_views.rolls-Bound v)) (up.bound v)
    node (truth_layer.Compare c a b) = subst P (sym (truth_views.rolls-Compare c a b)) (up.compare c a b)
    node (truth_layer.OneOf e es) = subst P (sym (truth_views.rolls-OneOf e es)) (up.one_of e es)
    node (truth_layer.SameTerm a b) = subst P (sym (truth_views.rolls-SameTerm a b)) (up.same_term a b)
    node (truth_layer.Is t e) = subst P (sym (truth_views.rolls-Is t e)) (up.is t e)
    node (truth_layer.Not e) = subst P (sym (truth_views.rolls-Not e.0)) (up.not e.0 e.1)
    node (truth_layer.All es) = subst P (sym (truth_views.rolls-All (map (λ e. e.0) es))) (up.all (map (λ e. e.0) es) (each_first P es))
    node (truth_layer.Any es) = subst P (sym (truth_views.rolls-Any (map (λ e. e.0) es))) (up.any (map (λ e. e.0) es) (each_first P es))

module _ (f : ℕ → ℕ) where
  truth-Value : (e : ValueExpr) → renumbered_truth f (truths.Value e) ≡ truths.Value (renumbered_value f e)
  truth-Value e = ap (renumbered_truth f) (sym (truth_views.rolls-Value e)) ∙ fold-roll-TruthExpr TruthExpr (truth_step f) (truth_layer.Value e)

  truth-Bound : (v : ℕ) → renumbered_truth f (truths.Bound v) ≡ truths.Bound (f v)
  truth-Bound v = ap (renumbered_truth f) (sym (truth_views.rolls-Bound v)) ∙ fold-roll-TruthExpr TruthExpr (truth_step f) (truth_layer.Bound v)

  truth-Compare : (c : CompareOp) (a b : ValueExpr) → renumbered_truth f (truths.Compare c a b) ≡ truths.Compare c (renumbered_value f a) (renumbered_value f b)
  truth-Compare c a b = ap (renumbered_truth f) (sym (truth_views.rolls-Compare c a b)) ∙ fold-roll-TruthExpr TruthExpr (truth_step f) (truth_layer.Compare c a b)

  truth-OneOf : (e : ValueExpr) (es : List ValueExpr) → renumbered_truth f (truths.OneOf e es) ≡ truths.OneOf (renumbered_value f e) (map (renumbered_value f) es)
  truth-OneOf e es = ap (renumbered_truth f) (sym (truth_views.rolls-OneOf e es)) ∙ fold-roll-TruthExpr TruthExpr (truth_step f) (truth_layer.OneOf e es)

  truth-SameTerm : (a b : ValueExpr) → renumbered_truth f (truths.SameTerm a b) ≡ truths.SameTerm (renumbered_value f a) (renumbered_value f b)
  truth-SameTerm a b = ap (renumbered_truth f) (sym (truth_views.rolls-SameTerm a b)) ∙ fold-roll-TruthExpr TruthExpr (truth_step f) (truth_layer.SameTerm a b)

  truth-Is : (t : TermTest) (e : ValueExpr) → renumbered_truth f (truths.Is t e) ≡ truths.Is t (renumbered_value f e)
  truth-Is t e = ap (renumbered_truth f) (sym (truth_views.rolls-Is t e)) ∙ fold-roll-TruthExpr TruthExpr (truth_step f) (truth_layer.Is t e)

  truth-Not : (e : TruthExpr) → renumbered_truth f (truths.Not e) ≡ truths.Not (renumbered_truth f e)
  truth-Not e = ap (renumbered_truth f) (sym (truth_views.rolls-Not e)) ∙ fold-roll-TruthExpr TruthExpr (truth_step f) (truth_layer.Not e)

  truth-All : (es : List TruthExpr) → renumbered_truth f (truths.All es) ≡ truths.All (map (renumbered_truth f) es)
  truth-All es = ap (renumbered_truth f) (sym (truth_views.rolls-All es)) ∙ fold-roll-TruthExpr TruthExpr (truth_step f) (truth_layer.All es)

  truth-Any : (es : List TruthExpr) → renumbered_truth f (truths.Any es) ≡ truths.Any (map (renumbered_truth f) es)
  truth-Any es = ap (renumbered_truth f) (sym (truth_views.rolls-Any es)) ∙ fold-roll-TruthExpr TruthExpr (truth_step f) (truth_layer.Any es)

-- ---- variables that have names keep names, and the connectives stay

module _ (f : ℕ → ℕ) (n m : ℕ) (g : (v : ℕ) → nat_lt v n ≡ true → nat_lt (f v) m ≡ true) where
  abbrev pub ValueKept : ValueExpr → Type 0
  ValueKept e = value_within n e ≡ true → value_within m (renumbered_value f e) ≡ true

  pub value_kept : (e : ValueExpr) → ValueKept e
  value_kept =
      value_induction ValueKept (λ v h. ap (value_within m) (value-Var f v) ∙ within-Var m (f v) ∙ g v (sym (within-Var n v) ∙ h)) (λ t h. ap (value_within m) (value-Const f t) ∙ within-Const m t)
      (λ e later h. ap (value_within m) (value-Str f e) ∙ within-Str m (renumbered_value f e) ∙ later (sym (within-Str n e) ∙ h))
      (λ e later h. ap (value_within m) (value-Lang f e) ∙ within-Lang m (renumbered_value f e) ∙ later (sym (within-Lang n e) ∙ h))
      (λ e later h. ap (value_within m) (value-Datatype f e) ∙ within-Datatype m (renumbered_value f e) ∙ later (sym (within-Datatype n e) ∙ h))

  values_kept : (es : List ValueExpr) → list_all (value_within n) es ≡ true → list_all (value_within m) (map (renumbered_value f) es) ≡ true
  values_kept [] h = refl
  values_kept (e ∷ es) h = both_true (value_kept e (left_true (value_within n e) (list_all (value_within n) es) h)) (values_kept es (right_true (value_within n e) (list_all (value_within n) es) h))

  abbrev pub TruthKept : TruthExpr → Type 0
  TruthKept e = truth_within n e ≡ true → truth_within m (renumbered_truth f e) ≡ true

  two_kept : (a b : ValueExpr) → (value_within n a && value_within n b) ≡ true → (value_within m (renumbered_value f a) && value_within m (renumbered_value f b)) ≡ true
  two_kept a b h = both_true (value_kept a (left_true (value_within n a) (value_within n b) h)) (value_kept b (right_true (value_within n a) (value_within n b) h))

  truths_kept : (es : List TruthExpr) → AllByRecursion TruthKept es → all_true (map (truth_within n) es) ≡ true → all_true (map (truth_within m) (map (renumbered_truth f) es)) ≡ true
  truths_kept [] k h = refl
  truths_kept (e ∷ es) k h =
      both_true (k.0 (left_true (truth_within n e) (all_true (map (truth_within n) es)) h)) (truths_kept es k.1 (right_true (truth_within n e) (all_true (map (truth_within n) es)) h))

  pub truth_kept : (e : TruthExpr) → TruthKept e
  truth_kept =
      truth_induction TruthKept (record {
        value = λ e h. ap (truth_within m) (truth-Value f e) ∙ within-Value m (renumbered_value f e) ∙ value_kept e (sym (within-Value n e) ∙ h);
        bound = λ v h. ap (truth_within m) (truth-Bound f v) ∙ within-Bound m (f v) ∙ g v (sym (within-Bound n v) ∙ h);
        compare = λ c a b h. ap (truth_within m) (truth-Compare f c a b) ∙ within-Compare m c (renumbered_value f a) (renumbered_value f b) ∙ two_kept a b (sym (within-Compare n c a b) ∙ h);
        one_of = λ e es h.
            let k = sym (within-OneOf n e es) ∙ h in
            ap (truth_within m) (truth-OneOf f e es) ∙ within-OneOf m (renumbered_value f e) (map (renumbered_value f) es)
            ∙ both_true (value_kept e (left_true (value_within n e) (list_all (value_within n) es) k)) (values_kept es (right_true (value_within n e) (list_all (value_within n) es) k));
        same_term = λ a b h. ap (truth_within m) (truth-SameTerm f a b) ∙ within-SameTerm m (renumbered_value f a) (renumbered_value f b) ∙ two_kept a b (sym (within-SameTerm n a b) ∙ h);
        is = λ t e h. ap (truth_within m) (truth-Is f t e) ∙ within-Is m t (renumbered_value f e) ∙ value_kept e (sym (within-Is n t e) ∙ h);
        not = λ e k h. ap (truth_within m) (truth-Not f e) ∙ within-Not m (renumbered_truth f e) ∙ k (sym (within-Not n e) ∙ h);
        all = λ es k h. ap (truth_within m) (truth-All f es) ∙ within-All m (map (renumbered_truth f) es) ∙ truths_kept es k (sym (within-All n es) ∙ h);
        any = λ es k h. ap (truth_within m) (truth-Any f es) ∙ within-Any m (map (renumbered_truth f) es) ∙ truths_kept es k (sym (within-Any n es) ∙ h);
      })

module _ (f : ℕ → ℕ) where
  abbrev pub DepthKept : TruthExpr → Type 0
  DepthKept e = connectives (renumbered_truth f e) ≡ connectives e

  depths_kept : (es : List TruthExpr) → AllByRecursion DepthKept es → deepest (map connectives (map (renumbered_truth f) es)) ≡ deepest (map connectives es)
  depths_kept [] k = refl
  depths_kept (e ∷ es) k = ap (λ (x : ℕ). max x (deepest (map connectives (map (renumbered_truth f) es)))) k.0 ∙ ap (max (connectives e)) (depths_kept es k.1)

  pub depth_kept : (e : TruthExpr) → DepthKept e
  depth_kept =
      truth_induction DepthKept (record {
        value = λ e. ap connectives (truth-Value f e) ∙ connectives-Value (renumbered_value f e) ∙ sym (connectives-Value e);
        bound = λ v. ap connectives (truth-Bound f v) ∙ connectives-Bound (f v) ∙ sym (connectives-Bound v);
        compare = λ c a b. ap connectives (truth-Compare f c a b) ∙ connectives-Compare c (renumbered_value f a) (renumbered_value f b) ∙ sym (connectives-Compare c a b);
        one_of = λ e es. ap connectives (truth-OneOf f e es) ∙ connectives-OneOf (renumbered_value f e) (map (renumbered_value f) es) ∙ sym (connectives-OneOf e es);
        same_term = λ a b. ap connectives (truth-SameTerm f a b) ∙ connectives-SameTerm (renumbered_value f a) (renumbered_value f b) ∙ sym (connectives-SameTerm a b);
        is = λ t e. ap connectives (truth-Is f t e) ∙ connectives-Is t (renumbered_value f e) ∙ sym (connectives-Is t e);
        not = λ e k. ap connectives (truth-Not f e) ∙ connectives-Not (renumbered_truth f e) ∙ ap suc k ∙ sym (connectives-Not e);
        all = λ es k. ap connectives (truth-All f es) ∙ connectives-All (map (renumbered_truth f) es) ∙ ap suc (depths_kept es k) ∙ sym (connectives-All es);
        any = λ es k. ap connectives (truth-Any f es) ∙ connectives-Any (map (renumbered_truth f) es) ∙ ap suc (depths_kept es k) ∙ sym (connectives-Any es);
      })
