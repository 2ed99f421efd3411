-- The queries of the fragment: those that texts are, those that texts would be but for two limits, and the same with their variables
-- numbered in another way.
use Rattle.std.specs.Prelude.{◌≡◌, ◌≤◌, ◌<◌, ◌⊎◌, ℕ, List, [], map, length, slice_get, Option, Some, None}
use Rattle.query_meaning.specs.declared.pattern.Slot.{Slot}
use Rattle.query_meaning.specs.declared.pattern.Slot.TheVariants as slot
use Rattle.query_meaning.specs.declared.pattern.Pattern.{Pattern}
use Rattle.query_meaning.specs.declared.expression.ValueExpr.{ValueExpr, fold-ValueExpr}
use Rattle.query_meaning.specs.declared.expression.ValueExpr.TheVariants as values
use Rattle.query_meaning.specs.declared.expression.ValueExpr.TheOpen as value_layer
use Rattle.query_meaning.specs.declared.expression.ValueExpr.TheOpen.{ValueExpr-F}
use Rattle.query_meaning.specs.declared.expression.TruthExpr.{TruthExpr, fold-TruthExpr}
use Rattle.query_meaning.specs.declared.expression.TruthExpr.TheVariants as truths
use Rattle.query_meaning.specs.declared.expression.TruthExpr.TheOpen as truth_layer
use Rattle.query_meaning.specs.declared.expression.TruthExpr.TheOpen.{TruthExpr-F}
use Rattle.query_meaning.specs.declared.tree.Tree.{Tree, fold-Tree}
use Rattle.query_meaning.specs.declared.tree.Tree.TheVariants as trees
use Rattle.query_meaning.specs.declared.tree.Tree.TheOpen as layer
use Rattle.query_meaning.specs.declared.tree.Tree.TheOpen.{Tree-F}
use Rattle.query_meaning.specs.declared.modifiers.Key.{Key}
use Rattle.query_meaning.specs.declared.query.Query.{Query}
use Rattle.sparql_query_meaning.specs.Limits.{all_but_length_and_blocks}
use Rattle.sparql_query_meaning.specs.Queries.{IsQuery, IsQueryWithin}

-- ---- with other numbers for the variables

abbrev pub renumbered_slot : (ℕ → ℕ) → Slot → Slot
renumbered_slot f (slot.Var v) = slot.Var (f v)
renumbered_slot f (slot.Const t) = slot.Const t

abbrev pub renumbered_pattern : (ℕ → ℕ) → Pattern → Pattern
renumbered_pattern f p = record { number = p.number; s = renumbered_slot f p.s; p = renumbered_slot f p.p; o = renumbered_slot f p.o }

abbrev pub value_step : (ℕ → ℕ) → ValueExpr-F ValueExpr → ValueExpr
value_step f (value_layer.Var v) = values.Var (f v)
value_step f (value_layer.Const t) = values.Const t
value_step f (value_layer.Str e) = values.Str e
value_step f (value_layer.Lang e) = values.Lang e
value_step f (value_layer.Datatype e) = values.Datatype e

abbrev pub renumbered_value : (ℕ → ℕ) → ValueExpr → ValueExpr
renumbered_value f = fold-ValueExpr ValueExpr (value_step f)

abbrev pub truth_step : (ℕ → ℕ) → TruthExpr-F TruthExpr → TruthExpr
truth_step f (truth_layer.Value e) = truths.Value (renumbered_value f e)
truth_step f (truth_layer.Bound v) = truths.Bound (f v)
truth_step f (truth_layer.Compare c a b) = truths.Compare c (renumbered_value f a) (renumbered_value f b)
truth_step f (truth_layer.OneOf e es) = truths.OneOf (renumbered_value f e) (map (renumbered_value f) es)
truth_step f (truth_layer.SameTerm a b) = truths.SameTerm (renumbered_value f a) (renumbered_value f b)
truth_step f (truth_layer.Is t e) = truths.Is t (renumbered_value f e)
truth_step f (truth_layer.Not e) = truths.Not e
truth_step f (truth_layer.All es) = truths.All es
truth_step f (truth_layer.Any es) = truths.Any es

abbrev pub renumbered_truth : (ℕ → ℕ) → TruthExpr → TruthExpr
renumbered_truth f = fold-TruthExpr TruthExpr (truth_step f)

abbrev pub renumbered_condition : (ℕ → ℕ) → Option TruthExpr → Option TruthExpr
renumbered_condition f None = None
renumbered_condition f (Some e) = Some (renumbered_truth f e)

abbrev pub tree_step : (ℕ → ℕ) → Tree-F (List Pattern) (Tree (List Pattern)) → Tree (List Pattern)
tree_step f (layer.Leaf ps) = trees.Leaf (map (renumbered_pattern f) ps)
tree_step f (layer.Join a b) = trees.Join a b
tree_step f (layer.LeftJoin a b e) = trees.LeftJoin a b (renumbered_condition f e)
tree_step f (layer.Union a b) = trees.Union a b
tree_step f (layer.Filter e a) = trees.Filter (renumbered_truth f e) a

abbrev pub renumbered_tree : (ℕ → ℕ) → Tree (List Pattern) → Tree (List Pattern)
renumbered_tree f = fold-Tree (List Pattern) (Tree (List Pattern)) (tree_step f)

abbrev pub renumbered_key : (ℕ → ℕ) → Key → Key
renumbered_key f k = record { var = f k.var; down = k.down }

-- the query with these names, and with these variables shown
abbrev pub renumbered : (ℕ → ℕ) → List (List ℕ) → List ℕ → Query → Query
renumbered f names shown q = record {
  names = names;
  tree = renumbered_tree f q.tree;
  modifiers = record { shown = shown; distinct = q.modifiers.distinct; keys = map (renumbered_key f) q.modifiers.keys; skip = q.modifiers.skip; most = q.modifiers.most };
}

-- each name has its variable's new number, and no two variables get one number
pub record Renumbers (f : ℕ → ℕ) (old new : List (List ℕ)) : Type 0 where
  pub named : (v : ℕ) (name : List ℕ) → slice_get old v ≡ Some name → slice_get new (f v) ≡ Some name
  pub apart : (v w : ℕ) → v < length old → w < length old → f v ≡ f w → v ≡ w

-- ---- the fragment

-- some text is the query, or would be it but for the limits on its bytes and its groups in all; or the query differs from one of these
-- in the numbers of its variables, in further names, of which it has at most 64 in all, or in showing no variable
pub data OfFragment (q : Query) : Type 0 where
  of_text : (bytes : List ℕ) → IsQuery bytes q → OfFragment q
  of_longer_text : (bytes : List ℕ) → IsQueryWithin all_but_length_and_blocks bytes q → OfFragment q
  of_numbers : (bytes : List ℕ) (p : Query) (f : ℕ → ℕ) (shown : List ℕ) → IsQueryWithin all_but_length_and_blocks bytes p → Renumbers f p.names q.names → length q.names ≤ 64
      → (shown ≡ map f p.modifiers.shown) ⊎ (shown ≡ []) → q ≡ renumbered f q.names shown p → OfFragment q
