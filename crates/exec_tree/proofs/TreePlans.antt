-- The planned tree, by the first level of a tree.
use Rattle.std.specs.Prelude.{◌≡◌, true, List, Option}
use Rattle.std.proofs.Common.{sym, ap, ap₂, ◌∙◌}
use Rattle.std.proofs.lemmas.Bool.{and_from}
use Rattle.std.specs.List.{list_all}
use Rattle.layout_meaning.specs.Facts.{CountsOf}
use Rattle.query_meaning.specs.declared.expression.TruthExpr.{TruthExpr}
use Rattle.query_meaning.specs.declared.pattern.Pattern.{Pattern}
use Rattle.query_meaning.specs.declared.tree.Tree.{Tree, out-Tree, fold_out-Tree, map-Tree}
use Rattle.query_meaning.specs.declared.tree.Tree.TheVariants as trees
use Rattle.query_meaning.specs.declared.tree.Tree.TheOpen as layer
use Rattle.query_meaning.specs.declared.tree.Tree.TheOpen.{Tree-F}
use Rattle.query_plan_meaning.specs.declared.star.Star.{Star}
use Rattle.query_plan_meaning.specs.Stars.{star_in_width}
use Rattle.query_plan_meaning.specs.Plans.{every_leaf}
use Rattle.query_plan_meaning.specs.PlanLaws.{every-Leaf, every-Join, every-LeftJoin, every-Union, every-Filter}
use Rattle.query_flow_meaning.specs.Planned.{leaves_step, planned_leaf, planned_tree}
use Rattle.exec_tree.specs.Plans.{IsPlannedLeaf, IsPlannedTree}

abbrev Patterns : Type 0
Patterns = Tree (List Pattern)

abbrev Stars : Type 0
Stars = Tree (List Star)

abbrev Layer : Type 0
Layer = Tree-F (List Pattern) (Tree (List Pattern))

module _ (counts : CountsOf) where
  opened : (n : Patterns) (d : Layer) → out-Tree (List Pattern) n ≡ d → planned_tree counts n ≡ leaves_step (planned_leaf counts) (map-Tree (List Pattern) Patterns Stars (planned_tree counts) d)
  opened n d is = fold_out-Tree (List Pattern) Stars (leaves_step (planned_leaf counts)) n ∙ ap (λ (e : Layer). leaves_step (planned_leaf counts) (map-Tree (List Pattern) Patterns Stars (planned_tree counts) e)) is

  pub planned-Leaf : (n : Patterns) (ps : List Pattern) (stars : List Star) → out-Tree (List Pattern) n ≡ layer.Leaf ps → IsPlannedLeaf counts ps stars → IsPlannedTree counts n (trees.Leaf stars)
  planned-Leaf n ps stars is h = record {
    same = ap (λ (l : List Star). trees.Leaf l) h.same ∙ sym (opened n (layer.Leaf ps) is);
    in_width = every-Leaf (list_all star_in_width) stars ∙ h.in_width;
  }

  pub planned-Join : (n a b : Patterns) (x y : Stars) → out-Tree (List Pattern) n ≡ layer.Join a b → IsPlannedTree counts a x → IsPlannedTree counts b y → IsPlannedTree counts n (trees.Join x y)
  planned-Join n a b x y is h k = record {
    same = ap₂ (λ (s t : Stars). trees.Join s t) h.same k.same ∙ sym (opened n (layer.Join a b) is);
    in_width = every-Join (list_all star_in_width) x y ∙ and_from (every_leaf (list_all star_in_width) x) (every_leaf (list_all star_in_width) y) h.in_width k.in_width;
  }

  pub planned-LeftJoin : (n a b : Patterns) (c d : Option TruthExpr) (x y : Stars) → out-Tree (List Pattern) n ≡ layer.LeftJoin a b c → d ≡ c → IsPlannedTree counts a x → IsPlannedTree counts b y → IsPlannedTree counts n (trees.LeftJoin x y d)
  planned-LeftJoin n a b c d x y is e h k = record {
    same =
        ap (λ (f : Option TruthExpr). trees.LeftJoin x y f) e ∙ ap₂ (λ (s t : Stars). trees.LeftJoin s t c) h.same k.same
        ∙ sym (opened n (layer.LeftJoin a b c) is);
    in_width = every-LeftJoin (list_all star_in_width) x y d ∙ and_from (every_leaf (list_all star_in_width) x) (every_leaf (list_all star_in_width) y) h.in_width k.in_width;
  }

  pub planned-Union : (n a b : Patterns) (x y : Stars) → out-Tree (List Pattern) n ≡ layer.Union a b → IsPlannedTree counts a x → IsPlannedTree counts b y → IsPlannedTree counts n (trees.Union x y)
  planned-Union n a b x y is h k = record {
    same = ap₂ (λ (s t : Stars). trees.Union s t) h.same k.same ∙ sym (opened n (layer.Union a b) is);
    in_width = every-Union (list_all star_in_width) x y ∙ and_from (every_leaf (list_all star_in_width) x) (every_leaf (list_all star_in_width) y) h.in_width k.in_width;
  }

  pub planned-Filter : (n a : Patterns) (c d : TruthExpr) (x : Stars) → out-Tree (List Pattern) n ≡ layer.Filter c a → d ≡ c → IsPlannedTree counts a x → IsPlannedTree counts n (trees.Filter d x)
  planned-Filter n a c d x is e h = record {
    same = ap (λ (f : TruthExpr). trees.Filter f x) e ∙ ap (λ (t : Stars). trees.Filter c t) h.same ∙ sym (opened n (layer.Filter c a) is);
    in_width = every-Filter (list_all star_in_width) d x ∙ h.in_width;
  }

pub ruleset tree_laws = (planned-Leaf, planned-Join, planned-LeftJoin, planned-Union, planned-Filter)
