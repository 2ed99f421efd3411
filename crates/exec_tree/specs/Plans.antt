-- What is planned of a leaf and of a tree (this project's own).
use Rattle.std.specs.Prelude.{◌≡◌, true, List}
use Rattle.std.specs.List.{list_all}
use Rattle.layout_meaning.specs.Facts.{CountsOf}
use Rattle.query_meaning.specs.declared.pattern.Pattern.{Pattern}
use Rattle.query_meaning.specs.declared.tree.Tree.{Tree}
use Rattle.query_plan_meaning.specs.declared.star.Star.{Star}
use Rattle.query_plan_meaning.specs.Stars.{star_in_width}
use Rattle.query_plan_meaning.specs.Plans.{every_leaf}
use Rattle.query_tree_fold.specs.Trees.{Made, of_tree}
use Rattle.query_flow_meaning.specs.Planned.{planned_leaf, planned_tree}

-- the planned leaf, whose variables are those that there are
pub record IsPlannedLeaf (counts : CountsOf) (patterns : List Pattern) (stars : List Star) : Type 0 where
  pub same : stars ≡ planned_leaf counts patterns
  pub in_width : list_all star_in_width stars ≡ true

-- the same of a tree
pub record IsPlannedTree (counts : CountsOf) (tree : Tree (List Pattern)) (planned : Tree (List Star)) : Type 0 where
  pub same : planned ≡ planned_tree counts tree
  pub in_width : every_leaf (list_all star_in_width) planned ≡ true

-- the same as what a visitor makes of a tree
abbrev pub IsPlanned : CountsOf → Made (Tree (List Star)) (List Pattern) → Type 0
IsPlanned counts (of_tree planned tree) = IsPlannedTree counts tree planned
