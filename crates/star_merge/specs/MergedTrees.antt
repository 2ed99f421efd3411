-- What merging makes of a tree (this project's own).
use Rattle.std.specs.Prelude.{◌≡◌, List}
use Rattle.layout_meaning.specs.Facts.{SpilledTerms}
use Rattle.query_meaning.specs.declared.tree.Tree.{Tree}
use Rattle.query_plan_meaning.specs.declared.star.Star.{Star}
use Rattle.query_tree_fold.specs.Trees.{Made, of_tree}
use Rattle.query_merging_meaning.specs.Merging.{merged_tree}

-- the merged tree
abbrev pub IsMergedTree : SpilledTerms → Made (Tree (List Star)) (List Star) → Type 0
IsMergedTree spilled (of_tree merged tree) = merged ≡ merged_tree spilled tree
