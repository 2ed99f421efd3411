-- The parts of a tree, and what a visitor made of a tree (this project's own).
use Rattle.std.specs.Prelude.{List, [], ◌∷◌}
use Rattle.query_meaning.specs.declared.tree.Tree.{Tree, out-Tree}
use Rattle.query_meaning.specs.declared.tree.Tree.TheOpen.{Tree-F, Leaf, Join, LeftJoin, Union, Filter}

-- what was made of a tree, beside the tree
pub data Made (Out L : Type 0) : Type 0 where
  of_tree : Out → Tree L → Made Out L

-- the trees right inside one level of a tree
abbrev pub parts_in : {L : Type 0} → Tree-F L (Tree L) → List (Tree L)
parts_in (Leaf l) = []
parts_in (Join a b) = a ∷ b ∷ []
parts_in (LeftJoin a b c) = a ∷ b ∷ []
parts_in (Union a b) = a ∷ b ∷ []
parts_in (Filter c a) = a ∷ []

abbrev pub parts : {L : Type 0} → Tree L → List (Tree L)
parts {L} t = parts_in (out-Tree L t)

-- a visitor with no condition takes each tree
abbrev pub AnyTree : {L : Type 0} → Tree L → Type 0
AnyTree t = Unit {0}
