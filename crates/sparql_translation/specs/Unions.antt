-- Groups with UNION between them, one by one (SPARQL 1.1 Query, section 18.2.2.5).
use Rattle.std.specs.Prelude.{◌≡◌, List, [], ◌∷◌, ◌++◌, Option, Some, None, refl}
use Rattle.std.proofs.Common.{ap}
use Rattle.query_meaning.specs.declared.tree.Tree.{Tree}
use Rattle.query_meaning.specs.declared.tree.Tree.TheVariants as tree
use Rattle.sparql_meaning.specs.declared.gathered.Gathered.{Gathered}
use Rattle.sparql_meaning.specs.Translation.{Leaf, joined, bare, whole, unions, union_from, gathered, take_part}

-- one more group behind those that stand before it
abbrev pub behind : Option (Tree Leaf) → Gathered → Tree Leaf
behind None g = whole g
behind (Some t) g = tree.Union t (whole g)

-- the tree of all groups, where there are some
abbrev pub tree_of : List Gathered → Option (Tree Leaf)
tree_of [] = None
tree_of (g ∷ gs) = Some (union_from (whole g) gs)

-- it is joined to what was gathered before it
abbrev pub take_tree : Gathered → Option (Tree Leaf) → Gathered
take_tree before None = before
take_tree before (Some t) = gathered (joined (bare before) t) [] before.conditions

union_of_more : (t : Tree Leaf) (gs : List Gathered) (g : Gathered) → union_from t (gs ++ g ∷ []) ≡ tree.Union (union_from t gs) (whole g)
union_of_more t [] g = refl
union_of_more t (first ∷ gs) g = union_of_more (tree.Union t (whole first)) gs g

pub tree_of_more : (gs : List Gathered) (g : Gathered) → tree_of (gs ++ g ∷ []) ≡ Some (behind (tree_of gs) g)
tree_of_more [] g = refl
tree_of_more (first ∷ gs) g = ap (λ (t : Tree Leaf). Some t) (union_of_more (whole first) gs g)

pub tree_taken : (before : Gathered) (gs : List Gathered) → take_tree before (tree_of gs) ≡ take_part before (unions gs)
tree_taken before [] = refl
tree_taken before (first ∷ gs) = refl
