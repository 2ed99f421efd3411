-- From a query as it is written to the algebra (SPARQL 1.1 Query, section 18.2.2).
use Rattle.std.specs.Prelude.{Bool, true, false, List, [], ◌∷◌, ◌++◌, Option, Some, None, if◌then◌else◌}
use Rattle.query_meaning.specs.declared.pattern.Pattern.{Pattern}
use Rattle.query_meaning.specs.declared.expression.TruthExpr.{TruthExpr}
use Rattle.query_meaning.specs.declared.expression.TruthExpr.TheVariants as truth
use Rattle.query_meaning.specs.declared.tree.Tree.{Tree, out-Tree}
use Rattle.query_meaning.specs.declared.tree.Tree.TheVariants as tree
use Rattle.query_meaning.specs.declared.tree.Tree.TheOpen as open_tree
use Rattle.query_meaning.specs.declared.tree.Tree.TheOpen.{Tree-F}
use Rattle.query_meaning.specs.declared.query.Element.{Element, fold-Element}
use Rattle.query_meaning.specs.declared.query.Element.TheOpen as element
use Rattle.query_meaning.specs.declared.query.Element.TheOpen.{Element-F}
use Rattle.query_meaning.specs.declared.query.Group.{Group, Group-F, fold-Group}
use Rattle.query_meaning.specs.declared.query.Syntax.{Syntax}
use Rattle.query_meaning.specs.declared.query.Query.{Query}
use Rattle.sparql_meaning.specs.declared.gathered.Gathered.{Gathered}

abbrev pub Leaf : Type 0
Leaf = List Pattern

-- the patterns of no triple
abbrev pub is_empty_level : Tree-F Leaf (Tree Leaf) → Bool
is_empty_level (open_tree.Leaf []) = true
is_empty_level _ = false

abbrev pub is_empty : Tree Leaf → Bool
is_empty t = is_empty_level (out-Tree Leaf t)

-- joined to what stands before it, which counts for nothing where it is empty
abbrev pub joined : Tree Leaf → Tree Leaf → Tree Leaf
joined before t = if is_empty before then t else tree.Join before t

-- the patterns in front of the next element are one leaf
abbrev pub with_patterns : Tree Leaf → Leaf → Tree Leaf
with_patterns before [] = before
with_patterns before (p ∷ ps) = joined before (tree.Leaf (p ∷ ps))

-- all conditions in order; one stands for itself
abbrev pub conjunction : List TruthExpr → Option TruthExpr
conjunction [] = None
conjunction (e ∷ []) = Some e
conjunction (e ∷ f ∷ es) = Some (truth.All (e ∷ f ∷ es))

abbrev pub under : Option TruthExpr → Tree Leaf → Tree Leaf
under None t = t
under (Some e) t = tree.Filter e t

-- a group without its own conditions
abbrev pub bare : Gathered → Tree Leaf
bare g = with_patterns g.tree g.patterns

-- a group with its own conditions over all of it
abbrev pub whole : Gathered → Tree Leaf
whole g = under (conjunction g.conditions) (bare g)

-- what an element comes to, its groups being translated
pub data Part : Type 0 where
  patterns : Leaf → Part
  optional : Gathered → Part
  unions : List Gathered → Part
  condition : TruthExpr → Part

-- groups with UNION between them nest to the left
abbrev pub union_from : Tree Leaf → List Gathered → Tree Leaf
union_from t [] = t
union_from t (g ∷ gs) = union_from (tree.Union t (whole g)) gs

abbrev pub gathered : Tree Leaf → Leaf → List TruthExpr → Gathered
gathered t ps es = record { tree = t; patterns = ps; conditions = es }

-- a union of no groups adds nothing
abbrev pub take_part : Gathered → Part → Gathered
take_part g (patterns ps) = gathered g.tree (g.patterns ++ ps) g.conditions
take_part g (optional o) = gathered (tree.LeftJoin (bare g) (bare o) (conjunction o.conditions)) [] g.conditions
take_part g (unions []) = g
take_part g (unions (u ∷ us)) = gathered (joined (bare g) (union_from (whole u) us)) [] g.conditions
take_part g (condition e) = gathered g.tree g.patterns (g.conditions ++ e ∷ [])

abbrev pub take_parts : Gathered → List Part → Gathered
take_parts g [] = g
take_parts g (p ∷ ps) = take_parts (take_part g p) ps

-- before the first element
abbrev pub nothing_yet : Gathered
nothing_yet = gathered (tree.Leaf []) [] []

abbrev pub element_step : Element-F Part Gathered → Part
element_step (element.Triples ps) = patterns ps
element_step (element.Optional g) = optional g
element_step (element.Unions gs) = unions gs
element_step (element.Condition e) = condition e

abbrev pub group_step : Group-F Part Gathered → Gathered
group_step g = take_parts nothing_yet g.elements

abbrev pub part : Element → Part
part e = fold-Element Part Gathered element_step group_step e

abbrev pub group : Group → Gathered
group g = fold-Group Part Gathered element_step group_step g

-- a query of the algebra, for a query as it is written
abbrev pub translated : Syntax → Query
translated s = record { names = s.names; tree = whole (group s.group); modifiers = s.modifiers }
