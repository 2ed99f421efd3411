-- The plan of a query: in each leaf a star for each pattern, in the order of the leaf's flow (this project's own).
use Rattle.std.specs.Prelude.{Bool, true, not, ◌&&◌, List, [], ◌∷◌, map}
use Rattle.std.specs.List.{list_any, list_all}
use Rattle.rdf_meaning.specs.declared.side.SideName.TheVariants as sides
use Rattle.layout_meaning.specs.Facts.{CountsOf}
use Rattle.query_meaning.specs.declared.pattern.Pattern.{Pattern}
use Rattle.query_meaning.specs.declared.query.Query.{Query}
use Rattle.query_meaning.specs.declared.tree.Tree.{Tree, fold-Tree}
use Rattle.query_meaning.specs.declared.tree.Tree.TheVariants as trees
use Rattle.query_meaning.specs.declared.tree.Tree.TheOpen.{Tree-F, Leaf, Join, LeftJoin, Union, Filter}
use Rattle.query_plan_meaning.specs.declared.star.Star.{Star}
use Rattle.query_plan_meaning.specs.declared.plan.Plan.{Plan}
use Rattle.query_plan_meaning.specs.Merged.{both}
use Rattle.query_flow_meaning.specs.declared.step.Method.{Method}
use Rattle.query_flow_meaning.specs.declared.step.Method.TheVariants.{Direct, Reverse, Scan}
use Rattle.query_eval_meaning.specs.Width.{pattern_in_width}
use Rattle.query_flow_meaning.specs.Flow.{Choice, same_number, flow_of}

-- a star on the object where the pattern is looked up from it, and else on the subject
abbrev pub star_by : Pattern → Method → Star
star_by p Reverse = both p.o sides.Reverse (record { pattern = p.number; pred = p.p; value = p.s } ∷ []) []
star_by p Direct = both p.s sides.Direct (record { pattern = p.number; pred = p.p; value = p.o } ∷ []) []
star_by p Scan = both p.s sides.Direct (record { pattern = p.number; pred = p.p; value = p.o } ∷ []) []

abbrev pub star_of : Choice → Star
star_of c = star_by c.pattern c.method

abbrev pub planned_leaf : CountsOf → List Pattern → List Star
planned_leaf counts patterns = map star_of (flow_of counts patterns)

-- what is asked of a leaf: no two patterns have one number, and all variables are numbered below the width
abbrev pub are_numbered_apart : List Pattern → Bool
are_numbered_apart [] = true
are_numbered_apart (p ∷ ps) = not (list_any (same_number p) ps) && are_numbered_apart ps

abbrev pub is_ready : List Pattern → Bool
is_ready patterns = are_numbered_apart patterns && list_all pattern_in_width patterns

-- ---- trees

abbrev pub leaves_step : {L M : Type 0} → (L → M) → Tree-F L (Tree M) → Tree M
leaves_step f (Leaf l) = trees.Leaf (f l)
leaves_step f (Join a b) = trees.Join a b
leaves_step f (LeftJoin a b c) = trees.LeftJoin a b c
leaves_step f (Union a b) = trees.Union a b
leaves_step f (Filter c a) = trees.Filter c a

-- the tree with other leaves
abbrev pub with_leaves : {L M : Type 0} → (L → M) → Tree L → Tree M
with_leaves {L} {M} f = fold-Tree L (Tree M) (leaves_step f)

abbrev pub planned_tree : CountsOf → Tree (List Pattern) → Tree (List Star)
planned_tree counts tree = with_leaves (planned_leaf counts) tree

abbrev pub planned : CountsOf → Query → Plan
planned counts q = record { names = q.names; tree = planned_tree counts q.tree; modifiers = q.modifiers }
