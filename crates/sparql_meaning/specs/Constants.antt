-- The constants of a query's patterns.
use Rattle.std.specs.Prelude.{List, [], ◌∷◌, ◌++◌, if◌then◌else◌}
use Rattle.std.specs.List.{flat_map, list_any}
use Rattle.rdf_meaning.specs.Terms.{RdfTerm, same_term}
use Rattle.query_meaning.specs.declared.pattern.Slot.{Slot}
use Rattle.query_meaning.specs.declared.pattern.Slot.TheVariants.{Var, Const}
use Rattle.query_meaning.specs.declared.pattern.Pattern.{Pattern}
use Rattle.query_meaning.specs.declared.tree.Tree.{Tree, fold-Tree}
use Rattle.query_meaning.specs.declared.tree.Tree.TheOpen as tree
use Rattle.query_meaning.specs.declared.tree.Tree.TheOpen.{Tree-F}

abbrev pub slot_constants : Slot → List RdfTerm
slot_constants (Var v) = []
slot_constants (Const t) = t ∷ []

abbrev pub pattern_constants : Pattern → List RdfTerm
pattern_constants p = slot_constants p.s ++ (slot_constants p.p ++ slot_constants p.o)

-- in order of the text, as often as they stand there
abbrev pub constants_step : Tree-F (List Pattern) (List RdfTerm) → List RdfTerm
constants_step (tree.Leaf ps) = flat_map pattern_constants ps
constants_step (tree.Join a b) = a ++ b
constants_step (tree.LeftJoin a b e) = a ++ b
constants_step (tree.Union a b) = a ++ b
constants_step (tree.Filter e a) = a

abbrev pub tree_constants : Tree (List Pattern) → List RdfTerm
tree_constants t = fold-Tree (List Pattern) (List RdfTerm) constants_step t

-- each term at its first place, behind those that are kept already
abbrev pub kept_once : List RdfTerm → List RdfTerm → List RdfTerm
kept_once kept [] = kept
kept_once kept (t ∷ ts) = kept_once (if list_any (same_term t) kept then kept else kept ++ t ∷ []) ts
