-- The solutions of a query's tree (SPARQL 1.1 Query, section 18.5), as a list of mappings that is read as a bag.
use Rattle.std.specs.Prelude.{Bool, true, List, [], ◌∷◌, ◌++◌, map, Option, Some, None}
use Rattle.std.specs.List.{flat_map, filter}
use Rattle.rdf_meaning.specs.Terms.{RdfTriple}
use Rattle.query_meaning.specs.declared.expression.TruthExpr.{TruthExpr}
use Rattle.query_meaning.specs.declared.pattern.Pattern.{Pattern}
use Rattle.query_meaning.specs.declared.tree.Tree.{Tree, fold-Tree}
use Rattle.query_meaning.specs.declared.tree.Tree.TheOpen.{Tree-F, Leaf, Join, LeftJoin, Union, Filter}
use Rattle.query_eval_meaning.specs.Mapping.{Mapping, compatible, merge}
use Rattle.query_eval_meaning.specs.Expressions.{truth_over, is_true}
use Rattle.query_eval_meaning.specs.Leaf.{leaf}
use Rattle.query_eval_meaning.specs.Answer.{Row, ordered_answer}
use Rattle.query_meaning.specs.declared.query.Query.{Query}

-- for each two compatible mappings their merge
abbrev pub join : List Mapping → List Mapping → List Mapping
join ls rs = flat_map (λ a. map (merge a) (filter (compatible a) rs)) ls

-- the mappings, or one alone where there are none
abbrev pub or_alone : Mapping → List Mapping → List Mapping
or_alone a [] = a ∷ []
or_alone a (m ∷ ms) = m ∷ ms

-- the merges of one mapping with compatible ones that pass
abbrev pub found : (Mapping → Bool) → List Mapping → Mapping → List Mapping
found passes rs a = filter passes (map (merge a) (filter (compatible a) rs))

-- for each mapping of the left side its merges that pass, or itself alone where there are none
abbrev pub left_join : (Mapping → Bool) → List Mapping → List Mapping → List Mapping
left_join passes ls rs = flat_map (λ a. or_alone a (found passes rs a)) ls

-- an error of the condition counts as not true
abbrev pub holds_over : TruthExpr → Mapping → Bool
holds_over f m = is_true (truth_over f m)

-- an absent condition is true
abbrev pub passes_over : Option TruthExpr → Mapping → Bool
passes_over None m = true
passes_over (Some f) m = holds_over f m

abbrev pub eval_step : {L : Type 0} → (L → List Mapping) → Tree-F L (List Mapping) → List Mapping
eval_step leaves (Leaf l) = leaves l
eval_step leaves (Join a b) = join a b
eval_step leaves (LeftJoin a b f) = left_join (passes_over f) a b
eval_step leaves (Union a b) = a ++ b
eval_step leaves (Filter f a) = filter (holds_over f) a

-- a tree's solutions, by what its leaves mean
abbrev pub eval : {L : Type 0} → (L → List Mapping) → Tree L → List Mapping
eval {L} leaves = fold-Tree L (List Mapping) (eval_step leaves)

-- the solutions of a query's tree over triples
abbrev pub solutions : Tree (List Pattern) → List RdfTriple → List Mapping
solutions tree g = eval (λ ps. leaf ps g) tree

-- the rows of a query over triples
abbrev pub answer_of : Query → List RdfTriple → List Row
answer_of q g = ordered_answer q.modifiers (solutions q.tree g)
