-- What a set of variables tells of a tree (SPARQL 1.1 Query, sections 18.1.8 and 18.2.1).
use Rattle.std.specs.Prelude.{ℕ, List}
use Rattle.std.specs.List.{AllByRecursion}
use Rattle.rdf_meaning.specs.Terms.{RdfTriple}
use Rattle.query_meaning.specs.declared.pattern.Pattern.{Pattern}
use Rattle.query_meaning.specs.declared.tree.Tree.{Tree}
use Rattle.query_eval_meaning.specs.Mapping.{Mapping}
use Rattle.query_eval_meaning.specs.Eval.{eval}
use Rattle.query_eval_meaning.specs.Variables.{Variables, Binds, pattern_variables, variables_of, certain_of}
use Rattle.sparql_certain.specs.Certain.{Has}
use Rattle.query_tree_fold.specs.Trees.{Made, of_tree}

-- the variables of the tree's patterns
abbrev pub AreVariables : Made ℕ (List Pattern) → Type 0
AreVariables (of_tree set tree) = Has set (variables_of pattern_variables tree)

-- the certain variables, by what is certain of a leaf: every solution over every set of triples binds them
pub record IsCertainSet {L : Type 0} (leaves : L → Variables) (solutions : L → List RdfTriple → List Mapping) (set : ℕ) (tree : Tree L) : Type 0 where
  pub rule : Has set (certain_of leaves tree)
  pub bound : (g : List RdfTriple) → AllByRecursion (Binds (certain_of leaves tree)) (eval (λ l. solutions l g) tree)

abbrev pub AreCertain : {L : Type 0} → (L → Variables) → (L → List RdfTriple → List Mapping) → Made ℕ L → Type 0
AreCertain leaves solutions (of_tree set tree) = IsCertainSet leaves solutions set tree
