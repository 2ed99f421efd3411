-- The variables of a tree, those that every solution binds, and what a solution binds (SPARQL 1.1 Query, sections 18.1.8 and 18.2.1).
use Rattle.std.specs.Prelude.{◌≡◌, ◌<◌, ◌≤◌, ℕ, Bool, true, ◌&&◌, ◌||◌, List, Some, None, is_some}
use Rattle.std.specs.List.{list_any}
use Rattle.rdf_meaning.specs.Terms.{RdfTerm, same_term}
use Rattle.query_meaning.specs.declared.pattern.Pattern.{Pattern}
use Rattle.query_meaning.specs.declared.tree.Tree.{Tree, fold-Tree}
use Rattle.query_meaning.specs.declared.tree.Tree.TheOpen.{Tree-F, Leaf, Join, LeftJoin, Union, Filter}
use Rattle.query_eval_meaning.specs.Leaf.{in_pattern}
use Rattle.query_eval_meaning.specs.Mapping.{Mapping, width}

-- a set of variables, as a test
abbrev pub Variables : Type 0
Variables = ℕ → Bool

abbrev pub in_both : Variables → Variables → Variables
in_both vs ws v = vs v && ws v

abbrev pub in_either : Variables → Variables → Variables
in_either vs ws v = vs v || ws v

-- the variables of patterns
abbrev pub pattern_variables : List Pattern → Variables
pattern_variables ps v = list_any (in_pattern v) ps

abbrev pub variables_step : {L : Type 0} → (L → Variables) → Tree-F L Variables → Variables
variables_step leaves (Leaf l) = leaves l
variables_step leaves (Join a b) = in_either a b
variables_step leaves (LeftJoin a b f) = in_either a b
variables_step leaves (Union a b) = in_either a b
variables_step leaves (Filter f a) = a

-- the variables of a tree's leaves; those of expressions alone aren't in it
abbrev pub variables_of : {L : Type 0} → (L → Variables) → Tree L → Variables
variables_of {L} leaves = fold-Tree L Variables (variables_step leaves)

abbrev pub certain_step : {L : Type 0} → (L → Variables) → Tree-F L Variables → Variables
certain_step leaves (Leaf l) = leaves l
certain_step leaves (Join a b) = in_either a b
certain_step leaves (LeftJoin a b f) = a
certain_step leaves (Union a b) = in_both a b
certain_step leaves (Filter f a) = a

-- variables that every solution binds
abbrev pub certain_of : {L : Type 0} → (L → Variables) → Tree L → Variables
certain_of {L} leaves = fold-Tree L Variables (certain_step leaves)

-- variables past the last are unbound
abbrev pub IsNarrow : Mapping → Type 0
IsNarrow m = (v : ℕ) → width ≤ v → m v ≡ None

-- the mapping binds each of these variables
pub record Binds (vs : Variables) (m : Mapping) : Type 0 where
  pub bound : (v : ℕ) → v < width → vs v ≡ true → is_some (m v) ≡ true

-- the mapping binds these variables alone, to these terms
pub record IsOver (vs : Variables) (terms : List RdfTerm) (m : Mapping) : Type 0 where
  pub narrow : IsNarrow m
  pub alone : (v : ℕ) → is_some (m v) ≡ true → vs v ≡ true
  pub known : (v : ℕ) (t : RdfTerm) → m v ≡ Some t → list_any (same_term t) terms ≡ true
