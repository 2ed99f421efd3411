-- Sets of variables of a tree, by the tree's first level.
use Rattle.std.specs.Prelude.{◌≡◌, ℕ, Bool, ◌||◌, ◌&&◌, List, Option}
use Rattle.std.proofs.Common.{ap, ap₂, ◌∙◌, sym}
use Rattle.query_meaning.specs.declared.expression.TruthExpr.{TruthExpr}
use Rattle.query_meaning.specs.declared.pattern.Pattern.{Pattern}
use Rattle.query_meaning.specs.declared.tree.Tree.{Tree, out-Tree}
use Rattle.query_meaning.specs.declared.tree.Tree.TheOpen as layer
use Rattle.query_eval_meaning.specs.Variables.{Variables, pattern_variables, variables_of, certain_of}
use Rattle.query_eval_meaning.specs.VariableLaws.{variables_at-Leaf, variables_at-Join, variables_at-LeftJoin, variables_at-Union, variables_at-Filter, certain_at-Leaf, certain_at-Join, certain_at-LeftJoin, certain_at-Union, certain_at-Filter}
use Rattle.sparql_variables.specs.Bits.{members}
use Rattle.sparql_certain.specs.Certain.{Has}

moved : (set : ℕ) (vs ws : Variables) → Has set vs → ws ≡ vs → Has set ws
moved set vs ws h e = record { same = λ v. h.same v ∙ ap (λ (z : Variables). z v) (sym e) }

either-has : (set left right : ℕ) (vs ws : Variables) → Has left vs → Has right ws → ((v : ℕ) → members set v ≡ (members left v || members right v)) → Has set (λ v. vs v || ws v)
either-has set left right vs ws h k e = record { same = λ v. e v ∙ ap₂ (λ (p q : Bool). p || q) (h.same v) (k.same v) }

both-has : (set left right : ℕ) (vs ws : Variables) → Has left vs → Has right ws → ((v : ℕ) → members set v ≡ (members left v && members right v)) → Has set (λ v. vs v && ws v)
both-has set left right vs ws h k e = record { same = λ v. e v ∙ ap₂ (λ (p q : Bool). p && q) (h.same v) (k.same v) }

-- ---- all variables

abbrev Patterns : Type 0
Patterns = Tree (List Pattern)

abbrev V : Patterns → Variables
V t = variables_of pattern_variables t

pub variables-Leaf : (n : Patterns) (l : List Pattern) (set : ℕ) → out-Tree (List Pattern) n ≡ layer.Leaf l → Has set (pattern_variables l) → Has set (variables_of pattern_variables n)
variables-Leaf n l set is h = moved set (pattern_variables l) (V n) h (variables_at-Leaf pattern_variables n l is)

pub variables-Join : (n a b : Patterns) (set left right : ℕ) → out-Tree (List Pattern) n ≡ layer.Join a b → Has left (variables_of pattern_variables a) → Has right (variables_of pattern_variables b) → ((v : ℕ) → members set v ≡ (members left v || members right v)) →
    Has set (variables_of pattern_variables n)
variables-Join n a b set left right is h k e = moved set (λ v. V a v || V b v) (V n) (either-has set left right (V a) (V b) h k e) (variables_at-Join pattern_variables n a b is)

pub variables-LeftJoin : (n a b : Patterns) (f : Option TruthExpr) (set left right : ℕ) → out-Tree (List Pattern) n ≡ layer.LeftJoin a b f → Has left (variables_of pattern_variables a) → Has right (variables_of pattern_variables b) →
    ((v : ℕ) → members set v ≡ (members left v || members right v)) → Has set (variables_of pattern_variables n)
variables-LeftJoin n a b f set left right is h k e = moved set (λ v. V a v || V b v) (V n) (either-has set left right (V a) (V b) h k e) (variables_at-LeftJoin pattern_variables n a b f is)

pub variables-Union : (n a b : Patterns) (set left right : ℕ) → out-Tree (List Pattern) n ≡ layer.Union a b → Has left (variables_of pattern_variables a) → Has right (variables_of pattern_variables b) → ((v : ℕ) → members set v ≡ (members left v || members right v)) →
    Has set (variables_of pattern_variables n)
variables-Union n a b set left right is h k e = moved set (λ v. V a v || V b v) (V n) (either-has set left right (V a) (V b) h k e) (variables_at-Union pattern_variables n a b is)

pub variables-Filter : (n a : Patterns) (f : TruthExpr) (set : ℕ) → out-Tree (List Pattern) n ≡ layer.Filter f a → Has set (variables_of pattern_variables a) → Has set (variables_of pattern_variables n)
variables-Filter n a f set is h = moved set (V a) (V n) h (variables_at-Filter pattern_variables n f a is)

pub ruleset variables_laws = (variables-Leaf, variables-Join, variables-LeftJoin, variables-Union, variables-Filter)

-- ---- certain variables

module _ {L : Type 0} (leaves : L → Variables) where
  abbrev C : Tree L → Variables
  C t = certain_of leaves t

  pub certain-Leaf : (n : Tree L) (l : L) (set : ℕ) → out-Tree L n ≡ layer.Leaf l → Has set (leaves l) → Has set (certain_of leaves n)
  certain-Leaf n l set is h = moved set (leaves l) (C n) h (certain_at-Leaf leaves n l is)

  pub certain-Join : (n a b : Tree L) (set left right : ℕ) → out-Tree L n ≡ layer.Join a b → Has left (certain_of leaves a) → Has right (certain_of leaves b) → ((v : ℕ) → members set v ≡ (members left v || members right v)) → Has set (certain_of leaves n)
  certain-Join n a b set left right is h k e = moved set (λ v. C a v || C b v) (C n) (either-has set left right (C a) (C b) h k e) (certain_at-Join leaves n a b is)

  pub certain-LeftJoin : (n a b : Tree L) (f : Option TruthExpr) (set : ℕ) → out-Tree L n ≡ layer.LeftJoin a b f → Has set (certain_of leaves a) → Has set (certain_of leaves n)
  certain-LeftJoin n a b f set is h = moved set (C a) (C n) h (certain_at-LeftJoin leaves n a b f is)

  pub certain-Union : (n a b : Tree L) (set left right : ℕ) → out-Tree L n ≡ layer.Union a b → Has left (certain_of leaves a) → Has right (certain_of leaves b) → ((v : ℕ) → members set v ≡ (members left v && members right v)) → Has set (certain_of leaves n)
  certain-Union n a b set left right is h k e = moved set (λ v. C a v && C b v) (C n) (both-has set left right (C a) (C b) h k e) (certain_at-Union leaves n a b is)

  pub certain-Filter : (n a : Tree L) (f : TruthExpr) (set : ℕ) → out-Tree L n ≡ layer.Filter f a → Has set (certain_of leaves a) → Has set (certain_of leaves n)
  certain-Filter n a f set is h = moved set (C a) (C n) h (certain_at-Filter leaves n f a is)

pub ruleset certain_laws = (certain-Leaf, certain-Join, certain-LeftJoin, certain-Union, certain-Filter)
