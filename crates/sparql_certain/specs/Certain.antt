-- Sets of the variables that every solution binds.
use Rattle.std.specs.Prelude.{◌≡◌, ℕ, Bool, ◌||◌, ◌&&◌, Option}
use Rattle.std.proofs.Common.{sym, ap, ap₂, ◌∙◌}
use Rattle.query_meaning.specs.declared.expression.TruthExpr.{TruthExpr}
use Rattle.query_meaning.specs.declared.tree.Tree.{Tree}
use Rattle.query_meaning.specs.declared.tree.Tree.TheVariants as trees
use Rattle.query_eval_meaning.specs.Variables.{Variables, in_either, in_both, certain_of}
use Rattle.query_eval_meaning.specs.VariableLaws.{certain-Leaf, certain-Join, certain-LeftJoin, certain-Union, certain-Filter}
use Rattle.sparql_variables.specs.Bits.{members}

-- the set has these variables and no others
pub record Has (set : ℕ) (vs : Variables) : Type 0 where
  pub same : (v : ℕ) → members set v ≡ vs v

module _ {L : Type 0} (leaves : L → Variables) where
  abbrev Of : Tree L → Variables
  Of t = certain_of leaves t

  same_set : (set : ℕ) (vs ws : Variables) → Has set vs → ws ≡ vs → Has set ws
  same_set set vs ws h e = record { same = λ v. h.same v ∙ ap (λ (z : Variables). z v) (sym e) }

  pub has-Leaf : (n : Tree L) (l : L) (set : ℕ) → n ≡ trees.Leaf l → Has set (leaves l) → Has set (certain_of leaves n)
  has-Leaf n l set is h = same_set set (leaves l) (Of n) h (ap Of is ∙ certain-Leaf leaves l)

  pub has-Join : (n a b x y : Tree L) (set left right : ℕ) → n ≡ trees.Join a b → x ≡ a → y ≡ b → Has left (certain_of leaves x) → Has right (certain_of leaves y) → ((v : ℕ) → members set v ≡ (members left v || members right v)) → Has set (certain_of leaves n)
  has-Join n a b x y set left right is i j h k e =
      same_set set (in_either (Of x) (Of y)) (Of n) (record { same = λ v. e v ∙ ap₂ (λ (p q : Bool). p || q) (h.same v) (k.same v) })
      (ap Of is ∙ certain-Join leaves a b ∙ ap₂ (λ (p q : Tree L). in_either (Of p) (Of q)) (sym i) (sym j))

  pub has-LeftJoin : (n a b x : Tree L) (f : Option TruthExpr) (set : ℕ) → n ≡ trees.LeftJoin a b f → x ≡ a → Has set (certain_of leaves x) → Has set (certain_of leaves n)
  has-LeftJoin n a b x f set is i h = same_set set (Of x) (Of n) h (ap Of is ∙ certain-LeftJoin leaves a b f ∙ ap Of (sym i))

  pub has-Union : (n a b x y : Tree L) (set left right : ℕ) → n ≡ trees.Union a b → x ≡ a → y ≡ b → Has left (certain_of leaves x) → Has right (certain_of leaves y) → ((v : ℕ) → members set v ≡ (members left v && members right v)) → Has set (certain_of leaves n)
  has-Union n a b x y set left right is i j h k e =
      same_set set (in_both (Of x) (Of y)) (Of n) (record { same = λ v. e v ∙ ap₂ (λ (p q : Bool). p && q) (h.same v) (k.same v) })
      (ap Of is ∙ certain-Union leaves a b ∙ ap₂ (λ (p q : Tree L). in_both (Of p) (Of q)) (sym i) (sym j))

  pub has-Filter : (n a x : Tree L) (f : TruthExpr) (set : ℕ) → n ≡ trees.Filter f a → x ≡ a → Has set (certain_of leaves x) → Has set (certain_of leaves n)
  has-Filter n a x f set is i h = same_set set (Of x) (Of n) h (ap Of is ∙ certain-Filter leaves f a ∙ ap Of (sym i))

pub ruleset certain_laws = (has-Leaf, has-Join, has-LeftJoin, has-Union, has-Filter)
