-- Keeping terms once, list by list and tree by tree.
use Rattle.std.specs.Prelude.{◌≡◌, List, [], ◌∷◌, ◌++◌, if◌then◌else◌, Option, refl}
use Rattle.std.proofs.Common.{sym, ap, ◌∙◌}
use Rattle.std.specs.List.{list_any}
use Rattle.rdf_meaning.specs.Terms.{RdfTerm, same_term}
use Rattle.query_meaning.specs.declared.pattern.Pattern.{Pattern}
use Rattle.query_meaning.specs.declared.expression.TruthExpr.{TruthExpr}
use Rattle.query_meaning.specs.declared.tree.Tree.{Tree, map-Tree}
use Rattle.query_meaning.specs.declared.tree.Tree.TheVariants as trees
use Rattle.query_meaning.specs.declared.tree.Tree.TheFolds.{fold-roll-Tree}
use Rattle.query_meaning.specs.declared.tree.Tree.TheViews as views
use Rattle.query_meaning.specs.declared.tree.Tree.TheOpen as layer
use Rattle.query_meaning.specs.declared.tree.Tree.TheOpen.{Tree-F}
use Rattle.sparql_meaning.specs.Constants.{kept_once, constants_step, tree_constants}

abbrev Leaf : Type 0
Leaf = List Pattern

abbrev Terms : Type 0
Terms = List RdfTerm

pub once_append : (ks xs ys : Terms) → kept_once ks (xs ++ ys) ≡ kept_once (kept_once ks xs) ys
once_append ks [] ys = refl
once_append ks (x ∷ xs) ys = once_append (if list_any (same_term x) ks then ks else ks ++ x ∷ []) xs ys

pub twice : (ks first second : Terms) (n a b x y : Tree Leaf) → tree_constants n ≡ tree_constants a ++ tree_constants b → x ≡ a → y ≡ b →
    first ≡ kept_once ks (tree_constants x) → second ≡ kept_once first (tree_constants y) → second ≡ kept_once ks (tree_constants n)
twice ks first second n a b x y is e f p q =
    q ∙ ap (λ (ts : Terms). kept_once ts (tree_constants y)) p ∙ ap (λ (z : Tree Leaf). kept_once (kept_once ks (tree_constants x)) (tree_constants z)) f
    ∙ ap (λ (z : Tree Leaf). kept_once (kept_once ks (tree_constants z)) (tree_constants b)) e ∙ sym (ap (kept_once ks) is ∙ once_append ks (tree_constants a) (tree_constants b))

-- ---- by the constructor

built : (n : Tree Leaf) (d : Tree-F Leaf (Tree Leaf)) → n ≡ views.roll-Tree Leaf d → tree_constants n ≡ constants_step (map-Tree Leaf (Tree Leaf) Terms tree_constants d)
built n d is = ap tree_constants is ∙ fold-roll-Tree Leaf Terms constants_step d

pub both-Join : (n a b : Tree Leaf) → n ≡ trees.Join a b → tree_constants n ≡ tree_constants a ++ tree_constants b
both-Join n a b is = built n (layer.Join a b) (is ∙ sym (views.rolls-Join a b))

pub both-LeftJoin : (n a b : Tree Leaf) (c : Option TruthExpr) → n ≡ trees.LeftJoin a b c → tree_constants n ≡ tree_constants a ++ tree_constants b
both-LeftJoin n a b c is = built n (layer.LeftJoin a b c) (is ∙ sym (views.rolls-LeftJoin a b c))

pub both-Union : (n a b : Tree Leaf) → n ≡ trees.Union a b → tree_constants n ≡ tree_constants a ++ tree_constants b
both-Union n a b is = built n (layer.Union a b) (is ∙ sym (views.rolls-Union a b))

pub ruleset once_laws = (once_append)
