-- The patterns of a tree, in order of the text, and what the translation of a group has of them.
use Rattle.std.specs.Prelude.{◌≡◌, Bool, true, false, if◌then◌else◌, List, [], ◌∷◌, ◌++◌, Option, Some, None, refl}
use Rattle.std.proofs.Common.{sym, ap, ◌∙◌}
use Rattle.std.proofs.lemmas.Bool.{false≢true}
use Rattle.query_meaning.specs.declared.expression.TruthExpr.{TruthExpr}
use Rattle.query_meaning.specs.declared.tree.Tree.{Tree, out-Tree, fold-Tree, fold_out-Tree, map-Tree}
use Rattle.query_meaning.specs.declared.tree.Tree.TheVariants as trees
use Rattle.query_meaning.specs.declared.tree.Tree.TheOpen as layer
use Rattle.query_meaning.specs.declared.tree.Tree.TheOpen.{Tree-F}
use Rattle.query_meaning.specs.declared.tree.Tree.TheFolds.{fold-roll-Tree}
use Rattle.query_meaning.specs.declared.tree.Tree.TheViews as views
use Rattle.sparql_meaning.specs.declared.gathered.Gathered.{Gathered}
use Rattle.sparql_meaning.specs.Translation.{Leaf, is_empty, is_empty_level, joined, with_patterns, conjunction, under, bare, whole, Part, patterns, optional, unions, condition, union_from, take_part}

abbrev pub patterns_step : Tree-F Leaf Leaf → Leaf
patterns_step (layer.Leaf ps) = ps
patterns_step (layer.Join a b) = a ++ b
patterns_step (layer.LeftJoin a b e) = a ++ b
patterns_step (layer.Union a b) = a ++ b
patterns_step (layer.Filter e a) = a

abbrev pub tree_patterns : Tree Leaf → Leaf
tree_patterns t = fold-Tree Leaf Leaf patterns_step t

-- ---- by the constructor

pub patterns-Leaf : (ps : Leaf) → tree_patterns (trees.Leaf ps) ≡ ps
patterns-Leaf ps = ap tree_patterns (sym (views.rolls-Leaf ps)) ∙ fold-roll-Tree Leaf Leaf patterns_step (layer.Leaf ps)

pub patterns-Join : (a b : Tree Leaf) → tree_patterns (trees.Join a b) ≡ tree_patterns a ++ tree_patterns b
patterns-Join a b = ap tree_patterns (sym (views.rolls-Join a b)) ∙ fold-roll-Tree Leaf Leaf patterns_step (layer.Join a b)

pub patterns-LeftJoin : (a b : Tree Leaf) (e : Option TruthExpr) → tree_patterns (trees.LeftJoin a b e) ≡ tree_patterns a ++ tree_patterns b
patterns-LeftJoin a b e = ap tree_patterns (sym (views.rolls-LeftJoin a b e)) ∙ fold-roll-Tree Leaf Leaf patterns_step (layer.LeftJoin a b e)

pub patterns-Union : (a b : Tree Leaf) → tree_patterns (trees.Union a b) ≡ tree_patterns a ++ tree_patterns b
patterns-Union a b = ap tree_patterns (sym (views.rolls-Union a b)) ∙ fold-roll-Tree Leaf Leaf patterns_step (layer.Union a b)

pub patterns-Filter : (e : TruthExpr) (a : Tree Leaf) → tree_patterns (trees.Filter e a) ≡ tree_patterns a
patterns-Filter e a = ap tree_patterns (sym (views.rolls-Filter e a)) ∙ fold-roll-Tree Leaf Leaf patterns_step (layer.Filter e a)

-- ---- lists

append_nil : (xs : Leaf) → xs ++ [] ≡ xs
append_nil [] = refl
append_nil (x ∷ xs) = ap (λ (ys : Leaf). x ∷ ys) (append_nil xs)

append_assoc : (xs ys zs : Leaf) → (xs ++ ys) ++ zs ≡ xs ++ (ys ++ zs)
append_assoc [] ys zs = refl
append_assoc (x ∷ xs) ys zs = ap (λ (us : Leaf). x ∷ us) (append_assoc xs ys zs)

-- ---- what is built

empty_level : (d : Tree-F Leaf (Tree Leaf)) → is_empty_level d ≡ true → patterns_step (map-Tree Leaf (Tree Leaf) Leaf tree_patterns d) ≡ []
empty_level (layer.Leaf []) e = refl
empty_level (layer.Leaf (p ∷ ps)) e = absurd (false≢true e)
empty_level (layer.Join a b) e = absurd (false≢true e)
empty_level (layer.LeftJoin a b f) e = absurd (false≢true e)
empty_level (layer.Union a b) e = absurd (false≢true e)
empty_level (layer.Filter f a) e = absurd (false≢true e)

none_in_empty : (t : Tree Leaf) → is_empty t ≡ true → tree_patterns t ≡ []
none_in_empty t e = fold_out-Tree Leaf Leaf patterns_step t ∙ empty_level (out-Tree Leaf t) e

chosen : (b : Bool) (before t : Tree Leaf) → (b ≡ true → tree_patterns before ≡ []) → tree_patterns (if b then t else trees.Join before t) ≡ tree_patterns before ++ tree_patterns t
chosen true before t e = ap (λ (xs : Leaf). xs ++ tree_patterns t) (sym (e refl))
chosen false before t e = patterns-Join before t

patterns-joined : (before t : Tree Leaf) → tree_patterns (joined before t) ≡ tree_patterns before ++ tree_patterns t
patterns-joined before t = chosen (is_empty before) before t (none_in_empty before)

patterns-with : (before : Tree Leaf) (ps : Leaf) → tree_patterns (with_patterns before ps) ≡ tree_patterns before ++ ps
patterns-with before [] = sym (append_nil (tree_patterns before))
patterns-with before (p ∷ ps) = patterns-joined before (trees.Leaf (p ∷ ps)) ∙ ap (λ (xs : Leaf). tree_patterns before ++ xs) (patterns-Leaf (p ∷ ps))

patterns-under : (c : Option TruthExpr) (t : Tree Leaf) → tree_patterns (under c t) ≡ tree_patterns t
patterns-under None t = refl
patterns-under (Some e) t = patterns-Filter e t

-- the patterns of a group on its way
abbrev pub gathered_patterns : Gathered → Leaf
gathered_patterns g = tree_patterns g.tree ++ g.patterns

patterns-bare : (g : Gathered) → tree_patterns (bare g) ≡ gathered_patterns g
patterns-bare g = patterns-with g.tree g.patterns

pub patterns-whole : (g : Gathered) → tree_patterns (whole g) ≡ gathered_patterns g
patterns-whole g = patterns-under (conjunction g.conditions) (bare g) ∙ patterns-bare g

abbrev pub all_gathered : List Gathered → Leaf
all_gathered [] = []
all_gathered (g ∷ gs) = gathered_patterns g ++ all_gathered gs

abbrev pub part_patterns : Part → Leaf
part_patterns (patterns ps) = ps
part_patterns (optional o) = gathered_patterns o
part_patterns (unions us) = all_gathered us
part_patterns (condition e) = []

patterns-union : (t : Tree Leaf) (gs : List Gathered) → tree_patterns (union_from t gs) ≡ tree_patterns t ++ all_gathered gs
patterns-union t [] = sym (append_nil (tree_patterns t))
patterns-union t (g ∷ gs) =
    patterns-union (trees.Union t (whole g)) gs
    ∙ ap (λ (xs : Leaf). xs ++ all_gathered gs) (patterns-Union t (whole g) ∙ ap (λ (xs : Leaf). tree_patterns t ++ xs) (patterns-whole g))
    ∙ append_assoc (tree_patterns t) (gathered_patterns g) (all_gathered gs)

pub patterns-take : (g : Gathered) (p : Part) → gathered_patterns (take_part g p) ≡ gathered_patterns g ++ part_patterns p
patterns-take g (patterns ps) = sym (append_assoc (tree_patterns g.tree) g.patterns ps)
patterns-take g (optional o) =
    append_nil _ ∙ patterns-LeftJoin (bare g) (bare o) (conjunction o.conditions)
    ∙ ap (λ (xs : Leaf). xs ++ tree_patterns (bare o)) (patterns-bare g) ∙ ap (λ (xs : Leaf). gathered_patterns g ++ xs) (patterns-bare o)
patterns-take g (unions []) = sym (append_nil (gathered_patterns g))
patterns-take g (unions (u ∷ us)) =
    append_nil _ ∙ patterns-joined (bare g) (union_from (whole u) us)
    ∙ ap (λ (xs : Leaf). xs ++ tree_patterns (union_from (whole u) us)) (patterns-bare g)
    ∙ ap (λ (xs : Leaf). gathered_patterns g ++ xs) (patterns-union (whole u) us ∙ ap (λ (xs : Leaf). xs ++ all_gathered us) (patterns-whole u))
patterns-take g (condition e) = sym (append_nil (gathered_patterns g))
