-- Induction over the elements of groups.
use Rattle.std.specs.Prelude.{List, [], ◌∷◌, map}
use Rattle.std.proofs.Common.{subst, sym}
use Rattle.std.specs.List.{AllByRecursion}
use Rattle.query_meaning.specs.declared.pattern.Pattern.{Pattern}
use Rattle.query_meaning.specs.declared.expression.TruthExpr.{TruthExpr}
use Rattle.query_meaning.specs.declared.query.Element.{Element, map-Element}
use Rattle.query_meaning.specs.declared.query.Element.TheVariants as v
use Rattle.query_meaning.specs.declared.query.Element.TheOpen as layer
use Rattle.query_meaning.specs.declared.query.Element.TheOpen.{Element-F}
use Rattle.query_meaning.specs.declared.query.Element.TheFolds.{ind-Element}
use Rattle.query_meaning.specs.declared.query.Element.TheViews as views
use Rattle.query_meaning.specs.declared.query.Group.{Group, Group-F}

-- it holds of each element of a group
abbrev pub OfGroup : (Element → Type 0) → Group → Type 0
OfGroup P g = AllByRecursion P g.elements

-- what holds of an element whenever it holds of the elements in its groups
pub record IsPassedUp (P : Element → Type 0) : Type 0 where
  pub triples : (ps : List Pattern) → P (v.Triples ps)
  pub optional : (g : Group) → OfGroup P g → P (v.Optional g)
  pub unions : (gs : List Group) → AllByRecursion (OfGroup P) gs → P (v.Unions gs)
  pub condition : (c : TruthExpr) → P (v.Condition c)

each_first : {A : Type 0} (P : A → Type 0) (xs : List ((x : A) × P x)) → AllByRecursion P (map (λ e. e.0) xs)
each_first P [] = tt
each_first P (x ∷ xs) = (x.1, each_first P xs)

-- what is passed up holds of every element
pub every_element : (P : Element → Type 0) → IsPassedUp P → (e : Element) → P e
every_element P up =
    ind-Element P (OfGroup P) (λ x y is. subst (λ (z : Element-F Element Group). P (views.roll-Element z)) is (node y))
    (λ x y is. subst (λ (z : Group-F Element Group). OfGroup P (views.roll-Group z)) is (each_first P y.elements))
  where
    node : (y : Element-F ((e : Element) × P e) ((g : Group) × OfGroup P g)) → P (views.roll-Element (map-Element ((e : Element) × P e) ((g : Group) × OfGroup P g) Element Group (λ e. e.0) (λ g. g.0) y))
    node (layer.Triples ps) = subst P (sym (v.rolls-Triples ps)) (up.triples ps)
    node (layer.Optional g) = subst P (sym (v.rolls-Optional g.0)) (up.optional g.0 g.1)
    node (layer.Unions gs) = subst P (sym (v.rolls-Unions (map (λ g. g.0) gs))) (up.unions (map (λ g. g.0) gs) (each_first (OfGroup P) gs))
    node (layer.Condition c) = subst P (sym (v.rolls-Condition c)) (up.condition c)

-- and of every group, of each of its elements
pub every_group : (P : Element → Type 0) → IsPassedUp P → (g : Group) → OfGroup P g
every_group P up g = go g.elements
  where
    go : (es : List Element) → AllByRecursion P es
    go [] = tt
    go (e ∷ es) = (every_element P up e, go es)
