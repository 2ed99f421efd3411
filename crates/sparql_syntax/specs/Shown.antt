-- The variables of triple patterns, element by element.
use Rattle.std.proofs.Common.{ℕ, ◌≡◌, ◌==◌, List, [], ◌∷◌, ◌++◌, map, refl, sym, ap, ◌∙◌, if◌then◌else◌, ◌+◌, suc, ◌<◌, length, drop, get_or, arith}
use Rattle.std.specs.List.{list_any}
use Rattle.std.proofs.Math.Seq.{drop-cons}
use Rattle.query_meaning.specs.declared.pattern.Pattern.{Pattern}
use Rattle.query_meaning.specs.declared.expression.TruthExpr.{TruthExpr}
use Rattle.query_meaning.specs.declared.query.Element.{Element, fold-Element, fold-roll-Element}
use Rattle.query_meaning.specs.declared.query.Element.TheVariants as e
use Rattle.query_meaning.specs.declared.query.Element.TheOpen as layer
use Rattle.query_meaning.specs.declared.query.Group.{Group, fold_out-Group}
use Rattle.sparql_query_meaning.specs.Queries.{once, patterns_variables, joined_lists, element_variables, group_variables, variables_of}

abbrev pub part_variables : Element → List ℕ
part_variables x = fold-Element (List ℕ) (List ℕ) element_variables group_variables x

pub variables-Triples : (ps : List Pattern) → part_variables (e.Triples ps) ≡ patterns_variables ps
variables-Triples ps = ap (λ x. part_variables x) (sym (e.rolls-Triples ps)) ∙ fold-roll-Element (List ℕ) (List ℕ) element_variables group_variables (layer.Triples ps)

pub variables-Optional : (g : Group) → part_variables (e.Optional g) ≡ variables_of g
variables-Optional g = ap (λ x. part_variables x) (sym (e.rolls-Optional g)) ∙ fold-roll-Element (List ℕ) (List ℕ) element_variables group_variables (layer.Optional g)

pub variables-Unions : (gs : List Group) → part_variables (e.Unions gs) ≡ joined_lists (map variables_of gs)
variables-Unions gs = ap (λ x. part_variables x) (sym (e.rolls-Unions gs)) ∙ fold-roll-Element (List ℕ) (List ℕ) element_variables group_variables (layer.Unions gs)

pub variables-Condition : (c : TruthExpr) → part_variables (e.Condition c) ≡ []
variables-Condition c = ap (λ x. part_variables x) (sym (e.rolls-Condition c)) ∙ fold-roll-Element (List ℕ) (List ℕ) element_variables group_variables (layer.Condition c)

pub variables-Group : (g : Group) → variables_of g ≡ joined_lists (map part_variables g.elements)
variables-Group g = fold_out-Group (List ℕ) (List ℕ) element_variables group_variables g

-- one list after the other
pub once_both : (seen xs ys : List ℕ) → once (once seen xs) ys ≡ once seen (xs ++ ys)
once_both seen [] ys = refl
once_both seen (x ∷ xs) ys = once_both (if list_any (λ y. y == x) seen then seen else seen ++ x ∷ []) xs ys

-- one item of a list, and then those behind it
pub joined_step : {X : Type 0} (f : X → List ℕ) (seen new whole : List ℕ) (xs : List X) (i : ℕ) (x : X) → i < length xs → x ≡ get_or xs i x → new ≡ once seen (f x) → once seen (joined_lists (map f (drop i xs))) ≡ whole
    → once new (joined_lists (map f (drop (i + 1) xs))) ≡ whole
joined_step {X = X} f seen new whole xs i x within is e h =
    let one : i + 1 ≡ suc i = omega arith in
    let here : drop i xs ≡ x ∷ drop (suc i) xs = drop-cons xs i x within ∙ ap (λ (z : X). z ∷ drop (suc i) xs) (sym is) in
    ap (λ (z : ℕ). once new (joined_lists (map f (drop z xs)))) one
    ∙ ap (λ (z : List ℕ). once z (joined_lists (map f (drop (suc i) xs)))) e
    ∙ once_both seen (f x) (joined_lists (map f (drop (suc i) xs)))
    ∙ ap (λ (z : List X). once seen (joined_lists (map f z))) (sym here) ∙ h

pub ruleset seen_laws = (once_both)

pub ruleset variable_laws = (variables-Triples, variables-Optional, variables-Unions, variables-Condition, variables-Group, once_both)
