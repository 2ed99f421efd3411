-- What each kind of element comes to in the translation of its group.
use Rattle.std.proofs.Common.{◌≡◌, List, map, sym, ap, ◌∙◌}
use Rattle.query_meaning.specs.declared.pattern.Pattern.{Pattern}
use Rattle.query_meaning.specs.declared.expression.TruthExpr.{TruthExpr}
use Rattle.query_meaning.specs.declared.query.Element.TheFolds.{fold-roll-Element}
use Rattle.query_meaning.specs.declared.query.Element.TheVariants as e
use Rattle.query_meaning.specs.declared.query.Element.TheOpen as layer
use Rattle.query_meaning.specs.declared.query.Group.{Group, fold_out-Group}
use Rattle.sparql_meaning.specs.declared.gathered.Gathered.{Gathered}
use Rattle.sparql_meaning.specs.Translation.{Part, patterns, optional, unions, condition, element_step, group_step, part, group, take_parts, nothing_yet}

pub part-Triples : (ps : List Pattern) → part (e.Triples ps) ≡ patterns ps
part-Triples ps = ap (λ x. part x) (sym (e.rolls-Triples ps)) ∙ fold-roll-Element Part Gathered element_step group_step (layer.Triples ps)

pub part-Optional : (g : Group) → part (e.Optional g) ≡ optional (group g)
part-Optional g = ap (λ x. part x) (sym (e.rolls-Optional g)) ∙ fold-roll-Element Part Gathered element_step group_step (layer.Optional g)

pub part-Unions : (gs : List Group) → part (e.Unions gs) ≡ unions (map group gs)
part-Unions gs = ap (λ x. part x) (sym (e.rolls-Unions gs)) ∙ fold-roll-Element Part Gathered element_step group_step (layer.Unions gs)

pub part-Condition : (c : TruthExpr) → part (e.Condition c) ≡ condition c
part-Condition c = ap (λ x. part x) (sym (e.rolls-Condition c)) ∙ fold-roll-Element Part Gathered element_step group_step (layer.Condition c)

pub group_opened : (g : Group) → group g ≡ take_parts nothing_yet (map part g.elements)
group_opened g = fold_out-Group Part Gathered element_step group_step g

pub ruleset element_laws = (part-Triples, part-Optional, part-Unions, part-Condition)
