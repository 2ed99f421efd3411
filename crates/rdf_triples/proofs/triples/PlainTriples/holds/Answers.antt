use Rattle.std.proofs.Common.{◌∙◌, ap, sym}
use Rattle.rdf_triples.specs.Held.{Held}
use Rattle.rdf_triples.specs.Taking.{is_held}
use Rattle.rdf_triples.proofs.Sound.{held_there, held_not}
use Rattle.rdf_triples.proofs.triples.PlainTriples.holds.Goals as goal

pub returns-in-Some : goal.returns-in-Some
returns-in-Some c =
    c.contains.ensures ∙ held_there c.self.inside.terms c.self.inside.present.keys c.self.invariant c.args.triple.now c.in-Some.ids c.in-Some.ensures ∙ ap (λ (h : Held). is_held h c.args.triple.now) c.self.view_is

pub returns-in-None : goal.returns-in-None
returns-in-None c =
    sym (held_not c.self.inside.terms c.self.inside.present.keys c.self.invariant c.args.triple.now c.in-None.ensures) ∙ ap (λ (h : Held). is_held h c.args.triple.now) c.self.view_is
