use Rattle.std.proofs.Common.{◌∙◌, ap, sym, subst, refl, List}
use Rattle.rdf_triples.specs.declared.ids.IdTriple.{IdTriple}
use Rattle.rdf_triples.specs.Held.{Held, IsSound, triples_of}
use Rattle.rdf_triples.specs.Taking.{without}
use Rattle.rdf_triples.proofs.Sound.{sound_removed, triples_removed, nothing_removed, same_held}
use Rattle.rdf_triples.proofs.triples.PlainTriples.delete.Goals as goal

pub invariant_of-self : goal.invariant_of-self
invariant_of-self c =
    subst (λ (ks : List IdTriple). IsSound c.self.inside.terms ks) (sym c.swap_remove.ensures.keys) (sound_removed c.self.inside.terms c.self.inside.present.keys c.self.invariant c.args.triple.now c.in-Some.ids c.in-Some.ensures)

pub returns-in-Some : goal.returns-in-Some
returns-in-Some c =
    same_held _ _ refl (ap (triples_of c.self.inside.terms) c.swap_remove.ensures.keys ∙ triples_removed c.self.inside.terms c.self.inside.present.keys c.self.invariant c.args.triple.now c.in-Some.ids c.in-Some.ensures)
    ∙ ap (λ (h : Held). without h c.args.triple.now) c.self.view_is

pub returns-in_default : goal.returns-in_default
returns-in_default c =
    sym c.self.view_is
    ∙ same_held _ _ refl (sym (nothing_removed c.self.inside.terms c.self.inside.present.keys c.self.invariant c.args.triple.now c.in_default.ensures))
    ∙ ap (λ (h : Held). without h c.args.triple.now) c.self.view_is
