use Rattle.std.proofs.Common.{◌∙◌, ap, sym, subst, List, arith}
use Rattle.rdf_triples.specs.declared.ids.IdTriple.{IdTriple}
use Rattle.rdf_triples.specs.Held.{Held, IsSound}
use Rattle.rdf_triples.specs.Taking.{is_held, with_new}
use Rattle.rdf_triples.proofs.Sound.{sound_grown, sound_added, triples_added, same_held}
use Rattle.rdf_triples.proofs.triples.PlainTriples.add_new.Goals as goal

pub invariant_of-self : goal.invariant_of-self
invariant_of-self c = sound_grown c.self.inside.terms c.note_terms.new.terms c.self.inside.present.keys c.self.invariant c.note_terms.ensures.grows

pub invariant_of-self-in_err-insert : goal.invariant_of-self-in_err-insert
invariant_of-self-in_err-insert c =
    subst (λ (ks : List IdTriple). IsSound c.note_terms.new.terms ks) (sym c.in_err-insert.ensures.err) (sound_grown c.self.inside.terms c.note_terms.new.terms c.self.inside.present.keys c.self.invariant c.note_terms.ensures.grows)

pub invariant_of-self-2 : goal.invariant_of-self-2
invariant_of-self-2 c =
    sound_added c.self.inside.terms c.note_terms.new.terms c.self.inside.present.keys c.insert.new.self.keys c.self.invariant c.note_terms.ensures.grows c.args.triple.now c.in_ok-ids.ids c.in_ok-ids.ensures.ids
    (ap (λ (h : Held). is_held h c.args.triple.now) c.self.view_is ∙ c.requires) c.in_ok-insert.ensures.keys (omega (arith, c.len.ensures.len, c.if-len-ge-MOST_TRIPLES.false))

pub returns-clause-ok : goal.returns-clause-ok
returns-clause-ok c =
    same_held _ _ c.in_ok-ids.ensures.ok
    (triples_added c.self.inside.terms c.note_terms.new.terms c.self.inside.present.keys c.insert.new.self.keys c.self.invariant c.note_terms.ensures.grows c.args.triple.now c.in_ok-ids.ids c.in_ok-ids.ensures.ids
    (ap (λ (h : Held). is_held h c.args.triple.now) c.self.view_is ∙ c.requires) c.in_ok-insert.ensures.keys)
    ∙ ap (λ (h : Held). with_new h c.args.triple.now) c.self.view_is
