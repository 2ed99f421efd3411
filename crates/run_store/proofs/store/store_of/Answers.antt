use Rattle.std.proofs.Common.{rules, ◌≡◌, ◌∙◌, None, List, map, subst}
use Rattle.std.specs.Prelude.{OnOk, IfErr}
use Rattle.line_change_meaning.specs.declared.change.Change.{Change}
use Rattle.run_meaning.specs.Limits.{passed_limit}
use Rattle.colouring_file.specs.Colours.{colour_of}
use Rattle.rdf_triples.specs.Refusals.{Refuses}
use Rattle.run_store.proofs.Fits.{whole, cut-few, run-store}
use Rattle.run_store.proofs.store.store_of.Goals as goal

pub place-requires : goal.place-requires
place-requires g c = (
  search rules,
  cut-few c.args.changes.items c.deref-2.result.now c.deref.result.now (c.deref.ensures.value ∙ c.in_ok-cut.ensures.bulk) (c.deref-2.ensures.value ∙ c.in_ok-cut.ensures.later) c.requires.few,
)

pub returns-clause-store : goal.returns-clause-store
returns-clause-store g c =
    run-store c.args.options.now (map colour_of c.args.lines.items) c.in_ok-choice.choice c.args.changes.items c.deref-2.result.now c.deref.result.now c.place.result c.in_ok-choice.ensures.ok
    (c.deref.ensures.value ∙ c.in_ok-cut.ensures.bulk) (c.deref-2.ensures.value ∙ c.in_ok-cut.ensures.later) c.place.ensures.layout c.place.ensures.placed c.place.ensures.store c.place.ensures.triples

pub returns-clause-within : goal.returns-clause-within
returns-clause-within g c =
    subst (λ (cs : List Change). OnOk c.place.result (passed_limit cs ≡ None))
    (whole c.args.changes.items c.deref-2.result.now c.deref.result.now (c.deref.ensures.value ∙ c.in_ok-cut.ensures.bulk) (c.deref-2.ensures.value ∙ c.in_ok-cut.ensures.later)) c.place.ensures.within

pub returns-clause-passed : goal.returns-clause-passed
returns-clause-passed g c =
    subst (λ (cs : List Change). IfErr c.place.result (λ e. Refuses e (passed_limit cs)))
    (whole c.args.changes.items c.deref-2.result.now c.deref.result.now (c.deref.ensures.value ∙ c.in_ok-cut.ensures.bulk) (c.deref-2.ensures.value ∙ c.in_ok-cut.ensures.later)) c.place.ensures.passed
