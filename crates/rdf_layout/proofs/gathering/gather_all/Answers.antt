use Rattle.std.proofs.Common.{refl, subst, sym, arith, ◌≤◌, length, List}
use Rattle.std.proofs.lemmas.Result.{err_from_is_err_and}
use Rattle.rdf_meaning.specs.Terms.{RdfTerm}
use Rattle.rdf_layout.proofs.Found.{gathers-none, gathers-on, gathers-refusal, gathers-refused}
use Rattle.rdf_layout.proofs.gathering.gather_all.Goals as goal

pub loop-t-init : goal.loop-t-init
loop-t-init c = (gathers-none c.args.book.now c.args.found.now c.requires.book c.requires.found, subst (λ (l : List RdfTerm). length l ≤ 4000000) (sym c.requires.book) (omega arith), refl)

pub returns-in_err-gather-clause-refused : goal.returns-in_err-gather-clause-refused
returns-in_err-gather-clause-refused c =
    let p = err_from_is_err_and c.from_residual.result c.from_residual.ensures.1 in
    rw (p.1, p.2) (gathers-refused c.args.triples.now c.loop-t.t-index c.t-item.result c.loop-t.book c.loop-t.found c.in_err-gather.field-0.0 c.loop-t-test.true c.t-item.is c.loop-t.invariant.0 c.in_err-gather.ensures.refused c.loop-t.invariant.2)

pub loop-t-preserved : goal.loop-t-preserved
loop-t-preserved c = (
  gathers-on c.args.triples.now c.loop-t.t-index c.t-item.result c.loop-t.book c.gather.new.book c.loop-t.found c.gather.new.found c.loop-t-test.true c.t-item.is c.loop-t.invariant.0 c.gather.ensures.form c.in_ok-gather.ensures.book c.in_ok-gather.ensures.found c.in_ok-gather.ensures.room,
  c.gather.ensures.few,
  gathers-refusal c.args.triples.now c.loop-t.t-index c.t-item.result c.loop-t.book c.loop-t.found c.loop-t-test.true c.t-item.is c.loop-t.invariant.0 c.in_ok-gather.ensures.room c.loop-t.invariant.2,
)
