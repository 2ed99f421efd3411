use Rattle.std.proofs.Common.{sym, ap, ◌∙◌, subst}
use Rattle.primary_rows.specs.Answers.{took_of}
use Rattle.layout_standing_meaning.specs.Stored.{StoreOf, IsStore}
use Rattle.layout_standing_meaning.specs.Changes.{store_of}
use Rattle.layout_standing_meaning.proofs.Changed.{store-out}
use Rattle.rdf_layout.proofs.Putting.{lacks-new, taken-none, taken-found, found-held}
use Rattle.rdf_layout.proofs.steps.take.Goals as goal

pub returns-in-Some-clause-stored : goal.returns-in-Some-clause-stored
returns-in-Some-clause-stored c =
    let s : StoreOf = store_of c.args.book.now c.args.sides.now in
    taken-found s c.args.t.now c.in-Some.ids c.delete.new.self c.requires.store c.in-Some.ensures c.delete.ensures.sides

pub returns-in-Some-clause-took : goal.returns-in-Some-clause-took
returns-in-Some-clause-took c =
    let s : StoreOf = store_of c.args.book.now c.args.sides.now in
    c.delete.ensures.took ∙ ap took_of (found-held s c.args.t.now c.in-Some.ids c.requires.store c.in-Some.ensures)

pub returns-in-Some-clause-store : goal.returns-in-Some-clause-store
returns-in-Some-clause-store c =
    let s : StoreOf = store_of c.args.book.now c.args.sides.now in
    subst IsStore (sym (taken-found s c.args.t.now c.in-Some.ids c.delete.new.self c.requires.store c.in-Some.ensures c.delete.ensures.sides)) (store-out s c.args.t.now c.requires.store)

pub returns-in-None-clause-stored : goal.returns-in-None-clause-stored
returns-in-None-clause-stored c =
    let s : StoreOf = store_of c.args.book.now c.args.sides.now in
    taken-none s c.args.t.now c.requires.store (lacks-new s c.args.t.now c.requires.store c.in-None.ensures)

pub returns-in-None-clause-took : goal.returns-in-None-clause-took
returns-in-None-clause-took c =
    let s : StoreOf = store_of c.args.book.now c.args.sides.now in
    ap took_of (sym (lacks-new s c.args.t.now c.requires.store c.in-None.ensures))
