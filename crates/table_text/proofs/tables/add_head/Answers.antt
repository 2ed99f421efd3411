use Rattle.std.proofs.Common.{◌≡◌, sym, ◌∙◌, ap, true, false, Some}
use Rattle.std.specs.List.{list_any}
use Rattle.std.specs.Str.{bytes_eq}
use Rattle.std.proofs.lemmas.Bool.{not-true, not-false}
use Rattle.table_text.specs.Reading.{head_of}
use Rattle.table_text.proofs.StepLaws.{head_taken, head_new}
use Rattle.table_text.proofs.tables.add_head.Goals as goal

pub returns-then-not-branch-clause-step : goal.returns-then-not-branch-clause-step
returns-then-not-branch-clause-step c =
    let came : list_any (bytes_eq c.in-Some.head.name) c.args.names.now ≡ true = not-false _ (sym c.in_ok-add.ensures.new ∙ c.if-not-branch.true) in
    head_taken c.args.tables.now.items c.in-Some.head.name c.in-Some.head.schema (head_of c.args.rest.now) c.args.names.now (rw c.in-Some.is at c.in_ok-head.ensures) c.requires came

pub returns-clause-step : goal.returns-clause-step
returns-clause-step c =
    let fresh : list_any (bytes_eq c.in-Some.head.name) c.args.names.now ≡ false = not-true _ (sym c.in_ok-add.ensures.new ∙ c.if-not-branch.false) in
    head_new c.args.tables.now.items c.in-Some.head.name c.in-Some.head.schema (head_of c.args.rest.now) c.args.names.now (rw c.in-Some.is at c.in_ok-head.ensures) c.requires fresh
    ∙ ap (λ t. Some t) (sym (rw c.new.ensures.items at c.in_ok-push.ensures.items))
