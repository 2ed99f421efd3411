use Rattle.std.proofs.Common.{◌≡◌, sym, ◌∙◌, ap, List, ℕ, [], ◌∷◌, ◌++◌, true, false}
use Rattle.std.specs.List.{list_any}
use Rattle.std.specs.Str.{bytes_eq}
use Rattle.std.proofs.lemmas.Bool.{not-true, not-false}
use Rattle.table_meaning.specs.TableLaws.{are_distinct-push}
use Rattle.table_text.proofs.NameLaws.{names_more, names_repeat}
use Rattle.table_text.proofs.names.are_distinct.Goals as goal

pub returns-then-not-branch : goal.returns-then-not-branch
returns-then-not-branch c =
    let came : list_any (bytes_eq c.column-item.result.name) c.loop-column.names ≡ true = not-false _ (sym c.in_ok-add.ensures.new ∙ c.if-not-branch.true) in
    sym (names_repeat c.args.columns.now c.loop-column.column-index c.column-item.result c.loop-column.names c.loop-column-test.true c.column-item.is c.loop-column.invariant.0 came)

pub loop-column-preserved : goal.loop-column-preserved
loop-column-preserved c =
    let name : List ℕ = c.column-item.result.name in
    let fresh : list_any (bytes_eq name) c.loop-column.names ≡ false = not-true _ (sym c.in_ok-add.ensures.new ∙ c.if-not-branch.false) in
    let noted : c.add.new.self ≡ c.loop-column.names ++ name ∷ [] = rw c.if-not-branch.false at c.in_ok-add.ensures.noted in
    let more = names_more c.args.columns.now c.loop-column.column-index c.column-item.result c.loop-column-test.true c.column-item.is in
    (noted ∙ ap (λ (t : List (List ℕ)). t ++ name ∷ []) c.loop-column.invariant.0 ∙ sym more, rw noted (are_distinct-push c.loop-column.names name c.loop-column.invariant.1 fresh))
