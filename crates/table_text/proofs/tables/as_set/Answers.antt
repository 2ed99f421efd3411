use Rattle.std.proofs.Common.{◌≡◌, ◌++◌, ◌∷◌, List, sym, ap, ◌∙◌, true}
use Rattle.std.specs.Prelude.{not}
use Rattle.table_meaning.specs.Tables.{NamedTable, has_table}
use Rattle.table_text.proofs.StepLaws.{table_within}
use Rattle.table_text.proofs.tables.as_set.Goals as goal

pub add_table-requires : goal.add_table-requires
add_table-requires c =
    let whole : c.loop-table.yielded ++ c.in-Some.table ∷ c.next.new.self.rest.items ≡ c.args.tables.items =
    ap (λ (r : List NamedTable). c.loop-table.yielded ++ r) (sym c.in-Some.ensures.steps.0) ∙ c.loop-table.invariant.1 in
    let fresh : not (has_table c.loop-table.yielded c.in-Some.table.name) ≡ true = (table_within c.loop-table.yielded c.next.new.self.rest.items c.in-Some.table c.args.tables.items whole c.requires).0 in
    let name : c.table.inside.name ≡ c.in-Some.table.name = ap (λ (x : NamedTable). x.name) c.table.view_is in
    rw (c.loop-table.invariant.0, name) fresh
