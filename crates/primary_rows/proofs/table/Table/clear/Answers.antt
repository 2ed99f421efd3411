use Rattle.std.proofs.Common.{◌∙◌, ap, sym, subst, IsSome, None}
use Rattle.layout_meaning.specs.Side.{Entities, find, rows_of, write, with_rows}
use Rattle.primary_rows.proofs.Counting.{row-there, counted-cleared, written-entities, entity-there}
use Rattle.primary_rows.proofs.table.Table.clear.Goals as goal

pub fewer_rows-self-inside-requires : goal.fewer_rows-self-inside-requires
fewer_rows-self-inside-requires c =
    row-there c.args.entity c.args.pred c.self.inside.entities.entries c.self.inside.rows c.self.inside.spilled c.write-dropped.result c.self.invariant c.write-dropped.ensures.dropped

pub invariant_of-self : goal.invariant_of-self
invariant_of-self c =
    let ents : Entities = c.self.inside.entities.entries in
    let found : IsSome (find c.args.pred (rows_of ents c.args.entity)) = subst (λ (l : Entities). IsSome (find c.args.pred (rows_of l c.args.entity))) (sym c.self.view_is) c.requires.there in
    let final = written-entities ents c.write-dropped.new.entities.entries c.drop_empty.new.entities.entries c.args.entity (write c.args.pred None (rows_of ents c.args.entity)) (entity-there c.args.entity c.args.pred ents found) c.write-dropped.ensures.rows c.drop_empty.ensures in
    rw final (counted-cleared c.args.entity c.args.pred ents c.write-dropped.new.entities.entries c.self.inside.rows c.fewer_rows-self-inside.result c.self.inside.spilled c.settle.new.spilled c.is_in_first-first.result c.write-dropped.result
    found c.self.invariant c.write-dropped.ensures.rows c.is_in_first-first.ensures c.write-dropped.ensures.dropped c.fewer_rows-self-inside.ensures c.settle.ensures)

pub returns : goal.returns
returns c =
    let ents : Entities = c.self.inside.entities.entries in
    let found : IsSome (find c.args.pred (rows_of ents c.args.entity)) = subst (λ (l : Entities). IsSome (find c.args.pred (rows_of l c.args.entity))) (sym c.self.view_is) c.requires.there in
    written-entities ents c.write-dropped.new.entities.entries c.drop_empty.new.entities.entries c.args.entity (write c.args.pred None (rows_of ents c.args.entity)) (entity-there c.args.entity c.args.pred ents found) c.write-dropped.ensures.rows c.drop_empty.ensures
    ∙ ap (λ (l : Entities). with_rows l c.args.entity (write c.args.pred None (rows_of l c.args.entity))) c.self.view_is
