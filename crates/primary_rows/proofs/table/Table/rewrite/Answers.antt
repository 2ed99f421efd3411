use Rattle.std.proofs.Common.{◌∙◌, ap, sym, subst, IsSome, Option, Some}
use Rattle.layout_meaning.specs.Side.{Entities, Pair, find, rows_of, write, with_rows}
use Rattle.primary_rows.proofs.Counting.{counted-rewritten, written-entities, entity-there}
use Rattle.primary_rows.proofs.table.Table.rewrite.Goals as goal

pub invariant_of-self : goal.invariant_of-self
invariant_of-self c =
    let ents : Entities = c.self.inside.entities.entries in
    let new : Option Pair = Some (record { pred = c.args.pred; value = c.args.value }) in
    let found : IsSome (find c.args.pred (rows_of ents c.args.entity)) = subst (λ (l : Entities). IsSome (find c.args.pred (rows_of l c.args.entity))) (sym c.self.view_is) c.requires.there in
    let final = written-entities ents c.write.new.entities.entries c.drop_empty.new.entities.entries c.args.entity (write c.args.pred new (rows_of ents c.args.entity)) (entity-there c.args.entity c.args.pred ents found) c.write.ensures.rows c.drop_empty.ensures in
    rw final (counted-rewritten c.args.entity c.args.pred c.args.value ents c.self.inside.rows c.self.inside.spilled found c.self.invariant)

pub returns : goal.returns
returns c =
    let ents : Entities = c.self.inside.entities.entries in
    let new : Option Pair = Some (record { pred = c.args.pred; value = c.args.value }) in
    let found : IsSome (find c.args.pred (rows_of ents c.args.entity)) = subst (λ (l : Entities). IsSome (find c.args.pred (rows_of l c.args.entity))) (sym c.self.view_is) c.requires.there in
    written-entities ents c.write.new.entities.entries c.drop_empty.new.entities.entries c.args.entity (write c.args.pred new (rows_of ents c.args.entity)) (entity-there c.args.entity c.args.pred ents found) c.write.ensures.rows c.drop_empty.ensures
    ∙ ap (λ (l : Entities). with_rows l c.args.entity (write c.args.pred new (rows_of l c.args.entity))) c.self.view_is
