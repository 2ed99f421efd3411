use Rattle.std.proofs.Common.{◌≡◌, ◌∷◌, ℕ}
use Rattle.std.proofs.lemmas.Map.Iter.{rest_more}
use Rattle.layout_meaning.specs.Side.{Rows, Entities}
use Rattle.layout_bulk_meaning.specs.Appended.{lists_in_rows, given_entity, named_in_rows}
use Rattle.layout_bulk_meaning.proofs.Going.{going-good}
use Rattle.primary_rows.proofs.Moved.{entities-next}
use Rattle.primary_rows.proofs.append.move_entities.Goals as goal

pub moved_rows-requires : goal.moved_rows-requires
moved_rows-requires c =
    let x : ℕ × Rows = (c.in-Some.entity, c.in-Some.rows) in
    let rest : Entities = c.loop-entity.entity-iterator in
    let more : Entities = c.next.new.self in
    let e : rest ≡ x ∷ more = rest_more (λ (p : ℕ × Rows). p) rest more c.next.result (c.in-Some.entity, c.in-Some.rows) c.in-Some.is c.next.ensures.steps in
    going-good (λ (en : ℕ × Rows). lists_in_rows en.1) given_entity (λ (en : ℕ × Rows). named_in_rows c.args.from.now.lists en.1) c.args.entities.now.entries c.loop-entity.entities.entries c.args.later.entries rest more x
    c.args.to.now c.loop-entity.to c.loop-entity.invariant.going e

pub loop-entity-preserved-in-Ok : goal.loop-entity-preserved-in-Ok
loop-entity-preserved-in-Ok c =
    let rest : Entities = c.loop-entity.entity-iterator in
    let more : Entities = c.next.new.self in
    let e : rest ≡ (c.in-Some.entity, c.in-Some.rows) ∷ more = rest_more (λ (p : ℕ × Rows). p) rest more c.next.result (c.in-Some.entity, c.in-Some.rows) c.in-Some.is c.next.ensures.steps in
    let t = entities-next c.args.entities.now.entries c.loop-entity.entities.entries c.insert.new.self.entries c.args.later.entries rest more c.in-Some.entity c.in-Some.rows c.in_ok-moved.moved
    c.args.to.now c.loop-entity.to c.moved_rows.new.to c.args.from.now.lists c.loop-entity.invariant.going c.loop-entity.invariant.above c.loop-entity.invariant.rising e c.in_ok-moved.ensures.rows c.in_ok-moved.ensures.lists c.in-Ok.ensures.entries in
    record { going = t.0; above = t.1; rising = t.2 }

pub loop-entity-preserved : goal.loop-entity-preserved
loop-entity-preserved c =
    let rest : Entities = c.loop-entity.entity-iterator in
    let more : Entities = c.next.new.self in
    let e : rest ≡ (c.in-Some.entity, c.in-Some.rows) ∷ more = rest_more (λ (p : ℕ × Rows). p) rest more c.next.result (c.in-Some.entity, c.in-Some.rows) c.in-Some.is c.next.ensures.steps in
    let t = entities-next c.args.entities.now.entries c.loop-entity.entities.entries c.insert.new.self.entries c.args.later.entries rest more c.in-Some.entity c.in-Some.rows c.in_ok-moved.moved
    c.args.to.now c.loop-entity.to c.moved_rows.new.to c.args.from.now.lists c.loop-entity.invariant.going c.loop-entity.invariant.above c.loop-entity.invariant.rising e c.in_ok-moved.ensures.rows c.in_ok-moved.ensures.lists c.in-Ok.ensures.entries in
    record { going = t.0; above = t.1; rising = t.2 }
