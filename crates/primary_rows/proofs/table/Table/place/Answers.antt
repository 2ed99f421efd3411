use Rattle.std.proofs.Common.{◌∙◌, ◌+◌, ◌==◌, ap, ℕ, Bool, if◌then◌else◌}
use Rattle.layout_meaning.specs.Side.{Pair}
use Rattle.layout_meaning.specs.Sound.{one_if}
use Rattle.primary_rows.specs.Counted.{count_in}
use Rattle.primary_rows.proofs.Counting.{counted-place}
use Rattle.primary_rows.proofs.table.Table.place.Goals as goal

pub invariant_of-self-2 : goal.invariant_of-self-2
invariant_of-self-2 c =
    let pair : Pair = record { pred = c.args.pred; value = c.args.value } in
    rw c.in-Ok.ensures.ok (counted-place c.args.width c.args.entity c.args.columns.now pair c.self.inside.entities.entries c.self.inside.rows c.in-Some.rows c.self.inside.spilled c.note.new.spilled c.requires.within c.self.invariant
    (c.in-Some.ensures ∙ ap (λ (b : Bool). c.self.inside.rows + one_if b) c.stand-there.ensures.opens)
    (λ (q : ℕ). c.in_ok-note.ensures.ok q ∙ ap (λ (b : Bool). count_in c.self.inside.spilled q + (if b then one_if (c.args.pred == q) else 0)) c.stand-there.ensures.behind))
