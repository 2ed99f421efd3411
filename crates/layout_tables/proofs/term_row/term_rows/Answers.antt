use Rattle.std.proofs.Common.{◌≡◌, ℕ, ◌+◌, ◌-◌, Some, slice_get, refl, subst}
use Rattle.layout_tables.proofs.TermLists.{row-on}
use Rattle.layout_tables.proofs.term_row.term_rows.Goals as goal

pub loop-at-preserved : goal.loop-at-preserved
loop-at-preserved c =
    row-on c.loop-at.rows.items c.push.new.self.items c.of.result c.args.book.now c.loop-at.at (c.loop-at.at + 1) c.term.result.now c.loop-at.invariant c.in_ok-push.ensures.items c.of.ensures refl
    (subst (λ (n : ℕ). slice_get c.args.book.now (n - 1) ≡ Some c.term.result.now) c.new.ensures c.term.ensures.1)
