use Rattle.std.proofs.Common.{◌≡◌, ◌∙◌, ◌<◌, ◌-◌, ◌==◌, ℕ, List, arith, ap, sym}
use Rattle.layout_meaning.specs.Sound.{one_if}
use Rattle.layout_meaning.proofs.RowsKept.{All-set, All-remove}
use Rattle.primary_rows.specs.Counted.{count_in}
use Rattle.primary_rows.proofs.CountSteps.{count-set}
use Rattle.primary_rows.proofs.counts.SpillCounts.lower.Goals as goal

pub invariant_of-self : goal.invariant_of-self
invariant_of-self c = rw c.set.ensures (All-set (λ (n : ℕ). 0 < n) c.args.pred (c.count-count.result - 1) c.self.inside.counts.entries (omega arith) c.self.invariant)

pub invariant_of-self-else-count-gt1 : goal.invariant_of-self-else-count-gt1
invariant_of-self-else-count-gt1 c = rw c.remove.ensures.entries (All-remove (λ (n : ℕ). 0 < n) c.args.pred c.self.inside.counts.entries c.self.invariant)

pub returns-then-count-gt1 : goal.returns-then-count-gt1
returns-then-count-gt1 c = λ (q : ℕ).
    let es : List (ℕ × ℕ) = c.self.inside.counts.entries in
    let is : c.count-count.result ≡ count_in es c.args.pred = c.count-count.ensures ∙ ap (λ (l : List (ℕ × ℕ)). count_in l c.args.pred) (sym c.self.view_is) in
    ap (λ (l : List (ℕ × ℕ)). count_in l q) c.set.ensures ∙ count-set c.args.pred (c.count-count.result - 1) es (omega arith) (omega arith) q
    ∙ ap (λ (l : List (ℕ × ℕ)). count_in l q - one_if (c.args.pred == q)) c.self.view_is
