use Rattle.std.proofs.Common.{sym, subst, List, ℕ, nat_lt, length}
use Rattle.std.specs.Map.{keys_of}
use Rattle.std.specs.Ordering.{nat_cmp}
use Rattle.std.proofs.lemmas.Map.Keys.{IsDistinct-from_sorted}
use Rattle.layout_meaning.specs.Rows.{IsCountOf}
use Rattle.primary_rows.specs.Counted.{count_in}
use Rattle.primary_rows.proofs.CountSteps.{counted}
use Rattle.primary_rows.proofs.counts.SpillCounts.len.Goals as goal

pub returns : goal.returns
returns c =
    let es : List (ℕ × ℕ) = c.self.inside.counts.entries in
    subst (λ (n : ℕ). IsCountOf (λ (p : ℕ). nat_lt 0 (count_in c.args.self.now p)) n) (sym c.len.ensures.len)
    (subst (λ (l : List (ℕ × ℕ)). IsCountOf (λ (p : ℕ). nat_lt 0 (count_in l p)) (length es)) c.self.view_is
    (counted es c.self.invariant (IsDistinct-from_sorted nat_cmp (keys_of es) c.len.ensures.ordered)))
