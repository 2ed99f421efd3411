use Rattle.std.proofs.Common.{◌≡◌, ◌+◌, ◌∷◌, ℕ, List}
use Rattle.std.specs.Map.Iter.{deref_pair}
use Rattle.std.proofs.lemmas.Map.Iter.{rest_more}
use Rattle.primary_rows.specs.Counted.{count_in}
use Rattle.primary_rows.proofs.Moved.{sum-next, rising-next, positive-next}
use Rattle.primary_rows.proofs.counts.SpillCounts.add.Goals as goal

pub loop-pred-preserved : goal.loop-pred-preserved
loop-pred-preserved c =
    let p : ℕ = c.in-Some.pred.now in
    let n : ℕ = c.in-Some.count.now in
    let rest : List (ℕ × ℕ) = c.loop-pred.pred-iterator in
    let more : List (ℕ × ℕ) = c.next.new.self in
    let e : rest ≡ (p, n) ∷ more = rest_more deref_pair rest more c.next.result (c.in-Some.pred, c.in-Some.count) c.in-Some.is c.next.ensures.steps in
    record {
      sum = λ q.
          sum-next (count_in c.loop-pred.self) (count_in c.raise_by.new.self) rest more p n (count_in c.args.self.now q + count_in c.args.later.now q) q c.loop-pred.invariant.rising e (c.in_ok-raise_by.ensures q)
          (c.loop-pred.invariant.sum q);
      rising = rising-next rest more (p, n) c.loop-pred.invariant.rising e;
      positive = positive-next rest more (p, n) c.loop-pred.invariant.positive e;
    }
