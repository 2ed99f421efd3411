use Rattle.std.proofs.Common.{◌≡◌, ◌<◌, ◌∙◌, [], arith, true, false, nat_lt, sym, List, ℕ}
use Rattle.std.proofs.lemmas.List.Elements.{All-push}
use Rattle.pred_columns.specs.Refusal.{fault_from}
use Rattle.pred_columns.proofs.Known.{repeated, out_of_range, goes_on, made_more}
use Rattle.pred_columns.proofs.columns.known_columns.Goals as goal

pub returns-then-contains_key-clause-refused : goal.returns-then-contains_key-clause-refused
returns-then-contains_key-clause-refused c = λ _.
    repeated c.args.k c.args.pairs.now c.loop-at.known.entries c.loop-at.at c.index-pairs-at.result (fault_from c.args.k [] c.args.pairs.now 0) (omega arith) c.index-pairs-at.is c.loop-at.invariant.made
    (sym c.contains_key.ensures ∙ c.if-contains_key.true) c.loop-at.invariant.rest

pub returns-then-pair-k-clause-refused : goal.returns-then-pair-k-clause-refused
returns-then-pair-k-clause-refused c = λ _.
    let high : nat_lt c.index-pairs-at.result.column c.args.k ≡ false = grind arith in
    out_of_range c.args.k c.args.pairs.now c.loop-at.known.entries c.loop-at.at c.index-pairs-at.result (fault_from c.args.k [] c.args.pairs.now 0) (omega arith) c.index-pairs-at.is c.loop-at.invariant.made
    (sym c.contains_key.ensures ∙ c.if-contains_key.false) high c.loop-at.invariant.rest

pub loop-at-preserved : goal.loop-at-preserved
loop-at-preserved c =
    let low : nat_lt c.index-pairs-at.result.column c.args.k ≡ true = grind arith in
    record {
      made = made_more c.args.pairs.now c.loop-at.known.entries c.add_new.new.known.entries c.loop-at.at c.index-pairs-at.result (omega arith) c.index-pairs-at.is c.loop-at.invariant.made c.in_ok-add_new.ensures;
      below = rw c.in_ok-add_new.ensures (All-push (λ (p : List ℕ × ℕ). p.1 < c.args.k) c.loop-at.known.entries (c.index-pairs-at.result.iri, c.index-pairs-at.result.column) c.loop-at.invariant.below (omega arith));
      rest = goes_on c.args.k c.args.pairs.now c.loop-at.known.entries c.loop-at.at c.index-pairs-at.result (fault_from c.args.k [] c.args.pairs.now 0) (omega arith) c.index-pairs-at.is c.loop-at.invariant.made
          (sym c.contains_key.ensures ∙ c.if-contains_key.false) low c.loop-at.invariant.rest;
    }
