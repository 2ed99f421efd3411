use Rattle.std.proofs.Common.{rules, arith}
use Rattle.sparql_grammar.specs.QuerySteps.{TailStops, tail_got, tail_order_stops, tail_slice_stops}
use Rattle.sparql_grammar.proofs.whole.read_tail.Goals as goal

pub returns-in_err-keys-clause-refuses : goal.returns-in_err-keys-clause-refuses
returns-in_err-keys-clause-refuses c =
    let h : TailStops c.args.tokens.now c.in_err-keys.field-0.0 = tail_order_stops _ _ _ _ c.in_ok-elements.ensures.reads c.in_err-keys.ensures.refuses in
    search rules

pub returns-in_err-slice-clause-refuses : goal.returns-in_err-slice-clause-refuses
returns-in_err-slice-clause-refuses c =
    let h : TailStops c.args.tokens.now c.in_err-slice.field-0.0 = tail_slice_stops _ _ _ _ _ _ c.in_ok-elements.ensures.reads c.in_ok-keys.ensures.reads c.in_err-slice.ensures.refuses in
    search rules

pub returns-clause-reads : goal.returns-clause-reads
returns-clause-reads c = tail_got _ _ c.in_ok-elements.ensures.reads c.in_ok-keys.ensures.reads c.in_ok-slice.ensures.reads
