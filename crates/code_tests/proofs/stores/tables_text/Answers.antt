use Rattle.std.proofs.Common.{ap, arith}
use Rattle.layout_meaning.specs.Facts.{FactsOf}
use Rattle.layout_standing_meaning.specs.Stored.{layout_of, stored_triples}
use Rattle.code_tests.proofs.stores.tables_text.Goals as goal

-- src/stores.rt
pub write_tables-requires : goal.write_tables-requires
write_tables-requires c =
    let direct = ap (λ (f : FactsOf). f.direct.count) c.facts-2.view_is in
    let reverse = ap (λ (f : FactsOf). f.reverse.count) c.facts-2.view_is in
    let told_direct = ap (λ (f : FactsOf). f.direct.count) c.in_ok-facts.ensures.told.told in
    let told_reverse = ap (λ (f : FactsOf). f.reverse.count) c.in_ok-facts.ensures.told.told in
    c.standing_tables_are_plain.ensures (layout_of c.args.store.now) c.in_ok-tables.tables (stored_triples c.args.store.now) c.in_ok-tables.ensures.stand
    (omega (arith, direct, told_direct, c.count-direct.ensures.value, c.count-direct.ensures.high))
    (omega (arith, reverse, told_reverse, c.count-reverse.ensures.value, c.count-reverse.ensures.high))
