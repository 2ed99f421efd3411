use Rattle.layout_standing_meaning.specs.Stored.{layout_of, stored_triples}
use Rattle.run_show.proofs.shown.text_of.Goals as goal

pub write_tables-requires : goal.write_tables-requires
write_tables-requires c =
    c.standing_tables_are_plain.ensures (layout_of c.args.store.now) c.in_ok-tables.tables (stored_triples c.args.store.now) c.in_ok-tables.ensures.stand c.requires.direct c.requires.reverse
