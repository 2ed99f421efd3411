use Rattle.std.proofs.Common.{map}
use Rattle.colouring_file.specs.Colours.{colour_of}
use Rattle.db2rdf_top.proofs.Jobs.{colours_stop, data_stop, counts_make}
use Rattle.db2rdf_top.proofs.program.count_tables.Goals as goal

pub returns-in_err-lines : goal.returns-in_err-lines
returns-in_err-lines g c =
    colours_stop (λ t. t.items) c.from_residual.result c.in_err-lines.field-0.0 c.args.options.now c.args.data_names.now
    (g.F.Shelf.content c.args.shelf.now) (g.F.Shelf.faults c.args.shelf.now) (g.F.Shelf.faults c.read_colours.new.shelf) c.from_residual.ensures.1 c.in_err-lines.ensures.taken

pub returns-in_err-changes : goal.returns-in_err-changes
returns-in_err-changes g c =
    data_stop (λ t. t.items) c.from_residual-in_err-changes.result c.in_err-changes.field-0.0 c.args.options.now c.args.data_names.now
    (g.F.Shelf.content c.args.shelf.now) (g.F.Shelf.content c.read_colours.new.shelf) (g.F.Shelf.faults c.args.shelf.now) (g.F.Shelf.faults c.read_colours.new.shelf) (g.F.Shelf.faults c.read_data.new.shelf)
    (map colour_of c.in_ok-lines.lines.items) c.from_residual-in_err-changes.ensures.1 c.in_ok-lines.ensures.taken c.in_ok-lines.ensures.content c.in_ok-lines.ensures.counts c.in_err-changes.ensures.taken

pub returns : goal.returns
returns g c =
    counts_make (λ t. t.items) c.counted_text.result c.args.options.now c.args.data_names.now
    (g.F.Shelf.content c.args.shelf.now) (g.F.Shelf.content c.read_colours.new.shelf) (g.F.Shelf.faults c.args.shelf.now) (g.F.Shelf.faults c.read_data.new.shelf)
    (map colour_of c.in_ok-lines.lines.items) c.in_ok-changes.changes.items c.in_ok-lines.ensures.taken c.in_ok-lines.ensures.content c.in_ok-changes.ensures.taken
    c.counted_text.ensures.fits c.counted_text.ensures.judged c.counted_text.ensures.refused
