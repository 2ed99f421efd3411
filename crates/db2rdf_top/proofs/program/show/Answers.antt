use Rattle.std.proofs.Common.{map}
use Rattle.colouring_file.specs.Colours.{colour_of}
use Rattle.run_show_meaning.specs.Showing.{show_job}
use Rattle.db2rdf_top.proofs.Jobs.{job_stops, show_makes}
use Rattle.db2rdf_top.proofs.program.show.Goals as goal

pub returns-in_err-files : goal.returns-in_err-files
returns-in_err-files g c =
    job_stops (λ t. t.items) c.from_residual.result c.in_err-files.field-0.0 (show_job c.args.options.now c.args.data_names.now c.args.query_name.now)
    (g.F.Shelf.content c.args.shelf.now) (g.F.Shelf.faults c.args.shelf.now) (g.F.Shelf.faults c.read_query_files.new.shelf) c.from_residual.ensures.1 c.in_err-files.ensures.taken

pub returns : goal.returns
returns g c =
    show_makes (λ t. t.items) c.show_text.result c.args.options.now c.args.data_names.now c.args.query_name.now
    (g.F.Shelf.content c.args.shelf.now) (g.F.Shelf.faults c.args.shelf.now) (g.F.Shelf.faults c.read_query_files.new.shelf)
    (map colour_of c.in_ok-files.files.lines.items) c.in_ok-files.files.changes.items c.in_ok-files.files.text.items c.deref.result.now c.deref.ensures.value c.in_ok-files.ensures.taken
    c.show_text.ensures.ok c.show_text.ensures.err
