use Rattle.std.proofs.Common.{map, List, ℕ, ◌∙◌, arith}
use Rattle.colouring_file.specs.Colours.{colour_of}
use Rattle.run_meaning.specs.Limits.{most_query}
use Rattle.run_meaning.specs.declared.which.Which.TheVariants as which
use Rattle.run_files_meaning.specs.Files.{text_read, colours_read, data_read, query_files, query_read}
use Rattle.run_files_meaning.proofs.Takes.{first_stops, later_stops, stops_behind}
use Rattle.run_files.proofs.Files.{behind_text, behind_changes, behind_colours, colours_lead, changes_lead, text_leads_on}
use Rattle.run_files.proofs.query.read_query_files.Goals as goal

pub returns-in_err-lines-clause-taken : goal.returns-in_err-lines-clause-taken
returns-in_err-lines-clause-taken g c =
    first_stops (λ files. query_files (map colour_of files.lines.items) files.changes.items files.text.items) c.from_residual.result c.in_err-lines.field-0.0
    (colours_read c.args.options.now) (behind_colours c.args.data_names.now c.args.query_name.now)
    (g.F.Shelf.content c.args.shelf.now) (g.F.Shelf.faults c.args.shelf.now) (g.F.Shelf.faults c.read_colours.new.shelf) c.from_residual.ensures.1 c.in_err-lines.ensures.taken

pub returns-in_err-changes-clause-taken : goal.returns-in_err-changes-clause-taken
returns-in_err-changes-clause-taken g c =
    later_stops (λ files. query_files (map colour_of files.lines.items) files.changes.items files.text.items) c.from_residual-in_err-changes.result c.in_err-changes.field-0.0
    (query_read c.args.options.now c.args.data_names.now c.args.query_name.now) (behind_colours c.args.data_names.now c.args.query_name.now (map colour_of c.in_ok-lines.lines.items))
    (g.F.Shelf.content c.args.shelf.now) (g.F.Shelf.content c.read_colours.new.shelf) (g.F.Shelf.faults c.args.shelf.now) (g.F.Shelf.faults c.read_colours.new.shelf) (g.F.Shelf.faults c.read_data.new.shelf)
    c.from_residual-in_err-changes.ensures.1
    (colours_lead c.args.options.now c.args.data_names.now c.args.query_name.now (g.F.Shelf.content c.args.shelf.now) (map colour_of c.in_ok-lines.lines.items) c.in_ok-lines.ensures.taken)
    c.in_ok-lines.ensures.content c.in_ok-lines.ensures.counts
    (stops_behind c.in_err-changes.field-0.0 (data_read c.args.data_names.now) (behind_changes c.args.query_name.now (map colour_of c.in_ok-lines.lines.items))
    (g.F.Shelf.content c.read_colours.new.shelf) (g.F.Shelf.faults c.read_colours.new.shelf) (g.F.Shelf.faults c.read_data.new.shelf) c.in_err-changes.ensures.taken)

pub returns-in_err-text-clause-taken : goal.returns-in_err-text-clause-taken
returns-in_err-text-clause-taken g c =
    later_stops (λ files. query_files (map colour_of files.lines.items) files.changes.items files.text.items) c.from_residual-in_err-text.result c.in_err-text.field-0.0
    (query_read c.args.options.now c.args.data_names.now c.args.query_name.now) (behind_changes c.args.query_name.now (map colour_of c.in_ok-lines.lines.items) c.in_ok-changes.changes.items)
    (g.F.Shelf.content c.args.shelf.now) (g.F.Shelf.content c.read_data.new.shelf) (g.F.Shelf.faults c.args.shelf.now) (g.F.Shelf.faults c.read_data.new.shelf) (g.F.Shelf.faults c.read_text.new.shelf)
    c.from_residual-in_err-text.ensures.1
    (changes_lead c.args.options.now c.args.data_names.now c.args.query_name.now (g.F.Shelf.content c.args.shelf.now) (g.F.Shelf.content c.read_colours.new.shelf) (map colour_of c.in_ok-lines.lines.items) c.in_ok-changes.changes.items
    c.in_ok-lines.ensures.taken c.in_ok-lines.ensures.content c.in_ok-changes.ensures.taken)
    (λ (n : List ℕ). c.in_ok-changes.ensures.content n ∙ c.in_ok-lines.ensures.content n)
    (λ (n : List ℕ). omega (arith, c.in_ok-lines.ensures.counts n, c.in_ok-changes.ensures.counts n))
    (stops_behind c.in_err-text.field-0.0 (text_read most_query which.Query c.args.query_name.now) (behind_text (map colour_of c.in_ok-lines.lines.items) c.in_ok-changes.changes.items)
    (g.F.Shelf.content c.read_data.new.shelf) (g.F.Shelf.faults c.read_data.new.shelf) (g.F.Shelf.faults c.read_text.new.shelf) c.in_err-text.ensures.taken)

pub returns-clause-taken : goal.returns-clause-taken
returns-clause-taken g c =
    text_leads_on c.args.options.now c.args.data_names.now c.args.query_name.now (g.F.Shelf.content c.args.shelf.now) (g.F.Shelf.content c.read_colours.new.shelf) (g.F.Shelf.content c.read_data.new.shelf)
    (map colour_of c.in_ok-lines.lines.items) c.in_ok-changes.changes.items c.in_ok-text.text.items
    c.in_ok-lines.ensures.taken c.in_ok-lines.ensures.content c.in_ok-changes.ensures.taken (λ (n : List ℕ). c.in_ok-changes.ensures.content n ∙ c.in_ok-lines.ensures.content n) c.in_ok-text.ensures.taken
