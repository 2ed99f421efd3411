use Rattle.std.proofs.Common.{map}
use Rattle.colouring_file.specs.Colours.{colour_of}
use Rattle.run_meaning.specs.Limits.{most_file}
use Rattle.run_meaning.specs.declared.which.Which.TheVariants as which
use Rattle.run_files_meaning.specs.Intake.{settled}
use Rattle.run_files_meaning.specs.Files.{text_read, judged_colours}
use Rattle.run_files_meaning.proofs.Takes.{first_stops, judged_behind}
use Rattle.run_files.proofs.colouring.read_colouring_file.Goals as goal

pub returns-in_err-text-clause-taken : goal.returns-in_err-text-clause-taken
returns-in_err-text-clause-taken g c =
    first_stops (λ lines. map colour_of lines.items) c.from_residual.result c.in_err-text.field-0.0 (text_read most_file which.File c.args.name.now) (λ text. settled (judged_colours c.args.direct c.args.reverse text))
    (g.F.Shelf.content c.args.shelf.now) (g.F.Shelf.faults c.args.shelf.now) (g.F.Shelf.faults c.read_text.new.shelf) c.from_residual.ensures.1 c.in_err-text.ensures.taken

pub returns-clause-taken : goal.returns-clause-taken
returns-clause-taken g c =
    judged_behind (λ lines. map colour_of lines.items) c.judge_colours.result (text_read most_file which.File c.args.name.now) (judged_colours c.args.direct c.args.reverse) c.in_ok-text.text.items c.deref.result.now
    (g.F.Shelf.content c.args.shelf.now) (g.F.Shelf.faults c.args.shelf.now) (g.F.Shelf.faults c.read_text.new.shelf) c.deref.ensures.value c.in_ok-text.ensures.taken c.judge_colours.ensures.ok c.judge_colours.ensures.err
