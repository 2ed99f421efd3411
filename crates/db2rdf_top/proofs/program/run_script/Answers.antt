use Rattle.run_exec_meaning.specs.Running.{exec_job}
use Rattle.db2rdf_top.proofs.Jobs.{job_stops, script_makes}
use Rattle.db2rdf_top.proofs.program.run_script.Goals as goal

pub returns-in_err-text : goal.returns-in_err-text
returns-in_err-text g c =
    job_stops (λ t. t.items) c.from_residual.result c.in_err-text.field-0.0 (exec_job c.args.name.now)
    (g.F.Shelf.content c.args.shelf.now) (g.F.Shelf.faults c.args.shelf.now) (g.F.Shelf.faults c.read_text.new.shelf) c.from_residual.ensures.1 c.in_err-text.ensures.taken

pub returns : goal.returns
returns g c =
    script_makes (λ t. t.items) c.script_text.result c.args.name.now
    (g.F.Shelf.content c.args.shelf.now) (g.F.Shelf.faults c.args.shelf.now) (g.F.Shelf.faults c.read_text.new.shelf)
    c.in_ok-text.text.items c.deref.result.now c.deref.ensures.value c.in_ok-text.ensures.taken c.script_text.ensures.ok c.script_text.ensures.err
