use Rattle.line_change_laws.proofs.Counts.{few}
use Rattle.run_files.proofs.data.judge_data.Goals as goal

pub returns-in-Ok-clause-few : goal.returns-in-Ok-clause-few
returns-in-Ok-clause-few c = few c.args.file c.args.text.now c.in-Ok.changes.items c.in-Ok.ensures.value
