use Rattle.std.proofs.Common.{map}
use Rattle.std.proofs.lemmas.Result.{err_from_is_err_and}
use Rattle.colouring_file.specs.Colours.{colour_of}
use Rattle.run_stats.proofs.Fits.{stats-fit}
use Rattle.run_stats.proofs.work.stats_text.Goals as goal

pub returns-clause-ok : goal.returns-clause-ok
returns-clause-ok g c =
    stats-fit c.args.options.now (map colour_of c.args.lines.items) c.args.changes.items c.in_ok-store.store c.stats.result c.in_ok-text_of.field-0.items c.in_ok-store.ensures.store c.stats.ensures c.in_ok-text_of.ensures

pub returns-in_err-text_of-clause-passed : goal.returns-in_err-text_of-clause-passed
returns-in_err-text_of-clause-passed g c = let p = err_from_is_err_and c.from_residual-in_err-text_of.result c.from_residual-in_err-text_of.ensures.1 in rw (p.1, p.2) tt
