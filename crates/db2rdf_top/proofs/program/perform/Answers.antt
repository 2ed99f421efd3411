use Rattle.std.proofs.Common.{sym, subst}
use Rattle.db2rdf_top.proofs.Jobs.{IsUnbuilt, unbuilt}
use Rattle.db2rdf_top.proofs.program.perform.Goals as goal

pub returns-in-Plan : goal.returns-in-Plan
returns-in-Plan g c = unbuilt c.args.command.now (g.F.Shelf.content c.args.shelf.now) (subst IsUnbuilt (sym c.in-Plan.is) tt)

pub returns-in-Drill : goal.returns-in-Drill
returns-in-Drill g c = unbuilt c.args.command.now (g.F.Shelf.content c.args.shelf.now) (subst IsUnbuilt (sym c.in-Drill.is) tt)
