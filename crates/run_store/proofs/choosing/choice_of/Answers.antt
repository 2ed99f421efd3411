use Rattle.std.proofs.Common.{◌∙◌, ap}
use Rattle.layout_choice.specs.declared.choice.ColourWay.{ColourWay}
use Rattle.layout_choice.specs.Chosen.{choice_made}
use Rattle.run_store.proofs.Fits.{choice-is}
use Rattle.run_store.proofs.choosing.choice_of.Goals as goal

pub returns-in-Ok-clause-ok : goal.returns-in-Ok-clause-ok
returns-in-Ok-clause-ok c =
    c.in-Ok.ensures.made ∙ ap (λ (w : ColourWay). choice_made c.args.options.now.columns c.args.options.now.reverse c.args.options.now.hashes w) c.way_of-way.ensures
    ∙ choice-is c.args.options.now c.args.lines
