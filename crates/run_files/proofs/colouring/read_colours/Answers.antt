use Rattle.run_files.proofs.Files.{none_fit, uncoloured, hashed}
use Rattle.run_files.proofs.colouring.read_colours.Goals as goal

pub returns-in-Colour-clause-taken : goal.returns-in-Colour-clause-taken
returns-in-Colour-clause-taken g c =
    uncoloured c.args.options.now.columns c.args.options.now.reverse c.args.options.now.layout c.new.result.items (g.F.Shelf.content c.args.shelf.now) c.in-Colour.is c.new.ensures.items

pub returns-in-Colour-clause-fit : goal.returns-in-Colour-clause-fit
returns-in-Colour-clause-fit g c = none_fit c.args.options.now.columns c.args.options.now.reverse c.new.result.items c.new.ensures.items

pub returns-in-Hash-clause-taken : goal.returns-in-Hash-clause-taken
returns-in-Hash-clause-taken g c =
    hashed c.args.options.now.columns c.args.options.now.reverse c.args.options.now.layout c.new-in-Hash.result.items (g.F.Shelf.content c.args.shelf.now) c.in-Hash.is c.new-in-Hash.ensures.items

pub returns-in-Hash-clause-fit : goal.returns-in-Hash-clause-fit
returns-in-Hash-clause-fit g c = none_fit c.args.options.now.columns c.args.options.now.reverse c.new-in-Hash.result.items c.new-in-Hash.ensures.items
