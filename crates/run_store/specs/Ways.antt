-- How the known columns are found, under options.
use Rattle.std.specs.Global.{Vec}
use Rattle.run_meaning.specs.declared.command.Layout.{Layout}
use Rattle.run_meaning.specs.declared.command.Layout.TheVariants.{Colour, Hash, File}
use Rattle.colouring_file.specs.declared.colours.ColourLine.{ColourLine}
use Rattle.layout_choice.specs.declared.choice.ColourWay.{ColourWay}
use Rattle.layout_choice.specs.declared.choice.ColourWay.TheVariants.{Greedy, HashOnly, Given}

-- by the lines of the colouring file, where the layout is that of a file
abbrev pub way_for : Layout → Vec ColourLine → ColourWay
way_for Colour lines = Greedy
way_for Hash lines = HashOnly
way_for (File name) lines = Given lines
