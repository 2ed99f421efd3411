use Rattle.std.proofs.Common.{ap, sym, ◌∙◌}
use Rattle.std.specs.Option.{option_copied}
use Rattle.sparql_refusals.proofs.TokenPlaces.{kind_there, kind_end}
use Rattle.sparql_refusals.proofs.places.kind_behind.Goals as goal

pub returns-in-Some : goal.returns-in-Some
returns-in-Some c = kind_there c.args.tokens.now c.args.n c.in-Some.token.now (sym c.at.ensures ∙ ap option_copied c.in-Some.is)

pub returns-in-None : goal.returns-in-None
returns-in-None c = kind_end c.args.tokens.now c.args.n (sym c.at.ensures ∙ ap option_copied c.in-None.is)
