use Rattle.std.proofs.Common.{sym, ◌∙◌, ◌≡◌, arith}
use Rattle.sparql_query_meaning.specs.Lexemes.{place_of}
use Rattle.sparql_lexemes.proofs.NameLaws.{place_found, place_missed}
use Rattle.sparql_lexemes.proofs.names.Names.place.Goals as goal

pub returns-in-Some : goal.returns-in-Some
returns-in-Some c =
    let h : c.in-Some.at ≡ place_of c.self.inside.names.keys c.args.name.now = place_found c.args.name.now c.self.inside.names.keys c.in-Some.at (sym c.in-Some.is ∙ c.get_index_of.ensures.index) in
    grind (arith, h, c.self.view_is)

pub returns-in-None : goal.returns-in-None
returns-in-None c =
    let h : c.len.result ≡ place_of c.self.inside.names.keys c.args.name.now = c.len.ensures.len ∙ place_missed c.args.name.now c.self.inside.names.keys (sym c.in-None.is ∙ c.get_index_of.ensures.index) in
    grind (arith, h, c.self.view_is)
