use Rattle.std.proofs.Common.{◌≡◌, ◌+◌, ◌++◌, ◌∷◌, [], take, arith, Some, sym, ap, ◌∙◌, slice_get}
use Rattle.std.specs.Option.{option_copied}
use Rattle.sparql_lexemes.proofs.NameLaws.{text_more}
use Rattle.sparql_lexemes.proofs.names.Names.texts.Goals as goal

pub loop-at-preserved : goal.loop-at-preserved
loop-at-preserved c =
    let n : slice_get c.self.inside.names.keys c.loop-at.at ≡ Some c.unwrap-name.result.now = sym c.get_index.ensures.key ∙ ap option_copied c.unwrap-name.ensures in
    let p : c.push.new.self ≡ c.loop-at.texts ++ c.unwrap-name.result.now ∷ [] = grind (arith, c.in_ok-push.ensures.ok, c.in_ok-copy.ensures) in
    let w : c.loop-at.texts ≡ take c.loop-at.at c.self.inside.names.keys = grind (arith, c.loop-at.invariant, c.self.view_is) in
    let h : c.push.new.self ≡ take (c.loop-at.at + 1) c.self.inside.names.keys = text_more c.self.inside.names.keys c.loop-at.texts c.push.new.self c.loop-at.at c.unwrap-name.result.now n w p in
    grind (arith, h, c.self.view_is)
