use Rattle.std.proofs.Common.{◌∙◌, ◌∷◌, ◌++◌, [], ap, List}
use Rattle.layout_meaning.specs.Side.{Item}
use Rattle.shredder.specs.Items.{item_of}
use Rattle.rdf_layout.specs.Gathered.{is_among}
use Rattle.rdf_layout.proofs.Keys.{keys-pushed}
use Rattle.rdf_layout.proofs.item_set.ItemSet.push.Goals as goal

pub returns : goal.returns
returns c =
    keys-pushed c.args.item c.self.inside.placed.keys c.insert.new.self.keys (ap (λ (xs : List Item). is_among xs (item_of c.args.item)) c.self.view_is ∙ c.requires) c.in_ok-insert.ensures.keys
    ∙ ap (λ (xs : List Item). xs ++ item_of c.args.item ∷ []) c.self.view_is
