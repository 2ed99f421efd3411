use Rattle.std.proofs.Common.{◌∙◌, ℕ, List, map, sym, ap, subst}
use Rattle.std.specs.List.{AllByRecursion}
use Rattle.std.proofs.lemmas.Result.{IfOk-weaker}
use Rattle.layout_standing_meaning.specs.Stored.{IsIdIn, text_of_id}
use Rattle.pred_colour.specs.declared.colours.Coloured.{Coloured}
use Rattle.pred_colour.specs.Given.{pair_of}
use Rattle.shredder.specs.Items.{item_of}
use Rattle.layout_columns.proofs.Colours.{colour_ids}
use Rattle.layout_columns.proofs.columns.colour_pairs.Goals as goal

pub pairs_of-requires : goal.pairs_of-requires
pairs_of-requires c =
    subst (λ (cs : List Coloured). AllByRecursion (λ (x : ℕ × ℕ). IsIdIn c.args.iris.now x.0) (map pair_of cs)) (sym c.as_slice.ensures.value)
    (colour_ids c.args.iris.now (map item_of c.args.placed.now) c.args.k c.in_ok-graph.graph (map pair_of c.in_ok-colours.colours.items) c.requires.preds c.in_ok-graph.ensures c.in_ok-colours.ensures)

pub returns : goal.returns
returns c =
    IfOk-weaker c.pairs_of.result _ _
    (λ ps e. record {
      graph = c.in_ok-graph.graph;
      colours = map pair_of c.in_ok-colours.colours.items;
      interferes = c.in_ok-graph.ensures;
      coloured = c.in_ok-colours.ensures;
      named = e ∙ ap (λ (cs : List Coloured). map (λ (x : ℕ × ℕ). (text_of_id c.args.iris.now x.0, x.1)) (map pair_of cs)) c.as_slice.ensures.value;
    })
    c.pairs_of.ensures
