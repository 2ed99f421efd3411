use Rattle.std.proofs.Common.{ℕ, List, map, true, sym, subst}
use Rattle.std.proofs.lemmas.Result.{IfOk-weaker}
use Rattle.layout_meaning.specs.Columns.{ColumnsOf}
use Rattle.layout_standing_meaning.specs.Stored.{text_of_id}
use Rattle.pred_columns.specs.declared.columns.ColourPair.{ColourPair}
use Rattle.pred_columns.specs.Refusal.{known_of}
use Rattle.shredder.specs.Items.{item_of}
use Rattle.layout_columns_meaning.specs.BulkColours.{AreBulkColours, AreColumnsFor}
use Rattle.layout_columns.proofs.columns.coloured_columns.Goals as goal

pub returns : goal.returns
returns c =
    IfOk-weaker c.columns_of.result _ _
    (λ w e. subst (λ (v : ColumnsOf). AreColumnsFor true c.args.chosen.now (text_of_id c.args.iris.now) (map item_of c.args.placed.now) v) (sym e) (record {
      count = c.count-k.ensures.value;
      hashes = c.requires.hashes;
      known = subst (λ (n : ℕ). AreBulkColours n (text_of_id c.args.iris.now) (map item_of c.args.placed.now) (map known_of c.as_slice.result.now)) c.count-k.ensures.value
          (subst (λ (ps : List ColourPair). AreBulkColours c.count-k.result (text_of_id c.args.iris.now) (map item_of c.args.placed.now) (map known_of ps)) (sym c.as_slice.ensures.value) c.in_ok-pairs.ensures);
    }))
    c.columns_of.ensures
