use Rattle.std.proofs.Common.{◌∙◌, map, sym, ap, subst}
use Rattle.std.proofs.lemmas.Result.{IfOk-weaker}
use Rattle.layout_meaning.specs.Columns.{ColumnsOf}
use Rattle.layout_standing_meaning.specs.Stored.{text_of_id}
use Rattle.layout_bulk_meaning.specs.Bulk.{bulk_side}
use Rattle.layout_columns_meaning.specs.BulkColours.{AreColumnsFor}
use Rattle.layout_bulk_laws.specs.BulkStore.{HaveCandidates}
use Rattle.shredder.specs.Items.{item_of}
use Rattle.rdf_layout.proofs.Found.{side-columns}
use Rattle.rdf_layout.proofs.bulk.side_of.Goals as goal

pub returns-clause-columns : goal.returns-clause-columns
returns-clause-columns g c =
    IfOk-weaker c.shred.result _ _ (λ s e. subst (λ (w : ColumnsOf). AreColumnsFor c.args.greedy c.args.chosen.now (text_of_id c.args.book.now) (map item_of c.args.placed.now) w) (sym (side-columns s c.in_ok-columns.columns (text_of_id c.args.book.now) (map item_of c.args.placed.now) e)) c.in_ok-columns.ensures) c.shred.ensures

pub returns-clause-side : goal.returns-clause-side
returns-clause-side g c =
    IfOk-weaker c.shred.result _ _ (λ s e. e ∙ ap (λ (w : ColumnsOf). bulk_side w (text_of_id c.args.book.now) (map item_of c.args.placed.now)) (sym (side-columns s c.in_ok-columns.columns (text_of_id c.args.book.now) (map item_of c.args.placed.now) e))) c.shred.ensures

pub returns-clause-some : goal.returns-clause-some
returns-clause-some g c =
    IfOk-weaker c.shred.result _ _ (λ s e. subst HaveCandidates (sym (side-columns s c.in_ok-columns.columns (text_of_id c.args.book.now) (map item_of c.args.placed.now) e)) c.have_candidates.ensures) c.shred.ensures
