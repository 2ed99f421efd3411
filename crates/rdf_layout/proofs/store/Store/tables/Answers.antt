use Rattle.std.proofs.Common.{List, sym, subst}
use Rattle.std.specs.Prelude.{IfOk}
use Rattle.std.proofs.lemmas.Result.{IfOk-weaker}
use Rattle.table_meaning.specs.Tables.{NamedTable}
use Rattle.layout_standing_meaning.specs.Contents.{contents_of}
use Rattle.layout_standing_meaning.specs.Standing.{StandsFor}
use Rattle.layout_standing_meaning.specs.Stored.{StoreOf, layout_of, tables_of, stored_triples}
use Rattle.layout_standing_meaning.specs.Changes.{store_of}
use Rattle.layout_standing_meaning.proofs.Stands.{stands}
use Rattle.layout_tables.specs.RowOrder.{StandInOrder}
use Rattle.rdf_layout.proofs.store.Store.tables.Goals as goal

pub returns-clause-stand : goal.returns-clause-stand
returns-clause-stand c =
    let s : StoreOf = store_of c.self.inside.book c.self.inside.sides in
    subst (λ (w : StoreOf). IfOk c.tables_of.result (λ tables. StandsFor (layout_of w) tables (stored_triples w))) c.self.view_is
    (IfOk-weaker c.tables_of.result _ _ (λ tables e. subst (λ (l : List NamedTable). StandsFor (layout_of s) l (stored_triples s)) (sym e) (stands s c.self.invariant.0)) c.tables_of.ensures.tables)

pub returns-clause-order : goal.returns-clause-order
returns-clause-order c =
    subst (λ (w : StoreOf). IfOk c.tables_of.result (λ tables. StandInOrder (layout_of w) (contents_of w.direct.state w.reverse.state w.terms) tables)) c.self.view_is c.tables_of.ensures.order
