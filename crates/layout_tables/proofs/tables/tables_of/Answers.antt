use Rattle.std.proofs.Common.{◌≡◌, ◌≤◌, true, List, sym, subst}
use Rattle.std.specs.List.Sorted.{IsStrictlySortedBy}
use Rattle.std.specs.Map.{keys_of}
use Rattle.std.specs.Ordering.{nat_cmp}
use Rattle.table_meaning.specs.Tables.{NamedTable, is_table_set}
use Rattle.layout_meaning.specs.Rows.{SideOf}
use Rattle.layout_standing_meaning.specs.Stored.{StoreOf, tables_of}
use Rattle.layout_standing_meaning.specs.Changes.{store_of}
use Rattle.layout_tables.proofs.RowForms.{five-are_set, tables-are}
use Rattle.layout_tables.proofs.Ordered.{ordered}
use Rattle.layout_tables.proofs.tables.tables_of.Goals as goal

pub invariant_of-result : goal.invariant_of-result
invariant_of-result c =
    let s : StoreOf = store_of c.args.book.now c.args.sides.now in
    let same : c.push.new.self.items ≡ tables_of s
    = tables-are s c.direct.result.now c.reverse.result.now c.new-tables.result.items c.push_side.new.tables.items c.push_side-2.new.tables.items c.push.new.self.items c.in_ok-term_table.field-0
    c.direct.ensures c.reverse.ensures c.new-tables.ensures.items c.in_ok-push_side.ensures.tables c.in_ok-push_side-2.ensures.tables c.in_ok-push.ensures.items c.in_ok-term_table.ensures in
    let direct : s.direct.columns.count ≤ 32 = subst (λ (w : SideOf). w.columns.count ≤ 32) c.direct.ensures c.in_ok-push_side.ensures.few in
    let reverse : s.reverse.columns.count ≤ 32 = subst (λ (w : SideOf). w.columns.count ≤ 32) c.reverse.ensures c.in_ok-push_side-2.ensures.few in
    subst (λ (l : List NamedTable). is_table_set l ≡ true) (sym same) (five-are_set s c.requires.store direct reverse)

pub returns-clause-order : goal.returns-clause-order
returns-clause-order c =
    let s : StoreOf = store_of c.args.book.now c.args.sides.now in
    let same : c.push.new.self.items ≡ tables_of s
    = tables-are s c.direct.result.now c.reverse.result.now c.new-tables.result.items c.push_side.new.tables.items c.push_side-2.new.tables.items c.push.new.self.items c.in_ok-term_table.field-0
    c.direct.ensures c.reverse.ensures c.new-tables.ensures.items c.in_ok-push_side.ensures.tables c.in_ok-push_side-2.ensures.tables c.in_ok-push.ensures.items c.in_ok-term_table.ensures in
    let direct : IsStrictlySortedBy nat_cmp (keys_of s.direct.state.entities) = subst (λ (w : SideOf). IsStrictlySortedBy nat_cmp (keys_of w.state.entities)) c.direct.ensures c.in_ok-push_side.ensures.rising in
    let reverse : IsStrictlySortedBy nat_cmp (keys_of s.reverse.state.entities) = subst (λ (w : SideOf). IsStrictlySortedBy nat_cmp (keys_of w.state.entities)) c.reverse.ensures c.in_ok-push_side-2.ensures.rising in
    ordered s c.push.new.self.items c.requires.store c.requires.order direct reverse same
