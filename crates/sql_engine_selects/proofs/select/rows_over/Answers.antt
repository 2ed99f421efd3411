use Rattle.std.proofs.Common.{◌≡◌, ℕ, true, List, length, map, ap, ◌∙◌}
use Rattle.std.specs.List.{range_with_len}
use Rattle.bags.specs.Sort.{sort}
use Rattle.table_meaning.specs.declared.cell.Cell.{Cell}
use Rattle.sql_rows_meaning.specs.Selects.{unrepeated}
use Rattle.sql_bind_meaning.specs.declared.script.BoundKey.{BoundKey}
use Rattle.sql_engine_selects.specs.Numbered.{number_order, cells_at, without_first, at_most}
use Rattle.sql_engine_selects.proofs.Ordered.{distinct_rows, plain_rows}
use Rattle.sql_engine_selects.proofs.select.rows_over.Goals as goal

pub returns-then-core : goal.returns-then-core
returns-then-core g c =
    let s = c.args.sources.now in
    let core = c.args.core.now in
    let p = c.in_ok-rows.rows in
    let order : c.deref.result.now ≡ sort (number_order s p core.keys) (range_with_len 0 (length p.rows)) =
    c.deref.ensures.value ∙ c.in_ok-order.ensures ∙ ap (λ (keys : List BoundKey). sort (number_order s p keys) (range_with_len 0 (length p.rows))) c.as_slice.ensures in
    let shown : c.in_ok-shown.shown.items ≡ map (cells_at s p core.items) (sort (number_order s p core.keys) (range_with_len 0 (length p.rows))) =
    c.in_ok-shown.ensures ∙ (λ i. map (cells_at s p (c.as_slice-then-core.ensures i)) (order i)) in
    let firsts : c.in_ok-firsts.firsts.items ≡ unrepeated true c.in_ok-shown.shown.items = c.in_ok-firsts.ensures in
    c.in_ok-copied.ensures ∙ c.cut.ensures ∙ ap (λ (rows : List (List Cell)). at_most core.most (without_first core.skip rows)) c.deref-then-core.ensures.value
    ∙ distinct_rows s core p c.in_ok-rows.ensures c.in_ok-shown.shown.items c.in_ok-firsts.firsts.items c.if-core.true shown firsts

pub returns : goal.returns
returns g c =
    let s = c.args.sources.now in
    let core = c.args.core.now in
    let p = c.in_ok-rows.rows in
    let order : c.in_ok-order.order.items ≡ sort (number_order s p core.keys) (range_with_len 0 (length p.rows)) =
    c.in_ok-order.ensures ∙ ap (λ (keys : List BoundKey). sort (number_order s p keys) (range_with_len 0 (length p.rows))) c.as_slice.ensures in
    let part : c.cut-order.result.now ≡ at_most core.most (without_first core.skip c.in_ok-order.order.items) =
    c.cut-order.ensures ∙ ap (λ (numbers : List ℕ). at_most core.most (without_first core.skip numbers)) c.deref-else-core.ensures.value in
    c.in_ok-copied-2.ensures ∙ (λ i. map (cells_at s p (c.as_slice-else-core.ensures i)) (part i))
    ∙ plain_rows s core p c.in_ok-rows.ensures c.in_ok-order.order.items c.if-core.false order
