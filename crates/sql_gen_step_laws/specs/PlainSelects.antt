-- A SELECT without DISTINCT, keys and limits.
use Rattle.std.specs.Prelude.{◌≡◌, false, [], map, None, refl}
use Rattle.std.proofs.Common.{ap}
use Rattle.bags.specs.SortLaws.{sort-nothing}
use Rattle.sql_meaning.specs.declared.script.Core.{Core}
use Rattle.sql_rows_meaning.specs.Tables.{Relations}
use Rattle.sql_rows_meaning.specs.Sources.{all_joined, first_rows}
use Rattle.sql_rows_meaning.specs.Selects.{passed, key_order, item_cells, select_rows}

-- its rows stay in the order of the sources
pub plain_rows : (relations : Relations) (c : Core) → c.distinct ≡ false → c.keys ≡ [] → c.most ≡ None → c.skip ≡ None →
    select_rows relations c ≡ map (item_cells c.items) (passed c.condition (all_joined relations c.joins (first_rows relations c.from)))
plain_rows relations c d k m s =
    rw (d, m, s, k) (ap (map (item_cells c.items)) (sort-nothing (key_order []) (λ x y. refl) (passed c.condition (all_joined relations c.joins (first_rows relations c.from)))))
