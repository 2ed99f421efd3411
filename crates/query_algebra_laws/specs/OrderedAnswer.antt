-- The ordered answer depends on the bag of solutions alone.
use Rattle.std.specs.Prelude.{◌≡◌, ℕ, true, List, map, Option, Some, None, drop, refl}
use Rattle.std.proofs.Common.{ap}
use Rattle.std.specs.Cmp.{IsTotalOrder}
use Rattle.std.proofs.lemmas.Map.Lookups.{CmpEqualImpliesEq}
use Rattle.bags.specs.Bag.{SameBag}
use Rattle.bags.specs.BagLaws.{same-map}
use Rattle.bags.specs.SortLaws.{sort-same}
use Rattle.bags.specs.ItemsLaws.{items_total, items_ties}
use Rattle.rdf_meaning.specs.Terms.{RdfTerm}
use Rattle.rdf_meaning.specs.TermLaws.{same_term-is, same_term-self}
use Rattle.rdf_value_meaning.specs.TermOrder.{place_order}
use Rattle.rdf_value_meaning.specs.OrderLaws.{place_order_total, place_order_ties}
use Rattle.query_meaning.specs.declared.modifiers.Key.{Key}
use Rattle.query_meaning.specs.declared.modifiers.Modifiers.{Modifiers}
use Rattle.query_eval_meaning.specs.Mapping.{Mapping}
use Rattle.query_eval_meaning.specs.Answer.{Row, same_place, all_keys, row_of, row_order, past, sorted_rows, distinct_rows, up_to, ordered_answer}

pub same_place-is : (x y : Option RdfTerm) → same_place x y ≡ true → x ≡ y
same_place-is (Some a) (Some b) e = ap (λ (t : RdfTerm). Some t) (same_term-is a b e)
same_place-is None None e = refl
same_place-is (Some a) None e = cc
same_place-is None (Some b) e = cc

pub same_place-self : (x : Option RdfTerm) → same_place x x ≡ true
same_place-self (Some a) = same_term-self a
same_place-self None = refl

-- the order of rows is total, and rows that tie are equal
pub row_order_total : (keys : List Key) → IsTotalOrder (row_order keys)
row_order_total keys = items_total place_order place_order_total (map (λ (k : Key). k.down) keys)

pub row_order_ties : (keys : List Key) → CmpEqualImpliesEq (row_order keys)
row_order_ties keys = items_ties place_order place_order_ties (map (λ (k : Key). k.down) keys)

pub sorted_rows-same : (keys : List Key) (shown : List ℕ) (ms ns : List Mapping) → SameBag ms ns → sorted_rows keys shown ms ≡ sorted_rows keys shown ns
sorted_rows-same keys shown ms ns s =
    ap (map (past keys)) (sort-same (row_order (all_keys keys shown)) (row_order_total (all_keys keys shown)) (row_order_ties (all_keys keys shown))
    (map (row_of (all_keys keys shown)) ms) (map (row_of (all_keys keys shown)) ns) (same-map (row_of (all_keys keys shown)) ms ns s))

-- equal bags of solutions give one answer
pub order-same : (q : Modifiers) (ms ns : List Mapping) → SameBag ms ns → ordered_answer q ms ≡ ordered_answer q ns
order-same q ms ns s = ap (λ (rows : List Row). up_to q.most (drop q.skip (distinct_rows q.distinct rows))) (sorted_rows-same q.keys q.shown ms ns s)
