-- Picked rows that are added behind others.
use Rattle.std.proofs.Common.{◌≡◌, ℕ, zero, suc, ◌+◌, ◌<◌, Bool, true, false, List, [], ◌∷◌, ◌++◌, map, take, drop, length, get_or, slice_get, unwrap_or, Some, append_assoc, append-nil, length-append, subst, refl, sym, ap, ◌∙◌, arith}
use Rattle.std.specs.Prelude.{if◌then◌else◌}
use Rattle.std.specs.List.{flat_map, range_with_len}
use Rattle.std.proofs.lemmas.Grind.{flat_map-append}
use Rattle.std.proofs.lemmas.List.{map-append, length-map, take_more, drop_more}
use Rattle.std.proofs.lemmas.Bool.{both_ways}
use Rattle.std.proofs.lemmas.List.Elements.{filter-append}
use Rattle.std.proofs.lemmas.List.FromFn.{map-range_with_len_more}
use Rattle.std.proofs.lemmas.Option.{slice_get_past, slice_get_within, get_or_from_slice_get}
use Rattle.table_meaning.specs.declared.cell.Cell.{Cell}
use Rattle.sql_rows_meaning.specs.Values.{is_true}
use Rattle.sql_bind_meaning.specs.declared.expression.BoundExpr.{BoundExpr}
use Rattle.sql_bind_meaning.specs.declared.script.BoundJoin.{BoundJoin}
use Rattle.sql_bind_meaning.specs.Values.{Picked, row_in, bound_value}
use Rattle.sql_bind_meaning.specs.Sources.{relation_rows, with_picked, with_each, bound_where_true, or_empty, bound_joined_to}
use Rattle.sql_engine_values.specs.Places.{SourceList, rows_at, picked, join_numbers}
use Rattle.sql_engine_joins.specs.Rows.{PickedList, all_picked}
use Rattle.sql_engine_joins.specs.Runs.{rows_beside, IsAdded}

-- one more row beside those that are picked
pub picked_push : (relations : List (List (List Cell))) (sources rows : List ℕ) (row r : ℕ) → slice_get sources (length rows) ≡ Some r
    → rows_at relations sources (rows ++ row ∷ []) ≡ with_picked (rows_at relations sources rows) (row_in (relation_rows relations r) row)
picked_push relations [] [] row r h = cc
picked_push relations [] (n ∷ rows) row r h = cc
picked_push relations (source ∷ sources) [] row r h = let same : source ≡ r = cc in ap (λ (s : ℕ). row_in (relation_rows relations s) row ∷ []) same
picked_push relations (source ∷ sources) (n ∷ rows) row r h = ap (λ (p : Picked). row_in (relation_rows relations source) n ∷ p) (picked_push relations sources rows row r h)

one_behind : (s : SourceList) (old new : PickedList) (row : List ℕ) (p : Picked) → new ≡ record { width = old.width; rows = old.rows ++ row ∷ [] } → picked s row ≡ p → IsAdded s old new (p ∷ [])
one_behind s old new row p is same = (
  ap (λ (l : PickedList). l.width) is,
  ap (all_picked s) is ∙ map-append (picked s) old.rows (row ∷ []) ∙ ap (λ (q : Picked). all_picked s old ++ q ∷ []) same,
)

module _ (s : SourceList) (left : List ℕ) (row r : ℕ) (source : slice_get s.numbers (length left) ≡ Some r) where
  put : picked s (left ++ row ∷ []) ≡ with_picked (picked s left) (row_in (relation_rows s.relations r) row)
  put = picked_push s.relations s.numbers left row r source

  -- a row for which the condition is true
  pub one_added : (old new : PickedList) (condition : BoundExpr) → is_true (bound_value condition (picked s (left ++ row ∷ []))) ≡ true
      → new ≡ record { width = old.width; rows = old.rows ++ (left ++ row ∷ []) ∷ [] } → IsAdded s old new (bound_where_true condition (rows_beside (relation_rows s.relations r) (picked s left) (row ∷ [])))
  one_added old new condition h is =
      let passes : is_true (bound_value condition (with_picked (picked s left) (row_in (relation_rows s.relations r) row))) ≡ true = sym (ap (λ (p : Picked). is_true (bound_value condition p)) put) ∙ h in
      let both : IsAdded s old new (with_picked (picked s left) (row_in (relation_rows s.relations r) row) ∷ []) = one_behind s old new (left ++ row ∷ []) _ is put in
      (both.0, both.1 ∙ sym (ap (λ (b : Bool). all_picked s old ++ (if b then with_picked (picked s left) (row_in (relation_rows s.relations r) row) ∷ [] else [])) passes))

  -- a row for which it isn't
  pub none_added : (old : PickedList) (condition : BoundExpr) → is_true (bound_value condition (picked s (left ++ row ∷ []))) ≡ false
      → IsAdded s old old (bound_where_true condition (rows_beside (relation_rows s.relations r) (picked s left) (row ∷ [])))
  none_added old condition h =
      let fails : is_true (bound_value condition (with_picked (picked s left) (row_in (relation_rows s.relations r) row))) ≡ false = sym (ap (λ (p : Picked). is_true (bound_value condition p)) put) ∙ h in
      (refl, sym (append-nil (all_picked s old)) ∙ sym (ap (λ (b : Bool). all_picked s old ++ (if b then with_picked (picked s left) (row_in (relation_rows s.relations r) row) ∷ [] else [])) fails))

-- the number past the last row is that of the row without cells
pub empty_added : (s : SourceList) (left : List ℕ) (r : ℕ) (old new : PickedList) → slice_get s.numbers (length left) ≡ Some r
    → new ≡ record { width = old.width; rows = old.rows ++ (left ++ length (relation_rows s.relations r) ∷ []) ∷ [] } → IsAdded s old new (with_picked (picked s left) [] ∷ [])
empty_added s left r old new source is =
    let past : slice_get (relation_rows s.relations r) (length (relation_rows s.relations r)) ≡ _ = slice_get_past (relation_rows s.relations r) (length (relation_rows s.relations r)) (omega arith) in
    one_behind s old new (left ++ length (relation_rows s.relations r) ∷ []) (with_picked (picked s left) []) is
    (picked_push s.relations s.numbers left (length (relation_rows s.relations r)) r source ∙ ap (λ o. with_picked (picked s left) (unwrap_or o [])) past)

-- nothing
pub nothing_added : (s : SourceList) (old : PickedList) → IsAdded s old old []
nothing_added s old = (refl, sym (append-nil (all_picked s old)))

-- one after another
pub both_added : (s : SourceList) (old mid new : PickedList) (xs ys : List Picked) → IsAdded s old mid xs → IsAdded s mid new ys → IsAdded s old new (xs ++ ys)
both_added s old mid new xs ys h k = (k.0 ∙ h.0, k.1 ∙ ap (λ (l : List Picked). l ++ ys) h.1 ∙ append_assoc (all_picked s old) xs ys)

-- one row more
pub row_more : (s : SourceList) (old mid new : PickedList) (condition : BoundExpr) (rows : List (List Cell)) (p : Picked) (numbers more : List ℕ) → IsAdded s old mid (bound_where_true condition (rows_beside rows p numbers))
    → IsAdded s mid new (bound_where_true condition (rows_beside rows p more)) → IsAdded s old new (bound_where_true condition (rows_beside rows p (numbers ++ more)))
row_more s old mid new condition rows p numbers more h k =
    let both : IsAdded s old new (bound_where_true condition (rows_beside rows p numbers) ++ bound_where_true condition (rows_beside rows p more)) = both_added s old mid new _ _ h k in (
      both.0,
      both.1 ∙ ap (λ (l : List Picked). all_picked s old ++ l) (sym (ap (bound_where_true condition) (map-append (λ (i : ℕ). with_picked p (row_in rows i)) numbers more) ∙ filter-append (λ (q : Picked). is_true (bound_value condition q)) (rows_beside rows p numbers) (rows_beside rows p more))),
    )

all_numbers : (rows : List (List Cell)) (f : List Cell → Picked) (g : ℕ → Picked) (start : ℕ) → ((i : ℕ) → g (start + i) ≡ f (row_in rows i)) → map g (range_with_len start (length rows)) ≡ map f rows
all_numbers [] f g start same = refl
all_numbers (row ∷ rows) f g start same =
    let now : start + 0 ≡ start = omega arith in
    let here : g start ≡ f row = sym (ap g now) ∙ same 0 in
    let next : (i : ℕ) → g (start + 1 + i) ≡ f (row_in rows i) = λ i. (let e : start + 1 + i ≡ start + suc i = omega arith in ap g e ∙ same (suc i)) in
    (λ i. here i ∷ all_numbers rows f g (start + 1) next i)

-- all rows by their numbers
pub each_row : (rows : List (List Cell)) (p : Picked) → rows_beside rows p (range_with_len 0 (length rows)) ≡ with_each rows p
each_row rows p = all_numbers rows (with_picked p) (λ (i : ℕ). with_picked p (row_in rows i)) 0 (λ i. let e : 0 + i ≡ i = omega arith in ap (λ (n : ℕ). with_picked p (row_in rows n)) e)

-- one row of the relation more
pub each_more : (s : SourceList) (old mid new : PickedList) (condition : BoundExpr) (rows : List (List Cell)) (left left' : List ℕ) (row : ℕ) → IsAdded s old mid (bound_where_true condition (rows_beside rows (picked s left) (range_with_len 0 row)))
    → left' ≡ left → IsAdded s mid new (bound_where_true condition (rows_beside rows (picked s left') (row ∷ []))) → IsAdded s old new (bound_where_true condition (rows_beside rows (picked s left) (range_with_len 0 (row + 1))))
each_more s old mid new condition rows left left' row h same k =
    let f : ℕ → Picked = λ i. with_picked (picked s left) (row_in rows i) in
    let here : 0 + row ≡ row = omega arith in
    let more : rows_beside rows (picked s left) (range_with_len 0 row ++ row ∷ []) ≡ rows_beside rows (picked s left) (range_with_len 0 (row + 1)) =
    map-append f (range_with_len 0 row) (row ∷ []) ∙ sym (map-range_with_len_more f 0 row row here) in
    subst (λ (l : List Picked). IsAdded s old new (bound_where_true condition l)) more
    (row_more s old mid new condition rows (picked s left) (range_with_len 0 row) (row ∷ []) h
    (subst (λ (l : List ℕ). IsAdded s mid new (bound_where_true condition (rows_beside rows (picked s l) (row ∷ [])))) same k))

-- all of them
pub each_done : (s : SourceList) (old new : PickedList) (condition : BoundExpr) (rows : List (List Cell)) (p : Picked) (row : ℕ) → row ≡ length rows → IsAdded s old new (bound_where_true condition (rows_beside rows p (range_with_len 0 row)))
    → IsAdded s old new (bound_where_true condition (with_each rows p))
each_done s old new condition rows p row is h =
    subst (λ (l : List Picked). IsAdded s old new (bound_where_true condition l)) (ap (λ (n : ℕ). rows_beside rows p (range_with_len 0 n)) is ∙ each_row rows p) h

pub picked_length : (relations : List (List (List Cell))) (sources rows : List ℕ) → length (rows_at relations sources rows) ≡ length rows
picked_length relations sources [] = refl
picked_length relations [] (row ∷ rows) = ap suc (picked_length relations [] rows)
picked_length relations (source ∷ sources) (row ∷ rows) = ap suc (picked_length relations sources rows)

count_of : (s : SourceList) (old new : PickedList) (more : List Picked) → IsAdded s old new more → length new.rows ≡ length old.rows + length more
count_of s old new more h =
    sym (length-map new.rows (picked s)) ∙ ap length h.1 ∙ length-append (all_picked s old) more ∙ ap (λ (n : ℕ). n + length more) (length-map old.rows (picked s))

-- a join for whose left row a row was found, or that is no LEFT JOIN
pub found_some : (s : SourceList) (j : BoundJoin) (p : Picked) (old new : PickedList) → IsAdded s old new (bound_where_true j.on (with_each (relation_rows s.relations j.relation) p))
    → (j.left ≡ true → length new.rows ≡ length old.rows → ⊥) → IsAdded s old new (bound_joined_to s.relations j p)
found_some s j p old new h some = at j.left refl (bound_where_true j.on (with_each (relation_rows s.relations j.relation) p)) h
  where
    at : (left : Bool) → j.left ≡ left → (found : List Picked) → IsAdded s old new found → IsAdded s old new (if left then or_empty p found else found)
    at false is found k = k
    at true is (q ∷ found) k = k
    at true is [] k = absurd (some is (count_of s old new [] k ∙ (let e : length old.rows + 0 ≡ length old.rows = omega arith in e)))

-- a LEFT JOIN for whose left row none was found
pub found_none : (s : SourceList) (j : BoundJoin) (p : Picked) (old mid new : PickedList) → IsAdded s old mid (bound_where_true j.on (with_each (relation_rows s.relations j.relation) p))
    → j.left ≡ true → length mid.rows ≡ length old.rows → IsAdded s mid new (with_picked p [] ∷ []) → IsAdded s old new (bound_joined_to s.relations j p)
found_none s j p old mid new h is none one = at j.left is (bound_where_true j.on (with_each (relation_rows s.relations j.relation) p)) h
  where
    at : (left : Bool) → left ≡ true → (found : List Picked) → IsAdded s old mid found → IsAdded s old new (if left then or_empty p found else found)
    at false i found k = absurd (both_ways false refl i)
    at true i (q ∷ found) k = absurd (omega (arith, count_of s old mid (q ∷ found) k, none))
    at true i [] k = both_added s old mid new [] (with_picked p [] ∷ []) k one

-- one left row more
pub left_more : (s : SourceList) (f : Picked → List Picked) (lefts : List (List ℕ)) (at : ℕ) (left : List ℕ) (mid new : PickedList) → slice_get lefts at ≡ Some left
    → all_picked s mid ≡ flat_map f (map (picked s) (take at lefts)) → IsAdded s mid new (f (picked s left)) → all_picked s new ≡ flat_map f (map (picked s) (take (at + 1) lefts))
left_more s f lefts at left mid new is h k =
    let within : at < length lefts = slice_get_within lefts at left is in
    let more : take (at + 1) lefts ≡ take at lefts ++ left ∷ [] = take_more lefts at left within ∙ ap (λ (l : List ℕ). take at lefts ++ l ∷ []) (get_or_from_slice_get lefts at left left is) in
    k.1 ∙ ap (λ (l : List Picked). l ++ f (picked s left)) h
    ∙ ap (λ (l : List Picked). flat_map f (map (picked s) (take at lefts)) ++ l) (sym (append-nil (f (picked s left))))
    ∙ sym (ap (λ (l : List (List ℕ)). flat_map f (map (picked s) l)) more ∙ ap (flat_map f) (map-append (picked s) (take at lefts) (left ∷ [])) ∙ flat_map-append f (map (picked s) (take at lefts)) (picked s left ∷ []))

-- a row more that may pass
pub kept_more : (s : SourceList) (condition : BoundExpr) (rows : List (List ℕ)) (at : ℕ) (row : List ℕ) (b : Bool) → slice_get rows at ≡ Some row → is_true (bound_value condition (picked s row)) ≡ b
    → bound_where_true condition (map (picked s) (take (at + 1) rows)) ≡ bound_where_true condition (map (picked s) (take at rows)) ++ (if b then picked s row ∷ [] else [])
kept_more s condition rows at row b is h =
    let within : at < length rows = slice_get_within rows at row is in
    let more : take (at + 1) rows ≡ take at rows ++ row ∷ [] = take_more rows at row within ∙ ap (λ (l : List ℕ). take at rows ++ l ∷ []) (get_or_from_slice_get rows at row row is) in
    ap (λ (l : List (List ℕ)). bound_where_true condition (map (picked s) l)) more
    ∙ ap (bound_where_true condition) (map-append (picked s) (take at rows) (row ∷ []))
    ∙ filter-append (λ (p : Picked). is_true (bound_value condition p)) (map (picked s) (take at rows)) (picked s row ∷ [])
    ∙ ap (λ (c : Bool). bound_where_true condition (map (picked s) (take at rows)) ++ (if c then picked s row ∷ [] else [])) h

-- ---- the sources of the joins

pub first_left : (numbers : List ℕ) (width first : ℕ) (others : List ℕ) → drop width numbers ≡ first ∷ others → slice_get numbers width ≡ Some first
first_left [] zero first others h = cc
first_left [] (suc width) first others h = cc
first_left (n ∷ numbers) zero first others h = let same : n ≡ first = cc in ap (λ (k : ℕ). Some k) same
first_left (n ∷ numbers) (suc width) first others h = first_left numbers width first others h

pub others_left : (numbers : List ℕ) (width first : ℕ) (others : List ℕ) → drop width numbers ≡ first ∷ others → drop (width + 1) numbers ≡ others
others_left [] zero first others h = cc
others_left [] (suc width) first others h = cc
others_left (n ∷ numbers) zero first others h = cc
others_left (n ∷ numbers) (suc width) first others h = (let e : suc width + 1 ≡ suc (width + 1) = omega arith in ap (λ (k : ℕ). drop k (n ∷ numbers)) e) ∙ others_left numbers width first others h

joins_left : (joins : List BoundJoin) (at : ℕ) (join : BoundJoin) → at < length joins → join ≡ get_or joins at join → join_numbers (drop at joins) ≡ join.relation ∷ join_numbers (drop (at + 1) joins)
joins_left joins at join lt is = ap join_numbers (drop_more joins at join lt) ∙ ap (λ (j : BoundJoin). j.relation ∷ join_numbers (drop (at + 1) joins)) (sym is)

-- the next join's source
pub next_source : (numbers : List ℕ) (width : ℕ) (joins : List BoundJoin) (at : ℕ) (join : BoundJoin) → at < length joins → join ≡ get_or joins at join → drop width numbers ≡ join_numbers (drop at joins)
    → slice_get numbers width ≡ Some join.relation
next_source numbers width joins at join lt is h = first_left numbers width join.relation (join_numbers (drop (at + 1) joins)) (h ∙ joins_left joins at join lt is)

-- those of the joins behind it
pub other_sources : (numbers : List ℕ) (width : ℕ) (joins : List BoundJoin) (at : ℕ) (join : BoundJoin) → at < length joins → join ≡ get_or joins at join → drop width numbers ≡ join_numbers (drop at joins)
    → drop (width + 1) numbers ≡ join_numbers (drop (at + 1) joins)
other_sources numbers width joins at join lt is h = others_left numbers width join.relation (join_numbers (drop (at + 1) joins)) (h ∙ joins_left joins at join lt is)
