-- A SELECT with places has the rows of the SELECT with names.
use Rattle.std.specs.Prelude.{◌≡◌, ℕ, zero, suc, ◌+◌, ◌<◌, ◌≤◌, Bool, true, false, if◌then◌else◌, List, [], ◌∷◌, ◌++◌, map, length, slice_get, unwrap_or, Option, Some, None, refl}
use Rattle.std.proofs.Common.{sym, ap, ap₂, ◌∙◌, arith}
use Rattle.std.proofs.Math.Path.{fun_ext}
use Rattle.std.proofs.lemmas.Option.{slice_get_past}
use Rattle.std.specs.List.{flat_map, AllByRecursion}
use Rattle.std.specs.Str.{bytes_eq}
use Rattle.std.specs.declared.cmp.Ordering.{Ordering}
use Rattle.bags.specs.Sort.{sort, by_items}
use Rattle.bags.specs.SortLaws.{map-sort}
use Rattle.table_meaning.specs.declared.schema.Column.{Column}
use Rattle.table_meaning.specs.declared.cell.Cell.{Cell}
use Rattle.table_meaning.specs.declared.cell.Cell.TheVariants.{Null}
use Rattle.table_meaning.specs.Schemas.{column_names}
use Rattle.sql_meaning.specs.declared.expression.SqlExpr.{SqlExpr}
use Rattle.sql_meaning.specs.declared.script.Core.{Core}
use Rattle.sql_meaning.specs.declared.script.Item.{Item}
use Rattle.sql_meaning.specs.declared.script.Source.{Source}
use Rattle.sql_meaning.specs.declared.script.JoinTo.{JoinTo}
use Rattle.sql_meaning.specs.declared.script.SqlKey.{SqlKey}
use Rattle.sql_rows_meaning.specs.declared.schema.NamedSchema.{NamedSchema}
use Rattle.sql_rows_meaning.specs.Cells.{cell_order}
use Rattle.sql_rows_meaning.specs.Values.{Sight, is_true, value_of}
use Rattle.sql_rows_meaning.specs.Tables.{Relations, cell_under}
use Rattle.sql_rows_meaning.specs.Scopes.{schemas_of}
use Rattle.sql_rows_meaning.specs.Sources.{nothing_in_sight, with_row, with_source, where_true, or_nulls, joined_to, all_joined, first_rows}
use Rattle.sql_rows_meaning.specs.Selects.{passed, key_cells, key_order, item_cells, unrepeated, dropped, kept, sorted_sights, select_rows}
use Rattle.sql_bind_meaning.specs.declared.expression.BoundExpr.{BoundExpr}
use Rattle.sql_bind_meaning.specs.declared.expression.BoundExpr.TheVariants as v
use Rattle.sql_bind_meaning.specs.declared.script.BoundJoin.{BoundJoin}
use Rattle.sql_bind_meaning.specs.Values.{Picked, cell_in, row_in, bound_value}
use Rattle.sql_bind_meaning.specs.ValueLaws.{bound_value-Cell, bound_value-Null}
use Rattle.sql_bind_meaning.specs.Sources.{relation_rows, with_picked, with_each, bound_where_true, or_empty, bound_joined_to, bound_all_joined, bound_first_rows}
use Rattle.sql_bind_meaning.specs.Selects.{bound_passed, bound_key_cells, bound_downs, bound_key_order, bound_item_cells, bound_sources, bound_sorted, bound_select_rows}
use Rattle.sql_bind_laws.specs.Places.{Places, column_place, places_of, place, number_of, or_no_columns, source_in, first_sources, all_sources, place_from, place_joins, place_items, place_condition, place_keys, place_core}
use Rattle.sql_bind_laws.specs.PlacedValues.{value-placed}

-- ---- lists

get-here : {X : Type 0} (before : List X) (x : X) (after : List X) → slice_get (before ++ x ∷ after) (length before) ≡ Some x
get-here [] x after = refl
get-here (b ∷ before) x after = get-here before x after

get-before : {X : Type 0} (xs ys : List X) (i : ℕ) → i < length xs → slice_get (xs ++ ys) i ≡ slice_get xs i
get-before [] ys i h = absurd (omega arith)
get-before (x ∷ xs) ys zero h = refl
get-before (x ∷ xs) ys (suc i) h = get-before xs ys i (omega arith)

one-more : {X : Type 0} (before : List X) (x : X) (after : List X) → (before ++ x ∷ []) ++ after ≡ before ++ x ∷ after
one-more [] x after = refl
one-more {X} (b ∷ before) x after = ap (λ (l : List X). b ∷ l) (one-more before x after)

length-more : {X : Type 0} (before : List X) (x : X) → length (before ++ x ∷ []) ≡ suc (length before)
length-more [] x = refl
length-more (b ∷ before) x = ap suc (length-more before x)

map-append : {X Y : Type 0} (f : X → Y) (xs ys : List X) → map f (xs ++ ys) ≡ map f xs ++ map f ys
map-append f [] ys = refl
map-append {X} {Y} f (x ∷ xs) ys = ap (λ (l : List Y). f x ∷ l) (map-append f xs ys)

map-through : {X Y Z : Type 0} (g : Y → Z) (f : X → Y) (h : X → Z) → ((x : X) → g (f x) ≡ h x) → (xs : List X) → map g (map f xs) ≡ map h xs
map-through g f h same [] = refl
map-through {X} {Y} {Z} g f h same (x ∷ xs) = ap₂ (λ (z : Z) (zs : List Z). z ∷ zs) (same x) (map-through g f h same xs)

-- ---- names see the picked rows

-- what names see of picked rows
abbrev pub sight_of : List NamedSchema → Picked → Sight
sight_of sources picked alias column = bound_value (places_of sources alias column) picked

pub value-seen : (sources : List NamedSchema) (picked : Picked) (e : SqlExpr) → value_of e (sight_of sources picked) ≡ bound_value (place e (places_of sources)) picked
value-seen sources picked e = value-placed {places = places_of sources} {sight = sight_of sources picked} {picked = picked} (record { each = λ a c. refl }) e

-- past the cells of a row every name is a null
past-row : (columns : List Column) (n source : ℕ) (name : List ℕ) (picked : Picked) → length (row_in picked source) ≤ n → bound_value (column_place source n columns name) picked ≡ Null
past-row [] n source name picked h = bound_value-Null picked
past-row (c ∷ columns) n source name picked h = at (past-row columns (suc n) source name picked (omega arith)) (bytes_eq c.name name)
  where
    at : bound_value (column_place source (suc n) columns name) picked ≡ Null → (b : Bool) → bound_value (if b then v.Cell source n else column_place source (suc n) columns name) picked ≡ Null
    at rest true = bound_value-Cell source n picked ∙ ap (λ (o : Option Cell). unwrap_or o Null) (slice_get_past (row_in picked source) n h)
    at rest false = rest

no-cells : (columns : List Column) (name : List ℕ) → cell_under (column_names columns) [] name ≡ Null
no-cells [] name = refl
no-cells (c ∷ columns) name = refl

length-nil : {X : Type 0} (xs : List X) → length (xs ++ []) ≡ length xs
length-nil [] = refl
length-nil (x ∷ xs) = ap suc (length-nil xs)

-- the cells from one place on are those of the columns from there on
column-cell : (columns : List Column) (before cells : List Cell) (source : ℕ) (name : List ℕ) (picked : Picked) → row_in picked source ≡ before ++ cells →
    cell_under (column_names columns) cells name ≡ bound_value (column_place source (length before) columns name) picked
column-cell [] before cells source name picked is = sym (bound_value-Null picked)
column-cell (c ∷ columns) before [] source name picked is =
    let short : length (row_in picked source) ≤ length before = let e = ap length is in let k = length-nil before in omega arith in
    sym (past-row (c ∷ columns) (length before) source name picked short)
column-cell (c ∷ columns) before (x ∷ cells) source name picked is =
    at (column-cell columns (before ++ x ∷ []) cells source name picked (is ∙ sym (one-more before x cells)) ∙ ap (λ (n : ℕ). bound_value (column_place source n columns name) picked) (length-more before x))
    (bytes_eq c.name name)
  where
    at : cell_under (column_names columns) cells name ≡ bound_value (column_place source (suc (length before)) columns name) picked → (b : Bool) →
        (if b then x else cell_under (column_names columns) cells name) ≡ bound_value (if b then v.Cell source (length before) else column_place source (suc (length before)) columns name) picked
    at rest true = sym (bound_value-Cell source (length before) picked ∙ ap (λ (r : List Cell). cell_in r (length before)) is ∙ ap (λ (o : Option Cell). unwrap_or o Null) (get-here before x cells))
    at rest false = rest

-- a later row changes nothing under earlier sources
column-kept : (columns : List Column) (n source : ℕ) (name : List ℕ) (picked : Picked) (row : List Cell) → source < length picked →
    bound_value (column_place source n columns name) picked ≡ bound_value (column_place source n columns name) (picked ++ row ∷ [])
column-kept [] n source name picked row h = bound_value-Null picked ∙ sym (bound_value-Null (picked ++ row ∷ []))
column-kept (c ∷ columns) n source name picked row h = at (column-kept columns (suc n) source name picked row h) (bytes_eq c.name name)
  where
    at : bound_value (column_place source (suc n) columns name) picked ≡ bound_value (column_place source (suc n) columns name) (picked ++ row ∷ []) → (b : Bool) →
        bound_value (if b then v.Cell source n else column_place source (suc n) columns name) picked ≡ bound_value (if b then v.Cell source n else column_place source (suc n) columns name) (picked ++ row ∷ [])
    at rest true =
        bound_value-Cell source n picked ∙ ap (λ (o : Option (List Cell)). cell_in (unwrap_or o []) n) (sym (get-before picked (row ∷ []) source h))
        ∙ sym (bound_value-Cell source n (picked ++ row ∷ []))
    at rest false = rest

kept-in_sight : (sources : List NamedSchema) (picked : Picked) (row : List Cell) (a c : List ℕ) → length sources ≤ length picked →
    bound_value (places_of sources a c) picked ≡ bound_value (places_of sources a c) (picked ++ row ∷ [])
kept-in_sight [] picked row a c h = bound_value-Null picked ∙ sym (bound_value-Null (picked ++ row ∷ []))
kept-in_sight (s ∷ earlier) picked row a c h = at (kept-in_sight earlier picked row a c (omega arith)) (bytes_eq a s.name)
  where
    at : bound_value (places_of earlier a c) picked ≡ bound_value (places_of earlier a c) (picked ++ row ∷ []) → (b : Bool) →
        bound_value (if b then column_place (length earlier) 0 s.schema c else places_of earlier a c) picked ≡ bound_value (if b then column_place (length earlier) 0 s.schema c else places_of earlier a c) (picked ++ row ∷ [])
    at rest true = column-kept s.schema 0 (length earlier) c picked row (omega arith)
    at rest false = rest

-- one more row under an alias is one more picked row
pub more-in_sight : (s : NamedSchema) (earlier : List NamedSchema) (picked : Picked) (row : List Cell) → length picked ≡ length earlier →
    with_row s.name (column_names s.schema) row (sight_of earlier picked) ≡ sight_of (s ∷ earlier) (with_picked picked row)
more-in_sight s earlier picked row full = fun_ext (λ a. fun_ext (λ c. at a c (bytes_eq a s.name)))
  where
    here : row_in (picked ++ row ∷ []) (length earlier) ≡ row
    here = ap (λ (n : ℕ). row_in (picked ++ row ∷ []) n) (sym full) ∙ ap (λ (o : Option (List Cell)). unwrap_or o []) (get-here picked row [])

    at : (a c : List ℕ) (b : Bool) → (if b then cell_under (column_names s.schema) row c else bound_value (places_of earlier a c) picked) ≡ bound_value (if b then column_place (length earlier) 0 s.schema c else places_of earlier a c) (picked ++ row ∷ [])
    at a c true = column-cell s.schema [] row (length earlier) c (picked ++ row ∷ []) here
    at a c false = kept-in_sight earlier picked row a c (omega arith)

-- ---- conditions

where-seen : (sources : List NamedSchema) (e : SqlExpr) (all : List Picked) → where_true e (map (sight_of sources) all) ≡ map (sight_of sources) (bound_where_true (place e (places_of sources)) all)
where-seen sources e [] = refl
where-seen sources e (p ∷ all) =
    ap (λ (x : Cell). if is_true x then sight_of sources p ∷ where_true e (map (sight_of sources) all) else where_true e (map (sight_of sources) all)) (value-seen sources p e)
    ∙ ap (λ (l : List Sight). if is_true (bound_value (place e (places_of sources)) p) then sight_of sources p ∷ l else l) (where-seen sources e all)
    ∙ at (is_true (bound_value (place e (places_of sources)) p)) (bound_where_true (place e (places_of sources)) all)
  where
    at : (b : Bool) (rest : List Picked) → (if b then sight_of sources p ∷ map (sight_of sources) rest else map (sight_of sources) rest) ≡ map (sight_of sources) (if b then p ∷ rest else rest)
    at true rest = refl
    at false rest = refl

-- ---- sources

-- each name of a table or step has its columns and, by its number, its rows
pub record AreNumbered (known : List NamedSchema) (relations : Relations) (rows_of : List (List (List Cell))) : Type 0 where
  pub names : (name : List ℕ) → (relations name).columns ≡ column_names (or_no_columns (schemas_of known name))
  pub rows : (name : List ℕ) → (relations name).rows ≡ relation_rows rows_of (number_of known name)
  pub count : length rows_of ≡ length known

-- a row is picked of each source
abbrev AreFull : List NamedSchema → List Picked → Type 0
AreFull sources all = AllByRecursion (λ (p : Picked). length p ≡ length sources) all

full-append : (sources : List NamedSchema) (xs ys : List Picked) → AreFull sources xs → AreFull sources ys → AreFull sources (xs ++ ys)
full-append sources [] ys f g = g
full-append sources (x ∷ xs) ys f g = (f.0, full-append sources xs ys f.1 g)

full-each : (s : NamedSchema) (earlier : List NamedSchema) (picked : Picked) → length picked ≡ length earlier → (rows : List (List Cell)) → AreFull (s ∷ earlier) (with_each rows picked)
full-each s earlier picked full [] = tt
full-each s earlier picked full (row ∷ rows) = (length-more picked row ∙ ap suc full, full-each s earlier picked full rows)

full-where : (sources : List NamedSchema) (e : BoundExpr) (all : List Picked) → AreFull sources all → AreFull sources (bound_where_true e all)
full-where sources e [] f = tt
full-where sources e (p ∷ all) f = at (is_true (bound_value e p)) (full-where sources e all f.1)
  where
    at : (b : Bool) → AreFull sources (bound_where_true e all) → AreFull sources (if b then p ∷ bound_where_true e all else bound_where_true e all)
    at true g = (f.0, g)
    at false g = g

full-or_empty : (s : NamedSchema) (earlier : List NamedSchema) (picked : Picked) → length picked ≡ length earlier → (found : List Picked) → AreFull (s ∷ earlier) found → AreFull (s ∷ earlier) (or_empty picked found)
full-or_empty s earlier picked full [] f = (length-more picked [] ∙ ap suc full, tt)
full-or_empty s earlier picked full (p ∷ found) f = f

full-joined : (relations : List (List (List Cell))) (j : BoundJoin) (s : NamedSchema) (earlier : List NamedSchema) (picked : Picked) → length picked ≡ length earlier → AreFull (s ∷ earlier) (bound_joined_to relations j picked)
full-joined relations j s earlier picked full = at j.left
  where
    found : List Picked
    found = bound_where_true j.on (with_each (relation_rows relations j.relation) picked)

    all : AreFull (s ∷ earlier) found
    all = full-where (s ∷ earlier) j.on (with_each (relation_rows relations j.relation) picked) (full-each s earlier picked full (relation_rows relations j.relation))

    at : (b : Bool) → AreFull (s ∷ earlier) (if b then or_empty picked found else found)
    at true = full-or_empty s earlier picked full found all
    at false = all

full-all : (relations : List (List (List Cell))) (j : BoundJoin) (s : NamedSchema) (earlier : List NamedSchema) (all : List Picked) → AreFull earlier all → AreFull (s ∷ earlier) (flat_map (bound_joined_to relations j) all)
full-all relations j s earlier [] f = tt
full-all relations j s earlier (p ∷ all) f =
    full-append (s ∷ earlier) (bound_joined_to relations j p) (flat_map (bound_joined_to relations j) all) (full-joined relations j s earlier p f.0) (full-all relations j s earlier all f.1)

module _ {known : List NamedSchema} {relations : Relations} {rows_of : List (List (List Cell))} (are : AreNumbered known relations rows_of) where
  rows-seen : (s : NamedSchema) (earlier : List NamedSchema) (picked : Picked) → length picked ≡ length earlier → (rows : List (List Cell)) →
      map (λ row. with_row s.name (column_names s.schema) row (sight_of earlier picked)) rows ≡ map (sight_of (s ∷ earlier)) (with_each rows picked)
  rows-seen s earlier picked full [] = refl
  rows-seen s earlier picked full (row ∷ rows) = ap₂ (λ (x : Sight) (xs : List Sight). x ∷ xs) (more-in_sight s earlier picked row full) (rows-seen s earlier picked full rows)

  source-seen : (s : Source) (earlier : List NamedSchema) (picked : Picked) → length picked ≡ length earlier →
      with_source relations s (sight_of earlier picked) ≡ map (sight_of (source_in known s ∷ earlier)) (with_each (relation_rows rows_of (number_of known s.table)) picked)
  source-seen s earlier picked full =
      ap₂ (λ (columns : List (List ℕ)) (rows : List (List Cell)). map (λ row. with_row s.alias columns row (sight_of earlier picked)) rows) (are.names s.table) (are.rows s.table)
      ∙ rows-seen (source_in known s) earlier picked full (relation_rows rows_of (number_of known s.table))

  nulls-seen : (s : Source) (earlier : List NamedSchema) (picked : Picked) → length picked ≡ length earlier → (found : List Picked) →
      or_nulls relations s (sight_of earlier picked) (map (sight_of (source_in known s ∷ earlier)) found) ≡ map (sight_of (source_in known s ∷ earlier)) (or_empty picked found)
  nulls-seen s earlier picked full [] =
      ap (λ (x : Sight). x ∷ []) (ap (λ (columns : List (List ℕ)). with_row s.alias columns [] (sight_of earlier picked)) (are.names s.table) ∙ more-in_sight (source_in known s) earlier picked [] full)
  nulls-seen s earlier picked full (p ∷ found) = refl

  -- a join by places
  abbrev joined_by : List NamedSchema → JoinTo → BoundJoin
  joined_by earlier j = record { left = j.left; relation = number_of known j.source.table; on = place j.on (places_of (source_in known j.source ∷ earlier)) }

  join-seen : (j : JoinTo) (earlier : List NamedSchema) (picked : Picked) → length picked ≡ length earlier →
      joined_to relations j (sight_of earlier picked) ≡ map (sight_of (source_in known j.source ∷ earlier)) (bound_joined_to rows_of (joined_by earlier j) picked)
  join-seen j earlier picked full = at j.left
    where
      now : List NamedSchema
      now = source_in known j.source ∷ earlier

      found : List Picked
      found = bound_where_true (place j.on (places_of now)) (with_each (relation_rows rows_of (number_of known j.source.table)) picked)

      seen : where_true j.on (with_source relations j.source (sight_of earlier picked)) ≡ map (sight_of now) found
      seen = ap (where_true j.on) (source-seen j.source earlier picked full) ∙ where-seen now j.on (with_each (relation_rows rows_of (number_of known j.source.table)) picked)

      at : (b : Bool) →
          (if b then or_nulls relations j.source (sight_of earlier picked) (where_true j.on (with_source relations j.source (sight_of earlier picked))) else where_true j.on (with_source relations j.source (sight_of earlier picked)))
          ≡ map (sight_of now) (if b then or_empty picked found else found)
      at true = ap (or_nulls relations j.source (sight_of earlier picked)) seen ∙ nulls-seen j.source earlier picked full found
      at false = seen

  step-seen : (j : JoinTo) (earlier : List NamedSchema) (all : List Picked) → AreFull earlier all →
      flat_map (joined_to relations j) (map (sight_of earlier) all) ≡ map (sight_of (source_in known j.source ∷ earlier)) (flat_map (bound_joined_to rows_of (joined_by earlier j)) all)
  step-seen j earlier [] f = refl
  step-seen j earlier (p ∷ all) f =
      ap₂ (λ (x y : List Sight). x ++ y) (join-seen j earlier p f.0) (step-seen j earlier all f.1)
      ∙ sym (map-append (sight_of (source_in known j.source ∷ earlier)) (bound_joined_to rows_of (joined_by earlier j) p) (flat_map (bound_joined_to rows_of (joined_by earlier j)) all))

  joins-seen : (joins : List JoinTo) (earlier : List NamedSchema) (all : List Picked) → AreFull earlier all →
      all_joined relations joins (map (sight_of earlier) all) ≡ map (sight_of (all_sources known earlier joins)) (bound_all_joined rows_of (place_joins known earlier joins) all)
  joins-seen [] earlier all f = refl
  joins-seen (j ∷ joins) earlier all f =
      ap (all_joined relations joins) (step-seen j earlier all f)
      ∙ joins-seen joins (source_in known j.source ∷ earlier) (flat_map (bound_joined_to rows_of (joined_by earlier j)) all) (full-all rows_of (joined_by earlier j) (source_in known j.source) earlier all f)

  nothing-seen : nothing_in_sight ≡ sight_of [] []
  nothing-seen = fun_ext (λ a. fun_ext (λ c. sym (bound_value-Null [])))

  first-seen : (from : Option Source) → first_rows relations from ≡ map (sight_of (first_sources known from)) (bound_first_rows rows_of (place_from known from))
  first-seen None = ap (λ (x : Sight). x ∷ []) nothing-seen
  first-seen (Some s) = ap (with_source relations s) nothing-seen ∙ source-seen s [] [] refl

  first-full : (from : Option Source) → AreFull (first_sources known from) (bound_first_rows rows_of (place_from known from))
  first-full None = (refl, tt)
  first-full (Some s) = full-each (source_in known s) [] [] refl (relation_rows rows_of (number_of known s.table))

  -- ---- one SELECT

  passed-seen : (sources : List NamedSchema) (condition : Option SqlExpr) (all : List Picked) → passed condition (map (sight_of sources) all) ≡ map (sight_of sources) (bound_passed (place_condition (places_of sources) condition) all)
  passed-seen sources None all = refl
  passed-seen sources (Some e) all = where-seen sources e all

  keys-seen : (sources : List NamedSchema) (keys : List SqlKey) (p : Picked) → key_cells keys (sight_of sources p) ≡ bound_key_cells (place_keys (places_of sources) keys) p
  keys-seen sources [] p = refl
  keys-seen sources (k ∷ keys) p = ap₂ (λ (x : Cell) (xs : List Cell). x ∷ xs) (value-seen sources p k.expr) (keys-seen sources keys p)

  downs-seen : (places : Places) (keys : List SqlKey) → map (λ (k : SqlKey). k.down) keys ≡ bound_downs (place_keys places keys)
  downs-seen places [] = refl
  downs-seen places (k ∷ keys) = ap (λ (l : List Bool). k.down ∷ l) (downs-seen places keys)

  items-seen : (sources : List NamedSchema) (items : List Item) (p : Picked) → item_cells items (sight_of sources p) ≡ bound_item_cells (place_items (places_of sources) items) p
  items-seen sources [] p = refl
  items-seen sources (i ∷ items) p = ap₂ (λ (x : Cell) (xs : List Cell). x ∷ xs) (value-seen sources p i.expr) (items-seen sources items p)

  order-seen : (sources : List NamedSchema) (keys : List SqlKey) → (λ (p q : Picked). key_order keys (sight_of sources p) (sight_of sources q)) ≡ bound_key_order (place_keys (places_of sources) keys)
  order-seen sources keys = fun_ext (λ p. fun_ext (λ q.
      ap (λ (downs : List Bool). by_items cell_order downs (key_cells keys (sight_of sources p)) (key_cells keys (sight_of sources q))) (downs-seen (places_of sources) keys)
      ∙ ap₂ (by_items cell_order (bound_downs (place_keys (places_of sources) keys))) (keys-seen sources keys p) (keys-seen sources keys q)))

  sorted-seen : (c : Core) → sorted_sights relations c ≡ map (sight_of (all_sources known (first_sources known c.from) c.joins)) (bound_sorted rows_of (place_core known c))
  sorted-seen c =
      let sources : List NamedSchema = all_sources known (first_sources known c.from) c.joins in
      let joined = ap (all_joined relations c.joins) (first-seen c.from) ∙ joins-seen c.joins (first_sources known c.from) (bound_first_rows rows_of (place_from known c.from)) (first-full c.from) in
      let all : List Picked = bound_sources rows_of (place_core known c) in
      let some = ap (passed c.condition) joined ∙ passed-seen sources c.condition all in
      let left : List Picked = bound_passed (place_condition (places_of sources) c.condition) all in
      ap (sort (key_order c.keys)) some ∙ map-sort (key_order c.keys) (sight_of sources) left
      ∙ ap (λ (cmp : Picked → Picked → Ordering). map (sight_of sources) (sort cmp left)) (order-seen sources c.keys)

  pub select-placed : (c : Core) → select_rows relations c ≡ bound_select_rows rows_of (place_core known c)
  select-placed c =
      let sources : List NamedSchema = all_sources known (first_sources known c.from) c.joins in
      ap (λ (rows : List (List Cell)). kept c.most (dropped c.skip (unrepeated c.distinct rows)))
      (ap (map (item_cells c.items)) (sorted-seen c)
      ∙ map-through (item_cells c.items) (sight_of sources) (bound_item_cells (place_items (places_of sources) c.items)) (items-seen sources c.items) (bound_sorted rows_of (place_core known c)))
