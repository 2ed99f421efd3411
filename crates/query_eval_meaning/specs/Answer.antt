-- The ordered answer (SPARQL 1.1 Query, sections 15 and 18.2.5).
-- This project's own: ties, and answers with no keys, go by the shown terms, and DISTINCT keeps the first of equal rows.
use Rattle.std.specs.Prelude.{ℕ, Bool, true, false, if◌then◌else◌, List, [], ◌∷◌, ◌++◌, map, Option, Some, None, take, drop}
use Rattle.std.specs.declared.cmp.Ordering.{Ordering}
use Rattle.bags.specs.Sort.{sort, by_items, same_items, firsts}
use Rattle.rdf_meaning.specs.Terms.{RdfTerm, same_term}
use Rattle.rdf_value_meaning.specs.TermOrder.{place_order}
use Rattle.query_meaning.specs.declared.modifiers.Key.{Key}
use Rattle.query_meaning.specs.declared.modifiers.Modifiers.{Modifiers}
use Rattle.query_eval_meaning.specs.Mapping.{Mapping}

-- a term for each column, or none where it is unbound
abbrev pub Row : Type 0
Row = List (Option RdfTerm)

abbrev pub same_place : Option RdfTerm → Option RdfTerm → Bool
same_place (Some a) (Some b) = same_term a b
same_place None None = true
same_place _ _ = false

-- the asked keys, and then the shown variables, rising
abbrev pub all_keys : List Key → List ℕ → List Key
all_keys keys shown = keys ++ map (λ (v : ℕ). record { var = v; down = false }) shown

abbrev pub row_of : List Key → Mapping → Row
row_of keys m = map (λ (k : Key). m k.var) keys

abbrev pub row_order : List Key → Row → Row → Ordering
row_order keys = by_items place_order (map (λ (k : Key). k.down) keys)

-- the places past those of the keys
abbrev pub past : List Key → Row → Row
past [] row = row
past (k ∷ ks) [] = []
past (k ∷ ks) (x ∷ row) = past ks row

-- sorted by the keys and then the shown terms, of which the shown ones are kept
abbrev pub sorted_rows : List Key → List ℕ → List Mapping → List Row
sorted_rows keys shown ms = map (past keys) (sort (row_order (all_keys keys shown)) (map (row_of (all_keys keys shown)) ms))

abbrev pub distinct_rows : Bool → List Row → List Row
distinct_rows distinct rows = if distinct then firsts (same_items same_place) [] rows else rows

abbrev pub up_to : Option ℕ → List Row → List Row
up_to None rows = rows
up_to (Some n) rows = take n rows

-- the rows of an answer: sorted, then made distinct, then cut
abbrev pub ordered_answer : Modifiers → List Mapping → List Row
ordered_answer q ms = up_to q.most (drop q.skip (distinct_rows q.distinct (sorted_rows q.keys q.shown ms)))
