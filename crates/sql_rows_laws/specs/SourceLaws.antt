-- The rows of sources are of the kinds that expressions take them for.
use Rattle.std.specs.Prelude.{◌≡◌, ◌⊎◌, ℕ, Bool, true, false, if◌then◌else◌, List, [], ◌∷◌, Option, Some, None, refl, Ok}
use Rattle.std.proofs.Common.{sym, ap, ◌∙◌, subst, inl, inr}
use Rattle.std.proofs.lemmas.Bool.{cases_Bool, and_parts}
use Rattle.std.specs.List.{list_any, flat_map, AllByRecursion}
use Rattle.std.specs.Str.{bytes_eq}
use Rattle.bags.specs.BagLaws.{each-map, each-flat_map, each-filter, each-weaker}
use Rattle.table_meaning.specs.declared.kind.Kind.{Kind}
use Rattle.table_meaning.specs.declared.cell.Cell.{Cell}
use Rattle.table_meaning.specs.declared.cell.Cell.TheVariants.{Null}
use Rattle.table_meaning.specs.declared.schema.Column.{Column}
use Rattle.table_meaning.specs.Schemas.{column_names}
use Rattle.table_meaning.specs.Tables.{has_kind, is_row}
use Rattle.sql_meaning.specs.declared.script.Source.{Source}
use Rattle.sql_meaning.specs.declared.script.JoinTo.{JoinTo}
use Rattle.sql_rows_meaning.specs.Values.{Sight, is_true, value_of}
use Rattle.sql_rows_meaning.specs.Tables.{Relation, Relations, cell_under}
use Rattle.sql_rows_meaning.specs.Sources.{nothing_in_sight, with_row, with_source, where_true, or_nulls, joined_to, all_joined, first_rows}
use Rattle.sql_rows_meaning.specs.declared.fault.FaultKind.TheVariants.{NoTable, Twice}
use Rattle.sql_rows_meaning.specs.Faults.{and_then, unless, found}
use Rattle.sql_rows_meaning.specs.Scopes.{Schemas, kind_under, Seen, nothing_seen, with_alias}
use Rattle.sql_rows_meaning.specs.Checks.{check_truth}
use Rattle.sql_rows_meaning.specs.Binding.{check_source, check_from, check_join, check_joins}
use Rattle.sql_rows_laws.specs.KindLaws.{IsInSight, went, fine-same, found-is, null-kind}

-- the columns have these names, and each row has a cell of each kind
pub record IsRelationOf (schema : List Column) (r : Relation) : Type 0 where
  pub names : r.columns ≡ column_names schema
  pub rows : AllByRecursion (λ row. is_row schema row ≡ true) r.rows

-- the relation of each name that has a schema is one of that schema
pub record AreRelationsOf (schemas : Schemas) (relations : Relations) : Type 0 where
  pub each : (name : List ℕ) (schema : List Column) → schemas name ≡ Some schema → IsRelationOf schema (relations name)

-- a row of these columns, or of nulls
abbrev pub IsRowOrNulls : List Column → List Cell → Type 0
IsRowOrNulls schema row = (is_row schema row ≡ true) ⊎ (row ≡ [])

nulls-kind : (names : List (List ℕ)) (c : List ℕ) → cell_under names [] c ≡ Null
nulls-kind [] c = refl
nulls-kind (n ∷ names) c = refl

pub some-same : {X : Type 0} (x y : X) → Some x ≡ Some y → x ≡ y
some-same x y e = cc

row-kind : (schema : List Column) (row : List Cell) (c : List ℕ) (k : Kind) → is_row schema row ≡ true → kind_under schema c ≡ Some k → has_kind k (cell_under (column_names schema) row c) ≡ true
row-kind [] row c k r e = cc
row-kind (d ∷ schema) [] c k r e = cc
row-kind (d ∷ schema) (x ∷ row) c k r e = go (cases_Bool (bytes_eq d.name c)) (row-kind schema row c k (and_parts (has_kind d.kind x) (is_row schema row) r).1)
  where
    go : (bytes_eq d.name c ≡ true) ⊎ (bytes_eq d.name c ≡ false) → (kind_under schema c ≡ Some k → has_kind k (cell_under (column_names schema) row c) ≡ true) → has_kind k (cell_under (column_names (d ∷ schema)) (x ∷ row) c) ≡ true
    go (inl b) rest =
        let mine : d.kind ≡ k = some-same d.kind k (sym (ap (λ (t : Bool). if t then Some d.kind else kind_under schema c) b) ∙ e) in
        rw b (subst (λ (j : Kind). has_kind j x ≡ true) mine (and_parts (has_kind d.kind x) (is_row schema row) r).0)
    go (inr b) rest = rw b (rest (sym (ap (λ (t : Bool). if t then Some d.kind else kind_under schema c) b) ∙ e))

under-kind : (schema : List Column) (row : List Cell) (c : List ℕ) (k : Kind) → IsRowOrNulls schema row → kind_under schema c ≡ Some k → has_kind k (cell_under (column_names schema) row c) ≡ true
under-kind schema row c k (inl r) e = row-kind schema row c k r e
under-kind schema row c k (inr n) e =
    subst (λ (cells : List Cell). has_kind k (cell_under (column_names schema) cells c) ≡ true) (sym n) (subst (λ (x : Cell). has_kind k x ≡ true) (sym (nulls-kind (column_names schema) c)) (null-kind k))

-- one more row, under an alias
more-in_sight : (alias : List ℕ) (schema : List Column) (names : List (List ℕ)) (row : List Cell) (seen : Seen) (sight : Sight) → names ≡ column_names schema → IsRowOrNulls schema row → IsInSight seen.scope sight →
    IsInSight (with_alias alias schema seen).scope (with_row alias names row sight)
more-in_sight alias schema names row seen sight n r s = record { kinds = λ a c k e. at a c k (cases_Bool (bytes_eq a alias)) e }
  where
    at : (a c : List ℕ) (k : Kind) → (bytes_eq a alias ≡ true) ⊎ (bytes_eq a alias ≡ false) → (if bytes_eq a alias then kind_under schema c else seen.scope a c) ≡ Some k → has_kind k (if bytes_eq a alias then cell_under names row c else sight a c) ≡ true
    at a c k (inl b) e =
        let found : kind_under schema c ≡ Some k = sym (ap (λ (t : Bool). if t then kind_under schema c else seen.scope a c) b) ∙ e in
        rw b (subst (λ (ns : List (List ℕ)). has_kind k (cell_under ns row c) ≡ true) (sym n) (under-kind schema row c k r found))
    at a c k (inr b) e = rw b (s.kinds a c k (sym (ap (λ (t : Bool). if t then kind_under schema c else seen.scope a c) b) ∙ e))

-- a source that is checked: its schema, and what is seen with it
record IsSource (schemas : Schemas) (s : Source) (seen more : Seen) : Type 0 where
  schema : List Column
  there : schemas s.table ≡ Some schema
  alias : with_alias s.alias schema seen ≡ more

pub unless-fine : {F X : Type 0} (b : Bool) (e : F) (x y : X) → unless b e x ≡ Ok y → x ≡ y
unless-fine true e x y h = cc
unless-fine false e x y h = fine-same x y h

pub unless-false : {F X : Type 0} (b : Bool) (e : F) (x y : X) → unless b e x ≡ Ok y → b ≡ false
unless-false true e x y h = cc
unless-false false e x y h = refl

source-is : (schemas : Schemas) (s : Source) (seen more : Seen) → check_source schemas s seen ≡ Ok more → IsSource schemas s seen more
source-is schemas s seen more h =
    let w = went (found NoTable (schemas s.table)) (λ schema. unless (list_any (bytes_eq s.alias) seen.aliases) Twice (with_alias s.alias schema seen)) more h in
    record { schema = w.what; there = found-is NoTable (schemas s.table) w.what w.first; alias = unless-fine (list_any (bytes_eq s.alias) seen.aliases) Twice (with_alias s.alias w.what seen) more w.later }

module _ {schemas : Schemas} {relations : Relations} (fit : AreRelationsOf schemas relations) where
  -- each row of a source, and a row of nulls in its place
  source-in_sight : (s : Source) (seen more : Seen) → check_source schemas s seen ≡ Ok more → (sight : Sight) → IsInSight seen.scope sight → AllByRecursion (IsInSight more.scope) (with_source relations s sight)
  source-in_sight s seen more h sight i =
      let is = source-is schemas s seen more h in
      let r = fit.each s.table is.schema is.there in
      each-map (IsInSight more.scope) (λ row. with_row s.alias (relations s.table).columns row sight) (relations s.table).rows
      (each-weaker (λ row. is_row is.schema row ≡ true) (λ row. IsInSight more.scope (with_row s.alias (relations s.table).columns row sight))
      (λ row e. subst (λ (t : Seen). IsInSight t.scope (with_row s.alias (relations s.table).columns row sight)) is.alias (more-in_sight s.alias is.schema (relations s.table).columns row seen sight r.names (inl e) i))
      (relations s.table).rows r.rows)

  nulls-in_sight : (s : Source) (seen more : Seen) → check_source schemas s seen ≡ Ok more → (sight : Sight) → IsInSight seen.scope sight → IsInSight more.scope (with_row s.alias (relations s.table).columns [] sight)
  nulls-in_sight s seen more h sight i =
      let is = source-is schemas s seen more h in
      let r = fit.each s.table is.schema is.there in
      subst (λ (t : Seen). IsInSight t.scope (with_row s.alias (relations s.table).columns [] sight)) is.alias (more-in_sight s.alias is.schema (relations s.table).columns [] seen sight r.names (inr refl) i)

  or_nulls-in_sight : (s : Source) (seen more : Seen) → check_source schemas s seen ≡ Ok more → (sight : Sight) → IsInSight seen.scope sight → (found : List Sight) → AllByRecursion (IsInSight more.scope) found →
      AllByRecursion (IsInSight more.scope) (or_nulls relations s sight found)
  or_nulls-in_sight s seen more h sight i [] all = (nulls-in_sight s seen more h sight i, tt)
  or_nulls-in_sight s seen more h sight i (found ∷ others) all = all

  either_way : (P : Sight → Type 0) (b : Bool) (xs ys : List Sight) → AllByRecursion P xs → AllByRecursion P ys → AllByRecursion P (if b then xs else ys)
  either_way P true xs ys p q = p
  either_way P false xs ys p q = q

  join-in_sight : (j : JoinTo) (seen more : Seen) → check_join schemas j seen ≡ Ok more → (sight : Sight) → IsInSight seen.scope sight → AllByRecursion (IsInSight more.scope) (joined_to relations j sight)
  join-in_sight j seen more h sight i =
      let w = went (check_source schemas j.source seen) (λ wider. and_then (check_truth j.on wider.scope) (λ k. Ok wider)) more h in
      let v = went (check_truth j.on w.what.scope) (λ k. Ok w.what) more w.later in
      let same : w.what ≡ more = fine-same w.what more v.later in
      let source : check_source schemas j.source seen ≡ Ok more = w.first ∙ ap Ok same in
      let found : AllByRecursion (IsInSight more.scope) (where_true j.on (with_source relations j.source sight)) =
      each-filter (IsInSight more.scope) (λ sight. is_true (value_of j.on sight)) (with_source relations j.source sight) (source-in_sight j.source seen more source sight i) in
      either_way (IsInSight more.scope) j.left (or_nulls relations j.source sight (where_true j.on (with_source relations j.source sight))) (where_true j.on (with_source relations j.source sight))
      (or_nulls-in_sight j.source seen more source sight i (where_true j.on (with_source relations j.source sight)) found) found

  pub joins-in_sight : (joins : List JoinTo) (seen more : Seen) → check_joins schemas joins seen ≡ Ok more → (sights : List Sight) → AllByRecursion (IsInSight seen.scope) sights → AllByRecursion (IsInSight more.scope) (all_joined relations joins sights)
  joins-in_sight [] seen more h sights all = subst (λ (t : Seen). AllByRecursion (IsInSight t.scope) sights) (fine-same seen more h) all
  joins-in_sight (j ∷ joins) seen more h sights all =
      let w = went (check_join schemas j seen) (check_joins schemas joins) more h in
      joins-in_sight joins w.what more w.later (flat_map (joined_to relations j) sights)
      (each-flat_map (IsInSight w.what.scope) (joined_to relations j) sights
      (each-weaker (IsInSight seen.scope) (λ sight. AllByRecursion (IsInSight w.what.scope) (joined_to relations j sight)) (λ sight i. join-in_sight j seen w.what w.first sight i) sights all))

  pub first-in_sight : (from : Option Source) (seen : Seen) → check_from schemas from ≡ Ok seen → AllByRecursion (IsInSight seen.scope) (first_rows relations from)
  first-in_sight None seen h = (subst (λ (t : Seen). IsInSight t.scope nothing_in_sight) (fine-same nothing_seen seen h) (record { kinds = λ a c k e. cc }), tt)
  first-in_sight (Some s) seen h = source-in_sight s nothing_seen seen h nothing_in_sight (record { kinds = λ a c k e. cc })
