-- The items of a SELECT, one by one.
use Rattle.std.proofs.Common.{◌≡◌, ℕ, ◌+◌, ◌<◌, Bool, true, false, List, [], ◌∷◌, ◌++◌, length, take, drop, get_or, Ok, Err, refl, sym, ap, ◌∙◌}
use Rattle.std.proofs.lemmas.List.{take_more, map-append}
use Rattle.std.specs.List.{list_any}
use Rattle.std.specs.Str.{bytes_eq}
use Rattle.table_meaning.specs.declared.kind.Kind.{Kind}
use Rattle.table_meaning.specs.declared.schema.Column.{Column}
use Rattle.sql_meaning.specs.declared.script.Item.{Item}
use Rattle.sql_rows_meaning.specs.declared.fault.FaultKind.{FaultKind}
use Rattle.sql_rows_meaning.specs.declared.fault.FaultKind.TheVariants.{Twice}
use Rattle.sql_rows_meaning.specs.Faults.{Checked, and_then, unless}
use Rattle.sql_rows_meaning.specs.Scopes.{Scope}
use Rattle.sql_rows_meaning.specs.Checks.{KindChecked, check}
use Rattle.sql_rows_meaning.specs.Binding.{check_items}
use Rattle.sql_bind_laws.specs.Places.{Places, place, place_items}
use Rattle.sql_bind.proofs.Fronts.{at-front, append-one, nothing-behind}

-- these columns, and what is found behind them
abbrev pub behind : List Column → Checked FaultKind (List Column) → Checked FaultKind (List Column)
behind columns c = and_then c (λ more. Ok (columns ++ more))

shifted : (columns : List Column) (c : Column) (r : Checked FaultKind (List Column)) → behind columns (and_then r (λ more. Ok (c ∷ more))) ≡ behind (columns ++ c ∷ []) r
shifted columns c (Ok more) = ap Ok (append-one columns c more)
shifted columns c (Err e) = refl

-- the item in front, given its kind
opened : (scope : Scope) (names : List (List ℕ)) (all : List Item) (i : ℕ) (x : Item) (columns : List Column) (w : Checked FaultKind (List Column)) → i < length all → x ≡ get_or all i x →
    w ≡ behind columns (check_items scope names (drop i all)) →
    w ≡ behind columns (and_then (check x.expr scope) (λ k. and_then (unless (list_any (bytes_eq x.name) names) Twice k) (λ k. and_then (check_items scope (x.name ∷ names) (drop (i + 1) all)) (λ columns. Ok (record { name = x.name; kind = k } ∷ columns)))))
opened scope names all i x columns w within is was = was ∙ ap (λ (l : List Item). behind columns (check_items scope names l)) (at-front all i x within is)

pub items_next : (scope : Scope) (names : List (List ℕ)) (all : List Item) (i : ℕ) (x : Item) (columns : List Column) (w : Checked FaultKind (List Column)) (k : Kind) → i < length all → x ≡ get_or all i x →
    w ≡ behind columns (check_items scope names (drop i all)) → check x.expr scope ≡ Ok k → list_any (bytes_eq x.name) names ≡ false →
    w ≡ behind (columns ++ record { name = x.name; kind = k } ∷ []) (check_items scope (x.name ∷ names) (drop (i + 1) all))
items_next scope names all i x columns w k within is was kind new =
    opened scope names all i x columns w within is was
    ∙ ap (λ (c : KindChecked). behind columns (and_then c (λ k. and_then (unless (list_any (bytes_eq x.name) names) Twice k) (λ k. and_then (check_items scope (x.name ∷ names) (drop (i + 1) all)) (λ columns. Ok (record { name = x.name; kind = k } ∷ columns)))))) kind
    ∙ ap (λ (b : Bool). behind columns (and_then (unless b Twice k) (λ k. and_then (check_items scope (x.name ∷ names) (drop (i + 1) all)) (λ columns. Ok (record { name = x.name; kind = k } ∷ columns))))) new
    ∙ shifted columns (record { name = x.name; kind = k }) (check_items scope (x.name ∷ names) (drop (i + 1) all))

pub items_fault : (scope : Scope) (names : List (List ℕ)) (all : List Item) (i : ℕ) (x : Item) (columns : List Column) (w : Checked FaultKind (List Column)) (e : FaultKind) → i < length all → x ≡ get_or all i x →
    w ≡ behind columns (check_items scope names (drop i all)) → check x.expr scope ≡ Err e → w ≡ Err e
items_fault scope names all i x columns w e within is was fault =
    opened scope names all i x columns w within is was
    ∙ ap (λ (c : KindChecked). behind columns (and_then c (λ k. and_then (unless (list_any (bytes_eq x.name) names) Twice k) (λ k. and_then (check_items scope (x.name ∷ names) (drop (i + 1) all)) (λ columns. Ok (record { name = x.name; kind = k } ∷ columns)))))) fault

pub items_twice : (scope : Scope) (names : List (List ℕ)) (all : List Item) (i : ℕ) (x : Item) (columns : List Column) (w : Checked FaultKind (List Column)) (k : Kind) → i < length all → x ≡ get_or all i x →
    w ≡ behind columns (check_items scope names (drop i all)) → check x.expr scope ≡ Ok k → list_any (bytes_eq x.name) names ≡ true → w ≡ Err Twice
items_twice scope names all i x columns w k within is was kind taken =
    opened scope names all i x columns w within is was
    ∙ ap (λ (c : KindChecked). behind columns (and_then c (λ k. and_then (unless (list_any (bytes_eq x.name) names) Twice k) (λ k. and_then (check_items scope (x.name ∷ names) (drop (i + 1) all)) (λ columns. Ok (record { name = x.name; kind = k } ∷ columns)))))) kind
    ∙ ap (λ (b : Bool). behind columns (and_then (unless b Twice k) (λ k. and_then (check_items scope (x.name ∷ names) (drop (i + 1) all)) (λ columns. Ok (record { name = x.name; kind = k } ∷ columns))))) taken

pub items_begin : (c : Checked FaultKind (List Column)) → c ≡ behind [] c
items_begin (Ok columns) = refl
items_begin (Err e) = refl

pub items_end : (scope : Scope) (names : List (List ℕ)) (rest : List Item) (columns : List Column) (w : Checked FaultKind (List Column)) → rest ≡ [] → w ≡ behind columns (check_items scope names rest) → w ≡ Ok columns
items_end scope names rest columns w none was = was ∙ ap (λ (l : List Item). behind columns (check_items scope names l)) none ∙ ap Ok (nothing-behind columns)

pub exprs_next : (places : Places) (all : List Item) (i : ℕ) (x : Item) → i < length all → x ≡ get_or all i x → place_items places (take (i + 1) all) ≡ place_items places (take i all) ++ place x.expr places ∷ []
exprs_next places all i x within is =
    let taken : take (i + 1) all ≡ take i all ++ x ∷ [] = take_more all i x within ∙ ap (λ (z : Item). take i all ++ z ∷ []) (sym is) in
    ap (place_items places) taken ∙ map-append (λ (i : Item). place i.expr places) (take i all) (x ∷ [])

pub ruleset steps = (items_next, items_fault, items_twice, items_begin, items_end, exprs_next)
