-- Looking for a cut, and sides that are appended.
use Rattle.std.proofs.Common.{◌≡◌, ◌<◌, ◌≤◌, ℕ, zero, suc, ◌+◌, ◌-◌, ◌==◌, true, false, List, [], ◌∷◌, length, drop, take, get_or, map, Some, Result, Ok, Err, IfOk, refl, sym, ap, ◌∙◌, subst, arith}
use Rattle.std.specs.List.{AllByRecursion, slice_range}
use Rattle.std.proofs.lemmas.List.{get_or_default, take-map, drop-map, length-map}
use Rattle.layout_meaning.specs.Side.{Item}
use Rattle.layout_meaning.specs.Columns.{ColumnsOf}
use Rattle.layout_meaning.specs.Rows.{SideOf}
use Rattle.layout_bulk_meaning.specs.Appended.{appended_side, IsAbove}
use Rattle.layout_bulk_meaning.specs.Bulk.{empty_side}
use Rattle.layout_bulk_meaning.proofs.Going.{left-next, left-none}
use Rattle.bags.specs.Sort.{sort}
use Rattle.layout_bulk_meaning.specs.Bulk.{by_entity, bulk_side}
use Rattle.layout_run_laws.specs.Runs.{run_side, appended_runs, AppendAbove, AreRuns}
use Rattle.layout_run_laws.proofs.Runs.{runs-above}
use Rattle.layout_run_laws.proofs.Cuts.{cut-rises, share-next, sorted-runs, pieces-same}
use Rattle.layout_run_laws.specs.Cuts.{same_front, cut_after, cut_from, share, run_at, runs_from, runs_of}
use Rattle.shredder.specs.declared.bulk.Placed.{Placed}
use Rattle.shredder.specs.Items.{item_of}
use Rattle.shredder.specs.Parts.{all_appended, CanAppend, EachIsRun}
use Rattle.shredder.proofs.Runs.{columns-kept}

-- the cut from a place is behind as many as are still of the entity
pub record Scanning (all : List Placed) (from at e : ℕ) : Type 0 where
  pub place : cut_from from (map item_of all) ≡ at + same_front e (map item_of (drop at all))

after-is : (x : Placed) (m : ℕ) (xs : List Placed) (d : Placed) → m ≤ length xs → cut_after x.entity m (map item_of xs) ≡ m + same_front (get_or (x ∷ xs) m d).entity (map item_of (drop m xs))
after-is x zero xs d h = omega arith
after-is x (suc m) [] d h = absurd (omega arith)
after-is x (suc m) (y ∷ ys) d h = omega (arith, after-is y m ys d (omega arith))

-- the search begins with the entity of the item before
pub scan-begins : (all : List Placed) (from : ℕ) (d : Placed) → 0 < from → from ≤ length all → Scanning all from from (get_or all (from - 1) d).entity
scan-begins all zero d some h = absurd (omega arith)
scan-begins [] (suc m) d some h = absurd (omega arith)
scan-begins (x ∷ xs) (suc m) d some h =
    let e : suc m - 1 ≡ m = omega arith in
    rw e (record { place = omega (arith, after-is x m xs d (omega arith)) })

here : (all : List Placed) (at : ℕ) (d : Placed) → at < length all → map item_of (drop at all) ≡ item_of (get_or all at d) ∷ map item_of (drop (at + 1) all)
here all at d l = ap (map item_of) (left-next all at (get_or all at d) l (get_or_default all at d (get_or all at d) l))

pub scan-next : (all : List Placed) (from at e : ℕ) (d : Placed) → Scanning all from at e → at < length all → ((get_or all at d).entity == e) ≡ true → Scanning all from (at + 1) e
scan-next all from at e d s l t =
    let one : same_front e (map item_of (drop at all)) ≡ suc (same_front e (map item_of (drop (at + 1) all))) = ap (same_front e) (here all at d l) ∙ rw t refl in
    record { place = omega (arith, s.place, one) }

pub scan-stops : (all : List Placed) (from at e : ℕ) (d : Placed) → Scanning all from at e → at < length all → ((get_or all at d).entity == e) ≡ false → at ≡ cut_from from (map item_of all)
scan-stops all from at e d s l t =
    let one : same_front e (map item_of (drop at all)) ≡ 0 = ap (same_front e) (here all at d l) ∙ rw t refl in
    omega (arith, s.place, one)

pub scan-ends : (all : List Placed) (from at e : ℕ) → Scanning all from at e → at ≡ length all → length all ≡ cut_from from (map item_of all)
scan-ends all from at e s h =
    let one : same_front e (map item_of (drop at all)) ≡ 0 = ap (λ (ps : List Placed). same_front e (map item_of ps)) (left-none all at (omega arith)) in
    omega (arith, s.place, one)

-- ---- a run

range-map : (xs : List Placed) (a b : ℕ) → map item_of (slice_range xs a b) ≡ slice_range (map item_of xs) a b
range-map xs a b = sym (take-map item_of (b - a) (drop a xs)) ∙ ap (take (b - a)) (sym (drop-map item_of a xs))

pub run-items : (xs rs : List Placed) (pieces at from to : ℕ) → from ≡ cut_from (share (length xs) pieces at) (map item_of xs) → to ≡ cut_from (share (length xs) pieces (at + 1)) (map item_of xs)
    → rs ≡ slice_range xs from to → map item_of rs ≡ run_at pieces (map item_of xs) at
run-items xs rs pieces at from to f t e =
    ap (map item_of) e ∙ range-map xs from to
    ∙ ap (λ (n : ℕ). slice_range (map item_of xs) n to) f ∙ ap (λ (n : ℕ). slice_range (map item_of xs) (cut_from (share (length xs) pieces at) (map item_of xs)) n) t
    ∙ ap (λ (n : ℕ). slice_range (map item_of xs) (cut_from (share n pieces at) (map item_of xs)) (cut_from (share n pieces (at + 1)) (map item_of xs))) (sym (length-map xs item_of))

each-take : {X : Type 0} (P : X → Type 0) (n : ℕ) (xs : List X) → AllByRecursion P xs → AllByRecursion P (take n xs)
each-take P zero xs a = tt
each-take P (suc n) [] a = tt
each-take P (suc n) (x ∷ xs) a = (a.0, each-take P n xs a.1)

each-drop : {X : Type 0} (P : X → Type 0) (n : ℕ) (xs : List X) → AllByRecursion P xs → AllByRecursion P (drop n xs)
each-drop P zero xs a = a
each-drop P (suc n) [] a = tt
each-drop P (suc n) (x ∷ xs) a = each-drop P n xs a.1

pub run-each : (P : Item → Type 0) (pieces : ℕ) (xs : List Item) (at : ℕ) (rs : List Item) → rs ≡ run_at pieces xs at → AllByRecursion P xs → AllByRecursion P rs
run-each P pieces xs at rs e a =
    let from = cut_from (share (length xs) pieces at) xs in
    let to = cut_from (share (length xs) pieces (at + 1)) xs in
    rw e (each-take P (to - from) (drop from xs) (each-drop P from xs a))

-- ---- sides that are appended

-- what is kept while sides are appended, of which some are left
pub record Appending {E : Type 0} (start side : SideOf) (all rest : List (Result SideOf E)) : Type 0 where
  pub can : CanAppend side rest
  pub same : all_appended side rest ≡ all_appended start all

pub appending-same : {E : Type 0} (start side t : SideOf) (all rest more : List (Result SideOf E)) → Appending start side all rest → rest ≡ Ok t ∷ more → t.columns ≡ side.columns
appending-same {E} start side t all rest more a e = (subst (λ (ps : List (Result SideOf E)). CanAppend side ps) e a.can).0

pub appending-above : {E : Type 0} (start side t : SideOf) (all rest more : List (Result SideOf E)) → Appending start side all rest → rest ≡ Ok t ∷ more → IsAbove side.state.entities t.state.entities
appending-above {E} start side t all rest more a e = (subst (λ (ps : List (Result SideOf E)). CanAppend side ps) e a.can).1

pub appending-next : {E : Type 0} (start side t new : SideOf) (all rest more : List (Result SideOf E)) → Appending start side all rest → rest ≡ Ok t ∷ more → new ≡ appended_side side t → Appending start new all more
appending-next {E} start side t new all rest more a e n = record {
  can = rw n (subst (λ (ps : List (Result SideOf E)). CanAppend side ps) e a.can).2;
  same = rw n (ap (λ (ps : List (Result SideOf E)). all_appended side ps) (sym e) ∙ a.same);
}

pub appending-ends : {E : Type 0} (start side : SideOf) (all rest : List (Result SideOf E)) → Appending start side all rest → rest ≡ [] → all_appended start all ≡ Some side
appending-ends {E} start side all rest a e = sym (ap (λ (ps : List (Result SideOf E)). all_appended side ps) (sym e) ∙ a.same)

-- ---- parts and runs

-- each part that was made is the side of the run in its place
abbrev pub AreParts : {E : Type 0} → ColumnsOf → (ℕ → List ℕ) → List (List Item) → List (Result SideOf E) → Type 0
AreParts columns iri_of [] [] = Unit {0}
AreParts columns iri_of [] (p ∷ parts) = ⊥
AreParts columns iri_of (run ∷ runs) [] = ⊥
AreParts columns iri_of (run ∷ runs) (p ∷ parts) = IfOk p (λ (side : SideOf). side ≡ run_side columns iri_of run) × AreParts columns iri_of runs parts

pub parts-of : {E : Type 0} (columns : ColumnsOf) (iri_of : ℕ → List ℕ) (pieces : ℕ) (items : List Item) (at n : ℕ) (parts : List (Result SideOf E)) → length parts ≡ n
    → ((i : ℕ) (d : Result SideOf E) → i < n → IfOk (get_or parts i d) (λ (side : SideOf). side ≡ run_side columns iri_of (run_at pieces items (at + i)))) → AreParts columns iri_of (runs_from pieces items at n) parts
parts-of columns iri_of pieces items at zero [] l each = tt
parts-of columns iri_of pieces items at zero (p ∷ parts) l each = absurd (omega arith)
parts-of columns iri_of pieces items at (suc n) [] l each = absurd (omega arith)
parts-of {E} columns iri_of pieces items at (suc n) (p ∷ parts) l each =
    let first : at + 0 ≡ at = omega arith in (
      subst (λ (k : ℕ). IfOk p (λ (side : SideOf). side ≡ run_side columns iri_of (run_at pieces items k))) first (each 0 p (omega arith)),
      parts-of columns iri_of pieces items (at + 1) n parts (omega arith)
          (λ i d h. (let next : at + suc i ≡ at + 1 + i = omega arith in subst (λ (k : ℕ). IfOk (get_or parts i d) (λ (side : SideOf). side ≡ run_side columns iri_of (run_at pieces items k))) next (each (suc i) d (omega arith)))),
    )

pub parts-can : {E : Type 0} (columns : ColumnsOf) (iri_of : ℕ → List ℕ) (s : SideOf) (runs : List (List Item)) (parts : List (Result SideOf E)) → s.columns ≡ columns → AreParts columns iri_of runs parts → AppendAbove columns iri_of s runs → CanAppend s parts
parts-can columns iri_of s [] [] c a b = tt
parts-can columns iri_of s [] (p ∷ parts) c a b = absurd a
parts-can columns iri_of s (run ∷ runs) [] c a b = absurd a
parts-can columns iri_of s (run ∷ runs) (Err e ∷ parts) c a b = tt
parts-can {E} columns iri_of s (run ∷ runs) (Ok t ∷ parts) c a b = (
  ap (λ (u : SideOf). u.columns) a.0 ∙ columns-kept iri_of (empty_side columns) run ∙ sym c,
  subst (λ (u : SideOf). IsAbove s.state.entities u.state.entities) (sym a.0) b.0,
  subst (λ (u : SideOf). CanAppend (appended_side s u) parts) (sym a.0) (parts-can columns iri_of (appended_side s (run_side columns iri_of run)) runs parts c a.1 b.1),
)

pub parts-appended : {E : Type 0} (columns : ColumnsOf) (iri_of : ℕ → List ℕ) (s side : SideOf) (runs : List (List Item)) (parts : List (Result SideOf E)) → AreParts columns iri_of runs parts → all_appended s parts ≡ Some side
    → side ≡ appended_runs columns iri_of s runs
parts-appended columns iri_of s side [] [] a e = cc
parts-appended columns iri_of s side [] (p ∷ parts) a e = absurd a
parts-appended columns iri_of s side (run ∷ runs) [] a e = absurd a
parts-appended columns iri_of s side (run ∷ runs) (Err x ∷ parts) a e = cc
parts-appended columns iri_of s side (run ∷ runs) (Ok t ∷ parts) a e =
    parts-appended columns iri_of (appended_side s t) side runs parts a.1 e ∙ ap (λ (u : SideOf). appended_runs columns iri_of (appended_side s u) runs) a.0

-- ---- the whole

module _ {E : Type 0} (columns : ColumnsOf) (iri_of : ℕ → List ℕ) (pieces : ℕ) (items rising : List Item) (parts : List (Result SideOf E))
    (some : 1 ≤ pieces) (order : rising ≡ sort by_entity items) (len : length parts ≡ pieces) (each : EachIsRun columns iri_of pieces rising parts) where
  are-parts : AreParts columns iri_of (runs_of pieces rising) parts
  are-parts = parts-of columns iri_of pieces rising 0 pieces parts len (λ i d h. (let e : i ≡ 0 + i = omega arith in subst (λ (k : ℕ). IfOk (get_or parts i d) (λ (side : SideOf). side ≡ run_side columns iri_of (run_at pieces rising k))) e (each i d h)))

  are-runs : AreRuns (runs_of pieces rising)
  are-runs = subst (λ (l : List Item). AreRuns (runs_of pieces l)) (sym order) (sorted-runs pieces items some)

  pub shred-can : CanAppend (empty_side columns) parts
  shred-can = parts-can columns iri_of (empty_side columns) (runs_of pieces rising) parts refl are-parts (runs-above columns iri_of (runs_of pieces rising) are-runs)

  pub shred-same : (r : Result SideOf E) → IfOk r (λ (side : SideOf). all_appended (empty_side columns) parts ≡ Some side) → IfOk r (λ (side : SideOf). side ≡ bulk_side columns iri_of items)
  shred-same (Err e) h = tt
  shred-same (Ok side) h =
      parts-appended columns iri_of (empty_side columns) side (runs_of pieces rising) parts are-parts h
      ∙ ap (λ (l : List Item). appended_runs columns iri_of (empty_side columns) (runs_of pieces l)) order
      ∙ pieces-same columns iri_of pieces items some

pub bounds-rise : (xs : List Placed) (pieces at s t from to : ℕ) → s ≡ share (length xs) pieces at → t ≡ share (length xs) pieces (at + 1) → from ≡ cut_from s (map item_of xs) → to ≡ cut_from t (map item_of xs) → from ≤ to
bounds-rise xs pieces at s t from to a b c d =
    let l : s ≤ t = subst (λ (k : ℕ). k ≤ t) (sym a) (subst (λ (k : ℕ). share (length xs) pieces at ≤ k) (sym b) (share-next (length xs) pieces at)) in
    omega (arith, cut-rises s t (map item_of xs) l, c, d)
