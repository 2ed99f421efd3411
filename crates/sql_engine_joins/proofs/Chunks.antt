-- What the runs of a list of numbers give, one after another, is what the list gives.
use Rattle.std.proofs.Common.{◌≡◌, ℕ, ◌+◌, ◌-◌, ◌*◌, ◌/◌, ◌%◌, ◌<◌, ◌≤◌, zero, suc, min, List, [], ◌∷◌, ◌++◌, take, drop, length, get_or, refl, sym, ap, ◌∙◌, arith, append-nil, Result, Ok, Err, IsOk, IfOk, OnOk, subst, map}
use Rattle.std.specs.Prelude.{slice_index_or}
use Rattle.std.specs.List.{All, flat_map, range_with_len}
use Rattle.std.specs.Fork.{slice_chunk}
use Rattle.std.proofs.lemmas.Grind.{flat_map-append}
use Rattle.std.proofs.lemmas.List.{take_all, take_more, map-append}
use Rattle.std.proofs.lemmas.List.FromFn.{length-range_with_len, map-range_with_len_more}
use Rattle.std.proofs.lemmas.List.Elements.{All-append, All-from_recursion}
use Rattle.std.proofs.Math.Nat.{suc-mul}
use Rattle.std.proofs.Math.Seq.{take-add, take-suc, take-length}
use Rattle.sql_bind_meaning.specs.Values.{Picked}
use Rattle.sql_bind_meaning.specs.declared.script.BoundCore.{BoundCore}
use Rattle.sql_engine_values.specs.Places.{SourceList, picked}
use Rattle.sql_engine_joins.specs.Rows.{PickedList, all_picked}
use Rattle.sql_engine_joins.specs.Runs.{one_number, row_gives, IsRun, run_rows}

module _ {X Y R : Type 0} (f : X → List Y) (g : R → List Y) (size : ℕ) (xs : List X) (rs : List R) (d : R)
    (each : (n : ℕ) → n < length rs → g (get_or rs n d) ≡ flat_map f (slice_chunk xs size n)) where
  -- the first n parts give what the first n chunks give
  some_parts : (n : ℕ) → n ≤ length rs → flat_map g (take n rs) ≡ flat_map f (take (n * size) xs)
  some_parts zero h = (let e : 0 ≡ 0 * size = omega arith in ap (λ (k : ℕ). flat_map f (take k xs)) e)
  some_parts (suc n) h =
      let lt : n < length rs = omega arith in
      let before : flat_map g (take n rs) ≡ flat_map f (take (n * size) xs) = some_parts n (omega arith) in
      let here : flat_map g (get_or rs n d ∷ []) ≡ flat_map f (slice_chunk xs size n) = append-nil (g (get_or rs n d)) ∙ each n lt in
      ap (flat_map g) (take-suc rs n d lt) ∙ flat_map-append g (take n rs) (get_or rs n d ∷ []) ∙ (λ i. before i ++ here i)
      ∙ sym (ap (λ k. flat_map f (take k xs)) (suc-mul n size) ∙ ap (flat_map f) (take-add (n * size) size xs) ∙ flat_map-append f (take (n * size) xs) (slice_chunk xs size n))

  parts-flat_map : length xs ≤ length rs * size → flat_map g rs ≡ flat_map f xs
  parts-flat_map long =
      sym (ap (flat_map g) (take-length rs)) ∙ some_parts (length rs) (omega arith) ∙ ap (flat_map f) (take_all (length rs * size) xs long)

-- as many chunks as a list is cut into hold all of it
chunks_cover : (size len : ℕ) → 0 < size → len ≤ (len / size + min 1 (len % size)) * size
chunks_cover size len h = grind arith

-- no chunk is past the end
pub chunk_starts : (size len n : ℕ) → 0 < size → n < len / size + min 1 (len % size) → n * size < len
chunk_starts size len n h k = grind arith

pub run_count : (start size : ℕ) → start + size - start ≡ size
run_count start size = omega arith

-- a run of numbers
numbers_run : (start n size k : ℕ) → take size (drop k (range_with_len start n)) ≡ range_with_len (start + k) (min size (n - k))
numbers_run start zero size k = nothing size k
  where
    nothing : (size k : ℕ) → take size (drop k []) ≡ range_with_len (start + k) (min size (0 - k))
    nothing size k = grind arith
numbers_run start (suc n) zero zero = let e : 0 ≡ min 0 (suc n - 0) = omega arith in ap (range_with_len (start + 0)) e
numbers_run start (suc n) (suc size) zero =
    let rest : take size (drop 0 (range_with_len (start + 1) n)) ≡ range_with_len (start + 1 + 0) (min size (n - 0)) = numbers_run (start + 1) n size zero in
    let next : start + 1 + 0 ≡ start + 0 + 1 = omega arith in
    let here : start ≡ start + 0 = omega arith in
    let count : suc (min size (n - 0)) ≡ min (suc size) (suc n - 0) = omega arith in
    (λ i. here i ∷ rest i) ∙ (λ i. (start + 0) ∷ range_with_len (next i) (min size (n - 0))) ∙ ap (range_with_len (start + 0)) count
numbers_run start (suc n) size (suc k) =
    let rest : take size (drop k (range_with_len (start + 1) n)) ≡ range_with_len (start + 1 + k) (min size (n - k)) = numbers_run (start + 1) n size k in
    let here : start + 1 + k ≡ start + suc k = omega arith in
    let left : n - k ≡ suc n - suc k = omega arith in
    rest ∙ (λ i. range_with_len (here i) (min size (left i)))

-- ---- runs that were done

rows_of : {E : Type 0} (m : List ℕ → Picked) (rs : List (Result PickedList E)) → map m (flat_map run_rows rs) ≡ flat_map (λ (r : Result PickedList E). map m (run_rows r)) rs
rows_of m [] = refl
rows_of m (r ∷ rs) = map-append m (run_rows r) (flat_map run_rows rs) ∙ ap (λ (l : List Picked). map m (run_rows r) ++ l) (rows_of m rs)

done_run : {E : Type 0} (m : List ℕ → Picked) (r : Result PickedList E) (ys : List Picked) → IsOk r → IfOk r (λ (p : PickedList). map m p.rows ≡ ys) → map m (run_rows r) ≡ ys
done_run m (Ok p) ys h e = e
done_run m (Err x) ys h e = cc

-- the runs of so many rows, all done, give what all rows give
joined_runs : {E : Type 0} (m : List ℕ → Picked) (f : ℕ → List Picked) (size count : ℕ) (rs : List (Result PickedList E)) (d : Result PickedList E) → 0 < size → length rs ≡ count / size + min 1 (count % size)
    → ((n : ℕ) (d : Result PickedList E) → n < length rs → IfOk (slice_index_or rs n d) (λ (p : PickedList). map m p.rows ≡ flat_map f (range_with_len (n * size) (min size (count - n * size)))))
    → All IsOk rs → map m (flat_map run_rows rs) ≡ flat_map f (range_with_len 0 count)
joined_runs {E} m f size count rs d small len each done =
    rows_of m rs
    ∙ parts-flat_map f (λ (r : Result PickedList E). map m (run_rows r)) size (range_with_len 0 count) rs d
    (λ n lt. done_run m (get_or rs n d) (flat_map f (slice_chunk (range_with_len 0 count) size n)) (done n d lt)
    (subst (λ (l : List ℕ). IfOk (get_or rs n d) (λ (p : PickedList). map m p.rows ≡ flat_map f l))
    (sym (numbers_run 0 count size (n * size) ∙ (let e : 0 + n * size ≡ n * size = omega arith in ap (λ (s : ℕ). range_with_len s (min size (count - n * size))) e))) (each n d lt)))
    (subst (λ (k : ℕ). k ≤ length rs * size) (sym (length-range_with_len 0 count)) (subst (λ (k : ℕ). count ≤ k * size) (sym len) (chunks_cover size count small)))

abbrev list_of : ℕ → List (List ℕ) → PickedList
list_of width rows = record { width = width; rows = rows }

run_of : {E : Type 0} (s : SourceList) (c : BoundCore) (relation start count : ℕ) (r : Result PickedList E) → IfOk r (λ (p : PickedList). IsRun s c relation start count p)
    → IfOk r (λ (p : PickedList). all_picked s p ≡ flat_map (row_gives s.relations c relation) (range_with_len start count))
run_of s c relation start count (Ok p) h = h.1
run_of s c relation start count (Err e) h = tt

-- put together they are what all rows give
pub together_all : {E : Type 0} (s : SourceList) (c : BoundCore) (relation size count width rows : ℕ) (rs rs' : List (Result PickedList E)) (d r : Result PickedList E) → 0 < size → length rs ≡ count / size + min 1 (count % size)
    → ((n : ℕ) (d : Result PickedList E) → n < length rs → IfOk (slice_index_or rs n d) (λ (p : PickedList). IsRun s c relation (n * size) (min size (count - n * size)) p))
    → rs' ≡ rs → count ≡ rows → IfOk r (λ (p : PickedList). p ≡ record { width = width; rows = flat_map run_rows rs' }) → OnOk r (All IsOk rs')
    → IfOk r (λ (p : PickedList). all_picked s p ≡ flat_map (row_gives s.relations c relation) (range_with_len 0 rows))
together_all s c relation size count width rows rs rs' d (Err e) small len each same all is done = tt
together_all {E} s c relation size count width rows rs rs' d (Ok p) small len each same all is done =
    ap (all_picked s) is ∙ ap (λ (l : List (Result PickedList E)). all_picked s (list_of width (flat_map run_rows l))) same
    ∙ joined_runs (picked s) (row_gives s.relations c relation) size count rs d small len
    (λ n e lt. run_of s c relation (n * size) (min size (count - n * size)) (slice_index_or rs n e) (each n e lt)) (subst (λ (l : List (Result PickedList E)). All IsOk l) same done)
    ∙ ap (λ (n : ℕ). flat_map (row_gives s.relations c relation) (range_with_len 0 n)) all

module _ {E : Type 0} (runs : List (Result PickedList E)) (at : ℕ) (run : Result PickedList E) (rows : PickedList) (lt : at < length runs) (here : run ≡ get_or runs at run) (is : run ≡ Ok rows) where
  taken : take (at + 1) runs ≡ take at runs ++ Ok rows ∷ []
  taken = take_more runs at run lt ∙ ap (λ (r : Result PickedList E). take at runs ++ r ∷ []) (sym here ∙ is)

  -- one run more
  pub together_more : (width : ℕ) (all new : PickedList) → all ≡ record { width = width; rows = flat_map run_rows (take at runs) } → new ≡ record { width = all.width; rows = all.rows ++ rows.rows }
      → new ≡ record { width = width; rows = flat_map run_rows (take (at + 1) runs) }
  together_more width all new was more =
      more ∙ ap (λ (l : PickedList). list_of l.width (l.rows ++ rows.rows)) was
      ∙ ap (list_of width) (ap (λ (l : List (List ℕ)). flat_map run_rows (take at runs) ++ l) (sym (append-nil rows.rows))
      ∙ sym (ap (flat_map run_rows) taken ∙ flat_map-append run_rows (take at runs) (Ok rows ∷ [])))

  pub done_more : All IsOk (take at runs) → All IsOk (take (at + 1) runs)
  done_more h = subst (λ (l : List (Result PickedList E)). All IsOk l) (sym taken) (All-append IsOk (take at runs) (Ok rows ∷ []) h (All-from_recursion IsOk (Ok rows ∷ []) (refl, tt)))

-- one row of FROM more
pub first_more : (start row : ℕ) (rows new : PickedList) → start ≤ row → rows ≡ record { width = 1; rows = map one_number (range_with_len start (row - start)) }
    → new ≡ record { width = rows.width; rows = rows.rows ++ (row ∷ []) ∷ [] } → new ≡ record { width = 1; rows = map one_number (range_with_len start (row + 1 - start)) }
first_more start row rows new le was more =
    let count : row + 1 - start ≡ row - start + 1 = omega (arith, le) in
    let last : start + (row - start) ≡ row = omega (arith, le) in
    more ∙ ap (λ (l : PickedList). list_of l.width (l.rows ++ (row ∷ []) ∷ [])) was
    ∙ ap (list_of 1) (sym (ap (λ (n : ℕ). map one_number (range_with_len start n)) count ∙ map-range_with_len_more one_number start (row - start) row last))
