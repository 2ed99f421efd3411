-- Where a text is cut: before a first stop.
use Rattle.std.proofs.Common.{◌≡◌, ◌⊎◌, inl, inr, ℕ, ◌+◌, ◌-◌, ◌<◌, ◌≤◌, Bool, true, false, eqb, List, [], ◌∷◌, ◌++◌, length, get_or, take, drop, refl, sym, ap, ◌∙◌, arith}
use Rattle.std.specs.Prelude.{None}
use Rattle.std.specs.Cmp.{first_so, second_so}
use Rattle.std.specs.List.{prefix_len, list_all}
use Rattle.std.proofs.Math.Numerals.{one-add, add-one}
use Rattle.std.proofs.Math.Seq.{drop-cons, take-length}
use Rattle.std.proofs.lemmas.Bool.{cases_Bool, not-true, not-false, eqb-true}
use Rattle.std.proofs.lemmas.Grind.{common_steps}
use Rattle.std.proofs.lemmas.List.{take-append-drop}
use Rattle.std.proofs.lemmas.List.Sums.{prefix_len_stops, prefix_len-le-length}
use Rattle.table_meaning.specs.CellText.{ended}
use Rattle.table_text_meaning.specs.TableText.{lines_of}
use Rattle.table_text.specs.Reading.{is_other, fields_of, cells_of}

pub front_passes : (p : ℕ → Bool) (xs : List ℕ) → list_all p (take (prefix_len p xs) xs) ≡ true
front_passes p [] = refl
front_passes p (x ∷ xs) = go (cases_Bool (p x)) (front_passes p xs)
  where
    go : (p x ≡ true) ⊎ (p x ≡ false) → list_all p (take (prefix_len p xs) xs) ≡ true → list_all p (take (prefix_len p (x ∷ xs)) (x ∷ xs)) ≡ true
    go (inl e) ih = rw (e, one-add, e) ih
    go (inr e) ih = rw e refl

-- the stop stands behind its front
pub cut_at : (stop : ℕ) (bytes : List ℕ) (len : ℕ) → len ≡ prefix_len (is_other stop) bytes → len < length bytes → bytes ≡ take len bytes ++ stop ∷ drop (len + 1) bytes
cut_at stop bytes len e lt =
    let passes : is_other stop (get_or bytes len 0) ≡ false = rw e (prefix_len_stops (is_other stop) bytes 0 (rw e at lt)) in
    let here : get_or bytes len 0 ≡ stop = eqb-true _ _ (not-false _ passes) in
    sym (take-append-drop len bytes) ∙ ap (λ (t : List ℕ). take len bytes ++ t) (drop-cons bytes len 0 lt ∙ rw (here, add-one) refl)

pub cut_front : (stop : ℕ) (bytes : List ℕ) (len : ℕ) → len ≡ prefix_len (is_other stop) bytes → list_all (is_other stop) (take len bytes) ≡ true
cut_front stop bytes len e = rw e (front_passes (is_other stop) bytes)

-- no stop
pub uncut : (stop : ℕ) (bytes : List ℕ) (len : ℕ) → len ≡ prefix_len (is_other stop) bytes → length bytes ≤ len → list_all (is_other stop) bytes ≡ true
uncut stop bytes len e le =
    let whole : len ≡ length bytes = omega (arith, prefix_len-le-length (is_other stop) bytes) in
    let front : list_all (is_other stop) (take (length bytes) bytes) ≡ true = rw (← whole) (cut_front stop bytes len e) in
    rw (take-length bytes) at front

-- the part from a place on, as it is taken
pub rest_from : (k : ℕ) (bytes : List ℕ) → take (length bytes - k) (drop k bytes) ≡ drop k bytes
rest_from k bytes = grind (arith, common_steps)

pub fields_of-before : (field rest : List ℕ) → list_all (is_other 9) field ≡ true → fields_of (field ++ 9 ∷ rest) ≡ field ∷ fields_of rest
fields_of-before [] rest h = refl
fields_of-before (b ∷ bs) rest h =
    let e : eqb b 9 ≡ false = not-true _ (first_so _ _ h) in
    rw (e, fields_of-before bs rest (second_so (is_other 9 b) _ h)) refl

pub fields_of-alone : (field : List ℕ) → list_all (is_other 9) field ≡ true → fields_of field ≡ field ∷ []
fields_of-alone [] h = refl
fields_of-alone (b ∷ bs) h =
    let e : eqb b 9 ≡ false = not-true _ (first_so _ _ h) in
    rw (e, fields_of-alone bs (second_so (is_other 9 b) _ h)) refl

pub lines_of-ended : (line rest : List ℕ) → list_all (is_other 10) line ≡ true → lines_of (ended line ++ rest) ≡ line ∷ lines_of rest
lines_of-ended [] rest h = refl
lines_of-ended (b ∷ bs) rest h =
    let e : eqb b 10 ≡ false = not-true _ (first_so _ _ h) in
    rw (e, lines_of-ended bs rest (second_so (is_other 10 b) _ h)) refl

pub lines_of-none : (bytes : List ℕ) → list_all (is_other 10) bytes ≡ true → lines_of bytes ≡ []
lines_of-none [] h = refl
lines_of-none (b ∷ bs) h =
    let e : eqb b 10 ≡ false = not-true _ (first_so _ _ h) in
    rw (e, lines_of-none bs (second_so (is_other 10 b) _ h)) refl

-- there is always a field
pub no_columns : (line : List ℕ) → cells_of [] (fields_of line) ≡ None
no_columns [] = refl
no_columns (b ∷ bs) = go (cases_Bool (eqb b 9)) (fields_of bs) refl (no_columns bs)
  where
    go : (eqb b 9 ≡ true) ⊎ (eqb b 9 ≡ false) → (fs : List (List ℕ)) → fields_of bs ≡ fs → cells_of [] (fields_of bs) ≡ None → cells_of [] (fields_of (b ∷ bs)) ≡ None
    go (inl e) fs is ih = rw e refl
    go (inr e) [] is ih = let none : cells_of [] [] ≡ None = rw is at ih in cc
    go (inr e) (f ∷ fs) is ih = rw (e, is) refl
