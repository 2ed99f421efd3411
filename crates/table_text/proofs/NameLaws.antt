-- Names are ASCII; a list of names that goes on.
use Rattle.std.proofs.Common.{◌≡◌, ◌⊎◌, inl, inr, ℕ, zero, suc, ◌+◌, ◌<◌, ◌≤◌, Bool, true, false, ◌||◌, eqb, List, [], ◌∷◌, ◌++◌, length, get_or, take, drop, refl, sym, ap, ◌∙◌, arith}
use Rattle.std.specs.Prelude.{nat_le}
use Rattle.std.specs.Cmp.{first_so, second_so}
use Rattle.std.specs.List.{list_all, list_any}
use Rattle.std.specs.Str.{IsAscii, IsUtf8, bytes_eq}
use Rattle.std.proofs.Math.Seq.{drop-cons}
use Rattle.std.proofs.lemmas.Bool.{or_cases, leb-true, eqb-true, not_from_true, and_left, and_right}
use Rattle.std.proofs.lemmas.List.{take_more, map-append, take-append-drop}
use Rattle.std.proofs.lemmas.List.Folds.{list_any-append}
use Rattle.std.proofs.lemmas.Slice.Eq.{bytes_eq-Decides}
use Rattle.std.proofs.lemmas.Str.{IsUtf8-from_ascii}
use Rattle.rdf_meaning.specs.Characters.{is_letter, is_digit, is_small_letter, is_between}
use Rattle.table_meaning.specs.declared.schema.Column.{Column}
use Rattle.table_meaning.specs.Names.{is_name, is_name_byte, begins_with_letter}
use Rattle.table_meaning.specs.Schemas.{are_distinct, column_name, column_names}

at_most : (low high b : ℕ) → is_between low high b ≡ true → b ≤ high
at_most low high b h = leb-true b high (second_so (nat_le low b) _ h)

letter_small : (b : ℕ) → is_letter b ≡ true → b < 128
letter_small b h = by (or_cases (is_between 65 90 b) (is_small_letter b) h)
  where
    by : (is_between 65 90 b ≡ true) ⊎ (is_small_letter b ≡ true) → b < 128
    by (inl e) = omega (arith, at_most 65 90 b e)
    by (inr e) = omega (arith, at_most 97 122 b e)

pub name_byte_small : (b : ℕ) → is_name_byte b ≡ true → b < 128
name_byte_small b h = by (or_cases (is_letter b || is_digit b) _ h)
  where
    part : (is_letter b ≡ true) ⊎ (is_digit b ≡ true) → b < 128
    part (inl e) = letter_small b e
    part (inr e) = omega (arith, at_most 48 57 b e)

    by : ((is_letter b || is_digit b) ≡ true) ⊎ (eqb b 95 ≡ true) → b < 128
    by (inl e) = part (or_cases (is_letter b) (is_digit b) e)
    by (inr e) = omega (arith, eqb-true b 95 e)

ascii_name : (bs : List ℕ) → list_all is_name_byte bs ≡ true → IsAscii bs
ascii_name [] h i = omega arith
ascii_name (b ∷ bs) h zero = name_byte_small b (first_so _ _ h)
ascii_name (b ∷ bs) h (suc i) = ascii_name bs (second_so (is_name_byte b) _ h) i

pub name_bytes : (bs : List ℕ) → is_name bs ≡ true → list_all is_name_byte bs ≡ true
unfolding is_name
name_bytes bs h = first_so _ _ (second_so (begins_with_letter bs) _ h)

pub IsUtf8-name : (bs : List ℕ) → is_name bs ≡ true → IsUtf8 bs
IsUtf8-name bs h = IsUtf8-from_ascii bs (ascii_name bs (name_bytes bs h))

pub names_more : (columns : List Column) (i : ℕ) (x : Column) → i < length columns → x ≡ get_or columns i x → column_names (take (i + 1) columns) ≡ column_names (take i columns) ++ x.name ∷ []
names_more columns i x inside is =
    let more : take (i + 1) columns ≡ take i columns ++ x ∷ [] = take_more columns i x inside ∙ ap (λ (y : Column). take i columns ++ y ∷ []) (sym is) in
    ap column_names more ∙ map-append column_name (take i columns) (x ∷ [])

or_true : (b : Bool) → (b || true) ≡ true
or_true true = refl
or_true false = refl

found : (x n : List ℕ) (zs ys : List (List ℕ)) → bytes_eq n x ≡ true → list_any (bytes_eq x) (zs ++ n ∷ ys) ≡ true
found x n zs ys e =
    let same : bytes_eq x n ≡ true = (bytes_eq-Decides x n).1 (sym ((bytes_eq-Decides n x).0 e)) in
    list_any-append (bytes_eq x) zs (n ∷ ys) ∙ rw same (or_true (list_any (bytes_eq x) zs))

pub repeated : (xs ys : List (List ℕ)) (n : List ℕ) → list_any (bytes_eq n) xs ≡ true → are_distinct (xs ++ n ∷ ys) ≡ false
repeated [] ys n h = cc
repeated (x ∷ xs) ys n h = by (or_cases (bytes_eq n x) (list_any (bytes_eq n) xs) h) (repeated xs ys n)
  where
    by : (bytes_eq n x ≡ true) ⊎ (list_any (bytes_eq n) xs ≡ true) → (list_any (bytes_eq n) xs ≡ true → are_distinct (xs ++ n ∷ ys) ≡ false) → are_distinct ((x ∷ xs) ++ n ∷ ys) ≡ false
    by (inl e) ih = and_left _ _ (not_from_true _ (found x n xs ys e))
    by (inr e) ih = and_right _ _ (ih e)

-- a name that came before
pub names_repeat : (columns : List Column) (i : ℕ) (x : Column) (names : List (List ℕ)) → i < length columns → x ≡ get_or columns i x → names ≡ column_names (take i columns)
    → list_any (bytes_eq x.name) names ≡ true → are_distinct (column_names columns) ≡ false
names_repeat columns i x names inside is was h =
    let split : columns ≡ take i columns ++ x ∷ drop (suc i) columns =
    sym (take-append-drop i columns) ∙ ap (λ (t : List Column). take i columns ++ t) (drop-cons columns i x inside ∙ ap (λ (y : Column). y ∷ drop (suc i) columns) (sym is)) in
    let h' : list_any (bytes_eq x.name) (column_names (take i columns)) ≡ true = rw was at h in
    ap are_distinct (ap column_names split ∙ map-append column_name (take i columns) (x ∷ drop (suc i) columns))
    ∙ repeated (column_names (take i columns)) (column_names (drop (suc i) columns)) x.name h'
