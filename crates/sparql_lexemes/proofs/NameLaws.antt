-- Names in a set, in order of their first places.
use Rattle.std.proofs.Common.{ℕ, ◌≡◌, ◌+◌, ◌≤◌, ◌<◌, suc, Bool, true, false, List, [], ◌∷◌, ◌++◌, length, Some, None, refl, sym, ap, ◌∙◌, arith, if◌then◌else◌, take, slice_get}
use Rattle.std.proofs.Math.Seq.{take-suc}
use Rattle.std.proofs.lemmas.Option.{slice_get_within, get_or_from_slice_get}
use Rattle.std.proofs.lemmas.List.Recursion.{is_position_or_len}
use Rattle.std.specs.List.{position, position_or_len}
use Rattle.std.specs.Str.{bytes_eq}
use Rattle.std.specs.Cmp.Lexicographic.{nat_list_eq_equiv}
use Rattle.sparql_query_meaning.specs.Lexemes.{place_of}

place_is : (n : List ℕ) (xs : List (List ℕ)) → place_of xs n ≡ position_or_len (bytes_eq n) xs
place_is n xs = is_position_or_len (λ ys. place_of ys n) (bytes_eq n) refl (λ y ys. ap (λ (b : Bool). if b then 0 else 1 + place_of ys n) (nat_list_eq_equiv.symm y n)) xs

place_within : (n : List ℕ) (xs : List (List ℕ)) → place_of xs n ≤ length xs
place_within n [] = omega arith
place_within n (x ∷ xs) = let h = place_within n xs in by (bytes_eq x n) h
  where
    by : (b : Bool) → place_of xs n ≤ length xs → (if b then 0 else 1 + place_of xs n) ≤ suc (length xs)
    by true h = omega arith
    by false h = omega arith

pub place_found : (n : List ℕ) (xs : List (List ℕ)) (i : ℕ) → Some i ≡ position (bytes_eq n) xs → i ≡ place_of xs n
place_found n xs i h = grind (arith, h, place_is n xs)

pub place_missed : (n : List ℕ) (xs : List (List ℕ)) → None ≡ position (bytes_eq n) xs → length xs ≡ place_of xs n
place_missed n xs h = grind (arith, h, place_is n xs, place_within n xs)

pub text_more : (all texts new : List (List ℕ)) (i : ℕ) (x : List ℕ) → slice_get all i ≡ Some x → texts ≡ take i all → new ≡ texts ++ x ∷ [] → new ≡ take (i + 1) all
text_more all texts new i x h was e =
    let within : i < length all = slice_get_within all i x h in
    let n : suc i ≡ i + 1 = omega arith in
    e ∙ ap (λ (l : List (List ℕ)). l ++ x ∷ []) was ∙ ap (λ (q : List ℕ). take i all ++ q ∷ []) (sym (get_or_from_slice_get all i x x h)) ∙ sym (take-suc all i x within) ∙ ap (λ (m : ℕ). take m all) n
