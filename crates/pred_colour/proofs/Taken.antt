-- A predicate takes its turn, after those before it in an order.
use Rattle.std.proofs.Common.{◌≡◌, ◌<◌, ◌+◌, ℕ, suc, List, [], ◌∷◌, ◌++◌, Option, Some, None, take, drop, get_or, length, sym, ap, ◌∙◌, arith, subst}
use Rattle.std.specs.List.Sorted.{IsStrictlySortedBy}
use Rattle.std.proofs.Math.Seq.{take-suc, drop-cons}
use Rattle.std.proofs.lemmas.List.{take-append-drop, get_or_default}
use Rattle.pred_colour_meaning.specs.Interference.{Graph}
use Rattle.pred_colour_meaning.specs.Colouring.{rank, column_of, is_seen, IsLeastFree, AreColours}
use Rattle.pred_colour_meaning.proofs.Ranks.{front_before}
use Rattle.pred_colour_meaning.proofs.Steps.{ComesAfter, fresh, stays, takes}

here : (order : List ℕ) (i p : ℕ) → i < length order → p ≡ get_or order i p → order ≡ take i order ++ p ∷ drop (suc i) order
here order i p l e =
    sym (take-append-drop i order) ∙ ap (λ (ys : List ℕ). take i order ++ ys) (drop-cons order i p l ∙ ap (λ (q : ℕ). q ∷ drop (suc i) order) (sym e))

next : (order : List ℕ) (i p : ℕ) → i < length order → p ≡ get_or order i p → take (i + 1) order ≡ take i order ++ p ∷ []
next order i p l e =
    ap (λ (n : ℕ). take n order) (let s : i + 1 ≡ suc i = omega arith in s) ∙ take-suc order i p l ∙ ap (λ (q : ℕ). take i order ++ q ∷ []) (sym e)

comes_after : (g : Graph) (order : List ℕ) (i p : ℕ) → i < length order → p ≡ get_or order i p → IsStrictlySortedBy (rank g) order → ComesAfter g p (take i order)
comes_after g order i p l e s = front_before (rank g) (take i order) p (drop (suc i) order) (subst (IsStrictlySortedBy (rank g)) (here order i p l e) s)

pub no_turn : (g : Graph) (k : ℕ) (order : List ℕ) (i p : ℕ) (xs : List (ℕ × ℕ)) (o : Option ℕ) → i < length order → p ≡ get_or order i p → IsStrictlySortedBy (rank g) order → AreColours g k (take i order) xs
    → IsLeastFree (is_seen g xs p) k o → o ≡ None → AreColours g k (take (i + 1) order) xs
no_turn g k order i p xs o l e s a free is =
    rw (next order i p l e) (stays g k (take i order) p xs (comes_after g order i p l e s) a (subst (IsLeastFree (is_seen g xs p) k) is free))

pub a_turn : (g : Graph) (k : ℕ) (order : List ℕ) (i p c : ℕ) (xs ys : List (ℕ × ℕ)) (o : Option ℕ) → i < length order → p ≡ get_or order i p → IsStrictlySortedBy (rank g) order → AreColours g k (take i order) xs
    → IsLeastFree (is_seen g xs p) k o → o ≡ Some c → ys ≡ xs ++ (p, c) ∷ [] → AreColours g k (take (i + 1) order) ys
a_turn g k order i p c xs ys o l e s a free is made =
    rw (next order i p l e, made) (takes g k (take i order) p c xs (comes_after g order i p l e s) a (subst (IsLeastFree (is_seen g xs p) k) is free))

pub unseen : (g : Graph) (k : ℕ) (order : List ℕ) (i p : ℕ) (xs : List (ℕ × ℕ)) → i < length order → p ≡ get_or order i p → IsStrictlySortedBy (rank g) order → AreColours g k (take i order) xs → column_of xs p ≡ None
unseen g k order i p xs l e s a = fresh g k (take i order) p xs (comes_after g order i p l e s) a

pub at_place : (order : List ℕ) (i : ℕ) → i < length order → get_or order i 0 ≡ get_or order i (get_or order i 0)
at_place order i l = get_or_default order i 0 (get_or order i 0) l
