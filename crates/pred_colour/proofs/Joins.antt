-- Predicates that are joined, row by row.
use Rattle.std.proofs.Common.{◌≡◌, ◌<◌, ℕ, nat_eq, not, ◌&&◌, ◌||◌, Bool, true, false, List, [], ◌∷◌, map, get_or, length, refl, sym, ap, ap₂, ◌∙◌, arith}
use Rattle.std.specs.List.{list_any}
use Rattle.std.specs.List.Sorted.{IsStrictlySortedBy}
use Rattle.std.specs.Ordering.{nat_cmp}
use Rattle.std.proofs.lemmas.Bool.{or_parts}
use Rattle.std.proofs.lemmas.List.Folds.{list_any_at}
use Rattle.pred_colour_meaning.specs.Interference.{has, interfere}
use Rattle.pred_colour.specs.Entities.{are_joined}
use Rattle.pred_colour.specs.GraphRows.{pred_at, stands_in, is_other, AreBelow}
use Rattle.pred_colour.proofs.Members.{tests_of_both_if}
use Rattle.pred_colour.proofs.Found.{has_place}

pub and_false : (b : Bool) → (b && false) ≡ false
and_false true = refl
and_false false = refl

pub any-map : {X Y : Type 0} (t : Y → Bool) (f : X → Y) (xs : List X) → list_any t (map f xs) ≡ list_any (λ x. t (f x)) xs
any-map t f [] = refl
any-map t f (x ∷ xs) = ap (λ (b : Bool). t (f x) || b) (any-map t f xs)

pub any_at : {X Y : Type 0} (t : Y → Bool) (f : X → Y) (xs : List X) (i : ℕ) (d : X) → i < length xs → t (f (get_or xs i d)) ≡ true → list_any t (map f xs) ≡ true
any_at t f xs i d l h = any-map t f xs ∙ list_any_at (λ x. t (f x)) xs i d l h

-- together they are those that interfere
pub interfering : (p q : ℕ) (entities : List (List ℕ)) → list_any (are_joined p q) entities ≡ interfere entities p q
interfering p q entities = by (not (nat_eq q p))
  where
    test : Bool → List ℕ → Bool
    test n preds = has p preds && (n && has q preds)

    none : (preds : List (List ℕ)) → list_any (test false) preds ≡ false
    none [] = refl
    none (x ∷ xs) = first (has p x) ∙ none xs
      where
        first : (b : Bool) → ((b && false) || list_any (test false) xs) ≡ list_any (test false) xs
        first true = refl
        first false = refl

    by : (n : Bool) → list_any (test n) entities ≡ (n && list_any (λ preds. has p preds && has q preds) entities)
    by true = refl
    by false = none entities

-- what no entity has is joined with nothing
pub none_joined : (p q : ℕ) (entities : List (List ℕ)) → list_any (has p) entities ≡ false → list_any (are_joined p q) entities ≡ false
none_joined p q [] h = refl
none_joined p q (x ∷ xs) h =
    let e = or_parts (has p x) (list_any (has p) xs) h in
    ap₂ (λ (a b : Bool). (a && (not (nat_eq q p) && has q x)) || b) e.0 (none_joined p q xs e.1)

-- an entity of one predicate joins nothing
pub few_joined : (p q : ℕ) (preds : List ℕ) → length preds < 2 → are_joined p q preds ≡ false
few_joined p q [] l = refl
few_joined p q (x ∷ []) l = by (nat_eq p x) refl (nat_eq q x) refl
  where
    by : (a : Bool) → nat_eq p x ≡ a → (b : Bool) → nat_eq q x ≡ b → ((a || false) && (not (nat_eq q p) && (b || false))) ≡ false
    by true h true k = let e : nat_eq q p ≡ true = grind arith in rw e refl
    by true h false k = and_false (not (nat_eq q p))
    by false h b k = refl
few_joined p q (x ∷ y ∷ ys) l = absurd (omega arith)

joins_more : (t s a c : Bool) → (t && (s || (a && c))) ≡ ((t && s) || (a && (t && c)))
joins_more true s a c = refl
joins_more false s a c = sym (and_false a)

-- a row into which the places of an entity's predicates went, if its own place is among them
pub row_joined : (all old new set places preds : List ℕ) (i q : ℕ) → IsStrictlySortedBy nat_cmp all → i < length all → AreBelow (length all) set → places ≡ set
    → ((r : ℕ) → stands_in all set r ≡ has r preds) → ((n : ℕ) → has n new ≡ (has n old || (has i places && has n set)))
    → is_other all new (pred_at all i) q ≡ (is_other all old (pred_at all i) q || are_joined (pred_at all i) q preds)
row_joined all old new set places preds i q s l b e stand h =
    let p = pred_at all i in
    ap (λ (x : Bool). not (nat_eq q p) && x) (tests_of_both_if (λ j. nat_eq q (pred_at all j)) new old set (has i places) h)
    ∙ joins_more (not (nat_eq q p)) (stands_in all old q) (has i places) (stands_in all set q)
    ∙ ap₂ (λ (a c : Bool). is_other all old p q || (a && (not (nat_eq q p) && c))) (ap (has i) e ∙ has_place all set i s l b ∙ stand p) (stand q)
