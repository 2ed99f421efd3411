-- Each graph has a colouring.
use Rattle.std.proofs.Common.{◌≡◌, ◌<◌, ℕ, zero, suc, nat_eq, Bool, true, false, List, [], ◌∷◌, ◌++◌, Option, Some, None, Less, Equal, refl, sym, ◌∙◌, arith, subst, append-nil, append_assoc}
use Rattle.std.specs.List.Sorted.{IsStrictlySortedBy}
use Rattle.std.specs.Ordering.{nat_cmp}
use Rattle.std.specs.Map.{keys_of}
use Rattle.bags.specs.Sort.{sort}
use Rattle.bags.specs.BagLaws.{each-weaker}
use Rattle.pred_colour_meaning.specs.Interference.{Graph, has}
use Rattle.pred_colour_meaning.specs.Colouring.{rank, is_seen, IsLeastFree, AreColours, IsColouring}
use Rattle.pred_colour_meaning.proofs.Ranks.{rank_total, tied, front_before, AreApart, strict-sort, any-sort}
use Rattle.pred_colour_meaning.proofs.Steps.{ComesAfter, stays, takes}

some_least : (t : ℕ → Bool) (k : ℕ) → (o : Option ℕ) × IsLeastFree t k o
some_least t zero = (None, λ c l. absurd (omega arith))
some_least t (suc k) = let s = some_least t k in by s.0 s.1 (t k) refl
  where
    all : ((c : ℕ) → c < k → t c ≡ true) → t k ≡ true → (c : ℕ) → c < suc k → t c ≡ true
    all h e c l = at (nat_eq c k) refl
      where
        at : (b : Bool) → nat_eq c k ≡ b → t c ≡ true
        at true s = let i : c ≡ k = grind arith in rw i e
        at false s = h c (grind arith)

    by : (o : Option ℕ) → IsLeastFree t k o → (b : Bool) → t k ≡ b → (o : Option ℕ) × IsLeastFree t (suc k) o
    by None h true e = (None, all h e)
    by None h false e = (Some k, (omega arith, e, h))
    by (Some c) h b e = let l : c < k = h.0 in (Some c, (omega arith, h.1, h.2))

turn : (g : Graph) (k : ℕ) (before : List ℕ) (p : ℕ) (xs : List (ℕ × ℕ)) → ComesAfter g p before → AreColours g k before xs → (o : Option ℕ) → IsLeastFree (is_seen g xs p) k o
    → (ys : List (ℕ × ℕ)) × AreColours g k (before ++ p ∷ []) ys
turn g k before p xs after a None free = (xs, stays g k before p xs after a free)
turn g k before p xs after a (Some c) free = (xs ++ (p, c) ∷ [], takes g k before p c xs after a free)

colour_all : (g : Graph) (k : ℕ) (before ps : List ℕ) (xs : List (ℕ × ℕ)) → AreColours g k before xs → IsStrictlySortedBy (rank g) (before ++ ps) → (ys : List (ℕ × ℕ)) × AreColours g k (before ++ ps) ys
colour_all g k before [] xs a s = (xs, subst (λ (l : List ℕ). AreColours g k l xs) (sym (append-nil before)) a)
colour_all g k before (p ∷ ps) xs a s =
    let free = some_least (is_seen g xs p) k in
    let next = turn g k before p xs (front_before (rank g) before p ps s) a free.0 free.1 in
    let e : (before ++ p ∷ []) ++ ps ≡ before ++ p ∷ ps = append_assoc before (p ∷ []) ps in
    let rest = colour_all g k (before ++ p ∷ []) ps next.0 next.1 (subst (IsStrictlySortedBy (rank g)) (sym e) s) in
    (rest.0, subst (λ (l : List ℕ). AreColours g k l rest.0) e rest.1)

pub no_colours : (g : Graph) (k : ℕ) → AreColours g k [] []
unfolding IsStrictlySortedBy
no_colours g k = record { ordered = tt; among = tt; least = λ p h. cc }

-- only which predicates there are counts
pub among_same : (g : Graph) (k : ℕ) (order preds : List ℕ) (xs : List (ℕ × ℕ)) → ((p : ℕ) → has p order ≡ has p preds) → AreColours g k order xs → AreColours g k preds xs
among_same g k order preds xs e a = record {
  ordered = a.ordered;
  among = each-weaker (λ p. has p order ≡ true) (λ p. has p preds ≡ true) (λ p h. sym (e p) ∙ h) (keys_of xs) a.among;
  least = λ p h. a.least p (e p ∙ h);
}

apart-rising : (g : Graph) (xs : List ℕ) → IsStrictlySortedBy nat_cmp xs → AreApart (rank g) xs
unfolding IsStrictlySortedBy
apart-rising g [] s = tt
apart-rising g (x ∷ xs) s = (each-weaker (λ y. nat_cmp x y ≡ Less) (λ y. rank g x y ≡ Equal → ⊥) (λ y l e. differ x y l (tied g x y e)) xs s.0, apart-rising g xs s.1)
  where
    differ : (x y : ℕ) → nat_cmp x y ≡ Less → x ≡ y → ⊥
    differ x y l e = grind arith

-- the predicates of a graph in the order of their turns
pub order_strict : (g : Graph) → IsStrictlySortedBy nat_cmp (keys_of g) → IsStrictlySortedBy (rank g) (sort (rank g) (keys_of g))
order_strict g s = strict-sort (rank_total g) (keys_of g) (apart-rising g (keys_of g) s)

pub some_colouring : (g : Graph) (k : ℕ) → IsStrictlySortedBy nat_cmp (keys_of g) → (colours : List (ℕ × ℕ)) × IsColouring g k colours
some_colouring g k s =
    let order = sort (rank g) (keys_of g) in
    let all = colour_all g k [] order [] (no_colours g k) (order_strict g s) in
    (all.0, among_same g k order (keys_of g) all.0 (λ p. any-sort (rank g) (nat_eq p) (keys_of g)) all.1)
