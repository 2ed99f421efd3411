-- Graphs that are the interference of the same entities have the same colourings.
use Rattle.std.proofs.Common.{◌≡◌, ℕ, nat_eq, ◌&&◌, ◌||◌, Bool, true, false, List, [], ◌∷◌, Less, refl, sym, ap, ap₂, ◌∙◌, arith, subst}
use Rattle.std.specs.List.{list_any}
use Rattle.std.specs.List.Sorted.{IsStrictlySortedBy}
use Rattle.std.specs.declared.cmp.Ordering.{Ordering}
use Rattle.std.specs.Ordering.{nat_cmp, ordering_then, is_lt}
use Rattle.std.specs.Map.{keys_of}
use Rattle.std.proofs.lemmas.Bool.{or_right}
use Rattle.std.proofs.lemmas.Cmp.{nat_eq_equiv}
use Rattle.std.proofs.lemmas.Map.Made.{length-from_same_keys}
use Rattle.bags.specs.BagLaws.{each-weaker}
use Rattle.pred_colour_meaning.specs.Interference.{Graph, IsInterference, has, neighbours_of}
use Rattle.pred_colour_meaning.specs.Colouring.{degree, rank, column_of, is_column, is_taken, IsColouring}
use Rattle.pred_colour_meaning.proofs.Steps.{any-same, same_number, least-same}
use Rattle.pred_colour_meaning.proofs.Unique.{same_colouring}

-- ---- one test over lists with the same numbers

any_at : (t : ℕ → Bool) (xs : List ℕ) (q : ℕ) → has q xs ≡ true → t q ≡ true → list_any t xs ≡ true
any_at t [] q h e = cc
any_at t (x ∷ xs) q h e = by (any_at t xs q) (nat_eq q x) refl h
  where
    by : (has q xs ≡ true → t q ≡ true → list_any t xs ≡ true) → (b : Bool) → nat_eq q x ≡ b → (b || has q xs) ≡ true → (t x || list_any t xs) ≡ true
    by ih true s h = rw (subst (λ (r : ℕ). t r ≡ true) (same_number q x s) e) refl
    by ih false s h = or_right (t x) (list_any t xs) (ih h e)

any_within : (t : ℕ → Bool) (xs ys : List ℕ) → ((q : ℕ) → has q xs ≡ true → has q ys ≡ true) → list_any t xs ≡ true → list_any t ys ≡ true
any_within t [] ys m h = cc
any_within t (x ∷ xs) ys m h = by (any_within t xs ys) (t x) refl h
  where
    self : (n : ℕ) → nat_eq n n ≡ true
    self n = grind arith

    head : has x (x ∷ xs) ≡ true
    head = rw (self x) refl

    tail : (q : ℕ) → has q xs ≡ true → has q ys ≡ true
    tail q k = m q (or_right (nat_eq q x) (has q xs) k)

    by : (((q : ℕ) → has q xs ≡ true → has q ys ≡ true) → list_any t xs ≡ true → list_any t ys ≡ true) → (b : Bool) → t x ≡ b → (b || list_any t xs) ≡ true → list_any t ys ≡ true
    by ih true e h = any_at t ys x (m x head) e
    by ih false e h = ih tail h

any-members : (t : ℕ → Bool) (xs ys : List ℕ) → ((q : ℕ) → has q xs ≡ has q ys) → list_any t xs ≡ list_any t ys
any-members t xs ys m = by (list_any t xs) (list_any t ys) refl refl
  where
    by : (a b : Bool) → list_any t xs ≡ a → list_any t ys ≡ b → a ≡ b
    by true b e f = sym (any_within t xs ys (λ q k. sym (m q) ∙ k) e) ∙ f
    by false true e f = sym e ∙ any_within t ys xs (λ q k. m q ∙ k) f
    by false false e f = refl

-- ---- two graphs of the same entities

pub same_members : (entities : List (List ℕ)) (g h : Graph) → IsInterference entities g → IsInterference entities h → (p q : ℕ) → has q (neighbours_of g p) ≡ has q (neighbours_of h p)
same_members entities g h a b p q = a.joined p q ∙ sym (b.joined p q)

degree-same : (entities : List (List ℕ)) (g h : Graph) → IsInterference entities g → IsInterference entities h → (p : ℕ) → degree g p ≡ degree h p
degree-same entities g h a b p = length-from_same_keys nat_eq_equiv (neighbours_of g p) (neighbours_of h p) (a.once p) (b.once p) (same_members entities g h a b p)

rank-same : (entities : List (List ℕ)) (g h : Graph) → IsInterference entities g → IsInterference entities h → (p q : ℕ) → rank g p q ≡ rank h p q
rank-same entities g h a b p q = ap₂ (λ (m n : ℕ). ordering_then (nat_cmp m n) (nat_cmp p q)) (degree-same entities g h a b q) (degree-same entities g h a b p)

taken-same : (entities : List (List ℕ)) (g h : Graph) → IsInterference entities g → IsInterference entities h → (xs : List (ℕ × ℕ)) (p c : ℕ) → is_taken g xs p c ≡ is_taken h xs p c
taken-same entities g h a b xs p c =
    any-same (λ q. is_lt (rank g q p) && is_column c (column_of xs q)) (λ q. is_lt (rank h q p) && is_column c (column_of xs q))
    (λ q. ap (λ (o : Ordering). is_lt o && is_column c (column_of xs q)) (rank-same entities g h a b q p)) (neighbours_of g p)
    ∙ any-members (λ q. is_lt (rank h q p) && is_column c (column_of xs q)) (neighbours_of g p) (neighbours_of h p) (same_members entities g h a b p)

strict-same : {X : Type 0} (c d : X → X → Ordering) → ((x y : X) → c x y ≡ d x y) → (xs : List X) → IsStrictlySortedBy c xs → IsStrictlySortedBy d xs
unfolding IsStrictlySortedBy
strict-same c d e [] s = tt
strict-same c d e (x ∷ xs) s = (each-weaker (λ y. c x y ≡ Less) (λ y. d x y ≡ Less) (λ y l. sym (e x y) ∙ l) xs s.0, strict-same c d e xs s.1)

-- a colouring of one is a colouring of the other
moved : (k : ℕ) (entities : List (List ℕ)) (g h : Graph) → IsInterference entities g → IsInterference entities h → (xs : List (ℕ × ℕ)) → IsColouring g k xs → IsColouring h k xs
moved k entities g h a b xs x = record {
  ordered = strict-same (rank g) (rank h) (rank-same entities g h a b) (keys_of xs) x.ordered;
  among = each-weaker (λ p. has p (keys_of g) ≡ true) (λ p. has p (keys_of h) ≡ true) (λ p m. sym (same_preds p) ∙ m) (keys_of xs) x.among;
  least = λ p m. least-same (is_taken g xs p) (is_taken h xs p) k (column_of xs p) (taken-same entities g h a b xs p) (x.least p (same_preds p ∙ m));
}
  where
    same_preds : (p : ℕ) → has p (keys_of g) ≡ has p (keys_of h)
    same_preds p = a.preds p ∙ sym (b.preds p)

pub one_colouring : (k : ℕ) (entities : List (List ℕ)) (g h : Graph) (xs ys : List (ℕ × ℕ)) → IsInterference entities g → IsInterference entities h → IsColouring g k xs → IsColouring h k ys → xs ≡ ys
one_colouring k entities g h xs ys a b x y = same_colouring h k xs ys b.rising (moved k entities g h a b xs x) y
