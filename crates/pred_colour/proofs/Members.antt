-- Lists of numbers with the same members.
use Rattle.std.proofs.Common.{◌≡◌, ℕ, nat_eq, ◌&&◌, ◌||◌, Bool, true, false, List, [], ◌∷◌, ◌++◌, Less, refl, sym, ap, ap₂, ◌∙◌, arith, subst}
use Rattle.std.specs.List.{list_any, AllByRecursion}
use Rattle.std.specs.List.Sorted.{IsStrictlySortedBy}
use Rattle.std.specs.Ordering.{nat_cmp}
use Rattle.std.proofs.lemmas.Bool.{or_left, or_right}
use Rattle.std.proofs.lemmas.List.Folds.{list_any-append}
use Rattle.pred_colour_meaning.specs.Interference.{has}
use Rattle.pred_colour_meaning.proofs.Steps.{same_number, each_has}

pub same_truth : (a b : Bool) → (a ≡ true → b ≡ true) → (b ≡ true → a ≡ true) → a ≡ b
same_truth true b f g = sym (f refl)
same_truth false true f g = g refl
same_truth false false f g = refl

pub at_self : (n : ℕ) → nat_eq n n ≡ true
at_self n = grind arith

-- a test that a member passes
pub passes : (t : ℕ → Bool) (xs : List ℕ) (x : ℕ) → has x xs ≡ true → t x ≡ true → list_any t xs ≡ true
passes t [] x h e = cc
passes t (y ∷ ys) x h e = by (λ k. passes t ys x k e) (nat_eq x y) refl h
  where
    by : (has x ys ≡ true → list_any t ys ≡ true) → (b : Bool) → nat_eq x y ≡ b → (b || has x ys) ≡ true → (t y || list_any t ys) ≡ true
    by ih true k h = or_left (t y) (list_any t ys) (subst (λ (z : ℕ). t z ≡ true) (same_number x y k) e)
    by ih false k h = or_right (t y) (list_any t ys) (ih h)

pub a_member : (t : ℕ → Bool) (xs : List ℕ) → list_any t xs ≡ true → (x : ℕ) × (has x xs ≡ true) × (t x ≡ true)
a_member t [] h = cc
a_member t (y ∷ ys) h = by (a_member t ys) (t y) refl h
  where
    by : (list_any t ys ≡ true → (x : ℕ) × (has x ys ≡ true) × (t x ≡ true)) → (b : Bool) → t y ≡ b → (b || list_any t ys) ≡ true → (x : ℕ) × (has x (y ∷ ys) ≡ true) × (t x ≡ true)
    by ih true e h = (y, or_left (nat_eq y y) (has y ys) (at_self y), e)
    by ih false e h = let m = ih h in (m.0, or_right (nat_eq m.0 y) (has m.0 ys) m.1, m.2)

-- lists with the same members pass the same tests
pub same_tests : (t : ℕ → Bool) (xs ys : List ℕ) → ((n : ℕ) → has n xs ≡ has n ys) → list_any t xs ≡ list_any t ys
same_tests t xs ys e = same_truth _ _ (over xs ys e) (over ys xs (λ n. sym (e n)))
  where
    over : (xs ys : List ℕ) → ((n : ℕ) → has n xs ≡ has n ys) → list_any t xs ≡ true → list_any t ys ≡ true
    over xs ys e h = let m = a_member t xs h in passes t ys m.0 (sym (e m.0) ∙ m.1) m.2

pub tests_of_both : (t : ℕ → Bool) (new old other : List ℕ) → ((n : ℕ) → has n new ≡ (has n old || has n other)) → list_any t new ≡ (list_any t old || list_any t other)
tests_of_both t new old other e = same_tests t new (old ++ other) (λ n. e n ∙ sym (list_any-append (nat_eq n) old other)) ∙ list_any-append t old other

pub or_false : (b : Bool) → (b || false) ≡ b
or_false true = refl
or_false false = refl

pub tests_of_one_more : (t : ℕ → Bool) (new old : List ℕ) (x : ℕ) → ((n : ℕ) → has n new ≡ (has n old || nat_eq n x)) → list_any t new ≡ (list_any t old || t x)
tests_of_one_more t new old x e =
    tests_of_both t new old (x ∷ []) (λ n. e n ∙ ap (λ (b : Bool). has n old || b) (sym (or_false (nat_eq n x)))) ∙ ap (λ (b : Bool). list_any t old || b) (or_false (t x))

-- the others are members too if a
pub tests_of_both_if : (t : ℕ → Bool) (new old other : List ℕ) (a : Bool) → ((n : ℕ) → has n new ≡ (has n old || (a && has n other))) → list_any t new ≡ (list_any t old || (a && list_any t other))
tests_of_both_if t new old other true e = tests_of_both t new old other e
tests_of_both_if t new old other false e = same_tests t new old (λ n. e n ∙ or_false (has n old)) ∙ sym (or_false (list_any t old))

-- tests that agree at the members
pub same_on : (t u : ℕ → Bool) (xs : List ℕ) → ((x : ℕ) → has x xs ≡ true → t x ≡ u x) → list_any t xs ≡ list_any u xs
same_on t u [] e = refl
same_on t u (x ∷ xs) e = ap₂ (λ (a b : Bool). a || b) (e x (or_left (nat_eq x x) (has x xs) (at_self x))) (same_on t u xs (λ y h. e y (or_right (nat_eq y x) (has y xs) h)))

not_less : (n : ℕ) → nat_cmp n n ≡ Less → true ≡ false
not_less n h = grind arith

not_both : (m n : ℕ) → nat_cmp m n ≡ Less → nat_cmp n m ≡ Less → true ≡ false
not_both m n h k = grind arith

-- what comes before all isn't among them
pub absent : (x : ℕ) (xs : List ℕ) → AllByRecursion (λ y. nat_cmp x y ≡ Less) xs → has x xs ≡ false
absent x xs a = by (has x xs) refl
  where
    by : (b : Bool) → has x xs ≡ b → b ≡ false
    by true h = not_less x (each_has (λ y. nat_cmp x y ≡ Less) xs x a h)
    by false h = refl

-- rising lists with the same members are the same
pub same_rising : (xs ys : List ℕ) → IsStrictlySortedBy nat_cmp xs → IsStrictlySortedBy nat_cmp ys → ((n : ℕ) → has n xs ≡ has n ys) → xs ≡ ys
unfolding IsStrictlySortedBy
same_rising [] [] s r e = refl
same_rising [] (y ∷ ys) s r e = let h : false ≡ true = e y ∙ or_left (nat_eq y y) (has y ys) (at_self y) in cc
same_rising (x ∷ xs) [] s r e = let h : true ≡ false = sym (or_left (nat_eq x x) (has x xs) (at_self x)) ∙ e x in cc
same_rising (x ∷ xs) (y ∷ ys) s r e = ap₂ (λ (z : ℕ) (zs : List ℕ). z ∷ zs) head (same_rising xs ys s.1 r.1 rest)
  where
    first : (x y : ℕ) (xs ys : List ℕ) → AllByRecursion (λ z. nat_cmp y z ≡ Less) ys → has x (y ∷ ys) ≡ true → nat_eq x y ≡ false → nat_cmp y x ≡ Less
    first x y xs ys a h k = each_has (λ z. nat_cmp y z ≡ Less) ys x a (sym (ap (λ (b : Bool). b || has x ys) k) ∙ h)

    flip : (m n : ℕ) → nat_eq m n ≡ false → nat_eq n m ≡ false
    flip m n h = grind arith

    head : x ≡ y
    head = by (nat_eq x y) refl
      where
        by : (b : Bool) → nat_eq x y ≡ b → x ≡ y
        by true k = same_number x y k
        by false k =
            let l = first x y xs ys r.0 (sym (e x) ∙ or_left (nat_eq x x) (has x xs) (at_self x)) k in
            let m = first y x ys xs s.0 (e y ∙ or_left (nat_eq y y) (has y ys) (at_self y)) (flip x y k) in
            let z : true ≡ false = not_both y x l m in
            cc

    rest : (n : ℕ) → has n xs ≡ has n ys
    rest n = by (nat_eq n x) refl
      where
        by : (b : Bool) → nat_eq n x ≡ b → has n xs ≡ has n ys
        by true k =
            let i : n ≡ x = same_number n x k in
            subst (λ (m : ℕ). has m xs ≡ false) (sym i) (absent x xs s.0) ∙ sym (subst (λ (m : ℕ). has m ys ≡ false) (sym (i ∙ head)) (absent y ys r.0))
        by false k =
            let j : nat_eq n y ≡ false = subst (λ (m : ℕ). nat_eq n m ≡ false) head k in
            sym (ap (λ (b : Bool). b || has n xs) k) ∙ e n ∙ ap (λ (b : Bool). b || has n ys) j
