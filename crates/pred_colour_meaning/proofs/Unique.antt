-- No graph has two colourings.
use Rattle.std.proofs.Common.{◌≡◌, ◌<◌, ℕ, nat_eq, nat_lt, ◌&&◌, ◌||◌, Bool, true, false, List, [], ◌∷◌, Option, Some, None, Less, refl, sym, ap, ap₂, ◌∙◌, arith, subst}
use Rattle.std.specs.List.{AllByRecursion}
use Rattle.std.specs.List.Sorted.{IsStrictlySortedBy}
use Rattle.std.specs.Ordering.{nat_cmp, is_lt}
use Rattle.std.specs.Map.{keys_of}
use Rattle.bags.specs.Sort.{sort}
use Rattle.bags.specs.SortLaws.{each-sort}
use Rattle.pred_colour_meaning.specs.Interference.{Graph, has, neighbours_of}
use Rattle.pred_colour_meaning.specs.Colouring.{rank, column_of, is_column, is_taken, IsLeastFree, IsColouring}
use Rattle.pred_colour_meaning.proofs.Ranks.{not_before_itself, not_behind, any-sort}
use Rattle.pred_colour_meaning.proofs.Steps.{any-same, same_number, at_itself, at_other, each_has, key_of_column, least-same}
use Rattle.pred_colour_meaning.proofs.Made.{order_strict}

below_differ : (t : ℕ → Bool) (c d : ℕ) → ((b : ℕ) → b < d → t b ≡ true) → t c ≡ false → nat_lt c d ≡ false
below_differ t c d h e = by (nat_lt c d) refl
  where
    by : (b : Bool) → nat_lt c d ≡ b → b ≡ false
    by true l = let k : c < d = grind arith in sym (h c k) ∙ e
    by false l = refl

least-one : (t : ℕ → Bool) (k : ℕ) (o u : Option ℕ) → IsLeastFree t k o → IsLeastFree t k u → o ≡ u
least-one t k None None h i = refl
least-one t k None (Some d) h i = let e : true ≡ false = sym (h d i.0) ∙ i.1 in cc
least-one t k (Some c) None h i = let e : true ≡ false = sym (i c h.0) ∙ h.1 in cc
least-one t k (Some c) (Some d) h i =
    let a : nat_lt c d ≡ false = below_differ t c d i.2 h.1 in
    let b : nat_lt d c ≡ false = below_differ t d c h.2 i.1 in
    let e : c ≡ d = grind arith in
    ap (λ (n : ℕ). Some n) e

-- what isn't among the predicates has no column
absent : (preds : List ℕ) (xs : List (ℕ × ℕ)) (q : ℕ) → AllByRecursion (λ p. has p preds ≡ true) (keys_of xs) → has q preds ≡ false → column_of xs q ≡ None
absent preds xs q a h = by (column_of xs q) refl
  where
    by : (o : Option ℕ) → column_of xs q ≡ o → o ≡ None
    by None e = refl
    by (Some c) e = let z : true ≡ false = sym (each_has (λ p. has p preds ≡ true) (keys_of xs) q a (key_of_column xs q c e)) ∙ h in cc

-- what comes before p is neither p nor behind it
before_all : (g : Graph) (p : ℕ) (ps : List ℕ) (r : ℕ) → AllByRecursion (λ z. rank g p z ≡ Less) ps → is_lt (rank g r p) ≡ true → has r (p ∷ ps) ≡ false
before_all g p ps r s l = by (nat_eq r p) refl (has r ps) refl
  where
    by : (b : Bool) → nat_eq r p ≡ b → (d : Bool) → has r ps ≡ d → (b || d) ≡ false
    by true e d h = let z : is_lt (rank g r p) ≡ false = subst (λ (s : ℕ). is_lt (rank g r s) ≡ false) (same_number r p e) (not_before_itself g r) in sym l ∙ z
    by false e true h = sym l ∙ not_behind g p r (each_has (λ z. rank g p z ≡ Less) ps r s h)
    by false e false h = refl

-- the columns agree at p, if they do at what comes before
agree_at : (g : Graph) (k : ℕ) (xs ys : List (ℕ × ℕ)) (p : ℕ) (ps : List ℕ) → IsColouring g k xs → IsColouring g k ys → AllByRecursion (λ z. rank g p z ≡ Less) ps
    → ((q : ℕ) → has q (keys_of g) ≡ true → has q (p ∷ ps) ≡ false → column_of xs q ≡ column_of ys q) → has p (keys_of g) ≡ true → column_of xs p ≡ column_of ys p
agree_at g k xs ys p ps x y s h m =
    least-one (is_taken g ys p) k (column_of xs p) (column_of ys p)
    (least-same (is_taken g xs p) (is_taken g ys p) k (column_of xs p) (λ c. any-same (test xs c) (test ys c) (each c) (neighbours_of g p)) (x.least p m)) (y.least p m)
  where
    test : List (ℕ × ℕ) → ℕ → ℕ → Bool
    test zs c r = is_lt (rank g r p) && is_column c (column_of zs r)

    same : (r : ℕ) → is_lt (rank g r p) ≡ true → (b : Bool) → has r (keys_of g) ≡ b → column_of xs r ≡ column_of ys r
    same r l true e = h r e (before_all g p ps r s l)
    same r l false e = absent (keys_of g) xs r x.among e ∙ sym (absent (keys_of g) ys r y.among e)

    by : (c r : ℕ) (b : Bool) → is_lt (rank g r p) ≡ b → (b && is_column c (column_of xs r)) ≡ (b && is_column c (column_of ys r))
    by c r false e = refl
    by c r true e = ap (is_column c) (same r e (has r (keys_of g)) refl)

    each : (c r : ℕ) → (is_lt (rank g r p) && is_column c (column_of xs r)) ≡ (is_lt (rank g r p) && is_column c (column_of ys r))
    each c r = by c r (is_lt (rank g r p)) refl

agree : (g : Graph) (k : ℕ) (xs ys : List (ℕ × ℕ)) (ps : List ℕ) → IsColouring g k xs → IsColouring g k ys → IsStrictlySortedBy (rank g) ps
    → ((q : ℕ) → has q (keys_of g) ≡ true → has q ps ≡ false → column_of xs q ≡ column_of ys q) → AllByRecursion (λ p. has p (keys_of g) ≡ true) ps
    → (q : ℕ) → has q (keys_of g) ≡ true → column_of xs q ≡ column_of ys q
unfolding IsStrictlySortedBy
agree g k xs ys [] x y s h a q m = h q m refl
agree g k xs ys (p ∷ ps) x y s h a q m = agree g k xs ys ps x y s.1 next a.1 q m
  where
    next : (q : ℕ) → has q (keys_of g) ≡ true → has q ps ≡ false → column_of xs q ≡ column_of ys q
    next q m n = by (nat_eq q p) refl
      where
        by : (b : Bool) → nat_eq q p ≡ b → column_of xs q ≡ column_of ys q
        by true e = subst (λ (r : ℕ). column_of xs r ≡ column_of ys r) (sym (same_number q p e)) (agree_at g k xs ys p ps x y s.0 h a.0)
        by false e = h q m (rw e n)

-- colours in one order that agree are the same
unlike : (g : Graph) (x : ℕ × ℕ) (xs : List (ℕ × ℕ)) → AllByRecursion (λ z. rank g x.0 z ≡ Less) (keys_of xs) → column_of xs x.0 ≡ None
unlike g x xs s = by (column_of xs x.0) refl
  where
    by : (o : Option ℕ) → column_of xs x.0 ≡ o → o ≡ None
    by None e = refl
    by (Some c) e =
        let z : true ≡ false = sym (ap is_lt (each_has (λ z. rank g x.0 z ≡ Less) (keys_of xs) x.0 s (key_of_column xs x.0 c e))) ∙ not_before_itself g x.0 in
        cc

head-column : (x : ℕ × ℕ) (xs : List (ℕ × ℕ)) → column_of (x ∷ xs) x.0 ≡ Some x.1
head-column x xs = rw (at_itself x.0) refl

tail-column : (x : ℕ × ℕ) (xs : List (ℕ × ℕ)) (q : ℕ) → nat_eq q x.0 ≡ false → column_of (x ∷ xs) q ≡ column_of xs q
tail-column x xs q e = rw (at_other q x.0 e) refl

same-head : (g : Graph) (x y : ℕ × ℕ) (xs ys : List (ℕ × ℕ)) → AllByRecursion (λ z. rank g x.0 z ≡ Less) (keys_of xs) → AllByRecursion (λ z. rank g y.0 z ≡ Less) (keys_of ys)
    → ((q : ℕ) → column_of (x ∷ xs) q ≡ column_of (y ∷ ys) q) → x.0 ≡ y.0
same-head g x y xs ys sx sy e = by (nat_eq x.0 y.0) refl
  where
    flip : (m n : ℕ) → nat_eq m n ≡ false → nat_eq n m ≡ false
    flip m n h = grind arith

    by : (b : Bool) → nat_eq x.0 y.0 ≡ b → x.0 ≡ y.0
    by true h = same_number x.0 y.0 h
    by false h =
        let in_ys : has x.0 (keys_of ys) ≡ true = key_of_column ys x.0 x.1 (sym (tail-column y ys x.0 h) ∙ sym (e x.0) ∙ head-column x xs) in
        let in_xs : has y.0 (keys_of xs) ≡ true = key_of_column xs y.0 y.1 (sym (tail-column x xs y.0 (flip x.0 y.0 h)) ∙ e y.0 ∙ head-column y ys) in
        let l = each_has (λ z. rank g x.0 z ≡ Less) (keys_of xs) y.0 sx in_xs in
        let m = each_has (λ z. rank g y.0 z ≡ Less) (keys_of ys) x.0 sy in_ys in
        let z : true ≡ false = sym (ap is_lt m) ∙ not_behind g x.0 y.0 l in
        cc

same-list : (g : Graph) (xs ys : List (ℕ × ℕ)) → IsStrictlySortedBy (rank g) (keys_of xs) → IsStrictlySortedBy (rank g) (keys_of ys) → ((q : ℕ) → column_of xs q ≡ column_of ys q) → xs ≡ ys
unfolding IsStrictlySortedBy
same-list g [] [] sx sy e = refl
same-list g [] (y ∷ ys) sx sy e = let h : None ≡ Some y.1 = e y.0 ∙ head-column y ys in cc
same-list g (x ∷ xs) [] sx sy e = let h : None ≡ Some x.1 = sym (e x.0) ∙ head-column x xs in cc
same-list g (x ∷ xs) (y ∷ ys) sx sy e =
    ap₂ (λ (z : ℕ × ℕ) (zs : List (ℕ × ℕ)). z ∷ zs) (ap₂ (λ (m n : ℕ). (m, n)) key value) (same-list g xs ys sx.1 sy.1 rest)
  where
    key : x.0 ≡ y.0
    key = same-head g x y xs ys sx.0 sy.0 e

    value : x.1 ≡ y.1
    value =
        let h : Some x.1 ≡ Some y.1 = sym (head-column x xs) ∙ e x.0 ∙ subst (λ (n : ℕ). column_of (y ∷ ys) n ≡ Some y.1) (sym key) (head-column y ys) in
        cc

    rest : (q : ℕ) → column_of xs q ≡ column_of ys q
    rest q = by (nat_eq q x.0) refl
      where
        by : (b : Bool) → nat_eq q x.0 ≡ b → column_of xs q ≡ column_of ys q
        by true h =
            let i : q ≡ x.0 = same_number q x.0 h in
            subst (λ (n : ℕ). column_of xs n ≡ None) (sym i) (unlike g x xs sx.0) ∙ sym (subst (λ (n : ℕ). column_of ys n ≡ None) (sym (i ∙ key)) (unlike g y ys sy.0))
        by false h =
            let j : nat_eq q y.0 ≡ false = subst (λ (n : ℕ). nat_eq q n ≡ false) key h in
            sym (tail-column x xs q h) ∙ e q ∙ tail-column y ys q j

each_self : (xs : List ℕ) → AllByRecursion (λ p. has p xs ≡ true) xs
each_self [] = tt
each_self (x ∷ xs) = (first x, all x xs (each_self xs))
  where
    self : (x : ℕ) → nat_eq x x ≡ true
    self x = grind arith

    first : (x : ℕ) → has x (x ∷ xs) ≡ true
    first x = rw (self x) refl

    or_true : (b : Bool) → (b || true) ≡ true
    or_true true = refl
    or_true false = refl

    all : (x : ℕ) (ys : List ℕ) → AllByRecursion (λ p. has p xs ≡ true) ys → AllByRecursion (λ p. has p (x ∷ xs) ≡ true) ys
    all x [] a = tt
    all x (y ∷ ys) a = (rw a.0 (or_true (nat_eq y x)), all x ys a.1)

pub same_colouring : (g : Graph) (k : ℕ) (xs ys : List (ℕ × ℕ)) → IsStrictlySortedBy nat_cmp (keys_of g) → IsColouring g k xs → IsColouring g k ys → xs ≡ ys
same_colouring g k xs ys s x y = same-list g xs ys x.ordered y.ordered (λ q. by q (has q (keys_of g)) refl)
  where
    none : (q : ℕ) → has q (keys_of g) ≡ true → has q (sort (rank g) (keys_of g)) ≡ false → column_of xs q ≡ column_of ys q
    none q m n = let z : true ≡ false = sym m ∙ sym (any-sort (rank g) (nat_eq q) (keys_of g)) ∙ n in cc

    by : (q : ℕ) (b : Bool) → has q (keys_of g) ≡ b → column_of xs q ≡ column_of ys q
    by q true m = agree g k xs ys (sort (rank g) (keys_of g)) x y (order_strict g s) none (each-sort (rank g) (λ p. has p (keys_of g) ≡ true) (keys_of g) (each_self (keys_of g))) q m
    by q false m = absent (keys_of g) xs q x.among m ∙ sym (absent (keys_of g) ys q y.among m)
