-- That blocks rise after one more, and that their numbers rise.
use Rattle.std.proofs.Common.{◌≡◌, ◌<◌, ◌≤◌, ◌+◌, ◌*◌, ◌%◌, ℕ, zero, suc, nat_eq, Bool, true, false, cond, Less, List, [], ◌∷◌, ◌++◌, length, get_or, set, refl, ap, arith}
use Rattle.std.specs.Int.{bit_at}
use Rattle.std.specs.List.{AllByRecursion, filter, flat_map, insert, range_with_len}
use Rattle.std.specs.List.Sorted.{IsStrictlySortedBy}
use Rattle.std.specs.Map.{keys_of}
use Rattle.std.specs.Ordering.{nat_cmp}
use Rattle.std.proofs.lemmas.Bool.Decides.{nat_tests}
use Rattle.std.proofs.lemmas.List.Kept.{IsStrictlySortedBy-filter}
use Rattle.bit_sets.specs.Blocks.{numbers_of, numbers_in, IsBlock, AreWords}
use Rattle.bit_sets.specs.Places.{IsGap}

less : (a b : ℕ) → a < b → nat_cmp a b ≡ Less
less a b h = grind (arith, nat_tests)

pub below : (a b : ℕ) → nat_cmp a b ≡ Less → a < b
below a b h = grind (arith, nat_tests)

pub each : {X : Type 0} (P Q : X → Type 0) (xs : List X) → ((x : X) → P x → Q x) → AllByRecursion P xs → AllByRecursion Q xs
each P Q [] f a = tt
each P Q (x ∷ xs) f a = (f x a.0, each P Q xs f a.1)

pub each_append : {X : Type 0} (P : X → Type 0) (xs ys : List X) → AllByRecursion P xs → AllByRecursion P ys → AllByRecursion P (xs ++ ys)
each_append P [] ys a b = b
each_append P (x ∷ xs) ys a b = (a.0, each_append P xs ys a.1 b)

each_filter : {X : Type 0} (P : X → Type 0) (p : X → Bool) (xs : List X) → AllByRecursion P xs → AllByRecursion P (filter p xs)
each_filter P p [] a = tt
each_filter P p (x ∷ xs) a = by (p x) (each_filter P p xs a.1)
  where
    by : (b : Bool) → AllByRecursion P (filter p xs) → AllByRecursion P (cond b (x ∷ filter p xs) (filter p xs))
    by true rest = (a.0, rest)
    by false rest = rest

-- ---- blocks
keys_set : (es : List (ℕ × ℕ)) (i : ℕ) (x : ℕ × ℕ) (v : ℕ) → x ≡ get_or es i x → keys_of (set es i (x.0, v)) ≡ keys_of es
keys_set [] i x v e = refl
keys_set (y ∷ es) zero x v e = ap (λ (z : ℕ × ℕ). z.0 ∷ keys_of es) e
keys_set (y ∷ es) (suc i) x v e = ap (λ (ks : List ℕ). y.0 ∷ ks) (keys_set es i x v e)

pub words_set : (es : List (ℕ × ℕ)) (i : ℕ) (x : ℕ × ℕ) (v : ℕ) → x ≡ get_or es i x → AreWords es → AreWords (set es i (x.0, v))
words_set es i x v e a = record { rising = rw (keys_set es i x v e) a.rising; blocks = rw (keys_set es i x v e) a.blocks }

each_insert : (P : ℕ → Type 0) (es : List (ℕ × ℕ)) (i : ℕ) (x : ℕ × ℕ) → AllByRecursion P (keys_of es) → P x.0 → AllByRecursion P (keys_of (insert es i x))
each_insert P es zero x a p = (p, a)
each_insert P [] (suc i) x a p = (p, tt)
each_insert P (y ∷ es) (suc i) x a p = (a.0, each_insert P es i x a.1 p)

pub above : (b : ℕ) (es : List (ℕ × ℕ)) → ((k : ℕ) (d : ℕ × ℕ) → k < length es → b < (get_or es k d).0) → AllByRecursion (λ z. nat_cmp b z ≡ Less) (keys_of es)
above b [] h = tt
above b (e ∷ es) h = (less b e.0 (h 0 e (omega arith)), above b es (λ k d l. h (suc k) d (omega arith)))

rising_insert : (b w : ℕ) (es : List (ℕ × ℕ)) (i : ℕ) → IsStrictlySortedBy nat_cmp (keys_of es) → IsGap b es i → IsStrictlySortedBy nat_cmp (keys_of (insert es i (b, w)))
unfolding IsStrictlySortedBy
rising_insert b w es zero s g = (above b es (λ k d l. g.higher k d (omega arith) l), s)
rising_insert b w [] (suc i) s g = absurd (omega (arith, g.within))
rising_insert b w (y ∷ es) (suc i) s g = (each_insert (λ z. nat_cmp y.0 z ≡ Less) es i (b, w) s.0 (less y.0 b (g.lower 0 y (omega arith))), rising_insert b w es i s.1 rest)
  where
    rest : IsGap b es i
    rest = record {
      within = omega (arith, g.within);
      lower = λ k d l. g.lower (suc k) d (omega arith);
      higher = λ k d p l. g.higher (suc k) d (omega arith) (omega arith);
    }

pub words_insert : (es : List (ℕ × ℕ)) (i b w : ℕ) → AreWords es → IsGap b es i → IsBlock b → AreWords (insert es i (b, w))
words_insert es i b w a g l = record { rising = rising_insert b w es i a.rising g; blocks = each_insert IsBlock es i (b, w) a.blocks l }

-- ---- numbers
range_from : (m a k : ℕ) → m ≤ a → AllByRecursion (λ x. m ≤ x) (range_with_len a k)
range_from m a zero h = tt
range_from m a (suc k) h = (h, range_from m (a + 1) k (omega arith))

range_to : (m a k : ℕ) → a + k ≤ m → AllByRecursion (λ x. x < m) (range_with_len a k)
range_to m a zero h = tt
range_to m a (suc k) h = (omega arith, range_to m (a + 1) k (omega arith))

range_rises : (a k : ℕ) → IsStrictlySortedBy nat_cmp (range_with_len a k)
unfolding IsStrictlySortedBy
range_rises a zero = tt
range_rises a (suc k) =
    (each (λ x. a + 1 ≤ x) (λ x. nat_cmp a x ≡ Less) (range_with_len (a + 1) k) (λ x h. less a x (omega arith)) (range_from (a + 1) (a + 1) k (omega arith)), range_rises (a + 1) k)

of_rises : (e : ℕ × ℕ) → IsStrictlySortedBy nat_cmp (numbers_of e)
unfolding numbers_of
of_rises e = IsStrictlySortedBy-filter nat_cmp (λ n. nat_eq (bit_at e.1 (n % 64)) 1) (range_with_len (e.0 * 64) 64) (range_rises (e.0 * 64) 64)

of_from : (m : ℕ) (e : ℕ × ℕ) → m ≤ e.0 * 64 → AllByRecursion (λ x. m ≤ x) (numbers_of e)
unfolding numbers_of
of_from m e h = each_filter (λ x. m ≤ x) (λ n. nat_eq (bit_at e.1 (n % 64)) 1) (range_with_len (e.0 * 64) 64) (range_from m (e.0 * 64) 64 h)

of_to : (m : ℕ) (e : ℕ × ℕ) → e.0 * 64 + 64 ≤ m → AllByRecursion (λ x. x < m) (numbers_of e)
unfolding numbers_of
of_to m e h = each_filter (λ x. x < m) (λ n. nat_eq (bit_at e.1 (n % 64)) 1) (range_with_len (e.0 * 64) 64) (range_to m (e.0 * 64) 64 h)

in_from : (b m : ℕ) (es : List (ℕ × ℕ)) → m ≤ b * 64 + 64 → AllByRecursion (λ z. nat_cmp b z ≡ Less) (keys_of es) → AllByRecursion (λ x. m ≤ x) (numbers_in es)
unfolding numbers_in
in_from b m [] h a = tt
in_from b m (e ∷ es) h a =
    let later : b < e.0 = below b e.0 a.0 in
    each_append (λ x. m ≤ x) (numbers_of e) (flat_map numbers_of es) (of_from m e (omega arith)) (in_from b m es h a.1)

pub append_rises : (m : ℕ) (xs ys : List ℕ) → IsStrictlySortedBy nat_cmp xs → IsStrictlySortedBy nat_cmp ys → AllByRecursion (λ x. x < m) xs → AllByRecursion (λ y. m ≤ y) ys → IsStrictlySortedBy nat_cmp (xs ++ ys)
unfolding IsStrictlySortedBy
append_rises m [] ys s t a b = t
append_rises m (x ∷ xs) ys s t a b = (each_append (λ y. nat_cmp x y ≡ Less) xs ys s.0 (each (λ y. m ≤ y) (λ y. nat_cmp x y ≡ Less) ys (λ y h. less x y (omega (arith, a.0))) b), append_rises m xs ys s.1 t a.1 b)

pub numbers_rise : (es : List (ℕ × ℕ)) → IsStrictlySortedBy nat_cmp (keys_of es) → IsStrictlySortedBy nat_cmp (numbers_in es)
unfolding numbers_in IsStrictlySortedBy
numbers_rise [] s = tt
numbers_rise (e ∷ es) s =
    let m = e.0 * 64 + 64 in
    append_rises m (numbers_of e) (flat_map numbers_of es) (of_rises e) (numbers_rise es s.1) (of_to m e (omega arith)) (in_from e.0 m es (omega arith) s.0)

pub block_at : (es : List (ℕ × ℕ)) (i : ℕ) (d : ℕ × ℕ) → AllByRecursion IsBlock (keys_of es) → i < length es → IsBlock (get_or es i d).0
block_at [] i d a l = absurd (omega arith)
block_at (e ∷ es) zero d a l = a.0
block_at (e ∷ es) (suc i) d a l = block_at es i d a.1 (omega arith)
