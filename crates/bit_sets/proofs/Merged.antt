-- That rising blocks merged with others rise, and which numbers they have.
use Rattle.std.proofs.Common.{◌≡◌, ◌<◌, ◌≤◌, ◌+◌, ◌-◌, ℕ, zero, suc, nat_eq, Bool, true, false, ◌||◌, Less, List, [], ◌∷◌, ◌++◌, length, get_or, take, drop, append_assoc, refl, sym, ap, ◌∙◌, subst, arith}
use Rattle.std.specs.Int.RustNames.{bit_or}
use Rattle.std.specs.List.{AllByRecursion, list_any}
use Rattle.std.specs.List.Sorted.{IsStrictlySortedBy}
use Rattle.std.specs.Map.{keys_of}
use Rattle.std.specs.Ordering.{nat_cmp}
use Rattle.std.proofs.lemmas.Grind.{flat_map-append}
use Rattle.std.proofs.lemmas.List.{drop_more, take-append-drop}
use Rattle.std.proofs.lemmas.List.Folds.{list_any-append}
use Rattle.std.proofs.lemmas.Slice.{between_to_end}
use Rattle.bit_sets.specs.Blocks.{numbers_of, numbers_in, IsBlock, AreWords}
use Rattle.bit_sets.specs.Merges.{AreBelow, IsMerged}
use Rattle.bit_sets.specs.Places.{IsAt, IsGap}
use Rattle.bit_sets.proofs.Members.{has_in, has_or, or_assoc, or_last, or_swap}
use Rattle.bit_sets.proofs.Rising.{above, append_rises, below, each, each_append}

-- ---- parts of rising blocks
keys_append : (xs ys : List (ℕ × ℕ)) → keys_of (xs ++ ys) ≡ keys_of xs ++ keys_of ys
keys_append [] ys = refl
keys_append (x ∷ xs) ys = ap (λ (ks : List ℕ). x.0 ∷ ks) (keys_append xs ys)

each_front : (P : ℕ → Type 0) (xs ys : List (ℕ × ℕ)) → AllByRecursion P (keys_of (xs ++ ys)) → AllByRecursion P (keys_of xs)
each_front P [] ys a = tt
each_front P (x ∷ xs) ys a = (a.0, each_front P xs ys a.1)

each_back : (P : ℕ → Type 0) (xs ys : List (ℕ × ℕ)) → AllByRecursion P (keys_of (xs ++ ys)) → AllByRecursion P (keys_of ys)
each_back P [] ys a = a
each_back P (x ∷ xs) ys a = each_back P xs ys a.1

rising_front : (xs ys : List (ℕ × ℕ)) → IsStrictlySortedBy nat_cmp (keys_of (xs ++ ys)) → IsStrictlySortedBy nat_cmp (keys_of xs)
unfolding IsStrictlySortedBy
rising_front [] ys s = tt
rising_front (x ∷ xs) ys s = (each_front (λ z. nat_cmp x.0 z ≡ Less) xs ys s.0, rising_front xs ys s.1)

rising_back : (xs ys : List (ℕ × ℕ)) → IsStrictlySortedBy nat_cmp (keys_of (xs ++ ys)) → IsStrictlySortedBy nat_cmp (keys_of ys)
unfolding IsStrictlySortedBy
rising_back [] ys s = s
rising_back (x ∷ xs) ys s = rising_back xs ys s.1

pub words_front : (xs ys : List (ℕ × ℕ)) → AreWords (xs ++ ys) → AreWords xs
words_front xs ys a = record { rising = rising_front xs ys a.rising; blocks = each_front IsBlock xs ys a.blocks }

pub words_back : (xs ys : List (ℕ × ℕ)) → AreWords (xs ++ ys) → AreWords ys
words_back xs ys a = record { rising = rising_back xs ys a.rising; blocks = each_back IsBlock xs ys a.blocks }

below_rising : (xs ys : List (ℕ × ℕ)) (y : ℕ × ℕ) → IsStrictlySortedBy nat_cmp (keys_of (xs ++ y ∷ ys)) → AreBelow y.0 xs
unfolding IsStrictlySortedBy
below_rising [] ys y s = tt
below_rising (x ∷ xs) ys y s = (below x.0 y.0 (each_back (λ z. nat_cmp x.0 z ≡ Less) xs (y ∷ ys) s.0).0, below_rising xs ys y s.1)

pub below_next : (xs ys : List (ℕ × ℕ)) (y : ℕ × ℕ) → AreWords (xs ++ y ∷ ys) → AreBelow y.0 xs
below_next xs ys y a = below_rising xs ys y a.rising

pub block_next : (xs ys : List (ℕ × ℕ)) (y : ℕ × ℕ) → AreWords (xs ++ y ∷ ys) → IsBlock y.0
block_next xs ys y a = (words_back xs (y ∷ ys) a).blocks.0

-- ---- joined
words_joined : (m : ℕ) (xs ys : List (ℕ × ℕ)) → AreWords xs → AreBelow m xs → AreWords ys → AllByRecursion (λ z. m ≤ z) (keys_of ys) → AreWords (xs ++ ys)
words_joined m xs ys a b c d = record {
  rising = rw (keys_append xs ys) (append_rises m (keys_of xs) (keys_of ys) a.rising c.rising b d);
  blocks = rw (keys_append xs ys) (each_append IsBlock (keys_of xs) (keys_of ys) a.blocks c.blocks);
}

above_first : (y : ℕ × ℕ) (ys : List (ℕ × ℕ)) → AreWords (y ∷ ys) → AllByRecursion (λ z. y.0 + 1 ≤ z) (keys_of ys)
unfolding IsStrictlySortedBy
above_first y ys a = each (λ z. nat_cmp y.0 z ≡ Less) (λ z. y.0 + 1 ≤ z) (keys_of ys) (λ z e. let later : y.0 < z = below y.0 z e in omega arith) a.rising.0

-- up to a block, and then from it on
words_next : (xs ys : List (ℕ × ℕ)) (y : ℕ × ℕ) → AreWords xs → AreBelow y.0 xs → AreWords (y ∷ ys) → AreWords (xs ++ y ∷ ys)
words_next xs ys y a b c = words_joined y.0 xs (y ∷ ys) a b c (omega arith, each (λ z. y.0 + 1 ≤ z) (λ z. y.0 ≤ z) (keys_of ys) (λ z h. omega arith) (above_first y ys c))

-- with a block, and then from the next one on
pub words_after : (xs ys : List (ℕ × ℕ)) (y : ℕ × ℕ) → AreWords xs → AreBelow (y.0 + 1) xs → AreWords (y ∷ ys) → AreWords (xs ++ ys)
words_after xs ys y a b c = words_joined (y.0 + 1) xs ys a b (words_back (y ∷ []) ys c) (above_first y ys c)

below_both : (m : ℕ) (xs ys : List (ℕ × ℕ)) → AreBelow m xs → AreBelow m ys → AreBelow m (xs ++ ys)
below_both m xs ys a b = rw (keys_append xs ys) (each_append (λ z. z < m) (keys_of xs) (keys_of ys) a b)

below_pushed : (xs : List (ℕ × ℕ)) (y : ℕ × ℕ) → AreBelow y.0 xs → AreBelow (y.0 + 1) (xs ++ y ∷ [])
below_pushed [] y b = (omega arith, tt)
below_pushed (x ∷ xs) y b = (omega (arith, b.0), below_pushed xs y b.1)

-- ---- at a place
taken_below : (b : ℕ) (es : List (ℕ × ℕ)) (p : ℕ) → ((k : ℕ) (d : ℕ × ℕ) → k < p → (get_or es k d).0 < b) → AreBelow b (take p es)
taken_below b es zero h = tt
taken_below b [] (suc p) h = tt
taken_below b (e ∷ es) (suc p) h = (h 0 e (omega arith), taken_below b es p (λ k d l. h (suc k) d (omega arith)))

left_above : (b : ℕ) (es : List (ℕ × ℕ)) (p : ℕ) → ((k : ℕ) (d : ℕ × ℕ) → p ≤ k → k < length es → b < (get_or es k d).0) → AllByRecursion (λ z. nat_cmp b z ≡ Less) (keys_of (drop p es))
left_above b es zero h = above b es (λ k d l. h k d (omega arith) l)
left_above b [] (suc p) h = tt
left_above b (e ∷ es) (suc p) h = left_above b es p (λ k d l m. h (suc k) d (omega arith) (omega arith))

words_first : (b w : ℕ) (es : List (ℕ × ℕ)) → AllByRecursion (λ z. nat_cmp b z ≡ Less) (keys_of es) → IsBlock b → AreWords es → AreWords ((b, w) ∷ es)
unfolding IsStrictlySortedBy
words_first b w es h l a = record { rising = (h, a.rising); blocks = (l, a.blocks) }

cut : (ws rs : List (ℕ × ℕ)) (p : ℕ) → (ws ++ take p rs) ++ drop p rs ≡ ws ++ rs
cut ws rs p = append_assoc ws (take p rs) (drop p rs) ∙ ap (λ (es : List (ℕ × ℕ)). ws ++ es) (take-append-drop p rs)

-- ---- numbers
has_append : (n : ℕ) (xs ys : List (ℕ × ℕ)) → list_any (nat_eq n) (numbers_in (xs ++ ys)) ≡ (list_any (nat_eq n) (numbers_in xs) || list_any (nat_eq n) (numbers_in ys))
unfolding numbers_in
has_append n xs ys = ap (list_any (nat_eq n)) (flat_map-append numbers_of xs ys) ∙ list_any-append (nat_eq n) (numbers_in xs) (numbers_in ys)

or_new : (f x b : Bool) → (f || (x || b)) ≡ ((f || b) || x)
or_new true x b = refl
or_new false x b = or_swap x b

or_both : (f y x b : Bool) → (f || ((y || x) || b)) ≡ ((f || (y || b)) || x)
or_both true y x b = refl
or_both false y x b = or_last y x b

has_new : (n : ℕ) (xs ys : List (ℕ × ℕ)) (y : ℕ × ℕ)
    → list_any (nat_eq n) (numbers_in (xs ++ y ∷ ys)) ≡ (list_any (nat_eq n) (numbers_in (xs ++ ys)) || list_any (nat_eq n) (numbers_of y))
has_new n xs ys y =
    let front = list_any (nat_eq n) (numbers_in xs) in
    let here = list_any (nat_eq n) (numbers_of y) in
    has_append n xs (y ∷ ys)
    ∙ ap (λ (b : Bool). front || b) (has_in n y ys)
    ∙ or_new front here (list_any (nat_eq n) (numbers_in ys))
    ∙ ap (λ (b : Bool). b || here) (sym (has_append n xs ys))

has_both : (n : ℕ) (xs ys : List (ℕ × ℕ)) (y : ℕ × ℕ) (w : ℕ)
    → list_any (nat_eq n) (numbers_in (xs ++ (y.0, bit_or y.1 w) ∷ ys)) ≡ (list_any (nat_eq n) (numbers_in (xs ++ y ∷ ys)) || list_any (nat_eq n) (numbers_of (y.0, w)))
has_both n xs ys y w =
    let front = list_any (nat_eq n) (numbers_in xs) in
    let back = list_any (nat_eq n) (numbers_in ys) in
    let here = list_any (nat_eq n) (numbers_of y) in
    let more = list_any (nat_eq n) (numbers_of (y.0, w)) in
    has_append n xs ((y.0, bit_or y.1 w) ∷ ys)
    ∙ ap (λ (b : Bool). front || b) (has_in n (y.0, bit_or y.1 w) ys ∙ ap (λ (b : Bool). b || back) (has_or n y.0 y.1 w))
    ∙ or_both front here more back
    ∙ ap (λ (b : Bool). b || more) (sym (has_append n xs (y ∷ ys) ∙ ap (λ (b : Bool). front || b) (has_in n y ys)))

-- ---- one block merged
pushed : (ws rs xs ys : List (ℕ × ℕ)) (block word v : ℕ) → AreWords xs → AreBelow block xs → AreWords ((block, v) ∷ ys)
    → ((n : ℕ) → list_any (nat_eq n) (numbers_in (xs ++ (block, v) ∷ ys)) ≡ (list_any (nat_eq n) (numbers_in (ws ++ rs)) || list_any (nat_eq n) (numbers_of (block, word))))
    → IsMerged ws rs block word (xs ++ (block, v) ∷ []) ys
pushed ws rs xs ys block word v a b c added =
    let joined : (xs ++ (block, v) ∷ []) ++ ys ≡ xs ++ (block, v) ∷ ys = append_assoc xs ((block, v) ∷ []) ys in
    record {
      below = below_pushed xs (block, v) b;
      rising = subst AreWords (sym joined) (words_next xs ys (block, v) a b c);
      added = λ n. ap (λ (es : List (ℕ × ℕ)). list_any (nat_eq n) (numbers_in es)) joined ∙ added n;
    }

pub front_words : (ws rs : List (ℕ × ℕ)) (p : ℕ) → AreWords (ws ++ rs) → AreWords (ws ++ take p rs)
front_words ws rs p a = words_front (ws ++ take p rs) (drop p rs) (subst AreWords (sym (cut ws rs p)) a)

to_end : (es : List (ℕ × ℕ)) (i : ℕ) → take (length es - i) (drop i es) ≡ drop i es
to_end es i = between_to_end es i (length es) (omega arith)

new_merged : (ws rs : List (ℕ × ℕ)) (p block word : ℕ) → AreWords (ws ++ rs) → AreBelow block ws → IsBlock block → IsGap block rs p
    → IsMerged ws rs block word ((ws ++ take p rs) ++ (block, word) ∷ []) (drop p rs)
new_merged ws rs p block word a b l g =
    let front = ws ++ take p rs in
    let left = drop p rs in
    let rest : AreWords left = words_back front left (subst AreWords (sym (cut ws rs p)) a) in
    pushed ws rs front left block word word
    (front_words ws rs p a)
    (below_both block ws (take p rs) b (taken_below block rs p g.lower))
    (words_first block word left (left_above block rs p g.higher) l rest)
    (λ n. has_new n front left (block, word) ∙ ap (λ (es : List (ℕ × ℕ)). list_any (nat_eq n) (numbers_in es) || list_any (nat_eq n) (numbers_of (block, word))) (cut ws rs p))

both_merged : (ws rs : List (ℕ × ℕ)) (p block word : ℕ) → AreWords (ws ++ rs) → IsAt block rs p
    → IsMerged ws rs block word ((ws ++ take p rs) ++ (block, bit_or (get_or rs p (0, 0)).1 word) ∷ []) (drop (p + 1) rs)
both_merged ws rs p block word a at =
    let front = ws ++ take p rs in
    let left = drop (p + 1) rs in
    let there = get_or rs p (0, 0) in
    let next : drop p rs ≡ there ∷ left = drop_more rs p (0, 0) at.within in
    let parted : front ++ there ∷ left ≡ ws ++ rs = ap (λ (es : List (ℕ × ℕ)). front ++ es) (sym next) ∙ cut ws rs p in
    let whole : AreWords (front ++ there ∷ left) = subst AreWords (sym parted) a in
    let rest : AreWords (there ∷ left) = words_back front (there ∷ left) whole in
    subst (λ (k : ℕ). IsMerged ws rs k word (front ++ (k, bit_or there.1 word) ∷ []) left) (at.here (0, 0))
    (pushed ws rs front left there.0 word (bit_or there.1 word)
    (words_front front (there ∷ left) whole)
    (below_next front left there whole)
    (record { rising = rest.rising; blocks = rest.blocks })
    (λ n. has_both n front left there word ∙ ap (λ (es : List (ℕ × ℕ)). list_any (nat_eq n) (numbers_in es) || list_any (nat_eq n) (numbers_of (there.0, word))) parted))

-- the same of what the code appends, and of the slice that it answers
pub merged_new : (ws rs front now : List (ℕ × ℕ)) (p block word : ℕ) → AreWords (ws ++ rs) → AreBelow block ws → IsBlock block → IsGap block rs p
    → front ≡ ws ++ take p rs → now ≡ front ++ (block, word) ∷ [] → IsMerged ws rs block word now (take (length rs - p) (drop p rs))
merged_new ws rs front now p block word a b l g e f =
    rw (f ∙ ap (λ (es : List (ℕ × ℕ)). es ++ (block, word) ∷ []) e, to_end rs p) (new_merged ws rs p block word a b l g)

pub merged_both : (ws rs front now : List (ℕ × ℕ)) (p block word : ℕ) → AreWords (ws ++ rs) → IsAt block rs p
    → front ≡ ws ++ take p rs → now ≡ front ++ (block, bit_or (get_or rs p (0, 0)).1 word) ∷ [] → IsMerged ws rs block word now (take (length rs - (p + 1)) (drop (p + 1) rs))
merged_both ws rs front now p block word a at e f =
    rw (f ∙ ap (λ (es : List (ℕ × ℕ)). es ++ (block, bit_or (get_or rs p (0, 0)).1 word) ∷ []) e, to_end rs (p + 1)) (both_merged ws rs p block word a at)

-- ---- the others from a place on
pub rejoined : (es front back : List (ℕ × ℕ)) (p : ℕ) → front ≡ take p es → back ≡ drop p es → front ++ back ≡ es
rejoined es front back p e f = rw (e, f) (take-append-drop p es)

-- where the first of them that isn't there belongs
pub words_before : (ws os : List (ℕ × ℕ)) (p i : ℕ) → AreWords ws → AreWords os → i < length os → IsGap (get_or os i (0, 0)).0 ws p → AreWords (take p ws ++ take (length os - i) (drop i os))
words_before ws os p i a b l g =
    let first = get_or os i (0, 0) in
    let left = drop (i + 1) os in
    let parted : drop i os ≡ first ∷ left = drop_more os i (0, 0) l in
    let next : AreWords (first ∷ left) = subst AreWords parted (words_back (take i os) (drop i os) (subst AreWords (sym (take-append-drop i os)) b)) in
    let front : AreWords (take p ws) = words_front (take p ws) (drop p ws) (subst AreWords (sym (take-append-drop p ws)) a) in
    rw (to_end os i, parted) (words_next (take p ws) left first front (taken_below first.0 ws p g.lower) next)

pub has_rest : (n : ℕ) (os : List (ℕ × ℕ)) (i : ℕ) (old now : Bool) → now ≡ (old || list_any (nat_eq n) (numbers_in (take i os)))
    → (now || list_any (nat_eq n) (numbers_in (take (length os - i) (drop i os)))) ≡ (old || list_any (nat_eq n) (numbers_in os))
has_rest n os i old now e =
    let done = list_any (nat_eq n) (numbers_in (take i os)) in
    let rest = list_any (nat_eq n) (numbers_in (drop i os)) in
    let whole : (done || rest) ≡ list_any (nat_eq n) (numbers_in os) = sym (has_append n (take i os) (drop i os)) ∙ ap (λ (es : List (ℕ × ℕ)). list_any (nat_eq n) (numbers_in es)) (take-append-drop i os) in
    rw (to_end os i) (ap (λ (b : Bool). b || rest) e ∙ sym (or_assoc old done rest) ∙ ap (λ (b : Bool). old || b) whole)
