-- Loops that make things in turn.
use Rattle.std.proofs.Common.{◌≡◌, ◌<◌, ◌≤◌, ℕ, zero, suc, ◌+◌, nat_eq, ◌==◌, ◌||◌, cond, Bool, true, false, List, [], ◌∷◌, ◌++◌, length, take, drop, get_or, Option, Some, None, IsSome, Ordering, Less, Equal, Greater, refl, sym, ap, ◌∙◌, arith, subst, append-nil}
use Rattle.std.specs.List.{flat_map, list_any, AllByRecursion}
use Rattle.std.specs.List.Sorted.{IsStrictlySortedBy}
use Rattle.std.specs.Ordering.{nat_cmp, is_eq, match_ordering}
use Rattle.std.specs.BTreeMap.{is_at, insert_entry}
use Rattle.std.specs.Map.{lookup, set_value, keys_of}
use Rattle.std.proofs.Math.Seq.{drop-cons, take-suc}
use Rattle.bags.specs.BagLaws.{each-weaker}
use Rattle.layout_meaning.specs.Side.{Pair, Entities, ValueLists, or_empty, elements_of}
use Rattle.layout_meaning.specs.Lists.{ListsOf, with_list, with_value}
use Rattle.layout_meaning.specs.Sound.{one_if, times, IsSoundList}
use Rattle.layout_meaning.proofs.Maps.{insert_entry-same}
use Rattle.layout_meaning.proofs.ListsKept.{with_value-new}
use Rattle.layout_bulk_meaning.specs.Appended.{in_turn, with_lists, IsAbove}
use Rattle.layout_bulk_meaning.proofs.MoreLists.{AreBelow, free, next-all}

-- what is made, when `rest` is left of `all`
pub record Going {X Y : Type 0} (c : X → ℕ) (f : ℕ → X → Y) (L : X → List (List ℕ)) (first done : List Y) (all rest : List X) (start to : ListsOf) : Type 0 where
  pub made : done ++ in_turn c f to.next rest ≡ first ++ in_turn c f start.next all
  pub lists : with_lists to (flat_map L rest) ≡ with_lists start (flat_map L all)
  pub good : AllByRecursion IsSoundList (flat_map L rest)

each-front : {X : Type 0} (P : X → Type 0) (xs ys : List X) → AllByRecursion P (xs ++ ys) → AllByRecursion P xs
each-front P [] ys a = tt
each-front P (x ∷ xs) ys a = (a.0, each-front P xs ys a.1)

each-back : {X : Type 0} (P : X → Type 0) (xs ys : List X) → AllByRecursion P (xs ++ ys) → AllByRecursion P ys
each-back P [] ys a = a
each-back P (x ∷ xs) ys a = each-back P xs ys a.1

lists-append : (l : ListsOf) (xss yss : List (List ℕ)) → with_lists l (xss ++ yss) ≡ with_lists (with_lists l xss) yss
lists-append l [] yss = refl
lists-append l (xs ∷ xss) yss = lists-append (with_list l xs) xss yss

append_one : {X : Type 0} (xs : List X) (y : X) (ys : List X) → (xs ++ y ∷ []) ++ ys ≡ xs ++ y ∷ ys
append_one [] y ys = refl
append_one {X} (x ∷ xs) y ys = ap (λ (l : List X). x ∷ l) (append_one xs y ys)

pub going-begins : {X Y : Type 0} (c : X → ℕ) (f : ℕ → X → Y) (L : X → List (List ℕ)) (first : List Y) (all : List X) (start : ListsOf) → AllByRecursion IsSoundList (flat_map L all) → Going c f L first first all all start start
going-begins c f L first all start good = record { made = refl; lists = refl; good = good }

pub going-good : {X Y : Type 0} (c : X → ℕ) (f : ℕ → X → Y) (L : X → List (List ℕ)) (first done : List Y) (all rest more : List X) (x : X) (start to : ListsOf) → Going c f L first done all rest start to → rest ≡ x ∷ more
    → AllByRecursion IsSoundList (L x)
going-good c f L first done all rest more x start to g e = each-front IsSoundList (L x) (flat_map L more) (subst (λ r. AllByRecursion IsSoundList (flat_map L r)) e g.good)

pub going-next : {X Y : Type 0} (c : X → ℕ) (f : ℕ → X → Y) (L : X → List (List ℕ)) (first done new : List Y) (all rest more : List X) (x : X) (y : Y) (start to after : ListsOf) → ((x : X) → length (L x) ≡ c x)
    → Going c f L first done all rest start to → rest ≡ x ∷ more → y ≡ f to.next x → after ≡ with_lists to (L x) → new ≡ done ++ y ∷ [] → Going c f L first new all more start after
going-next {X} {Y} c f L first done new all rest more x y start to after count g e made lists n =
    let next : after.next ≡ to.next + c x = ap (λ (l : ListsOf). l.next) lists ∙ next-all to (L x) ∙ ap (λ (k : ℕ). to.next + k) (count x) in
    record {
      made = rw (n, next) (append_one done y (in_turn c f (to.next + c x) more)
          ∙ ap (λ (z : Y). done ++ z ∷ in_turn c f (to.next + c x) more) made
          ∙ ap (λ (r : List X). done ++ in_turn c f to.next r) (sym e) ∙ g.made);
      lists = rw lists (sym (lists-append to (L x) (flat_map L more)) ∙ ap (λ (r : List X). with_lists to (flat_map L r)) (sym e) ∙ g.lists);
      good = each-back IsSoundList (L x) (flat_map L more) (subst (λ (r : List X). AllByRecursion IsSoundList (flat_map L r)) e g.good);
    }

pub going-made : {X Y : Type 0} (c : X → ℕ) (f : ℕ → X → Y) (L : X → List (List ℕ)) (first done : List Y) (all rest : List X) (start to : ListsOf) → Going c f L first done all rest start to → rest ≡ [] → done ≡ first ++ in_turn c f start.next all
going-made {X} c f L first done all rest start to g e = sym (append-nil done) ∙ ap (λ (r : List X). done ++ in_turn c f to.next r) (sym e) ∙ g.made

pub going-lists : {X Y : Type 0} (c : X → ℕ) (f : ℕ → X → Y) (L : X → List (List ℕ)) (first done : List Y) (all rest : List X) (start to : ListsOf) → Going c f L first done all rest start to → rest ≡ [] → to ≡ with_lists start (flat_map L all)
going-lists {X} c f L first done all rest start to g e = ap (λ (r : List X). with_lists to (flat_map L r)) (sym e) ∙ g.lists

-- what is left of a list, one place on
pub left-next : {X : Type 0} (xs : List X) (i : ℕ) (x : X) → i < length xs → x ≡ get_or xs i x → drop i xs ≡ x ∷ drop (i + 1) xs
left-next {X} xs i x l e =
    let n : suc i ≡ i + 1 = omega arith in
    drop-cons xs i x l ∙ ap (λ (y : X). y ∷ drop (suc i) xs) (sym e) ∙ ap (λ (m : ℕ). x ∷ drop m xs) n

pub left-none : {X : Type 0} (xs : List X) (i : ℕ) → length xs ≤ i → drop i xs ≡ []
left-none [] zero h = refl
left-none [] (suc i) h = refl
left-none (x ∷ xs) zero h = absurd (omega arith)
left-none (x ∷ xs) (suc i) h = left-none xs i (omega arith)

-- ---- one list, value by value

set-insert : {X : Type 0} (n : ℕ) (w v : X) (es : List (ℕ × X)) → lookup (is_at (nat_cmp n)) es ≡ None → set_value (is_at (nat_cmp n)) (insert_entry nat_cmp es n w) v ≡ insert_entry nat_cmp es n v
set-insert n w v [] h = let e : is_at (nat_cmp n) n ≡ true = grind arith in rw e refl
set-insert {X} n w v (x ∷ xs) h = by (set-insert n w v xs) (nat_cmp n x.0) refl h
  where
    by : (lookup (is_at (nat_cmp n)) xs ≡ None → set_value (is_at (nat_cmp n)) (insert_entry nat_cmp xs n w) v ≡ insert_entry nat_cmp xs n v)
        → (o : Ordering) → nat_cmp n x.0 ≡ o → cond (is_eq o) (Some x.1) (lookup (is_at (nat_cmp n)) xs) ≡ None
        → set_value (is_at (nat_cmp n)) (match_ordering o ((n, w) ∷ x ∷ xs) ((x.0, w) ∷ xs) (x ∷ insert_entry nat_cmp xs n w)) v ≡ match_ordering o ((n, v) ∷ x ∷ xs) ((x.0, v) ∷ xs) (x ∷ insert_entry nat_cmp xs n v)
    by ih Less t q = let e : is_at (nat_cmp n) n ≡ true = grind arith in rw e refl
    by ih Equal t q = cc
    by ih Greater t q = rw t (ap (λ (l : List (ℕ × X)). x ∷ l) (ih q))

pub list-there : (l : ListsOf) (ys : List ℕ) → AreBelow l → IsSome (lookup (is_at (nat_cmp l.next)) (with_list l ys).lists)
list-there l ys b = let e = insert_entry-same l.next ys l.lists (free l b) in rw e refl

pub value-more : (l : ListsOf) (ys : List ℕ) (x : ℕ) → AreBelow l → list_any (nat_eq x) ys ≡ false → with_value (with_list l ys) l.next x ≡ with_list l (ys ++ x ∷ [])
value-more l ys x b new =
    let here : elements_of (with_list l ys).lists l.next ≡ ys = ap (λ (o : Option (List ℕ)). or_empty o) (insert_entry-same l.next ys l.lists (free l b)) in
    let absent : list_any (nat_eq x) (elements_of (with_list l ys).lists l.next) ≡ false = rw here new in
    with_value-new (with_list l ys) l.next x absent
    ∙ ap (λ (zs : List ℕ). record { lists = set_value (is_at (nat_cmp l.next)) (insert_entry nat_cmp l.lists l.next ys) (zs ++ x ∷ []); next = l.next + 1 }) here
    ∙ ap (λ (es : ValueLists). record { lists = es; next = l.next + 1 }) (set-insert l.next ys (ys ++ x ∷ []) l.lists (free l b))

times-front : (v : ℕ) (xs : List ℕ) (i : ℕ) → list_any (nat_eq v) (take i xs) ≡ true → 1 ≤ times v (take i xs)
times-front v xs zero h = cc
times-front v [] (suc i) h = cc
times-front v (x ∷ xs) (suc i) h = by (times-front v xs i) (nat_eq v x) refl h
  where
    one : nat_eq v x ≡ true → one_if (x == v) ≡ 1
    one e = let s : (x == v) ≡ true = grind arith in rw s refl

    by : (list_any (nat_eq v) (take i xs) ≡ true → 1 ≤ times v (take i xs)) → (b : Bool) → nat_eq v x ≡ b → (b || list_any (nat_eq v) (take i xs)) ≡ true → 1 ≤ one_if (x == v) + times v (take i xs)
    by ih true e h = omega (arith, one e)
    by ih false e h = omega (arith, ih h)

times-parts : (v : ℕ) (xs : List ℕ) (i : ℕ) (x : ℕ) → i < length xs → x ≡ get_or xs i x → times v (take i xs) + one_if (x == v) ≤ times v xs
times-parts v [] i x l e = absurd (omega arith)
times-parts v (y ∷ ys) zero x l e = let s : one_if (x == v) ≡ one_if (y == v) = ap (λ (z : ℕ). one_if (z == v)) e in omega arith
times-parts v (y ∷ ys) (suc i) x l e = omega (arith, times-parts v ys i x (omega arith) e)

-- a value of a list isn't among those before it
pub fresh-value : (xs : List ℕ) (i x : ℕ) → IsSoundList xs → i < length xs → x ≡ get_or xs i x → list_any (nat_eq x) (take i xs) ≡ false
fresh-value xs i x s l e = by (list_any (nat_eq x) (take i xs)) refl
  where
    by : (b : Bool) → list_any (nat_eq x) (take i xs) ≡ b → b ≡ false
    by true h =
        let a = times-front x xs i h in
        let b = times-parts x xs i x l e in
        let d : one_if (x == x) ≡ 1 = (let s : (x == x) ≡ true = grind arith in rw s refl) in
        let o = s.once x in
        absurd (omega arith)
    by false h = refl

pub first-two : (xs : List ℕ) → 2 ≤ length xs → get_or xs 0 0 ∷ get_or xs 1 0 ∷ [] ≡ take 2 xs
first-two [] h = absurd (omega arith)
first-two (x ∷ []) h = absurd (omega arith)
first-two (x ∷ y ∷ xs) h = refl

pub two-differ : (xs : List ℕ) → IsSoundList xs → nat_eq (get_or xs 1 0) (get_or xs 0 0) ≡ false
two-differ [] s = absurd (let h = s.two in omega arith)
two-differ (x ∷ []) s = absurd (let h = s.two in omega arith)
two-differ (x ∷ y ∷ xs) s = by (nat_eq y x) refl
  where
    by : (b : Bool) → nat_eq y x ≡ b → b ≡ false
    by true h =
        let o = s.once x in
        let d : one_if (x == x) ≡ 1 = (let s : (x == x) ≡ true = grind arith in rw s refl) in
        let e : one_if (y == x) ≡ 1 = (let s : (y == x) ≡ true = grind arith in rw s refl) in
        absurd (omega arith)
    by false h = refl

pub take-next : (xs : List ℕ) (i x : ℕ) → i < length xs → x ≡ get_or xs i x → take (i + 1) xs ≡ take i xs ++ x ∷ []
take-next xs i x l e = ap (λ (n : ℕ). take n xs) (let s : i + 1 ≡ suc i = omega arith in s) ∙ take-suc xs i x l ∙ ap (λ (y : ℕ). take i xs ++ y ∷ []) (sym e)

-- ---- entities behind others

pub entry-last : {X : Type 0} (es : List (ℕ × X)) (e : ℕ) (v : X) → AllByRecursion (λ k. nat_cmp k e ≡ Less) (keys_of es) → insert_entry nat_cmp es e v ≡ es ++ (e, v) ∷ []
entry-last [] e v a = refl
entry-last {X} (x ∷ xs) e v a =
    let g : nat_cmp e x.0 ≡ Greater = turned x.0 e a.0 in
    rw g (ap (λ (l : List (ℕ × X)). x ∷ l) (entry-last xs e v a.1))
  where
    turned : (k e : ℕ) → nat_cmp k e ≡ Less → nat_cmp e k ≡ Greater
    turned k e h = grind arith

keys-push : {X : Type 0} (xs : List (ℕ × X)) (e : ℕ) (v : X) → keys_of (xs ++ (e, v) ∷ []) ≡ keys_of xs ++ e ∷ []
keys-push [] e v = refl
keys-push (x ∷ xs) e v = ap (λ (l : List ℕ). x.0 ∷ l) (keys-push xs e v)

each-push : {X : Type 0} (P : X → Type 0) (xs : List X) (y : X) → AllByRecursion P xs → P y → AllByRecursion P (xs ++ y ∷ [])
each-push P [] y a p = (p, tt)
each-push P (x ∷ xs) y a p = (a.0, each-push P xs y a.1 p)

pub above-first : (first rest more : Entities) (x : ℕ × List (List (Option Pair))) → IsAbove first rest → rest ≡ x ∷ more → AllByRecursion (λ k. nat_cmp k x.0 ≡ Less) (keys_of first)
above-first first rest more x a e = each-weaker (λ k. AllByRecursion (λ f. nat_cmp k f ≡ Less) (keys_of rest)) (λ k. nat_cmp k x.0 ≡ Less) (λ k h. (subst (λ (r : Entities). AllByRecursion (λ f. nat_cmp k f ≡ Less) (keys_of r)) e h).0) (keys_of first) a

pub above-next : (first new rest more : Entities) (x : ℕ × List (List (Option Pair))) (v : List (List (Option Pair))) → IsAbove first rest → IsStrictlySortedBy nat_cmp (keys_of rest) → rest ≡ x ∷ more → new ≡ first ++ (x.0, v) ∷ [] → IsAbove new more
unfolding IsStrictlySortedBy
above-next first new rest more x v a s e n =
    rw (n, keys-push first x.0 v) (each-push (λ k. AllByRecursion (λ f. nat_cmp k f ≡ Less) (keys_of more)) (keys_of first) x.0
    (each-weaker (λ k. AllByRecursion (λ f. nat_cmp k f ≡ Less) (keys_of rest)) (λ k. AllByRecursion (λ f. nat_cmp k f ≡ Less) (keys_of more)) (λ k h. (subst (λ (r : Entities). AllByRecursion (λ f. nat_cmp k f ≡ Less) (keys_of r)) e h).1) (keys_of first) a)
    (subst (λ (r : Entities). IsStrictlySortedBy nat_cmp (keys_of r)) e s).0)

pub sorted-next : (rest more : Entities) (x : ℕ × List (List (Option Pair))) → IsStrictlySortedBy nat_cmp (keys_of rest) → rest ≡ x ∷ more → IsStrictlySortedBy nat_cmp (keys_of more)
unfolding IsStrictlySortedBy
sorted-next rest more x s e = (subst (λ (r : Entities). IsStrictlySortedBy nat_cmp (keys_of r)) e s).1
