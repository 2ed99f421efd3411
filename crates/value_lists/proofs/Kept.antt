-- Steps on the values of a list, and what is known of a list behind its id.
use Rattle.std.proofs.Common.{◌≡◌, ℕ, ℤ, zero, suc, ◌+◌, ◌-◌, ◌<◌, ◌≤◌, ◌==◌, nat_eq, ◌||◌, Bool, true, false, cond, List, [], ◌∷◌, ◌++◌, IsSome, length, take, get_or, remove, arith, refl, sym, ap, ◌∙◌}
use Rattle.std.specs.List.{list_any}
use Rattle.std.specs.Ordering.{nat_cmp}
use Rattle.std.specs.BTreeMap.{is_at}
use Rattle.std.specs.Map.{lookup}
use Rattle.std.specs.Set.{remove_key}
use Rattle.std.proofs.lemmas.List.Folds.{list_any_more}
use Rattle.layout_meaning.specs.Side.{elements_of}
use Rattle.layout_meaning.specs.Sound.{one_if, times}
use Rattle.layout_meaning.specs.Lists.{ListsOf, number_of}
use Rattle.layout_meaning.proofs.Sums.{total-remove_key, total-append}
use Rattle.layout_meaning.proofs.RowsKept.{times-none, at_most}

-- looking for a value from the back
pub front-some : (v n : ℕ) (xs : List ℕ) → list_any (nat_eq v) (take n xs) ≡ true → 0 < n
front-some v zero xs h = cc
front-some v (suc n) xs h = omega arith

pub front-less : (v n x : ℕ) (xs : List ℕ) → 0 < n → n ≤ length xs → x ≡ get_or xs (n - 1) x → nat_eq v x ≡ false → list_any (nat_eq v) (take n xs) ≡ true → list_any (nat_eq v) (take (n - 1) xs) ≡ true
front-less v zero x xs some within is differ h = absurd (omega arith)
front-less v (suc i) x xs some within is differ h =
    let n : suc i ≡ i + 1 = omega arith in
    let m : suc i - 1 ≡ i = omega arith in
    let more = list_any_more (nat_eq v) xs i x (omega arith) in
    let at : x ≡ get_or xs i x = is ∙ ap (λ (k : ℕ). get_or xs k x) m in
    let no : nat_eq v (get_or xs i x) ≡ false = ap (nat_eq v) (sym at) ∙ differ in
    let both : (list_any (nat_eq v) (take i xs) || nat_eq v (get_or xs i x)) ≡ true = sym more ∙ ap (λ (k : ℕ). list_any (nat_eq v) (take k xs)) (sym n) ∙ h in
    ap (λ (k : ℕ). list_any (nat_eq v) (take k xs)) m ∙ by (list_any (nat_eq v) (take i xs)) (nat_eq v (get_or xs i x)) no both
  where
    by : (a b : Bool) → b ≡ false → (a || b) ≡ true → a ≡ true
    by true b e f = refl
    by false b e f = sym e ∙ f

times-at : (v i d : ℕ) (xs : List ℕ) → i < length xs → get_or xs i d ≡ v → 1 ≤ times v xs
times-at v i d [] within is = absurd (omega arith)
times-at v zero d (x ∷ xs) within is = let one : one_if (x == v) ≡ 1 = grind arith in omega (arith, one)
times-at v (suc i) d (x ∷ xs) within is = omega (arith, times-at v i d xs (omega arith) is)

one-same : (v x : ℕ) → nat_eq v x ≡ true → one_if (x == v) ≡ 1
one-same v x e = let s : (x == v) ≡ true = grind arith in rw s refl

-- a value that stands once is taken out at its place
pub removed-once : (v i d : ℕ) (xs : List ℕ) → i < length xs → get_or xs i d ≡ v → times v xs ≤ 1 → remove xs i ≡ remove_key (nat_eq v) xs
removed-once v i d [] within is once = absurd (omega arith)
removed-once v zero d (x ∷ xs) within is once = let same : nat_eq v x ≡ true = grind arith in rw same refl
removed-once v (suc i) d (x ∷ xs) within is once = by (removed-once v i d xs (omega arith) is) (nat_eq v x) refl
  where
    by : (times v xs ≤ 1 → remove xs i ≡ remove_key (nat_eq v) xs) → (b : Bool) → nat_eq v x ≡ b → x ∷ remove xs i ≡ cond b xs (x ∷ remove_key (nat_eq v) xs)
    by ih true e =
        let one : one_if (x == v) ≡ 1 = one-same v x e in
        absurd (omega (arith, one, once, times-at v i d xs (omega arith) is))
    by ih false e = ap (λ (l : List ℕ). x ∷ l) (ih (omega (arith, once)))

-- which values are left, where none stands twice
pub any-removed : (v q : ℕ) (xs : List ℕ) → ((w : ℕ) → times w xs ≤ 1) → list_any (nat_eq q) (remove_key (nat_eq v) xs) ≡ cond (nat_eq v q) false (list_any (nat_eq q) xs)
any-removed v q [] h = by (nat_eq v q)
  where
    by : (b : Bool) → false ≡ cond b false false
    by true = refl
    by false = refl
any-removed v q (x ∷ xs) h = by (any-removed v q xs (λ (w : ℕ). (let a = h w in omega arith))) (nat_eq v x) refl (nat_eq v q) refl (nat_eq q x) refl
  where
    alone : x ≡ q → list_any (nat_eq q) xs ≡ false
    alone e = by (list_any (nat_eq q) xs) refl
      where
        by : (b : Bool) → list_any (nat_eq q) xs ≡ b → b ≡ false
        by true t =
            let a = total-remove_key (λ (z : ℕ). one_if (z == q)) q xs t in
            let b : one_if (q == q) ≡ 1 = grind arith in
            let d : one_if (x == q) ≡ 1 = ap (λ (z : ℕ). one_if (z == q)) e ∙ b in
            let f = h q in
            absurd (omega arith)
        by false t = refl

    by : (list_any (nat_eq q) (remove_key (nat_eq v) xs) ≡ cond (nat_eq v q) false (list_any (nat_eq q) xs)) → (a : Bool) → nat_eq v x ≡ a → (b : Bool) → nat_eq v q ≡ b → (c : Bool) → nat_eq q x ≡ c
        → list_any (nat_eq q) (cond a xs (x ∷ remove_key (nat_eq v) xs)) ≡ cond b false (c || list_any (nat_eq q) xs)
    by ih true s true t c u = let e : x ≡ q = grind arith in alone e
    by ih true s false t true u = absurd (grind arith)
    by ih true s false t false u = refl
    by ih false s true t true u = absurd (grind arith)
    by ih false s true t false u = ap (λ (b : Bool). b || list_any (nat_eq q) (remove_key (nat_eq v) xs)) u ∙ ih ∙ ap (λ (b : Bool). cond b false (list_any (nat_eq q) xs)) t
    by ih false s false t c u = ap (λ (b : Bool). b || list_any (nat_eq q) (remove_key (nat_eq v) xs)) u ∙ ap (λ (b : Bool). c || b) (ih ∙ ap (λ (b : Bool). cond b false (list_any (nat_eq q) xs)) t)

pub once-removed : (v : ℕ) (xs : List ℕ) → list_any (nat_eq v) xs ≡ true → ((w : ℕ) → times w xs ≤ 1) → (w : ℕ) → times w (remove_key (nat_eq v) xs) ≤ 1
once-removed v xs there h w = let a = total-remove_key (λ (z : ℕ). one_if (z == w)) v xs there in let b = h w in omega arith

-- the list behind an id
pub there-moved : (w l : ListsOf) (id : ℤ) (n : ℕ) → l ≡ w → n ≡ number_of id → IsSome (lookup (is_at (nat_cmp (number_of id))) w.lists) → IsSome (lookup (is_at (nat_cmp n)) l.lists)
there-moved w l id n e f h = rw (e, f) h

pub held-moved : (w l : ListsOf) (id : ℤ) (n x : ℕ) (b v : Bool) → l ≡ w → n ≡ number_of id → b ≡ list_any (nat_eq x) (elements_of w.lists (number_of id)) → b ≡ v → list_any (nat_eq x) (elements_of l.lists n) ≡ v
held-moved w l id n x b v e f g h = rw (e, f) (sym g ∙ h)

pub once-more : (v : ℕ) (xs : List ℕ) → list_any (nat_eq v) xs ≡ false → ((w : ℕ) → times w xs ≤ 1) → (w : ℕ) → times w (xs ++ v ∷ []) ≤ 1
once-more v xs new h w = at_most v w (times w (xs ++ v ∷ [])) (λ (z : ℕ). times z xs) (h w) (times-none v xs new) (omega (arith, total-append (λ (z : ℕ). one_if (z == w)) xs (v ∷ [])))

pub apart-test : (v w : ℕ) → (v ≡ w → ⊥) → (nat_eq w v || false) ≡ false
apart-test v w h = by (nat_eq w v) refl
  where
    by : (b : Bool) → nat_eq w v ≡ b → (b || false) ≡ false
    by true t = absurd (h (let e : v ≡ w = grind arith in e))
    by false t = refl

-- an answer about the list of an id, read at an equal one
pub held_at : (w : ListsOf) (x : ℕ) (i j : ℤ) (b : Bool) → i ≡ j → b ≡ list_any (nat_eq x) (elements_of w.lists (number_of i)) → b ≡ list_any (nat_eq x) (elements_of w.lists (number_of j))
held_at w x i j b e h = h ∙ ap (λ (z : ℤ). list_any (nat_eq x) (elements_of w.lists (number_of z))) e
