-- A leaf of several patterns is the join of their leaves.
use Rattle.std.specs.Prelude.{◌≡◌, ℕ, zero, suc, ◌<◌, ◌⊎◌, Bool, true, false, cond, if◌then◌else◌, ◌&&◌, ◌||◌, ◌==◌, List, [], ◌∷◌, ◌++◌, map, Option, None, is_some, refl, not}
use Rattle.std.proofs.Common.{sym, ap, ap₂, ◌∙◌, arith, ltb, inl, inr}
use Rattle.std.proofs.Math.Path.{fun_ext}
use Rattle.std.proofs.lemmas.Bool.{and_parts, cases_Bool, ltb-true}
use Rattle.std.specs.List.{list_any, list_all, filter}
use Rattle.std.proofs.lemmas.List.Folds.{list_any-append}
use Rattle.bags.specs.Bag.{total, SameBag}
use Rattle.bags.specs.BagLaws.{same-any, total-same, total-each, total-cond, total-map, total-flat_map, total-filter, total-swap}
use Rattle.rdf_meaning.specs.Terms.{RdfTerm, RdfTriple}
use Rattle.query_meaning.specs.declared.pattern.Pattern.{Pattern}
use Rattle.query_eval_meaning.specs.Mapping.{Mapping, nothing, set, width, agree, agree_below, compatible, either, merge}
use Rattle.query_eval_meaning.specs.Leaf.{terms_of, in_pattern, choices, assignments, holds, leaf}
use Rattle.query_eval_meaning.specs.Eval.{join}
use Rattle.query_algebra_laws.specs.Choices.{Apart, total-choices}
use Rattle.query_algebra_laws.specs.MappingLaws.{set-same, agree_below-set, merge-set, merge-left, merge-none, agreed, either-right, none-is}
use Rattle.query_algebra_laws.specs.Assignments.{cond-and, total-assignments, Shaped, each-assignments, all-holds-same, terms-apart, occurring}

-- the assignments of two sets of variables, joined
pub assignments_join : (o q : ℕ → Bool) (ts : List RdfTerm) → Apart ts → (n : ℕ) (F : Mapping → ℕ) →
    total (λ a. total (λ b. cond (agree_below n a b) (F (merge a b)) 0) (assignments q ts n)) (assignments o ts n) ≡ total F (assignments (λ v. o v || q v) ts n)
assignments_join o q ts apart zero F = omega arith
assignments_join o q ts apart (suc v) F =
    let A = assignments o ts v in
    let B = assignments q ts v in
    let K : Mapping → Mapping → ℕ = λ a b. cond (agree_below (suc v) a b) (F (merge a b)) 0 in
    let G : Mapping → ℕ = λ m. total (λ x. total (λ y. cond (agree x y) (F (set v (either x y) m)) 0) (choices (q v) ts)) (choices (o v) ts) in
    let one : (a b : Mapping) (x y : Option RdfTerm) → K (set v x a) (set v y b) ≡ cond (agree_below v a b) (cond (agree x y) (F (set v (either x y) (merge a b))) 0) 0 =
    λ a b x y. rw (set-same v x a, set-same v y b, agree_below-set v v x y a b (omega arith), merge-set v x y a b) (cond-and (agree x y) (agree_below v a b) (F (set v (either x y) (merge a b)))) in
    let inner : (a b : Mapping) (x : Option RdfTerm) → total (λ y. K (set v x a) (set v y b)) (choices (q v) ts) ≡ cond (agree_below v a b) (total (λ y. cond (agree x y) (F (set v (either x y) (merge a b))) 0) (choices (q v) ts)) 0 =
    λ a b x. total-same _ _ (λ y. one a b x y) (choices (q v) ts) ∙ total-cond (agree_below v a b) (λ y. cond (agree x y) (F (set v (either x y) (merge a b))) 0) (choices (q v) ts) in
    let each : (a b : Mapping) → total (λ x. total (λ y. K (set v x a) (set v y b)) (choices (q v) ts)) (choices (o v) ts) ≡ cond (agree_below v a b) (G (merge a b)) 0 =
    λ a b. total-same _ _ (λ x. inner a b x) (choices (o v) ts) ∙ total-cond (agree_below v a b) (λ x. total (λ y. cond (agree x y) (F (set v (either x y) (merge a b))) 0) (choices (q v) ts)) (choices (o v) ts) in
    let rows : (a : Mapping) → total (λ x. total (K (set v x a)) (assignments q ts (suc v))) (choices (o v) ts) ≡ total (λ b. cond (agree_below v a b) (G (merge a b)) 0) B =
    λ a. total-same _ _ (λ x. total-assignments (K (set v x a)) q ts v) (choices (o v) ts)
    ∙ total-swap (λ x b. total (λ y. K (set v x a) (set v y b)) (choices (q v) ts)) (choices (o v) ts) B
    ∙ total-same _ _ (λ b. each a b) B in
    total-assignments (λ a. total (K a) (assignments q ts (suc v))) o ts v
    ∙ total-same _ _ rows A
    ∙ assignments_join o q ts apart v G
    ∙ total-same _ _ (λ m. total-choices (o v) (q v) (λ z. F (set v z m)) ts apart) (assignments (λ w. o w || q w) ts v)
    ∙ sym (total-assignments F (λ w. o w || q w) ts v)

-- ---- the leaf of two lists of patterns

below_from : (o : ℕ → Bool) (n v : ℕ) (x : Option RdfTerm) → is_some x ≡ (ltb v n && o v) → is_some x ≡ true → v < n
below_from o n v x e h = ltb-true v n (and_parts (ltb v n) (o v) (sym e ∙ h)).0

-- a variable that occurs on the left, or on the right
pub left-kept : (o q : ℕ → Bool) (n : ℕ) (a b : Mapping) → Shaped o n a → Shaped q n b → (v : ℕ) → o v ≡ true → a v ≡ merge a b v
left-kept o q n a b s t v e = go (cases_Bool (ltb v n))
  where
    go : (ltb v n ≡ true) ⊎ (ltb v n ≡ false) → a v ≡ merge a b v
    go (inl l) = sym (merge-left a b v (s v ∙ ap₂ (λ x y. x && y) l e))
    go (inr l) =
        let na : is_some (a v) ≡ false = s v ∙ ap (λ x. x && o v) l in
        let nb : is_some (b v) ≡ false = t v ∙ ap (λ x. x && q v) l in
        none-is (a v) na ∙ sym (none-is (b v) nb) ∙ sym (merge-none a b v na)

pub right-kept : (o q : ℕ → Bool) (n : ℕ) (a b : Mapping) → Shaped o n a → Shaped q n b → agree_below n a b ≡ true → (v : ℕ) → q v ≡ true → b v ≡ merge a b v
right-kept o q n a b s t h v e = go (cases_Bool (ltb v n))
  where
    go : (ltb v n ≡ true) ⊎ (ltb v n ≡ false) → b v ≡ merge a b v
    go (inl l) = sym (either-right (a v) (b v) (t v ∙ ap₂ (λ x y. x && y) l e) (agreed n a b h v (ltb-true v n l)))
    go (inr l) = sym (merge-none a b v (s v ∙ ap (λ x. x && o v) l))

and_assoc : (a b c : Bool) → ((a && b) && c) ≡ (a && (b && c))
and_assoc true b c = refl
and_assoc false b c = refl

all-append : {X : Type 0} (p : X → Bool) (xs ys : List X) → list_all p (xs ++ ys) ≡ (list_all p xs && list_all p ys)
all-append p [] ys = refl
all-append p (x ∷ xs) ys = ap (λ b. p x && b) (all-append p xs ys) ∙ sym (and_assoc (p x) (list_all p xs) (list_all p ys))

-- a chosen term of a sum over a join of filtered lists
pub total-join : (g : Mapping → ℕ) (p q : Mapping → Bool) (xs ys : List Mapping) →
    total g (join (filter p xs) (filter q ys)) ≡ total (λ a. cond (p a) (total (λ b. cond (q b) (cond (compatible a b) (g (merge a b)) 0) 0) ys) 0) xs
total-join g p q xs ys =
    total-flat_map g (λ a. map (merge a) (filter (compatible a) (filter q ys))) (filter p xs)
    ∙ total-filter (λ a. total g (map (merge a) (filter (compatible a) (filter q ys)))) p xs
    ∙ total-same _ _ (λ a. ap (λ n. cond (p a) n 0)
    (total-map g (merge a) (filter (compatible a) (filter q ys))
    ∙ total-filter (λ b. g (merge a b)) (compatible a) (filter q ys)
    ∙ total-filter (λ b. cond (compatible a b) (g (merge a b)) 0) q ys)) xs

at_compat : (c pa qb pm qm : Bool) (x : ℕ) → (c ≡ true → pa ≡ pm) → (c ≡ true → qb ≡ qm) → cond pa (cond qb (cond c x 0) 0) 0 ≡ cond c (cond (pm && qm) x 0) 0
at_compat true pa qb pm qm x e f = rw (e refl, f refl) (both pm qm)
  where
    both : (p q : Bool) → cond p (cond q x 0) 0 ≡ cond (p && q) x 0
    both true q = refl
    both false q = refl
at_compat false pa qb pm qm x e f = none pa qb
  where
    none : (p q : Bool) → ◌≡◌ {A = ℕ} (cond p (cond q 0 0) 0) 0
    none true true = refl
    none true false = refl
    none false q = refl

pub leaf_append : (ps qs : List Pattern) (g : List RdfTriple) → SameBag (leaf (ps ++ qs) g) (join (leaf ps g) (leaf qs g))
leaf_append ps qs g = record {
  totals = λ h.
      let o = occurring ps in
      let q = occurring qs in
      let ts = terms_of g in
      let A = assignments o ts width in
      let B = assignments q ts width in
      let P : Mapping → Bool = λ m. list_all (holds g m) ps in
      let Q : Mapping → Bool = λ m. list_all (holds g m) qs in
      let F : Mapping → ℕ = λ m. cond (P m && Q m) (h m) 0 in
      let at : (a b : Mapping) → Shaped o width a → Shaped q width b → cond (P a) (cond (Q b) (cond (compatible a b) (h (merge a b)) 0) 0) 0 ≡ cond (compatible a b) (F (merge a b)) 0 =
      λ a b s t. at_compat (compatible a b) (P a) (Q b) (P (merge a b)) (Q (merge a b)) (h (merge a b))
      (λ c. all-holds-same g a (merge a b) ps (left-kept o q width a b s t))
      (λ c. all-holds-same g b (merge a b) qs (right-kept o q width a b s t c)) in
      let left : total h (leaf (ps ++ qs) g) ≡ total F (assignments (λ v. o v || q v) ts width) =
      total-filter h (λ m. list_all (holds g m) (ps ++ qs)) (assignments (occurring (ps ++ qs)) ts width)
      ∙ total-same _ _ (λ m. ap (λ b. cond b (h m) 0) (all-append (holds g m) ps qs)) (assignments (occurring (ps ++ qs)) ts width)
      ∙ ap (λ (o : ℕ → Bool). total F (assignments o ts width)) (fun_ext (λ v. list_any-append (in_pattern v) ps qs)) in
      let right : total h (join (leaf ps g) (leaf qs g)) ≡ total (λ a. total (λ b. cond (compatible a b) (F (merge a b)) 0) B) A =
      total-join h P Q A B
      ∙ total-each _ _ (Shaped o width) (λ a s. sym (total-cond (P a) (λ b. cond (Q b) (cond (compatible a b) (h (merge a b)) 0) 0) B)
      ∙ total-each _ _ (Shaped q width) (λ b t. at a b s t) B (each-assignments q ts width)) A (each-assignments o ts width) in
      left ∙ sym (assignments_join o q ts (terms-apart g) width F) ∙ sym right;
}

-- the leaf of no patterns has one empty mapping
set-nothing : (v : ℕ) → set v None nothing ≡ nothing
set-nothing v = fun_ext (λ w. at (w == v))
  where
    at : (b : Bool) → ◌≡◌ {A = Option RdfTerm} (if b then None else None) None
    at true = refl
    at false = refl

assignments-nothing : (ts : List RdfTerm) (n : ℕ) → assignments (λ v. false) ts n ≡ nothing ∷ []
assignments-nothing ts zero = refl
assignments-nothing ts (suc v) = rw (assignments-nothing ts v) (ap (λ (m : Mapping). m ∷ []) (set-nothing v))

pub leaf_nothing : (g : List RdfTriple) → leaf [] g ≡ nothing ∷ []
leaf_nothing g = ap (filter (λ (m : Mapping). true)) (assignments-nothing (terms_of g) width)

-- ---- the order of patterns

all-not : {X : Type 0} (p : X → Bool) (xs : List X) → list_all p xs ≡ not (list_any (λ x. not (p x)) xs)
all-not p [] = refl
all-not p (x ∷ xs) = go (cases_Bool (p x)) (all-not p xs)
  where
    go : (p x ≡ true) ⊎ (p x ≡ false) → list_all p xs ≡ not (list_any (λ x. not (p x)) xs) → (p x && list_all p xs) ≡ not (not (p x) || list_any (λ x. not (p x)) xs)
    go (inl e) h = rw e h
    go (inr e) h = rw e refl

same-all : {X : Type 0} (p : X → Bool) (xs ys : List X) → SameBag xs ys → list_all p xs ≡ list_all p ys
same-all p xs ys s = all-not p xs ∙ ap not (same-any (λ x. not (p x)) xs ys s) ∙ sym (all-not p ys)

-- patterns in another order have the same solutions
pub leaf-order : (ps qs : List Pattern) (g : List RdfTriple) → SameBag ps qs → leaf ps g ≡ leaf qs g
leaf-order ps qs g s =
    let keeps : (λ m. list_all (holds g m) ps) ≡ (λ m. list_all (holds g m) qs) = fun_ext (λ m. same-all (holds g m) ps qs s) in
    let occurs : (λ v. list_any (in_pattern v) ps) ≡ (λ v. list_any (in_pattern v) qs) = fun_ext (λ v. same-any (in_pattern v) ps qs s) in
    ap₂ (λ (k : Mapping → Bool) (o : ℕ → Bool). filter k (assignments o (terms_of g) width)) keeps occurs
