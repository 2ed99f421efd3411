-- What every solution of a tree binds, and that solutions depend on those of the leaves as bags.
use Rattle.std.specs.Prelude.{◌≡◌, ℕ, zero, suc, ◌<◌, ◌⊎◌, Bool, true, false, ◌&&◌, ◌==◌, List, [], ◌∷◌, map, Option, Some, None, is_some, refl}
use Rattle.std.proofs.Common.{sym, ap, ap₂, ◌∙◌, subst, ltb, inl, inr}
use Rattle.std.proofs.lemmas.Bool.{and_parts, or_cases, or_left, or_right, cases_Bool, lt-ltb, le-ltb}
use Rattle.std.specs.List.{list_any, list_all, filter, AllByRecursion}
use Rattle.bags.specs.Bag.{total, SameBag}
use Rattle.bags.specs.BagLaws.{same-append, same-filter, each-append, each-map, each-flat_map, each-weaker, each-filter}
use Rattle.rdf_meaning.specs.Terms.{RdfTerm, RdfTriple, same_term}
use Rattle.rdf_meaning.specs.TermLaws.{same_term-self}
use Rattle.query_meaning.specs.declared.pattern.Pattern.{Pattern}
use Rattle.query_eval_meaning.specs.Mapping.{Mapping, set, width, compatible, either, merge}
use Rattle.query_eval_meaning.specs.Leaf.{terms_of, choices, assignments, holds, leaf}
use Rattle.query_eval_meaning.specs.Eval.{join, or_alone, found, left_join}
use Rattle.query_eval_meaning.specs.Variables.{Variables, Binds, IsOver, in_both, in_either}
use Rattle.query_meaning.specs.declared.tree.Tree.{Tree}
use Rattle.query_eval_meaning.specs.Eval.{eval, passes_over, holds_over, solutions}
use Rattle.query_eval_meaning.specs.EvalLaws.{eval-Leaf, eval-Join, eval-LeftJoin, eval-Union, eval-Filter}
use Rattle.query_eval_meaning.specs.Variables.{pattern_variables, variables_of, certain_of}
use Rattle.query_eval_meaning.specs.VariableLaws.{variables-Leaf, variables-Join, variables-LeftJoin, variables-Union, variables-Filter, certain-Leaf, certain-Join, certain-LeftJoin, certain-Union, certain-Filter}
use Rattle.query_algebra_laws.specs.MappingLaws.{none-is, merge-left, merge-none}
use Rattle.query_algebra_laws.specs.Assignments.{Shaped, each-assignments}
use Rattle.query_algebra_laws.specs.Joins.{same-join, same-left_join}
use Rattle.query_algebra_laws.specs.TreeInduction.{tree_induction}

-- ---- equal bags

-- a tree's solutions depend on those of its leaves as bags
pub eval-same : {L : Type 0} (leaves others : L → List Mapping) → ((l : L) → SameBag (leaves l) (others l)) → (t : Tree L) → SameBag (eval leaves t) (eval others t)
eval-same {L} leaves others e =
    tree_induction (λ t. SameBag (eval leaves t) (eval others t))
    (λ l. moved (eval-Leaf leaves l) (eval-Leaf others l) (e l))
    (λ a b p q. moved (eval-Join leaves a b) (eval-Join others a b) (same-join (eval leaves a) (eval others a) (eval leaves b) (eval others b) p q))
    (λ a b f p q. moved (eval-LeftJoin leaves a b f) (eval-LeftJoin others a b f) (same-left_join (passes_over f) (eval leaves a) (eval others a) (eval leaves b) (eval others b) p q))
    (λ a b p q. moved (eval-Union leaves a b) (eval-Union others a b) (same-append (eval leaves a) (eval others a) (eval leaves b) (eval others b) p q))
    (λ f a p. moved (eval-Filter leaves f a) (eval-Filter others f a) (same-filter (holds_over f) (eval leaves a) (eval others a) p))
  where
    moved : {xs ys us vs : List Mapping} → xs ≡ us → ys ≡ vs → SameBag us vs → SameBag xs ys
    moved p q s = record { totals = λ g. ap (total g) p ∙ s.totals g ∙ sym (ap (total g) q) }

-- ---- what holds of the sides' mappings, and of their merges

pub each-join : (P Q R : Mapping → Type 0) → ((a b : Mapping) → P a → Q b → R (merge a b)) → (ls rs : List Mapping) → AllByRecursion P ls → AllByRecursion Q rs → AllByRecursion R (join ls rs)
each-join P Q R f ls rs p q =
    each-flat_map R (λ a. map (merge a) (filter (compatible a) rs)) ls
    (each-weaker P (λ a. AllByRecursion R (map (merge a) (filter (compatible a) rs)))
    (λ a h. each-map R (merge a) (filter (compatible a) rs) (each-weaker Q (λ b. R (merge a b)) (λ b k. f a b h k) (filter (compatible a) rs) (each-filter Q (compatible a) rs q))) ls p)

each-or_alone : (R : Mapping → Type 0) (a : Mapping) (ms : List Mapping) → R a → AllByRecursion R ms → AllByRecursion R (or_alone a ms)
each-or_alone R a [] h all = (h, tt)
each-or_alone R a (m ∷ ms) h all = all

pub each-left_join : (P Q R : Mapping → Type 0) (passes : Mapping → Bool) → ((a b : Mapping) → P a → Q b → R (merge a b)) → ((a : Mapping) → P a → R a) → (ls rs : List Mapping) → AllByRecursion P ls → AllByRecursion Q rs → AllByRecursion R (left_join passes ls rs)
each-left_join P Q R passes f k ls rs p q =
    each-flat_map R (λ a. or_alone a (found passes rs a)) ls
    (each-weaker P (λ a. AllByRecursion R (or_alone a (found passes rs a)))
    (λ a h. each-or_alone R a (found passes rs a) (k a h)
    (each-filter R passes (map (merge a) (filter (compatible a) rs))
    (each-map R (merge a) (filter (compatible a) rs) (each-weaker Q (λ b. R (merge a b)) (λ b e. f a b h e) (filter (compatible a) rs) (each-filter Q (compatible a) rs q))))) ls p)

-- ---- certain variables

some_either : (x y : Option RdfTerm) → (is_some x ≡ true) ⊎ (is_some y ≡ true) → is_some (either x y) ≡ true
some_either (Some t) y h = refl
some_either None y (inl e) = cc
some_either None y (inr e) = e

pub binds-merge : (vs ws : Variables) (a b : Mapping) → Binds vs a → Binds ws b → Binds (in_either vs ws) (merge a b)
binds-merge vs ws a b p q = record { bound = λ v l e. at v l (or_cases (vs v) (ws v) e) }
  where
    at : (v : ℕ) → v < width → (vs v ≡ true) ⊎ (ws v ≡ true) → is_some (merge a b v) ≡ true
    at v l (inl e) = some_either (a v) (b v) (inl (p.bound v l e))
    at v l (inr e) = some_either (a v) (b v) (inr (q.bound v l e))

pub binds-left : (vs : Variables) (a b : Mapping) → Binds vs a → Binds vs (merge a b)
binds-left vs a b p = record { bound = λ v l e. some_either (a v) (b v) (inl (p.bound v l e)) }

binds-first : (vs ws : Variables) (a : Mapping) → Binds vs a → Binds (in_both vs ws) a
binds-first vs ws a p = record { bound = λ v l e. p.bound v l (and_parts (vs v) (ws v) e).0 }

binds-second : (vs ws : Variables) (a : Mapping) → Binds ws a → Binds (in_both vs ws) a
binds-second vs ws a p = record { bound = λ v l e. p.bound v l (and_parts (vs v) (ws v) e).1 }

-- every solution binds the certain variables, where each leaf's do
pub eval-binds : {L : Type 0} (leaves : L → List Mapping) (certain : L → Variables) → ((l : L) → AllByRecursion (Binds (certain l)) (leaves l)) → (t : Tree L) → AllByRecursion (Binds (certain_of certain t)) (eval leaves t)
eval-binds {L} leaves certain e =
    tree_induction (λ t. AllByRecursion (Binds (certain_of certain t)) (eval leaves t))
    (λ l. moved (certain-Leaf certain l) (eval-Leaf leaves l) (e l))
    (λ a b p q. moved (certain-Join certain a b) (eval-Join leaves a b)
    (each-join (Binds (of a)) (Binds (of b)) (Binds (in_either (of a) (of b))) (λ x y h k. binds-merge (of a) (of b) x y h k) (eval leaves a) (eval leaves b) p q))
    (λ a b f p q. moved (certain-LeftJoin certain a b f) (eval-LeftJoin leaves a b f)
    (each-left_join (Binds (of a)) (Binds (of b)) (Binds (of a)) (passes_over f) (λ x y h k. binds-left (of a) x y h) (λ x h. h) (eval leaves a) (eval leaves b) p q))
    (λ a b p q. moved (certain-Union certain a b) (eval-Union leaves a b)
    (each-append (Binds (in_both (of a) (of b))) (eval leaves a) (eval leaves b)
    (each-weaker (Binds (of a)) (Binds (in_both (of a) (of b))) (binds-first (of a) (of b)) (eval leaves a) p)
    (each-weaker (Binds (of b)) (Binds (in_both (of a) (of b))) (binds-second (of a) (of b)) (eval leaves b) q)))
    (λ f a p. moved (certain-Filter certain f a) (eval-Filter leaves f a) (each-filter (Binds (of a)) (holds_over f) (eval leaves a) p))
  where
    of : Tree L → Variables
    of t = certain_of certain t

    moved : {vs ws : Variables} {xs ys : List Mapping} → vs ≡ ws → xs ≡ ys → AllByRecursion (Binds ws) ys → AllByRecursion (Binds vs) xs
    moved {vs} {ws} {xs} {ys} p q all = subst (λ (us : Variables). AllByRecursion (Binds us) xs) (sym p) (subst (λ (zs : List Mapping). AllByRecursion (Binds ws) zs) (sym q) all)

-- ---- a tree's variables, and terms that stand in the triples

pub over-merge : (vs ws : Variables) (ts : List RdfTerm) (a b : Mapping) → IsOver vs ts a → IsOver ws ts b → IsOver (in_either vs ws) ts (merge a b)
over-merge vs ws ts a b p q = record { narrow = λ v l. ap₂ either (p.narrow v l) (q.narrow v l); alone = λ v e. alone v (cases_Bool (is_some (a v))) e; known = λ v t e. known v t (cases_Bool (is_some (a v))) e }
  where
    alone : (v : ℕ) → (is_some (a v) ≡ true) ⊎ (is_some (a v) ≡ false) → is_some (merge a b v) ≡ true → in_either vs ws v ≡ true
    alone v (inl h) e = or_left (vs v) (ws v) (p.alone v h)
    alone v (inr h) e = or_right (vs v) (ws v) (q.alone v (ap is_some (sym (merge-none a b v h)) ∙ e))

    known : (v : ℕ) (t : RdfTerm) → (is_some (a v) ≡ true) ⊎ (is_some (a v) ≡ false) → merge a b v ≡ Some t → list_any (same_term t) ts ≡ true
    known v t (inl h) e = p.known v t (sym (merge-left a b v h) ∙ e)
    known v t (inr h) e = q.known v t (sym (merge-none a b v h) ∙ e)

over-first : (vs ws : Variables) (ts : List RdfTerm) (a : Mapping) → IsOver vs ts a → IsOver (in_either vs ws) ts a
over-first vs ws ts a p = record { narrow = p.narrow; alone = λ v e. or_left (vs v) (ws v) (p.alone v e); known = p.known }

over-second : (vs ws : Variables) (ts : List RdfTerm) (a : Mapping) → IsOver ws ts a → IsOver (in_either vs ws) ts a
over-second vs ws ts a p = record { narrow = p.narrow; alone = λ v e. or_right (vs v) (ws v) (p.alone v e); known = p.known }

-- every solution binds the tree's variables alone, to terms that stand there, where each leaf's do
pub eval-over : {L : Type 0} (leaves : L → List Mapping) (vars : L → Variables) (ts : List RdfTerm) → ((l : L) → AllByRecursion (IsOver (vars l) ts) (leaves l)) → (t : Tree L) → AllByRecursion (IsOver (variables_of vars t) ts) (eval leaves t)
eval-over {L} leaves vars ts e =
    tree_induction (λ t. AllByRecursion (IsOver (variables_of vars t) ts) (eval leaves t))
    (λ l. moved (variables-Leaf vars l) (eval-Leaf leaves l) (e l))
    (λ a b p q. moved (variables-Join vars a b) (eval-Join leaves a b)
    (each-join (IsOver (of a) ts) (IsOver (of b) ts) (IsOver (in_either (of a) (of b)) ts) (λ x y h k. over-merge (of a) (of b) ts x y h k) (eval leaves a) (eval leaves b) p q))
    (λ a b f p q. moved (variables-LeftJoin vars a b f) (eval-LeftJoin leaves a b f)
    (each-left_join (IsOver (of a) ts) (IsOver (of b) ts) (IsOver (in_either (of a) (of b)) ts) (passes_over f) (λ x y h k. over-merge (of a) (of b) ts x y h k) (over-first (of a) (of b) ts) (eval leaves a) (eval leaves b) p q))
    (λ a b p q. moved (variables-Union vars a b) (eval-Union leaves a b)
    (each-append (IsOver (in_either (of a) (of b)) ts) (eval leaves a) (eval leaves b)
    (each-weaker (IsOver (of a) ts) (IsOver (in_either (of a) (of b)) ts) (over-first (of a) (of b) ts) (eval leaves a) p)
    (each-weaker (IsOver (of b) ts) (IsOver (in_either (of a) (of b)) ts) (over-second (of a) (of b) ts) (eval leaves b) q)))
    (λ f a p. moved (variables-Filter vars f a) (eval-Filter leaves f a) (each-filter (IsOver (of a) ts) (holds_over f) (eval leaves a) p))
  where
    of : Tree L → Variables
    of t = variables_of vars t

    moved : {vs ws : Variables} {xs ys : List Mapping} → vs ≡ ws → xs ≡ ys → AllByRecursion (IsOver ws ts) ys → AllByRecursion (IsOver vs ts) xs
    moved {vs} {ws} {xs} {ys} p q all = subst (λ (us : Variables). AllByRecursion (IsOver us ts) xs) (sym p) (subst (λ (zs : List Mapping). AllByRecursion (IsOver ws ts) zs) (sym q) all)

-- ---- leaves of patterns

-- each term of a list stands in it
pub members : (ts : List RdfTerm) → AllByRecursion (λ t. list_any (same_term t) ts ≡ true) ts
members [] = tt
members (t ∷ ts) = (
  or_left (same_term t t) (list_any (same_term t) ts) (same_term-self t),
  each-weaker (λ u. list_any (same_term u) ts ≡ true) (λ u. list_any (same_term u) (t ∷ ts) ≡ true) (λ u e. or_right (same_term u t) (list_any (same_term u) ts) e) ts (members ts),
)

abbrev Known : List RdfTerm → Option RdfTerm → Type 0
Known ts x = (t : RdfTerm) → x ≡ Some t → list_any (same_term t) ts ≡ true

known-choices : (b : Bool) (ts : List RdfTerm) → AllByRecursion (Known ts) (choices b ts)
known-choices false ts = ((λ t e. cc), tt)
known-choices true ts = each-map (Known ts) (λ (t : RdfTerm). Some t) ts (each-weaker (λ t. list_any (same_term t) ts ≡ true) (λ t. Known ts (Some t)) (λ t e u q. at t u e q) ts (members ts))
  where
    at : (t u : RdfTerm) → list_any (same_term t) ts ≡ true → Some t ≡ Some u → list_any (same_term u) ts ≡ true
    at t u e q = let same : t ≡ u = cc in subst (λ (x : RdfTerm). list_any (same_term x) ts ≡ true) same e

known-set : (ts : List RdfTerm) (n : ℕ) (x : Option RdfTerm) (m : Mapping) → Known ts x → ((v : ℕ) → Known ts (m v)) → (v : ℕ) → Known ts (set n x m v)
known-set ts n x m h k v = at (cases_Bool (v == n))
  where
    at : ((v == n) ≡ true) ⊎ ((v == n) ≡ false) → Known ts (set n x m v)
    at (inl e) = rw e h
    at (inr e) = rw e (k v)

known-assignments : (o : ℕ → Bool) (ts : List RdfTerm) (n : ℕ) → AllByRecursion (λ m. (v : ℕ) → Known ts (m v)) (assignments o ts n)
known-assignments o ts zero = ((λ v t e. cc), tt)
known-assignments o ts (suc n) =
    each-flat_map (λ m. (v : ℕ) → Known ts (m v)) (λ m. map (λ t. set n t m) (choices (o n) ts)) (assignments o ts n)
    (each-weaker (λ m. (v : ℕ) → Known ts (m v)) (λ m. AllByRecursion (λ k. (v : ℕ) → Known ts (k v)) (map (λ t. set n t m) (choices (o n) ts)))
    (λ m h. each-map (λ k. (v : ℕ) → Known ts (k v)) (λ t. set n t m) (choices (o n) ts)
    (each-weaker (Known ts) (λ x. (v : ℕ) → Known ts (set n x m v)) (λ x k. known-set ts n x m k h) (choices (o n) ts) (known-choices (o n) ts)))
    (assignments o ts n) (known-assignments o ts n))

both_hold : (P Q : Mapping → Type 0) (ms : List Mapping) → AllByRecursion P ms → AllByRecursion Q ms → AllByRecursion (λ m. P m × Q m) ms
both_hold P Q [] p q = tt
both_hold P Q (m ∷ ms) p q = ((p.0, q.0), both_hold P Q ms p.1 q.1)

pub leaf-over : (ps : List Pattern) (g : List RdfTriple) → AllByRecursion (IsOver (pattern_variables ps) (terms_of g)) (leaf ps g)
leaf-over ps g =
    let o = pattern_variables ps in
    let ts = terms_of g in
    each-filter (IsOver o ts) (λ m. list_all (holds g m) ps) (assignments o ts width)
    (each-weaker (λ m. Shaped o width m × ((v : ℕ) → Known ts (m v))) (IsOver o ts)
    (λ m h. record {
      narrow = λ v l. none-is (m v) (h.0 v ∙ ap (λ b. b && o v) (le-ltb v width l));
      alone = λ v e. (and_parts (ltb v width) (o v) (sym (h.0 v) ∙ e)).1;
      known = h.1;
    })
    (assignments o ts width) (both_hold (Shaped o width) (λ m. (v : ℕ) → Known ts (m v)) (assignments o ts width) (each-assignments o ts width) (known-assignments o ts width)))

pub leaf-binds : (ps : List Pattern) (g : List RdfTriple) → AllByRecursion (Binds (pattern_variables ps)) (leaf ps g)
leaf-binds ps g =
    let o = pattern_variables ps in
    let ts = terms_of g in
    each-filter (Binds o) (λ m. list_all (holds g m) ps) (assignments o ts width)
    (each-weaker (Shaped o width) (Binds o) (λ m h. record { bound = λ v l e. h v ∙ ap₂ (λ a b. a && b) (lt-ltb v width l) e }) (assignments o ts width) (each-assignments o ts width))

-- a solution of a query's tree binds its variables alone, to terms that stand in the triples
pub solutions-over : (tree : Tree (List Pattern)) (g : List RdfTriple) → AllByRecursion (IsOver (variables_of pattern_variables tree) (terms_of g)) (solutions tree g)
solutions-over tree g = eval-over (λ ps. leaf ps g) pattern_variables (terms_of g) (λ ps. leaf-over ps g) tree

-- and binds its certain variables
pub solutions-bind : (tree : Tree (List Pattern)) (g : List RdfTriple) → AllByRecursion (Binds (certain_of pattern_variables tree)) (solutions tree g)
solutions-bind tree g = eval-binds (λ ps. leaf ps g) pattern_variables (λ ps. leaf-binds ps g) tree
