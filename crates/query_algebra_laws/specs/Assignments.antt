-- What assignments bind, and what a pattern says of a mapping.
use Rattle.std.specs.Prelude.{◌≡◌, ℕ, zero, suc, ◌<◌, ◌≤◌, ◌⊎◌, Bool, true, false, cond, if◌then◌else◌, ◌&&◌, List, [], ◌∷◌, map, Option, Some, is_some, refl}
use Rattle.std.proofs.Common.{sym, ap, ◌∙◌, arith, ltb, inl, inr}
use Rattle.std.proofs.lemmas.Bool.{eq-eqb, ne_eqb, or_left, or_right, lt-ltb, le-ltb, cases_eq, cases_lt}
use Rattle.std.specs.List.{list_any, list_all, AllByRecursion}
use Rattle.bags.specs.Bag.{total}
use Rattle.bags.specs.BagLaws.{total-same, total-map, total-flat_map, each-map, each-flat_map, each-weaker}
use Rattle.rdf_meaning.specs.Terms.{RdfTerm, RdfTriple, same_term}
use Rattle.query_meaning.specs.declared.pattern.Slot.{Slot}
use Rattle.query_meaning.specs.declared.pattern.Slot.TheVariants.{Var, Const}
use Rattle.query_meaning.specs.declared.pattern.Pattern.{Pattern}
use Rattle.query_eval_meaning.specs.Mapping.{Mapping, set}
use Rattle.query_eval_meaning.specs.Leaf.{with_term, terms_of, is_variable, in_pattern, choices, assignments, is_term, slot_is, instance_is, holds}
use Rattle.query_algebra_laws.specs.Choices.{Apart}

pub cond-and : (a b : Bool) (n : ℕ) → cond (a && b) n 0 ≡ cond b (cond a n 0) 0
cond-and true true n = refl
cond-and true false n = refl
cond-and false true n = refl
cond-and false false n = refl

pub total-assignments : (G : Mapping → ℕ) (o : ℕ → Bool) (ts : List RdfTerm) (v : ℕ) →
    total G (assignments o ts (suc v)) ≡ total (λ m. total (λ t. G (set v t m)) (choices (o v) ts)) (assignments o ts v)
total-assignments G o ts v =
    total-flat_map G (λ m. map (λ t. set v t m) (choices (o v) ts)) (assignments o ts v)
    ∙ total-same _ _ (λ m. total-map G (λ t. set v t m) (choices (o v) ts)) (assignments o ts v)

-- an assignment binds just the variables that occur, below n
abbrev pub Shaped : (ℕ → Bool) → ℕ → Mapping → Type 0
Shaped o n m = (v : ℕ) → is_some (m v) ≡ (ltb v n && o v)

each-choices : (b : Bool) (ts : List RdfTerm) → AllByRecursion (λ t. is_some t ≡ b) (choices b ts)
each-choices false ts = (refl, tt)
each-choices true ts = somes ts
  where
    somes : (ts : List RdfTerm) → AllByRecursion (λ t. is_some t ≡ true) (map (λ (t : RdfTerm). Some t) ts)
    somes [] = tt
    somes (t ∷ ts) = (refl, somes ts)

one_more : (v n : ℕ) → (v ≡ n → ⊥) → ltb v n ≡ ltb v (suc n)
one_more v n q = go (cases_lt v n)
  where
    go : (v < n) ⊎ (n ≤ v) → ltb v n ≡ ltb v (suc n)
    go (inl l) = rw (lt-ltb v n l, lt-ltb v (suc n) (omega arith)) refl
    go (inr l) = rw (le-ltb v n l, le-ltb v (suc n) (omega arith)) refl

shaped-set : (o : ℕ → Bool) (n : ℕ) (t : Option RdfTerm) (m : Mapping) → Shaped o n m → is_some t ≡ o n → Shaped o (suc n) (set n t m)
shaped-set o n t m s e v = go (cases_eq v n)
  where
    go : (v ≡ n) ⊎ (v ≡ n → ⊥) → is_some (set n t m v) ≡ (ltb v (suc n) && o v)
    go (inl q) = rw (q, eq-eqb n n refl, lt-ltb n (suc n) (omega arith)) e
    go (inr q) = rw (ne_eqb v n q) (s v ∙ ap (λ b. b && o v) (one_more v n q))

pub each-assignments : (o : ℕ → Bool) (ts : List RdfTerm) (n : ℕ) → AllByRecursion (Shaped o n) (assignments o ts n)
each-assignments o ts zero = (λ v. sym (ap (λ b. b && o v) (le-ltb v 0 (omega arith))), tt)
each-assignments o ts (suc n) =
    each-flat_map (Shaped o (suc n)) (λ m. map (λ t. set n t m) (choices (o n) ts)) (assignments o ts n)
    (each-weaker (Shaped o n) (λ m. AllByRecursion (Shaped o (suc n)) (map (λ t. set n t m) (choices (o n) ts)))
    (λ m s. each-map (Shaped o (suc n)) (λ t. set n t m) (choices (o n) ts)
    (each-weaker (λ t. is_some t ≡ o n) (λ t. Shaped o (suc n) (set n t m)) (λ t e. shaped-set o n t m s e) (choices (o n) ts) (each-choices (o n) ts)))
    (assignments o ts n) (each-assignments o ts n))

slot-same : (m k : Mapping) (x : Slot) (t : RdfTerm) → ((v : ℕ) → is_variable v x ≡ true → m v ≡ k v) → slot_is m x t ≡ slot_is k x t
slot-same m k (Var v) t e = ap (λ o. is_term o t) (e v (eq-eqb v v refl))
slot-same m k (Const c) t e = refl

pub instance-same : (m k : Mapping) (p : Pattern) (t : RdfTriple) → ((v : ℕ) → in_pattern v p ≡ true → m v ≡ k v) → instance_is m p t ≡ instance_is k p t
instance-same m k p t e =
    let a : slot_is m p.s t.s ≡ slot_is k p.s t.s = slot-same m k p.s t.s (λ v h. e v (or_left _ _ h)) in
    let b : slot_is m p.p t.p ≡ slot_is k p.p t.p = slot-same m k p.p t.p (λ v h. e v (or_right _ _ (or_left _ _ h))) in
    let c : slot_is m p.o t.o ≡ slot_is k p.o t.o = slot-same m k p.o t.o (λ v h. e v (or_right _ _ (or_right _ _ h))) in
    rw (a, b, c) refl

pub any-same : {X : Type 0} (p q : X → Bool) → ((x : X) → p x ≡ q x) → (xs : List X) → list_any p xs ≡ list_any q xs
any-same p q e [] = refl
any-same p q e (x ∷ xs) = rw (e x, any-same p q e xs) refl

pub all-holds-same : (g : List RdfTriple) (m k : Mapping) (ps : List Pattern) → ((v : ℕ) → list_any (in_pattern v) ps ≡ true → m v ≡ k v) → list_all (holds g m) ps ≡ list_all (holds g k) ps
all-holds-same g m k [] e = refl
all-holds-same g m k (p ∷ ps) e =
    let a : holds g m p ≡ holds g k p = any-same (instance_is m p) (instance_is k p) (λ t. instance-same m k p t (λ v h. e v (or_left _ _ h))) g in
    let b : list_all (holds g m) ps ≡ list_all (holds g k) ps = all-holds-same g m k ps (λ v h. e v (or_right _ _ h)) in
    rw (a, b) refl

apart-with : (t : RdfTerm) (ts : List RdfTerm) → Apart ts → Apart (with_term t ts)
apart-with t ts a = go (list_any (same_term t) ts) refl
  where
    go : (b : Bool) → list_any (same_term t) ts ≡ b → Apart (if b then ts else t ∷ ts)
    go true e = a
    go false e = (e, a)

pub terms-apart : (g : List RdfTriple) → Apart (terms_of g)
terms-apart [] = tt
terms-apart (t ∷ g) = apart-with t.s _ (apart-with t.p _ (apart-with t.o _ (terms-apart g)))

abbrev pub occurring : List Pattern → ℕ → Bool
occurring ps v = list_any (in_pattern v) ps
