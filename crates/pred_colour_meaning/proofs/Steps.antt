-- One more predicate takes its turn.
use Rattle.std.proofs.Common.{◌≡◌, ℕ, nat_eq, ◌&&◌, ◌||◌, Bool, true, false, cond, List, [], ◌∷◌, ◌++◌, Option, Some, None, Less, refl, sym, ap, ◌∙◌, arith, subst}
use Rattle.std.specs.List.{list_any, AllByRecursion}
use Rattle.std.specs.Ordering.{nat_cmp, is_lt}
use Rattle.std.specs.BTreeMap.{is_at}
use Rattle.std.specs.Map.{keys_of}
use Rattle.bags.specs.BagLaws.{each-weaker}
use Rattle.pred_colour_meaning.specs.Interference.{Graph, has, neighbours_of}
use Rattle.pred_colour_meaning.specs.Colouring.{rank, column_of, is_column, is_taken, is_seen, IsLeastFree, AreColours}
use Rattle.pred_colour_meaning.proofs.Ranks.{not_before_itself, not_behind, strict-push, each-append}

pub any-same : {X : Type 0} (f h : X → Bool) → ((x : X) → f x ≡ h x) → (xs : List X) → list_any f xs ≡ list_any h xs
any-same f h e [] = refl
any-same f h e (x ∷ xs) = rw (e x) (ap (λ (b : Bool). h x || b) (any-same f h e xs))

pub same_number : (p q : ℕ) → nat_eq p q ≡ true → p ≡ q
same_number p q h = grind arith

pub at_other : (q p : ℕ) → nat_eq q p ≡ false → is_at (nat_cmp q) p ≡ false
at_other q p h = grind arith

pub at_itself : (p : ℕ) → is_at (nat_cmp p) p ≡ true
at_itself p = grind arith

pub is_at-same : (q p : ℕ) → is_at (nat_cmp q) p ≡ nat_eq q p
is_at-same q p = by (nat_eq q p) refl
  where
    by : (b : Bool) → nat_eq q p ≡ b → is_at (nat_cmp q) p ≡ b
    by false e = at_other q p e
    by true e = subst (λ (r : ℕ). is_at (nat_cmp q) r ≡ true) (same_number q p e) (at_itself q)

-- what holds of each holds of one that is there
pub each_has : (P : ℕ → Type 0) (xs : List ℕ) (q : ℕ) → AllByRecursion P xs → has q xs ≡ true → P q
each_has P [] q a h = cc
each_has P (x ∷ xs) q a h = by (each_has P xs q a.1) (nat_eq q x) refl h
  where
    by : (has q xs ≡ true → P q) → (b : Bool) → nat_eq q x ≡ b → (b || has q xs) ≡ true → P q
    by ih true e h = subst P (sym (same_number q x e)) a.0
    by ih false e h = ih h

pub key_of_column : (xs : List (ℕ × ℕ)) (q c : ℕ) → column_of xs q ≡ Some c → has q (keys_of xs) ≡ true
key_of_column [] q c h = cc
key_of_column (x ∷ xs) q c h = by (key_of_column xs q c) (nat_eq q x.0) refl (rw (is_at-same q x.0) at h)
  where
    by : (column_of xs q ≡ Some c → has q (keys_of xs) ≡ true) → (b : Bool) → nat_eq q x.0 ≡ b → cond b (Some x.1) (column_of xs q) ≡ Some c → (b || has q (keys_of xs)) ≡ true
    by ih true e h = refl
    by ih false e h = ih h

pub column-other : (q p c : ℕ) (xs : List (ℕ × ℕ)) → nat_eq q p ≡ false → column_of (xs ++ (p, c) ∷ []) q ≡ column_of xs q
column-other q p c [] h = rw (at_other q p h) refl
column-other q p c (x ∷ xs) h = ap (λ (o : Option ℕ). cond (is_at (nat_cmp q) x.0) (Some x.1) o) (column-other q p c xs h)

pub column-new : (p c : ℕ) (xs : List (ℕ × ℕ)) → column_of xs p ≡ None → column_of (xs ++ (p, c) ∷ []) p ≡ Some c
column-new p c [] h = rw (at_itself p) refl
column-new p c (x ∷ xs) h = by (column-new p c xs) (is_at (nat_cmp p) x.0) h
  where
    by : (column_of xs p ≡ None → column_of (xs ++ (p, c) ∷ []) p ≡ Some c) → (b : Bool) → cond b (Some x.1) (column_of xs p) ≡ None → cond b (Some x.1) (column_of (xs ++ (p, c) ∷ []) p) ≡ Some c
    by ih true h = cc
    by ih false h = ih h

pub least-same : (t u : ℕ → Bool) (k : ℕ) (o : Option ℕ) → ((c : ℕ) → t c ≡ u c) → IsLeastFree t k o → IsLeastFree u k o
least-same t u k None e h = λ c l. sym (e c) ∙ h c l
least-same t u k (Some c) e h = (h.0, sym (e c) ∙ h.1, λ d l. sym (e d) ∙ h.2 d l)

and_false : (b : Bool) → (b && false) ≡ false
and_false true = refl
and_false false = refl

-- p comes after all that had their turn
abbrev pub ComesAfter : Graph → ℕ → List ℕ → Type 0
ComesAfter g p before = AllByRecursion (λ q. rank g q p ≡ Less) before

early : (g : Graph) (k : ℕ) (before : List ℕ) (p : ℕ) (xs : List (ℕ × ℕ)) → ComesAfter g p before → AreColours g k before xs → (q c : ℕ) → column_of xs q ≡ Some c → rank g q p ≡ Less
early g k before p xs after a q c h =
    let b : has q before ≡ true = each_has (λ q. has q before ≡ true) (keys_of xs) q a.among (key_of_column xs q c h) in
    each_has (λ q. rank g q p ≡ Less) before q after b

pub fresh : (g : Graph) (k : ℕ) (before : List ℕ) (p : ℕ) (xs : List (ℕ × ℕ)) → ComesAfter g p before → AreColours g k before xs → column_of xs p ≡ None
fresh g k before p xs after a = by (column_of xs p) refl
  where
    by : (o : Option ℕ) → column_of xs p ≡ o → o ≡ None
    by None h = refl
    by (Some c) h =
        let e : true ≡ false = sym (ap is_lt (early g k before p xs after a p c h)) ∙ not_before_itself g p in
        cc

-- what p finds taken is what its neighbours have
now : (g : Graph) (k : ℕ) (before : List ℕ) (p : ℕ) (xs ys : List (ℕ × ℕ)) → ComesAfter g p before → AreColours g k before xs
    → ((r : ℕ) → nat_eq r p ≡ false → column_of ys r ≡ column_of xs r) → (c r : ℕ) → (is_lt (rank g r p) && is_column c (column_of ys r)) ≡ is_column c (column_of xs r)
now g k before p xs ys after a other c r = by (nat_eq r p) refl
  where
    known : (o : Option ℕ) → column_of xs r ≡ o → (is_lt (rank g r p) && is_column c o) ≡ is_column c o
    known None h = and_false (is_lt (rank g r p))
    known (Some d) h = rw (ap is_lt (early g k before p xs after a r d h)) refl

    by : (b : Bool) → nat_eq r p ≡ b → (is_lt (rank g r p) && is_column c (column_of ys r)) ≡ is_column c (column_of xs r)
    by true e =
        let h : r ≡ p = same_number r p e in
        let z : is_lt (rank g r p) ≡ false = subst (λ (s : ℕ). is_lt (rank g r s) ≡ false) h (not_before_itself g r) in
        let n : column_of xs r ≡ None = subst (λ (s : ℕ). column_of xs s ≡ None) (sym h) (fresh g k before p xs after a) in
        rw (z, n) refl
    by false e = rw (other r e) (known (column_of xs r) refl)

-- p is not before those that had their turn
old : (g : Graph) (p q : ℕ) (xs ys : List (ℕ × ℕ)) → rank g q p ≡ Less
    → ((r : ℕ) → nat_eq r p ≡ false → column_of ys r ≡ column_of xs r) → (c r : ℕ) → (is_lt (rank g r q) && is_column c (column_of xs r)) ≡ (is_lt (rank g r q) && is_column c (column_of ys r))
old g p q xs ys less other c r = by (nat_eq r p) refl
  where
    by : (b : Bool) → nat_eq r p ≡ b → (is_lt (rank g r q) && is_column c (column_of xs r)) ≡ (is_lt (rank g r q) && is_column c (column_of ys r))
    by true e =
        let z : is_lt (rank g r q) ≡ false = subst (λ (s : ℕ). is_lt (rank g s q) ≡ false) (sym (same_number r p e)) (not_behind g q p less) in
        rw z refl
    by false e = rw (other r e) refl

has-push : (q p : ℕ) (xs : List ℕ) → nat_eq q p ≡ false → has q (xs ++ p ∷ []) ≡ true → has q xs ≡ true
has-push q p [] e h = rw e at h
has-push q p (x ∷ xs) e h = by (nat_eq q x) (has-push q p xs e) h
  where
    by : (b : Bool) → (has q (xs ++ p ∷ []) ≡ true → has q xs ≡ true) → (b || has q (xs ++ p ∷ [])) ≡ true → (b || has q xs) ≡ true
    by true ih h = refl
    by false ih h = ih h

pub has-more : (q p : ℕ) (xs : List ℕ) → has q xs ≡ true → has q (xs ++ p ∷ []) ≡ true
has-more q p [] h = cc
has-more q p (x ∷ xs) h = by (nat_eq q x) (has-more q p xs) h
  where
    by : (b : Bool) → (has q xs ≡ true → has q (xs ++ p ∷ []) ≡ true) → (b || has q xs) ≡ true → (b || has q (xs ++ p ∷ [])) ≡ true
    by true ih h = refl
    by false ih h = ih h

has-last : (p : ℕ) (xs : List ℕ) → has p (xs ++ p ∷ []) ≡ true
has-last p [] = let e : nat_eq p p ≡ true = grind arith in rw e refl
has-last p (x ∷ xs) = by (nat_eq p x) (has-last p xs)
  where
    by : (b : Bool) → has p (xs ++ p ∷ []) ≡ true → (b || has p (xs ++ p ∷ [])) ≡ true
    by true ih = refl
    by false ih = ih

-- the columns after the turn of p, if only that of p is new
least_after : (g : Graph) (k : ℕ) (before : List ℕ) (p : ℕ) (o : Option ℕ) (xs ys : List (ℕ × ℕ)) → ComesAfter g p before → AreColours g k before xs → IsLeastFree (is_seen g xs p) k o
    → ((r : ℕ) → nat_eq r p ≡ false → column_of ys r ≡ column_of xs r) → column_of ys p ≡ o
    → (q : ℕ) → has q (before ++ p ∷ []) ≡ true → IsLeastFree (is_taken g ys q) k (column_of ys q)
least_after g k before p o xs ys after a free other here q h = by (nat_eq q p) refl
  where
    at_p : IsLeastFree (is_taken g ys p) k (column_of ys p)
    at_p = rw here (least-same (is_seen g xs p) (is_taken g ys p) k o
        (λ c. sym (any-same (λ r. is_lt (rank g r p) && is_column c (column_of ys r)) (λ r. is_column c (column_of xs r)) (now g k before p xs ys after a other c) (neighbours_of g p))) free)

    by : (b : Bool) → nat_eq q p ≡ b → IsLeastFree (is_taken g ys q) k (column_of ys q)
    by true e = subst (λ (s : ℕ). IsLeastFree (is_taken g ys s) k (column_of ys s)) (sym (same_number q p e)) at_p
    by false e =
        let b : has q before ≡ true = has-push q p before e h in
        let less : rank g q p ≡ Less = each_has (λ q. rank g q p ≡ Less) before q after b in
        rw (other q e) (least-same (is_taken g xs q) (is_taken g ys q) k (column_of xs q)
        (λ c. any-same (λ r. is_lt (rank g r q) && is_column c (column_of xs r)) (λ r. is_lt (rank g r q) && is_column c (column_of ys r)) (old g p q xs ys less other c) (neighbours_of g q)) (a.least q b))

keys-push : (xs : List (ℕ × ℕ)) (p c : ℕ) → keys_of (xs ++ (p, c) ∷ []) ≡ keys_of xs ++ p ∷ []
keys-push [] p c = refl
keys-push (x ∷ xs) p c = ap (λ (l : List ℕ). x.0 ∷ l) (keys-push xs p c)

more-among : (before : List ℕ) (p : ℕ) (keys : List ℕ) → AllByRecursion (λ q. has q before ≡ true) keys → AllByRecursion (λ q. has q (before ++ p ∷ []) ≡ true) keys
more-among before p keys a = each-weaker (λ q. has q before ≡ true) (λ q. has q (before ++ p ∷ []) ≡ true) (λ q h. has-more q p before h) keys a

-- all columns are taken
pub stays : (g : Graph) (k : ℕ) (before : List ℕ) (p : ℕ) (xs : List (ℕ × ℕ)) → ComesAfter g p before → AreColours g k before xs → IsLeastFree (is_seen g xs p) k None → AreColours g k (before ++ p ∷ []) xs
stays g k before p xs after a free = record {
  ordered = a.ordered;
  among = more-among before p (keys_of xs) a.among;
  least = least_after g k before p None xs xs after a free (λ r e. refl) (fresh g k before p xs after a);
}

each-before : (g : Graph) (p : ℕ) (before keys : List ℕ) → ComesAfter g p before → AllByRecursion (λ q. has q before ≡ true) keys → AllByRecursion (λ q. rank g q p ≡ Less) keys
each-before g p before keys after a = each-weaker (λ q. has q before ≡ true) (λ q. rank g q p ≡ Less) (λ q h. each_has (λ q. rank g q p ≡ Less) before q after h) keys a

-- p takes a column
pub takes : (g : Graph) (k : ℕ) (before : List ℕ) (p c : ℕ) (xs : List (ℕ × ℕ)) → ComesAfter g p before → AreColours g k before xs → IsLeastFree (is_seen g xs p) k (Some c)
    → AreColours g k (before ++ p ∷ []) (xs ++ (p, c) ∷ [])
takes g k before p c xs after a free = record {
  ordered = rw (keys-push xs p c) (strict-push (rank g) (keys_of xs) p a.ordered (each-before g p before (keys_of xs) after a.among));
  among = rw (keys-push xs p c) (each-append (λ q. has q (before ++ p ∷ []) ≡ true) (keys_of xs) (p ∷ []) (more-among before p (keys_of xs) a.among) (has-last p before, tt));
  least = least_after g k before p (Some c) xs (xs ++ (p, c) ∷ []) after a free (λ r e. column-other r p c xs e) (column-new p c xs (fresh g k before p xs after a));
}
