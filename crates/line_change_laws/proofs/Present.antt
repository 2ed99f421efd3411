-- The triples that are present after changes.
use Rattle.std.proofs.Common.{◌≡◌, ◌⊎◌, ℕ, ◌+◌, Bool, true, false, ◌&&◌, ◌||◌, cond, if◌then◌else◌, List, [], ◌∷◌, ◌++◌, map, filter, fold, refl, sym, ◌∙◌, ap, inl, inr, arith, subst}
use Rattle.std.specs.List.{list_any, IsDistinct, AllByRecursion}
use Rattle.std.proofs.lemmas.Bool.{cases_Bool, true≢false}
use Rattle.std.proofs.lemmas.List.Folds.{list_any-append}
use Rattle.std.proofs.lemmas.List.Sums.{fold-append}
use Rattle.std.proofs.lemmas.Map.Keys.{IsDistinct-head, IsDistinct-tail, IsDistinct-cons}
use Rattle.bags.specs.Bag.{total, SameBag}
use Rattle.bags.specs.BagLaws.{total-append, total-filter, each-filter}
use Rattle.rdf_meaning.specs.Terms.{RdfTriple, same_triple}
use Rattle.rdf_meaning.specs.TermLaws.{same_triple-is, same_triple-self, same_triple_equiv}
use Rattle.line_change_meaning.specs.declared.change.Change.{Change}
use Rattle.line_change_meaning.specs.declared.change.Change.TheVariants.{Add, Delete}
use Rattle.line_change_meaning.specs.Present.{named, is_add, says_of, is_present, with_triple, all_named, present}
use Rattle.line_change_laws.proofs.Named.{named_has, unnamed, named_distinct, named_next}

and_false : (a b : Bool) → b ≡ false → (a && b) ≡ false
and_false true b h = h
and_false false b h = refl

filter_members : (p : RdfTriple → Bool) (t : RdfTriple) (ts : List RdfTriple) → list_any (same_triple t) (filter p ts) ≡ (list_any (same_triple t) ts && p t)
filter_members p t [] = refl
filter_members p t (u ∷ ts) = go (cases_Bool (p u)) (cases_Bool (same_triple t u)) (filter_members p t ts)
  where
    go : (p u ≡ true) ⊎ (p u ≡ false) → (same_triple t u ≡ true) ⊎ (same_triple t u ≡ false) → list_any (same_triple t) (filter p ts) ≡ (list_any (same_triple t) ts && p t)
        → list_any (same_triple t) (filter p (u ∷ ts)) ≡ (list_any (same_triple t) (u ∷ ts) && p t)
    go (inl e) (inl k) rest = let h : p t ≡ true = ap p (same_triple-is t u k) ∙ e in rw (e, k, h) refl
    go (inl e) (inr k) rest = rw (e, k) rest
    go (inr e) (inl k) rest = let h : p t ≡ false = ap p (same_triple-is t u k) ∙ e in rw (e, k) (rest ∙ and_false (list_any (same_triple t) ts) (p t) h ∙ sym h)
    go (inr e) (inr k) rest = rw (e, k) rest

both_or_none : (a b : Bool) → (a ≡ false → b ≡ false) → (a && b) ≡ b
both_or_none true b h = refl
both_or_none false b h = sym (h refl)

pub present_members : (cs : List Change) (t : RdfTriple) → list_any (same_triple t) (present cs) ≡ is_present cs t
present_members cs t = filter_members (is_present cs) t (all_named cs) ∙ both_or_none (list_any (same_triple t) (all_named cs)) (is_present cs t) (unnamed t [] cs)

filter_distinct : (p : RdfTriple → Bool) (ts : List RdfTriple) → IsDistinct same_triple ts → IsDistinct same_triple (filter p ts)
filter_distinct p [] d = d
filter_distinct p (t ∷ ts) d = go (cases_Bool (p t)) (filter_distinct p ts (IsDistinct-tail same_triple t ts d))
  where
    go : (p t ≡ true) ⊎ (p t ≡ false) → IsDistinct same_triple (filter p ts) → IsDistinct same_triple (filter p (t ∷ ts))
    go (inl e) rest = rw e (IsDistinct-cons same_triple t (filter p ts) (each-filter (λ u. same_triple t u ≡ false) p ts (IsDistinct-head same_triple t ts d)) rest)
    go (inr e) rest = rw e rest

pub present_once : (cs : List Change) → IsDistinct same_triple (present cs)
present_once cs = filter_distinct (is_present cs) (all_named cs) (named_distinct cs)

-- ---- one change more

pub says_next : (before : List Change) (c : Change) (t : RdfTriple) → is_present (before ++ c ∷ []) t ≡ says_of t (is_present before t) c
says_next before c t = fold-append (says_of t) false before (c ∷ [])

-- what passes a test, summed
abbrev passing : (RdfTriple → Bool) → (RdfTriple → ℕ) → List RdfTriple → ℕ
passing p g ts = total (λ (u : RdfTriple). cond (p u) (g u) 0) ts

-- a test that differs from another at one triple alone
abbrev Agree : RdfTriple → (RdfTriple → Bool) → (RdfTriple → Bool) → Type 0
Agree t p q = (u : RdfTriple) → same_triple t u ≡ false → q u ≡ p u

none_changed : (t : RdfTriple) (p q : RdfTriple → Bool) (g : RdfTriple → ℕ) → Agree t p q → (ts : List RdfTriple) → list_any (same_triple t) ts ≡ false → passing q g ts ≡ passing p g ts
none_changed t p q g a [] h = refl
none_changed t p q g a (u ∷ ts) h = go (cases_Bool (same_triple t u)) h (none_changed t p q g a ts)
  where
    go : (same_triple t u ≡ true) ⊎ (same_triple t u ≡ false) → list_any (same_triple t) (u ∷ ts) ≡ false → (list_any (same_triple t) ts ≡ false → passing q g ts ≡ passing p g ts)
        → passing q g (u ∷ ts) ≡ passing p g (u ∷ ts)
    go (inl e) h rest = absurd (true≢false (sym (rw e refl) ∙ h))
    go (inr e) h rest = rw (a u e, rest (rw e at h)) refl

no_others : (t : RdfTriple) (ts : List RdfTriple) → IsDistinct same_triple (t ∷ ts) → list_any (same_triple t) ts ≡ false
no_others t ts d = go ts (IsDistinct-head same_triple t ts d)
  where
    go : (us : List RdfTriple) → AllByRecursion (λ u. same_triple t u ≡ false) us → list_any (same_triple t) us ≡ false
    go [] h = refl
    go (u ∷ us) h = rw (h.0, go us h.1) refl

one_changed : (t : RdfTriple) (p q : RdfTriple → Bool) (g : RdfTriple → ℕ) → Agree t p q → (ts : List RdfTriple) → IsDistinct same_triple ts → list_any (same_triple t) ts ≡ true
    → passing q g ts + cond (p t) (g t) 0 ≡ passing p g ts + cond (q t) (g t) 0
one_changed t p q g a [] d h = absurd (true≢false (sym h))
one_changed t p q g a (u ∷ ts) d h = go (cases_Bool (same_triple t u)) h (one_changed t p q g a ts (IsDistinct-tail same_triple u ts d))
  where
    go : (same_triple t u ≡ true) ⊎ (same_triple t u ≡ false) → list_any (same_triple t) (u ∷ ts) ≡ true → (list_any (same_triple t) ts ≡ true → passing q g ts + cond (p t) (g t) 0 ≡ passing p g ts + cond (q t) (g t) 0)
        → passing q g (u ∷ ts) + cond (p t) (g t) 0 ≡ passing p g (u ∷ ts) + cond (q t) (g t) 0
    go (inl e) h rest =
        let same : t ≡ u = same_triple-is t u e in
        let k : passing q g ts ≡ passing p g ts = none_changed t p q g a ts (no_others t ts (subst (λ (v : RdfTriple). IsDistinct same_triple (v ∷ ts)) (sym same) d)) in
        let x : cond (q t) (g t) 0 ≡ cond (q u) (g u) 0 = ap (λ (v : RdfTriple). cond (q v) (g v) 0) same in
        let y : cond (p t) (g t) 0 ≡ cond (p u) (g u) 0 = ap (λ (v : RdfTriple). cond (p v) (g v) 0) same in
        omega (arith, k, x, y)
    go (inr e) h rest =
        let k : passing q g ts + cond (p t) (g t) 0 ≡ passing p g ts + cond (q t) (g t) 0 = rest (rw e at h) in
        let x : cond (q u) (g u) 0 ≡ cond (p u) (g u) 0 = ap (λ (b : Bool). cond b (g u) 0) (a u e) in
        omega (arith, k, x)

-- the sum over what is present gains the triple that a change adds, and loses the one that it names where that was present
counted : (before : List Change) (c : Change) (g : RdfTriple → ℕ)
    → total g (present (before ++ c ∷ [])) + cond (is_present before (named c)) (g (named c)) 0 ≡ total g (present before) + cond (is_add c) (g (named c)) 0
counted before c g = go (cases_Bool (list_any (same_triple t) ts))
  where
    t : RdfTriple
    t = named c

    ts : List RdfTriple
    ts = all_named before

    p : RdfTriple → Bool
    p = is_present before

    q : RdfTriple → Bool
    q = is_present (before ++ c ∷ [])

    agree : Agree t p q
    agree u e = says_next before c u ∙ ap (λ (b : Bool). if b then is_add c else is_present before u) e

    here : q t ≡ is_add c
    here = says_next before c t ∙ ap (λ (b : Bool). if b then is_add c else is_present before t) (same_triple-self t)

    was : total g (present before) ≡ passing p g ts
    was = total-filter g p ts

    is : (us : List RdfTriple) → all_named (before ++ c ∷ []) ≡ us → total g (present (before ++ c ∷ [])) ≡ passing q g us
    is us e = ap (λ (vs : List RdfTriple). total g (filter q vs)) e ∙ total-filter g q us

    go : (list_any (same_triple t) ts ≡ true) ⊎ (list_any (same_triple t) ts ≡ false)
        → total g (present (before ++ c ∷ [])) + cond (p t) (g t) 0 ≡ total g (present before) + cond (is_add c) (g t) 0
    go (inl e) =
        let k = one_changed t p q g agree ts (named_distinct before) e in
        let n = is ts (named_next before c ∙ ap (λ (b : Bool). if b then ts else ts ++ t ∷ []) e) in
        let w = was in
        let x : cond (q t) (g t) 0 ≡ cond (is_add c) (g t) 0 = ap (λ (b : Bool). cond b (g t) 0) here in
        omega (arith, k, n, w, x)
    go (inr e) =
        let k : passing q g ts ≡ passing p g ts = none_changed t p q g agree ts e in
        let n = is (ts ++ t ∷ []) (named_next before c ∙ ap (λ (b : Bool). if b then ts else ts ++ t ∷ []) e) in
        let more : passing q g (ts ++ t ∷ []) ≡ passing q g ts + (cond (q t) (g t) 0 + 0) = total-append (λ (u : RdfTriple). cond (q u) (g u) 0) ts (t ∷ []) in
        let w = was in
        let x : cond (q t) (g t) 0 ≡ cond (is_add c) (g t) 0 = ap (λ (b : Bool). cond b (g t) 0) here in
        let y : cond (p t) (g t) 0 ≡ 0 = ap (λ (b : Bool). cond b (g t) 0) (unnamed t [] before e) in
        omega (arith, k, n, more, w, x, y)

pub present_added : (before : List Change) (t : RdfTriple) → SameBag (present (before ++ Add t ∷ [])) (if is_present before t then present before else t ∷ present before)
present_added before t = record { totals = λ g. by g (is_present before t) (counted before (Add t) g) }
  where
    by : (g : RdfTriple → ℕ) (b : Bool) → total g (present (before ++ Add t ∷ [])) + cond b (g t) 0 ≡ total g (present before) + g t
        → total g (present (before ++ Add t ∷ [])) ≡ total g (if b then present before else t ∷ present before)
    by g true h = omega (arith, h)
    by g false h = omega (arith, h)

pub present_deleted : (before : List Change) (t : RdfTriple) → SameBag (if is_present before t then t ∷ present (before ++ Delete t ∷ []) else present (before ++ Delete t ∷ [])) (present before)
present_deleted before t = record { totals = λ g. by g (is_present before t) (counted before (Delete t) g) }
  where
    by : (g : RdfTriple → ℕ) (b : Bool) → total g (present (before ++ Delete t ∷ [])) + cond b (g t) 0 ≡ total g (present before) + 0
        → total g (if b then t ∷ present (before ++ Delete t ∷ []) else present (before ++ Delete t ∷ [])) ≡ total g (present before)
    by g true h = omega (arith, h)
    by g false h = omega (arith, h)

-- ---- additions alone

names_again : (triples : List RdfTriple) → map named (map Add triples) ≡ triples
names_again [] = refl
names_again (t ∷ triples) = ap (λ (ts : List RdfTriple). t ∷ ts) (names_again triples)

-- a triple is among those that were named so far, and so is it after one more
named_more : (t u : RdfTriple) (ts : List RdfTriple) → (if same_triple u t then true else list_any (same_triple t) ts) ≡ list_any (same_triple t) (with_triple ts u)
named_more t u ts = go (cases_Bool (same_triple u t)) (cases_Bool (list_any (same_triple u) ts))
  where
    or_none : (a : Bool) → (a || (false || false)) ≡ a
    or_none true = refl
    or_none false = refl

    go : (same_triple u t ≡ true) ⊎ (same_triple u t ≡ false) → (list_any (same_triple u) ts ≡ true) ⊎ (list_any (same_triple u) ts ≡ false)
        → (if same_triple u t then true else list_any (same_triple t) ts) ≡ list_any (same_triple t) (with_triple ts u)
    go (inl e) k = rw e (sym (subst (λ (v : RdfTriple). list_any (same_triple t) (with_triple ts v) ≡ true) (sym (same_triple-is u t e)) (named_has t ts)))
    go (inr e) (inl k) = rw (e, k) refl
    go (inr e) (inr k) =
        let f : same_triple t u ≡ false = same_triple_equiv.symm t u ∙ e in
        rw (e, k) (sym (list_any-append (same_triple t) ts (u ∷ []) ∙ ap (λ (b : Bool). list_any (same_triple t) ts || (b || false)) f ∙ or_none (list_any (same_triple t) ts)))

adds_say : (t : RdfTriple) (ts triples : List RdfTriple) → fold (says_of t) (list_any (same_triple t) ts) (map Add triples) ≡ list_any (same_triple t) (fold with_triple ts triples)
adds_say t ts [] = refl
adds_say t ts (u ∷ triples) = ap (λ (b : Bool). fold (says_of t) b (map Add triples)) (named_more t u ts) ∙ adds_say t (with_triple ts u) triples

or_right : (a b : Bool) → b ≡ true → (a || b) ≡ true
or_right true b h = refl
or_right false b h = h

all_pass : (p : RdfTriple → Bool) (ts : List RdfTriple) → ((u : RdfTriple) → list_any (same_triple u) ts ≡ true → p u ≡ true) → filter p ts ≡ ts
all_pass p [] h = refl
all_pass p (t ∷ ts) h =
    let e : p t ≡ true = h t (ap (λ (b : Bool). b || list_any (same_triple t) ts) (same_triple-self t)) in
    let rest : filter p ts ≡ ts = all_pass p ts (λ u k. h u (or_right (same_triple u t) (list_any (same_triple u) ts) k)) in
    rw e (ap (λ (us : List RdfTriple). t ∷ us) rest)

pub adds_present : (triples : List RdfTriple) → present (map Add triples) ≡ fold with_triple [] triples
adds_present triples =
    ap (λ (ts : List RdfTriple). filter (is_present (map Add triples)) (fold with_triple [] ts)) (names_again triples)
    ∙ all_pass (is_present (map Add triples)) (fold with_triple [] triples) (λ u k. adds_say u [] triples ∙ k)
