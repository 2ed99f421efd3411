-- The triples that are present, the terms that are needed and the limits, change by change.
use Rattle.std.proofs.Common.{◌≡◌, ◌⊎◌, Bool, true, false, ◌||◌, ◌&&◌, length, append_assoc, List, [], ◌∷◌, ◌++◌, map, filter, fold, refl, sym, ap, ◌∙◌, inl, inr, subst}
use Rattle.std.specs.Prelude.{Result, Ok, Err, IfOk}
use Rattle.std.specs.List.{list_any, IsDistinct}
use Rattle.std.specs.List.Sorted.{IsPermutation}
use Rattle.std.proofs.lemmas.Bool.{cases_Bool, true≢false}
use Rattle.std.proofs.lemmas.List.{append-nil}
use Rattle.std.proofs.lemmas.List.Folds.{list_any-append}
use Rattle.std.proofs.lemmas.List.Sums.{fold-append}
use Rattle.std.proofs.lemmas.List.Sorted.{list_any-IsPermutation}
use Rattle.std.proofs.lemmas.Map.Keys.{IsDistinct-push, IsDistinct-tail}
use Rattle.indexmap.specs.IndexSet.{swap_remove_by}
use Rattle.bags.specs.Bag.{SameBag}
use Rattle.bags.specs.BagLaws.{same-length}
use Rattle.rdf_meaning.specs.Terms.{RdfTerm, RdfTriple, same_term, same_triple}
use Rattle.rdf_meaning.specs.TermLaws.{same_term-self, same_triple-is, same_triple-self, same_triple_equiv}
use Rattle.line_change_meaning.specs.declared.change.Change.{Change}
use Rattle.line_change_meaning.specs.declared.change.Change.TheVariants.{Add, Delete}
use Rattle.line_change_meaning.specs.Present.{named, says_of, is_present, with_triple, all_named, present}
use Rattle.run_meaning.specs.Limits.{with_term, with_needed, terms_needed, passed_at, passed_from, passed_limit, or_later}
use Rattle.rdf_triples.specs.Held.{Held}
use Rattle.rdf_triples.specs.PresentLaws.{nothing_distinct, present_distinct}
use Rattle.rdf_triples.specs.Taking.{nothing_held, is_held, with_new, without, take_change, limit_at, limit_from}
use Rattle.rdf_triples.proofs.Places.{none_removed}
use Rattle.rdf_triples.proofs.Bags.{first_apart, taken_out, rest_differs, same-members}

-- ---- the triples that are named

any_left : {X : Type 0} (p : X → Bool) (xs ys : List X) → list_any p xs ≡ true → list_any p (xs ++ ys) ≡ true
any_left p xs ys e = rw (list_any-append p xs ys, e) refl

any_last : {X : Type 0} (p : X → Bool) (xs : List X) (x : X) → p x ≡ true → list_any p (xs ++ x ∷ []) ≡ true
any_last p [] x h = rw h refl
any_last p (y ∷ xs) x h = go (cases_Bool (p y)) (any_last p xs x h)
  where
    go : (p y ≡ true) ⊎ (p y ≡ false) → list_any p (xs ++ x ∷ []) ≡ true → list_any p ((y ∷ xs) ++ x ∷ []) ≡ true
    go (inl e) rest = rw e refl
    go (inr e) rest = rw e rest

named_keeps : (t x : RdfTriple) (ts : List RdfTriple) → list_any (same_triple t) ts ≡ true → list_any (same_triple t) (with_triple ts x) ≡ true
named_keeps t x ts h = go (cases_Bool (list_any (same_triple x) ts))
  where
    go : (list_any (same_triple x) ts ≡ true) ⊎ (list_any (same_triple x) ts ≡ false) → list_any (same_triple t) (with_triple ts x) ≡ true
    go (inl e) = rw e h
    go (inr e) = rw e (any_left (same_triple t) ts (x ∷ []) h)

named_has : (t : RdfTriple) (ts : List RdfTriple) → list_any (same_triple t) (with_triple ts t) ≡ true
named_has t ts = go (cases_Bool (list_any (same_triple t) ts))
  where
    go : (list_any (same_triple t) ts ≡ true) ⊎ (list_any (same_triple t) ts ≡ false) → list_any (same_triple t) (with_triple ts t) ≡ true
    go (inl e) = rw e e
    go (inr e) = rw e (any_last (same_triple t) ts t (same_triple-self t))

all_named_keep : (t : RdfTriple) (ts : List RdfTriple) (cs : List Change) → list_any (same_triple t) ts ≡ true → list_any (same_triple t) (fold with_triple ts (map named cs)) ≡ true
all_named_keep t ts [] h = h
all_named_keep t ts (c ∷ cs) h = all_named_keep t (with_triple ts (named c)) cs (named_keeps t (named c) ts h)

-- a triple that no change names isn't present
unnamed : (t : RdfTriple) (ts : List RdfTriple) (cs : List Change) → list_any (same_triple t) (fold with_triple ts (map named cs)) ≡ false → fold (says_of t) false cs ≡ false
unnamed t ts [] h = refl
unnamed t ts (c ∷ cs) h = go (cases_Bool (same_triple (named c) t)) (unnamed t (with_triple ts (named c)) cs h)
  where
    go : (same_triple (named c) t ≡ true) ⊎ (same_triple (named c) t ≡ false) → fold (says_of t) false cs ≡ false → fold (says_of t) false (c ∷ cs) ≡ false
    go (inl e) rest =
        let same : named c ≡ t = same_triple-is (named c) t e in
        let there : list_any (same_triple t) (with_triple ts (named c)) ≡ true = rw same (named_has t ts) in
        absurd (true≢false (sym (all_named_keep t (with_triple ts (named c)) cs there) ∙ h))
    go (inr e) rest = rw e rest

-- ---- the triples that are present

and_false : (a b : Bool) → b ≡ false → (a && b) ≡ false
and_false true b h = h
and_false false b h = refl

filter_members : (p : RdfTriple → Bool) (t : RdfTriple) (ts : List RdfTriple) → list_any (same_triple t) (filter p ts) ≡ (list_any (same_triple t) ts && p t)
filter_members p t [] = refl
filter_members p t (u ∷ ts) = go (cases_Bool (p u)) (cases_Bool (same_triple t u)) (filter_members p t ts)
  where
    go : (p u ≡ true) ⊎ (p u ≡ false) → (same_triple t u ≡ true) ⊎ (same_triple t u ≡ false) → list_any (same_triple t) (filter p ts) ≡ (list_any (same_triple t) ts && p t)
        → list_any (same_triple t) (filter p (u ∷ ts)) ≡ (list_any (same_triple t) (u ∷ ts) && p t)
    go (inl e) (inl k) rest = let h : p t ≡ true = ap p (same_triple-is t u k) ∙ e in rw (e, k, h) refl
    go (inl e) (inr k) rest = rw (e, k) rest
    go (inr e) (inl k) rest = let h : p t ≡ false = ap p (same_triple-is t u k) ∙ e in rw (e, k) (rest ∙ and_false (list_any (same_triple t) ts) (p t) h ∙ sym h)
    go (inr e) (inr k) rest = rw (e, k) rest

both_or_none : (a b : Bool) → (a ≡ false → b ≡ false) → (a && b) ≡ b
both_or_none true b h = refl
both_or_none false b h = sym (h refl)

present_members : (cs : List Change) (t : RdfTriple) → list_any (same_triple t) (present cs) ≡ is_present cs t
present_members cs t = filter_members (is_present cs) t (all_named cs) ∙ both_or_none (list_any (same_triple t) (all_named cs)) (is_present cs t) (unnamed t [] cs)

-- ---- the terms that are needed

-- the terms of a triple are among these
abbrev Has : List RdfTerm → RdfTriple → Type 0
Has terms t = (list_any (same_term t.s) terms ≡ true) × (list_any (same_term t.p) terms ≡ true) × (list_any (same_term t.o) terms ≡ true)

with_term_keeps : (x y : RdfTerm) (terms : List RdfTerm) → list_any (same_term x) terms ≡ true → list_any (same_term x) (with_term terms y) ≡ true
with_term_keeps x y terms h = go (cases_Bool (list_any (same_term y) terms))
  where
    go : (list_any (same_term y) terms ≡ true) ⊎ (list_any (same_term y) terms ≡ false) → list_any (same_term x) (with_term terms y) ≡ true
    go (inl e) = rw e h
    go (inr e) = rw e (any_left (same_term x) terms (y ∷ []) h)

with_term_has : (x : RdfTerm) (terms : List RdfTerm) → list_any (same_term x) (with_term terms x) ≡ true
with_term_has x terms = go (cases_Bool (list_any (same_term x) terms))
  where
    go : (list_any (same_term x) terms ≡ true) ⊎ (list_any (same_term x) terms ≡ false) → list_any (same_term x) (with_term terms x) ≡ true
    go (inl e) = rw e e
    go (inr e) = rw e (any_last (same_term x) terms x (same_term-self x))

needed_keeps : (x : RdfTerm) (terms : List RdfTerm) (c : Change) → list_any (same_term x) terms ≡ true → list_any (same_term x) (with_needed terms c) ≡ true
needed_keeps x terms (Add t) h = with_term_keeps x t.o _ (with_term_keeps x t.p _ (with_term_keeps x t.s terms h))
needed_keeps x terms (Delete t) h = h

needed_has : (terms : List RdfTerm) (t : RdfTriple) → Has (with_needed terms (Add t)) t
needed_has terms t = (
  with_term_keeps t.s t.o _ (with_term_keeps t.s t.p _ (with_term_has t.s terms)),
  with_term_keeps t.p t.o _ (with_term_has t.p _),
  with_term_has t.o _,
)

present_has : (t : RdfTriple) (said : Bool) (terms : List RdfTerm) (cs : List Change) → (said ≡ true → Has terms t) → fold (says_of t) said cs ≡ true → Has (fold with_needed terms cs) t
present_has t said terms [] h e = h e
present_has t said terms (c ∷ cs) h e = present_has t (says_of t said c) (with_needed terms c) cs (step c) e
  where
    step : (c : Change) → says_of t said c ≡ true → Has (with_needed terms c) t
    step (Add u) k = go (cases_Bool (same_triple u t)) k
      where
        go : (same_triple u t ≡ true) ⊎ (same_triple u t ≡ false) → says_of t said (Add u) ≡ true → Has (with_needed terms (Add u)) t
        go (inl s) k = subst (λ (v : RdfTriple). Has (with_needed terms (Add u)) v) (same_triple-is u t s) (needed_has terms u)
        go (inr s) k = let p = h (rw s at k) in (needed_keeps t.s terms (Add u) p.0, needed_keeps t.p terms (Add u) p.1, needed_keeps t.o terms (Add u) p.2)
    step (Delete u) k = go (cases_Bool (same_triple u t)) k
      where
        go : (same_triple u t ≡ true) ⊎ (same_triple u t ≡ false) → says_of t said (Delete u) ≡ true → Has terms t
        go (inl s) k = absurd (true≢false (sym (rw s at k)))
        go (inr s) k = h (rw s at k)

-- a triple that is present needs no further term
needed_again : (before : List Change) (t : RdfTriple) → is_present before t ≡ true → with_needed (terms_needed before) (Add t) ≡ terms_needed before
needed_again before t e =
    let has : Has (terms_needed before) t = present_has t false [] before (λ f. absurd (true≢false (sym f))) e in
    rw (has.0, has.1, has.2) refl

-- ---- what is held is told by the changes so far

record Tells (before : List Change) (held : Held) : Type 0 where
  terms : held.terms ≡ terms_needed before
  once : IsDistinct same_triple held.triples
  members : (t : RdfTriple) → list_any (same_triple t) held.triples ≡ is_present before t

tells_bag : (before : List Change) (held : Held) → Tells before held → SameBag held.triples (present before)
tells_bag before held tells = same-members same_triple same_triple-is same_triple_equiv held.triples (present before) tells.once (present_distinct before) (λ t. tells.members t ∙ sym (present_members before t))

needed_next : (before : List Change) (c : Change) → terms_needed (before ++ c ∷ []) ≡ with_needed (terms_needed before) c
needed_next before c = fold-append with_needed [] before (c ∷ [])

says_next : (before : List Change) (c : Change) (t : RdfTriple) → is_present (before ++ c ∷ []) t ≡ says_of t (is_present before t) c
says_next before c t = fold-append (says_of t) false before (c ∷ [])

-- another triple says nothing of this one
turned_same : (t u : RdfTriple) (b : Bool) → same_triple t u ≡ b → same_triple u t ≡ b
turned_same t u b e = same_triple_equiv.symm u t ∙ e

add_again : (before : List Change) (held : Held) (t : RdfTriple) → Tells before held → is_held held t ≡ true → Tells (before ++ Add t ∷ []) held
add_again before held t tells e = record {
  terms = tells.terms ∙ sym (needed_next before (Add t) ∙ needed_again before t (sym (tells.members t) ∙ e));
  once = tells.once;
  members = λ u. go u (cases_Bool (same_triple t u)) ∙ sym (says_next before (Add t) u);
}
  where
    go : (u : RdfTriple) → (same_triple t u ≡ true) ⊎ (same_triple t u ≡ false) → list_any (same_triple u) held.triples ≡ says_of u (is_present before u) (Add t)
    go u (inl h) = rw h (subst (λ (v : RdfTriple). list_any (same_triple v) held.triples ≡ true) (same_triple-is t u h) e)
    go u (inr h) = rw h (tells.members u)

add_new : (before : List Change) (held : Held) (t : RdfTriple) → Tells before held → is_held held t ≡ false → Tells (before ++ Add t ∷ []) (with_new held t)
add_new before held t tells e = record {
  terms = ap (λ (ts : List RdfTerm). with_needed ts (Add t)) tells.terms ∙ sym (needed_next before (Add t));
  once = IsDistinct-push same_triple_equiv held.triples t tells.once e;
  members = λ u. list_any-append (same_triple u) held.triples (t ∷ []) ∙ go u (cases_Bool (same_triple t u)) ∙ sym (says_next before (Add t) u);
}
  where
    or_last : (a : Bool) → (a || (true || false)) ≡ true
    or_last true = refl
    or_last false = refl

    or_none : (a : Bool) → (a || (false || false)) ≡ a
    or_none true = refl
    or_none false = refl

    go : (u : RdfTriple) → (same_triple t u ≡ true) ⊎ (same_triple t u ≡ false) → (list_any (same_triple u) held.triples || (same_triple u t || false)) ≡ says_of u (is_present before u) (Add t)
    go u (inl h) = rw (h, turned_same t u true h) (or_last (list_any (same_triple u) held.triples))
    go u (inr h) = rw (h, turned_same t u false h) (or_none (list_any (same_triple u) held.triples) ∙ tells.members u)

delete_absent : (before : List Change) (held : Held) (t : RdfTriple) → Tells before held → is_held held t ≡ false → Tells (before ++ Delete t ∷ []) held
delete_absent before held t tells e = record {
  terms = tells.terms ∙ sym (needed_next before (Delete t));
  once = tells.once;
  members = λ u. go u (cases_Bool (same_triple t u)) ∙ sym (says_next before (Delete t) u);
}
  where
    go : (u : RdfTriple) → (same_triple t u ≡ true) ⊎ (same_triple t u ≡ false) → list_any (same_triple u) held.triples ≡ says_of u (is_present before u) (Delete t)
    go u (inl h) = rw h (subst (λ (v : RdfTriple). list_any (same_triple v) held.triples ≡ false) (same_triple-is t u h) e)
    go u (inr h) = rw h (tells.members u)

delete_held : (before : List Change) (held : Held) (t : RdfTriple) → Tells before held → is_held held t ≡ true → Tells (before ++ Delete t ∷ []) (without held t)
delete_held before held t tells e = record {
  terms = tells.terms ∙ sym (needed_next before (Delete t));
  once = IsDistinct-tail same_triple t rest differs;
  members = λ u. go u (cases_Bool (same_triple t u)) ∙ sym (says_next before (Delete t) u);
}
  where
    rest : List RdfTriple
    rest = swap_remove_by (same_triple t) held.triples

    differs : IsDistinct same_triple (t ∷ rest)
    differs = rest_differs same_triple same_triple-is same_triple_equiv held.triples t tells.once e

    moved : IsPermutation held.triples (t ∷ rest)
    moved = taken_out same_triple same_triple-is same_triple_equiv held.triples t e

    go : (u : RdfTriple) → (same_triple t u ≡ true) ⊎ (same_triple t u ≡ false) → list_any (same_triple u) rest ≡ says_of u (is_present before u) (Delete t)
    go u (inl h) = rw h (subst (λ (v : RdfTriple). list_any (same_triple v) rest ≡ false) (same_triple-is t u h) (first_apart same_triple same_triple-is same_triple_equiv t rest differs))
    go u (inr h) =
        let all : list_any (same_triple u) held.triples ≡ (same_triple u t || list_any (same_triple u) rest) = list_any-IsPermutation (same_triple u) held.triples (t ∷ rest) moved in
        let less : list_any (same_triple u) held.triples ≡ list_any (same_triple u) rest = all ∙ ap (λ (b : Bool). b || list_any (same_triple u) rest) (turned_same t u false h) in
        rw h (sym less ∙ tells.members u)

-- one change more
step : (before : List Change) (held : Held) (c : Change) → Tells before held → Tells (before ++ c ∷ []) (take_change held c)
step before held (Add t) tells = go (cases_Bool (is_held held t))
  where
    go : (is_held held t ≡ true) ⊎ (is_held held t ≡ false) → Tells (before ++ Add t ∷ []) (take_change held (Add t))
    go (inl e) = rw e (add_again before held t tells e)
    go (inr e) = rw e (add_new before held t tells e)
step before held (Delete t) tells = go (cases_Bool (is_held held t))
  where
    same_held : (a b : Held) → a.terms ≡ b.terms → a.triples ≡ b.triples → a ≡ b
    same_held a b p q = λ i. record { terms = p i; triples = q i }

    go : (is_held held t ≡ true) ⊎ (is_held held t ≡ false) → Tells (before ++ Delete t ∷ []) (without held t)
    go (inl e) = delete_held before held t tells e
    go (inr e) = subst (λ (h : Held). Tells (before ++ Delete t ∷ []) h) (same_held held (without held t) refl (sym (none_removed (same_triple t) held.triples e))) (delete_absent before held t tells e)

-- the limit that is passed, by what is held and by the changes
limit_is : (before : List Change) (held : Held) (c : Change) → Tells before held → limit_at held c ≡ passed_at before c
limit_is before held (Delete t) tells = refl
limit_is before held (Add t) tells =
    let count : length held.triples ≡ length (present before) = same-length held.triples (present before) (tells_bag before held tells) in
    rw (tells.members t, count, tells.terms) refl

limits_are : (before : List Change) (held : Held) (later : List Change) → Tells before held → limit_from held later ≡ passed_from before later
limits_are before held [] tells = refl
limits_are before held (c ∷ later) tells = rw (limit_is before held c tells) (ap (or_later (passed_at before c)) (limits_are (before ++ c ∷ []) (take_change held c) later (step before held c tells)))

told : (before : List Change) (held : Held) (later : List Change) → Tells before held → Tells (before ++ later) (fold take_change held later)
told before held [] tells = subst (λ (cs : List Change). Tells cs held) (sym (append-nil before)) tells
told before held (c ∷ later) tells =
    subst (λ (cs : List Change). Tells cs (fold take_change (take_change held c) later)) (append_assoc before (c ∷ []) later)
    (told (before ++ c ∷ []) (take_change held c) later (step before held c tells))

nothing_told : Tells [] nothing_held
nothing_told = record { terms = refl; once = nothing_distinct; members = λ t. refl }

-- ---- what is held at the end

pub bag_held : {E : Type 0} (r : Result Held E) (cs : List Change) → IfOk r (λ held. held ≡ fold take_change nothing_held cs) → IfOk r (λ held. SameBag held.triples (present cs))
bag_held (Ok held) cs e = subst (λ (h : Held). SameBag h.triples (present cs)) (sym e) (tells_bag cs (fold take_change nothing_held cs) (told [] nothing_held cs nothing_told))
bag_held (Err x) cs e = e

pub terms_held : {E : Type 0} (r : Result Held E) (cs : List Change) → IfOk r (λ held. held ≡ fold take_change nothing_held cs) → IfOk r (λ held. held.terms ≡ terms_needed cs)
terms_held (Ok held) cs e = ap (λ (h : Held). h.terms) e ∙ (told [] nothing_held cs nothing_told).terms
terms_held (Err x) cs e = e

pub limit_passed : (cs : List Change) → limit_from nothing_held cs ≡ passed_limit cs
limit_passed cs = limits_are [] nothing_held cs nothing_told
