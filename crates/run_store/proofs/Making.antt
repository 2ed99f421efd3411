-- Changes that are made one after another.
use Rattle.std.proofs.Common.{◌≡◌, ◌≢◌, inl, inr, ℕ, ◌+◌, ◌≤◌, ◌<◌, ◌^◌, nat_lt, Bool, true, false, if◌then◌else◌, List, [], ◌∷◌, ◌++◌, map, fold, length, append_assoc, take, drop, get_or, Option, Some, None, refl, sym, ap, ◌∙◌, arith, subst}
use Rattle.std.proofs.lemmas.List.{append-nil, take_more, drop_more, length-take-le}
use Rattle.std.proofs.lemmas.List.Sums.{fold-append}
use Rattle.bags.specs.Bag.{SameBag}
use Rattle.bags.specs.BagLaws.{same-refl, same-sym, same-trans, same-append, same-length, same-any, same-rest}
use Rattle.rdf_meaning.specs.Terms.{RdfTriple, same_triple}
use Rattle.line_change_meaning.specs.declared.change.Change.{Change}
use Rattle.line_change_meaning.specs.declared.change.Change.TheVariants.{Add, Delete}
use Rattle.line_change_meaning.specs.Present.{is_present, present}
use Rattle.layout_meaning.specs.Columns.{candidates_of}
use Rattle.layout_meaning.proofs.Changes.{next-placed}
use Rattle.layout_standing_meaning.specs.Schemas.{LayoutOf}
use Rattle.layout_standing_meaning.specs.Sides.{turned}
use Rattle.layout_standing_meaning.specs.Stored.{StoreOf, layout_of, stored_triples}
use Rattle.layout_standing_meaning.specs.Changes.{with_terms, item_in, is_stored, stored_in}
use Rattle.run_meaning.specs.declared.which.Which.{Which}
use Rattle.run_meaning.specs.declared.which.Which.TheVariants as which
use Rattle.run_meaning.specs.Limits.{terms_needed, passed_at, passed_from, passed_limit, or_later}
use Rattle.value_lists.specs.declared.lists.Put.{Put}
use Rattle.value_lists.specs.declared.lists.Put.TheVariants.{Added}
use Rattle.value_lists.specs.Answers.{put_of}
use Rattle.rdf_layout.specs.declared.refusal.StoreRefusal.{StoreRefusal}
use Rattle.rdf_layout.specs.declared.refusal.StoreRefusal.TheVariants.{Triples, Terms, Lists, NoMemory}
use Rattle.rdf_layout.specs.Refused as refused
use Rattle.rdf_layout.specs.Refused.{HasRoom, PassesLists}
use Rattle.layout_bulk_laws.specs.BulkStore.{bulk_store}
use Rattle.layout_placed_meaning.specs.Placed.{changed_in}
use Rattle.layout_placed_laws.proofs.BulkLists.{direct-ids, reverse-ids}
use Rattle.layout_placed_laws.proofs.Steps.{store-terms, fold-layout, fold-direct_id, fold-reverse_id}
use Rattle.line_change_laws.proofs.Present.{present_members, present_added, present_deleted}
use Rattle.rdf_triples.specs.declared.refusal.LoadRefusal.{LoadRefusal}
use Rattle.rdf_triples.specs.declared.refusal.LoadRefusal.TheVariants as load
use Rattle.rdf_triples.specs.Refusals.{Refuses}
use Rattle.run_store.specs.Limited.{LeavesIds, HoldsAfter, limit_at}
use Rattle.run_store.specs.Refused.{load_refusal_of}

-- ---- one triple is put in

lt-false : (m n : ℕ) → n ≤ m → nat_lt m n ≡ false
lt-false m n l = grind arith

lt-true : (m n : ℕ) → m < n → nat_lt m n ≡ true
lt-true m n l = grind arith

-- a triple that was put in passes no limit
pub added-within : (s : StoreOf) (t : RdfTriple) (p : Put) → p ≡ put_of (is_stored s t) → (p ≡ Added → HasRoom s t) → limit_at s (Add t) ≡ None
added-within s t p answer room = by (is_stored s t) refl answer
  where
    by : (b : Bool) → is_stored s t ≡ b → p ≡ put_of b → limit_at s (Add t) ≡ None
    by true e a = rw e refl
    by false e a =
        let r : HasRoom s t = room a in
        let few = r.triples in
        let fits = r.terms in
        let x : nat_lt 1000000 (length (stored_triples s) + 1) ≡ false = lt-false 1000000 (length (stored_triples s) + 1) (omega arith) in
        let y : nat_lt 4000000 (length (with_terms s.terms t)) ≡ false = lt-false 4000000 (length (with_terms s.terms t)) fits in
        rw (e, x, y) refl

full-passes : (s : StoreOf) (t : RdfTriple) → is_stored s t ≡ false → 1000000 ≤ length (stored_triples s) → limit_at s (Add t) ≡ Some which.Triples
full-passes s t e l = let x : nat_lt 1000000 (length (stored_triples s) + 1) ≡ true = lt-true 1000000 (length (stored_triples s) + 1) (omega arith) in rw (e, x) refl

long-passes : (s : StoreOf) (t : RdfTriple) → is_stored s t ≡ false → length (stored_triples s) < 1000000 → 4000000 < length (with_terms s.terms t) → limit_at s (Add t) ≡ Some which.Terms
long-passes s t e few l =
    let x : nat_lt 1000000 (length (stored_triples s) + 1) ≡ false = lt-false 1000000 (length (stored_triples s) + 1) (omega arith) in
    let y : nat_lt 4000000 (length (with_terms s.terms t)) ≡ true = lt-true 4000000 (length (with_terms s.terms t)) l in
    rw (e, x, y) refl

-- list ids don't run out
never-lists : (s : StoreOf) (t : RdfTriple) → LeavesIds s → PassesLists s t → ⊥
never-lists s t h (inl e) =
    let p : (stored_in s t).direct.state.next ≤ s.direct.state.next + 1 = (next-placed s.direct.columns.count (candidates_of s.direct.columns t.p.text) (item_in (with_terms s.terms t) t) s.direct.state).1 in
    let l = h.direct in
    omega arith
never-lists s t h (inr e) =
    let p : (stored_in s t).reverse.state.next ≤ s.reverse.state.next + 1 = (next-placed s.reverse.columns.count (candidates_of s.reverse.columns t.p.text) (turned (item_in (with_terms s.terms t) t)) s.reverse.state).1 in
    let l = h.reverse in
    omega arith

pub added-no-lists : (s : StoreOf) (t : RdfTriple) (e : StoreRefusal) → LeavesIds s → refused.Refuses e s t → e ≢ Lists
added-no-lists s t NoMemory h r l = cc
added-no-lists s t Triples h r l = cc
added-no-lists s t Terms h r l = cc
added-no-lists s t Lists h r l = never-lists s t h r.3

-- the limit that the refusal of a triple names is passed
pub added-passes : (s : StoreOf) (t : RdfTriple) (e : StoreRefusal) (r : LoadRefusal) → refused.Refuses e s t → load_refusal_of e ≡ Some r → Refuses r (limit_at s (Add t))
added-passes s t NoMemory r h k = let b : load.NoMemory ≡ r = cc in subst (λ (x : LoadRefusal). Refuses x (limit_at s (Add t))) b tt
added-passes s t Triples r h k = let b : load.Limit which.Triples ≡ r = cc in subst (λ (x : LoadRefusal). Refuses x (limit_at s (Add t))) b (full-passes s t h.0 h.1)
added-passes s t Terms r h k = let b : load.Limit which.Terms ≡ r = cc in subst (λ (x : LoadRefusal). Refuses x (limit_at s (Add t))) b (long-passes s t h.0 h.1 h.2)
added-passes s t Lists r h k = cc

-- ---- one change more

stored-present : (s : StoreOf) (before : List Change) (t : RdfTriple) → SameBag (stored_triples s) (present before) → is_stored s t ≡ is_present before t
stored-present s before t same = same-any (same_triple t) (stored_triples s) (present before) same ∙ present_members before t

pub limit-same : (s : StoreOf) (before : List Change) (c : Change) → SameBag (stored_triples s) (present before) → s.terms ≡ terms_needed before → limit_at s c ≡ passed_at before c
limit-same s before (Delete t) same terms = refl
limit-same s before (Add t) same terms = rw (stored-present s before t same, same-length (stored_triples s) (present before) same, terms) refl

with-first : (t : RdfTriple) (xs ys : List RdfTriple) → SameBag xs ys → SameBag (t ∷ xs) (t ∷ ys)
with-first t xs ys h = same-append (t ∷ []) (t ∷ []) xs ys (same-refl (t ∷ [])) h

pub holds-next : (s new : StoreOf) (before : List Change) (c : Change) → SameBag (stored_triples s) (present before) → HoldsAfter s c new → SameBag (stored_triples new) (present (before ++ c ∷ []))
holds-next s new before (Add t) same holds =
    by (is_present before t) (subst (λ (b : Bool). SameBag (stored_triples new) (if b then stored_triples s else t ∷ stored_triples s)) (stored-present s before t same) holds) (present_added before t)
  where
    by : (b : Bool) → SameBag (stored_triples new) (if b then stored_triples s else t ∷ stored_triples s) → SameBag (present (before ++ Add t ∷ [])) (if b then present before else t ∷ present before)
        → SameBag (stored_triples new) (present (before ++ Add t ∷ []))
    by true h k = same-trans h (same-trans same (same-sym k))
    by false h k = same-trans h (same-trans (with-first t (stored_triples s) (present before) same) (same-sym k))
holds-next s new before (Delete t) same holds =
    by (is_present before t) (subst (λ (b : Bool). SameBag (if b then t ∷ stored_triples new else stored_triples new) (stored_triples s)) (stored-present s before t same) holds) (present_deleted before t)
  where
    by : (b : Bool) → SameBag (if b then t ∷ stored_triples new else stored_triples new) (stored_triples s) → SameBag (if b then t ∷ present (before ++ Delete t ∷ []) else present (before ++ Delete t ∷ [])) (present before)
        → SameBag (stored_triples new) (present (before ++ Delete t ∷ []))
    by true h k = same-rest t (stored_triples new) (present (before ++ Delete t ∷ [])) (same-trans h (same-trans same (same-sym k)))
    by false h k = same-trans h (same-trans same (same-sym k))

-- ---- the limits of changes that follow others

or_assoc : (a b c : Option Which) → or_later a (or_later b c) ≡ or_later (or_later a b) c
or_assoc None b c = refl
or_assoc (Some w) b c = refl

passed-append : (before xs ys : List Change) → passed_from before (xs ++ ys) ≡ or_later (passed_from before xs) (passed_from (before ++ xs) ys)
passed-append before [] ys = ap (λ (l : List Change). passed_from l ys) (sym (append-nil before))
passed-append before (x ∷ xs) ys =
    ap (λ (o : Option Which). or_later (passed_at before x) o)
    (passed-append (before ++ x ∷ []) xs ys ∙ ap (λ (l : List Change). or_later (passed_from (before ++ x ∷ []) xs) (passed_from l ys)) (append_assoc before (x ∷ []) xs))
    ∙ or_assoc (passed_at before x) (passed_from (before ++ x ∷ []) xs) (passed_from (before ++ x ∷ xs) ys)

-- a refusal in a front is one of the whole
pub refused-front : (e : LoadRefusal) (front later : List Change) → Refuses e (passed_limit front) → Refuses e (passed_limit (front ++ later))
refused-front load.NoMemory front later h = tt
refused-front (load.Limit w) front later h = passed-append [] front later ∙ ap (λ (o : Option Which). or_later o (passed_from front later)) h

-- ---- a turn of the loop

pub limits-begin : (front later : List Change) → passed_limit front ≡ None → passed_limit (front ++ later) ≡ passed_from (front ++ take 0 later) (drop 0 later)
limits-begin front later e =
    passed-append [] front later ∙ ap (λ (o : Option Which). or_later o (passed_from front later)) e
    ∙ ap (λ (l : List Change). passed_from l later) (sym (append-nil front))

pub begins : (s : StoreOf) (front later : List Change) → SameBag (stored_triples s) (present front) → SameBag (stored_triples s) (present (front ++ take 0 later))
begins s front later h = subst (λ (l : List Change). SameBag (stored_triples s) (present l)) (sym (append-nil front)) h

left-on : (cs : List Change) (i : ℕ) (c : Change) → i < length cs → c ≡ get_or cs i c → drop i cs ≡ c ∷ drop (i + 1) cs
left-on cs i c l e = drop_more cs i c l ∙ ap (λ (u : Change). u ∷ drop (i + 1) cs) (sym e)

taken-on : (cs : List Change) (i : ℕ) (c : Change) → i < length cs → c ≡ get_or cs i c → take (i + 1) cs ≡ take i cs ++ c ∷ []
taken-on cs i c l e = take_more cs i c l ∙ ap (λ (u : Change). take i cs ++ u ∷ []) (sym e)

front-on : (front cs : List Change) (i : ℕ) (c : Change) → i < length cs → c ≡ get_or cs i c → (front ++ take i cs) ++ c ∷ [] ≡ front ++ take (i + 1) cs
front-on front cs i c l e = append_assoc front (take i cs) (c ∷ []) ∙ ap (λ (l : List Change). front ++ l) (sym (taken-on cs i c l e))

pub placed-on : (start s new : StoreOf) (cs : List Change) (i : ℕ) (c : Change) → i < length cs → c ≡ get_or cs i c → s ≡ fold changed_in start (take i cs) → new ≡ changed_in s c → new ≡ fold changed_in start (take (i + 1) cs)
placed-on start s new cs i c l e placed changed =
    changed ∙ ap (λ (w : StoreOf). changed_in w c) placed ∙ sym (fold-append changed_in start (take i cs) (c ∷ []))
    ∙ ap (λ (done : List Change). fold changed_in start done) (sym (taken-on cs i c l e))

pub holds-on : (s new : StoreOf) (front cs : List Change) (i : ℕ) (c : Change) → i < length cs → c ≡ get_or cs i c → SameBag (stored_triples s) (present (front ++ take i cs)) → HoldsAfter s c new
    → SameBag (stored_triples new) (present (front ++ take (i + 1) cs))
holds-on s new front cs i c l e same holds =
    subst (λ (done : List Change). SameBag (stored_triples new) (present done)) (front-on front cs i c l e) (holds-next s new (front ++ take i cs) c same holds)

-- what is known of the store before a turn
terms-so-far : (layout : LayoutOf) (bulk : List RdfTriple) (done : List Change) (s : StoreOf) → s ≡ fold changed_in (bulk_store layout bulk) done → s.terms ≡ terms_needed (map Add bulk ++ done)
terms-so-far layout bulk done s e = ap (λ (w : StoreOf). w.terms) e ∙ store-terms layout bulk done

-- each change uses one list id of a side at most, and so does each triple of the bulk
pub ids-left : (layout : LayoutOf) (bulk : List RdfTriple) (cs : List Change) (i : ℕ) (s : StoreOf) → s ≡ fold changed_in (bulk_store layout bulk) (take i cs) → length bulk + length cs < 2 ^ 62 → i < length cs → LeavesIds s
ids-left layout bulk cs i s e few l = subst LeavesIds (sym e) (record {
  direct = (let d = fold-direct_id (bulk_store layout bulk) (take i cs) in let b = direct-ids layout bulk in omega (arith, d, b, done, few, l));
  reverse = (let d = fold-reverse_id (bulk_store layout bulk) (take i cs) in let b = reverse-ids layout bulk in omega (arith, d, b, done, few, l));
})
  where
    done : length (take i cs) ≡ i
    done = length-take-le i cs (omega (arith, l))

-- a change keeps the layout
pub layout-on : (s new : StoreOf) (c : Change) → new ≡ changed_in s c → layout_of new ≡ layout_of s
layout-on s new c e = ap (λ (w : StoreOf). layout_of w) e ∙ fold-layout s (c ∷ [])

pub placed-next : (bulk : List RdfTriple) (s new : StoreOf) (cs : List Change) (i : ℕ) (c : Change) → i < length cs → c ≡ get_or cs i c → s ≡ fold changed_in (bulk_store (layout_of s) bulk) (take i cs) → new ≡ changed_in s c
    → new ≡ fold changed_in (bulk_store (layout_of new) bulk) (take (i + 1) cs)
placed-next bulk s new cs i c l e placed changed =
    placed-on (bulk_store (layout_of s) bulk) s new cs i c l e placed changed
    ∙ ap (λ (k : LayoutOf). fold changed_in (bulk_store k bulk) (take (i + 1) cs)) (sym (layout-on s new c changed))

pub layout-next : (P : LayoutOf → Type 0) (s new : StoreOf) (c : Change) → new ≡ changed_in s c → P (layout_of s) → P (layout_of new)
layout-next P s new c changed h = subst P (sym (layout-on s new c changed)) h

turn-limit : (layout : LayoutOf) (bulk : List RdfTriple) (cs : List Change) (i : ℕ) (c : Change) (s : StoreOf) → s ≡ fold changed_in (bulk_store layout bulk) (take i cs)
    → SameBag (stored_triples s) (present (map Add bulk ++ take i cs)) → passed_at (map Add bulk ++ take i cs) c ≡ limit_at s c
turn-limit layout bulk cs i c s e same = sym (limit-same s (map Add bulk ++ take i cs) c same (terms-so-far layout bulk (take i cs) s e))

pub limits-on : (layout : LayoutOf) (bulk : List RdfTriple) (cs : List Change) (i : ℕ) (c : Change) (s : StoreOf) → i < length cs → c ≡ get_or cs i c → s ≡ fold changed_in (bulk_store layout bulk) (take i cs)
    → SameBag (stored_triples s) (present (map Add bulk ++ take i cs)) → limit_at s c ≡ None
    → passed_limit (map Add bulk ++ cs) ≡ passed_from (map Add bulk ++ take i cs) (drop i cs) → passed_limit (map Add bulk ++ cs) ≡ passed_from (map Add bulk ++ take (i + 1) cs) (drop (i + 1) cs)
limits-on layout bulk cs i c s l e placed same none before =
    before ∙ ap (λ (left : List Change). passed_from (map Add bulk ++ take i cs) left) (left-on cs i c l e)
    ∙ ap (λ (o : Option Which). or_later o (passed_from ((map Add bulk ++ take i cs) ++ c ∷ []) (drop (i + 1) cs))) (turn-limit layout bulk cs i c s placed same ∙ none)
    ∙ ap (λ (done : List Change). passed_from done (drop (i + 1) cs)) (front-on (map Add bulk) cs i c l e)

pub refused-on : (layout : LayoutOf) (bulk : List RdfTriple) (cs : List Change) (i : ℕ) (c : Change) (s : StoreOf) (r : LoadRefusal) → i < length cs → c ≡ get_or cs i c → s ≡ fold changed_in (bulk_store layout bulk) (take i cs)
    → SameBag (stored_triples s) (present (map Add bulk ++ take i cs)) → Refuses r (limit_at s c)
    → passed_limit (map Add bulk ++ cs) ≡ passed_from (map Add bulk ++ take i cs) (drop i cs) → Refuses r (passed_limit (map Add bulk ++ cs))
refused-on layout bulk cs i c s load.NoMemory l e placed same refuses before = tt
refused-on layout bulk cs i c s (load.Limit w) l e placed same refuses before =
    before ∙ ap (λ (left : List Change). passed_from (map Add bulk ++ take i cs) left) (left-on cs i c l e)
    ∙ ap (λ (o : Option Which). or_later o (passed_from ((map Add bulk ++ take i cs) ++ c ∷ []) (drop (i + 1) cs))) (turn-limit layout bulk cs i c s placed same ∙ refuses)
