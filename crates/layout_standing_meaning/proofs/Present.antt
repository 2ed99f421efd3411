-- A triple is stored where its item is held, and what is stored after a change.
use Rattle.std.proofs.Common.{◌≡◌, ℕ, suc, ◌+◌, ◌-◌, ◌≤◌, ◌<◌, ◌||◌, Bool, true, false, if◌then◌else◌, List, [], ◌∷◌, ◌++◌, map, Option, Some, length, slice_get, refl, sym, ap, ◌∙◌, arith, subst}
use Rattle.std.specs.Prelude.{unwrap_or}
use Rattle.std.specs.List.{list_any, IsDistinct, AllByRecursion}
use Rattle.std.proofs.lemmas.Option.{slice_get_within}
use Rattle.bags.specs.Bag.{total}
use Rattle.rdf_meaning.specs.Terms.{RdfTerm, RdfTriple, iri, same_term, same_triple}
use Rattle.rdf_meaning.specs.TermLaws.{same_term-is, same_term-self, same_triple-is, same_triple-self}
use Rattle.layout_meaning.specs.Side.{Item, items, is_held}
use Rattle.layout_meaning.specs.Sound.{one_if}
use Rattle.layout_standing_meaning.specs.Dictionary.{IsTriple, id_of, has_term, numbered_from, entries_of}
use Rattle.layout_standing_meaning.specs.Contents.{direct_item}
use Rattle.layout_standing_meaning.specs.Stored.{StoreOf, IsStore, IsItem, IsIdIn, term_at, triple_by}
use Rattle.layout_standing_meaning.specs.Changes.{with_term, with_terms, item_in, is_stored}
use Rattle.layout_standing_meaning.proofs.Each.{picked}
use Rattle.layout_standing_meaning.proofs.Once.{same_item}
use Rattle.layout_standing_meaning.proofs.Terms.{term_at-id}
use Rattle.layout_standing_meaning.proofs.Steps.{itself, same-is, count-held}
use Rattle.layout_standing_meaning.proofs.Growth.{triple-front}

-- the id of a term that is there
id-place : (n : ℕ) (t : RdfTerm) (ts : List RdfTerm) → has_term (numbered_from n ts) t ≡ true → (n ≤ id_of (numbered_from n ts) t) × (slice_get ts (id_of (numbered_from n ts) t - n) ≡ Some t)
id-place n t [] h = cc
id-place n t (x ∷ xs) h = by (same_term x t) refl h (id-place (n + 1) t xs)
  where
    later : (m : ℕ) → n + 1 ≤ m → slice_get xs (m - (n + 1)) ≡ Some t → slice_get (x ∷ xs) (m - n) ≡ Some t
    later m l e = let k : m - n ≡ suc (m - (n + 1)) = omega arith in ap (slice_get (x ∷ xs)) k ∙ e

    by : (b : Bool) → same_term x t ≡ b → (b || has_term (numbered_from (n + 1) xs) t) ≡ true
        → (has_term (numbered_from (n + 1) xs) t ≡ true → (n + 1 ≤ id_of (numbered_from (n + 1) xs) t) × (slice_get xs (id_of (numbered_from (n + 1) xs) t - (n + 1)) ≡ Some t))
        → (n ≤ (if b then n else id_of (numbered_from (n + 1) xs) t)) × (slice_get (x ∷ xs) ((if b then n else id_of (numbered_from (n + 1) xs) t) - n) ≡ Some t)
    by true e h ih = (omega arith, (let k : n - n ≡ 0 = omega arith in ap (slice_get (x ∷ xs)) k ∙ ap (λ (y : RdfTerm). Some y) (same_term-is x t e)))
    by false e h ih = let r = ih h in ((let a = r.0 in omega arith), later (id_of (numbered_from (n + 1) xs) t) r.0 r.1)

pub id-there : (ts : List RdfTerm) (t : RdfTerm) → has_term (entries_of ts) t ≡ true → IsIdIn ts (id_of (entries_of ts) t)
id-there ts t h = let p = id-place 1 t ts h in (p.0, (let a = p.0 in let b : id_of (entries_of ts) t - 1 < length ts = slice_get_within ts (id_of (entries_of ts) t - 1) t p.1 in omega arith))

pub term-there : (ts : List RdfTerm) (t : RdfTerm) → has_term (entries_of ts) t ≡ true → term_at ts (id_of (entries_of ts) t) ≡ t
term-there ts t h = ap (λ (o : Option RdfTerm). unwrap_or o (iri [])) (id-place 1 t ts h).1

-- a term with an id is there
pub there-id : (n : ℕ) (t : RdfTerm) (ts : List RdfTerm) → 1 ≤ id_of (numbered_from n ts) t → has_term (numbered_from n ts) t ≡ true
there-id n t [] l = absurd (omega arith)
there-id n t (x ∷ xs) l = by (same_term x t) l (there-id (n + 1) t xs)
  where
    by : (b : Bool) → 1 ≤ (if b then n else id_of (numbered_from (n + 1) xs) t) → (1 ≤ id_of (numbered_from (n + 1) xs) t → has_term (numbered_from (n + 1) xs) t ≡ true) → (b || has_term (numbered_from (n + 1) xs) t) ≡ true
    by true l ih = refl
    by false l ih = ih l

-- three terms that are there
pub record HasTerms (ts : List RdfTerm) (t : RdfTriple) : Type 0 where
  pub subject : has_term (entries_of ts) t.s ≡ true
  pub predicate : has_term (entries_of ts) t.p ≡ true
  pub object : has_term (entries_of ts) t.o ≡ true

pub triple-there : (ts : List RdfTerm) (t : RdfTriple) → HasTerms ts t → triple_by ts (item_in ts t) ≡ t
triple-there ts t h =
    let a = term-there ts t.s h.subject in
    let b = term-there ts t.p h.predicate in
    let c = term-there ts t.o h.object in
    λ i. record { s = a i; p = b i; o = c i }

pub item-there : (ts : List RdfTerm) (t : RdfTriple) → HasTerms ts t → IsTriple t → IsItem ts (item_in ts t)
item-there ts t h form = record {
  entity = id-there ts t.s h.subject;
  pred = id-there ts t.p h.predicate;
  value = id-there ts t.o h.object;
  form = subst IsTriple (sym (triple-there ts t h)) form;
}

-- the items that a store holds
pub held-item : (s : StoreOf) (x : Item) → IsStore s → is_held x s.direct.state ≡ true → IsItem s.terms x
held-item s x h there =
    picked (IsItem s.terms) (IsItem s.terms x) (λ (y : Item). one_if (same_item y x)) (λ (y : Item) (p : IsItem s.terms y) (l : 0 < one_if (same_item y x)). by y p (same_item y x) refl l) (items s.direct.state) h.each_item
    (let a = count-held s.direct h.sides.direct x in let b : one_if (is_held x s.direct.state) ≡ 1 = ap one_if there in omega arith)
  where
    by : (y : Item) → IsItem s.terms y → (b : Bool) → same_item y x ≡ b → 0 < one_if b → IsItem s.terms x
    by y p true t l = subst (IsItem s.terms) (same-is y x t) p
    by y p false t l = absurd (omega arith)

pub held-terms : (s : StoreOf) (t : RdfTriple) → IsStore s → is_held (item_in s.terms t) s.direct.state ≡ true → HasTerms s.terms t
held-terms s t h there =
    let x = held-item s (item_in s.terms t) h there in
    record { subject = there-id 1 t.s s.terms x.entity.0; predicate = there-id 1 t.p s.terms x.pred.0; object = there-id 1 t.o s.terms x.value.0 }

-- a triple is stored where its item is held
same_back : (ts : List RdfTerm) → IsDistinct same_term ts → (t : RdfTriple) (y : Item) → IsItem ts y → same_triple t (triple_by ts y) ≡ same_item y (item_in ts t)
same_back ts d t y h = by (same_triple t (triple_by ts y)) refl (same_item y (item_in ts t)) refl
  where
    back : direct_item (id_of (entries_of ts)) (triple_by ts y) ≡ y
    back =
        let a = term_at-id ts y.entity d h.entity in
        let b = term_at-id ts y.pred d h.pred in
        let c = term_at-id ts y.value d h.value in
        λ i. record { entity = a i; pred = b i; value = c i }

    to : t ≡ triple_by ts y → same_item y (item_in ts t) ≡ true
    to e = ap (same_item y) (ap (item_in ts) e ∙ back) ∙ itself y

    from : y ≡ item_in ts t → same_triple t (triple_by ts y) ≡ true
    from e =
        let w : IsItem ts (item_in ts t) = subst (IsItem ts) e h in
        let k : HasTerms ts t = record { subject = there-id 1 t.s ts w.entity.0; predicate = there-id 1 t.p ts w.pred.0; object = there-id 1 t.o ts w.value.0 } in
        ap (same_triple t) (ap (triple_by ts) e ∙ triple-there ts t k) ∙ same_triple-self t

    by : (a : Bool) → same_triple t (triple_by ts y) ≡ a → (b : Bool) → same_item y (item_in ts t) ≡ b → a ≡ b
    by true p true q = refl
    by false p false q = refl
    by true p false q = sym (to (same_triple-is t (triple_by ts y) p)) ∙ q
    by false p true q = sym p ∙ from (same-is y (item_in ts t) q)

pub stored-held : (s : StoreOf) (t : RdfTriple) → IsStore s → is_stored s t ≡ is_held (item_in s.terms t) s.direct.state
stored-held s t h = any-map (items s.direct.state) h.each_item ∙ any-count (items s.direct.state) (is_held (item_in s.terms t) s.direct.state) (count-held s.direct h.sides.direct (item_in s.terms t))
  where
    any-map : (xs : List Item) → AllByRecursion (IsItem s.terms) xs → list_any (same_triple t) (map (triple_by s.terms) xs) ≡ list_any (λ (y : Item). same_item y (item_in s.terms t)) xs
    any-map [] a = refl
    any-map (x ∷ xs) a = ap (λ (b : Bool). b || list_any (same_triple t) (map (triple_by s.terms) xs)) (same_back s.terms h.distinct t x a.0) ∙ ap (λ (b : Bool). same_item x (item_in s.terms t) || b) (any-map xs a.1)

    some : (xs : List Item) → total (λ (y : Item). one_if (same_item y (item_in s.terms t))) xs ≡ 0 → list_any (λ (y : Item). same_item y (item_in s.terms t)) xs ≡ false
    some [] z = refl
    some (x ∷ xs) z = by (same_item x (item_in s.terms t)) refl (some xs)
      where
        by : (b : Bool) → same_item x (item_in s.terms t) ≡ b → (total (λ (y : Item). one_if (same_item y (item_in s.terms t))) xs ≡ 0 → list_any (λ (y : Item). same_item y (item_in s.terms t)) xs ≡ false) → (b || list_any (λ (y : Item). same_item y (item_in s.terms t)) xs) ≡ false
        by true e ih = let k : one_if (same_item x (item_in s.terms t)) ≡ 1 = ap one_if e in absurd (omega arith)
        by false e ih = ih (omega arith)

    any-count : (xs : List Item) (b : Bool) → total (λ (y : Item). one_if (same_item y (item_in s.terms t))) xs ≡ one_if b → list_any (λ (y : Item). same_item y (item_in s.terms t)) xs ≡ b
    any-count xs false e = some xs e
    any-count [] true e = absurd (omega arith)
    any-count (x ∷ xs) true e = by (same_item x (item_in s.terms t)) refl (any-count xs true)
      where
        by : (b : Bool) → same_item x (item_in s.terms t) ≡ b → (total (λ (y : Item). one_if (same_item y (item_in s.terms t))) xs ≡ 1 → list_any (λ (y : Item). same_item y (item_in s.terms t)) xs ≡ true) → (b || list_any (λ (y : Item). same_item y (item_in s.terms t)) xs) ≡ true
        by true q ih = refl
        by false q ih = let k : one_if (same_item x (item_in s.terms t)) ≡ 0 = ap one_if q in ih (omega arith)

-- a dictionary that grows changes no stored triple
grown-front : (ts : List RdfTerm) (t : RdfTerm) → (us : List RdfTerm) × (with_term ts t ≡ ts ++ us)
grown-front ts t = by (list_any (same_term t) ts)
  where
    append-none : (l : List RdfTerm) → l ≡ l ++ []
    append-none [] = refl
    append-none (x ∷ l) = ap (λ (m : List RdfTerm). x ∷ m) (append-none l)

    by : (b : Bool) → (us : List RdfTerm) × ((if b then ts else ts ++ t ∷ []) ≡ ts ++ us)
    by true = ([], append-none ts)
    by false = (t ∷ [], refl)

triples-front : (ts us : List RdfTerm) (xs : List Item) → AllByRecursion (IsItem ts) xs → map (triple_by (ts ++ us)) xs ≡ map (triple_by ts) xs
triples-front ts us [] a = refl
triples-front ts us (x ∷ xs) a = ap (λ (t : RdfTriple). t ∷ map (triple_by (ts ++ us)) xs) (triple-front ts us x a.0) ∙ ap (λ (l : List RdfTriple). triple_by ts x ∷ l) (triples-front ts us xs a.1)

pub stored-one : (ts : List RdfTerm) (t : RdfTerm) (xs : List Item) → AllByRecursion (IsItem ts) xs → map (triple_by (with_term ts t)) xs ≡ map (triple_by ts) xs
stored-one ts t xs a = let g = grown-front ts t in ap (λ (l : List RdfTerm). map (triple_by l) xs) g.1 ∙ triples-front ts g.0 xs a

-- a term that was noted is there
noted-there : (n : ℕ) (ts : List RdfTerm) (t : RdfTerm) → has_term (numbered_from n (with_term ts t)) t ≡ true
noted-there n ts t = by (list_any (same_term t) ts) refl
  where
    last : (n : ℕ) (ts : List RdfTerm) → has_term (numbered_from n (ts ++ t ∷ [])) t ≡ true
    last n [] = ap (λ (b : Bool). b || false) (self t)
      where
        self : (t : RdfTerm) → same_term t t ≡ true
        self t = same_term-self t
    last n (x ∷ xs) = or_right (same_term x t) (last (n + 1) xs)
      where
        or_right : (a : Bool) → has_term (numbered_from (n + 1) (xs ++ t ∷ [])) t ≡ true → (a || has_term (numbered_from (n + 1) (xs ++ t ∷ [])) t) ≡ true
        or_right true h = refl
        or_right false h = h

    among : (n : ℕ) (ts : List RdfTerm) → list_any (same_term t) ts ≡ true → has_term (numbered_from n ts) t ≡ true
    among n [] h = cc
    among n (x ∷ xs) h = step (same_term t x) refl h (among (n + 1) xs)
      where
        step : (b : Bool) → same_term t x ≡ b → (b || list_any (same_term t) xs) ≡ true → (list_any (same_term t) xs ≡ true → has_term (numbered_from (n + 1) xs) t ≡ true) → (same_term x t || has_term (numbered_from (n + 1) xs) t) ≡ true
        step true e h ih = let k : same_term x t ≡ true = subst (λ (y : RdfTerm). same_term y t ≡ true) (same_term-is t x e) (same_term-self t) in ap (λ (b : Bool). b || has_term (numbered_from (n + 1) xs) t) k
        step false e h ih = or_right (same_term x t) (ih h)
          where
            or_right : (a : Bool) → has_term (numbered_from (n + 1) xs) t ≡ true → (a || has_term (numbered_from (n + 1) xs) t) ≡ true
            or_right true h = refl
            or_right false h = h

    by : (b : Bool) → list_any (same_term t) ts ≡ b → has_term (numbered_from n (if b then ts else ts ++ t ∷ [])) t ≡ true
    by true e = among n ts e
    by false e = last n ts

has-both : (n : ℕ) (ts us : List RdfTerm) (t : RdfTerm) → has_term (numbered_from n ts) t ≡ true → has_term (numbered_from n (ts ++ us)) t ≡ true
has-both n [] us t h = cc
has-both n (x ∷ xs) us t h = step (same_term x t) h (has-both (n + 1) xs us t)
  where
    step : (b : Bool) → (b || has_term (numbered_from (n + 1) xs) t) ≡ true → (has_term (numbered_from (n + 1) xs) t ≡ true → has_term (numbered_from (n + 1) (xs ++ us)) t ≡ true) → (b || has_term (numbered_from (n + 1) (xs ++ us)) t) ≡ true
    step true h ih = refl
    step false h ih = ih h

still-there : (ts : List RdfTerm) (t u : RdfTerm) → has_term (entries_of ts) t ≡ true → has_term (entries_of (with_term ts u)) t ≡ true
still-there ts t u h = let g = grown-front ts u in subst (λ (l : List RdfTerm). has_term (entries_of l) t ≡ true) (sym g.1) (has-both 1 ts g.0 t h)

pub terms-noted : (ts : List RdfTerm) (t : RdfTriple) → HasTerms (with_terms ts t) t
terms-noted ts t = record {
  subject = still-there (with_term (with_term ts t.s) t.p) t.s t.o (still-there (with_term ts t.s) t.s t.p (noted-there 1 ts t.s));
  predicate = still-there (with_term (with_term ts t.s) t.p) t.p t.o (noted-there 1 (with_term ts t.s) t.p);
  object = noted-there 1 (with_term (with_term ts t.s) t.p) t.o;
}
