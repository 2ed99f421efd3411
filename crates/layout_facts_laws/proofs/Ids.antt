-- Ids of terms, and the terms under them.
use Rattle.std.proofs.Common.{◌≡◌, ℕ, ◌+◌, ◌≤◌, ◌==◌, ◌||◌, Bool, true, false, cond, if◌then◌else◌, List, [], ◌∷◌, refl, sym, ap, ◌∙◌, arith, subst}
use Rattle.std.proofs.lemmas.Bool.{or_parts}
use Rattle.std.specs.List.{AllByRecursion}
use Rattle.bags.specs.Bag.{total, SameBag}
use Rattle.bags.specs.BagLaws.{same-any}
use Rattle.rdf_meaning.specs.Terms.{RdfTerm, iri, same_term}
use Rattle.rdf_meaning.specs.TermLaws.{same_term-is, same_term-self}
use Rattle.layout_meaning.specs.Sound.{one_if}
use Rattle.layout_standing_meaning.specs.Dictionary.{Entry, AreEntries, id_of, has_term, is_id}

-- no id stands twice
abbrev pub HasEachOnce : List Entry → Type 0
HasEachOnce es = (n : ℕ) → total (λ (f : Entry). one_if (f.id == n)) es ≤ 1

self : (n : ℕ) → one_if (n == n) ≡ 1
self n = let k : (n == n) ≡ true = grind arith in ap one_if k

-- the id of a term that is there stands in the dictionary
stands : (es : List Entry) (t : RdfTerm) → has_term es t ≡ true → 1 ≤ total (λ (f : Entry). one_if (f.id == id_of es t)) es
stands [] t h = cc
stands (e ∷ es) t h = by (same_term e.term t) h (stands es t)
  where
    by : (b : Bool) → (b || has_term es t) ≡ true → (has_term es t ≡ true → 1 ≤ total (λ (f : Entry). one_if (f.id == id_of es t)) es)
        → 1 ≤ one_if (e.id == (if b then e.id else id_of es t)) + total (λ (f : Entry). one_if (f.id == (if b then e.id else id_of es t))) es
    by true h ih = (let k = self e.id in omega arith)
    by false h ih = (let k = ih h in omega arith)

pub rest_once : (e : Entry) (es : List Entry) → HasEachOnce (e ∷ es) → HasEachOnce es
rest_once e es once = λ (n : ℕ). (let k = once n in omega arith)

-- the id of a term of the rest isn't the first one
pub not_first : (e : Entry) (es : List Entry) (t : RdfTerm) → HasEachOnce (e ∷ es) → has_term es t ≡ true → (e.id == id_of es t) ≡ false
not_first e es t once h = by (e.id == id_of es t) refl
  where
    by : (b : Bool) → (e.id == id_of es t) ≡ b → b ≡ false
    by false q = refl
    by true q =
        let k : one_if (e.id == id_of es t) ≡ 1 = ap one_if q in
        let s = stands es t h in
        let w = once (id_of es t) in
        absurd (omega arith)

-- the term under an id
abbrev pub term_of : List Entry → ℕ → RdfTerm
term_of [] n = iri []
term_of (e ∷ es) n = if e.id == n then e.term else term_of es n

pub term-back : (es : List Entry) (t : RdfTerm) → HasEachOnce es → has_term es t ≡ true → term_of es (id_of es t) ≡ t
term-back [] t once h = cc
term-back (e ∷ es) t once h = by (same_term e.term t) refl h (term-back es t (rest_once e es once))
  where
    by : (b : Bool) → same_term e.term t ≡ b → (b || has_term es t) ≡ true → (has_term es t ≡ true → term_of es (id_of es t) ≡ t)
        → (if e.id == (if b then e.id else id_of es t) then e.term else term_of es (if b then e.id else id_of es t)) ≡ t
    by true s h ih = let k : (e.id == e.id) ≡ true = grind arith in rw k (same_term-is e.term t s)
    by false s h ih = rw (not_first e es t once h) (ih h)

-- a term that isn't there has the id 0, which no term has
pub id-none : (es : List Entry) (t : RdfTerm) → has_term es t ≡ false → id_of es t ≡ 0
id-none [] t h = refl
id-none (e ∷ es) t h = let p = or_parts (same_term e.term t) (has_term es t) h in rw p.0 (id-none es t p.1)

pub id-least : (es : List Entry) (t : RdfTerm) → AllByRecursion (λ (e : Entry). 1 ≤ e.id) es → has_term es t ≡ true → 1 ≤ id_of es t
id-least [] t l h = cc
id-least (e ∷ es) t l h = by (same_term e.term t) h (id-least es t l.1)
  where
    by : (b : Bool) → (b || has_term es t) ≡ true → (has_term es t ≡ true → 1 ≤ id_of es t) → 1 ≤ (if b then e.id else id_of es t)
    by true h ih = l.0
    by false h ih = ih h

pub zero-none : (es : List Entry) → AllByRecursion (λ (e : Entry). 1 ≤ e.id) es → is_id es 0 ≡ false
zero-none [] l = refl
zero-none (e ∷ es) l = let a = l.0 in let k : (e.id == 0) ≡ false = grind arith in rw k (zero-none es l.1)

-- an id tells a term that is there from every other
pub told : (es : List Entry) → AreEntries es → (c t : RdfTerm) → has_term es t ≡ true → (id_of es c == id_of es t) ≡ same_term c t
told es h c t there = by (id_of es c == id_of es t) refl (same_term c t) refl (has_term es c) refl
  where
    by : (p : Bool) → (id_of es c == id_of es t) ≡ p → (q : Bool) → same_term c t ≡ q → (b : Bool) → has_term es c ≡ b → p ≡ q
    by true s true u b w = refl
    by false s false u b w = refl
    by true s false u true w =
        let k : id_of es c ≡ id_of es t = grind arith in
        let e : c ≡ t = sym (term-back es c h.own_id w) ∙ ap (term_of es) k ∙ term-back es t h.own_id there in
        sym (subst (λ (x : RdfTerm). same_term c x ≡ true) e (same_term-self c)) ∙ u
    by true s false u false w = let k : id_of es c ≡ id_of es t = grind arith in let z : id_of es c ≡ 0 = id-none es c w in let l : 1 ≤ id_of es t = id-least es t h.least there in absurd (omega arith)
    by false s true u b w = let k : id_of es c ≡ id_of es t = ap (id_of es) (same_term-is c t u) in let m : (id_of es c == id_of es t) ≡ true = grind arith in sym s ∙ m

-- ---- the same entries in another order

zero-rest : (t : RdfTerm) (es : List Entry) → total (λ (e : Entry). one_if (same_term e.term t)) es ≡ 0 → total (λ (e : Entry). cond (same_term e.term t) e.id 0) es ≡ 0
zero-rest t [] z = refl
zero-rest t (e ∷ es) z = by (same_term e.term t) z (zero-rest t es)
  where
    by : (b : Bool) → one_if b + total (λ (f : Entry). one_if (same_term f.term t)) es ≡ 0 → (total (λ (f : Entry). one_if (same_term f.term t)) es ≡ 0 → total (λ (f : Entry). cond (same_term f.term t) f.id 0) es ≡ 0)
        → cond b e.id 0 + total (λ (f : Entry). cond (same_term f.term t) f.id 0) es ≡ 0
    by true z ih = absurd (omega arith)
    by false z ih = let k = ih (omega arith) in omega arith

id-sum : (t : RdfTerm) (es : List Entry) → total (λ (e : Entry). one_if (same_term e.term t)) es ≤ 1 → id_of es t ≡ total (λ (e : Entry). cond (same_term e.term t) e.id 0) es
id-sum t [] once = refl
id-sum t (e ∷ es) once = by (same_term e.term t) once (id-sum t es)
  where
    by : (b : Bool) → one_if b + total (λ (f : Entry). one_if (same_term f.term t)) es ≤ 1 → (total (λ (f : Entry). one_if (same_term f.term t)) es ≤ 1 → id_of es t ≡ total (λ (f : Entry). cond (same_term f.term t) f.id 0) es)
        → (if b then e.id else id_of es t) ≡ cond b e.id 0 + total (λ (f : Entry). cond (same_term f.term t) f.id 0) es
    by true once ih = let k = zero-rest t es (omega arith) in omega arith
    by false once ih = let k = ih (omega arith) in omega arith

pub same-id : (es fs : List Entry) → SameBag es fs → AreEntries es → AreEntries fs → (t : RdfTerm) → id_of es t ≡ id_of fs t
same-id es fs same a b t =
    let k = id-sum t es (a.own_term t) in
    let m = id-sum t fs (b.own_term t) in
    let n = same.totals (λ (e : Entry). cond (same_term e.term t) e.id 0) in
    omega arith

pub same-has : (es fs : List Entry) → SameBag es fs → (t : RdfTerm) → has_term es t ≡ has_term fs t
same-has es fs same t = same-any (λ (e : Entry). same_term e.term t) es fs same
