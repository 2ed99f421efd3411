-- Terms numbered on, and their ids.
use Rattle.std.proofs.Common.{◌≡◌, ℕ, zero, suc, ◌+◌, ◌-◌, ◌≤◌, ◌<◌, ◌==◌, ◌||◌, Bool, true, false, if◌then◌else◌, List, [], ◌∷◌, Some, length, slice_get, refl, sym, ap, ◌∙◌, arith, subst}
use Rattle.std.specs.Prelude.{unwrap_or}
use Rattle.std.specs.List.{IsDistinct, AllByRecursion}
use Rattle.std.specs.Ordering.{nat_cmp}
use Rattle.std.specs.BTreeMap.{is_at}
use Rattle.bags.specs.Bag.{total}
use Rattle.rdf_meaning.specs.Terms.{RdfTerm, iri, same_term}
use Rattle.rdf_meaning.specs.TermLaws.{same_term-is, same_term-self}
use Rattle.layout_meaning.specs.Sound.{one_if}
use Rattle.layout_meaning.specs.Rows.{name_in}
use Rattle.layout_meaning.proofs.Maps.{at_true}
use Rattle.layout_standing_meaning.specs.Dictionary.{Entry, IsTerm, AreEntries, id_of, has_term, is_id, names_of, numbered_from, entries_of}
use Rattle.layout_standing_meaning.specs.Stored.{term_at, IsIdIn}

lower-none : (m n : ℕ) (ts : List RdfTerm) → m < n → total (λ (e : Entry). one_if (e.id == m)) (numbered_from n ts) ≡ 0
lower-none m n [] l = refl
lower-none m n (t ∷ ts) l =
    let ih : total (λ (e : Entry). one_if (e.id == m)) (numbered_from (n + 1) ts) ≡ 0 = lower-none m (n + 1) ts (omega arith) in
    let a : (n == m) ≡ false = grind arith in
    let z : one_if (n == m) ≡ 0 = ap one_if a in omega arith

own_ids : (m n : ℕ) (ts : List RdfTerm) → total (λ (e : Entry). one_if (e.id == m)) (numbered_from n ts) ≤ 1
own_ids m n [] = omega arith
own_ids m n (t ∷ ts) = by (n == m) refl (own_ids m (n + 1) ts)
  where
    by : (b : Bool) → (n == m) ≡ b → total (λ (e : Entry). one_if (e.id == m)) (numbered_from (n + 1) ts) ≤ 1 → one_if b + total (λ (e : Entry). one_if (e.id == m)) (numbered_from (n + 1) ts) ≤ 1
    by true t ih = let l : m < n + 1 = grind arith in let z : total (λ (e : Entry). one_if (e.id == m)) (numbered_from (n + 1) ts) ≡ 0 = lower-none m (n + 1) ts l in omega arith
    by false t ih = omega arith

least : (n : ℕ) (ts : List RdfTerm) → 1 ≤ n → AllByRecursion (λ (e : Entry). 1 ≤ e.id) (numbered_from n ts)
least n [] l = tt
least n (t ∷ ts) l = (l, least (n + 1) ts (omega arith))

terms : (n : ℕ) (ts : List RdfTerm) → AllByRecursion IsTerm ts → AllByRecursion (λ (e : Entry). IsTerm e.term) (numbered_from n ts)
terms n [] h = tt
terms n (t ∷ ts) h = (h.0, terms (n + 1) ts h.1)

other-none : (t u : RdfTerm) (n : ℕ) (ts : List RdfTerm) → same_term t u ≡ true → AllByRecursion (λ y. same_term t y ≡ false) ts → total (λ (e : Entry). one_if (same_term e.term u)) (numbered_from n ts) ≡ 0
other-none t u n [] e h = refl
other-none t u n (x ∷ xs) e h =
    let a : same_term x u ≡ false = by (same_term x u) refl in
    let z : one_if (same_term x u) ≡ 0 = ap one_if a in
    let ih : total (λ (e : Entry). one_if (same_term e.term u)) (numbered_from (n + 1) xs) ≡ 0 = other-none t u (n + 1) xs e h.1 in omega arith
  where
    by : (b : Bool) → same_term x u ≡ b → b ≡ false
    by true s = sym (subst (λ (y : RdfTerm). same_term t y ≡ true) (sym (same_term-is x u s)) e) ∙ h.0
    by false s = refl

own_terms : (u : RdfTerm) (n : ℕ) (ts : List RdfTerm) → IsDistinct same_term ts → total (λ (e : Entry). one_if (same_term e.term u)) (numbered_from n ts) ≤ 1
unfolding IsDistinct
own_terms u n [] d = omega arith
own_terms u n (t ∷ ts) d = by (same_term t u) refl (own_terms u (n + 1) ts d.1)
  where
    by : (b : Bool) → same_term t u ≡ b → total (λ (e : Entry). one_if (same_term e.term u)) (numbered_from (n + 1) ts) ≤ 1 → one_if b + total (λ (e : Entry). one_if (same_term e.term u)) (numbered_from (n + 1) ts) ≤ 1
    by true s ih = let z : total (λ (e : Entry). one_if (same_term e.term u)) (numbered_from (n + 1) ts) ≡ 0 = other-none t u (n + 1) ts s d.0 in omega arith
    by false s ih = omega arith

-- the entries of a dictionary
pub entries : (ts : List RdfTerm) → IsDistinct same_term ts → AllByRecursion IsTerm ts → AreEntries (entries_of ts)
entries ts d h = record {
  least = least 1 ts (omega arith);
  own_id = λ (m : ℕ). own_ids m 1 ts;
  own_term = λ (u : RdfTerm). own_terms u 1 ts d;
  terms = terms 1 ts h;
}

-- a term that stands at a place
has-numbered : (n i : ℕ) (t : RdfTerm) (ts : List RdfTerm) → slice_get ts i ≡ Some t → has_term (numbered_from n ts) t ≡ true
has-numbered n i t [] h = cc
has-numbered n zero t (x ∷ xs) h = let e : x ≡ t = cc in let s : same_term x t ≡ true = subst (λ (y : RdfTerm). same_term x y ≡ true) e (same_term-self x) in ap (λ (b : Bool). b || has_term (numbered_from (n + 1) xs) t) s
has-numbered n (suc i) t (x ∷ xs) h = or_right (same_term x t) (has-numbered (n + 1) i t xs h)
  where
    or_right : (a : Bool) → has_term (numbered_from (n + 1) xs) t ≡ true → (a || has_term (numbered_from (n + 1) xs) t) ≡ true
    or_right true h = refl
    or_right false h = h

is_id-numbered : (n i : ℕ) (t : RdfTerm) (ts : List RdfTerm) → slice_get ts i ≡ Some t → is_id (numbered_from n ts) (n + i) ≡ true
is_id-numbered n i t [] h = cc
is_id-numbered n zero t (x ∷ xs) h = let s : (n == n + 0) ≡ true = grind arith in ap (λ (b : Bool). b || is_id (numbered_from (n + 1) xs) (n + 0)) s
is_id-numbered n (suc i) t (x ∷ xs) h =
    let k : n + 1 + i ≡ n + suc i = omega arith in
    or_right (n == n + suc i) (subst (λ (m : ℕ). is_id (numbered_from (n + 1) xs) m ≡ true) k (is_id-numbered (n + 1) i t xs h))
  where
    or_right : (a : Bool) → is_id (numbered_from (n + 1) xs) (n + suc i) ≡ true → (a || is_id (numbered_from (n + 1) xs) (n + suc i)) ≡ true
    or_right true h = refl
    or_right false h = h

each-at : {X : Type 0} (P : X → Type 0) (i : ℕ) (x : X) (xs : List X) → AllByRecursion P xs → slice_get xs i ≡ Some x → P x
each-at P i x [] a h = cc
each-at P zero x (y ∷ ys) a h = let e : y ≡ x = cc in subst P e a.0
each-at P (suc i) x (y ∷ ys) a h = each-at P i x ys a.1 h

pub id-numbered : (n i : ℕ) (t : RdfTerm) (ts : List RdfTerm) → IsDistinct same_term ts → slice_get ts i ≡ Some t → id_of (numbered_from n ts) t ≡ n + i
unfolding IsDistinct
id-numbered n i t [] d h = cc
id-numbered n zero t (x ∷ xs) d h =
    let e : x ≡ t = cc in
    let s : same_term x t ≡ true = subst (λ (y : RdfTerm). same_term x y ≡ true) e (same_term-self x) in
    ap (λ (b : Bool). if b then n else id_of (numbered_from (n + 1) xs) t) s ∙ omega arith
id-numbered n (suc i) t (x ∷ xs) d h =
    ap (λ (b : Bool). if b then n else id_of (numbered_from (n + 1) xs) t) (each-at (λ y. same_term x y ≡ false) i t xs d.0 h) ∙ id-numbered (n + 1) i t xs d.1 h ∙ omega arith

name-numbered : (n i : ℕ) (t : RdfTerm) (ts : List RdfTerm) → slice_get ts i ≡ Some t → name_in (names_of (numbered_from n ts)) (n + i) ≡ Some t.text
name-numbered n i t [] h = cc
name-numbered n zero t (x ∷ xs) h =
    let e : x ≡ t = cc in
    let s : is_at (nat_cmp (n + 0)) n ≡ true = grind arith in
    rw s (ap (λ (y : RdfTerm). Some y.text) e)
name-numbered n (suc i) t (x ∷ xs) h =
    let s : is_at (nat_cmp (n + suc i)) n ≡ false = by (is_at (nat_cmp (n + suc i)) n) refl in
    let k : n + 1 + i ≡ n + suc i = omega arith in
    rw s (subst (λ (m : ℕ). name_in (names_of (numbered_from (n + 1) xs)) m ≡ Some t.text) k (name-numbered (n + 1) i t xs h))
  where
    by : (b : Bool) → is_at (nat_cmp (n + suc i)) n ≡ b → b ≡ false
    by true q = let z : n ≡ n + suc i = at_true (n + suc i) n q in absurd (omega arith)
    by false q = refl

-- the term with an id
get-within : (i : ℕ) (ts : List RdfTerm) → i < length ts → slice_get ts i ≡ Some (unwrap_or (slice_get ts i) (iri []))
get-within i [] l = absurd (omega arith)
get-within zero (x ∷ xs) l = refl
get-within (suc i) (x ∷ xs) l = get-within i xs (omega arith)

pub term_at-is : (ts : List RdfTerm) (n : ℕ) → IsIdIn ts n → slice_get ts (n - 1) ≡ Some (term_at ts n)
term_at-is ts n h = (let a = h.0 in let b = h.1 in get-within (n - 1) ts (omega arith))

pub term_at-id : (ts : List RdfTerm) (n : ℕ) → IsDistinct same_term ts → IsIdIn ts n → id_of (entries_of ts) (term_at ts n) ≡ n
term_at-id ts n d h = (let a = h.0 in id-numbered 1 (n - 1) (term_at ts n) ts d (term_at-is ts n h) ∙ omega arith)

pub term_at-has : (ts : List RdfTerm) (n : ℕ) → IsIdIn ts n → has_term (entries_of ts) (term_at ts n) ≡ true
term_at-has ts n h = has-numbered 1 (n - 1) (term_at ts n) ts (term_at-is ts n h)

pub term_at-name : (ts : List RdfTerm) (n : ℕ) → IsIdIn ts n → name_in (names_of (entries_of ts)) n ≡ Some (term_at ts n).text
term_at-name ts n h = (let a = h.0 in let k : 1 + (n - 1) ≡ n = omega arith in subst (λ (m : ℕ). name_in (names_of (entries_of ts)) m ≡ Some (term_at ts n).text) k (name-numbered 1 (n - 1) (term_at ts n) ts (term_at-is ts n h)))

pub id-is_id : (ts : List RdfTerm) (n : ℕ) → IsIdIn ts n → is_id (entries_of ts) n ≡ true
id-is_id ts n h = (let a = h.0 in let k : 1 + (n - 1) ≡ n = omega arith in subst (λ (m : ℕ). is_id (entries_of ts) m ≡ true) k (is_id-numbered 1 (n - 1) (term_at ts n) ts (term_at-is ts n h)))

-- a term of a dictionary has its form
pub term_at-form : (ts : List RdfTerm) (n : ℕ) → AllByRecursion IsTerm ts → IsIdIn ts n → IsTerm (term_at ts n)
term_at-form ts n f h = each-at IsTerm (n - 1) (term_at ts n) ts f (term_at-is ts n h)
