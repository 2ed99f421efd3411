-- The ids that are noted are those of the terms that are kept.
use Rattle.std.proofs.Common.{◌≡◌, ◌||◌, ◌&&◌, ℕ, nat_eq, Bool, true, false, if◌then◌else◌, List, [], ◌∷◌, ◌++◌, Some, None, refl, sym, ap, ◌∙◌, subst, arith}
use Rattle.std.specs.Prelude.{Result, Ok, Err, OnOk}
use Rattle.std.specs.List.{list_any}
use Rattle.indexmap.specs.IndexSet.{insert_key}
use Rattle.rdf_meaning.specs.Terms.{RdfTerm, same_term}
use Rattle.rdf_meaning.specs.TermLaws.{same_term-is, same_term-self}
use Rattle.layout_standing_meaning.specs.Dictionary.{id_of, has_term, entries_of}
use Rattle.layout_standing_meaning.specs.Contents.{SideContents}
use Rattle.layout_standing_meaning.specs.Standing.{is_spilled_in}
use Rattle.layout_standing_meaning.specs.Stored.{term_at}
use Rattle.layout_standing_meaning.specs.Changes.{with_term}
use Rattle.layout_standing_meaning.proofs.Present.{term-there}
use Rattle.layout_facts_meaning.specs.Facts.{is_spilled_term}
use Rattle.layout_facts.specs.Kept.{AreIdsOf}

-- terms of a dictionary are the same where their ids are
same-ids : (ts : List RdfTerm) (t u : RdfTerm) → has_term (entries_of ts) t ≡ true → has_term (entries_of ts) u ≡ true → nat_eq (id_of (entries_of ts) t) (id_of (entries_of ts) u) ≡ same_term t u
same-ids ts t u h k = by (nat_eq (id_of (entries_of ts) t) (id_of (entries_of ts) u)) refl (same_term t u) refl
  where
    by : (b : Bool) → nat_eq (id_of (entries_of ts) t) (id_of (entries_of ts) u) ≡ b → (c : Bool) → same_term t u ≡ c → b ≡ c
    by true e true f = refl
    by false e false f = refl
    by false e true f =
        let n : id_of (entries_of ts) t ≡ id_of (entries_of ts) u = ap (id_of (entries_of ts)) (same_term-is t u f) in
        let m : nat_eq (id_of (entries_of ts) t) (id_of (entries_of ts) u) ≡ true = grind arith in
        sym e ∙ m
    by true e false f =
        let n : id_of (entries_of ts) t ≡ id_of (entries_of ts) u = grind arith in
        let m : t ≡ u = sym (term-there ts t h) ∙ ap (term_at ts) n ∙ term-there ts u k in
        sym (same_term-self t) ∙ ap (same_term t) m ∙ f

or-false : (b : Bool) → (b || false) ≡ b
or-false true = refl
or-false false = refl

any-last : {X : Type 0} (p : X → Bool) (xs : List X) (x : X) → list_any p (xs ++ x ∷ []) ≡ (list_any p xs || p x)
any-last p [] x = or-false (p x)
any-last p (y ∷ ys) x = by (p y) (any-last p ys x)
  where
    by : (b : Bool) → list_any p (ys ++ x ∷ []) ≡ (list_any p ys || p x) → (b || list_any p (ys ++ x ∷ [])) ≡ ((b || list_any p ys) || p x)
    by true h = refl
    by false h = h

-- one term more
noted : (ts kept : List RdfTerm) (ids : List ℕ) (t : RdfTerm) → has_term (entries_of ts) t ≡ true → AreIdsOf (entries_of ts) kept ids → AreIdsOf (entries_of ts) (with_term kept t) (insert_key nat_eq ids (id_of (entries_of ts) t))
noted ts kept ids t h a u k = by (list_any (nat_eq (id_of (entries_of ts) t)) ids) (list_any (same_term t) kept) (a t h)
  where
    by : (b c : Bool) → b ≡ c → list_any (nat_eq (id_of (entries_of ts) u)) (if b then ids else ids ++ id_of (entries_of ts) t ∷ []) ≡ list_any (same_term u) (if c then kept else kept ++ t ∷ [])
    by true true e = a u k
    by false false e = any-last (nat_eq (id_of (entries_of ts) u)) ids (id_of (entries_of ts) t) ∙ (λ i. a u k i || same-ids ts u t k h i) ∙ sym (any-last (same_term u) kept t)
    by true false e = cc
    by false true e = cc

-- the id that is told where a predicate is spilled
told-id : (b : Bool) (n id : ℕ) → (if b then Some n else None) ≡ Some id → (b ≡ true) × (n ≡ id)
told-id true n id e = (refl, cc)
told-id false n id e = cc

there : (a b : Bool) → (a && b) ≡ true → a ≡ true
there true b e = refl
there false b e = e

-- what holds after a call that didn't fail
pub on_both : {T E P Q R : Type 0} (r : Result T E) → (P → Q → R) → OnOk r P → OnOk r Q → OnOk r R
on_both (Ok x) f p q = f p q
on_both (Err e) f p q = tt

pub record Pushed (ts : List RdfTerm) (s : SideContents) (t : RdfTerm) (kept new : List RdfTerm) (ids : List ℕ) : Type 0 where
  pub kept_terms : new ≡ (if is_spilled_term (entries_of ts) s t then with_term kept t else kept)
  pub noted_ids : AreIdsOf (entries_of ts) new ids

pub pushed-some : (ts : List RdfTerm) (s : SideContents) (t : RdfTerm) (kept new : List RdfTerm) (ids after : List ℕ) (id : ℕ) → (if is_spilled_term (entries_of ts) s t then Some (id_of (entries_of ts) t) else None) ≡ Some id → AreIdsOf (entries_of ts) kept ids
    → new ≡ (if list_any (nat_eq id) ids then kept else kept ++ t ∷ []) → after ≡ insert_key nat_eq ids id → Pushed ts s t kept new after
pushed-some ts s t kept new ids after id e a k n =
    let is = told-id (is_spilled_term (entries_of ts) s t) (id_of (entries_of ts) t) id e in
    let h : has_term (entries_of ts) t ≡ true = there (has_term (entries_of ts) t) (is_spilled_in (id_of (entries_of ts) t) s.rows) is.0 in
    let same : new ≡ with_term kept t = k ∙ ap (λ (m : ℕ). if list_any (nat_eq m) ids then kept else kept ++ t ∷ []) (sym is.1) ∙ ap (λ (b : Bool). if b then kept else kept ++ t ∷ []) (a t h) in
    record {
      kept_terms = same ∙ ap (λ (b : Bool). if b then with_term kept t else kept) (sym is.0);
      noted_ids = subst (λ (l : List RdfTerm). AreIdsOf (entries_of ts) l after) (sym same) (subst (λ (l : List ℕ). AreIdsOf (entries_of ts) (with_term kept t) l) (sym (n ∙ ap (insert_key nat_eq ids) (sym is.1))) (noted ts kept ids t h a));
    }
