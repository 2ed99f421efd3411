-- The dictionary grows by terms that are put last.
use Rattle.std.proofs.Common.{◌≡◌, ◌⊎◌, true, false, ◌<◌, ◌≤◌, length, length-append, append_assoc, arith, List, [], ◌∷◌, ◌++◌, sym, ap, ◌∙◌, inl, inr, subst}
use Rattle.std.specs.Prelude.{Result, Ok, Err, OnOk, OnErr, Contains}
use Rattle.std.specs.List.{list_any, IsDistinct}
use Rattle.std.proofs.lemmas.Bool.{cases_Bool}
use Rattle.std.proofs.lemmas.Map.Keys.{IsDistinct-push}
use Rattle.std.proofs.lemmas.Map.Views.{Contains-from_any, list_any-from_Contains}
use Rattle.std.proofs.lemmas.List.{append-nil}
use Rattle.rdf_meaning.specs.Terms.{RdfTerm, RdfTriple, same_term}
use Rattle.rdf_meaning.specs.TermLaws.{same_term-is, same_term_equiv}
use Rattle.line_change_meaning.specs.declared.change.Change.TheVariants.{Add}
use Rattle.term_book.specs.Book.{IsNoted, IsFull}
use Rattle.run_meaning.specs.Limits.{with_term, with_needed}
use Rattle.rdf_triples.specs.Held.{Grows}

absent : (old : List RdfTerm) (t : RdfTerm) → ¬ (Contains old t) → list_any (same_term t) old ≡ false
absent old t h = go (cases_Bool (list_any (same_term t) old))
  where
    go : (list_any (same_term t) old ≡ true) ⊎ (list_any (same_term t) old ≡ false) → list_any (same_term t) old ≡ false
    go (inl e) = absurd (h (Contains-from_any same_term-is t old e))
    go (inr e) = e

noted_term : (old : List RdfTerm) (t : RdfTerm) (new : List RdfTerm) → IsNoted old t new → new ≡ with_term old t
noted_term old t new (inl h) = rw (list_any-from_Contains same_term_equiv t old h.0) h.1
noted_term old t new (inr h) = rw (absent old t h.0) h.1

pub noted : {A E : Type 0} (r : Result A E) (old : List RdfTerm) (t : RdfTerm) (new : List RdfTerm) → OnOk r (IsNoted old t new) → OnOk r (new ≡ with_term old t)
noted (Ok x) old t new h = noted_term old t new h
noted (Err e) old t new h = h

pub full_term : (old : List RdfTerm) (t : RdfTerm) → IsFull old t → 4000000 < length (with_term old t)
full_term old t h = rw (absent old t h.1) (let more = length-append old (t ∷ []) in omega (arith, h.0, more))

longer : (terms : List RdfTerm) (t : RdfTerm) → length terms ≤ length (with_term terms t)
longer terms t = go (cases_Bool (list_any (same_term t) terms))
  where
    go : (list_any (same_term t) terms ≡ true) ⊎ (list_any (same_term t) terms ≡ false) → length terms ≤ length (with_term terms t)
    go (inl e) = rw e (omega arith)
    go (inr e) = rw e (let more = length-append terms (t ∷ []) in omega (arith, more))

pub full_at_subject : (old : List RdfTerm) (t : RdfTriple) → 4000000 < length (with_term old t.s) → 4000000 < length (with_needed old (Add t))
full_at_subject old t h = omega (arith, longer (with_term old t.s) t.p, longer (with_term (with_term old t.s) t.p) t.o)

pub full_at_predicate : (old : List RdfTerm) (t : RdfTriple) → 4000000 < length (with_term (with_term old t.s) t.p) → 4000000 < length (with_needed old (Add t))
full_at_predicate old t h = omega (arith, longer (with_term (with_term old t.s) t.p) t.o)

pub grows_same : (old new : List RdfTerm) → new ≡ old → Grows old new
grows_same old new e = record { more = []; is = e ∙ sym (append-nil old); distinct = λ d. subst (λ (ts : List RdfTerm). IsDistinct same_term ts) (sym e) d }

grows_noted : (old : List RdfTerm) (t : RdfTerm) (new : List RdfTerm) → IsNoted old t new → Grows old new
grows_noted old t new (inl h) = grows_same old new h.1
grows_noted old t new (inr h) = record {
  more = t ∷ [];
  is = h.1;
  distinct = λ d. subst (λ (ts : List RdfTerm). IsDistinct same_term ts) (sym h.1) (IsDistinct-push same_term_equiv old t d (absent old t h.0));
}

pub grown : {A E : Type 0} (r : Result A E) (old : List RdfTerm) (t : RdfTerm) (new : List RdfTerm) → OnOk r (IsNoted old t new) → OnErr r (new ≡ old) → Grows old new
grown (Ok x) old t new h k = grows_noted old t new h
grown (Err e) old t new h k = grows_same old new k

pub grows_on : (old mid new : List RdfTerm) → Grows old mid → Grows mid new → Grows old new
grows_on old mid new g h = record {
  more = g.more ++ h.more;
  is = h.is ∙ ap (λ (ts : List RdfTerm). ts ++ h.more) g.is ∙ append_assoc old g.more h.more;
  distinct = λ d. h.distinct (g.distinct d);
}
