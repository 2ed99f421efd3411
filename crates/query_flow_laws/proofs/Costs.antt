-- A constant costs its own count of triples, where the counts are those of triples and name it.
use Rattle.std.specs.Prelude.{◌≡◌, ℕ, ◌⊎◌, true, false, if◌then◌else◌, List, [], ◌∷◌, map, refl}
use Rattle.std.proofs.Common.{sym, ap, subst, inl, inr}
use Rattle.std.proofs.lemmas.Bool.{cases_Bool, or_cases, both_ways}
use Rattle.std.specs.List.{list_any}
use Rattle.rdf_meaning.specs.Terms.{RdfTerm, RdfTriple, same_term}
use Rattle.rdf_meaning.specs.TermLaws.{same_term-is, same_term-self}
use Rattle.layout_meaning.specs.Facts.{CountOf}
use Rattle.layout_counts_meaning.specs.Counts.{count_of, counts_over}
use Rattle.query_meaning.specs.declared.pattern.Slot.TheVariants.{Const}
use Rattle.query_flow_meaning.specs.Flow.{counted, end_cost}

turned : (s t : RdfTerm) → same_term s t ≡ false → same_term t s ≡ true → ⊥
turned s t e f = both_ways (same_term s t) e (subst (λ (u : RdfTerm). same_term s u ≡ true) (sym (same_term-is t s f)) (same_term-self s))

pub counted-is : (place : CountOf → ℕ) (g : List RdfTriple) (terms : List RdfTerm) (t : RdfTerm) → list_any (same_term t) terms ≡ true → counted place (map (count_of g) terms) t ≡ place (count_of g t)
counted-is place g [] t e = absurd (both_ways false refl e)
counted-is place g (s ∷ terms) t e = go (cases_Bool (same_term s t)) (or_cases (same_term t s) (list_any (same_term t) terms) e) (counted-is place g terms t)
  where
    go : (same_term s t ≡ true) ⊎ (same_term s t ≡ false) → (same_term t s ≡ true) ⊎ (list_any (same_term t) terms ≡ true) → (list_any (same_term t) terms ≡ true → counted place (map (count_of g) terms) t ≡ place (count_of g t)) →
        (if same_term s t then place (count_of g s) else counted place (map (count_of g) terms) t) ≡ place (count_of g t)
    go (inl h) o rest = rw h (ap (λ (u : RdfTerm). place (count_of g u)) (same_term-is s t h))
    go (inr h) (inl k) rest = absurd (turned s t h k)
    go (inr h) (inr k) rest = rw h (rest k)

pub constant-cost : (place : CountOf → ℕ) (ends : ℕ) (g : List RdfTriple) (terms : List RdfTerm) (t : RdfTerm) → list_any (same_term t) terms ≡ true → end_cost (counts_over g terms) place ends (Const t) ≡ place (count_of g t)
constant-cost place ends g terms t e = counted-is place g terms t e
