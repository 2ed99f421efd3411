-- What is found in front of a text is spelled there.
use Rattle.std.proofs.Common.{◌≡◌, ℕ, ◌⊎◌, inl, inr, true, eqb, List, [], ◌∷◌, refl, sym, subst, ◌||◌}
use Rattle.std.specs.Prelude.{Option, Some}
use Rattle.rdf_meaning.specs.Characters.{is_base}
use Rattle.sparql_meaning.specs.declared.token.Quoting.TheVariants as q
use Rattle.sparql_meaning.specs.declared.token.Found.{Found}
use Rattle.sparql_meaning.specs.Tokens.{body_at, iri_of, variable_at, to_colon, number_at, mark_at, or_else, token_at}
use Rattle.sparql_token_laws.specs.Forms.{IsQuote}
use Rattle.sparql_token_laws.specs.Laws.{FoundIsSpelled}
use Rattle.sparql_token_laws.proofs.Basics.{Stands, chosen_or, either_true, is_same, none_some}
use Rattle.sparql_token_laws.proofs.Runs.{variable_stands}
use Rattle.sparql_token_laws.proofs.FoundNames.{blank_stands, named_stands, named_or_word_stands}
use Rattle.sparql_token_laws.proofs.FoundTags.{tag_stands}
use Rattle.sparql_token_laws.proofs.FoundNumbers.{number_stands}
use Rattle.sparql_token_laws.proofs.FoundTexts.{iri_stands, quoted_stands, or_given, mark_stands}
use Rattle.sparql_token_laws.proofs.Covering.{word_of_letter}

at_it : (c d : ℕ) (cs : List ℕ) (f : Found) → eqb c d ≡ true → Stands (d ∷ cs) f → Stands (c ∷ cs) f
at_it c d cs f e s = subst (λ (x : ℕ). Stands (x ∷ cs) f) (sym (is_same c d e)) s

is_quote : (c : ℕ) → (eqb c 34 || eqb c 39) ≡ true → IsQuote c
is_quote c h = elim (either_true (eqb c 34) (eqb c 39) h) [ inl e ↦ inl (is_same c 34 e) | inr e ↦ inr (is_same c 39 e) ]

is_mark : (c : ℕ) → (eqb c 63 || eqb c 36) ≡ true → (c ≡ 63) ⊎ (c ≡ 36)
is_mark c h = elim (either_true (eqb c 63) (eqb c 36) h) [ inl e ↦ inl (is_same c 63 e) | inr e ↦ inr (is_same c 36 e) ]

-- one of two, or a mark
or_mark : (c : ℕ) (cs : List ℕ) (f : Found) (o : Option Found) → or_else o (mark_at (c ∷ cs)) ≡ Some f → (o ≡ Some f → Stands (c ∷ cs) f) → Stands (c ∷ cs) f
or_mark c cs f o h x = elim (or_given o (mark_at (c ∷ cs)) f h) [ inl e ↦ x e | inr e ↦ mark_stands c cs f e ]

pub found_stands : (cs : List ℕ) (f : Found) → token_at cs ≡ Some f → Stands cs f
unfolding token_at
found_stands [] f h = absurd (none_some f h)
found_stands (c ∷ cs) f h = elim (chosen_or (eqb c 60) _ _ (Some f) h) [
  | inl e ↦ or_mark c cs f (iri_of (body_at q.Iri cs)) e.1 (λ x. at_it c 60 cs f e.0 (iri_stands cs f x))
  | inr e ↦ elim (chosen_or (eqb c 34 || eqb c 39) _ _ (Some f) e.1) [
    | inl e ↦ quoted_stands c cs f (is_quote c e.0) e.1
    | inr e ↦ elim (chosen_or (eqb c 63 || eqb c 36) _ _ (Some f) e.1) [
      | inl e ↦ or_mark c cs f (variable_at cs) e.1 (λ x. variable_stands c cs f (is_mark c e.0) x)
      | inr e ↦ elim (chosen_or (eqb c 64) _ _ (Some f) e.1) [
        | inl e ↦ at_it c 64 cs f e.0 (tag_stands cs f e.1)
        | inr e ↦ elim (chosen_or (eqb c 58) _ _ (Some f) e.1) [
          | inl e ↦ at_it c 58 cs f e.0 (named_stands [] cs f (inl refl) e.1)
          | inr e ↦ elim (chosen_or (eqb c 95) _ _ (Some f) e.1) [
            | inl e ↦ at_it c 95 cs f e.0 (blank_stands cs f e.1)
            | inr e ↦ elim (chosen_or (is_base c) _ _ (Some f) e.1) [
              | inl e ↦ named_or_word_stands c cs f (to_colon (c ∷ cs)) e.0 (word_of_letter c) refl e.1
              | inr e ↦ or_mark c cs f (number_at (c ∷ cs)) e.1 (λ x. number_stands (c ∷ cs) f x)
            ]
          ]
        ]
      ]
    ]
  ]
]

pub found_is_spelled : FoundIsSpelled
found_is_spelled cs f h = let s = found_stands cs f h in (s.written, s.behind, s.spelled, sym s.count, s.whole)
