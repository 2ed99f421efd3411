-- Texts between marks, and marks: what is found is spelled.
use Rattle.std.proofs.Common.{◌≡◌, ℕ, ◌+◌, ◌⊎◌, inl, inr, cond, eqb, List, [], ◌∷◌, drop, refl, sym, ap, ◌∙◌, subst, arith, ◌&&◌}
use Rattle.std.specs.Prelude.{Option, Some, None}
use Rattle.sparql_meaning.specs.declared.token.TokenKind.TheVariants as k
use Rattle.sparql_meaning.specs.declared.token.Mark.{Mark}
use Rattle.sparql_meaning.specs.declared.token.Mark.TheVariants as m
use Rattle.sparql_meaning.specs.declared.token.Quoting.TheVariants as q
use Rattle.sparql_meaning.specs.declared.token.Found.{Found}
use Rattle.sparql_meaning.specs.declared.token.Body.{Body}
use Rattle.sparql_meaning.specs.Tokens.{starts_with, body_at, iri_of, text_of, long_text_of, quoted_at, mark_of_two, mark_of_one, marked, or_else, mark_at}
use Rattle.sparql_token_laws.specs.Forms.{IsQuote, mark_text}
use Rattle.sparql_token_laws.proofs.Basics.{Stands, chosen_or, both_true, is_same, some_same, none_some}
use Rattle.sparql_token_laws.proofs.Bodies.{body_found, starts_is}

pub iri_stands : (cs : List ℕ) (f : Found) → iri_of (body_at q.Iri cs) ≡ Some f → Stands (60 ∷ cs) f
iri_stands cs f h = by (body_at q.Iri cs) refl h
  where
    by : (o : Option Body) → body_at q.Iri cs ≡ o → iri_of o ≡ Some f → Stands (60 ∷ cs) f
    by None e i = absurd (none_some f i)
    by (Some b) e i =
        let a = body_found q.Iri cs b e in
        subst (λ (x : Found). Stands (60 ∷ cs) x) (some_same (record { kind = k.Iri b.text; chars = 1 + b.chars }) f i) (record {
          written = 60 ∷ a.written;
          behind = a.rest;
          spelled = record { body = a.written; meant = a.meant; spelled = a.spelled; text_is = a.text_is; whole = refl };
          count = omega (arith, a.count);
          whole = ap (λ (t : List ℕ). 60 ∷ t) a.whole;
        })

text_stands : (quote : ℕ) (cs : List ℕ) (f : Found) → IsQuote quote → (o : Option Body) → body_at (q.Text quote) cs ≡ o → text_of o ≡ Some f → Stands (quote ∷ cs) f
text_stands quote cs f x None e i = absurd (none_some f i)
text_stands quote cs f x (Some b) e i =
    let a = body_found (q.Text quote) cs b e in
    subst (λ (x : Found). Stands (quote ∷ cs) x) (some_same (record { kind = k.Text b.text; chars = 1 + b.chars }) f i) (record {
      written = quote ∷ a.written;
      behind = a.rest;
      spelled = (quote, x, record { body = a.written; meant = a.meant; spelled = a.spelled; text_is = a.text_is; whole = refl });
      count = omega (arith, a.count);
      whole = ap (λ (t : List ℕ). quote ∷ t) a.whole;
    })

long_stands : (quote : ℕ) (cs : List ℕ) (f : Found) → IsQuote quote → (o : Option Body) → body_at (q.Long quote) cs ≡ o → long_text_of o ≡ Some f → Stands (quote ∷ quote ∷ quote ∷ cs) f
long_stands quote cs f x None e i = subst (λ (x : Found). Stands (quote ∷ quote ∷ quote ∷ cs) x) (some_same (record { kind = k.Text []; chars = 2 }) f i) (record {
  written = quote ∷ quote ∷ [];
  behind = quote ∷ cs;
  spelled = (quote, x, record { body = quote ∷ []; meant = []; spelled = refl; text_is = refl; whole = refl });
  count = refl;
  whole = refl;
})
long_stands quote cs f x (Some b) e i =
    let a = body_found (q.Long quote) cs b e in
    subst (λ (x : Found). Stands (quote ∷ quote ∷ quote ∷ cs) x) (some_same (record { kind = k.LongText b.text; chars = 3 + b.chars }) f i) (record {
      written = quote ∷ quote ∷ quote ∷ a.written;
      behind = a.rest;
      spelled = (quote, x, record { body = a.written; meant = a.meant; spelled = a.spelled; text_is = a.text_is; whole = refl });
      count = omega (arith, a.count);
      whole = ap (λ (t : List ℕ). quote ∷ quote ∷ quote ∷ t) a.whole;
    })

pub quoted_stands : (quote : ℕ) (cs : List ℕ) (f : Found) → IsQuote quote → quoted_at quote cs ≡ Some f → Stands (quote ∷ cs) f
unfolding quoted_at
quoted_stands quote cs f x h = elim (chosen_or (starts_with (quote ∷ quote ∷ []) cs) _ _ (Some f) h) [
  | inl e ↦ subst (λ (t : List ℕ). Stands (quote ∷ t) f) (sym (starts_is (quote ∷ quote ∷ []) cs e.0)) (long_stands quote (drop 2 cs) f x (body_at (q.Long quote) (drop 2 cs)) refl e.1)
  | inr e ↦ text_stands quote cs f x (body_at (q.Text quote) cs) refl e.1
]

-- ---- marks

-- one mark of two characters, or a later one
two_case : (c d a b : ℕ) (mark it : Mark) (o : Option Mark) → a ∷ b ∷ [] ≡ mark_text mark → (b ≡ 0 → ⊥) → cond (eqb c a && eqb d b) (Some mark) o ≡ Some it
    → (o ≡ Some it → (c ∷ d ∷ [] ≡ mark_text it) × (d ≡ 0 → ⊥)) → (c ∷ d ∷ [] ≡ mark_text it) × (d ≡ 0 → ⊥)
two_case c d a b mark it o t z h later = elim (chosen_or (eqb c a && eqb d b) (Some mark) o (Some it) h) [
  | inl e ↦
      (let s = both_true (eqb c a) (eqb d b) e.0 in
      let i : c ≡ a = is_same c a s.0 in
      let j : d ≡ b = is_same d b s.1 in
      (ap (λ (x : ℕ). x ∷ d ∷ []) i ∙ ap (λ (x : ℕ). a ∷ x ∷ []) j ∙ t ∙ ap mark_text (some_same mark it e.1), λ n. z (sym j ∙ n)))
  | inr e ↦ later e.1
]

two_marks : (c d : ℕ) (it : Mark) → mark_of_two c d ≡ Some it → (c ∷ d ∷ [] ≡ mark_text it) × (d ≡ 0 → ⊥)
two_marks c d it h =
    two_case c d 33 61 m.NotEqual it _ refl (λ e. absurd cc) h (λ h. two_case c d 60 61 m.LessEqual it _ refl (λ e. absurd cc) h
    (λ h. two_case c d 62 61 m.GreaterEqual it _ refl (λ e. absurd cc) h (λ h. two_case c d 38 38 m.And it _ refl (λ e. absurd cc) h
    (λ h. two_case c d 124 124 m.Or it _ refl (λ e. absurd cc) h (λ h. two_case c d 94 94 m.TwoCarets it _ refl (λ e. absurd cc) h (λ h. absurd (none_some it h)))))))

one_case : (c a : ℕ) (mark it : Mark) (o : Option Mark) → a ∷ [] ≡ mark_text mark → cond (eqb c a) (Some mark) o ≡ Some it → (o ≡ Some it → c ∷ [] ≡ mark_text it) → c ∷ [] ≡ mark_text it
one_case c a mark it o t h later = elim (chosen_or (eqb c a) (Some mark) o (Some it) h)
    [ inl e ↦ ap (λ (x : ℕ). x ∷ []) (is_same c a e.0) ∙ t ∙ ap mark_text (some_same mark it e.1) | inr e ↦ later e.1 ]

one_mark : (c : ℕ) (it : Mark) → mark_of_one c ≡ Some it → c ∷ [] ≡ mark_text it
one_mark c it h =
    one_case c 123 m.OpenBrace it _ refl h (λ h. one_case c 125 m.CloseBrace it _ refl h (λ h. one_case c 40 m.OpenBracket it _ refl h
    (λ h. one_case c 41 m.CloseBracket it _ refl h (λ h. one_case c 91 m.OpenSquare it _ refl h (λ h. one_case c 93 m.CloseSquare it _ refl h
    (λ h. one_case c 46 m.Dot it _ refl h (λ h. one_case c 59 m.Semicolon it _ refl h (λ h. one_case c 44 m.Comma it _ refl h
    (λ h. one_case c 42 m.Star it _ refl h (λ h. one_case c 47 m.Slash it _ refl h (λ h. one_case c 43 m.Plus it _ refl h
    (λ h. one_case c 45 m.Minus it _ refl h (λ h. one_case c 61 m.Equal it _ refl h (λ h. one_case c 60 m.Less it _ refl h
    (λ h. one_case c 62 m.Greater it _ refl h (λ h. one_case c 33 m.Not it _ refl h (λ h. one_case c 124 m.Pipe it _ refl h
    (λ h. one_case c 94 m.Caret it _ refl h (λ h. one_case c 63 m.Question it _ refl h (λ h. absurd (none_some it h)))))))))))))))))))))

pub or_given : (o g : Option Found) (f : Found) → or_else o g ≡ Some f → (o ≡ Some f) ⊎ (g ≡ Some f)
or_given None g f h = inr h
or_given (Some a) g f h = inl h

abbrev mark_found : ℕ → Mark → Found
mark_found n mark = record { kind = k.Mark mark; chars = n }

two_stands : (c d : ℕ) (cs : List ℕ) (f : Found) (o : Option Mark) → mark_of_two c d ≡ o → marked 2 o ≡ Some f → Stands (c ∷ d ∷ cs) f
two_stands c d cs f None e h = absurd (none_some f h)
two_stands c d cs f (Some mark) e h = subst (λ (x : Found). Stands (c ∷ d ∷ cs) x) (some_same (mark_found 2 mark) f h) (record { written = c ∷ d ∷ []; behind = cs; spelled = (two_marks c d mark e).0; count = refl; whole = refl })

no_two : (c : ℕ) (f : Found) (o : Option Mark) → mark_of_two c 0 ≡ o → marked 2 o ≡ Some f → ⊥
no_two c f None e h = none_some f h
no_two c f (Some mark) e h = (two_marks c 0 mark e).1 refl

one_stands : (c : ℕ) (cs : List ℕ) (f : Found) (o : Option Mark) → mark_of_one c ≡ o → marked 1 o ≡ Some f → Stands (c ∷ cs) f
one_stands c cs f None e h = absurd (none_some f h)
one_stands c cs f (Some mark) e h = subst (λ (x : Found). Stands (c ∷ cs) x) (some_same (mark_found 1 mark) f h) (record { written = c ∷ []; behind = cs; spelled = one_mark c mark e; count = refl; whole = refl })

pub mark_stands : (c : ℕ) (cs : List ℕ) (f : Found) → mark_at (c ∷ cs) ≡ Some f → Stands (c ∷ cs) f
unfolding mark_at
mark_stands c [] f h = elim (or_given (marked 2 (mark_of_two c 0)) (marked 1 (mark_of_one c)) f h)
    [ inl e ↦ absurd (no_two c f (mark_of_two c 0) refl e) | inr e ↦ one_stands c [] f (mark_of_one c) refl e ]
mark_stands c (d ∷ cs) f h = elim (or_given (marked 2 (mark_of_two c d)) (marked 1 (mark_of_one c)) f h)
    [ inl e ↦ two_stands c d cs f (mark_of_two c d) refl e | inr e ↦ one_stands c (d ∷ cs) f (mark_of_one c) refl e ]
