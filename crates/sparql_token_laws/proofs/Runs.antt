-- Words, variables and marks.
use Rattle.std.proofs.Common.{◌≡◌, ◌≤◌, ℕ, suc, ◌+◌, ◌⊎◌, inl, inr, Bool, true, false, cond, eqb, List, [], ◌∷◌, ◌++◌, length, take, drop, refl, sym, ap, arith, ◌||◌}
use Rattle.std.specs.Prelude.{Some, None, encode_utf8_all}
use Rattle.std.specs.List.{prefix_len}
use Rattle.std.proofs.lemmas.Bool.Decides.{nat_tests}
use Rattle.rdf_meaning.specs.Characters.{is_letter, is_digit}
use Rattle.line_meaning.specs.Grammar.{Each}
use Rattle.sparql_meaning.specs.declared.token.TokenKind.TheVariants as k
use Rattle.sparql_meaning.specs.declared.token.Mark.{Mark}
use Rattle.sparql_meaning.specs.declared.token.Mark.TheVariants as m
use Rattle.sparql_meaning.specs.declared.token.Found.{Found}
use Rattle.sparql_meaning.specs.Classes.{is_start, is_variable_part, is_word_part}
use Rattle.sparql_meaning.specs.Words.{word_of}
use Rattle.sparql_meaning.specs.Tokens.{head, variable_len, variable_at, word_at, marked, or_else, mark_at}
use Rattle.sparql_token_laws.specs.Forms.{mark_text}
use Rattle.sparql_token_laws.proofs.Basics.{Covers, Stands, chosen_or, parts, run_passes, run_counted, run_covers, run_front, front_taken, some_same, none_some}

-- ---- variables

abbrev begins_name : ℕ → Bool
begins_name c = is_start c || is_digit c

pub no_zero : (n : ℕ) → eqb (suc n) 0 ≡ false
no_zero n = grind (arith, nat_tests)

variable_len_is : (first : ℕ) (cs : List ℕ) → begins_name first ≡ true → variable_len (first ∷ cs) ≡ suc (prefix_len is_variable_part cs)
variable_len_is first cs b = rw b (omega arith)

pub variable_covers : (first : ℕ) (others rest : List ℕ) → begins_name first ≡ true → Each is_variable_part others
    → Covers (k.Variable (encode_utf8_all (first ∷ others))) (suc (suc (length others))) (variable_at (first ∷ (others ++ rest)))
unfolding variable_at
variable_covers first others rest b e =
    let n = prefix_len is_variable_part (others ++ rest) in
    let l : length others ≤ n = run_covers is_variable_part others rest e in
    rw (variable_len_is first (others ++ rest) b, no_zero n) (
      omega (arith, l),
      λ same.
          let j : length others ≡ n = omega (arith, same) in
          ap (λ (t : List ℕ). k.Variable (encode_utf8_all (first ∷ t))) (sym (front_taken others rest n j)),
    )

abbrev variable_found : ℕ → List ℕ → Found
variable_found n cs = record { kind = k.Variable (encode_utf8_all (take n cs)); chars = 1 + n }

variable_some : (n : ℕ) (cs : List ℕ) (f : Found) → cond (eqb n 0) None (Some (variable_found n cs)) ≡ Some f → (eqb n 0 ≡ false) × (variable_found n cs ≡ f)
variable_some n cs f h = elim (chosen_or (eqb n 0) None (Some (variable_found n cs)) (Some f) h)
    [ inl e ↦ absurd (none_some f e.1) | inr e ↦ (e.0, some_same (variable_found n cs) f e.1) ]

pub variable_stands : (mark : ℕ) (cs : List ℕ) (f : Found) → (mark ≡ 63) ⊎ (mark ≡ 36) → variable_at cs ≡ Some f → Stands (mark ∷ cs) f
unfolding variable_at
variable_stands mark [] f m h = absurd (none_some f h)
variable_stands mark (c ∷ cs) f m h = by (begins_name c) refl
  where
    g : (eqb (variable_len (c ∷ cs)) 0 ≡ false) × (variable_found (variable_len (c ∷ cs)) (c ∷ cs) ≡ f)
    g = variable_some (variable_len (c ∷ cs)) (c ∷ cs) f h

    by : (b : Bool) → begins_name c ≡ b → Stands (mark ∷ c ∷ cs) f
    by true e =
        let a = run_front is_variable_part cs in
        let l : variable_len (c ∷ cs) ≡ suc (prefix_len is_variable_part cs) = variable_len_is c cs e in
        rw (← g.1, l) (record {
          written = mark ∷ c ∷ a.written;
          behind = a.behind;
          spelled = record { mark = mark; first = c; others = a.written; is_mark = m; begins = e; goes_on = a.fine; text_is = refl; whole = refl };
          count = omega (arith, a.count);
          whole = ap (λ (t : List ℕ). mark ∷ c ∷ t) a.whole;
        })
    by false e = let l : variable_len (c ∷ cs) ≡ 0 = rw e refl in let z : eqb (variable_len (c ∷ cs)) 0 ≡ true = rw l refl in absurd (let y = g.0 in cc)

-- ---- words

pub word_covers : (first : ℕ) (others rest : List ℕ) → is_word_part first ≡ true → Each is_word_part others
    → Covers (k.Word (word_of (first ∷ others))) (suc (length others)) (word_at (first ∷ (others ++ rest)))
unfolding word_at
word_covers first others rest b e =
    let n = prefix_len is_word_part (first ∷ (others ++ rest)) in
    let l : suc (length others) ≤ n = run_covers is_word_part (first ∷ others) rest (b, e) in
    (l, λ same. ap (λ (t : List ℕ). k.Word (word_of t)) (sym (front_taken (first ∷ others) rest n same)))

pub word_stands : (c : ℕ) (cs : List ℕ) (f : Found) → is_letter c ≡ true → is_word_part c ≡ true → word_at (c ∷ cs) ≡ Some f → Stands (c ∷ cs) f
unfolding word_at
word_stands c cs f l b h =
    let n = prefix_len is_word_part cs in
    let s : prefix_len is_word_part (c ∷ cs) ≡ suc n = rw b (omega arith) in
    let same : (record { kind = k.Word (word_of (take (prefix_len is_word_part (c ∷ cs)) (c ∷ cs))); chars = prefix_len is_word_part (c ∷ cs) }) ≡ f = cc in
    rw (← same, s) (record {
      written = c ∷ take n cs;
      behind = drop n cs;
      spelled = record { first = c; others = take n cs; begins = l; goes_on = run_passes is_word_part cs; word_is = refl; whole = refl };
      count = ap suc (sym (run_counted is_word_part cs));
      whole = ap (λ (t : List ℕ). c ∷ t) (parts n cs);
    })

-- ---- marks

pub marks_cover : (mark : Mark) (rest : List ℕ) → Covers (k.Mark mark) (length (mark_text mark)) (mark_at (mark_text mark ++ rest))
unfolding mark_at
marks_cover m.OpenBrace rest = (omega arith, λ s. refl)
marks_cover m.CloseBrace rest = (omega arith, λ s. refl)
marks_cover m.OpenBracket rest = (omega arith, λ s. refl)
marks_cover m.CloseBracket rest = (omega arith, λ s. refl)
marks_cover m.OpenSquare rest = (omega arith, λ s. refl)
marks_cover m.CloseSquare rest = (omega arith, λ s. refl)
marks_cover m.Dot rest = (omega arith, λ s. refl)
marks_cover m.Semicolon rest = (omega arith, λ s. refl)
marks_cover m.Comma rest = (omega arith, λ s. refl)
marks_cover m.Star rest = (omega arith, λ s. refl)
marks_cover m.Slash rest = (omega arith, λ s. refl)
marks_cover m.Plus rest = (omega arith, λ s. refl)
marks_cover m.Minus rest = (omega arith, λ s. refl)
marks_cover m.Equal rest = (omega arith, λ s. refl)
marks_cover m.NotEqual rest = (omega arith, λ s. refl)
marks_cover m.Less rest = by (eqb (head rest) 61)
  where
    by : (b : Bool) → Covers (k.Mark m.Less) 1 (or_else (marked 2 (cond b (Some m.LessEqual) None)) (Some (record { kind = k.Mark m.Less; chars = 1 })))
    by true = (omega arith, λ s. absurd (omega (arith, s)))
    by false = (omega arith, λ s. refl)
marks_cover m.Greater rest = by (eqb (head rest) 61)
  where
    by : (b : Bool) → Covers (k.Mark m.Greater) 1 (or_else (marked 2 (cond b (Some m.GreaterEqual) None)) (Some (record { kind = k.Mark m.Greater; chars = 1 })))
    by true = (omega arith, λ s. absurd (omega (arith, s)))
    by false = (omega arith, λ s. refl)
marks_cover m.LessEqual rest = (omega arith, λ s. refl)
marks_cover m.GreaterEqual rest = (omega arith, λ s. refl)
marks_cover m.Not rest = by (eqb (head rest) 61)
  where
    by : (b : Bool) → Covers (k.Mark m.Not) 1 (or_else (marked 2 (cond b (Some m.NotEqual) None)) (Some (record { kind = k.Mark m.Not; chars = 1 })))
    by true = (omega arith, λ s. absurd (omega (arith, s)))
    by false = (omega arith, λ s. refl)
marks_cover m.And rest = (omega arith, λ s. refl)
marks_cover m.Or rest = (omega arith, λ s. refl)
marks_cover m.Pipe rest = by (eqb (head rest) 124)
  where
    by : (b : Bool) → Covers (k.Mark m.Pipe) 1 (or_else (marked 2 (cond b (Some m.Or) None)) (Some (record { kind = k.Mark m.Pipe; chars = 1 })))
    by true = (omega arith, λ s. absurd (omega (arith, s)))
    by false = (omega arith, λ s. refl)
marks_cover m.Caret rest = by (eqb (head rest) 94)
  where
    by : (b : Bool) → Covers (k.Mark m.Caret) 1 (or_else (marked 2 (cond b (Some m.TwoCarets) None)) (Some (record { kind = k.Mark m.Caret; chars = 1 })))
    by true = (omega arith, λ s. absurd (omega (arith, s)))
    by false = (omega arith, λ s. refl)
marks_cover m.TwoCarets rest = (omega arith, λ s. refl)
marks_cover m.Question rest = (omega arith, λ s. refl)
