-- Escapes: what is found is what is spelled.
use Rattle.std.proofs.Common.{◌≡◌, ◌≤◌, ℕ, zero, suc, ◌+◌, ◌*◌, ◌⊎◌, inl, inr, Bool, true, false, cond, eqb, List, [], ◌∷◌, ◌++◌, length, refl, sym, ap, ◌∙◌, subst, arith, ◌&&◌, not}
use Rattle.std.specs.Prelude.{Option, Some, None, nat_le}
use Rattle.std.proofs.lemmas.Bool.Decides.{nat_tests}
use Rattle.line_meaning.specs.Grammar.{Each}
use Rattle.sparql_meaning.specs.declared.token.Quoting.{Quoting}
use Rattle.sparql_meaning.specs.declared.token.Quoting.TheVariants as q
use Rattle.sparql_meaning.specs.declared.token.Escape.{Escape}
use Rattle.sparql_meaning.specs.Classes.{is_text_part, is_hex}
use Rattle.sparql_meaning.specs.Tokens.{hex_value, hex_number, is_scalar, scalar_escape, short_escape, escape_at, has_short_escapes, may_stand_for, allowed, escape_in}
use Rattle.sparql_token_laws.specs.Forms.{SpellsCharacter, hex_from, may_be_coded, IsCodeMark}
use Rattle.sparql_token_laws.proofs.Basics.{chosen_or, is_same, both_true, either_true}

-- so many digits in front, behind those read before
abbrev HexFront : ℕ → ℕ → List ℕ → ℕ → Type 0
HexFront n number cs v = (digits : List ℕ) × (rest : List ℕ) × (cs ≡ digits ++ rest) × (length digits ≡ n) × Each is_hex digits × (hex_from number digits ≡ v)

hex_cases : (b : Bool) (n number c : ℕ) (cs : List ℕ) (v : ℕ) → (is_hex c && nat_le number 0x10FFFF) ≡ b → (hex_number n (16 * number + hex_value c) cs ≡ Some v → HexFront n (16 * number + hex_value c) cs v)
    → cond b (hex_number n (16 * number + hex_value c) cs) None ≡ Some v → HexFront (suc n) number (c ∷ cs) v
hex_cases false n number c cs v t ih e = absurd cc
hex_cases true n number c cs v t ih e = let i = ih e in let b = both_true (is_hex c) (nat_le number 0x10FFFF) t in (c ∷ i.0, i.1, ap (λ t. c ∷ t) i.2, ap suc i.3, (b.0, i.4), i.5)

hex_sound : (n number : ℕ) (cs : List ℕ) (v : ℕ) → hex_number n number cs ≡ Some v → HexFront n number cs v
hex_sound zero number cs v e = let same : number ≡ v = cc in ([], cs, refl, refl, tt, same)
hex_sound (suc n) number [] v e = absurd cc
hex_sound (suc n) number (c ∷ cs) v e = hex_cases (is_hex c && nat_le number 0x10FFFF) n number c cs v refl (λ h. hex_sound n (16 * number + hex_value c) cs v h) e

hex_grows : (digits : List ℕ) (number : ℕ) → number ≤ hex_from number digits
hex_grows [] number = omega arith
hex_grows (c ∷ cs) number = let i = hex_grows cs (16 * number + hex_value c) in omega (arith, i)

le_true : (n m : ℕ) → n ≤ m → nat_le n m ≡ true
le_true n m h = grind (arith, nat_tests)

pub hex_back : (digits rest : List ℕ) (number : ℕ) → Each is_hex digits → hex_from number digits ≤ 0x10FFFF → hex_number (length digits) number (digits ++ rest) ≡ Some (hex_from number digits)
hex_back [] rest number e l = refl
hex_back (c ∷ cs) rest number e l =
    let g : number ≤ hex_from number (c ∷ cs) = hex_grows (c ∷ cs) number in
    let w : nat_le number 0x10FFFF ≡ true = le_true number 0x10FFFF (omega (arith, g, l)) in
    rw (e.0, w) (hex_back cs rest (16 * number + hex_value c) e.1 l)

pub scalar_small : (c : ℕ) → is_scalar c ≡ true → c ≤ 0x10FFFF
scalar_small c e = grind (arith, nat_tests)

abbrev pub escape : ℕ → ℕ → Escape
escape c n = record { value = c; chars = n }

scalar_some : (n : ℕ) (o : Option ℕ) (e : Escape) → scalar_escape n o ≡ Some e → (o ≡ Some e.value) × (is_scalar e.value ≡ true) × (e.chars ≡ n)
scalar_some n None e h = absurd cc
scalar_some n (Some c) e h = elim (chosen_or (is_scalar c) (Some (escape c n)) None (Some e) h) [
  | inl k ↦ (let same : escape c n ≡ e = (let j = k.1 in cc) in
      (ap (λ (x : Escape). Some x.value) same, subst (λ (x : Escape). is_scalar x.value ≡ true) same k.0, sym (ap (λ (x : Escape). x.chars) same)))
  | inr k ↦ (let j = k.1 in absurd cc)
]

record CodeAt (cs : List ℕ) (e : Escape) : Type 0 where
  mark : ℕ
  digits : List ℕ
  rest : List ℕ
  count : IsCodeMark mark (length digits)
  hex : Each is_hex digits
  number : hex_from 0 digits ≡ e.value
  scalar : is_scalar e.value ≡ true
  chars : e.chars ≡ suc (length digits)
  many : 4 ≤ length digits
  whole : cs ≡ mark ∷ (digits ++ rest)

record ShortAt (short : Bool) (cs : List ℕ) (e : Escape) : Type 0 where
  letter : ℕ
  rest : List ℕ
  in_text : short ≡ true
  means : short_escape letter ≡ e.value
  some : e.value ≡ 0 → ⊥
  chars : e.chars ≡ 1
  whole : cs ≡ letter ∷ rest

code_sound : (mark n c : ℕ) (cs : List ℕ) (e : Escape) → IsCodeMark mark n → 4 ≤ n → c ≡ mark → scalar_escape (suc n) (hex_number n 0 cs) ≡ Some e → CodeAt (c ∷ cs) e
code_sound mark n c cs e m l at h =
    let s = scalar_some (suc n) (hex_number n 0 cs) e h in
    let d = hex_sound n 0 cs e.value s.0 in
    record {
      mark = mark;
      digits = d.0;
      rest = d.1;
      count = subst (λ (x : ℕ). IsCodeMark mark x) (sym d.3) m;
      hex = d.4;
      number = d.5;
      scalar = s.1;
      chars = s.2 ∙ ap suc (sym d.3);
      many = omega (arith, l, d.3);
      whole = ap (λ (x : ℕ). x ∷ cs) at ∙ ap (λ (t : List ℕ). mark ∷ t) d.2;
    }

not_zero : (n : ℕ) → not (eqb n 0) ≡ true → n ≡ 0 → ⊥
not_zero zero e h = absurd cc
not_zero (suc n) e h = absurd cc

short_sound : (short : Bool) (c : ℕ) (cs : List ℕ) (e : Escape) → (short && not (eqb (short_escape c) 0)) ≡ true → escape (short_escape c) 1 ≡ e → ShortAt short (c ∷ cs) e
short_sound short c cs e t same =
    let b = both_true short (not (eqb (short_escape c) 0)) t in
    record {
      letter = c;
      rest = cs;
      in_text = b.0;
      means = ap (λ (x : Escape). x.value) same;
      some = λ z. not_zero (short_escape c) b.1 (ap (λ (x : Escape). x.value) same ∙ z);
      chars = sym (ap (λ (x : Escape). x.chars) same);
      whole = refl;
    }

escape_sound : (short : Bool) (cs : List ℕ) (e : Escape) → escape_at short cs ≡ Some e → CodeAt cs e ⊎ ShortAt short cs e
unfolding escape_at
escape_sound short [] e h = absurd cc
escape_sound short (c ∷ cs) e h = elim (chosen_or (eqb c 117) _ _ (Some e) h) [
  | inl k ↦ inl (code_sound 117 4 c cs e (inl (refl, refl)) (omega arith) (is_same c 117 k.0) k.1)
  | inr k ↦ elim (chosen_or (eqb c 85) _ _ (Some e) k.1) [
    | inl j ↦ inl (code_sound 85 8 c cs e (inr (refl, refl)) (omega arith) (is_same c 85 j.0) j.1)
    | inr j ↦ elim (chosen_or (short && not (eqb (short_escape c) 0)) (Some (escape (short_escape c) 1)) None (Some e) j.1) [
      | inl i ↦ inr (short_sound short c cs e i.0 (let x = i.1 in cc))
      | inr i ↦ (let x = i.1 in absurd cc)
    ]
  ]
]

allowed_some : (form : Quoting) (o : Option Escape) (e : Escape) → allowed form o ≡ Some e → (o ≡ Some e) × (may_stand_for form e ≡ true)
allowed_some form None e h = absurd cc
allowed_some form (Some d) e h = elim (chosen_or (may_stand_for form d) (Some d) None (Some e) h) [
  | inl k ↦ (let same : d ≡ e = (let j = k.1 in cc) in (k.1, subst (λ (x : Escape). may_stand_for form x ≡ true) same k.0))
  | inr k ↦ (let j = k.1 in absurd cc)
]

not_one : (n m : ℕ) → n ≡ suc m → 4 ≤ m → eqb n 1 ≡ false
not_one n m e l = grind (arith, nat_tests)

coded : (form : Quoting) (e : Escape) → eqb e.chars 1 ≡ false → may_stand_for form e ≡ true → may_be_coded form e.value ≡ true
coded q.Iri e n h = h
coded (q.Text quote) e n h = elim (either_true (eqb e.chars 1) (is_text_part quote e.value) h) [ inl k ↦ absurd cc | inr k ↦ k ]
coded (q.Long quote) e n h = refl

-- an escape in front, behind its backslash
pub record EscapeAt (form : Quoting) (cs : List ℕ) (e : Escape) : Type 0 where
  pub front : List ℕ
  pub rest : List ℕ
  pub spelled : SpellsCharacter form (92 ∷ front) e.value
  pub count : e.chars ≡ length front
  pub whole : cs ≡ front ++ rest

pub escape_in_sound : (form : Quoting) (cs : List ℕ) (e : Escape) → escape_in form cs ≡ Some e → EscapeAt form cs e
escape_in_sound form cs e h =
    let a = allowed_some form (escape_at (has_short_escapes form) cs) e h in
    elim (escape_sound (has_short_escapes form) cs e a.0) [
      | inl k ↦ record {
        front = k.mark ∷ k.digits;
        rest = k.rest;
        spelled = inr (inr (record {
          mark = k.mark;
          digits = k.digits;
          count = k.count;
          hex = k.hex;
          number = k.number;
          scalar = k.scalar;
          fits = coded form e (not_one e.chars (length k.digits) k.chars k.many) a.1;
          whole = refl;
        }));
        count = k.chars;
        whole = k.whole;
      }
      | inr k ↦ record {
        front = k.letter ∷ [];
        rest = k.rest;
        spelled = inr (inl (record { letter = k.letter; in_text = k.in_text; short = k.means; some = k.some; whole = refl }));
        count = k.chars;
        whole = k.whole;
      }
    ]
