-- What begins a token, and how many bytes characters take.
use Rattle.std.proofs.Common.{◌≡◌, ℕ, ◌+◌, ◌⊎◌, inl, inr, true, eqb, List, [], ◌∷◌, ◌++◌, length, refl, ap, ◌∙◌, subst, arith, ◌||◌}
use Rattle.std.specs.Prelude.{Option, Some, None, encode_utf8_all}
use Rattle.std.specs.Char.{encode_utf8, len_utf8}
use Rattle.std.proofs.lemmas.List.{length-append}
use Rattle.std.proofs.lemmas.Str.{length-encode}
use Rattle.sparql_meaning.specs.declared.token.TokenKind.{TokenKind}
use Rattle.sparql_meaning.specs.declared.token.Found.{Found}
use Rattle.sparql_meaning.specs.Classes.{is_blank, ends_line}
use Rattle.sparql_meaning.specs.Tokens.{number_at, mark_at, token_at}
use Rattle.sparql_meaning.specs.Cut.{size}
use Rattle.sparql_token_laws.specs.Forms.{Spells}
use Rattle.sparql_token_laws.specs.Cuts.{IsLongest}
use Rattle.sparql_token_laws.proofs.Basics.{Stands, either_true, is_same}
use Rattle.sparql_token_laws.proofs.Covering.{none_longer, none_spelled}
use Rattle.sparql_token_laws.proofs.Found.{found_stands}

pub size_on : (c : ℕ) (cs : List ℕ) → size (c ∷ cs) ≡ len_utf8 c + size cs
size_on c cs = length-append (encode_utf8 c) (encode_utf8_all cs) ∙ ap (λ (n : ℕ). n + size cs) (length-encode c)

-- ---- neither a blank nor a comment begins a token

pub blank_cases : (c : ℕ) → is_blank c ≡ true → (c ≡ 32) ⊎ ((c ≡ 9) ⊎ ((c ≡ 10) ⊎ (c ≡ 13)))
blank_cases c h = elim (either_true (eqb c 32 || eqb c 9 || eqb c 10) (eqb c 13) h) [
  | inl e ↦ elim (either_true (eqb c 32 || eqb c 9) (eqb c 10) e) [
    | inl e ↦ elim (either_true (eqb c 32) (eqb c 9) e) [ inl e ↦ inl (is_same c 32 e) | inr e ↦ inr (inl (is_same c 9 e)) ]
    | inr e ↦ inr (inr (inl (is_same c 10 e)))
  ]
  | inr e ↦ inr (inr (inr (is_same c 13 e)))
]

pub blank_none : (c : ℕ) (cs : List ℕ) → is_blank c ≡ true → token_at (c ∷ cs) ≡ None
unfolding token_at number_at mark_at
blank_none c cs h = elim (blank_cases c h)
    [ inl e ↦ rw e refl | inr e ↦ elim e [ inl e ↦ rw e refl | inr e ↦ elim e [ inl e ↦ rw e refl | inr e ↦ rw e refl ] ] ]

pub comment_none : (cs : List ℕ) → token_at (35 ∷ cs) ≡ None
unfolding token_at number_at mark_at
comment_none cs = refl

pub line_blank : (c : ℕ) → ends_line c ≡ true → is_blank c ≡ true
line_blank c h = elim (either_true (eqb c 10) (eqb c 13) h) [ inl e ↦ (let s = is_same c 10 e in rw s refl) | inr e ↦ (let s = is_same c 13 e in rw s refl) ]

-- ---- the longest token

pub no_token : (cs : List ℕ) (f : Found) → token_at cs ≡ None → token_at cs ≡ Some f → ⊥
no_token cs f n s = absurd cc

some_token : (kind : TokenKind) (front back : List ℕ) → IsLongest kind front back → (o : Option Found) → token_at (front ++ back) ≡ o → (f : Found) × (token_at (front ++ back) ≡ Some f) × (length front ≡ f.chars) × (kind ≡ f.kind)
some_token kind front back l None h = absurd (none_spelled (front ++ back) h kind front back l.spelled refl)
some_token kind front back l (Some f) h =
    let a = none_longer (front ++ back) f h kind front back l.spelled refl in
    let s = found_stands (front ++ back) f h in
    let b = l.longest f.kind s.written s.behind s.spelled s.whole in
    let e : length front ≡ f.chars = omega (arith, a.0, b, s.count) in
    (f, h, e, a.1 e)

-- it is the one that is found
pub longest_found : (kind : TokenKind) (front back : List ℕ) → IsLongest kind front back → (f : Found) × (token_at (front ++ back) ≡ Some f) × (length front ≡ f.chars) × (kind ≡ f.kind)
longest_found kind front back l = some_token kind front back l (token_at (front ++ back)) refl

pub found_longest : (cs : List ℕ) (f : Found) (s : Stands cs f) → token_at cs ≡ Some f → IsLongest f.kind s.written s.behind
found_longest cs f s h = record {
  spelled = s.spelled;
  longest = λ other written behind o w. let a = none_longer cs f h other written behind o (s.whole ∙ w) in omega (arith, a.0, s.count);
}

none_at_end : token_at [] ≡ None
unfolding token_at
none_at_end = refl

-- a token has a character
pub some_written : (kind : TokenKind) (written : List ℕ) → Spells kind written → written ≡ [] → ⊥
some_written kind written s e = none_spelled [] none_at_end kind [] [] (subst (λ (t : List ℕ). Spells kind t) e s) refl

pub nothing_spelled : (kind : TokenKind) (back : List ℕ) → IsLongest kind [] back → ⊥
nothing_spelled kind back l = some_written kind [] l.spelled refl
