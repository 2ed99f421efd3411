-- A cut by longest tokens is the computed one.
use Rattle.std.proofs.Common.{◌≡◌, ℕ, ◌+◌, ◌-◌, Bool, true, false, eqb, List, [], ◌∷◌, ◌++◌, length, refl, sym, ap, ◌∙◌, arith, not}
use Rattle.std.specs.Prelude.{Option, Some, None, Result, Ok, Err}
use Rattle.std.specs.Char.{len_utf8}
use Rattle.line_meaning.specs.Grammar.{Each}
use Rattle.sparql_meaning.specs.declared.token.TokenKind.{TokenKind}
use Rattle.sparql_meaning.specs.declared.token.Token.{Token}
use Rattle.sparql_meaning.specs.declared.token.Found.{Found}
use Rattle.sparql_meaning.specs.Classes.{is_blank, ends_line}
use Rattle.sparql_meaning.specs.Tokens.{token_at}
use Rattle.sparql_meaning.specs.Cut.{size, token_from, first_then, chars_left, cut_token, cut_from}
use Rattle.sparql_token_laws.specs.Cuts.{IsLongest, in_line, LineEnds, placed, Cuts, cut_done, cut_blank, cut_comment, cut_token as cut_by_token, NothingBegins}
use Rattle.sparql_token_laws.proofs.Basics.{front_taken, is_same}
use Rattle.sparql_token_laws.proofs.Places.{size_on, blank_none, comment_none, line_blank, no_token, longest_found, nothing_spelled}
use Rattle.sparql_token_laws.proofs.Found.{found_stands}

-- tokens, and then what follows
abbrev pub prepended : List Token → Result (List Token) ℕ → Result (List Token) ℕ
prepended [] r = r
prepended (t ∷ ts) r = first_then t (prepended ts r)

no_line_end : (c : ℕ) → in_line c ≡ true → ends_line c ≡ false
no_line_end c h = by (ends_line c) h
  where
    by : (b : Bool) → not b ≡ true → b ≡ false
    by true e = absurd cc
    by false e = refl

pub blank_passes : (at c : ℕ) (cs : List ℕ) → is_blank c ≡ true → cut_from false 0 at (c ∷ cs) ≡ cut_from false 0 (at + len_utf8 c) cs
blank_passes at c cs h = rw h refl

pub line_passes : (at c : ℕ) (cs : List ℕ) → ends_line c ≡ true → cut_from true 0 at (c ∷ cs) ≡ cut_from false 0 (at + len_utf8 c) cs
line_passes at c cs h = rw h refl

pub comment_goes : (at c : ℕ) (cs : List ℕ) → ends_line c ≡ false → cut_from true 0 at (c ∷ cs) ≡ cut_from true 0 (at + len_utf8 c) cs
comment_goes at c cs h = rw h refl

pub comment_begins : (at : ℕ) (cs : List ℕ) → cut_from false 0 at (35 ∷ cs) ≡ cut_from true 0 (at + len_utf8 35) cs
comment_begins at cs = refl

comment_passes : (at : ℕ) (comment back : List ℕ) → Each in_line comment → LineEnds back → cut_from true 0 at (comment ++ back) ≡ cut_from false 0 (at + size comment) back
comment_passes at [] [] e l = refl
comment_passes at [] (c ∷ cs) e l =
    let n : at + size [] ≡ at = omega arith in
    line_passes at c cs l ∙ sym (blank_passes at c cs (line_blank c l)) ∙ ap (λ (i : ℕ). cut_from false 0 i (c ∷ cs)) (sym n)
comment_passes at (c ∷ comment) back e l =
    let n : (at + len_utf8 c) + size comment ≡ at + size (c ∷ comment) = omega (arith, size_on c comment) in
    comment_goes at c (comment ++ back) (no_line_end c e.0) ∙ comment_passes (at + len_utf8 c) comment back e.1 l ∙ ap (λ (i : ℕ). cut_from false 0 i back) n

inside_passes : (at : ℕ) (front back : List ℕ) → cut_from false (length front) at (front ++ back) ≡ cut_from false 0 (at + size front) back
inside_passes at [] back = let n : at ≡ at + size [] = omega arith in ap (λ (i : ℕ). cut_from false 0 i back) n
inside_passes at (c ∷ front) back =
    let n : (at + len_utf8 c) + size front ≡ at + size (c ∷ front) = omega (arith, size_on c front) in
    inside_passes (at + len_utf8 c) front back ∙ ap (λ (i : ℕ). cut_from false 0 i back) n

pub no_blank : (c : ℕ) (cs : List ℕ) (f : Found) → token_at (c ∷ cs) ≡ Some f → is_blank c ≡ false
no_blank c cs f h = by (is_blank c) refl
  where
    by : (b : Bool) → is_blank c ≡ b → b ≡ false
    by true e = absurd (no_token (c ∷ cs) f (blank_none c cs e) h)
    by false e = refl

pub no_comment : (c : ℕ) (cs : List ℕ) (f : Found) → token_at (c ∷ cs) ≡ Some f → eqb c 35 ≡ false
no_comment c cs f h = by (eqb c 35) refl
  where
    by : (b : Bool) → eqb c 35 ≡ b → b ≡ false
    by true e = absurd (no_token (c ∷ cs) f (ap (λ (x : ℕ). token_at (x ∷ cs)) (is_same c 35 e) ∙ comment_none cs) h)
    by false e = refl

pub begins : (at c : ℕ) (cs : List ℕ) (o : Option Found) → is_blank c ≡ false → eqb c 35 ≡ false → token_at (c ∷ cs) ≡ o → cut_from false 0 at (c ∷ cs) ≡ cut_token at o (c ∷ cs) (cut_from false (chars_left o) (at + len_utf8 c) cs)
begins at c cs o b n h = opened ∙ ap (λ (x : Option Found). cut_token at x (c ∷ cs) (cut_from false (chars_left x) (at + len_utf8 c) cs)) h
  where
    opened : cut_from false 0 at (c ∷ cs) ≡ cut_token at (token_at (c ∷ cs)) (c ∷ cs) (cut_from false (chars_left (token_at (c ∷ cs))) (at + len_utf8 c) cs)
    opened = rw (b, n) refl

token_passes : (at : ℕ) (kind : TokenKind) (front back : List ℕ) → IsLongest kind front back → cut_from false 0 at (front ++ back) ≡ first_then (placed kind at (at + size front)) (cut_from false 0 (at + size front) back)
token_passes at kind [] back l = absurd (nothing_spelled kind back l)
token_passes at kind (c ∷ front) back l =
    let a = longest_found kind (c ∷ front) back l in
    let f = a.0 in
    let cs = front ++ back in
    let left : f.chars - 1 ≡ length front = omega (arith, a.2) in
    let n : (at + len_utf8 c) + size front ≡ at + size (c ∷ front) = omega (arith, size_on c front) in
    let t : token_from at f (c ∷ cs) ≡ placed kind at (at + size (c ∷ front)) =
    ap (λ (u : List ℕ). placed f.kind at (at + size u)) (front_taken (c ∷ front) back f.chars a.2) ∙ ap (λ (x : TokenKind). placed x at (at + size (c ∷ front))) (sym a.3) in
    begins at c cs (Some f) (no_blank c cs f a.1) (no_comment c cs f a.1) a.1
    ∙ ap (λ (i : ℕ). first_then (token_from at f (c ∷ cs)) (cut_from false i (at + len_utf8 c) cs)) left
    ∙ ap (λ (r : Result (List Token) ℕ). first_then (token_from at f (c ∷ cs)) r) (inside_passes (at + len_utf8 c) front back ∙ ap (λ (i : ℕ). cut_from false 0 i back) n)
    ∙ ap (λ (x : Token). first_then x (cut_from false 0 (at + size (c ∷ front)) back)) t

pub computed : (at end : ℕ) (cs rest : List ℕ) (ts : List Token) → Cuts at cs ts end rest → cut_from false 0 at cs ≡ prepended ts (cut_from false 0 end rest)
computed _ _ _ _ _ cut_done = refl
computed at end _ rest ts (cut_blank {c = c} {cs = cs} b a) = blank_passes at c cs b ∙ computed (at + len_utf8 c) end cs rest ts a
computed at end _ rest ts (cut_comment comment back e l a) =
    let n : (at + len_utf8 35) + size comment ≡ at + size (35 ∷ comment) = omega (arith, size_on 35 comment) in
    comment_begins at (comment ++ back) ∙ comment_passes (at + len_utf8 35) comment back e l ∙ ap (λ (i : ℕ). cut_from false 0 i back) n ∙ computed (at + size (35 ∷ comment)) end back rest ts a
computed at end _ rest _ (cut_by_token {ts = ts} kind front back l a) =
    token_passes at kind front back l ∙ ap (λ (r : Result (List Token) ℕ). first_then (placed kind at (at + size front)) r) (computed (at + size front) end back rest ts a)

pub all_prepended : (ts : List Token) → prepended ts (Ok []) ≡ Ok ts
all_prepended [] = refl
all_prepended (t ∷ ts) = ap (first_then t) (all_prepended ts)

pub bad_prepended : (ts : List Token) (bad : ℕ) → prepended ts (Err bad) ≡ Err bad
bad_prepended [] bad = refl
bad_prepended (t ∷ ts) bad = ap (first_then t) (bad_prepended ts bad)

-- where nothing begins
pub stops : (at : ℕ) (cs : List ℕ) → NothingBegins cs → cut_from false 0 at cs ≡ Err at
stops at [] n = absurd n
stops at (c ∷ cs) n = by (token_at (c ∷ cs)) refl
  where
    by : (o : Option Found) → token_at (c ∷ cs) ≡ o → cut_from false 0 at (c ∷ cs) ≡ Err at
    by None h = begins at c cs None n.0 n.1 h
    by (Some f) h = let s = found_stands (c ∷ cs) f h in absurd (n.2 f.kind s.written s.behind s.spelled s.whole)
