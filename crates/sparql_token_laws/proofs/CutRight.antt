-- The computed cut is one by longest tokens, or ends at the first place at which nothing begins.
use Rattle.std.proofs.Common.{◌≡◌, ℕ, zero, suc, ◌+◌, ◌-◌, Bool, true, false, eqb, List, [], ◌∷◌, ◌++◌, length, take, drop, refl, sym, ap, ◌∙◌, subst, arith}
use Rattle.std.specs.Prelude.{Option, Some, None, Result, Ok, Err}
use Rattle.std.specs.Char.{len_utf8}
use Rattle.std.proofs.Math.Seq.{drop-append_seam}
use Rattle.line_meaning.specs.Grammar.{Each}
use Rattle.sparql_meaning.specs.declared.token.Token.{Token}
use Rattle.sparql_meaning.specs.declared.token.Found.{Found}
use Rattle.sparql_meaning.specs.Classes.{is_blank, ends_line}
use Rattle.sparql_meaning.specs.Tokens.{head, token_at}
use Rattle.sparql_meaning.specs.Cut.{size, token_from, first_then, cut_from}
use Rattle.sparql_token_laws.specs.Cuts.{in_line, LineEnds, placed, Cuts, cut_done, cut_blank, cut_comment, cut_token, NothingBegins}
use Rattle.sparql_token_laws.proofs.Basics.{Stands, is_same, whole_taken}
use Rattle.sparql_token_laws.proofs.Places.{size_on, line_blank, some_written, found_longest}
use Rattle.sparql_token_laws.proofs.Found.{found_stands}
use Rattle.sparql_token_laws.proofs.CutOnly.{blank_passes, line_passes, comment_goes, comment_begins, begins}
use Rattle.sparql_token_laws.proofs.Covering.{none_spelled}

-- what an outcome says of the characters from a byte on
abbrev pub Right : ℕ → List ℕ → Result (List Token) ℕ → Type 0
Right at cs (Ok ts) = (end : ℕ) × Cuts at cs ts end []
Right at cs (Err bad) = (ts : List Token) × (rest : List ℕ) × Cuts at cs ts bad rest × NothingBegins rest

blank_right : (at c : ℕ) (cs : List ℕ) (o : Result (List Token) ℕ) → is_blank c ≡ true → Right (at + len_utf8 c) cs o → Right at (c ∷ cs) o
blank_right at c cs (Ok ts) b r = (r.0, cut_blank b r.1)
blank_right at c cs (Err bad) b r = (r.0, r.1, cut_blank b r.2, r.3)

comment_right : (at : ℕ) (comment back : List ℕ) (o : Result (List Token) ℕ) → Each in_line comment → LineEnds back → Right (at + size (35 ∷ comment)) back o → Right at (35 ∷ (comment ++ back)) o
comment_right at comment back (Ok ts) e l r = (r.0, cut_comment comment back e l r.1)
comment_right at comment back (Err bad) e l r = (r.0, r.1, cut_comment comment back e l r.2, r.3)

token_right : (at : ℕ) (cs : List ℕ) (f : Found) (s : Stands cs f) (o : Result (List Token) ℕ) → token_at cs ≡ Some f → Right (at + size s.written) s.behind o
    → Right at (s.written ++ s.behind) (first_then (placed f.kind at (at + size s.written)) o)
token_right at cs f s (Ok ts) h r = (r.0, cut_token f.kind s.written s.behind (found_longest cs f s h) r.1)
token_right at cs f s (Err bad) h r = (placed f.kind at (at + size s.written) ∷ r.0, r.1, cut_token f.kind s.written s.behind (found_longest cs f s h) r.2, r.3)

-- in a comment: what is left of it, and then the rest
record InComment (at : ℕ) (cs : List ℕ) (o : Result (List Token) ℕ) : Type 0 where
  comment : List ℕ
  back : List ℕ
  each : Each in_line comment
  ends : LineEnds back
  whole : cs ≡ comment ++ back
  right : Right (at + size comment) back o

-- what is so from all places of the text on, also inside a token and inside a comment
abbrev AllRight : List ℕ → Type 0
AllRight cs = ((n at : ℕ) → Right (at + size (take n cs)) (drop n cs) (cut_from false n at cs)) × ((at : ℕ) → InComment at cs (cut_from true 0 at cs))

moved : (a b : ℕ) (cs : List ℕ) (o : Result (List Token) ℕ) → a ≡ b → Right a cs o → Right b cs o
moved a b cs o e r = subst (λ (i : ℕ). Right i cs o) e r

from_here : (at : ℕ) (cs : List ℕ) → AllRight cs → Right at cs (cut_from false 0 at cs)
from_here at cs a = moved (at + size []) at cs (cut_from false 0 at cs) (omega arith) (a.0 0 at)

nothing_here : (at : ℕ) → Right at [] (Ok [])
nothing_here at = (at, cut_done)

token_step : (at c : ℕ) (cs : List ℕ) → AllRight cs → is_blank c ≡ false → eqb c 35 ≡ false → (o : Option Found) → token_at (c ∷ cs) ≡ o → Right at (c ∷ cs) (cut_from false 0 at (c ∷ cs))
token_step at c cs a b n None h =
    subst (λ (r : Result (List Token) ℕ). Right at (c ∷ cs) r) (sym (begins at c cs None b n h)) ([], c ∷ cs, cut_done, (b, n, none_spelled (c ∷ cs) h))
token_step at c cs a b n (Some f) h = by s.written refl s.whole
  where
    s : Stands (c ∷ cs) f
    s = found_stands (c ∷ cs) f h

    by : (w : List ℕ) → s.written ≡ w → c ∷ cs ≡ w ++ s.behind → Right at (c ∷ cs) (cut_from false 0 at (c ∷ cs))
    by [] e i = absurd (some_written f.kind s.written s.spelled e)
    by (d ∷ w) e i =
        let left : f.chars - 1 ≡ length w = (let l = ap length e in omega (arith, s.count, l)) in
        let tail : cs ≡ w ++ s.behind = ap (drop 1) i in
        let first : d ≡ c = sym (ap head i) in
        let m : (at + len_utf8 c) + size w ≡ at + size s.written = omega (arith, size_on d w, ap size e, ap len_utf8 first) in
        let t : take (f.chars - 1) cs ≡ w = whole_taken cs w s.behind (f.chars - 1) left tail in
        let u : drop (f.chars - 1) cs ≡ s.behind = ap (λ (k : ℕ). drop k cs) left ∙ ap (drop (length w)) tail ∙ drop-append_seam w s.behind in
        let o = cut_from false (f.chars - 1) (at + len_utf8 c) cs in
        let inner : Right (at + size s.written) s.behind o =
        subst (λ (x : List ℕ). Right (at + size s.written) x o) u
        (moved ((at + len_utf8 c) + size (take (f.chars - 1) cs)) (at + size s.written) (drop (f.chars - 1) cs) o (ap (λ (x : List ℕ). (at + len_utf8 c) + size x) t ∙ m) (a.0 (f.chars - 1) (at + len_utf8 c))) in
        let k : token_from at f (c ∷ cs) ≡ placed f.kind at (at + size s.written) = ap (λ (x : List ℕ). placed f.kind at (at + size x)) (whole_taken (c ∷ cs) s.written s.behind f.chars s.count s.whole) in
        subst (λ (x : List ℕ). Right at x (cut_from false 0 at (c ∷ cs))) (sym s.whole)
        (subst (λ (r : Result (List Token) ℕ). Right at (s.written ++ s.behind) r) (sym (begins at c cs (Some f) b n h ∙ ap (λ (x : Token). first_then x o) k)) (token_right at (c ∷ cs) f s o h inner))

comment_step : (at c : ℕ) (cs : List ℕ) → AllRight cs → c ≡ 35 → Right at (c ∷ cs) (cut_from false 0 at (c ∷ cs))
comment_step at c cs a e = subst (λ (x : ℕ). Right at (x ∷ cs) (cut_from false 0 at (x ∷ cs))) (sym e) here
  where
    k : InComment (at + len_utf8 35) cs (cut_from true 0 (at + len_utf8 35) cs)
    k = a.1 (at + len_utf8 35)

    m : (at + len_utf8 35) + size k.comment ≡ at + size (35 ∷ k.comment)
    m = omega (arith, size_on 35 k.comment)

    o : Result (List Token) ℕ
    o = cut_from true 0 (at + len_utf8 35) cs

    here : Right at (35 ∷ cs) (cut_from false 0 at (35 ∷ cs))
    here =
        subst (λ (r : Result (List Token) ℕ). Right at (35 ∷ cs) r) (sym (comment_begins at cs))
        (subst (λ (x : List ℕ). Right at (35 ∷ x) o) (sym k.whole) (comment_right at k.comment k.back o k.each k.ends (moved _ _ k.back o m k.right)))

outside : (at c : ℕ) (cs : List ℕ) → AllRight cs → (b n : Bool) → is_blank c ≡ b → eqb c 35 ≡ n → Right at (c ∷ cs) (cut_from false 0 at (c ∷ cs))
outside at c cs a true n e h = subst (λ (r : Result (List Token) ℕ). Right at (c ∷ cs) r) (sym (blank_passes at c cs e)) (blank_right at c cs _ e (from_here (at + len_utf8 c) cs a))
outside at c cs a false true e h = comment_step at c cs a (is_same c 35 h)
outside at c cs a false false e h = token_step at c cs a e h (token_at (c ∷ cs)) refl

inside : (at c : ℕ) (cs : List ℕ) → AllRight cs → (b : Bool) → ends_line c ≡ b → InComment at (c ∷ cs) (cut_from true 0 at (c ∷ cs))
inside at c cs a true e = record {
  comment = [];
  back = c ∷ cs;
  each = tt;
  ends = e;
  whole = refl;
  right = subst (λ (r : Result (List Token) ℕ). Right (at + size []) (c ∷ cs) r) (sym (line_passes at c cs e))
      (moved at (at + size []) (c ∷ cs) _ (omega arith) (blank_right at c cs _ (line_blank c e) (from_here (at + len_utf8 c) cs a)));
}
inside at c cs a false e =
    let k = a.1 (at + len_utf8 c) in
    let m : (at + len_utf8 c) + size k.comment ≡ at + size (c ∷ k.comment) = omega (arith, size_on c k.comment) in
    let w : in_line c ≡ true = rw e refl in
    record {
      comment = c ∷ k.comment;
      back = k.back;
      each = (w, k.each);
      ends = k.ends;
      whole = ap (λ (x : List ℕ). c ∷ x) k.whole;
      right = subst (λ (r : Result (List Token) ℕ). Right (at + size (c ∷ k.comment)) k.back r) (sym (comment_goes at c cs e)) (moved _ _ k.back _ m k.right);
    }

further : (n at c : ℕ) (cs : List ℕ) → AllRight cs → Right (at + size (take (suc n) (c ∷ cs))) (drop n cs) (cut_from false n (at + len_utf8 c) cs)
further n at c cs a = moved _ _ (drop n cs) _ (let s = size_on c (take n cs) in omega (arith, s)) (a.0 n (at + len_utf8 c))

nothing_in : (n at : ℕ) → Right (at + size (take n [])) (drop n []) (cut_from false n at [])
nothing_in zero at = nothing_here (at + size [])
nothing_in (suc n) at = nothing_here (at + size [])

one_more : (n at c : ℕ) (cs : List ℕ) → AllRight cs → Right (at + size (take n (c ∷ cs))) (drop n (c ∷ cs)) (cut_from false n at (c ∷ cs))
one_more zero at c cs a = moved at (at + size []) (c ∷ cs) (cut_from false 0 at (c ∷ cs)) (omega arith) (outside at c cs a (is_blank c) (eqb c 35) refl refl)
one_more (suc n) at c cs a = further n at c cs a

with_one : (c : ℕ) (cs : List ℕ) → AllRight cs → AllRight (c ∷ cs)
with_one c cs a = (λ n at. one_more n at c cs a, λ at. inside at c cs a (ends_line c) refl)

all_right : (cs : List ℕ) → AllRight cs
all_right [] = (nothing_in, λ at. record { comment = []; back = []; each = tt; ends = tt; whole = refl; right = nothing_here (at + size []) })
all_right (c ∷ cs) = with_one c cs (all_right cs)

pub right : (at : ℕ) (cs : List ℕ) → Right at cs (cut_from false 0 at cs)
right at cs = from_here at cs (all_right cs)
