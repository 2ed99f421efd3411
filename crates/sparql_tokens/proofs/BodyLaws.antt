-- What stands of a text behind the place that a loop has come to.
use Rattle.std.proofs.Common.{◌≡◌, ℕ, zero, suc, ◌+◌, ◌-◌, Bool, true, false, List, [], ◌∷◌, ◌++◌, length, drop, Option, Some, None, refl, sym, ap, ◌∙◌, arith, append_assoc, ◌==◌, if◌then◌else◌}
use Rattle.std.proofs.lemmas.List.{append-nil}
use Rattle.std.specs.Char.{encode_utf8}
use Rattle.sparql_meaning.specs.declared.token.Quoting.{Quoting}
use Rattle.sparql_meaning.specs.declared.token.Escape.{Escape}
use Rattle.sparql_meaning.specs.declared.token.Body.{Body}
use Rattle.sparql_meaning.specs.Tokens.{starts_with, closing, behind, body_from, escaped, escape_in, escape_chars, stands}
use Rattle.sparql_tokens.specs.Pieces.{piece, longer}

behind_behind : (a b : List ℕ) (n m : ℕ) (x : Option Body) → behind (a ++ b) (n + m) x ≡ behind a n (behind b m x)
behind_behind a b n m None = refl
behind_behind a b n m (Some x) = let t : (a ++ b) ++ x.text ≡ a ++ (b ++ x.text) = append_assoc a b x.text in let l : n + m + x.chars ≡ n + (m + x.chars) = omega arith in cc

skip : (form : Quoting) (n : ℕ) (cs : List ℕ) → body_from form n cs ≡ body_from form 0 (drop n cs)
skip form zero cs = refl
skip form (suc n) [] = refl
skip form (suc n) (c ∷ cs) = skip form n cs

-- one piece, and then the rest
abbrev pieced : Quoting → Option Escape → List ℕ → Option Body
pieced form None cs = None
pieced form (Some p) cs = behind (encode_utf8 p.value) p.chars (body_from form 0 (drop p.chars cs))

pieced_escape : (form : Quoting) (e : Option Escape) (c : ℕ) (cs : List ℕ) → escaped e (body_from form (escape_chars e) cs) ≡ pieced form (longer e) (c ∷ cs)
pieced_escape form None c cs = refl
pieced_escape form (Some e) c cs = let l : suc e.chars ≡ 1 + e.chars = omega arith in ap (λ k. behind (encode_utf8 e.value) (1 + e.chars) k) (skip form e.chars cs ∙ ap (λ n. body_from form 0 (drop n (c ∷ cs))) l)

other : (form : Quoting) (b : Bool) (c : ℕ) (cs : List ℕ) → (if b then behind (encode_utf8 c) 1 (body_from form 0 cs) else None) ≡ pieced form (if b then Some (record { value = c; chars = 1 }) else None) (c ∷ cs)
other form true c cs = refl
other form false c cs = refl

either_way : (form : Quoting) (b : Bool) (c : ℕ) (cs : List ℕ)
    → (if b then escaped (escape_in form cs) (body_from form (escape_chars (escape_in form cs)) cs) else (if stands form c then behind (encode_utf8 c) 1 (body_from form 0 cs) else None))
    ≡ pieced form (if b then longer (escape_in form cs) else (if stands form c then Some (record { value = c; chars = 1 }) else None)) (c ∷ cs)
either_way form true c cs = pieced_escape form (escape_in form cs) c cs
either_way form false c cs = other form (stands form c) c cs

opened : (form : Quoting) (c : ℕ) (cs : List ℕ) → starts_with (closing form) (c ∷ cs) ≡ false → body_from form 0 (c ∷ cs) ≡ pieced form (piece form c cs) (c ∷ cs)
opened form c cs h = rw h (either_way form (c == 92) c cs)

pub body_closed : (form : Quoting) (text rest cs : List ℕ) (at c : ℕ) (whole : Option Body) → behind text at (body_from form 0 rest) ≡ whole → rest ≡ c ∷ cs → starts_with (closing form) rest ≡ true
    → Some (record { text = text; chars = at + length (closing form) }) ≡ whole
body_closed form text rest cs at c whole w r h =
    let h' : starts_with (closing form) (c ∷ cs) ≡ true = ap (starts_with (closing form)) (sym r) ∙ h in
    let there : behind text at (body_from form 0 (c ∷ cs)) ≡ Some (record { text = text ++ []; chars = at + length (closing form) }) = rw h' refl in
    let t : text ++ [] ≡ text = append-nil text in
    sym (ap (λ (k : List ℕ). Some (record { text = k; chars = at + length (closing form) })) t) ∙ sym there ∙ ap (λ k. behind text at (body_from form 0 k)) (sym r) ∙ w

pub body_none : (form : Quoting) (text rest cs : List ℕ) (at c : ℕ) (whole : Option Body) → behind text at (body_from form 0 rest) ≡ whole → rest ≡ c ∷ cs → starts_with (closing form) rest ≡ false → None ≡ piece form c cs
    → None ≡ whole
body_none form text rest cs at c whole w r h is =
    let h' : starts_with (closing form) (c ∷ cs) ≡ false = ap (starts_with (closing form)) (sym r) ∙ h in
    ap (λ k. behind text at (pieced form k (c ∷ cs))) is ∙ ap (λ k. behind text at k) (sym (opened form c cs h')) ∙ ap (λ k. behind text at (body_from form 0 k)) (sym r) ∙ w

pub body_step : (form : Quoting) (text rest cs : List ℕ) (at c : ℕ) (p : Escape) (whole : Option Body) → behind text at (body_from form 0 rest) ≡ whole → rest ≡ c ∷ cs → starts_with (closing form) rest ≡ false → Some p ≡ piece form c cs
    → behind (text ++ encode_utf8 p.value) (at + p.chars) (body_from form 0 (drop p.chars rest)) ≡ whole
body_step form text rest cs at c p whole w r h is =
    let h' : starts_with (closing form) (c ∷ cs) ≡ false = ap (starts_with (closing form)) (sym r) ∙ h in
    behind_behind text (encode_utf8 p.value) at p.chars (body_from form 0 (drop p.chars rest))
    ∙ ap (λ k. behind text at (behind (encode_utf8 p.value) p.chars (body_from form 0 (drop p.chars k)))) r
    ∙ ap (λ k. behind text at (pieced form k (c ∷ cs))) is
    ∙ ap (λ k. behind text at k) (sym (opened form c cs h'))
    ∙ ap (λ k. behind text at (body_from form 0 k)) (sym r) ∙ w

pub body_begins : (x : Option Body) → behind [] 0 x ≡ x
body_begins None = refl
body_begins (Some x) = let l : 0 + x.chars ≡ x.chars = omega arith in ap (λ (n : ℕ). Some (record { text = x.text; chars = n })) l

pub ruleset body_paths = (body_closed, body_none, body_step, body_begins)
