-- Names: what is spelled is found.
use Rattle.std.proofs.Common.{◌≡◌, ◌≤◌, ℕ, suc, ◌+◌, inl, inr, Bool, true, false, eqb, List, [], ◌∷◌, ◌++◌, length, take, refl, sym, ap, ◌∙◌, arith, ◌||◌, ◌&&◌, not}
use Rattle.std.specs.Prelude.{Option, Some, None, encode_utf8_all}
use Rattle.std.specs.List.{filter}
use Rattle.std.proofs.lemmas.Bool.Decides.{nat_tests}
use Rattle.rdf_meaning.specs.Characters.{is_digit, is_base}
use Rattle.sparql_meaning.specs.declared.token.TokenKind.TheVariants as k
use Rattle.sparql_meaning.specs.Classes.{is_start, is_part, is_hex, is_kept}
use Rattle.sparql_meaning.specs.Tokens.{head, escaped_len, part_len, name_from, name_len, label_len, blank_at, local_len, is_no_backslash, local_text, named_at, one_more, to_colon}
use Rattle.sparql_token_laws.specs.Forms.{stands_in_name, GoesOn, name_ends, part, full_stop, percent, backslash, BeginsLocal, IsLocal, begins_label}
use Rattle.sparql_token_laws.proofs.Basics.{Covers, apart, front_taken}
use Rattle.sparql_token_laws.proofs.Runs.{no_zero}

dot_no_part : (local : Bool) → stands_in_name local 46 ≡ false
dot_no_part true = refl
dot_no_part false = refl

back_no_part : (local : Bool) → stands_in_name local 92 ≡ false
back_no_part true = refl
back_no_part false = refl

pub part_test : (local : Bool) (c : ℕ) → stands_in_name local c ≡ true → (is_part c || (local && eqb c 58)) ≡ true
part_test true c s = s
part_test false c s = rw s refl

part_one : (local : Bool) (c : ℕ) (cs : List ℕ) → stands_in_name local c ≡ true → part_len local (c ∷ cs) ≡ 1
part_one local c cs s = rw (part_test local c s) refl

pub part_on : (local : Bool) (c : ℕ) (cs : List ℕ) → stands_in_name local c ≡ true → name_from local 0 (c ∷ cs) ≡ 1 + name_from local 0 cs
part_on local c cs s = let d : eqb c 46 ≡ false = apart (stands_in_name local) c 46 s (dot_no_part local) in rw (d, part_one local c cs s) refl

some_zero : (n m : ℕ) → suc m ≤ n → eqb n 0 ≡ false
some_zero n m l = grind (arith, nat_tests)

pub dot_on : (local : Bool) (m : ℕ) (cs : List ℕ) → suc m ≤ name_from local 0 cs → name_from local 0 (46 ∷ cs) ≡ 1 + name_from local 0 cs
dot_on local m cs l = rw (some_zero (name_from local 0 cs) m l) refl

percent_len : (a b : ℕ) (cs : List ℕ) → is_hex a ≡ true → is_hex b ≡ true → escaped_len (37 ∷ a ∷ b ∷ cs) ≡ 3
percent_len a b cs s t = rw (s, t) refl

pub percent_on : (a b : ℕ) (cs : List ℕ) → is_hex a ≡ true → is_hex b ≡ true → name_from true 0 (37 ∷ a ∷ b ∷ cs) ≡ 3 + name_from true 0 cs
percent_on a b cs s t = rw (s, t) (omega arith)

kept_len : (c : ℕ) (cs : List ℕ) → is_kept c ≡ true → escaped_len (92 ∷ c ∷ cs) ≡ 2
kept_len c cs s = rw s refl

pub kept_on : (c : ℕ) (cs : List ℕ) → is_kept c ≡ true → name_from true 0 (92 ∷ c ∷ cs) ≡ 2 + name_from true 0 cs
kept_on c cs s = rw s (omega arith)

-- a name goes on at least as far as it is spelled
goes_covers : (local : Bool) (cs text rest : List ℕ) → GoesOn local cs text → length cs ≤ name_from local 0 (cs ++ rest)
goes_covers local _ _ rest name_ends = omega arith
goes_covers local _ _ rest (part {c = c} {cs = cs} {text = text} s g) = let i = goes_covers local cs text rest g in omega (arith, i, part_on local c (cs ++ rest) s)
goes_covers local _ _ rest (full_stop {c = c} {cs = cs} {text = text} g) =
    let i = goes_covers local (c ∷ cs) text rest g in omega (arith, i, dot_on local (length cs) (c ∷ (cs ++ rest)) i)
goes_covers local _ _ rest (percent {a = a} {b = b} {cs = cs} {text = text} s t g) = let i = goes_covers true cs text rest g in omega (arith, i, percent_on a b (cs ++ rest) s t)
goes_covers local _ _ rest (backslash {c = c} {cs = cs} {text = text} s g) = let i = goes_covers true cs text rest g in omega (arith, i, kept_on c (cs ++ rest) s)

no_back : (p : ℕ → Bool) (c : ℕ) → p c ≡ true → p 92 ≡ false → is_no_backslash c ≡ true
no_back p c s n = let d : eqb c 92 ≡ false = apart p c 92 s n in rw d refl

-- what a local name stands for is the name without its backslashes
pub text_kept : (local : Bool) (cs text : List ℕ) → GoesOn local cs text → filter is_no_backslash cs ≡ text
text_kept local _ _ name_ends = refl
text_kept local _ _ (part {c = c} {cs = cs} {text = text} s g) = rw (no_back (stands_in_name local) c s (back_no_part local)) (ap (λ (t : List ℕ). c ∷ t) (text_kept local cs text g))
text_kept local _ _ (full_stop {c = c} {cs = cs} {text = text} g) = ap (λ (t : List ℕ). 46 ∷ t) (text_kept local (c ∷ cs) text g)
text_kept local _ _ (percent {a = a} {b = b} {cs = cs} {text = text} s t g) =
    rw (no_back is_hex a s refl, no_back is_hex b t refl) (ap (λ (t : List ℕ). 37 ∷ a ∷ b ∷ t) (text_kept true cs text g))
text_kept local _ _ (backslash {c = c} {cs = cs} {text = text} s g) = rw (no_back is_kept c s refl) (ap (λ (t : List ℕ). c ∷ t) (text_kept true cs text g))

-- ---- blank nodes

pub label_len_is : (c : ℕ) (cs : List ℕ) → begins_label c ≡ true → label_len (c ∷ cs) ≡ suc (name_from false 0 cs)
unfolding name_len
label_len_is c cs b = rw b (omega arith)

pub blank_covers : (begin : ℕ) (others rest : List ℕ) → begins_label begin ≡ true → GoesOn false others others
    → Covers (k.Blank (encode_utf8_all (begin ∷ others))) (suc (suc (suc (length others)))) (blank_at (58 ∷ begin ∷ (others ++ rest)))
unfolding blank_at
blank_covers begin others rest b g =
    let n = name_from false 0 (others ++ rest) in
    let l : length others ≤ n = goes_covers false others others rest g in
    rw (label_len_is begin (others ++ rest) b, no_zero n) (
      omega (arith, l),
      λ same.
          let j : length others ≡ n = omega (arith, same) in
          ap (λ (t : List ℕ). k.Blank (encode_utf8_all (begin ∷ t))) (sym (front_taken others rest n j)),
    )

-- ---- names with a prefix

widen : (a b d e f g : Bool) → (a || b || d || e || f) ≡ true → e ≡ false → f ≡ false → (a || b || d || g) ≡ true
widen true b d e f g h x y = refl
widen false true d e f g h x y = refl
widen false false true e f g h x y = refl
widen false false false true f g h x y = absurd cc
widen false false false false true g h x y = absurd cc
widen false false false false false g h x y = absurd cc

begins_test : (c : ℕ) (cs text rest : List ℕ) → BeginsLocal (c ∷ cs) → GoesOn true (c ∷ cs) text → (is_start c || eqb c 58 || is_digit c || not (eqb (escaped_len (c ∷ (cs ++ rest))) 0)) ≡ true
begins_test c cs text rest b (part s g) =
    widen (is_start c) (eqb c 58) (is_digit c) (eqb c 37) (eqb c 92) (not (eqb (escaped_len (c ∷ (cs ++ rest))) 0)) b (apart (stands_in_name true) c 37 s refl) (apart (stands_in_name true) c 92 s refl)
begins_test _ _ _ rest b (full_stop g) = absurd cc
begins_test _ _ _ rest b (percent {a = a} {b = d} {cs = cs} s t g) = rw (percent_len a d (cs ++ rest) s t) refl
begins_test _ _ _ rest b (backslash {c = c} {cs = cs} s g) = rw (kept_len c (cs ++ rest) s) refl

local_len_is : (c : ℕ) (cs text rest : List ℕ) → BeginsLocal (c ∷ cs) → GoesOn true (c ∷ cs) text → local_len (c ∷ (cs ++ rest)) ≡ name_from true 0 (c ∷ (cs ++ rest))
unfolding name_len
local_len_is c cs text rest b g = rw (begins_test c cs text rest b g) refl

local_covers : (text back rest : List ℕ) → IsLocal text back → (length back ≤ local_len (back ++ rest)) × (length back ≡ local_len (back ++ rest) → local_text (back ++ rest) ≡ encode_utf8_all text)
local_covers text back rest (inl h) = (
  omega (arith, ap length h.0),
  λ e.
      let z : local_len (back ++ rest) ≡ 0 = sym e ∙ ap length h.0 in
      ap (λ (n : ℕ). encode_utf8_all (filter is_no_backslash (take n (back ++ rest)))) z ∙ ap encode_utf8_all (sym h.1),
)
local_covers text [] rest (inr h) = absurd h.0
local_covers text (c ∷ cs) rest (inr h) =
    let l : local_len (c ∷ (cs ++ rest)) ≡ name_from true 0 (c ∷ (cs ++ rest)) = local_len_is c cs text rest h.0 h.1 in
    let i : suc (length cs) ≤ name_from true 0 (c ∷ (cs ++ rest)) = goes_covers true (c ∷ cs) text rest h.1 in (
      omega (arith, l, i),
      λ e. ap (λ (t : List ℕ). encode_utf8_all (filter is_no_backslash t)) (front_taken (c ∷ cs) rest (local_len (c ∷ (cs ++ rest))) e) ∙ ap encode_utf8_all (text_kept true (c ∷ cs) text h.1),
    )

pub named_covers : (front back text rest : List ℕ) → IsLocal text back
    → Covers (k.Named (encode_utf8_all front) (encode_utf8_all text)) (length front + suc (length back)) (named_at front (back ++ rest))
unfolding named_at
named_covers front back text rest h =
    let c = local_covers text back rest h in (
      let l = c.0 in omega arith,
      λ same. let e : length back ≡ local_len (back ++ rest) = omega (arith, same) in ap (λ (t : List ℕ). k.Named (encode_utf8_all front) t) (sym (c.1 e)),
    )

no_colon : (c : ℕ) (cs text : List ℕ) → GoesOn false (c ∷ cs) text → eqb c 58 ≡ false
no_colon c cs text (part s g) = apart is_part c 58 s refl
no_colon _ _ _ (full_stop g) = refl

pub colon_on : (c : ℕ) (cs : List ℕ) → is_part c ≡ true → to_colon (c ∷ cs) ≡ one_more (to_colon cs)
colon_on c cs s = let n : eqb c 58 ≡ false = apart is_part c 58 s refl in rw (n, s) refl

colon_dot : (cs : List ℕ) → eqb (head cs) 58 ≡ false → to_colon (46 ∷ cs) ≡ one_more (to_colon cs)
colon_dot cs h = rw h refl

colon_found : (cs text rest : List ℕ) → GoesOn false cs text → to_colon (cs ++ 58 ∷ rest) ≡ Some (length cs)
colon_found _ _ rest name_ends = refl
colon_found _ _ rest (part {c = c} {cs = cs} {text = text} s g) =
    colon_on c (cs ++ 58 ∷ rest) s ∙ ap one_more (colon_found cs text rest g) ∙ ap (λ (n : ℕ). Some n) (omega arith)
colon_found _ _ rest (full_stop {c = c} {cs = cs} {text = text} g) =
    colon_dot (c ∷ (cs ++ 58 ∷ rest)) (no_colon c cs text g) ∙ ap one_more (colon_found (c ∷ cs) text rest g) ∙ ap (λ (n : ℕ). Some n) (omega arith)

pub prefix_found : (begin : ℕ) (others rest : List ℕ) → is_part begin ≡ true → GoesOn false others others → to_colon (begin ∷ (others ++ 58 ∷ rest)) ≡ Some (suc (length others))
prefix_found begin others rest b g = colon_found (begin ∷ others) (begin ∷ others) rest (part b g)

pub part_of_base : (c : ℕ) → is_base c ≡ true → is_part c ≡ true
part_of_base c b = rw b refl

pub one_more_some : (o : Option ℕ) (n : ℕ) → one_more o ≡ Some n → (j : ℕ) × (o ≡ Some j) × (1 + j ≡ n)
one_more_some None n h = absurd cc
one_more_some (Some j) n h = (j, refl, cc)
