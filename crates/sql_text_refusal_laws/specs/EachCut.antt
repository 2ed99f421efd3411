-- Each text is cut into tokens.
use Rattle.std.specs.Prelude.{Bool, true, false, ◌==◌, ◌≡◌, if◌then◌else◌, List, [], ◌∷◌, ℕ, zero, suc, ◌+◌, take, drop, Option, Some, None}
use Rattle.std.specs.Str.{is_utf8}
use Rattle.std.proofs.Common.{refl, subst, sym}
use Rattle.std.proofs.lemmas.Str.{IsUtf8-from_is_utf8, is_utf8-from_IsUtf8}
use Rattle.rdf_meaning.specs.Characters.{is_digit}
use Rattle.sql_meaning.specs.Marks.{sign_of}
use Rattle.sql_meaning.specs.Tokens.{is_blank, is_run_byte, run_len, begins_with, Quoted, quoted, run_token, sign_opening, opening_of, placed, Cut, cut_end, cut_blank, cut_sign, cut_run, cut_negative, cut_text, cut_joined, cut_minus, cut_endless, cut_no_utf8, cut_nothing, IsCut}
use Rattle.sql_meaning.specs.declared.token.Mark.{Mark}
use Rattle.sql_meaning.specs.declared.token.Placed.{Placed}
use Rattle.sql_meaning.specs.declared.token.Opening.{Opening}
use Rattle.sql_meaning.specs.declared.token.Opening.TheVariants.{Blank, Sign, Quote, Run, Minus, Nothing}

abbrev HasCut : ℕ → Bool → List ℕ → Type 0
HasCut n a bs = (ts : List Placed) × Cut n a bs ts

-- all that stands behind the first bytes has a cut, whatever their number
abbrev AllCut : List ℕ → Type 0
AllCut bs = (k n : ℕ) (a : Bool) → HasCut n a (drop k bs)

-- which bytes begin a run
sign_no_run : (m : Option Mark) → sign_opening m ≡ Run → ⊥
sign_no_run None h = absurd cc
sign_no_run (Some m) h = absurd cc

no_run : (blank quote minus : Bool) (m : Option Mark) → (if blank then Blank else (if false then Run else (if quote then Quote else (if minus then Minus else sign_opening m)))) ≡ Run → ⊥
no_run true quote minus m h = absurd cc
no_run false true minus m h = absurd cc
no_run false false true m h = absurd cc
no_run false false false m h = sign_no_run m h

run_begins : (b : ℕ) → opening_of b ≡ Run → is_run_byte b ≡ true
run_begins b h = by (is_run_byte b) refl
  where
    by : (r : Bool) → is_run_byte b ≡ r → is_run_byte b ≡ true
    by true e = e
    by false e = absurd (no_run (is_blank b) (b == 39) (b == 45) (sign_of b) (subst (λ (r : Bool). (if is_blank b then Blank else (if r then Run else (if b == 39 then Quote else (if b == 45 then Minus else sign_opening (sign_of b))))) ≡ Run) e h))

run_first : (b : ℕ) (bs : List ℕ) → is_run_byte b ≡ true → run_len (b ∷ bs) ≡ suc (run_len bs)
run_first b bs h = rw h refl

run_cut : (n b : ℕ) (a : Bool) (bs : List ℕ) → AllCut bs → opening_of b ≡ Run → HasCut n a (b ∷ bs)
run_cut n b a bs all h =
    let l : run_len (b ∷ bs) ≡ suc (run_len bs) = run_first b bs (run_begins b h) in
    let c : HasCut (n + run_len (b ∷ bs)) true (drop (run_len (b ∷ bs)) (b ∷ bs)) =
    subst (λ (k : ℕ). HasCut (n + k) true (drop k (b ∷ bs))) (sym l) (all (run_len bs) (n + suc (run_len bs)) true) in
    (placed n (run_token (take (run_len (b ∷ bs)) (b ∷ bs))) ∷ c.0, cut_run h c.1)

minus_cut : (n b : ℕ) (a : Bool) (bs : List ℕ) → AllCut bs → opening_of b ≡ Minus → (d : Bool) → begins_with is_digit bs ≡ d → HasCut n a (b ∷ bs)
minus_cut n b a bs all h false e = (_, cut_minus h e)
minus_cut n b true bs all h true e = (_, cut_joined h e)
minus_cut n b false bs all h true e = let c = all (run_len bs) (n + suc (run_len bs)) true in (_, cut_negative h e c.1)

text_cut : (n b : ℕ) (a : Bool) (bs : List ℕ) (q : Quoted) → AllCut bs → opening_of b ≡ Quote → quoted false bs ≡ Some q → (u : Bool) → is_utf8 q.content ≡ u → HasCut n a (b ∷ bs)
text_cut n b a bs q all h e true u = let c = all q.taken (n + suc q.taken) false in (_, cut_text h e (IsUtf8-from_is_utf8 q.content u) c.1)
text_cut n b a bs q all h e false u = (_, cut_no_utf8 h e (λ k. let w = is_utf8-from_IsUtf8 q.content k in absurd cc))

quote_cut : (n b : ℕ) (a : Bool) (bs : List ℕ) → AllCut bs → opening_of b ≡ Quote → (o : Option Quoted) → quoted false bs ≡ o → HasCut n a (b ∷ bs)
quote_cut n b a bs all h None e = (_, cut_endless h e)
quote_cut n b a bs all h (Some q) e = text_cut n b a bs q all h e (is_utf8 q.content) refl

first_cut : (n b : ℕ) (a : Bool) (bs : List ℕ) → AllCut bs → (o : Opening) → opening_of b ≡ o → HasCut n a (b ∷ bs)
first_cut n b a bs all Blank h = let c = all 0 (n + 1) false in (c.0, cut_blank h c.1)
first_cut n b a bs all (Sign m) h = let c = all 0 (n + 1) false in (_, cut_sign h c.1)
first_cut n b a bs all Run h = run_cut n b a bs all h
first_cut n b a bs all Minus h = minus_cut n b a bs all h (begins_with is_digit bs) refl
first_cut n b a bs all Quote h = quote_cut n b a bs all h (quoted false bs) refl
first_cut n b a bs all Nothing h = (_, cut_nothing h)

all_cut : (bs : List ℕ) (k n : ℕ) (a : Bool) → HasCut n a (drop k bs)
all_cut [] zero n a = ([], cut_end)
all_cut [] (suc k) n a = ([], cut_end)
all_cut (b ∷ bs) zero n a = first_cut n b a bs (λ k n a. all_cut bs k n a) (opening_of b) refl
all_cut (b ∷ bs) (suc k) n a = all_cut bs k n a

abbrev pub TextsHaveACut : Type 0
TextsHaveACut = (bs : List ℕ) → (ts : List Placed) × IsCut bs ts

pub texts_have_a_cut : TextsHaveACut
texts_have_a_cut bs = all_cut bs 0 0 false
