-- A text is cut into tokens in one way.
use Rattle.std.specs.Prelude.{◌≡◌, Bool, true, false, if◌then◌else◌, List, [], ◌∷◌, ℕ, suc, ◌+◌, take, drop, Option, Some, None, IsUtf8}
use Rattle.std.specs.Str.{is_utf8}
use Rattle.std.proofs.Common.{◌∙◌, sym, ap, subst, refl}
use Rattle.std.proofs.lemmas.Str.{IsUtf8-from_is_utf8, is_utf8-from_IsUtf8}
use Rattle.rdf_meaning.specs.Characters.{is_digit}
use Rattle.table_meaning.specs.Ints.{int_of}
use Rattle.sql_meaning.specs.Tokens.{run_len, begins_with, Quoted, quoted, int_token, run_token, opening_of, placed, Cut, cut_end, cut_blank, cut_sign, cut_run, cut_negative, cut_text, cut_joined, cut_minus, cut_endless, cut_no_utf8, cut_nothing, IsCut}
use Rattle.sql_meaning.specs.declared.token.Token.{Token}
use Rattle.sql_meaning.specs.declared.token.Token.TheVariants as t
use Rattle.sql_meaning.specs.declared.token.Placed.{Placed}
use Rattle.sql_meaning.specs.declared.token.Opening.{Opening}
use Rattle.sql_meaning.specs.declared.token.Opening.TheVariants.{Blank, Sign, Quote, Run, Minus, Nothing}

-- what the bytes from a place on begin with: a blank, a token of some bytes with what follows it, or nothing
data Move : Type 0 where
  skip : Move
  token : Token → ℕ → Bool → List ℕ → Move
  stop : Move

abbrev after_quote : List ℕ → Option Quoted → Move
after_quote bs None = stop
after_quote bs (Some q) = if is_utf8 q.content then token (t.Text q.content) (suc q.taken) false (drop q.taken bs) else stop

abbrev number : Bool → ℕ → List ℕ → Move
number true b bs = stop
number false b bs = token (int_token (int_of (b ∷ take (run_len bs) bs))) (suc (run_len bs)) true (drop (run_len bs) bs)

abbrev move_by : Opening → Bool → ℕ → List ℕ → Move
move_by Blank a b bs = skip
move_by (Sign m) a b bs = token (t.Mark m) 1 false bs
move_by Run a b bs = token (run_token (take (run_len (b ∷ bs)) (b ∷ bs))) (run_len (b ∷ bs)) true (drop (run_len (b ∷ bs)) (b ∷ bs))
move_by Minus a b bs = if begins_with is_digit bs then number a b bs else stop
move_by Quote a b bs = after_quote bs (quoted false bs)
move_by Nothing a b bs = stop

abbrev move : Bool → ℕ → List ℕ → Move
move a b bs = move_by (opening_of b) a b bs

-- what the move says of the tokens
abbrev Says : Move → ℕ → List ℕ → List Placed → Type 0
Says skip n bs ts = Cut (n + 1) false bs ts
Says (token x k r rest) n bs ts = (us : List Placed) × (ts ≡ placed n x ∷ us) × Cut (n + k) r rest us
Says stop n bs ts = ts ≡ placed n t.Broken ∷ []

moved : (o : Opening) (a : Bool) (b : ℕ) (bs : List ℕ) → opening_of b ≡ o → move a b bs ≡ move_by o a b bs
moved o a b bs h = ap (λ p. move_by p a b bs) h

move_negative : (b : ℕ) (bs : List ℕ) → opening_of b ≡ Minus → begins_with is_digit bs ≡ true → move false b bs ≡ number false b bs
move_negative b bs h d = moved Minus false b bs h ∙ rw d refl

move_joined : (b : ℕ) (bs : List ℕ) → opening_of b ≡ Minus → begins_with is_digit bs ≡ true → move true b bs ≡ stop
move_joined b bs h d = moved Minus true b bs h ∙ rw d refl

move_minus : (a : Bool) (b : ℕ) (bs : List ℕ) → opening_of b ≡ Minus → begins_with is_digit bs ≡ false → move a b bs ≡ stop
move_minus a b bs h d = moved Minus a b bs h ∙ rw d refl

move_text : (a : Bool) (b : ℕ) (bs : List ℕ) (q : Quoted) → opening_of b ≡ Quote → quoted false bs ≡ Some q → IsUtf8 q.content → move a b bs ≡ token (t.Text q.content) (suc q.taken) false (drop q.taken bs)
move_text a b bs q h e u = let w : is_utf8 q.content ≡ true = is_utf8-from_IsUtf8 q.content u in moved Quote a b bs h ∙ ap (after_quote bs) e ∙ rw w refl

move_endless : (a : Bool) (b : ℕ) (bs : List ℕ) → opening_of b ≡ Quote → quoted false bs ≡ None → move a b bs ≡ stop
move_endless a b bs h e = moved Quote a b bs h ∙ ap (after_quote bs) e

move_no_utf8 : (a : Bool) (b : ℕ) (bs : List ℕ) (q : Quoted) → opening_of b ≡ Quote → quoted false bs ≡ Some q → (IsUtf8 q.content → ⊥) → move a b bs ≡ stop
move_no_utf8 a b bs q h e u = moved Quote a b bs h ∙ ap (after_quote bs) e ∙ by (is_utf8 q.content) refl
  where
    by : (w : Bool) → is_utf8 q.content ≡ w → after_quote bs (Some q) ≡ stop
    by true k = absurd (u (IsUtf8-from_is_utf8 q.content k))
    by false k = rw k refl

-- the tokens of a cut are those of its move
says : (n b : ℕ) (a : Bool) (bs : List ℕ) (ts : List Placed) → Cut n a (b ∷ bs) ts → Says (move a b bs) n bs ts
says n b a bs ts (cut_blank h c) = subst (λ (m : Move). Says m n bs ts) (sym (moved Blank a b bs h)) c
says n b a bs ts (cut_sign {ts = us} {m = m} h c) = subst (λ (m : Move). Says m n bs ts) (sym (moved (Sign m) a b bs h)) (us, refl, c)
says n b a bs ts (cut_run {ts = us} h c) = subst (λ (m : Move). Says m n bs ts) (sym (moved Run a b bs h)) (us, refl, c)
says n b a bs ts (cut_negative {ts = us} h d c) = subst (λ (m : Move). Says m n bs ts) (sym (move_negative b bs h d)) (us, refl, c)
says n b a bs ts (cut_text {ts = us} {q = q} h e u c) = subst (λ (m : Move). Says m n bs ts) (sym (move_text a b bs q h e u)) (us, refl, c)
says n b a bs ts (cut_joined h d) = subst (λ (m : Move). Says m n bs ts) (sym (move_joined b bs h d)) refl
says n b a bs ts (cut_minus h d) = subst (λ (m : Move). Says m n bs ts) (sym (move_minus a b bs h d)) refl
says n b a bs ts (cut_endless h e) = subst (λ (m : Move). Says m n bs ts) (sym (move_endless a b bs h e)) refl
says n b a bs ts (cut_no_utf8 {q = q} h e u) = subst (λ (m : Move). Says m n bs ts) (sym (move_no_utf8 a b bs q h e u)) refl
says n b a bs ts (cut_nothing h) = subst (λ (m : Move). Says m n bs ts) (sym (moved Nothing a b bs h)) refl

told : (m : Move) (n b : ℕ) (a : Bool) (bs : List ℕ) (us : List Placed) → move a b bs ≡ m → Cut n a (b ∷ bs) us → Says m n bs us
told m n b a bs us e d = subst (λ (m : Move). Says m n bs us) e (says n b a bs us d)

end_only : {n : ℕ} {a : Bool} {us : List Placed} → Cut n a [] us → [] ≡ us
end_only cut_end = refl

same_front : (x : Placed) (ts us vs : List Placed) → vs ≡ x ∷ us → ts ≡ us → x ∷ ts ≡ vs
same_front x ts us vs e h = ap (λ (l : List Placed). x ∷ l) h ∙ sym e

one : (n : ℕ) (a : Bool) (bs : List ℕ) (ts us : List Placed) → Cut n a bs ts → Cut n a bs us → ts ≡ us
one n a bs ts us cut_end d = end_only d
one n a bs ts us (cut_blank {b = b} {bs = rest} h c) d = one (n + 1) false rest ts us c (told skip n b a rest us (moved Blank a b rest h) d)
one n a bs ts us (cut_sign {b = b} {bs = rest} {ts = vs} {m = m} h c) d =
    let s = told (move_by (Sign m) a b rest) n b a rest us (moved (Sign m) a b rest h) d in
    same_front _ vs s.0 us s.1 (one _ _ _ vs s.0 c s.2)
one n a bs ts us (cut_run {b = b} {bs = rest} {ts = vs} h c) d =
    let s = told (move_by Run a b rest) n b a rest us (moved Run a b rest h) d in
    same_front _ vs s.0 us s.1 (one _ _ _ vs s.0 c s.2)
one n a bs ts us (cut_negative {b = b} {bs = rest} {ts = vs} h k c) d =
    let s = told (number false b rest) n b false rest us (move_negative b rest h k) d in
    same_front _ vs s.0 us s.1 (one _ _ _ vs s.0 c s.2)
one n a bs ts us (cut_text {b = b} {bs = rest} {ts = vs} {q = q} h e u c) d =
    let s = told (token (t.Text q.content) (suc q.taken) false (drop q.taken rest)) n b a rest us (move_text a b rest q h e u) d in
    same_front _ vs s.0 us s.1 (one _ _ _ vs s.0 c s.2)
one n a bs ts us (cut_joined {b = b} {bs = rest} h k) d = sym (told stop n b true rest us (move_joined b rest h k) d)
one n a bs ts us (cut_minus {b = b} {bs = rest} h k) d = sym (told stop n b a rest us (move_minus a b rest h k) d)
one n a bs ts us (cut_endless {b = b} {bs = rest} h e) d = sym (told stop n b a rest us (move_endless a b rest h e) d)
one n a bs ts us (cut_no_utf8 {b = b} {bs = rest} {q = q} h e u) d = sym (told stop n b a rest us (move_no_utf8 a b rest q h e u) d)
one n a bs ts us (cut_nothing {b = b} {bs = rest} h) d = sym (told stop n b a rest us (moved Nothing a b rest h) d)

abbrev pub TextsHaveOneCut : Type 0
TextsHaveOneCut = (bs : List ℕ) (ts us : List Placed) → IsCut bs ts → IsCut bs us → ts ≡ us

pub texts_have_one_cut : TextsHaveOneCut
texts_have_one_cut bs ts us c d = one 0 false bs ts us c d
