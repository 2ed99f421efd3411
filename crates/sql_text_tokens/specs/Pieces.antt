-- What stands in front of some bytes, and the loop that cuts a text.
use Rattle.std.proofs.Common.{◌≡◌, ◌+◌, ◌∙◌, sym, ap, List, [], ◌∷◌, ◌++◌, ℕ, suc, Bool, true, false, arith, refl, ◌<◌, ◌≤◌, length, take, drop, Option, Some, None, subst, append_assoc, add-one}
use Rattle.std.specs.Prelude.{◌==◌, slice_index, IsUtf8}
use Rattle.std.proofs.lemmas.Grind.{common_steps}
use Rattle.std.proofs.lemmas.List.{append-nil}
use Rattle.std.proofs.Common.{length-drop}
use Rattle.rdf_meaning.specs.Characters.{is_digit}
use Rattle.sql_meaning.specs.Marks.{sign_of}
use Rattle.table_meaning.specs.Ints.{int_of}
use Rattle.sql_meaning.specs.Tokens.{is_blank, is_run_byte, run_len, run_token, int_token, begins_with, opening_of, sign_opening, placed, Cut, cut_end, cut_blank, cut_sign, cut_run, cut_negative, cut_text, cut_joined, cut_minus, cut_endless, cut_no_utf8, cut_nothing, IsCut}
use Rattle.sql_meaning.specs.declared.token.Mark.{Mark}
use Rattle.sql_meaning.specs.declared.token.Token.{Token}
use Rattle.sql_meaning.specs.declared.token.Token.TheVariants as t
use Rattle.sql_meaning.specs.declared.token.Placed.{Placed}
use Rattle.sql_meaning.specs.declared.token.Opening.{Opening}
use Rattle.sql_meaning.specs.declared.token.Opening.TheVariants as o
use Rattle.sql_text_tokens.specs.Quotes.{IsContent}
use Rattle.sql_text_tokens.specs.declared.quotes.Content.{Content}
use Rattle.sql_text_tokens.specs.declared.cut.Piece.{Piece}
use Rattle.sql_text_tokens.specs.declared.cut.Piece.TheVariants as p

-- the first byte opens so
pub data Opens (bs : List ℕ) (x : Opening) : Type 0 where
  opens : (b : ℕ) (rest : List ℕ) → bs ≡ b ∷ rest → opening_of b ≡ x → Opens bs x

first_rest : (bs : List ℕ) → 0 < length bs → bs ≡ slice_index bs 0 ∷ drop 1 bs
first_rest [] h = absurd (omega arith)
first_rest (b ∷ bs) h = refl

pub opens_first : (bs : List ℕ) (x : Opening) → 0 < length bs → x ≡ opening_of (slice_index bs 0) → Opens bs x
opens_first bs x h e = opens (slice_index bs 0) (drop 1 bs) (first_rest bs h) (sym e)

-- the piece is in front, and the cut goes on behind it
pub data Goes (a : Bool) (bs : List ℕ) : Piece → Type 0 where
  goes_blank : ((n : ℕ) (ts : List Placed) → Cut (n + 1) false (drop 1 bs) ts → Cut n a bs ts) → Goes a bs p.Blank
  goes_token : {x : Token} {k : ℕ} {r : Bool} → ((n : ℕ) (ts : List Placed) → Cut (n + k) r (drop k bs) ts → Cut n a bs (placed n x ∷ ts)) → Goes a bs (p.Token x k r)
  goes_broken : ((n : ℕ) → Cut n a bs (placed n t.Broken ∷ [])) → Goes a bs p.Broken

-- a token takes a byte or more of those that are there
abbrev pub TakesSome : Piece → List ℕ → Type 0
TakesSome p.Blank bs = Unit {0}
TakesSome (p.Token x k r) bs = (0 < k) × (k ≤ length bs)
TakesSome p.Broken bs = Unit {0}

pub blank_goes : (a : Bool) (bs : List ℕ) → Opens bs o.Blank → Goes a bs p.Blank
blank_goes a bs (opens b rest e h) = subst (λ (l : List ℕ). Goes a l p.Blank) (sym e) (goes_blank (λ n ts c. cut_blank h c))

pub sign_goes : (a : Bool) (bs : List ℕ) (m : Mark) → Opens bs (o.Sign m) → Goes a bs (p.Token (t.Mark m) 1 false)
sign_goes a bs m (opens b rest e h) = subst (λ (l : List ℕ). Goes a l (p.Token (t.Mark m) 1 false)) (sym e) (goes_token (λ n ts c. cut_sign h c))

pub nothing_goes : (a : Bool) (bs : List ℕ) → Opens bs o.Nothing → Goes a bs p.Broken
nothing_goes a bs (opens b rest e h) = subst (λ (l : List ℕ). Goes a l p.Broken) (sym e) (goes_broken (λ n. cut_nothing h))

pub run_goes : (a : Bool) (bs : List ℕ) (x : Token) (k : ℕ) → Opens bs o.Run → k ≡ run_len bs → x ≡ run_token (take k bs) → Goes a bs (p.Token x k true)
run_goes a bs x k (opens b rest e h) i same =
    subst (λ (l : List ℕ). Goes a l (p.Token x k true)) (sym e)
    (let i' : run_len (b ∷ rest) ≡ k = ap run_len (sym e) ∙ sym i in
    let same' : run_token (take k (b ∷ rest)) ≡ x = ap (λ l. run_token (take k l)) (sym e) ∙ sym same in
    goes_token (λ n ts c. subst (λ (y : Token). Cut n a (b ∷ rest) (placed n y ∷ ts)) (ap (λ j. run_token (take j (b ∷ rest))) i' ∙ same') (cut_run h (subst (λ (j : ℕ). Cut (n + j) true (drop j (b ∷ rest)) ts) (sym i') c))))

blank_not_run : (b : ℕ) → is_blank b ≡ true → opening_of b ≡ o.Blank
blank_not_run b e = rw e refl

sign_not_run : (s : Option Mark) → sign_opening s ≡ o.Run → ⊥
sign_not_run None h = cc
sign_not_run (Some m) h = cc

run_opening : (b : ℕ) → opening_of b ≡ o.Run → is_run_byte b ≡ true
run_opening b h = by (is_blank b) (is_run_byte b) (b == 39) (b == 45) refl refl refl refl
  where
    by : (w x y z : Bool) → is_blank b ≡ w → is_run_byte b ≡ x → (b == 39) ≡ y → (b == 45) ≡ z → is_run_byte b ≡ true
    by true x y z e f g i = let k : opening_of b ≡ o.Blank = rw e refl in absurd (let q : o.Blank ≡ o.Run = sym k ∙ h in cc)
    by false true y z e f g i = f
    by false false true z e f g i = let k : opening_of b ≡ o.Quote = rw (e, f, g) refl in absurd (let q : o.Quote ≡ o.Run = sym k ∙ h in cc)
    by false false false true e f g i = let k : opening_of b ≡ o.Minus = rw (e, f, g, i) refl in absurd (let q : o.Minus ≡ o.Run = sym k ∙ h in cc)
    by false false false false e f g i = let k : opening_of b ≡ sign_opening (sign_of b) = rw (e, f, g, i) refl in absurd (sign_not_run (sign_of b) (sym k ∙ h))

pub run_some : (bs : List ℕ) → Opens bs o.Run → 0 < run_len bs
run_some bs (opens b rest e h) = let k : run_len (b ∷ rest) ≡ suc (run_len rest) = rw (run_opening b h) refl in let j = ap run_len e in omega arith

pub opened_some : (bs : List ℕ) (x : Opening) → Opens bs x → 0 < length bs
opened_some bs x (opens b rest e h) = let j = ap length e in omega arith

pub negative_goes : (a d : Bool) (bs rest : List ℕ) (x : Token) (k : ℕ) → a ≡ false → Opens bs o.Minus → rest ≡ drop 1 bs → d ≡ begins_with is_digit rest → d ≡ true → k ≡ run_len rest → x ≡ int_token (int_of (take (k + 1) bs)) → Goes a bs (p.Token x (k + 1) true)
negative_goes a d bs rest x k none (opens b tail e h) r digit there i same =
    let r' : rest ≡ tail = r ∙ ap (λ l. drop 1 l) e in
    let i' : k + 1 ≡ suc (run_len tail) = add-one k ∙ ap (λ n. suc n) (i ∙ ap run_len r') in
    let d' : begins_with is_digit tail ≡ true = ap (λ l. begins_with is_digit l) (sym r') ∙ sym digit ∙ there in
    let same' : int_token (int_of (b ∷ take (run_len tail) tail)) ≡ x = sym (same ∙ ap (λ l. int_token (int_of (take (k + 1) l))) e ∙ ap (λ j. int_token (int_of (take j (b ∷ tail)))) i') in
    subst (λ (y : Bool). Goes y bs (p.Token x (k + 1) true)) (sym none)
    (subst (λ (l : List ℕ). Goes false l (p.Token x (k + 1) true)) (sym e)
    (goes_token (λ n ts c. subst (λ (y : Token). Cut n false (b ∷ tail) (placed n y ∷ ts)) same' (cut_negative h d' (subst (λ (j : ℕ). Cut (n + j) true (drop j (b ∷ tail)) ts) i' c)))))

joined_after : (bs : List ℕ) → Opens bs o.Minus → Goes true bs p.Broken
joined_after bs (opens b rest e h) = by (begins_with is_digit rest) refl
  where
    by : (x : Bool) → begins_with is_digit rest ≡ x → Goes true bs p.Broken
    by true d = subst (λ (l : List ℕ). Goes true l p.Broken) (sym e) (goes_broken (λ n. cut_joined h d))
    by false d = subst (λ (l : List ℕ). Goes true l p.Broken) (sym e) (goes_broken (λ n. cut_minus h d))

pub joined_goes : (a : Bool) (bs : List ℕ) → a ≡ true → Opens bs o.Minus → Goes a bs p.Broken
joined_goes a bs is h = subst (λ (y : Bool). Goes y bs p.Broken) (sym is) (joined_after bs h)

pub minus_goes : (a d : Bool) (bs rest : List ℕ) → Opens bs o.Minus → rest ≡ drop 1 bs → d ≡ begins_with is_digit rest → d ≡ false → Goes a bs p.Broken
minus_goes a d bs rest (opens b tail e h) r digit no_digit =
    let r' : rest ≡ tail = r ∙ ap (λ l. drop 1 l) e in
    subst (λ (l : List ℕ). Goes a l p.Broken) (sym e) (goes_broken (λ n. cut_minus h (ap (λ l. begins_with is_digit l) (sym r') ∙ sym digit ∙ no_digit)))

told : (y z : Option Content) (rest tail : List ℕ) → IsContent y rest → y ≡ z → rest ≡ tail → IsContent z tail
told y z rest tail c k r = subst (λ (l : List ℕ). IsContent z l) r (subst (λ (w : Option Content). IsContent w rest) k c)

pub endless_goes : (a : Bool) (bs rest : List ℕ) (y : Option Content) → Opens bs o.Quote → rest ≡ drop 1 bs → IsContent y rest → y ≡ None → Goes a bs p.Broken
endless_goes a bs rest y (opens b tail e h) r c k =
    let c' : IsContent None tail = told y None rest tail c k (r ∙ ap (λ l. drop 1 l) e) in
    subst (λ (l : List ℕ). Goes a l p.Broken) (sym e) (goes_broken (λ n. cut_endless h c'))

pub no_utf8_goes : (a : Bool) (bs rest raw : List ℕ) (y : Option Content) (c : Content) → Opens bs o.Quote → rest ≡ drop 1 bs → IsContent y rest → y ≡ Some c → raw ≡ c.bytes.items → (IsUtf8 raw → ⊥) → Goes a bs p.Broken
no_utf8_goes a bs rest raw y c (opens b tail e h) r is k same u =
    let i : IsContent (Some c) tail = told y (Some c) rest tail is k (r ∙ ap (λ l. drop 1 l) e) in
    subst (λ (l : List ℕ). Goes a l p.Broken) (sym e) (goes_broken (λ n. cut_no_utf8 h i.0 (λ w. u (subst IsUtf8 (sym same) w))))

pub text_goes : (a : Bool) (bs rest raw shown s : List ℕ) (y : Option Content) (c : Content) → Opens bs o.Quote → rest ≡ drop 1 bs → IsContent y rest → y ≡ Some c → raw ≡ c.bytes.items → IsUtf8 raw → shown ≡ raw → s ≡ shown → Goes a bs (p.Token (t.Text s) (c.taken + 1) false)
text_goes a bs rest raw shown s y c (opens b tail e h) r is k same u seen made =
    let i : IsContent (Some c) tail = told y (Some c) rest tail is k (r ∙ ap (λ l. drop 1 l) e) in
    let j : c.taken + 1 ≡ suc c.taken = add-one c.taken in
    let w : s ≡ c.bytes.items = made ∙ seen ∙ same in
    subst (λ (x : List ℕ). Goes a bs (p.Token (t.Text x) (c.taken + 1) false)) (sym w)
    (subst (λ (l : List ℕ). Goes a l (p.Token (t.Text c.bytes.items) (c.taken + 1) false)) (sym e)
    (goes_token (λ n ts k. cut_text h i.0 (subst IsUtf8 same u) (subst (λ (m : ℕ). Cut (n + m) false (drop m (b ∷ tail)) ts) j k))))

pub text_some : (bs rest : List ℕ) (y : Option Content) (c : Content) → Opens bs o.Quote → rest ≡ drop 1 bs → IsContent y rest → y ≡ Some c → (0 < c.taken + 1) × (c.taken + 1 ≤ length bs)
text_some bs rest y c (opens b tail e h) r is k =
    let i : IsContent (Some c) tail = told y (Some c) rest tail is k (r ∙ ap (λ l. drop 1 l) e) in
    let j = ap length e in let z = i.1 in (omega arith, omega arith)

pub negative_some : (bs rest : List ℕ) (k : ℕ) → Opens bs o.Minus → rest ≡ drop 1 bs → k ≤ length rest → (0 < k + 1) × (k + 1 ≤ length bs)
negative_some bs rest k (opens b tail e h) r i =
    let r' = ap length (r ∙ ap (λ l. drop 1 l) e) in let j = ap length e in (omega arith, omega arith)

pub sign_some : (bs : List ℕ) (x : Opening) → Opens bs x → (0 < 1) × (1 ≤ length bs)
sign_some bs x h = let k = opened_some bs x h in (omega arith, omega arith)

-- the cut stands at a place behind the tokens
pub data SoFar (bs : List ℕ) (n : ℕ) (a : Bool) (ts : List Placed) : Type 0 where
  so_far : ((more : List Placed) → Cut n a (drop n bs) more → IsCut bs (ts ++ more)) → SoFar bs n a ts

pub cut_starts : (bs : List ℕ) → SoFar bs 0 false []
cut_starts bs = so_far (λ more c. c)

further : (n k : ℕ) (bs : List ℕ) → drop (n + k) bs ≡ drop k (drop n bs)
further n k bs = grind (arith, common_steps)

pub cut_passes : (bs rest : List ℕ) (n : ℕ) (a : Bool) (x : Piece) (ts : List Placed) → SoFar bs n a ts → rest ≡ drop n bs → Goes a rest x → x ≡ p.Blank → SoFar bs (n + 1) false ts
cut_passes bs rest n a x ts s r g k = by s (subst (λ (l : List ℕ). Goes a l p.Blank) r (subst (λ (y : Piece). Goes a rest y) k g))
  where
    by : SoFar bs n a ts → Goes a (drop n bs) p.Blank → SoFar bs (n + 1) false ts
    by (so_far f) (goes_blank g) = so_far (λ more c. f more (g n more (subst (λ (l : List ℕ). Cut (n + 1) false l more) (further n 1 bs) c)))

pub cut_takes : (bs rest : List ℕ) (n k : ℕ) (a r : Bool) (x : Token) (y : Piece) (ts us : List Placed) → SoFar bs n a ts → rest ≡ drop n bs → Goes a rest y → y ≡ p.Token x k r → us ≡ ts ++ placed n x ∷ [] → SoFar bs (n + k) r us
cut_takes bs rest n k a r x y ts us s e g h made = subst (λ (l : List Placed). SoFar bs (n + k) r l) (sym made) (by s (subst (λ (l : List ℕ). Goes a l (p.Token x k r)) e (subst (λ (y : Piece). Goes a rest y) h g)))
  where
    by : SoFar bs n a ts → Goes a (drop n bs) (p.Token x k r) → SoFar bs (n + k) r (ts ++ placed n x ∷ [])
    by (so_far f) (goes_token g) = so_far (λ more c.
        subst (λ (l : List Placed). IsCut bs l) (sym (append_assoc ts (placed n x ∷ []) more))
        (f (placed n x ∷ more) (g n more (subst (λ (l : List ℕ). Cut (n + k) r l more) (further n k bs) c))))

pub takes_within : (bs rest : List ℕ) (n k : ℕ) (x : Token) (r : Bool) (y : Piece) → n ≤ length bs → rest ≡ drop n bs → TakesSome y rest → y ≡ p.Token x k r → n + k ≤ length bs
takes_within bs rest n k x r y l e h is =
    let w : TakesSome (p.Token x k r) rest = subst (λ (z : Piece). TakesSome z rest) is h in
    let v = w.1 in let j = ap length e in let z = length-drop n bs in omega arith

pub cut_breaks : (bs rest : List ℕ) (n : ℕ) (a : Bool) (x : Piece) (ts us : List Placed) → SoFar bs n a ts → rest ≡ drop n bs → Goes a rest x → x ≡ p.Broken → us ≡ ts ++ placed n t.Broken ∷ [] → IsCut bs us
cut_breaks bs rest n a x ts us s e g h made = subst (λ (l : List Placed). IsCut bs l) (sym made) (by s (subst (λ (l : List ℕ). Goes a l p.Broken) e (subst (λ (y : Piece). Goes a rest y) h g)))
  where
    by : SoFar bs n a ts → Goes a (drop n bs) p.Broken → IsCut bs (ts ++ placed n t.Broken ∷ [])
    by (so_far f) (goes_broken g) = f (placed n t.Broken ∷ []) (g n)

pub cut_ends : (bs : List ℕ) (n : ℕ) (a : Bool) (ts : List Placed) → SoFar bs n a ts → length bs ≤ n → IsCut bs ts
cut_ends bs n a ts (so_far f) h =
    let e : drop n bs ≡ [] = grind (arith, common_steps) in
    subst (λ (l : List Placed). IsCut bs l) (append-nil ts) (f [] (subst (λ (l : List ℕ). Cut n a l []) (sym e) cut_end))
