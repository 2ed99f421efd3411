-- How a text is cut into tokens.
use Rattle.std.specs.Prelude.{Bool, true, false, ◌==◌, ◌||◌, if◌then◌else◌, List, [], ◌∷◌, ℕ, ℤ, suc, ◌+◌, ◌≡◌, take, drop, Option, Some, None, IsUtf8}
use Rattle.rdf_meaning.specs.Characters.{is_letter, is_digit}
use Rattle.table_meaning.specs.Ints.{int_of}
use Rattle.table_meaning.specs.Names.{is_name}
use Rattle.sql_meaning.specs.Marks.{word_of, sign_of}
use Rattle.sql_meaning.specs.declared.token.Mark.{Mark}
use Rattle.sql_meaning.specs.declared.token.Token.{Token}
use Rattle.sql_meaning.specs.declared.token.Token.TheVariants as t
use Rattle.sql_meaning.specs.declared.token.Placed.{Placed}
use Rattle.sql_meaning.specs.declared.token.Opening.{Opening}
use Rattle.sql_meaning.specs.declared.token.Opening.TheVariants.{Blank, Sign, Quote, Run, Minus, Nothing}

-- space, tab, CR and LF
abbrev pub is_blank : ℕ → Bool
is_blank b = b == 32 || b == 9 || b == 13 || b == 10

-- the bytes of words, names and numbers: letters, digits and `_`
abbrev pub is_run_byte : ℕ → Bool
is_run_byte b = is_letter b || is_digit b || b == 95

-- how many bytes the longest run in front has
abbrev pub run_len : List ℕ → ℕ
run_len [] = 0
run_len (b ∷ bs) = if is_run_byte b then suc (run_len bs) else 0

abbrev pub begins_with : (ℕ → Bool) → List ℕ → Bool
begins_with p [] = false
begins_with p (b ∷ bs) = p b

-- what a text between quotes holds, and how many bytes it takes with the quote behind it
pub record Quoted : Type 0 where
  pub content : List ℕ
  pub taken : ℕ

abbrev pub longer : Option Quoted → Option Quoted
longer None = None
longer (Some q) = Some (record { content = q.content; taken = suc q.taken })

abbrev pub holding : ℕ → Option Quoted → Option Quoted
holding b None = None
holding b (Some q) = Some (record { content = b ∷ q.content; taken = suc q.taken })

-- `''` stands for a quote, and a single one ends the text; the Bool says that a quote was the last byte
abbrev pub quoted : Bool → List ℕ → Option Quoted
quoted false [] = None
quoted true [] = Some (record { content = []; taken = 0 })
quoted false (b ∷ bs) = if b == 39 then longer (quoted true bs) else holding b (quoted false bs)
quoted true (b ∷ bs) = if b == 39 then holding 39 (quoted false bs) else Some (record { content = []; taken = 0 })

abbrev pub word_token : List ℕ → Option Mark → Token
word_token bs (Some m) = t.Mark m
word_token bs None = if is_name bs then t.Name bs else t.Broken

abbrev pub int_token : Option ℤ → Token
int_token (Some n) = t.Int n
int_token None = t.Broken

-- the token of a longest run: a word, a name, a number, or none that a script has
abbrev pub run_token : List ℕ → Token
run_token bs = if begins_with is_letter bs then word_token bs (word_of bs) else int_token (int_of bs)

abbrev pub sign_opening : Option Mark → Opening
sign_opening (Some m) = Sign m
sign_opening None = Nothing

abbrev pub opening_of : ℕ → Opening
opening_of b =
    if is_blank b then Blank
    else (if is_run_byte b then Run else (if b == 39 then Quote else (if b == 45 then Minus else sign_opening (sign_of b))))

abbrev pub placed : ℕ → Token → Placed
placed n x = record { token = x; at = n }

-- The bytes from a place on are cut into the tokens. The Bool says that a word or a number ends directly before them.
-- The cut ends where no token begins, where a text doesn't end or isn't UTF-8, and where a number stands directly behind
-- a word or a number: a broken token stands there.
pub data Cut : ℕ → Bool → List ℕ → List Placed → Type 0 where
  cut_end : {n : ℕ} {a : Bool} → Cut n a [] []
  cut_blank : {n b : ℕ} {a : Bool} {bs : List ℕ} {ts : List Placed} → opening_of b ≡ Blank → Cut (n + 1) false bs ts → Cut n a (b ∷ bs) ts
  cut_sign : {n b : ℕ} {a : Bool} {bs : List ℕ} {ts : List Placed} {m : Mark} → opening_of b ≡ Sign m → Cut (n + 1) false bs ts → Cut n a (b ∷ bs) (placed n (t.Mark m) ∷ ts)
  cut_run : {n b : ℕ} {a : Bool} {bs : List ℕ} {ts : List Placed} → opening_of b ≡ Run
      → Cut (n + run_len (b ∷ bs)) true (drop (run_len (b ∷ bs)) (b ∷ bs)) ts → Cut n a (b ∷ bs) (placed n (run_token (take (run_len (b ∷ bs)) (b ∷ bs))) ∷ ts)
  cut_negative : {n b : ℕ} {bs : List ℕ} {ts : List Placed} → opening_of b ≡ Minus → begins_with is_digit bs ≡ true
      → Cut (n + suc (run_len bs)) true (drop (run_len bs) bs) ts → Cut n false (b ∷ bs) (placed n (int_token (int_of (b ∷ take (run_len bs) bs))) ∷ ts)
  cut_text : {n b : ℕ} {a : Bool} {bs : List ℕ} {ts : List Placed} {q : Quoted} → opening_of b ≡ Quote → quoted false bs ≡ Some q → IsUtf8 q.content
      → Cut (n + suc q.taken) false (drop q.taken bs) ts → Cut n a (b ∷ bs) (placed n (t.Text q.content) ∷ ts)
  cut_joined : {n b : ℕ} {bs : List ℕ} → opening_of b ≡ Minus → begins_with is_digit bs ≡ true → Cut n true (b ∷ bs) (placed n t.Broken ∷ [])
  cut_minus : {n b : ℕ} {a : Bool} {bs : List ℕ} → opening_of b ≡ Minus → begins_with is_digit bs ≡ false → Cut n a (b ∷ bs) (placed n t.Broken ∷ [])
  cut_endless : {n b : ℕ} {a : Bool} {bs : List ℕ} → opening_of b ≡ Quote → quoted false bs ≡ None → Cut n a (b ∷ bs) (placed n t.Broken ∷ [])
  cut_no_utf8 : {n b : ℕ} {a : Bool} {bs : List ℕ} {q : Quoted} → opening_of b ≡ Quote → quoted false bs ≡ Some q → (IsUtf8 q.content → ⊥) → Cut n a (b ∷ bs) (placed n t.Broken ∷ [])
  cut_nothing : {n b : ℕ} {a : Bool} {bs : List ℕ} → opening_of b ≡ Nothing → Cut n a (b ∷ bs) (placed n t.Broken ∷ [])

-- the tokens of a whole text
abbrev pub IsCut : List ℕ → List Placed → Type 0
IsCut bs ts = Cut 0 false bs ts
