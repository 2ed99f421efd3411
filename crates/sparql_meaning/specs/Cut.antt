-- A text cut into its tokens (SPARQL 1.1 Query, section 19: blanks and comments stand between tokens, and the longest token is taken).
use Rattle.std.specs.Prelude.{ℕ, zero, suc, ◌+◌, ◌-◌, Bool, true, false, ◌==◌, if◌then◌else◌, List, [], ◌∷◌, length, take, Option, Some, None, Result, Ok, Err, encode_utf8_all, chars}
use Rattle.std.specs.Char.{len_utf8}
use Rattle.std.specs.Str.Lossy.{utf8_valid_len}
use Rattle.sparql_meaning.specs.declared.token.Token.{Token}
use Rattle.sparql_meaning.specs.declared.token.Found.{Found}
use Rattle.sparql_meaning.specs.Classes.{is_blank, ends_line}
use Rattle.sparql_meaning.specs.Tokens.{token_at}

-- how many bytes the characters take
abbrev pub size : List ℕ → ℕ
size cs = length (encode_utf8_all cs)

-- a token that begins at this byte
abbrev pub token_from : ℕ → Found → List ℕ → Token
token_from at f cs = record { kind = f.kind; from = at; to = at + size (take f.chars cs) }

abbrev pub first_then : Token → Result (List Token) ℕ → Result (List Token) ℕ
first_then t (Ok ts) = Ok (t ∷ ts)
first_then t (Err bad) = Err bad

-- how many characters of a token stand behind its first one
abbrev pub chars_left : Option Found → ℕ
chars_left None = 0
chars_left (Some f) = f.chars - 1

-- the token that begins here, and then the rest
abbrev pub cut_token : (at : ℕ) → Option Found → List ℕ → Result (List Token) ℕ → Result (List Token) ℕ
cut_token at None cs rest = Err at
cut_token at (Some f) cs rest = first_then (token_from at f cs) rest

-- the tokens from a byte on, or the first bad place: outside a comment, and behind what is left of a token
abbrev pub cut_from : (comment : Bool) → (inside : ℕ) → (at : ℕ) → List ℕ → Result (List Token) ℕ
cut_from comment inside at [] = Ok []
cut_from comment (suc inside) at (c ∷ cs) = cut_from false inside (at + len_utf8 c) cs
cut_from true zero at (c ∷ cs) = cut_from (if ends_line c then false else true) zero (at + len_utf8 c) cs
cut_from false zero at (c ∷ cs) =
    if is_blank c then cut_from false zero (at + len_utf8 c) cs
    else (if c == 35 then cut_from true zero (at + len_utf8 c) cs
    else cut_token at (token_at (c ∷ cs)) (c ∷ cs) (cut_from false (chars_left (token_at (c ∷ cs))) (at + len_utf8 c) cs))

-- the front of the text that is UTF-8
abbrev pub sound_front : List ℕ → List ℕ
sound_front bytes = take (utf8_valid_len bytes) bytes

-- the tokens of the sound front; what breaks UTF-8 is a bad place, unless one stands before it
abbrev pub cut_sound : List ℕ → ℕ → Result (List Token) ℕ → Result (List Token) ℕ
cut_sound bytes n (Err bad) = Err bad
cut_sound bytes n (Ok ts) = if n == length bytes then Ok ts else Err n

-- the tokens of a text, or its first bad place
unfoldable pub cut : List ℕ → Result (List Token) ℕ
cut bytes = cut_sound bytes (utf8_valid_len bytes) (cut_from false 0 0 (chars (sound_front bytes)))
