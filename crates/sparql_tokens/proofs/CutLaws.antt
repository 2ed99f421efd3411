-- What stands of a cut behind the place that a loop has come to.
use Rattle.std.proofs.Common.{◌≡◌, ℕ, zero, suc, ◌+◌, ◌-◌, ◌<◌, ◌≤◌, Bool, true, false, not, List, [], ◌∷◌, ◌++◌, length, take, drop, Some, None, Result, Ok, Err, refl, sym, ap, ◌∙◌, arith, zero-add, append_assoc, length-append, ◌==◌, if◌then◌else◌, encode_utf8_all}
use Rattle.std.proofs.lemmas.Bool.Decides.{nat_tests}
use Rattle.std.proofs.lemmas.List.{append-nil, take_all, length-take-le}
use Rattle.std.proofs.lemmas.Str.{length-encode, utf8_valid_len-IsUtf8, utf8_valid_len_le, encodes-chars}
use Rattle.std.specs.Str.{IsUtf8, chars}
use Rattle.std.specs.Str.Lossy.{utf8_valid_len}
use Rattle.std.specs.Char.{encode_utf8, len_utf8}
use Rattle.sparql_meaning.specs.declared.token.Token.{Token}
use Rattle.sparql_meaning.specs.declared.token.Found.{Found}
use Rattle.sparql_meaning.specs.Classes.{is_blank, ends_line}
use Rattle.sparql_meaning.specs.Tokens.{token_at}
use Rattle.sparql_meaning.specs.Cut.{size, cut_from, cut_token, chars_left, first_then, token_from, cut, cut_sound, sound_front}
use Rattle.sparql_tokens.specs.Pieces.{before, StartsToken, IsWithin}

size_cons : (c : ℕ) (cs : List ℕ) → size (c ∷ cs) ≡ len_utf8 c + size cs
size_cons c cs = length-append (encode_utf8 c) (encode_utf8_all cs) ∙ ap (λ n. n + size cs) (length-encode c)

pub size_step : (c : ℕ) (rest cs : List ℕ) → rest ≡ c ∷ cs → size rest ≡ len_utf8 c + size cs
size_step c rest cs r = ap size r ∙ size_cons c cs

pub blank_passed : (c at : ℕ) (rest cs : List ℕ) (whole : Result (List Token) ℕ) → cut_from false 0 at rest ≡ whole → rest ≡ c ∷ cs → is_blank c ≡ true → cut_from false 0 (at + len_utf8 c) cs ≡ whole
blank_passed c at rest cs whole w r h = let there : cut_from false 0 at (c ∷ cs) ≡ cut_from false 0 (at + len_utf8 c) cs = rw h refl in sym there ∙ ap (cut_from false 0 at) (sym r) ∙ w

hash_there : (c at : ℕ) (cs : List ℕ) → c ≡ 35 → cut_from false 0 at (c ∷ cs) ≡ cut_from true 0 (at + len_utf8 c) cs
hash_there c at cs h = ap (λ d. cut_from false 0 at (d ∷ cs)) h ∙ ap (λ d. cut_from true 0 (at + len_utf8 d) cs) (sym h)

pub comment_begun : (c at : ℕ) (rest cs : List ℕ) (whole : Result (List Token) ℕ) → cut_from false 0 at rest ≡ whole → rest ≡ c ∷ cs → c ≡ 35 → cut_from true 0 (at + len_utf8 c) cs ≡ whole
comment_begun c at rest cs whole w r h = sym (hash_there c at cs h) ∙ ap (cut_from false 0 at) (sym r) ∙ w

flip : (b : Bool) → (if b then false else true) ≡ not b
flip true = refl
flip false = refl

pub comment_passed : (c at : ℕ) (rest cs : List ℕ) (whole : Result (List Token) ℕ) → cut_from true 0 at rest ≡ whole → rest ≡ c ∷ cs → cut_from (not (ends_line c)) 0 (at + len_utf8 c) cs ≡ whole
comment_passed c at rest cs whole w r = ap (λ b. cut_from b 0 (at + len_utf8 c) cs) (sym (flip (ends_line c))) ∙ ap (cut_from true 0 at) (sym r) ∙ w

pub ended : (b : Bool) (at : ℕ) (rest : List ℕ) (whole : Result (List Token) ℕ) → cut_from b 0 at rest ≡ whole → rest ≡ [] → cut_from false 0 at rest ≡ whole
ended b at rest whole w r = ap (cut_from false 0 at) r ∙ ap (cut_from b 0 at) (sym r) ∙ w

pub ruleset blank_paths = (size_step, blank_passed, comment_begun, comment_passed, ended)

inside : (n at : ℕ) (cs : List ℕ) → cut_from false n at cs ≡ cut_from false 0 (at + size (take n cs)) (drop n cs)
inside zero at cs = ap (λ k. cut_from false 0 k cs) (omega arith)
inside (suc n) at [] = refl
inside (suc n) at (c ∷ cs) =
    let e : at + len_utf8 c + size (take n cs) ≡ at + size (c ∷ take n cs) = let s = size_cons c (take n cs) in omega arith in
    inside n (at + len_utf8 c) cs ∙ ap (λ k. cut_from false 0 k (drop n cs)) e

token_opened : (c at : ℕ) (cs : List ℕ) → is_blank c ≡ false → (c == 35) ≡ false → cut_from false 0 at (c ∷ cs) ≡ cut_token at (token_at (c ∷ cs)) (c ∷ cs) (cut_from false (chars_left (token_at (c ∷ cs))) (at + len_utf8 c) cs)
token_opened c at cs h i = rw (h, i) refl

pub token_found : (c n at : ℕ) (cs : List ℕ) (f : Found) → is_blank c ≡ false → (c == 35) ≡ false → Some f ≡ token_at (c ∷ cs) → f.chars ≡ suc n
    → cut_from false 0 at (c ∷ cs) ≡ first_then (token_from at f (c ∷ cs)) (cut_from false 0 (at + size (take (suc n) (c ∷ cs))) (drop n cs))
token_found c n at cs f h i t e =
    let l : f.chars - 1 ≡ n = omega arith in
    let m : at + len_utf8 c + size (take n cs) ≡ at + size (c ∷ take n cs) = let s = size_cons c (take n cs) in omega arith in
    token_opened c at cs h i
    ∙ ap (λ x. cut_token at x (c ∷ cs) (cut_from false (chars_left x) (at + len_utf8 c) cs)) (sym t)
    ∙ ap (λ k. first_then (token_from at f (c ∷ cs)) (cut_from false k (at + len_utf8 c) cs)) l
    ∙ ap (λ k. first_then (token_from at f (c ∷ cs)) k) (inside n (at + len_utf8 c) cs)
    ∙ ap (λ k. first_then (token_from at f (c ∷ cs)) (cut_from false 0 k (drop n cs))) m

push_before : (ts : List Token) (t : Token) (x : Result (List Token) ℕ) → before (ts ++ t ∷ []) x ≡ before ts (first_then t x)
push_before ts t (Ok us) = ap (λ k. Ok k) (append_assoc ts (t ∷ []) us)
push_before ts t (Err bad) = refl

step_there : (n at : ℕ) (ts : List Token) (rest : List ℕ) (f : Found) → StartsToken rest → Some f ≡ token_at rest → f.chars ≡ suc n → f.chars ≤ length rest
    → before (ts ++ token_from at f rest ∷ []) (cut_from false 0 (at + size (take f.chars rest)) (drop f.chars rest)) ≡ before ts (cut_from false 0 at rest)
step_there n at ts [] f h t e w = absurd (omega arith)
step_there n at ts (c ∷ cs) f h t e w =
    let i : (c == 35) ≡ false = let k = h.1 in grind (arith, nat_tests) in
    push_before ts (token_from at f (c ∷ cs)) (cut_from false 0 (at + size (take f.chars (c ∷ cs))) (drop f.chars (c ∷ cs)))
    ∙ ap (λ k. before ts (first_then (token_from at f (c ∷ cs)) (cut_from false 0 (at + size (take k (c ∷ cs))) (drop k (c ∷ cs))))) e
    ∙ ap (before ts) (sym (token_found c n at cs f h.0 i t e))

pub token_step : (at to : ℕ) (ts : List Token) (rest : List ℕ) (f : Found) (whole : Result (List Token) ℕ) → before ts (cut_from false 0 at rest) ≡ whole → StartsToken rest → Some f ≡ token_at rest → IsWithin (length rest) (Some f)
    → to ≡ at + size (take f.chars rest) → before (ts ++ (record { kind = f.kind; from = at; to = to }) ∷ []) (cut_from false 0 to (drop f.chars rest)) ≡ whole
token_step at to ts rest f whole w h t b e =
    let l : f.chars ≡ suc (f.chars - 1) = let k = b.0 in omega arith in
    ap (λ (k : ℕ). before (ts ++ (record { kind = f.kind; from = at; to = k }) ∷ []) (cut_from false 0 k (drop f.chars rest))) e
    ∙ step_there (f.chars - 1) at ts rest f h t l b.1 ∙ w

bad_there : (at : ℕ) (ts : List Token) (rest : List ℕ) → StartsToken rest → 0 < length rest → None ≡ token_at rest → before ts (cut_from false 0 at rest) ≡ Err at
bad_there at ts [] h l t = absurd (omega arith)
bad_there at ts (c ∷ cs) h l t =
    let i : (c == 35) ≡ false = let k = h.1 in grind (arith, nat_tests) in
    ap (before ts) (token_opened c at cs h.0 i ∙ ap (λ x. cut_token at x (c ∷ cs) (cut_from false (chars_left x) (at + len_utf8 c) cs)) (sym t))

pub bad_step : (at : ℕ) (ts : List Token) (rest : List ℕ) (whole : Result (List Token) ℕ) → before ts (cut_from false 0 at rest) ≡ whole → StartsToken rest → 0 < length rest → None ≡ token_at rest → whole ≡ Err at
bad_step at ts rest whole w h l t = sym w ∙ bad_there at ts rest h l t

pub cut_end : (at : ℕ) (ts : List Token) (rest : List ℕ) (whole : Result (List Token) ℕ) → before ts (cut_from false 0 at rest) ≡ whole → rest ≡ [] → whole ≡ Ok ts
cut_end at ts rest whole w r = sym w ∙ ap (λ k. before ts (cut_from false 0 at k)) r ∙ ap (λ k. Ok k) (append-nil ts)

pub cut_begins : (x : Result (List Token) ℕ) → before [] x ≡ x
cut_begins (Ok us) = refl
cut_begins (Err bad) = refl

pub size_split : (n : ℕ) (cs : List ℕ) → size (take n cs) + size (drop n cs) ≡ size cs
size_split zero cs = zero-add (size cs)
size_split (suc n) [] = refl
size_split (suc n) (c ∷ cs) = let i = size_split n cs in let a = size_cons c cs in let b = size_cons c (take n cs) in omega arith

pub ruleset cut_paths = (size_split, token_step, bad_step, cut_end, cut_begins)

pub sound_whole : (bytes : List ℕ) → IsUtf8 bytes → bytes ≡ sound_front bytes
sound_whole bytes u = sym (ap (λ n. take n bytes) (utf8_valid_len-IsUtf8 bytes u) ∙ take_all (length bytes) bytes (omega arith))

pub size_chars : (xs front : List ℕ) → IsUtf8 front → xs ≡ chars front → size xs ≡ length front
size_chars xs front u e = ap size e ∙ ap length (encodes-chars front u)

if_true : (b : Bool) (x y : Result (List Token) ℕ) → b ≡ true → (if b then x else y) ≡ x
if_true true x y h = refl
if_true false x y h = cc

pub cut_whole : (bytes front xs : List ℕ) (ts : List Token) → front ≡ sound_front bytes → xs ≡ chars front → cut_from false 0 0 xs ≡ Ok ts → length bytes ≤ length front → cut bytes ≡ Ok ts
unfolding cut
cut_whole bytes front xs ts f x h l =
    let n : utf8_valid_len bytes ≤ length bytes = utf8_valid_len_le bytes in
    let m : length front ≡ utf8_valid_len bytes = ap length f ∙ length-take-le (utf8_valid_len bytes) bytes n in
    let e : (utf8_valid_len bytes == length bytes) ≡ true = let k : utf8_valid_len bytes ≡ length bytes = omega arith in grind (arith, nat_tests) in
    ap (λ k. cut_sound bytes (utf8_valid_len bytes) (cut_from false 0 0 (chars k))) (sym f)
    ∙ ap (λ k. cut_sound bytes (utf8_valid_len bytes) (cut_from false 0 0 k)) (sym x)
    ∙ ap (cut_sound bytes (utf8_valid_len bytes)) h
    ∙ if_true (utf8_valid_len bytes == length bytes) (Ok ts) (Err (utf8_valid_len bytes)) e
