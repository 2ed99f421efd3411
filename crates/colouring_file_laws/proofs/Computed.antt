-- What the grammar says of lines is computed of them.
use Rattle.std.proofs.Common.{◌≡◌, ◌<◌, ◌≤◌, ℕ, inl, inr, Bool, true, false, cond, nat_lt, List, [], ◌∷◌, ◌++◌, length, refl, sym, ap, ◌∙◌, arith, Some, None, Option, append_assoc, append-nil}
use Rattle.std.specs.Prelude.{Result, Ok, Err}
use Rattle.std.proofs.lemmas.Bool.Decides.{nat_tests}
use Rattle.line_meaning.specs.Lines.{Line, lines_of}
use Rattle.line_meaning.specs.Changes.{Refused, TooLong, Bad}
use Rattle.line_meaning.specs.Changes as refused
use Rattle.nt_lines.specs.declared.refusal.LineRefusal.TheVariants as of
use Rattle.colouring_file_meaning.specs.ColourLines.{ColourOf, given_by, Fits, ColourReadsAs, ColourLinesRead, IsColourRefusedFor, FirstColourRefused}
use Rattle.colouring_file_meaning.specs.ColourReader.{colour_reading_of, is_repeated, with_reading, with_line, with_lines}
use Rattle.colouring_file_meaning.proofs.Readings.{IsBelow, reading_front, reading_back}
use Rattle.colouring_file_laws.specs.ReadingLaws.{ReadingsAreComputed, RefusalsAreComputed, OneReading, OneRefusal, NeverBoth, OneAnswer}

short : (n : ℕ) → n ≤ 65536 → nat_lt 65536 n ≡ false
short n l = grind (arith, nat_tests)

long : (n : ℕ) → 65536 < n → nat_lt 65536 n ≡ true
long n l = grind (arith, nat_tests)

below : (direct reverse : ℕ) (seen : List ColourOf) (o : Option ColourOf) → Fits direct reverse seen o → IsBelow direct reverse o
below direct reverse seen None f = tt
below direct reverse seen (Some c) f = f.0

new : (direct reverse : ℕ) (seen : List ColourOf) (o : Option ColourOf) → Fits direct reverse seen o → is_repeated seen o ≡ false
new direct reverse seen None f = refl
new direct reverse seen (Some c) f = f.1

fits : (direct reverse : ℕ) (seen : List ColourOf) (o : Option ColourOf) → IsBelow direct reverse o → is_repeated seen o ≡ false → Fits direct reverse seen o
fits direct reverse seen None l r = tt
fits direct reverse seen (Some c) l r = (l, r)

-- a line that reads as something that fits
by_tests : (line : Line) (seen : List ColourOf) (o : Option ColourOf) (a : Bool) (r : Option (Option ColourOf)) → a ≡ false → r ≡ Some o → is_repeated seen o ≡ false
    → cond a (Err (TooLong line.number)) (with_reading line.number seen r) ≡ Ok (seen ++ given_by o)
by_tests line seen o a r e f g = rw (e, f, g) refl

line_read : (direct reverse : ℕ) (seen : List ColourOf) (line : Line) (o : Option ColourOf) → ColourReadsAs direct reverse seen line o → with_line direct reverse seen line ≡ Ok (seen ++ given_by o)
line_read direct reverse seen line o h =
    by_tests line seen o (nat_lt 65536 (length line.text)) (colour_reading_of direct reverse line.text) (short (length line.text) h.within)
    (reading_back direct reverse line.text o h.reads (below direct reverse seen o h.fits)) (new direct reverse seen o h.fits)

-- a line that reads as nothing that fits
none_fits : (direct reverse : ℕ) (seen : List ColourOf) (line : Line) (r : Option (Option ColourOf)) → colour_reading_of direct reverse line.text ≡ r
    → IsColourRefusedFor direct reverse seen line (Bad line.number) → with_reading line.number seen r ≡ Err (Bad line.number)
none_fits direct reverse seen line None e h = refl
none_fits direct reverse seen line (Some o) e h = by (is_repeated seen o) refl
  where
    by : (b : Bool) → is_repeated seen o ≡ b → cond b (Err (Bad line.number)) (Ok (seen ++ given_by o)) ≡ Err (Bad line.number)
    by true r = refl
    by false r = let k = reading_front direct reverse line.text o e in absurd (h.2 o k.0 (fits direct reverse seen o k.1 r))

is_long : (line : Line) (seen : List ColourOf) (a : Bool) (r : Option (Option ColourOf)) → a ≡ true → cond a (Err (TooLong line.number)) (with_reading line.number seen r) ≡ Err (TooLong line.number)
is_long line seen a r e = rw e refl

is_bad : (line : Line) (seen : List ColourOf) (a : Bool) (r : Option (Option ColourOf)) → a ≡ false → with_reading line.number seen r ≡ Err (Bad line.number)
    → cond a (Err (TooLong line.number)) (with_reading line.number seen r) ≡ Err (Bad line.number)
is_bad line seen a r e f = rw e f

line_refused : (direct reverse : ℕ) (seen : List ColourOf) (line : Line) (why : Refused) → IsColourRefusedFor direct reverse seen line why → with_line direct reverse seen line ≡ Err why
line_refused direct reverse seen line (TooLong n) h =
    is_long line seen (nat_lt 65536 (length line.text)) (colour_reading_of direct reverse line.text) (long (length line.text) h.1) ∙ ap (λ (m : ℕ). Err (TooLong m)) (sym h.0)
line_refused direct reverse seen line (Bad n) h =
    is_bad line seen (nat_lt 65536 (length line.text)) (colour_reading_of direct reverse line.text) (short (length line.text) h.1)
    (none_fits direct reverse seen line (colour_reading_of direct reverse line.text) refl (refl, h.1, h.2))
    ∙ ap (λ (m : ℕ). Err (Bad m)) (sym h.0)

go_on : (direct reverse : ℕ) (lines : List Line) (a b : Result (List ColourOf) Refused) → a ≡ b → with_lines direct reverse a lines ≡ with_lines direct reverse b lines
go_on direct reverse lines a b e = ap (λ (r : Result (List ColourOf) Refused). with_lines direct reverse r lines) e

lines_read : (direct reverse : ℕ) (seen : List ColourOf) (lines : List Line) (colours : List ColourOf) → ColourLinesRead direct reverse seen lines colours → with_lines direct reverse (Ok seen) lines ≡ Ok (seen ++ colours)
lines_read direct reverse seen [] colours h = rw h (ap (λ (l : List ColourOf). Ok l) (sym (append-nil seen)))
lines_read direct reverse seen (line ∷ lines) colours h =
    let o = h.0 in
    let others = h.1 in
    go_on direct reverse lines (with_line direct reverse seen line) (Ok (seen ++ given_by o)) (line_read direct reverse seen line o h.2)
    ∙ lines_read direct reverse (seen ++ given_by o) lines others h.3
    ∙ ap (λ (l : List ColourOf). Ok l) (append_assoc seen (given_by o) others ∙ ap (λ (l : List ColourOf). seen ++ l) (sym h.4))

lines_refused : (direct reverse : ℕ) (seen : List ColourOf) (lines : List Line) (why : Refused) → FirstColourRefused direct reverse seen lines why → with_lines direct reverse (Ok seen) lines ≡ Err why
lines_refused direct reverse seen [] why h = absurd h
lines_refused direct reverse seen (line ∷ lines) why (inl h) =
    go_on direct reverse lines (with_line direct reverse seen line) (Err why) (line_refused direct reverse seen line why h)
lines_refused direct reverse seen (line ∷ lines) why (inr h) =
    go_on direct reverse lines (with_line direct reverse seen line) (Ok (seen ++ given_by h.0)) (line_read direct reverse seen line h.0 h.1)
    ∙ lines_refused direct reverse (seen ++ given_by h.0) lines why h.2

-- ---- the laws

ok_same : (r : Result (List ColourOf) Refused) (xs ys : List ColourOf) → r ≡ Ok xs → r ≡ Ok ys → xs ≡ ys
ok_same r xs ys e f = cc

err_same : (r : Result (List ColourOf) Refused) (a b : Refused) → r ≡ Err a → r ≡ Err b → a ≡ b
err_same r a b e f = cc

ok_apart : (r : Result (List ColourOf) Refused) (xs : List ColourOf) (a : Refused) → r ≡ Ok xs → r ≡ Err a → ⊥
ok_apart r xs a e f = cc

pub readings_computed : ReadingsAreComputed
readings_computed direct reverse bytes colours h = lines_read direct reverse [] (lines_of bytes) colours h

pub refusals_computed : RefusalsAreComputed
refusals_computed direct reverse bytes why h = lines_refused direct reverse [] (lines_of bytes) why h

pub one_reading : OneReading
one_reading direct reverse lines xs ys h k = ok_same (with_lines direct reverse (Ok []) lines) xs ys (lines_read direct reverse [] lines xs h) (lines_read direct reverse [] lines ys k)

pub one_refusal : OneRefusal
one_refusal direct reverse lines a b h k = err_same (with_lines direct reverse (Ok []) lines) a b (lines_refused direct reverse [] lines a h) (lines_refused direct reverse [] lines b k)

pub never_both : NeverBoth
never_both direct reverse lines colours why h k = ok_apart (with_lines direct reverse (Ok []) lines) colours why (lines_read direct reverse [] lines colours h) (lines_refused direct reverse [] lines why k)

pub one_answer : OneAnswer
one_answer direct reverse lines colours (Ok given) h a = (one_reading direct reverse lines given colours a h, tt)
one_answer direct reverse lines colours (Err of.NoMemory) h a = (tt, refl)
one_answer direct reverse lines colours (Err (of.Bad n)) h a = absurd (never_both direct reverse lines colours (refused.Bad n) h a)
one_answer direct reverse lines colours (Err (of.TooLong n)) h a = absurd (never_both direct reverse lines colours (refused.TooLong n) h a)
