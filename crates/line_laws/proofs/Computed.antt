-- What the grammar says of the lines of a file is computed of them.
use Rattle.std.proofs.Common.{◌≡◌, ◌<◌, ◌≤◌, ℕ, ◌⊎◌, inl, inr, Bool, true, false, cond, List, [], ◌∷◌, length, refl, sym, ap, ◌∙◌, arith, Some, None, Option}
use Rattle.std.specs.Prelude.{Result, Ok, Err, nat_lt}
use Rattle.std.proofs.lemmas.Bool.Decides.{nat_tests}
use Rattle.line_change_meaning.specs.declared.change.Change.{Change}
use Rattle.line_meaning.specs.Lines.{Line, lines_of, Reading}
use Rattle.line_meaning.specs.Grammar.{LineReads}
use Rattle.line_meaning.specs.Reader.{reading_of}
use Rattle.line_meaning.specs.Changes.{Refused, TooLong, Bad, changes_by, says, line_changes, changes_in}
use Rattle.line_laws.specs.LineLaws.{ReadsAs, LinesRead, IsRefusedFor, FirstRefused, ReadingsAreComputed, RefusalsAreComputed, OneReading, OneRefusal, NeverBoth, NeverNeither}
use Rattle.line_laws.proofs.LinesRead.{sound}
use Rattle.line_laws.proofs.LinesBack.{complete}
use Rattle.line_laws.proofs.ChangesRead.{LinesGive, all_read, first_refused, lines_give}

short : (m : ℕ) → m ≤ 65536 → nat_lt 65536 m ≡ false
short m l = grind (arith, nat_tests)

long : (m : ℕ) → 65536 < m → nat_lt 65536 m ≡ true
long m l = grind (arith, nat_tests)

-- a line that reads
by_tests : (a : Bool) (o : Option Reading) (line : Line) (r : Reading) → a ≡ false → o ≡ Some r → cond a (Err (TooLong line.number)) (says line.number o) ≡ Ok (changes_by r)
by_tests a o line r e f = rw (e, f) refl

line_read : (n : ℕ) (line : Line) (r : Reading) → ReadsAs n line r → line_changes n line ≡ Ok (changes_by r)
line_read n line r h = by_tests (nat_lt 65536 (length line.text)) (reading_of n line.text) line r (short (length line.text) h.within) (complete n line.text r h.reads)

-- a line that is refused
is_long : (a : Bool) (o : Option Reading) (line : Line) → a ≡ true → cond a (Err (TooLong line.number)) (says line.number o) ≡ Err (TooLong line.number)
is_long a o line e = rw e refl

is_bad : (a : Bool) (o : Option Reading) (line : Line) → a ≡ false → o ≡ None → cond a (Err (TooLong line.number)) (says line.number o) ≡ Err (Bad line.number)
is_bad a o line e f = rw (e, f) refl

unread : (n : ℕ) (text : List ℕ) → ((r : Reading) → LineReads n text r → ⊥) → reading_of n text ≡ None
unread n text never = by (reading_of n text) refl
  where
    by : (o : Option Reading) → reading_of n text ≡ o → reading_of n text ≡ None
    by None e = e
    by (Some r) e = absurd (never r (sound n text r e))

line_refused : (n : ℕ) (line : Line) (why : Refused) → IsRefusedFor n line why → line_changes n line ≡ Err why
line_refused n line (TooLong number) h =
    is_long (nat_lt 65536 (length line.text)) (reading_of n line.text) line (long (length line.text) h.1) ∙ ap (λ (m : ℕ). Err (TooLong m)) (sym h.0)
line_refused n line (Bad number) h =
    is_bad (nat_lt 65536 (length line.text)) (reading_of n line.text) line (short (length line.text) h.1) (unread n line.text h.2) ∙ ap (λ (m : ℕ). Err (Bad m)) (sym h.0)

lines_read : (n : ℕ) (lines : List Line) (changes : List Change) → LinesRead n lines changes → changes_in n lines ≡ Ok changes
lines_read n [] changes h = ap (λ (l : List Change). Ok l) (sym h)
lines_read n (line ∷ lines) changes h = rw (line_read n line h.0 h.2, lines_read n lines h.1 h.3) (ap (λ (l : List Change). Ok l) (sym h.4))

lines_refused : (n : ℕ) (lines : List Line) (why : Refused) → FirstRefused n lines why → changes_in n lines ≡ Err why
lines_refused n [] why h = absurd h
lines_refused n (line ∷ lines) why (inl h) = rw (line_refused n line why h) refl
lines_refused n (line ∷ lines) why (inr h) = rw (line_read n line h.0.0 h.0.1, lines_refused n lines why h.1) refl

-- ---- the laws

ok_same : (r : Result (List Change) Refused) (xs ys : List Change) → r ≡ Ok xs → r ≡ Ok ys → xs ≡ ys
ok_same r xs ys e f = cc

err_same : (r : Result (List Change) Refused) (a b : Refused) → r ≡ Err a → r ≡ Err b → a ≡ b
err_same r a b e f = cc

ok_apart : (r : Result (List Change) Refused) (xs : List Change) (a : Refused) → r ≡ Ok xs → r ≡ Err a → ⊥
ok_apart r xs a e f = cc

pub readings_computed : ReadingsAreComputed
readings_computed n bytes changes h = lines_read n (lines_of bytes) changes h

pub refusals_computed : RefusalsAreComputed
refusals_computed n bytes why h = lines_refused n (lines_of bytes) why h

pub one_reading : OneReading
one_reading n lines xs ys h k = ok_same (changes_in n lines) xs ys (lines_read n lines xs h) (lines_read n lines ys k)

pub one_refusal : OneRefusal
one_refusal n lines a b h k = err_same (changes_in n lines) a b (lines_refused n lines a h) (lines_refused n lines b k)

pub never_both : NeverBoth
never_both n lines changes why h k = ok_apart (changes_in n lines) changes why (lines_read n lines changes h) (lines_refused n lines why k)

pub never_neither : NeverNeither
never_neither n lines = by (lines_give n lines)
  where
    by : LinesGive n lines (changes_in n lines) → ((changes : List Change) × LinesRead n lines changes) ⊎ ((why : Refused) × FirstRefused n lines why)
    by (all_read changes a e) = inl (changes, a)
    by (first_refused why a e) = inr (why, a)
