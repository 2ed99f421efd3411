-- The changes of a text, and its first line that is refused.
use Rattle.std.proofs.Common.{◌≡◌, ◌<◌, ◌≤◌, ℕ, inl, inr, Bool, true, false, cond, List, [], ◌∷◌, ◌++◌, length, refl, subst, arith, Some, None, Option}
use Rattle.std.specs.Prelude.{Result, Ok, Err, nat_lt}
use Rattle.std.proofs.lemmas.Bool.Decides.{nat_tests}
use Rattle.line_change_meaning.specs.declared.change.Change.{Change}
use Rattle.line_meaning.specs.Lines.{Line, lines_of, Reading}
use Rattle.line_meaning.specs.Reader.{reading_of}
use Rattle.line_meaning.specs.Changes.{Refused, TooLong, Bad, changes_by, says, line_changes, then_changes, changes_in}
use Rattle.line_laws.specs.LineLaws.{ReadsAs, LinesRead, IsRefusedFor, FirstRefused, ChangesAreRead, RefusalsAreFirst}
use Rattle.line_laws.proofs.LinesRead.{sound}
use Rattle.line_laws.proofs.LinesBack.{complete}

-- what one line gives, by its length and its reading
data LineGives (n : ℕ) (line : Line) (given : Result (List Change) Refused) : Type 0 where
  reads : (r : Reading) → ReadsAs n line r → given ≡ Ok (changes_by r) → LineGives n line given
  refused : (why : Refused) → IsRefusedFor n line why → given ≡ Err why → LineGives n line given

not_long : (n : ℕ) → nat_lt 65536 n ≡ false → n ≤ 65536
not_long n e = grind (arith, nat_tests)

long : (n : ℕ) → nat_lt 65536 n ≡ true → 65536 < n
long n e = grind (arith, nat_tests)

line_cases : (n : ℕ) (b : Bool) (o : Option Reading) (line : Line) → nat_lt 65536 (length line.text) ≡ b → reading_of n line.text ≡ o
    → LineGives n line (cond b (Err (TooLong line.number)) (says line.number o))
line_cases n true o line t e = refused (TooLong line.number) (refl, long (length line.text) t) refl
line_cases n false None line t e =
    refused (Bad line.number) (refl, not_long (length line.text) t, λ r h. let k : reading_of n line.text ≡ Some r = complete n line.text r h in cc) refl
line_cases n false (Some r) line t e = reads r (record { within = not_long (length line.text) t; reads = sound n line.text r e }) refl

line_gives : (n : ℕ) (line : Line) → LineGives n line (line_changes n line)
line_gives n line = line_cases n (nat_lt 65536 (length line.text)) (reading_of n line.text) line refl refl

-- what the lines give
pub data LinesGive (n : ℕ) (lines : List Line) (given : Result (List Change) Refused) : Type 0 where
  all_read : (changes : List Change) → LinesRead n lines changes → given ≡ Ok changes → LinesGive n lines given
  first_refused : (why : Refused) → FirstRefused n lines why → given ≡ Err why → LinesGive n lines given

then_gives : (n : ℕ) (line : Line) (lines : List Line) (here others : Result (List Change) Refused) → LineGives n line here → LinesGive n lines others → LinesGive n (line ∷ lines) (then_changes here others)
then_gives n line lines here others (refused why h e) more = first_refused why (inl h) (rw e refl)
then_gives n line lines here others (reads r h e) (all_read changes a f) = all_read (changes_by r ++ changes) (r, changes, h, a, refl) (rw (e, f) refl)
then_gives n line lines here others (reads r h e) (first_refused why a f) = first_refused why (inr ((r, h), a)) (rw (e, f) refl)

pub lines_give : (n : ℕ) (lines : List Line) → LinesGive n lines (changes_in n lines)
lines_give n [] = all_read [] refl refl
lines_give n (line ∷ lines) = then_gives n line lines (line_changes n line) (changes_in n lines) (line_gives n line) (lines_give n lines)

pub changes_read : ChangesAreRead
changes_read n bytes changes e = by_gives (lines_give n (lines_of bytes))
  where
    by_gives : LinesGive n (lines_of bytes) (changes_in n (lines_of bytes)) → LinesRead n (lines_of bytes) changes
    by_gives (all_read others a f) = let same : others ≡ changes = cc in subst (λ (x : List Change). LinesRead n (lines_of bytes) x) same a
    by_gives (first_refused why a f) = cc

pub refusals_first : RefusalsAreFirst
refusals_first n bytes why e = by_gives (lines_give n (lines_of bytes))
  where
    by_gives : LinesGive n (lines_of bytes) (changes_in n (lines_of bytes)) → FirstRefused n (lines_of bytes) why
    by_gives (all_read others a f) = cc
    by_gives (first_refused other a f) = let same : other ≡ why = cc in subst (λ (x : Refused). FirstRefused n (lines_of bytes) x) same a
