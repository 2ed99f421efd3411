-- How many changes a data file has.
use Rattle.std.proofs.Common.{◌≡◌, ℕ, suc, ◌+◌, ◌≤◌, ◌==◌, Bool, true, false, if◌then◌else◌, List, [], ◌∷◌, length, length-append, Option, Some, None, Result, Ok, Err, arith, subst, nat_lt}
use Rattle.std.specs.Prelude.{IfOk}
use Rattle.line_change_meaning.specs.declared.change.Change.{Change}
use Rattle.line_meaning.specs.Lines.{Line, onto_first, lines_from, lines_of, Reading, Nothing, Adds, Deletes}
use Rattle.line_meaning.specs.Reader.{reading_of}
use Rattle.line_meaning.specs.Changes.{Refused, TooLong, says, line_changes, then_changes, changes_in, changes_of}

first_longer : (n b : ℕ) (lines : List Line) → length (onto_first n b lines) ≤ length lines + 1
first_longer n b [] = omega arith
first_longer n b (first ∷ others) = omega arith

few_lines : (n : ℕ) (bytes : List ℕ) → length (lines_from n bytes) ≤ length bytes + 1
few_lines n [] = omega arith
few_lines n (b ∷ bs) = by (b == 10) (b == 13) (few_lines (n + 1) bs) (few_lines n bs)
  where
    by : (feed carriage : Bool) → length (lines_from (n + 1) bs) ≤ length bs + 1 → length (lines_from n bs) ≤ length bs + 1
        → length (if feed then record { number = n; text = [] } ∷ lines_from (n + 1) bs else (if carriage then record { number = n; text = [] } ∷ lines_from n bs else onto_first n b (lines_from n bs))) ≤ length (b ∷ bs) + 1
    by true carriage h k = omega (arith, h)
    by false true h k = omega (arith, k)
    by false false h k = let l = first_longer n b (lines_from n bs) in omega (arith, k, l)

one_said : (n : ℕ) (o : Option Reading) → IfOk (says n o) (λ (changes : List Change). length changes ≤ 1)
one_said n None = tt
one_said n (Some Nothing) = omega arith
one_said n (Some (Adds t)) = omega arith
one_said n (Some (Deletes t)) = omega arith

one_change : (n : ℕ) (line : Line) → IfOk (line_changes n line) (λ (changes : List Change). length changes ≤ 1)
one_change n line = by (nat_lt 65536 (length line.text))
  where
    by : (long : Bool) → IfOk (if long then Err (TooLong line.number) else says line.number (reading_of n line.text)) (λ (changes : List Change). length changes ≤ 1)
    by true = tt
    by false = one_said line.number (reading_of n line.text)

joined : (front others : Result (List Change) Refused) (n : ℕ) → IfOk front (λ (changes : List Change). length changes ≤ 1) → IfOk others (λ (changes : List Change). length changes ≤ n)
    → IfOk (then_changes front others) (λ (changes : List Change). length changes ≤ suc n)
joined (Err refused) others n h k = tt
joined (Ok front) (Err refused) n h k = tt
joined (Ok front) (Ok others) n h k = let l = length-append front others in omega (arith, h, k, l)

few_in : (n : ℕ) (lines : List Line) → IfOk (changes_in n lines) (λ (changes : List Change). length changes ≤ length lines)
few_in n [] = omega arith
few_in n (line ∷ lines) = joined (line_changes n line) (changes_in n lines) (length lines) (one_change n line) (few_in n lines)

pub few : (n : ℕ) (bytes : List ℕ) (changes : List Change) → changes_of n bytes ≡ Ok changes → length changes ≤ length bytes + 1
few n bytes changes e =
    let k : length changes ≤ length (lines_of bytes) = subst (λ (r : Result (List Change) Refused). IfOk r (λ (cs : List Change). length cs ≤ length (lines_of bytes))) e (few_in n (lines_of bytes)) in
    let l = few_lines 1 bytes in
    omega (arith, k, l)
