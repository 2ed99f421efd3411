-- What a row of the table of words says; the middle of a name.
use Rattle.std.specs.Prelude.{ℕ, ◌+◌, Bool, not, ◌&&◌, ◌||◌, ◌==◌, if◌then◌else◌, List, Option, Some, None}
use Rattle.sparql_meaning.specs.Classes.{is_part}
use Rattle.sparql_meaning.specs.Tokens.{head}
use Rattle.sparql_tokens.specs.declared.words.Row.{Row}
use Rattle.sparql_meaning.specs.Words.{SpelledWord, spelled}

abbrev pub view : Row → SpelledWord
view row = spelled row.capitals.now row.word

abbrev pub more : ℕ → Option ℕ → Option ℕ
more n None = None
more n (Some m) = Some (n + m)

-- a name that is kept up to `end`, behind which full stops stand up to `at` and then so much of the name
abbrev pub kept : ℕ → ℕ → ℕ → ℕ
kept end at n = if n == 0 then end else at + n

-- what a prefix goes on with
abbrev pub goes_on : ℕ → List ℕ → Bool
goes_on c rest = is_part c || (c == 46 && not (head rest == 58))
