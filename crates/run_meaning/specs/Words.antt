-- The words of the command line, behind the program's name.
use Rattle.std.specs.Prelude.{ℕ, Bool, false, List, [], ◌∷◌, length, take, Option, Some, None, is_none, unwrap_or, ◌&&◌, ◌==◌, nat_le, if◌then◌else◌, codes}
use Rattle.std.specs.List.{list_all, list_any}
use Rattle.std.specs.Str.{bytes_eq}
use Rattle.rdf_meaning.specs.Characters.{is_digit, is_between}
use Rattle.rdf_meaning.specs.Terms.{is_empty}
use Rattle.rdf_meaning.specs.Digits.{number_of_digits}
use Rattle.run_meaning.specs.Limits.{most_columns, most_hashes, most_pieces, most_drill, are_data_names}
use Rattle.run_meaning.specs.declared.command.Layout.{Layout}
use Rattle.run_meaning.specs.declared.command.Layout.TheVariants.{Colour, Hash, File}
use Rattle.run_meaning.specs.declared.command.Options.{Options}
use Rattle.run_meaning.specs.declared.command.Command.{Command}
use Rattle.run_meaning.specs.declared.command.Command.TheVariants.{Query, Show, Plan, Stats, Exec, Drill}

abbrev pub Word : Type 0
Word = List ℕ

infixl 10 ◌>>=◌
abbrev pub ◌>>=◌ : {A B : Type 0} → Option A → (A → Option B) → Option B
None >>= f = None
(Some x) >>= f = f x

-- a word that begins with two dashes
abbrev pub is_option : Word → Bool
is_option word = bytes_eq (codes "--") (take 2 word)

-- decimal digits, at most ten, without a leading zero but for 0 itself
abbrev pub is_plain_number : Word → Bool
is_plain_number [] = false
is_plain_number (b ∷ bs) = if b == 48 then is_empty bs else (list_all is_digit (b ∷ bs) && nat_le (length bs) 9)

abbrev pub in_range : ℕ → ℕ → ℕ → Option ℕ
in_range low high n = if is_between low high n then Some n else None

-- the number that a word writes, where it is one from low to high
abbrev pub number_in : ℕ → ℕ → Word → Option ℕ
number_in low high word = if is_plain_number word then in_range low high (number_of_digits word) else None

-- the options that stand on the command line; --layout and --colouring give the same thing
pub record Given : Type 0 where
  pub columns : Option ℕ
  pub reverse : Option ℕ
  pub hashes : Option ℕ
  pub layout : Option Layout
  pub pieces : Option ℕ

abbrev pub none_given : Given
none_given = record { columns = None; reverse = None; hashes = None; layout = None; pieces = None }

-- the new value, where there is one and there was none before
abbrev pub once : {X : Type 0} → Option X → Option X → Option X
once (Some old) new = None
once None new = new

abbrev pub layout_word : Word → Option Layout
layout_word word = if bytes_eq word (codes "colour") then Some Colour else (if bytes_eq word (codes "hash") then Some Hash else None)

-- a file's name doesn't begin with two dashes
abbrev pub file_word : Word → Option Layout
file_word word = if is_option word then None else Some (File word)

abbrev pub with_layout : Given → Option Layout → Option Given
with_layout given layout = once given.layout layout >>= λ l. Some (record given { layout = Some l })

-- an option whose value is a number
abbrev pub with_number : Given → Word → Word → Option Given
with_number given name value =
    if bytes_eq name (codes "--columns") then (once given.columns (number_in 1 most_columns value) >>= λ n. Some (record given { columns = Some n }))
    else (if bytes_eq name (codes "--reverse") then (once given.reverse (number_in 1 most_columns value) >>= λ n. Some (record given { reverse = Some n }))
    else (if bytes_eq name (codes "--hashes") then (once given.hashes (number_in 1 most_hashes value) >>= λ n. Some (record given { hashes = Some n }))
    else (if bytes_eq name (codes "--pieces") then (once given.pieces (number_in 1 most_pieces value) >>= λ n. Some (record given { pieces = Some n }))
    else None)))

-- one option with its value
abbrev pub with_option : Given → Word → Word → Option Given
with_option given name value =
    if bytes_eq name (codes "--layout") then with_layout given (layout_word value)
    else (if bytes_eq name (codes "--colouring") then with_layout given (file_word value) else with_number given name value)

-- options in front, each with the next word as its value, and the words that follow them
abbrev pub split_options : Given → List Word → Option (Given × List Word)
split_options given [] = Some (given, [])
split_options given (word ∷ []) = if is_option word then None else Some (given, word ∷ [])
split_options given (word ∷ value ∷ rest) =
    if is_option word then (with_option given word value >>= λ more. split_options more rest) else Some (given, word ∷ value ∷ rest)

-- what isn't given has its default
abbrev pub options_of : Given → Options
options_of given = record {
  columns = unwrap_or given.columns 8;
  reverse = unwrap_or given.reverse 8;
  hashes = unwrap_or given.hashes 2;
  layout = unwrap_or given.layout Colour;
  pieces = unwrap_or given.pieces 1;
}

abbrev pub only_pieces : Given → Bool
only_pieces given = is_none given.columns && (is_none given.reverse && (is_none given.hashes && is_none given.layout))

-- DATA..: 1 to 16 files
abbrev pub data_names : List Word → Option (List Word)
data_names names = if list_any is_option names then None else (if are_data_names names then Some names else None)

-- the last one of a word and those behind it, apart from those before it
abbrev pub last_from : Word → List Word → List Word × Word
last_from word [] = ([], word)
last_from word (next ∷ behind) = (word ∷ (last_from next behind).0, (last_from next behind).1)

abbrev pub last_apart : List Word → Option (List Word × Word)
last_apart [] = None
last_apart (word ∷ words) = Some (last_from word words)

-- DATA.. QUERY
abbrev pub data_and_query : List Word → Option (List Word × Word)
data_and_query names = last_apart names >>= λ n. if is_option n.1 then None else (data_names n.0 >>= λ d. Some (d, n.1))

-- FILE
abbrev pub one_name : List Word → Option Word
one_name (name ∷ []) = if is_option name then None else Some name
one_name _ = None

-- N SEED
abbrev pub two_numbers : List Word → Option (ℕ × ℕ)
two_numbers (count ∷ seed ∷ []) = number_in 1 most_drill count >>= λ n. number_in 0 4294967295 seed >>= λ s. Some (n, s)
two_numbers _ = None

abbrev pub over_query : Word → Options → List Word → Word → Option Command
over_query word options data_files query_name =
    if bytes_eq word (codes "query") then Some (Query options data_files query_name)
    else (if bytes_eq word (codes "show") then Some (Show options data_files query_name)
    else (if bytes_eq word (codes "plan") then Some (Plan options data_files query_name) else None))

abbrev pub exec_from : Given → List Word → Option Command
exec_from given names = if only_pieces given then (one_name names >>= λ name. Some (Exec (unwrap_or given.pieces 1) name)) else None

-- stats [options] DATA..; exec [--pieces N] FILE; drill [options] N SEED; query|show|plan [options] DATA.. QUERY
abbrev pub command_from : Word → Given → List Word → Option Command
command_from word given names =
    if bytes_eq word (codes "stats") then (data_names names >>= λ d. Some (Stats (options_of given) d))
    else (if bytes_eq word (codes "exec") then exec_from given names
    else (if bytes_eq word (codes "drill") then (two_numbers names >>= λ n. Some (Drill (options_of given) n.0 n.1))
    else (data_and_query names >>= λ n. over_query word (options_of given) n.0 n.1)))

-- the command that the words are
abbrev pub command_of : List Word → Option Command
command_of [] = None
command_of (word ∷ rest) = split_options none_given rest >>= λ split. command_from word split.0 split.1
