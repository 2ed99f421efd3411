-- The names that are written are apart, and are names of the dialect.
use Rattle.std.specs.Prelude.{◌≡◌, ℕ, ◌<◌, ◌≤◌, ◌^◌, ◌==◌, true, false, not, ◌||◌, nat_le, List, [], ◌∷◌, length, refl}
use Rattle.std.proofs.Common.{ap, arith}
use Rattle.std.proofs.lemmas.Bool.{eqb-true, eq-eqb, le-leb, and_from, or_left, or_right}
use Rattle.std.proofs.lemmas.Fmt.{decimal_injective, decimal_is_IsNumeral, length-decimal-le}
use Rattle.std.specs.List.{list_all}
use Rattle.std.specs.Char.{digit_value}
use Rattle.std.proofs.lemmas.Str.Parse.{digit_from_value}
use Rattle.std.specs.Str.Parse.{AllDigits}
use Rattle.rdf_meaning.specs.Characters.{is_digit, is_letter}
use Rattle.table_meaning.specs.Names.{is_name, is_name_byte, is_capital_word, body_words, source_words, order_words, value_words, test_words, case_words}
use Rattle.std.proofs.lemmas.Slice.Eq.{bytes_eq-Decides}
use Rattle.std.specs.Fmt.{decimal}
use Rattle.std.specs.Str.{bytes_eq}
use Rattle.sql_gen_step_laws.specs.StepTests.{same_bools}
use Rattle.sql_gen_numbered_meaning.specs.Namings.{KeepsApart, step_name}

same-decimals : (m n : ℕ) → m < 2 ^ 64 → n < 2 ^ 64 → bytes_eq (decimal m) (decimal n) ≡ (m == n)
same-decimals m n p q = same_bools _ _
    (λ e. eq-eqb m n (decimal_injective m n p q ((bytes_eq-Decides (decimal m) (decimal n)).0 e)))
    (λ e. (bytes_eq-Decides (decimal m) (decimal n)).1 (ap decimal (eqb-true m n e)))

-- the numbers below 2^64 have names of their own
pub names-apart : (n : ℕ) → n ≤ 2 ^ 64 → KeepsApart n step_name
names-apart n l = record { own = λ i j p q. same-decimals i j (omega arith) (omega arith); no_table = λ i p. refl }

-- ---- they are names

digit_fits : (c : ℕ) → digit_value c < 10 → is_digit c ≡ true
digit_fits c h = let r = digit_from_value c h in let low : nat_le 48 c ≡ true = le-leb 48 c r.0 in rw low (le-leb c 57 r.1)

digits_fit : (ds : List ℕ) → AllDigits 10 ds → list_all is_name_byte ds ≡ true
digits_fit [] all = refl
digits_fit (c ∷ cs) all = let d : is_digit c ≡ true = digit_fits c all.0 in and_from _ _ (or_left (is_letter c || is_digit c) (c == 95) (or_right (is_letter c) (is_digit c) d)) (digits_fit cs all.1)

no-capital_word : (ds : List ℕ) → is_capital_word (115 ∷ ds) ≡ false
unfolding body_words source_words order_words value_words test_words case_words
no-capital_word ds = refl

-- 64 bits take 20 digits
pub names-are_names : (n : ℕ) → n < 2 ^ 64 → is_name (step_name n) ≡ true
unfolding is_name
names-are_names n l =
    let short : length (decimal n) ≤ 20 = length-decimal-le 20 n (omega arith) (omega arith) l in
    and_from (list_all is_name_byte (step_name n)) _ (digits_fit (decimal n) (decimal_is_IsNumeral n l).0.1)
    (and_from (nat_le (length (step_name n)) 64) _ (le-leb (length (step_name n)) 64 (omega arith)) (ap not (no-capital_word (decimal n))))
