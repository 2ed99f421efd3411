-- Columns and aliases of compiled SELECTs are names of the dialect, and none of its words.
use Rattle.std.proofs.Common.{◌≡◌, ℕ, ◌+◌, ◌/◌, ◌%◌, ◌<◌, true, ◌||◌, nat_le, refl, arith}
use Rattle.std.proofs.lemmas.Bool.{le-leb, or_left, or_right}
use Rattle.query_eval_meaning.specs.Mapping.{width}
use Rattle.rdf_meaning.specs.Characters.{is_digit, is_letter}
use Rattle.table_meaning.specs.Names.{is_name, is_name_byte, body_words, source_words, order_words, value_words, test_words, case_words}
use Rattle.sql_gen_step_laws.specs.Carried.{column, one}
use Rattle.sql_gen_step_laws.specs.StepSelects.{left_alias, right_alias}
use Rattle.sql_gen_term_laws.specs.TermTable.{id_name, class_name, number_name, text_name, aux_name, term_alias}
use Rattle.sql_gen_optional_laws.specs.MatchRows.{kept}

pub digit-byte : (d : ℕ) → d < 10 → is_name_byte (48 + d) ≡ true
digit-byte d l =
    let low : nat_le 48 (48 + d) ≡ true = le-leb 48 (48 + d) (omega arith) in
    let digit : is_digit (48 + d) ≡ true = rw low (le-leb (48 + d) 57 (omega arith)) in
    or_left (is_letter (48 + d) || is_digit (48 + d)) _ (or_right (is_letter (48 + d)) (is_digit (48 + d)) digit)

pub column-name : (v : ℕ) → v < width → is_name (column v) ≡ true
unfolding width column is_name body_words source_words order_words value_words test_words case_words
column-name v l = let a = digit-byte (v / 10) (omega arith) in let b = digit-byte (v % 10) (omega arith) in rw (a, b) refl

pub kept-name : (v : ℕ) → v < width → is_name (kept v) ≡ true
unfolding width kept is_name body_words source_words order_words value_words test_words case_words
kept-name v l = let a = digit-byte (v / 10) (omega arith) in let b = digit-byte (v % 10) (omega arith) in rw (a, b) refl

pub term-name : (v : ℕ) → v < width → is_name (term_alias v) ≡ true
unfolding width term_alias is_name body_words source_words order_words value_words test_words case_words
term-name v l = let a = digit-byte (v / 10) (omega arith) in let b = digit-byte (v % 10) (omega arith) in rw (a, b) refl

pub one-name : is_name one ≡ true
unfolding is_name body_words source_words order_words value_words test_words case_words
one-name = refl

pub left-name : is_name left_alias ≡ true
unfolding is_name body_words source_words order_words value_words test_words case_words
left-name = refl

pub right-name : is_name right_alias ≡ true
unfolding is_name body_words source_words order_words value_words test_words case_words
right-name = refl

pub id-name : is_name id_name ≡ true
unfolding is_name body_words source_words order_words value_words test_words case_words
id-name = refl

pub class-name : is_name class_name ≡ true
unfolding is_name body_words source_words order_words value_words test_words case_words
class-name = refl

pub number-name : is_name number_name ≡ true
unfolding is_name body_words source_words order_words value_words test_words case_words
number-name = refl

pub text-name : is_name text_name ≡ true
unfolding is_name body_words source_words order_words value_words test_words case_words
text-name = refl

pub aux-name : is_name aux_name ≡ true
unfolding is_name body_words source_words order_words value_words test_words case_words
aux-name = refl
