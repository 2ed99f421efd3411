-- Columns of the tables of a side and cells of arms are names of the dialect, and none of its words.
use Rattle.std.proofs.Common.{◌≡◌, ℕ, ◌+◌, ◌/◌, ◌%◌, ◌<◌, ◌≤◌, ◌^◌, Bool, true, List, [], ◌∷◌, ◌++◌, length, refl, arith}
use Rattle.std.proofs.lemmas.Bool.{and_from, and_parts, le-leb}
use Rattle.std.proofs.lemmas.Fmt.{decimal_by_steps, length-decimal-le}
use Rattle.std.specs.Fmt.{decimal}
use Rattle.std.specs.List.{list_all}
use Rattle.table_meaning.specs.Names.{is_name, is_name_byte, body_words, source_words, order_words, value_words, test_words, case_words}
use Rattle.sql_gen_star_meaning.specs.SideTables.{entry_name, spill_name, pred_name, val_name, lid_name, elm_name}
use Rattle.sql_gen_star_meaning.specs.Partials.{cell_name}
use Rattle.sql_gen_star_meaning.specs.StarSelects.{star_alias, list_alias}
use Rattle.sql_gen_form_laws.proofs.Names.{digit-byte}
use Rattle.sql_gen_star_form_laws.specs.StarForms.{ColumnFits, TwoDigits}

all-last : (p : ℕ → Bool) (xs : List ℕ) (x : ℕ) → list_all p xs ≡ true → p x ≡ true → list_all p (xs ++ x ∷ []) ≡ true
all-last p [] x e q = and_from _ _ q refl
all-last p (y ∷ xs) x e q = let h = and_parts (p y) (list_all p xs) e in and_from _ _ h.0 (all-last p xs x h.1 q)

decimal-bytes : (n : ℕ) → n < 2 ^ 64 → list_all is_name_byte (decimal n) ≡ true
decimal-bytes = decimal_by_steps (λ m ds. list_all is_name_byte ds ≡ true) (λ m l. and_from _ _ (digit-byte m (omega arith)) refl) (λ m ds l h. all-last is_name_byte ds (48 + m % 10) h (digit-byte (m % 10) (omega arith)))

-- 64 bits take 20 digits
short : (c : ℕ) → ColumnFits c → length (decimal (c + 1)) ≤ 20
short c l = length-decimal-le 20 (c + 1) (omega arith) (omega arith) l

pub pred-name : (c : ℕ) → ColumnFits c → is_name (pred_name c) ≡ true
unfolding is_name body_words source_words order_words value_words test_words case_words
pred-name c l =
    let s = short c l in
    and_from _ _ refl (and_from _ _ (decimal-bytes (c + 1) l) (and_from _ _ (le-leb (length (pred_name c)) 64 (omega arith)) refl))

pub val-name : (c : ℕ) → ColumnFits c → is_name (val_name c) ≡ true
unfolding is_name body_words source_words order_words value_words test_words case_words
val-name c l =
    let s = short c l in
    and_from _ _ refl (and_from _ _ (decimal-bytes (c + 1) l) (and_from _ _ (le-leb (length (val_name c)) 64 (omega arith)) refl))

pub cell-name : (i : ℕ) → TwoDigits i → is_name (cell_name i) ≡ true
unfolding cell_name is_name body_words source_words order_words value_words test_words case_words
cell-name i l = let a = digit-byte (i / 10) (omega arith) in let b = digit-byte (i % 10) (omega arith) in rw (a, b) refl

pub star-name : is_name star_alias ≡ true
unfolding is_name body_words source_words order_words value_words test_words case_words
star-name = refl

pub list-name : is_name list_alias ≡ true
unfolding is_name body_words source_words order_words value_words test_words case_words
list-name = refl

pub entry-name : is_name entry_name ≡ true
unfolding is_name body_words source_words order_words value_words test_words case_words
entry-name = refl

pub spill-name : is_name spill_name ≡ true
unfolding is_name body_words source_words order_words value_words test_words case_words
spill-name = refl

pub lid-name : is_name lid_name ≡ true
unfolding is_name body_words source_words order_words value_words test_words case_words
lid-name = refl

pub elm-name : is_name elm_name ≡ true
unfolding is_name body_words source_words order_words value_words test_words case_words
elm-name = refl
