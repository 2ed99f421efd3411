-- Words, names and numbers.
use Rattle.std.proofs.Common.{◌≡◌, List, [], ◌∷◌, ℕ, zero, suc, Bool, true, false, refl, ◌<◌, take, IsTrue, Some, None}
use Rattle.std.specs.Prelude.{◌&&◌, IsUtf8, IsAscii}
use Rattle.std.specs.List.{list_all}
use Rattle.std.proofs.Common.{arith}
use Rattle.std.proofs.lemmas.Str.{IsUtf8-from_ascii}
use Rattle.rdf_meaning.specs.Characters.{is_letter}
use Rattle.table_meaning.specs.Ints.{int_of}
use Rattle.table_meaning.specs.Names.{is_name}
use Rattle.sql_meaning.specs.Marks.{word_of}
use Rattle.sql_meaning.specs.declared.token.Mark.{Mark}
use Rattle.sql_meaning.specs.declared.token.Token.TheVariants as t
use Rattle.sql_meaning.specs.Tokens.{is_run_byte, run_len, begins_with, int_token, run_token}

and_l : (a b : Bool) → (a && b) ≡ true → a ≡ true
and_l true b h = refl
and_l false b h = h

and_r : (a b : Bool) → (a && b) ≡ true → b ≡ true
and_r true b h = h
and_r false b h = cc

run_byte_ascii : (b : ℕ) → is_run_byte b ≡ true → b < 128
run_byte_ascii b h = grind arith

run_ascii : (bs : List ℕ) → list_all is_run_byte bs ≡ true → IsAscii bs
run_ascii [] h i = omega arith
run_ascii (b ∷ bs) h zero = run_byte_ascii b (and_l (is_run_byte b) (list_all is_run_byte bs) h)
run_ascii (b ∷ bs) h (suc i) = run_ascii bs (and_r (is_run_byte b) (list_all is_run_byte bs) h) i

pub run_utf8 : (bs : List ℕ) → IsTrue (list_all is_run_byte bs) → IsUtf8 bs
run_utf8 bs h = IsUtf8-from_ascii bs (run_ascii bs h)

pub run_all : (bs : List ℕ) → IsTrue (list_all is_run_byte (take (run_len bs) bs))
run_all [] = refl
run_all (b ∷ bs) = by (is_run_byte b) refl (run_all bs)
  where
    by : (x : Bool) → is_run_byte b ≡ x → IsTrue (list_all is_run_byte (take (run_len bs) bs)) → IsTrue (list_all is_run_byte (take (run_len (b ∷ bs)) (b ∷ bs)))
    by true e h = simp e h
    by false e h = simp e refl

pub word_found : (bs : List ℕ) (m : Mark) → IsTrue (begins_with is_letter bs) → Some m ≡ word_of bs → t.Mark m ≡ run_token bs
word_found bs m h e = rw (h, ← e) refl

pub name_made : (bs : List ℕ) → IsTrue (begins_with is_letter bs) → None ≡ word_of bs → true ≡ is_name bs → t.Name bs ≡ run_token bs
name_made bs h e n = rw (h, ← e, ← n) refl

pub no_name : (bs : List ℕ) → IsTrue (begins_with is_letter bs) → None ≡ word_of bs → false ≡ is_name bs → t.Broken ≡ run_token bs
no_name bs h e n = rw (h, ← e, ← n) refl

pub number_made : (bs : List ℕ) → begins_with is_letter bs ≡ false → int_token (int_of bs) ≡ run_token bs
number_made bs h = rw h refl

pub ruleset run_laws = (run_utf8, word_found, name_made, no_name)
