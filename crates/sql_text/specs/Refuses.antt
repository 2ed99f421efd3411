-- What a refusal says of a text.
use Rattle.std.specs.Prelude.{IsTrue, Result, Ok, Err, ◌≤◌, ◌<◌}
use Rattle.std.specs.Cmp.{first_so}
use Rattle.std.proofs.Common.{List, [], subst, sym, ℕ, ◌≡◌, ◌-◌, length, drop}
use Rattle.std.proofs.lemmas.Bool.{leb-true}
use Rattle.sql_meaning.specs.Scripts.{depth_of, is_writable, most_levels}
use Rattle.sql_meaning.specs.Texts.{Spells, SpellsOnly, HasDeepToken, BreaksAt, place_of}
use Rattle.sql_meaning.specs.Tokens.{IsCut}
use Rattle.sql_meaning.specs.declared.token.Placed.{Placed}
use Rattle.sql_meaning.specs.Grammar.{WholeScript, a_script}
use Rattle.sql_meaning.specs.declared.script.Script.{Script}
use Rattle.sql_text_cursor.specs.Outcomes.{Gets}
use Rattle.sql_text_cursor.specs.declared.refusal.Refusal.TheVariants as inner
use Rattle.sql_text_cut_laws.specs.Outcomes.{spelled_texts_dont_break}
use Rattle.sql_text_reading_laws.specs.Depths.{read_scripts_are_writable, spelled_texts_are_deep_by_depth}
use Rattle.sql_text_script_laws.specs.Whole.{Rejects, deep_text, broken_text, left_within, spells_whole}
use Rattle.sql_text.specs.declared.refusal.SqlRefusal.{SqlRefusal}
use Rattle.sql_text.specs.declared.refusal.SqlRefusal.TheVariants.{NoMemory, Deep, Syntax}

-- the text has a deep token; or it has none, spells no script, and breaks first at the place
pub data Refuses (bs : List ℕ) : SqlRefusal → Type 0 where
  no_memory : Refuses bs NoMemory
  is_deep : HasDeepToken bs → Refuses bs Deep
  breaks_at : (at : ℕ) → BreaksAt bs at → Refuses bs (Syntax at)

pub refuses_deep : (bs : List ℕ) (ts : List Placed) → IsCut bs ts → Rejects ts inner.Deep → Refuses bs Deep
refuses_deep bs ts c r = is_deep (deep_text bs ts c r)

pub refuses_at : (bs : List ℕ) (ts : List Placed) (left at : ℕ) → IsCut bs ts → Rejects ts (inner.Syntax left) → at ≡ place_of (length bs) (drop (length ts - left) ts) → Refuses bs (Syntax at)
refuses_at bs ts left at c r e = breaks_at at (broken_text bs ts left at c r e)

pub spells_told : (bs : List ℕ) (ts us : List Placed) (s : Script) → IsCut bs ts → us ≡ ts → Gets WholeScript us (a_script s) [] → SpellsOnly bs s
spells_told bs ts us s c e a = spells_whole bs ts s c (subst (λ (l : List Placed). Gets WholeScript l (a_script s) []) e a)

-- What is answered for a text that spells the script: the script where it has few levels, and that it is too deep where it
-- has more; or that memory is wanting.
pub data AnswersFor (s : Script) : Result Script SqlRefusal → Type 0 where
  answers_script : depth_of s ≤ most_levels → AnswersFor s (Ok s)
  answers_deep : most_levels < depth_of s → AnswersFor s (Err Deep)
  answers_no_memory : AnswersFor s (Err NoMemory)

-- what is answered for a text, if it spells a script
pub data AnswersSpelled (bs : List ℕ) (answer : Result Script SqlRefusal) : Type 0 where
  answers : ((s : Script) → Spells bs s → AnswersFor s answer) → AnswersSpelled bs answer

few_levels : (bs : List ℕ) (s : Script) → SpellsOnly bs s → depth_of s ≤ most_levels
few_levels bs s a = leb-true (depth_of s) most_levels (first_so _ _ (read_scripts_are_writable bs s a.spells a.no_deep))

pub answers_read : (bs : List ℕ) (s : Script) → SpellsOnly bs s → AnswersSpelled bs (Ok s)
answers_read bs s a = answers (λ x w. subst (λ (z : Script). AnswersFor z (Ok s)) (sym (a.only x w)) (answers_script (few_levels bs s a)))

pub answers_refused : (bs : List ℕ) (e : SqlRefusal) → Refuses bs e → AnswersSpelled bs (Err e)
answers_refused bs e no_memory = answers (λ x w. answers_no_memory)
answers_refused bs e (is_deep d) = answers (λ x w. answers_deep ((spelled_texts_are_deep_by_depth bs x w).0 d))
answers_refused bs e (breaks_at at b) = answers (λ x w. absurd (spelled_texts_dont_break bs x at w b))

pub is_read : (bs : List ℕ) (s : Script) → SpellsOnly bs s → IsTrue (is_writable s)
is_read bs s a = read_scripts_are_writable bs s a.spells a.no_deep

pub ruleset read_steps = (no_memory, refuses_deep, refuses_at, left_within, answers_refused)
