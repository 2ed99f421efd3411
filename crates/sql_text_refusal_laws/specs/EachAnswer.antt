-- No text is neither read nor refused.
use Rattle.std.specs.Prelude.{List, ◌≡◌, ℕ, IsTrue, Result, Ok, Err, IfOk, IfErr}
use Rattle.sql_meaning.specs.Scripts.{is_writable}
use Rattle.sql_meaning.specs.Texts.{SpellsOnly}
use Rattle.sql_meaning.specs.declared.script.Script.{Script}
use Rattle.sql_text.specs.Refuses.{Refuses, is_deep, breaks_at, AnswersSpelled, answers_read, answers_refused, is_read}
use Rattle.sql_text.specs.declared.refusal.SqlRefusal.{SqlRefusal}
use Rattle.sql_text.specs.declared.refusal.SqlRefusal.TheVariants.{NoMemory, Deep, Syntax}
use Rattle.sql_text_refusal_laws.specs.EachText.{no_sql_text_is_neither}

abbrev pub Answer : Type 0
Answer = Result Script SqlRefusal

-- what the reader promises of its answer
pub record Allowed (bs : List ℕ) (answer : Answer) : Type 0 where
  pub reads : IfOk answer (λ script. SpellsOnly bs script)
  pub writable : IfOk answer (λ script. IsTrue (is_writable script))
  pub refuses : IfErr answer (λ e. Refuses bs e)
  pub spelled : AnswersSpelled bs answer

abbrev pub NoSqlTextIsNeitherReadNorRefused : Type 0
NoSqlTextIsNeitherReadNorRefused = (bs : List ℕ) → ((answer : Answer) → (answer ≡ Err NoMemory → ⊥) → Allowed bs answer → ⊥) → ⊥

script_allowed : (bs : List ℕ) (s : Script) → SpellsOnly bs s → Allowed bs (Ok s)
script_allowed bs s a = record { reads = a; writable = is_read bs s a; refuses = tt; spelled = answers_read bs s a }

refusal_allowed : (bs : List ℕ) (e : SqlRefusal) → Refuses bs e → Allowed bs (Err e)
refusal_allowed bs e r = record { reads = tt; writable = tt; refuses = r; spelled = answers_refused bs e r }

read_remembers : (s : Script) → (let answer : Answer = Ok s in answer) ≡ Err NoMemory → ⊥
read_remembers s h = absurd cc

deep_remembers : (let answer : Answer = Err Deep in answer) ≡ Err NoMemory → ⊥
deep_remembers h = absurd cc

syntax_remembers : (at : ℕ) → (let answer : Answer = Err (Syntax at) in answer) ≡ Err NoMemory → ⊥
syntax_remembers at h = absurd cc

pub no_sql_text_is_neither_read_nor_refused : NoSqlTextIsNeitherReadNorRefused
no_sql_text_is_neither_read_nor_refused bs none = no_sql_text_is_neither bs
    (λ s a. none (Ok s) (read_remembers s) (script_allowed bs s a))
    (λ d. none (Err Deep) deep_remembers (refusal_allowed bs Deep (is_deep d)))
    (λ at b. none (Err (Syntax at)) (syntax_remembers at) (refusal_allowed bs (Syntax at) (breaks_at at b)))
