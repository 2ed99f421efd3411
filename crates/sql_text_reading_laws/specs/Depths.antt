-- A text that spells a script has a deep token exactly where the script's depth passes 1,024, and the script has the forms of
-- the dialect: what is read of a text without deep tokens is writable.
use Rattle.std.specs.Prelude.{Bool, true, false, IsTrue, nat_le, List, [], ◌∷◌, ◌≡◌, ◌≤◌, ◌<◌, ℕ, length}
use Rattle.std.proofs.Common.{refl, subst, arith}
use Rattle.std.proofs.lemmas.Bool.{leb-true, leb-false}
use Rattle.grammar_meaning.specs.Grammar.{call, Made, Reads}
use Rattle.grammar_path_laws.specs.Ends.{ends_all, front_ends, reads_shorter}
use Rattle.grammar_decided_laws.specs.Outcomes.{Step, done, cuts, step}
use Rattle.sql_meaning.specs.Kinds.{among}
use Rattle.sql_meaning.specs.Grammar.{WholeScript, Parsed, a_script, rule, limited, full, shallow}
use Rattle.sql_meaning.specs.Scripts.{depth_of, script_form, is_writable, most_levels}
use Rattle.sql_meaning.specs.Texts.{Spells, IsDeep, HasDeepToken}
use Rattle.sql_meaning.specs.declared.token.Placed.{Placed}
use Rattle.sql_meaning.specs.declared.script.Script.{Script}
use Rattle.sql_text_cut_laws.specs.OneCut.{texts_have_one_cut}
use Rattle.sql_text_cursor.specs.Table.{after}
use Rattle.sql_text_reading_laws.specs.Tables.{tables}
use Rattle.sql_text_reading_laws.specs.TokenForms.{cut_forms}
use Rattle.sql_text_reading_laws.specs.Parts.{Holds, holds_call, built_script}
use Rattle.sql_text_reading_laws.specs.Levels.{measured, Low, low}

abbrev made : Script → Parsed
made s = Made (a_script s)

-- where tokens read as a script of few levels none of them is deep: all that begin a script begin one of few levels
pub read_tokens_are_not_deep : (ts : List Placed) (s : Script) → Reads shallow (call WholeScript) ts (made s) [] → IsDeep ts → ⊥
read_tokens_are_not_deep ts s r d = d.passes (reads_shorter shallow (call WholeScript) ts [] d.behind (made s) r (ends_all d.behind) (front_ends full (call WholeScript) ts d.behind d.begins))

-- the levels of a script's text are its depth
levels_of : (s : Script) (k : ℕ) → Holds (call WholeScript) (made s) k → k ≡ depth_of s
levels_of s k (holds_call (built_script x j h e)) = e

form_of : (s : Script) (k : ℕ) → Holds (call WholeScript) (made s) k → script_form s ≡ true
form_of s k (holds_call (built_script x j h e)) = h

abbrev pub SpelledScriptsHaveForms : Type 0
SpelledScriptsHaveForms = (bs : List ℕ) (s : Script) → Spells bs s → IsTrue (script_form s)

pub spelled_scripts_have_forms : SpelledScriptsHaveForms
spelled_scripts_have_forms bs s w =
    let a = measured (call WholeScript) w.tokens [] (made s) (cut_forms w.cut) w.reads in
    form_of s a.levels a.holds

shallow_texts : (bs : List ℕ) (s : Script) → Spells bs s → depth_of s ≤ most_levels → HasDeepToken bs → ⊥
shallow_texts bs s w h d =
    let a = measured (call WholeScript) w.tokens [] (made s) (cut_forms w.cut) w.reads in
    read_tokens_are_not_deep w.tokens s (a.narrow (by a.levels (levels_of s a.levels a.holds))) (subst IsDeep (texts_have_one_cut bs d.tokens w.tokens d.cut w.cut) d.deep)
  where
    by : (k : ℕ) → k ≡ depth_of s → k ≤ most_levels
    by k e = omega arith

not_within : (p : Placed) (vs : List Placed) → length (p ∷ vs) ≤ length vs → ⊥
not_within p vs h = omega arith

too_many : (s : Script) → Low (call WholeScript) (made s) → most_levels < depth_of s → ⊥
too_many s a h = by a.levels (levels_of s a.levels a.holds) a.few
  where
    by : (k : ℕ) → k ≡ depth_of s → k ≤ most_levels → ⊥
    by k e i = omega arith

deep_texts : (bs : List ℕ) (s : Script) → Spells bs s → most_levels < depth_of s → HasDeepToken bs
deep_texts bs s w h = by (step (tables limited) (call WholeScript) w.tokens [] (made s) refl tt w.reads)
  where
    by : Step full (rule limited) (among (after WholeScript)) (call WholeScript) w.tokens (made s) [] → HasDeepToken bs
    by (done g) = absurd (too_many s (low (call WholeScript) w.tokens [] (made s) (cut_forms w.cut) g.reads) h)
    by (cuts p vs k l) = record { tokens = w.tokens; cut = w.cut; deep = record { behind = vs; begins = l; passes = λ r. not_within p vs (k.lags.within vs r) } }

depth_above : (n : ℕ) → (n ≤ most_levels → ⊥) → most_levels < n
depth_above n h = by (nat_le n most_levels) refl
  where
    by : (b : Bool) → nat_le n most_levels ≡ b → most_levels < n
    by true e = absurd (h (leb-true n most_levels e))
    by false e = let k = leb-false n most_levels e in omega arith

abbrev pub SpelledTextsAreDeepByDepth : Type 0
SpelledTextsAreDeepByDepth = (bs : List ℕ) (s : Script) → Spells bs s → (HasDeepToken bs → most_levels < depth_of s) × (most_levels < depth_of s → HasDeepToken bs)

pub spelled_texts_are_deep_by_depth : SpelledTextsAreDeepByDepth
spelled_texts_are_deep_by_depth bs s w = (λ d. depth_above (depth_of s) (λ h. shallow_texts bs s w h d), deep_texts bs s w)

-- a script that is spelled without deep tokens has a text
abbrev pub ReadScriptsAreWritable : Type 0
ReadScriptsAreWritable = (bs : List ℕ) (s : Script) → Spells bs s → (HasDeepToken bs → ⊥) → IsTrue (is_writable s)

pub read_scripts_are_writable : ReadScriptsAreWritable
read_scripts_are_writable bs s w h = by (nat_le (depth_of s) most_levels) refl
  where
    by : (b : Bool) → nat_le (depth_of s) most_levels ≡ b → IsTrue (is_writable s)
    by true e = rw (e, spelled_scripts_have_forms bs s w) refl
    by false e = let k = leb-false (depth_of s) most_levels e in absurd (h (deep_texts bs s w (omega arith)))
