-- A text spells one script at most.
use Rattle.std.specs.Prelude.{List, [], ◌∷◌, ◌≡◌, ◌≤◌, ℕ, length}
use Rattle.std.proofs.Common.{refl, subst, arith}
use Rattle.grammar_meaning.specs.Grammar.{call, Made, Reads}
use Rattle.grammar_meaning.specs.Laws.{reads_front}
use Rattle.grammar_meaning.specs.Parts.{one_tree}
use Rattle.grammar_decided_laws.specs.Outcomes.{Step, done, cuts, step}
use Rattle.sql_meaning.specs.Kinds.{among}
use Rattle.sql_meaning.specs.Grammar.{WholeScript, Parsed, a_script, rule, unlimited, full}
use Rattle.sql_meaning.specs.Texts.{Spells}
use Rattle.sql_meaning.specs.declared.token.Placed.{Placed}
use Rattle.sql_meaning.specs.declared.script.Script.{Script}
use Rattle.sql_text_cut_laws.specs.OneCut.{texts_have_one_cut}
use Rattle.sql_text_cursor.specs.Table.{after}
use Rattle.sql_text_reading_laws.specs.Tables.{tables}

abbrev made : Script → Parsed
made s = Made (a_script s)

same_script : (s x : Script) → made x ≡ made s → x ≡ s
same_script s x h = cc

not_left : (p : Placed) (vs : List Placed) → length (p ∷ vs) ≤ 0 → ⊥
not_left p vs h = omega arith

one_reading : (ts : List Placed) (s x : Script) → Reads full (call WholeScript) ts (made s) [] → Reads full (call WholeScript) ts (made x) [] → x ≡ s
one_reading ts s x a b = by (step (tables unlimited) (call WholeScript) ts [] (made s) refl tt a)
  where
    by : Step full (rule unlimited) (among (after WholeScript)) (call WholeScript) ts (made s) [] → x ≡ s
    by (done g) = same_script s x (one_tree g (made x) b)
    by (cuts p vs k l) = absurd (not_left p vs (k.lags.within [] (reads_front full (call WholeScript) ts [] (made s) a)))

abbrev pub TextsSpellOneScript : Type 0
TextsSpellOneScript = (bs : List ℕ) (s x : Script) → Spells bs s → Spells bs x → x ≡ s

pub texts_spell_one_script : TextsSpellOneScript
texts_spell_one_script bs s x a b = one_reading a.tokens s x a.reads (subst (λ (ts : List Placed). Reads full (call WholeScript) ts (made x) []) (texts_have_one_cut bs b.tokens a.tokens b.cut a.cut) b.reads)
