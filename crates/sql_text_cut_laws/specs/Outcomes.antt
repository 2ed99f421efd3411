-- A text that spells a script doesn't break.
use Rattle.std.specs.Prelude.{List, [], ℕ}
use Rattle.std.proofs.Common.{subst}
use Rattle.grammar_meaning.specs.Grammar.{call, Made, Reads}
use Rattle.sql_meaning.specs.Grammar.{WholeScript, a_script, full}
use Rattle.sql_meaning.specs.Texts.{Spells, BreaksAt}
use Rattle.sql_meaning.specs.declared.token.Placed.{Placed}
use Rattle.sql_meaning.specs.declared.script.Script.{Script}
use Rattle.sql_text_cut_laws.specs.OneCut.{texts_have_one_cut}

abbrev pub SpelledTextsDontBreak : Type 0
SpelledTextsDontBreak = (bs : List ℕ) (s : Script) (at : ℕ) → Spells bs s → BreaksAt bs at → ⊥

pub spelled_texts_dont_break : SpelledTextsDontBreak
spelled_texts_dont_break bs s at w b =
    b.breaks.no_text (Made (a_script s)) (subst (λ (ts : List Placed). Reads full (call WholeScript) ts (Made (a_script s)) []) (texts_have_one_cut bs w.tokens b.tokens w.cut b.cut) w.reads)
