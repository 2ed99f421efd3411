-- Which texts spell a script, and where a text breaks.
use Rattle.std.specs.Prelude.{List, [], ◌∷◌, ◌≡◌, ℕ, length}
use Rattle.grammar_meaning.specs.Grammar.{call, Made, Reads, Front}
use Rattle.grammar_meaning.specs.Parts.{BreaksFirst}
use Rattle.sql_meaning.specs.Tokens.{IsCut}
use Rattle.sql_meaning.specs.Grammar.{WholeScript, a_script, full, shallow}
use Rattle.sql_meaning.specs.declared.token.Placed.{Placed}
use Rattle.sql_meaning.specs.declared.script.Script.{Script}

-- the text is cut into tokens that read as the script
pub record Spells (bs : List ℕ) (s : Script) : Type 0 where
  pub tokens : List Placed
  pub cut : IsCut bs tokens
  pub reads : Reads full (call WholeScript) tokens (Made (a_script s)) []

-- The tokens before `behind` begin a script, but no script whose expressions all stand inside fewer than 1,024 others:
-- one of them begins an expression that stands inside 1,024 others or more.
pub record IsDeep (tokens : List Placed) : Type 0 where
  pub behind : List Placed
  pub begins : Front full (call WholeScript) tokens behind
  pub passes : Front shallow (call WholeScript) tokens behind → ⊥

-- the text has a deep token
pub record HasDeepToken (bs : List ℕ) : Type 0 where
  pub tokens : List Placed
  pub cut : IsCut bs tokens
  pub deep : IsDeep tokens

-- the place of the first token, or the end of the text
abbrev pub place_of : ℕ → List Placed → ℕ
place_of end [] = end
place_of end (t ∷ ts) = t.at

-- The text spells no script and has no deep token, and `at` is the place of the first token with which the tokens so far
-- begin no script; the end of the text counts as a last token.
pub record BreaksAt (bs : List ℕ) (at : ℕ) : Type 0 where
  pub tokens : List Placed
  pub cut : IsCut bs tokens
  pub left : List Placed
  pub breaks : BreaksFirst full (call WholeScript) tokens left
  pub place : at ≡ place_of (length bs) left
  pub no_deep : IsDeep tokens → ⊥

-- the text spells the script and no other, and has no deep token
pub record SpellsOnly (bs : List ℕ) (s : Script) : Type 0 where
  pub spells : Spells bs s
  pub only : (x : Script) → Spells bs x → x ≡ s
  pub no_deep : HasDeepToken bs → ⊥
