-- What the first token of an expression tells of it.
use Rattle.std.proofs.Common.{true, false, IsTrue, List, [], ◌∷◌, ◌≡◌, refl, Option, Some, None, subst}
use Rattle.sql_meaning.specs.Kinds.{Kind, a_mark, kind, among}
use Rattle.sql_meaning.specs.declared.token.Mark.{Mark}
use Rattle.sql_meaning.specs.declared.token.Mark.TheVariants as m
use Rattle.sql_meaning.specs.declared.token.Token.{Token}
use Rattle.sql_meaning.specs.declared.token.Token.TheVariants as t
use Rattle.sql_meaning.specs.declared.token.Placed.{Placed}
use Rattle.sql_text_cursor.specs.Table.{NoneOf, SomeOf, leaf_kinds, expr_kinds}
use Rattle.sql_text_cursor.specs.Outcomes.{First, first_is}
use Rattle.sql_text_cursor.specs.Tests.{none_left, of_int}
use Rattle.sql_text_expressions.specs.declared.start.Start.{Start}
use Rattle.sql_text_expressions.specs.declared.start.Start.TheVariants as st

abbrev pub start_kinds : Start → List Kind
start_kinds st.Leaf = leaf_kinds
start_kinds st.Null = a_mark m.Cast ∷ []
start_kinds st.Brackets = a_mark m.Open ∷ []
start_kinds st.Case = a_mark m.Case ∷ []
start_kinds st.First = a_mark m.Coalesce ∷ []

abbrev pub mark_start : Mark → Option Start
mark_start m.True = Some st.Leaf
mark_start m.False = Some st.Leaf
mark_start m.Cast = Some st.Null
mark_start m.Open = Some st.Brackets
mark_start m.Case = Some st.Case
mark_start m.Coalesce = Some st.First
mark_start _ = None

abbrev pub token_start : Token → Option Start
token_start (t.Mark k) = mark_start k
token_start (t.Name s) = Some st.Leaf
token_start (t.Int n) = Some st.Leaf
token_start (t.Text s) = Some st.Leaf
token_start t.Broken = None

-- as a test on the answer
abbrev pub Told : Option Start → Kind → Type 0
Told None k = among expr_kinds k ≡ false
Told (Some s) k = IsTrue (among (start_kinds s) k)

mark_told : (k : Mark) → Told (mark_start k) (a_mark k)
mark_told m.True = refl
mark_told m.False = refl
mark_told m.Cast = refl
mark_told m.Open = refl
mark_told m.Case = refl
mark_told m.Coalesce = refl
mark_told _ = refl

token_told : (x : Token) → Told (token_start x) (kind x)
token_told (t.Mark k) = mark_told k
token_told (t.Name s) = refl
token_told (t.Int n) = of_int n (among leaf_kinds) true refl refl
token_told (t.Text s) = refl
token_told t.Broken = refl

pub start_there : (ts us : List Placed) (x : Token) (s : Start) → First ts x us → token_start x ≡ Some s → SomeOf (start_kinds s) ts
start_there ts us x s (first_is at) h = subst (λ (o : Option Start). Told o (kind x)) h (token_told x)

pub start_missing : (ts us : List Placed) (x : Token) → First ts x us → token_start x ≡ None → NoneOf expr_kinds ts
start_missing ts us x (first_is at) h = subst (λ (o : Option Start). Told o (kind x)) h (token_told x)

pub ruleset start_steps = (none_left, start_there, start_missing)
