-- What begins each symbol of the grammar, tested against the rules, and what goes on with it.
use Rattle.std.proofs.Common.{Bool, true, false, IsTrue, List, [], ◌∷◌, ◌≡◌, refl, subst, sym}
use Rattle.grammar_meaning.specs.Grammar.{Form, call, ◌⨾◌}
use Rattle.grammar_meaning.specs.Outcome.{or, and, implies, nullable, first, Lookahead, NotBegun, every_of}
use Rattle.sql_meaning.specs.Kinds.{Kind, a_mark, a_name, a_count, an_int, a_text, kind, among, kinds, each}
use Rattle.sql_meaning.specs.Grammar.{Symbol, WholeScript, Steps, OneStep, OneBody, Unions, Plain, Parts, Ending, ItemList, OneItem, Sources, OneSource, OneJoin, Condition, KeyList, OneKey, Most, Skip, Expr, Simple, NullOf, Inner, More, Cases, Branches, OneBranch, Firsts, separator_mark, Limit, rule, grammar}
use Rattle.sql_meaning.specs.declared.token.Mark.TheVariants as m
use Rattle.sql_meaning.specs.declared.token.Separator.TheVariants as sep
use Rattle.sql_meaning.specs.declared.token.Placed.{Placed}

-- an ending alone can be nothing
abbrev pub empty : Symbol → Bool
empty Ending = true
empty _ = false

abbrev pub leaf_kinds : List Kind
leaf_kinds = a_name ∷ a_count ∷ an_int ∷ a_text ∷ a_mark m.True ∷ a_mark m.False ∷ []

abbrev pub expr_kinds : List Kind
expr_kinds = a_name ∷ a_count ∷ an_int ∷ a_text ∷ a_mark m.True ∷ a_mark m.False ∷ a_mark m.Cast ∷ a_mark m.Open ∷ a_mark m.Case ∷ a_mark m.Coalesce ∷ []

abbrev pub ending_kinds : List Kind
ending_kinds = a_mark m.Order ∷ a_mark m.Limit ∷ a_mark m.Offset ∷ []

abbrev pub begins : Symbol → List Kind
begins WholeScript = a_mark m.With ∷ a_mark m.Select ∷ []
begins Steps = a_mark m.With ∷ []
begins OneStep = a_name ∷ []
begins OneBody = a_mark m.Select ∷ []
begins Unions = a_mark m.Union ∷ []
begins Plain = a_mark m.Union ∷ []
begins Parts = expr_kinds
begins Ending = ending_kinds
begins ItemList = expr_kinds
begins OneItem = expr_kinds
begins Sources = a_mark m.From ∷ []
begins OneSource = a_name ∷ []
begins OneJoin = a_mark m.Left ∷ a_mark m.Join ∷ []
begins Condition = a_mark m.Where ∷ []
begins KeyList = a_mark m.Order ∷ []
begins OneKey = expr_kinds
begins Most = a_mark m.Limit ∷ []
begins Skip = a_mark m.Offset ∷ []
begins (Expr n) = expr_kinds
begins Simple = leaf_kinds
begins NullOf = a_mark m.Cast ∷ []
begins (Inner n) = a_mark m.Not ∷ expr_kinds
begins (More s n) = a_mark (separator_mark s) ∷ []
begins (Cases n) = a_mark m.Case ∷ []
begins (Branches n) = a_mark m.When ∷ []
begins (OneBranch n) = a_mark m.When ∷ []
begins (Firsts n) = a_mark m.Coalesce ∷ []

abbrev pub parts_after : List Kind
parts_after = a_mark m.Comma ∷ a_mark m.From ∷ a_mark m.Left ∷ a_mark m.Join ∷ a_mark m.Where ∷ []

abbrev pub ending_after : List Kind
ending_after = a_mark m.Order ∷ a_mark m.Comma ∷ a_mark m.Desc ∷ a_mark m.Limit ∷ a_mark m.Offset ∷ []

abbrev pub body_after : List Kind
body_after = a_mark m.Comma ∷ a_mark m.From ∷ a_mark m.Left ∷ a_mark m.Join ∷ a_mark m.Where ∷ a_mark m.Union ∷ a_mark m.Order ∷ a_mark m.Desc ∷ a_mark m.Limit ∷ a_mark m.Offset ∷ []

-- which tokens go on with a symbol's text where a shorter one could end
abbrev pub after : Symbol → List Kind
after WholeScript = body_after
after Steps = a_mark m.Comma ∷ []
after OneBody = body_after
after Unions = a_mark m.Union ∷ parts_after
after Plain = parts_after
after Parts = parts_after
after Ending = ending_after
after ItemList = a_mark m.Comma ∷ []
after Sources = a_mark m.Left ∷ a_mark m.Join ∷ []
after KeyList = a_mark m.Comma ∷ a_mark m.Desc ∷ []
after OneKey = a_mark m.Desc ∷ []
after (Inner n) = a_mark m.And ∷ a_mark m.Or ∷ []
after (More s n) = a_mark (separator_mark s) ∷ []
after (Branches n) = a_mark m.When ∷ []
after _ = []

pub empty_right : (c : Limit) (s : Symbol) → IsTrue (implies (nullable empty (rule c s)) (empty s))
empty_right c WholeScript = refl
empty_right c Steps = refl
empty_right c OneStep = refl
empty_right c OneBody = refl
empty_right c Unions = refl
empty_right c Plain = refl
empty_right c Parts = refl
empty_right c Ending = refl
empty_right c ItemList = refl
empty_right c OneItem = refl
empty_right c Sources = refl
empty_right c OneSource = refl
empty_right c OneJoin = refl
empty_right c Condition = refl
empty_right c KeyList = refl
empty_right c OneKey = refl
empty_right c Most = refl
empty_right c Skip = refl
empty_right c (Expr n) = by (c n) refl
  where
    by : (b : Bool) → c n ≡ b → IsTrue (implies (nullable empty (rule c (Expr n))) false)
    by true e = rw e refl
    by false e = rw e refl
empty_right c Simple = refl
empty_right c NullOf = refl
empty_right c (Inner n) = refl
empty_right c (More s n) = refl
empty_right c (Cases n) = refl
empty_right c (Branches n) = refl
empty_right c (OneBranch n) = refl
empty_right c (Firsts n) = refl

pub begins_right : (c : Limit) (s : Symbol) → IsTrue (every_of kinds (λ k. implies (first empty (λ z. among (begins z)) (rule c s) k) (among (begins s) k)))
begins_right c WholeScript = refl
begins_right c Steps = refl
begins_right c OneStep = refl
begins_right c OneBody = refl
begins_right c Unions = refl
begins_right c Plain = refl
begins_right c Parts = refl
begins_right c Ending = refl
begins_right c ItemList = refl
begins_right c OneItem = refl
begins_right c Sources = refl
begins_right c OneSource = refl
begins_right c OneJoin = refl
begins_right c Condition = refl
begins_right c KeyList = refl
begins_right c OneKey = refl
begins_right c Most = refl
begins_right c Skip = refl
begins_right c (Expr n) = by (c n) refl
  where
    by : (b : Bool) → c n ≡ b → IsTrue (every_of kinds (λ k. implies (first empty (λ z. among (begins z)) (rule c (Expr n)) k) (among expr_kinds k)))
    by true e = rw e refl
    by false e = rw e refl
begins_right c Simple = refl
begins_right c NullOf = refl
begins_right c (Inner n) = refl
begins_right c (More sep.And n) = refl
begins_right c (More sep.Or n) = refl
begins_right c (More sep.Comma n) = refl
begins_right c (Cases n) = refl
begins_right c (Branches n) = refl
begins_right c (OneBranch n) = refl
begins_right c (Firsts n) = refl

abbrev pub look : (c : Limit) → Lookahead (grammar c)
look c = record { empty = empty; begins = λ z. among (begins z); every = every_of kinds; each = each; empty_right = empty_right c; begins_right = begins_right c }

-- no token of the kinds is in front
abbrev pub NoneOf : List Kind → List Placed → Type 0
NoneOf ks [] = Unit {0}
NoneOf ks (p ∷ ps) = among ks (kind p.token) ≡ false

-- a token of the kinds is in front
abbrev pub SomeOf : List Kind → List Placed → Type 0
SomeOf ks [] = ⊥
SomeOf ks (p ∷ ps) = IsTrue (among ks (kind p.token))

-- where no token is in front that begins a symbol, no text of it begins
pub not_begun : (c : Limit) (s : Symbol) (ts : List Placed) → NoneOf (begins s) ts → NotBegun (grammar c) (look c) (call s) ts
not_begun c s [] h = tt
not_begun c s (p ∷ ps) h = subst (λ b. IsTrue (implies b false)) (sym h) refl

-- nor one of a sequence that the symbol opens
pub not_begun_then : (c : Limit) (s : Symbol) (g : Form Symbol Kind) (ts : List Placed) → IsTrue (implies (empty s) false) → NoneOf (begins s) ts → NotBegun (grammar c) (look c) (call s ⨾ g) ts
not_begun_then c s g [] k h = tt
not_begun_then c s g (p ∷ ps) k h = by (empty s) k
  where
    by : (b : Bool) → IsTrue (implies b false) → IsTrue (implies (or (among (begins s) (kind p.token)) (and b (first empty (λ z. among (begins z)) g (kind p.token)))) false)
    by true k = cc
    by false k = subst (λ b. IsTrue (implies (or b false) false)) (sym h) refl
