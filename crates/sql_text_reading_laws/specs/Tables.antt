-- The next token decides what is read of a script.
use Rattle.std.specs.Prelude.{Bool, true, false, IsTrue, List, [], ◌∷◌, ◌≡◌, ◌⊎◌}
use Rattle.std.proofs.Common.{refl, inl, inr}
use Rattle.grammar_meaning.specs.Outcome.{implies, every_of}
use Rattle.grammar_meaning.specs.Laws.{and_both}
use Rattle.grammar_decided_laws.specs.Decided.{goes_on, is_decided, refuses_all, Decided}
use Rattle.sql_meaning.specs.Kinds.{Kind, among, kinds, each}
use Rattle.sql_meaning.specs.Grammar.{Symbol, WholeScript, Steps, OneStep, OneBody, Unions, Plain, Parts, Ending, ItemList, OneItem, Sources, OneSource, OneJoin, Condition, KeyList, OneKey, Most, Skip, Expr, Simple, NullOf, Inner, More, Cases, Branches, OneBranch, Firsts}
use Rattle.sql_meaning.specs.Grammar.{Limit, rule, unlimited, full}
use Rattle.sql_meaning.specs.declared.token.Separator.TheVariants as sep
use Rattle.sql_text_cursor.specs.Table.{empty, begins, after, empty_right, begins_right}

abbrev pub begin : Symbol → Kind → Bool
begin s = among (begins s)

abbrev pub behind : Symbol → Kind → Bool
behind s = among (after s)

pub every_kind : (p : Kind → Bool) → ((k : Kind) → IsTrue (p k)) → (ks : List Kind) → IsTrue (every_of ks p)
every_kind p h [] = refl
every_kind p h (k ∷ ks) = and_both (p k) (every_of ks p) (h k) (every_kind p h ks)

pub after_right : (s : Symbol) → IsTrue (every_of kinds (λ k. implies (goes_on empty begin behind (rule unlimited s) k) (behind s k)))
after_right WholeScript = refl
after_right Steps = refl
after_right OneStep = refl
after_right OneBody = refl
after_right Unions = refl
after_right Plain = refl
after_right Parts = refl
after_right Ending = refl
after_right ItemList = refl
after_right OneItem = refl
after_right Sources = refl
after_right OneSource = refl
after_right OneJoin = refl
after_right Condition = refl
after_right KeyList = refl
after_right OneKey = refl
after_right Most = refl
after_right Skip = refl
after_right (Expr n) = refl
after_right Simple = refl
after_right NullOf = refl
after_right (Inner n) = refl
after_right (More sep.And n) = refl
after_right (More sep.Or n) = refl
after_right (More sep.Comma n) = refl
after_right (Cases n) = refl
after_right (Branches n) = refl
after_right (OneBranch n) = refl
after_right (Firsts n) = refl

pub passes : (s : Symbol) → IsTrue (is_decided (every_of kinds) empty begin behind (rule unlimited s))
passes WholeScript = refl
passes Steps = refl
passes OneStep = refl
passes OneBody = refl
passes Unions = refl
passes Plain = refl
passes Parts = refl
passes Ending = refl
passes ItemList = refl
passes OneItem = refl
passes Sources = refl
passes OneSource = refl
passes OneJoin = refl
passes Condition = refl
passes KeyList = refl
passes OneKey = refl
passes Most = refl
passes Skip = refl
passes (Expr n) = refl
passes Simple = refl
passes NullOf = refl
passes (Inner n) = refl
passes (More sep.And n) = refl
passes (More sep.Or n) = refl
passes (More sep.Comma n) = refl
passes (Cases n) = refl
passes (Branches n) = refl
passes (OneBranch n) = refl
passes (Firsts n) = refl

-- a limit takes expressions away alone, which read some tokens
abbrev pub Kept : Limit → Symbol → Type 0
Kept c s = (rule c s ≡ rule unlimited s) ⊎ ((rule c s ≡ refuses_all) × IsTrue (implies (empty s) false))

pub kept : (c : Limit) (s : Symbol) → Kept c s
kept c (Expr n) = by (c n) refl
  where
    by : (b : Bool) → c n ≡ b → Kept c (Expr n)
    by true e = inl (rw e refl)
    by false e = inr (rw e refl, refl)
kept c _ = inl refl

-- the tables of the grammar, beside the rules under a limit
abbrev pub tables : (c : Limit) → Decided full (rule c)
tables c = record {
  empty = empty;
  begins = begin;
  after = behind;
  every = every_of kinds;
  each = each;
  all = λ p h. every_kind p h kinds;
  empty_right = empty_right unlimited;
  begins_right = begins_right unlimited;
  empty_less = empty_right c;
  begins_less = begins_right c;
  after_right = after_right;
  decided = passes;
  cut = kept c;
}
