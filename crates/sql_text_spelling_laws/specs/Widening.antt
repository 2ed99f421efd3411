-- What is read where expressions stand inside fewer than 1,024 others is read where they stand inside any number.
use Rattle.std.specs.Prelude.{Bool, true, false, if◌then◌else◌, List, ℕ, ◌+◌}
use Rattle.std.proofs.lemmas.Bool.{false≢true}
use Rattle.grammar_meaning.specs.Grammar.{Form, nothing, one, call, ◌⨾◌, ◌∣◌, many, Made, Reads, read_nothing, read_one, read_rule, read_both, read_left, read_right, read_many}
use Rattle.sql_meaning.specs.Kinds.{Kind}
use Rattle.sql_meaning.specs.Grammar.{Symbol, WholeScript, Steps, OneStep, OneBody, Unions, Plain, Parts, Ending, ItemList, OneItem, Sources, OneSource, OneJoin, Condition, KeyList, OneKey, Most, Skip, Expr, Simple, NullOf, Inner, More, Cases, Branches, OneBranch, Firsts}
use Rattle.sql_meaning.specs.Grammar.{Parsed, build, rule, forms, limited, full, shallow}
use Rattle.sql_meaning.specs.declared.token.Placed.{Placed}

at_expr : (k : ℕ) (b : Bool) (ts us : List Placed) (n : Parsed) → Reads full (if b then forms (k + 1) else one (λ j. false)) ts n us → Reads full (call (Expr k)) ts (Made (build (Expr k) n)) us
at_expr k true ts us n a = read_rule a
at_expr k false ts us n (read_one h) = absurd (false≢true h)

-- the rules differ at expressions alone
by_rule : (s : Symbol) (ts us : List Placed) (n : Parsed) → Reads full (rule limited s) ts n us → Reads full (call s) ts (Made (build s n)) us
by_rule WholeScript ts us n r = read_rule r
by_rule Steps ts us n r = read_rule r
by_rule OneStep ts us n r = read_rule r
by_rule OneBody ts us n r = read_rule r
by_rule Unions ts us n r = read_rule r
by_rule Plain ts us n r = read_rule r
by_rule Parts ts us n r = read_rule r
by_rule Ending ts us n r = read_rule r
by_rule ItemList ts us n r = read_rule r
by_rule OneItem ts us n r = read_rule r
by_rule Sources ts us n r = read_rule r
by_rule OneSource ts us n r = read_rule r
by_rule OneJoin ts us n r = read_rule r
by_rule Condition ts us n r = read_rule r
by_rule KeyList ts us n r = read_rule r
by_rule OneKey ts us n r = read_rule r
by_rule Most ts us n r = read_rule r
by_rule Skip ts us n r = read_rule r
by_rule (Expr k) ts us n r = at_expr k (limited k) ts us n r
by_rule Simple ts us n r = read_rule r
by_rule NullOf ts us n r = read_rule r
by_rule (Inner k) ts us n r = read_rule r
by_rule (More s k) ts us n r = read_rule r
by_rule (Cases k) ts us n r = read_rule r
by_rule (Branches k) ts us n r = read_rule r
by_rule (OneBranch k) ts us n r = read_rule r
by_rule (Firsts k) ts us n r = read_rule r

pub widened : (f : Form Symbol Kind) (ts us : List Placed) (n : Parsed) → Reads shallow f ts n us → Reads full f ts n us
widened f ts us n read_nothing = read_nothing
widened f ts us n (read_one h) = read_one h
widened f ts us n (read_rule {s = s} {n = m} r) = by_rule s ts us m (widened (rule limited s) ts us m r)
widened f ts us n (read_both {f = f'} {g = g} {us = vs} {n = m} {m = m'} a b) = read_both (widened f' ts vs m a) (widened g vs us m' b)
widened f ts us n (read_left {f = f'} a) = read_left (widened f' ts us n a)
widened f ts us n (read_right {g = g} a) = read_right (widened g ts us n a)
widened f ts us n (read_many {f = f'} a) = read_many (widened ((f' ⨾ many f') ∣ nothing) ts us n a)
