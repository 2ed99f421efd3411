-- What is read of a text of few levels is read where expressions stand inside few others, and the other way round.
use Rattle.std.specs.Prelude.{Bool, true, false, if◌then◌else◌, List, ◌≡◌, ◌≤◌, ◌<◌, ℕ, ◌+◌, max}
use Rattle.std.proofs.Common.{refl, sym, subst, arith}
use Rattle.std.proofs.lemmas.Bool.{lt-ltb, ltb-true}
use Rattle.grammar_meaning.specs.Grammar.{Form, nothing, one, ◌⨾◌, ◌∣◌, many, Reads, read_nothing, read_one, read_rule, read_both, read_left, read_right, read_many}
use Rattle.sql_meaning.specs.Kinds.{Kind}
use Rattle.sql_meaning.specs.Scripts.{most_levels}
use Rattle.sql_meaning.specs.Grammar.{Symbol, Expr, Parsed, forms, rule, unlimited, limited, full, shallow}
use Rattle.sql_meaning.specs.declared.token.Placed.{Placed}
use Rattle.sql_text_reading_laws.specs.TokenForms.{HaveForms, left_forms}
use Rattle.sql_text_reading_laws.specs.Parts.{Holds, holds_nothing, holds_one, holds_call, holds_both, holds_left, holds_right, holds_many}
use Rattle.sql_text_reading_laws.specs.Scripts.{up, built}

-- the parts that are read, and that they are read where expressions stand inside few others if their levels are few
pub record Measured (f : Form Symbol Kind) (ts : List Placed) (n : Parsed) (us : List Placed) : Type 0 where
  pub levels : ℕ
  pub holds : Holds f n levels
  pub narrow : levels ≤ most_levels → Reads shallow f ts n us

-- at an expression of few levels the rules are the same
allowed : (s : Symbol) (k : ℕ) → up s k ≤ most_levels → rule limited s ≡ rule unlimited s
allowed (Expr m) k h = let e : limited m ≡ true = lt-ltb m most_levels (omega arith) in rw e refl
allowed _ k h = refl

up_le : (s : Symbol) (k : ℕ) → up s k ≤ most_levels → k ≤ most_levels
up_le (Expr m) k h = omega arith
up_le _ k h = h

pub measured : (f : Form Symbol Kind) (ts us : List Placed) (n : Parsed) → HaveForms ts → Reads full f ts n us → Measured f ts n us
measured f ts us n h read_nothing = record { levels = 0; holds = holds_nothing; narrow = λ k. read_nothing }
measured f ts us n h (read_one i) = record { levels = 0; holds = holds_one i h.0; narrow = λ k. read_one i }
measured f ts us n h (read_rule {s = s} {n = m} r) =
    let a = measured (rule unlimited s) ts us m h r in record {
      levels = up s a.levels;
      holds = holds_call (built unlimited s m a.levels a.holds);
      narrow = λ k. read_rule (subst (λ (z : Form Symbol Kind). Reads shallow z ts m us) (sym (allowed s a.levels k)) (a.narrow (up_le s a.levels k)));
    }
measured f ts us n h (read_both {f = f'} {g = g} {us = ws} {n = m} {m = m'} r q) =
    let a = measured f' ts ws m h r in let b = measured g ws us m' (left_forms unlimited f' ts ws m r h) q in record {
      levels = max a.levels b.levels;
      holds = holds_both a.holds b.holds;
      narrow = λ k. read_both (a.narrow (omega arith)) (b.narrow (omega arith));
    }
measured f ts us n h (read_left {f = f'} r) = let a = measured f' ts us n h r in record { levels = a.levels; holds = holds_left a.holds; narrow = λ k. read_left (a.narrow k) }
measured f ts us n h (read_right {g = g} r) = let a = measured g ts us n h r in record { levels = a.levels; holds = holds_right a.holds; narrow = λ k. read_right (a.narrow k) }
measured f ts us n h (read_many {f = f'} r) = let a = measured ((f' ⨾ many f') ∣ nothing) ts us n h r in record { levels = a.levels; holds = holds_many a.holds; narrow = λ k. read_many (a.narrow k) }

-- the parts that are read, of few levels
pub record Low (f : Form Symbol Kind) (n : Parsed) : Type 0 where
  pub levels : ℕ
  pub holds : Holds f n levels
  pub few : levels ≤ most_levels

none_read : {ts us : List Placed} {n : Parsed} → Reads shallow (one (λ k. false)) ts n us → ⊥
none_read (read_one h) = absurd cc

few_up : (s : Symbol) (k : ℕ) (ts us : List Placed) (n : Parsed) → Reads shallow (rule limited s) ts n us → k ≤ most_levels → up s k ≤ most_levels
few_up (Expr m) k ts us n r h = by (limited m) refl r
  where
    by : (b : Bool) → limited m ≡ b → Reads shallow (if b then forms (m + 1) else one (λ k. false)) ts n us → max (m + 1) k ≤ most_levels
    by true e q = let i : m < most_levels = ltb-true m most_levels e in omega arith
    by false e q = absurd (none_read q)
few_up _ k ts us n r h = h

pub low : (f : Form Symbol Kind) (ts us : List Placed) (n : Parsed) → HaveForms ts → Reads shallow f ts n us → Low f n
low f ts us n h read_nothing = record { levels = 0; holds = holds_nothing; few = omega arith }
low f ts us n h (read_one i) = record { levels = 0; holds = holds_one i h.0; few = omega arith }
low f ts us n h (read_rule {s = s} {n = m} r) =
    let a = low (rule limited s) ts us m h r in record { levels = up s a.levels; holds = holds_call (built limited s m a.levels a.holds); few = few_up s a.levels ts us m r a.few }
low f ts us n h (read_both {f = f'} {g = g} {us = ws} {n = m} {m = m'} r q) =
    let a = low f' ts ws m h r in let b = low g ws us m' (left_forms limited f' ts ws m r h) q in
    let i = a.few in let j = b.few in record { levels = max a.levels b.levels; holds = holds_both a.holds b.holds; few = omega arith }
low f ts us n h (read_left {f = f'} r) = let a = low f' ts us n h r in record { levels = a.levels; holds = holds_left a.holds; few = a.few }
low f ts us n h (read_right {g = g} r) = let a = low g ts us n h r in record { levels = a.levels; holds = holds_right a.holds; few = a.few }
low f ts us n h (read_many {f = f'} r) = let a = low ((f' ⨾ many f') ∣ nothing) ts us n h r in record { levels = a.levels; holds = holds_many a.holds; few = a.few }
