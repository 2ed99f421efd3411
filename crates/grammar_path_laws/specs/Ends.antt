-- What is left behind a text or a front is an end of the tokens, and a shorter front is a front.
use Rattle.std.specs.Prelude.{Bool, List, [], ◌∷◌, ◌≡◌, ◌≤◌, ◌⊎◌, length, IsTrue}
use Rattle.std.proofs.Common.{refl, sym, subst, arith, inl, inr}
use Rattle.grammar_meaning.specs.Grammar.{Form, nothing, one, ◌⨾◌, ◌∣◌, many, Node, Grammar, Reads, read_nothing, read_one, read_rule, read_both, read_left, read_right, read_many, Front, front_empty, front_one, front_rule, front_first, front_rest, front_left, front_right, front_many}

-- the first list is an end of the second
pub data Ends {T : Type 0} : List T → List T → Type 0 where
  ends_here : {ts : List T} → Ends ts ts
  ends_later : {us ts : List T} {t : T} → Ends us ts → Ends us (t ∷ ts)

pub ends_all : {T : Type 0} (ts : List T) → Ends [] ts
ends_all [] = ends_here
ends_all (t ∷ ts) = ends_later (ends_all ts)

pub ends_trans : {T : Type 0} {us vs ts : List T} → Ends us vs → Ends vs ts → Ends us ts
ends_trans a ends_here = a
ends_trans a (ends_later b) = ends_later (ends_trans a b)

pub ends_le : {T : Type 0} {us ts : List T} → Ends us ts → length us ≤ length ts
ends_le ends_here = omega arith
ends_le (ends_later a) = let k = ends_le a in omega arith

-- of two ends of a list one is an end of the other
pub ends_either : {T : Type 0} {us vs ts : List T} → Ends us ts → Ends vs ts → Ends us vs ⊎ Ends vs us
ends_either a ends_here = inl a
ends_either ends_here b = inr b
ends_either (ends_later a) (ends_later b) = ends_either a b

pub ends_same : {T : Type 0} {us ts : List T} → Ends us ts → length ts ≤ length us → us ≡ ts
ends_same ends_here h = refl
ends_same (ends_later a) h = let k = ends_le a in absurd (omega arith)

-- the longer of two ends has the shorter one as its end
pub ends_longer : {T : Type 0} {us vs ts : List T} → Ends us ts → Ends vs ts → length us ≤ length vs → Ends us vs
ends_longer {us = us} {vs = vs} a b h = elim (ends_either a b) [ inl k ↦ k | inr k ↦ let e = ends_same k h in subst (λ (l : List _). Ends us l) (sym e) ends_here ]

pub reads_ends : (G : Grammar) (f : Form G.Symbol G.Kind) (ts us : List G.Token) (n : Node G.Token G.Tree) → Reads G f ts n us → Ends us ts
reads_ends G f ts us n read_nothing = ends_here
reads_ends G f ts us n (read_one h) = ends_later ends_here
reads_ends G f ts us n (read_rule {s = s} {n = m} r) = reads_ends G (G.rule s) ts us m r
reads_ends G f ts us n (read_both {f = f'} {g = g} {us = ws} {n = m} {m = m'} a b) = ends_trans (reads_ends G g ws us m' b) (reads_ends G f' ts ws m a)
reads_ends G f ts us n (read_left {f = f'} a) = reads_ends G f' ts us n a
reads_ends G f ts us n (read_right {g = g} a) = reads_ends G g ts us n a
reads_ends G f ts us n (read_many {f = f'} a) = reads_ends G ((f' ⨾ many f') ∣ nothing) ts us n a

pub front_ends : (G : Grammar) (f : Form G.Symbol G.Kind) (ts us : List G.Token) → Front G f ts us → Ends us ts
front_ends G f ts us front_empty = ends_here
front_ends G f ts us (front_one h) = ends_later ends_here
front_ends G f ts us (front_rule {s = s} r) = front_ends G (G.rule s) ts us r
front_ends G f ts us (front_first {f = f'} a) = front_ends G f' ts us a
front_ends G f ts us (front_rest {f = f'} {g = g} {us = ws} {n = m} a b) = ends_trans (front_ends G g ws us b) (reads_ends G f' ts ws m a)
front_ends G f ts us (front_left {f = f'} a) = front_ends G f' ts us a
front_ends G f ts us (front_right {g = g} a) = front_ends G g ts us a
front_ends G f ts us (front_many {f = f'} a) = front_ends G ((f' ⨾ many f') ∣ nothing) ts us a

one_shorter : (G : Grammar) (p : G.Kind → Bool) (t : G.Token) (ts ws : List G.Token) → IsTrue (p (G.kind t)) → Ends ts ws → Ends ws (t ∷ ts) → Front G (one p) (t ∷ ts) ws
one_shorter G p t ts ws h a ends_here = front_empty
one_shorter G p t ts ws h a (ends_later b) = let e = ends_same b (ends_le a) in subst (λ (l : List G.Token). Front G (one p) (t ∷ ts) l) (sym e) (front_one h)

-- some tokens of a text are a front
pub reads_shorter : (G : Grammar) (f : Form G.Symbol G.Kind) (ts us ws : List G.Token) (n : Node G.Token G.Tree) → Reads G f ts n us → Ends us ws → Ends ws ts → Front G f ts ws
reads_shorter G f ts us ws n read_nothing a b = let e = ends_same b (ends_le a) in subst (λ (l : List G.Token). Front G f ts l) (sym e) front_empty
reads_shorter G f ts us ws n (read_one {p = p} {t = t} h) a b = one_shorter G p t us ws h a b
reads_shorter G f ts us ws n (read_rule {s = s} {n = m} r) a b = front_rule (reads_shorter G (G.rule s) ts us ws m r a b)
reads_shorter G f ts us ws n (read_both {f = f'} {g = g} {us = xs} {n = m} {m = m'} r q) a b =
    elim (ends_either b (reads_ends G f' ts xs m r)) [
      | inl k ↦ front_rest r (reads_shorter G g xs us ws m' q a k)
      | inr k ↦ front_first (reads_shorter G f' ts xs ws m r k b)
    ]
reads_shorter G f ts us ws n (read_left {f = f'} r) a b = front_left (reads_shorter G f' ts us ws n r a b)
reads_shorter G f ts us ws n (read_right {g = g} r) a b = front_right (reads_shorter G g ts us ws n r a b)
reads_shorter G f ts us ws n (read_many {f = f'} r) a b = front_many (reads_shorter G ((f' ⨾ many f') ∣ nothing) ts us ws n r a b)

-- fewer tokens of a front are a front
pub front_shorter : (G : Grammar) (f : Form G.Symbol G.Kind) (ts us ws : List G.Token) → Front G f ts us → Ends us ws → Ends ws ts → Front G f ts ws
front_shorter G f ts us ws front_empty a b = let e = ends_same b (ends_le a) in subst (λ (l : List G.Token). Front G f ts l) (sym e) front_empty
front_shorter G f ts us ws (front_one {p = p} {t = t} h) a b = one_shorter G p t us ws h a b
front_shorter G f ts us ws (front_rule {s = s} r) a b = front_rule (front_shorter G (G.rule s) ts us ws r a b)
front_shorter G f ts us ws (front_first {f = f'} r) a b = front_first (front_shorter G f' ts us ws r a b)
front_shorter G f ts us ws (front_rest {f = f'} {g = g} {us = xs} {n = m} r q) a b =
    elim (ends_either b (reads_ends G f' ts xs m r)) [
      | inl k ↦ front_rest r (front_shorter G g xs us ws q a k)
      | inr k ↦ front_first (reads_shorter G f' ts xs ws m r k b)
    ]
front_shorter G f ts us ws (front_left {f = f'} r) a b = front_left (front_shorter G f' ts us ws r a b)
front_shorter G f ts us ws (front_right {g = g} r) a b = front_right (front_shorter G g ts us ws r a b)
front_shorter G f ts us ws (front_many {f = f'} r) a b = front_many (front_shorter G ((f' ⨾ many f') ∣ nothing) ts us ws r a b)
