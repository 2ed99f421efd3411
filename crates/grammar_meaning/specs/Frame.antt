-- What is read, and what is a front, is a list of its own, whatever stands behind it.
use Rattle.std.specs.Prelude.{List, [], ◌∷◌, ◌++◌, ◌≡◌}
use Rattle.std.proofs.Common.{refl, sym, ap, subst, ◌∙◌, append_assoc}
use Rattle.grammar_meaning.specs.Grammar.{Form, nothing, ◌⨾◌, ◌∣◌, many, Node, Grammar, Reads, read_nothing, read_one, read_rule, read_both, read_left, read_right, read_many, Front, front_empty, front_one, front_rule, front_first, front_rest, front_left, front_right, front_many}

pub record ReadsAlone (G : Grammar) (f : Form G.Symbol G.Kind) (ts : List G.Token) (n : Node G.Token G.Tree) (us : List G.Token) : Type 0 where
  pub taken : List G.Token
  pub is : ts ≡ taken ++ us
  pub anywhere : (vs : List G.Token) → Reads G f (taken ++ vs) n vs

pub record FrontAlone (G : Grammar) (f : Form G.Symbol G.Kind) (ts us : List G.Token) : Type 0 where
  pub taken : List G.Token
  pub is : ts ≡ taken ++ us
  pub anywhere : (vs : List G.Token) → Front G f (taken ++ vs) vs

pub reads_alone : (G : Grammar) (f : Form G.Symbol G.Kind) (ts us : List G.Token) (n : Node G.Token G.Tree) → Reads G f ts n us → ReadsAlone G f ts n us
reads_alone G f ts us n read_nothing = record { taken = []; is = refl; anywhere = λ vs. read_nothing }
reads_alone G f ts us n (read_one {t = t} h) = record { taken = t ∷ []; is = refl; anywhere = λ vs. read_one h }
reads_alone G f ts us n (read_rule {s = s} {n = m} r) = let a = reads_alone G (G.rule s) ts us m r in record { taken = a.taken; is = a.is; anywhere = λ vs. read_rule (a.anywhere vs) }
reads_alone G f ts us n (read_both {f = h} {g = g} {us = ws} {n = l} {m = m} r q) =
    let a = reads_alone G h ts ws l r in let b = reads_alone G g ws us m q in record {
      taken = a.taken ++ b.taken;
      is = a.is ∙ ap (λ z. a.taken ++ z) b.is ∙ sym (append_assoc a.taken b.taken us);
      anywhere = λ vs. subst (λ (z : List G.Token). Reads G f z n vs) (sym (append_assoc a.taken b.taken vs)) (read_both (a.anywhere (b.taken ++ vs)) (b.anywhere vs));
    }
reads_alone G f ts us n (read_left {f = h} r) = let a = reads_alone G h ts us n r in record { taken = a.taken; is = a.is; anywhere = λ vs. read_left (a.anywhere vs) }
reads_alone G f ts us n (read_right {g = g} r) = let a = reads_alone G g ts us n r in record { taken = a.taken; is = a.is; anywhere = λ vs. read_right (a.anywhere vs) }
reads_alone G f ts us n (read_many {f = h} r) = let a = reads_alone G ((h ⨾ many h) ∣ nothing) ts us n r in record { taken = a.taken; is = a.is; anywhere = λ vs. read_many (a.anywhere vs) }

pub front_alone : (G : Grammar) (f : Form G.Symbol G.Kind) (ts us : List G.Token) → Front G f ts us → FrontAlone G f ts us
front_alone G f ts us front_empty = record { taken = []; is = refl; anywhere = λ vs. front_empty }
front_alone G f ts us (front_one {t = t} h) = record { taken = t ∷ []; is = refl; anywhere = λ vs. front_one h }
front_alone G f ts us (front_rule {s = s} r) = let a = front_alone G (G.rule s) ts us r in record { taken = a.taken; is = a.is; anywhere = λ vs. front_rule (a.anywhere vs) }
front_alone G f ts us (front_first {f = h} r) = let a = front_alone G h ts us r in record { taken = a.taken; is = a.is; anywhere = λ vs. front_first (a.anywhere vs) }
front_alone G f ts us (front_rest {f = h} {g = g} {us = ws} {n = l} r q) =
    let a = reads_alone G h ts ws l r in let b = front_alone G g ws us q in record {
      taken = a.taken ++ b.taken;
      is = a.is ∙ ap (λ z. a.taken ++ z) b.is ∙ sym (append_assoc a.taken b.taken us);
      anywhere = λ vs. subst (λ (z : List G.Token). Front G f z vs) (sym (append_assoc a.taken b.taken vs)) (front_rest (a.anywhere (b.taken ++ vs)) (b.anywhere vs));
    }
front_alone G f ts us (front_left {f = h} r) = let a = front_alone G h ts us r in record { taken = a.taken; is = a.is; anywhere = λ vs. front_left (a.anywhere vs) }
front_alone G f ts us (front_right {g = g} r) = let a = front_alone G g ts us r in record { taken = a.taken; is = a.is; anywhere = λ vs. front_right (a.anywhere vs) }
front_alone G f ts us (front_many {f = h} r) = let a = front_alone G ((h ⨾ many h) ∣ nothing) ts us r in record { taken = a.taken; is = a.is; anywhere = λ vs. front_many (a.anywhere vs) }
