-- The laws of fronts.
use Rattle.std.specs.Prelude.{Bool, true, false, IsTrue, List, [], ◌∷◌, ◌≡◌, ◌≤◌, ◌⊎◌, length, ℕ}
use Rattle.std.proofs.Common.{refl, subst, arith, inl, inr, Some, zero, suc}
use Rattle.grammar_meaning.specs.Grammar.{Form, nothing, one, ◌⨾◌, ◌∣◌, many, Node, Grammar, Reads, read_nothing, read_one, read_rule, read_both, read_left, read_right, read_many, Front, front_empty, front_one, front_rule, front_first, front_rest, front_left, front_right, front_many}
use Rattle.grammar_meaning.specs.Outcome.{Begins, or, and, implies, nullable, first, Lookahead, every_of, at}

pub reads_front : (G : Grammar) (f : Form G.Symbol G.Kind) (ts us : List G.Token) (n : Node G.Token G.Tree) → Reads G f ts n us → Front G f ts us
reads_front G f ts us n read_nothing = front_empty
reads_front G f ts us n (read_one h) = front_one h
reads_front G f ts us n (read_rule {s = s} {n = m} r) = front_rule (reads_front G (G.rule s) ts us m r)
reads_front G f ts us n (read_both {g = g} {us = ws} {m = m} a b) = front_rest a (reads_front G g ws us m b)
reads_front G f ts us n (read_left {f = f'} a) = front_left (reads_front G f' ts us n a)
reads_front G f ts us n (read_right {g = g} a) = front_right (reads_front G g ts us n a)
reads_front G f ts us n (read_many {f = f'} a) = front_many (reads_front G ((f' ⨾ many f') ∣ nothing) ts us n a)

pub reads_le : (G : Grammar) (f : Form G.Symbol G.Kind) (ts us : List G.Token) (n : Node G.Token G.Tree) → Reads G f ts n us → length us ≤ length ts
reads_le G f ts us n read_nothing = omega arith
reads_le G f ts us n (read_one h) = omega arith
reads_le G f ts us n (read_rule {s = s} {n = m} r) = reads_le G (G.rule s) ts us m r
reads_le G f ts us n (read_both {f = f'} {g = g} {us = ws} {n = m} {m = m'} a b) = let x = reads_le G f' ts ws m a in let y = reads_le G g ws us m' b in omega arith
reads_le G f ts us n (read_left {f = f'} a) = reads_le G f' ts us n a
reads_le G f ts us n (read_right {g = g} a) = reads_le G g ts us n a
reads_le G f ts us n (read_many {f = f'} a) = reads_le G ((f' ⨾ many f') ∣ nothing) ts us n a

-- tests
pub or_l : (a b : Bool) → IsTrue a → IsTrue (or a b)
or_l true b h = refl
or_l false b h = cc

pub or_r : (a b : Bool) → IsTrue b → IsTrue (or a b)
or_r true b h = refl
or_r false b h = h

pub and_both : (a b : Bool) → IsTrue a → IsTrue b → IsTrue (and a b)
and_both true b h k = k
and_both false b h k = cc

pub and_l : (a b : Bool) → IsTrue (and a b) → IsTrue a
and_l true b h = refl
and_l false b h = cc

pub and_r : (a b : Bool) → IsTrue (and a b) → IsTrue b
and_r true b h = h
and_r false b h = cc

pub mp : (a b : Bool) → IsTrue (implies a b) → IsTrue a → IsTrue b
mp true b h k = h
mp false b h k = cc

many_first : (a n : Bool) → IsTrue (or (or a (and n a)) false) → IsTrue a
many_first true n h = refl
many_first false true h = h
many_first false false h = h

pub begins_mono : (G : Grammar) (p q : G.Kind → Bool) (ts : List G.Token) → ((k : G.Kind) → IsTrue (p k) → IsTrue (q k)) → Begins G p ts → Begins G q ts
begins_mono G p q [] h b = b
begins_mono G p q (t ∷ ts) h b = h (G.kind t) b

-- a form that reads a text either reads the empty one, or the first token begins it
pub reads_begins : (G : Grammar) (L : Lookahead G) (f : Form G.Symbol G.Kind) (ts us : List G.Token) (n : Node G.Token G.Tree) → Reads G f ts n us
    → (IsTrue (nullable L.empty f) × (us ≡ ts)) ⊎ Begins G (first L.empty L.begins f) ts
reads_begins G L f ts us n read_nothing = inl (refl, refl)
reads_begins G L f ts us n (read_one h) = inr h
reads_begins G L f ts us n (read_rule {s = s} {n = m} r) =
    elim (reads_begins G L (G.rule s) ts us m r) [
      | inl h ↦ inl (mp (nullable L.empty (G.rule s)) (L.empty s) (L.empty_right s) h.0, h.1)
      | inr h ↦ inr (begins_mono G (first L.empty L.begins (G.rule s)) (L.begins s) ts
          (λ k. mp (first L.empty L.begins (G.rule s) k) (L.begins s k) (L.each (λ j. implies (first L.empty L.begins (G.rule s) j) (L.begins s j)) (L.begins_right s) k)) h)
    ]
reads_begins G L f ts us n (read_both {f = f'} {g = g} {us = ws} {n = m} {m = m'} a b) =
    elim (reads_begins G L f' ts ws m a) [
      | inl h ↦ elim (reads_begins G L g ws us m' b) [
        | inl k ↦ inl (and_both (nullable L.empty f') (nullable L.empty g) h.0 k.0, cc)
        | inr k ↦ inr (begins_mono G (first L.empty L.begins g) (first L.empty L.begins (f' ⨾ g)) ts
            (λ j i. or_r (first L.empty L.begins f' j) (and (nullable L.empty f') (first L.empty L.begins g j)) (and_both (nullable L.empty f') (first L.empty L.begins g j) h.0 i))
            (subst (λ (l : List G.Token). Begins G (first L.empty L.begins g) l) h.1 k))
      ]
      | inr h ↦ inr (begins_mono G (first L.empty L.begins f') (first L.empty L.begins (f' ⨾ g)) ts (λ j i. or_l (first L.empty L.begins f' j) (and (nullable L.empty f') (first L.empty L.begins g j)) i) h)
    ]
reads_begins G L f ts us n (read_left {f = f'} {g = g} a) =
    elim (reads_begins G L f' ts us n a) [
      | inl h ↦ inl (or_l (nullable L.empty f') (nullable L.empty g) h.0, h.1)
      | inr h ↦ inr (begins_mono G (first L.empty L.begins f') (first L.empty L.begins (f' ∣ g)) ts (λ j i. or_l (first L.empty L.begins f' j) (first L.empty L.begins g j) i) h)
    ]
reads_begins G L f ts us n (read_right {f = f'} {g = g} a) =
    elim (reads_begins G L g ts us n a) [
      | inl h ↦ inl (or_r (nullable L.empty f') (nullable L.empty g) h.0, h.1)
      | inr h ↦ inr (begins_mono G (first L.empty L.begins g) (first L.empty L.begins (f' ∣ g)) ts (λ j i. or_r (first L.empty L.begins f' j) (first L.empty L.begins g j) i) h)
    ]
reads_begins G L f ts us n (read_many {f = f'} a) =
    elim (reads_begins G L ((f' ⨾ many f') ∣ nothing) ts us n a) [
      | inl h ↦ inl (refl, h.1)
      | inr h ↦ inr (begins_mono G (first L.empty L.begins ((f' ⨾ many f') ∣ nothing)) (first L.empty L.begins f') ts (λ j i. many_first (first L.empty L.begins f' j) (nullable L.empty f') i) h)
    ]

-- so does a front of a form
pub front_begins : (G : Grammar) (L : Lookahead G) (f : Form G.Symbol G.Kind) (ts us : List G.Token) → Front G f ts us
    → (us ≡ ts) ⊎ Begins G (first L.empty L.begins f) ts
front_begins G L f ts us front_empty = inl refl
front_begins G L f ts us (front_one h) = inr h
front_begins G L f ts us (front_rule {s = s} r) =
    elim (front_begins G L (G.rule s) ts us r) [
      | inl h ↦ inl h
      | inr h ↦ inr (begins_mono G (first L.empty L.begins (G.rule s)) (L.begins s) ts
          (λ k. mp (first L.empty L.begins (G.rule s) k) (L.begins s k) (L.each (λ j. implies (first L.empty L.begins (G.rule s) j) (L.begins s j)) (L.begins_right s) k)) h)
    ]
front_begins G L f ts us (front_first {f = f'} {g = g} a) =
    elim (front_begins G L f' ts us a) [
      | inl h ↦ inl h
      | inr h ↦ inr (begins_mono G (first L.empty L.begins f') (first L.empty L.begins (f' ⨾ g)) ts (λ j i. or_l (first L.empty L.begins f' j) (and (nullable L.empty f') (first L.empty L.begins g j)) i) h)
    ]
front_begins G L f ts us (front_rest {f = f'} {g = g} {us = ws} {n = m} a b) =
    elim (reads_begins G L f' ts ws m a) [
      | inl h ↦ elim (front_begins G L g ws us b) [
        | inl k ↦ inl cc
        | inr k ↦ inr (begins_mono G (first L.empty L.begins g) (first L.empty L.begins (f' ⨾ g)) ts
            (λ j i. or_r (first L.empty L.begins f' j) (and (nullable L.empty f') (first L.empty L.begins g j)) (and_both (nullable L.empty f') (first L.empty L.begins g j) h.0 i))
            (subst (λ (l : List G.Token). Begins G (first L.empty L.begins g) l) h.1 k))
      ]
      | inr h ↦ inr (begins_mono G (first L.empty L.begins f') (first L.empty L.begins (f' ⨾ g)) ts (λ j i. or_l (first L.empty L.begins f' j) (and (nullable L.empty f') (first L.empty L.begins g j)) i) h)
    ]
front_begins G L f ts us (front_left {f = f'} {g = g} a) =
    elim (front_begins G L f' ts us a) [
      | inl h ↦ inl h
      | inr h ↦ inr (begins_mono G (first L.empty L.begins f') (first L.empty L.begins (f' ∣ g)) ts (λ j i. or_l (first L.empty L.begins f' j) (first L.empty L.begins g j) i) h)
    ]
front_begins G L f ts us (front_right {f = f'} {g = g} a) =
    elim (front_begins G L g ts us a) [
      | inl h ↦ inl h
      | inr h ↦ inr (begins_mono G (first L.empty L.begins g) (first L.empty L.begins (f' ∣ g)) ts (λ j i. or_r (first L.empty L.begins f' j) (first L.empty L.begins g j) i) h)
    ]
front_begins G L f ts us (front_many {f = f'} a) =
    elim (front_begins G L ((f' ⨾ many f') ∣ nothing) ts us a) [
      | inl h ↦ inl h
      | inr h ↦ inr (begins_mono G (first L.empty L.begins ((f' ⨾ many f') ∣ nothing)) (first L.empty L.begins f') ts (λ j i. many_first (first L.empty L.begins f' j) (nullable L.empty f') i) h)
    ]

pub every_at : {K : Type 0} (p : K → Bool) (ks : List K) (n : ℕ) (k : K) → at ks n ≡ Some k → IsTrue (every_of ks p) → IsTrue (p k)
every_at p [] n k h e = cc
every_at p (j ∷ ks) zero k h e = let i : j ≡ k = cc in subst (λ x. IsTrue (p x)) i (and_l (p j) (every_of ks p) e)
every_at p (j ∷ ks) (suc n) k h e = every_at p ks n k h (and_r (p j) (every_of ks p) e)
