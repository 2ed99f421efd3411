-- Predicates in the order of their turns.
use Rattle.std.proofs.Common.{◌≡◌, ℕ, nat_eq, ◌||◌, Bool, false, Greater, List, [], ◌∷◌, map, length, Less, Equal, refl, sym, ap, ap₂, ◌∙◌, arith}
use Rattle.std.specs.declared.cmp.Ordering.{Ordering}
use Rattle.std.specs.List.{list_any, AllByRecursion}
use Rattle.std.specs.List.Sorted.{IsStrictlySortedBy, IsSortedByClosure, IsStableByClosure}
use Rattle.std.specs.Ordering.{is_lt, nat_cmp, ordering_then}
use Rattle.std.specs.Borrow.{Bor}
use Rattle.std.specs.Fn.{Mut, Called}
use Rattle.std.specs.Cmp.{IsTotalOrder}
use Rattle.std.specs.BTreeMap.{is_at}
use Rattle.std.specs.Map.{keys_of}
use Rattle.std.proofs.lemmas.Cmp.{nat_cmp_total, on_total, back_total, then_total}
use Rattle.std.proofs.lemmas.Fn.{always_returns_same}
use Rattle.std.proofs.lemmas.List.Sorted.{ranks_by}
use Rattle.bags.specs.Sort.{sort}
use Rattle.bags.specs.SortLaws.{each-sort}
use Rattle.bags.specs.StableLaws.{sort-stable}
use Rattle.pred_colour_meaning.specs.Interference.{Graph, has}
use Rattle.pred_colour_meaning.specs.Colouring.{rank, degree}
use Rattle.pred_colour_meaning.proofs.Ranks.{nat_tied, AreApart, strict-sort, any-sort}
use Rattle.pred_colour_meaning.proofs.Steps.{at_itself}
use Rattle.pred_colour.specs.declared.turns.Turn.{Turn}
use Rattle.pred_colour.specs.Turns.{turn_of, pred_of, turn_order}
use Rattle.pred_colour.proofs.Joins.{any-map}

-- what a stable sort by a closure gives, where each call compares by this order
pub sorted_by_calls : {X F : Type 0} {g : Mut F (Bor X × (Bor X × Unit {0})) Ordering} {f : F} (cmp : X → X → Ordering) → IsTotalOrder cmp → (xs ys : List X)
    → IsSortedByClosure g f ys → IsStableByClosure g f xs ys
    → ((a : Bor X × (Bor X × Unit {0})) (r : Ordering) (f' : F) → Called g f a r f' → (r ≡ cmp a.0.now a.1.0.now) × (f' ≡ f)) → ys ≡ sort cmp xs
sorted_by_calls {g = g} {f = f} cmp total xs ys sorted stable calls =
    let weak = ranks_by total (λ x. x) in
    let same = always_returns_same g (λ a r. is_lt r ≡ is_lt (cmp a.0.now a.1.0.now)) f (λ a r f' k. (ap is_lt (calls a r f' k).0, (calls a r f' k).1)) in
    sort-stable cmp total xs ys (sorted (λ x y. is_lt (cmp x y)) weak same) (stable (λ x y. is_lt (cmp x y)) weak same)

pub turns_total : IsTotalOrder turn_order
turns_total = then_total {R = λ (a b : Turn). nat_cmp b.degree a.degree} {S = λ (a b : Turn). nat_cmp a.pred b.pred}
    (back_total (on_total (λ (t : Turn). t.degree) nat_cmp_total)) (on_total (λ (t : Turn). t.pred) nat_cmp_total)

same_pred : (a b : Turn) → turn_order a b ≡ Equal → a.pred ≡ b.pred
same_pred a b h = by (nat_cmp b.degree a.degree) h
  where
    by : (o : Ordering) → ordering_then o (nat_cmp a.pred b.pred) ≡ Equal → a.pred ≡ b.pred
    by Less e = cc
    by Equal e = nat_tied a.pred b.pred e
    by Greater e = cc

turns-apart : (g : Graph) → IsStrictlySortedBy nat_cmp (keys_of g) → AreApart turn_order (map turn_of g)
unfolding IsStrictlySortedBy
turns-apart [] s = tt
turns-apart (e ∷ g) s = (each g s.0, turns-apart g s.1)
  where
    differ : (x y : ℕ) → nat_cmp x y ≡ Less → x ≡ y → ⊥
    differ x y l k = grind arith

    each : (g : Graph) → AllByRecursion (λ y. nat_cmp e.0 y ≡ Less) (keys_of g) → AllByRecursion (λ t. turn_order (turn_of e) t ≡ Equal → ⊥) (map turn_of g)
    each [] a = tt
    each (f ∷ g) a = ((λ k. differ e.0 f.0 a.0 (same_pred (turn_of e) (turn_of f) k)), each g a.1)

-- a turn has the number of neighbours of its predicate
HasDegree : Graph → Turn → Type 0
HasDegree g t = t.degree ≡ degree g t.pred

degree-later : (e : ℕ × List ℕ) (g : Graph) (p : ℕ) → nat_cmp e.0 p ≡ Less → degree (e ∷ g) p ≡ degree g p
degree-later e g p l = let h : is_at (nat_cmp p) e.0 ≡ false = grind arith in rw h refl

degrees : (g : Graph) → IsStrictlySortedBy nat_cmp (keys_of g) → AllByRecursion (HasDegree g) (map turn_of g)
unfolding IsStrictlySortedBy HasDegree
degrees [] s = tt
degrees (e ∷ g) s = (here, each g s.0 (degrees g s.1))
  where
    here : length e.1 ≡ degree (e ∷ g) e.0
    here = rw (at_itself e.0) refl

    each : (es : Graph) → AllByRecursion (λ y. nat_cmp e.0 y ≡ Less) (keys_of es) → AllByRecursion (HasDegree g) (map turn_of es) → AllByRecursion (HasDegree (e ∷ g)) (map turn_of es)
    each [] a d = tt
    each (f ∷ es) a d = (d.0 ∙ sym (degree-later e g f.0 a.0), each es a.1 d.1)

preds-strict : (g : Graph) (ts : List Turn) → AllByRecursion (HasDegree g) ts → IsStrictlySortedBy turn_order ts → IsStrictlySortedBy (rank g) (map pred_of ts)
unfolding IsStrictlySortedBy HasDegree
preds-strict g [] d s = tt
preds-strict g (t ∷ ts) d s = (each ts d.1 s.0, preds-strict g ts d.1 s.1)
  where
    each : (us : List Turn) → AllByRecursion (HasDegree g) us → AllByRecursion (λ u. turn_order t u ≡ Less) us → AllByRecursion (λ p. rank g t.pred p ≡ Less) (map pred_of us)
    each [] d a = tt
    each (u ∷ us) e a = (sym (ap₂ (λ (m n : ℕ). ordering_then (nat_cmp m n) (nat_cmp t.pred u.pred)) e.0 d.0) ∙ a.0, each us e.1 a.1)

pub turns_strict : (g : Graph) (turns : List Turn) (preds : List ℕ) → IsStrictlySortedBy nat_cmp (keys_of g) → turns ≡ sort turn_order (map turn_of g) → preds ≡ map pred_of turns → IsStrictlySortedBy (rank g) preds
turns_strict g turns preds s e h =
    rw (h, e) (preds-strict g (sort turn_order (map turn_of g)) (each-sort turn_order (HasDegree g) (map turn_of g) (degrees g s)) (strict-sort turns_total (map turn_of g) (turns-apart g s)))

keys-map : (p : ℕ) (g : Graph) → list_any (λ (t : Turn). nat_eq p t.pred) (map turn_of g) ≡ has p (keys_of g)
keys-map p [] = refl
keys-map p (e ∷ g) = ap (λ (b : Bool). nat_eq p e.0 || b) (keys-map p g)

pub turns_all : (g : Graph) (turns : List Turn) (preds : List ℕ) (p : ℕ) → turns ≡ sort turn_order (map turn_of g) → preds ≡ map pred_of turns → has p preds ≡ has p (keys_of g)
turns_all g turns preds p e h =
    ap (has p) (h ∙ ap (map pred_of) e) ∙ any-map (nat_eq p) pred_of (sort turn_order (map turn_of g)) ∙ any-sort turn_order (λ (t : Turn). nat_eq p t.pred) (map turn_of g) ∙ keys-map p g
