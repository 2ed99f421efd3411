-- Each leaf has a flow, and one alone, which takes each of its patterns once.
use Rattle.std.specs.Prelude.{◌≡◌, ℕ, zero, suc, ◌+◌, ◌<◌, ◌≤◌, ◌⊎◌, Bool, true, false, cond, not, ◌==◌, List, [], ◌∷◌, ◌++◌, length, map, refl}
use Rattle.std.proofs.Common.{sym, ap, ap₂, ◌∙◌, subst, arith, inl, inr}
use Rattle.std.proofs.lemmas.Bool.{cases_Bool}
use Rattle.std.proofs.lemmas.List.{append_assoc, append-nil}
use Rattle.std.specs.List.{filter, AllByRecursion, IsDistinct}
use Rattle.std.specs.Cmp.{IsTotalOrder}
use Rattle.std.proofs.lemmas.Cmp.{nat_cmp_total}
use Rattle.std.proofs.lemmas.Map.Lookups.{exact_unsigned}
use Rattle.std.specs.Ordering.{nat_cmp, is_le}
use Rattle.bags.specs.Bag.{total, SameBag}
use Rattle.bags.specs.BagLaws.{each-filter}
use Rattle.bags.specs.SortLaws.{le-trans, le-self, le-from, tied-from}
use Rattle.bags.specs.ItemsLaws.{items_total, items_ties}
use Rattle.layout_meaning.specs.Facts.{CountsOf}
use Rattle.query_meaning.specs.declared.pattern.Pattern.{Pattern}
use Rattle.query_eval_meaning.specs.Variables.{Variables, pattern_variables}
use Rattle.query_flow_meaning.specs.declared.step.Method.{Method}
use Rattle.query_flow_meaning.specs.declared.step.Method.TheVariants.{Direct, Reverse, Scan}
use Rattle.query_flow_meaning.specs.Flow.{Choice, rank, method_rank, choice_order, allowed_by, is_allowed, IsIn, IsLeast, same_number, others, IsFlowFrom, IsFlow, better, with_pattern, patterns_in, IsGreedy, least_from, least_of, flow_from, flow_of}

-- ---- the order of choices

order_total : (counts : CountsOf) → IsTotalOrder (choice_order counts)
order_total counts =
    let o = items_total nat_cmp nat_cmp_total [] in
    record { antisymm = λ c d. o.antisymm (rank counts c) (rank counts d); trans = λ c d e. o.trans (rank counts c) (rank counts d) (rank counts e); congr = λ c d e. o.congr (rank counts c) (rank counts d) (rank counts e) }

abbrev at_most : CountsOf → Choice → Choice → Type 0
at_most counts c d = is_le (choice_order counts c d) ≡ true

most-self : (counts : CountsOf) (c : Choice) → at_most counts c c
most-self counts c = le-self (order_total counts) c

most-trans : (counts : CountsOf) (c d e : Choice) → at_most counts c d → at_most counts d e → at_most counts c e
most-trans counts c d e a b = le-trans (order_total counts) c d e a b

abbrev first_of : List ℕ → ℕ
first_of [] = 0
first_of (x ∷ xs) = x

abbrev rest_of : List ℕ → List ℕ
rest_of [] = []
rest_of (x ∷ xs) = xs

method-is : (m n : Method) → method_rank m ≡ method_rank n → m ≡ n
method-is Direct Direct e = refl
method-is Direct Reverse e = absurd (let k : 0 ≡ 1 = e in omega arith)
method-is Direct Scan e = absurd (let k : 0 ≡ 2 = e in omega arith)
method-is Reverse Direct e = absurd (let k : 1 ≡ 0 = e in omega arith)
method-is Reverse Reverse e = refl
method-is Reverse Scan e = absurd (let k : 1 ≡ 2 = e in omega arith)
method-is Scan Direct e = absurd (let k : 2 ≡ 0 = e in omega arith)
method-is Scan Reverse e = absurd (let k : 2 ≡ 1 = e in omega arith)
method-is Scan Scan e = refl

-- choices that tie are of one pattern's number and one method
tied : (counts : CountsOf) (c d : Choice) → at_most counts c d → at_most counts d c → (c.pattern.number ≡ d.pattern.number) × (c.method ≡ d.method)
tied counts c d a b =
    let e : rank counts c ≡ rank counts d = items_ties nat_cmp exact_unsigned [] (rank counts c) (rank counts d) (tied-from (order_total counts) c d a b) in
    (ap (λ (xs : List ℕ). first_of (rest_of xs)) e, method-is c.method d.method (ap (λ (xs : List ℕ). first_of (rest_of (rest_of xs))) e))

-- ---- the least choice is found

-- the choice is at most all that are allowed of a pattern
abbrev IsUnder : CountsOf → Variables → Choice → Pattern → Type 0
IsUnder counts vs c p = (m : Method) → allowed_by vs p m ≡ true → at_most counts c (record { pattern = p; method = m })

record Better (counts : CountsOf) (ok : Bool) (best c new : Choice) : Type 0 where
  under : at_most counts new best
  other : ok ≡ true → at_most counts new c
  one : (new ≡ best) ⊎ ((new ≡ c) × (ok ≡ true))

better-is : (counts : CountsOf) (ok : Bool) (best c : Choice) → Better counts ok best c (better counts ok best c)
better-is counts false best c = record { under = most-self counts best; other = λ e. cc; one = inl refl }
better-is counts true best c = at (cases_Bool (is_le (choice_order counts best c)))
  where
    at : (is_le (choice_order counts best c) ≡ true) ⊎ (is_le (choice_order counts best c) ≡ false) → Better counts true best c (better counts true best c)
    at (inl h) = rw h (record { under = most-self counts best; other = λ e. h; one = inl refl })
    at (inr h) = rw h (record { under = le-from (order_total counts) best c h; other = λ e. most-self counts c; one = inr (refl, refl) })

record Least (counts : CountsOf) (vs : Variables) (start : Choice) (ps : List Pattern) (new : Choice) : Type 0 where
  under : at_most counts new start
  each : AllByRecursion (IsUnder counts vs new) ps
  one : (new ≡ start) ⊎ (IsIn new.pattern ps × (allowed_by vs new.pattern new.method ≡ true))

record OfPattern (counts : CountsOf) (vs : Variables) (best : Choice) (p : Pattern) (new : Choice) : Type 0 where
  under : at_most counts new best
  each : IsUnder counts vs new p
  one : (new ≡ best) ⊎ ((new.pattern ≡ p) × (allowed_by vs new.pattern new.method ≡ true))

abbrev by : Pattern → Method → Choice
by p m = record { pattern = p; method = m }

pattern-is : (counts : CountsOf) (vs : Variables) (best : Choice) (p : Pattern) → OfPattern counts vs best p (with_pattern counts vs best p)
pattern-is counts vs best p =
    let a = better counts (allowed_by vs p Direct) best (by p Direct) in
    let b = better counts (allowed_by vs p Reverse) a (by p Reverse) in
    let c = better counts true b (by p Scan) in
    let x : Better counts (allowed_by vs p Direct) best (by p Direct) a = better-is counts (allowed_by vs p Direct) best (by p Direct) in
    let y : Better counts (allowed_by vs p Reverse) a (by p Reverse) b = better-is counts (allowed_by vs p Reverse) a (by p Reverse) in
    let z : Better counts true b (by p Scan) c = better-is counts true b (by p Scan) in
    let ca : at_most counts c a = most-trans counts c b a z.under y.under in
    record {
      under = most-trans counts c a best ca x.under;
      each = each c (λ h. most-trans counts c a (by p Direct) ca (x.other h)) (λ h. most-trans counts c b (by p Reverse) z.under (y.other h)) (z.other refl);
      one = one c b a z.one y.one x.one;
    }
  where
    each : (c : Choice) → (allowed_by vs p Direct ≡ true → at_most counts c (by p Direct)) → (allowed_by vs p Reverse ≡ true → at_most counts c (by p Reverse)) → at_most counts c (by p Scan) → IsUnder counts vs c p
    each c x y z Direct h = x h
    each c x y z Reverse h = y h
    each c x y z Scan h = z

    Of : Choice → Type 0
    Of new = (new ≡ best) ⊎ ((new.pattern ≡ p) × (allowed_by vs new.pattern new.method ≡ true))

    own : (m : Method) (new : Choice) → new ≡ by p m → allowed_by vs p m ≡ true → (new ≡ best) ⊎ ((new.pattern ≡ p) × (allowed_by vs new.pattern new.method ≡ true))
    own m new e h = inr (ap (λ (d : Choice). d.pattern) e, ap (λ (d : Choice). allowed_by vs d.pattern d.method) e ∙ h)

    one : (c b a : Choice) → (c ≡ b) ⊎ ((c ≡ by p Scan) × (true ≡ true)) → (b ≡ a) ⊎ ((b ≡ by p Reverse) × (allowed_by vs p Reverse ≡ true)) → (a ≡ best) ⊎ ((a ≡ by p Direct) × (allowed_by vs p Direct ≡ true)) →
        (c ≡ best) ⊎ ((c.pattern ≡ p) × (allowed_by vs c.pattern c.method ≡ true))
    one c b a (inr h) y x = own Scan c h.0 refl
    one c b a (inl h) (inr k) x = own Reverse c (h ∙ k.0) k.1
    one c b a (inl h) (inl k) (inr l) = own Direct c (h ∙ k ∙ l.0) l.1
    one c b a (inl h) (inl k) (inl l) = inl (h ∙ k ∙ l)

under-more : (counts : CountsOf) (vs : Variables) (new c : Choice) (p : Pattern) → at_most counts new c → IsUnder counts vs c p → IsUnder counts vs new p
under-more counts vs new c p a u m h = most-trans counts new c (by p m) a (u m h)

least-is : (counts : CountsOf) (vs : Variables) (start : Choice) (ps : List Pattern) → Least counts vs start ps (least_from counts vs start ps)
least-is counts vs start [] = record { under = most-self counts start; each = tt; one = inl refl }
least-is counts vs start (p ∷ ps) =
    let c = with_pattern counts vs start p in
    let h = pattern-is counts vs start p in
    let k = least-is counts vs c ps in
    let new = least_from counts vs c ps in
    record { under = most-trans counts new c start k.under h.under; each = (under-more counts vs new c p k.under h.each, k.each); one = one new c k.one h.one }
  where
    one : (new c : Choice) → (new ≡ c) ⊎ (IsIn new.pattern ps × (allowed_by vs new.pattern new.method ≡ true)) → (c ≡ start) ⊎ ((c.pattern ≡ p) × (allowed_by vs c.pattern c.method ≡ true)) →
        (new ≡ start) ⊎ (IsIn new.pattern (p ∷ ps) × (allowed_by vs new.pattern new.method ≡ true))
    one new c (inr k) h = inr (inr k.0, k.1)
    one new c (inl e) (inl h) = inl (e ∙ h)
    one new c (inl e) (inr h) = inr (inl (sym (ap (λ (d : Choice). d.pattern) e ∙ h.0)), ap (λ (d : Choice). allowed_by vs d.pattern d.method) e ∙ h.1)

pub least_of-is : (counts : CountsOf) (taken : List Pattern) (p : Pattern) (ps : List Pattern) → IsLeast counts taken (p ∷ ps) (least_of counts taken p ps)
least_of-is counts taken p ps =
    let h = least-is counts (pattern_variables taken) (by p Scan) (p ∷ ps) in
    let c = least_of counts taken p ps in
    record { there = there c h.one; allowed = allowed c h.one; least = h.each }
  where
    there : (c : Choice) → (c ≡ by p Scan) ⊎ (IsIn c.pattern (p ∷ ps) × (allowed_by (pattern_variables taken) c.pattern c.method ≡ true)) → IsIn c.pattern (p ∷ ps)
    there c (inl e) = inl (sym (ap (λ (d : Choice). d.pattern) e))
    there c (inr h) = h.0

    allowed : (c : Choice) → (c ≡ by p Scan) ⊎ (IsIn c.pattern (p ∷ ps) × (allowed_by (pattern_variables taken) c.pattern c.method ≡ true)) → is_allowed taken c ≡ true
    allowed c (inl e) = ap (is_allowed taken) e
    allowed c (inr h) = h.1

-- ---- the flow is found

same-self : (p : Pattern) → same_number p p ≡ true
same-self p = number p.number
  where
    number : (n : ℕ) → (n == n) ≡ true
    number n = grind arith

others-most : (p : Pattern) (ps : List Pattern) → length (others p ps) ≤ length ps
others-most p [] = omega arith
others-most p (q ∷ ps) = go (same_number p q) (others-most p ps)
  where
    go : (b : Bool) → length (others p ps) ≤ length ps → length (cond (not b) (q ∷ others p ps) (others p ps)) ≤ suc (length ps)
    go true h = omega arith
    go false h = omega arith

others-less : (p : Pattern) (ps : List Pattern) → IsIn p ps → length (others p ps) < length ps
others-less p [] h = absurd h
others-less p (q ∷ ps) (inl e) =
    let k : same_number p q ≡ true = subst (λ (r : Pattern). same_number p r ≡ true) (sym e) (same-self p) in
    rw k (let h : length (others p ps) ≤ length ps = others-most p ps in omega arith)
others-less p (q ∷ ps) (inr h) = go (same_number p q) (others-less p ps h)
  where
    go : (b : Bool) → length (others p ps) < length ps → length (cond (not b) (q ∷ others p ps) (others p ps)) < suc (length ps)
    go true k = omega arith
    go false k = omega arith

pub flow-found : (n : ℕ) (counts : CountsOf) (taken left : List Pattern) → length left ≤ n → IsFlowFrom counts taken left (flow_from n counts taken left)
flow-found zero counts taken [] l = refl
flow-found zero counts taken (p ∷ ps) l = absurd (omega arith)
flow-found (suc n) counts taken [] l = refl
flow-found (suc n) counts taken (p ∷ ps) l =
    let c = least_of counts taken p ps in
    let h = least_of-is counts taken p ps in
    let less : length (others c.pattern (p ∷ ps)) < suc (length ps) = others-less c.pattern (p ∷ ps) h.there in
    (h, flow-found n counts (taken ++ c.pattern ∷ []) (others c.pattern (p ∷ ps)) (omega arith))

pub flow_of-is : (counts : CountsOf) (patterns : List Pattern) → IsFlow counts patterns (flow_of counts patterns)
flow_of-is counts patterns = flow-found (length patterns) counts [] patterns (omega arith)

-- ---- there is one alone

at-in : {X : Type 0} (P : X → Type 0) (x : X) (xs : List X) → IsIn x xs → AllByRecursion P xs → P x
at-in P x [] h all = absurd h
at-in P x (y ∷ xs) (inl e) all = subst P e all.0
at-in P x (y ∷ xs) (inr h) all = at-in P x xs h all.1

-- of two patterns of the list with one number
one-pattern : (ps : List Pattern) → IsDistinct same_number ps → (p q : Pattern) → IsIn p ps → IsIn q ps → p.number ≡ q.number → p ≡ q
unfolding IsDistinct
one-pattern [] d p q h k e = absurd h
one-pattern (r ∷ ps) d p q (inl h) (inl k) e = sym h ∙ k
one-pattern (r ∷ ps) d p q (inl h) (inr k) e = absurd (apart (at-in (λ s. same_number r s ≡ false) q ps k d.0) (ap (λ (s : Pattern). s.number) h ∙ e))
  where
    apart : same_number r q ≡ false → r.number ≡ q.number → ⊥
    apart f g = grind arith
one-pattern (r ∷ ps) d p q (inr h) (inl k) e = absurd (apart (at-in (λ s. same_number r s ≡ false) p ps h d.0) (ap (λ (s : Pattern). s.number) k ∙ sym e))
  where
    apart : same_number r p ≡ false → r.number ≡ p.number → ⊥
    apart f g = grind arith
one-pattern (r ∷ ps) d p q (inr h) (inr k) e = one-pattern ps d.1 p q h k e

pub distinct-filter : {X : Type 0} (same : X → X → Bool) (p : X → Bool) (xs : List X) → IsDistinct same xs → IsDistinct same (filter p xs)
unfolding IsDistinct
distinct-filter same p [] d = tt
distinct-filter {X} same p (x ∷ xs) d = go (p x) (distinct-filter same p xs d.1)
  where
    go : (b : Bool) → IsDistinct same (filter p xs) → IsDistinct same (cond b (x ∷ filter p xs) (filter p xs))
    go true k = (each-filter (λ y. same x y ≡ false) p xs d.0, k)
    go false k = k

least-one : (counts : CountsOf) (taken left : List Pattern) → IsDistinct same_number left → (c d : Choice) → IsLeast counts taken left c → IsLeast counts taken left d → c ≡ d
least-one counts taken left u c d h k =
    let a : at_most counts c d = at-in (λ p. (m : Method) → allowed_by (pattern_variables taken) p m ≡ true → at_most counts c (by p m)) d.pattern left k.there h.least d.method k.allowed in
    let b : at_most counts d c = at-in (λ p. (m : Method) → allowed_by (pattern_variables taken) p m ≡ true → at_most counts d (by p m)) c.pattern left h.there k.least c.method h.allowed in
    let t = tied counts c d a b in
    ap₂ (λ (p : Pattern) (m : Method). by p m) (one-pattern left u c.pattern d.pattern h.there k.there t.0) t.1

pub flow-one : (counts : CountsOf) (taken left : List Pattern) → IsDistinct same_number left → (flow other : List Choice) → IsFlowFrom counts taken left flow → IsFlowFrom counts taken left other → flow ≡ other
flow-one counts taken left u [] [] f g = refl
flow-one counts taken left u [] (d ∷ ds) f g = absurd (subst (λ (ps : List Pattern). IsIn d.pattern ps) f g.0.there)
flow-one counts taken left u (c ∷ cs) [] f g = absurd (subst (λ (ps : List Pattern). IsIn c.pattern ps) g f.0.there)
flow-one counts taken left u (c ∷ cs) (d ∷ ds) f g =
    let e : c ≡ d = least-one counts taken left u c d f.0 g.0 in
    let same : IsFlowFrom counts (taken ++ c.pattern ∷ []) (others c.pattern left) ds = subst (λ (b : Choice). IsFlowFrom counts (taken ++ b.pattern ∷ []) (others b.pattern left) ds) (sym e) g.1 in
    ap₂ (λ (b : Choice) (bs : List Choice). b ∷ bs) e (flow-one counts (taken ++ c.pattern ∷ []) (others c.pattern left) (distinct-filter same_number (λ q. not (same_number c.pattern q)) left u) cs ds f.1 same)

-- ---- each pattern is taken once

-- others of which none has the number
no-other : (p : Pattern) (ps : List Pattern) → AllByRecursion (λ q. same_number p q ≡ false) ps → others p ps ≡ ps
no-other p [] a = refl
no-other p (q ∷ ps) a = rw a.0 (ap (λ (qs : List Pattern). q ∷ qs) (no-other p ps a.1))

taken-out : (g : Pattern → ℕ) (p : Pattern) (ps : List Pattern) → IsDistinct same_number ps → IsIn p ps → g p + total g (others p ps) ≡ total g ps
unfolding IsDistinct
taken-out g p [] d h = absurd h
taken-out g p (q ∷ ps) d (inl e) =
    let k : same_number p q ≡ true = subst (λ (r : Pattern). same_number p r ≡ true) (sym e) (same-self p) in
    let n : others p ps ≡ ps = no-other p ps (subst (λ (r : Pattern). AllByRecursion (λ s. same_number r s ≡ false) ps) e d.0) in
    rw (k, n) (ap (λ (r : Pattern). g r + total g ps) (sym e))
taken-out g p (q ∷ ps) d (inr h) =
    let k : same_number p q ≡ false = turned p.number q.number (at-in (λ s. same_number q s ≡ false) p ps h d.0) in
    rw k (let r : g p + total g (others p ps) ≡ total g ps = taken-out g p ps d.1 h in omega arith)
  where
    turned : (m n : ℕ) → (n == m) ≡ false → (m == n) ≡ false
    turned m n e = grind arith

pub flow-takes : (counts : CountsOf) (taken left : List Pattern) → IsDistinct same_number left → (flow : List Choice) → IsFlowFrom counts taken left flow → SameBag (map (λ (c : Choice). c.pattern) flow) left
flow-takes counts taken left u [] f = record { totals = λ g. ap (total g) (sym f) }
flow-takes counts taken left u (c ∷ cs) f = record {
  totals = λ g.
      ap (λ (n : ℕ). g c.pattern + n) ((flow-takes counts (taken ++ c.pattern ∷ []) (others c.pattern left) (distinct-filter same_number (λ q. not (same_number c.pattern q)) left u) cs f.1).totals g)
      ∙ taken-out g c.pattern left u f.0.there;
}

-- ---- each choice is the least one beside those that follow

-- what holds of the patterns holds of those of the flow
pub flow-each : (P : Pattern → Type 0) (counts : CountsOf) (taken left : List Pattern) (flow : List Choice) → IsFlowFrom counts taken left flow → AllByRecursion P left → AllByRecursion (λ c. P c.pattern) flow
flow-each P counts taken left [] f all = tt
flow-each P counts taken left (c ∷ flow) f all =
    (at-in P c.pattern left f.0.there all, flow-each P counts (taken ++ c.pattern ∷ []) (others c.pattern left) flow f.1 (each-filter P (λ q. not (same_number c.pattern q)) left all))

each-of : (P : Pattern → Type 0) (flow : List Choice) → AllByRecursion (λ c. P c.pattern) flow → AllByRecursion P (patterns_in flow)
each-of P [] all = tt
each-of P (c ∷ flow) all = (all.0, each-of P flow all.1)

pub flow-least : (counts : CountsOf) (taken left : List Pattern) (before : List Choice) (c : Choice) (after : List Choice) → IsFlowFrom counts taken left (before ++ c ∷ after) → IsLeast counts (taken ++ patterns_in before) (patterns_in (c ∷ after)) c
flow-least counts taken left [] c after f =
    let P : Pattern → Type 0 = λ p. (m : Method) → allowed_by (pattern_variables taken) p m ≡ true → at_most counts c (by p m) in
    let here : IsLeast counts taken (patterns_in (c ∷ after)) c =
    record { there = inl refl; allowed = f.0.allowed; least = each-of P (c ∷ after) (flow-each P counts taken left (c ∷ after) f f.0.least) } in
    subst (λ (ps : List Pattern). IsLeast counts ps (patterns_in (c ∷ after)) c) (sym (append-nil taken)) here
flow-least counts taken left (d ∷ before) c after f =
    subst (λ (ps : List Pattern). IsLeast counts ps (patterns_in (c ∷ after)) c) (append_assoc taken (d.pattern ∷ []) (patterns_in before))
    (flow-least counts (taken ++ d.pattern ∷ []) (others d.pattern left) before c after f.1)

pub flow-greedy : (counts : CountsOf) (patterns : List Pattern) → IsDistinct same_number patterns → (flow : List Choice) → IsFlow counts patterns flow → IsGreedy counts patterns flow
flow-greedy counts patterns u flow f = record {
  once = flow-takes counts [] patterns u flow f;
  least = λ before c after e. flow-least counts [] patterns before c after (subst (λ (cs : List Choice). IsFlowFrom counts [] patterns cs) e f);
}
