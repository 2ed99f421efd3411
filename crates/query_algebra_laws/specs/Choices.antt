-- Sums over terms that differ, and over what a variable may be bound to.
use Rattle.std.specs.Prelude.{◌≡◌, ℕ, ◌+◌, Bool, true, false, cond, ◌||◌, List, [], ◌∷◌, map, Option, Some, None, refl}
use Rattle.std.proofs.Common.{sym, ap, ◌∙◌, arith}
use Rattle.std.specs.List.{list_any}
use Rattle.bags.specs.Bag.{total}
use Rattle.bags.specs.BagLaws.{total-same, total-plus, total-none, total-map}
use Rattle.rdf_meaning.specs.Terms.{RdfTerm, same_term}
use Rattle.rdf_meaning.specs.TermLaws.{same_term-self, same_term_equiv}
use Rattle.query_eval_meaning.specs.Mapping.{agree, either}
use Rattle.query_eval_meaning.specs.Leaf.{choices}

-- each term stands once
abbrev pub Apart : List RdfTerm → Type 0
Apart [] = Unit {0}
Apart (t ∷ ts) = (list_any (same_term t) ts ≡ false) × Apart ts

-- a double sum over the pairs that are the same term
pub total-pairs : (F : RdfTerm → RdfTerm → ℕ) (ts : List RdfTerm) → Apart ts → total (λ s. total (λ t. cond (same_term s t) (F s t) 0) ts) ts ≡ total (λ s. F s s) ts
total-pairs F [] a = refl
total-pairs F (t ∷ ts) a =
    let mine : total (λ u. cond (same_term t u) (F t u) 0) ts ≡ 0 = total-none (same_term t) (F t) ts a.0 in
    let theirs : total (λ s. cond (same_term s t) (F s t) 0) ts ≡ 0 =
    total-same (λ s. cond (same_term s t) (F s t) 0) (λ s. cond (same_term t s) (F s t) 0) (λ s. ap (λ b. cond b (F s t) 0) (same_term_equiv.symm s t)) ts ∙ total-none (same_term t) (λ s. F s t) ts a.0 in
    let rest : total (λ s. total (λ u. cond (same_term s u) (F s u) 0) ts) ts ≡ total (λ s. F s s) ts = total-pairs F ts a.1 in
    let split : total (λ s. cond (same_term s t) (F s t) 0 + total (λ u. cond (same_term s u) (F s u) 0) ts) ts ≡ total (λ s. cond (same_term s t) (F s t) 0) ts + total (λ s. total (λ u. cond (same_term s u) (F s u) 0) ts) ts =
    total-plus (λ s. cond (same_term s t) (F s t) 0) (λ s. total (λ u. cond (same_term s u) (F s u) 0) ts) ts in
    rw (same_term-self t) (omega arith)

-- what two sides may bind a variable to, where they agree, is what either may bind it to
pub total-choices : (b c : Bool) (H : Option RdfTerm → ℕ) (ts : List RdfTerm) → Apart ts →
    total (λ x. total (λ y. cond (agree x y) (H (either x y)) 0) (choices c ts)) (choices b ts) ≡ total H (choices (b || c) ts)
total-choices true true H ts a =
    total-map (λ x. total (λ y. cond (agree x y) (H (either x y)) 0) (map (λ (t : RdfTerm). Some t) ts)) (λ (t : RdfTerm). Some t) ts
    ∙ total-same _ (λ s. total (λ t. cond (same_term s t) (H (Some s)) 0) ts) (λ s. total-map (λ y. cond (agree (Some s) y) (H (either (Some s) y)) 0) (λ (t : RdfTerm). Some t) ts) ts
    ∙ total-pairs (λ s t. H (Some s)) ts a
    ∙ sym (total-map H (λ (t : RdfTerm). Some t) ts)
total-choices true false H ts a =
    total-map (λ x. total (λ y. cond (agree x y) (H (either x y)) 0) (None ∷ [])) (λ (t : RdfTerm). Some t) ts
    ∙ total-same _ (λ s. H (Some s)) (λ s. omega arith) ts
    ∙ sym (total-map H (λ (t : RdfTerm). Some t) ts)
total-choices false true H ts a =
    let e : total (λ y. cond (agree None y) (H (either None y)) 0) (map (λ (t : RdfTerm). Some t) ts) ≡ total H (map (λ (t : RdfTerm). Some t) ts) = refl in
    omega arith
total-choices false false H ts a = omega arith
