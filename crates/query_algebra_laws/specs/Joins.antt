-- Joins of bags.
use Rattle.std.specs.Prelude.{◌≡◌, ℕ, zero, suc, ◌+◌, ◌<◌, ◌≤◌, ◌⊎◌, Bool, true, false, cond, ◌&&◌, List, [], ◌∷◌, map, Option, Some, None, refl}
use Rattle.std.proofs.Common.{sym, ap, ap₂, ◌∙◌, arith, eqb, inl, inr}
use Rattle.std.proofs.Math.Path.{fun_ext}
use Rattle.std.proofs.lemmas.Bool.{ne_eqb, cases_Bool, cases_lt}
use Rattle.std.specs.List.{filter, AllByRecursion}
use Rattle.bags.specs.Bag.{total, SameBag}
use Rattle.bags.specs.BagLaws.{total-same, total-each, total-cond, total-map, total-flat_map, total-filter, total-swap, same-refl, same-map, same-filter, same-flat_map}
use Rattle.rdf_meaning.specs.Terms.{RdfTerm, same_term}
use Rattle.rdf_meaning.specs.TermLaws.{same_term-is, same_term-self, same_term_equiv}
use Rattle.query_eval_meaning.specs.Mapping.{Mapping, nothing, width, agree, agree_below, compatible, either, merge}
use Rattle.query_eval_meaning.specs.Eval.{join, or_alone, found, left_join}
use Rattle.query_eval_meaning.specs.Variables.{IsNarrow}
use Rattle.query_algebra_laws.specs.MappingLaws.{agreed}

pub same-join : (ls ls' bs bs' : List Mapping) → SameBag ls ls' → SameBag bs bs' → SameBag (join ls bs) (join ls' bs')
same-join ls ls' bs bs' s t =
    same-flat_map (λ a. map (merge a) (filter (compatible a) bs)) (λ a. map (merge a) (filter (compatible a) bs')) ls ls' s
    (λ a. same-map (merge a) (filter (compatible a) bs) (filter (compatible a) bs') (same-filter (compatible a) bs bs' t))

pub same-or_alone : (a : Mapping) (xs ys : List Mapping) → SameBag xs ys → SameBag (or_alone a xs) (or_alone a ys)
same-or_alone a [] [] s = same-refl _
same-or_alone a [] (y ∷ ys) s = absurd (let e : 0 ≡ 1 + total (λ y. 1) ys = s.totals (λ y. 1) in omega arith)
same-or_alone a (x ∷ xs) [] s = absurd (let e : 1 + total (λ y. 1) xs ≡ 0 = s.totals (λ y. 1) in omega arith)
same-or_alone a (x ∷ xs) (y ∷ ys) s = s

pub same-left_join : (f : (Mapping → Bool)) (ls ls' bs bs' : List Mapping) → SameBag ls ls' → SameBag bs bs' → SameBag (left_join f ls bs) (left_join f ls' bs')
same-left_join f ls ls' bs bs' s t =
    same-flat_map (λ a. or_alone a (filter f (map (merge a) (filter (compatible a) bs)))) (λ a. or_alone a (filter f (map (merge a) (filter (compatible a) bs')))) ls ls' s
    (λ a. same-or_alone a _ _ (same-filter f _ _ (same-map (merge a) (filter (compatible a) bs) (filter (compatible a) bs') (same-filter (compatible a) bs bs' t))))

pub total-or_alone : (g : Mapping → ℕ) (a : Mapping) (ms : List Mapping) → total g (or_alone a ms) ≡ cond (eqb (total (λ (m : Mapping). 1) ms) 0) (g a) (total g ms)
total-or_alone g a [] = omega arith
total-or_alone g a (m ∷ ms) = rw (ne_eqb (1 + total (λ m. 1) ms) 0 (λ e. absurd (omega arith))) refl

either-assoc : (x y b : Option RdfTerm) → either (either x y) b ≡ either x (either y b)
either-assoc (Some s) y b = refl
either-assoc None y b = refl

pub merge-assoc : (x y b : Mapping) → merge (merge x y) b ≡ merge x (merge y b)
merge-assoc x y b = fun_ext (λ v. either-assoc (x v) (y v) (b v))

pub total-joined : (g : Mapping → ℕ) (ls rs : List Mapping) → total g (join ls rs) ≡ total (λ a. total (λ b. cond (compatible a b) (g (merge a b)) 0) rs) ls
total-joined g ls rs =
    total-flat_map g (λ a. map (merge a) (filter (compatible a) rs)) ls
    ∙ total-same _ _ (λ a. total-map g (merge a) (filter (compatible a) rs) ∙ total-filter (λ b. g (merge a b)) (compatible a) rs) ls

pub total-found : (k : Mapping → ℕ) (f : Mapping → Bool) (bs : List Mapping) (a : Mapping) → total k (found f bs a) ≡ total (λ b. cond (compatible a b) (cond (f (merge a b)) (k (merge a b)) 0) 0) bs
total-found k f bs a =
    total-filter k f (map (merge a) (filter (compatible a) bs))
    ∙ total-map (λ m. cond (f m) (k m) 0) (merge a) (filter (compatible a) bs)
    ∙ total-filter (λ b. cond (f (merge a b)) (k (merge a b)) 0) (compatible a) bs

-- ---- a join either way round, and of three sides

agree-comm : (x y : Option RdfTerm) → agree x y ≡ agree y x
agree-comm (Some a) (Some b) = same_term_equiv.symm a b
agree-comm (Some a) None = refl
agree-comm None (Some b) = refl
agree-comm None None = refl

below-comm : (n : ℕ) (a b : Mapping) → agree_below n a b ≡ agree_below n b a
below-comm zero a b = refl
below-comm (suc v) a b = ap₂ (λ p q. p && q) (agree-comm (a v) (b v)) (below-comm v a b)

either-comm : (x y : Option RdfTerm) → agree x y ≡ true → either x y ≡ either y x
either-comm (Some a) (Some b) e = ap (λ (t : RdfTerm). Some t) (same_term-is a b e)
either-comm (Some a) None e = refl
either-comm None (Some b) e = refl
either-comm None None e = refl

pub merge-comm : (a b : Mapping) → IsNarrow a → IsNarrow b → compatible a b ≡ true → merge a b ≡ merge b a
merge-comm a b na nb e = fun_ext (λ v. at v (cases_lt v width))
  where
    at : (v : ℕ) → (v < width) ⊎ (width ≤ v) → merge a b v ≡ merge b a v
    at v (inl l) = either-comm (a v) (b v) (agreed width a b e v l)
    at v (inr l) = ap₂ either (na v l) (nb v l) ∙ sym (ap₂ either (nb v l) (na v l))

merged-comm : (g : Mapping → ℕ) (a b : Mapping) → IsNarrow a → IsNarrow b → cond (compatible a b) (g (merge a b)) 0 ≡ cond (compatible b a) (g (merge b a)) 0
merged-comm g a b na nb = go (cases_Bool (compatible a b))
  where
    turn : compatible a b ≡ compatible b a
    turn = below-comm width a b

    go : (compatible a b ≡ true) ⊎ (compatible a b ≡ false) → cond (compatible a b) (g (merge a b)) 0 ≡ cond (compatible b a) (g (merge b a)) 0
    go (inl e) = ap₂ (λ (t : Bool) (m : Mapping). cond t (g m) 0) turn (merge-comm a b na nb e)
    go (inr e) = ap (λ t. cond t (g (merge a b)) 0) e ∙ sym (ap (λ t. cond t (g (merge b a)) 0) (sym turn ∙ e))

-- a join's sides may change places
pub join-comm : (ls rs : List Mapping) → AllByRecursion IsNarrow ls → AllByRecursion IsNarrow rs → SameBag (join ls rs) (join rs ls)
join-comm ls rs nl nr = record {
  totals = λ g.
      total-joined g ls rs
      ∙ total-each _ _ IsNarrow (λ a na. total-each _ _ IsNarrow (λ b nb. merged-comm g a b na nb) rs nr) ls nl
      ∙ total-swap (λ a b. cond (compatible b a) (g (merge b a)) 0) ls rs
      ∙ sym (total-joined g rs ls);
}

agree-assoc : (x y z : Option RdfTerm) → (agree x y && agree (either x y) z) ≡ (agree y z && agree x (either y z))
agree-assoc None None None = refl
agree-assoc None None (Some c) = refl
agree-assoc None (Some b) None = refl
agree-assoc None (Some b) (Some c) = and_yes (same_term b c)
  where
    and_yes : (p : Bool) → p ≡ (p && true)
    and_yes true = refl
    and_yes false = refl
agree-assoc (Some a) None None = refl
agree-assoc (Some a) None (Some c) = refl
agree-assoc (Some a) (Some b) None = and_yes (same_term a b)
  where
    and_yes : (p : Bool) → (p && true) ≡ p
    and_yes true = refl
    and_yes false = refl
agree-assoc (Some a) (Some b) (Some c) = go (cases_Bool (same_term a b))
  where
    go : (same_term a b ≡ true) ⊎ (same_term a b ≡ false) → (same_term a b && same_term a c) ≡ (same_term b c && same_term a b)
    go (inl e) = rw (same_term-is a b e, same_term-self b) (yes (same_term b c))
      where
        yes : (p : Bool) → p ≡ (p && true)
        yes true = refl
        yes false = refl
    go (inr e) = rw e (no (same_term b c))
      where
        no : (p : Bool) → false ≡ (p && false)
        no true = refl
        no false = refl

and_pairs : (p q r s : Bool) → ((p && q) && (r && s)) ≡ ((p && r) && (q && s))
and_pairs true true r s = refl
and_pairs true false true s = refl
and_pairs true false false s = refl
and_pairs false q r s = refl

below-assoc : (n : ℕ) (a b c : Mapping) → (agree_below n a b && agree_below n (merge a b) c) ≡ (agree_below n b c && agree_below n a (merge b c))
below-assoc zero a b c = refl
below-assoc (suc v) a b c =
    and_pairs (agree (a v) (b v)) (agree_below v a b) (agree (merge a b v) (c v)) (agree_below v (merge a b) c)
    ∙ ap₂ (λ p q. p && q) (agree-assoc (a v) (b v) (c v)) (below-assoc v a b c)
    ∙ and_pairs (agree (b v) (c v)) (agree (a v) (merge b c v)) (agree_below v b c) (agree_below v a (merge b c))

cond_pair : (p q : Bool) (n : ℕ) → cond p (cond q n 0) 0 ≡ cond (p && q) n 0
cond_pair true q n = refl
cond_pair false q n = refl

merged-assoc : (g : Mapping → ℕ) (a b c : Mapping) →
    cond (compatible a b) (cond (compatible (merge a b) c) (g (merge (merge a b) c)) 0) 0 ≡ cond (compatible b c) (cond (compatible a (merge b c)) (g (merge a (merge b c))) 0) 0
merged-assoc g a b c =
    cond_pair (compatible a b) (compatible (merge a b) c) (g (merge (merge a b) c))
    ∙ ap₂ (λ (t : Bool) (m : Mapping). cond t (g m) 0) (below-assoc width a b c) (merge-assoc a b c)
    ∙ sym (cond_pair (compatible b c) (compatible a (merge b c)) (g (merge a (merge b c))))

-- three sides may be joined from either end
pub join-assoc : (xs ys zs : List Mapping) → SameBag (join (join xs ys) zs) (join xs (join ys zs))
join-assoc xs ys zs = record {
  totals = λ g.
      total-joined g (join xs ys) zs
      ∙ total-joined (λ m. total (λ c. cond (compatible m c) (g (merge m c)) 0) zs) xs ys
      ∙ total-same _ _ (λ a. total-same _ _ (λ b.
      sym (total-cond (compatible a b) (λ c. cond (compatible (merge a b) c) (g (merge (merge a b) c)) 0) zs)
      ∙ total-same _ _ (λ c. merged-assoc g a b c) zs) ys
      ∙ sym (total-joined (λ m. cond (compatible a m) (g (merge a m)) 0) ys zs)) xs
      ∙ sym (total-joined g xs (join ys zs));
}

-- one empty mapping beside a join changes nothing
below-nothing : (n : ℕ) (b : Mapping) → agree_below n nothing b ≡ true
below-nothing zero b = refl
below-nothing (suc v) b = below-nothing v b

pub join-nothing : (rs : List Mapping) → SameBag (join (nothing ∷ []) rs) rs
join-nothing rs = record {
  totals = λ g.
      total-joined g (nothing ∷ []) rs
      ∙ one (total (λ b. cond (compatible nothing b) (g (merge nothing b)) 0) rs)
      ∙ total-same _ _ (λ b. ap (λ t. cond t (g b) 0) (below-nothing width b)) rs;
}
  where
    one : (n : ℕ) → n + 0 ≡ n
    one n = omega arith

below-nothing_right : (n : ℕ) (a : Mapping) → agree_below n a nothing ≡ true
below-nothing_right n a = below-comm n a nothing ∙ below-nothing n a

merge-nothing : (a : Mapping) → merge a nothing ≡ a
merge-nothing a = fun_ext (λ v. at (a v))
  where
    at : (x : Option RdfTerm) → either x None ≡ x
    at (Some t) = refl
    at None = refl

pub join-nothing_right : (ls : List Mapping) → SameBag (join ls (nothing ∷ [])) ls
join-nothing_right ls = record {
  totals = λ g.
      total-joined g ls (nothing ∷ [])
      ∙ total-same _ _ (λ a. one (cond (compatible a nothing) (g (merge a nothing)) 0) ∙ ap₂ (λ (t : Bool) (m : Mapping). cond t (g m) 0) (below-nothing_right width a) (merge-nothing a)) ls;
}
  where
    one : (n : ℕ) → n + 0 ≡ n
    one n = omega arith
