-- The columns of coloured predicates.
use Rattle.std.proofs.Common.{◌≡◌, ◌≤◌, ◌&&◌, ◌||◌, ℕ, nat_eq, Bool, true, false, cond, is_some, List, [], ◌∷◌, Option, Some, None, map, length, Ordering, Less, Equal, Greater, refl, sym, ap, ◌∙◌, subst, arith}
use Rattle.std.specs.List.{list_any, AllByRecursion}
use Rattle.std.specs.Cmp.Lexicographic.{pointwise, nat_list_eq_equiv}
use Rattle.std.specs.Ordering.{nat_cmp, is_lt, ordering_reverse}
use Rattle.std.specs.BTreeMap.{is_at}
use Rattle.std.specs.Map.{lookup, keys_of}
use Rattle.bags.specs.BagLaws.{each-weaker}
use Rattle.bags.specs.Sort.{sort}
use Rattle.bags.specs.SortLaws.{each-sort}
use Rattle.std.proofs.lemmas.Slice.Eq.{bytes_eq-Decides}
use Rattle.layout_meaning.specs.Columns.{ColumnsOf, known_column, chosen, hash_columns, candidates_of}
use Rattle.layout_meaning.specs.Side.{Item, rows_of, first_of}
use Rattle.pred_colour_meaning.specs.Interference.{Graph, has, neighbours_of, interfere, IsInterference}
use Rattle.pred_colour_meaning.specs.Colouring.{rank, column_of, is_column, is_taken, IsLeastFree, IsColouring}
use Rattle.pred_colour_meaning.proofs.Ranks.{rank_total, tied}
use Rattle.pred_colour_meaning.proofs.Steps.{same_number, at_itself, each_has, key_of_column}
use Rattle.pred_colour.proofs.Joins.{any-map}
use Rattle.layout_standing_meaning.proofs.Each.{any-weaker}
use Rattle.layout_bulk_meaning.specs.Bulk.{by_entity, empty_side, placed_all}
use Rattle.layout_bulk_laws.specs.BulkStore.{HaveCandidates}
use Rattle.layout_columns_meaning.specs.BulkColours.{preds_under, entities_of, AreBulkColours}
use Rattle.layout_columns.specs.Entities.{is_pair, has_both}
use Rattle.layout_columns.proofs.ByEntity.{under_is, pick}
use Rattle.layout_coloured_laws.specs.OneRow.{TellApart, ColouredEntitiesHaveOneRow}
use Rattle.layout_coloured_laws.proofs.Places.{OwnColumns, all-fit, given-length}

and-true : (a b : Bool) → a ≡ true → b ≡ true → (a && b) ≡ true
and-true a b e f = rw (e, f) refl

and-second : (a b : Bool) → (a && b) ≡ true → b ≡ true
and-second true b h = h
and-second false b h = cc

and-first : (a b : Bool) → (a && b) ≡ true → a ≡ true
and-first true b h = refl
and-first false b h = cc

true-false : (b : Bool) → b ≡ true → b ≡ false → ⊥
true-false b e f = cc

-- ---- predicates of items

under-in : (items : List Item) (e p : ℕ) → has p (preds_under items e) ≡ true → has p (map (λ (x : Item). x.pred) items) ≡ true
under-in items e p h =
    any-map (nat_eq p) (λ (x : Item). x.pred) items
    ∙ any-weaker (is_pair e p) (λ (x : Item). nat_eq p x.pred) (λ x m. and-second (nat_eq e x.entity) (nat_eq p x.pred) m) items (sym (under_is e p items) ∙ h)

-- two predicates of an entity
meet : (items : List Item) (e p q : ℕ) → has p (preds_under items e) ≡ true → has q (preds_under items e) ≡ true → list_any (has_both p q) (entities_of items) ≡ true
meet items e p q h k =
    any-map (has_both p q) (λ (x : Item). preds_under items x.entity) items
    ∙ any-weaker (is_pair e p) (λ (x : Item). has_both p q (preds_under items x.entity)) each items (sym (under_is e p items) ∙ h)
  where
    each : (x : Item) → is_pair e p x ≡ true → has_both p q (preds_under items x.entity) ≡ true
    each x m =
        let n : e ≡ x.entity = same_number e x.entity (and-first (nat_eq e x.entity) (nat_eq p x.pred) m) in
        subst (λ (f : ℕ). has_both p q (preds_under items f) ≡ true) n (and-true (has p (preds_under items e)) (has q (preds_under items e)) h k)

interferes : (items : List Item) (e p q : ℕ) → has p (preds_under items e) ≡ true → has q (preds_under items e) ≡ true → nat_eq q p ≡ false → interfere (entities_of items) p q ≡ true
interferes items e p q h k differ = rw differ (meet items e p q h k)

-- ---- their colours differ

any-there : (t : ℕ → Bool) (q : ℕ) (xs : List ℕ) → has q xs ≡ true → t q ≡ true → list_any t xs ≡ true
any-there t q [] h e = cc
any-there t q (x ∷ xs) h e = by (nat_eq q x) refl h (any-there t q xs)
  where
    here : (a b : Bool) → a ≡ true → (a || b) ≡ true
    here true b k = refl
    here false b k = cc

    later : (a b : Bool) → b ≡ true → (a || b) ≡ true
    later true b k = refl
    later false b k = k

    by : (b : Bool) → nat_eq q x ≡ b → (b || has q xs) ≡ true → (has q xs ≡ true → t q ≡ true → list_any t xs ≡ true) → (t x || list_any t xs) ≡ true
    by true m k ih = here (t x) (list_any t xs) (subst (λ (n : ℕ). t n ≡ true) (same_number q x m) e)
    by false m k ih = later (t x) (list_any t xs) (ih k e)

before-apart : (entities : List (List ℕ)) (g : Graph) (k : ℕ) (colours : List (ℕ × ℕ)) (p q c : ℕ) → IsInterference entities g → IsColouring g k colours → interfere entities p q ≡ true → column_of colours p ≡ Some c → column_of colours q ≡ Some c
    → rank g q p ≡ Less → ⊥
before-apart entities g k colours p q c i coloured meets at_p at_q before =
    let there : has p (keys_of g) ≡ true = each_has (λ n. has n (keys_of g) ≡ true) (keys_of colours) p coloured.among (key_of_column colours p c at_p) in
    let free : IsLeastFree (is_taken g colours p) k (Some c) = subst (IsLeastFree (is_taken g colours p) k) at_p (coloured.least p there) in
    let lt : is_lt (rank g q p) ≡ true = ap is_lt before in
    let same : is_column c (column_of colours q) ≡ true = ap (is_column c) at_q ∙ self c in
    let taken : list_any (λ (r : ℕ). is_lt (rank g r p) && is_column c (column_of colours r)) (neighbours_of g p) ≡ true =
    any-there (λ (r : ℕ). is_lt (rank g r p) && is_column c (column_of colours r)) q (neighbours_of g p) (i.joined p q ∙ meets) (and-true (is_lt (rank g q p)) (is_column c (column_of colours q)) lt same) in
    true-false (is_taken g colours p c) taken free.1
  where
    self : (n : ℕ) → nat_eq n n ≡ true
    self n = grind arith

colours-apart : (entities : List (List ℕ)) (g : Graph) (k : ℕ) (colours : List (ℕ × ℕ)) (p q c : ℕ) → IsInterference entities g → IsColouring g k colours → interfere entities p q ≡ true → interfere entities q p ≡ true → column_of colours p ≡ Some c
    → column_of colours q ≡ Some c → p ≡ q
colours-apart entities g k colours p q c i coloured meets back at_p at_q = by (rank g q p) refl
  where
    by : (o : Ordering) → rank g q p ≡ o → p ≡ q
    by Less e = absurd (before-apart entities g k colours p q c i coloured meets at_p at_q e)
    by Equal e = sym (tied g q p e)
    by Greater e = absurd (before-apart entities g k colours q p c i coloured back at_q at_p ((rank_total g).antisymm p q ∙ ap ordering_reverse e))

-- ---- they are known under their IRIs

named : (iri_of : ℕ → List ℕ) (preds : List ℕ) (p : ℕ) (cs : List (ℕ × ℕ)) → ((q : ℕ) → has q preds ≡ true → iri_of p ≡ iri_of q → p ≡ q) → AllByRecursion (λ q. has q preds ≡ true) (keys_of cs)
    → lookup (pointwise nat_eq (iri_of p)) (map (λ (c : ℕ × ℕ). (iri_of c.0, c.1)) cs) ≡ column_of cs p
named iri_of preds p [] apart a = refl
named iri_of preds p (c ∷ cs) apart a = by (pointwise nat_eq (iri_of p) (iri_of c.0)) refl (is_at (nat_cmp p) c.0) refl (named iri_of preds p cs apart a.1)
  where
    by : (x : Bool) → pointwise nat_eq (iri_of p) (iri_of c.0) ≡ x → (y : Bool) → is_at (nat_cmp p) c.0 ≡ y → lookup (pointwise nat_eq (iri_of p)) (map (λ (d : ℕ × ℕ). (iri_of d.0, d.1)) cs) ≡ column_of cs p
        → cond x (Some c.1) (lookup (pointwise nat_eq (iri_of p)) (map (λ (d : ℕ × ℕ). (iri_of d.0, d.1)) cs)) ≡ cond y (Some c.1) (column_of cs p)
    by true e true f ih = refl
    by true e false f ih =
        let same : p ≡ c.0 = apart c.0 a.0 ((bytes_eq-Decides (iri_of p) (iri_of c.0)).0 e) in
        absurd (true-false (is_at (nat_cmp p) c.0) (subst (λ (n : ℕ). is_at (nat_cmp p) n ≡ true) same (at_itself p)) f)
    by false e true f ih =
        let same : p ≡ c.0 = (let m : p ≡ c.0 = grind arith in m) in
        absurd (true-false (pointwise nat_eq (iri_of p) (iri_of c.0)) (subst (λ (n : ℕ). pointwise nat_eq (iri_of p) (iri_of n) ≡ true) same (nat_list_eq_equiv.refl (iri_of p))) e)
    by false e false f ih = ih

coloured-in : (items : List Item) (g : Graph) (q : ℕ) → IsInterference (entities_of items) g → has q (keys_of g) ≡ true → has q (map (λ (x : Item). x.pred) items) ≡ true
coloured-in items g q i h =
    let k : list_any (λ (x : Item). has q (preds_under items x.entity)) items ≡ true = sym (any-map (has q) (λ (x : Item). preds_under items x.entity) items) ∙ sym (i.preds q) ∙ h in
    let one = pick (λ (x : Item). Unit {0}) (λ (x : Item). has q (preds_under items x.entity)) items (nothing items) k in
    under-in items one.item.entity q one.passes
  where
    nothing : (xs : List Item) → AllByRecursion (λ (x : Item). Unit {0}) xs
    nothing [] = tt
    nothing (x ∷ xs) = (tt, nothing xs)

known-is : (k : ℕ) (iri_of : ℕ → List ℕ) (items : List Item) (known : List (List ℕ × ℕ)) (p : ℕ) → TellApart iri_of items → (h : AreBulkColours k iri_of items known) → has p (map (λ (x : Item). x.pred) items) ≡ true
    → known_column known (iri_of p) ≡ column_of h.colours p
known-is k iri_of items known p apart h there =
    ap (λ (l : List (List ℕ × ℕ)). known_column l (iri_of p)) h.named
    ∙ named iri_of (map (λ (x : Item). x.pred) items) p h.colours (λ q a e. apart p q there a e)
    (each-weaker (λ (q : ℕ). has q (keys_of h.graph) ≡ true) (λ (q : ℕ). has q (map (λ (x : Item). x.pred) items) ≡ true) (λ q a. coloured-in items h.graph q h.interferes a) (keys_of h.colours) h.coloured.among)

-- ---- own columns

-- the column that a predicate takes first
abbrev first_column : ColumnsOf → (ℕ → List ℕ) → ℕ → ℕ
first_column columns iri_of p = first_of (candidates_of columns (iri_of p))

record Known (columns : ColumnsOf) (iri_of : ℕ → List ℕ) (colours : List (ℕ × ℕ)) (p : ℕ) : Type 0 where
  column : ℕ
  coloured : column_of colours p ≡ Some column
  alone : candidates_of columns (iri_of p) ≡ column ∷ []

known-here : (columns : ColumnsOf) (iri_of : ℕ → List ℕ) (items : List Item) (e p : ℕ) → TellApart iri_of items → (h : AreBulkColours columns.count iri_of items columns.known)
    → ((p : ℕ) → has p (preds_under items e) ≡ true → is_some (known_column columns.known (iri_of p)) ≡ true) → has p (preds_under items e) ≡ true → Known columns iri_of h.colours p
known-here columns iri_of items e p apart h all in_p = by (known_column columns.known (iri_of p)) refl
  where
    by : (o : Option ℕ) → known_column columns.known (iri_of p) ≡ o → Known columns iri_of h.colours p
    by None k = absurd (true-false (is_some (known_column columns.known (iri_of p))) (all p in_p) (ap is_some k))
    by (Some c) k = record {
      column = c;
      coloured = sym (known-is columns.count iri_of items columns.known p apart h (under-in items e p in_p)) ∙ k;
      alone = ap (λ (o : Option ℕ). chosen o (hash_columns columns.count (iri_of p) columns.hashes)) k;
    }

own-columns : (columns : ColumnsOf) (iri_of : ℕ → List ℕ) (items : List Item) (e : ℕ) → HaveCandidates columns → TellApart iri_of items → AreBulkColours columns.count iri_of items columns.known
    → ((p : ℕ) → has p (preds_under items e) ≡ true → is_some (known_column columns.known (iri_of p)) ≡ true) → OwnColumns columns iri_of (first_column columns iri_of) (λ p. has p (preds_under items e))
own-columns columns iri_of items e some apart h all = record {
  apart = differ;
  own = λ p in_p. (let k = known-here columns iri_of items e p apart h all in_p in k.alone ∙ ap (λ (c : ℕ). c ∷ []) (sym (ap first_of k.alone)));
  low = λ p in_p. some.first (iri_of p);
}
  where
    differ : (p q : ℕ) → has p (preds_under items e) ≡ true → has q (preds_under items e) ≡ true → first_column columns iri_of p ≡ first_column columns iri_of q → p ≡ q
    differ p q in_p in_q same = by (nat_eq q p) refl
      where
        a : Known columns iri_of h.colours p
        a = known-here columns iri_of items e p apart h all in_p

        b : Known columns iri_of h.colours q
        b = known-here columns iri_of items e q apart h all in_q

        equal : b.column ≡ a.column
        equal = sym (ap first_of b.alone) ∙ sym same ∙ ap first_of a.alone

        turn : nat_eq q p ≡ false → nat_eq p q ≡ false
        turn m = grind arith

        by : (c : Bool) → nat_eq q p ≡ c → p ≡ q
        by true m = sym (same_number q p m)
        by false m =
            colours-apart (entities_of items) h.graph columns.count h.colours p q a.column h.interferes h.coloured (interferes items e p q in_p in_q m) (interferes items e q p in_q in_p (turn m)) a.coloured
            (b.coloured ∙ ap (λ (c : ℕ). Some c) equal)

-- each item's predicate is one of its entity's
members : (xs : List Item) → AllByRecursion (λ (x : Item). (t : Item → Bool) → t x ≡ true → list_any t xs ≡ true) xs
members [] = tt
members (x ∷ xs) = (here, each-weaker (λ (y : Item). (t : Item → Bool) → t y ≡ true → list_any t xs ≡ true) (λ (y : Item). (t : Item → Bool) → t y ≡ true → list_any t (x ∷ xs) ≡ true) (λ y h t e. or-right (t x) (list_any t xs) (h t e)) xs (members xs))
  where
    or-right : (a b : Bool) → b ≡ true → (a || b) ≡ true
    or-right true b e = refl
    or-right false b e = e

    here : (t : Item → Bool) → t x ≡ true → (t x || list_any t xs) ≡ true
    here t e = rw e refl

each-under : (items : List Item) (e : ℕ) → AllByRecursion (λ (x : Item). x.entity ≡ e → has x.pred (preds_under items e) ≡ true) items
each-under items e =
    each-weaker (λ (x : Item). (t : Item → Bool) → t x ≡ true → list_any t items ≡ true) (λ (x : Item). x.entity ≡ e → has x.pred (preds_under items e) ≡ true)
    (λ x h m. under_is e x.pred items ∙ h (is_pair e x.pred) (and-true (nat_eq e x.entity) (nat_eq x.pred x.pred) (same e x.entity (sym m)) (same x.pred x.pred refl))) items (members items)
  where
    same : (a b : ℕ) → a ≡ b → nat_eq a b ≡ true
    same a b m = grind arith

pub one_row : ColouredEntitiesHaveOneRow
one_row columns iri_of items e some apart h all =
    let own = own-columns columns iri_of items e some apart h all in
    let t = placed_all iri_of (empty_side columns) (sort by_entity items) in
    let fit = all-fit iri_of (first_column columns iri_of) (λ p. has p (preds_under items e)) (empty_side columns) (sort by_entity items) e own
    (each-sort by_entity (λ (x : Item). x.entity ≡ e → has x.pred (preds_under items e) ≡ true) items (each-under items e)) (omega arith, tt) in
    let l : length (rows_of t.state.entities e) ≤ 1 = fit.0 in
    omega (arith, given-length 0 t.state.entities e)
