-- Where the values of a predicate that isn't spilled stand.
use Rattle.std.proofs.Common.{◌≡◌, ℕ, ◌+◌, ◌≤◌, ◌==◌, ◌&&◌, ◌||◌, not, Bool, true, false, cond, if◌then◌else◌, List, [], ◌∷◌, Option, Some, None, refl, sym, ap, ◌∙◌, arith, subst}
use Rattle.std.specs.List.{filter, flat_map, list_any, AllByRecursion}
use Rattle.bags.specs.Bag.{total, SameBag}
use Rattle.bags.specs.BagLaws.{total-map, total-filter, total-each, total-append, total-cond, total-flat_map, each-weaker}
use Rattle.layout_meaning.specs.declared.value.Value.{Value}
use Rattle.layout_meaning.specs.Columns.{ColumnsOf}
use Rattle.layout_meaning.specs.Side.{Pair, Row, Item, ValueLists, is_pred, values_of, found_values, find_in_row, pair_items}
use Rattle.layout_meaning.specs.Sound.{one_if, has_pred}
use Rattle.layout_meaning.specs.Rows.{NumberedRow}
use Rattle.layout_standing_meaning.specs.Dictionary.{Entry}
use Rattle.layout_standing_meaning.specs.Contents.{SideContents, said, held_values}
use Rattle.layout_standing_meaning.specs.Standing.{SideStands, is_row, is_spilled_in}
use Rattle.layout_standing_meaning.proofs.Each.{each-part, each-two}

-- what a row has under a predicate, summed
abbrev pub row_sum : ValueLists → ℕ → (ℕ → ℕ) → NumberedRow → ℕ
row_sum lists p h r = total h (found_values lists (find_in_row p r.pairs))

abbrev pub item_sum : ℕ → ℕ → (ℕ → ℕ) → Item → ℕ
item_sum e p h x = cond (x.entity == e && x.pred == p) (h x.value) 0

none_found : (p : ℕ) (r : Row) → total (has_pred p) r ≡ 0 → find_in_row p r ≡ None
none_found p [] z = refl
none_found p (None ∷ r) z = none_found p r (omega arith)
none_found p (Some q ∷ r) z = by (q.pred == p) z (none_found p r)
  where
    by : (b : Bool) → one_if b + total (has_pred p) r ≡ 0 → (total (has_pred p) r ≡ 0 → find_in_row p r ≡ None) → (if b then Some q.value else find_in_row p r) ≡ None
    by true z ih = absurd (omega arith)
    by false z ih = ih (omega arith)

none_any : (p : ℕ) (r : Row) → list_any (is_pred p) r ≡ false → find_in_row p r ≡ None
none_any p [] z = refl
none_any p (None ∷ r) z = none_any p r z
none_any p (Some q ∷ r) z = by (q.pred == p) z (none_any p r)
  where
    by : (b : Bool) → (b || list_any (is_pred p) r) ≡ false → (list_any (is_pred p) r ≡ false → find_in_row p r ≡ None) → (if b then Some q.value else find_in_row p r) ≡ None
    by true z ih = cc
    by false z ih = ih z

pair_sum : (lists : ValueLists) (e p k : ℕ) (h : ℕ → ℕ) (q : Pair) → total (item_sum e p h) (pair_items lists k (Some q)) ≡ cond (k == e && q.pred == p) (total h (values_of lists q.value)) 0
pair_sum lists e p k h q =
    total-map (item_sum e p h) (λ v. record { entity = k; pred = q.pred; value = v }) (values_of lists q.value)
    ∙ total-cond (k == e && q.pred == p) h (values_of lists q.value)

pairs_sum : (lists : ValueLists) (e p k : ℕ) (h : ℕ → ℕ) (r : Row) → total (has_pred p) r ≤ 1 → total (item_sum e p h) (flat_map (pair_items lists k) r) ≡ cond (k == e) (total h (found_values lists (find_in_row p r))) 0
pairs_sum lists e p k h [] once = by (k == e)
  where
    by : (b : Bool) → ◌≡◌ {A = ℕ} 0 (cond b 0 0)
    by true = refl
    by false = refl
pairs_sum lists e p k h (None ∷ r) once = pairs_sum lists e p k h r (omega arith)
pairs_sum lists e p k h (Some q ∷ r) once =
    total-append (item_sum e p h) (pair_items lists k (Some q)) (flat_map (pair_items lists k) r)
    ∙ ap (λ (n : ℕ). n + total (item_sum e p h) (flat_map (pair_items lists k) r)) (pair_sum lists e p k h q)
    ∙ by (q.pred == p) (k == e) once (pairs_sum lists e p k h r)
  where
    by : (b a : Bool) → one_if b + total (has_pred p) r ≤ 1 → (total (has_pred p) r ≤ 1 → total (item_sum e p h) (flat_map (pair_items lists k) r) ≡ cond a (total h (found_values lists (find_in_row p r))) 0)
        → cond (a && b) (total h (values_of lists q.value)) 0 + total (item_sum e p h) (flat_map (pair_items lists k) r) ≡ cond a (total h (found_values lists (if b then Some q.value else find_in_row p r))) 0
    by true a once ih =
        let z : total (has_pred p) r ≡ 0 = omega arith in
        let n : total h (found_values lists (find_in_row p r)) ≡ 0 = ap (λ (o : Option Value). total h (found_values lists o)) (none_found p r z) in
        let i = ih (omega arith) in last a i n
      where
        last : (a : Bool) → total (item_sum e p h) (flat_map (pair_items lists k) r) ≡ cond a (total h (found_values lists (find_in_row p r))) 0 → total h (found_values lists (find_in_row p r)) ≡ 0
            → cond (a && true) (total h (values_of lists q.value)) 0 + total (item_sum e p h) (flat_map (pair_items lists k) r) ≡ cond a (total h (values_of lists q.value)) 0
        last true i n = omega arith
        last false i n = omega arith
    by false true once ih = (let i = ih (omega arith) in omega arith)
    by false false once ih = (let i = ih (omega arith) in omega arith)

-- the one row with a number
zero_sum : (test : NumberedRow → Bool) (F : NumberedRow → ℕ) (rows : List NumberedRow) → total (λ q. one_if (test q)) rows ≡ 0 → total (λ q. cond (test q) (F q) 0) rows ≡ 0
zero_sum test F [] z = refl
zero_sum test F (r ∷ rows) z = by (test r) z (zero_sum test F rows)
  where
    by : (b : Bool) → one_if b + total (λ q. one_if (test q)) rows ≡ 0 → (total (λ q. one_if (test q)) rows ≡ 0 → total (λ q. cond (test q) (F q) 0) rows ≡ 0) → cond b (F r) 0 + total (λ q. cond (test q) (F q) 0) rows ≡ 0
    by true z ih = absurd (omega arith)
    by false z ih = (let i = ih (omega arith) in omega arith)

abbrev pub Alone : (NumberedRow → ℕ) → List NumberedRow → NumberedRow → Type 0
Alone F rows r = (r.spill == 0) ≡ true → (1 ≤ total (λ q. one_if (is_row r.entity 0 q)) rows) × (total (λ q. cond (is_row r.entity 0 q) (F q) 0) rows ≡ F r)

pub each-alone : (F : NumberedRow → ℕ) (rows : List NumberedRow) → ((e : ℕ) → total (λ q. one_if (is_row e 0 q)) rows ≤ 1) → AllByRecursion (Alone F rows) rows
each-alone F [] once = tt
each-alone F (r ∷ rows) once = (
  λ (z : (r.spill == 0) ≡ true). first z,
  each-weaker (Alone F rows) (Alone F (r ∷ rows)) (λ (q : NumberedRow) (a : Alone F rows q) (z : (q.spill == 0) ≡ true). later q (a z) (is_row q.entity 0 r) refl) rows
      (each-alone F rows (λ (e : ℕ). (let o = once e in omega arith))),
)
  where
    first : (r.spill == 0) ≡ true → (1 ≤ one_if (is_row r.entity 0 r) + total (λ q. one_if (is_row r.entity 0 q)) rows) × (cond (is_row r.entity 0 r) (F r) 0 + total (λ q. cond (is_row r.entity 0 q) (F q) 0) rows ≡ F r)
    first z =
        let s : (r.entity == r.entity) ≡ true = grind arith in
        let t : is_row r.entity 0 r ≡ true = rw (s, z) refl in
        let one : one_if (is_row r.entity 0 r) ≡ 1 = ap one_if t in
        let o = once r.entity in
        let rest : total (λ q. cond (is_row r.entity 0 q) (F q) 0) rows ≡ 0 = zero_sum (is_row r.entity 0) F rows (omega arith) in
        let here : cond (is_row r.entity 0 r) (F r) 0 ≡ F r = ap (λ (b : Bool). cond b (F r) 0) t in
        (omega arith, omega arith)

    later : (q : NumberedRow) → (1 ≤ total (λ w. one_if (is_row q.entity 0 w)) rows) × (total (λ w. cond (is_row q.entity 0 w) (F w) 0) rows ≡ F q) → (b : Bool) → is_row q.entity 0 r ≡ b
        → (1 ≤ one_if (is_row q.entity 0 r) + total (λ w. one_if (is_row q.entity 0 w)) rows) × (cond (is_row q.entity 0 r) (F r) 0 + total (λ w. cond (is_row q.entity 0 w) (F w) 0) rows ≡ F q)
    later q a true t = let one : one_if (is_row q.entity 0 r) ≡ 1 = ap one_if t in (let o = once q.entity in let x = a.0 in absurd (omega arith))
    later q a false t =
        let none : cond (is_row q.entity 0 r) (F r) 0 ≡ 0 = ap (λ (b : Bool). cond b (F r) 0) t in
        ((let x = a.0 in omega arith), (let y = a.1 in omega arith))

-- rows behind the first have nothing
abbrev Behind : ℕ → NumberedRow → Type 0
Behind p r = (r.spill == 0) ≡ false → find_in_row p r.pairs ≡ None

behind : (p : ℕ) (rows : List NumberedRow) → is_spilled_in p rows ≡ false → AllByRecursion (Behind p) rows
behind p [] z = tt
behind p (r ∷ rows) z = by (r.spill == 0) refl (list_any (is_pred p) r.pairs) refl z (behind p rows)
  where
    by : (a : Bool) → (r.spill == 0) ≡ a → (b : Bool) → list_any (is_pred p) r.pairs ≡ b → (not a && b || is_spilled_in p rows) ≡ false → (is_spilled_in p rows ≡ false → AllByRecursion (Behind p) rows) → Behind p r × AllByRecursion (Behind p) rows
    by true s b t z ih = ((λ (e : (r.spill == 0) ≡ false). absurd (differ (sym s ∙ e))), ih z)
      where
        differ : true ≡ false → ⊥
        differ e = cc
    by false s true t z ih = cc
    by false s false t z ih = ((λ (e : (r.spill == 0) ≡ false). none_any p r.pairs t), ih z)

pub first : (columns : ColumnsOf) (es : List Entry) (s : SideContents) → SideStands columns es s → (p : ℕ) → is_spilled_in p s.rows ≡ false
    → AllByRecursion (λ (r : NumberedRow). (r.spill == 0) ≡ true → SameBag (found_values s.lists (find_in_row p r.pairs)) (held_values s r.entity p)) s.rows
first columns es s h p plain = all s.rows (λ F. each-alone F s.rows (λ (e : ℕ). h.rows_once e 0))
  where
    one_pair : AllByRecursion (λ (r : NumberedRow). (e : ℕ) → (if r.entity == e then total (has_pred p) r.pairs else 0) ≤ 1) s.rows
    one_pair = each-part (λ (e : ℕ) (r : NumberedRow). if r.entity == e then total (has_pred p) r.pairs else 0) (λ (e : ℕ). 1) s.rows (λ (e : ℕ). h.one_pair e p)

    Fine : NumberedRow → Type 0
    Fine r = (total (has_pred p) r.pairs ≤ 1) × Behind p r

    fine : AllByRecursion Fine s.rows
    fine = each-two (λ (r : NumberedRow). (e : ℕ) → (if r.entity == e then total (has_pred p) r.pairs else 0) ≤ 1) (Behind p) Fine
        (λ (r : NumberedRow) (a : (e : ℕ) → (if r.entity == e then total (has_pred p) r.pairs else 0) ≤ 1) (b : Behind p r). (own r (a r.entity), b)) s.rows one_pair (behind p s.rows plain)
      where
        own : (r : NumberedRow) → (if r.entity == r.entity then total (has_pred p) r.pairs else 0) ≤ 1 → total (has_pred p) r.pairs ≤ 1
        own r a = let k : (r.entity == r.entity) ≡ true = grind arith in subst (λ (b : Bool). (if b then total (has_pred p) r.pairs else 0) ≤ 1) k a

    each_row : (e : ℕ) (g : ℕ → ℕ) (r : NumberedRow) → Fine r → total (item_sum e p g) (flat_map (pair_items s.lists r.entity) r.pairs) ≡ cond (is_row e 0 r) (row_sum s.lists p g r) 0
    each_row e g r f = pairs_sum s.lists e p r.entity g r.pairs f.0 ∙ by (r.entity == e) (r.spill == 0) refl
      where
        by : (a b : Bool) → (r.spill == 0) ≡ b → cond a (row_sum s.lists p g r) 0 ≡ cond (a && b) (row_sum s.lists p g r) 0
        by true true t = refl
        by true false t = ap (λ (o : Option Value). total g (found_values s.lists o)) (f.1 t)
        by false b t = refl

    sum : (e : ℕ) (g : ℕ → ℕ) → total g (held_values s e p) ≡ total (λ (q : NumberedRow). cond (is_row e 0 q) (row_sum s.lists p g q) 0) s.rows
    sum e g =
        total-map g (λ (x : Item). x.value) (filter (λ (x : Item). x.entity == e && x.pred == p) (said s))
        ∙ total-filter (λ (x : Item). g x.value) (λ (x : Item). x.entity == e && x.pred == p) (said s)
        ∙ total-flat_map (item_sum e p g) (λ (r : NumberedRow). flat_map (pair_items s.lists r.entity) r.pairs) s.rows
        ∙ total-each _ _ Fine (each_row e g) s.rows fine

    all : (rows : List NumberedRow) → ((F : NumberedRow → ℕ) → AllByRecursion (Alone F s.rows) rows) → AllByRecursion (λ (r : NumberedRow). (r.spill == 0) ≡ true → SameBag (found_values s.lists (find_in_row p r.pairs)) (held_values s r.entity p)) rows
    all [] a = tt
    all (r ∷ rows) a = (
      (λ (z : (r.spill == 0) ≡ true). record { totals = λ (g : ℕ → ℕ). sym (sum r.entity g ∙ ((a (row_sum s.lists p g)).0 z).1) }),
      all rows (λ F. (a F).1),
    )
