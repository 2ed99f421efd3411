-- The last SELECT and the step of DISTINCT are of the grammar's form, and read no primary table.
use Rattle.std.proofs.Common.{◌≡◌, ℕ, ◌+◌, ◌%◌, ◌<◌, ◌≤◌, ◌^◌, ◌⊎◌, inl, inr, Bool, true, false, if◌then◌else◌, List, [], ◌∷◌, ◌++◌, map, length, refl, arith, pos}
use Rattle.std.specs.Prelude.{zero, suc, codes}
use Rattle.std.proofs.lemmas.Bool.{and_from, and_parts, cases_Bool, le-leb, lt-ltb, ne_eqb}
use Rattle.std.proofs.lemmas.Fmt.{decimal_by_steps, length-decimal-le}
use Rattle.std.specs.Fmt.{decimal}
use Rattle.std.specs.List.{list_all, flat_map, AllByRecursion}
use Rattle.query_meaning.specs.declared.modifiers.Key.{Key}
use Rattle.query_meaning.specs.declared.modifiers.Modifiers.{Modifiers}
use Rattle.query_eval_meaning.specs.Mapping.{width}
use Rattle.table_meaning.specs.Names.{is_name, is_name_byte, body_words, source_words, order_words, value_words, test_words, case_words}
use Rattle.sql_meaning.specs.declared.expression.SqlExpr.TheVariants as sql
use Rattle.sql_meaning.specs.Scripts.{is_primary, core_refs, count_form}
use Rattle.sql_gen_answer_meaning.specs.Columns.{place_name}
use Rattle.sql_gen_step_laws.specs.Carried.{Name}
use Rattle.sql_gen_step_laws.specs.StepSelects.{left_alias, has, one_item, own_sql}
use Rattle.sql_gen_term_laws.specs.TermTable.{class_name, number_name, text_name, aux_name, term_alias, own_test, term_joins}
use Rattle.sql_gen_last_laws.specs.LastSelect.{once, class_key, key_by, four_keys, item_of, shown_items, keys_of, variables_of_keys, skip_of, last_core}
use Rattle.sql_gen_last_laws.specs.DistinctSelect.{distinct_core}
use Rattle.sql_gen_last_laws.proofs.LastRows.{rising}
use Rattle.sql_gen_form_laws.specs.Fits.{ExprFits, ItemsFit, JoinsFit, KeysFit, CoreFits, AreVariables}
use Rattle.sql_gen_form_laws.proofs.Names.{digit-byte, term-name, left-name, class-name, number-name, text-name, aux-name}
use Rattle.sql_gen_form_laws.proofs.Expressions.{name-fits, int-fits, first-fits}
use Rattle.sql_gen_form_laws.proofs.Parts.{no-items, next-item, one-before, step-items, items-more, no-joins, no-condition, no-keys, next-key, core-fits, sources-fit}
use Rattle.sql_gen_form_laws.proofs.Joins.{own-fits}
use Rattle.sql_gen_form_laws.proofs.Terms.{own_test-fits, term-joins_fit, term-joins_no_refs}
use Rattle.sql_gen_last_form_laws.specs.Bounds.{AreBounded}

-- ---- names by the place

all-last : (p : ℕ → Bool) (xs : List ℕ) (x : ℕ) → list_all p xs ≡ true → p x ≡ true → list_all p (xs ++ x ∷ []) ≡ true
all-last p [] x e q = and_from _ _ q refl
all-last p (y ∷ xs) x e q = let h = and_parts (p y) (list_all p xs) e in and_from _ _ h.0 (all-last p xs x h.1 q)

decimal-bytes : (n : ℕ) → n < 2 ^ 64 → list_all is_name_byte (decimal n) ≡ true
decimal-bytes = decimal_by_steps (λ m ds. list_all is_name_byte ds ≡ true) (λ m l. and_from _ _ (digit-byte m (omega arith)) refl) (λ m ds l h. all-last is_name_byte ds (48 + m % 10) h (digit-byte (m % 10) (omega arith)))

-- 64 bits take 20 digits
short : (n : ℕ) → n < 2 ^ 64 → length (decimal n) ≤ 20
short n l = length-decimal-le 20 n (omega arith) (omega arith) l

class-place : (n : ℕ) → n < 2 ^ 64 → is_name (place_name (codes "c") n) ≡ true
unfolding is_name body_words source_words order_words value_words test_words case_words
class-place n l = let s = short n l in and_from _ _ refl (and_from _ _ (decimal-bytes n l) (and_from _ _ (le-leb (length (place_name (codes "c") n)) 64 (omega arith)) refl))

text-place : (n : ℕ) → n < 2 ^ 64 → is_name (place_name (codes "t") n) ≡ true
unfolding is_name body_words source_words order_words value_words test_words case_words
text-place n l = let s = short n l in and_from _ _ refl (and_from _ _ (decimal-bytes n l) (and_from _ _ (le-leb (length (place_name (codes "t") n)) 64 (omega arith)) refl))

aux-place : (n : ℕ) → n < 2 ^ 64 → is_name (place_name (codes "a") n) ≡ true
unfolding is_name body_words source_words order_words value_words test_words case_words
aux-place n l = let s = short n l in and_from _ _ refl (and_from _ _ (decimal-bytes n l) (and_from _ _ (le-leb (length (place_name (codes "a") n)) 64 (omega arith)) refl))

-- ---- items and keys

shown-fit : (at : ℕ) (vs : List ℕ) → at + length vs < 2 ^ 64 → AreVariables vs → ItemsFit 1 (shown_items at vs)
shown-fit at [] l all = no-items 1
shown-fit at (v ∷ vs) l all =
    let b : at < 2 ^ 64 = omega arith in
    let a = term_alias v in
    let name = term-name v all.0 in
    let x = next-item 1 (item_of at v (codes "a") aux_name) (shown_items (at + 1) vs) (name-fits 0 a aux_name name aux-name) (aux-place at b) (shown-fit (at + 1) vs (omega arith) all.1) in
    let t = next-item 1 (item_of at v (codes "t") text_name) (item_of at v (codes "a") aux_name ∷ shown_items (at + 1) vs) (name-fits 0 a text_name name text-name) (text-place at b) x in
    next-item 1 (item_of at v (codes "c") class_name) (item_of at v (codes "t") text_name ∷ item_of at v (codes "a") aux_name ∷ shown_items (at + 1) vs) (name-fits 0 a class_name name class-name) (class-place at b) t

class-fits : (certain : List ℕ) (v : ℕ) → v < width → ExprFits 3 (class_key certain v)
class-fits certain v l = go (has certain v)
  where
    name : (n : ℕ) → ExprFits (n + 1) (sql.Name (term_alias v) class_name)
    name n = name-fits n (term_alias v) class_name (term-name v l) class-name

    go : (b : Bool) → ExprFits 3 (if b then sql.Name (term_alias v) class_name else sql.First (sql.Name (term_alias v) class_name ∷ sql.Int (pos 0) ∷ []))
    go true = name 2
    go false = first-fits 2 (sql.Name (term_alias v) class_name ∷ sql.Int (pos 0) ∷ []) (omega arith) (name 1, (int-fits 1 (pos 0) refl, tt))

abbrev Below : List Key → Type 0
Below ks = AllByRecursion (λ (k : Key). k.var < width) ks

keys-fit : (certain : List ℕ) (ks : List Key) → Below ks → KeysFit 3 (flat_map (four_keys certain) ks)
keys-fit certain [] all = no-keys 3
keys-fit certain (k ∷ ks) all =
    let a = term_alias k.var in
    let name = term-name k.var all.0 in
    let c = key_by k (class_key certain k.var) in
    let n = key_by k (sql.Name a number_name) in
    let t = key_by k (sql.Name a text_name) in
    let x = key_by k (sql.Name a aux_name) in
    let rest = flat_map (four_keys certain) ks in
    next-key 3 c (n ∷ t ∷ x ∷ rest) (class-fits certain k.var all.0) (next-key 3 n (t ∷ x ∷ rest) (name-fits 2 a number_name name number-name)
    (next-key 3 t (x ∷ rest) (name-fits 2 a text_name name text-name) (next-key 3 x rest (name-fits 2 a aux_name name aux-name) (keys-fit certain ks all.1))))

-- ---- the variables of the keys

once-below : (vs : List ℕ) → AreVariables vs → AreVariables (once vs)
once-below [] all = tt
once-below (v ∷ vs) all = go (cases_Bool (has vs v)) (once-below vs all.1)
  where
    go : (has vs v ≡ true) ⊎ (has vs v ≡ false) → AreVariables (once vs) → AreVariables (once (v ∷ vs))
    go (inl e) r = rw e r
    go (inr e) r = rw e (all.0, r)

vars-below : (ks : List Key) → Below ks → AreVariables (variables_of_keys ks)
vars-below [] all = tt
vars-below (k ∷ ks) all = (all.0, vars-below ks all.1)

rising-below : (vs : List ℕ) → AreVariables vs → Below (map rising vs)
rising-below [] all = tt
rising-below (v ∷ vs) all = (all.0, rising-below vs all.1)

both-below : (ks ls : List Key) → Below ks → Below ls → Below (ks ++ ls)
both-below [] ls p q = q
both-below (k ∷ ks) ls p q = (p.0, both-below ks ls p.1 q)

skip-fits : (n : ℕ) → n < 1000000000000000000 → count_form (skip_of n) ≡ true
skip-fits zero l = refl
skip-fits (suc n) l = rw (ne_eqb (suc n) 0 (λ e. absurd (omega arith))) (lt-ltb (suc n) 1000000000000000000 l)

-- ---- the whole

pub last-fits : (a terms : Name) → is_name a ≡ true → is_name terms ≡ true → (vs certain : List ℕ) (q : Modifiers) → AreBounded q → CoreFits 3 (last_core a terms vs certain q)
last-fits a terms p r vs certain q b =
    let ks = keys_of q in
    let all : Below ks = both-below q.keys (map rising q.shown) b.keys (rising-below q.shown b.shown) in
    let us = once (variables_of_keys ks) in
    let places = b.places in
    let joins : JoinsFit 3 (term_joins terms (own_test vs) us) = term-joins_fit 3 terms r (own_test vs) (own_test-fits vs) us (once-below (variables_of_keys ks) (vars-below ks all)) in
    let items = items-more 1 3 (one_item ∷ shown_items 1 q.shown) (omega arith) (one-before 0 (shown_items 1 q.shown) (shown-fit 1 q.shown (omega arith) b.shown)) in
    core-fits 3 (last_core a terms vs certain q) (omega arith) items (sources-fit 3 a left_alias (term_joins terms (own_test vs) us) p left-name joins) joins.depth (no-condition 3) (keys-fit certain ks all) b.most (skip-fits q.skip b.skip)

pub last-no_refs : (a terms : Name) → is_primary a ≡ false → is_primary terms ≡ false → (vs certain : List ℕ) (q : Modifiers) → core_refs (last_core a terms vs certain q) ≡ 0
last-no_refs a terms p r vs certain q = rw (p, term-joins_no_refs terms r (own_test vs) (once (variables_of_keys (keys_of q)))) refl

pub distinct-fits : (a : Name) → is_name a ≡ true → (vs us : List ℕ) → AreVariables us → CoreFits 1 (distinct_core a vs us)
distinct-fits a p vs us w =
    core-fits 1 (distinct_core a vs us) (omega arith) (step-items 0 (own_sql vs) us (own-fits vs) w) (sources-fit 1 a left_alias [] p left-name (no-joins 1)) (omega arith) (no-condition 1) (no-keys 1) refl refl

pub distinct-no_refs : (a : Name) → is_primary a ≡ false → (vs us : List ℕ) → core_refs (distinct_core a vs us) ≡ 0
distinct-no_refs a p vs us = rw p refl
