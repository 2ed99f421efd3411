-- What is no id stands nowhere.
use Rattle.std.proofs.Common.{◌≡◌, ℕ, ◌==◌, ◌&&◌, Bool, true, false, cond, List, [], ◌∷◌, map, Option, Some, None, refl, sym, ap, ◌∙◌, arith, subst}
use Rattle.std.specs.List.{filter, flat_map, AllByRecursion}
use Rattle.bags.specs.Bag.{SameBag}
use Rattle.bags.specs.BagLaws.{each-map, each-flat_map, each-weaker, each-any, same-refl}
use Rattle.rdf_meaning.specs.Terms.{RdfTerm, RdfTriple, same_term}
use Rattle.rdf_meaning.specs.TermLaws.{same_term-is}
use Rattle.layout_meaning.specs.Columns.{ColumnsOf}
use Rattle.layout_meaning.specs.Side.{Pair, Item, ValueLists, values_of, pair_items}
use Rattle.layout_meaning.specs.Rows.{NumberedRow}
use Rattle.layout_standing_meaning.specs.Dictionary.{Entry, AreEntries, HasIds, id_of, has_term, is_id}
use Rattle.layout_standing_meaning.specs.Contents.{SideContents, said, direct_item, reverse_item, held_values}
use Rattle.layout_standing_meaning.specs.Standing.{SideStands, IsPair, is_spilled_in}
use Rattle.layout_standing_meaning.proofs.Each.{each-two}
use Rattle.layout_facts_laws.proofs.Ids.{id-none, zero-none}
use Rattle.layout_facts_laws.proofs.Spilled.{plain_none}
use Rattle.layout_table_laws.proofs.Held.{held-direct, held-reverse}

-- an item whose entity and predicate are ids
abbrev IsKnown : List Entry → Item → Type 0
IsKnown es x = (is_id es x.entity ≡ true) × (is_id es x.pred ≡ true)

known-pair : (es : List Entry) (lists : ValueLists) (e : ℕ) → is_id es e ≡ true → (o : Option Pair) → IsPair es o → AllByRecursion (IsKnown es) (pair_items lists e o)
known-pair es lists e h None p = tt
known-pair es lists e h (Some q) p =
    each-map (IsKnown es) (λ (v : ℕ). let x : Item = record { entity = e; pred = q.pred; value = v } in x) (values_of lists q.value)
    (each-any (λ (v : ℕ). (is_id es e ≡ true) × (is_id es q.pred ≡ true)) (λ (v : ℕ). (h, p.0)) (values_of lists q.value))

known-said : (columns : ColumnsOf) (es : List Entry) (s : SideContents) → SideStands columns es s → AllByRecursion (IsKnown es) (said s)
known-said columns es s st =
    each-flat_map (IsKnown es) (λ (r : NumberedRow). flat_map (pair_items s.lists r.entity) r.pairs) s.rows
    (each-two (λ (r : NumberedRow). is_id es r.entity ≡ true) (λ (r : NumberedRow). AllByRecursion (IsPair es) r.pairs) (λ (r : NumberedRow). AllByRecursion (IsKnown es) (flat_map (pair_items s.lists r.entity) r.pairs))
    (λ (r : NumberedRow) (h : is_id es r.entity ≡ true) (a : AllByRecursion (IsPair es) r.pairs).
    each-flat_map (IsKnown es) (pair_items s.lists r.entity) r.pairs (each-weaker (IsPair es) (λ (o : Option Pair). AllByRecursion (IsKnown es) (pair_items s.lists r.entity o)) (known-pair es s.lists r.entity h) r.pairs a))
    s.rows st.entities st.pairs)

none-kept : {X : Type 0} (p : X → Bool) (P : X → Type 0) → ((x : X) → P x → p x ≡ false) → (xs : List X) → AllByRecursion P xs → filter p xs ≡ []
none-kept p P fails [] a = refl
none-kept {X} p P fails (x ∷ xs) a = ap (λ (b : Bool). cond b (x ∷ filter p xs) (filter p xs)) (fails x a.0) ∙ none-kept p P fails xs a.1

apart : (es : List Entry) (n m : ℕ) → is_id es n ≡ true → is_id es m ≡ false → (n == m) ≡ false
apart es n m h z = by (n == m) refl
  where
    by : (b : Bool) → (n == m) ≡ b → b ≡ false
    by true e = let k : n ≡ m = grind arith in let w : is_id es m ≡ true = subst (λ (x : ℕ). is_id es x ≡ true) k h in cc
    by false e = refl

never : (b : Bool) → (b && false) ≡ false
never true = refl
never false = refl

pub no_entity : (columns : ColumnsOf) (es : List Entry) (s : SideContents) → SideStands columns es s → (e p : ℕ) → is_id es e ≡ false → held_values s e p ≡ []
no_entity columns es s st e p z =
    ap (map (λ (x : Item). x.value)) (none-kept (λ (x : Item). x.entity == e && x.pred == p) (IsKnown es) (λ (x : Item) (k : IsKnown es x). ap (λ (b : Bool). b && x.pred == p) (apart es x.entity e k.0 z)) (said s) (known-said columns es s st))

pub no_predicate : (columns : ColumnsOf) (es : List Entry) (s : SideContents) → SideStands columns es s → (e p : ℕ) → is_id es p ≡ false → held_values s e p ≡ []
no_predicate columns es s st e p z =
    ap (map (λ (x : Item). x.value))
    (none-kept (λ (x : Item). x.entity == e && x.pred == p) (IsKnown es) (λ (x : Item) (k : IsKnown es x). ap (λ (b : Bool). x.entity == e && b) (apart es x.pred p k.1 z) ∙ never (x.entity == e)) (said s) (known-said columns es s st))

-- the id of a term that isn't there is no id
pub no_id : (es : List Entry) (t : RdfTerm) → AreEntries es → has_term es t ≡ false → is_id es (id_of es t) ≡ false
no_id es t h z = ap (is_id es) (id-none es t z) ∙ zero-none es h.least

pub terms_plain : (columns : ColumnsOf) (es : List Entry) (s : SideContents) → AreEntries es → SideStands columns es s → (t : RdfTerm) → has_term es t ≡ false → is_spilled_in (id_of es t) s.rows ≡ false
terms_plain columns es s h st t z = plain_none columns es s st (id_of es t) (no_id es t h z)

-- ---- the values of any terms

-- a term of a triple isn't one that isn't there
other : (es : List Entry) (t u : RdfTerm) → has_term es t ≡ true → has_term es u ≡ false → same_term t u ≡ false
other es t u h z = by (same_term t u) refl
  where
    by : (b : Bool) → same_term t u ≡ b → b ≡ false
    by true e = let w : has_term es u ≡ true = subst (λ (x : RdfTerm). has_term es x ≡ true) (same_term-is t u e) h in cc
    by false e = refl

nothing : (s : SideContents) (e p : ℕ) (g : List RdfTriple) (test : RdfTriple → Bool) (value : RdfTriple → ℕ) → held_values s e p ≡ [] → filter test g ≡ [] → SameBag (held_values s e p) (map value (filter test g))
nothing s e p g test value h k =
    subst (λ (l : List ℕ). SameBag l (map value (filter test g))) (sym h) (subst (λ (l : List RdfTriple). SameBag [] (map value l)) (sym k) (same-refl []))

pub any-direct : (columns : ColumnsOf) (s : SideContents) (es : List Entry) (g : List RdfTriple) → AreEntries es → SideStands columns es s → AllByRecursion (HasIds es) g → SameBag (said s) (map (direct_item (id_of es)) g) → (e p : RdfTerm)
    → SameBag (held_values s (id_of es e) (id_of es p)) (map (λ (t : RdfTriple). id_of es t.o) (filter (λ (t : RdfTriple). same_term t.s e && same_term t.p p) g))
any-direct columns s es g own st all same e p = by (has_term es e) refl (has_term es p) refl
  where
    test : RdfTriple → Bool
    test t = same_term t.s e && same_term t.p p

    value : RdfTriple → ℕ
    value t = id_of es t.o

    by : (a : Bool) → has_term es e ≡ a → (b : Bool) → has_term es p ≡ b → SameBag (held_values s (id_of es e) (id_of es p)) (map (λ (t : RdfTriple). id_of es t.o) (filter (λ (t : RdfTriple). same_term t.s e && same_term t.p p) g))
    by true h true k = held-direct s es g own all same e p h k
    by true h false k =
        nothing s (id_of es e) (id_of es p) g test value (no_predicate columns es s st (id_of es e) (id_of es p) (no_id es p own k))
        (none-kept test (HasIds es) (λ (t : RdfTriple) (i : HasIds es t). ap (λ (b : Bool). same_term t.s e && b) (other es t.p p i.predicate k) ∙ never (same_term t.s e)) g all)
    by false h b k =
        nothing s (id_of es e) (id_of es p) g test value (no_entity columns es s st (id_of es e) (id_of es p) (no_id es e own h))
        (none-kept test (HasIds es) (λ (t : RdfTriple) (i : HasIds es t). ap (λ (b : Bool). b && same_term t.p p) (other es t.s e i.subject h)) g all)

pub any-reverse : (columns : ColumnsOf) (s : SideContents) (es : List Entry) (g : List RdfTriple) → AreEntries es → SideStands columns es s → AllByRecursion (HasIds es) g → SameBag (said s) (map (reverse_item (id_of es)) g) → (e p : RdfTerm)
    → SameBag (held_values s (id_of es e) (id_of es p)) (map (λ (t : RdfTriple). id_of es t.s) (filter (λ (t : RdfTriple). same_term t.o e && same_term t.p p) g))
any-reverse columns s es g own st all same e p = by (has_term es e) refl (has_term es p) refl
  where
    test : RdfTriple → Bool
    test t = same_term t.o e && same_term t.p p

    value : RdfTriple → ℕ
    value t = id_of es t.s

    by : (a : Bool) → has_term es e ≡ a → (b : Bool) → has_term es p ≡ b → SameBag (held_values s (id_of es e) (id_of es p)) (map (λ (t : RdfTriple). id_of es t.s) (filter (λ (t : RdfTriple). same_term t.o e && same_term t.p p) g))
    by true h true k = held-reverse s es g own all same e p h k
    by true h false k =
        nothing s (id_of es e) (id_of es p) g test value (no_predicate columns es s st (id_of es e) (id_of es p) (no_id es p own k))
        (none-kept test (HasIds es) (λ (t : RdfTriple) (i : HasIds es t). ap (λ (b : Bool). same_term t.o e && b) (other es t.p p i.predicate k) ∙ never (same_term t.o e)) g all)
    by false h b k =
        nothing s (id_of es e) (id_of es p) g test value (no_entity columns es s st (id_of es e) (id_of es p) (no_id es e own h))
        (none-kept test (HasIds es) (λ (t : RdfTriple) (i : HasIds es t). ap (λ (b : Bool). b && same_term t.p p) (other es t.o e i.object h)) g all)
