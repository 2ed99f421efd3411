-- Tables stand for one set of triples.
use Rattle.std.proofs.Common.{◌≡◌, ℕ, true, List, [], ◌∷◌, map, Option, Some, None, refl, sym, ap, ◌∙◌, subst}
use Rattle.std.specs.List.{flat_map, AllByRecursion}
use Rattle.bags.specs.Bag.{SameBag}
use Rattle.bags.specs.BagLaws.{same-refl, same-sym, same-trans, same-map, same-flat_map}
use Rattle.rdf_meaning.specs.Terms.{RdfTerm, RdfTriple}
use Rattle.table_meaning.specs.Tables.{NamedTable}
use Rattle.layout_meaning.specs.declared.value.Value.{Value}
use Rattle.layout_meaning.specs.declared.value.Value.TheVariants.{One, Many}
use Rattle.layout_meaning.specs.Side.{Pair, Item, values_of, pair_items}
use Rattle.layout_meaning.specs.Rows.{NumberedRow}
use Rattle.layout_standing_meaning.specs.Dictionary.{Entry, HasIds, id_of, has_term}
use Rattle.layout_standing_meaning.specs.Schemas.{LayoutOf}
use Rattle.layout_standing_meaning.specs.Contents.{SideContents, Contents, said, direct_item}
use Rattle.layout_standing_meaning.specs.Standing.{AreTables, Says, StandsFor}
use Rattle.layout_facts_laws.specs.Alike.{AreAlike}
use Rattle.layout_facts_laws.proofs.Ids.{HasEachOnce, term_of, term-back, same-id, same-has}
use Rattle.layout_facts_laws.proofs.Contents.{one_contents}

same-values : (s t : SideContents) → AreAlike s t → (v : Value) → SameBag (values_of s.lists v) (values_of t.lists v)
same-values s t h (One v) = same-refl (v ∷ [])
same-values s t h (Many n) = h.elements n

same-pair : (s t : SideContents) → AreAlike s t → (e : ℕ) (o : Option Pair) → SameBag (pair_items s.lists e o) (pair_items t.lists e o)
same-pair s t h e None = same-refl []
same-pair s t h e (Some q) = same-map (λ (v : ℕ). let x : Item = record { entity = e; pred = q.pred; value = v } in x) (values_of s.lists q.value) (values_of t.lists q.value) (same-values s t h q.value)

pub same-said : (s t : SideContents) → AreAlike s t → SameBag (said s) (said t)
same-said s t h =
    same-flat_map (λ (r : NumberedRow). flat_map (pair_items s.lists r.entity) r.pairs) (λ (r : NumberedRow). flat_map (pair_items t.lists r.entity) r.pairs) s.rows t.rows h.rows
    (λ (r : NumberedRow). same-flat_map (pair_items s.lists r.entity) (pair_items t.lists r.entity) r.pairs r.pairs (same-refl r.pairs) (same-pair s t h r.entity))

-- the triple of an item
abbrev triple_of : List Entry → Item → RdfTriple
triple_of es x = record { s = term_of es x.entity; p = term_of es x.pred; o = term_of es x.value }

triple-back : (es : List Entry) (id : RdfTerm → ℕ) → HasEachOnce es → ((t : RdfTerm) → id_of es t ≡ id t) → (t : RdfTriple) → HasIds es t → triple_of es (direct_item id t) ≡ t
triple-back es id once same t h =
    let a = back t.s h.subject in
    let b = back t.p h.predicate in
    let c = back t.o h.object in
    λ i. record { s = a i; p = b i; o = c i }
  where
    back : (u : RdfTerm) → has_term es u ≡ true → term_of es (id u) ≡ u
    back u there = ap (term_of es) (sym (same u)) ∙ term-back es u once there

triples-back : (es : List Entry) (id : RdfTerm → ℕ) → HasEachOnce es → ((t : RdfTerm) → id_of es t ≡ id t) → (g : List RdfTriple) → AllByRecursion (HasIds es) g → map (triple_of es) (map (direct_item id) g) ≡ g
triples-back es id once same [] h = refl
triples-back es id once same (t ∷ g) h = λ i. triple-back es id once same t h.0 i ∷ triples-back es id once same g h.1 i

ids-there : (es fs : List Entry) → ((t : RdfTerm) → has_term es t ≡ has_term fs t) → (g : List RdfTriple) → AllByRecursion (HasIds fs) g → AllByRecursion (HasIds es) g
ids-there es fs same [] h = tt
ids-there es fs same (t ∷ g) h = (record { subject = same t.s ∙ h.0.subject; predicate = same t.p ∙ h.0.predicate; object = same t.o ∙ h.0.object }, ids-there es fs same g h.1)

pub one_set_said : (layout : LayoutOf) (tables : List NamedTable) (c d : Contents) (g h : List RdfTriple) → AreTables layout c tables → AreTables layout d tables → Says layout c g → Says layout d h → SameBag g h
one_set_said layout tables c d g h x y a b =
    let same = one_contents layout tables c d g h x y a b in
    let items : SameBag (map (direct_item (id_of c.terms)) g) (map (direct_item (id_of d.terms)) h) = same-trans (same-sym a.direct_triples) (same-trans (same-said c.direct d.direct same.direct) b.direct_triples) in
    let first : map (triple_of c.terms) (map (direct_item (id_of c.terms)) g) ≡ g = triples-back c.terms (id_of c.terms) a.own_terms.own_id (λ (t : RdfTerm). refl) g a.ids in
    let second : map (triple_of c.terms) (map (direct_item (id_of d.terms)) h) ≡ h =
    triples-back c.terms (id_of d.terms) a.own_terms.own_id (same-id c.terms d.terms same.terms a.own_terms b.own_terms) h (ids-there c.terms d.terms (same-has c.terms d.terms same.terms) h b.ids) in
    subst (λ (l : List RdfTriple). SameBag l h) first
    (subst (SameBag (map (triple_of c.terms) (map (direct_item (id_of c.terms)) g))) second (same-map (triple_of c.terms) (map (direct_item (id_of c.terms)) g) (map (direct_item (id_of d.terms)) h) items))

pub one_set : (layout : LayoutOf) (tables : List NamedTable) (g h : List RdfTriple) → StandsFor layout tables g → StandsFor layout tables h → SameBag g h
one_set layout tables g h x y = one_set_said layout tables x.contents y.contents g h x.exact_tables y.exact_tables x.same_triples y.same_triples
