-- What is told of tables is told of each contents that they have.
use Rattle.std.proofs.Common.{◌≡◌, ◌&&◌, ℕ, Bool, cond, List, [], ◌∷◌, map, fold, refl, sym, ap, ◌∙◌}
use Rattle.std.specs.List.{filter}
use Rattle.bags.specs.BagLaws.{same-any}
use Rattle.rdf_meaning.specs.Terms.{RdfTerm, RdfTriple}
use Rattle.table_meaning.specs.Tables.{NamedTable}
use Rattle.layout_meaning.specs.Facts.{FactsOf, IdOf, CountsOf}
use Rattle.layout_standing_meaning.specs.Dictionary.{Entry, id_of, has_term}
use Rattle.layout_standing_meaning.specs.Schemas.{LayoutOf}
use Rattle.layout_standing_meaning.specs.Contents.{SideContents, Contents}
use Rattle.layout_standing_meaning.specs.Standing.{AreTables, Says, StandsFor, is_spilled_in}
use Rattle.layout_standing_meaning.specs.Changes.{with_term}
use Rattle.layout_facts_meaning.specs.Facts.{AreFacts, AreIds, HaveFacts, is_spilled_term, spilled_among, facts_told, id_told, ids_told, terms_named}
use Rattle.layout_counts_meaning.specs.Counts.{AreCounts}
use Rattle.layout_counts_meaning.proofs.Bags.{counted-same}
use Rattle.layout_facts_laws.specs.Alike.{AreAlike, SayAlike}
use Rattle.layout_facts_laws.proofs.Ids.{same-id, same-has}
use Rattle.layout_facts_laws.proofs.Contents.{one_contents}
use Rattle.layout_facts_laws.proofs.Triples.{one_set_said}

filter-same : (p q : RdfTerm → Bool) → ((t : RdfTerm) → p t ≡ q t) → (ts : List RdfTerm) → filter p ts ≡ filter q ts
filter-same p q e [] = refl
filter-same p q e (t ∷ ts) = ap (λ (b : Bool). cond b (t ∷ filter p ts) (filter p ts)) (e t) ∙ ap (λ (l : List RdfTerm). cond (q t) (t ∷ l) l) (filter-same p q e ts)

map-same : (f g : RdfTerm → IdOf) → ((t : RdfTerm) → f t ≡ g t) → (ts : List RdfTerm) → map f ts ≡ map g ts
map-same f g e [] = refl
map-same f g e (t ∷ ts) = λ i. e t i ∷ map-same f g e ts i

spilled-same : (es fs : List Entry) (s t : SideContents) → ((u : RdfTerm) → has_term es u ≡ has_term fs u) → ((u : RdfTerm) → id_of es u ≡ id_of fs u) → AreAlike s t → (preds : List RdfTerm) → spilled_among es s preds ≡ spilled_among fs t preds
spilled-same es fs s t has id alike preds = ap (fold with_term []) (filter-same (is_spilled_term es s) (is_spilled_term fs t) each preds)
  where
    rows : (n : ℕ) → is_spilled_in n s.rows ≡ is_spilled_in n t.rows
    rows n = same-any _ s.rows t.rows alike.rows

    each : (u : RdfTerm) → is_spilled_term es s u ≡ is_spilled_term fs t u
    each u =
        ap (λ (b : Bool). b && is_spilled_in (id_of es u) s.rows) (has u)
        ∙ ap (λ (n : ℕ). has_term fs u && is_spilled_in n s.rows) (id u)
        ∙ ap (λ (b : Bool). has_term fs u && b) (rows (id_of fs u))

-- both contents of tables
record AreBoth (c d : Contents) : Type 0 where
  has : (u : RdfTerm) → has_term c.terms u ≡ has_term d.terms u
  id : (u : RdfTerm) → id_of c.terms u ≡ id_of d.terms u
  alike : SayAlike c d

both : (layout : LayoutOf) (tables : List NamedTable) (c d : Contents) (g h : List RdfTriple) → AreTables layout c tables → AreTables layout d tables → Says layout c g → Says layout d h → AreBoth c d
both layout tables c d g h x y a b =
    let same = one_contents layout tables c d g h x y a b in
    record { has = same-has c.terms d.terms same.terms; id = same-id c.terms d.terms same.terms a.own_terms b.own_terms; alike = same }

pub same-facts : (layout : LayoutOf) (tables : List NamedTable) (c d : Contents) (g h : List RdfTriple) → AreTables layout c tables → AreTables layout d tables → Says layout c g → Says layout d h → (preds : List RdfTerm)
    → facts_told layout c preds ≡ facts_told layout d preds
same-facts layout tables c d g h x y a b preds =
    let k = both layout tables c d g h x y a b in
    let p = spilled-same c.terms d.terms c.direct d.direct k.has k.id k.alike.direct preds in
    let q = spilled-same c.terms d.terms c.reverse d.reverse k.has k.id k.alike.reverse preds in
    λ i. record { direct = layout.direct; reverse = layout.reverse; spilled = record { direct = p i; reverse = q i } }

pub same-ids : (layout : LayoutOf) (tables : List NamedTable) (c d : Contents) (g h : List RdfTriple) → AreTables layout c tables → AreTables layout d tables → Says layout c g → Says layout d h → (terms : List RdfTerm)
    → ids_told c.terms terms ≡ ids_told d.terms terms
same-ids layout tables c d g h x y a b terms =
    let k = both layout tables c d g h x y a b in
    map-same (id_told c.terms) (id_told d.terms) (λ (t : RdfTerm). ap (λ (n : ℕ). let i : IdOf = record { term = t; id = n } in i) (k.id t)) terms

-- ---- one of each

pub one_facts : (layout : LayoutOf) (tables : List NamedTable) (g h : List RdfTriple) (preds : List RdfTerm) (a b : FactsOf) → AreFacts layout tables g preds a → AreFacts layout tables h preds b → a ≡ b
one_facts layout tables g h preds a b x y = x.told ∙ same-facts layout tables x.contents y.contents g h x.exact_tables y.exact_tables x.same_triples y.same_triples preds ∙ sym y.told

pub one_ids : (layout : LayoutOf) (tables : List NamedTable) (g h : List RdfTriple) (terms : List RdfTerm) (a b : List IdOf) → AreIds layout tables g terms a → AreIds layout tables h terms b → a ≡ b
one_ids layout tables g h terms a b x y = x.told ∙ same-ids layout tables x.contents y.contents g h x.exact_tables y.exact_tables x.same_triples y.same_triples terms ∙ sym y.told

pub one_counts : (layout : LayoutOf) (tables : List NamedTable) (g h : List RdfTriple) (terms : List RdfTerm) (a b : CountsOf) → AreCounts layout tables g terms a → AreCounts layout tables h terms b → a ≡ b
one_counts layout tables g h terms a b x y =
    x.counted ∙ counted-same g h terms (one_set_said layout tables x.contents y.contents g h x.exact_tables y.exact_tables x.same_triples y.same_triples) ∙ sym y.counted

-- ---- both together

named-told : (es : List Entry) (terms : List RdfTerm) → terms_named (ids_told es terms) ≡ terms
named-told es [] = refl
named-told es (t ∷ terms) = ap (λ (l : List RdfTerm). t ∷ l) (named-told es terms)

named : (es : List Entry) (terms : List RdfTerm) (ids : List IdOf) → ids ≡ ids_told es terms → terms_named ids ≡ terms
named es terms ids e = ap terms_named e ∙ named-told es terms

pub some_facts : (layout : LayoutOf) (tables : List NamedTable) (g : List RdfTriple) (terms : List RdfTerm) → StandsFor layout tables g → (ids : List IdOf) × (facts : FactsOf) × (terms_named ids ≡ terms) × HaveFacts layout tables g ids facts
some_facts layout tables g terms h =
    let c = h.contents in
    let e : terms_named (ids_told c.terms terms) ≡ terms = named-told c.terms terms in (
      ids_told c.terms terms,
      facts_told layout c terms,
      e,
      record { contents = c; exact_tables = h.exact_tables; same_triples = h.same_triples; same_ids = ap (ids_told c.terms) (sym e); same_facts = ap (facts_told layout c) (sym e) },
    )

pub together : (layout : LayoutOf) (tables : List NamedTable) (g h : List RdfTriple) (terms : List RdfTerm) (ids : List IdOf) (facts : FactsOf) → AreIds layout tables g terms ids → AreFacts layout tables h terms facts → HaveFacts layout tables g ids facts
together layout tables g h terms ids facts x y =
    let e : terms_named ids ≡ terms = named x.contents.terms terms ids x.told in
    record {
      contents = x.contents;
      exact_tables = x.exact_tables;
      same_triples = x.same_triples;
      same_ids = x.told ∙ ap (ids_told x.contents.terms) (sym e);
      same_facts = y.told ∙ same-facts layout tables y.contents x.contents h g y.exact_tables x.exact_tables y.same_triples x.same_triples terms ∙ ap (facts_told layout x.contents) (sym e);
    }

pub each_tells_ids : (layout : LayoutOf) (tables : List NamedTable) (g h : List RdfTriple) (ids : List IdOf) (facts : FactsOf) (c : Contents) → HaveFacts layout tables g ids facts → AreTables layout c tables → Says layout c h → ids ≡ ids_told c.terms (terms_named ids)
each_tells_ids layout tables g h ids facts c x y s = x.same_ids ∙ same-ids layout tables x.contents c g h x.exact_tables y x.same_triples s (terms_named ids)

pub each_tells_facts : (layout : LayoutOf) (tables : List NamedTable) (g h : List RdfTriple) (ids : List IdOf) (facts : FactsOf) (c : Contents) → HaveFacts layout tables g ids facts → AreTables layout c tables → Says layout c h → facts ≡ facts_told layout c (terms_named ids)
each_tells_facts layout tables g h ids facts c x y s = x.same_facts ∙ same-facts layout tables x.contents c g h x.exact_tables y x.same_triples s (terms_named ids)
