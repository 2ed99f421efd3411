-- What is said, told and counted of equal bags of triples.
use Rattle.std.proofs.Common.{◌≡◌, ◌⊎◌, ◌≤◌, ◌||◌, ℕ, Bool, true, false, List, [], ◌∷◌, map, length, refl, sym, ap, ◌∙◌, inl, inr, subst}
use Rattle.std.specs.List.{list_any, AllByRecursion}
use Rattle.std.proofs.lemmas.Bool.{cases_Bool, true≢false}
use Rattle.bags.specs.Bag.{SameBag}
use Rattle.bags.specs.BagLaws.{same-trans, same-map, same-length, same-any}
use Rattle.rdf_meaning.specs.Terms.{RdfTerm, RdfTriple, same_triple}
use Rattle.rdf_meaning.specs.TermLaws.{same_triple-is, same_triple-self}
use Rattle.table_meaning.specs.Tables.{NamedTable}
use Rattle.layout_meaning.specs.Facts.{FactsOf, IdOf, CountsOf}
use Rattle.layout_meaning.specs.Sound.{one_if}
use Rattle.layout_standing_meaning.specs.Dictionary.{HasIds, IsTriple, id_of}
use Rattle.layout_standing_meaning.specs.Schemas.{LayoutOf}
use Rattle.layout_standing_meaning.specs.Contents.{Contents, direct_item, reverse_item}
use Rattle.layout_standing_meaning.specs.Standing.{Says, StandsFor}
use Rattle.layout_stats_meaning.specs.Statistics.{StatsOf, AreStats}
use Rattle.layout_facts_meaning.specs.Facts.{AreFacts, AreIds}
use Rattle.layout_counts_meaning.specs.Counts.{AreCounts}
use Rattle.layout_counts_meaning.proofs.Bags.{counted-same}

or_right : (a b : Bool) → b ≡ true → (a || b) ≡ true
or_right true b h = refl
or_right false b h = h

member : (P : RdfTriple → Type 0) (ts : List RdfTriple) → AllByRecursion P ts → (z : RdfTriple) → list_any (same_triple z) ts ≡ true → P z
member P [] h z e = absurd (true≢false (sym e))
member P (t ∷ ts) h z e = go (cases_Bool (same_triple z t)) e (member P ts h.1 z)
  where
    go : (same_triple z t ≡ true) ⊎ (same_triple z t ≡ false) → (same_triple z t || list_any (same_triple z) ts) ≡ true → (list_any (same_triple z) ts ≡ true → P z) → P z
    go (inl k) e rest = subst P (sym (same_triple-is z t k)) h.0
    go (inr k) e rest = rest (rw k at e)

of_members : (P : RdfTriple → Type 0) (ts : List RdfTriple) → ((z : RdfTriple) → list_any (same_triple z) ts ≡ true → P z) → AllByRecursion P ts
of_members P [] h = tt
of_members P (t ∷ ts) h = (
  h t (ap (λ (b : Bool). b || list_any (same_triple t) ts) (same_triple-self t)),
  of_members P ts (λ z e. h z (or_right (same_triple z t) (list_any (same_triple z) ts) e)),
)

-- what holds of each triple of a bag holds of each of an equal one
each-same : (P : RdfTriple → Type 0) (g h : List RdfTriple) → SameBag g h → AllByRecursion P g → AllByRecursion P h
each-same P g h same all = of_members P h (λ z e. member P g all z (same-any (same_triple z) g h same ∙ e))

pub same-says : (layout : LayoutOf) (c : Contents) (g h : List RdfTriple) → SameBag g h → Says layout c g → Says layout c h
same-says layout c g h same says = record {
  own_terms = says.own_terms;
  direct_side = says.direct_side;
  reverse_side = says.reverse_side;
  triples = record {
    forms = each-same IsTriple g h same says.triples.forms;
    once = λ t. subst (λ (n : ℕ). n ≤ 1) (same.totals (λ (u : RdfTriple). one_if (same_triple u t))) (says.triples.once t);
  };
  ids = each-same (HasIds c.terms) g h same says.ids;
  direct_triples = same-trans says.direct_triples (same-map (direct_item (id_of c.terms)) g h same);
  reverse_triples = same-trans says.reverse_triples (same-map (reverse_item (id_of c.terms)) g h same);
}

pub same-stats : (layout : LayoutOf) (tables : List NamedTable) (g h : List RdfTriple) (stats : StatsOf) → SameBag g h → AreStats layout tables g stats → AreStats layout tables h stats
same-stats layout tables g h stats same are = record {
  contents = are.contents;
  exact_tables = are.exact_tables;
  same_triples = same-says layout are.contents g h same are.same_triples;
  triples = are.triples ∙ same-length g h same;
  terms = are.terms;
  direct = are.direct;
  reverse = are.reverse;
}

pub same-standing : (layout : LayoutOf) (tables : List NamedTable) (g h : List RdfTriple) → SameBag g h → StandsFor layout tables g → StandsFor layout tables h
same-standing layout tables g h same stands = record {
  contents = stands.contents;
  exact_tables = stands.exact_tables;
  same_triples = same-says layout stands.contents g h same stands.same_triples;
}

pub same-facts : (layout : LayoutOf) (tables : List NamedTable) (g h : List RdfTriple) (preds : List RdfTerm) (facts : FactsOf) → SameBag g h → AreFacts layout tables g preds facts → AreFacts layout tables h preds facts
same-facts layout tables g h preds facts same are = record {
  contents = are.contents;
  exact_tables = are.exact_tables;
  same_triples = same-says layout are.contents g h same are.same_triples;
  told = are.told;
}

pub same-ids : (layout : LayoutOf) (tables : List NamedTable) (g h : List RdfTriple) (terms : List RdfTerm) (ids : List IdOf) → SameBag g h → AreIds layout tables g terms ids → AreIds layout tables h terms ids
same-ids layout tables g h terms ids same are = record {
  contents = are.contents;
  exact_tables = are.exact_tables;
  same_triples = same-says layout are.contents g h same are.same_triples;
  told = are.told;
}

pub same-counts : (layout : LayoutOf) (tables : List NamedTable) (g h : List RdfTriple) (terms : List RdfTerm) (counts : CountsOf) → SameBag g h → AreCounts layout tables g terms counts → AreCounts layout tables h terms counts
same-counts layout tables g h terms counts same are = record {
  contents = are.contents;
  exact_tables = are.exact_tables;
  same_triples = same-says layout are.contents g h same are.same_triples;
  counted = are.counted ∙ counted-same g h terms same;
}
