-- The order of the triples that tables stand for doesn't count.
use Rattle.std.proofs.Common.{◌≡◌, ◌≤◌, ◌||◌, ℕ, Bool, true, false, List, [], ◌∷◌, ap, ◌∙◌, refl, sym, subst, true≢false}
use Rattle.std.specs.List.{list_any, AllByRecursion}
use Rattle.bags.specs.Bag.{SameBag}
use Rattle.bags.specs.BagLaws.{same-trans, same-map, same-any}
use Rattle.rdf_meaning.specs.Terms.{RdfTriple, same_triple}
use Rattle.rdf_meaning.specs.TermLaws.{same_triple-is, same_triple-self}
use Rattle.table_meaning.specs.Tables.{NamedTable}
use Rattle.layout_meaning.specs.Sound.{one_if}
use Rattle.layout_standing_meaning.specs.Dictionary.{HasIds, IsTriple, id_of}
use Rattle.layout_standing_meaning.specs.Schemas.{LayoutOf}
use Rattle.layout_standing_meaning.specs.Contents.{Contents, direct_item, reverse_item}
use Rattle.layout_standing_meaning.specs.Standing.{Says, StandsFor}

-- what holds of each triple holds of one that is among them
member : (P : RdfTriple → Type 0) (ts : List RdfTriple) → AllByRecursion P ts → (z : RdfTriple) → list_any (same_triple z) ts ≡ true → P z
member P [] h z e = absurd (true≢false (sym e))
member P (t ∷ ts) h z e = by (same_triple z t) refl e (member P ts h.1 z)
  where
    by : (b : Bool) → same_triple z t ≡ b → (b || list_any (same_triple z) ts) ≡ true → (list_any (same_triple z) ts ≡ true → P z) → P z
    by true k e rest = subst P (sym (same_triple-is z t k)) h.0
    by false k e rest = rest e

of_members : (P : RdfTriple → Type 0) (ts : List RdfTriple) → ((z : RdfTriple) → list_any (same_triple z) ts ≡ true → P z) → AllByRecursion P ts
of_members P [] h = tt
of_members P (t ∷ ts) h = (
  h t (ap (λ (b : Bool). b || list_any (same_triple t) ts) (same_triple-self t)),
  of_members P ts (λ (z : RdfTriple) (e : list_any (same_triple z) ts ≡ true). h z (later (same_triple z t) (list_any (same_triple z) ts) e)),
)
  where
    later : (a b : Bool) → b ≡ true → (a || b) ≡ true
    later true b h = refl
    later false b h = h

each-same : (P : RdfTriple → Type 0) (g h : List RdfTriple) → SameBag g h → AllByRecursion P g → AllByRecursion P h
each-same P g h same all = of_members P h (λ (z : RdfTriple) (e : list_any (same_triple z) h ≡ true). member P g all z (same-any (same_triple z) g h same ∙ e))

pub same-says : (layout : LayoutOf) (c : Contents) (g h : List RdfTriple) → SameBag g h → Says layout c g → Says layout c h
same-says layout c g h same says = record {
  own_terms = says.own_terms;
  direct_side = says.direct_side;
  reverse_side = says.reverse_side;
  triples = record {
    forms = each-same IsTriple g h same says.triples.forms;
    once = λ (t : RdfTriple). subst (λ (n : ℕ). n ≤ 1) (same.totals (λ (u : RdfTriple). one_if (same_triple u t))) (says.triples.once t);
  };
  ids = each-same (HasIds c.terms) g h same says.ids;
  direct_triples = same-trans says.direct_triples (same-map (direct_item (id_of c.terms)) g h same);
  reverse_triples = same-trans says.reverse_triples (same-map (reverse_item (id_of c.terms)) g h same);
}

pub same-stands : (layout : LayoutOf) (tables : List NamedTable) (g h : List RdfTriple) → StandsFor layout tables g → SameBag g h → StandsFor layout tables h
same-stands layout tables g h stands same = record { contents = stands.contents; exact_tables = stands.exact_tables; same_triples = same-says layout stands.contents g h same stands.same_triples }
