-- The values that a side holds are those of the triples.
use Rattle.std.proofs.Common.{◌≡◌, ℕ, ◌==◌, ◌&&◌, Bool, true, cond, List, map, refl, sym, ap, ◌∙◌}
use Rattle.std.specs.List.{filter, AllByRecursion}
use Rattle.bags.specs.Bag.{SameBag}
use Rattle.bags.specs.BagLaws.{total-map, total-filter, total-each}
use Rattle.rdf_meaning.specs.Terms.{RdfTerm, RdfTriple, same_term}
use Rattle.layout_meaning.specs.Side.{Item}
use Rattle.layout_standing_meaning.specs.Dictionary.{Entry, AreEntries, HasIds, id_of, has_term}
use Rattle.layout_standing_meaning.specs.Contents.{SideContents, said, direct_item, reverse_item, held_values}
use Rattle.layout_facts_laws.proofs.Ids.{told}

-- the values of one side
held : (s : SideContents) (id : RdfTerm → ℕ) (item : RdfTriple → Item) (g : List RdfTriple) (test : RdfTriple → Bool) (value : RdfTriple → ℕ) (P : RdfTriple → Type 0) (e p : ℕ)
    → SameBag (said s) (map item g) → ((t : RdfTriple) → P t → ((item t).entity == e && (item t).pred == p) ≡ test t) → ((t : RdfTriple) → (item t).value ≡ value t) → AllByRecursion P g
    → SameBag (held_values s e p) (map value (filter test g))
held s id item g test value P e p same tests values all = record {
  totals = λ (h : ℕ → ℕ).
      total-map h (λ (x : Item). x.value) (filter (λ (x : Item). x.entity == e && x.pred == p) (said s))
      ∙ total-filter (λ (x : Item). h x.value) (λ (x : Item). x.entity == e && x.pred == p) (said s)
      ∙ same.totals (λ (x : Item). cond (x.entity == e && x.pred == p) (h x.value) 0)
      ∙ total-map (λ (x : Item). cond (x.entity == e && x.pred == p) (h x.value) 0) item g
      ∙ total-each _ _ P (λ (t : RdfTriple) (k : P t). ap (λ (b : Bool). cond b (h (item t).value) 0) (tests t k) ∙ ap (λ (n : ℕ). cond (test t) (h n) 0) (values t)) g all
      ∙ sym (total-map h value (filter test g) ∙ total-filter (λ (t : RdfTriple). h (value t)) test g);
}

pub held-direct : (s : SideContents) (es : List Entry) (g : List RdfTriple) → AreEntries es → AllByRecursion (HasIds es) g → SameBag (said s) (map (direct_item (id_of es)) g) → (e p : RdfTerm) → has_term es e ≡ true → has_term es p ≡ true
    → SameBag (held_values s (id_of es e) (id_of es p)) (map (λ (t : RdfTriple). id_of es t.o) (filter (λ (t : RdfTriple). same_term t.s e && same_term t.p p) g))
held-direct s es g own all same e p he hp =
    held s (id_of es) (direct_item (id_of es)) g (λ (t : RdfTriple). same_term t.s e && same_term t.p p) (λ (t : RdfTriple). id_of es t.o) (HasIds es) (id_of es e) (id_of es p) same
    (λ (t : RdfTriple) (k : HasIds es t). ap (λ (b : Bool). b && (id_of es t.p == id_of es p)) (told es own t.s e he) ∙ ap (λ (b : Bool). same_term t.s e && b) (told es own t.p p hp))
    (λ (t : RdfTriple). refl) all

pub held-reverse : (s : SideContents) (es : List Entry) (g : List RdfTriple) → AreEntries es → AllByRecursion (HasIds es) g → SameBag (said s) (map (reverse_item (id_of es)) g) → (e p : RdfTerm) → has_term es e ≡ true → has_term es p ≡ true
    → SameBag (held_values s (id_of es e) (id_of es p)) (map (λ (t : RdfTriple). id_of es t.s) (filter (λ (t : RdfTriple). same_term t.o e && same_term t.p p) g))
held-reverse s es g own all same e p he hp =
    held s (id_of es) (reverse_item (id_of es)) g (λ (t : RdfTriple). same_term t.o e && same_term t.p p) (λ (t : RdfTriple). id_of es t.s) (HasIds es) (id_of es e) (id_of es p) same
    (λ (t : RdfTriple) (k : HasIds es t). ap (λ (b : Bool). b && (id_of es t.p == id_of es p)) (told es own t.o e he) ∙ ap (λ (b : Bool). same_term t.o e && b) (told es own t.p p hp))
    (λ (t : RdfTriple). refl) all
