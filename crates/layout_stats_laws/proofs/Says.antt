-- What the contents of a store's tables say.
use Rattle.std.proofs.Common.{◌≡◌, ◌≤◌, true, List, [], ◌∷◌, map, refl, sym, ap, ◌∙◌, subst}
use Rattle.std.specs.List.{AllByRecursion, IsDistinct}
use Rattle.bags.specs.Bag.{total, SameBag}
use Rattle.bags.specs.BagLaws.{same-refl, each-weaker, each-map}
use Rattle.rdf_meaning.specs.Terms.{RdfTerm, same_term}
use Rattle.layout_meaning.specs.Side.{Item, items}
use Rattle.layout_meaning.specs.Sound.{one_if}
use Rattle.layout_standing_meaning.specs.Dictionary.{HasIds, id_of, entries_of}
use Rattle.layout_standing_meaning.specs.Contents.{said, side_contents, contents_of, direct_item, reverse_item}
use Rattle.layout_standing_meaning.specs.Standing.{SideStands, Says}
use Rattle.layout_standing_meaning.specs.Sides.{turned}
use Rattle.layout_standing_meaning.specs.Stored.{StoreOf, IsStore, IsItem, layout_of, triple_by, stored_triples}
use Rattle.layout_standing_meaning.proofs.Each.{each-bag}
use Rattle.layout_standing_meaning.proofs.Numbered.{said-is}
use Rattle.layout_standing_meaning.proofs.Known.{is_known}
use Rattle.layout_standing_meaning.proofs.Once.{same_item, said-once}
use Rattle.layout_standing_meaning.proofs.Stands.{side_stands, stored_are_triples}
use Rattle.layout_standing_meaning.proofs.Terms.{entries, term_at-id, term_at-has, id-is_id}

-- the items of both sides are known
known_item : (ts : List RdfTerm) (x : Item) → IsItem ts x → is_known (entries_of ts) x ≡ true
known_item ts x h = rw (id-is_id ts x.entity h.entity, id-is_id ts x.pred h.pred, id-is_id ts x.value h.value) refl

known_turned : (ts : List RdfTerm) (x : Item) → IsItem ts x → is_known (entries_of ts) (turned x) ≡ true
known_turned ts x h = rw (id-is_id ts x.entity h.entity, id-is_id ts x.pred h.pred, id-is_id ts x.value h.value) refl

-- the item of an item's triple
back : (ts : List RdfTerm) → IsDistinct same_term ts → (x : Item) → IsItem ts x → direct_item (id_of (entries_of ts)) (triple_by ts x) ≡ x
back ts d x h =
    let a = term_at-id ts x.entity d h.entity in
    let b = term_at-id ts x.pred d h.pred in
    let c = term_at-id ts x.value d h.value in
    λ i. record { entity = a i; pred = b i; value = c i }

back_turned : (ts : List RdfTerm) → IsDistinct same_term ts → (x : Item) → IsItem ts x → reverse_item (id_of (entries_of ts)) (triple_by ts x) ≡ turned x
back_turned ts d x h =
    let a = term_at-id ts x.value d h.value in
    let b = term_at-id ts x.pred d h.pred in
    let c = term_at-id ts x.entity d h.entity in
    λ i. record { entity = a i; pred = b i; value = c i }

-- a map that undoes another where a fact holds
undone : {X Y Z : Type 0} (f : X → Y) (g : Y → Z) (h : X → Z) (P : X → Type 0) → ((x : X) → P x → g (f x) ≡ h x) → (xs : List X) → AllByRecursion P xs → map g (map f xs) ≡ map h xs
undone f g h P e [] a = refl
undone {X} {Y} {Z} f g h P e (x ∷ xs) a = ap (λ (z : Z). z ∷ map g (map f xs)) (e x a.0) ∙ ap (λ (l : List Z). h x ∷ l) (undone f g h P e xs a.1)

map-same : {X : Type 0} (xs : List X) → map (λ x. x) xs ≡ xs
map-same [] = refl
map-same {X} (x ∷ xs) = ap (λ (l : List X). x ∷ l) (map-same xs)

-- the contents of a store's tables say its triples
pub says : (s : StoreOf) → IsStore s → Says (layout_of s) (contents_of s.direct.state s.reverse.state s.terms) (stored_triples s)
says s h = record {
  own_terms = entries s.terms h.distinct h.forms;
  direct_side = direct;
  reverse_side = side_stands (entries_of s.terms) s.reverse h.sides.reverse h.reverse_names
      (each-bag (is_known (entries_of s.terms)) (items s.reverse.state) (map turned (items s.direct.state)) h.sides.same_items
      (each-map (λ (x : Item). is_known (entries_of s.terms) x ≡ true) turned (items s.direct.state) (each-weaker (IsItem s.terms) (λ (x : Item). is_known (entries_of s.terms) (turned x) ≡ true) (known_turned s.terms) (items s.direct.state) h.each_item)));
  triples = stored_are_triples s h (λ (x : Item). subst (λ (l : List Item). total (λ (y : Item). one_if (same_item y x)) l ≤ 1) (said-is s.direct.state) (said-once (side_contents s.direct.state) direct.lists_sound direct.one_pair x));
  ids = each-map (HasIds (entries_of s.terms)) (triple_by s.terms) (items s.direct.state)
      (each-weaker (IsItem s.terms) (λ (x : Item). HasIds (entries_of s.terms) (triple_by s.terms x))
      (λ (x : Item) (k : IsItem s.terms x). record { subject = term_at-has s.terms x.entity k.entity; predicate = term_at-has s.terms x.pred k.pred; object = term_at-has s.terms x.value k.value }) (items s.direct.state) h.each_item);
  direct_triples = subst (λ (l : List Item). SameBag l (map (direct_item (id_of (entries_of s.terms))) (stored_triples s))) (sym (said-is s.direct.state))
      (subst (λ (l : List Item). SameBag (items s.direct.state) l) (sym (undone (triple_by s.terms) (direct_item (id_of (entries_of s.terms))) (λ (x : Item). x) (IsItem s.terms) (back s.terms h.distinct) (items s.direct.state) h.each_item ∙ map-same (items s.direct.state))) (same-refl (items s.direct.state)));
  reverse_triples = subst (λ (l : List Item). SameBag l (map (reverse_item (id_of (entries_of s.terms))) (stored_triples s))) (sym (said-is s.reverse.state))
      (subst (λ (l : List Item). SameBag (items s.reverse.state) l) (sym (undone (triple_by s.terms) (reverse_item (id_of (entries_of s.terms))) turned (IsItem s.terms) (back_turned s.terms h.distinct) (items s.direct.state) h.each_item)) h.sides.same_items);
}
  where
    direct : SideStands s.direct.columns (entries_of s.terms) (side_contents s.direct.state)
    direct = side_stands (entries_of s.terms) s.direct h.sides.direct h.direct_names
        (each-weaker (IsItem s.terms) (λ (x : Item). is_known (entries_of s.terms) x ≡ true) (known_item s.terms) (items s.direct.state) h.each_item)
