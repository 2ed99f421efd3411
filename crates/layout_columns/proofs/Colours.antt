-- Colours and the ids of their predicates.
use Rattle.std.proofs.Common.{◌≡◌, ◌&&◌, ◌<◌, ◌+◌, ℕ, zero, suc, nat_eq, Bool, true, false, List, [], ◌∷◌, ◌++◌, map, take, get_or, length, sym, ap, ◌∙◌, subst, arith}
use Rattle.std.specs.List.{list_any, AllByRecursion}
use Rattle.std.specs.Map.{keys_of}
use Rattle.std.proofs.lemmas.List.{take_more, map_push}
use Rattle.rdf_meaning.specs.Terms.{RdfTerm}
use Rattle.layout_meaning.specs.Side.{Item}
use Rattle.pred_colour_meaning.specs.Interference.{Graph, has, IsInterference}
use Rattle.pred_colour_meaning.specs.Colouring.{IsColouring}
use Rattle.pred_colour_meaning.proofs.Steps.{same_number}
use Rattle.layout_standing_meaning.specs.Stored.{IsIdIn, text_of_id}
use Rattle.pred_colour.specs.declared.colours.Coloured.{Coloured}
use Rattle.pred_colour.specs.Given.{pair_of}
use Rattle.pred_colour.proofs.Joins.{any-map}
use Rattle.pred_columns.specs.declared.columns.ColourPair.{ColourPair}
use Rattle.pred_columns.specs.Refusal.{known_of}
use Rattle.layout_columns_meaning.specs.BulkColours.{preds_under, entities_of}
use Rattle.layout_columns.proofs.ByEntity.{under_is, pick}
use Rattle.layout_columns.specs.Entities.{is_pair}

-- a predicate of an entity is an id
pred-id : (terms : List RdfTerm) (items : List Item) (p : ℕ) → AllByRecursion (λ (x : Item). IsIdIn terms x.pred) items → list_any (has p) (entities_of items) ≡ true → IsIdIn terms p
pred-id terms items p ids e =
    let k : list_any (λ (x : Item). has p (preds_under items x.entity)) items ≡ true = sym (any-map (has p) (λ (x : Item). preds_under items x.entity) items) ∙ e in
    let one = pick (λ (x : Item). IsIdIn terms x.pred) (λ (x : Item). has p (preds_under items x.entity)) items ids k in
    let there : list_any (is_pair one.item.entity p) items ≡ true = sym (under_is one.item.entity p items) ∙ one.passes in
    let two = pick (λ (x : Item). IsIdIn terms x.pred) (is_pair one.item.entity p) items ids there in
    subst (IsIdIn terms) (sym (same_number p two.item.pred (second (nat_eq one.item.entity two.item.entity) (nat_eq p two.item.pred) two.passes))) two.holds
  where
    second : (a b : Bool) → (a && b) ≡ true → b ≡ true
    second true b h = h
    second false b h = cc

-- the coloured predicates are ids
pub colour_ids : (terms : List RdfTerm) (items : List Item) (k : ℕ) (graph : Graph) (colours : List (ℕ × ℕ)) → AllByRecursion (λ (x : Item). IsIdIn terms x.pred) items → IsInterference (entities_of items) graph → IsColouring graph k colours
    → AllByRecursion (λ (c : ℕ × ℕ). IsIdIn terms c.0) colours
colour_ids terms items k graph colours ids i c = by colours c.among
  where
    by : (cs : List (ℕ × ℕ)) → AllByRecursion (λ p. has p (keys_of graph) ≡ true) (keys_of cs) → AllByRecursion (λ (x : ℕ × ℕ). IsIdIn terms x.0) cs
    by [] a = tt
    by (x ∷ xs) a = (pred-id terms items x.0 ids (sym (i.preds x.0) ∙ a.0), by xs a.1)

-- one of them
pub at-id : (terms : List RdfTerm) (cs : List Coloured) (i : ℕ) (d : Coloured) → i < length cs → AllByRecursion (λ (c : ℕ × ℕ). IsIdIn terms c.0) (map pair_of cs) → IsIdIn terms (get_or cs i d).pred
at-id terms [] i d l a = absurd (omega arith)
at-id terms (c ∷ cs) zero d l a = a.0
at-id terms (c ∷ cs) (suc i) d l a = at-id terms cs i d (omega arith) a.1

-- a pair more
pub pairs-more : (terms : List RdfTerm) (colours : List Coloured) (i : ℕ) (d : Coloured) (pairs : List ColourPair) (p : ColourPair) → i < length colours
    → map known_of pairs ≡ map (λ (c : ℕ × ℕ). (text_of_id terms c.0, c.1)) (map pair_of (take i colours))
    → known_of p ≡ (text_of_id terms (get_or colours i d).pred, (get_or colours i d).column)
    → map known_of (pairs ++ p ∷ []) ≡ map (λ (c : ℕ × ℕ). (text_of_id terms c.0, c.1)) (map pair_of (take (i + 1) colours))
pairs-more terms colours i d pairs p l h k =
    map_push known_of pairs p
    ∙ (λ j. h j ++ k j ∷ [])
    ∙ sym (ap (λ (cs : List Coloured). map name (map pair_of cs)) (take_more colours i d l)
    ∙ ap (map name) (map_push pair_of (take i colours) (get_or colours i d))
    ∙ map_push name (map pair_of (take i colours)) (pair_of (get_or colours i d)))
  where
    name : ℕ × ℕ → List ℕ × ℕ
    name c = (text_of_id terms c.0, c.1)
