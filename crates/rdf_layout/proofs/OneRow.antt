-- Entities of a coloured bulk have one row.
use Rattle.std.proofs.Common.{◌≡◌, ◌≤◌, ◌||◌, ℕ, nat_eq, Bool, true, false, List, [], ◌∷◌, map, length, refl, sym, ap, ◌∙◌, subst, arith}
use Rattle.std.specs.List.{AllByRecursion, IsDistinct}
use Rattle.bags.specs.Bag.{SameBag}
use Rattle.bags.specs.BagLaws.{same-sym, same-trans, same-map, same-any, each-weaker, each-map}
use Rattle.rdf_meaning.specs.declared.kind.TermKind.{TermKind}
use Rattle.rdf_meaning.specs.declared.kind.TermKind.TheVariants.{Iri, Blank, Tagged, Typed}
use Rattle.rdf_meaning.specs.Terms.{RdfTerm, is_empty, is_term, can_be_predicate, iri, same_term}
use Rattle.layout_meaning.specs.Columns.{ColumnsOf}
use Rattle.layout_meaning.specs.Side.{Item, items, rows_of}
use Rattle.layout_meaning.specs.Rows.{SideOf}
use Rattle.pred_colour_meaning.specs.Interference.{has}
use Rattle.layout_standing_meaning.specs.Dictionary.{IsTerm, id_of, entries_of}
use Rattle.layout_standing_meaning.specs.Sides.{turned}
use Rattle.layout_standing_meaning.specs.Stored.{StoreOf, IsStore, IsItem, IsIdIn, term_at, text_of_id}
use Rattle.layout_standing_meaning.specs.Changes.{store_of}
use Rattle.layout_standing_meaning.proofs.Steps.{items-once, each-bag_item}
use Rattle.layout_standing_meaning.proofs.Terms.{term_at-id, term_at-form}
use Rattle.shredder.specs.declared.bulk.Placed.{Placed}
use Rattle.shredder.specs.Items as placed
use Rattle.layout_bulk_meaning.specs.Bulk.{bulk_side}
use Rattle.layout_bulk_laws.specs.BulkStore.{HaveCandidates}
use Rattle.layout_bulk_laws.proofs.Placing.{AreApart, apart-same}
use Rattle.layout_bulk_laws.proofs.Bulks.{bulk-bag}
use Rattle.layout_columns_meaning.specs.BulkColours.{preds_under, AreBulkColours, AreColumnsFor}
use Rattle.layout_columns.specs.Entities.{is_pair}
use Rattle.layout_columns.proofs.ByEntity.{under_is}
use Rattle.layout_coloured_laws.specs.OneRow.{TellApart, ColouredEntitiesHaveOneRow}
use Rattle.rdf_layout.specs.Gathered.{AreStored, turned_placed}
use Rattle.rdf_layout.specs.OneRow.{KnownHaveOneRow, ColouredHaveOneRow}
use Rattle.rdf_layout.proofs.Found.{turned-items}

-- ---- the IRIs of predicates tell them apart

kind-is : (k : TermKind) → can_be_predicate k ≡ true → k ≡ Iri
kind-is Iri h = refl
kind-is Blank h = cc
kind-is Tagged h = cc
kind-is Typed h = cc

none-left : (xs : List ℕ) → is_empty xs ≡ true → xs ≡ []
none-left [] h = refl
none-left (x ∷ xs) h = cc

predicate-is : (t : RdfTerm) → can_be_predicate t.kind ≡ true → IsTerm t → t ≡ iri t.text
predicate-is t can form =
    let k : t.kind ≡ Iri = kind-is t.kind can in
    let f : is_term Iri t.text t.aux ≡ true = subst (λ (z : TermKind). is_term z t.text t.aux ≡ true) k form in
    let a : t.aux ≡ [] = none-left t.aux f in
    λ i. record { kind = k i; text = t.text; aux = a i }

-- an id whose term is an IRI
record IsPred (terms : List RdfTerm) (p : ℕ) : Type 0 where
  id : IsIdIn terms p
  can : can_be_predicate (term_at terms p).kind ≡ true

pred-of : (P : ℕ → Type 0) (p : ℕ) (xs : List Item) → AllByRecursion (λ (x : Item). P x.pred) xs → has p (map (λ (x : Item). x.pred) xs) ≡ true → P p
pred-of P p [] a h = cc
pred-of P p (x ∷ xs) a h = by (pred-of P p xs a.1) (nat_eq p x.pred) refl h
  where
    by : (has p (map (λ (x : Item). x.pred) xs) ≡ true → P p) → (b : Bool) → nat_eq p x.pred ≡ b → (b || has p (map (λ (x : Item). x.pred) xs)) ≡ true → P p
    by ih true e k = subst P (let s : x.pred ≡ p = grind arith in s) a.0
    by ih false e k = ih k

tell-apart : (terms : List RdfTerm) (xs : List Item) → IsDistinct same_term terms → AllByRecursion IsTerm terms → AllByRecursion (λ (x : Item). IsPred terms x.pred) xs → TellApart (text_of_id terms) xs
tell-apart terms xs distinct forms all p q hp hq same =
    let a : IsPred terms p = pred-of (IsPred terms) p xs all hp in
    let b : IsPred terms q = pred-of (IsPred terms) q xs all hq in
    let e : term_at terms p ≡ term_at terms q =
    predicate-is (term_at terms p) a.can (term_at-form terms p forms a.id) ∙ ap iri same ∙ sym (predicate-is (term_at terms q) b.can (term_at-form terms q forms b.id)) in
    sym (term_at-id terms p distinct a.id) ∙ ap (id_of (entries_of terms)) e ∙ term_at-id terms q distinct b.id

-- ---- one side

under-same : (xs ys : List Item) (e p : ℕ) → SameBag xs ys → has p (preds_under xs e) ≡ has p (preds_under ys e)
under-same xs ys e p h = under_is e p xs ∙ same-any (is_pair e p) xs ys h ∙ sym (under_is e p ys)

one-side : (law : ColouredEntitiesHaveOneRow) (terms : List RdfTerm) (chosen : ColumnsOf) (xs : List Item) (s : SideOf) → s ≡ bulk_side s.columns (text_of_id terms) xs → HaveCandidates s.columns
    → AreColumnsFor true chosen (text_of_id terms) xs s.columns → AreApart xs → TellApart (text_of_id terms) xs → KnownHaveOneRow terms s
one-side law terms chosen xs s is some columns apart tell e known =
    let bag : SameBag (items s.state) xs = subst (λ (w : SideOf). SameBag (items w.state) xs) (sym is) (bulk-bag s.columns (text_of_id terms) xs some apart) in
    let colours : AreBulkColours s.columns.count (text_of_id terms) xs s.columns.known = subst (λ (k : ℕ). AreBulkColours k (text_of_id terms) xs s.columns.known) (sym columns.count) columns.known in
    subst (λ (w : SideOf). length (rows_of w.state.entities e) ≤ 1) (sym is)
    (law s.columns (text_of_id terms) xs e some tell colours (λ p h. known p (under-same (items s.state) xs e p bag ∙ h)))

-- ---- both sides

preds-of : (terms : List RdfTerm) (xs : List Item) → AllByRecursion (IsItem terms) xs → AllByRecursion (λ (x : Item). IsPred terms x.pred) xs
preds-of terms xs a = each-weaker (IsItem terms) (λ (x : Item). IsPred terms x.pred) (λ (x : Item) (k : IsItem terms x). record { id = k.pred; can = k.form.predicate }) xs a

-- what holds of items that are stored
record Stored (terms : List RdfTerm) (xs : List Item) : Type 0 where
  direct : AreApart xs
  reverse : AreApart (map turned xs)
  tell_direct : TellApart (text_of_id terms) xs
  tell_reverse : TellApart (text_of_id terms) (map turned xs)

stored-here : (s : StoreOf) (xs : List Item) → IsStore s → SameBag xs (items s.direct.state) → Stored s.terms xs
stored-here s xs h same =
    let preds = preds-of s.terms xs (each-bag_item (IsItem s.terms) xs (items s.direct.state) same h.each_item) in
    let there = same-trans (same-map turned xs (items s.direct.state) same) (same-sym h.sides.same_items) in
    record {
      direct = apart-same xs (items s.direct.state) same (items-once s.direct h.sides.direct);
      reverse = apart-same (map turned xs) (items s.reverse.state) there (items-once s.reverse h.sides.reverse);
      tell_direct = tell-apart s.terms xs h.distinct h.forms preds;
      tell_reverse = tell-apart s.terms (map turned xs) h.distinct h.forms (each-map (λ (x : Item). IsPred s.terms x.pred) turned xs preds);
    }

stored : (terms : List RdfTerm) (xs : List Item) → AreStored terms xs → Stored terms xs
stored terms xs h = subst (λ (l : List RdfTerm). Stored l xs) (sym h.held.same_terms) (stored-here h.store xs h.held.good h.held.same_items)

pub one-row : (law : ColouredEntitiesHaveOneRow) (terms : List RdfTerm) (first second : ColumnsOf) (ps qs : List Placed) (direct reverse : SideOf) → AreStored terms (map placed.item_of ps) → qs ≡ map turned_placed ps
    → direct ≡ bulk_side direct.columns (text_of_id terms) (map placed.item_of ps) → reverse ≡ bulk_side reverse.columns (text_of_id terms) (map placed.item_of qs)
    → HaveCandidates direct.columns → HaveCandidates reverse.columns
    → AreColumnsFor true first (text_of_id terms) (map placed.item_of ps) direct.columns → AreColumnsFor true second (text_of_id terms) (map placed.item_of qs) reverse.columns
    → ColouredHaveOneRow (store_of terms (record { direct = direct; reverse = reverse }))
one-row law terms first second ps qs direct reverse h q d r a b c e =
    let k = stored terms (map placed.item_of ps) h in
    let t : map placed.item_of qs ≡ map turned (map placed.item_of ps) = ap (map placed.item_of) q ∙ turned-items ps in
    record {
      direct = one-side law terms first (map placed.item_of ps) direct d a c k.direct k.tell_direct;
      reverse = one-side law terms second (map placed.item_of qs) reverse r b e (subst AreApart (sym t) k.reverse) (subst (TellApart (text_of_id terms)) (sym t) k.tell_reverse);
    }
