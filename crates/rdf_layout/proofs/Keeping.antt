-- What changes keep of a store, and what it holds after them.
use Rattle.std.proofs.Common.{◌≡◌, ◌∷◌, if◌then◌else◌, Bool, true, false, Result, Ok, Err, refl, sym, ◌∙◌, subst}
use Rattle.std.specs.Prelude.{IfOk, OnOk, OnErr}
use Rattle.bags.specs.Bag.{SameBag}
use Rattle.rdf_meaning.specs.Terms.{RdfTriple}
use Rattle.layout_standing_meaning.specs.Dictionary.{IsTriple}
use Rattle.layout_standing_meaning.specs.Stored.{StoreOf, IsStore, sides_of, stored_triples}
use Rattle.layout_standing_meaning.specs.Changes.{with_terms, item_in, is_stored, stored_in, taken_out, IsRefused}
use Rattle.layout_standing_meaning.proofs.Changed.{triples-in, triples-out}
use Rattle.layout_list_laws.specs.InOrder.{AreInOrder}
use Rattle.layout_store_laws.proofs.Same.{there-unchanged, absent-unchanged}
use Rattle.value_lists.specs.declared.lists.Put.{Put}
use Rattle.value_lists.specs.declared.lists.Put.TheVariants.{Added, There}
use Rattle.value_lists.specs.Answers.{put_of}
use Rattle.primary_rows.specs.declared.side.Took.{Took}
use Rattle.primary_rows.specs.declared.side.Took.TheVariants.{Absent}
use Rattle.primary_rows.specs.Answers.{took_of}
use Rattle.rdf_layout.specs.declared.refusal.StoreRefusal.{StoreRefusal}
use Rattle.layout_list_laws.proofs.Rising.{placed-in_order, taken-in_order, before-in_order}

-- the lists stay in order
stored-in_order : (s new : StoreOf) (t : RdfTriple) → new ≡ stored_in s t → AreInOrder (sides_of s) → AreInOrder (sides_of new)
stored-in_order s new t e h = subst (λ (w : StoreOf). AreInOrder (sides_of w)) (sym e) (placed-in_order (sides_of s) t.p.text (item_in (with_terms s.terms t) t) h)

pub put-in_order : {X E : Type 0} (r : Result X E) (s new : StoreOf) (t : RdfTriple) → OnOk r (new ≡ stored_in s t) → OnErr r (IsRefused s t new) → AreInOrder (sides_of s) → AreInOrder (sides_of new)
put-in_order (Ok x) s new t ok err h = stored-in_order s new t ok h
put-in_order (Err e) s new t ok err h = before-in_order (sides_of s) (sides_of new) err.sides h

pub taken-out_order : (s new : StoreOf) (t : RdfTriple) → new ≡ taken_out s t → AreInOrder (sides_of s) → AreInOrder (sides_of new)
taken-out_order s new t e h = subst (λ (w : StoreOf). AreInOrder (sides_of w)) (sym e) (taken-in_order (sides_of s) (item_in s.terms t) h)

-- the triples that are held
pub held-after_put : (s new : StoreOf) (t : RdfTriple) → IsStore s → IsTriple t → new ≡ stored_in s t → SameBag (stored_triples new) (if is_stored s t then stored_triples s else t ∷ stored_triples s)
held-after_put s new t h form e = subst (λ (w : StoreOf). SameBag (stored_triples w) (if is_stored s t then stored_triples s else t ∷ stored_triples s)) (sym e) (triples-in s t h form)

pub held-after_take : (s new : StoreOf) (t : RdfTriple) → IsStore s → new ≡ taken_out s t → SameBag (if is_stored s t then t ∷ stored_triples new else stored_triples new) (stored_triples s)
held-after_take s new t h e = subst (λ (w : StoreOf). SameBag (if is_stored s t then t ∷ stored_triples w else stored_triples w) (stored_triples s)) (sym e) (triples-out s t h)

-- answers that change nothing
put-there : (b : Bool) → There ≡ put_of b → b ≡ true
put-there true h = refl
put-there false h = cc

took-absent : (b : Bool) → Absent ≡ took_of b → b ≡ false
took-absent true h = cc
took-absent false h = refl

pub there-same : (r : Result Put StoreRefusal) (s new : StoreOf) (t : RdfTriple) → IsStore s → IsTriple t → IfOk r (λ put. put ≡ put_of (is_stored s t)) → OnOk r (new ≡ stored_in s t) → r ≡ Ok There → new ≡ s
there-same (Ok Added) s new t h form put e ok = cc
there-same (Ok There) s new t h form put e ok = e ∙ there-unchanged s t h form (put-there (is_stored s t) put)
there-same (Err x) s new t h form put e ok = cc

pub absent-same : (took : Took) (s new : StoreOf) (t : RdfTriple) → IsStore s → took ≡ took_of (is_stored s t) → new ≡ taken_out s t → took ≡ Absent → new ≡ s
absent-same took s new t h is e absent = e ∙ absent-unchanged s t h (took-absent (is_stored s t) (sym absent ∙ is))
