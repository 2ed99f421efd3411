-- Triples that are put in one after another.
use Rattle.std.proofs.Common.{◌≡◌, ◌≢◌, ◌⊎◌, inl, inr, ℕ, ◌+◌, ◌≤◌, ◌<◌, ◌^◌, nat_le, nat_lt, Bool, true, false, if◌then◌else◌, List, [], ◌∷◌, ◌++◌, Option, Some, None, length, take, drop, get_or, refl, sym, ap, ◌∙◌, arith, subst}
use Rattle.std.specs.List.{list_any, IsDistinct}
use Rattle.std.specs.Option.{option_or}
use Rattle.std.proofs.lemmas.List.Sums.{fold-append}
use Rattle.std.proofs.lemmas.List.{take_more, drop_more}
use Rattle.bags.specs.Bag.{SameBag}
use Rattle.bags.specs.BagLaws.{same-refl, same-trans, same-append, same-append_comm, same-length, same-any}
use Rattle.rdf_meaning.specs.Terms.{RdfTerm, RdfTriple, same_triple}
use Rattle.line_change_meaning.specs.Present.{with_triple}
use Rattle.layout_meaning.specs.Columns.{candidates_of}
use Rattle.layout_meaning.proofs.Changes.{next-placed}
use Rattle.value_lists.specs.declared.lists.Put.{Put}
use Rattle.value_lists.specs.declared.lists.Put.TheVariants.{Added}
use Rattle.value_lists.specs.Answers.{put_of}
use Rattle.layout_standing_meaning.specs.Dictionary.{IsTriple}
use Rattle.layout_standing_meaning.specs.Schemas.{LayoutOf}
use Rattle.layout_standing_meaning.specs.Sides.{AreSides, turned}
use Rattle.layout_standing_meaning.specs.Stored.{StoreOf, sides_of, stored_triples}
use Rattle.layout_standing_meaning.specs.Changes.{with_terms, item_in, is_stored, stored_in}
use Rattle.layout_standing_meaning.proofs.Changed.{store-in, triples-in}
use Rattle.layout_store_laws.proofs.Same.{stored-fits, there-unchanged}
use Rattle.layout_list_laws.proofs.Rising.{none-in_order, placed-in_order}
use Rattle.rdf_layout.specs.declared.refusal.StoreRefusal.{StoreRefusal}
use Rattle.rdf_layout.specs.declared.refusal.StoreRefusal.TheVariants.{Triples, Terms, Lists, NoMemory}
use Rattle.rdf_layout.specs.Refused.{Refuses, HasRoom}
use Rattle.layout_bulk_laws.specs.BulkStore.{each_once, terms_of}
use Rattle.rdf_layout.specs.Bulk.{empty_sides, empty_store, put_in_turn, refusal_behind, refusal_from, ArePutInTurn}

-- no triples
pub put-none : (layout : LayoutOf) → AreSides (empty_sides layout) → ArePutInTurn (empty_store layout) [] (empty_store layout)
unfolding IsDistinct
put-none layout sides = record {
  store = record {
    sides = sides;
    direct_names = record { rows = tt };
    reverse_names = record { rows = tt };
    distinct = tt;
    forms = tt;
    each_item = tt;
  };
  placed = refl;
  triples = same-refl [];
  terms = refl;
  few = omega arith;
  direct_columns = refl;
  reverse_columns = refl;
  direct_ids = omega arith;
  reverse_ids = omega arith;
  in_order = none-in_order (empty_sides layout) refl refl;
}

pub once-more : (seen : List RdfTriple) (t : RdfTriple) → each_once (seen ++ t ∷ []) ≡ with_triple (each_once seen) t
once-more seen t = fold-append with_triple [] seen (t ∷ [])

terms-more : (seen : List RdfTriple) (t : RdfTriple) → terms_of (seen ++ t ∷ []) ≡ with_terms (terms_of seen) t
terms-more seen t = fold-append with_terms [] seen (t ∷ [])

put-more : (start : StoreOf) (seen : List RdfTriple) (t : RdfTriple) → put_in_turn start (seen ++ t ∷ []) ≡ stored_in (put_in_turn start seen) t
put-more start seen t = fold-append stored_in start seen (t ∷ [])

pub seen-same : (start s : StoreOf) (seen : List RdfTriple) (t : RdfTriple) → ArePutInTurn start seen s → list_any (same_triple t) (each_once seen) ≡ is_stored s t
seen-same start s seen t h = sym (same-any (same_triple t) (stored_triples s) (each_once seen) h.triples)

-- a triple that is stored
there-refuses_none : (start s : StoreOf) (seen : List RdfTriple) (t : RdfTriple) → ArePutInTurn start seen s → is_stored s t ≡ true → refusal_behind seen t ≡ None
there-refuses_none start s seen t h there = let a : list_any (same_triple t) (each_once seen) ≡ true = seen-same start s seen t h ∙ there in rw a refl

put-there : (start s : StoreOf) (seen : List RdfTriple) (t : RdfTriple) → ArePutInTurn start seen s → IsTriple t → is_stored s t ≡ true → ArePutInTurn start (seen ++ t ∷ []) (stored_in s t)
put-there start s seen t h form there = subst (λ (w : StoreOf). ArePutInTurn start (seen ++ t ∷ []) w) (sym same) (record {
  store = h.store;
  placed = sym same ∙ ap (λ (w : StoreOf). stored_in w t) h.placed ∙ sym (put-more start seen t);
  triples = subst (λ (l : List RdfTriple). SameBag (stored_triples s) l) (sym once) h.triples;
  terms = sym (stored-fits s t h.store there) ∙ ap (λ (l : List RdfTerm). with_terms l t) h.terms ∙ sym (terms-more seen t);
  few = h.few;
  direct_columns = h.direct_columns;
  reverse_columns = h.reverse_columns;
  direct_ids = h.direct_ids;
  reverse_ids = h.reverse_ids;
  in_order = h.in_order;
})
  where
    same : stored_in s t ≡ s
    same = there-unchanged s t h.store form there

    once : each_once (seen ++ t ∷ []) ≡ each_once seen
    once = once-more seen t ∙ ap (λ (b : Bool). if b then each_once seen else each_once seen ++ t ∷ []) (seen-same start s seen t h ∙ there)

-- a triple that is new
le-false : (m n : ℕ) → n < m → nat_le m n ≡ false
le-false m n l = grind arith

le-true : (m n : ℕ) → m ≤ n → nat_le m n ≡ true
le-true m n l = grind arith

lt-false : (m n : ℕ) → n ≤ m → nat_lt m n ≡ false
lt-false m n l = grind arith

lt-true : (m n : ℕ) → m < n → nat_lt m n ≡ true
lt-true m n l = grind arith

count-same : (start s : StoreOf) (seen : List RdfTriple) → ArePutInTurn start seen s → length (stored_triples s) ≡ length (each_once seen)
count-same start s seen h = same-length (stored_triples s) (each_once seen) h.triples

terms-same : (start s : StoreOf) (seen : List RdfTriple) (t : RdfTriple) → ArePutInTurn start seen s → length (with_terms s.terms t) ≡ length (with_terms (terms_of seen) t)
terms-same start s seen t h = ap (λ (l : List RdfTerm). length (with_terms l t)) h.terms

added-refuses_none : (start s : StoreOf) (seen : List RdfTriple) (t : RdfTriple) → ArePutInTurn start seen s → is_stored s t ≡ false → HasRoom s t → refusal_behind seen t ≡ None
added-refuses_none start s seen t h new room =
    let a : list_any (same_triple t) (each_once seen) ≡ false = seen-same start s seen t h ∙ new in
    let n = count-same start s seen h in
    let few = room.triples in
    let b : nat_le 1000000 (length (each_once seen)) ≡ false = le-false 1000000 (length (each_once seen)) (omega arith) in
    let k = terms-same start s seen t h in
    let fits = room.terms in
    let d : nat_lt 4000000 (length (with_terms (terms_of seen) t)) ≡ false = lt-false 4000000 (length (with_terms (terms_of seen) t)) (omega arith) in
    rw (a, b, d) refl

put-added : (start s : StoreOf) (seen : List RdfTriple) (t : RdfTriple) → ArePutInTurn start seen s → IsTriple t → is_stored s t ≡ false → HasRoom s t → ArePutInTurn start (seen ++ t ∷ []) (stored_in s t)
put-added start s seen t h form new room = record {
  store = store-in s t h.store form;
  placed = ap (λ (w : StoreOf). stored_in w t) h.placed ∙ sym (put-more start seen t);
  triples = subst (λ (l : List RdfTriple). SameBag (stored_triples (stored_in s t)) l) (sym once)
      (same-trans one (same-trans (same-append (t ∷ []) (t ∷ []) (stored_triples s) (each_once seen) (same-refl (t ∷ [])) h.triples) (same-append_comm (t ∷ []) (each_once seen))));
  terms = ap (λ (l : List RdfTerm). with_terms l t) h.terms ∙ sym (terms-more seen t);
  few = (let l = room.triples in let n = longer in omega arith);
  direct_columns = h.direct_columns;
  reverse_columns = h.reverse_columns;
  direct_ids = (let p = (next-placed s.direct.columns.count (candidates_of s.direct.columns t.p.text) (item_in (with_terms s.terms t) t) s.direct.state).1 in let l = h.direct_ids in let n = longer in omega arith);
  reverse_ids = (let p = (next-placed s.reverse.columns.count (candidates_of s.reverse.columns t.p.text) (turned (item_in (with_terms s.terms t) t)) s.reverse.state).1 in let l = h.reverse_ids in let n = longer in omega arith);
  in_order = placed-in_order (sides_of s) t.p.text (item_in (with_terms s.terms t) t) h.in_order;
}
  where
    one : SameBag (stored_triples (stored_in s t)) (t ∷ stored_triples s)
    one = subst (λ (b : Bool). SameBag (stored_triples (stored_in s t)) (if b then stored_triples s else t ∷ stored_triples s)) new (triples-in s t h.store form)

    longer : length (stored_triples (stored_in s t)) ≡ length (t ∷ stored_triples s)
    longer = same-length (stored_triples (stored_in s t)) (t ∷ stored_triples s) one

    once : each_once (seen ++ t ∷ []) ≡ each_once seen ++ t ∷ []
    once = once-more seen t ∙ ap (λ (b : Bool). if b then each_once seen else each_once seen ++ t ∷ []) (seen-same start s seen t h ∙ new)

-- a triple that was put in
put-step : (start s : StoreOf) (seen : List RdfTriple) (t : RdfTriple) (p : Put) → ArePutInTurn start seen s → IsTriple t → p ≡ put_of (is_stored s t) → (p ≡ Added → HasRoom s t) → ArePutInTurn start (seen ++ t ∷ []) (stored_in s t)
put-step start s seen t p h form answer room = by (is_stored s t) refl answer
  where
    by : (b : Bool) → is_stored s t ≡ b → p ≡ put_of b → ArePutInTurn start (seen ++ t ∷ []) (stored_in s t)
    by true e a = put-there start s seen t h form e
    by false e a = put-added start s seen t h form e (room a)

refuses_none : (start s : StoreOf) (seen : List RdfTriple) (t : RdfTriple) (p : Put) → ArePutInTurn start seen s → p ≡ put_of (is_stored s t) → (p ≡ Added → HasRoom s t) → refusal_behind seen t ≡ None
refuses_none start s seen t p h answer room = by (is_stored s t) refl answer
  where
    by : (b : Bool) → is_stored s t ≡ b → p ≡ put_of b → refusal_behind seen t ≡ None
    by true e a = there-refuses_none start s seen t h e
    by false e a = added-refuses_none start s seen t h e (room a)

refusal-step : (start s : StoreOf) (seen later : List RdfTriple) (t : RdfTriple) (p : Put) → ArePutInTurn start seen s → p ≡ put_of (is_stored s t) → (p ≡ Added → HasRoom s t)
    → refusal_from seen (t ∷ later) ≡ refusal_from (seen ++ t ∷ []) later
refusal-step start s seen later t p h answer room = ap (λ (o : Option StoreRefusal). option_or o (refusal_from (seen ++ t ∷ []) later)) (refuses_none start s seen t p h answer room)

-- a triple that was refused
refused-behind : (start s : StoreOf) (seen : List RdfTriple) (t : RdfTriple) (e : StoreRefusal) → ArePutInTurn start seen s → e ≢ NoMemory → Refuses e s t → refusal_behind seen t ≡ Some e
refused-behind start s seen t Triples h n r =
    let a : list_any (same_triple t) (each_once seen) ≡ false = seen-same start s seen t h ∙ r.0 in
    let full = r.1 in
    let k = count-same start s seen h in
    let b : nat_le 1000000 (length (each_once seen)) ≡ true = le-true 1000000 (length (each_once seen)) (omega arith) in
    rw (a, b) refl
refused-behind start s seen t Terms h n r =
    let a : list_any (same_triple t) (each_once seen) ≡ false = seen-same start s seen t h ∙ r.0 in
    let few = r.1 in
    let k = count-same start s seen h in
    let b : nat_le 1000000 (length (each_once seen)) ≡ false = le-false 1000000 (length (each_once seen)) (omega arith) in
    let passes = r.2 in
    let l = terms-same start s seen t h in
    let d : nat_lt 4000000 (length (with_terms (terms_of seen) t)) ≡ true = lt-true 4000000 (length (with_terms (terms_of seen) t)) (omega arith) in
    rw (a, b, d) refl
refused-behind start s seen t Lists h n r = absurd (by r.3)
  where
    by : ((stored_in s t).direct.state.next ≡ 2 ^ 62 + 1) ⊎ ((stored_in s t).reverse.state.next ≡ 2 ^ 62 + 1) → ⊥
    by (inl e) =
        let p : (stored_in s t).direct.state.next ≤ s.direct.state.next + 1 = (next-placed s.direct.columns.count (candidates_of s.direct.columns t.p.text) (item_in (with_terms s.terms t) t) s.direct.state).1 in
        let l = h.direct_ids in
        let few = h.few in
        omega arith
    by (inr e) =
        let p : (stored_in s t).reverse.state.next ≤ s.reverse.state.next + 1 = (next-placed s.reverse.columns.count (candidates_of s.reverse.columns t.p.text) (turned (item_in (with_terms s.terms t) t)) s.reverse.state).1 in
        let l = h.reverse_ids in
        let few = h.few in
        omega arith
refused-behind start s seen t NoMemory h n r = absurd (n refl)

refused-step : (start s : StoreOf) (seen later : List RdfTriple) (t : RdfTriple) (e : StoreRefusal) → ArePutInTurn start seen s → Refuses e s t → e ≢ NoMemory → refusal_from seen (t ∷ later) ≡ Some e
refused-step start s seen later t e h r n = ap (λ (o : Option StoreRefusal). option_or o (refusal_from (seen ++ t ∷ []) later)) (refused-behind start s seen t e h n r)

-- a turn of the loop
pub taken-on : (ts : List RdfTriple) (i : ℕ) (t : RdfTriple) → i < length ts → t ≡ get_or ts i t → take (i + 1) ts ≡ take i ts ++ t ∷ []
taken-on ts i t l e = take_more ts i t l ∙ ap (λ (u : RdfTriple). take i ts ++ u ∷ []) (sym e)

left-on : (ts : List RdfTriple) (i : ℕ) (t : RdfTriple) → i < length ts → t ≡ get_or ts i t → drop i ts ≡ t ∷ drop (i + 1) ts
left-on ts i t l e = drop_more ts i t l ∙ ap (λ (u : RdfTriple). u ∷ drop (i + 1) ts) (sym e)

pub put-on : (start s new : StoreOf) (ts : List RdfTriple) (i : ℕ) (t : RdfTriple) (p : Put) → i < length ts → t ≡ get_or ts i t → ArePutInTurn start (take i ts) s → IsTriple t → p ≡ put_of (is_stored s t) → (p ≡ Added → HasRoom s t)
    → new ≡ stored_in s t → ArePutInTurn start (take (i + 1) ts) new
put-on start s new ts i t p l e h form answer room stored =
    subst (λ (seen : List RdfTriple). ArePutInTurn start seen new) (sym (taken-on ts i t l e))
    (subst (λ (w : StoreOf). ArePutInTurn start (take i ts ++ t ∷ []) w) (sym stored) (put-step start s (take i ts) t p h form answer room))

pub refusal-on : (start s : StoreOf) (ts : List RdfTriple) (i : ℕ) (t : RdfTriple) (p : Put) → i < length ts → t ≡ get_or ts i t → ArePutInTurn start (take i ts) s → p ≡ put_of (is_stored s t) → (p ≡ Added → HasRoom s t)
    → refusal_from [] ts ≡ refusal_from (take i ts) (drop i ts) → refusal_from [] ts ≡ refusal_from (take (i + 1) ts) (drop (i + 1) ts)
refusal-on start s ts i t p l e h answer room before =
    before ∙ ap (λ (later : List RdfTriple). refusal_from (take i ts) later) (left-on ts i t l e) ∙ refusal-step start s (take i ts) (drop (i + 1) ts) t p h answer room
    ∙ ap (λ (seen : List RdfTriple). refusal_from seen (drop (i + 1) ts)) (sym (taken-on ts i t l e))

pub refused-on : (start s : StoreOf) (ts : List RdfTriple) (i : ℕ) (t : RdfTriple) (r : StoreRefusal) → i < length ts → t ≡ get_or ts i t → ArePutInTurn start (take i ts) s → Refuses r s t
    → refusal_from [] ts ≡ refusal_from (take i ts) (drop i ts) → r ≢ NoMemory → refusal_from [] ts ≡ Some r
refused-on start s ts i t r l e h refuses before n =
    before ∙ ap (λ (later : List RdfTriple). refusal_from (take i ts) later) (left-on ts i t l e) ∙ refused-step start s (take i ts) (drop (i + 1) ts) t r h refuses n
