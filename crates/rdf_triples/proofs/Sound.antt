-- What is held stays sound, and is what the change makes of it.
use Rattle.std.proofs.Common.{◌≡◌, ◌⊎◌, true, false, ◌<◌, length, length-append, arith, List, [], ◌∷◌, ◌++◌, refl, sym, ap, ◌∙◌, inl, inr, subst}
use Rattle.std.specs.List.{list_any, IsDistinct, AllByRecursion}
use Rattle.std.specs.List.Sorted.{IsPermutation}
use Rattle.std.proofs.lemmas.Bool.{cases_Bool, or_right}
use Rattle.std.proofs.lemmas.List.{map-append}
use Rattle.std.proofs.lemmas.List.Sorted.{list_any-IsPermutation, length_permutation}
use Rattle.std.proofs.lemmas.Map.Keys.{IsDistinct-push, IsDistinct-tail}
use Rattle.indexmap.specs.IndexSet.{insert_key, swap_remove_by}
use Rattle.bags.specs.BagLaws.{each-append}
use Rattle.rdf_meaning.specs.Terms.{RdfTerm, RdfTriple, same_triple}
use Rattle.rdf_meaning.specs.TermLaws.{same_triple-is, same_triple_equiv}
use Rattle.rdf_triples.specs.declared.ids.IdTriple.{IdTriple}
use Rattle.rdf_triples.specs.Held.{Held, triple_of, triples_of, HasIds, LacksTerm, AreIds, Grows, IsSound}
use Rattle.rdf_triples.proofs.Places.{none_removed, one_removed, any_alike, removed_alike}
use Rattle.rdf_triples.proofs.Bags.{rest_differs}
use Rattle.rdf_triples.proofs.Decoding.{same_ids, same_ids-is, same_ids-self, triple_is, ids_below, alike, lacking, triples_grown, ids_grown}

each_of : (P : IdTriple → Type 0) (ks : List IdTriple) → AllByRecursion P ks → (k : IdTriple) → list_any (same_ids k) ks ≡ true → P k
each_of P [] all k e = cc
each_of P (x ∷ ks) all k e = go (cases_Bool (same_ids k x)) (each_of P ks all.1 k)
  where
    go : (same_ids k x ≡ true) ⊎ (same_ids k x ≡ false) → (list_any (same_ids k) ks ≡ true → P k) → P k
    go (inl h) rest = subst P (sym (same_ids-is k x h)) all.0
    go (inr h) rest = rest (rw h at e)

of_each : (P : IdTriple → Type 0) (ks : List IdTriple) → ((k : IdTriple) → list_any (same_ids k) ks ≡ true → P k) → AllByRecursion P ks
of_each P [] h = tt
of_each P (x ∷ ks) h = (h x (rw (same_ids-self x) refl), of_each P ks (λ k e. h k (or_right (same_ids k x) (list_any (same_ids k) ks) e)))

-- ---- whether a triple is held

pub held_there : (terms : List RdfTerm) (present : List IdTriple) → IsSound terms present → (t : RdfTriple) (ids : IdTriple) → HasIds terms t ids → list_any (same_ids ids) present ≡ list_any (same_triple t) (triples_of terms present)
held_there terms present sound t ids h = any_alike (same_ids ids) (same_triple t) (triple_of terms) (AreIds (length terms)) (alike terms sound.distinct t ids h) present sound.ids

pub held_not : (terms : List RdfTerm) (present : List IdTriple) → IsSound terms present → (t : RdfTriple) → LacksTerm terms t → list_any (same_triple t) (triples_of terms present) ≡ false
held_not terms present sound t lacks = lacking terms t lacks present sound.ids

-- ---- terms that are put last

pub sound_grown : (old new : List RdfTerm) (present : List IdTriple) → IsSound old present → Grows old new → IsSound new present
sound_grown old new present sound g = record {
  distinct = g.distinct sound.distinct;
  ids = ids_grown old new g present sound.ids;
  once = subst (λ (ts : List RdfTriple). IsDistinct same_triple ts) (sym (triples_grown old new g present sound.ids)) sound.once;
  within = sound.within;
}

pub triples_kept : (old new : List RdfTerm) (present : List IdTriple) → IsSound old present → Grows old new → triples_of new present ≡ triples_of old present
triples_kept old new present sound g = triples_grown old new g present sound.ids

-- ---- one triple more

pub inserted : (terms : List RdfTerm) (present now : List IdTriple) → IsSound terms present → (t : RdfTriple) (ids : IdTriple) → HasIds terms t ids → list_any (same_triple t) (triples_of terms present) ≡ false → now ≡ insert_key same_ids present ids → now ≡ present ++ ids ∷ []
inserted terms present now sound t ids h new e =
    let none : list_any (same_ids ids) present ≡ false = held_there terms present sound t ids h ∙ new in
    e ∙ (rw none refl)

pub triples_pushed : (terms : List RdfTerm) (present : List IdTriple) (t : RdfTriple) (ids : IdTriple) → HasIds terms t ids → triples_of terms (present ++ ids ∷ []) ≡ triples_of terms present ++ t ∷ []
triples_pushed terms present t ids h = map-append (triple_of terms) present (ids ∷ []) ∙ ap (λ (u : RdfTriple). triples_of terms present ++ u ∷ []) (triple_is terms t ids h)

pub sound_pushed : (terms : List RdfTerm) (present : List IdTriple) → IsSound terms present → (t : RdfTriple) (ids : IdTriple) → HasIds terms t ids → list_any (same_triple t) (triples_of terms present) ≡ false → length present < 1000000 → IsSound terms (present ++ ids ∷ [])
sound_pushed terms present sound t ids h new less = record {
  distinct = sound.distinct;
  ids = each-append (AreIds (length terms)) present (ids ∷ []) sound.ids (ids_below terms t ids h, tt);
  once = subst (λ (ts : List RdfTriple). IsDistinct same_triple ts) (sym (triples_pushed terms present t ids h)) (IsDistinct-push same_triple_equiv (triples_of terms present) t sound.once new);
  within = let more = length-append present (ids ∷ []) in omega (arith, less, more);
}

-- ---- one triple less

pub triples_removed : (terms : List RdfTerm) (present : List IdTriple) → IsSound terms present → (t : RdfTriple) (ids : IdTriple) → HasIds terms t ids
    → triples_of terms (swap_remove_by (same_ids ids) present) ≡ swap_remove_by (same_triple t) (triples_of terms present)
triples_removed terms present sound t ids h = removed_alike (same_ids ids) (same_triple t) (triple_of terms) (AreIds (length terms)) (alike terms sound.distinct t ids h) present sound.ids

pub sound_removed : (terms : List RdfTerm) (present : List IdTriple) → IsSound terms present → (t : RdfTriple) (ids : IdTriple) → HasIds terms t ids → IsSound terms (swap_remove_by (same_ids ids) present)
sound_removed terms present sound t ids h = go (cases_Bool (list_any (same_ids ids) present))
  where
    go : (list_any (same_ids ids) present ≡ true) ⊎ (list_any (same_ids ids) present ≡ false) → IsSound terms (swap_remove_by (same_ids ids) present)
    go (inr e) = subst (λ (ks : List IdTriple). IsSound terms ks) (sym (none_removed (same_ids ids) present e)) sound
    go (inl e) =
        let rest = swap_remove_by (same_ids ids) present in
        let moved : IsPermutation present (ids ∷ rest) = one_removed (same_ids ids) present ids (same_ids-is ids) e in
        let there : list_any (same_triple t) (triples_of terms present) ≡ true = sym (held_there terms present sound t ids h) ∙ e in
        let all : AllByRecursion (AreIds (length terms)) (ids ∷ rest) = of_each (AreIds (length terms)) (ids ∷ rest) (λ k f. each_of (AreIds (length terms)) present sound.ids k (list_any-IsPermutation (same_ids k) present (ids ∷ rest) moved ∙ f)) in
        record {
          distinct = sound.distinct;
          ids = all.1;
          once = subst (λ (ts : List RdfTriple). IsDistinct same_triple ts) (sym (triples_removed terms present sound t ids h))
              (IsDistinct-tail same_triple t _ (rest_differs same_triple same_triple-is same_triple_equiv (triples_of terms present) t sound.once there));
          within = let long = length_permutation present (ids ∷ rest) moved in omega (arith, sound.within, long);
        }

-- where the triple isn't held, nothing goes
pub nothing_removed : (terms : List RdfTerm) (present : List IdTriple) → IsSound terms present → (t : RdfTriple) → LacksTerm terms t → swap_remove_by (same_triple t) (triples_of terms present) ≡ triples_of terms present
nothing_removed terms present sound t lacks = none_removed (same_triple t) (triples_of terms present) (held_not terms present sound t lacks)

pub sound_empty : (terms : List RdfTerm) (present : List IdTriple) → terms ≡ [] → present ≡ [] → IsSound terms present
unfolding IsDistinct
sound_empty terms present e f = rw (e, f) (record { distinct = tt; ids = tt; once = tt; within = omega arith })

-- ---- an addition as a whole

pub triples_added : (old new : List RdfTerm) (present now : List IdTriple) → IsSound old present → Grows old new → (t : RdfTriple) (ids : IdTriple) → HasIds new t ids → list_any (same_triple t) (triples_of old present) ≡ false → now ≡ insert_key same_ids present ids
    → triples_of new now ≡ triples_of old present ++ t ∷ []
triples_added old new present now sound g t ids h not_held e =
    let kept : triples_of new present ≡ triples_of old present = triples_kept old new present sound g in
    let absent : list_any (same_triple t) (triples_of new present) ≡ false = ap (λ (ts : List RdfTriple). list_any (same_triple t) ts) kept ∙ not_held in
    ap (triples_of new) (inserted new present now (sound_grown old new present sound g) t ids h absent e)
    ∙ triples_pushed new present t ids h
    ∙ ap (λ (ts : List RdfTriple). ts ++ t ∷ []) kept

pub sound_added : (old new : List RdfTerm) (present now : List IdTriple) → IsSound old present → Grows old new → (t : RdfTriple) (ids : IdTriple) → HasIds new t ids → list_any (same_triple t) (triples_of old present) ≡ false → now ≡ insert_key same_ids present ids → length present < 1000000
    → IsSound new now
sound_added old new present now sound g t ids h not_held e less =
    let wide : IsSound new present = sound_grown old new present sound g in
    let absent : list_any (same_triple t) (triples_of new present) ≡ false = ap (λ (ts : List RdfTriple). list_any (same_triple t) ts) (triples_kept old new present sound g) ∙ not_held in
    subst (λ (ks : List IdTriple). IsSound new ks) (sym (inserted new present now wide t ids h absent e)) (sound_pushed new present wide t ids h absent less)

pub same_held : (a b : Held) → a.terms ≡ b.terms → a.triples ≡ b.triples → a ≡ b
same_held a b t k = λ i. record { terms = t i; triples = k i }
