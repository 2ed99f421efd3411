-- A bulk that is loaded: its limits by the store's refusals.
use Rattle.std.proofs.Common.{◌≡◌, ◌≢◌, ℕ, ◌+◌, nat_le, nat_lt, Bool, true, false, if◌then◌else◌, List, [], ◌∷◌, ◌++◌, map, fold, length, Option, Some, None, refl, sym, ap, ◌∙◌, arith, subst}
use Rattle.std.specs.List.{list_any}
use Rattle.std.specs.Option.{option_or}
use Rattle.std.proofs.lemmas.List.{map-append}
use Rattle.rdf_meaning.specs.Terms.{RdfTerm, RdfTriple, same_triple}
use Rattle.line_change_meaning.specs.declared.change.Change.{Change}
use Rattle.line_change_meaning.specs.declared.change.Change.TheVariants.{Add}
use Rattle.line_change_meaning.specs.Present.{is_present, present}
use Rattle.layout_standing_meaning.specs.Changes.{with_terms}
use Rattle.run_meaning.specs.declared.which.Which.{Which}
use Rattle.run_meaning.specs.declared.which.Which.TheVariants as which
use Rattle.run_meaning.specs.Limits.{with_needed, terms_needed, passed_at, passed_from, passed_limit, or_later}
use Rattle.line_change_laws.proofs.Present.{present_members, adds_present}
use Rattle.rdf_layout.specs.declared.refusal.StoreRefusal.{StoreRefusal}
use Rattle.rdf_layout.specs.declared.refusal.StoreRefusal.TheVariants.{Triples, Terms, Lists, NoMemory}
use Rattle.layout_bulk_laws.specs.BulkStore.{each_once, terms_of}
use Rattle.rdf_layout.specs.Bulk as loading
use Rattle.rdf_triples.specs.declared.refusal.LoadRefusal.{LoadRefusal}
use Rattle.rdf_triples.specs.declared.refusal.LoadRefusal.TheVariants as load
use Rattle.rdf_triples.specs.Refusals.{Refuses}
use Rattle.run_store.specs.Refused.{load_refusal_of}

-- the limit that a refusal names
abbrev which_for : Option StoreRefusal → Option Which
which_for None = None
which_for (Some Triples) = Some which.Triples
which_for (Some Terms) = Some which.Terms
which_for (Some Lists) = None
which_for (Some NoMemory) = None

-- triples go before terms
abbrev limit_by : Bool → Bool → Bool → Option Which
limit_by there full long = if there then None else (if full then Some which.Triples else (if long then Some which.Terms else None))

abbrev refusal_by : Bool → Bool → Bool → Option StoreRefusal
refusal_by there full long = if there then None else if full then Some Triples else if long then Some Terms else None

present-once : (seen : List RdfTriple) (t : RdfTriple) → is_present (map Add seen) t ≡ list_any (same_triple t) (each_once seen)
present-once seen t = sym (present_members (map Add seen) t) ∙ ap (λ (ts : List RdfTriple). list_any (same_triple t) ts) (adds_present seen)

terms-needed : (terms : List RdfTerm) (seen : List RdfTriple) → fold with_needed terms (map Add seen) ≡ fold with_terms terms seen
terms-needed terms [] = refl
terms-needed terms (t ∷ seen) = terms-needed (with_terms terms t) seen

one-more : (n : ℕ) → nat_lt 1000000 (n + 1) ≡ nat_le 1000000 n
one-more n = grind arith

limit-is : (seen : List RdfTriple) (t : RdfTriple)
    → passed_at (map Add seen) (Add t)
    ≡ limit_by (list_any (same_triple t) (each_once seen)) (nat_le 1000000 (length (each_once seen))) (nat_lt 4000000 (length (with_terms (terms_of seen) t)))
limit-is seen t =
    ap (λ (b : Bool). limit_by b (nat_lt 1000000 (length (present (map Add seen)) + 1)) (nat_lt 4000000 (length (with_needed (terms_needed (map Add seen)) (Add t))))) (present-once seen t)
    ∙ ap (λ (b : Bool). limit_by (list_any (same_triple t) (each_once seen)) b (nat_lt 4000000 (length (with_needed (terms_needed (map Add seen)) (Add t)))))
    (one-more (length (present (map Add seen))) ∙ ap (λ (ts : List RdfTriple). nat_le 1000000 (length ts)) (adds_present seen))
    ∙ ap (λ (ts : List RdfTerm). limit_by (list_any (same_triple t) (each_once seen)) (nat_le 1000000 (length (each_once seen))) (nat_lt 4000000 (length (with_terms ts t)))) (terms-needed [] seen)

both-on : (there full long : Bool) (limit : Option Which) (refusal : Option StoreRefusal) → limit ≡ which_for refusal
    → or_later (limit_by there full long) limit ≡ which_for (option_or (refusal_by there full long) refusal)
both-on true full long limit refusal e = e
both-on false true long limit refusal e = refl
both-on false false true limit refusal e = refl
both-on false false false limit refusal e = e

passed-is : (seen later : List RdfTriple) → passed_from (map Add seen) (map Add later) ≡ which_for (loading.refusal_from seen later)
passed-is seen [] = refl
passed-is seen (t ∷ later) =
    ap (λ (o : Option Which). or_later o (passed_from (map Add seen ++ Add t ∷ []) (map Add later))) (limit-is seen t)
    ∙ both-on (list_any (same_triple t) (each_once seen)) (nat_le 1000000 (length (each_once seen))) (nat_lt 4000000 (length (with_terms (terms_of seen) t)))
    (passed_from (map Add seen ++ Add t ∷ []) (map Add later)) (loading.refusal_from (seen ++ t ∷ []) later)
    (ap (λ (before : List Change). passed_from before (map Add later)) (sym (map-append Add seen (t ∷ []))) ∙ passed-is (seen ++ t ∷ []) later)

not-lists-by : (there full long : Bool) (refusal : Option StoreRefusal) → (refusal ≡ Some Lists → ⊥) → option_or (refusal_by there full long) refusal ≡ Some Lists → ⊥
not-lists-by true full long refusal h e = h e
not-lists-by false true long refusal h e = cc
not-lists-by false false true refusal h e = cc
not-lists-by false false false refusal h e = h e

-- a bulk is refused for triples or terms alone
not-lists : (seen later : List RdfTriple) → loading.refusal_from seen later ≡ Some Lists → ⊥
not-lists seen [] e = cc
not-lists seen (t ∷ later) e =
    not-lists-by (list_any (same_triple t) (each_once seen)) (nat_le 1000000 (length (each_once seen))) (nat_lt 4000000 (length (with_terms (terms_of seen) t)))
    (loading.refusal_from (seen ++ t ∷ []) later) (not-lists (seen ++ t ∷ []) later) e

pub bulk-within : (triples : List RdfTriple) → loading.refusal_from [] triples ≡ None → passed_limit (map Add triples) ≡ None
bulk-within triples e = passed-is [] triples ∙ ap which_for e

pub bulk-no-lists : (triples : List RdfTriple) (e : StoreRefusal) → (e ≢ NoMemory → loading.refusal_from [] triples ≡ Some e) → e ≢ Lists
bulk-no-lists triples e h l = not-lists [] triples (h (λ m. cc) ∙ ap (λ (r : StoreRefusal). Some r) l)

-- the limit that the refusal of a bulk names is passed
pub bulk-passes : (triples : List RdfTriple) (e : StoreRefusal) (r : LoadRefusal) → (e ≢ NoMemory → loading.refusal_from [] triples ≡ Some e) → load_refusal_of e ≡ Some r → Refuses r (passed_limit (map Add triples))
bulk-passes triples NoMemory r h k = let s : load.NoMemory ≡ r = cc in subst (λ (x : LoadRefusal). Refuses x (passed_limit (map Add triples))) s tt
bulk-passes triples Triples r h k =
    let s : load.Limit which.Triples ≡ r = cc in
    subst (λ (x : LoadRefusal). Refuses x (passed_limit (map Add triples))) s (passed-is [] triples ∙ ap which_for (h (λ e. cc)))
bulk-passes triples Terms r h k =
    let s : load.Limit which.Terms ≡ r = cc in
    subst (λ (x : LoadRefusal). Refuses x (passed_limit (map Add triples))) s (passed-is [] triples ∙ ap which_for (h (λ e. cc)))
bulk-passes triples Lists r h k = cc
