-- Equal terms and triples: the tests say it.
use Rattle.std.specs.Prelude.{◌≡◌, ◌++◌, Bool, true, refl, IsTrue}
use Rattle.std.specs.Cmp.{IsEquivalence, first_so, second_so}
use Rattle.std.specs.Hash as fed
use Rattle.std.specs.Bool.{Decides, one_answer}
use Rattle.std.proofs.Common.{subst, sym, ap}
use Rattle.std.proofs.lemmas.Slice.Eq.{bytes_eq-Decides}
use Rattle.rdf_meaning.specs.declared.kind.TermKind.{TermKind}
use Rattle.rdf_meaning.specs.declared.kind.TermKind.TheVariants.{Iri, Blank, Tagged, Typed}
use Rattle.rdf_meaning.specs.Terms.{RdfTerm, RdfTriple, same_kind, same_term, same_triple}

pub same_kind-is : (a b : TermKind) → same_kind a b ≡ true → a ≡ b
same_kind-is Iri Iri h = refl
same_kind-is Blank Blank h = refl
same_kind-is Tagged Tagged h = refl
same_kind-is Typed Typed h = refl
same_kind-is Iri Blank h = cc
same_kind-is Iri Tagged h = cc
same_kind-is Iri Typed h = cc
same_kind-is Blank Iri h = cc
same_kind-is Blank Tagged h = cc
same_kind-is Blank Typed h = cc
same_kind-is Tagged Iri h = cc
same_kind-is Tagged Blank h = cc
same_kind-is Tagged Typed h = cc
same_kind-is Typed Iri h = cc
same_kind-is Typed Blank h = cc
same_kind-is Typed Tagged h = cc

pub same_kind-self : (a : TermKind) → same_kind a a ≡ true
same_kind-self Iri = refl
same_kind-self Blank = refl
same_kind-self Tagged = refl
same_kind-self Typed = refl

pub same_term-is : (a b : RdfTerm) → same_term a b ≡ true → a ≡ b
same_term-is a b h =
    let k : a.kind ≡ b.kind = same_kind-is a.kind b.kind (first_so _ _ h) in
    let t : a.text ≡ b.text = (bytes_eq-Decides a.text b.text).0 (first_so _ _ (second_so _ _ h)) in
    let u : a.aux ≡ b.aux = (bytes_eq-Decides a.aux b.aux).0 (second_so _ _ (second_so _ _ h)) in
    λ i. record { kind = k i; text = t i; aux = u i }

pub same_term-self : (a : RdfTerm) → same_term a a ≡ true
same_term-self a = rw (same_kind-self a.kind, (bytes_eq-Decides a.text a.text).1 refl, (bytes_eq-Decides a.aux a.aux).1 refl) refl

-- the test of terms says whether they are the same
pub same_term-Decides : (a b : RdfTerm) → Decides (same_term a b) (a ≡ b)
same_term-Decides a b = (same_term-is a b, λ e. subst (λ (x : RdfTerm). same_term a x ≡ true) e (same_term-self a))

pub same_triple-is : (a b : RdfTriple) → same_triple a b ≡ true → a ≡ b
same_triple-is a b h =
    let s : a.s ≡ b.s = same_term-is a.s b.s (first_so _ _ h) in
    let p : a.p ≡ b.p = same_term-is a.p b.p (first_so _ _ (second_so _ _ h)) in
    let o : a.o ≡ b.o = same_term-is a.o b.o (second_so _ _ (second_so _ _ h)) in
    λ i. record { s = s i; p = p i; o = o i }

pub same_triple-self : (a : RdfTriple) → same_triple a a ≡ true
same_triple-self a = rw (same_term-self a.s, same_term-self a.p, same_term-self a.o) refl

-- the test of triples says whether they are the same
pub same_triple-Decides : (a b : RdfTriple) → Decides (same_triple a b) (a ≡ b)
same_triple-Decides a b = (same_triple-is a b, λ e. subst (λ (x : RdfTriple). same_triple a x ≡ true) e (same_triple-self a))

-- a test that says whether two items are the same is an equivalence
pub decided_equiv : {X : Type 0} (same : X → X → Bool) → ((a b : X) → Decides (same a b) (a ≡ b)) → IsEquivalence same
decided_equiv same d = record {
  refl = λ x. (d x x).1 refl;
  symm = λ x y. one_answer (same x y) (same y x) (d x y) (λ h. sym ((d y x).0 h), λ e. (d y x).1 (sym e));
  congr = λ x y z h. ap (λ t. same t z) ((d x y).0 h);
}

pub same_term_equiv : IsEquivalence same_term
same_term_equiv = decided_equiv same_term same_term-Decides

pub same_triple_equiv : IsEquivalence same_triple
same_triple_equiv = decided_equiv same_triple same_triple-Decides

-- the same terms have one text
pub same_term_hash : (a b : RdfTerm) → IsTrue (same_term a b) → fed.str a.text ≡ fed.str b.text
same_term_hash a b h = ap (λ (t : RdfTerm). fed.str t.text) (same_term-is a b h)

-- the same triples have one subject and one object
pub same_triple_hash : (a b : RdfTriple) → IsTrue (same_triple a b) → fed.str a.s.text ++ fed.str a.o.text ≡ fed.str b.s.text ++ fed.str b.o.text
same_triple_hash a b h = ap (λ (t : RdfTriple). fed.str t.s.text ++ fed.str t.o.text) (same_triple-is a b h)
