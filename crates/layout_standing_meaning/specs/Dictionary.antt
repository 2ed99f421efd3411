-- The terms of the tables and their ids.
use Rattle.std.specs.Prelude.{◌≡◌, ℕ, ◌+◌, ◌≤◌, ◌==◌, true, Bool, if◌then◌else◌, List, [], ◌∷◌, map}
use Rattle.std.specs.List.{list_any, AllByRecursion}
use Rattle.bags.specs.Bag.{total}
use Rattle.rdf_meaning.specs.Terms.{RdfTerm, RdfTriple, is_term, can_be_subject, can_be_predicate, same_term}
use Rattle.layout_meaning.specs.Sound.{one_if}

-- a term under its id
pub record Entry : Type 0 where
  pub id : ℕ
  pub term : RdfTerm

-- the id of a term, or 0 where it has none
abbrev pub id_of : List Entry → RdfTerm → ℕ
id_of [] t = 0
id_of (e ∷ es) t = if same_term e.term t then e.id else id_of es t

abbrev pub has_term : List Entry → RdfTerm → Bool
has_term es t = list_any (λ (e : Entry). same_term e.term t) es

abbrev pub is_id : List Entry → ℕ → Bool
is_id es n = list_any (λ (e : Entry). e.id == n) es

-- the texts of the terms, under their ids
abbrev pub names_of : List Entry → List (ℕ × List ℕ)
names_of es = map (λ (e : Entry). (e.id, e.term.text)) es

-- the form of a term (RDF 1.1 Concepts, section 3)
abbrev pub IsTerm : RdfTerm → Type 0
IsTerm t = is_term t.kind t.text t.aux ≡ true

-- the form of a triple (RDF 1.1 Concepts, section 3.1)
pub record IsTriple (t : RdfTriple) : Type 0 where
  pub subject : can_be_subject t.s.kind ≡ true
  pub predicate : can_be_predicate t.p.kind ≡ true
  pub subject_form : IsTerm t.s
  pub predicate_form : IsTerm t.p
  pub object_form : IsTerm t.o

-- ids are at least 1 and distinct; each is that of one term, and no term has two
pub record AreEntries (es : List Entry) : Type 0 where
  pub least : AllByRecursion (λ (e : Entry). 1 ≤ e.id) es
  pub own_id : (n : ℕ) → total (λ (e : Entry). one_if (e.id == n)) es ≤ 1
  pub own_term : (t : RdfTerm) → total (λ (e : Entry). one_if (same_term e.term t)) es ≤ 1
  pub terms : AllByRecursion (λ (e : Entry). IsTerm e.term) es

-- a triple whose terms have ids
pub record HasIds (es : List Entry) (t : RdfTriple) : Type 0 where
  pub subject : has_term es t.s ≡ true
  pub predicate : has_term es t.p ≡ true
  pub object : has_term es t.o ≡ true

-- a list of terms numbered on from n
abbrev pub numbered_from : ℕ → List RdfTerm → List Entry
numbered_from n [] = []
numbered_from n (t ∷ ts) = record { id = n; term = t } ∷ numbered_from (n + 1) ts

-- a dictionary: its terms are numbered from 1
abbrev pub entries_of : List RdfTerm → List Entry
entries_of terms = numbered_from 1 terms
