-- Solution mappings (SPARQL 1.1 Query, section 18.1.8), compatible mappings and their merge (section 18.5).
use Rattle.std.specs.Prelude.{ℕ, zero, suc, Bool, true, if◌then◌else◌, ◌&&◌, ◌==◌, Option, Some, None}
use Rattle.rdf_meaning.specs.Terms.{RdfTerm, same_term}

-- from the number of a variable to its term, or to none where it is unbound
abbrev pub Mapping : Type 0
Mapping = ℕ → Option RdfTerm

abbrev pub nothing : Mapping
nothing v = None

abbrev pub set : ℕ → Option RdfTerm → Mapping → Mapping
set v t m w = if w == v then t else m w

-- variables are numbered below this
unfoldable pub width : ℕ
width = 64

-- equal, or not bound on both sides
abbrev pub agree : Option RdfTerm → Option RdfTerm → Bool
agree (Some a) (Some b) = same_term a b
agree (Some a) None = true
agree None b = true

abbrev pub agree_below : ℕ → Mapping → Mapping → Bool
agree_below zero a b = true
agree_below (suc v) a b = agree (a v) (b v) && agree_below v a b

-- the mappings agree on each variable that both bind
abbrev pub compatible : Mapping → Mapping → Bool
compatible a b = agree_below width a b

abbrev pub either : Option RdfTerm → Option RdfTerm → Option RdfTerm
either (Some a) b = Some a
either None b = b

-- the union of two mappings
abbrev pub merge : Mapping → Mapping → Mapping
merge a b v = either (a v) (b v)
