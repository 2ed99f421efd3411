-- The order of terms and of places in a solution (this project's own, beyond SPARQL 1.1, section 15.1).
use Rattle.std.specs.Prelude.{Option}
use Rattle.std.specs.Option.{option_cmp}
use Rattle.std.specs.declared.cmp.Ordering.{Ordering}
use Rattle.std.specs.Ordering.{nat_cmp, int_cmp, on, then_cmp}
use Rattle.std.specs.Cmp.Lexicographic.{slice_cmp}
use Rattle.rdf_meaning.specs.Terms.{RdfTerm}
use Rattle.rdf_value_meaning.specs.Values.{class_of, value_of}

-- by class, then value, then text by bytes, then tag or datatype by bytes
abbrev pub term_order : RdfTerm → RdfTerm → Ordering
term_order =
    then_cmp (on class_of nat_cmp) (then_cmp (on value_of (option_cmp int_cmp))
    (then_cmp (on (λ t. t.text) (slice_cmp nat_cmp)) (on (λ t. t.aux) (slice_cmp nat_cmp))))

-- unbound, which is nothing, before every term
abbrev pub place_order : Option RdfTerm → Option RdfTerm → Ordering
place_order = option_cmp term_order
