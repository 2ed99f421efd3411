-- Which list ids a change uses up.
use Rattle.std.proofs.Common.{◌≡◌, ap, arith}
use Rattle.rdf_meaning.specs.Terms.{RdfTriple}
use Rattle.layout_meaning.specs.Columns.{candidates_of}
use Rattle.layout_meaning.specs.Rows.{SideOf}
use Rattle.layout_meaning.proofs.Changes.{next-placed, next-taken}
use Rattle.layout_standing_meaning.specs.Sides.{turned}
use Rattle.layout_standing_meaning.specs.Stored.{StoreOf}
use Rattle.layout_standing_meaning.specs.Changes.{with_terms, item_in, stored_in, taken_out, IsRefused}
use Rattle.layout_store_laws.specs.ListIds.{UseOneAtMost}

pub stored-one : (s : StoreOf) (t : RdfTriple) → UseOneAtMost s (stored_in s t)
stored-one s t =
    let d = next-placed s.direct.columns.count (candidates_of s.direct.columns t.p.text) (item_in (with_terms s.terms t) t) s.direct.state in
    let r = next-placed s.reverse.columns.count (candidates_of s.reverse.columns t.p.text) (turned (item_in (with_terms s.terms t) t)) s.reverse.state in
    record { direct_on = d.0; direct_one = d.1; reverse_on = r.0; reverse_one = r.1 }

pub taken-none : (s : StoreOf) (t : RdfTriple) → ((taken_out s t).direct.state.next ≡ s.direct.state.next) × ((taken_out s t).reverse.state.next ≡ s.reverse.state.next)
taken-none s t = (next-taken (item_in s.terms t) s.direct.state, next-taken (turned (item_in s.terms t)) s.reverse.state)

pub refused-one : (s : StoreOf) (t : RdfTriple) (new : StoreOf) → IsRefused s t new → UseOneAtMost s new × (new.reverse.state.next ≡ s.reverse.state.next)
refused-one s t new h =
    let e : new.reverse.state.next ≡ s.reverse.state.next = ap (λ (side : SideOf). side.state.next) h.sides.reverse in
    (record { direct_on = h.sides.direct_next; direct_one = h.sides.one_at_most; reverse_on = omega arith; reverse_one = omega arith }, e)
