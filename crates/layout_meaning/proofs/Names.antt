-- Sides that keep to a list of names.
use Rattle.std.proofs.Common.{◌≡◌, ℕ, ◌<◌, List, Some, length, sym, ap, subst}
use Rattle.layout_meaning.specs.Columns.{candidates_of}
use Rattle.layout_meaning.specs.Side.{Item, placed}
use Rattle.layout_meaning.specs.Sound.{KeepsTo}
use Rattle.layout_meaning.specs.Rows.{SideOf, KeepsToNames, name_in, columns_by, placed_in, taken_from}
use Rattle.layout_meaning.proofs.InColumns.{columns_after_placing, columns_after_taking}

pub keeps-placed_in : (names : List (ℕ × List ℕ)) (s : SideOf) (iri : List ℕ) (x : Item) → 0 < length (candidates_of s.columns iri) → KeepsToNames names s → name_in names x.pred ≡ Some iri
    → KeepsToNames names (placed_in s iri x)
keeps-placed_in names s iri x some h e =
    let c : columns_by s.columns (name_in names x.pred) ≡ candidates_of s.columns iri = ap (columns_by s.columns) e in
    subst (λ (cs : List ℕ). KeepsTo (λ (p : ℕ). columns_by s.columns (name_in names p)) (placed s.columns.count cs x s.state)) c
    (columns_after_placing s.columns.count (λ (p : ℕ). columns_by s.columns (name_in names p)) x s.state h (subst (λ (cs : List ℕ). 0 < length cs) (sym c) some))

pub keeps-taken_from : (names : List (ℕ × List ℕ)) (s : SideOf) (x : Item) → KeepsToNames names s → KeepsToNames names (taken_from s x)
keeps-taken_from names s x h = columns_after_taking (λ (p : ℕ). columns_by s.columns (name_in names p)) x s.state h
