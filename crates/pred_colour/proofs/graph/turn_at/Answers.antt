use Rattle.std.proofs.Common.{◌≡◌, ◌<◌, ◌∙◌, ◌^◌, ap, subst, arith, nat_eq, not, ℕ, List, [], length}
use Rattle.std.specs.List.{filter}
use Rattle.std.specs.List.Sorted.{IsStrictlySortedBy}
use Rattle.std.specs.Ordering.{nat_cmp}
use Rattle.std.proofs.lemmas.List.{get_or_read}
use Rattle.pred_colour.specs.declared.turns.Turn.{Turn}
use Rattle.pred_colour.specs.GraphRows.{pred_at, row_at}
use Rattle.pred_colour.proofs.Degrees.{degree_at}
use Rattle.pred_colour.proofs.Found.{place_fits}
use Rattle.pred_colour.proofs.graph.turn_at.Goals as goal

abbrev turn : ℕ → ℕ → Turn
turn p d = record { pred = p; degree = d }

pub overflow_cast-place : goal.overflow_cast-place
overflow_cast-place c =
    let fits : c.args.place < 2 ^ 32 = place_fits c.args.preds.now c.args.place c.requires.rows.rising (λ k. (c.type_inv.preds k).fits) c.requires.within in
    omega arith

pub returns : goal.returns
returns c =
    let preds = c.args.preds.now in
    let i = c.args.place in
    let row : c.index-rows-place.result ≡ row_at c.args.rows.now i = get_or_read c.args.rows.now i _ (omega arith) c.index-rows-place.is [] in
    let rises : IsStrictlySortedBy nat_cmp (row_at c.args.rows.now i) = subst (IsStrictlySortedBy nat_cmp) row c.others_than.ensures.rising in
    ap (turn (pred_at preds i)) (c.others_than.ensures.value ∙ ap (λ (places : List ℕ). length (filter (λ j. not (nat_eq j i)) places)) row
    ∙ degree_at preds (row_at c.args.rows.now i) i c.requires.rows.rising rises c.requires.within (c.requires.rows.below i))
