use Rattle.std.proofs.Common.{◌≡◌, sym, subst, get_or, None, ℕ}
use Rattle.std.specs.Map.{keys_of}
use Rattle.std.proofs.lemmas.Result.{on_ok_weaker}
use Rattle.pred_colour_meaning.specs.Colouring.{column_of, is_seen, IsLeastFree}
use Rattle.pred_colour.specs.Given.{pairs_of}
use Rattle.pred_colour.proofs.Taken.{at_place, unseen, no_turn, a_turn}
use Rattle.pred_colour.proofs.Seen.{column_given_if}
use Rattle.pred_colour.proofs.colouring.take_turn.Goals as goal

pub free_column-requires-clause-uncoloured : goal.free_column-requires-clause-uncoloured
free_column-requires-clause-uncoloured c =
    let given = pairs_of c.args.colours.now in
    subst (λ (p : ℕ). column_of given p ≡ None) (sym c.in-Some.ensures.found)
    (unseen c.args.graph.now c.args.k c.args.order.now c.args.at (get_or c.args.order.now c.args.at 0) given c.requires.within (at_place c.args.order.now c.args.at c.requires.within) c.requires.strict c.requires.before)

pub returns-in-Some-free_column-clause-columns : goal.returns-in-Some-free_column-clause-columns
returns-in-Some-free_column-clause-columns c =
    let p = get_or c.args.order.now c.args.at 0 in
    let old = c.args.colours.now in
    let new = c.give.new.self in
    let none = unseen c.args.graph.now c.args.k c.args.order.now c.args.at p (pairs_of old) c.requires.within (at_place c.args.order.now c.args.at c.requires.within) c.requires.strict c.requires.before in
    column_given_if c.give.result (keys_of c.args.graph.now) c.args.k (pairs_of old) (pairs_of new) old.places.items new.places.items c.in-Some.place p c.in-Some-free_column.column c.requires.columns
    c.in-Some.ensures.within c.in-Some.ensures.found none c.give.ensures.given c.give.ensures.count c.give.ensures.places

pub returns-in-Some-free_column-clause-turn : goal.returns-in-Some-free_column-clause-turn
returns-in-Some-free_column-clause-turn c =
    let p = get_or c.args.order.now c.args.at 0 in
    let old = pairs_of c.args.colours.now in
    let free = subst (λ (q : ℕ). IsLeastFree (is_seen c.args.graph.now old q) c.args.k c.free_column.result) c.in-Some.ensures.found c.free_column.ensures in
    on_ok_weaker c.give.result (λ h. a_turn c.args.graph.now c.args.k c.args.order.now c.args.at p c.in-Some-free_column.column old (pairs_of c.give.new.self) c.free_column.result c.requires.within
    (at_place c.args.order.now c.args.at c.requires.within) c.requires.strict c.requires.before free c.in-Some-free_column.is h) c.give.ensures.given

pub returns-in-None-clause-turn : goal.returns-in-None-clause-turn
returns-in-None-clause-turn c =
    let p = get_or c.args.order.now c.args.at 0 in
    let old = pairs_of c.args.colours.now in
    let free = subst (λ (q : ℕ). IsLeastFree (is_seen c.args.graph.now old q) c.args.k c.free_column.result) c.in-Some.ensures.found c.free_column.ensures in
    no_turn c.args.graph.now c.args.k c.args.order.now c.args.at p old c.free_column.result c.requires.within (at_place c.args.order.now c.args.at c.requires.within) c.requires.strict c.requires.before free c.in-None.is
