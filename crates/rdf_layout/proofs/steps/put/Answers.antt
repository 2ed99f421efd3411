use Rattle.std.proofs.Common.{◌≡◌, ◌⊎◌, inr, ℕ, ◌+◌, ◌≤◌, ◌^◌, true, false, List, Ok, Err, nat_le, refl, sym, ap, ◌∙◌, subst}
use Rattle.std.proofs.lemmas.Result.{err_from_is_err_and}
use Rattle.value_lists.specs.declared.lists.Put.{Put}
use Rattle.value_lists.specs.declared.lists.Put.TheVariants.{Added}
use Rattle.value_lists.specs.Answers.{put_of}
use Rattle.layout_standing_meaning.specs.Sides.{SidesOf, both_placed}
use Rattle.layout_standing_meaning.specs.Stored.{StoreOf, IsStore, sides_of}
use Rattle.layout_standing_meaning.specs.Changes.{store_of, is_stored}
use Rattle.layout_standing_meaning.proofs.Steps.{before-same}
use Rattle.layout_standing_meaning.proofs.Changed.{store-in, store-refused}
use Rattle.layout_sides.specs.Items.{item_of}
use Rattle.rdf_layout.proofs.Putting.{count-is, noted-held, stored-again, stored-placed, refused-book, refused-side, is-full, isnt-full, placed-same}
use Rattle.rdf_layout.proofs.steps.put.Goals as goal

pub returns-in_err-ids-clause-refused : goal.returns-in_err-ids-clause-refused
returns-in_err-ids-clause-refused c =
    let s : StoreOf = store_of c.args.book.now c.args.sides.now in
    let p = err_from_is_err_and c.from_residual.result c.from_residual.ensures.1 in
    rw (p.1, p.2) (refused-book s c.args.t.now c.in_err-ids.field-0.0 (nat_le 1000000 c.count-full.result) c.count-full.result c.requires.store c.requires.few c.in_err-ids.ensures.refused refl (c.count-full.ensures.count ∙ count-is s))

pub returns-in_err-ids-clause-store : goal.returns-in_err-ids-clause-store
returns-in_err-ids-clause-store c =
    let s : StoreOf = store_of c.args.book.now c.args.sides.now in
    store-refused s c.args.t.now (store_of c.noted.new.book c.args.sides.now) c.requires.store c.has_forms.ensures (record { terms = c.in_err-ids.ensures.err; sides = before-same (sides_of s) })

pub returns-then-holds-clause-stored : goal.returns-then-holds-clause-stored
returns-then-holds-clause-stored c =
    let s : StoreOf = store_of c.args.book.now c.args.sides.now in
    let there : is_stored s c.args.t.now ≡ true = sym (noted-held s c.args.t.now c.noted.new.book c.in_ok-ids.ids c.requires.store c.has_forms.ensures c.in_ok-ids.ensures.book c.in_ok-ids.ensures.ids) ∙ sym c.holds.ensures ∙ c.if-holds.true in
    (stored-again s c.args.t.now c.noted.new.book c.requires.store c.has_forms.ensures c.in_ok-ids.ensures.book there)

pub returns-then-holds-clause-put : goal.returns-then-holds-clause-put
returns-then-holds-clause-put c =
    let s : StoreOf = store_of c.args.book.now c.args.sides.now in
    let there : is_stored s c.args.t.now ≡ true = sym (noted-held s c.args.t.now c.noted.new.book c.in_ok-ids.ids c.requires.store c.has_forms.ensures c.in_ok-ids.ensures.book c.in_ok-ids.ensures.ids) ∙ sym c.holds.ensures ∙ c.if-holds.true in
    ap put_of (sym there)

pub returns-then-holds-clause-store : goal.returns-then-holds-clause-store
returns-then-holds-clause-store c =
    let s : StoreOf = store_of c.args.book.now c.args.sides.now in
    let there : is_stored s c.args.t.now ≡ true = sym (noted-held s c.args.t.now c.noted.new.book c.in_ok-ids.ids c.requires.store c.has_forms.ensures c.in_ok-ids.ensures.book c.in_ok-ids.ensures.ids) ∙ sym c.holds.ensures ∙ c.if-holds.true in
    subst IsStore (sym (stored-again s c.args.t.now c.noted.new.book c.requires.store c.has_forms.ensures c.in_ok-ids.ensures.book there)) (store-in s c.args.t.now c.requires.store c.has_forms.ensures)

pub returns-else-holds-clause-refused : goal.returns-else-holds-clause-refused
returns-else-holds-clause-refused c =
    let s : StoreOf = store_of c.args.book.now c.args.sides.now in
    (sym (noted-held s c.args.t.now c.noted.new.book c.in_ok-ids.ids c.requires.store c.has_forms.ensures c.in_ok-ids.ensures.book c.in_ok-ids.ensures.ids) ∙ sym c.holds.ensures ∙ c.if-holds.false, is-full s c.count-full.result c.if-full.true (c.count-full.ensures.count ∙ count-is s))

pub returns-else-holds-clause-store : goal.returns-else-holds-clause-store
returns-else-holds-clause-store c =
    let s : StoreOf = store_of c.args.book.now c.args.sides.now in
    store-refused s c.args.t.now (store_of c.noted.new.book c.args.sides.now) c.requires.store c.has_forms.ensures (record { terms = inr (inr (inr c.in_ok-ids.ensures.book)); sides = before-same (sides_of s) })

pub returns-clause-stored : goal.returns-clause-stored
returns-clause-stored c =
    let s : StoreOf = store_of c.args.book.now c.args.sides.now in
    let text = c.predicate_text.ensures in
    (stored-placed s c.args.t.now c.noted.new.book c.in_ok-ids.ids c.insert.new.self c.requires.store c.has_forms.ensures c.in_ok-ids.ensures.book c.in_ok-ids.ensures.ids (c.in_ok-insert.ensures.sides ∙ ap (λ (l : List ℕ). both_placed c.args.sides.now l (item_of c.in_ok-ids.ids)) text))

pub returns-clause-put : goal.returns-clause-put
returns-clause-put c =
    let s : StoreOf = store_of c.args.book.now c.args.sides.now in
    c.in_ok-insert.ensures.put ∙ ap put_of (noted-held s c.args.t.now c.noted.new.book c.in_ok-ids.ids c.requires.store c.has_forms.ensures c.in_ok-ids.ensures.book c.in_ok-ids.ensures.ids)

pub returns-clause-room : goal.returns-clause-room
returns-clause-room c =
    let s : StoreOf = store_of c.args.book.now c.args.sides.now in
    let text = c.predicate_text.ensures in
    let q = placed-same s c.args.t.now c.noted.new.book c.in_ok-ids.ids c.predicate_text.result.now c.requires.store c.has_forms.ensures c.in_ok-ids.ensures.book c.in_ok-ids.ensures.ids text in
    λ e.
    let k : c.in_ok-insert.field-0 ≡ Added = cc in
    record {
      triples = isnt-full s c.count-full.result c.if-full.false (c.count-full.ensures.count ∙ count-is s);
      terms = c.in_ok-ids.ensures.room;
      direct = subst (λ (w : SidesOf). w.direct.state.next ≤ 2 ^ 62) q (c.insert.ensures.direct_room (c.in_ok-insert.was ∙ ap (λ (p : Put). Ok p) k));
      reverse = subst (λ (w : SidesOf). w.reverse.state.next ≤ 2 ^ 62) q (c.insert.ensures.reverse_room (c.in_ok-insert.was ∙ ap (λ (p : Put). Ok p) k));
    }

pub returns-clause-store : goal.returns-clause-store
returns-clause-store c =
    let s : StoreOf = store_of c.args.book.now c.args.sides.now in
    let text = c.predicate_text.ensures in
    subst IsStore (sym (stored-placed s c.args.t.now c.noted.new.book c.in_ok-ids.ids c.insert.new.self c.requires.store c.has_forms.ensures c.in_ok-ids.ensures.book c.in_ok-ids.ensures.ids (c.in_ok-insert.ensures.sides ∙ ap (λ (l : List ℕ). both_placed c.args.sides.now l (item_of c.in_ok-ids.ids)) text))) (store-in s c.args.t.now c.requires.store c.has_forms.ensures)

pub returns-in_err-insert-clause-refused : goal.returns-in_err-insert-clause-refused
returns-in_err-insert-clause-refused c =
    let s : StoreOf = store_of c.args.book.now c.args.sides.now in
    let text = c.predicate_text.ensures in
    let q = placed-same s c.args.t.now c.noted.new.book c.in_ok-ids.ids c.predicate_text.result.now c.requires.store c.has_forms.ensures c.in_ok-ids.ensures.book c.in_ok-ids.ensures.ids text in
    let p = err_from_is_err_and c.from_residual-in_err-insert.result c.from_residual-in_err-insert.ensures.1 in
    rw (p.1, p.2) (refused-side s c.args.t.now c.in_err-insert.field-0.0 c.count-full.result (sym (noted-held s c.args.t.now c.noted.new.book c.in_ok-ids.ids c.requires.store c.has_forms.ensures c.in_ok-ids.ensures.book c.in_ok-ids.ensures.ids) ∙ c.in_err-insert.ensures.new) c.if-full.false (c.count-full.ensures.count ∙ count-is s) c.in_ok-ids.ensures.room
    (λ e. subst (λ (w : SidesOf). (w.direct.state.next ≡ 2 ^ 62 + 1) ⊎ (w.reverse.state.next ≡ 2 ^ 62 + 1)) q (c.insert.ensures.full (c.in_err-insert.was ∙ ap (λ r. Err r) e))))

pub returns-in_err-insert-clause-store : goal.returns-in_err-insert-clause-store
returns-in_err-insert-clause-store c =
    let s : StoreOf = store_of c.args.book.now c.args.sides.now in
    store-refused s c.args.t.now (store_of c.noted.new.book c.insert.new.self) c.requires.store c.has_forms.ensures (record { terms = inr (inr (inr c.in_ok-ids.ensures.book)); sides = c.in_err-insert.ensures.err })
