use Rattle.answer_text.proofs.Places.{one-place-at}
use Rattle.answer_text.proofs.decoding.decode_places.Goals as goal

pub places-preserved : goal.places-preserved
places-preserved c =
    rw c.in_ok-push.ensures.items (one-place-at c.args.cells.now c.places.places.items c.places.rest.now c.class-item.result c.text-item.result c.aux-item.result c.in_ok-place_from.field-0 c.places.invariant c.in-len3-up.len_at_least
    c.class-item.is c.text-item.is c.aux-item.is c.in_ok-place_from.ensures)
