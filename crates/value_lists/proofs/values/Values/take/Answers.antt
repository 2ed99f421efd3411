use Rattle.std.proofs.Common.{◌≡◌, ◌∙◌, ◌<◌, ap, sym, subst, arith, List, ℕ, Bool, nat_eq, true, false, cond, remove}
use Rattle.std.specs.List.{list_any}
use Rattle.std.specs.Set.{remove_key}
use Rattle.std.specs.HashSet.{hash_set_len}
use Rattle.value_lists.proofs.Kept.{once-removed, any-removed}
use Rattle.value_lists.proofs.values.Values.take.Goals as goal

pub returns : goal.returns
returns c =
    let place : remove c.self.inside.items.items c.place_of-at.result ≡ remove_key (nat_eq c.args.value) c.self.inside.items.items =
    subst (λ (l : List ℕ). remove l c.place_of-at.result ≡ remove_key (nat_eq c.args.value) l) c.as_slice.ensures.value c.place_of-at.ensures.place in
    c.remove.ensures.items ∙ place ∙ ap (remove_key (nat_eq c.args.value)) c.self.view_is

pub invariant_of-self : goal.invariant_of-self
invariant_of-self c =
    let items : List ℕ = c.self.inside.items.items in
    let place : remove items c.place_of-at.result ≡ remove_key (nat_eq c.args.value) items =
    subst (λ (l : List ℕ). remove l c.place_of-at.result ≡ remove_key (nat_eq c.args.value) l) c.as_slice.ensures.value c.place_of-at.ensures.place in
    let held : list_any (nat_eq c.args.value) items ≡ true = subst (λ (l : List ℕ). list_any (nat_eq c.args.value) l ≡ true) (sym c.self.view_is) c.requires in
    rw (c.remove.ensures.items ∙ place) (record {
      once = once-removed c.args.value items held c.self.invariant.once;
      indexed = λ (q : ℕ) (some : 0 < hash_set_len c.remove-2.new.self).
          (let before : 0 < hash_set_len c.self.inside.index = omega (arith, c.remove-2.ensures.len) in
          c.remove-2.ensures.updates.0 q ∙ ap (λ (b : Bool). cond (nat_eq c.args.value q) false b) (c.self.invariant.indexed q before) ∙ sym (any-removed c.args.value q items c.self.invariant.once));
    })
