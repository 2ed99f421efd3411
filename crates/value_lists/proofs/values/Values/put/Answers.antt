use Rattle.std.proofs.Common.{◌≡◌, ◌∙◌, ◌∷◌, ◌++◌, [], ap, sym, subst, List, ℕ, nat_eq, false}
use Rattle.std.specs.List.{list_any}
use Rattle.value_lists.specs.Values.{IsIndexOf}
use Rattle.value_lists.proofs.Kept.{once-more}
use Rattle.value_lists.proofs.values.Values.put.Goals as goal

pub invariant_of-self-2 : goal.invariant_of-self-2
invariant_of-self-2 c =
    let e : c.push_reserved.new.self.items ≡ c.self.inside.items.items ++ c.args.value ∷ [] =
    c.push_reserved.ensures.items ∙ ap (λ (l : List ℕ). l ++ c.args.value ∷ []) c.reserve.ensures.items in
    let now : c.as_slice.result.now ≡ c.self.inside.items.items = c.as_slice.ensures.value ∙ c.reserve.ensures.items in
    rw e (record {
      once = once-more c.args.value c.self.inside.items.items (subst (λ (l : List ℕ). list_any (nat_eq c.args.value) l ≡ false) (sym c.self.view_is) c.requires) c.self.invariant.once;
      indexed = subst (λ (l : List ℕ). IsIndexOf (l ++ c.args.value ∷ []) c.note.new.index) now c.in_ok-note.ensures.ok;
    })
