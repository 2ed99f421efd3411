use Rattle.std.proofs.Common.{◌≡◌, ◌∙◌, ap, sym, false, nat_eq, subst}
use Rattle.std.specs.List.{list_any}
use Rattle.layout_meaning.specs.Side.{elements_of}
use Rattle.layout_meaning.specs.Lists.{ListsOf}
use Rattle.layout_meaning.proofs.ListsKept.{with_value-there, added-sound}
use Rattle.value_lists.specs.Answers.{put_of, HasNumber}
use Rattle.value_lists.proofs.lists.Lists.add_to.Goals as goal

pub returns-then-has_in-clause-put : goal.returns-then-has_in-clause-put
returns-then-has_in-clause-put c = ap put_of (sym c.if-has_in.true ∙ c.has_in.ensures)

pub returns-then-has_in-clause-ok : goal.returns-then-has_in-clause-ok
returns-then-has_in-clause-ok c = sym (with_value-there c.args.self.now c.args.number c.args.value c.requires (sym c.has_in.ensures ∙ c.if-has_in.true))

pub invariant_of-self-2 : goal.invariant_of-self-2
invariant_of-self-2 c =
    let l : ListsOf = record { lists = c.self.inside.lists.entries; next = c.self.inside.next } in
    let new : list_any (nat_eq c.args.value) (elements_of c.args.self.now.lists c.args.number) ≡ false = sym c.has_in.ensures ∙ c.if-has_in.false in
    rw c.in_ok-append.ensures.ok (record {
      lists = added-sound l c.args.number c.args.value c.self.invariant.lists (subst (λ (w : ListsOf). HasNumber w c.args.number) (sym c.self.view_is) c.requires)
          (subst (λ (w : ListsOf). list_any (nat_eq c.args.value) (elements_of w.lists c.args.number) ≡ false) (sym c.self.view_is) new);
      ids = c.self.invariant.ids;
    })
