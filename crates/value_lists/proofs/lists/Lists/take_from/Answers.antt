use Rattle.std.proofs.Common.{◌≡◌, ◌∙◌, ap, sym, Bool, true, nat_eq, subst, if◌then◌else◌}
use Rattle.std.specs.List.{list_any}
use Rattle.std.specs.Set.{remove_key}
use Rattle.layout_meaning.specs.Side.{elements_of, only}
use Rattle.layout_meaning.specs.Lists.{ListsOf}
use Rattle.layout_meaning.proofs.ListsKept.{without_value-absent, held-sound}
use Rattle.value_lists.specs.declared.lists.TakeOut.TheVariants.{Absent}
use Rattle.value_lists.specs.Answers.{left_of, HasNumber}
use Rattle.value_lists.proofs.lists.Lists.take_from.Goals as goal

pub returns-then-not-has_in-clause-answer : goal.returns-then-not-has_in-clause-answer
returns-then-not-has_in-clause-answer c =
    ap (λ (b : Bool). if b then left_of (only (remove_key (nat_eq c.args.value) (elements_of c.args.self.now.lists c.args.number))) else Absent) (sym c.if-not-has_in.true ∙ c.has_in.ensures)

pub returns-then-not-has_in-clause-lists : goal.returns-then-not-has_in-clause-lists
returns-then-not-has_in-clause-lists c = sym (without_value-absent c.args.self.now c.args.number c.args.value (sym c.has_in.ensures ∙ c.if-not-has_in.true))

pub invariant_of-self : goal.invariant_of-self
invariant_of-self c =
    let l : ListsOf = record { lists = c.self.inside.lists.entries; next = c.self.inside.next } in
    let held : list_any (nat_eq c.args.value) (elements_of c.args.self.now.lists c.args.number) ≡ true = sym c.has_in.ensures ∙ c.if-not-has_in.false in
    rw c.take_from.ensures.lists (record {
      lists = held-sound l c.args.number c.args.value c.self.invariant.lists (subst (λ (w : ListsOf). HasNumber w c.args.number) (sym c.self.view_is) c.requires)
          (subst (λ (w : ListsOf). list_any (nat_eq c.args.value) (elements_of w.lists c.args.number) ≡ true) (sym c.self.view_is) held);
      ids = c.self.invariant.ids;
    })
