use Rattle.std.proofs.Common.{◌≡◌, List, ℕ, ◌++◌, length, slice_get, Some, sym, ap, ◌∙◌, subst}
use Rattle.std.specs.Prelude.{IfSome}
use Rattle.sql_bind_meaning.specs.Sources.{bound_joined_to}
use Rattle.sql_engine_joins.specs.Keys.{IsKeyOf}
use Rattle.sql_engine_joins.proofs.Added.{left_more}
use Rattle.sql_engine_joins.proofs.joins.joined.Goals as goal

pub add_joined-requires-clause-key : goal.add_joined-requires-clause-key
add_joined-requires-clause-key g c =
    let row : c.extend_from_slice.new.self.items ≡ c.row.result.now = c.in_ok-extend_from_slice.ensures.items ∙ ap (λ (l : List ℕ). l ++ c.row.result.now) c.clear.ensures.items in
    let width : c.width.result ≡ length c.extend_from_slice.new.self.items = c.width.ensures ∙ sym c.row.ensures.width ∙ sym (ap length row) in
    subst (λ (n : ℕ). IfSome c.keyed_by-keyed.result (λ k. IsKeyOf n c.args.join.now.on k.key.column k.key.other.now)) width c.keyed_by-keyed.ensures.key

pub loop-at-preserved : goal.loop-at-preserved
loop-at-preserved g c =
    let row : c.extend_from_slice.new.self.items ≡ c.row.result.now = c.in_ok-extend_from_slice.ensures.items ∙ ap (λ (l : List ℕ). l ++ c.row.result.now) c.clear.ensures.items in
    let there : slice_get c.args.lefts.now.rows c.loop-at.at ≡ Some c.extend_from_slice.new.self.items = c.row.ensures.row ∙ ap (λ (l : List ℕ). Some l) (sym row) in
    record {
      width = c.in_ok-add_joined.ensures.added.0 ∙ c.loop-at.invariant.width;
      rows = left_more c.args.sources.now (bound_joined_to c.args.sources.now.relations c.args.join.now) c.args.lefts.now.rows c.loop-at.at c.extend_from_slice.new.self.items c.loop-at.joined c.add_joined.new.into
          there c.loop-at.invariant.rows c.in_ok-add_joined.ensures.added;
    }
