-- A side behind another.
use Rattle.std.proofs.Common.{◌≡◌, ◌+◌, ◌≤◌, ◌^◌, ℕ, List, subst, arith}
use Rattle.std.specs.List.{AllByRecursion}
use Rattle.layout_meaning.specs.Side.{Item, SideState}
use Rattle.layout_meaning.specs.Sound.{IsSound, IsSoundList, KeepsTo}
use Rattle.layout_meaning.specs.Columns.{ColumnsOf}
use Rattle.layout_meaning.specs.Rows.{SideOf, KeepsToNames, name_in, columns_by}
use Rattle.layout_bulk_meaning.specs.Appended.{named_lists, appended, appended_side}
use Rattle.layout_bulk_meaning.proofs.Sides.{good, sound-appended, held-appended, keeps-appended}
use Rattle.primary_rows.specs.Kept.{IsSide}

pub good-later : (k : ColumnsOf) (t : SideState) (b : ℕ) → IsSide k t b → AllByRecursion IsSoundList (named_lists t.lists t.entities)
good-later k t b side = good k.count t side.sound

pub both-side : (k j : ColumnsOf) (s t : SideState) (a b : ℕ) → j ≡ k → IsSide k s a → IsSide j t b → (appended s t).next ≤ 2 ^ 62 → IsSide k (appended s t) (a + b)
both-side k j s t a b same x y ids =
    let sound : IsSound k.count t = subst (λ (c : ColumnsOf). IsSound c.count t) same y.sound in
    record {
      some = x.some;
      first = x.first;
      sound = sound-appended k.count s t x.sound sound;
      ids = ids;
      held = (let h = held-appended k.count (λ (i : Item). 1) s t x.sound sound in let p = x.held in let q = y.held in omega arith);
    }

pub both-keep : (s t u : SideOf) → t.columns ≡ s.columns → u ≡ appended_side s t → (names : List (ℕ × List ℕ)) → KeepsToNames names s → KeepsToNames names t → KeepsToNames names u
both-keep s t u same e names a b =
    rw e (keeps-appended (λ p. columns_by s.columns (name_in names p)) s.state t.state a (subst (λ (c : ColumnsOf). KeepsTo (λ p. columns_by c (name_in names p)) t.state) same b))
