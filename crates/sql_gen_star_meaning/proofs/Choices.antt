-- What is found in a row gives something.
use Rattle.std.proofs.Common.{ℕ, zero, suc, Bool, true, false, if◌then◌else◌, List, [], ◌∷◌, Option, Some, None}
use Rattle.std.specs.List.{AllByRecursion}
use Rattle.layout_meaning.specs.Side.{Pair, Row, ValueLists, is_pred}
use Rattle.layout_meaning.specs.Sound.{pair_at}
use Rattle.layout_row_meaning.specs.Reading.{value_in, found_in, Gives}
use Rattle.sql_gen_star_meaning.specs.Partials.{HasChoice}

pub given : (lists : ValueLists) (q : Option Pair) → Gives lists q → HasChoice lists (value_in q)
given lists None g = tt
given lists (Some q) g = g

given_at : (lists : ValueLists) (r : Row) → AllByRecursion (Gives lists) r → (c : ℕ) → HasChoice lists (value_in (pair_at r c))
given_at lists [] all c = tt
given_at lists (q ∷ r) all zero = given lists q all.0
given_at lists (q ∷ r) all (suc c) = given_at lists r all.1 c

pub given_found : (lists : ValueLists) (p : ℕ) (r : Row) → AllByRecursion (Gives lists) r → (cs : List ℕ) → HasChoice lists (found_in p r cs)
given_found lists p r all [] = tt
given_found lists p r all (c ∷ cs) = go (is_pred p (pair_at r c)) (given_found lists p r all cs)
  where
    go : (b : Bool) → HasChoice lists (found_in p r cs) → HasChoice lists (if b then value_in (pair_at r c) else found_in p r cs)
    go true h = given_at lists r all c
    go false h = h
