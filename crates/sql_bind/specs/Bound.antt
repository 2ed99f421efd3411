-- The bound form of a script (this project's own).
use Rattle.std.specs.Prelude.{◌≡◌, Bool, true, false, ◌&&◌, nat_le, List, [], ◌∷◌, length, refl, Ok}
use Rattle.std.proofs.lemmas.Bool.{and_parts}
use Rattle.sql_meaning.specs.Scripts.{all_of, core_form, cores_form, body_form, step_form, script_form}
use Rattle.sql_meaning.specs.declared.script.Core.{Core}
use Rattle.sql_meaning.specs.declared.script.Script.{Script}
use Rattle.sql_rows_meaning.specs.declared.schema.NamedSchema.{NamedSchema}
use Rattle.sql_rows_meaning.specs.Binding.{check_script}
use Rattle.sql_bind_forms.specs.Forms.{BoundForm, HasRowsOf}
use Rattle.sql_bind_laws.specs.Places.{place_script}

-- it is the placed form of the script, with the columns of its rows; over all tables with these schemas it has the script's rows
pub record IsBoundFrom (s : Script) (schemas : List NamedSchema) (b : BoundForm) : Type 0 where
  pub columns : check_script s schemas ≡ Ok b.columns
  pub placed : b.placed ≡ place_script s schemas
  pub tables : b.tables ≡ schemas
  pub rows : HasRowsOf s b

-- a body has a SELECT, and its first SELECT an item: what a script's last body is to have, so that its rows have a column
abbrev pub has_items : List Core → Bool
has_items [] = false
has_items (c ∷ cores) = nat_le 1 (length c.items)

leftmost : (a b c d e f g : Bool) → (a && b && c && d && e && f && g) ≡ true → a ≡ true
leftmost true b c d e f g h = refl
leftmost false b c d e f g h = h

some-items : (c : Core) → core_form c ≡ true → nat_le 1 (length c.items) ≡ true
some-items c h = leftmost (nat_le 1 (length c.items)) _ _ _ _ _ _ h

some-items_first : (cores : List Core) → cores_form cores ≡ true → has_items cores ≡ true
some-items_first [] h = h
some-items_first (c ∷ []) h = some-items c h
some-items_first (c ∷ d ∷ cores) h = some-items c (and_parts (core_form c) (all_of core_form (d ∷ cores)) (and_parts (all_of core_form (c ∷ d ∷ cores)) _ h).0).0

-- a script in the forms of the dialect has them
pub form_has_items : (s : Script) → script_form s ≡ true → has_items s.last.cores ≡ true
form_has_items s h = some-items_first s.last.cores (and_parts (all_of step_form s.steps) (body_form s.last) h).1
