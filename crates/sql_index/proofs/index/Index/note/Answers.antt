use Rattle.std.proofs.Common.{[], ◌∷◌, ◌++◌, ap, sym, ◌∙◌, unwrap_or, nat_eq, if◌then◌else◌}
use Rattle.std.specs.HashMap.{get}
use Rattle.std.specs.Str.{bytes_eq}
use Rattle.rel_cells.specs.declared.view.CellView.{CellView}
use Rattle.rel_cells.specs.Seen.{seen_cell}
use Rattle.sql_index.specs.Matches.{is_equal}
use Rattle.sql_index.specs.Found.{found}
use Rattle.sql_index.proofs.Noted.{noted_text, on_ok}
use Rattle.sql_index.proofs.index.Index.note.Goals as goal

pub returns-in-Text : goal.returns-in-Text
returns-in-Text c =
    let i = c.args.self.now in
    on_ok c.note_text.result
    (λ h key.
    noted_text (λ q. unwrap_or (get nat_eq i.numbers q) []) (λ t. unwrap_or (get bytes_eq i.texts t) []) i.trues i.falses c.args.row
    (λ t. unwrap_or (get bytes_eq c.note_text.new.texts t) []) c.in-Text.text.now h key
    ∙ ap (λ (v : CellView). found i key ++ (if is_equal key (seen_cell v) then c.args.row ∷ [] else [])) (sym c.in-Text.is))
    c.note_text.ensures
