-- What was read so far, and what follows from the next line.
use Rattle.std.proofs.Common.{◌≡◌, ◌⊎◌, inl, inr, ℕ, ◌+◌, ◌-◌, true, false, List, [], ◌∷◌, ◌++◌, length, take, refl, sym, ap, ◌∙◌, append_assoc, append-nil, arith}
use Rattle.std.specs.Prelude.{Some, None, codes}
use Rattle.std.specs.Cmp.{first_so, second_so}
use Rattle.std.specs.List.{flat_map, list_all}
use Rattle.std.specs.Str.{bytes_eq}
use Rattle.std.proofs.Math.Seq.{take-append_seam}
use Rattle.std.proofs.lemmas.Bool.{both_ways, cases_Bool}
use Rattle.std.proofs.lemmas.Grind.{flat_map-append}
use Rattle.std.proofs.lemmas.List.{length-append}
use Rattle.std.proofs.lemmas.List.Folds.{list_all-append}
use Rattle.std.proofs.lemmas.Option.{same_Some}
use Rattle.std.proofs.lemmas.Slice.Eq.{bytes_eq-Decides}
use Rattle.table_meaning.specs.CellText.{ended}
use Rattle.table_meaning.specs.Tables.{NamedTable, is_table_set}
use Rattle.table_text_meaning.specs.TableText.{is_spelled_set, text_in, text_of_lines, table_lines, tables_lines, sql_line, lines_of, TablesRead, IsFirstBadLine, BeginTables, EndTables}
use Rattle.table_text_meaning.specs.declared.version.Version.{Version}
use Rattle.table_text_meaning.specs.declared.version.Version.TheVariants.{First, Second}
use Rattle.table_text_meaning.specs.Versions.{version_line, tables_meant}
use Rattle.table_text.specs.Reading.{is_line, step, version_of}
use Rattle.table_text.proofs.Cuts.{lines_of-ended}
use Rattle.table_text.proofs.Sound.{step_goes}
use Rattle.table_text.proofs.Complete.{step_complete}

-- the lines before this one are those of these tables
pub record ReadSoFar (version : Version) (bytes rest : List ℕ) (tables : List NamedTable) (line : ℕ) : Type 0 where
  pub set : is_spelled_set tables ≡ true
  pub text : bytes ≡ text_in version tables ++ rest
  pub lines : list_all is_line (tables_lines version tables) ≡ true
  pub count : line ≡ length (tables_lines version tables) + 1

pub read_none : (version : Version) (bytes rest : List ℕ) → bytes ≡ text_in version [] ++ rest → ReadSoFar version bytes rest [] 2
read_none First bytes rest is = record { set = refl; text = is; lines = refl; count = refl }
read_none Second bytes rest is = record { set = refl; text = is; lines = refl; count = refl }

pub read_on : (version : Version) (bytes rest text after : List ℕ) (tables new : List NamedTable) (line : ℕ) → ReadSoFar version bytes rest tables line → is_line text ≡ true → rest ≡ ended text ++ after
    → step tables text ≡ Some new → ReadSoFar version bytes after new (line + 1)
read_on version bytes rest text after tables new line so fits is steps =
    let goes = step_goes tables new text so.set steps in
    let more : text_in version new ≡ text_in version tables ++ ended text = ap (λ (ls : List (List ℕ)). text_of_lines (version_line version ∷ ls)) goes.1 ∙ flat_map-append ended (tables_lines version tables) (text ∷ []) ∙ ap (λ (t : List ℕ). text_in version tables ++ t) (append-nil (ended text)) in
    let before = so.lines in
    record {
      set = goes.0;
      text = so.text ∙ ap (λ (r : List ℕ). text_in version tables ++ r) is ∙ sym (append_assoc (text_in version tables) (ended text) after) ∙ ap (λ (t : List ℕ). t ++ after) (sym more);
      lines = ap (λ (ls : List (List ℕ)). list_all is_line (version_line version ∷ ls)) goes.1 ∙ list_all-append is_line (tables_lines version tables) (text ∷ []) ∙ rw (before, fits) refl;
      count = omega (arith, so.count, ap length goes.1, length-append (flat_map table_lines tables) (text ∷ []));
    }

pub read_whole : (version : Version) (bytes rest text after : List ℕ) (tables : List NamedTable) (line : ℕ) → ReadSoFar version bytes rest tables line → rest ≡ ended text ++ after → bytes_eq text sql_line ≡ true
    → (means : List NamedTable) → means ≡ tables_meant version tables → TablesRead bytes means (length bytes - length after)
read_whole version bytes rest text after tables line so is sql means meant =
    let all : List ℕ = text_in version tables ++ ended sql_line in
    let same : text ≡ sql_line = (bytes_eq-Decides text sql_line).0 sql in
    let whole : bytes ≡ all ++ after =
    so.text ∙ ap (λ (r : List ℕ). text_in version tables ++ r) (is ∙ ap (λ (t : List ℕ). ended t ++ after) same) ∙ sym (append_assoc (text_in version tables) (ended sql_line) after) in
    let place : length bytes - length after ≡ length all = omega (arith, ap length whole, length-append all after) in
    record {
      version = version;
      written = tables;
      spelled = so.set;
      place = place;
      text = ap (λ n. take n bytes) place ∙ ap (take (length all)) whole ∙ take-append_seam all after;
      meant = meant;
    }

pub set_of : (version : Version) (bytes rest : List ℕ) (tables : List NamedTable) (line : ℕ) → ReadSoFar version bytes rest tables line → is_table_set tables ≡ true
set_of version bytes rest tables line so = first_so _ _ so.set

pub cut_lines : (lines : List (List ℕ)) (rest : List ℕ) → list_all is_line lines ≡ true → lines_of (text_of_lines lines ++ rest) ≡ lines ++ lines_of rest
cut_lines [] rest h = refl
cut_lines (line ∷ lines) rest h =
    ap lines_of (append_assoc (ended line) (text_of_lines lines) rest) ∙ lines_of-ended line (text_of_lines lines ++ rest) (first_so _ _ h)
    ∙ ap (λ (ls : List (List ℕ)). line ∷ ls) (cut_lines lines rest (second_so (is_line line) _ h))

all_lines : (version : Version) (bytes rest : List ℕ) (tables : List NamedTable) (line : ℕ) → ReadSoFar version bytes rest tables line → lines_of bytes ≡ tables_lines version tables ++ lines_of rest
all_lines version bytes rest tables line so = ap lines_of so.text ∙ cut_lines (tables_lines version tables) rest so.lines

lines_before : (version : Version) (bytes rest : List ℕ) (tables : List NamedTable) (line : ℕ) → ReadSoFar version bytes rest tables line → take (line - 1) (lines_of bytes) ≡ tables_lines version tables
lines_before version bytes rest tables line so =
    let count : line - 1 ≡ length (tables_lines version tables) = omega (arith, so.count) in
    ap (λ n. take n (lines_of bytes)) count ∙ ap (take (length (tables_lines version tables))) (all_lines version bytes rest tables line so) ∙ take-append_seam (tables_lines version tables) (lines_of rest)

pub ends_early : (version : Version) (bytes rest : List ℕ) (tables : List NamedTable) (line : ℕ) → ReadSoFar version bytes rest tables line → lines_of rest ≡ [] → IsFirstBadLine bytes line
ends_early version bytes rest tables line so none =
    let all : lines_of bytes ≡ tables_lines version tables = all_lines version bytes rest tables line so ∙ ap (λ (ls : List (List ℕ)). tables_lines version tables ++ ls) none ∙ append-nil (tables_lines version tables) in
    let size : length (lines_of bytes) ≡ length (tables_lines version tables) = ap length all in
    record {
      counted = omega (arith, so.count);
      there = omega (arith, so.count, size);
      before = inr (version, tables, so.set, lines_before version bytes rest tables line so);
      bad = λ more. absurd (omega (arith, so.count, size));
    }

abbrev behind_first : List (List ℕ) → List (List ℕ)
behind_first [] = []
behind_first (line ∷ lines) = lines

abbrev last_line : List (List ℕ) → List ℕ
last_line [] = []
last_line (line ∷ []) = line
last_line (line ∷ next ∷ lines) = last_line (next ∷ lines)

last-push : (lines : List (List ℕ)) (line : List ℕ) → last_line (lines ++ line ∷ []) ≡ line
last-push [] line = refl
last-push (x ∷ []) line = refl
last-push (x ∷ y ∷ lines) line = last-push (y ∷ lines) line

pub line_is_bad : (version : Version) (bytes rest text after : List ℕ) (tables : List NamedTable) (line : ℕ) → ReadSoFar version bytes rest tables line → is_line text ≡ true → rest ≡ ended text ++ after
    → bytes_eq text sql_line ≡ false → step tables text ≡ None → IsFirstBadLine bytes line
line_is_bad version bytes rest text after tables line so fits is sql steps =
    let next : lines_of rest ≡ text ∷ lines_of after = ap lines_of is ∙ lines_of-ended text after fits in
    let all : lines_of bytes ≡ (tables_lines version tables ++ text ∷ []) ++ lines_of after =
    all_lines version bytes rest tables line so ∙ ap (λ (ls : List (List ℕ)). tables_lines version tables ++ ls) next ∙ sym (append_assoc (tables_lines version tables) (text ∷ []) (lines_of after)) in
    let pushed : length (tables_lines version tables ++ text ∷ []) ≡ line = omega (arith, so.count, length-append (tables_lines version tables) (text ∷ [])) in
    let here : take line (lines_of bytes) ≡ tables_lines version tables ++ text ∷ [] =
    ap (λ n. take n (lines_of bytes)) (sym pushed) ∙ ap (take (length (tables_lines version tables ++ text ∷ []))) all ∙ take-append_seam (tables_lines version tables ++ text ∷ []) (lines_of after) in
    record {
      counted = omega (arith, so.count);
      there = omega (arith, pushed, ap length all, length-append (tables_lines version tables ++ text ∷ []) (lines_of after));
      before = inr (version, tables, so.set, lines_before version bytes rest tables line so);
      bad = λ more. never here;
    }
  where
    never : take line (lines_of bytes) ≡ tables_lines version tables ++ text ∷ [] → BeginTables (take line (lines_of bytes)) ⊎ EndTables (take line (lines_of bytes)) → ⊥
    never here (inl (inl e)) = let none : tables_lines version tables ++ text ∷ [] ≡ [] = sym here ∙ e in cc
    never here (inl (inr (v, new, set, e))) =
        let goes : step tables text ≡ Some new = step_complete tables new text so.set set (ap behind_first (sym e ∙ here)) in
        let no_step : None ≡ Some new = sym steps ∙ goes in cc
    never here (inr (v, new, set, e)) =
        let same : text ≡ sql_line = sym (last-push (tables_lines version tables) text) ∙ ap last_line (sym here ∙ e) ∙ last-push (tables_lines v new) sql_line in
        both_ways _ sql ((bytes_eq-Decides text sql_line).1 same)

abbrev head_of_lines : List (List ℕ) → List ℕ
head_of_lines [] = []
head_of_lines (line ∷ lines) = line

-- the first line names a version
pub version_read : (version : Version) → version_of (version_line version) ≡ Some version
version_read First = refl
version_read Second = refl

pub version_spelled : (text : List ℕ) (version : Version) → version_of text ≡ Some version → text ≡ version_line version
version_spelled text version h = by (cases_Bool (bytes_eq text (codes "tables 2"))) (cases_Bool (bytes_eq text (codes "tables 1")))
  where
    by : (bytes_eq text (codes "tables 2") ≡ true) ⊎ (bytes_eq text (codes "tables 2") ≡ false) → (bytes_eq text (codes "tables 1") ≡ true) ⊎ (bytes_eq text (codes "tables 1") ≡ false)
        → text ≡ version_line version
    by (inl e) other =
        let named : Some Second ≡ Some version = rw e at h in
        (bytes_eq-Decides text (codes "tables 2")).0 e ∙ ap version_line (same_Some Second version named)
    by (inr e) (inl f) =
        let named : Some First ≡ Some version = rw (e, f) at h in
        (bytes_eq-Decides text (codes "tables 1")).0 f ∙ ap version_line (same_Some First version named)
    by (inr e) (inr f) = let none : None ≡ Some version = rw (e, f) at h in cc

-- the first line with its end
pub first_text : (version : Version) (rest : List ℕ) → ended (version_line version) ++ rest ≡ text_in version [] ++ rest
first_text First rest = refl
first_text Second rest = refl

pub first_is_bad : (bytes text after : List ℕ) → is_line text ≡ true → bytes ≡ ended text ++ after → version_of text ≡ None → IsFirstBadLine bytes 1
first_is_bad bytes text after fits is other =
    let all : lines_of bytes ≡ text ∷ lines_of after = ap lines_of is ∙ lines_of-ended text after fits in
    record {
      counted = omega arith;
      there = omega arith;
      before = inl refl;
      bad = λ more. never (ap (take 1) all);
    }
  where
    no_version : (version : Version) → text ≡ version_line version → ⊥
    no_version version e = let none : None ≡ Some version = sym other ∙ ap version_of e ∙ version_read version in cc

    never : take 1 (lines_of bytes) ≡ text ∷ [] → BeginTables (take 1 (lines_of bytes)) ⊎ EndTables (take 1 (lines_of bytes)) → ⊥
    never here (inl (inl e)) = let none : text ∷ [] ≡ [] = sym here ∙ e in cc
    never here (inl (inr (v, new, set, e))) = no_version v (ap head_of_lines (sym here ∙ e))
    never here (inr (v, new, set, e)) = no_version v (ap head_of_lines (sym here ∙ e))

pub no_first : (bytes : List ℕ) → lines_of bytes ≡ [] → IsFirstBadLine bytes 1
no_first bytes none = record {
  counted = omega arith;
  there = omega arith;
  before = inl refl;
  bad = λ more. absurd (omega (arith, ap length none));
}
