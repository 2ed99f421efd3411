-- One text is read in one way, or has one first bad line.
use Rattle.std.proofs.Common.{◌≡◌, ◌⊎◌, inl, inr, ℕ, zero, suc, ◌+◌, ◌-◌, ◌<◌, ◌≤◌, true, false, List, [], ◌∷◌, ◌++◌, length, take, drop, refl, sym, ap, subst, ◌∙◌, append_assoc, arith}
use Rattle.std.specs.Prelude.{Option, Some, None, ◌==◌}
use Rattle.std.specs.List.{flat_map}
use Rattle.std.specs.Str.{bytes_eq}
use Rattle.std.proofs.Math.Seq.{take-append_seam, take-append-add}
use Rattle.std.proofs.lemmas.Bool.{cases_Bool, eqb-true}
use Rattle.std.proofs.lemmas.List.{take-append-drop, take-append-le, length-append, length-take}
use Rattle.std.proofs.lemmas.Option.{same_Some}
use Rattle.table_meaning.specs.CellText.{ended}
use Rattle.table_text_meaning.specs.TableText.{table_lines, tables_lines, text_in, sql_line, lines_of, onto_first, is_spelled_set, BeginTables, TablesRead, IsFirstBadLine}
use Rattle.table_meaning.specs.Tables.{NamedTable}
use Rattle.table_text_meaning.specs.declared.version.Version.{Version}
use Rattle.table_text_meaning.specs.Versions.{version_line, tables_meant}
use Rattle.table_text.specs.Reading.{is_line, step, version_of}
use Rattle.table_text.specs.Laws.{OneReading, NeverBoth, OneBadLine, ReadOrBad}
use Rattle.table_text.proofs.Complete.{run, tables_run}
use Rattle.table_text.proofs.ReadLaws.{ReadSoFar, read_none, read_on, read_whole, ends_early, line_is_bad, first_is_bad, no_first, version_read, version_spelled, first_text}
use Rattle.table_text.proofs.LineLaws.{never_sql, begins_front, read_lines, walk, walk_whole}

abbrev others : List (List ℕ) → List (List ℕ)
others [] = []
others (line ∷ lines) = lines

abbrev first_of : List (List ℕ) → List ℕ
first_of [] = []
first_of (line ∷ lines) = line

-- the tables that are written behind the first line
written_in : (bytes : List ℕ) (tables : List NamedTable) (at : ℕ) (r : TablesRead bytes tables at) → walk [] (others (lines_of bytes)) ≡ Some r.written
written_in bytes tables at r =
    ap (λ (ls : List (List ℕ)). walk [] (others ls)) (read_lines bytes tables at r) ∙ walk_whole [] r.written (flat_map table_lines r.written) (lines_of (drop at bytes)) (tables_run [] r.written r.spelled)

-- the version that the first line names
version_in : (bytes : List ℕ) (tables : List NamedTable) (at : ℕ) (r : TablesRead bytes tables at) → version_of (first_of (lines_of bytes)) ≡ Some r.version
version_in bytes tables at r = ap (λ (ls : List (List ℕ)). version_of (first_of ls)) (read_lines bytes tables at r) ∙ version_read r.version

pub one_reading : OneReading
one_reading bytes a b m n r s =
    let written : r.written ≡ s.written = same_Some r.written s.written (sym (written_in bytes a m r) ∙ written_in bytes b n s) in
    let version : r.version ≡ s.version = same_Some r.version s.version (sym (version_in bytes a m r) ∙ version_in bytes b n s) in
    let meant : tables_meant r.version r.written ≡ tables_meant s.version s.written = λ i. tables_meant (version i) (written i) in
    let text : length (text_in r.version r.written ++ ended sql_line) ≡ length (text_in s.version s.written ++ ended sql_line) = λ i. length (text_in (version i) (written i) ++ ended sql_line) in
    (r.meant ∙ meant ∙ sym s.meant, r.place ∙ text ∙ sym s.place)

-- the line that ends tables is none of other tables
not_inside : (version : Version) (tables : List NamedTable) (first : List ℕ) (front back : List (List ℕ)) → is_spelled_set tables ≡ true → tables_lines version tables ≡ (first ∷ front) ++ sql_line ∷ back → ⊥
not_inside version tables first front back set e = never_sql [] tables front back (ap (λ (ls : List (List ℕ)). run [] ls) (sym (ap others e)) ∙ tables_run [] tables set)

pub never_both : NeverBoth
never_both bytes tables at line r bad = by (line_cases line (length (tables_lines r.version r.written)))
  where
    all : lines_of bytes ≡ (tables_lines r.version r.written) ++ sql_line ∷ (lines_of (drop at bytes))
    all = read_lines bytes tables at r

    whole : lines_of bytes ≡ ((tables_lines r.version r.written) ++ sql_line ∷ []) ++ (lines_of (drop at bytes))
    whole = all ∙ sym (append_assoc (tables_lines r.version r.written) (sql_line ∷ []) (lines_of (drop at bytes)))

    size : length (lines_of bytes) ≡ length (tables_lines r.version r.written) + (1 + length (lines_of (drop at bytes)))
    size = ap length all ∙ length-append (tables_lines r.version r.written) (sql_line ∷ (lines_of (drop at bytes))) ∙ omega arith

    line_cases : (l n : ℕ) → (l ≤ n) ⊎ ((l ≡ n + 1) ⊎ (n + 1 < l))
    line_cases l n = grind arith

    by : (line ≤ length (tables_lines r.version r.written)) ⊎ ((line ≡ length (tables_lines r.version r.written) + 1) ⊎ (length (tables_lines r.version r.written) + 1 < line)) → ⊥
    by (inl small) =
        let here : take line (lines_of bytes) ≡ take line (tables_lines r.version r.written) = ap (take line) all ∙ take-append-le line (tables_lines r.version r.written) (sql_line ∷ (lines_of (drop at bytes))) small in
        bad.bad (omega (arith, size, small)) (inl (subst BeginTables (sym here) (begins_front r.version r.written (take line (tables_lines r.version r.written)) (drop line (tables_lines r.version r.written)) r.spelled (sym (take-append-drop line (tables_lines r.version r.written))))))
    by (inr (inl is)) =
        let pushed : length ((tables_lines r.version r.written) ++ sql_line ∷ []) ≡ line = length-append (tables_lines r.version r.written) (sql_line ∷ []) ∙ sym is in
        let here : take line (lines_of bytes) ≡ (tables_lines r.version r.written) ++ sql_line ∷ [] = ap (λ n. take n (lines_of bytes)) (sym pushed) ∙ ap (take (length ((tables_lines r.version r.written) ++ sql_line ∷ []))) whole ∙ take-append_seam ((tables_lines r.version r.written) ++ sql_line ∷ []) (lines_of (drop at bytes)) in
        bad.bad (omega (arith, size, is)) (inr (r.version, r.written, r.spelled, here))
    by (inr (inr large)) =
        let more : ℕ = line - 1 - (length (tables_lines r.version r.written) + 1) in
        let pushed : length ((tables_lines r.version r.written) ++ sql_line ∷ []) + more ≡ line - 1 = omega (arith, length-append (tables_lines r.version r.written) (sql_line ∷ []), large) in
        let here : take (line - 1) (lines_of bytes) ≡ ((tables_lines r.version r.written) ++ sql_line ∷ []) ++ take more (lines_of (drop at bytes)) =
        ap (λ n. take n (lines_of bytes)) (sym pushed) ∙ ap (take (length ((tables_lines r.version r.written) ++ sql_line ∷ []) + more)) whole ∙ take-append-add ((tables_lines r.version r.written) ++ sql_line ∷ []) (lines_of (drop at bytes)) more in
        never (take more (lines_of (drop at bytes))) here bad.before
      where
        never : (xs : List (List ℕ)) → take (line - 1) (lines_of bytes) ≡ ((tables_lines r.version r.written) ++ sql_line ∷ []) ++ xs → BeginTables (take (line - 1) (lines_of bytes)) → ⊥
        never xs here (inl e) = let none : (version_line r.version ∷ (flat_map table_lines r.written ++ sql_line ∷ [])) ++ xs ≡ [] = sym here ∙ e in cc
        never xs here (inr (v, other, set, e)) = not_inside v other (version_line r.version) (flat_map table_lines r.written) xs set (sym e ∙ here ∙ append_assoc (tables_lines r.version r.written) (sql_line ∷ []) xs)

-- a line before the first bad one is good
not_before : (bytes : List ℕ) (k l : ℕ) → IsFirstBadLine bytes k → IsFirstBadLine bytes l → k < l → ⊥
not_before bytes k l a b less = by b.before
  where
    room : k ≤ length (take (l - 1) (lines_of bytes))
    room = grind (arith, a.counted, b.there, less, length-take)

    here : take k (lines_of bytes) ≡ take k (take (l - 1) (lines_of bytes))
    here = ap (take k) (sym (take-append-drop (l - 1) (lines_of bytes))) ∙ take-append-le k (take (l - 1) (lines_of bytes)) (drop (l - 1) (lines_of bytes)) room

    by : BeginTables (take (l - 1) (lines_of bytes)) → ⊥
    by (inl e) = omega (arith, room, ap length e, a.counted)
    by (inr (version, tables, set, e)) =
        a.bad (omega (arith, b.there, less))
        (inl (subst BeginTables (sym (here ∙ ap (take k) e)) (begins_front version tables (take k (tables_lines version tables)) (drop k (tables_lines version tables)) set (sym (take-append-drop k (tables_lines version tables))))))

pub one_bad_line : OneBadLine
one_bad_line bytes k l a b = by (order k l)
  where
    order : (m n : ℕ) → (m < n) ⊎ ((m ≡ n) ⊎ (n < m))
    order m n = grind arith

    by : (k < l) ⊎ ((k ≡ l) ⊎ (l < k)) → k ≡ l
    by (inl less) = absurd (not_before bytes k l a b less)
    by (inr (inl is)) = is
    by (inr (inr less)) = absurd (not_before bytes l k b a less)

-- a first line and what follows, or no line
record FirstLine (bytes : List ℕ) : Type 0 where
  text : List ℕ
  after : List ℕ
  fits : is_line text ≡ true
  is : bytes ≡ ended text ++ after

first_line_of : (bytes : List ℕ) → (lines_of bytes ≡ []) ⊎ FirstLine bytes
first_line_of [] = inl refl
first_line_of (b ∷ bs) = by (cases_Bool (b == 10)) (first_line_of bs)
  where
    by : ((b == 10) ≡ true) ⊎ ((b == 10) ≡ false) → (lines_of bs ≡ []) ⊎ FirstLine bs → (lines_of (b ∷ bs) ≡ []) ⊎ FirstLine (b ∷ bs)
    by (inl e) later = inr (record { text = []; after = bs; fits = refl; is = ap (λ c. c ∷ bs) (eqb-true b 10 e) })
    by (inr e) (inl none) = inl (rw e (ap (onto_first b) none))
    by (inr e) (inr f) = inr (record { text = b ∷ f.text; after = f.after; fits = rw e f.fits; is = ap (λ (t : List ℕ). b ∷ t) f.is })

abbrev Outcome : List ℕ → Type 0
Outcome bytes = ((tables : List NamedTable) × (at : ℕ) × TablesRead bytes tables at) ⊎ ((line : ℕ) × IsFirstBadLine bytes line)

goes_on : (version : Version) (fuel : ℕ) (bytes rest : List ℕ) (tables : List NamedTable) (line : ℕ) → length rest < fuel → ReadSoFar version bytes rest tables line → Outcome bytes
goes_on version zero bytes rest tables line less so = absurd (omega (arith, less))
goes_on version (suc fuel) bytes rest tables line less so = by (first_line_of rest) (λ after new short s. goes_on version fuel bytes after new (line + 1) short s)
  where
    by : (lines_of rest ≡ []) ⊎ FirstLine rest → ((after : List ℕ) (new : List NamedTable) → length after < fuel → ReadSoFar version bytes after new (line + 1) → Outcome bytes) → Outcome bytes
    by (inl none) later = inr (line, ends_early version bytes rest tables line so none)
    by (inr f) later = told (cases_Bool (bytes_eq f.text sql_line)) (step tables f.text) refl
      where
        told : (bytes_eq f.text sql_line ≡ true) ⊎ (bytes_eq f.text sql_line ≡ false) → (next : Option (List NamedTable)) → step tables f.text ≡ next → Outcome bytes
        told (inl sql) next e = inl (tables_meant version tables, length bytes - length f.after, read_whole version bytes rest f.text f.after tables line so f.is sql (tables_meant version tables) refl)
        told (inr other) None e = inr (line, line_is_bad version bytes rest f.text f.after tables line so f.fits f.is other e)
        told (inr other) (Some new) e = later f.after new (omega (arith, less, ap length f.is, length-append (ended f.text) f.after, length-append f.text (10 ∷ []))) (read_on version bytes rest f.text f.after tables new line so f.fits f.is e)

pub read_or_bad : ReadOrBad
read_or_bad bytes = by (first_line_of bytes)
  where
    by : (lines_of bytes ≡ []) ⊎ FirstLine bytes → Outcome bytes
    by (inl none) = inr (1, no_first bytes none)
    by (inr f) = told (version_of f.text) refl
      where
        told : (version : Option Version) → version_of f.text ≡ version → Outcome bytes
        told (Some version) e =
            goes_on version (suc (length f.after)) bytes f.after [] 2 (omega arith) (read_none version bytes f.after (f.is ∙ ap (λ (t : List ℕ). ended t ++ f.after) (version_spelled f.text version e) ∙ first_text version f.after))
        told None e = inr (1, first_is_bad bytes f.text f.after f.fits f.is e)
