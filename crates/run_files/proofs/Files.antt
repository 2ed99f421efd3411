-- What the files of a command give, one after another.
use Rattle.std.proofs.Common.{◌≡◌, ℕ, ◌+◌, ◌-◌, ◌<◌, ◌≤◌, List, [], ◌∷◌, ◌++◌, map, length, drop, refl, sym, subst, ap, ◌∙◌, arith, length-append}
use Rattle.std.proofs.lemmas.List.{drop_more, drop_all}
use Rattle.std.specs.Prelude.{Result, Ok, Err, IfOk, IfErr, IsErrAnd, slice_index_or}
use Rattle.std.specs.List.{IsDistinct}
use Rattle.line_change_meaning.specs.declared.change.Change.{Change}
use Rattle.colouring_file_meaning.specs.ColourLines.{ColourOf, AreFit}
use Rattle.colouring_file.specs.declared.colours.ColourLine.{ColourLine}
use Rattle.colouring_file.specs.Colours.{colour_of}
use Rattle.run_meaning.specs.declared.status.Status.{Status}
use Rattle.run_meaning.specs.declared.which.Which.TheVariants as which
use Rattle.run_meaning.specs.Limits.{most_file, most_query}
use Rattle.run_meaning.specs.declared.command.Options.{Options}
use Rattle.run_meaning.specs.declared.command.Layout.{Layout}
use Rattle.run_meaning.specs.declared.command.Layout.TheVariants.{Colour, Hash, File}
use Rattle.run_files_meaning.specs.Intake.{Contents, Intake, gives, refuses, settled, behind, Leads, here}
use Rattle.run_files_meaning.specs.Files.{text_read, judged_data, data_behind, data_read, colours_by, colours_read, QueryFiles, query_files, query_read}
use Rattle.run_files_meaning.specs.Refusal.{RefusedAs}
use Rattle.run_files_meaning.specs.Taken.{Stops, Takes}
use Rattle.run_files_meaning.proofs.Leads.{leads_on, leads_behind}
use Rattle.run_files_meaning.proofs.Takes.{leads_same, settles, stops_behind, stops_later}

-- ---- no colouring file

pub none_fit : (direct reverse : ℕ) (lines : List ColourLine) → lines ≡ [] → AreFit direct reverse (map colour_of lines)
unfolding IsDistinct
none_fit direct reverse lines e = rw e (record { below = tt; once = tt })

pub uncoloured : (direct reverse : ℕ) (layout : Layout) (lines : List ColourLine) (contents : Contents) → layout ≡ Colour → lines ≡ [] → Leads contents (colours_by direct reverse layout) (gives (map colour_of lines))
uncoloured direct reverse layout lines contents e n = rw (e, n) here

pub hashed : (direct reverse : ℕ) (layout : Layout) (lines : List ColourLine) (contents : Contents) → layout ≡ Hash → lines ≡ [] → Leads contents (colours_by direct reverse layout) (gives (map colour_of lines))
hashed direct reverse layout lines contents e n = rw (e, n) here

-- ---- one more data file

abbrev Changes : Type 0
Changes = List Change

abbrev next_file : (file left : ℕ) → Changes → List (List ℕ) → List ℕ → Intake Changes
next_file file left changes names text = behind (settled (judged_data file text)) (λ more. data_behind (file + 1) (left - length text) (changes ++ more) names)

text_leads : (contents : Contents) (file left : ℕ) (changes : Changes) (name : List ℕ) (names : List (List ℕ)) (text : List ℕ) → Leads contents (text_read left which.File name) (gives text)
    → Leads contents (data_behind file left changes (name ∷ names)) (next_file file left changes names text)
text_leads contents file left changes name names text leads = leads_behind (next_file file left changes names) leads

pub file_given : (contents : Contents) (file left : ℕ) (changes more new : Changes) (name text given : List ℕ) → given ≡ text → Leads contents (text_read left which.File name) (gives text)
    → judged_data file given ≡ Ok more → new ≡ changes ++ more → (rest : ℕ) → rest ≡ left - length text
    → (names : List (List ℕ)) → Leads contents (data_behind file left changes (name ∷ names)) (data_behind (file + 1) rest new names)
file_given contents file left changes more new name text given same leads judged e rest r names =
    let here_judged : judged_data file text ≡ Ok more = subst (λ (t : List ℕ). judged_data file t ≡ Ok more) same judged in
    let whole : Leads contents (next_file file left changes names text) (data_behind (file + 1) (left - length text) (changes ++ more) names) = rw here_judged here in
    let told : Leads contents (next_file file left changes names text) (data_behind (file + 1) rest (changes ++ more) names) =
    subst (λ (n : ℕ). Leads contents (next_file file left changes names text) (data_behind (file + 1) n (changes ++ more) names)) (sym r) whole in
    leads_on (text_leads contents file left changes name names text leads)
    (subst (λ (cs : Changes). Leads contents (next_file file left changes names text) (data_behind (file + 1) rest cs names)) (sym e) told)

-- the file's read stopped the run
pub file_unread : {X : Type 0} (made : Result X Status) (status : Status) (contents : Contents) (before after : List ℕ → ℕ) (file left : ℕ) (changes : Changes) (name : List ℕ)
    → IsErrAnd made (λ s. s ≡ status) → Stops status (text_read left which.File name) contents before after
    → (names : List (List ℕ)) → IfErr made (λ s. Stops s (data_behind file left changes (name ∷ names)) contents before after)
file_unread (Ok x) status contents before after file left changes name e s names = absurd e
file_unread (Err other) status contents before after file left changes name e s names =
    subst (λ (t : Status). Stops t (data_behind file left changes (name ∷ names)) contents before after) (sym e)
    (stops_behind status (text_read left which.File name) (next_file file left changes names) contents before after s)

-- what it holds did
pub file_refused : {X : Type 0} (made : Result X Status) (status : Status) (contents : Contents) (before after : List ℕ → ℕ) (file left : ℕ) (changes : Changes) (name text given : List ℕ)
    → IsErrAnd made (λ s. s ≡ status) → given ≡ text → Leads contents (text_read left which.File name) (gives text) → RefusedAs status (λ s. judged_data file given ≡ Err s)
    → (names : List (List ℕ)) → IfErr made (λ s. Stops s (data_behind file left changes (name ∷ names)) contents before after)
file_refused (Ok x) status contents before after file left changes name text given e same leads r names = absurd e
file_refused (Err other) status contents before after file left changes name text given e same leads r names =
    let judged : RefusedAs status (λ s. judged_data file text ≡ Err s) = subst (λ (t : List ℕ). RefusedAs status (λ s. judged_data file t ≡ Err s)) same r in
    let first = settles (judged_data file text) status contents before after judged in
    let behind_it = stops_behind status (settled (judged_data file text)) (λ more. data_behind (file + 1) (left - length text) (changes ++ more) names) contents before after first in
    subst (λ (t : Status). Stops t (data_behind file left changes (name ∷ names)) contents before after) (sym e)
    (stops_later status (data_behind file left changes (name ∷ names)) (next_file file left changes names text) contents contents before before after
    (text_leads contents file left changes name names text leads) (λ n. refl) (λ n. omega arith) behind_it)

-- ---- all data files

pub none_taken : (contents : Contents) (names : List (List ℕ)) (changes : Changes) → changes ≡ [] → Leads contents (data_read names) (data_behind 0 most_file changes names)
none_taken contents names changes e = rw e here

pub none_long : (changes : Changes) → changes ≡ [] → length changes + most_file ≤ most_file
none_long changes e = let n : length changes ≡ 0 = ap length e in omega (arith, n)

-- the names that are left begin with the next one
left_at : (names : List (List ℕ)) (at : ℕ) (name none : List ℕ) → at < length names → name ≡ slice_index_or names at none → drop at names ≡ name ∷ drop (at + 1) names
left_at names at name none lt e = drop_more names at none lt ∙ ap (λ (n : List ℕ). n ∷ drop (at + 1) names) (sym e)

pub next_named : (contents : Contents) (intake : Intake Changes) (file left : ℕ) (changes : Changes) (names : List (List ℕ)) (at : ℕ) (name item : List ℕ) → at < length names → name ≡ item → item ≡ slice_index_or names at item
    → Leads contents intake (data_behind file left changes (drop at names)) → Leads contents intake (data_behind file left changes (name ∷ drop (at + 1) names))
next_named contents intake file left changes names at name item lt e is leads =
    subst (λ (ns : List (List ℕ)). Leads contents intake (data_behind file left changes ns)) (left_at names at name item lt (e ∙ is)) leads

-- ---- a query file behind them

abbrev pub behind_text : List ColourOf → Changes → List ℕ → Intake QueryFiles
behind_text colours changes text = gives (query_files colours changes text)

abbrev pub behind_changes : List ℕ → List ColourOf → Changes → Intake QueryFiles
behind_changes name colours changes = behind (text_read most_query which.Query name) (behind_text colours changes)

abbrev pub behind_colours : List (List ℕ) → List ℕ → List ColourOf → Intake QueryFiles
behind_colours names name colours = behind (data_read names) (behind_changes name colours)

pub colours_lead : (options : Options) (names : List (List ℕ)) (name : List ℕ) (contents : Contents) (colours : List ColourOf) → Leads contents (colours_read options) (gives colours)
    → Leads contents (query_read options names name) (behind_colours names name colours)
colours_lead options names name contents colours leads = leads_behind (behind_colours names name) leads

pub changes_lead : (options : Options) (names : List (List ℕ)) (name : List ℕ) (contents other : Contents) (colours : List ColourOf) (changes : Changes) → Leads contents (colours_read options) (gives colours)
    → ((n : List ℕ) → other n ≡ contents n) → Leads other (data_read names) (gives changes) → Leads contents (query_read options names name) (behind_changes name colours changes)
changes_lead options names name contents other colours changes first same second =
    leads_on (colours_lead options names name contents colours first) (leads_behind (behind_changes name colours) (leads_same same second))

pub text_leads_on : (options : Options) (names : List (List ℕ)) (name : List ℕ) (contents other last : Contents) (colours : List ColourOf) (changes : Changes) (text : List ℕ) → Leads contents (colours_read options) (gives colours)
    → ((n : List ℕ) → other n ≡ contents n) → Leads other (data_read names) (gives changes)
    → ((n : List ℕ) → last n ≡ contents n) → Leads last (text_read most_query which.Query name) (gives text) → Leads contents (query_read options names name) (gives (query_files colours changes text))
text_leads_on options names name contents other last colours changes text first same second again third =
    leads_on (changes_lead options names name contents other colours changes first same second) (leads_behind (behind_text colours changes) (leads_same again third))
