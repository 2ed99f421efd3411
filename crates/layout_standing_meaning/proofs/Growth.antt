-- A store whose dictionary grows, and in which items come and go.
use Rattle.std.proofs.Common.{◌≡◌, ℕ, zero, suc, ◌+◌, ◌-◌, ◌<◌, Bool, true, false, if◌then◌else◌, List, [], ◌∷◌, ◌++◌, Option, Some, None, length, slice_get, refl, sym, ap, ◌∙◌, arith, subst}
use Rattle.std.specs.Prelude.{unwrap_or}
use Rattle.std.specs.List.{list_any, IsDistinct, AllByRecursion}
use Rattle.std.specs.Ordering.{nat_cmp}
use Rattle.std.specs.BTreeMap.{is_at}
use Rattle.std.specs.Map.{lookup}
use Rattle.std.proofs.lemmas.Map.Keys.{IsDistinct-push}
use Rattle.bags.specs.Bag.{SameBag}
use Rattle.bags.specs.BagLaws.{each-weaker, each-append}
use Rattle.rdf_meaning.specs.Terms.{RdfTerm, RdfTriple, iri, same_term}
use Rattle.rdf_meaning.specs.TermLaws.{same_term_equiv}
use Rattle.layout_meaning.specs.Columns.{candidates_of}
use Rattle.layout_meaning.specs.Side.{Pair, Row, Rows, Item, SideState, items, is_held}
use Rattle.layout_meaning.specs.Sound.{pair_at, RowKeeps}
use Rattle.layout_meaning.specs.Rows.{SideOf, KeepsToNames, name_in, columns_by, placed_in, taken_from}
use Rattle.layout_meaning.proofs.Names.{keeps-placed_in, keeps-taken_from}
use Rattle.layout_meaning.proofs.Held.{held_after_placing, held_after_taking}
use Rattle.layout_meaning.proofs.Changes.{placed-held}
use Rattle.layout_standing_meaning.specs.Dictionary.{IsTerm, IsTriple, names_of, numbered_from, entries_of}
use Rattle.layout_standing_meaning.specs.Sides.{SidesOf, turned, both_placed, both_taken, AreSides, AreAsBefore}
use Rattle.layout_standing_meaning.specs.Stored.{StoreOf, IsStore, IsItem, IsIdIn, sides_of, term_at, triple_by}
use Rattle.layout_standing_meaning.specs.Changes.{with_term, with_terms, store_of}
use Rattle.layout_standing_meaning.proofs.Terms.{term_at-name}
use Rattle.layout_standing_meaning.proofs.Steps.{sides_after_placing, sides_after_taking, both-free, each-bag_item, with_next, sides-next}

-- terms behind others change no id
get-front : (i : ℕ) (ts us : List RdfTerm) → i < length ts → slice_get (ts ++ us) i ≡ slice_get ts i
get-front i [] us l = absurd (omega arith)
get-front zero (t ∷ ts) us l = refl
get-front (suc i) (t ∷ ts) us l = get-front i ts us (omega arith)

pub term_at-front : (ts us : List RdfTerm) (n : ℕ) → IsIdIn ts n → term_at (ts ++ us) n ≡ term_at ts n
term_at-front ts us n h = (let a = h.0 in let b = h.1 in ap (λ (o : Option RdfTerm). unwrap_or o (iri [])) (get-front (n - 1) ts us (omega arith)))

length-both : (ts us : List RdfTerm) → length (ts ++ us) ≡ length ts + length us
length-both [] us = omega arith
length-both (t ∷ ts) us = omega (arith, length-both ts us)

id-front : (ts us : List RdfTerm) (n : ℕ) → IsIdIn ts n → IsIdIn (ts ++ us) n
id-front ts us n h = (h.0, (let b = h.1 in let c = length-both ts us in omega arith))

pub triple-front : (ts us : List RdfTerm) (x : Item) → IsItem ts x → triple_by (ts ++ us) x ≡ triple_by ts x
triple-front ts us x h =
    let a = term_at-front ts us x.entity h.entity in
    let b = term_at-front ts us x.pred h.pred in
    let c = term_at-front ts us x.value h.value in
    λ i. record { s = a i; p = b i; o = c i }

pub item-front : (ts us : List RdfTerm) (x : Item) → IsItem ts x → IsItem (ts ++ us) x
item-front ts us x h = record {
  entity = id-front ts us x.entity h.entity;
  pred = id-front ts us x.pred h.pred;
  value = id-front ts us x.value h.value;
  form = subst IsTriple (sym (triple-front ts us x h)) h.form;
}

-- names behind others change none
lookup-front : {X : Type 0} (test : ℕ → Bool) (es fs : List (ℕ × X)) (v : X) → lookup test es ≡ Some v → lookup test (es ++ fs) ≡ Some v
lookup-front test [] fs v h = cc
lookup-front {X} test (e ∷ es) fs v h = by (test e.0) h (lookup-front test es fs v)
  where
    by : (b : Bool) → (if b then Some e.1 else lookup test es) ≡ Some v → (lookup test es ≡ Some v → lookup test (es ++ fs) ≡ Some v) → (if b then Some e.1 else lookup test (es ++ fs)) ≡ Some v
    by true h ih = h
    by false h ih = ih h

names-both : (n : ℕ) (ts us : List RdfTerm) → names_of (numbered_from n (ts ++ us)) ≡ names_of (numbered_from n ts) ++ names_of (numbered_from (n + length ts) us)
names-both n [] us = let k : n ≡ n + 0 = omega arith in ap (λ (m : ℕ). names_of (numbered_from m us)) k
names-both n (t ∷ ts) us =
    let k : n + 1 + length ts ≡ n + suc (length ts) = omega arith in
    ap (λ (l : List (ℕ × List ℕ)). (n, t.text) ∷ l) (names-both (n + 1) ts us ∙ ap (λ (m : ℕ). names_of (numbered_from (n + 1) ts) ++ names_of (numbered_from m us)) k)

pub keeps-front : (ts us : List RdfTerm) (s : SideOf) → KeepsToNames (names_of (entries_of ts)) s → KeepsToNames (names_of (entries_of (ts ++ us))) s
keeps-front ts us s h = record {
  rows = each-weaker (λ (en : ℕ × Rows). AllByRecursion (RowKeeps old) en.1) (λ (en : ℕ × Rows). AllByRecursion (RowKeeps new) en.1)
      (λ (en : ℕ × Rows) (k : AllByRecursion (RowKeeps old) en.1). each-weaker (RowKeeps old) (RowKeeps new) row en.1 k) s.state.entities h.rows;
}
  where
    old : ℕ → List ℕ
    old p = columns_by s.columns (name_in (names_of (entries_of ts)) p)

    new : ℕ → List ℕ
    new p = columns_by s.columns (name_in (names_of (entries_of (ts ++ us))) p)

    by : (test : ℕ → Bool) (p : ℕ) (o : Option (List ℕ)) → name_in (names_of (entries_of ts)) p ≡ o → list_any test (columns_by s.columns o) ≡ true → list_any test (new p) ≡ true
    by test p None t k = cc
    by test p (Some text) t k =
        let e : name_in (names_of (entries_of (ts ++ us))) p ≡ Some text = ap (λ (l : List (ℕ × List ℕ)). name_in l p) (names-both 1 ts us) ∙ lookup-front (is_at (nat_cmp p)) (names_of (entries_of ts)) (names_of (numbered_from (1 + length ts) us)) text t in
        ap (λ (o : Option (List ℕ)). list_any test (columns_by s.columns o)) e ∙ k

    row : (r : Row) → RowKeeps old r → RowKeeps new r
    row r k = record { in_columns = λ (c : ℕ) (q : Pair) (e : pair_at r c ≡ Some q). by _ q.pred (name_in (names_of (entries_of ts)) q.pred) refl (k.in_columns c q e) }

-- a dictionary grows by a term
each-push : {X : Type 0} (P : X → Type 0) (xs : List X) (x : X) → AllByRecursion P xs → P x → AllByRecursion P (xs ++ x ∷ [])
each-push P xs x a h = each-append P xs (x ∷ []) a (h, tt)

pub grown : (s : StoreOf) (t : RdfTerm) → IsStore s → IsTerm t → IsStore (store_of (with_term s.terms t) (sides_of s))
grown s t h form = by (list_any (same_term t) s.terms) refl
  where
    by : (b : Bool) → list_any (same_term t) s.terms ≡ b → IsStore (store_of (if b then s.terms else s.terms ++ t ∷ []) (sides_of s))
    by true e = h
    by false e = record {
      sides = h.sides;
      direct_names = keeps-front s.terms (t ∷ []) s.direct h.direct_names;
      reverse_names = keeps-front s.terms (t ∷ []) s.reverse h.reverse_names;
      distinct = IsDistinct-push same_term_equiv s.terms t h.distinct e;
      forms = each-push IsTerm s.terms t h.forms form;
      each_item = each-weaker (IsItem s.terms) (IsItem (s.terms ++ t ∷ [])) (item-front s.terms (t ∷ [])) (items s.direct.state) h.each_item;
    }

pub grown-triple : (s : StoreOf) (t : RdfTriple) → IsStore s → IsTriple t → IsStore (store_of (with_terms s.terms t) (sides_of s))
grown-triple s t h form =
    let a = grown s t.s h form.subject_form in
    let b = grown (store_of (with_term s.terms t.s) (sides_of s)) t.p a form.predicate_form in
    grown (store_of (with_term (with_term s.terms t.s) t.p) (sides_of s)) t.o b form.object_form

-- an item is placed
item-turned_name : (s : StoreOf) (x : Item) → IsItem s.terms x → name_in (names_of (entries_of s.terms)) x.pred ≡ Some (term_at s.terms x.pred).text
item-turned_name s x h = term_at-name s.terms x.pred h.pred

pub placed-bag : (s : SidesOf) (iri : List ℕ) (x : Item) → AreSides s → is_held x s.direct.state ≡ false → SameBag (items (placed_in s.direct iri x).state) (x ∷ items s.direct.state)
placed-bag s iri x h free = record {
  totals = λ (g : Item → ℕ). (let a = held_after_placing s.direct.columns.count (candidates_of s.direct.columns iri) x s.direct.state g h.direct.sound (h.direct.first iri) free in omega arith);
}

pub taken-bag : (s : SidesOf) (x : Item) → AreSides s → is_held x s.direct.state ≡ true → SameBag (x ∷ items (taken_from s.direct x).state) (items s.direct.state)
taken-bag s x h there = record {
  totals = λ (g : Item → ℕ). (let a = held_after_taking s.direct.columns.count x s.direct.state g h.direct.sound there in omega arith);
}

pub store-placed : (s : StoreOf) (x : Item) → IsStore s → IsItem s.terms x → IsStore (store_of s.terms (both_placed (sides_of s) (term_at s.terms x.pred).text x))
store-placed s x h good = record {
  sides = sides_after_placing (sides_of s) (term_at s.terms x.pred).text x h.sides;
  direct_names = keeps-placed_in (names_of (entries_of s.terms)) s.direct (term_at s.terms x.pred).text x (h.sides.direct.some (term_at s.terms x.pred).text) h.direct_names (item-turned_name s x good);
  reverse_names = keeps-placed_in (names_of (entries_of s.terms)) s.reverse (term_at s.terms x.pred).text (turned x) (h.sides.reverse.some (term_at s.terms x.pred).text) h.reverse_names (item-turned_name s x good);
  distinct = h.distinct;
  forms = h.forms;
  each_item = by (is_held x s.direct.state) refl;
}
  where
    by : (b : Bool) → is_held x s.direct.state ≡ b → AllByRecursion (IsItem s.terms) (items (placed_in s.direct (term_at s.terms x.pred).text x).state)
    by true t = subst (λ (w : SideState). AllByRecursion (IsItem s.terms) (items w)) (sym (placed-held s.direct.columns.count (candidates_of s.direct.columns (term_at s.terms x.pred).text) x s.direct.state t)) h.each_item
    by false t = each-bag_item (IsItem s.terms) (items (placed_in s.direct (term_at s.terms x.pred).text x).state) (x ∷ items s.direct.state) (placed-bag (sides_of s) (term_at s.terms x.pred).text x h.sides t) (good, h.each_item)

pub store-taken : (s : StoreOf) (x : Item) → IsStore s → IsStore (store_of s.terms (both_taken (sides_of s) x))
store-taken s x h = record {
  sides = sides_after_taking (sides_of s) x h.sides;
  direct_names = keeps-taken_from (names_of (entries_of s.terms)) s.direct x h.direct_names;
  reverse_names = keeps-taken_from (names_of (entries_of s.terms)) s.reverse (turned x) h.reverse_names;
  distinct = h.distinct;
  forms = h.forms;
  each_item = by (is_held x s.direct.state) refl;
}
  where
    by : (b : Bool) → is_held x s.direct.state ≡ b → AllByRecursion (IsItem s.terms) (items (taken_from s.direct x).state)
    by true t =
        (each-bag_item (IsItem s.terms) (x ∷ items (taken_from s.direct x).state) (items s.direct.state) (taken-bag (sides_of s) x h.sides t) h.each_item).1
    by false t = subst (λ (w : SidesOf). AllByRecursion (IsItem s.terms) (items w.direct.state)) (sym (both-free (sides_of s) x h.sides t)) h.each_item

-- rows and lists as before
pub store-before : (s : StoreOf) (new : SidesOf) → IsStore s → AreAsBefore (sides_of s) new → IsStore (store_of s.terms new)
store-before s new h before = subst (λ (w : SidesOf). IsStore (store_of s.terms w)) (sym same) (record {
  sides = sides-next (sides_of s) new.direct.state.next before.direct_next h.sides;
  direct_names = record { rows = h.direct_names.rows };
  reverse_names = h.reverse_names;
  distinct = h.distinct;
  forms = h.forms;
  each_item = h.each_item;
})
  where
    same : new ≡ record { direct = with_next s.direct new.direct.state.next; reverse = s.reverse }
    same = let a = before.direct_columns in let b = before.direct_rows in let c = before.direct_lists in let d = before.reverse in
        λ i. record { direct = record { columns = a i; state = record { entities = b i; lists = c i; next = new.direct.state.next } }; reverse = d i }
