-- Texts in quotes: what is spelled is read, and what is read is spelled.
use Rattle.std.proofs.Common.{◌≡◌, ◌⊎◌, inl, inr, ℕ, Bool, true, false, cond, eqb, List, [], ◌∷◌, ◌++◌, refl, sym, ap, subst, ◌∙◌, append_assoc, arith}
use Rattle.std.specs.Prelude.{Option, Some, None, option_map}
use Rattle.std.specs.List.{flat_map}
use Rattle.std.specs.Str.{is_utf8}
use Rattle.std.proofs.lemmas.Bool.{cases_Bool, eqb-true, not-true}
use Rattle.table_meaning.specs.TableLaws.{or_left, or_right}
use Rattle.std.proofs.lemmas.Option.{same_Some}
use Rattle.rdf_meaning.specs.Spelling.{spelled_text_byte, text_spelling}
use Rattle.table_text.specs.Reading.{◌>>=◌, before, unquoted, escaped, is_raw, text_of}
use Rattle.table_text.proofs.Cuts.{rest_from}
use Rattle.table_text.proofs.Quotes.{raw_reads}

pub chosen : {X : Type 0} (b : Bool) (x y : X) → cond b (Some x) None ≡ Some y → (b ≡ true) × (x ≡ y)
chosen true x y h = (refl, same_Some x y h)
chosen false x y h = cc

pub bind_some : {A B : Type 0} (o : Option A) (f : A → Option B) (y : B) → (o >>= f) ≡ Some y → (x : A) × (o ≡ Some x) × (f x ≡ Some y)
bind_some None f y h = cc
bind_some (Some x) f y h = (x, refl, h)

pub map_some : {A B : Type 0} (f : A → B) (o : Option A) (y : B) → option_map f o ≡ Some y → (x : A) × (o ≡ Some x) × (f x ≡ y)
map_some f None y h = cc
map_some f (Some x) y h = (x, refl, same_Some (f x) y h)

pub before_some : {X : Type 0} (b : X) (o : Option (List X)) (t : List X) → before (b ∷ []) o ≡ Some t → (r : List X) × (o ≡ Some r) × (b ∷ r ≡ t)
before_some b o t h = map_some (λ r. b ∷ r) o t h

raw_front : (b : ℕ) (rest : List ℕ) → is_raw b ≡ true → unquoted (b ∷ rest) ≡ before (b ∷ []) (unquoted rest)
raw_front b rest raw = raw_reads (b ∷ rest) (omega arith) raw ∙ ap (λ r. before (b ∷ []) (unquoted r)) (rest_from 1 (b ∷ rest))

escape_front : (b mark : ℕ) (rest : List ℕ) → escaped mark ≡ Some b → unquoted (92 ∷ mark ∷ rest) ≡ before (b ∷ []) (unquoted rest)
escape_front b mark rest e = ap (λ o. o >>= (λ byte. before (byte ∷ []) (unquoted rest))) e

pub raw_byte : (b : ℕ) → eqb b 9 ≡ false → eqb b 10 ≡ false → eqb b 13 ≡ false → eqb b 34 ≡ false → eqb b 92 ≡ false → (is_raw b ≡ true) × (spelled_text_byte b ≡ b ∷ [])
raw_byte b tab feed return quote slash = (rw (quote, slash, tab, feed, return) refl, rw (tab, feed, return, quote, slash) refl)

pub one_byte : (b : ℕ) (rest : List ℕ) → unquoted (spelled_text_byte b ++ rest) ≡ before (b ∷ []) (unquoted rest)
one_byte b rest = go (cases_Bool (eqb b 9)) (cases_Bool (eqb b 10)) (cases_Bool (eqb b 13)) (cases_Bool (eqb b 34)) (cases_Bool (eqb b 92))
  where
    go : (eqb b 9 ≡ true) ⊎ (eqb b 9 ≡ false) → (eqb b 10 ≡ true) ⊎ (eqb b 10 ≡ false) → (eqb b 13 ≡ true) ⊎ (eqb b 13 ≡ false) → (eqb b 34 ≡ true) ⊎ (eqb b 34 ≡ false)
        → (eqb b 92 ≡ true) ⊎ (eqb b 92 ≡ false) → unquoted (spelled_text_byte b ++ rest) ≡ before (b ∷ []) (unquoted rest)
    go (inl e) x y z w = subst (λ x. unquoted (spelled_text_byte x ++ rest) ≡ before (x ∷ []) (unquoted rest)) (sym (eqb-true b 9 e)) (escape_front 9 116 rest refl)
    go (inr tab) (inl e) y z w = subst (λ x. unquoted (spelled_text_byte x ++ rest) ≡ before (x ∷ []) (unquoted rest)) (sym (eqb-true b 10 e)) (escape_front 10 110 rest refl)
    go (inr tab) (inr feed) (inl e) z w = subst (λ x. unquoted (spelled_text_byte x ++ rest) ≡ before (x ∷ []) (unquoted rest)) (sym (eqb-true b 13 e)) (escape_front 13 114 rest refl)
    go (inr tab) (inr feed) (inr return) (inl e) w = subst (λ x. unquoted (spelled_text_byte x ++ rest) ≡ before (x ∷ []) (unquoted rest)) (sym (eqb-true b 34 e)) (escape_front 34 34 rest refl)
    go (inr tab) (inr feed) (inr return) (inr quote) (inl e) = subst (λ x. unquoted (spelled_text_byte x ++ rest) ≡ before (x ∷ []) (unquoted rest)) (sym (eqb-true b 92 e)) (escape_front 92 92 rest refl)
    go (inr tab) (inr feed) (inr return) (inr quote) (inr slash) =
        let raw = raw_byte b tab feed return quote slash in
        ap (λ (s : List ℕ). unquoted (s ++ rest)) raw.1 ∙ raw_front b rest raw.0

read_back : (t : List ℕ) → unquoted (flat_map spelled_text_byte t ++ 34 ∷ []) ≡ Some t
read_back [] = refl
read_back (b ∷ t) =
    ap unquoted (append_assoc (spelled_text_byte b) (flat_map spelled_text_byte t) (34 ∷ []))
    ∙ one_byte b (flat_map spelled_text_byte t ++ 34 ∷ []) ∙ ap (before (b ∷ [])) (read_back t)

special : (c k v byte : ℕ) → c ≡ k → escaped k ≡ Some v → escaped c ≡ Some byte → spelled_text_byte v ≡ 92 ∷ k ∷ [] → spelled_text_byte byte ≡ 92 ∷ c ∷ []
special c k v byte e is h spelled =
    let same : v ≡ byte = same_Some v byte (sym is ∙ ap escaped (sym e) ∙ h) in
    ap spelled_text_byte (sym same) ∙ spelled ∙ ap (λ (x : ℕ). 92 ∷ x ∷ []) (sym e)

escaped_spells : (c byte : ℕ) → escaped c ≡ Some byte → spelled_text_byte byte ≡ 92 ∷ c ∷ []
escaped_spells c byte h = go (cases_Bool (eqb c 116)) (cases_Bool (eqb c 110)) (cases_Bool (eqb c 114)) (cases_Bool (eqb c 34)) (cases_Bool (eqb c 92))
  where
    go : (eqb c 116 ≡ true) ⊎ (eqb c 116 ≡ false) → (eqb c 110 ≡ true) ⊎ (eqb c 110 ≡ false) → (eqb c 114 ≡ true) ⊎ (eqb c 114 ≡ false) → (eqb c 34 ≡ true) ⊎ (eqb c 34 ≡ false)
        → (eqb c 92 ≡ true) ⊎ (eqb c 92 ≡ false) → spelled_text_byte byte ≡ 92 ∷ c ∷ []
    go (inl e) x y z w = special c 116 9 byte (eqb-true c 116 e) refl h refl
    go (inr t) (inl e) y z w = special c 110 10 byte (eqb-true c 110 e) refl h refl
    go (inr t) (inr n) (inl e) z w = special c 114 13 byte (eqb-true c 114 e) refl h refl
    go (inr t) (inr n) (inr r) (inl e) w = special c 34 34 byte (eqb-true c 34 e) refl h refl
    go (inr t) (inr n) (inr r) (inr q) (inl e) = special c 92 92 byte (eqb-true c 92 e) refl h refl
    go (inr t) (inr n) (inr r) (inr q) (inr s) = let none : escaped c ≡ None = rw (t, n, r, q, s) refl in cc

raw_spelled : (b : ℕ) → is_raw b ≡ true → spelled_text_byte b ≡ b ∷ []
raw_spelled b raw =
    let out = not-true _ raw in
    let quote : eqb b 34 ≡ false = or_left _ _ out in
    let out1 = or_right (eqb b 34) _ out in
    let slash : eqb b 92 ≡ false = or_left _ _ out1 in
    let out2 = or_right (eqb b 92) _ out1 in
    let tab : eqb b 9 ≡ false = or_left _ _ out2 in
    let out3 = or_right (eqb b 9) _ out2 in
    (raw_byte b tab (or_left _ _ out3) (or_right (eqb b 10) _ out3) quote slash).1

unquoted_spells : (bs t : List ℕ) → unquoted bs ≡ Some t → bs ≡ flat_map spelled_text_byte t ++ 34 ∷ []
unquoted_spells [] t h = cc
unquoted_spells (b ∷ []) t h =
    let p = chosen (eqb b 34) [] t h in
    subst (λ (r : List ℕ). b ∷ [] ≡ flat_map spelled_text_byte r ++ 34 ∷ []) p.1 (ap (λ (x : ℕ). x ∷ []) (eqb-true b 34 p.0))
unquoted_spells (b ∷ c ∷ bs) t h = by (cases_Bool (eqb b 92)) (cases_Bool (is_raw b)) (unquoted_spells bs) (unquoted_spells (c ∷ bs))
  where
    escape : eqb b 92 ≡ true → ((r : List ℕ) → unquoted bs ≡ Some r → bs ≡ flat_map spelled_text_byte r ++ 34 ∷ []) → (escaped c >>= (λ byte. before (byte ∷ []) (unquoted bs))) ≡ Some t
        → b ∷ c ∷ bs ≡ flat_map spelled_text_byte t ++ 34 ∷ []
    escape e ih h' =
        let x = bind_some (escaped c) (λ byte. before (byte ∷ []) (unquoted bs)) t h' in
        let y = before_some x.0 (unquoted bs) t x.2 in
        subst (λ (r : List ℕ). b ∷ c ∷ bs ≡ flat_map spelled_text_byte r ++ 34 ∷ []) y.2
        (ap (λ (z : ℕ). z ∷ c ∷ bs) (eqb-true b 92 e) ∙ ap (λ (r : List ℕ). 92 ∷ c ∷ r) (ih y.0 y.1)
        ∙ ap (λ (s : List ℕ). (s ++ flat_map spelled_text_byte y.0) ++ 34 ∷ []) (sym (escaped_spells c x.0 x.1)))

    raw : is_raw b ≡ true → ((r : List ℕ) → unquoted (c ∷ bs) ≡ Some r → c ∷ bs ≡ flat_map spelled_text_byte r ++ 34 ∷ []) → before (b ∷ []) (unquoted (c ∷ bs)) ≡ Some t
        → b ∷ c ∷ bs ≡ flat_map spelled_text_byte t ++ 34 ∷ []
    raw e ih h' =
        let y = before_some b (unquoted (c ∷ bs)) t h' in
        subst (λ (r : List ℕ). b ∷ c ∷ bs ≡ flat_map spelled_text_byte r ++ 34 ∷ []) y.2
        (ap (λ (r : List ℕ). b ∷ r) (ih y.0 y.1) ∙ ap (λ (s : List ℕ). (s ++ flat_map spelled_text_byte y.0) ++ 34 ∷ []) (sym (raw_spelled b e)))

    by : (eqb b 92 ≡ true) ⊎ (eqb b 92 ≡ false) → (is_raw b ≡ true) ⊎ (is_raw b ≡ false) → ((r : List ℕ) → unquoted bs ≡ Some r → bs ≡ flat_map spelled_text_byte r ++ 34 ∷ [])
        → ((r : List ℕ) → unquoted (c ∷ bs) ≡ Some r → c ∷ bs ≡ flat_map spelled_text_byte r ++ 34 ∷ []) → b ∷ c ∷ bs ≡ flat_map spelled_text_byte t ++ 34 ∷ []
    by (inl e) z ih ih' = escape e ih (subst (λ q. cond q (escaped c >>= (λ byte. before (byte ∷ []) (unquoted bs))) (cond (is_raw b) (before (b ∷ []) (unquoted (c ∷ bs))) None) ≡ Some t) e h)
    by (inr e) (inl r) ih ih' = raw r ih' (subst (λ q. cond q (before (b ∷ []) (unquoted (c ∷ bs))) None ≡ Some t) r
        (subst (λ q. cond q (escaped c >>= (λ byte. before (byte ∷ []) (unquoted bs))) (cond (is_raw b) (before (b ∷ []) (unquoted (c ∷ bs))) None) ≡ Some t) e h))
    by (inr e) (inr r) ih ih' =
        let none : cond false (before (b ∷ []) (unquoted (c ∷ bs))) None ≡ Some t = subst (λ q. cond q (before (b ∷ []) (unquoted (c ∷ bs))) None ≡ Some t) r
        (subst (λ q. cond q (escaped c >>= (λ byte. before (byte ∷ []) (unquoted bs))) (cond (is_raw b) (before (b ∷ []) (unquoted (c ∷ bs))) None) ≡ Some t) e h) in
        cc

pub text_of-spelled : (t : List ℕ) → is_utf8 t ≡ true → text_of (text_spelling t) ≡ Some t
unfolding text_of
text_of-spelled t utf8 = rw (read_back t, utf8) refl

pub text_of-spells : (field t : List ℕ) → text_of field ≡ Some t → (field ≡ text_spelling t) × (is_utf8 t ≡ true)
unfolding text_of
text_of-spells [] t h = cc
text_of-spells (b ∷ bs) t h = by (cases_Bool (eqb b 34))
  where
    open_quote : eqb b 34 ≡ true → (unquoted bs >>= (λ text. cond (is_utf8 text) (Some text) None)) ≡ Some t → (b ∷ bs ≡ text_spelling t) × (is_utf8 t ≡ true)
    open_quote e h' =
        let x = bind_some (unquoted bs) (λ text. cond (is_utf8 text) (Some text) None) t h' in
        let p = chosen (is_utf8 x.0) x.0 t x.2 in
        subst (λ (r : List ℕ). (b ∷ bs ≡ text_spelling r) × (is_utf8 r ≡ true)) p.1 (ap (λ (z : ℕ). z ∷ bs) (eqb-true b 34 e) ∙ ap (λ (r : List ℕ). 34 ∷ r) (unquoted_spells bs x.0 x.1), p.0)

    by : (eqb b 34 ≡ true) ⊎ (eqb b 34 ≡ false) → (b ∷ bs ≡ text_spelling t) × (is_utf8 t ≡ true)
    by (inl e) = open_quote e (subst (λ q. cond q (unquoted bs >>= (λ text. cond (is_utf8 text) (Some text) None)) None ≡ Some t) e h)
    by (inr e) = let none : cond false (unquoted bs >>= (λ text. cond (is_utf8 text) (Some text) None)) None ≡ Some t = subst (λ q. cond q (unquoted bs >>= (λ text. cond (is_utf8 text) (Some text) None)) None ≡ Some t) e h in cc
