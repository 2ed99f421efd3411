-- Tokens that are spelled as one piece, wherever they stand.
use Rattle.std.specs.Prelude.{Bool, true, false, not, ◌||◌, List, [], ◌∷◌, ◌++◌, codes, Option, Some}
use Rattle.std.specs.List.{list_all}
use Rattle.std.specs.Str.{is_utf8}
use Rattle.std.proofs.Common.{◌≡◌, ◌∙◌, sym, ap, subst, refl, append_assoc, append-nil}
use Rattle.std.proofs.lemmas.List.Folds.{list_all-append}
use Rattle.table_meaning.specs.Ints.{is_wide_int}
use Rattle.table_meaning.specs.Names.{is_name}
use Rattle.sql_meaning.specs.Marks.{mark_bytes}
use Rattle.sql_meaning.specs.Canon.{Tokens, the, between, each_behind, all_tokens, in_brackets, token_bytes, is_open, is_close, is_caller, gap, spaced}
use Rattle.sql_meaning.specs.declared.token.Mark.{Mark}
use Rattle.sql_meaning.specs.declared.token.Mark.TheVariants as m
use Rattle.sql_meaning.specs.declared.token.Token.{Token}
use Rattle.sql_meaning.specs.declared.token.Token.TheVariants as t
use Rattle.sql_text_spelling_laws.specs.Pieces.{Bytes, behind, joined}

-- a blank may stand behind the token, and a bracket does not stand directly behind it
abbrev pub is_shut : Token → Bool
is_shut x = not (is_open x || is_caller x)

-- a token whose bytes are cut as this token
abbrev pub is_spellable : Token → Bool
is_spellable (t.Mark x) = true
is_spellable (t.Name s) = is_name s
is_spellable (t.Int n) = is_wide_int n
is_spellable (t.Text s) = is_utf8 s
is_spellable t.Broken = false

-- The tokens are spelled as these bytes; a blank may stand on both sides.
pub record Block (ts : Tokens) (bs : Bytes) : Type 0 where
  pub head : Token
  pub end : Token
  pub whole : (x : Option Token) (us : Tokens) → spaced x (ts ++ us) ≡ gap x head ++ (bs ++ spaced (Some end) us)
  pub front : is_close head ≡ false
  pub back : is_shut end ≡ true
  pub good : list_all is_spellable ts ≡ true

both_good : (ts us : Tokens) → list_all is_spellable ts ≡ true → list_all is_spellable us ≡ true → list_all is_spellable (ts ++ us) ≡ true
both_good ts us h k = list_all-append is_spellable ts us ∙ rw (h, k) refl

and_true : (a b : Bool) → not (a || b) ≡ true → (a ≡ false) × (b ≡ false)
and_true true b h = absurd (let z : false ≡ true = h in cc)
and_true false true h = absurd (let z : false ≡ true = h in cc)
and_true false false h = (refl, refl)

-- one space stands between a token that is shut and one that doesn't close
pub one_space : (x y : Token) → is_shut x ≡ true → is_close y ≡ false → gap (Some x) y ≡ 32 ∷ []
one_space x y back front = let b = and_true (is_open x) (is_caller x) back in rw (b.0, front, b.1) refl

-- one token
pub of_token : (x : Token) → is_close x ≡ false → is_shut x ≡ true → is_spellable x ≡ true → Block (x ∷ []) (token_bytes x)
of_token x front back good = record { head = x; end = x; whole = λ y us. append_assoc (gap y x) (token_bytes x) (spaced (Some x) us); front = front; back = back; good = rw good refl }

pub same_bytes : (ts : Tokens) (bs cs : Bytes) → bs ≡ cs → Block ts bs → Block ts cs
same_bytes ts bs cs e b = subst (λ (z : Bytes). Block ts z) e b

pub same_tokens : (ts us : Tokens) (bs : Bytes) → ts ≡ us → Block ts bs → Block us bs
same_tokens ts us bs e b = subst (λ (z : Tokens). Block z bs) e b

-- two pieces, a space between them
pub two : (ts us : Tokens) (bs cs : Bytes) → Block ts bs → Block us cs → Block (ts ++ us) (bs ++ (32 ∷ cs))
two ts us bs cs b c = record {
  head = b.head;
  end = c.end;
  front = b.front;
  back = c.back;
  good = both_good ts us b.good c.good;
  whole = λ x vs.
      ap (λ (z : Tokens). spaced x z) (append_assoc ts us vs) ∙ b.whole x (us ++ vs)
      ∙ ap (λ (z : Bytes). gap x b.head ++ (bs ++ z)) (c.whole (Some b.end) vs ∙ ap (λ (g : Bytes). g ++ (cs ++ spaced (Some c.end) vs)) (one_space b.end c.head b.back c.front))
      ∙ ap (λ (z : Bytes). gap x b.head ++ z) (sym (append_assoc bs (32 ∷ cs) (spaced (Some c.end) vs)));
}

-- a piece behind a first token, which has no space behind it
abbrev pub led_by : (x : Token) (ts : Tokens) (bs : Bytes) → is_close x ≡ false → is_spellable x ≡ true → (b : Block ts bs) → gap (Some x) b.head ≡ [] → Block (x ∷ ts) (token_bytes x ++ bs)
led_by x ts bs front good b none = record {
  head = x;
  end = b.end;
  front = front;
  back = b.back;
  good = rw good b.good;
  whole = λ y us.
      append_assoc (gap y x) (token_bytes x) (spaced (Some x) (ts ++ us))
      ∙ ap (λ (z : Bytes). gap y x ++ (token_bytes x ++ z)) (b.whole (Some x) us ∙ ap (λ (g : Bytes). g ++ (bs ++ spaced (Some b.end) us)) none)
      ∙ ap (λ (z : Bytes). gap y x ++ z) (sym (append_assoc (token_bytes x) bs (spaced (Some b.end) us)));
}

-- a piece before a last token, which has no space before it
pub ended_by : (x : Token) (ts : Tokens) (bs : Bytes) → is_shut x ≡ true → is_spellable x ≡ true → (b : Block ts bs) → gap (Some b.end) x ≡ [] → Block (ts ++ (x ∷ [])) (bs ++ token_bytes x)
ended_by x ts bs back good b none = record {
  head = b.head;
  end = x;
  front = b.front;
  back = back;
  good = both_good ts (x ∷ []) b.good (rw good refl);
  whole = λ y us.
      ap (λ (z : Tokens). spaced y z) (append_assoc ts (x ∷ []) us) ∙ b.whole y (x ∷ us)
      ∙ ap (λ (g : Bytes). gap y b.head ++ (bs ++ ((g ++ token_bytes x) ++ spaced (Some x) us))) none
      ∙ ap (λ (z : Bytes). gap y b.head ++ z) (sym (append_assoc bs (token_bytes x) (spaced (Some x) us)));
}

-- a word
pub word : (x : Mark) → is_close (t.Mark x) ≡ false → is_shut (t.Mark x) ≡ true → Block (the x) (mark_bytes x)
word x front back = of_token (t.Mark x) front back refl

no_gap_before : (x : Token) (y : Mark) → is_close (t.Mark y) ≡ true → gap (Some x) (t.Mark y) ≡ []
no_gap_before x y h = by (is_open x) refl
  where
    by : (b : Bool) → is_open x ≡ b → gap (Some x) (t.Mark y) ≡ []
    by true e = rw e refl
    by false e = rw (e, h) refl

-- a sign that closes, behind a piece
pub closed_by : (y : Mark) (ts : Tokens) (bs : Bytes) → is_close (t.Mark y) ≡ true → is_shut (t.Mark y) ≡ true → Block ts bs → Block (ts ++ the y) (bs ++ mark_bytes y)
closed_by y ts bs close shut b = ended_by (t.Mark y) ts bs shut refl b (no_gap_before b.end y close)

-- a sign that opens, before a piece
abbrev pub opened_by : (y : Mark) (ts : Tokens) (bs : Bytes) → is_close (t.Mark y) ≡ false → is_open (t.Mark y) ≡ true → Block ts bs → Block (the y ++ ts) (mark_bytes y ++ bs)
opened_by y ts bs front opens b = led_by (t.Mark y) ts bs front refl b (rw opens refl)

abbrev pub bracketed : (ts : Tokens) (bs : Bytes) → Block ts bs → Block (in_brackets ts) (40 ∷ (bs ++ (41 ∷ [])))
bracketed ts bs b = opened_by m.Open (ts ++ the m.Close) (bs ++ (41 ∷ [])) refl refl (closed_by m.Close ts bs refl refl b)

-- each piece is spelled by its bytes
abbrev pub Blocks : List Tokens → List Bytes → Type 0
Blocks [] [] = Unit {0}
Blocks [] (b ∷ bs) = ⊥
Blocks (t ∷ ts) [] = ⊥
Blocks (t ∷ ts) (b ∷ bs) = Block t b × Blocks ts bs

-- how a piece goes on behind a separator
abbrev pub GoesOn : Mark → Bytes → Type 0
GoesOn x separator = (ts us : Tokens) (bs cs : Bytes) → Block ts bs → Block us cs → Block (ts ++ (the x ++ us)) (bs ++ (separator ++ cs))

pub chain : (x : Mark) (separator : Bytes) → GoesOn x separator → (ts : Tokens) (bs : Bytes) (tss : List Tokens) (bss : List Bytes) → Block ts bs → Blocks tss bss → Block (ts ++ each_behind x tss) (bs ++ behind separator bss)
chain x separator on ts bs [] [] b all = same_tokens ts (ts ++ []) (bs ++ []) (sym (append-nil ts)) (same_bytes ts bs (bs ++ []) (sym (append-nil bs)) b)
chain x separator on ts bs [] (c ∷ cs) b all = absurd all
chain x separator on ts bs (u ∷ us) [] b all = absurd all
chain x separator on ts bs (u ∷ us) (c ∷ cs) b all =
    let next : Block ((ts ++ (the x ++ u)) ++ each_behind x us) ((bs ++ (separator ++ c)) ++ behind separator cs) = chain x separator on (ts ++ (the x ++ u)) (bs ++ (separator ++ c)) us cs (on ts u bs c b all.0) all.1 in
    same_tokens _ _ _ (append_assoc ts (the x ++ u) (each_behind x us)) (same_bytes _ _ _ (append_assoc bs (separator ++ c) (behind separator cs)) next)

-- pieces with a mark between them
pub listed : (x : Mark) (separator : Bytes) → GoesOn x separator → (ts : Tokens) (bs : Bytes) (tss : List Tokens) (bss : List Bytes) → Blocks (ts ∷ tss) (bs ∷ bss) → Block (between x (ts ∷ tss)) (joined separator (bs ∷ bss))
listed x separator on ts bs tss bss all = chain x separator on ts bs tss bss all.0 all.1

-- a word with a space on both sides
pub by_word : (x : Mark) → is_close (t.Mark x) ≡ false → is_shut (t.Mark x) ≡ true → GoesOn x (32 ∷ (mark_bytes x ++ (32 ∷ [])))
by_word x front back ts us bs cs b c =
    same_bytes _ _ _ (ap (λ (z : Bytes). bs ++ (32 ∷ z)) (sym (append_assoc (mark_bytes x) (32 ∷ []) cs)))
    (two ts (the x ++ us) bs (mark_bytes x ++ (32 ∷ cs)) b (two (the x) us (mark_bytes x) cs (word x front back) c))

-- a comma with a space behind it
pub by_comma : GoesOn m.Comma (codes ", ")
by_comma ts us bs cs b c =
    same_tokens _ _ _ (append_assoc ts (the m.Comma) us)
    (same_bytes _ _ _ (append_assoc bs (44 ∷ []) (32 ∷ cs))
    (two (ts ++ the m.Comma) us (bs ++ (44 ∷ [])) cs (closed_by m.Comma ts bs refl refl b) c))

-- pieces one after another, a space before each
pub chained : (ts : Tokens) (bs : Bytes) (tss : List Tokens) (bss : List Bytes) → Block ts bs → Blocks tss bss → Block (ts ++ all_tokens tss) (bs ++ behind (codes " ") bss)
chained ts bs [] [] b all = same_tokens ts (ts ++ []) (bs ++ []) (sym (append-nil ts)) (same_bytes ts bs (bs ++ []) (sym (append-nil bs)) b)
chained ts bs [] (c ∷ cs) b all = absurd all
chained ts bs (u ∷ us) [] b all = absurd all
chained ts bs (u ∷ us) (c ∷ cs) b all =
    let next : Block ((ts ++ u) ++ all_tokens us) ((bs ++ (32 ∷ c)) ++ behind (codes " ") cs) = chained (ts ++ u) (bs ++ (32 ∷ c)) us cs (two ts u bs c b all.0) all.1 in
    same_tokens _ _ _ (append_assoc ts u (all_tokens us)) (same_bytes _ _ _ (append_assoc bs (32 ∷ c) (behind (codes " ") cs)) next)

-- a word with brackets directly behind it
pub called : (x : Mark) (ts : Tokens) (bs : Bytes) → is_close (t.Mark x) ≡ false → is_caller (t.Mark x) ≡ true → is_open (t.Mark x) ≡ false → Block ts bs → Block (the x ++ in_brackets ts) (mark_bytes x ++ (40 ∷ (bs ++ (41 ∷ []))))
called x ts bs front caller opens b = led_by (t.Mark x) (in_brackets ts) (40 ∷ (bs ++ (41 ∷ []))) front refl (bracketed ts bs b) (rw (opens, caller) refl)

-- a part that may be missing behind a piece, with the space before it
abbrev pub Tail : Tokens → Bytes → Type 0
Tail us cs = (ts : Tokens) (bs : Bytes) → Block ts bs → Block (ts ++ us) (bs ++ cs)

pub missing : Tail [] []
missing ts bs b = same_tokens ts (ts ++ []) (bs ++ []) (sym (append-nil ts)) (same_bytes ts bs (bs ++ []) (sym (append-nil bs)) b)

pub present : (us : Tokens) (cs : Bytes) → Block us cs → Tail us (32 ∷ cs)
present us cs c ts bs b = two ts us bs cs b c

pub tails : (us vs : Tokens) (cs ds : Bytes) → Tail us cs → Tail vs ds → Tail (us ++ vs) (cs ++ ds)
tails us vs cs ds t u ts bs b = same_tokens _ _ _ (append_assoc ts us vs) (same_bytes _ _ _ (append_assoc bs cs ds) (u (ts ++ us) (bs ++ cs) (t ts bs b)))
