-- What a reader owes of a form: under every limit that lets expressions stand inside fewer than 1,024 others, and where
-- it answers that a token is deep, under the limit at 1,024 and under none.
use Rattle.std.proofs.Common.{IsTrue, List, ◌∷◌, ◌++◌, ℕ, length, refl}
use Rattle.std.specs.Prelude.{nat_lt}
use Rattle.grammar_meaning.specs.Grammar.{Form, call, maybe, Made, Front}
use Rattle.grammar_meaning.specs.Outcome.{Got, Broke}
use Rattle.grammar_path_laws.specs.Paths.{Path, Loop}
use Rattle.sql_meaning.specs.Kinds.{Kind, among}
use Rattle.sql_meaning.specs.Tokens.{placed}
use Rattle.sql_meaning.specs.Scripts.{most_levels}
use Rattle.sql_meaning.specs.Grammar.{Symbol, Tree, Parsed, Limit, grammar, unlimited, limited, full, shallow}
use Rattle.sql_meaning.specs.declared.token.Token.{Token}
use Rattle.sql_meaning.specs.declared.token.Placed.{Placed}
use Rattle.sql_text_cursor.specs.Table.{begins, after}
use Rattle.sql_text_cursor.specs.declared.refusal.Refusal.{Refusal}
use Rattle.sql_text_cursor.specs.declared.refusal.Refusal.TheVariants.{NoMemory, Deep, Syntax}

-- expressions may stand inside fewer than 1,024 others
abbrev pub Allows : Limit → Type 0
Allows c = (n : ℕ) → IsTrue (nat_lt n most_levels) → IsTrue (c n)

pub allows_full : Allows unlimited
allows_full n h = refl

pub allows_shallow : Allows limited
allows_shallow n h = h

-- the first token, and what stands behind it
pub data First : List Placed → Token → List Placed → Type 0 where
  first_is : {x : Token} {us : List Placed} (at : ℕ) → First (placed at x ∷ us) x us

-- the form reads the node up to us, and only shorter texts besides, behind which a token of the kinds stands
pub data Reading (e : List Kind) (f : Form Symbol Kind) (ts : List Placed) (n : Parsed) (us : List Placed) : Type 0 where
  reading : ((c : Limit) → Allows c → Got (grammar c) (among e) f ts n us) → Reading e f ts n us

pub got : {e : List Kind} {f : Form Symbol Kind} {ts us : List Placed} {n : Parsed} → Reading e f ts n us → (c : Limit) → Allows c → Got (grammar c) (among e) f ts n us
got (reading a) = a

-- the form goes on with a token, but not where expressions stand inside fewer than 1,024 others
pub record DeepIn (e : List Kind) (f : Form Symbol Kind) (ts : List Placed) : Type 0 where
  pub token : Placed
  pub behind : List Placed
  pub breaks : Broke shallow (among e) f ts (token ∷ behind)
  pub front : Front full f ts behind

-- what a refusal says of the tokens
pub data Fault (e : List Kind) (f : Form Symbol Kind) (ts : List Placed) : Refusal → Type 0 where
  fault_memory : Fault e f ts NoMemory
  fault_deep : DeepIn e f ts → Fault e f ts Deep
  fault_at : (us : List Placed) → ((c : Limit) → Allows c → Broke (grammar c) (among e) f ts us) → Fault e f ts (Syntax (length us))

-- f from us on is a part of g from ts on
abbrev pub Lead : List Kind → Form Symbol Kind → List Placed → List Kind → Form Symbol Kind → List Placed → Type 0
Lead e f us d g ts = (c : Limit) → Allows c → Path (grammar c) (among e) f us (among d) g ts

-- a refusal of a part is one of the whole
pub handed : {e d : List Kind} {f g : Form Symbol Kind} {ts us : List Placed} {r : Refusal} → Lead e f us d g ts → Fault e f us r → Fault d g ts r
handed p fault_memory = fault_memory
handed p (fault_deep a) = fault_deep (record { token = a.token; behind = a.behind; breaks = (p limited allows_shallow).breaks (a.token ∷ a.behind) a.breaks; front = (p unlimited allows_full).fronts a.behind a.front })
handed p (fault_at us a) = fault_at us (λ c h. (p c h).breaks us (a c h))

-- a loop over parts of f stands at us, within a text of g from ts on
abbrev pub Looping : List Kind → Form Symbol Kind → List Kind → Form Symbol Kind → List Placed → (Parsed → Parsed) → List Placed → Type 0
Looping d f e g ts tree us = (c : Limit) → Allows c → Loop (grammar c) (among d) f (among e) g ts tree us

-- the symbol reads the tree up to us
abbrev pub Gets : Symbol → List Placed → Tree → List Placed → Type 0
Gets s ts x us = Reading (after s) (call s) ts (Made x) us

abbrev pub Stops : Symbol → List Placed → Refusal → Type 0
Stops s ts r = Fault (after s) (call s) ts r

-- the symbol, or nothing
abbrev pub may_after : Symbol → List Kind
may_after s = begins s ++ after s

abbrev pub MayGet : Symbol → List Placed → Parsed → List Placed → Type 0
MayGet s ts n us = Reading (may_after s) (maybe (call s)) ts n us

abbrev pub MayStop : Symbol → List Placed → Refusal → Type 0
MayStop s ts r = Fault (may_after s) (maybe (call s)) ts r
