-- What the steps of the reader come to together.
use Rattle.std.proofs.Common.{ℕ, ◌≡◌, ◌≤◌, List, length, take, Option, None, Some, Ok, sym, ap, subst, ◌∙◌}
use Rattle.std.specs.Option.{option_map}
use Rattle.query_meaning.specs.declared.query.Syntax.{Syntax}
use Rattle.sparql_meaning.specs.declared.token.Token.{Token}
use Rattle.sparql_meaning.specs.Cut.{cut}
use Rattle.sparql_grammar_meaning.specs.declared.lexeme.Lexeme.{Lexeme}
use Rattle.sparql_grammar_meaning.specs.Grammar.{Query_, a_query, Written, Tree}
use Rattle.sparql_query_meaning.specs.declared.refusal.QueryRefusal.{QueryRefusal}
use Rattle.sparql_query_meaning.specs.Lexemes.{lexemes, names}
use Rattle.sparql_query_meaning.specs.Limits.{first_fault}
use Rattle.sparql_query_meaning.specs.Queries.{most_bytes, syntax_of, faulty_at}
use Rattle.sparql_cursor.specs.Outcomes.{IsText, Rejects}
use Rattle.sparql_cursor.specs.declared.refusal.Refusal.{Refusal}
use Rattle.sparql_cursor.specs.declared.refusal.Refusal.TheVariants as inner
use Rattle.sparql_faults.specs.declared.faults.FaultAt.{FaultAt}
use Rattle.sparql_faults.specs.Faults.{fault_of, fault_at_of}
use Rattle.sparql_refusals.specs.Outcomes.{read_front, refusal_by, ReadsTokens, Refuses, read_whole, read_faulty, read_broken}

no_fault : (ts : List Token) (o : Option FaultAt) → option_map fault_at_of o ≡ first_fault ts → o ≡ None → first_fault ts ≡ None
no_fault ts o f e = sym f ∙ ap (λ (z : Option FaultAt). option_map fault_at_of z) e

a_fault : (ts : List Token) (o : Option FaultAt) (p : FaultAt) → option_map fault_at_of o ≡ first_fault ts → o ≡ Some p → first_fault ts ≡ Some (fault_at_of p)
a_fault ts o p f e = sym f ∙ ap (λ (z : Option FaultAt). option_map fault_at_of z) e

-- the lexemes of so many tokens at the front
front_is : (ts : List Token) (n m : ℕ) (xs zs : List Lexeme) → n ≡ read_front ts → xs ≡ lexemes (take m ts) → zs ≡ xs → m ≡ n → zs ≡ lexemes (take (read_front ts) ts)
front_is ts n m xs zs b x i d = i ∙ x ∙ ap (λ (z : ℕ). lexemes (take z ts)) (d ∙ b)

pub tokens_read : (ts : List Token) (o : Option FaultAt) (n m : ℕ) (xs zs : List Lexeme) (ns : List (List ℕ)) (w : Written) (s : Syntax) → option_map fault_at_of o ≡ first_fault ts → o ≡ None → n ≡ read_front ts → xs ≡ lexemes (take m ts)
    → ns ≡ names (take m ts) → zs ≡ xs → IsText Query_ zs (a_query w) → s ≡ syntax_of ns w → m ≡ n → ReadsTokens ts s
tokens_read ts o n m xs zs ns w s f e b x k i t a d =
    read_whole ts zs ns w s (no_fault ts o f e) (front_is ts n m xs zs b x i d) (k ∙ ap (λ (z : ℕ). names (take z ts)) (d ∙ b)) t a

pub tokens_faulty : (bytes : List ℕ) (ts : List Token) (o : Option FaultAt) (p : FaultAt) (n m : ℕ) (xs zs : List Lexeme) (w : Tree) (r : QueryRefusal) → length bytes ≤ most_bytes → cut bytes ≡ Ok ts
    → option_map fault_at_of o ≡ first_fault ts → o ≡ Some p → n ≡ read_front ts → xs ≡ lexemes (take m ts) → zs ≡ xs → IsText Query_ zs w → r ≡ faulty_at bytes ts (fault_at_of p) (fault_of p.fault) → m ≡ n → Refuses bytes r
tokens_faulty bytes ts o p n m xs zs w r l c f e b x i t a d =
    subst (λ (z : QueryRefusal). Refuses bytes z) (sym a) (read_faulty bytes ts (fault_at_of p) zs w l c (a_fault ts o p f e) (front_is ts n m xs zs b x i d) t)

pub tokens_broken : (bytes : List ℕ) (ts : List Token) (o : Option FaultAt) (n m left k : ℕ) (xs zs : List Lexeme) (e : Refusal) (r : QueryRefusal) → length bytes ≤ most_bytes → cut bytes ≡ Ok ts → option_map fault_at_of o ≡ first_fault ts
    → n ≡ read_front ts → xs ≡ lexemes (take m ts) → zs ≡ xs → Rejects Query_ zs e → e ≡ inner.Syntax left → k ≡ left → r ≡ refusal_by bytes ts n k (option_map fault_at_of o) → m ≡ n → Refuses bytes r
tokens_broken bytes ts o n m left k xs zs e r l c f b x i t is j a d =
    let broken : Rejects Query_ zs (inner.Syntax left) = subst (λ (z : Refusal). Rejects Query_ zs z) is t in
    let same : r ≡ refusal_by bytes ts (read_front ts) left (option_map fault_at_of o) =
    a ∙ ap (λ (z : ℕ). refusal_by bytes ts z k (option_map fault_at_of o)) b ∙ ap (λ (z : ℕ). refusal_by bytes ts (read_front ts) z (option_map fault_at_of o)) j in
    subst (λ (z : QueryRefusal). Refuses bytes z) (sym same) (read_broken bytes ts (option_map fault_at_of o) zs left l c f (front_is ts n m xs zs b x i d) broken)
