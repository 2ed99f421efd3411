use Rattle.std.proofs.Common.{◌≡◌, ◌+◌, ◌/◌, ◌%◌, ◌++◌, ◌∷◌, [], IfOk, ℕ, List, subst, ap, ap₂, ◌∙◌, arith}
use Rattle.std.proofs.lemmas.Fmt.{decimal_digit}
use Rattle.sql_gen_steps.proofs.names.two_digits.Goals as goal

-- a number below 10 is one digit
pub returns : goal.returns
returns c =
    let tens = decimal_digit (c.args.number / 10) (omega arith) in
    let units = decimal_digit (c.args.number % 10) (omega arith) in
    let made : c.as_str.result.now ≡ c.args.letter.now ++ (48 + c.args.number / 10) ∷ (48 + c.args.number % 10) ∷ [] =
    c.as_str.ensures.value ∙ c.in_ok-text.ensures.ok ∙ ap (λ (xs : List ℕ). c.args.letter.now ++ xs) (ap₂ (λ (xs ys : List ℕ). xs ++ ys) tens units) in
    subst (λ (xs : List ℕ). IfOk c.text_of.result (λ text. text ≡ xs)) made c.text_of.ensures
