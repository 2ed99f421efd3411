-- What the grammar reads, the grammar with one symbol for operands reads too, as the same tree.
use Rattle.std.specs.Prelude.{◌≡◌, List}
use Rattle.std.proofs.Common.{refl, subst}
use Rattle.grammar_meaning.specs.Grammar.{Form, nothing, call, ◌⨾◌, ◌∣◌, many, Nil, Leaf, Pair, Made, Reads, read_nothing, read_one, read_rule, read_both, read_left, read_right, read_many}
use Rattle.sparql_grammar_meaning.specs.declared.lexeme.Lexeme.{Lexeme}
use Rattle.sparql_grammar_meaning.specs.declared.lexeme.Lexeme.TheVariants as l
use Rattle.sparql_grammar_meaning.specs.declared.lexeme.Sign.TheVariants as s
use Rattle.sparql_grammar_meaning.specs.Grammar.{Kind, Symbol, Truth_, And_, Operator_, Compared_, Rel_, Prim_, Atom_, Value_, Iri_, Literal_, Fun_, Test_, rule, grammar, build, Tree, a_value, Read, value_in}
use Rattle.sparql_reading_laws.proofs.Merged.{as_value, merged}

abbrev Says : Form Symbol Kind → List Lexeme → Read → List Lexeme → Type 0
Says f ts n us = Reads merged f ts n us

-- an operand alone is a truth
alone : (ts us : List Lexeme) (x : Tree) → Says (call Atom_) ts (Made x) us → Says (call Truth_) ts (Made x) us
alone ts us x a =
    read_rule {s = Truth_} {n = Pair (Made x) Nil} (read_both (read_rule {s = And_} {n = Pair (Made x) Nil}
    (read_both (read_rule {s = Rel_} {n = Pair (Made x) Nil} (read_left (read_both a (read_right read_nothing)))) (read_many (read_right read_nothing)))) (read_many (read_right read_nothing)))

-- a value is an operand
operand_of : (ts us : List Lexeme) (n : Read) → Says (rule Value_) ts n us → Says (call Atom_) ts (Made (a_value (value_in n))) us
operand_of ts us n (read_left (read_one {t = x} h)) = read_rule {s = Atom_} {n = Leaf x} (read_left (read_one h))
operand_of ts us n (read_right (read_left (read_rule {s = Iri_} {n = m} r))) = read_rule {s = Atom_} {n = n} (read_right (read_left (read_rule r)))
operand_of ts us n (read_right (read_right (read_left (read_rule {s = Literal_} {n = m} r)))) = read_rule {s = Atom_} {n = n} (read_right (read_right (read_left (read_rule r))))
operand_of ts us n (read_right (read_right (read_right (read_left (read_rule {s = Fun_} (read_both f (read_both o (read_both x c)))))))) =
    read_rule {s = Atom_} {n = n} (read_right (read_right (read_right (read_left (read_rule (read_both f (read_both o (read_both x c))))))))
operand_of ts us n (read_right (read_right (read_right (read_right (read_both {us = vs} {n = o} a (read_both {us = ws} {m = c} (read_rule {s = Value_} {n = m} r) b)))))) =
    read_rule {s = Atom_} {n = Pair o (Pair (Made (a_value (value_in m))) c)}
    (read_right (read_right (read_right (read_right (read_right (read_both a (read_both (alone vs ws (a_value (value_in m)) (operand_of vs ws m r)) b)))))))

-- ---- the symbols that are one symbol there

by_relation : (ts us : List Lexeme) (n : Read) → Says (rule Rel_) ts n us → Says (call Rel_) ts (Made (build Rel_ n)) us
by_relation ts us n (read_left (read_rule {s = Compared_} {n = m} r)) = read_rule {s = Rel_} {n = m} r
by_relation ts us n (read_right (read_rule {s = Prim_} {n = m} r)) = read_rule {s = Rel_} {n = m} r

by_compared : (ts us : List Lexeme) (n : Read) → Says (rule Compared_) ts n us → Says (call Compared_) ts (Made (build Compared_ n)) us
by_compared ts us n (read_both {us = vs} (read_rule {s = Value_} {n = m} r) (read_left (read_rule {s = Operator_} {n = k} b))) =
    read_rule {s = Compared_} {n = n} (read_left (read_both (operand_of ts vs m r) (read_left (read_rule b))))
by_compared ts us n (read_both {us = vs} (read_rule {s = Value_} {n = m} r) (read_right read_nothing)) =
    read_rule {s = Compared_} {n = n} (read_left (read_both (operand_of ts vs m r) (read_right read_nothing)))

by_primary : (ts us : List Lexeme) (n : Read) → Says (rule Prim_) ts n us → Says (call Prim_) ts (Made (build Prim_ n)) us
by_primary ts us n (read_left (read_both (read_one {t = x} h) (read_left a))) = read_rule {s = Prim_} {n = n} (read_right (read_both (read_one h) a))
by_primary ts us n (read_left (read_both {us = vs} (read_one {t = x} h) (read_right (read_rule {s = Value_} {n = m} r)))) =
    read_rule {s = Prim_} {n = n} (read_right (read_both (read_one h) (operand_of vs us m r)))
by_primary ts us n (read_right (read_rule {s = Atom_} {n = m} r)) = read_rule {s = Prim_} {n = Pair n Nil} (read_left (read_both (read_rule r) (read_right read_nothing)))

-- a test is no IRI and no literal
unchanged : (n : Read) → as_value (build Test_ n) ≡ build Test_ n
unchanged (Pair (Leaf (l.Sign s.Bound)) (Pair opening (Pair x close))) = refl
unchanged (Pair w (Pair opening (Pair x (Pair comma (Pair y close))))) = refl
unchanged (Pair w (Pair opening (Pair x close))) = refl
unchanged n = refl

by_test : (ts us : List Lexeme) (n : Read) → Says (rule Test_) ts n us → Says (call Atom_) ts (Made (build Test_ n)) us
by_test ts us n r =
    subst (λ (z : Tree). Says (call Atom_) ts (Made z) us) (unchanged n)
    (read_rule {s = Atom_} {n = Made (build Test_ n)} (read_right (read_right (read_right (read_right (read_left (read_rule r)))))))

by_atom : (ts us : List Lexeme) (n : Read) → Says (rule Atom_) ts n us → Says (call Atom_) ts (Made (build Atom_ n)) us
by_atom ts us n (read_left (read_both a (read_both (read_rule {s = Truth_} r) b))) = read_rule {s = Atom_} {n = n} (read_right (read_right (read_right (read_right (read_right (read_both a (read_both (read_rule r) b)))))))
by_atom ts us n (read_right (read_rule {s = Test_} {n = m} r)) = by_test ts us m r

called : (x : Symbol) (ts us : List Lexeme) (n : Read) → Says (rule x) ts n us → Says (call x) ts (Made (build x n)) us
called Rel_ ts us n r = by_relation ts us n r
called Compared_ ts us n r = by_compared ts us n r
called Prim_ ts us n r = by_primary ts us n r
called Atom_ ts us n r = by_atom ts us n r
called x ts us n r = read_rule r

pub reads_merged : (f : Form Symbol Kind) (ts us : List Lexeme) (n : Read) → Reads grammar f ts n us → Says f ts n us
reads_merged f ts us n read_nothing = read_nothing
reads_merged f ts us n (read_one h) = read_one h
reads_merged f ts us n (read_rule {s = x} {n = m} r) = called x ts us m (reads_merged (rule x) ts us m r)
reads_merged f ts us n (read_both {f = f'} {g = g} {us = ws} {n = m} {m = m'} a b) = read_both (reads_merged f' ts ws m a) (reads_merged g ws us m' b)
reads_merged f ts us n (read_left {f = f'} a) = read_left (reads_merged f' ts us n a)
reads_merged f ts us n (read_right {g = g} a) = read_right (reads_merged g ts us n a)
reads_merged f ts us n (read_many {f = f'} a) = read_many (reads_merged ((f' ⨾ many f') ∣ nothing) ts us n a)
