-- What the grammar reads, it reads with other trees too.
use Rattle.std.specs.Prelude.{List}
use Rattle.grammar_meaning.specs.Grammar.{Form, call, Node, Nil, Leaf, Pair, Made, Reads, read_nothing, read_one, read_rule, read_both, read_left, read_right, read_many}
use Rattle.sparql_grammar_meaning.specs.declared.lexeme.Lexeme.{Lexeme}
use Rattle.sparql_grammar_meaning.specs.Grammar.{Kind, Symbol}
use Rattle.sparql_walk_laws.specs.Walks.{making}

pub record ReadAgain {Y : Type 0} (build : Symbol → Node Lexeme Y → Y) (f : Form Symbol Kind) (ts us : List Lexeme) : Type 0 where
  pub node : Node Lexeme Y
  pub reads : Reads (making build) f ts node us

-- the same of a symbol
pub record MadeAgain {Y : Type 0} (build : Symbol → Node Lexeme Y → Y) (y : Symbol) (ts us : List Lexeme) : Type 0 where
  pub tree : Y
  pub reads : Reads (making build) (call y) ts (Made tree) us

module _ {X Y : Type 0} (old : Symbol → Node Lexeme X → X) (new : Symbol → Node Lexeme Y → Y) where
  again : (f : Form Symbol Kind) (ts us : List Lexeme) (n : Node Lexeme X) → Reads (making old) f ts n us → ReadAgain new f ts us
  again f ts us n read_nothing = record { node = Nil; reads = read_nothing }
  again f ts us n (read_one {t = t} h) = record { node = Leaf t; reads = read_one h }
  again f ts us n (read_rule {s = y} {n = m} r) = let x = again _ ts us m r in record { node = Made (new y x.node); reads = read_rule x.reads }
  again f ts us n (read_both {us = vs} {n = a} {m = b} q r) =
      let x = again _ ts vs a q in
      let y = again _ vs us b r in
      record { node = Pair x.node y.node; reads = read_both x.reads y.reads }
  again f ts us n (read_left r) = let x = again _ ts us n r in record { node = x.node; reads = read_left x.reads }
  again f ts us n (read_right r) = let x = again _ ts us n r in record { node = x.node; reads = read_right x.reads }
  again f ts us n (read_many r) = let x = again _ ts us n r in record { node = x.node; reads = read_many x.reads }

  pub made_again : (y : Symbol) (ts us : List Lexeme) (n : Node Lexeme X) → Reads (making old) (call y) ts n us → MadeAgain new y ts us
  made_again y ts us n (read_rule {n = m} r) = let x = again _ ts us m r in record { tree = new y x.node; reads = read_rule x.reads }
