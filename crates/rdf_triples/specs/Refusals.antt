-- Which limit a refusal of changes names.
use Rattle.std.specs.Prelude.{◌≡◌, Option, Some}
use Rattle.term_book.specs.declared.refusal.BookRefusal.{BookRefusal}
use Rattle.term_book.specs.declared.refusal.BookRefusal.TheVariants.{NoMemory as BookNoMemory, Full}
use Rattle.run_meaning.specs.declared.which.Which.{Which}
use Rattle.run_meaning.specs.declared.which.Which.TheVariants.{Terms}
use Rattle.rdf_triples.specs.declared.refusal.LoadRefusal.{LoadRefusal}
use Rattle.rdf_triples.specs.declared.refusal.LoadRefusal.TheVariants.{NoMemory, Limit}

-- the limit is the one that is passed; want of memory is free
abbrev pub Refuses : LoadRefusal → Option Which → Type 0
Refuses NoMemory passed = Unit {0}
Refuses (Limit which) passed = passed ≡ Some which

-- a dictionary that is full passes the limit on terms
abbrev pub refusal_for : BookRefusal → LoadRefusal
refusal_for BookNoMemory = NoMemory
refusal_for Full = Limit Terms
