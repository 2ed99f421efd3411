-- The shelf in memory, as contracts see it.
use Rattle.std.specs.Prelude.{◌+◌, ◌-◌, ◌^◌, ◌||◌, ◌==◌, ℕ, Bool, List, Option, option_map, find, reverse, count_by, is_none, min}
use Rattle.std.specs.List.{list_any}
use Rattle.std.specs.Str.{bytes_eq}

pub record NamedBytes : Type 0 where
  pub name : List ℕ
  pub bytes : List ℕ

-- the files in the order in which they were added, the names of failed reads, the count of reads,
-- and the numbers of the reads that are to fail
pub record ShelfState : Type 0 where
  pub files : List NamedBytes
  pub failed : List (List ℕ)
  pub reads : ℕ
  pub failing : List ℕ

-- the last file of this name counts
abbrev pub content_of : ShelfState → List ℕ → Option (List ℕ)
content_of shelf name = option_map (λ file. file.bytes) (find (λ file. bytes_eq file.name name) (reverse shelf.files))

-- how often a name stands among those of failed reads
abbrev pub faults_among : List (List ℕ) → List ℕ → ℕ
faults_among failed name = count_by (λ other. bytes_eq other name) failed

-- the number of the next read; the count stops at the last value of a u64
abbrev pub next_read : ShelfState → ℕ
next_read shelf = min (shelf.reads + 1) (2 ^ 64 - 1)

-- the next read is to fail, or no file has this name
abbrev pub next_fails : ShelfState → List ℕ → Bool
next_fails shelf name = list_any (λ number. number == next_read shelf) shelf.failing || is_none (content_of shelf name)
