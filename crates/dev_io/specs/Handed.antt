-- What the calls of a device of files gave, one after another.
use Rattle.std.specs.Prelude.{ℕ, List, take, Result, Ok, Err}
use Rattle.dev_io.specs.declared.files.Opened.{Opened}
use Rattle.dev_io.specs.declared.files.Opened.TheVariants as opened

-- What one call gave: a file of that name was found, is absent, or opening it failed; a read gave
-- these bytes, none at the end, or it failed.
pub data Handed : Type 0 where
  Found : (name : List ℕ) → Handed
  Missing : (name : List ℕ) → Handed
  Unopened : (name : List ℕ) → Handed
  Gave : (bytes : List ℕ) → Handed
  Broke : Handed

-- what opening a name gave
abbrev pub opened_as : List ℕ → Opened → Handed
opened_as name opened.Found = Found name
opened_as name opened.Absent = Missing name
opened_as name opened.Failed = Unopened name

-- what a read into a buffer gave
abbrev pub read_as : {E : Type 0} → Result ℕ E → List ℕ → Handed
read_as (Ok n) buf = Gave (take n buf)
read_as (Err e) buf = Broke
