-- What the calls of a device gave and took so far.
use Rattle.std.specs.Prelude.{List, [], None}
use Rattle.dev_io.specs.Known.{KnownOut}
use Rattle.dev_io.specs.Handed.{Handed}

pub record Past : Type 0 where
  -- what each call of files gave, in their order
  pub handed : List Handed
  -- where a stream was directed, and the bytes that it took
  pub taken : KnownOut

-- no call was made
abbrev pub no_past : Past
no_past = record { handed = []; taken = record { target = None; sent = [] } }
