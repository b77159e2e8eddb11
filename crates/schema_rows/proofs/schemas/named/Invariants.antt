-- None of the schemas so far has the name.
use Rattle.std.proofs.Common.{◌≡◌, drop}
use Rattle.schema_rows.specs.Schemas.{named}
use Rattle.schema_rows.proofs.schemas.named.Given as goal

abbrev pub invariant-loop-schema : goal.invariant-loop-schema
invariant-loop-schema l = named l.name l.family ≡ named l.name (drop l.schema-index l.family)
