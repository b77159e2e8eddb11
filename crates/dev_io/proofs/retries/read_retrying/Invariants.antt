use Rattle.std.specs.Io.KnownBytes.{Keeps}
use Rattle.dev_io.proofs.retries.read_retrying.Given as goal

abbrev pub invariant-tries : goal.invariant-tries
invariant-tries g l = Keeps (g.I.Read.remaining l.fn.input) (g.I.Read.remaining l.input)
