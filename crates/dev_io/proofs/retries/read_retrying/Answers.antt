use Rattle.std.proofs.KnownBytes.{Keeps-refl, Keeps-trans}
use Rattle.dev_io.proofs.Reading.{Keeps-reads}
use Rattle.dev_io.proofs.retries.read_retrying.Goals as goal

-- src/retries.rt:20:5
pub tries-init : goal.tries-init
tries-init g c = Keeps-refl (g.I.Read.remaining c.args.input.now)

-- src/retries.rt:23:23
pub returns-in_default-clause-bytes : goal.returns-in_default-clause-bytes
returns-in_default-clause-bytes g c = Keeps-trans _ _ _ c.tries.invariant c.in-Err.ensures.bytes

-- src/retries.rt:23:23
pub returns-in_default-2-clause-bytes : goal.returns-in_default-2-clause-bytes
returns-in_default-2-clause-bytes g c = Keeps-reads _ _ _ _ _ c.tries.invariant c.read.ensures.bytes

-- src/retries.rt:20:5
pub tries-preserved : goal.tries-preserved
tries-preserved g c = Keeps-trans _ _ _ c.tries.invariant c.in-Err.ensures.bytes

-- src/retries.rt:16:1
pub returns-clause-bytes : goal.returns-clause-bytes
returns-clause-bytes g c = Keeps-reads _ _ _ _ _ c.tries.invariant c.read-2.ensures.bytes
