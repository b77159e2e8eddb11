use Rattle.std.proofs.Common.{◌≡◌, ◌≤◌, List, ◌++◌, ℕ, length}
use Rattle.dev_io.specs.Calls.{Tells, Adds}
use Rattle.dev_io.proofs.output.write_all.Given as goal

-- some front was sent, and the bytes are that front and the rest
abbrev pub invariant-loop-rest : goal.invariant-loop-rest
invariant-loop-rest g l =
    let out = g.W.Out in
    record {
      later : out.faults l.fn.out ≤ out.faults l.out;
      sent : (front : List ℕ) × (l.bytes ≡ front ++ l.rest) × Tells (Adds front) (out.known l.fn.out) (out.known l.out);
    }

abbrev pub decreases-loop-rest : goal.decreases-loop-rest
decreases-loop-rest g l = length l.rest
