-- What is read is the number whose label was written.
use Rattle.std.proofs.Common.{ℕ, ℤ, List, Ok, subst, to_z-of_z}
use Rattle.smpte_tc.specs.Modes.{mode_of}
use Rattle.smpte_tc.specs.Answers.{means_drop, ReadsAt, WritesAt}
use Rattle.smpte_tc.proofs.RoundTrip.{read_back}
use Rattle.smpte_tc.proofs.laws.read_written.Goals as goal

pub returns-in-Ok : goal.returns-in-Ok
returns-in-Ok c =
    read_back c.args.rate c.args.drop c.args.n c.in-Ok.written c.read.result
    (subst (λ (n : ℤ). WritesAt (mode_of c.args.rate c.args.drop) n (Ok c.in-Ok.written)) (to_z-of_z c.ranges.n) c.in-Ok.ensures)
    (subst (λ (bytes : List ℕ). ReadsAt (mode_of c.args.rate (means_drop bytes c.args.drop)) bytes c.read.result) c.as_slice.ensures c.read.ensures)
