use Rattle.std.proofs.Common.{◌≡◌}
use Rattle.dev_io.proofs.real.RealOut.write_some.Given as goal

abbrev pub invariant-tries : goal.invariant-tries
invariant-tries g l =
    (l.self.faults ≡ l.fn.self.faults)
    × (l.self.kept.past.taken ≡ l.fn.self.kept.past.taken)
