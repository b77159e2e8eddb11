use Rattle.std.proofs.Common.{ℕ, ◌+◌, ◌≤◌, ◌++◌, List, take}
use Rattle.tick_time.specs.Tallies.{Tallies}
use Rattle.tick_time.proofs.tallies.Tally.push_all.Given as goal

abbrev pub invariant-loop-digit : goal.invariant-loop-digit
invariant-loop-digit l = record {
  read : (read : List ℕ) → Tallies l.initial.tally.digits l.initial.tally.count l.initial.tally.zeros read → Tallies l.tally.digits l.tally.count l.tally.zeros (read ++ take l.digit-index l.digits);
  behind : l.tally.zeros ≤ l.initial.tally.zeros + l.digit-index;
}
