use Rattle.std.proofs.Common.{◌≡◌, ◌-◌, ◌≤◌, length, take, Ok}
use Rattle.json_text.specs.State.Machine.{run}
use Rattle.json_text.specs.State.Stands.{state_of}
use Rattle.json_text.proofs.machine.Machine.run.Given as goal

abbrev pub invariant-loop-at : goal.invariant-loop-at
invariant-loop-at l = record {
  within : l.at ≤ length l.bytes;
  ran : run 127 (state_of l.fn.self) (take l.at l.bytes) ≡ Ok (state_of l.self);
}

abbrev pub decreases-loop-at : goal.decreases-loop-at
decreases-loop-at l = length l.bytes - l.at
