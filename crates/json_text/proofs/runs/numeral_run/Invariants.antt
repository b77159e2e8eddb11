use Rattle.std.proofs.Common.{◌≡◌, take, Some}
use Rattle.json_text.specs.State.Runs.{place_behind}
use Rattle.json_text.proofs.runs.numeral_run.Given as goal

abbrev pub invariant-loop-index : goal.invariant-loop-index
invariant-loop-index l = place_behind (Some l.fn.place) (take l.index l.bytes) ≡ Some l.last
