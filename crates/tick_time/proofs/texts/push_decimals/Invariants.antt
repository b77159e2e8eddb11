use Rattle.std.proofs.Common.{◌≡◌, ◌+◌, ◌-◌, ◌<◌, ◌≤◌, ◌++◌, length}
use Rattle.tick_time.specs.Texts.{decimals_of}
use Rattle.tick_time.proofs.texts.push_decimals.Given as goal

abbrev pub invariant-decimals : goal.invariant-decimals
invariant-decimals l = record {
  done : l.text.bytes ++ decimals_of (6 - l.counter) l.rest ≡ l.initial.text.bytes ++ decimals_of 6 l.initial.rest;
  small : l.rest < 1000000;
  room : length l.text.bytes ≤ 26 + l.counter;
}
