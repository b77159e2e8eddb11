use Rattle.std.proofs.Common.{◌≡◌, length, reverse}
use Rattle.ale_text.specs.Words.{spaceless_front}
use Rattle.ale_text.proofs.spaces.trim_back.Given as goal

abbrev pub invariant-spaces : goal.invariant-spaces
invariant-spaces l = spaceless_front (reverse l.rest) ≡ spaceless_front (reverse l.text)

abbrev pub decreases-spaces : goal.decreases-spaces
decreases-spaces l = length l.rest
