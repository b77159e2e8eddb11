use Rattle.std.proofs.Common.{◌≡◌, length}
use Rattle.ale_text.specs.Words.{spaceless_front}
use Rattle.ale_text.proofs.spaces.trim_front.Given as goal

abbrev pub invariant-spaces : goal.invariant-spaces
invariant-spaces l = spaceless_front l.rest ≡ spaceless_front l.text

abbrev pub decreases-spaces : goal.decreases-spaces
decreases-spaces l = length l.rest
