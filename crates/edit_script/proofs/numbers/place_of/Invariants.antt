use Rattle.std.proofs.Common.{◌≡◌, length}
use Rattle.edit_script.specs.Numbers.{place}
use Rattle.edit_script.proofs.PlaceLemmas.{joined}
use Rattle.edit_script.proofs.numbers.place_of.Given as goal

abbrev pub invariant-parts : goal.invariant-parts
invariant-parts l = place l.fn.word ≡ joined l.place (place l.rest)

abbrev pub decreases-parts : goal.decreases-parts
decreases-parts l = length l.rest
