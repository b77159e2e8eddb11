use Rattle.drill.specs.Making.{AreMade}
use Rattle.drill.proofs.clips.clips.Given as goal

abbrev pub invariant-clips : goal.invariant-clips
invariant-clips l =
    AreMade l.count l.index l.fn.random.state l.random.state l.made.items
