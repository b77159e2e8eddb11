-- The name and those so far.
use Rattle.std.proofs.Common.{◌≡◌, ◌∷◌, take}
use Rattle.otio_tools.specs.Several.{names_now}
use Rattle.otio_tools.proofs.cat_and_tool.names_of.Given as goal

abbrev pub invariant-more : goal.invariant-more
invariant-more l =
    names_now l.names.items ≡ l.name ∷ names_now (take l.other-index l.more)
