-- The inputs so far.
use Rattle.std.proofs.Common.{◌≡◌, map, take}
use Rattle.source_files.specs.Inputs.{input_source}
use Rattle.otio_tools.specs.Asked.{input_named}
use Rattle.otio_tools.specs.Several.{names_now}
use Rattle.otio_tools.proofs.cat_and_tool.sources_of.Given as goal

abbrev pub invariant-names : goal.invariant-names
invariant-names l =
    map input_source l.sources.items
    ≡ map (input_named l.fn.command) (names_now (take l.name-index l.names))
