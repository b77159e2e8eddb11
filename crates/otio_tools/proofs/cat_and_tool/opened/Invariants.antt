-- The inputs so far are opened.
use Rattle.std.proofs.Common.{drop, map}
use Rattle.source_files.specs.Inputs.{input_content}
use Rattle.std.specs.Option.{option_copied}
use Rattle.std.specs.Vec.Iter.{into_iter_items}
use Rattle.otio_tools.specs.Several.{IsOpening, named_inputs, names_now}
use Rattle.otio_tools.proofs.cat_and_tool.opened.Given as goal

abbrev pub invariant-inputs : goal.invariant-inputs
invariant-inputs l =
    IsOpening (option_copied l.fn.media)
    (named_inputs (names_now l.fn.names) (map input_content l.fn.inputs.items))
    (names_now (drop l.name-index l.names)) (map input_content (into_iter_items l.rest))
    l.timelines.items
