-- The files so far were read, and hold the inputs so far.
use Rattle.std.proofs.Common.{◌≡◌, map, take}
use Rattle.source_files.specs.Order.{EachIs}
use Rattle.source_files.specs.Formats.{Suits}
use Rattle.source_files.specs.Following.{Follows}
use Rattle.source_files.specs.HandedFiles.{HandsOver, GivesAll}
use Rattle.source_files.specs.Reading.{Source}
use Rattle.source_files.specs.Inputs.{input_content, input_source}
use Rattle.source_files.specs.Contents.{Content}
use Rattle.source_files.proofs.read_files.input_files.Given as goal

abbrev pub invariant-sources : goal.invariant-sources
invariant-sources g l =
    let files = g.F.Files in
    let done = map input_source (take l.source-index l.sources) in
    let held = map input_content l.inputs.items in
    record {
      suits : EachIs (λ (source : Source) (content : Content). Suits source.kind content) done
          held;
      given : HandsOver (GivesAll done held) (files.handed l.fn.files)
          (files.handed l.files);
      followed : Follows (files.known l.fn.files) (files.known l.files)
          (files.handed l.fn.files) (files.handed l.files);
      calm : files.faults l.files ≡ files.faults l.fn.files;
    }
