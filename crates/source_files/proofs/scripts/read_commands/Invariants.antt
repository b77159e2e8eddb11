-- What was gathered so far was taken from the file in hand.
use Rattle.std.proofs.Common.{◌≡◌, ◌+◌, ◌-◌, length}
use Rattle.source_files.specs.declared.scripts.TheConstants.{MOST}
use Rattle.source_files.specs.Formats.{IsCalmScript}
use Rattle.source_files.specs.Following.{Follows}
use Rattle.source_files.specs.HandedFiles.{HandsOver, Took}
use Rattle.source_files.proofs.scripts.read_commands.Given as goal

abbrev pub invariant-pieces : goal.invariant-pieces
invariant-pieces g l =
    let files = g.F.Files in
    record {
      given : HandsOver (Took IsCalmScript l.bytes.items) (files.handed l.fn.files)
          (files.handed l.files);
      followed : Follows (files.known l.fn.files) (files.known l.files)
          (files.handed l.fn.files) (files.handed l.files);
      calm : files.faults l.files ≡ files.faults l.fn.files;
    }

abbrev pub decreases-pieces : goal.decreases-pieces
decreases-pieces g l = MOST + 1 - length l.bytes.items
