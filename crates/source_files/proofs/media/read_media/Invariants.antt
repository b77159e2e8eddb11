-- What was fed so far was taken from the file in hand.
use Rattle.std.proofs.Common.{◌≡◌, ◌+◌, ◌-◌, ◌≤◌, ℕ, List, length}
use Rattle.source_files.specs.declared.media.TheConstants.{MOST}
use Rattle.source_files.specs.Formats.{IsCalmMedia}
use Rattle.source_files.specs.Following.{Follows}
use Rattle.source_files.specs.HandedFiles.{HandsOver, Took}
use Rattle.source_files.proofs.media.read_media.Given as goal

abbrev pub invariant-pieces : goal.invariant-pieces
invariant-pieces g l =
    let files = g.F.Files in
    record {
      fed : (bytes : List ℕ) × (bytes ≡ l.reader) × (length bytes ≡ l.taken)
          × (length bytes ≤ MOST)
          × HandsOver (Took IsCalmMedia bytes) (files.handed l.fn.files) (files.handed l.files);
      followed : Follows (files.known l.fn.files) (files.known l.files)
          (files.handed l.fn.files) (files.handed l.files);
      calm : files.faults l.files ≡ files.faults l.fn.files;
    }

abbrev pub decreases-pieces : goal.decreases-pieces
decreases-pieces g l = MOST + 1 - l.taken
