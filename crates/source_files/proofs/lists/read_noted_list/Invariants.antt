-- What was fed so far, to both readers, was taken from the file in hand.
use Rattle.std.proofs.Common.{◌≡◌, ◌+◌, ◌-◌, ◌≤◌, ℕ, List, length}
use Rattle.edl_text.specs.Reader.{HasRead}
use Rattle.note_text.specs.Reader.{HasHeard}
use Rattle.source_files.specs.declared.lists.TheConstants.{MOST}
use Rattle.source_files.specs.Formats.{IsCalmList}
use Rattle.source_files.specs.Following.{Follows}
use Rattle.source_files.specs.HandedFiles.{HandsOver, Took}
use Rattle.source_files.proofs.lists.read_noted_list.Given as goal

abbrev pub invariant-pieces : goal.invariant-pieces
invariant-pieces g l =
    let files = g.F.Files in
    record {
      fed : (bytes : List ℕ) × HasRead l.fn.rate bytes l.reader
          × HasHeard l.fn.rate bytes l.listener × (length bytes ≡ l.taken)
          × (length bytes ≤ MOST)
          × HandsOver (Took (IsCalmList l.fn.rate) bytes) (files.handed l.fn.files)
          (files.handed l.files);
      followed : Follows (files.known l.fn.files) (files.known l.files)
          (files.handed l.fn.files) (files.handed l.files);
      calm : files.faults l.files ≡ files.faults l.fn.files;
    }

abbrev pub decreases-pieces : goal.decreases-pieces
decreases-pieces g l = MOST + 1 - l.taken
