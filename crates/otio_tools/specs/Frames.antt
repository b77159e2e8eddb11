-- The answer to a timeline whose frames are asked for: those of one child of its root or of all,
-- from a record point on or from the first frame, and how many.
use Rattle.std.specs.Prelude.{◌≡◌, ◌≢◌, ℕ, List, Some, None}
use Rattle.std.specs.declared.option.Option.{Option}
use Rattle.otio_model.specs.declared.timelines.Timeline.{Timeline}
use Rattle.command_words.specs.declared.requests.FramesAsked.{FramesAsked}
use Rattle.coord.specs.Soundness.{IsFaultless, IsFaultOf}
use Rattle.coord.specs.declared.faults.CoordFault.{CoordFault}
use Rattle.coord.specs.declared.faults.CoordFault.TheVariants.{Memory}
use Rattle.source_files.specs.Faults.{coord_fault_text, range_text}
use Rattle.show_prog.specs.Rows.{listing_of, listing_text}
use Rattle.show_prog.specs.declared.frame_range.Listing.{Listing}
use Rattle.otio_tools.specs.Forms.{Answer, done, refused}

-- The first fault of a timeline that isn't sound, told of the file of that name; then a start that
-- is no label at the record rate; else the rows.
pub data AnswersTimeline (asked : FramesAsked) (name : List ℕ) (target : Option (List ℕ))
    (timeline : Timeline) (answer : Answer) : Type 0 where
  Unsound : (fault : CoordFault) → fault ≢ Memory → IsFaultOf timeline fault
      → answer ≡ refused name (coord_fault_text fault)
      → AnswersTimeline asked name target timeline answer
  NoLabel : IsFaultless timeline → listing_of timeline asked.child asked.start asked.count ≡ None
      → answer ≡ refused name range_text → AnswersTimeline asked name target timeline answer
  Listed : IsFaultless timeline → (listing : Listing)
      → listing_of timeline asked.child asked.start asked.count ≡ Some listing
      → answer ≡ done target (listing_text timeline listing)
      → AnswersTimeline asked name target timeline answer
