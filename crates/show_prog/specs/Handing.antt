-- Texts that are handed over to a buffer, or cut short.
use Rattle.std.specs.Prelude.{◌≡◌, ℕ, ◌<◌, ◌≤◌, ◌-◌, ◌^◌, List, ◌++◌, Result, Ok, Err, length}
use Rattle.std.specs.List.{range_with_len}
use Rattle.dev_io.specs.Buffer.{Standing, Puts}
use Rattle.otio_model.specs.Counts.{count}
use Rattle.otio_model.specs.Trees.{items_of}
use Rattle.coord.specs.Soundness.{IsFaultless}
use Rattle.show_prog.specs.Clocks.{IsClockOf}
use Rattle.show_prog.specs.declared.frame_rows.Indexes.{Indexes}
use Rattle.show_prog.specs.declared.frame_rows.Selection.{Selection}

-- a part from the front of the text was handed over
pub record PutsFront (old new : Standing) (text : List ℕ) : Type 0 where
  pub front : List ℕ
  pub rest : List ℕ
  pub whole : text ≡ front ++ rest
  pub put : Puts old new front

-- all of the text was handed over, or a part from its front
abbrev pub PutsAll : {T E : Type 0} → Standing → Standing → List ℕ → Result T E → Type 0
PutsAll old new text (Ok _) = Puts old new text
PutsAll old new text (Err e) = PutsFront old new text

-- the indexes of children that follow one another
abbrev pub indexes : Indexes → List ℕ
indexes i = range_with_len i.first (i.past - i.first)

-- the timeline has no fault, the clock is its own, and the children are some of its root children
pub record IsSelection (s : Selection) : Type 0 where
  pub few : count s.timeline.now.tracks.children < 2 ^ 32
  pub sound : IsFaultless s.timeline.now
  pub clock : IsClockOf s.timeline.now s.clock
  pub ordered : s.children.first ≤ s.children.past
  pub within : s.children.past ≤ length (items_of s.timeline.now.tracks.children)
