-- What a reader of notes was fed.
use Rattle.std.specs.Prelude.{◌≡◌, ◌≤◌, ℕ, List, [], length}
use Rattle.text_lines.specs.First.{HasNone}
use Rattle.text_lines.specs.Lines.{ended_lines, last_line}
use Rattle.tick_time.specs.declared.rates.Rate.{Rate}
use Rattle.limits.specs.Limits.{most_bytes}
use Rattle.edl_text.specs.Statements.{Statement}
use Rattle.edl_text.specs.Lines.{AreSound}
use Rattle.note_text.specs.StateHeard.{Hears}
use Rattle.note_text.specs.declared.hearing.NoteReader.{NoteReader}

-- The reader was fed these bytes of a list at that rate, in whatever pieces: where they are few
-- enough for a list and their lines have no fault, it keeps what they say as notes.
pub record HasHeard (rate : Rate) (bytes : List ℕ) (reader : NoteReader) : Type 0 where
  pub ended : (past : List Statement) → length bytes ≤ most_bytes
      → AreSound rate [] (ended_lines bytes) past
      → Hears rate past (ended_lines bytes) reader.hearing
  pub few : length (ended_lines bytes) ≤ length bytes
  pub held : reader.held.items ≡ last_line bytes
  pub unended : HasNone 10 reader.held.items
