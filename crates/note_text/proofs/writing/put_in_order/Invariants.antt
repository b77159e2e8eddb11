use Rattle.std.proofs.Common.{◌≡◌, ◌+◌, ◌≤◌, ◌<◌, ◌-◌, ℕ, length, take, slice_index_or}
use Rattle.dev_io.specs.Buffer.{standing, Puts}
use Rattle.edl_text.specs.Spelling.{text_of}
use Rattle.note_text.specs.NotedSpelling.{noted_lines_from, own_lines}
use Rattle.note_text.specs.declared.notes.Note.{Note}
use Rattle.note_text.proofs.writing.put_in_order.Given as goal

-- the events so far were handed over with their notes, numbered from 1, and the notes of those stand
-- in front
abbrev pub invariant-events : goal.invariant-events
invariant-events g l =
    let out = g.W.Out in
    record {
      next : l.number ≡ l.index + 1;
      most : l.at ≤ length l.notes;
      before : (j : ℕ) (d : Note) → j < l.at → (slice_index_or l.notes j d).event < l.index;
      behind : (j : ℕ) (d : Note) → l.at ≤ j → j < length l.notes → l.index ≤ (slice_index_or l.notes j d).event;
      put : Puts (standing out.known out.faults l.fn.out l.fn.buffer) (standing out.known out.faults l.out l.buffer) (text_of (noted_lines_from l.style.rate l.style.drop l.style.layout 0 (take l.index l.events) l.notes));
    }

-- the notes of this event so far
abbrev pub invariant-own : goal.invariant-own
invariant-own g l =
    let out = g.W.Out in
    record {
      most : l.at ≤ length l.notes;
      before : (j : ℕ) (d : Note) → j < l.at → (slice_index_or l.notes j d).event ≤ l.index;
      behind : (j : ℕ) (d : Note) → l.at ≤ j → j < length l.notes → l.index ≤ (slice_index_or l.notes j d).event;
      put : Puts (standing out.known out.faults l.initial.out l.initial.buffer) (standing out.known out.faults l.out l.buffer) (text_of (own_lines l.style.rate l.style.drop l.index (take l.at l.notes)));
    }

abbrev pub decreases-own : goal.decreases-own
decreases-own g l = length l.notes - l.at
