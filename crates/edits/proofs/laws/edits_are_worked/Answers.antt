use Rattle.std.proofs.Common.{refl}
use Rattle.edits.specs.Worked.{AreEdited, AreRefused, AreShown, AreTouched}
use Rattle.edits.proofs.laws.edits_are_worked.Goals as goal

lists : AreEdited
lists = record {
  over_dissolve = refl;
  over_end = refl;
  inserted = refl;
  inserted_at_cut = refl;
  sliced = refl;
  removed = refl;
  closed = refl;
  fill_source = refl;
  fill_sequence = refl;
  fill_fit = refl;
  fill_slow = refl;
  slip_on = refl;
  slip_back = refl;
  slip_still = refl;
  slip_gap = refl;
  slide = refl;
  slide_back = refl;
  ripple = refl;
  ripple_to_frame = refl;
  trim_to_media = refl;
  trim_gap_away = refl;
  trim_in = refl;
  trim_end = refl;
  roll = refl;
  roll_no_room = refl;
}

refusals : AreRefused
refusals = record {
  roll_first = refl;
  roll_tail = refl;
  slide_first = refl;
  no_item = refl;
  at_end = refl;
  last_frame = refl;
  empty = refl;
  filled = refl;
  in_gap = refl;
  fast = refl;
  too_fast = refl;
  no_speed = refl;
  whole = refl;
  half = refl;
}

shows : AreShown
shows = record {
  before = refl;
  first = refl;
  last = refl;
  behind = refl;
  moved_on = refl;
  moved_up = refl;
  blank = refl;
  slipped = refl;
  slid = refl;
  rippled = refl;
  ripple_end = refl;
  trimmed = refl;
  rolled = refl;
  roll_end = refl;
  steady = refl;
}

zones : AreTouched
zones = record {
  over_dissolve = refl;
  inside = refl;
  at_cut = refl;
  over_end = refl;
  no_zone = refl;
  item = refl;
}

pub returns : goal.returns
returns c = record { lists = lists; refusals = refusals; shows = shows; zones = zones }
