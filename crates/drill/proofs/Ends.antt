-- From the timeline that a drill begins with to its end.
use Rattle.std.proofs.Common.{◌≡◌, ◌<◌, ◌≤◌, ◌^◌, ◌+◌, ◌-◌, refl, ap, subst, ◌∙◌, Bool, false, ℕ, List, [], Some, arith}
use Rattle.otio_model.specs.Counts.{count as count_below}
use Rattle.otio_model.specs.Timelines.{bare}
use Rattle.otio_model.specs.declared.timelines.Timeline.{Timeline}
use Rattle.coord.specs.Soundness.{IsSound}
use Rattle.coord.proofs.SpareLemmas.{sound_bare}
use Rattle.undo_log.specs.Histories.{History}
use Rattle.undo_log.specs.States.{state_of}
use Rattle.media_rows.specs.Rows.{MediaRows}
use Rattle.media_rows.specs.declared.row.MediaRow.{MediaRow}
use Rattle.edit_script.specs.Keeping.{IsEditable}
use Rattle.edit_script.specs.Steps.{IsReady}
use Rattle.script_law.proofs.Starting.{start_editable, start_kept, start_state}
use Rattle.edl_list.specs.declared.list.EventList.{EventList}
use Rattle.edl_frames.specs.Carried.{IsListOf}
use Rattle.drill.specs.Media.{rows}
use Rattle.drill.specs.Starting.{IsStart, behind_start}
use Rattle.drill.specs.Rounds.{Drills, Round}
use Rattle.drill.specs.Rewinding.{rewound}
use Rattle.drill.specs.Turns.{round_of}
use Rattle.drill.specs.Sums.{back_sum}
use Rattle.drill.specs.Lists.{IsListed}
use Rattle.drill.specs.declared.list_outcome.Listed.{Listed}
use Rattle.drill.specs.declared.list_outcome.Listed.TheVariants as L
use Rattle.drill.specs.declared.tally.Carried.{Carried}
use Rattle.drill.specs.declared.tally.Tally.{Tally}
use Rattle.drill.specs.Told.{DrillsTo, GoesThrough, IsToldOf, begun, carried_of, track_children}

-- a timeline that can be edited, with a log of nothing
pub ready_start : (h : History) (t : Timeline) → h.past ≡ [] → h.future ≡ [] → IsEditable t
    → IsReady h t
ready_start h t e f i = record {
  kept = start_kept h t e f;
  editable = start_editable h t e f i.sound i.few;
}

pub ready_sound : (h : History) (t : Timeline) → IsReady h t → IsSound t
ready_sound h t r = sound_bare (bare t) t refl r.editable.now.sound

pub ready_few : (h : History) (t : Timeline) → IsReady h t
    → count_below t.tracks.children < 2 ^ 32
ready_few h t r = r.editable.now.few

-- the memory that a timeline keeps to spare doesn't matter for its list
pub list-kept_bare : (t : Timeline) (media : MediaRows) (drop wide : Bool) (list : EventList)
    → IsListOf t media drop wide list → IsListOf (bare t) media drop wide list
list-kept_bare t media drop wide list i = record {
  title = i.title;
  rate = i.rate;
  mode = i.mode;
  events = i.events;
  order = i.order;
  numbered = i.numbered;
}

listed_bare : (t : Timeline) (l : Listed) → IsListed t rows l → IsListed (bare t) rows l
listed_bare t (L.List events again) i = record {
  carried = i.carried;
  list = i.list;
  is = list-kept_bare t (Some rows) false false i.list i.is;
  count = i.count;
  timeline = i.timeline;
}
listed_bare t (L.No why) i = i

told_same : (t : Timeline) (c : Carried) (l : Listed) → c ≡ carried_of t l
    → c ≡ carried_of (bare t) l
told_same t c (L.List events again) e = e
told_same t c (L.No why) e = e

told_bare : (t : Timeline) (c : Carried) → IsToldOf t c → IsToldOf (bare t) c
told_bare t c i = record {
  list = i.list;
  is = listed_bare t i.list i.is;
  told = told_same t c i.list i.told;
}

-- the round before the first edit
begun_round : (seed number : ℕ) (h : History) (t : Timeline) → number ≡ behind_start seed
    → h.past ≡ [] → h.future ≡ [] → round_of number h t 0 ≡ begun seed t
begun_round seed number h t n e f = λ i. record {
  number = n i;
  state = (start_state h t e f) i;
  accepted = 0;
}

refused_few : (accepted count : ℕ) → accepted ≤ count → accepted + (count - accepted) ≡ count
refused_few accepted count few = omega (arith, few)

-- what was told of the edits, the list and the undoing
pub has_gone : (count number next : ℕ) (media : List MediaRow) (s t u : Timeline)
    (h k l : History) (a : Tally) → media ≡ rows
    → Drills (Some media) count (round_of number h s 0) (round_of next k t a.edits)
    → a.edits ≤ count → a.refused ≡ count - a.edits → a.items ≡ track_children t
    → IsToldOf t a.carried → state_of l u ≡ rewound (state_of k t) → a.back ≡ back_sum u
    → GoesThrough (round_of number h s 0) count a (state_of l u)
has_gone count number next media s t u h k l a m d few r i c w b = record {
  edited = round_of next k t a.edits;
  drills = subst (λ (x : List MediaRow). Drills (Some x) count (round_of number h s 0)
      (round_of next k t a.edits)) m d;
  rewinds = w;
  edits = refl;
  refused = ap (λ x. a.edits + x) r ∙ refused_few a.edits count few;
  items = i;
  carried = told_bare t a.carried c;
  back = b;
}

-- what was done is a drill
pub has_drilled : (seed count number : ℕ) (first u : Timeline) (h l : History) (a : Tally)
    → IsStart seed first → number ≡ behind_start seed → h.past ≡ [] → h.future ≡ []
    → GoesThrough (round_of number h first 0) count a (state_of l u)
    → DrillsTo seed count a (state_of l u)
has_drilled seed count number first u h l a s n e f g = record {
  first = first;
  starts = s;
  goes = subst (λ (x : Round). GoesThrough x count a (state_of l u))
      (begun_round seed number h first n e f) g;
}
