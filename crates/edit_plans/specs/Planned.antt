-- What a plan of an edit is, and what its timeline shows.
use Rattle.std.specs.Prelude.{◌≡◌, ◌≢◌, ℕ, ◌+◌, ◌≤◌, ℤ, Bool, true, false, List, Option, Some, None, length}
use Rattle.std.specs.Prelude.{drop, slice_get}
use Rattle.tick_time.specs.declared.spans.Span.{Span}
use Rattle.otio_model.specs.declared.compositions.ItemOf.{ItemOf}
use Rattle.otio_model.specs.declared.compositions.Listed.{Listed}
use Rattle.otio_model.specs.declared.timelines.Timeline.{Timeline}
use Rattle.otio_model.specs.declared.patches.Patch.{Patch}
use Rattle.otio_model.specs.declared.edit_types.Edit.{Edit}
use Rattle.otio_model.specs.declared.edit_types.Edit.TheVariants as A
use Rattle.otio_model.specs.Edits.{replaced}
use Rattle.otio_model.specs.Patches.{IsFit, applied, comes, goes}
use Rattle.otio_model.specs.Retimed.{retimed}
use Rattle.coord.specs.Agreement.{Agree}
use Rattle.coord.specs.Programs.{at}
use Rattle.coord.specs.Soundness.{IsSound}
use Rattle.edits.specs.Children.{all_made}
use Rattle.edits.specs.After.{frame_of, list_of, place_of, rate_of}
use Rattle.edits.specs.Edits.{edited}
use Rattle.edits.specs.Refusals.{IsAfter, early_fault}
use Rattle.edits.specs.Steady.{are_steady}
use Rattle.edits.specs.Zones.{touches}
use Rattle.edits_law.specs.Down.{down}
use Rattle.edits_law.specs.Editable.{HasEditItem}
use Rattle.edits_law.specs.Kept.{KeepsLength}
use Rattle.edits_law.specs.Through.{through}
use Rattle.edit_plans.specs.Retimings.{KeepsUnranged}

-- the five edits of lists, and not those of edges
abbrev pub is_list_edit : Edit → Bool
is_list_edit (A.Overwrite place at x) = true
is_list_edit (A.Insert place at x) = true
is_list_edit (A.Slice place at) = true
is_list_edit (A.Fill place at mode x) = true
is_list_edit (A.Remove place at mode) = true
is_list_edit (A.Trim place at head tail) = false
is_list_edit (A.Slip place at by) = false
is_list_edit (A.Slide place at by) = false
is_list_edit (A.Ripple place at head tail) = false
is_list_edit (A.Roll place at head tail) = false

-- No test up to that of pinned lengths refuses the edit, which is one of the track at the place.
-- Its list is the old one with these items in place of so many children, from one on: few more
-- than the edit touches, and few more come.
pub record IsMiddle (t : Timeline) (e : Edit) (place : List ℕ) (at count : ℕ)
    (put : List (ItemOf Listed)) : Type 0 where
  pub there : place_of e ≡ place
  pub item : HasEditItem e
  pub early : early_fault t e ≡ None
  pub within : at + count ≤ length (list_of t e)
  pub made : all_made (rate_of t) (edited (frame_of t) e (list_of t e))
      ≡ Some (replaced at count put (list_of t e))
  pub few_out : count ≤ touches (frame_of t) e (list_of t e) + 2
  pub few_in : length put ≤ touches (frame_of t) e (list_of t e) + 4

-- The same of an edit that gives children from one on these source ranges, and changes nothing
-- else. One that gets none has none.
pub record IsRetiming (t : Timeline) (e : Edit) (place : List ℕ) (at : ℕ)
    (ranges : List (Option Span)) : Type 0 where
  pub there : place_of e ≡ place
  pub item : HasEditItem e
  pub early : early_fault t e ≡ None
  pub within : at + length ranges ≤ length (list_of t e)
  pub made : all_made (rate_of t) (edited (frame_of t) e (list_of t e))
      ≡ Some (retimed at ranges (list_of t e))
  pub kept : KeepsUnranged ranges (drop at (list_of t e))
  pub few : length ranges ≤ touches (frame_of t) e (list_of t e) + 2

-- The patch fits and gives the timeline after the edit, which is sound. It takes out few children
-- more than the edit touches, and puts in few more.
pub record IsPlan (t : Timeline) (e : Edit) (p : Patch) : Type 0 where
  pub fit : IsFit p t
  pub after : IsAfter t e (applied p t)
  pub sound : IsSound (applied p t)
  pub few_out : goes p.put ≤ touches (frame_of t) e (list_of t e) + 2
  pub few_in : comes p.put ≤ touches (frame_of t) e (list_of t e) + 4

-- Each root child shows at each instant what agrees with the edit's law, reckoned through the old
-- timeline, and equals it where the edit is steady. Where the track's length is kept, the root
-- child that holds it shows what it did wherever the track isn't reached, and each other root child
-- always does.
pub record ShowsThrough (t : Timeline) (e : Edit) (new : Timeline) : Type 0 where
  pub agree : (k : ℕ) (u : ℤ) → Agree (at new k u) (through t e k u)
  pub equal : are_steady (edited (frame_of t) e (list_of t e)) ≡ true
      → (k : ℕ) (u : ℤ) → at new k u ≡ through t e k u
  pub unreached : KeepsLength t e new → (k : ℕ) (u : ℤ) → slice_get (place_of e) 0 ≡ Some k
      → down t (place_of e) u ≡ None → at new k u ≡ at t k u
  pub others : (k : ℕ) (u : ℤ) → slice_get (place_of e) 0 ≢ Some k → at new k u ≡ at t k u
