-- Why a media list doesn't hold an event of these sides.
use Rattle.std.specs.Prelude.{ℕ, Bool, cond, List, Option, Some, None}
use Rattle.std.specs.List.{list_any}
use Rattle.tick_time.specs.declared.rates.Rate.{Rate}
use Rattle.edl_frames.specs.declared.faults.ConformFault.{ConformFault}
use Rattle.edl_frames.specs.declared.faults.ConformFault.TheVariants as F
use Rattle.media_rows.specs.Rows.{MediaRows}
use Rattle.edl_frames.specs.Refused.{Use, is_unlisted, has_other_rate, is_outside}

-- the first reason that holds, for an event at a line
abbrev pub first_reason : ℕ → Bool → Bool → Bool → Option ConformFault
first_reason line unlisted other_rate outside =
    cond unlisted (Some (F.NoReel line))
    (cond other_rate (Some (F.Rate line)) (cond outside (Some (F.Outside line)) None))

-- the first test that holds of one of the sides
abbrev pub uses_fault : Rate → MediaRows → ℕ → List Use → Option ConformFault
uses_fault rate media line uses = first_reason line (list_any (is_unlisted media) uses)
    (list_any (has_other_rate rate media) uses) (list_any (is_outside rate media) uses)
