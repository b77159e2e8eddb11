-- Lemmas of the callers of the library.
use Rattle.std.proofs.Common.{◌≡◌, sym, ap, subst, ◌∙◌, ◌⊎◌, inl, inr, ℕ, List}
use Rattle.tick_time.specs.declared.rates.Rate.{Rate}
use Rattle.otio_model.specs.declared.edit_types.Edit.{Edit}
use Rattle.otio_model.specs.declared.patches.Patch.{Patch}
use Rattle.otio_model.specs.declared.timelines.Timeline.{Timeline}
use Rattle.otio_model.specs.Patches.{applied}
use Rattle.otio_model.specs.Timelines.{bare}
use Rattle.undo_log.specs.Histories.{History}
use Rattle.undo_log.specs.States.{State, committed, state_of}
use Rattle.edit_plans.specs.Planned.{ShowsThrough}
use Rattle.edit_script.proofs.Bares.{applied_bare}
use Rattle.edl_text.specs.declared.faults.EdlFault.{EdlFault}
use Rattle.edl_text.specs.declared.faults.EdlFault.TheVariants.{Memory}
use Rattle.edl_text.specs.Lists.{IsEarlyFault, IsFault}

-- what a timeline shows doesn't depend on the memory that it reserves
shows_bare : (t : Timeline) (e : Edit) (a b : Timeline) → bare a ≡ bare b → ShowsThrough t e a
    → ShowsThrough t e b
shows_bare t e a b same w =
    let plain : ShowsThrough t e (bare a) = record {
      agree = w.agree;
      equal = w.equal;
      unreached = w.unreached;
      others = w.others;
    } in
    let other : ShowsThrough t e (bare b) = subst (ShowsThrough t e) same plain in
    record {
      agree = other.agree;
      equal = other.equal;
      unreached = other.unreached;
      others = other.others;
    }

pub committed-shows : (g k : History) (t s u : Timeline) (e : Edit) (p : Patch) → bare s ≡ bare t
    → state_of k u ≡ committed p (state_of g s) → ShowsThrough t e (applied p t)
    → ShowsThrough t e u
committed-shows g k t s u e p same state w =
    let now : bare u ≡ applied p (bare s) = ap (λ (x : State). x.now) state in
    shows_bare t e (applied p t) u
    (sym (applied_bare p t) ∙ ap (applied p) (sym same) ∙ sym now) w

-- a fault that shows before the end of the bytes is one of the bytes
pub early-fault : (rate : Rate) (bytes : List ℕ) (fault : EdlFault)
    → (fault ≡ Memory) ⊎ IsEarlyFault rate bytes fault → (fault ≡ Memory) ⊎ IsFault rate bytes fault
early-fault rate bytes fault (inl e) = inl e
early-fault rate bytes fault (inr e) = inr (inl e)
