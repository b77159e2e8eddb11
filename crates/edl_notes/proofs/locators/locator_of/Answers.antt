use Rattle.std.proofs.Common.{sym, subst, w64}
use Rattle.std.proofs.lemmas.Int.{to_z-of_z}
use Rattle.note_text.specs.Found.{IsColorOf}
use Rattle.edl_notes.proofs.FoundSteps.{says_mark}
use Rattle.edl_notes.proofs.locators.locator_of.Goals as goal

pub returns : goal.returns
returns c = λ event rate h.
    rw (to_z-of_z w64 c.args.at c.ranges.at)
    (says_mark rate event c.args.mark.now c.args.at c.in_ok-of.field-0 c.in_ok-cleaned_text.field-0
    (subst (IsColorOf c.args.mark.now) (sym c.in_ok-of.ensures) c.color_in.ensures) c.in_ok-cleaned_text.ensures h)
