use Rattle.std.proofs.Common.{refl, sym, subst}
use Rattle.note_text.specs.Forms.{IsColor}
use Rattle.edl_notes.proofs.FoundSteps.{own_color, not_own, no_color}
use Rattle.edl_notes.proofs.locators.color_in.Goals as goal

pub returns-then-is_color : goal.returns-then-is_color
returns-then-is_color c = own_color c.args.mark.now c.in-Some.color.now (sym c.in-Some.ensures) (subst IsColor c.as_bytes.ensures.value (c.if-is_color.ensures.0 refl))

pub returns-else-is_color : goal.returns-else-is_color
returns-else-is_color c = not_own c.args.mark.now c.in-Some.color.now (sym c.in-Some.ensures) (λ h. let f = c.if-is_color.ensures.1 (subst IsColor (sym c.as_bytes.ensures.value) h) in absurd (cc f))

pub returns-in-None : goal.returns-in-None
returns-in-None c = no_color c.args.mark.now (sym c.in-None.ensures)
