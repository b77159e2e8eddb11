use Rattle.std.proofs.Common.{◌≡◌, Some, None, sym, ◌∙◌}
use Rattle.edl_text.proofs.Lateness.{unequal_by}
use Rattle.edl_text.proofs.end_of_list_faults.is_unequal.Goals as goal

pub returns-in-Some : goal.returns-in-Some
returns-in-Some c = λ u. let e : Some c.in-Some.field-0 ≡ None = sym c.in-Some.is ∙ u.no_speed in cc e

pub returns-in-None : goal.returns-in-None
returns-in-None c = unequal_by c.args.event.now c.is_even.result c.in-None.is c.is_even.ensures
