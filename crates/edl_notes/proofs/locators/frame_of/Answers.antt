use Rattle.std.proofs.Common.{◌≡◌, ◌∙◌, sym, ap, option_map, Some, unsigned_abs, FitsSigned, arith, rules}
use Rattle.std.specs.Int.{w128}
use Rattle.std.proofs.lemmas.Int.{ints, to_z-of_z}
use Rattle.note_text.specs.Belonging.{first_shown}
use Rattle.edl_notes.proofs.FoundSteps.{shown_at}
use Rattle.edl_notes.proofs.locators.frame_of.Goals as goal

pub overflow_cast-result : goal.overflow_cast-result
overflow_cast-result c =
    let s = shown_at c.args.rate c.args.event.now _ c.in-Some-frames_to.k c.requires.timecode c.requires.event c.in-Some-frames_to.ensures in
    let few = s.few in
    omega (arith, ints, few, c.unsigned_abs.ensures.value)

pub overflow_add-result : goal.overflow_add-result
overflow_add-result c =
    let s = shown_at c.args.rate c.args.event.now _ c.in-Some-frames_to.k c.requires.timecode c.requires.event c.in-Some-frames_to.ensures in
    let few = s.few in let begins = s.begins in let high = s.high in
    omega (arith, ints, few, begins, high, c.unsigned_abs.ensures.value)

pub returns-in-Some-frames_to : goal.returns-in-Some-frames_to
returns-in-Some-frames_to c =
    let s = shown_at c.args.rate c.args.event.now _ c.in-Some-frames_to.k c.requires.timecode c.requires.event c.in-Some-frames_to.ensures in
    let few = s.few in let begins = s.begins in let high = s.high in
    let fits : FitsSigned w128 c.floor_frame.result = search rules in
    let h : Some (unsigned_abs c.in-Some-frames_to.k) ≡ first_shown c.args.rate c.args.event.now c.floor_frame.result = simp to_z-of_z at c.in-Some-frames_to.ensures in
    record {
      v = c.floor_frame.result;
      k = unsigned_abs c.in-Some-frames_to.k;
      marked = ap (option_map _) c.in-Some.is ∙ ap (λ z. Some z) (sym c.floor_frame.ensures);
      first = sym h;
      is = omega (arith, ints, few, begins, high, c.unsigned_abs.ensures.value);
    }
