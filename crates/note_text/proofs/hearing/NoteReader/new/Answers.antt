use Rattle.std.proofs.Common.{◌≡◌, [], length, sym, subst, ap, ◌∙◌, arith}
use Rattle.text_lines.specs.First.{HasNone}
use Rattle.edl_text.specs.Lines.{AreSound}
use Rattle.edl_text.proofs.Reading.{no_lines, no_last, none_in_none}
use Rattle.note_text.specs.StateHeard.{Hears}
use Rattle.note_text.proofs.hearing.NoteReader.new.Goals as goal

pub returns : goal.returns
returns c = record {
  ended = λ past small sound.
      let nothing : past ≡ [] = subst (λ l. AreSound c.args.rate [] l past) no_lines sound in
      subst (λ l. Hears c.args.rate past l c.new.result) (sym no_lines) (subst (λ p. Hears c.args.rate p [] c.new.result) (sym nothing) c.new.ensures);
  few = omega (arith, ap length no_lines);
  held = c.new-2.ensures.items ∙ sym no_last;
  unended = subst (λ l. HasNone 10 l) (sym c.new-2.ensures.items) none_in_none;
}
