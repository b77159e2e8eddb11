use Rattle.std.proofs.Common.{[], refl, sym, subst, ◌∙◌, arith}
use Rattle.text_lines.specs.First.{HasNone}
use Rattle.edl_text.specs.Lines.{AreSound}
use Rattle.edl_text.proofs.Reading.{no_lines, no_last, none_in_none}
use Rattle.edl_text.proofs.reader.EdlReader.new.Goals as goal

pub returns : goal.returns
returns c = record {
  past = [];
  ended = subst (λ l. AreSound c.args.rate [] l []) (sym no_lines) refl;
  few = omega arith;
  stands = c.new.ensures;
  held = c.new-2.ensures.items ∙ sym no_last;
  unended = subst (λ l. HasNone 10 l) (sym c.new-2.ensures.items) none_in_none;
  sound = refl;
  taken = refl;
}
