use Rattle.std.proofs.Common.{[], sym, ap, subst, ◌∙◌}
use Rattle.std.proofs.lemmas.Result.{IfOk-weaker}
use Rattle.text_lines.specs.Lines.{lines_of}
use Rattle.note_text.specs.Heard.{AreHeard}
use Rattle.note_text.specs.Belonging.{notes_said}
use Rattle.note_text.proofs.Feeding.{all_heard}
use Rattle.note_text.proofs.hearing.NoteReader.finish.Goals as goal

pub returns : goal.returns
returns c =
    let heard = c.take_line.new.self.heard.items in
    let list = c.args.list.now in
    IfOk-weaker c.notes_for.result _ _
    (λ notes are rate bytes h said. record {
      heard = heard;
      said = subst (λ r. AreHeard r [] (lines_of bytes) heard) (sym said.says.counted)
          (all_heard rate bytes c.as_slice.result.now c.args.self c.take_line.new.self said.past h c.as_slice.ensures.value c.in_ok-take_line.ensures said.small said.sound);
      are = are ∙ ap (notes_said list.rate list.events) c.as_slice-2.ensures.value;
    })
    c.notes_for.ensures
