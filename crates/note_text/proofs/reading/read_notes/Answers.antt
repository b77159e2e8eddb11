use Rattle.std.proofs.Common.{[]}
use Rattle.std.proofs.lemmas.Result.{IfOk-weaker}
use Rattle.note_text.proofs.reading.read_notes.Goals as goal

pub returns : goal.returns
returns c =
    let rate = c.args.list.now.rate in
    IfOk-weaker c.finish.result _ _ (λ notes k. k rate c.args.bytes.now (c.in_ok-feed.ensures rate [] c.new-reader.ensures) c.requires.list) c.finish.ensures
