use Rattle.std.proofs.Common.{drop}
use Rattle.dev_io.specs.Buffer.{standing}
use Rattle.dev_io.proofs.Leaving.{Leaves}
use Rattle.media_text.specs.Texts.{media_text}
use Rattle.media_text.proofs.writing.put_rows.Given as goal

-- the lines of the rows that are left end the text
abbrev pub invariant-rows : goal.invariant-rows
invariant-rows g l =
    let stand = standing g.W.Out.known g.W.Out.faults in
    Leaves (stand l.fn.out l.fn.buffer) (stand l.out l.buffer) (media_text l.rows)
    (media_text (drop l.row-index l.rows))
