-- The lines of the spans that are left end the text.
use Rattle.std.proofs.Common.{drop}
use Rattle.dev_io.specs.Buffer.{standing}
use Rattle.dev_io.proofs.Leaving.{Leaves}
use Rattle.pull_list.specs.Lines.{stretches_text}
use Rattle.pull_list.specs.Pulled.{stretches_of}
use Rattle.pull_list.proofs.lines.put_spans.Given as goal

abbrev pub invariant-spans : goal.invariant-spans
invariant-spans g l =
    let stand = standing g.W.Out.known g.W.Out.faults in
    Leaves (stand l.fn.out l.fn.buffer) (stand l.out l.buffer)
    (stretches_text (stretches_of l.spans))
    (stretches_text (stretches_of (drop l.span-index l.spans)))
