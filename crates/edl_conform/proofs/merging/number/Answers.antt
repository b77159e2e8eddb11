use Rattle.std.proofs.Common.{refl, ◌∙◌, arith}
use Rattle.edl_conform.proofs.Numbering.{same_put, line_put, lines_all}
use Rattle.edl_conform.proofs.merging.number.Goals as goal

pub events-preserved : goal.events-preserved
events-preserved c = record {
  same = same_put c.events.events c.events.index _ c.index-events-index.result refl
      ∙ c.events.invariant.same;
  lines = line_put c.events.events c.events.index _ (omega arith) refl c.events.invariant.lines;
}

pub returns-clause-lines : goal.returns-clause-lines
returns-clause-lines c =
    lines_all c.events.events c.events.index (omega arith) c.events.invariant.lines
