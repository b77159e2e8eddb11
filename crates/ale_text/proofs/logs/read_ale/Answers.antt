use Rattle.std.proofs.Common.{All, subst, sym, ◌∙◌, arith}
use Rattle.media_rows.specs.Rows.{AreRows, IsRowInRange}
use Rattle.ale_text.proofs.LogRows.{rows_apart, rows_in_range}
use Rattle.ale_text.proofs.logs.read_ale.Goals as goal

pub into_list-requires-clause-apart : goal.into_list-requires-clause-apart
into_list-requires-clause-apart c =
    let log = c.in_ok-tapes.ensures.log in
    subst AreRows (sym log.are) (rows_apart log.rate log.takings)

pub into_list-requires-clause-ranges : goal.into_list-requires-clause-ranges
into_list-requires-clause-ranges c =
    let log = c.in_ok-tapes.ensures.log in
    subst (All IsRowInRange) (sym log.are)
    (rows_in_range log.rate log.takings log.timecode log.sound)

pub returns-clause-list : goal.returns-clause-list
returns-clause-list c =
    let log = c.in_ok-tapes.ensures.log in
    record {
      small = omega (arith, c.if-bytes-gt-LIMIT.false);
      rate = log.rate;
      columns = log.columns;
      takings = log.takings;
      say = log.say;
      are = c.in_ok-into_list.ensures ∙ log.are;
    }
