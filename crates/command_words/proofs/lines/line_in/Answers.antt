use Rattle.command_words.proofs.lines.line_in.Goals as goal

pub returns : goal.returns
returns c = λ i. record {
  from = c.value_of.ensures i;
  to = c.value_of-2.ensures i;
  family = c.value_of-3.ensures i;
  rate = c.value_of-4.ensures i;
  target = c.value_of-5.ensures i;
  child = c.value_of-6.ensures i;
  start = c.value_of-7.ensures i;
  count = c.value_of-8.ensures i;
  media = c.value_of-9.ensures i;
  script = c.value_of-10.ensures i;
  handles = c.value_of-11.ensures i;
  drop = c.has_flag.ensures i;
  wide = c.has_flag-2.ensures i;
  notes = c.has_flag-3.ensures i;
  tool = c.tool_line_in.ensures i;
  file = c.value_of-12.ensures i;
  more = c.in_ok-more.ensures i;
}
