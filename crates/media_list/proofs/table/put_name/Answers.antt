use Rattle.std.proofs.Common.{◌∙◌}
use Rattle.media_list.proofs.table.put_name.Goals as goal

pub returns : goal.returns
returns c = record {
  key = c.in_ok-key.key;
  is = c.in_ok-key.ensures.ok ∙ c.as_str.ensures;
  put = c.in_ok-insert.ensures.keys;
}
