use Rattle.std.proofs.Common.{refl}
use Rattle.edl_conform.proofs.timeline_from_list.track_of.Goals as goal

pub returns : goal.returns
returns c = record {
  track = _;
  is = refl;
  metadata = c.new.ensures;
  name = c.in_ok-name.ensures;
  source = refl;
  effects = c.new-2.ensures;
  markers = c.new-3.ensures;
  enabled = refl;
  kind = c.in_ok-kind.ensures;
  children = c.in_ok-children.ensures;
  rest = c.new-4.ensures;
}
