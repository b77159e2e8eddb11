use Rattle.std.proofs.Common.{refl, ap, ◌∙◌}
use Rattle.otio_model.specs.Trees.{items_of, listed}
use Rattle.otio_model.proofs.Views.{items-listed}
use Rattle.edl_conform.proofs.timeline_from_list.root_of.Goals as goal

pub returns : goal.returns
returns c = record {
  children = ap items_of (c.in_ok-children.ensures ∙ ap listed c.of.ensures)
      ∙ items-listed c.args.tracks.items;
  name = c.in_ok-name.ensures;
  metadata = c.new.ensures;
  rest = c.new-2.ensures;
  markers = c.new-3.ensures;
  effects = c.new-4.ensures;
  source = refl;
  enabled = refl;
}
