use Rattle.std.proofs.Common.{◌∷◌, refl, sym}
use Rattle.edl_text.specs.StateLines.{duration_in}
use Rattle.edl_text.proofs.read_events.event_from.Goals as goal

pub returns : goal.returns
returns c = record {
  number = c.args.fields.number.now;
  reel = c.args.fields.reel.now;
  channels = c.args.fields.channels.now;
  kind = c.args.fields.kind.now ∷ duration_in c.args.fields.duration;
  are = refl;
  is_number = c.in_ok-number.ensures.number;
  is_reel = c.in_ok-reel.ensures;
  are_channels = sym c.in_ok-channels.ensures;
  is_kind = c.in_ok-kind.ensures;
}
