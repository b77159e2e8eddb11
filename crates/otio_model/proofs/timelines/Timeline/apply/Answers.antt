-- The patch fits, and there is room for it.
use Rattle.otio_model.proofs.RoomLemmas.{roomy}
use Rattle.otio_model.proofs.timelines.Timeline.apply.Goals as goal

pub replace_at-put-requires : goal.replace_at-put-requires
replace_at-put-requires c = record {
  there = roomy c.args.patch c.args.self.now c.as_slice.result.now c.as_slice.ensures
      c.requires.fits.within c.requires.spare;
}
