use Rattle.json_text.specs.StringTexts.{quoted}
use Rattle.dev_io.proofs.BufferLemmas.{puts_then, puts_as}
use Rattle.show_prog.proofs.TrackLemmas.{track_parts}
use Rattle.show_prog.proofs.tracks.put_track.Goals as goal

pub returns : goal.returns
returns g c = puts_as _ (puts_then c.put.ensures (puts_then c.put_number.ensures (puts_then c.put-2.ensures
    (puts_then c.put_text.ensures (puts_then c.put-3.ensures (puts_then c.put_text-2.ensures c.put-4.ensures))))))
    (track_parts c.args.index (quoted c.args.track.now.kind) (quoted c.args.track.now.name))
