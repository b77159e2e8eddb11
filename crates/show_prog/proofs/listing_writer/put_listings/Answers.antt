use Rattle.dev_io.proofs.BufferLemmas.{puts_then}
use Rattle.show_prog.proofs.listing_writer.put_listings.Goals as goal

pub returns : goal.returns
returns g c =
    puts_then c.put_tracks_asked.ensures (puts_then c.put_clips_asked.ensures
    (puts_then c.put_clips_asked-2.ensures c.put_stats_asked.ensures))
