use Rattle.std.proofs.Common.{ℕ, ℤ, codes, decimal, ap, FitsSigned, to_z-of_z, rules}
use Rattle.std.specs.Fmt.{signed_decimal}
use Rattle.std.specs.Int.{w128}
use Rattle.dev_io.proofs.BufferLemmas.{puts_then, puts_as}
use Rattle.coord.specs.Looks.{FrameRate}
use Rattle.show_prog.specs.ListingTexts.{number_line, rate_text, counts_text}
use Rattle.show_prog.proofs.stats.put_stats.Goals as goal

pub returns : goal.returns
returns g c =
    let fits : FitsSigned w128 c.start_frame.result = search rules in
    let rate = puts_as _ c.put_rate.ensures
    (ap (λ (r : FrameRate). number_line (codes "rate") (rate_text r)) c.record_rate.ensures) in
    let start = puts_as _ (simp to_z-of_z at c.put_start.ensures)
    (ap (λ (z : ℤ). number_line (codes "start") (signed_decimal z)) c.start_frame.ensures) in
    let length = puts_as _ c.put_length.ensures
    (ap (λ (n : ℕ). number_line (codes "length") (decimal n)) c.whole_frames.ensures.value) in
    puts_then rate (puts_then start (puts_then length (puts_as _ c.put_counts.ensures (ap counts_text c.count_children.ensures.value))))
