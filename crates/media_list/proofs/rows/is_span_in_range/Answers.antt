use Rattle.std.proofs.Common.{◌≡◌, ◌↔◌, ◌*ℤ◌, ◌+ℤ◌, IsTrue, pos, FitsSigned, w64, rules, subst}
use Rattle.std.proofs.lemmas.Int.{to_z-of_z}
use Rattle.tick_time.specs.Rates.{frame}
use Rattle.tick_time.specs.Times.{IsInRange}
use Rattle.media_list.proofs.SpanLemmas.{frame_fits}
use Rattle.media_list.proofs.rows.is_span_in_range.Goals as goal

pub returns-then-count-gt0 : goal.returns-then-count-gt0
returns-then-count-gt0 c =
    let tick = pos (frame c.args.rate.num c.args.rate.den) in
    let small : FitsSigned w64 c.end_of.result = search rules in
    let at : IsTrue c.is_end_in_range.result ↔ IsInRange (c.end_of.result *ℤ tick) =
    simp to_z-of_z at c.is_end_in_range.ensures in
    let a : FitsSigned w64 c.args.start = frame_fits c.args.start c.requires.start in
    let b : FitsSigned w64 c.args.count = frame_fits c.args.count c.requires.count in
    let sum : c.end_of.result ≡ (c.args.start +ℤ c.args.count) =
    simp to_z-of_z at c.end_of.ensures in
    let fits = subst (λ n. IsTrue c.is_end_in_range.result ↔ IsInRange (n *ℤ tick)) sum at in
    (λ yes. record { some = search rules; fits = fits.0 yes }, λ h. fits.1 h.fits)
