use Rattle.std.proofs.Common.{◌≡◌, length, sym, subst, take, ap, ◌∙◌}
use Rattle.std.proofs.Math.Seq.{take-append_seam, drop-append_seam}
use Rattle.std.specs.List.{prefix_len}
use Rattle.std.specs.Char.{is_ascii_digit}
use Rattle.std.specs.Str.Parse.{AllDigits}
use Rattle.tick_time.proofs.Scans.{front_digits}
use Rattle.tick_time.proofs.Joins.{front_all}
use Rattle.tick_time.proofs.digits.split_digits.Goals as goal

pub returns-clause-digits : goal.returns-clause-digits
returns-clause-digits c = subst (AllDigits 10) (sym (c.split_at.ensures.front ∙ ap (λ n. take n c.args.text.now) c.count_digits.ensures.value)) (front_all c.args.text.now)

pub returns-clause-parts : goal.returns-clause-parts
returns-clause-parts c = λ digits rest e all stops.
    let n : c.count_digits.result ≡ length digits = c.count_digits.ensures.value ∙ ap (prefix_len is_ascii_digit) e ∙ front_digits digits rest all stops in (
      c.split_at.ensures.front ∙ rw (n, e) (take-append_seam digits rest),
      c.split_at.ensures.back ∙ rw (n, e) (drop-append_seam digits rest),
    )
