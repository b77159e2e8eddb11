use Rattle.std.proofs.Common.{◌≡◌, ◌*◌, ◌^◌, ◌-◌, arith, ap}
use Rattle.tick_time.proofs.Pushes.{joined_fits}
use Rattle.tick_time.proofs.tallies.joined.Goals as goal

pub overflow_mul-result : goal.overflow_mul-result
overflow_mul-result c =
    let e : c.args.digits * c.power_of_ten.result ≡ c.args.digits * 10 ^ c.args.more = ap (λ x. c.args.digits * x) c.power_of_ten.ensures.value in
    omega (arith, e, joined_fits c.args.digits c.args.count c.args.more 0 c.requires.below c.requires.few c.requires.some (omega arith))

pub overflow_add-result : goal.overflow_add-result
overflow_add-result c =
    let e : c.args.digits * c.power_of_ten.result ≡ c.args.digits * 10 ^ c.args.more = ap (λ x. c.args.digits * x) c.power_of_ten.ensures.value in
    omega (arith, e, joined_fits c.args.digits c.args.count c.args.more (c.args.digit - 48) c.requires.below c.requires.few c.requires.some (omega arith))
