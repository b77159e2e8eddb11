use Rattle.std.proofs.Common.{refl}
use Rattle.tick_time.proofs.Rereadings.{den_is}
use Rattle.tick_time.proofs.RateBounds.{num_low}
use Rattle.tick_time.proofs.rates.Rate.nominal.Goals as goal

pub returns-in-15000-eq1001 : goal.returns-in-15000-eq1001
returns-in-15000-eq1001 c =
    let some = num_low c.args.self.now.num c.args.self.now.den c.args.self.now.positive
    c.args.self.now.at_least_one in
    let num = den_is c.args.self.now.num 15000 some c.in-15000-eq1001.is-0 in
    let den = den_is c.args.self.now.den 1001 c.args.self.now.positive c.in-15000-eq1001.is-1 in
    rw (num, den) refl

pub returns-in-24000-eq1001 : goal.returns-in-24000-eq1001
returns-in-24000-eq1001 c =
    let some = num_low c.args.self.now.num c.args.self.now.den c.args.self.now.positive
    c.args.self.now.at_least_one in
    let num = den_is c.args.self.now.num 24000 some c.in-24000-eq1001.is-0 in
    let den = den_is c.args.self.now.den 1001 c.args.self.now.positive c.in-24000-eq1001.is-1 in
    rw (num, den) refl

pub returns-in-30000-eq1001 : goal.returns-in-30000-eq1001
returns-in-30000-eq1001 c =
    let some = num_low c.args.self.now.num c.args.self.now.den c.args.self.now.positive
    c.args.self.now.at_least_one in
    let num = den_is c.args.self.now.num 30000 some c.in-30000-eq1001.is-0 in
    let den = den_is c.args.self.now.den 1001 c.args.self.now.positive c.in-30000-eq1001.is-1 in
    rw (num, den) refl

pub returns-in-48000-eq1001 : goal.returns-in-48000-eq1001
returns-in-48000-eq1001 c =
    let some = num_low c.args.self.now.num c.args.self.now.den c.args.self.now.positive
    c.args.self.now.at_least_one in
    let num = den_is c.args.self.now.num 48000 some c.in-48000-eq1001.is-0 in
    let den = den_is c.args.self.now.den 1001 c.args.self.now.positive c.in-48000-eq1001.is-1 in
    rw (num, den) refl

pub returns-in-60000-eq1001 : goal.returns-in-60000-eq1001
returns-in-60000-eq1001 c =
    let some = num_low c.args.self.now.num c.args.self.now.den c.args.self.now.positive
    c.args.self.now.at_least_one in
    let num = den_is c.args.self.now.num 60000 some c.in-60000-eq1001.is-0 in
    let den = den_is c.args.self.now.den 1001 c.args.self.now.positive c.in-60000-eq1001.is-1 in
    rw (num, den) refl
