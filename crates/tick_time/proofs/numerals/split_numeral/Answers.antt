use Rattle.std.proofs.Common.{◌++◌}
use Rattle.tick_time.specs.Numerals.{frac}
use Rattle.tick_time.proofs.Parts.{int_no_minus, exp_stops, exp_no_point, frac_stops}
use Rattle.tick_time.proofs.numerals.split_numeral.Goals as goal

pub returns-clause-neg : goal.returns-clause-neg
returns-clause-neg c = λ n s.
    let sign = c.split_minus-neg.ensures.parts n.neg (n.whole ++ (frac n.decimals ++ (n.mark ++ n.power))) s.spelled (int_no_minus _ _ s.int) in
    sign.0

pub returns-clause-whole : goal.returns-clause-whole
returns-clause-whole c = λ n s.
    let sign = c.split_minus-neg.ensures.parts n.neg (n.whole ++ (frac n.decimals ++ (n.mark ++ n.power))) s.spelled (int_no_minus _ _ s.int) in
    let whole = c.split_digits.ensures.parts n.whole (frac n.decimals ++ (n.mark ++ n.power)) sign.1 s.int.all (frac_stops _ _ (exp_stops _ _ _ s.exp)) in
    whole.0

pub returns-clause-decimals : goal.returns-clause-decimals
returns-clause-decimals c = λ n s.
    let sign = c.split_minus-neg.ensures.parts n.neg (n.whole ++ (frac n.decimals ++ (n.mark ++ n.power))) s.spelled (int_no_minus _ _ s.int) in
    let whole = c.split_digits.ensures.parts n.whole (frac n.decimals ++ (n.mark ++ n.power)) sign.1 s.int.all (frac_stops _ _ (exp_stops _ _ _ s.exp)) in
    let decimals = c.split_decimals.ensures n.decimals (n.mark ++ n.power) whole.1 s.decimals (exp_stops _ _ _ s.exp) (exp_no_point _ _ _ s.exp) in
    decimals.0

pub returns-clause-down : goal.returns-clause-down
returns-clause-down c = λ n s.
    let sign = c.split_minus-neg.ensures.parts n.neg (n.whole ++ (frac n.decimals ++ (n.mark ++ n.power))) s.spelled (int_no_minus _ _ s.int) in
    let whole = c.split_digits.ensures.parts n.whole (frac n.decimals ++ (n.mark ++ n.power)) sign.1 s.int.all (frac_stops _ _ (exp_stops _ _ _ s.exp)) in
    let decimals = c.split_decimals.ensures n.decimals (n.mark ++ n.power) whole.1 s.decimals (exp_stops _ _ _ s.exp) (exp_no_point _ _ _ s.exp) in
    let mark = c.split_mark-down.ensures n.mark n.power n.down decimals.1 s.exp in
    mark.0

pub returns-clause-power : goal.returns-clause-power
returns-clause-power c = λ n s.
    let sign = c.split_minus-neg.ensures.parts n.neg (n.whole ++ (frac n.decimals ++ (n.mark ++ n.power))) s.spelled (int_no_minus _ _ s.int) in
    let whole = c.split_digits.ensures.parts n.whole (frac n.decimals ++ (n.mark ++ n.power)) sign.1 s.int.all (frac_stops _ _ (exp_stops _ _ _ s.exp)) in
    let decimals = c.split_decimals.ensures n.decimals (n.mark ++ n.power) whole.1 s.decimals (exp_stops _ _ _ s.exp) (exp_no_point _ _ _ s.exp) in
    let mark = c.split_mark-down.ensures n.mark n.power n.down decimals.1 s.exp in
    mark.1
