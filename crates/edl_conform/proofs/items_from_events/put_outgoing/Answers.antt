use Rattle.std.proofs.Common.{◌≡◌, sym, subst, to_z, of_z, arith, rules, true, false, FitsSigned, ◌∙◌}
use Rattle.std.specs.Int.{w64}
use Rattle.std.specs.Option.{option_copied}
use Rattle.std.proofs.lemmas.Int.{ints}
use Rattle.edl_frames.specs.Conformed.{serves}
use Rattle.edl_conform.proofs.ItemSteps.{adds_served, adds_side}
use Rattle.edl_conform.proofs.items_from_events.put_outgoing.Goals as goal

pub returns-in_ok-push : goal.returns-in_ok-push
returns-in_ok-push c =
    let fits : FitsSigned w64 c.args.reached.now.at = search rules in
    let at : to_z w64 (of_z w64 c.args.reached.now.at) ≡ c.args.reached.now.at =
    omega (arith, ints, fits) in
    let before = option_copied c.args.reached.now.before in
    adds_side c.args.media.now.rate (option_copied c.args.media.now.rows) before
    c.args.reached.now.at c.args.from.now c.in_ok-side.side c.args.items.now.items
    c.push.new.self.items
    (subst (λ z. serves c.args.media.now.rate before z c.args.from.now ≡ false) at
    (sym c.serves.ensures ∙ c.if-not-serves.true))
    c.in_ok-side.ensures c.in_ok-push.ensures.items

pub returns-else-not-serves : goal.returns-else-not-serves
returns-else-not-serves c =
    let fits : FitsSigned w64 c.args.reached.now.at = search rules in
    let at : to_z w64 (of_z w64 c.args.reached.now.at) ≡ c.args.reached.now.at =
    omega (arith, ints, fits) in
    let before = option_copied c.args.reached.now.before in
    adds_served c.args.media.now.rate (option_copied c.args.media.now.rows) before
    c.args.reached.now.at c.args.from.now c.args.items.now.items
    (subst (λ z. serves c.args.media.now.rate before z c.args.from.now ≡ true) at
    (sym c.serves.ensures ∙ c.if-not-serves.false))
