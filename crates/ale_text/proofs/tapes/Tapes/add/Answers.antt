use Rattle.std.proofs.Common.{◌≡◌, ◌<◌, ◌^◌, Some, position, refl, sym, ap, subst, ◌∙◌, arith}
use Rattle.std.proofs.lemmas.Int.{ints}
use Rattle.media_rows.specs.Rows.{by_reel}
use Rattle.media_list.proofs.LookUps.{is_name, reel_missing}
use Rattle.ale_text.specs.Tables.{widened}
use Rattle.ale_text.proofs.TapeLemmas.{as_many, kept_at, put_at, put_last, taking_of}
use Rattle.ale_text.proofs.WidenLemmas.{back}
use Rattle.ale_text.proofs.tapes.Tapes.add.Goals as goal

pub widen-requires-clause-frames : goal.widen-requires-clause-frames
widen-requires-clause-frames c =
    let s = c.requires.small in
    let above = s.above in
    let last = s.small in (
      taking_of c.args.take s,
      back _ s.first s.start (omega (arith, above, last)),
      back _ s.last s.end last,
      above,
      last,
    )

pub push-requires-clause-fresh : goal.push-requires-clause-fresh
push-requires-clause-fresh c =
    reel_missing c.args.take.tape.now c.args.self.now.names.keys c.args.self.now.rows.items
    c.requires.kept.names c.in-None.ensures.index

pub returns-in-Some-clause-rows : goal.returns-in-Some-clause-rows
returns-in-Some-clause-rows c = λ t is.
    let s = c.requires.small in
    let above = s.above in
    let last = s.small in
    let rows = c.args.self.now.rows.items in
    let keys = c.args.self.now.names.keys in
    let low : t.start < 10 ^ 18 = omega (arith, ints, is.start, s.start, above, last) in
    let high : t.end < 10 ^ 18 = omega (arith, ints, is.end, s.end, last) in
    let new = c.widen.ensures t (back _ t.start is.start low) (back _ t.end is.end high) in
    let found = subst (λ b. Some c.in-Some.index ≡ position (is_name b) keys) is.tape
    c.in-Some.ensures.index in
    put_at c.args.rate t keys rows c.in-Some.index c.widen.new.row _ c.requires.kept.names found
    (new ∙ ap (widened t) c.index_mut.ensures.value)

pub returns-in-Some-clause-kept : goal.returns-in-Some-clause-kept
returns-in-Some-clause-kept c =
    let s = c.requires.small in
    let above = s.above in
    let last = s.small in
    let t = taking_of c.args.take s in
    let low : t.start < 10 ^ 18 = omega (arith, above, last) in
    let new = c.widen.ensures t (back _ t.start s.start low) (back _ t.end s.end last) in
    kept_at t c.args.self.now _ c.in-Some.index c.widen.new.row _ c.requires.kept
    (omega (arith, c.in-Some.ensures.within, as_many c.args.self.now c.requires.kept))
    (new ∙ ap (widened t) c.index_mut.ensures.value) above last refl refl

pub returns-in-None-clause-rows : goal.returns-in-None-clause-rows
returns-in-None-clause-rows c = λ t is.
    let rows = c.args.self.now.rows.items in
    let keys = c.args.self.now.names.keys in
    let none = reel_missing c.args.take.tape.now keys rows c.requires.kept.names
    c.in-None.ensures.index in
    put_last c.push.result c.args.rate t rows c.push.new.self.rows.items
    (ap (λ x. by_reel x rows) (sym is.tape) ∙ none) (c.push.ensures.rows t is)
