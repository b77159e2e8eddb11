use Rattle.std.proofs.Common.{◌≡◌, suc, length, arith, refl, sym, ◌∙◌}
use Rattle.std.proofs.lemmas.Result.{on_ok_weaker}
use Rattle.text_lines.proofs.Trimming.{trimmed_begins}
use Rattle.edl_text.specs.Statements.{Nothing, Title, Mode, Event, Speed, FromName, ToName}
use Rattle.edl_text.specs.Saying.{Says}
use Rattle.edl_text.specs.Views.{event_said, speed_said}
use Rattle.edl_text.specs.Past.{blocks_in}
use Rattle.edl_text.proofs.OneStatement.{says_or_fault}
use Rattle.note_text.proofs.HearingLemmas.{other_taken, nothing_taken, noted_latest}
use Rattle.note_text.proofs.hearing.Hearing.take_line.Goals as goal

pub hear-requires : goal.hear-requires
hear-requires c = rw c.trim_blanks.ensures (trimmed_begins c.args.line.now)

pub returns-in-Ok-Nothing : goal.returns-in-Ok-Nothing
returns-in-Ok-Nothing c =
    let p : Says c.args.line.now Nothing = rw c.in-Ok-Nothing.field-0-is at c.in-Ok-Nothing.ensures in
    on_ok_weaker c.hear.result
    (λ takes. λ rate past lines statement few h says.
    let next : c.saturating_add-self.result ≡ suc (length past) = omega (arith, few, h.line, c.saturating_add-self.ensures) in
    nothing_taken rate past lines c.args.line.now statement c.args.self.now c.hear.new.self p says h takes.rate (takes.line ∙ next) takes.drop takes.latest
    (rw c.trim_blanks.ensures at takes.adds))
    c.hear.ensures

pub returns-in-Ok-Mode : goal.returns-in-Ok-Mode
returns-in-Ok-Mode c = λ rate past lines statement few h says.
    let p : Says c.args.line.now (Mode c.in-Ok-Mode.drop) = rw c.in-Ok-Mode.field-0-is at c.in-Ok-Mode.ensures in
    let next : c.saturating_add-self.result ≡ suc (length past) = omega (arith, few, h.line, c.saturating_add-self.ensures) in
    other_taken rate past lines c.args.line.now (Mode c.in-Ok-Mode.drop) statement c.args.self.now _ p says h (λ e. absurd (cc)) refl next refl (h.latest ∙ sym (noted_latest (Mode c.in-Ok-Mode.drop) (blocks_in past))) refl

pub returns-in-Ok-Event : goal.returns-in-Ok-Event
returns-in-Ok-Event c = λ rate past lines statement few h says.
    let event = event_said c.in-Ok-Event.field-0-0 in
    let p : Says c.args.line.now (Event event) = rw c.in-Ok-Event.field-0-is at c.in-Ok-Event.ensures in
    let next : c.saturating_add-self.result ≡ suc (length past) = omega (arith, few, h.line, c.saturating_add-self.ensures) in
    other_taken rate past lines c.args.line.now (Event event) statement c.args.self.now _ p says h (λ e. absurd (cc)) refl next h.drop (let k : _ = next in cc) refl

pub returns-in-Err : goal.returns-in-Err
returns-in-Err c = λ rate past lines statement few h says. absurd (says_or_fault c.args.line.now statement c.in-Err.field-0 says c.in-Err.ensures)

pub returns-in-Ok-Title : goal.returns-in-Ok-Title
returns-in-Ok-Title c = λ rate past lines statement few h says.
    let p : Says c.args.line.now (Title c.in-Ok-Title.field-0-0.now) = rw c.in-Ok-Title.field-0-is at c.in-Ok-Title.ensures in
    let next : c.saturating_add-self.result ≡ suc (length past) = omega (arith, few, h.line, c.saturating_add-self.ensures) in
    other_taken rate past lines c.args.line.now (Title c.in-Ok-Title.field-0-0.now) statement c.args.self.now _ p says h (λ e. absurd (cc)) refl next h.drop (h.latest ∙ sym (noted_latest (Title c.in-Ok-Title.field-0-0.now) (blocks_in past))) refl

pub returns-in-Ok-Speed : goal.returns-in-Ok-Speed
returns-in-Ok-Speed c = λ rate past lines statement few h says.
    let p : Says c.args.line.now (Speed (speed_said c.in-Ok-Speed.field-0-0)) = rw c.in-Ok-Speed.field-0-is at c.in-Ok-Speed.ensures in
    let next : c.saturating_add-self.result ≡ suc (length past) = omega (arith, few, h.line, c.saturating_add-self.ensures) in
    other_taken rate past lines c.args.line.now (Speed (speed_said c.in-Ok-Speed.field-0-0)) statement c.args.self.now _ p says h (λ e. absurd (cc)) refl next h.drop (h.latest ∙ sym (noted_latest (Speed (speed_said c.in-Ok-Speed.field-0-0)) (blocks_in past))) refl

pub returns-in-Ok-FromName : goal.returns-in-Ok-FromName
returns-in-Ok-FromName c = λ rate past lines statement few h says.
    let p : Says c.args.line.now (FromName c.in-Ok-FromName.field-0-0.now) = rw c.in-Ok-FromName.field-0-is at c.in-Ok-FromName.ensures in
    let next : c.saturating_add-self.result ≡ suc (length past) = omega (arith, few, h.line, c.saturating_add-self.ensures) in
    other_taken rate past lines c.args.line.now (FromName c.in-Ok-FromName.field-0-0.now) statement c.args.self.now _ p says h (λ e. absurd (cc)) refl next h.drop (h.latest ∙ sym (noted_latest (FromName c.in-Ok-FromName.field-0-0.now) (blocks_in past))) refl

pub returns-in-Ok-ToName : goal.returns-in-Ok-ToName
returns-in-Ok-ToName c = λ rate past lines statement few h says.
    let p : Says c.args.line.now (ToName c.in-Ok-ToName.field-0-0.now) = rw c.in-Ok-ToName.field-0-is at c.in-Ok-ToName.ensures in
    let next : c.saturating_add-self.result ≡ suc (length past) = omega (arith, few, h.line, c.saturating_add-self.ensures) in
    other_taken rate past lines c.args.line.now (ToName c.in-Ok-ToName.field-0-0.now) statement c.args.self.now _ p says h (λ e. absurd (cc)) refl next h.drop (h.latest ∙ sym (noted_latest (ToName c.in-Ok-ToName.field-0-0.now) (blocks_in past))) refl
