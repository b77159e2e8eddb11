use Rattle.std.proofs.Common.{Some, ◌∙◌, ap, sym}
use Rattle.json_text.proofs.Skims.{item_skims, first_name_skims, behind_skims}
use Rattle.json_text.proofs.machine.Machine.skim_blank.Goals as goal

pub returns-in-List : goal.returns-in-List
returns-in-List c =
    item_skims c.args.self.now c.args.bytes.now c.blank_count.result c.in-FirstItem.is (sym c.kind.ensures ∙ c.in-Some.is ∙ ap (λ x. Some x) c.in-List.is)
    c.blank_count.ensures.within c.blank_count.ensures.blank

pub returns-in-Map-level : goal.returns-in-Map-level
returns-in-Map-level c =
    let blank = c.blank_count-in-Map-level in
    first_name_skims c.args.self.now c.args.bytes.now blank.result c.in-FirstName.is (sym c.kind.ensures ∙ c.in-Some.is ∙ ap (λ x. Some x) c.in-Map-level.is)
    blank.ensures.within blank.ensures.blank

pub returns-in-Behind : goal.returns-in-Behind
returns-in-Behind c =
    let blank = c.blank_count-in-Behind in
    behind_skims c.args.self.now c.in-Some.level c.args.bytes.now blank.result c.in-Behind.is (sym c.kind.ensures ∙ c.in-Some.is) blank.ensures.within blank.ensures.blank
