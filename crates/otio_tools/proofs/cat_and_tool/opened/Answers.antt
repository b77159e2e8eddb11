use Rattle.std.proofs.Common.{ℕ, List, [], ap, map}
use Rattle.source_files.specs.Inputs.{input_content}
use denote.Ref.{Bor}
use Rattle.source_files.specs.declared.read_faults.Refusal.TheVariants.{Memory}
use Rattle.otio_tools.proofs.SeveralFiles.{drop_next, next_editable, opening_more, opening_stop}
use Rattle.otio_tools.proofs.cat_and_tool.opened.Goals as goal

abbrev none : Bor (List ℕ)
none = record { ref_ptr = (0, 0); now = [] }

pub opened_timeline-requires : goal.opened_timeline-requires
opened_timeline-requires c =
    next_editable _ _ _ _ _ (input_content c.next_input-input.result) c.inputs.timelines.items
    c.inputs.invariant (ap (map input_content) c.next_input-input.ensures)

pub returns-in-Err-push-clause-stopped : goal.returns-in-Err-push-clause-stopped
returns-in-Err-push-clause-stopped c =
    opening_stop _ _ _ _ _ _ _ (input_content c.next_input-input.result) c.inputs.timelines.items
    c.no_memory.result Memory (drop_next c.args.names.now c.inputs.name-index none c.inputs-test.true)
    c.inputs.invariant (ap (map input_content) c.next_input-input.ensures) c.no_memory.ensures.name
    c.no_memory.ensures.fault tt

pub returns-in-Err-clause-stopped : goal.returns-in-Err-clause-stopped
returns-in-Err-clause-stopped c =
    opening_stop _ _ _ _ _ _ _ (input_content c.next_input-input.result) c.inputs.timelines.items
    c.refused.result c.in-Err.refusal
    (drop_next c.args.names.now c.inputs.name-index none c.inputs-test.true) c.inputs.invariant
    (ap (map input_content) c.next_input-input.ensures) c.refused.ensures.name c.refused.ensures.fault
    c.in-Err.ensures.refused

pub inputs-preserved : goal.inputs-preserved
inputs-preserved c =
    opening_more _ _ _ _ _ _ _ (input_content c.next_input-input.result) c.inputs.timelines.items
    c.push.new.self.items c.in-Ok.timeline (drop_next c.args.names.now c.inputs.name-index none c.inputs-test.true)
    c.inputs.invariant (ap (map input_content) c.next_input-input.ensures) c.in-Ok.ensures.opened (record {
      sound = c.in-Ok.ensures.sound;
      written = c.in-Ok.ensures.written;
      few = c.in-Ok.ensures.few;
    }) c.in-Ok-push.ensures.items
