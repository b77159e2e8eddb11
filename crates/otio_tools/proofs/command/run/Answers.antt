use Rattle.std.proofs.Common.{None, map, string_bytes}
use Rattle.otio_tools.proofs.DrillEnds.{drill_alone, drill_is_no_usage, drill_leaves, drill_still, no_drills, task_is, unread_drills}
use Rattle.otio_tools.proofs.RunEnds.{asks_nothing}
use Rattle.otio_tools.proofs.Keeping.{keeps}
use Rattle.otio_tools.proofs.Sending.{stays_same}
use Rattle.otio_tools.proofs.Serving.{served_drill, served_unread, served_usage}
use Rattle.otio_tools.proofs.SeveralWords.{joining}
use Rattle.otio_tools.proofs.PullWords.{few_handles}
use Rattle.otio_tools.proofs.Working.{leaves_unread, leaves_usage, no_edit, scripted}
use Rattle.otio_tools.specs.Run.{streams}
use Rattle.otio_tools.specs.declared.Status.TheVariants.{Usage}
use Rattle.otio_tools.proofs.Reporting.{drill_reported}
use Rattle.source_files.proofs.FollowingLemmas.{stays_at_last}
use Rattle.otio_tools.proofs.command.run.Goals as goal

-- ---- words that ask for nothing

pub returns-in-Err-Usage-clause-usage : goal.returns-in-Err-Usage-clause-usage
returns-in-Err-Usage-clause-usage g c = λ _.
    asks_nothing _ _ c.in-Err-Usage.field-0-is
    (rw c.as_slice.ensures.value at c.in-Err-Usage.ensures)

pub returns-in-Err-Usage-clause-drilled : goal.returns-in-Err-Usage-clause-drilled
returns-in-Err-Usage-clause-drilled g c = λ seed count target w.
    absurd ((asks_nothing _ _ c.in-Err-Usage.field-0-is
    (rw c.as_slice.ensures.value at c.in-Err-Usage.ensures)).no_drill seed count target w)

-- ---- a command on files

pub serve-requires-clause-scripted : goal.serve-requires-clause-scripted
serve-requires-clause-scripted g c =
    scripted _ _ _ _ _ (task_is _ _ _ c.in-Ok-OnFiles.field-0-is
    (rw c.as_slice.ensures.value at c.in-Ok-OnFiles.ensures))

pub serve-requires-clause-joining : goal.serve-requires-clause-joining
serve-requires-clause-joining g c =
    joining _ _ _ _ _ (task_is _ _ _ c.in-Ok-OnFiles.field-0-is
    (rw c.as_slice.ensures.value at c.in-Ok-OnFiles.ensures))

pub serve-requires-clause-handles : goal.serve-requires-clause-handles
serve-requires-clause-handles g c =
    few_handles _ _ _ _ _ (task_is _ _ _ c.in-Ok-OnFiles.field-0-is
    (rw c.as_slice.ensures.value at c.in-Ok-OnFiles.ensures))

pub returns-in-Ok-OnFiles-clause-still : goal.returns-in-Ok-OnFiles-clause-still
returns-in-Ok-OnFiles-clause-still g c =
    let words = map (λ w. string_bytes w) c.args.words.now.items in
    c.serve.ensures.still words (task_is _ _ _ c.in-Ok-OnFiles.field-0-is
    (rw c.as_slice.ensures.value at c.in-Ok-OnFiles.ensures))

pub returns-in-Ok-OnFiles-clause-unworked : goal.returns-in-Ok-OnFiles-clause-unworked
returns-in-Ok-OnFiles-clause-unworked g c = λ none.
    c.serve.ensures.unworked
    (no_edit _ _ _ _ _ (task_is _ _ _ c.in-Ok-OnFiles.field-0-is
    (rw c.as_slice.ensures.value at c.in-Ok-OnFiles.ensures)) none.no_edit)

pub returns-in-Ok-OnFiles-clause-others : goal.returns-in-Ok-OnFiles-clause-others
returns-in-Ok-OnFiles-clause-others g c = λ none.
    absurd (none.no_command _ _ _ _ (task_is _ _ _ c.in-Ok-OnFiles.field-0-is
    (rw c.as_slice.ensures.value at c.in-Ok-OnFiles.ensures)))

pub returns-in-Ok-OnFiles-clause-drilled : goal.returns-in-Ok-OnFiles-clause-drilled
returns-in-Ok-OnFiles-clause-drilled g c =
    let words = map (λ w. string_bytes w) c.args.words.now.items in
    no_drills words _ _ _ _ _ c.serve.result _ (task_is _ _ _ c.in-Ok-OnFiles.field-0-is
    (rw c.as_slice.ensures.value at c.in-Ok-OnFiles.ensures))

-- ---- a drill

pub returns-in-Ok-Drill-clause-unworked : goal.returns-in-Ok-Drill-clause-unworked
returns-in-Ok-Drill-clause-unworked g c = λ none.
    absurd (none.no_drill _ _ _ (task_is _ _ _ c.in-Ok-Drill.field-0-is
    (rw c.as_slice.ensures.value at c.in-Ok-Drill.ensures)))

pub returns-in-Ok-Drill-clause-others : goal.returns-in-Ok-Drill-clause-others
returns-in-Ok-Drill-clause-others g c = λ none.
    absurd (none.no_drill _ _ _ (task_is _ _ _ c.in-Ok-Drill.field-0-is
    (rw c.as_slice.ensures.value at c.in-Ok-Drill.ensures)))

pub returns-in-Ok-Drill-clause-usage : goal.returns-in-Ok-Drill-clause-usage
returns-in-Ok-Drill-clause-usage g c = λ same.
    absurd (drill_is_no_usage _ _ _ _ c.serve_drill.result _ c.serve_drill.ensures same)

pub returns-in-Ok-Drill-clause-still : goal.returns-in-Ok-Drill-clause-still
returns-in-Ok-Drill-clause-still g c =
    let words = map (λ w. string_bytes w) c.args.words.now.items in
    drill_still words _ _ _ _ c.serve_drill.result _ c.serve_drill.ensures

pub returns-in-Ok-Drill-clause-drilled : goal.returns-in-Ok-Drill-clause-drilled
returns-in-Ok-Drill-clause-drilled g c =
    let words = map (λ w. string_bytes w) c.args.words.now.items in
    drill_alone words _ _ _ _ c.serve_drill.result _ (task_is _ _ _ c.in-Ok-Drill.field-0-is
    (rw c.as_slice.ensures.value at c.in-Ok-Drill.ensures)) c.serve_drill.ensures

-- ---- out of memory over the words

pub returns-in-Err-Memory-clause-drilled : goal.returns-in-Err-Memory-clause-drilled
returns-in-Err-Memory-clause-drilled g c =
    let words = map (λ w. string_bytes w) c.args.words.now.items in
    let all =
    streams g.W.Out.faults g.W.Out.known g.E.Out.faults g.E.Out.known c.args.out.now
    c.args.out.now c.args.err.now c.complain_of_memory.new.err in
    unread_drills words all c.complain_of_memory.result c.args.desk.now
    c.complain_of_memory.ensures.status c.requires.empty
    (stays_same (g.W.Out.known c.args.out.now)) c.complain_of_memory.ensures.message

-- ---- the messages

pub returns-in-Ok-OnFiles-clause-reported : goal.returns-in-Ok-OnFiles-clause-reported
returns-in-Ok-OnFiles-clause-reported g c =
    let words = map (λ w. string_bytes w) c.args.words.now.items in
    c.serve.ensures.reported words (task_is _ _ _ c.in-Ok-OnFiles.field-0-is
    (rw c.as_slice.ensures.value at c.in-Ok-OnFiles.ensures))

pub returns-in-Ok-Drill-clause-reported : goal.returns-in-Ok-Drill-clause-reported
returns-in-Ok-Drill-clause-reported g c =
    let words = map (λ w. string_bytes w) c.args.words.now.items in
    drill_reported words _ _ _ _ _ _ c.serve_drill.result _ c.serve_drill.ensures

pub returns-in-Err-Usage-clause-reported : goal.returns-in-Err-Usage-clause-reported
returns-in-Err-Usage-clause-reported g c = c.say.ensures

pub returns-in-Err-Memory-clause-reported : goal.returns-in-Err-Memory-clause-reported
returns-in-Err-Memory-clause-reported g c =
    rw c.complain_of_memory.ensures.status c.complain_of_memory.ensures.message

-- ---- what the calls of the files gave

pub returns-in-Ok-OnFiles-clause-handed : goal.returns-in-Ok-OnFiles-clause-handed
returns-in-Ok-OnFiles-clause-handed g c =
    let words = map (λ w. string_bytes w) c.args.words.now.items in
    c.serve.ensures.given words (task_is _ _ _ c.in-Ok-OnFiles.field-0-is
    (rw c.as_slice.ensures.value at c.in-Ok-OnFiles.ensures))

pub returns-in-Ok-Drill-clause-handed : goal.returns-in-Ok-Drill-clause-handed
returns-in-Ok-Drill-clause-handed g c =
    let words = map (λ w. string_bytes w) c.args.words.now.items in
    served_drill words _ _ _ _ _ c.serve_drill.result _ _ (task_is _ _ _ c.in-Ok-Drill.field-0-is
    (rw c.as_slice.ensures.value at c.in-Ok-Drill.ensures)) c.serve_drill.ensures

pub returns-in-Err-Usage-clause-handed : goal.returns-in-Err-Usage-clause-handed
returns-in-Err-Usage-clause-handed g c =
    let words = map (λ w. string_bytes w) c.args.words.now.items in
    served_usage words _ _ _ (asks_nothing _ _ c.in-Err-Usage.field-0-is
    (rw c.as_slice.ensures.value at c.in-Err-Usage.ensures))
    (stays_same (g.W.Out.known c.args.out.now)) c.say.ensures

pub returns-in-Err-Memory-clause-handed : goal.returns-in-Err-Memory-clause-handed
returns-in-Err-Memory-clause-handed g c =
    let words = map (λ w. string_bytes w) c.args.words.now.items in
    served_unread words _ _ c.complain_of_memory.result _ c.complain_of_memory.ensures.status
    (stays_same (g.W.Out.known c.args.out.now)) c.complain_of_memory.ensures.message

-- ---- what is known of the files

pub returns-in-Ok-Drill-clause-followed : goal.returns-in-Ok-Drill-clause-followed
returns-in-Ok-Drill-clause-followed g c = stays_at_last _ _

pub returns-in-Err-Usage-clause-followed : goal.returns-in-Err-Usage-clause-followed
returns-in-Err-Usage-clause-followed g c = stays_at_last _ _

pub returns-in-Err-Memory-clause-followed : goal.returns-in-Err-Memory-clause-followed
returns-in-Err-Memory-clause-followed g c = stays_at_last _ _

-- ---- frames that are kept

pub returns-in-Ok-OnFiles-clause-kept : goal.returns-in-Ok-OnFiles-clause-kept
returns-in-Ok-OnFiles-clause-kept g c =
    let words = map (λ w. string_bytes w) c.args.words.now.items in
    keeps words _ _ _ c.serve.result _ _ (returns-in-Ok-OnFiles-clause-handed g c)

pub returns-in-Ok-Drill-clause-kept : goal.returns-in-Ok-Drill-clause-kept
returns-in-Ok-Drill-clause-kept g c =
    let words = map (λ w. string_bytes w) c.args.words.now.items in
    keeps words _ _ _ c.serve_drill.result _ _ (returns-in-Ok-Drill-clause-handed g c)

pub returns-in-Err-Usage-clause-kept : goal.returns-in-Err-Usage-clause-kept
returns-in-Err-Usage-clause-kept g c =
    let words = map (λ w. string_bytes w) c.args.words.now.items in
    keeps words _ _ _ Usage _ _ (returns-in-Err-Usage-clause-handed g c)

pub returns-in-Err-Memory-clause-kept : goal.returns-in-Err-Memory-clause-kept
returns-in-Err-Memory-clause-kept g c =
    let words = map (λ w. string_bytes w) c.args.words.now.items in
    keeps words _ _ _ c.complain_of_memory.result _ _ (returns-in-Err-Memory-clause-handed g c)

-- ---- what is left on the desk

pub returns-in-Ok-OnFiles-clause-worked : goal.returns-in-Ok-OnFiles-clause-worked
returns-in-Ok-OnFiles-clause-worked g c =
    let words = map (λ w. string_bytes w) c.args.words.now.items in
    c.serve.ensures.worked words (task_is _ _ _ c.in-Ok-OnFiles.field-0-is
    (rw c.as_slice.ensures.value at c.in-Ok-OnFiles.ensures))

pub returns-in-Ok-Drill-clause-worked : goal.returns-in-Ok-Drill-clause-worked
returns-in-Ok-Drill-clause-worked g c =
    let words = map (λ w. string_bytes w) c.args.words.now.items in
    drill_leaves words _ _ _ c.serve_drill.result _ _ (task_is _ _ _ c.in-Ok-Drill.field-0-is
    (rw c.as_slice.ensures.value at c.in-Ok-Drill.ensures))

pub returns-in-Err-Usage-clause-worked : goal.returns-in-Err-Usage-clause-worked
returns-in-Err-Usage-clause-worked g c =
    let words = map (λ w. string_bytes w) c.args.words.now.items in
    leaves_usage words None _

pub returns-in-Err-Memory-clause-worked : goal.returns-in-Err-Memory-clause-worked
returns-in-Err-Memory-clause-worked g c =
    let words = map (λ w. string_bytes w) c.args.words.now.items in
    leaves_unread words c.complain_of_memory.result _ _ c.complain_of_memory.ensures.status
