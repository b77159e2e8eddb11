use Rattle.std.proofs.Common.{◌≡◌, ◌∷◌, Ok, refl}
use Rattle.tick_time.specs.declared.rates.Rate.{Rate}
use Rattle.command_words.specs.declared.requests.Command.TheVariants as asked
use Rattle.source_files.specs.Contents as content
use Rattle.otio_tools.specs.Plan.{media_content}
use Rattle.otio_tools.specs.Works.{is_noted, list_content}
use Rattle.otio_tools.specs.declared.planning.Planned.TheVariants as planned
use Rattle.otio_tools.proofs.WorkPlans.{counts_held, events_held, frames_held, held_for, pull_held}
use Rattle.otio_tools.proofs.planning.judge.Goals as goal

pub returns-in-Json-clause-owed : goal.returns-in-Json-clause-owed
returns-in-Json-clause-owed c = λ command file more is.
    let k : command ≡ asked.ToJson = rw c.in-Json.is at is in
    rw c.in-Json.is (held_for command asked.ToJson file more
    (content.Value c.in-Json.value ∷ media_content c.args.media)
    (Ok (planned.Value c.in-Json.value)) k (λ target. refl))

pub returns-in-Root-clause-owed : goal.returns-in-Root-clause-owed
returns-in-Root-clause-owed c = λ command file more is.
    let k : command ≡ asked.ToObjects c.in-Root.older = rw c.in-Root.is at is in
    rw c.in-Root.is (held_for command (asked.ToObjects c.in-Root.older) file more
    (content.Root c.in-Root.object ∷ media_content c.args.media) c.object_to_write.result k
    (c.object_to_write.ensures.owed file.name))

pub returns-in-Log-clause-owed : goal.returns-in-Log-clause-owed
returns-in-Log-clause-owed c = λ command file more is.
    let k : command ≡ asked.LogToMedia = rw c.in-Log.is at is in
    rw c.in-Log.is (held_for command asked.LogToMedia file more
    (content.Rows c.in-Log.rows ∷ media_content c.args.media)
    (Ok (planned.Media c.in-Log.rows)) k (λ target. refl))

pub returns-in-List-clause-owed : goal.returns-in-List-clause-owed
returns-in-List-clause-owed c = λ command file more is.
    let made = c.in-List in
    let k : (rate : Rate) × (command ≡ asked.ListToList rate made.drop made.wide (is_noted made.list)) =
    rw made.is at is in
    rw made.is (held_for command (asked.ListToList k.0 made.drop made.wide (is_noted made.list)) file more
    (list_content made.list ∷ media_content c.args.media) c.list_again.result k.1
    (c.list_again.ensures.owed k.0 file more (media_content c.args.media)))

pub returns-in-Conform-clause-owed : goal.returns-in-Conform-clause-owed
returns-in-Conform-clause-owed c = λ command file more is.
    let made = c.in-Conform in
    let k : (rate : Rate) × (command ≡ asked.ListToObjects rate made.older (is_noted made.list)) =
    rw made.is at is in
    rw made.is (held_for command (asked.ListToObjects k.0 made.older (is_noted made.list)) file more
    (list_content made.list ∷ media_content c.args.media) c.list_to_objects.result k.1
    (c.list_to_objects.ensures.owed k.0 file more))

pub returns-in-Events-clause-owed : goal.returns-in-Events-clause-owed
returns-in-Events-clause-owed c = λ command file more is.
    let ways = c.in-Events.ways in
    let k : command ≡ asked.TimelineToList ways.drop ways.wide ways.notes =
    rw c.in-Events.is at is in
    rw c.in-Events.is (held_for command (asked.TimelineToList ways.drop ways.wide ways.notes) file
    more (content.Film c.in-Events.timeline ∷ media_content c.args.media)
    c.timeline_to_list.result k (events_held ways.drop ways.wide ways.notes c.in-Events.timeline
    c.args.media file more c.timeline_to_list.result (c.timeline_to_list.ensures.owed file.name)))

pub returns-in-Frames-clause-owed : goal.returns-in-Frames-clause-owed
returns-in-Frames-clause-owed c = λ command file more is.
    rw c.in-Frames.is (frames_held command c.in-Frames.input c.in-Frames.asked c.args.media file more
    c.frames_of.result (rw c.in-Frames.is at is) (c.frames_of.ensures.owed file.name))

pub returns-in-Stat-clause-owed : goal.returns-in-Stat-clause-owed
returns-in-Stat-clause-owed c = λ command file more is.
    rw c.in-Stat.is (counts_held command c.in-Stat.input c.args.media file more c.counts_of.result
    (rw c.in-Stat.is at is) (c.counts_of.ensures.owed file.name))

pub returns-in-Pull-clause-owed : goal.returns-in-Pull-clause-owed
returns-in-Pull-clause-owed c = λ command file more is.
    rw c.in-Pull.is (pull_held command c.in-Pull.input c.in-Pull.handles c.args.media file more
    c.pull_of.result (rw c.in-Pull.is at is) (c.pull_of.ensures.owed file.name))
