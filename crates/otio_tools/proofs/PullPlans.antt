-- What is planned of a timeline whose pull list is asked for.
use Rattle.std.proofs.Common.{◌≡◌, ◌≢◌, ◌⊎◌, ℕ, List, Ok, Err, inl, inr, sym, ap, ◌∙◌}
use Rattle.std.specs.Global.{Vec}
use Rattle.otio_model.specs.declared.timelines.Timeline.{Timeline}
use Rattle.coord.specs.Soundness.{IsFaultless, IsFaultOf}
use Rattle.coord.specs.declared.faults.CoordFault.{CoordFault}
use Rattle.coord.specs.declared.faults.CoordFault.TheVariants as coord
use Rattle.source_files.specs.Faults.{coord_fault_text, pull_frames_text}
use Rattle.source_files.specs.Reading.{IsRefused}
use Rattle.source_files.specs.Reasons.{reason_text}
use Rattle.source_files.specs.declared.reasons.Reason.{Reason}
use Rattle.source_files.specs.declared.read_faults.Refusal.{Refusal}
use Rattle.source_files.specs.declared.read_faults.Refusal.TheVariants.{Broken, Memory}
use Rattle.pull_list.specs.Lines.{stretches_text}
use Rattle.pull_list.specs.Pulled.{IsPullList, Stretch}
use Rattle.pull_list.specs.Record.{HasTooMany}
use Rattle.pull_list.specs.declared.spans.PullFault.{PullFault}
use Rattle.pull_list.specs.declared.spans.PullFault.TheVariants as pull
use Rattle.otio_tools.specs.Forms.{done, refused}
use Rattle.otio_tools.specs.Plan.{Suffices}
use Rattle.otio_tools.specs.Pulled.{AnswersPull, Unsound, Many, Told}
use Rattle.otio_tools.specs.declared.planning.Planned.TheVariants.{Text}

-- how a timeline is refused that isn't sound
pub unsound_pull : (handles : ℕ) (name : List ℕ) (timeline : Timeline) (fault : CoordFault)
    (refusal : Refusal) → IsFaultOf timeline fault
    → IsRefused (λ why. (fault ≢ coord.Memory) × (why ≡ coord_fault_text fault)) refusal
    → Suffices (λ target answer. AnswersPull handles name target timeline answer) name
    (Err refusal)
unsound_pull handles name timeline fault (Broken reason) is told =
    λ target. Unsound fault told.0 is (ap (refused name) told.1)
unsound_pull handles name timeline fault Memory is told = λ target. tt

-- how a sound one is refused that has too many record frames
pub frames_refused : (handles : ℕ) (name : List ℕ) (timeline : Timeline) (fault : PullFault)
    (reason : Reason) → IsFaultless timeline → fault ≡ pull.Frames
    → (fault ≡ pull.Memory) ⊎ ((fault ≡ pull.Frames) × HasTooMany timeline)
    → reason_text reason ≡ pull_frames_text
    → Suffices (λ target answer. AnswersPull handles name target timeline answer) name
    (Err (Broken reason))
frames_refused handles name timeline fault reason sound is (inl e) told =
    absurd (let k : pull.Frames ≡ pull.Memory = sym is ∙ e in cc k)
frames_refused handles name timeline fault reason sound is (inr h) told =
    λ target. Many sound h.1 (ap (refused name) told)

-- the text of its pull list is the answer
pub pull_told : (handles : ℕ) (name : List ℕ) (timeline : Timeline) (list : List Stretch)
    (text : Vec ℕ) → IsFaultless timeline → (HasTooMany timeline → ⊥)
    → IsPullList timeline handles list → text.items ≡ stretches_text list
    → Suffices (λ target answer. AnswersPull handles name target timeline answer) name
    (Ok (Text text))
pull_told handles name timeline list text sound few is same =
    λ target. Told sound few list is (ap (done target) same)
