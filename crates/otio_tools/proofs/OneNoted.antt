-- A list with notes and the timeline that gets them have one answer.
use Rattle.std.proofs.Common.{◌≡◌, ℕ, List, sym, subst}
use Rattle.tick_time.specs.declared.rates.Rate.{Rate}
use Rattle.otio_model.specs.declared.timelines.Timeline.{Timeline}
use Rattle.otio_model.specs.Timelines.{bare}
use Rattle.edl_list.specs.declared.list.EventList.{EventList}
use Rattle.edl_list.specs.Formed.{IsWellFormed}
use Rattle.note_text.specs.Belonging.{AreNotes}
use Rattle.note_text.specs.Noted.{IsNoted}
use Rattle.note_text.specs.declared.notes.Note.{Note}
use Rattle.note_law.proofs.HeardOnce.{notes_once}
use Rattle.note_law.proofs.NotedOnce.{one_noted}
use Rattle.source_files.specs.Formats.{IsNotedList}
use Rattle.otio_tools.specs.Forms.{Answer}
use Rattle.otio_tools.specs.Written.{AnswersNoted}

-- the same bytes have the same notes
pub same_notes : (rate : Rate) (bytes : List ℕ) (l k : EventList) (a b : List Note) → l ≡ k
    → IsNotedList rate bytes l a → IsNotedList rate bytes k b → a ≡ b
same_notes rate bytes l k a b same p q =
    notes_once bytes k a b (subst (λ x. AreNotes bytes x a) same p.are) q.are

noted_to_bare : (t : Timeline) (list : EventList) (notes : List Note) (r : Timeline)
    → IsNoted t list notes r → IsNoted (bare t) list notes r
noted_to_bare t list notes r h = record { roots = h.roots; are = h.are; is = h.is }

noted_of_bare : (t : Timeline) (list : EventList) (notes : List Note) (r : Timeline)
    → IsNoted (bare t) list notes r → IsNoted t list notes r
noted_of_bare t list notes r h = record { roots = h.roots; are = h.are; is = h.is }

-- a timeline that gets notes has at most one answer, where it has one with them
pub noted_answer_once : (list : EventList) (notes : List Note) (Is : Timeline → Answer → Type 0)
    → ((t u : Timeline) (a b : Answer) → bare t ≡ bare u → Is t a → Is u b → a ≡ b)
    → IsWellFormed list → (t u : Timeline) (a b : Answer) → bare t ≡ bare u
    → AnswersNoted list notes Is t a → AnswersNoted list notes Is u b → a ≡ b
noted_answer_once list notes Is once formed t u a b same p q =
    let also : IsNoted t list notes q.0 = noted_of_bare t list notes q.0
    (subst (λ (x : Timeline). IsNoted x list notes q.0) (sym same)
    (noted_to_bare u list notes q.0 q.1)) in
    once p.0 q.0 a b (one_noted list notes t p.0 q.0 formed p.1 also) p.2 q.2
