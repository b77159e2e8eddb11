-- What the functions inside know of a line that is being read: no public contract cites these
-- words.
use Rattle.std.specs.Prelude.{◌≡◌, ◌≢◌, ℕ, false, List, [], ◌∷◌, ◌++◌, Option, Some, None, codes}
use Rattle.std.specs.Borrow.{Bor}
use Rattle.edl_text.specs.declared.fields.EventFields.{EventFields}
use Rattle.edl_text.specs.declared.fields.SpeedFields.{SpeedFields}
use Rattle.edl_text.specs.declared.statement_types.Labels.{Labels}
use Rattle.edl_text.specs.Saying.{begins_with_digit}

-- the labels, in the order of the line
abbrev pub labels_in : Labels → List (List ℕ)
labels_in labels =
    labels.source_in.now ∷ labels.source_out.now ∷ labels.record_in.now ∷ labels.record_out.now ∷ []

-- the field of a duration, where there is one
abbrev pub duration_in : Option (Bor (List ℕ)) → List (List ℕ)
duration_in None = []
duration_in (Some duration) = duration.now ∷ []

-- all fields of an event line, in its order
abbrev pub fields_in : EventFields → List (List ℕ)
fields_in fields =
    fields.number.now ∷ fields.reel.now ∷ fields.channels.now
    ∷ ((fields.kind.now ∷ duration_in fields.duration) ++ labels_in fields.labels)

-- the fields of a speed line, in its order
abbrev pub speed_fields_in : SpeedFields → List (List ℕ)
speed_fields_in fields =
    fields.first.now ∷ fields.reel.now ∷ fields.speed.now ∷ fields.label.now ∷ []

-- a line that begins with no digit, isn't empty and is no title
pub record IsWordy (line : List ℕ) : Type 0 where
  pub some : line ≢ []
  pub no_title : (text : List ℕ) → line ≢ codes "TITLE:" ++ text
  pub no_digit : begins_with_digit line ≡ false
