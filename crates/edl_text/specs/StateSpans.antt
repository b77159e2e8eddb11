-- What the search for an overlap knows of the events so far, the spans that those of one channel
-- take kept by their starts: no public contract cites these words.
use Rattle.std.specs.Prelude.{◌≡◌, ◌⊎◌, ◌≤◌, ℕ, ℤ, ◌<ℤ◌, ◌≤ℤ◌, List, Option, Some, None, All, AllPairs, Any, Contains, MatchOption, nat_lt, if◌then◌else◌}
use Rattle.std.specs.Ordering.{int_cmp}
use Rattle.std.specs.BTreeMap.{BTreeMap, get}
use Rattle.edl_list.specs.declared.list.Channel.{Channel}
use Rattle.edl_list.specs.declared.list.Event.{Event}
use Rattle.edl_text.specs.Overlaps.{IsOverlap}

-- a span from the one frame to the other is kept
abbrev pub Has : BTreeMap ℤ ℤ → ℤ → ℤ → Type 0
Has spans start end = get int_cmp spans start ≡ Some end

-- each span has a frame, and no two share one
pub record AreSpansApart (spans : BTreeMap ℤ ℤ) : Type 0 where
  pub some : (start end : ℤ) → Has spans start end → start <ℤ end
  pub apart : (start end next behind : ℤ) → Has spans start end → Has spans next behind
      → start <ℤ next → end ≤ℤ next

-- a span shares a frame with one that is kept
pub record Meets (spans : BTreeMap ℤ ℤ) (from to : ℤ) : Type 0 where
  pub start : ℤ
  pub end : ℤ
  pub has : Has spans start end
  pub first : start <ℤ to
  pub second : from <ℤ end

-- two events of the channel share no frame
abbrev pub AreApartOn : Channel → Event → Event → Type 0
AreApartOn channel a b =
    a.channel ≡ channel → b.channel ≡ channel → (a.rec_out ≤ℤ b.rec_in) ⊎ (b.rec_out ≤ℤ a.rec_in)

-- the spans are those of the events on the channel, which share no frame
pub record Keeps (spans : BTreeMap ℤ ℤ) (channel : Channel) (events : List Event) : Type 0 where
  pub spans_apart : AreSpansApart spans
  pub has : All (λ event. event.channel ≡ channel → Has spans event.rec_in event.rec_out) events
  pub from : (start end : ℤ) → Has spans start end
      → Any (λ event. (event.channel ≡ channel) × (event.rec_in ≡ start)
      × (event.rec_out ≡ end)) events
  pub apart : AllPairs (AreApartOn channel) events

-- an overlap on the channel
pub record IsOverlapOn (channel : Channel) (events : List Event) (line : ℕ) : Type 0 where
  pub is : IsOverlap events line
  pub on : is.later.channel ≡ channel

-- the least line of an overlap on the channel
pub record IsFirstOn (channel : Channel) (events : List Event) (line : ℕ) : Type 0 where
  pub is : IsOverlapOn channel events line
  pub least : (other : ℕ) → IsOverlapOn channel events other → line ≤ other

-- what was found on the channel
abbrev pub FindsOn : Channel → List Event → Option ℕ → Type 0
FindsOn channel events found =
    MatchOption found (AllPairs (AreApartOn channel) events) (IsFirstOn channel events)

-- the lesser of two lines, where there are any
abbrev pub lesser_of : Option ℕ → Option ℕ → Option ℕ
lesser_of None b = b
lesser_of (Some a) None = Some a
lesser_of (Some a) (Some b) = if nat_lt b a then Some b else Some a

-- the events of the channel follow one another, and none ends behind this frame
pub record Follow (end : ℤ) (channel : Channel) (events : List Event) : Type 0 where
  pub behind : All (λ event. event.channel ≡ channel → event.rec_out ≤ℤ end) events
  pub apart : AllPairs (AreApartOn channel) events

-- the record span of an event, and its line
abbrev pub span_of : Event → (ℤ × ℤ) × ℕ
span_of event = ((event.rec_in, event.rec_out), event.line)

-- two spans share no frame
abbrev pub AreClear : (ℤ × ℤ) × ℕ → (ℤ × ℤ) × ℕ → Type 0
AreClear a b = (a.0.1 ≤ℤ b.0.0) ⊎ (b.0.1 ≤ℤ a.0.0)

-- the spans of the events on the channel are among these
abbrev pub HasSpans : Channel → List Event → List ((ℤ × ℤ) × ℕ) → Type 0
HasSpans channel events spans =
    All (λ event. event.channel ≡ channel → Contains spans (span_of event)) events

-- the spans are one behind another, and none ends behind this frame
pub record AreInTurn (end : ℤ) (spans : List ((ℤ × ℤ) × ℕ)) : Type 0 where
  pub behind : All (λ span. span.0.1 ≤ℤ end) spans
  pub clear : AllPairs AreClear spans
