-- The events that written event lines give.
use Rattle.std.proofs.Common.{◌≡◌, ◌<◌, ◌≤◌, ◌==◌, ◌&&◌, ◌||◌, ◌+◌, ◌-◌, ℕ, ℤ, pos, ◌≤ℤ◌, ◌<ℤ◌, ◌+ℤ◌, Bool, true, false, not, is_some, nat_lt, List, [], ◌∷◌, Some, None, Option, map, unwrap_or, unsigned_abs, if◌then◌else◌, refl, ap, ap₂, ◌∙◌, arith}
use Rattle.std.proofs.lemmas.Int.{ints}
use Rattle.tick_time.specs.declared.rates.Rate.{Rate}
use Rattle.edl_text.specs.Statements.{Statement}
use Rattle.edl_list.specs.declared.list.Channel.{Channel}
use Rattle.edl_list.specs.declared.list.Reel.{Reel}
use Rattle.edl_list.specs.declared.list.Cross.{Cross}
use Rattle.edl_list.specs.declared.list.Cross.TheVariants.{Cut}
use Rattle.edl_list.specs.declared.list.Event.{Event}
use Rattle.edl_list.specs.Speeds.{side_speed}
use Rattle.edl_list.specs.Alike.{IsSameCross}
use Rattle.edl_text.specs.Columns.{label_text}
use Rattle.edl_list.specs.Labelled.{IsBelowDay}
use Rattle.edl_text.specs.declared.faults.EdlFault.TheVariants.{Form, Timecode, Order}
use Rattle.smpte_tc.specs.Frames.{label_frame}
use Rattle.edl_text.specs.Past.{Block}
use Rattle.edl_text.specs.Sides.{record_in, record_out, has_labels, is_cut, duration}
use Rattle.edl_text.specs.Events.{event_on, events_at, channels_of}
use Rattle.edl_text.specs.Lines.{event_fault, follows_cut, runs_back, misses, are_same_channels}
use Rattle.edl_law.proofs.StatementLemmas.{said_event, said_channels, said_kind}
use Rattle.edl_law.proofs.LabelLemmas.{frame_low, frame_known}
use Rattle.edl_law.proofs.TestLemmas.{none_of_four, not_less, same_number, other_number, same_channels, channel_read}
use Rattle.edl_law.proofs.NoteLemmas.{block}

-- what an event that is read has in common with the one that was written
pub record Matches (rate : Rate) (event read : Event) : Type 0 where
  pub channel : read.channel ≡ event.channel
  pub rec_in : read.rec_in ≡ event.rec_in
  pub rec_out : read.rec_out ≡ event.rec_out
  pub src_in : read.to.src_in ≡ event.to.src_in
  pub src_out : read.to.src_out ≡ event.to.src_out
  pub reel : event.to.reel ≡ read.to.reel
  pub speed : side_speed rate event.to ≡ side_speed rate read.to
  pub cross : IsSameCross rate event.cross read.cross

-- the frame of a written label
pub at_label : (rate : Rate) (drop : Bool) (n : ℤ) → IsBelowDay rate drop n → unwrap_or (label_frame rate drop (label_text rate drop n)) 0 ≡ unsigned_abs n
at_label rate drop n h = ap (λ o. unwrap_or o 0) (frame_known rate drop n h)

pub frame_back : (rate : Rate) (drop : Bool) (n : ℤ) → IsBelowDay rate drop n → pos (unwrap_or (label_frame rate drop (label_text rate drop n)) 0) ≡ n
frame_back rate drop n h = ap pos (at_label rate drop n h) ∙ frame_low rate drop n h

pub no_later : (rate : Rate) (drop : Bool) (m n : ℤ) → IsBelowDay rate drop m → IsBelowDay rate drop n → m ≤ℤ n → unsigned_abs m ≤ unsigned_abs n
no_later rate drop m n p q h = let a = frame_low rate drop m p in let b = frame_low rate drop n q in omega (arith, ints, a, b, h)

pub earlier : (rate : Rate) (drop : Bool) (m n : ℤ) → IsBelowDay rate drop m → IsBelowDay rate drop n → m <ℤ n → unsigned_abs m < unsigned_abs n
earlier rate drop m n p q h = let a = frame_low rate drop m p in let b = frame_low rate drop n q in omega (arith, ints, a, b, h)

four_some : (o p q r : Option ℕ) (a b c d : ℕ) → o ≡ Some a → p ≡ Some b → q ≡ Some c → r ≡ Some d → not (is_some o && (is_some p && (is_some q && (is_some r && true)))) ≡ false
four_some o p q r a b c d e f g h = rw (e, f, g, h) refl

runs_by : (a b c d m n k l : ℕ) → a ≡ m → b ≡ n → c ≡ k → d ≡ l → m ≤ n → k ≤ l → (nat_lt b a || nat_lt d c) ≡ false
runs_by a b c d m n k l e f g h p q = rw (not_less b a (omega (arith, e, f, p)), not_less d c (omega (arith, g, h, q))) refl

misses_cut : (rate : Rate) (line : ℕ) (drop : Bool) (number : ℕ) (reel : Reel) (channel : Channel) (a b c d : List ℕ) (notes : List Statement) (before : List Block)
    → misses rate (block line drop (said_event number reel channel Cut a b c d) notes) before ≡ false
misses_cut rate line drop number reel channel a b c d notes [] = refl
misses_cut rate line drop number reel channel a b c d notes (first ∷ before) = refl

-- a `C` line is sound
pub cut_sound : (rate : Rate) (drop : Bool) (line number : ℕ) (reel : Reel) (channel : Channel) (w x y z : ℤ) (notes : List Statement) (before : List Block)
    → IsBelowDay rate drop w → IsBelowDay rate drop x → IsBelowDay rate drop y → IsBelowDay rate drop z → w ≤ℤ x → y ≤ℤ z
    → event_fault rate line (block line drop (said_event number reel channel Cut (label_text rate drop w) (label_text rate drop x) (label_text rate drop y) (label_text rate drop z)) notes) before ≡ None
cut_sound rate drop line number reel channel w x y z notes before p q r s source record_span =
    let says = said_event number reel channel Cut (label_text rate drop w) (label_text rate drop x) (label_text rate drop y) (label_text rate drop z) in
    let one = block line drop says notes in
    none_of_four (not (is_cut one.says.kind) && not (follows_cut one before)) (not (has_labels rate one)) (runs_back rate one) (misses rate one before) (Form line) (Timecode line) (Order line) (Order line)
    refl
    (four_some _ _ _ _ _ _ _ _ (frame_known rate drop w p) (frame_known rate drop x q) (frame_known rate drop y r) (frame_known rate drop z s))
    (runs_by _ _ _ _ _ _ _ _ (at_label rate drop w p) (at_label rate drop x q) (at_label rate drop y r) (at_label rate drop z s) (no_later rate drop w x p q source) (no_later rate drop y z r s record_span))
    (misses_cut rate line drop number reel channel (label_text rate drop w) (label_text rate drop x) (label_text rate drop y) (label_text rate drop z) notes before)

follows_by : (n : ℕ) (channel : Channel) → (true && (n == n) && are_same_channels (said_channels channel) (said_channels channel)) ≡ true
follows_by n channel = rw (same_number n, same_channels channel) refl

form_by : (c f : Bool) → f ≡ true → (not c && not f) ≡ false
form_by true f e = refl
form_by false f e = rw e refl

misses_by : (c e l : Bool) → e ≡ true → l ≡ false → (c && (not e || l)) ≡ false
misses_by true e l p q = rw (p, q) refl
misses_by false e l p q = refl

meets_by : (a b n : ℕ) → a ≡ n → b ≡ n → (a == b) ≡ true
meets_by a b n e f = rw (e, f) (same_number n)

lasts_by : (a b c m n frames : ℕ) → a ≡ m → b ≡ n → c ≡ frames → m + frames ≤ n → nat_lt (b - a) c ≡ false
lasts_by a b c m n frames e f g h = not_less (b - a) c (omega (arith, e, f, g, h))

-- the second line of a pair is sound behind its first one
pub pair_sound : (rate : Rate) (drop : Bool) (line first number frames : ℕ) (reel other : Reel) (channel : Channel) (cross : Cross) (v w x y z : ℤ) (notes : List Statement) (before : List Block)
    → IsBelowDay rate drop v → IsBelowDay rate drop w → IsBelowDay rate drop x → IsBelowDay rate drop y → IsBelowDay rate drop z → w ≤ℤ x → y ≤ℤ z
    → duration (said_kind cross) ≡ frames → (y +ℤ pos frames) ≤ℤ z
    → event_fault rate line (block line drop (said_event number reel channel cross (label_text rate drop w) (label_text rate drop x) (label_text rate drop y) (label_text rate drop z)) notes)
    (block first drop (said_event number other channel Cut (label_text rate drop v) (label_text rate drop v) (label_text rate drop y) (label_text rate drop y)) [] ∷ before) ≡ None
pair_sound rate drop line first number frames reel other channel cross v w x y z notes before o p q r s source record_span lasts inside =
    let says = said_event number reel channel cross (label_text rate drop w) (label_text rate drop x) (label_text rate drop y) (label_text rate drop z) in
    let one = block line drop says notes in
    let earlier_one = block first drop (said_event number other channel Cut (label_text rate drop v) (label_text rate drop v) (label_text rate drop y) (label_text rate drop y)) [] in
    let low = frame_low rate drop y r in
    let high = frame_low rate drop z s in
    none_of_four (not (is_cut one.says.kind) && not (follows_cut one (earlier_one ∷ before))) (not (has_labels rate one)) (runs_back rate one) (misses rate one (earlier_one ∷ before)) (Form line) (Timecode line) (Order line) (Order line)
    (form_by (is_cut (said_kind cross)) _ (follows_by number channel))
    (four_some _ _ _ _ _ _ _ _ (frame_known rate drop w p) (frame_known rate drop x q) (frame_known rate drop y r) (frame_known rate drop z s))
    (runs_by _ _ _ _ _ _ _ _ (at_label rate drop w p) (at_label rate drop x q) (at_label rate drop y r) (at_label rate drop z s) (no_later rate drop w x p q source) (no_later rate drop y z r s record_span))
    (misses_by (not (is_cut (said_kind cross))) (record_out rate earlier_one == record_in rate one) (nat_lt (record_out rate one - record_in rate one) (duration (said_kind cross)))
    (meets_by (record_out rate earlier_one) (record_in rate one) (unsigned_abs y) (at_label rate drop y r) (at_label rate drop y r))
    (lasts_by (record_in rate one) (record_out rate one) (duration (said_kind cross)) (unsigned_abs y) (unsigned_abs z) frames (at_label rate drop y r) (at_label rate drop z s) lasts (omega (arith, ints, low, high, inside))))

picks : (p : Bool) (f : Channel → Event) (channels : List Channel) (channel : Channel) → p ≡ false → channels ≡ channel ∷ [] → (if p then [] else map f channels) ≡ f channel ∷ []
picks p f channels channel e g = rw (e, g) refl

none_picked : (p : Bool) (events : List Event) → p ≡ true → (if p then [] else events) ≡ []
none_picked p events e = rw e refl

-- a line of a record length above 0 gives one event
pub events_one : (rate : Rate) (drop : Bool) (line number : ℕ) (reel : Reel) (channel : Channel) (cross : Cross) (a b : List ℕ) (y z : ℤ) (notes : List Statement) (before : List Block)
    → IsBelowDay rate drop y → IsBelowDay rate drop z → y <ℤ z
    → let one = block line drop (said_event number reel channel cross a b (label_text rate drop y) (label_text rate drop z)) notes in
    events_at rate one before ≡ event_on rate one before channel ∷ []
events_one rate drop line number reel channel cross a b y z notes before r s less =
    let one = block line drop (said_event number reel channel cross a b (label_text rate drop y) (label_text rate drop z)) notes in
    picks (record_in rate one == record_out rate one) (event_on rate one before) (channels_of (said_channels channel)) channel
    (ap₂ (λ m n. m == n) (at_label rate drop y r) (at_label rate drop z s) ∙ other_number (unsigned_abs y) (unsigned_abs z) (earlier rate drop y z r s less))
    (channel_read channel)

-- and one of record length 0 gives none
pub events_none : (rate : Rate) (drop : Bool) (line number : ℕ) (reel : Reel) (channel : Channel) (cross : Cross) (a b c : List ℕ) (notes : List Statement) (before : List Block)
    → events_at rate (block line drop (said_event number reel channel cross a b c c) notes) before ≡ []
events_none rate drop line number reel channel cross a b c notes before =
    let one = block line drop (said_event number reel channel cross a b c c) notes in
    none_picked (record_in rate one == record_out rate one) (map (event_on rate one before) (channels_of (said_channels channel))) (same_number (record_in rate one))
