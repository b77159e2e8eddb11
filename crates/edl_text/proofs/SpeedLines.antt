-- What is kept when an M2 line is taken, and its faults.
use Rattle.std.proofs.Common.{◌≡◌, ℕ, Bool, true, false, not, List, [], ◌∷◌, Option, Some, None, is_none, refl, sym, ap, subst, ◌∙◌}
use Rattle.tick_time.specs.declared.rates.Rate.{Rate}
use Rattle.edl_text.specs.Statements.{Statement, SpeedLine, Speed}
use Rattle.edl_list.specs.declared.list.Event.{Event}
use Rattle.edl_text.specs.declared.faults.EdlFault.{EdlFault}
use Rattle.edl_text.specs.declared.faults.EdlFault.TheVariants.{Form, Timecode, Reverse}
use Rattle.edl_text.specs.declared.open_event.Pending.{Pending}
use Rattle.edl_text.specs.declared.list_so_far.Said.{Said}
use Rattle.smpte_tc.specs.Frames.{label_frame}
use Rattle.edl_text.specs.Past.{Block, line_behind, mode_in, blocks_in, noted}
use Rattle.edl_text.specs.Sides.{reel_of}
use Rattle.edl_text.specs.Events.{events_of}
use Rattle.edl_text.specs.Lines.{has_side, first_of, fault_behind}
use Rattle.edl_text.specs.StateSaid.{Hold, Stands, StandsAtNext, sped_up}
use Rattle.edl_text.proofs.Taking.{KeepsRest, noted_more, held}
use Rattle.edl_text.proofs.Speeding.{Outcome, outcome}

-- what becomes of the event lines
Found : Rate → SpeedLine → Option Pending → List Event → List Block → Type 0
Found rate s None events blocks = has_side (reel_of s.reel) blocks ≡ false
Found rate s (Some q) events blocks = (has_side (reel_of s.reel) blocks ≡ true) × Hold rate (Some q) events (noted (Speed s) blocks)

found_by : (rate : Rate) (s : SpeedLine) (o : Option Pending) (events : List Event) (block : Block) (before : List Block) → Outcome rate s o block before → events ≡ events_of rate before
    → Found rate s o events (block ∷ before)
unfolding Found
found_by rate s None events block before h e = h
found_by rate s (Some q) events block before h e = (h.0, (h.1, e))

found : (rate : Rate) (s : SpeedLine) (p : Pending) (events : List Event) (blocks : List Block) (o : Option Pending) → sped_up (reel_of s.reel) s.tenths p ≡ o → Hold rate (Some p) events blocks
    → Found rate s o events blocks
found rate s p events [] o e h = absurd h
found rate s p events (block ∷ before) o e h =
    found_by rate s o events block before (subst (λ (x : Option Pending). Outcome rate s x block before) e (outcome rate s p block before h.0)) h.1

-- the three tests
tests : (a b r : Bool) (form code back : EdlFault) → Option EdlFault
tests a b r form code back = first_of ((not a, form) ∷ (b, code) ∷ (r, back) ∷ [])

behind : (rate : Rate) (past : List Statement) (s : SpeedLine) (a b : Bool) → has_side (reel_of s.reel) (blocks_in past) ≡ a → is_none (label_frame rate (mode_in past) s.label) ≡ b
    → fault_behind rate past (Speed s) ≡ tests a b s.reverse (Form (line_behind past)) (Timecode (line_behind past)) (Reverse (line_behind past))
unfolding tests
behind rate past s a b e f = rw (e, f) refl

pub speed_wrong : (rate : Rate) (past : List Statement) (s : SpeedLine) (old : Said) (p : Pending) → StandsAtNext rate past old → Some p ≡ old.pending → sped_up (reel_of s.reel) s.tenths p ≡ None
    → fault_behind rate past (Speed s) ≡ Some (Form old.line)
unfolding Found tests
speed_wrong rate past s old p h e o =
    let none : has_side (reel_of s.reel) (blocks_in past) ≡ false = found rate s p old.events.items (blocks_in past) None o (held rate past old p h e) in
    behind rate past s false (is_none (label_frame rate (mode_in past) s.label)) none refl ∙ ap (λ n. Some (Form n)) (sym h.line)

same_frame : (rate : Rate) (past : List Statement) (s : SpeedLine) (old : Said) (b : Bool) → StandsAtNext rate past old → is_none (label_frame old.rate old.drop s.label) ≡ b
    → is_none (label_frame rate (mode_in past) s.label) ≡ b
same_frame rate past s old b h e = ap (λ d. is_none (label_frame rate d s.label)) (sym h.holds.drop) ∙ ap (λ (r : Rate). is_none (label_frame r old.drop s.label)) (sym h.holds.counted) ∙ e

pub speed_unread : (rate : Rate) (past : List Statement) (s : SpeedLine) (old : Said) (p q : Pending) → StandsAtNext rate past old → Some p ≡ old.pending → sped_up (reel_of s.reel) s.tenths p ≡ Some q
    → is_none (label_frame old.rate old.drop s.label) ≡ true → fault_behind rate past (Speed s) ≡ Some (Timecode old.line)
unfolding Found tests
speed_unread rate past s old p q h e o f =
    let has : has_side (reel_of s.reel) (blocks_in past) ≡ true = (found rate s p old.events.items (blocks_in past) (Some q) o (held rate past old p h e)).0 in
    behind rate past s true true has (same_frame rate past s old true h f) ∙ ap (λ n. Some (Timecode n)) (sym h.line)

turned : (r : Bool) (n : ℕ) → r ≡ true → tests true false r (Form n) (Timecode n) (Reverse n) ≡ Some (Reverse n)
unfolding tests
turned r n e = rw e refl

pub speed_reverse : (rate : Rate) (past : List Statement) (s : SpeedLine) (old : Said) (p q : Pending) → StandsAtNext rate past old → Some p ≡ old.pending → sped_up (reel_of s.reel) s.tenths p ≡ Some q
    → is_none (label_frame old.rate old.drop s.label) ≡ false → s.reverse ≡ true → fault_behind rate past (Speed s) ≡ Some (Reverse old.line)
unfolding Found
speed_reverse rate past s old p q h e o f g =
    let has : has_side (reel_of s.reel) (blocks_in past) ≡ true = (found rate s p old.events.items (blocks_in past) (Some q) o (held rate past old p h e)).0 in
    behind rate past s true false has (same_frame rate past s old false h f) ∙ turned s.reverse (line_behind past) g ∙ ap (λ n. Some (Reverse n)) (sym h.line)

straight : (r : Bool) (n : ℕ) → r ≡ false → tests true false r (Form n) (Timecode n) (Reverse n) ≡ None
unfolding tests
straight r n e = rw e refl

pub took_speed : (rate : Rate) (past : List Statement) (s : SpeedLine) (old new : Said) (p q : Pending) → StandsAtNext rate past old → Some p ≡ old.pending → sped_up (reel_of s.reel) s.tenths p ≡ Some q
    → is_none (label_frame old.rate old.drop s.label) ≡ false → s.reverse ≡ false → KeepsRest old new (Some q) → (fault_behind rate past (Speed s) ≡ None) × Stands rate (Speed s ∷ past) new
unfolding Found
took_speed rate past s old new p q h e o f g k =
    let made = found rate s p old.events.items (blocks_in past) (Some q) o (held rate past old p h e) in (
      behind rate past s true false made.0 (same_frame rate past s old false h f) ∙ straight s.reverse (line_behind past) g,
      noted_more rate past (Speed s) old new (Some q) h k refl refl refl made.1,
    )
