-- Each step has one outcome.
use Rattle.std.proofs.Common.{◌≡◌, ◌≢◌, refl, sym, ap, subst, ◌∙◌, ◌⊎◌, inl, inr, ℕ, ℤ, Bool, true, false, List, Option, Some, None}
use Rattle.std.specs.Prelude.{pos, ◌*ℤ◌, filter}
use Rattle.tick_time.specs.declared.times.Time.{Time}
use Rattle.tick_time.proofs.SameValues.{same_time}
use Rattle.otio_model.specs.declared.timelines.Timeline.{Timeline}
use Rattle.otio_model.specs.Timelines.{bare}
use Rattle.edits.specs.After.{rate_of, frame_of}
use Rattle.smpte_tc.specs.declared.points.RecordPoint.{RecordPoint}
use Rattle.command_words.specs.declared.tools.TrackKind.{TrackKind}
use Rattle.command_words.specs.declared.tools.TrackKind.TheVariants.{Video, Audio}
use Rattle.command_words.specs.declared.tools.Flattening.{Flattening}
use Rattle.command_words.specs.declared.tools.Flattening.TheVariants as flattening
use Rattle.command_words.specs.declared.tools.Window.{Window}
use Rattle.flat.specs.declared.faults.Cause.{Cause}
use Rattle.flat.specs.declared.faults.Cause.TheVariants as C
use Rattle.flat.specs.declared.faults.FlatFault.{FlatFault}
use Rattle.flat.specs.declared.faults.FlatFault.TheVariants as F
use Rattle.flat.specs.Answers.{Names, Windows, WindowNames}
use Rattle.flat.specs.Blocked.{Blocks, IsFree, IsFirst}
use Rattle.flat.specs.Roots.{is_of, roots, with_roots}
use Rattle.flat.specs.Straight.{straight}
use Rattle.flat.specs.Pieces.{giver, longest, AreLongest, piece_items}
use Rattle.flat.specs.Flattened.{flat_track, has_kind, put_flat, IsFlattened as IsMadeFlat, unchanged, changed}
use Rattle.flat.specs.Windowed.{window_tracks, from_start, is_window, IsWindowed, WindowBlocks}
use Rattle.flat_law.proofs.Firsts.{first_flat, first_window}
use Rattle.flat_law.proofs.Ones.{flattened_one}
use Rattle.coord.proofs.Members.{same_some}
use Rattle.flat_stack.specs.declared.step_faults.ToolFault.{ToolFault}
use Rattle.flat_stack.specs.declared.step_faults.ToolFault.TheVariants.{At}
use Rattle.flat_stack.specs.Chains.{Then, Stops}
use Rattle.flat_stack.specs.Shaped.{kind_name, IsOnly, IsStraightened, record_frame, IsFromTo, IsNowhere, IsTrimmed, IsWindowFault, nowhere, refused, IsUntrimmed, IsFlat, IsFlatFault, IsFlattened, IsUnflat}

-- of what is the same one thing comes at most, or there is one fault
pub record IsSure {A B : Type 0} (key : A → B) (R : A → Timeline → Type 0)
    (F : A → ToolFault → Type 0) : Type 0 where
  pub one : (a b : A) (r q : Timeline) → key a ≡ key b → R a r → R b q → bare r ≡ bare q
  pub never : (a b : A) (r : Timeline) (f : ToolFault) → key a ≡ key b → R a r → F b f → ⊥
  pub fault : (a b : A) (f g : ToolFault) → key a ≡ key b → F a f → F b g → f ≡ g

-- a step that isn't refused
abbrev pub Never : Timeline → ToolFault → Type 0
Never t fault = ⊥

-- so it is of two steps, one after another
pub then_sure : {A B : Type 0} (key : A → B) (R : A → Timeline → Type 0)
    (F : A → ToolFault → Type 0) (S : Timeline → Timeline → Type 0)
    (G : Timeline → ToolFault → Type 0)
    → IsSure key R F → IsSure bare S G → IsSure key (Then R S) (Stops R F G)
then_sure {A = A} key R F S G first next = record {
  one = λ a b r q e x y. next.one x.0 y.0 r q (first.one a b x.0 y.0 e x.1 y.1) x.2 y.2;
  never = λ a b r f e x y. clash a b r f e x y;
  fault = λ a b f g e x y. same a b f g e x y;
}
  where
    clash : (a b : A) (r : Timeline) (f : ToolFault) → key a ≡ key b → Then R S a r
        → Stops R F G b f → ⊥
    clash a b r f e x (inl h) = first.never a b x.0 f e x.1 h
    clash a b r f e x (inr h) = next.never x.0 h.0 r f (first.one a b x.0 h.0 e x.1 h.1) x.2 h.2

    same : (a b : A) (f g : ToolFault) → key a ≡ key b → Stops R F G a f → Stops R F G b g → f ≡ g
    same a b f g e (inl h) (inl k) = first.fault a b f g e h k
    same a b f g e (inl h) (inr k) = absurd (first.never b a k.0 f (sym e) k.1 h)
    same a b f g e (inr h) (inl k) = absurd (first.never a b h.0 g e h.1 k)
    same a b f g e (inr h) (inr k) =
        next.fault h.0 k.0 f g (first.one a b h.0 k.0 e h.1 k.1) h.2 k.2

-- ---- the tracks of a kind, and transitions

only_one : (kind : Option TrackKind) (t u r q : Timeline) → bare t ≡ bare u → IsOnly kind t r
    → IsOnly kind u q → bare r ≡ bare q
only_one None t u r q e x y = x ∙ e ∙ sym y
only_one (Some kind) t u r q e x y =
    x ∙ ap (λ (z : Timeline). bare (with_roots (filter (is_of (kind_name kind)) (roots z)) z)) e
    ∙ sym y

pub only_sure : (kind : Option TrackKind) → IsSure bare (IsOnly kind) Never
only_sure kind = record {
  one = only_one kind;
  never = λ t u r f e x y. y;
  fault = λ t u f g e x y. absurd x;
}

straight_one : (asked : Bool) (t u r q : Timeline) → bare t ≡ bare u → IsStraightened asked t r
    → IsStraightened asked u q → bare r ≡ bare q
straight_one false t u r q e x y = x ∙ e ∙ sym y
straight_one true t u r q e x y =
    x ∙ ap (λ (z : Timeline). bare (record z {
      tracks = record z.tracks { children = straight z.tracks.children };
    })) e ∙ sym y

pub straight_sure : (asked : Bool) → IsSure bare (IsStraightened asked) Never
straight_sure asked = record {
  one = straight_one asked;
  never = λ t u r f e x y. y;
  fault = λ t u f g e x y. absurd x;
}

-- ---- a fault by its place and its cause

abbrev pub placed : List ℕ → Cause → FlatFault
placed place C.Nested = F.Nested place
placed place C.Crossing = F.Transition place
placed place C.Phase = F.Phase place

pub record IsPlaced (has : List ℕ → Cause → Type 0) (f : FlatFault) : Type 0 where
  pub place : List ℕ
  pub cause : Cause
  pub is : f ≡ placed place cause
  pub first : IsFirst has place cause

pub names_placed : (has : List ℕ → Cause → Type 0) (f : FlatFault) → f ≢ F.Memory → Names has f
    → IsPlaced has f
names_placed has (F.Nested place) n h = record {
  place = place;
  cause = C.Nested;
  is = refl;
  first = h;
}
names_placed has (F.Transition place) n h = record {
  place = place;
  cause = C.Crossing;
  is = refl;
  first = h;
}
names_placed has (F.Phase place) n h = record {
  place = place;
  cause = C.Phase;
  is = refl;
  first = h;
}
names_placed has F.Range n h = absurd h
names_placed has F.Memory n h = absurd (n refl)

pub placed_same : (f g : FlatFault) (p q : List ℕ) (c d : Cause) → f ≡ placed p c → g ≡ placed q d
    → (p ≡ q) × (c ≡ d) → f ≡ g
placed_same f g p q c d x y e =
    x ∙ ap (λ l. placed l c) e.0 ∙ ap (placed q) e.1 ∙ sym y

pub placed_never : (has : List ℕ → Cause → Type 0) (f : FlatFault) → IsFree has → IsPlaced has f
    → ⊥
placed_never has f free h = free h.place h.cause h.first.there

-- ---- a window

frames_one : (t u : Timeline) (point : RecordPoint) (a b : ℤ) → bare t ≡ bare u
    → record_frame t point ≡ Some a → record_frame u point ≡ Some b → a ≡ b
frames_one t u point a b e x y =
    same_some a b (sym x ∙ ap (λ (z : Timeline). record_frame z point) e ∙ y)

frames_none : (t u : Timeline) (point : RecordPoint) (a : ℤ) → bare t ≡ bare u
    → record_frame t point ≡ Some a → record_frame u point ≡ None → ⊥
frames_none t u point a e x y = absurd (cc (sym x
    ∙ ap (λ (z : Timeline). record_frame z point) e ∙ y))

nowhere_never : (t u : Timeline) (window : Window) (a b : ℤ) → bare t ≡ bare u
    → IsFromTo t window a b → IsNowhere u window → ⊥
nowhere_never t u window a b e x (inl y) = frames_none t u window.start a e x.start y
nowhere_never t u window a b e x (inr y) = frames_none t u window.end b e x.end y

windows_one : (t u r q : Timeline) (a b : ℤ) → bare t ≡ bare u → IsWindowed t a b r
    → IsWindowed u a b q → bare r ≡ bare q
windows_one t u r q a b e x y =
    let tracks : x.tracks ≡ y.tracks = same_some x.tracks y.tracks (sym x.are
    ∙ ap (λ (z : Timeline). window_tracks (rate_of z) (from_start z a) (from_start z b) (roots z)) e
    ∙ y.are) in
    let start : x.start ≡ y.start = same_time x.start y.start
    (x.ticks ∙ ap (λ (z : Timeline). a *ℤ frame_of z) e ∙ sym y.ticks)
    (x.rate ∙ ap rate_of e ∙ sym y.rate) in
    x.is
    ∙ ap (λ l. bare (record (with_roots l t) { global_start_time = Some x.start })) tracks
    ∙ ap (λ (s : Time). bare (record (with_roots y.tracks t) { global_start_time = Some s })) start
    ∙ ap (λ (z : Timeline). bare (record (with_roots y.tracks z) {
      global_start_time = Some y.start;
    })) e
    ∙ sym y.is

-- the window that is meant is one
same_window : (t u : Timeline) (window : Window) (a b c d : ℤ) (P : ℤ → ℤ → Type 0)
    → bare t ≡ bare u → IsFromTo t window a b → IsFromTo u window c d → P c d → P a b
same_window t u window a b c d P e x y h =
    subst (λ i. P i b) (sym (frames_one t u window.start a c e x.start y.start))
    (subst (λ j. P c j) (sym (frames_one t u window.end b d e x.end y.end)) h)

trimmed_one : (asked : Option Window) (t u r q : Timeline) → bare t ≡ bare u
    → IsTrimmed asked t r → IsTrimmed asked u q → bare r ≡ bare q
trimmed_one None t u r q e x y = x ∙ e ∙ sym y
trimmed_one (Some window) t u r q e x y =
    windows_one t u r q x.0 x.1 e x.3.is
    (same_window t u window x.0 x.1 y.0 y.1 (λ a b. IsWindowed u a b q) e x.2 y.2 y.3.is)

-- what refuses a window, by its range or by its place
abbrev IsOut : Timeline → ℤ → ℤ → FlatFault → Type 0
IsOut t a b f = (f ≡ F.Range) × (is_window t a b ≡ false)

abbrev blocks : Timeline → ℤ → ℤ → List ℕ → Cause → Type 0
blocks t a b = WindowBlocks (roots t) (from_start t a) (from_start t b)

abbrev IsIn : Timeline → ℤ → ℤ → FlatFault → Type 0
IsIn t a b f = (is_window t a b ≡ true) × IsPlaced (blocks t a b) f

window_placed : (t : Timeline) (a b : ℤ) (f : FlatFault) → f ≢ F.Memory → WindowNames t a b f
    → IsOut t a b f ⊎ IsIn t a b f
window_placed t a b (F.Nested place) n h =
    inr (h.0, record { place = place; cause = C.Nested; is = refl; first = h.1 })
window_placed t a b (F.Transition place) n h = absurd h
window_placed t a b (F.Phase place) n h =
    inr (h.0, record { place = place; cause = C.Phase; is = refl; first = h.1 })
window_placed t a b F.Range n h = inl (refl, h)
window_placed t a b F.Memory n h = absurd (n refl)

window_never : (t u r : Timeline) (a b : ℤ) (f : FlatFault) → bare t ≡ bare u → Windows t a b r
    → f ≢ F.Memory → WindowNames u a b f → ⊥
window_never t u r a b f e x n h = of (window_placed u a b f n h)
  where
    of : IsOut u a b f ⊎ IsIn u a b f → ⊥
    of (inl k) = cc (sym x.range ∙ ap (λ (z : Timeline). is_window z a b) e ∙ k.1)
    of (inr k) = placed_never (blocks u a b) f
        (subst (λ (z : Timeline). IsFree (blocks z a b)) e x.free) k.1

window_fault : (t u : Timeline) (a b : ℤ) (f g : FlatFault) → bare t ≡ bare u → f ≢ F.Memory
    → g ≢ F.Memory → WindowNames t a b f → WindowNames u a b g → f ≡ g
window_fault t u a b f g e n m h k = of (window_placed t a b f n h) (window_placed u a b g m k)
  where
    ranges : is_window t a b ≡ is_window u a b
    ranges = ap (λ (z : Timeline). is_window z a b) e

    of : IsOut t a b f ⊎ IsIn t a b f → IsOut u a b g ⊎ IsIn u a b g → f ≡ g
    of (inl x) (inl y) = x.0 ∙ sym y.0
    of (inl x) (inr y) = absurd (cc (sym x.1 ∙ ranges ∙ y.0))
    of (inr x) (inl y) = absurd (cc (sym x.0 ∙ ranges ∙ y.1))
    of (inr x) (inr y) =
        let p = x.1 in
        let q = y.1 in
        let there : IsFirst (blocks u a b) p.place p.cause =
        subst (λ (z : Timeline). IsFirst (blocks z a b) p.place p.cause) e p.first in
        placed_same f g p.place q.place p.cause q.cause p.is q.is
        (first_window (roots u) (from_start u a) (from_start u b) p.place q.place p.cause q.cause
        there q.first)

cut_never : (t u r : Timeline) (window : Window) (f : ToolFault) → bare t ≡ bare u
    → IsTrimmed (Some window) t r → IsWindowFault u window f → ⊥
cut_never t u r window f e x (nowhere h k) = nowhere_never t u window x.0 x.1 e x.2 h
cut_never t u r window f e x (refused a b m why n h k) =
    window_never t u r x.0 x.1 why e x.3 n
    (same_window t u window x.0 x.1 a b (λ i j. WindowNames u i j why) e x.2 m h)

cut_fault : (t u : Timeline) (window : Window) (f g : ToolFault) → bare t ≡ bare u
    → IsWindowFault t window f → IsWindowFault u window g → f ≡ g
cut_fault t u window f g e (nowhere h k) (nowhere x y) = k ∙ sym y
cut_fault t u window f g e (nowhere h k) (refused a b m why n x y) =
    absurd (nowhere_never u t window a b (sym e) m h)
cut_fault t u window f g e (refused a b m why n x y) (nowhere h k) =
    absurd (nowhere_never t u window a b e m h)
cut_fault t u window f g e (refused a b m why n x y) (refused c d i also j h k) =
    y ∙ ap (At 0) (window_fault t u a b why also e n j x
    (same_window t u window a b c d (λ v w. WindowNames u v w also) e m i h)) ∙ sym k

trim_never : (asked : Option Window) (t u r : Timeline) (f : ToolFault) → bare t ≡ bare u
    → IsTrimmed asked t r → IsUntrimmed asked u f → ⊥
trim_never None t u r f e x y = y
trim_never (Some window) t u r f e x y = cut_never t u r window f e x y

trim_fault : (asked : Option Window) (t u : Timeline) (f g : ToolFault) → bare t ≡ bare u
    → IsUntrimmed asked t f → IsUntrimmed asked u g → f ≡ g
trim_fault None t u f g e x y = absurd x
trim_fault (Some window) t u f g e x y = cut_fault t u window f g e x y

pub trim_sure : (asked : Option Window) → IsSure bare (IsTrimmed asked) (IsUntrimmed asked)
trim_sure asked = record {
  one = trimmed_one asked;
  never = trim_never asked;
  fault = trim_fault asked;
}

-- ---- flat tracks

flat_moved : (t u q : Timeline) (kind : List ℕ) (keep : Bool) → bare t ≡ bare u
    → IsMadeFlat u kind keep q → IsMadeFlat t kind keep q
flat_moved t u q kind keep e (unchanged h g) =
    unchanged (ap (λ (z : Timeline). has_kind kind (roots z)) e ∙ h) (g ∙ sym e)
flat_moved t u q kind keep e (changed items h a g) =
    changed items (ap (λ (z : Timeline). has_kind kind (roots z)) e ∙ h)
    (record {
      pieces = a.pieces;
      are = subst (λ (z : Timeline).
          AreLongest (giver 0 kind (roots z)) (longest kind (roots z)) (pos 0) a.pieces) (sym e)
          a.are;
      made = ap (λ (z : Timeline). piece_items (rate_of z) a.pieces) e ∙ a.made;
    })
    (g ∙ ap (λ (z : Timeline).
    bare (with_roots (put_flat keep kind (flat_track kind items) (roots z)) z)) (sym e))

flat_one : (kind : TrackKind) (keep : Bool) (t u r q : Timeline) → bare t ≡ bare u
    → IsFlat kind keep t r → IsFlat kind keep u q → bare r ≡ bare q
flat_one kind keep t u r q e x y =
    flattened_one t r q (kind_name kind) keep x.is
    (flat_moved t u q (kind_name kind) keep e y.is)

flat_never : (kind : TrackKind) (keep : Bool) (t u r : Timeline) (f : ToolFault) → bare t ≡ bare u
    → IsFlat kind keep t r → IsFlatFault kind u f → ⊥
flat_never kind keep t u r f e x y =
    placed_never (Blocks (kind_name kind) (roots u)) y.0
    (subst (λ (z : Timeline). IsFree (Blocks (kind_name kind) (roots z))) e x.free)
    (names_placed (Blocks (kind_name kind) (roots u)) y.0 y.1 y.2)

flat_fault : (kind : TrackKind) (t u : Timeline) (f g : ToolFault) → bare t ≡ bare u
    → IsFlatFault kind t f → IsFlatFault kind u g → f ≡ g
flat_fault kind t u f g e x y =
    let p = names_placed (Blocks (kind_name kind) (roots t)) x.0 x.1 x.2 in
    let q = names_placed (Blocks (kind_name kind) (roots u)) y.0 y.1 y.2 in
    let there : IsFirst (Blocks (kind_name kind) (roots u)) p.place p.cause =
    subst (λ (z : Timeline). IsFirst (Blocks (kind_name kind) (roots z)) p.place p.cause) e
    p.first in
    x.3 ∙ ap (At 0) (placed_same x.0 y.0 p.place q.place p.cause q.cause p.is q.is
    (first_flat (kind_name kind) (roots u) p.place q.place p.cause q.cause there q.first))
    ∙ sym y.3

kind_sure : (kind : TrackKind) (keep : Bool) → IsSure bare (IsFlat kind keep) (IsFlatFault kind)
kind_sure kind keep = record {
  one = flat_one kind keep;
  never = flat_never kind keep;
  fault = flat_fault kind;
}

none_sure : IsSure bare (λ (t r : Timeline). bare r ≡ bare t) Never
none_sure = record {
  one = λ t u r q e x y. x ∙ e ∙ sym y;
  never = λ t u r f e x y. y;
  fault = λ t u f g e x y. absurd x;
}

abbrev IsSureFlat : Option Flattening → Bool → Type 0
IsSureFlat asked keep = IsSure bare (IsFlattened asked keep) (IsUnflat asked keep)

pub flat_sure : (asked : Option Flattening) (keep : Bool) → IsSureFlat asked keep
flat_sure None keep = none_sure
flat_sure (Some flattening.Video) keep = kind_sure Video keep
flat_sure (Some flattening.Audio) keep = kind_sure Audio keep
flat_sure (Some flattening.All) keep =
    then_sure bare (IsFlat Video keep) (IsFlatFault Video) (IsFlat Audio keep) (IsFlatFault Audio)
    (kind_sure Video keep) (kind_sure Audio keep)
