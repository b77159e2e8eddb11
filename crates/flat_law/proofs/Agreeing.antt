-- The frame laws with the media's rates set aside.
use Rattle.std.proofs.Common.{◌≡◌, refl, sym, ap, ◌∙◌, ℕ, zero, suc, ℤ, pos, ◌≤ℤ◌, ◌<ℤ◌, ◌&&◌, Bool, true, false, Some, cond, List, [], ◌∷◌, map}
use Rattle.std.specs.Prelude.{slice_get}
use Rattle.otio_model.specs.declared.compositions.ItemOf.{ItemOf}
use Rattle.otio_model.specs.declared.compositions.ItemOf.TheVariants.{Clip, Gap, Transition, Stack, Track}
use Rattle.otio_model.specs.declared.compositions.TrackOf.{TrackOf}
use Rattle.otio_model.specs.declared.compositions.Listed.{Listed}
use Rattle.otio_model.specs.declared.timelines.Timeline.{Timeline}
use Rattle.otio_model.specs.Trees.{listed, items_of}
use Rattle.otio_model.specs.Lengths.{sum_of}
use Rattle.coord.specs.Agreement.{unrated, Agree}
use Rattle.coord.specs.Looks.{Show, Blank, FrameRate, is_blank, list_shows, total}
use Rattle.otio_model.specs.Overlaps.{within}
use Rattle.coord.specs.Sights.{viewer, sight, looks, lengths_seen}
use Rattle.coord.specs.Soundness.{IsFaultless}
use Rattle.coord.specs.Programs.{child_shows, shown_by, at, program, rate_24, start_frame, instant}
use Rattle.coord.proofs.AgreementLemmas.{blank_same, cond_same, program_agrees}
use Rattle.flat.specs.Roots.{is_layer, roots, with_roots}
use Rattle.flat.specs.Blocked.{IsFree, Blocks}
use Rattle.flat.specs.Flattened.{IsFlattened, has_kind, flat_index, top_shows}
use Rattle.flat.specs.Windowed.{stripped, from_start, IsWindowed, WindowBlocks, window_shows}
use Rattle.flat_law.proofs.Fair.{HasFair}
use Rattle.flat_law.proofs.Givers.{IsBare, bare_of}
use Rattle.flat_law.proofs.Flat.{items-listed, flattened}
use Rattle.flat_law.proofs.CutOut.{AreKnown, known_sum, known_strip, any_plain}
use Rattle.flat_law.proofs.Windowed.{windowed, IsPlainTrack, ArePlainTracks, plain_tracks, total_stripped}

-- all rates
abbrev whole : FrameRate → FrameRate
whole rate = rate

-- one rate
abbrev one : FrameRate → FrameRate
one rate = rate_24

-- any item can be a root child
child_agrees : (t : Timeline) (x : ItemOf Listed) (u : ℤ) → unrated (child_shows whole x u) ≡ child_shows one x u
child_agrees t x u =
    let r = with_roots (x ∷ []) t in
    ap (λ l. unrated (shown_by whole (slice_get l 0) u)) (sym (items-listed (x ∷ [])))
    ∙ program_agrees r 0 u
    ∙ ap (λ l. shown_by one (slice_get l 0) u) (items-listed (x ∷ []))

top_agrees : (t : Timeline) (kind : List ℕ) (l : List (ItemOf Listed)) (u : ℤ) → top_shows one kind l u ≡ unrated (top_shows whole kind l u)
top_agrees t kind [] u = refl
top_agrees t kind (x ∷ l) u =
    let rest = top_agrees t kind l u in
    let this : cond (is_layer kind x) (child_shows one x u) Blank ≡ unrated (cond (is_layer kind x) (child_shows whole x u) Blank) =
    ap (λ z. cond (is_layer kind x) z Blank) (sym (child_agrees t x u)) ∙ cond_same (is_layer kind x) (child_shows whole x u) Blank in
    ap (λ z. cond (is_blank z) (cond (is_layer kind x) (child_shows one x u) Blank) z) rest
    ∙ ap (λ b. cond b (cond (is_layer kind x) (child_shows one x u) Blank) (unrated (top_shows whole kind l u))) (blank_same (top_shows whole kind l u))
    ∙ ap (λ z. cond (is_blank (top_shows whole kind l u)) z (unrated (top_shows whole kind l u))) this
    ∙ cond_same (is_blank (top_shows whole kind l u)) (cond (is_layer kind x) (child_shows whole x u) Blank) (top_shows whole kind l u)

pub flat_agrees : (t r : Timeline) (kind : List ℕ) (keep : Bool) (u : ℤ) → IsFaultless t → IsFree (Blocks kind (roots t)) → has_kind kind (roots t) ≡ true → IsFlattened t kind keep r
    → Agree (at r (flat_index keep kind (roots t)) u) (top_shows whole kind (roots t) u)
flat_agrees t r kind keep u s f h a =
    program_agrees r (flat_index keep kind (roots t)) u ∙ flattened t r kind keep one u (λ p q. refl) s f h a ∙ top_agrees t kind (roots t) u

-- ---- a window

-- what the list of a plain track shows, in its length, is what the track shows that has it
listed_agrees : (t : Timeline) (x : TrackOf Listed) (s : List (ItemOf Listed)) (b : Bool) (w : ℤ) → IsBare x → AreKnown s
    → cond (x.enabled && (b && within (pos 0) (total (looks (viewer one (x.kind)) s)) w)) (list_shows (looks (viewer one (x.kind)) s) w) Blank
    ≡ unrated (cond (x.enabled && (b && within (pos 0) (total (looks (viewer whole (x.kind)) s)) w)) (list_shows (looks (viewer whole (x.kind)) s) w) Blank)
listed_agrees t x s b w bare_x or_zero =
    let new : TrackOf Listed = record x { children = listed s } in
    let sum = known_sum s or_zero in
    let is = items-listed s in
    let new_sum : sum_of (lengths_seen (map sight (items_of new.children))) ≡ Some sum.0 = ap (λ q. sum_of (lengths_seen (map sight q))) is ∙ sum.1 in
    let own : (rate_kept : FrameRate → FrameRate) → child_shows rate_kept (Track new) w ≡ cond (x.enabled && within (pos 0) (total (looks (viewer rate_kept (x.kind)) s)) w) (list_shows (looks (viewer rate_kept (x.kind)) s) w) Blank =
    λ rate_kept. any_plain rate_kept new sum.0 w (record { range = bare_x.range; effects = bare_x.effects }) new_sum
    ∙ ap (λ q. cond (x.enabled && within (pos 0) (total (looks (viewer rate_kept (x.kind)) q)) w) (list_shows (looks (viewer rate_kept (x.kind)) q) w) Blank) is in
    split x.enabled b _ _
    ∙ ap (λ z. cond b z Blank) (sym (own one))
    ∙ ap (λ z. cond b z Blank) (sym (child_agrees t (Track new) w))
    ∙ cond_same b (child_shows whole (Track new) w) Blank
    ∙ ap (λ z. unrated (cond b z Blank)) (own whole)
    ∙ sym (ap unrated (split x.enabled b _ _))
  where
    split : (a b c : Bool) (z : Show) → cond (a && (b && c)) z Blank ≡ cond b (cond (a && c) z Blank) Blank
    split true true c z = refl
    split true false c z = refl
    split false true c z = refl
    split false false c z = refl

window_agrees_one : (t : Timeline) (x : ItemOf Listed) (a b w : ℤ) → IsPlainTrack x a b → window_shows one (Some x) a b w ≡ unrated (window_shows whole (Some x) a b w)
window_agrees_one t (Clip c) a b w p = absurd (cc p.plain)
window_agrees_one t (Gap c) a b w p = absurd (cc p.plain)
window_agrees_one t (Transition c) a b w p = absurd (cc p.plain)
window_agrees_one t (Stack c) a b w p = absurd (cc p.plain)
window_agrees_one t (Track x) a b w p =
    let s = stripped (items_of x.children) a b in
    ap (λ z. cond (x.enabled && (within a b w && within (pos 0) z w)) (list_shows (looks (viewer one (x.kind)) s) w) Blank) (sym (total_stripped (viewer one (x.kind)) (items_of x.children) a b))
    ∙ listed_agrees t x s (within a b w) w (bare_of x p.plain) (known_strip (Rattle.edits.specs.Cuts.strip (items_of x.children) a a) b b (known_strip (items_of x.children) a a p.known))
    ∙ ap (λ z. unrated (cond (x.enabled && (within a b w && within (pos 0) z w)) (list_shows (looks (viewer whole (x.kind)) s) w) Blank)) (total_stripped (viewer whole (x.kind)) (items_of x.children) a b)

window_agrees_at : (t : Timeline) (l : List (ItemOf Listed)) (k : ℕ) (a b w : ℤ) → ArePlainTracks l a b → window_shows one (slice_get l k) a b w ≡ unrated (window_shows whole (slice_get l k) a b w)
window_agrees_at t [] k a b w p = refl
window_agrees_at t (x ∷ l) zero a b w p = window_agrees_one t x a b w p.0
window_agrees_at t (x ∷ l) (suc k) a b w p = window_agrees_at t l k a b w p.1

pub window_agrees : (t r : Timeline) (a b : ℤ) (k : ℕ) (n : ℤ) → IsFaultless t → HasFair t → a <ℤ b → start_frame t ≤ℤ a → IsFree (WindowBlocks (roots t) (from_start t a) (from_start t b)) → IsWindowed t a b r
    → Agree (program r k n) (window_shows whole (slice_get (roots t) k) (from_start t a) (from_start t b) (instant t n))
window_agrees t r a b k n s fair h g f w =
    program_agrees r k (instant r n)
    ∙ windowed t r a b one k n (λ p q. refl) s fair h g f w
    ∙ window_agrees_at t (roots t) k (from_start t a) (from_start t b) (instant t n) (plain_tracks t (from_start t a) (from_start t b) s fair f)
