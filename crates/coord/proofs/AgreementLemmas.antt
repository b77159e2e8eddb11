-- A viewer who takes every rate for one sees what agrees with what is shown.
use mathlib.Core.Path.{fun_ext}
use Rattle.std.proofs.Common.{◌≡◌, refl, sym, ap, subst, ◌∙◌, ℕ, ℤ, pos, ◌+ℤ◌, ◌-ℤ◌, ◌&&◌, Bool, true, false, cond, List, [], ◌∷◌, map, Option, Some, None, slice_get}
use Rattle.std.specs.Prelude.{option_map, unwrap_or, unsigned_abs}
use Rattle.std.specs.Str.{bytes_eq}
use Rattle.otio_model.specs.declared.compositions.Clip.{Clip as ClipRow}
use Rattle.otio_model.specs.declared.compositions.StackOf.{StackOf}
use Rattle.otio_model.specs.declared.compositions.TrackOf.{TrackOf}
use Rattle.otio_model.specs.declared.compositions.ItemOf.{ItemOf}
use Rattle.otio_model.specs.declared.compositions.ItemOf.TheVariants.{Clip, Gap, Transition, Stack, Track}
use Rattle.otio_model.specs.declared.compositions.Listed.{Listed}
use Rattle.otio_model.specs.declared.compositions.Listed.TheFolds.{ind-Listed}
use Rattle.otio_model.specs.declared.timelines.Timeline.{Timeline}
use Rattle.otio_model.specs.Trees.{items_of}
use Rattle.otio_model.specs.Overlaps.{within}
use Rattle.otio_model.specs.Lengths.{trimmed_start, or_zero}
use Rattle.otio_model.proofs.Known.{Known, forgotten}
use Rattle.coord.specs.Looks.{Key, Show, Blank, Frame, Mix, FrameRate, Overlap, Look, is_blank, mixed, weight, total, item_shows, next_shows, from_end, mix_shows, blank, list_shows, stack_shows, track_shows}
use Rattle.coord.specs.Speeds.{speed_of, media_at}
use Rattle.coord.specs.Keys.{key_of, media_rate}
use Rattle.coord.specs.Sights.{View, Sight, viewer, exact, seen, framed, sights, sight}
use Rattle.coord.specs.Programs.{rate_24, kind_of, child_shows, shown_by, at, at_by}
use Rattle.coord.specs.Agreement.{unrated}
use Rattle.coord.proofs.LookSteps.{look_kind, item, transition}
use Rattle.coord.proofs.SightLemmas.{sights-listed}

abbrev pub plain : List ℕ → View
plain = viewer (λ rate. rate_24)

-- the look with 24 in place of each rate
abbrev pub faded : Look → Look
faded x = record { length = x.length; shows = λ u. unrated (x.shows u); overlap = x.overlap }

pub blank_same : (s : Show) → is_blank (unrated s) ≡ is_blank s
blank_same Blank = refl
blank_same (Frame key m rate) = refl
blank_same (Mix kind from to weight) = refl

pub cond_same : (b : Bool) (s t : Show) → cond b (unrated s) (unrated t) ≡ unrated (cond b s t)
cond_same true s t = refl
cond_same false s t = refl

pub mixed_by : (b : Bool) (kind : List ℕ) (s t : Show) (m n : ℕ) → cond b Blank (Mix kind (unrated s) (unrated t) (weight m n)) ≡ unrated (cond b Blank (Mix kind s t (weight m n)))
mixed_by true kind s t m n = refl
mixed_by false kind s t m n = refl

pub mixed_same : (kind : List ℕ) (s t : Show) (p w : ℤ) → mixed kind (unrated s) (unrated t) p w ≡ unrated (mixed kind s t p w)
mixed_same kind s t p w = rw (blank_same s, blank_same t) (mixed_by (is_blank s && is_blank t) kind s t (unsigned_abs p) (unsigned_abs w))

pub total_same : (l : List Look) → total (map faded l) ≡ total l
total_same [] = refl
total_same (x ∷ l) = ap (λ n. x.length +ℤ n) (total_same l)

pub item_same : (l : List Look) (w : ℤ) → item_shows (map faded l) w ≡ unrated (item_shows l w)
item_same [] w = refl
item_same (x ∷ l) w =
    ap (λ s. cond (within (pos 0) x.length w) (unrated (x.shows w)) s) (item_same l (w -ℤ x.length))
    ∙ cond_same (within (pos 0) x.length w) (x.shows w) (item_shows l (w -ℤ x.length))

pub stack_same : (l : List Look) (w : ℤ) → stack_shows (map faded l) w ≡ unrated (stack_shows l w)
stack_same [] w = refl
stack_same (x ∷ l) w =
    rw (stack_same l w, blank_same (stack_shows l w))
    (ap (λ s. cond (is_blank (stack_shows l w)) s (unrated (stack_shows l w))) (cond_same (within (pos 0) x.length w) (x.shows w) Blank)
    ∙ cond_same (is_blank (stack_shows l w)) (cond (within (pos 0) x.length w) (x.shows w) Blank) (stack_shows l w))

pub next_same : (l : List Look) (w : ℤ) → next_shows (map faded l) w ≡ unrated (next_shows l w)
next_same [] w = refl
next_same (x ∷ l) w = elim (look_kind x) [
  | item e ↦ rw e refl
  | transition o e ↦ rw e (next_same l w)
]

pub some_same : (b : Bool) (s : Show) (o : Option Show) → cond b (Some (unrated s)) (option_map unrated o) ≡ option_map unrated (cond b (Some s) o)
some_same true s o = refl
some_same false s o = refl

pub mix_same : (last : ℤ → Show) (l : List Look) (w : ℤ) → mix_shows (λ u. unrated (last u)) (map faded l) w ≡ option_map unrated (mix_shows last l w)
mix_same last [] w = refl
mix_same last (x ∷ l) w = elim (look_kind x) [
  | item e ↦ rw e (mix_same (from_end x) l (w -ℤ x.length))
  | transition o e ↦ rw e (
      ap (λ s. cond (within (pos 0 -ℤ o.before) o.after w) (Some s) (mix_shows (λ u. unrated (last u)) (map faded l) w))
      (ap (λ s. mixed o.kind (unrated (last w)) s (w +ℤ o.before) (o.before +ℤ o.after)) (next_same l w)
      ∙ mixed_same o.kind (last w) (next_shows l w) (w +ℤ o.before) (o.before +ℤ o.after))
      ∙ ap (λ m. cond (within (pos 0 -ℤ o.before) o.after w) (Some (unrated (mixed o.kind (last w) (next_shows l w) (w +ℤ o.before) (o.before +ℤ o.after)))) m) (mix_same last l w)
      ∙ some_same (within (pos 0 -ℤ o.before) o.after w) (mixed o.kind (last w) (next_shows l w) (w +ℤ o.before) (o.before +ℤ o.after)) (mix_shows last l w))
]

pub or_same : (o : Option Show) (s : Show) → unwrap_or (option_map unrated o) (unrated s) ≡ unrated (unwrap_or o s)
or_same None s = refl
or_same (Some t) s = refl

pub list_same : (l : List Look) (w : ℤ) → list_shows (map faded l) w ≡ unrated (list_shows l w)
list_same l w =
    ap (λ o. unwrap_or o (item_shows (map faded l) w)) (mix_same blank l w)
    ∙ ap (unwrap_or (option_map unrated (mix_shows blank l w))) (item_same l w)
    ∙ or_same (mix_shows blank l w) (item_shows l w)

pub track_same : (l : List Look) (w : ℤ) → track_shows (map faded l) w ≡ unrated (track_shows l w)
track_same l w =
    ap (λ n. cond (within (pos 0) n w) (list_shows (map faded l) w) Blank) (total_same l)
    ∙ ap (λ s. cond (within (pos 0) (total l) w) s Blank) (list_same l w)
    ∙ cond_same (within (pos 0) (total l) w) (list_shows l w) Blank

-- an item agrees with what the viewer of one rate sees of it
abbrev pub Agrees : Sight → Type 0
Agrees x = (kind : List ℕ) (u : ℤ) → x.shows (plain kind) u ≡ unrated (x.shows (exact kind) u)

abbrev pub AllAgree : List Sight → Type 0
AllAgree [] = Unit {0}
AllAgree (x ∷ l) = Agrees x × AllAgree l

abbrev pub look_of : ℤ → Option Overlap → (ℤ → Show) → Look
look_of n o f = record { length = n; shows = f; overlap = o }

pub looks_same : (l : List Sight) (kind : List ℕ) → AllAgree l → map (seen (plain kind)) l ≡ map faded (map (seen (exact kind)) l)
looks_same [] kind a = refl
looks_same (x ∷ l) kind a =
    ap (λ (f : ℤ → Show). look_of (pos (or_zero x.length)) x.overlap f ∷ map (seen (plain kind)) l) (fun_ext (a.0 kind))
    ∙ ap (λ m. faded (seen (exact kind) x) ∷ m) (looks_same l kind a.1)

pub clip_same : (b : Bool) (o : Option FrameRate) (key : Key) (m : ℤ) (kind : List ℕ) → cond b (framed (plain kind) key m o) Blank ≡ unrated (cond b (framed (exact kind) key m o) Blank)
clip_same true None key m kind = refl
clip_same true (Some r) key m kind = refl
clip_same false o key m kind = refl

pub track_agrees : (b : Bool) (l : List Sight) (kind : List ℕ) (m : ℤ) → AllAgree l
    → cond b (track_shows (map (seen (plain kind)) l) m) Blank ≡ unrated (cond b (track_shows (map (seen (exact kind)) l) m) Blank)
track_agrees b l kind m a =
    ap (λ (k : List Look). cond b (track_shows k m) Blank) (looks_same l kind a)
    ∙ ap (λ s. cond b s Blank) (track_same (map (seen (exact kind)) l) m)
    ∙ cond_same b (track_shows (map (seen (exact kind)) l) m) Blank

pub stack_agrees : (b : Bool) (l : List Sight) (kind : List ℕ) (m : ℤ) → AllAgree l
    → cond b (stack_shows (map (seen (plain kind)) l) m) Blank ≡ unrated (cond b (stack_shows (map (seen (exact kind)) l) m) Blank)
stack_agrees b l kind m a =
    ap (λ (k : List Look). cond b (stack_shows k m) Blank) (looks_same l kind a)
    ∙ ap (λ s. cond b s Blank) (stack_same (map (seen (exact kind)) l) m)
    ∙ cond_same b (stack_shows (map (seen (exact kind)) l) m) Blank

pub clip_item : (c : ClipRow) → Agrees (sight (Clip c))
clip_item c = λ kind u. clip_same c.enabled (media_rate c) (key_of c) (media_at (trimmed_start {C = Listed} (Clip c)) (speed_of {C = Listed} (Clip c)) u) kind

pub stack_item : (s : StackOf Listed) → AllAgree (sights s.children) → Agrees (sight (Stack s))
stack_item s a = λ kind u. stack_agrees s.enabled (sights s.children) kind (media_at (trimmed_start (Stack s)) (speed_of (Stack s)) u) a

pub track_item : (t : TrackOf Listed) → AllAgree (sights t.children) → Agrees (sight (Track t))
track_item t a = λ kind u. track_agrees (t.enabled && bytes_eq t.kind kind) (sights t.children) kind (media_at (trimmed_start (Track t)) (speed_of (Track t)) u) a

abbrev pub ChildrenAgree : Listed → Type 0
ChildrenAgree l = AllAgree (sights l)

abbrev pub bare_stack : StackOf (Known ChildrenAgree) → StackOf Listed
bare_stack s = record { metadata = s.metadata; name = s.name; source_range = s.source_range; effects = s.effects; markers = s.markers; enabled = s.enabled; children = s.children.0; rest = s.rest }

abbrev pub bare_track : TrackOf (Known ChildrenAgree) → TrackOf Listed
bare_track t = record { metadata = t.metadata; name = t.name; source_range = t.source_range; effects = t.effects; markers = t.markers; enabled = t.enabled; children = t.children.0; kind = t.kind; rest = t.rest }

pub all_agree : (ys : List (ItemOf (Known ChildrenAgree))) → AllAgree (map sight (forgotten ChildrenAgree ys))
all_agree [] = tt
all_agree ((Clip c) ∷ ys) = (clip_item c, all_agree ys)
all_agree ((Gap g) ∷ ys) = ((λ kind u. refl), all_agree ys)
all_agree ((Transition t) ∷ ys) = ((λ kind u. refl), all_agree ys)
all_agree ((Stack s) ∷ ys) = (stack_item (bare_stack s) s.children.1, all_agree ys)
all_agree ((Track t) ∷ ys) = (track_item (bare_track t) t.children.1, all_agree ys)

pub children_agree : (l : Listed) → ChildrenAgree l
children_agree = ind-Listed ChildrenAgree (λ x y is.
    let list : AllAgree (map sight x.list) = subst (λ z. AllAgree (map sight z.list)) is (all_agree y.list) in
    subst AllAgree (sym (sights-listed x.list)) list)

pub item_agrees : (x : ItemOf Listed) → Agrees (sight x)
item_agrees (Clip c) = clip_item c
item_agrees (Gap g) = λ kind u. refl
item_agrees (Transition t) = λ kind u. refl
item_agrees (Stack s) = stack_item s (children_agree s.children)
item_agrees (Track t) = track_item t (children_agree t.children)

pub child_agrees : (x : ItemOf Listed) (u : ℤ) → unrated (child_shows (λ rate. rate) x u) ≡ child_shows (λ rate. rate_24) x u
child_agrees x u =
    sym (cond_same (within (pos 0) (pos (or_zero (sight x).length)) u) ((sight x).shows (exact (kind_of x)) u) Blank)
    ∙ ap (λ s. cond (within (pos 0) (pos (or_zero (sight x).length)) u) s Blank) (sym (item_agrees x (kind_of x) u))

pub found_agrees : (o : Option (ItemOf Listed)) (u : ℤ) → unrated (shown_by (λ rate. rate) o u) ≡ shown_by (λ rate. rate_24) o u
found_agrees None u = refl
found_agrees (Some x) u = child_agrees x u

-- at each instant of each root child
pub program_agrees : (t : Timeline) (k : ℕ) (u : ℤ) → unrated (at t k u) ≡ at_by (λ rate. rate_24) t k u
program_agrees t k u = found_agrees (slice_get (items_of t.tracks.children) k) u
