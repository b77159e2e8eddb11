-- What laws of edits say, and what is shown through them, agrees for a viewer who takes every rate for one.
use mathlib.Core.Path.{fun_ext}
use Rattle.std.proofs.Common.{◌≡◌, refl, sym, ap, ap₂, ◌∙◌, ℕ, zero, suc, ◌==◌, ℤ, pos, ◌+ℤ◌, ◌-ℤ◌, ◌*ℤ◌, ◌&&◌, ◌||◌, Bool, true, false, cond, List, [], ◌∷◌, ◌++◌, map, Option, Some, None, slice_get}
use Rattle.std.specs.Prelude.{int_lt}
use Rattle.std.specs.Int.{int_min}
use Rattle.std.specs.Str.{bytes_eq}
use Rattle.otio_model.specs.declared.compositions.ItemOf.{ItemOf}
use Rattle.otio_model.specs.declared.compositions.ItemOf.TheVariants.{Clip, Gap, Transition, Stack, Track}
use Rattle.otio_model.specs.declared.compositions.Listed.{Listed}
use Rattle.otio_model.specs.declared.timelines.Timeline.{Timeline}
use Rattle.otio_model.specs.declared.edit_types.Edit.{Edit}
use Rattle.otio_model.specs.declared.edit_types.Edit.TheVariants as A
use Rattle.otio_model.specs.declared.edit_types.RemoveMode.{RemoveMode}
use Rattle.otio_model.specs.declared.edit_types.RemoveMode.TheVariants as R
use Rattle.otio_model.specs.Trees.{items_of}
use Rattle.coord.specs.Looks.{Show, Blank, Look, list_shows}
use Rattle.otio_model.specs.Overlaps.{within}
use Rattle.coord.specs.Speeds.{speed_of, media_at}
use Rattle.coord.specs.Keys.{key_of, media_rate}
use Rattle.coord.specs.Sights.{Sight, sights, sight, looks, exact}
use Rattle.otio_model.specs.Lengths.{trimmed_start}
use Rattle.otio_model.specs.Lengths.{or_zero}
use Rattle.coord.specs.Programs.{rate_24, kind_of}
use Rattle.coord.specs.Agreement.{unrated}
use Rattle.edits.specs.Children.{Child, Old, Ranged, ticks, child_ticks, seen_child}
use Rattle.edits.specs.Cuts.{strip}
use Rattle.edits.specs.Edges.{Held, held_at, start, end, Zone, Moves, slip_by, slipped_item, slide_by, slide_zone, ripple_by, item_zone, trim_by, roll_by, moves_zone, last_item, first_item}
use Rattle.edits.specs.Edits.{filling, in_ticks}
use Rattle.edits.specs.After.{frame_of, list_of, place_of}
use Rattle.edits.specs.Laws.{child_at, stripped, overwrite_law, insert_law, remove_law, slip_law, zoned, slide_law, ripple_law, trim_law, item_or, ticks_or, roll_law, law_held, law_beside, law}
use Rattle.edits_law.specs.Through.{sights_with, sight_through, child_through, edited_sight, shows_through, through_by, through}
use Rattle.coord.proofs.AgreementLemmas.{plain, faded, list_same, Agrees, AllAgree, look_of, looks_same, clip_same, track_agrees, stack_agrees, clip_item, children_agree, item_agrees}
use Rattle.edits_law.proofs.Unreached.{looks_map}

-- two of which one is the other without its rates
abbrev pub Fades : Show → Show → Type 0
Fades a b = a ≡ unrated b

fades_if : (b : Bool) (p q r s : Show) → Fades p r → Fades q s → Fades (cond b p q) (cond b r s)
fades_if true p q r s d e = d
fades_if false p q r s d e = e

all_items : (l : List (ItemOf Listed)) → AllAgree (map sight l)
all_items [] = tt
all_items (x ∷ l) = (item_agrees x, all_items l)

looks_fade : (kind : List ℕ) (l : List (ItemOf Listed)) → looks (plain kind) l ≡ map faded (looks (exact kind) l)
looks_fade kind l = looks_map (plain kind) l ∙ looks_same (map sight l) kind (all_items l) ∙ ap (map faded) (sym (looks_map (exact kind) l))

pub shows_fade : (kind : List ℕ) (l : List (ItemOf Listed)) (w : ℤ)
    → Fades (list_shows (looks (plain kind) l) w) (list_shows (looks (exact kind) l) w)
shows_fade kind l w =
    ap (λ m. list_shows m w) (looks_fade kind l) ∙ list_same (looks (exact kind) l) w

stripped_fades : (kind : List ℕ) (l : List (ItemOf Listed)) (a b w : ℤ) → Fades (stripped (plain kind) l a b w) (stripped (exact kind) l a b w)
stripped_fades kind l a b w = shows_fade kind (strip l a b) w

child_fades : (kind : List ℕ) (c : Child) (u : ℤ) → Fades (child_at (plain kind) c u) (child_at (exact kind) c u)
child_fades kind (Old x) u = item_agrees x kind u
child_fades kind (Ranged (Clip c) s n) u = clip_same c.enabled (media_rate c) (key_of c) (media_at s (speed_of {C = Listed} (Clip c)) u) kind
child_fades kind (Ranged (Gap g) s n) u = refl
child_fades kind (Ranged (Transition t) s n) u = refl
child_fades kind (Ranged (Stack t) s n) u = stack_agrees t.enabled (sights t.children) kind (media_at s (speed_of (Stack t)) u) (children_agree t.children)
child_fades kind (Ranged (Track t) s n) u = track_agrees (t.enabled && bytes_eq t.kind kind) (sights t.children) kind (media_at s (speed_of (Track t)) u) (children_agree t.children)

seen_fades : (kind : List ℕ) (c : Child) → seen_child (plain kind) c ≡ faded (seen_child (exact kind) c)
seen_fades kind (Old x) = ap (λ (f : ℤ → Show). look_of (ticks x) (sight x).overlap f) (fun_ext (item_agrees x kind))
seen_fades kind (Ranged x s n) = ap (λ (f : ℤ → Show). look_of n (sight x).overlap f) (fun_ext (child_fades kind (Ranged x s n)))

faded_join : (l m : List Look) → map faded (l ++ m) ≡ map faded l ++ map faded m
faded_join [] m = refl
faded_join (x ∷ l) m = ap (λ k. faded x ∷ k) (faded_join l m)

slip_fades : (kind : List ℕ) (d : ℤ) (h : Held) (w : ℤ) → Fades (slip_law d (plain kind) h w) (slip_law d (exact kind) h w)
slip_fades kind d h w =
    ap (λ k. list_shows k w)
    (ap₂ (λ a b. a ++ b) (looks_fade kind h.before) (ap₂ (λ a b. a ∷ b) (seen_fades kind (slipped_item d h.item)) (looks_fade kind h.behind))
    ∙ sym (faded_join (looks (exact kind) h.before) (seen_child (exact kind) (slipped_item d h.item) ∷ looks (exact kind) h.behind)))
    ∙ list_same (looks (exact kind) h.before ++ (seen_child (exact kind) (slipped_item d h.item) ∷ looks (exact kind) h.behind)) w

overwrite_fades : (kind : List ℕ) (l : List (ItemOf Listed)) (a : ℤ) (c : Child) (w : ℤ) → Fades (overwrite_law (plain kind) l a c w) (overwrite_law (exact kind) l a c w)
overwrite_fades kind l a c w = fades_if (within a (a +ℤ child_ticks c) w) _ _ _ _ (child_fades kind c (w -ℤ a)) (stripped_fades kind l a (a +ℤ child_ticks c) w)

insert_fades : (kind : List ℕ) (l : List (ItemOf Listed)) (a : ℤ) (x : ItemOf Listed) (w : ℤ) → Fades (insert_law (plain kind) l a x w) (insert_law (exact kind) l a x w)
insert_fades kind l a x w = fades_if (int_lt w a) _ _ _ _ (stripped_fades kind l a a w)
    (fades_if (int_lt w (a +ℤ ticks x)) _ _ _ _ (item_agrees x kind (w -ℤ a)) (stripped_fades kind l a a (w -ℤ ticks x)))

remove_fades : (mode : RemoveMode) (kind : List ℕ) (l : List (ItemOf Listed)) (h : Held) (w : ℤ) → Fades (remove_law mode (plain kind) l h w) (remove_law mode (exact kind) l h w)
remove_fades R.Gap kind l h w = fades_if (within (start h) (end h) w) _ _ _ _ refl (stripped_fades kind l (start h) (end h) w)
remove_fades R.Close kind l h w = fades_if (int_lt w (start h)) _ _ _ _ (stripped_fades kind l (start h) (end h) w) (stripped_fades kind l (start h) (end h) (w +ℤ ticks h.item))

zoned_fades : (kind : List ℕ) (l : List (ItemOf Listed)) (z : Zone) (w : ℤ) → Fades (zoned (plain kind) l z w) (zoned (exact kind) l z w)
zoned_fades kind l z w = stripped_fades kind l z.from z.to w

slide_fades : (kind : List ℕ) (l : List (ItemOf Listed)) (h : Held) (y : ItemOf Listed) (d w : ℤ) → Fades (slide_law (plain kind) l h y d w) (slide_law (exact kind) l h y d w)
slide_fades kind l h y d w = fades_if (int_lt w (int_min (start h) (start h +ℤ d))) _ _ _ _ (zoned_fades kind l (slide_zone h d) w)
    (fades_if (int_lt w (start h +ℤ d)) _ _ _ _ (item_agrees y kind (w -ℤ (start h -ℤ ticks y))) (zoned_fades kind l (slide_zone h d) (w -ℤ d)))

ripple_fades : (kind : List ℕ) (l : List (ItemOf Listed)) (h : Held) (m : Moves) (w : ℤ) → Fades (ripple_law (plain kind) l h m w) (ripple_law (exact kind) l h m w)
ripple_fades kind l h m w = fades_if (int_lt w (start h)) _ _ _ _ (zoned_fades kind l (item_zone h) w)
    (fades_if (int_lt w ((end h -ℤ m.head) +ℤ m.tail)) _ _ _ _ (item_agrees h.item kind ((w -ℤ start h) +ℤ m.head)) (zoned_fades kind l (item_zone h) ((w +ℤ m.head) -ℤ m.tail)))

trim_fades : (kind : List ℕ) (l : List (ItemOf Listed)) (h : Held) (m : Moves) (w : ℤ) → Fades (trim_law (plain kind) l h m w) (trim_law (exact kind) l h m w)
trim_fades kind l h m w = fades_if (within (start h +ℤ m.head) (end h +ℤ m.tail) w) _ _ _ _ (item_agrees h.item kind (w -ℤ start h))
    (fades_if (within (start h) (start h +ℤ m.head) w || within (end h +ℤ m.tail) (end h) w) _ _ _ _ refl (zoned_fades kind l (moves_zone h m) w))

or_fades : (kind : List ℕ) (o : Option (ItemOf Listed)) (u : ℤ) → Fades (item_or (plain kind) o u) (item_or (exact kind) o u)
or_fades kind None u = refl
or_fades kind (Some x) u = item_agrees x kind u

roll_fades : (kind : List ℕ) (l : List (ItemOf Listed)) (h : Held) (m : Moves) (w : ℤ) → Fades (roll_law (plain kind) l h m w) (roll_law (exact kind) l h m w)
roll_fades kind l h m w =
    fades_if (within (start h) (start h +ℤ m.head) w) _ _ _ _ (or_fades kind (last_item h.before) (w -ℤ (start h -ℤ ticks_or (last_item h.before))))
    (fades_if (within (start h +ℤ m.head) (end h +ℤ m.tail) w) _ _ _ _ (item_agrees h.item kind (w -ℤ start h))
    (fades_if (within (end h +ℤ m.tail) (end h) w) _ _ _ _ (or_fades kind (first_item h.behind) (w -ℤ end h)) (zoned_fades kind l (moves_zone h m) w)))

held_fades : (l : List (ItemOf Listed)) (w : ℤ) (g k : Held → Show) → ((h : Held) → Fades (g h) (k h)) → Fades (law_held l w g) (law_held l w k)
held_fades l w g k f = of (held_at l w)
  where
    of : (o : Option Held) → Fades (elim o [ None ↦ Blank | Some h ↦ g h ]) (elim o [ None ↦ Blank | Some h ↦ k h ])
    of None = refl
    of (Some h) = f h

beside_fades : (h : Held) (g k : ItemOf Listed → Show) → ((y : ItemOf Listed) → Fades (g y) (k y)) → Fades (law_beside h g) (law_beside h k)
beside_fades h g k f = of (last_item h.before)
  where
    of : (o : Option (ItemOf Listed)) → Fades (elim o [ None ↦ Blank | Some y ↦ g y ]) (elim o [ None ↦ Blank | Some y ↦ k y ])
    of None = refl
    of (Some y) = f y

pub law_fades : (kind : List ℕ) (f : ℤ) (e : Edit) (l : List (ItemOf Listed)) (w : ℤ) → Fades (law (plain kind) f e l w) (law (exact kind) f e l w)
law_fades kind f (A.Overwrite place at x) l w = overwrite_fades kind l (at *ℤ f) (Old x) w
law_fades kind f (A.Insert place at x) l w = insert_fades kind l (at *ℤ f) x w
law_fades kind f (A.Slice place at) l w = stripped_fades kind l (at *ℤ f) (at *ℤ f) w
law_fades kind f (A.Fill place at mode x) l w = held_fades l (at *ℤ f) _ _ (λ h. overwrite_fades kind l (start h) (filling mode x (ticks h.item)) w)
law_fades kind f (A.Remove place at mode) l w = held_fades l (at *ℤ f) _ _ (λ h. remove_fades mode kind l h w)
law_fades kind f (A.Trim place at head tail) l w = held_fades l (at *ℤ f) _ _ (λ h. trim_fades kind l h (trim_by f h (in_ticks f head tail)) w)
law_fades kind f (A.Slip place at by) l w = held_fades l (at *ℤ f) _ _ (λ h. slip_fades kind (slip_by f h (by *ℤ f)) h w)
law_fades kind f (A.Slide place at by) l w = held_fades l (at *ℤ f) _ _ (λ h. beside_fades h _ _ (λ y. slide_fades kind l h y (slide_by f y (by *ℤ f)) w))
law_fades kind f (A.Ripple place at head tail) l w = held_fades l (at *ℤ f) _ _ (λ h. ripple_fades kind l h (ripple_by f h.item (in_ticks f head tail)) w)
law_fades kind f (A.Roll place at head tail) l w = held_fades l (at *ℤ f) _ _ (λ h. roll_fades kind l h (roll_by f h (in_ticks f head tail)) w)

-- ---- down the place

with_agrees : (i : ℕ) (f : ItemOf Listed → Sight) (l : List (ItemOf Listed)) → ((x : ItemOf Listed) → Agrees (f x)) → AllAgree (sights_with i f l)
with_agrees i f [] h = tt
with_agrees zero f (x ∷ l) h = (h x, all_items l)
with_agrees (suc i) f (x ∷ l) h = (item_agrees x, with_agrees i f l h)

through_agrees : (place : List ℕ) (rule : Sight) (x : ItemOf Listed) → Agrees rule → Agrees (sight_through place rule x)
through_agrees [] rule (Clip c) a = clip_item c
through_agrees [] rule (Gap c) a = λ kind u. refl
through_agrees [] rule (Transition c) a = λ kind u. refl
through_agrees [] rule (Stack s) a = λ kind u. stack_agrees s.enabled (rule ∷ []) kind (media_at (trimmed_start (Stack s)) (speed_of (Stack s)) u) (a, tt)
through_agrees [] rule (Track t) a = λ kind u. track_agrees (t.enabled && bytes_eq t.kind kind) (rule ∷ []) kind (media_at (trimmed_start (Track t)) (speed_of (Track t)) u) (a, tt)
through_agrees (i ∷ place) rule (Clip c) a = clip_item c
through_agrees (i ∷ place) rule (Gap c) a = λ kind u. refl
through_agrees (i ∷ place) rule (Transition c) a = λ kind u. refl
through_agrees (i ∷ place) rule (Stack s) a = λ kind u. stack_agrees s.enabled (sights_with i (sight_through place rule) (items_of s.children)) kind (media_at (trimmed_start (Stack s)) (speed_of (Stack s)) u)
    (with_agrees i (sight_through place rule) (items_of s.children) (λ x. through_agrees place rule x a))
through_agrees (i ∷ place) rule (Track t) a = λ kind u. track_agrees (t.enabled && bytes_eq t.kind kind) (sights_with i (sight_through place rule) (items_of t.children)) kind (media_at (trimmed_start (Track t)) (speed_of (Track t)) u)
    (with_agrees i (sight_through place rule) (items_of t.children) (λ x. through_agrees place rule x a))

child_agrees : (place : List ℕ) (rule : Sight) (k : ℕ) (x : ItemOf Listed) → Agrees rule → Agrees (child_through place rule k x)
child_agrees [] rule k x a = item_agrees x
child_agrees (i ∷ place) rule k x a = of (i == k)
  where
    of : (b : Bool) → Agrees (cond b (sight_through place rule x) (sight x))
    of true = through_agrees place rule x a
    of false = item_agrees x

edited_agrees : (t : Timeline) (e : Edit) → Agrees (edited_sight t e)
edited_agrees t e = λ kind u. law_fades kind (frame_of t) e (list_of t e) u

-- what is shown through the law agrees too
pub shown_agrees : (t : Timeline) (e : Edit) (k : ℕ) (u : ℤ) → unrated (through t e k u) ≡ through_by (λ rate. rate_24) t e k u
shown_agrees t e k u = of (slice_get (items_of t.tracks.children) k)
  where
    of : (o : Option (ItemOf Listed)) → unrated (shows_through (λ rate. rate) t e k o u) ≡ shows_through (λ rate. rate_24) t e k o u
    of None = refl
    of (Some x) =
        sym (fades_if (within (pos 0) (pos (or_zero (child_through (place_of e) (edited_sight t e) k x).length)) u) _ Blank _ Blank
        (child_agrees (place_of e) (edited_sight t e) k x (edited_agrees t e) (kind_of x) u) refl)
