-- A command has one result at most, or one fault, and never both.
use Rattle.std.proofs.Common.{◌≡◌, sym, ap, subst, ◌∙◌, ℕ, ℤ, true, false, List, Option, Some, None}
use Rattle.std.proofs.lemmas.Bool.{both_ways}
use Rattle.tick_time.specs.declared.rates.Rate.{Rate}
use Rattle.tick_time.specs.declared.spans.Span.{Span}
use Rattle.tick_time.proofs.SameValues.{same_frames, same_span}
use Rattle.media_rows.specs.declared.row.MediaRow.{MediaRow}
use Rattle.otio_model.specs.declared.compositions.ItemOf.{ItemOf}
use Rattle.otio_model.specs.declared.compositions.Listed.{Listed}
use Rattle.otio_model.specs.declared.edit_types.Edit.{Edit}
use Rattle.otio_model.specs.declared.edit_types.EditFault.{EditFault}
use Rattle.otio_model.specs.declared.timelines.Timeline.{Timeline}
use Rattle.undo_log.specs.States.{State, back, forth}
use Rattle.edits.specs.After.{after, rate_of}
use Rattle.edits.specs.Refusals.{IsAfter, IsRefused, early_fault, at_once, too_long, too_many}
use Rattle.undo_log.specs.declared.faults.UndoFault.TheVariants.{NothingDone, NothingUndone}
use Rattle.edit_script.specs.declared.commands.Act.{Act}
use Rattle.edit_script.specs.declared.commands.Act.TheVariants as A
use Rattle.edit_script.specs.declared.commands.ScriptCommand.{ScriptCommand}
use Rattle.edit_script.specs.declared.commands.Put.{Put}
use Rattle.edit_script.specs.declared.commands.Put.TheVariants as P
use Rattle.edit_script.specs.declared.faults.CommandFault.{CommandFault}
use Rattle.edit_script.specs.declared.faults.CommandFault.TheVariants as F
use Rattle.edit_script.specs.Items.{IsListedClip, IsItem, clip_with, media_at}
use Rattle.tick_time.specs.Frames.{IsFrameSpan}
use Rattle.media_rows.specs.Rows.{MediaRows, row_of}
use Rattle.edit_script.specs.RunActs.{IsEditOf, Puts, is_beyond, is_unlisted}
use Rattle.edit_script.specs.Runs.{AsksFor, IsHalted, Takes, moved_on}
use Rattle.edit_script.specs.Runs.{edits, undoes, redoes, unlisted, far, refused, nothing_done, nothing_undone}

one_some : {X : Type 0} (o : Option X) (x y : X) → o ≡ Some x → o ≡ Some y → x ≡ y
one_some o x y e f = let g : Some x ≡ Some y = sym e ∙ f in cc g

some_or_none : {X : Type 0} (o : Option X) (x : X) → o ≡ Some x → o ≡ None → ⊥
some_or_none o x e f = let g : Some x ≡ None = sym e ∙ f in cc g

-- ---- edits

one_span : (r : Rate) (m : ℤ) (q : Rate) (n : ℤ) (s t : Span) → IsFrameSpan r m q n s
    → IsFrameSpan r m q n t
    → s ≡ t
one_span r m q n s t i j = same_span s t (same_frames r m s.start t.start i.from j.from)
    (same_frames q n s.len t.len i.long j.long)

one_clip : (r : Rate) (row : MediaRow) (name : List ℕ) (m n : ℤ) (x y : ItemOf Listed)
    → IsListedClip r row name m n x → IsListedClip r row name m n y → x ≡ y
one_clip r row name m n x y i j =
    i.is
    ∙ ap (λ s. clip_with name s (media_at row.url i.available))
    (one_span row.rate m r n i.shown j.shown i.shows j.shows)
    ∙ ap (λ s. clip_with name j.shown (media_at row.url s))
    (one_span row.rate row.start row.rate row.count i.available j.available i.listed j.listed)
    ∙ sym j.is

pub one_item : (r : Rate) (media : MediaRows) (put : Put) (x y : ItemOf Listed)
    → IsItem r media put x → IsItem r media put y → x ≡ y
one_item r media (P.Gap n) x y i j = one_some _ x y i j
one_item r media (P.Clip name reel m n) x y i j =
    one_clip r i.0 name m n x y i.2
    (subst (λ row. IsListedClip r row name m n y) (one_some (row_of media reel) j.0 i.0 j.1 i.1)
    j.2)

one_put : (r : Rate) (media : MediaRows) (put : Put) (f : ItemOf Listed → Edit) (d e : Edit)
    → Puts r media put f d → Puts r media put f e → d ≡ e
one_put r media put f d e i j = i.2 ∙ ap f (one_item r media put i.0 j.0 i.1 j.1) ∙ sym j.2

one_edit : (r : Rate) (media : MediaRows) (act : Act) (d e : Edit) → IsEditOf r media act d
    → IsEditOf r media act e → d ≡ e
one_edit r media (A.Overwrite place at put) d e i j = one_put r media put _ d e i j
one_edit r media (A.Insert place at put) d e i j = one_put r media put _ d e i j
one_edit r media (A.Slice place at) d e i j = i ∙ sym j
one_edit r media (A.Fill place at mode put) d e i j = one_put r media put _ d e i j
one_edit r media (A.Remove place at mode) d e i j = i ∙ sym j
one_edit r media (A.Trim place at head tail) d e i j = i ∙ sym j
one_edit r media (A.Slip place at by) d e i j = i ∙ sym j
one_edit r media (A.Slide place at by) d e i j = i ∙ sym j
one_edit r media (A.Ripple place at head tail) d e i j = i ∙ sym j
one_edit r media (A.Roll place at head tail) d e i j = i ∙ sym j
one_edit r media A.Undo d e i j = absurd i
one_edit r media A.Redo d e i j = absurd i

asked : (media : MediaRows) (act : Act) (t : Timeline) (d e : Edit) → AsksFor media act t d
    → AsksFor media act t e → d ≡ e
asked media act t d e i j = one_edit (rate_of t) media act d e i.edit j.edit

-- ---- an edit is accepted, with one result, or refused, for one fault

one_refusal : (t : Timeline) (e : Edit) (f g : EditFault) → IsRefused t e f → IsRefused t e g
    → f ≡ g
one_refusal t e f g (at_once i) (at_once j) = one_some (early_fault t e) f g i j
one_refusal t e f g (at_once i) (too_long n l s) = absurd (some_or_none (early_fault t e) f i n)
one_refusal t e f g (at_once i) (too_many n l m s) = absurd (some_or_none (early_fault t e) f i n)
one_refusal t e f g (too_long n l s) (at_once j) = absurd (some_or_none (early_fault t e) g j n)
one_refusal t e f g (too_long n l s) (too_long _ _ z) = s ∙ sym z
one_refusal t e f g (too_long n l s) (too_many _ h m z) = absurd (h l)
one_refusal t e f g (too_many n h m s) (at_once j) = absurd (some_or_none (early_fault t e) g j n)
one_refusal t e f g (too_many n h m s) (too_long _ l z) = absurd (h l)
one_refusal t e f g (too_many n h m s) (too_many _ _ _ z) = s ∙ sym z

not_both : (t : Timeline) (e : Edit) (s : Timeline) (f : EditFault) → IsAfter t e s
    → IsRefused t e f → ⊥
not_both t e s f a (at_once i) = some_or_none (early_fault t e) f i a.early
not_both t e s f a (too_long n l z) = a.short l
not_both t e s f a (too_many n h m z) = a.few m

-- ---- what an act does

no_edit : (media : MediaRows) (act : Act) (t : Timeline) (e : Edit) → AsksFor media act t e
    → act ≡ A.Undo → ⊥
no_edit media act t e i f = subst (λ a. IsEditOf (rate_of t) media a e) f i.edit

no_edit_back : (media : MediaRows) (act : Act) (t : Timeline) (e : Edit) → AsksFor media act t e
    → act ≡ A.Redo → ⊥
no_edit_back media act t e i f = subst (λ a. IsEditOf (rate_of t) media a e) f i.edit

not_undo_redo : (act : Act) → act ≡ A.Undo → act ≡ A.Redo → ⊥
not_undo_redo act e f = let g : A.Undo ≡ A.Redo = sym e ∙ f in cc g

pub one_result : (media : MediaRows) (act : Act) (s q r : State) → Takes media act s q
    → Takes media act s r → q ≡ r
one_result media act s q r (edits d t i a m) (edits e u j b n) =
    m ∙ ap (λ x. moved_on x s) (one_some (after s.now e) t u
    (subst (λ x. after s.now x ≡ Some t) (asked media act s.now d e i j) a.made) b.made) ∙ sym n
one_result media act s q r (edits d t i a m) (undoes f h) = absurd (no_edit media act s.now d i f)
one_result media act s q r (edits d t i a m) (redoes f h) =
    absurd (no_edit_back media act s.now d i f)
one_result media act s q r (undoes f h) (edits d t i a m) = absurd (no_edit media act s.now d i f)
one_result media act s q r (undoes f h) (undoes g k) = one_some (back s) q r h k
one_result media act s q r (undoes f h) (redoes g k) = absurd (not_undo_redo act f g)
one_result media act s q r (redoes f h) (edits d t i a m) =
    absurd (no_edit_back media act s.now d i f)
one_result media act s q r (redoes f h) (undoes g k) = absurd (not_undo_redo act g f)
one_result media act s q r (redoes f h) (redoes g k) = one_some (forth s) q r h k

-- ---- why a command is refused

-- a clip's reel isn't listed
only_reel : (media : MediaRows) (c : ScriptCommand) (s : State) (f : CommandFault)
    → is_unlisted media c.act ≡ true → IsHalted media c s f → f ≡ F.NoReel c.line
only_reel media c s f h (unlisted a e) = e
only_reel media c s f h (far a b e) = absurd (both_ways (is_unlisted media c.act) a h)
only_reel media c s f h (refused d w i r e) =
    absurd (both_ways (is_unlisted media c.act) i.listed h)
only_reel media c s f h (nothing_done a b e) =
    absurd (both_ways (is_unlisted media c.act) (ap (is_unlisted media) a) h)
only_reel media c s f h (nothing_undone a b e) =
    absurd (both_ways (is_unlisted media c.act) (ap (is_unlisted media) a) h)

-- a time is out of range
only_far : (media : MediaRows) (c : ScriptCommand) (s : State) (f : CommandFault)
    → is_unlisted media c.act ≡ false → is_beyond (rate_of s.now) media c.act ≡ true
    → IsHalted media c s f → f ≡ F.Line c.line
only_far media c s f g h (unlisted a e) = absurd (both_ways (is_unlisted media c.act) g a)
only_far media c s f g h (far a b e) = e
only_far media c s f g h (refused d w i r e) =
    absurd (both_ways (is_beyond (rate_of s.now) media c.act) i.near h)
only_far media c s f g h (nothing_done a b e) =
    absurd (both_ways (is_beyond (rate_of s.now) media c.act) (ap (is_beyond (rate_of s.now) media)
    a) h)
only_far media c s f g h (nothing_undone a b e) =
    absurd (both_ways (is_beyond (rate_of s.now) media c.act) (ap (is_beyond (rate_of s.now) media)
    a) h)

-- its edit is refused
only_edit : (media : MediaRows) (c : ScriptCommand) (s : State) (f : CommandFault) (d : Edit)
    (why : EditFault) → AsksFor media c.act s.now d → IsRefused s.now d why → IsHalted media c s f
    → f ≡ F.Edit c.line why
only_edit media c s f d why i r (unlisted a e) =
    absurd (both_ways (is_unlisted media c.act) i.listed a)
only_edit media c s f d why i r (far a b e) =
    absurd (both_ways (is_beyond (rate_of s.now) media c.act) i.near b)
only_edit media c s f d why i r (refused g w j q e) =
    e ∙ ap (F.Edit c.line) (one_refusal s.now d w why
    (subst (λ x. IsRefused s.now x w) (asked media c.act s.now g d j i) q) r)
only_edit media c s f d why i r (nothing_done a b e) =
    absurd (no_edit media c.act s.now d i a)
only_edit media c s f d why i r (nothing_undone a b e) =
    absurd (no_edit_back media c.act s.now d i a)

-- nothing is to be undone, or to be redone
only_undo : (media : MediaRows) (c : ScriptCommand) (s : State) (f : CommandFault) → c.act ≡ A.Undo
    → IsHalted media c s f → f ≡ F.Undo c.line NothingDone
only_undo media c s f h (unlisted a e) =
    absurd (both_ways (is_unlisted media c.act) (ap (is_unlisted media) h) a)
only_undo media c s f h (far a b e) =
    absurd (both_ways (is_beyond (rate_of s.now) media c.act) (ap (is_beyond (rate_of s.now) media)
    h) b)
only_undo media c s f h (refused d w i r e) = absurd (no_edit media c.act s.now d i h)
only_undo media c s f h (nothing_done a b e) = e
only_undo media c s f h (nothing_undone a b e) = absurd (not_undo_redo c.act h a)

only_redo : (media : MediaRows) (c : ScriptCommand) (s : State) (f : CommandFault) → c.act ≡ A.Redo
    → IsHalted media c s f → f ≡ F.Undo c.line NothingUndone
only_redo media c s f h (unlisted a e) =
    absurd (both_ways (is_unlisted media c.act) (ap (is_unlisted media) h) a)
only_redo media c s f h (far a b e) =
    absurd (both_ways (is_beyond (rate_of s.now) media c.act) (ap (is_beyond (rate_of s.now) media)
    h) b)
only_redo media c s f h (refused d w i r e) = absurd (no_edit_back media c.act s.now d i h)
only_redo media c s f h (nothing_done a b e) = absurd (not_undo_redo c.act a h)
only_redo media c s f h (nothing_undone a b e) = e

pub one_fault : (media : MediaRows) (c : ScriptCommand) (s : State) (f g : CommandFault)
    → IsHalted media c s f → IsHalted media c s g → f ≡ g
one_fault media c s f g (unlisted a e) h = e ∙ sym (only_reel media c s g a h)
one_fault media c s f g (far a b e) h = e ∙ sym (only_far media c s g a b h)
one_fault media c s f g (refused d w i r e) h = e ∙ sym (only_edit media c s g d w i r h)
one_fault media c s f g (nothing_done a b e) h = e ∙ sym (only_undo media c s g a h)
one_fault media c s f g (nothing_undone a b e) h = e ∙ sym (only_redo media c s g a h)

-- a command that has a result isn't refused

kept_edit : (media : MediaRows) (c : ScriptCommand) (s : State) (f : CommandFault) (d : Edit)
    (t : Timeline) → AsksFor media c.act s.now d → IsAfter s.now d t → IsHalted media c s f → ⊥
kept_edit media c s f d t i h (unlisted a e) = both_ways (is_unlisted media c.act) i.listed a
kept_edit media c s f d t i h (far a b e) =
    both_ways (is_beyond (rate_of s.now) media c.act) i.near b
kept_edit media c s f d t i h (refused g w j r e) =
    not_both s.now d t w h
    (subst (λ x. IsRefused s.now x w) (asked media c.act s.now g d j i) r)
kept_edit media c s f d t i h (nothing_done a b e) = no_edit media c.act s.now d i a
kept_edit media c s f d t i h (nothing_undone a b e) = no_edit_back media c.act s.now d i a

kept_undo : (media : MediaRows) (c : ScriptCommand) (s r : State) (f : CommandFault)
    → c.act ≡ A.Undo
    → back s ≡ Some r → IsHalted media c s f → ⊥
kept_undo media c s r f h g (unlisted a e) =
    both_ways (is_unlisted media c.act) (ap (is_unlisted media) h) a
kept_undo media c s r f h g (far a b e) =
    both_ways (is_beyond (rate_of s.now) media c.act) (ap (is_beyond (rate_of s.now) media) h) b
kept_undo media c s r f h g (refused d w i q e) = no_edit media c.act s.now d i h
kept_undo media c s r f h g (nothing_done a b e) = some_or_none (back s) r g b
kept_undo media c s r f h g (nothing_undone a b e) = not_undo_redo c.act h a

kept_redo : (media : MediaRows) (c : ScriptCommand) (s r : State) (f : CommandFault)
    → c.act ≡ A.Redo
    → forth s ≡ Some r → IsHalted media c s f → ⊥
kept_redo media c s r f h g (unlisted a e) =
    both_ways (is_unlisted media c.act) (ap (is_unlisted media) h) a
kept_redo media c s r f h g (far a b e) =
    both_ways (is_beyond (rate_of s.now) media c.act) (ap (is_beyond (rate_of s.now) media) h) b
kept_redo media c s r f h g (refused d w i q e) = no_edit_back media c.act s.now d i h
kept_redo media c s r f h g (nothing_done a b e) = not_undo_redo c.act a h
kept_redo media c s r f h g (nothing_undone a b e) = some_or_none (forth s) r g b

pub kept_on : (media : MediaRows) (c : ScriptCommand) (s r : State) (f : CommandFault)
    → Takes media c.act s r → IsHalted media c s f → ⊥
kept_on media c s r f (edits d t i a m) h = kept_edit media c s f d t i a h
kept_on media c s r f (undoes e g) h = kept_undo media c s r f e g h
kept_on media c s r f (redoes e g) h = kept_redo media c s r f e g h
