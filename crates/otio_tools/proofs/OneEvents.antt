-- A list that is written as a list has one answer.
use Rattle.std.proofs.Common.{◌≡◌, ◌++◌, ℕ, Bool, Option, List, [], ◌∷◌, All, Some, None, IsSome, false, refl, sym, ap, subst, ◌∙◌, arith}
use Rattle.std.proofs.lemmas.List.Elements.{All-head, All-tail}
use Rattle.std.proofs.lemmas.Grind.{common_steps}
use Rattle.edl_list.specs.declared.list.Event.{Event}
use Rattle.edl_list.specs.declared.list.EventList.{EventList}
use Rattle.edl_list.specs.Labelled.{IsLabelled}
use Rattle.edl_list.specs.Layouts.{narrow, layout_of, FitsEvent}
use Rattle.edl_text.specs.Labelled.{IsFirstNot}
use Rattle.edl_text.specs.Wide.{IsFirstWide}
use Rattle.source_files.specs.Faults.{reel_text, day_text}
use Rattle.otio_tools.specs.Forms.{Answer, refused}
use Rattle.otio_tools.specs.Events.{AnswersEvents, NoTimecode, TooMany, WideReel, PastDay, Spelled}

-- the timecode of a rate is there or not
none_some : {X : Type 0} (o : Option X) → o ≡ None → IsSome o → ⊥
none_some None e h = grind (arith, common_steps)
none_some (Some x) e h = cc

-- the first event that isn't such is one
such_once : (Is : Event → Type 0) (before other after behind : List Event) (e f : Event)
    → before ++ e ∷ after ≡ other ++ f ∷ behind → All Is before → All Is other → (Is e → ⊥)
    → (Is f → ⊥) → e ≡ f
such_once Is [] [] after behind e f h p q a b = cc
such_once Is [] (o ∷ other) after behind e f h p q a b = let k : e ≡ o =
    cc in absurd (a (subst Is (sym k) (All-head Is o other q)))
such_once Is (o ∷ before) [] after behind e f h p q a b = let k : o ≡ f =
    cc in absurd (b (subst Is k (All-head Is o before p)))
such_once Is (o ∷ before) (u ∷ other) after behind e f h p q a b =
    let k : before ++ e ∷ after ≡ other ++ f ∷ behind =
    cc in such_once Is before other after behind e f k (All-tail Is o before p)
    (All-tail Is u other q) a b

none_such : (Is : Event → Type 0) (before after events : List Event) (e : Event)
    → events ≡ before ++ e ∷ after → All Is events → (Is e → ⊥) → ⊥
none_such Is [] after events e h p a = let all : All Is (e ∷ after) =
    subst (All Is) h p in a (All-head Is e after all)
none_such Is (o ∷ before) after events e h p a =
    let all : All Is (o ∷ (before ++ e ∷ after)) =
    subst (All Is) h p in none_such Is before after (before
    ++ e ∷ after) e refl (All-tail Is o (before ++ e ∷ after) all) a

-- the line of the first event that isn't such is one
line_once : (Is : Event → Type 0) (events : List Event) (l k : ℕ) → IsFirstNot Is events (Some l)
    → IsFirstNot Is events (Some k) → l ≡ k
line_once Is events l k p q =
    let same : p.2 ≡ q.2 = such_once Is p.0 q.0 p.1 q.1 p.2 q.2 (sym p.3 ∙ q.3) p.5 q.5 p.6 q.6 in
    p.4 ∙ ap (λ (x : Event). x.line) same ∙ sym q.4

line_none : (Is : Event → Type 0) (events : List Event) (l : ℕ) → IsFirstNot Is events (Some l)
    → All Is events → ⊥
line_none Is events l p q = none_such Is p.0 p.1 events p.2 p.3 q p.6

-- no reel is wide where each stands in the narrow layout
wide_none : (wide : Bool) (events : List Event) (l : ℕ) → wide ≡ false
    → IsFirstWide events (Some l) → All (FitsEvent (layout_of wide)) events → ⊥
wide_none wide events l e p q = line_none (FitsEvent narrow) events l p
    (subst (λ w. All (FitsEvent (layout_of w)) events) e q)

-- a list of events has at most one answer
pub events_once : (name : List ℕ) (target : Option (List ℕ)) (list : EventList) (drop wide : Bool)
    (text : List ℕ) (a b : Answer) → AnswersEvents name target list drop wide text a
    → AnswersEvents name target list drop wide text b → a ≡ b
events_once name target list drop wide text a b (NoTimecode n e) (NoTimecode m f) = e ∙ sym f
events_once name target list drop wide text a b (NoTimecode n e) (TooMany u h f) =
    absurd (none_some _ n u)
events_once name target list drop wide text a b (NoTimecode n e) (WideReel u v j o s f) =
    absurd (none_some _ n u)
events_once name target list drop wide text a b (NoTimecode n e) (PastDay d o q f) =
    absurd (none_some _ n d.timecode)
events_once name target list drop wide text a b (NoTimecode n e) (Spelled d q f) =
    absurd (none_some _ n d.timecode)
events_once name target list drop wide text a b (TooMany t k e) (NoTimecode m f) =
    absurd (none_some _ m t)
events_once name target list drop wide text a b (TooMany t k e) (TooMany u h f) = e ∙ sym f
events_once name target list drop wide text a b (TooMany t k e) (WideReel u v j o s f) =
    absurd (omega (arith, k, v))
events_once name target list drop wide text a b (TooMany t k e) (PastDay d o q f) =
    absurd (omega (arith, k, d.fits.few))
events_once name target list drop wide text a b (TooMany t k e) (Spelled d q f) =
    absurd (omega (arith, k, d.fits.few))
events_once name target list drop wide text a b (WideReel t w i l r e) (NoTimecode m f) =
    absurd (none_some _ m t)
events_once name target list drop wide text a b (WideReel t w i l r e) (TooMany u h f) =
    absurd (omega (arith, h, w))
events_once name target list drop wide text a b (WideReel t w i l r e) (WideReel u v j o s f) =
    e ∙ ap (λ n. refused name (reel_text n)) (line_once (FitsEvent narrow) list.events l o r s)
    ∙ sym f
events_once name target list drop wide text a b (WideReel t w i l r e) (PastDay d o q f) =
    absurd (wide_none wide list.events l i r d.fits.reels)
events_once name target list drop wide text a b (WideReel t w i l r e) (Spelled d q f) =
    absurd (wide_none wide list.events l i r d.fits.reels)
events_once name target list drop wide text a b (PastDay c l p e) (NoTimecode m f) =
    absurd (none_some _ m c.timecode)
events_once name target list drop wide text a b (PastDay c l p e) (TooMany u h f) =
    absurd (omega (arith, h, c.fits.few))
events_once name target list drop wide text a b (PastDay c l p e) (WideReel u v j o s f) =
    absurd (wide_none wide list.events o j s c.fits.reels)
events_once name target list drop wide text a b (PastDay c l p e) (PastDay d o q f) =
    e ∙ ap (λ n. refused name (day_text n)) (line_once (IsLabelled list.rate drop) list.events l o p
    q) ∙ sym f
events_once name target list drop wide text a b (PastDay c l p e) (Spelled d q f) =
    absurd (line_none (IsLabelled list.rate drop) list.events l p q)
events_once name target list drop wide text a b (Spelled c p e) (NoTimecode m f) =
    absurd (none_some _ m c.timecode)
events_once name target list drop wide text a b (Spelled c p e) (TooMany u h f) =
    absurd (omega (arith, h, c.fits.few))
events_once name target list drop wide text a b (Spelled c p e) (WideReel u v j o s f) =
    absurd (wide_none wide list.events o j s c.fits.reels)
events_once name target list drop wide text a b (Spelled c p e) (PastDay d o q f) =
    absurd (line_none (IsLabelled list.rate drop) list.events o q p)
events_once name target list drop wide text a b (Spelled c p e) (Spelled d q f) = e ∙ sym f
