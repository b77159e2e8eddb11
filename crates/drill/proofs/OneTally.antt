-- A seed and a number of edits have one drill at most.
use Rattle.std.proofs.Common.{◌≡◌, sym, ap, subst, ◌∙◌, ℕ, ◌+◌, zero, suc, false, List, [], Option, Some, None, length, arith}
use Rattle.otio_model.specs.declared.timelines.Timeline.{Timeline}
use Rattle.otio_model.specs.Timelines.{bare}
use Rattle.undo_log.specs.States.{State}
use Rattle.media_rows.specs.Rows.{MediaRows}
use Rattle.edit_script.proofs.OnceRun.{kept_on, one_result}
use Rattle.edl_list.specs.declared.list.EventList.{EventList}
use Rattle.edl_frames.specs.Conformed.{IsTimelineOf}
use Rattle.edl_frames.specs.declared.reasons.Why.{Why}
use Rattle.edl_law.proofs.OneList.{one_list}
use Rattle.edl_law.proofs.OneTimeline.{one_timeline}
use Rattle.drill.specs.Media.{rows}
use Rattle.drill.specs.Starting.{IsStart, behind_start}
use Rattle.drill.specs.Rounds.{Drills, Goes, Round, accepted, refused, drawn}
use Rattle.drill.specs.Rewinding.{rewound}
use Rattle.drill.specs.Lists.{Conforms, IsListed, IsReason}
use Rattle.drill.specs.declared.list_outcome.Listed.{Listed}
use Rattle.drill.specs.declared.list_outcome.Listed.TheVariants as L
use Rattle.drill.specs.Sums.{back_sum}
use Rattle.drill.specs.declared.tally.Carried.{Carried}
use Rattle.drill.specs.declared.tally.Carried.TheVariants as C
use Rattle.drill.specs.declared.tally.Tally.{Tally}
use Rattle.drill.specs.Told.{DrillsTo, IsToldOf, begun, carried_of, track_children}
use Rattle.drill.proofs.Starts.{one_start}
use Rattle.drill.proofs.Undone.{kept_drill, rewound_now}

one_round : (media : MediaRows) (a b c : Round) → Goes media a b → Goes media a c → b ≡ c
one_round media a b c (accepted t n m) (accepted u o p) =
    λ i. record {
      number = (n ∙ sym o) i;
      state = (one_result media (drawn a).act a.state b.state c.state t u) i;
      accepted = (m ∙ sym p) i;
    }
one_round media a b c (accepted t n m) (refused (f, h) e) =
    absurd (kept_on media (record { line = 0; act = (drawn a).act }) a.state b.state f t h)
one_round media a b c (refused (f, h) e) (accepted t n m) =
    absurd (kept_on media (record { line = 0; act = (drawn a).act }) a.state c.state f t h)
one_round media a b c (refused f e) (refused g d) = e ∙ sym d

pub one_end : (media : MediaRows) (n : ℕ) (a b c : Round) → Drills media n a b → Drills media n a c
    → b ≡ c
one_end media zero a b c h k = h ∙ sym k
one_end media (suc n) a b c (d, h, g) (e, k, f) =
    let same : d ≡ e = one_end media n a d e h k in
    one_round media e b c (subst (λ (r : Round). Goes media r b) same g) f

-- two timelines that the list conforms to show the same
one_listed : (t : Timeline) (n m : ℕ) (u v : Timeline) → Conforms t rows n u → Conforms t rows m v
    → carried_of t (L.List n u) ≡ carried_of t (L.List m v)
one_listed t n m u v i j =
    let same : i.list ≡ j.list = one_list t (Some rows) false false i.list j.list i.is j.is in
    let again : bare u ≡ bare v = one_timeline j.list (Some rows) u v
    (subst (λ (x : EventList). IsTimelineOf x (Some rows) u) same i.timeline) j.timeline in
    ap (λ (k : ℕ). carried_of t (L.List k u))
    (sym i.count ∙ ap (λ (x : EventList). length x.events) same ∙ j.count)
    ∙ ap (λ (x : Timeline). carried_of t (L.List m x)) again

-- what is said behind a place is one
abbrev said_in : Why → Option (List ℕ × Why) → Why
said_in other None = other
said_in other (Some p) = p.1

one_said : (p q : List ℕ × Why) → Some p ≡ Some q → p.1 ≡ q.1
one_said p q e = ap (said_in p.1) e

one_reason : (t : Timeline) (w v : Why) → IsReason t rows w → IsReason t rows v → w ≡ v
one_reason t w v (p, e) (q, f) = one_said (p, w) (q, v) (sym e ∙ f)

never_both : (t : Timeline) (n : ℕ) (u : Timeline) (w : Why) → Conforms t rows n u
    → IsReason t rows w → ⊥
never_both t n u w i (p, e) = let g : None ≡ Some (p, w) = sym i.carried ∙ e in cc g

same_told : (t : Timeline) (l k : Listed) → IsListed t rows l → IsListed t rows k
    → carried_of t l ≡ carried_of t k
same_told t (L.List n u) (L.List m v) i j = one_listed t n m u v i j
same_told t (L.List n u) (L.No w) i j = absurd (never_both t n u w i j)
same_told t (L.No w) (L.List n u) i j = absurd (never_both t n u w j i)
same_told t (L.No w) (L.No v) i j = ap C.No (one_reason t w v i j)

one_told : (t : Timeline) (a b : Carried) → IsToldOf t a → IsToldOf t b → a ≡ b
one_told t a b i j = i.told ∙ same_told t i.list j.list i.is j.is ∙ sym j.told

rest_of : (a b c d n : ℕ) → a + b ≡ n → c + d ≡ n → a ≡ c → b ≡ d
rest_of a b c d n h k e = omega (arith, h, k, e)

same_begun : (seed : ℕ) (t u : Timeline) → bare t ≡ bare u → begun seed t ≡ begun seed u
same_begun seed t u e = ap (λ (x : Timeline). record {
  number = behind_start seed;
  state = record { before = []; now = x; after = [] };
  accepted = 0;
}) e

-- what is edited, before and after
one_edited : (seed n : ℕ) (t u : Timeline) (a b : Round) → IsStart seed t → IsStart seed u
    → Drills (Some rows) n (begun seed t) a → Drills (Some rows) n (begun seed u) b → a ≡ b
one_edited seed n t u a b i j h k =
    one_end (Some rows) n (begun seed t) a b h
    (subst (λ (r : Round). Drills (Some rows) n r b)
    (sym (same_begun seed t u (one_start seed t u i j))) k)

pub one_drill_state : (seed n : ℕ) (a b : Tally) (s r : State) → DrillsTo seed n a s
    → DrillsTo seed n b r → s ≡ r
one_drill_state seed n a b s r i j =
    i.goes.rewinds
    ∙ ap (λ (x : Round). rewound x.state)
    (one_edited seed n i.first j.first i.goes.edited j.goes.edited i.starts j.starts i.goes.drills j.goes.drills)
    ∙ sym j.goes.rewinds

pub one_tally : (seed n : ℕ) (a b : Tally) (s r : State) → DrillsTo seed n a s
    → DrillsTo seed n b r → a ≡ b
one_tally seed n a b s r i j =
    let same : i.goes.edited ≡ j.goes.edited =
    one_edited seed n i.first j.first i.goes.edited j.goes.edited i.starts j.starts i.goes.drills j.goes.drills in
    let edits : a.edits ≡ b.edits = i.goes.edits ∙ ap (λ (x : Round). x.accepted) same ∙ sym j.goes.edits in
    let refused : a.refused ≡ b.refused =
    rest_of a.edits a.refused b.edits b.refused n i.goes.refused j.goes.refused edits in
    let items : a.items ≡ b.items =
    i.goes.items ∙ ap (λ (x : Round). track_children x.state.now) same ∙ sym j.goes.items in
    let carried : a.carried ≡ b.carried =
    one_told j.goes.edited.state.now a.carried b.carried
    (subst (λ (x : Round). IsToldOf x.state.now a.carried) same i.goes.carried) j.goes.carried in
    let back : a.back ≡ b.back =
    i.goes.back ∙ ap (λ (x : State). back_sum x.now) (one_drill_state seed n a b s r i j)
    ∙ sym j.goes.back in
    λ k. record {
      edits = edits k;
      refused = refused k;
      items = items k;
      carried = carried k;
      back = back k;
    }

-- undoing all gives the timeline before the first edit
pub back_at_start : (seed n : ℕ) (a : Tally) (s : State) (t : Timeline) → DrillsTo seed n a s
    → IsStart seed t → s.now ≡ bare t
back_at_start seed n a s t i j =
    ap (λ (x : State). x.now) i.goes.rewinds ∙ rewound_now i.goes.edited.state
    ∙ kept_drill (Some rows) n (begun seed i.first) i.goes.edited i.goes.drills
    ∙ one_start seed i.first t i.starts j

pub one_back : (seed m n : ℕ) (a b : Tally) (s r : State) → DrillsTo seed m a s
    → DrillsTo seed n b r → a.back ≡ b.back
one_back seed m n a b s r i j =
    i.goes.back
    ∙ ap back_sum (back_at_start seed m a s j.first i j.starts
    ∙ sym (back_at_start seed n b r j.first j j.starts))
    ∙ sym j.goes.back
