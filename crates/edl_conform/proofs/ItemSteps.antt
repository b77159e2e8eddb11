-- The items of a channel, step by step.
use Rattle.std.proofs.Common.{◌≡◌, refl, sym, ap, subst, ◌∙◌, ℕ, ℤ, pos, ◌-ℤ◌, ◌<ℤ◌, Bool, true, false, cond, List, [], ◌∷◌, ◌++◌, Option, Some, None}
use Rattle.tick_time.specs.declared.rates.Rate.{Rate}
use Rattle.tick_time.specs.declared.spans.Span.{Span}
use Rattle.json_value.specs.declared.Json.{Json}
use Rattle.otio_model.specs.declared.media.Media.TheVariants.{External}
use Rattle.otio_model.specs.declared.compositions.ItemOf.{ItemOf}
use Rattle.otio_model.specs.declared.compositions.Listed.{Listed}
use Rattle.edl_list.specs.declared.list.Channel.{Channel}
use Rattle.edl_list.specs.declared.list.Event.{Event}
use Rattle.edl_list.specs.declared.list.Side.{Side}
use Rattle.edl_list.specs.declared.list.EventList.{EventList}
use Rattle.edl_frames.specs.Shown.{is_on, on_channel}
use Rattle.media_rows.specs.Rows.{MediaRows}
use Rattle.edl_frames.specs.Conformed.{external, Pair, pair_of, IsGap, IsItem, IsItemOf, IsTransition, IsTrackOf, serves, has_track}
use Rattle.edl_frames.specs.Conformed.{AreItems, end, gap, cut, pair, pair_with_side, AreTracks, none, used, unused}
use Rattle.edl_law.specs.Fits.{AreAhead}
use Rattle.edl_conform.specs.Steps as S
use Rattle.edl_conform.specs.Steps.{AddsSpace, AddsOutgoing, AddsLead, AddsEvent, AddsTrack, IsSpace, IsOutgoing, IsLead, IsUnderWay}

nothing_behind : {X : Type 0} (xs : List X) → xs ≡ xs ++ []
nothing_behind [] = refl
nothing_behind (x ∷ xs) = ap (λ l. x ∷ l) (nothing_behind xs)

joined : {X : Type 0} (a b c : List X) → (a ++ b) ++ c ≡ a ++ (b ++ c)
joined [] b c = refl
joined (x ∷ a) b c = ap (λ l. x ∷ l) (joined a b c)

pub adds_no_space : (rate : Rate) (at to : ℤ) (items : List (ItemOf Listed)) → at ≡ to
    → AddsSpace rate at to items items
adds_no_space rate at to items e = record {
  added = [];
  is = nothing_behind items;
  space = subst (λ z. IsSpace rate at z []) e (S.no_space at);
}

pub adds_space : (rate : Rate) (at to : ℤ) (x : ItemOf Listed) (old new : List (ItemOf Listed))
    → at <ℤ to → IsGap rate (to -ℤ at) x → new ≡ old ++ x ∷ [] → AddsSpace rate at to old new
adds_space rate at to x old new h i e =
    record { added = x ∷ []; is = e; space = S.space at to x h i }

pub adds_no_lead : (rate : Rate) (media : MediaRows) (before : Option Event) (at : ℤ)
    (o : Option Pair) (items : List (ItemOf Listed)) → o ≡ None
    → AddsLead rate media before at o items items
adds_no_lead rate media before at o items e = record {
  added = [];
  is = nothing_behind items;
  lead = subst (λ q. IsLead rate media before at q []) (sym e) S.no_lead;
}

pub adds_served : (rate : Rate) (media : MediaRows) (before : Option Event) (at : ℤ) (from : Side)
    (items : List (ItemOf Listed)) → serves rate before at from ≡ true
    → AddsOutgoing rate media before at from items items
adds_served rate media before at from items h =
    record { added = []; is = nothing_behind items; side = S.served h }

pub adds_side : (rate : Rate) (media : MediaRows) (before : Option Event) (at : ℤ) (from : Side)
    (s : ItemOf Listed) (old new : List (ItemOf Listed))
    → serves rate before at from ≡ false → IsItem rate media from (pos 0) s
    → new ≡ old ++ s ∷ [] → AddsOutgoing rate media before at from old new
adds_side rate media before at from s old new h j e =
    record { added = s ∷ []; is = e; side = S.put s h j }

-- an outgoing side and the transition behind it
led : (rate : Rate) (media : MediaRows) (before : Option Event) (at : ℤ) (p : Pair)
    (t : ItemOf Listed) (added : List (ItemOf Listed))
    → IsOutgoing rate media before at p.from added → IsTransition rate p.type p.frames t
    → IsLead rate media before at (Some p) (added ++ t ∷ [])
led rate media before at p t added (S.served h) i = S.transition p t h i
led rate media before at p t added (S.put s h j) i = S.side_first p s t h j i

pub adds_pair : (rate : Rate) (media : MediaRows) (before : Option Event) (at : ℤ)
    (o : Option Pair) (p : Pair) (t : ItemOf Listed) (old mid new : List (ItemOf Listed))
    → o ≡ Some p → AddsOutgoing rate media before at p.from old mid
    → IsTransition rate p.type p.frames t → new ≡ mid ++ t ∷ []
    → AddsLead rate media before at o old new
adds_pair rate media before at o p t old mid new f a i e = record {
  added = a.added ++ t ∷ [];
  is = e ∙ ap (λ l. l ++ t ∷ []) a.is ∙ joined old a.added (t ∷ []);
  lead = subst (λ q. IsLead rate media before at q (a.added ++ t ∷ [])) (sym f)
      (led rate media before at p t a.added a.side i);
}

-- the items of an event that begins at once
at_once : (rate : Rate) (media : MediaRows) (before : Option Event) (at : ℤ) (e : Event)
    (x : ItemOf Listed) (o : Option Pair) (lead : List (ItemOf Listed))
    → pair_of e.cross ≡ o → at ≡ e.rec_in → IsLead rate media before e.rec_in o lead
    → IsItemOf rate media e x
    → (es : List Event) (items : List (ItemOf Listed))
    → AreItems rate media (Some e) e.rec_out es items
    → AreItems rate media before at (e ∷ es) (lead ++ x ∷ items)
at_once rate media before at e x o lead f here S.no_lead i es items more =
    cut before at e es x items here f i more
at_once rate media before at e x o lead f here (S.transition p t h j) i es items more =
    pair before at e es p t x items here f (ap (λ z. serves rate before z p.from) here ∙ h) j i more
at_once rate media before at e x o lead f here (S.side_first p s t h k j) i es items more =
    pair_with_side before at e es p s t x items here f
    (ap (λ z. serves rate before z p.from) here ∙ h) k j i more

behind_space : (rate : Rate) (media : MediaRows) (before : Option Event) (at to : ℤ) (e : Event)
    (x : ItemOf Listed) (front lead : List (ItemOf Listed)) → to ≡ e.rec_in
    → IsSpace rate at to front → IsLead rate media before e.rec_in (pair_of e.cross) lead
    → IsItemOf rate media e x
    → (es : List Event) (items : List (ItemOf Listed))
    → AreItems rate media (Some e) e.rec_out es items
    → AreItems rate media before at (e ∷ es) (front ++ (lead ++ x ∷ items))
behind_space rate media before at to e x front lead f (S.no_space _) l i es items more =
    at_once rate media before at e x (pair_of e.cross) lead refl f l i es items more
behind_space rate media before at to e x front lead f (S.space _ _ g later is_gap) l i es items more =
    gap before at e es g (lead ++ x ∷ items) (subst (λ z. at <ℤ z) f later)
    (subst (λ z. IsGap rate (z -ℤ at) g) f is_gap)
    (at_once rate media before e.rec_in e x (pair_of e.cross) lead refl refl l i es items more)

pub adds_event : (rate : Rate) (media : MediaRows) (before : Option Event) (at : ℤ) (e : Event)
    (x : ItemOf Listed) (old one two new : List (ItemOf Listed))
    → AddsSpace rate at e.rec_in old one
    → AddsLead rate media before e.rec_in (pair_of e.cross) one two
    → IsItemOf rate media e x → new ≡ two ++ x ∷ [] → AddsEvent rate media before at e old new
adds_event rate media before at e x old one two new s l i f = record {
  added = s.added ++ (l.added ++ x ∷ []);
  is = f ∙ ap (λ z. z ++ x ∷ []) (l.is ∙ ap (λ z. z ++ l.added) s.is)
      ∙ joined (old ++ s.added) l.added (x ∷ []) ∙ joined old s.added (l.added ++ x ∷ []);
  are = λ es items more.
      subst (AreItems rate media before at (e ∷ es))
      (sym (joined s.added (l.added ++ x ∷ []) items
      ∙ ap (λ z. s.added ++ z) (joined l.added (x ∷ []) items)))
      (behind_space rate media before at e.rec_in e x s.added l.added refl s.space l.lead i es
      items more);
}

-- ---- the loop over a channel's events

pub under_way : (rate : Rate) (media : MediaRows) (first : ℤ) (es : List Event)
    → AreAhead rate None first es → IsUnderWay rate media first es es None first []
under_way rate media first es h = record { ahead = h; are = λ items i. i }

pub goes_on : (rate : Rate) (media : MediaRows) (first at : ℤ) (all rest : List Event)
    (before : Option Event) (e : Event) (old new : List (ItemOf Listed))
    → IsUnderWay rate media first all (e ∷ rest) before at old
    → AddsEvent rate media before at e old new
    → IsUnderWay rate media first all rest (Some e) e.rec_out new
goes_on rate media first at all rest before e old new h a = record {
  ahead = h.ahead.1;
  are = λ items i.
      subst (AreItems rate media None first all)
      (sym (joined old a.added items) ∙ ap (λ z. z ++ items) (sym a.is))
      (h.are (a.added ++ items) (a.are rest items i));
}

pub at_end : (rate : Rate) (media : MediaRows) (first at : ℤ) (all : List Event)
    (before : Option Event) (items : List (ItemOf Listed))
    → IsUnderWay rate media first all [] before at items
    → AreItems rate media None first all items
at_end rate media first at all before items h =
    subst (AreItems rate media None first all) (sym (nothing_behind items))
    (h.are [] (end before at))

pub filter_in : (c : Channel) (e : Event) (es : List Event) (b : Bool) → is_on c e ≡ b
    → on_channel c (e ∷ es) ≡ cond b (e ∷ on_channel c es) (on_channel c es)
filter_in c e es b h = ap (λ t. cond t (e ∷ on_channel c es) (on_channel c es)) h

-- ---- tracks

pub adds_track : (list : EventList) (media : MediaRows) (c : Channel) (x : ItemOf Listed)
    (old new : List (ItemOf Listed))
    → has_track list.events c ≡ true → IsTrackOf list media c x → new ≡ old ++ x ∷ []
    → AddsTrack list media c old new
adds_track list media c x old new h i e =
    record { added = x ∷ []; is = e; are = λ cs items more. used c cs x items h i more }

pub adds_none : (list : EventList) (media : MediaRows) (c : Channel) (items : List (ItemOf Listed))
    → has_track list.events c ≡ false → AddsTrack list media c items items
adds_none list media c items h = record {
  added = [];
  is = nothing_behind items;
  are = λ cs items more. unused c cs items h more;
}

pub three_tracks : (list : EventList) (media : MediaRows) (a b c : Channel)
    (one two three : List (ItemOf Listed))
    → AddsTrack list media a [] one → AddsTrack list media b one two
    → AddsTrack list media c two three → AreTracks list media (a ∷ b ∷ c ∷ []) three
three_tracks list media a b c one two three f g h =
    subst (AreTracks list media (a ∷ b ∷ c ∷ []))
    (sym (h.is ∙ ap (λ z. z ++ h.added) (g.is ∙ ap (λ z. z ++ g.added) f.is)
    ∙ joined f.added g.added h.added
    ∙ ap (λ z. f.added ++ (g.added ++ z)) (nothing_behind h.added)))
    (f.are (b ∷ c ∷ []) (g.added ++ (h.added ++ []))
    (g.are (c ∷ []) (h.added ++ []) (h.are [] [] none)))

-- ---- media

pub as_external : (metadata : List (List ℕ × Json)) (name url : List ℕ)
    (rest : List (List ℕ × Json)) (s : Span) (at : List ℕ)
    → metadata ≡ [] → name ≡ [] → url ≡ at → rest ≡ []
    → External (record {
      metadata = metadata;
      name = name;
      available_range = Some s;
      target_url = url;
      rest = rest;
    }) ≡ external at s
as_external metadata name url rest s at m n u r = λ i. External (record {
  metadata = m i;
  name = n i;
  available_range = Some s;
  target_url = u i;
  rest = r i;
})
