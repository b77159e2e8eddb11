-- The notes of a timeline for its list are one.
use Rattle.std.proofs.Common.{◌≡◌, ◌==◌, ◌⊎◌, inl, inr, ℕ, suc, ℤ, pos, ◌+ℤ◌, Bool, true, false, cond, List, [], ◌∷◌, ◌++◌, Option, Some, None, codes, length, refl, sym, ap, ap₂, subst, ◌∙◌, arith}
use Rattle.coord.proofs.Members.{same_some}
use Rattle.json_value.specs.declared.Json.{Json, out-Json}
use Rattle.json_value.specs.declared.Json.TheOpen.{Json-F}
use Rattle.tick_time.specs.declared.rates.Rate.{Rate}
use Rattle.otio_model.specs.declared.markers.Marker.{Marker}
use Rattle.otio_model.specs.declared.markers.Marker.TheVariants.{Known, Kept}
use Rattle.otio_model.specs.declared.markers.Mark.{Mark}
use Rattle.otio_model.specs.declared.compositions.Clip.{Clip as ClipRow}
use Rattle.otio_model.specs.declared.compositions.ItemOf.{ItemOf}
use Rattle.otio_model.specs.declared.compositions.ItemOf.TheVariants.{Clip, Gap, Transition, Stack, Track}
use Rattle.otio_model.specs.declared.compositions.Listed.{Listed}
use Rattle.otio_model.specs.declared.timelines.Timeline.{Timeline}
use Rattle.otio_model.specs.Trees.{item_at}
use Rattle.edl_list.specs.declared.list.Channel.{Channel}
use Rattle.edl_list.specs.declared.list.Channel.TheVariants.{V, A, A2}
use Rattle.edl_list.specs.declared.list.Event.{Event}
use Rattle.edl_list.specs.declared.list.EventList.{EventList}
use Rattle.edl_list.specs.Formed.{rank}
use Rattle.edl_frames.specs.Conformed.{is_black}
use Rattle.edl_frames.specs.ChildEvents.{unnumbered}
use Rattle.edl_frames.specs.Homes.{AreHomes, HasList, Homed, homed_on, paired}
use Rattle.edl_text.specs.Columns.{cleaned}
use Rattle.note_text.specs.Belonging.{first_shown}
use Rattle.note_text.specs.Found.{AreNotesFrom, AreNotesOf, HasSat, HasSop, IsColorOf, IsNumeralOf, IsTripleOf, SayMarkers, SaysClip, SaysHome, SaysMark, SaysMarker, SaysSat, SaysSop, as_notes, color_member, marked_frame}
use Rattle.note_text.specs.declared.notes.Triple.{Triple}
use Rattle.note_text.specs.declared.notes.Said.{Said}
use Rattle.note_text.specs.declared.notes.Said.TheVariants.{Loc, Sop, Sat}
use Rattle.note_text.specs.declared.notes.Note.{Note}

-- ---- homes

own_channel : (c : Channel) → (rank c == rank c) ≡ true
own_channel V = refl
own_channel A = refl
own_channel A2 = refl

abbrev homed : Event → List ℕ → Homed
homed e home = record { event = unnumbered e; home = home }

same_homes : (es : List Event) (a b : List (List ℕ)) → length a ≡ length es → length b ≡ length es → ((c : Channel) → homed_on c (paired es a) ≡ homed_on c (paired es b)) → a ≡ b
same_homes [] [] [] p q h = refl
same_homes [] (x ∷ a) b p q h = absurd (omega (arith, p))
same_homes [] [] (y ∷ b) p q h = absurd (omega (arith, q))
same_homes (e ∷ es) [] b p q h = absurd (omega (arith, p))
same_homes (e ∷ es) (x ∷ a) [] p q h = absurd (omega (arith, q))
same_homes (e ∷ es) (x ∷ a) (y ∷ b) p q h =
    ap₂ (λ z zs. z ∷ zs) (head (rank e.channel == rank e.channel) (own_channel e.channel) (h e.channel))
    (same_homes es a b (omega (arith, p)) (omega (arith, q)) (λ c. tail c (rank c == rank e.channel) (h c)))
  where
    head : (t : Bool) → t ≡ true → ◌≡◌ {A = List Homed} (cond t (homed e x ∷ homed_on e.channel (paired es a)) (homed_on e.channel (paired es a)))
        (cond t (homed e y ∷ homed_on e.channel (paired es b)) (homed_on e.channel (paired es b))) → x ≡ y
    head true f g = let same : homed e x ≡ homed e y = cc g in ap (λ (z : Homed). z.home) same
    head false f g = absurd (cc f)

    tail : (c : Channel) (t : Bool) → ◌≡◌ {A = List Homed} (cond t (homed e x ∷ homed_on c (paired es a)) (homed_on c (paired es a)))
        (cond t (homed e y ∷ homed_on c (paired es b)) (homed_on c (paired es b))) → homed_on c (paired es a) ≡ homed_on c (paired es b)
    tail c true g = cc g
    tail c false g = g

pub one_homes : (t : Timeline) (list : EventList) (a b : List (List ℕ)) → HasList t list → AreHomes t list a → AreHomes t list b → a ≡ b
one_homes t list a b has g h =
    let x = g has.media has.drop has.wide has.carried has.is in
    let y = h has.media has.drop has.wide has.carried has.is in
    same_homes list.events a b x.each y.each (λ c. x.on c ∙ sym (y.on c))

-- ---- color corrections

same_numeral : (j k : Json) (a b : List ℕ) → j ≡ k → IsNumeralOf (Some j) a → IsNumeralOf (Some k) b → a ≡ b
same_numeral j k a b e g h = let same : Json-F.Num a ≡ Json-F.Num b = sym g.0 ∙ ap out-Json e ∙ h.0 in cc same

same_triple : (name : List ℕ) (sop : Json) (a b : Triple) → IsTripleOf name sop a → IsTripleOf name sop b → a ≡ b
same_triple name sop a b first second =
    let value = same_some first.value second.value (sym first.member ∙ second.member) in
    let g = first.numerals in
    let h = second.numerals in
    let list : Json-F.List (g.r ∷ g.g ∷ g.b ∷ []) ≡ Json-F.List (h.r ∷ h.g ∷ h.b ∷ []) = sym g.list ∙ ap out-Json value ∙ h.list in
    let red : g.r ≡ h.r = cc list in
    let green : g.g ≡ h.g = cc list in
    let blue : g.b ≡ h.b = cc list in
    let r = same_numeral g.r h.r a.r b.r red g.r_is h.r_is in
    let s = same_numeral g.g h.g a.g b.g green g.g_is h.g_is in
    let t = same_numeral g.b h.b a.b b.b blue g.b_is h.b_is in
    λ i. record { r = r i; g = s i; b = t i }

record AreSame (s o p s' o' p' : Triple) : Type 0 where
  slope : s ≡ s'
  offset : o ≡ o'
  power : p ≡ p'

same_sop : (metadata : List (List ℕ × Json)) (s o p s' o' p' : Triple) → HasSop metadata s o p → HasSop metadata s' o' p' → AreSame s o p s' o' p'
same_sop metadata s o p s' o' p' g h =
    let sop : h.sop ≡ g.sop = same_some h.sop g.sop (sym h.member ∙ g.member) in
    record {
      slope = same_triple (codes "slope") g.sop s s' g.slope_is (subst (λ j. IsTripleOf (codes "slope") j s') sop h.slope_is);
      offset = same_triple (codes "offset") g.sop o o' g.offset_is (subst (λ j. IsTripleOf (codes "offset") j o') sop h.offset_is);
      power = same_triple (codes "power") g.sop p p' g.power_is (subst (λ j. IsTripleOf (codes "power") j p') sop h.power_is);
    }

one_sop : (metadata : List (List ℕ × Json)) (a b : List Said) → SaysSop metadata a → SaysSop metadata b → a ≡ b
one_sop metadata [] [] g h = refl
one_sop metadata (Sop s o p ∷ []) (Sop s' o' p' ∷ []) (SaysSop.some x y z g) (SaysSop.some x' y' z' h) =
    let e = same_sop metadata s o p s' o' p' g h in
    ap (λ v. Sop v o p ∷ []) e.slope ∙ ap (λ v. Sop s' v p ∷ []) e.offset ∙ ap (λ v. Sop s' o' v ∷ []) e.power
one_sop metadata [] (Sop s o p ∷ []) (SaysSop.none n) (SaysSop.some x y z h) = absurd (n s o p h)
one_sop metadata (Sop s o p ∷ []) [] (SaysSop.some x y z g) (SaysSop.none n) = absurd (n s o p g)
one_sop metadata (Loc at color name ∷ l) b g h = elim g [ ]
one_sop metadata (Sat numeral ∷ l) b g h = elim g [ ]
one_sop metadata (Sop s o p ∷ x ∷ l) b g h = elim g [ ]
one_sop metadata [] (Loc at color name ∷ l) g h = elim h [ ]
one_sop metadata [] (Sat numeral ∷ l) g h = elim h [ ]
one_sop metadata [] (Sop s o p ∷ x ∷ l) g h = elim h [ ]
one_sop metadata (Sop s o p ∷ []) (Loc at color name ∷ l) g h = elim h [ ]
one_sop metadata (Sop s o p ∷ []) (Sat numeral ∷ l) g h = elim h [ ]
one_sop metadata (Sop s o p ∷ []) (Sop s' o' p' ∷ x ∷ l) g h = elim h [ ]

same_sat : (metadata : List (List ℕ × Json)) (a b : List ℕ) → HasSat metadata a → HasSat metadata b → a ≡ b
same_sat metadata a b g h = by (color_member (codes "asc_sat") metadata) g h
  where
    by : (o : Option Json) → IsNumeralOf o a → IsNumeralOf o b → a ≡ b
    by None g h = absurd g
    by (Some j) g h = same_numeral j j a b refl g h

one_sat : (metadata : List (List ℕ × Json)) (a b : List Said) → SaysSat metadata a → SaysSat metadata b → a ≡ b
one_sat metadata [] [] g h = refl
one_sat metadata (Sat m ∷ []) (Sat n ∷ []) (SaysSat.some x g) (SaysSat.some y h) = ap (λ v. Sat v ∷ []) (same_sat metadata m n g h)
one_sat metadata [] (Sat n ∷ []) (SaysSat.none k) (SaysSat.some y h) = absurd (k n h)
one_sat metadata (Sat m ∷ []) [] (SaysSat.some x g) (SaysSat.none k) = absurd (k m g)
one_sat metadata (Loc at color name ∷ l) b g h = elim g [ ]
one_sat metadata (Sop s o p ∷ l) b g h = elim g [ ]
one_sat metadata (Sat m ∷ x ∷ l) b g h = elim g [ ]
one_sat metadata [] (Loc at color name ∷ l) g h = elim h [ ]
one_sat metadata [] (Sop s o p ∷ l) g h = elim h [ ]
one_sat metadata [] (Sat n ∷ x ∷ l) g h = elim h [ ]
one_sat metadata (Sat m ∷ []) (Loc at color name ∷ l) g h = elim h [ ]
one_sat metadata (Sat m ∷ []) (Sop s o p ∷ l) g h = elim h [ ]
one_sat metadata (Sat m ∷ []) (Sat n ∷ x ∷ l) g h = elim h [ ]

-- ---- markers

red_is_own : (mark : Mark) (color : List ℕ) → IsColorOf mark color → (other : List ℕ) → IsColorOf mark other → color ≡ other
red_is_own mark color (IsColorOf.own x e c) other (IsColorOf.own y f d) = same_some color other (sym e ∙ f)
red_is_own mark color (IsColorOf.own x e c) other (IsColorOf.red n) = absurd (n color e c)
red_is_own mark color (IsColorOf.red n) other (IsColorOf.own y f d) = absurd (n other f d)
red_is_own mark color (IsColorOf.red n) other (IsColorOf.red m) = refl

-- what a mark says, with what it shows apart
pub record Shows (rate : Rate) (e : Event) (mark : Mark) (said : List Said) : Type 0 where
  pub v : ℤ
  pub k : ℕ
  pub color : List ℕ
  pub marked : marked_frame rate mark ≡ Some v
  pub first : first_shown rate e v ≡ Some k
  pub is_color : IsColorOf mark color
  pub is : said ≡ Loc (e.rec_in +ℤ pos k) color (cleaned mark.name) ∷ []

pub mark_cases : (rate : Rate) (e : Event) (mark : Mark) (said : List Said) → SaysMark rate e mark said
    → Shows rate e mark said ⊎ ((said ≡ []) × ((v : ℤ) (k : ℕ) → marked_frame rate mark ≡ Some v → first_shown rate e v ≡ Some k → ⊥))
mark_cases rate e mark said (SaysMark.some v k color m f c) = inl (record { v = v; k = k; color = color; marked = m; first = f; is_color = c; is = refl })
mark_cases rate e mark said (SaysMark.none n) = inr (refl, n)

one_mark : (rate : Rate) (e : Event) (mark : Mark) (a b : List Said) → SaysMark rate e mark a → SaysMark rate e mark b → a ≡ b
one_mark rate e mark a b g h = by (mark_cases rate e mark a g) (mark_cases rate e mark b h)
  where
    by : Shows rate e mark a ⊎ ((a ≡ []) × ((v : ℤ) (k : ℕ) → marked_frame rate mark ≡ Some v → first_shown rate e v ≡ Some k → ⊥))
        → Shows rate e mark b ⊎ ((b ≡ []) × ((v : ℤ) (k : ℕ) → marked_frame rate mark ≡ Some v → first_shown rate e v ≡ Some k → ⊥)) → a ≡ b
    by (inl x) (inl y) =
        let v = same_some x.v y.v (sym x.marked ∙ y.marked) in
        let k = same_some x.k y.k (sym x.first ∙ ap (first_shown rate e) v ∙ y.first) in
        let c = red_is_own mark x.color x.is_color y.color y.is_color in
        x.is ∙ ap₂ (λ j s. Loc (e.rec_in +ℤ pos j) s (cleaned mark.name) ∷ []) k c ∙ sym y.is
    by (inl x) (inr y) = absurd (y.1 x.v x.k x.marked x.first)
    by (inr x) (inl y) = absurd (x.1 y.v y.k y.marked y.first)
    by (inr x) (inr y) = x.0 ∙ sym y.0

one_marker : (rate : Rate) (e : Event) (m : Marker) (a b : List Said) → SaysMarker rate e m a → SaysMarker rate e m b → a ≡ b
one_marker rate e (Known mark) a b g h = one_mark rate e mark a b g h
one_marker rate e (Kept j) a b g h = g ∙ sym h

one_markers : (rate : Rate) (e : Event) (ms : List Marker) (a b : List Said) → SayMarkers rate e ms a → SayMarkers rate e ms b → a ≡ b
one_markers rate e [] a b g h = g ∙ sym h
one_markers rate e (m ∷ ms) a b g h =
    g.2 ∙ ap₂ (λ x y. x ++ y) (one_marker rate e m g.0 h.0 g.3 h.3) (one_markers rate e ms g.1 h.1 g.4 h.4) ∙ sym h.2

-- ---- events

one_clip : (rate : Rate) (e : Event) (c : ClipRow) (a b : List Said) → SaysClip rate e c a → SaysClip rate e c b → a ≡ b
one_clip rate e c a b g h =
    g.is ∙ ap₂ (λ x y. x ++ y) (one_sop c.metadata g.sop h.sop g.is_sop h.is_sop)
    (ap₂ (λ x y. x ++ y) (one_sat c.metadata g.sat h.sat g.is_sat h.is_sat) (one_markers rate e c.markers g.marks h.marks g.are_marks h.are_marks)) ∙ sym h.is

one_home : (rate : Rate) (e : Event) (o : Option (ItemOf Listed)) (a b : List Said) → SaysHome rate e o a → SaysHome rate e o b → a ≡ b
one_home rate e None a b g h = g ∙ sym h
one_home rate e (Some (Clip c)) a b g h = by (is_black e.to.reel) g h
  where
    by : (t : Bool) → cond t (a ≡ []) (SaysClip rate e c a) → cond t (b ≡ []) (SaysClip rate e c b) → a ≡ b
    by true x y = x ∙ sym y
    by false x y = one_clip rate e c a b x y
one_home rate e (Some (Gap x)) a b g h = g ∙ sym h
one_home rate e (Some (Transition x)) a b g h = g ∙ sym h
one_home rate e (Some (Stack x)) a b g h = g ∙ sym h
one_home rate e (Some (Track x)) a b g h = g ∙ sym h

one_from : (t : Timeline) (rate : Rate) (index : ℕ) (es : List Event) (homes : List (List ℕ)) (a b : List Note) → AreNotesFrom t rate index es homes a → AreNotesFrom t rate index es homes b → a ≡ b
one_from t rate index [] homes a b g h = g ∙ sym h
one_from t rate index (e ∷ es) [] a b g h = absurd g
one_from t rate index (e ∷ es) (home ∷ homes) a b g h =
    g.2 ∙ ap₂ (λ s m. as_notes index s ++ m) (one_home rate e (item_at home t.tracks.children) g.0 h.0 g.3 h.3) (one_from t rate (suc index) es homes g.1 h.1 g.4 h.4) ∙ sym h.2

pub one_notes : (t : Timeline) (list : EventList) (a b : List Note) → HasList t list → AreNotesOf t list a → AreNotesOf t list b → a ≡ b
one_notes t list a b has g h =
    let homes = one_homes t list g.homes h.homes has g.are_homes h.are_homes in
    one_from t list.rate 0 list.events h.homes a b (subst (λ l. AreNotesFrom t list.rate 0 list.events l a) homes g.are) h.are
