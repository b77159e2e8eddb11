-- Times in range, and the items that are put in.
use Rattle.std.proofs.Common.{◌≡◌, refl, sym, ap, subst, ◌∙◌, ℕ, ℤ, pos, negsuc, ◌≤ℤ◌, ◌*ℤ◌, Bool, true, false, List, [], ◌∷◌, Option, Some, None, arith}
use Rattle.std.specs.Prelude.{codes, cond, IfOk, Result, Ok, Err, int_lt, not, option_map, unsigned_abs}
use Rattle.std.proofs.lemmas.Int.{ints}
use Rattle.std.proofs.Math.IntN.{pos-*ℤ-pos}
use Rattle.std.proofs.lemmas.Bool.{not-false, or_parts}
use Rattle.tick_time.specs.Rates.{frame}
use Rattle.tick_time.specs.declared.rates.Rate.{Rate}
use Rattle.tick_time.specs.declared.spans.Span.{Span}
use Rattle.media_rows.specs.declared.row.MediaRow.{MediaRow}
use Rattle.json_value.specs.declared.Json.{Json}
use Rattle.otio_model.specs.declared.markers.Marker.{Marker}
use Rattle.otio_model.specs.declared.effect_types.Effect.{Effect}
use Rattle.otio_model.specs.declared.media.Media.{Media}
use Rattle.otio_model.specs.declared.media.Media.TheVariants.{External}
use Rattle.otio_model.specs.declared.compositions.ItemOf.{ItemOf}
use Rattle.otio_model.specs.declared.compositions.ItemOf.TheVariants.{Clip}
use Rattle.otio_model.specs.declared.compositions.Listed.{Listed}
use Rattle.coord.specs.declared.faults.ItemFault.{ItemFault}
use Rattle.coord.specs.declared.faults.ItemFault.TheVariants.{Long}
use Rattle.coord.specs.Soundness.{fault_of, is_long}
use Rattle.edits.specs.Nears.{near, span_of}
use Rattle.edits.specs.Children.{made, new_gap, plain_gap, with_range}
use Rattle.edits_law.specs.Editable.{IsEditItem}
use Rattle.edit_script.specs.declared.commands.Put.{Put}
use Rattle.edit_script.specs.declared.commands.Put.TheVariants as P
use Rattle.edit_script.specs.Items.{IsListedClip, IsItem, clip_with, is_far, is_wrong, media_at}
use Rattle.tick_time.specs.Frames.{in_ticks}
use Rattle.tick_time.specs.Times.{IsInRange}
use Rattle.edits.specs.Finest.{high_of, in_range, low_of}
use Rattle.media_rows.specs.Rows.{MediaRows, row_of}

-- ---- counts that aren't wrong

some_of : (z : ℤ) → int_lt z (pos 0) ≡ false → pos 0 ≤ℤ z
some_of z e = grind (arith, ints)

ticks_near : (z : ℤ) → not (in_range z) ≡ false → IsInRange z
ticks_near z e =
    let within = not-false (in_range z) e in
    record { low = low_of z within; high = high_of z within }

product : (n : ℤ) (k : ℕ) → pos 0 ≤ℤ n → pos 0 ≤ℤ (n *ℤ pos k)
product (pos m) k h = subst (λ z. pos 0 ≤ℤ z) (sym (pos-*ℤ-pos m k)) (omega (arith, ints))
product (negsuc m) k h = absurd (omega (arith, ints, h))

pub some_ticks : (r : Rate) (n : ℤ) → is_wrong r n ≡ false → pos 0 ≤ℤ in_ticks r n
some_ticks r n e =
    product n (frame r.num r.den) (some_of n (or_parts (int_lt n (pos 0)) (is_far r n) e).0)

pub some_count : (r : Rate) (n : ℤ) → is_wrong r n ≡ false → pos 0 ≤ℤ n
some_count r n e = some_of n (or_parts (int_lt n (pos 0)) (is_far r n) e).0

pub near_ticks : (r : Rate) (n : ℤ) → is_far r n ≡ false → IsInRange (in_ticks r n)
near_ticks r n e = ticks_near (in_ticks r n) e

pub near_count : (r : Rate) (n : ℤ) → is_wrong r n ≡ false → IsInRange (in_ticks r n)
near_count r n e = near_ticks r n (or_parts (int_lt n (pos 0)) (is_far r n) e).1

pub ruleset counts = (some_ticks, some_count, near_ticks, near_count)

-- ---- gaps

pub gap_made : (r : Rate) (n z : ℤ) (x : ItemOf Listed) → z ≡ in_ticks r n
    → made r (new_gap z) ≡ Some x → made r (new_gap (in_ticks r n)) ≡ Some x
gap_made r n z x e f = ap (λ y. made r (new_gap y)) (sym e) ∙ f

-- ---- items of edits

fault_is : (b : Bool) (fault : ItemFault) → cond b (Some Long) None ≡ Some fault → fault ≡ Long
fault_is true fault e = let g : Some Long ≡ Some fault = e in cc g
fault_is false fault e = absurd (let g : None ≡ Some fault = e in cc g)

gap_fault : (w : Span) (fault : ItemFault) → fault_of (with_range w plain_gap) ≡ Some fault
    → fault ≡ Long
gap_fault w fault e = fault_is (is_long (with_range w plain_gap) (unsigned_abs w.len.ticks)) fault e

edit_gap : (o : Option Span) (x : ItemOf Listed) → option_map (λ w. with_range w plain_gap) o
    ≡ Some x
    → IsEditItem x
edit_gap None x e = absurd (let g : None ≡ Some x = e in cc g)
edit_gap (Some w) x e =
    let same : with_range w plain_gap ≡ x = let g : Some (with_range w plain_gap) ≡ Some x = e in
    cc g in
    subst IsEditItem same (record { kind = refl; known = gap_fault w })

edit_clip : (name : List ℕ) (w : Span) (m : Media) → IsEditItem (clip_with name w m)
edit_clip name w m = record {
  kind = refl;
  known = λ fault e. fault_is (is_long (clip_with name w m) (unsigned_abs w.len.ticks)) fault e;
}

pub edit_item : (r : Rate) (media : MediaRows) (put : Put) (x : ItemOf Listed)
    → IsItem r media put x → IsEditItem x
edit_item r media (P.Gap n) x i =
    edit_gap (span_of (near (pos 0) r) (near (in_ticks r n) r)) x i
edit_item r media (P.Clip name reel start n) x i =
    subst IsEditItem (sym i.2.is) (edit_clip name i.2.shown (media_at i.0.url i.2.available))

-- ---- what is made

pub media_is : (url u n : List ℕ) (s : Span) (a b : List (List ℕ × Json)) → a ≡ [] → n ≡ []
    → u ≡ url → b ≡ [] → External (record {
      metadata = a;
      name = n;
      available_range = Some s;
      target_url = u;
      rest = b;
    }) ≡ media_at url s
media_is url u n s a b e f g h = λ k. External (record {
  metadata = e k;
  name = f k;
  available_range = Some s;
  target_url = g k;
  rest = h k;
})

pub clip_is : (name n key : List ℕ) (w : Span) (m : Media) (a b : List (List ℕ × Json))
    (ef : List Effect) (mk : List Marker) (refs : List (List ℕ × Media)) → a ≡ [] → n ≡ name
    → ef ≡ [] → mk ≡ [] → refs ≡ (codes "DEFAULT_MEDIA", m) ∷ [] → key ≡ codes "DEFAULT_MEDIA"
    → b ≡ [] → ◌≡◌ {A = ItemOf Listed} (Clip (record {
      metadata = a;
      name = n;
      source_range = Some w;
      effects = ef;
      markers = mk;
      enabled = true;
      media_references = refs;
      active_media_reference_key = key;
      rest = b;
    })) (clip_with name w m)
clip_is name n key w m a b ef mk refs e f g h i j l = λ k. Clip (record {
  metadata = e k;
  name = f k;
  source_range = Some w;
  effects = g k;
  markers = h k;
  enabled = true;
  media_references = i k;
  active_media_reference_key = j k;
  rest = l k;
})

pub gap_item : (r : Rate) (media : MediaRows) (put : Put) (n : ℤ) (gap : ItemOf Listed)
    → put ≡ P.Gap n → made r (new_gap (in_ticks r n)) ≡ Some gap → IsItem r media put gap
gap_item r media put n gap e h = subst (λ p. IsItem r media p gap) (sym e) h

pub clip_item : {F : Type 0} (r : Rate) (media : MediaRows) (put : Put) (row : MediaRow)
    (name reel : List ℕ) (s n : ℤ) (res : Result (ItemOf Listed) F) → put ≡ P.Clip name reel s n
    → Some row ≡ row_of media reel → IfOk res (IsListedClip r row name s n)
    → IfOk res (IsItem r media put)
clip_item r media put row name reel s n (Err f) e g h = tt
clip_item r media put row name reel s n (Ok x) e g h =
    subst (λ p. IsItem r media p x) (sym e) (row, sym g, h)

pub edit_items : {F : Type 0} (r : Rate) (media : MediaRows) (put : Put)
    (res : Result (ItemOf Listed) F) → IfOk res (IsItem r media put) → IfOk res IsEditItem
edit_items r media put (Err f) h = tt
edit_items r media put (Ok x) h = edit_item r media put x h
