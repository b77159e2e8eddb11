-- What a trim is as a motion.
use Rattle.std.proofs.Common.{◌≡◌, refl, sym, subst, ap, ap₂, ◌∙◌, inl, ℕ, ◌<◌, ℤ, pos, ◌+ℤ◌, ◌-ℤ◌}
use Rattle.std.proofs.Common.{◌<ℤ◌, Bool, true, false, cond, Option, Some, None, List, [], ◌∷◌}
use Rattle.std.proofs.Common.{◌++◌, arith, append_assoc}
use Rattle.std.specs.Prelude.{IfSome}
use Rattle.std.specs.Int.{int_max, int_min}
use Rattle.std.proofs.lemmas.Int.{ints, clamps}
use Rattle.otio_model.specs.declared.compositions.ItemOf.{ItemOf}
use Rattle.otio_model.specs.declared.compositions.Listed.{Listed}
use Rattle.edits.specs.Children.{Child, ticks}
use Rattle.edits.specs.Edges.{Held, Moves, Zone, added, end, first_changed, first_item, gap_of}
use Rattle.edits.specs.Edges.{gap_ticks, is_gap_at, last_changed, last_item, left_before}
use Rattle.edits.specs.Edges.{left_behind, moved, moves_zone, start, trim_by, trimmed}
use Rattle.edits.specs.Edges.{trimmed_before, trimmed_behind}
use Rattle.edits.specs.Edits.{in_ticks}
use Rattle.edits.specs.Good.{IsTrimmedBefore, IsTrimmedBehind}
use Rattle.edits.specs.Refusals.{long}
use Rattle.edit_plans.specs.Bounds.{IsMove}
use Rattle.edit_trim.specs.Changes.{IsChange, Leaves, changed, reshaped}
use Rattle.edit_trim.specs.Motions.{IsMotion, held_list, trim_growth}
use Rattle.edit_trim.specs.Seats.{IsInstant, keep, trim_shape, zone_of}
use Rattle.edit_trim.specs.declared.edge_edits.EdgeEdit.TheVariants as M
use Rattle.edit_trim.specs.declared.edge_moves.Motion.TheVariants as W
use Rattle.edit_trim.specs.declared.resized_items.Change.TheVariants as C
use Rattle.edit_trim.specs.declared.replacements.Interval.{Interval}
use Rattle.edit_trim.proofs.Bounded.{TrimLeaves, trims}
use Rattle.edit_trim.proofs.KeptEdges.{first_keep, last_keep}
use Rattle.edit_trim.proofs.Longs.{long_gap, long_grown}
use Rattle.edit_trim.proofs.MotionLemmas.{grows, keep_change, kept_before, kept_behind, less_move}
use Rattle.edit_trim.proofs.MotionLemmas.{moved_by, put_before, put_behind, zone_same}

-- the trimmed list in the words of its shape
none_more : (r : List Child) → r ++ [] ≡ r
none_more [] = refl
none_more (x ∷ r) = ap (λ q. x ∷ q) (none_more r)

shaped_before : (h : Held) (head tail : ℤ) (b c : Bool) → is_gap_at (last_item h.before) ≡ b
    → trimmed_before h (record { head = head; tail = tail })
    ≡ last_changed (changed (trim_shape b c head tail).before)
    (left_before h (moves_zone h (record { head = head; tail = tail })))
    ++ gap_of (trim_shape b c head tail).gap_before
shaped_before h head tail true c e = rw (e, trimmed_before) (sym (none_more _))
shaped_before h head tail false c e = rw (e, trimmed_before)
    (ap (λ q. q ++ gap_of head) (sym (last_keep (left_before h
    (moves_zone h (record { head = head; tail = tail }))))))

shaped_behind : (h : Held) (head tail : ℤ) (b c : Bool) → is_gap_at (first_item h.behind) ≡ c
    → trimmed_behind h (record { head = head; tail = tail })
    ≡ gap_of (trim_shape b c head tail).gap_behind
    ++ first_changed (changed (trim_shape b c head tail).behind)
    (left_behind h (moves_zone h (record { head = head; tail = tail })))
shaped_behind h head tail b true e = rw (e, trimmed_behind) refl
shaped_behind h head tail b false e = rw (e, trimmed_behind)
    (ap (λ q. gap_of (pos 0 -ℤ tail) ++ q) (sym (first_keep
    (left_behind h (moves_zone h (record { head = head; tail = tail }))))))

shaped : (h : Held) (head tail : ℤ) (b c : Bool) → is_gap_at (last_item h.before) ≡ b
    → is_gap_at (first_item h.behind) ≡ c
    → trimmed h (record { head = head; tail = tail })
    ≡ reshaped h (moves_zone h (record { head = head; tail = tail })) (trim_shape b c head tail)
shaped h head tail b c e f =
    ap₂ (λ p q. p ++ (moved head tail h.item ∷ q)) (shaped_before h head tail b c e)
    (shaped_behind h head tail b c f)
    ∙ append_assoc (last_changed (changed (trim_shape b c head tail).before)
    (left_before h (moves_zone h (record { head = head; tail = tail }))))
    (gap_of (trim_shape b c head tail).gap_before) _

-- ---- how much each side grows

-- the gap before the item gives way, or a new one comes
before_grows : (h : Held) (z : Zone) (head tail : ℤ) (b c : Bool)
    → is_gap_at (last_item h.before) ≡ b → IsTrimmedBefore (last_item h.before) head
    → (long (last_changed (changed (trim_shape b c head tail).before) (left_before h z))
    ≡ (added h.before +ℤ cond b head (pos 0))) × (long
    (gap_of (trim_shape b c head tail).gap_before) ≡ cond b (pos 0) head)
before_grows h z head tail b c = by (last_item h.before) refl b
  where
    by : (o : Option (ItemOf Listed)) → last_item h.before ≡ o → (d : Bool) → is_gap_at o ≡ d
        → IsTrimmedBefore o head
        → (long (last_changed (changed (trim_shape d c head tail).before) (left_before h z))
        ≡ (added h.before +ℤ cond d head (pos 0)))
        × (long (gap_of (trim_shape d c head tail).gap_before) ≡ cond d (pos 0) head)
    by None e true f t = absurd (cc f)
    by None e false f t = (
      kept_before h z,
      let g = long_gap head in
          omega (arith, ints, clamps, g, t),
    )
    by (Some y) e true f t =
        let n : gap_ticks y ≡ ticks y = rw f refl in (
          put_before (C.Grow head) h z y head e (long_grown head y (omega (arith, ints, t, n))),
          refl,
        )
    by (Some y) e false f t =
        let n : gap_ticks y ≡ pos 0 = rw f refl in
        (kept_before h z, let g = long_gap head in omega (arith, ints, clamps, g, t, n))

-- how much a new gap behind the item and what stands behind it are longer
record Grown (h : Held) (z : Zone) (head tail : ℤ) (b c : Bool) (o : Option (ItemOf Listed)) : Type
    0 where
  gap : ℤ
  list : ℤ
  gap_is : long (gap_of (trim_shape b c head tail).gap_behind) ≡ gap
  list_is : long (first_changed (changed (trim_shape b c head tail).behind) (left_behind h z))
      ≡ (added h.behind +ℤ list)
  sum : trim_growth o tail ≡ (tail +ℤ (gap +ℤ list))

-- the gap behind it gives way, or a new one comes, or the track ends there
behind_grows : (h : Held) (z : Zone) (head tail : ℤ) (b c : Bool)
    → is_gap_at (first_item h.behind) ≡ c → IsTrimmedBehind (first_item h.behind) tail
    → Grown h z head tail b c (first_item h.behind)
behind_grows h z head tail b c = by (first_item h.behind) refl c
  where
    by : (o : Option (ItemOf Listed)) → first_item h.behind ≡ o → (d : Bool) → is_gap_at o ≡ d
        → IsTrimmedBehind o tail → Grown h z head tail b d o
    by None e true f t = absurd (cc f)
    by None e false f t = record {
      gap = int_max (pos 0) (pos 0 -ℤ tail);
      list = pos 0;
      gap_is =
          long_gap (pos 0 -ℤ tail);
      list_is = kept_behind h z;
      sum = omega (arith, ints, clamps);
    }
    by (Some y) e true f t =
        let n : gap_ticks y ≡ ticks y = rw f refl in
        record {
          gap = pos 0;
          list = pos 0 -ℤ tail;
          gap_is = refl;
          list_is = put_behind (C.Grow (pos 0 -ℤ tail)) h z y (pos 0 -ℤ tail) e
              (long_grown (pos 0 -ℤ tail) y (omega (arith, ints, t, n)));
          sum = omega (arith, ints);
        }
    by (Some y) e false f t =
        let n : gap_ticks y ≡ pos 0 = rw f refl in
        record {
          gap = int_max (pos 0) (pos 0 -ℤ tail);
          list = pos 0;
          gap_is =
              long_gap (pos 0 -ℤ tail);
          list_is = kept_behind h z;
          sum =
              omega (arith, ints, clamps, t, n);
        }

-- ---- all of it

gives : (o : Option (ItemOf Listed)) (b : Bool) (n : ℤ) → IfSome o (Leaves (cond b (C.Grow n) keep))
gives None b n = tt
gives (Some y) true n = tt
gives (Some y) false n = omega (arith, ints)

change : (b : Bool) (n : ℤ) → IsMove n → IsChange (cond b (C.Grow n) keep)
change true n m = m
change false n m = keep_change

sums : (b : Bool) (head tail k r n : ℤ) → n ≡ (tail +ℤ (k +ℤ r))
    → n ≡ ((((cond b head (pos 0) +ℤ cond b (pos 0) head) +ℤ (tail -ℤ head)) +ℤ k) +ℤ r)
sums true head tail k r n e = omega (arith, ints, e)
sums false head tail k r n e = omega (arith, ints, e)

pub trim_is : (n : ℕ) (by_head by_tail : ℤ) (h : Held) (z : Interval) (m : Moves) (b c : Bool)
    (g : ℤ) → 0 < n → pos 0 <ℤ ticks h.item → m ≡ trim_by (pos n) h
    (in_ticks (pos n) by_head by_tail)
    → is_gap_at (last_item h.before) ≡ b → is_gap_at (first_item h.behind) ≡ c
    → g ≡ trim_growth (first_item h.behind) m.tail
    → IsMove m.head → IsMove m.tail → z.from ≡ int_min (start h) (start h +ℤ m.head)
    → z.to ≡ int_max (end h) (end h +ℤ m.tail) → IsInstant z.from → IsInstant z.to
    → IsMotion (pos n) (M.Trim by_head by_tail) h (W.Edges z (trim_shape b c m.head m.tail) g)
trim_is n by_head by_tail h z m b c g k t e eb ec eg mh mt a d ma mb =
    let r : TrimLeaves h m = subst (TrimLeaves h) (sym e) (trims n h (in_ticks (pos n) by_head by_tail) k t)
    in
    let same : moves_zone h m ≡ zone_of z = sym (zone_same z (int_min (start h) (start h +ℤ m.head))
    (int_max (end h) (end h +ℤ m.tail)) a d) in
    let made : held_list (pos n) (M.Trim by_head by_tail) h
    ≡ reshaped h (zone_of z) (trim_shape b c m.head m.tail) =
    ap (trimmed h) (sym e) ∙ shaped h m.head m.tail b c eb ec
    ∙ ap (λ q. reshaped h q (trim_shape b c m.head m.tail)) same in
    let front = before_grows h (zone_of z) m.head m.tail b c eb r.before in
    let back = behind_grows h (zone_of z) m.head m.tail b c ec r.behind in
    record {
      made = made;
      zone = ap (λ q. Some (moves_zone h q)) (sym e) ∙ ap Some same;
      grows = ap long made ∙ grows h (zone_of z) (trim_shape b c m.head m.tail)
          (cond b m.head (pos 0)) (cond b (pos 0) m.head) (m.tail -ℤ m.head) back.gap back.list g
          front.0 front.1 (moved_by m.head m.tail h.item (m.tail -ℤ m.head) refl) back.gap_is
          back.list_is
          (sums b m.head m.tail back.gap back.list g (eg ∙ back.sum));
      suits = (
        record {
          before = change b m.head mh;
          item = (mh, mt);
          behind =
              change c (pos 0 -ℤ m.tail) (less_move m.tail mt);
        },
        record {
          before = gives (last_item h.before) b m.head;
          item = r.left;
          behind =
              gives (first_item h.behind) c (pos 0 -ℤ m.tail);
        },
        record {
          from = omega (arith, ints, clamps, a);
          to = omega (arith, ints, clamps, d);
          end =
              inl (omega (arith, ints, clamps, d));
          near_from = ma;
          near_to = mb;
        },
      );
    }
