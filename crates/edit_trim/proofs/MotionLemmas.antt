-- What the five edits of edges are as motions.
use Rattle.std.proofs.Common.{◌≡◌, refl, sym, subst, ap, ap₂, ◌∙◌, inl, inr, ℕ, ◌<◌, ℤ, pos, ◌+ℤ◌}
use Rattle.std.proofs.Common.{◌-ℤ◌, ◌*ℤ◌, ◌<ℤ◌, ◌||◌, Option, Some, None, [], ◌∷◌, ◌++◌}
use Rattle.std.proofs.Common.{arith}
use Rattle.std.specs.Prelude.{IfSome, option_map}
use Rattle.std.specs.Int.{int_max, int_min}
use Rattle.std.proofs.lemmas.Int.{ints, clamps}
use Rattle.otio_model.specs.declared.compositions.ItemOf.{ItemOf}
use Rattle.otio_model.specs.declared.compositions.Listed.{Listed}
use Rattle.edits.specs.Children.{Old, child_ticks, ticks}
use Rattle.edits.specs.Cuts.{olds}
use Rattle.edits.specs.Edges.{Held, Moves, Zone, added, end, first_changed, first_item, gap_of}
use Rattle.edits.specs.Edges.{is_gap, is_zero, moved, one, item_zone, last_changed, last_item}
use Rattle.edits.specs.Edges.{left_before, left_behind, moves_zone, ripple_by, rippled, roll_by}
use Rattle.edits.specs.Edges.{rolled, slide_by, slide_zone, slid, slip_by, slipped_item, start}
use Rattle.edits.specs.Edits.{beside, in_ticks}
use Rattle.edits.specs.Refusals.{long}
use Rattle.edits_law.proofs.Splice.{cases}
use Rattle.edits_law.proofs.Parted.{added_strip}
use Rattle.edit_plans.specs.Bounds.{IsMove}
use Rattle.edit_trim.specs.Changes.{IsChange, Leaves, changed, reshaped}
use Rattle.edit_trim.specs.Motions.{IsMotion, held_list}
use Rattle.edit_trim.specs.Seats.{IsInstant, keep, ripple_shape, roll_shape, slide_shape, zone_of}
use Rattle.edit_trim.specs.declared.edge_edits.EdgeEdit.TheVariants as M
use Rattle.edit_trim.specs.declared.edge_moves.Motion.TheVariants as W
use Rattle.edit_trim.specs.declared.resized_items.Change.{Change}
use Rattle.edit_trim.specs.declared.resized_items.Change.TheVariants as C
use Rattle.edit_trim.specs.declared.replacements.Shape.{Shape}
use Rattle.edit_trim.specs.declared.replacements.Interval.{Interval}
use Rattle.edit_plans.proofs.LongLemmas.{long_both, long_olds}
use Rattle.edit_trim.proofs.Bounded.{GivesBefore, GivesBehind, Rolls, ripple_left, rolls}
use Rattle.edit_trim.proofs.Bounded.{slide_left}
use Rattle.edit_trim.proofs.KeptEdges.{first_keep, first_none, first_strip, last_keep, last_none}
use Rattle.edit_trim.proofs.KeptEdges.{last_strip}
use Rattle.edit_plans.proofs.Passing.{added_both}
use Rattle.edit_trim.proofs.Longs.{long_first, long_last, long_moved, long_parts}

no_move : IsMove (pos 0)
no_move = record { low = omega (arith, ints); high = omega (arith, ints) }

pub less_move : (z : ℤ) → IsMove z → IsMove (pos 0 -ℤ z)
less_move z m = let a = m.low in let b = m.high in
    record { low = omega (arith, ints, b); high = omega (arith, ints, a) }

pub zone_same : (z : Interval) (a b : ℤ) → z.from ≡ a → z.to ≡ b
    → zone_of z ≡ record { from = a; to = b }
zone_same z a b e f = ap₂ (λ p q. let r : Zone = record { from = p; to = q } in r) e f

-- how long a list is whose parts grow
pub grows : (h : Held) (z : Zone) (s : Shape) (b g c k r n : ℤ)
    → long (last_changed (changed s.before) (left_before h z)) ≡ (added h.before +ℤ b)
    → long (gap_of s.gap_before) ≡ g
    → long (changed s.item h.item) ≡ (ticks h.item +ℤ c) → long (gap_of s.gap_behind) ≡ k
    → long (first_changed (changed s.behind) (left_behind h z)) ≡ (added h.behind +ℤ r)
    → n ≡ ((((b +ℤ g) +ℤ c) +ℤ k) +ℤ r) → long (reshaped h z s)
    ≡ (added (h.before ++ (h.item ∷ h.behind)) +ℤ n)
grows h z s b g c k r n e f i j m o =
    let p = long_parts s (left_before h z) h.item (left_behind h z) in
    let q = added_both h.before (h.item ∷ h.behind) in
    omega (arith, ints, p, q, e, f, i, j, m, o)

pub kept_before : (h : Held) (z : Zone) → long (last_changed (changed keep) (left_before h z))
    ≡ (added h.before +ℤ pos 0)
kept_before h z =
    let a = ap long (last_keep (left_before h z)) in
    let b = long_olds (left_before h z) in
    let c = added_strip h.before z.from z.to in
    omega (arith, ints, a, b, c)

pub kept_behind : (h : Held) (z : Zone) → long (first_changed (changed keep) (left_behind h z))
    ≡ (added h.behind +ℤ pos 0)
kept_behind h z =
    let a = ap long (first_keep (left_behind h z)) in
    let b = long_olds (left_behind h z) in
    let c = added_strip h.behind (z.from -ℤ end h) (z.to -ℤ end h) in
    omega (arith, ints, a, b, c)

pub put_before : (c : Change) (h : Held) (z : Zone) (y : ItemOf Listed) (n : ℤ)
    → last_item h.before ≡ Some y → long (changed c y) ≡ (ticks y +ℤ n)
    → long (last_changed (changed c) (left_before h z)) ≡ (added h.before +ℤ n)
put_before c h z y n e f =
    let a = long_last (changed c) (left_before h z) y (last_strip h.before z.from z.to ∙ e) in
    let b = added_strip h.before z.from z.to in
    omega (arith, ints, a, b, f)

pub put_behind : (c : Change) (h : Held) (z : Zone) (y : ItemOf Listed) (n : ℤ)
    → first_item h.behind ≡ Some y → long (changed c y) ≡ (ticks y +ℤ n)
    → long (first_changed (changed c) (left_behind h z)) ≡ (added h.behind +ℤ n)
put_behind c h z y n e f =
    let a = long_first (changed c) (left_behind h z) y
    (first_strip h.behind (z.from -ℤ end h) (z.to -ℤ end h) ∙ e) in
    let b = added_strip h.behind (z.from -ℤ end h) (z.to -ℤ end h) in
    omega (arith, ints, a, b, f)

pub moved_by : (h t : ℤ) (x : ItemOf Listed) (n : ℤ) → n ≡ (t -ℤ h)
    → long (changed (C.Move h t) x) ≡ (ticks x +ℤ n)
moved_by h t x n e = let a = long_moved h t x in omega (arith, ints, a, e)

no_gap : long (gap_of (pos 0)) ≡ pos 0
no_gap = refl

pub keeps : (o : Option (ItemOf Listed)) → IfSome o (Leaves keep)
keeps None = tt
keeps (Some x) = omega (arith, ints)

pub keep_change : IsChange keep
keep_change = (no_move, no_move)

-- ---- slide

pub slide_is : (n : ℕ) (by : ℤ) (h : Held) (y : ItemOf Listed) (z : Interval) (d : ℤ) → 0 < n
    → last_item h.before ≡ Some y → d ≡ slide_by (pos n) y (by *ℤ pos n) → IsMove d
    → z.from ≡ int_min (start h) (start h +ℤ d) → z.to ≡ int_max (start h) (start h +ℤ d)
    → IsInstant z.from → IsInstant z.to
    → IsMotion (pos n) (M.Slide by) h (W.Edges z (slide_shape d) d)
slide_is n by h y z d k e f m a b ma mb =
    let left = slide_left n y (by *ℤ pos n) k in
    let same : slide_zone h (slide_by (pos n) y (by *ℤ pos n)) ≡ zone_of z =
    ap (slide_zone h) (sym f) ∙ sym (zone_same z (int_min (start h) (start h +ℤ d))
    (int_max (start h) (start h +ℤ d)) a b) in
    let made : held_list (pos n) (M.Slide by) h ≡ reshaped h (zone_of z) (slide_shape d) =
    rw (e, beside) (ap (slid h) (sym f)
    ∙ ap (λ q. last_changed (changed (C.Move (pos 0) d)) (left_before h (slide_zone h d))
    ++ (Old h.item ∷ q)) (sym (first_keep (left_behind h (slide_zone h d))))
    ∙ ap (λ q. reshaped h q (slide_shape d)) (ap (slide_zone h) f ∙ same)) in
    record {
      made = made;
      zone = ap (option_map (λ x. slide_zone h (slide_by (pos n) x (by *ℤ pos n)))) e
          ∙ ap Some same;
      grows = ap long made ∙ grows h (zone_of z) (slide_shape d) d (pos 0) (pos 0) (pos 0) (pos 0) d
          (put_before (C.Move (pos 0) d) h (zone_of z) y d e
          (moved_by (pos 0) d y d (omega (arith, ints)))) no_gap (omega (arith, ints)) no_gap
          (kept_behind h (zone_of z)) (omega (arith, ints));
      suits = (
        record { before = (no_move, m); item = keep_change; behind = keep_change },
        record {
          before = subst (λ o. IfSome o (Leaves (C.Move (pos 0) d))) (sym e)
              (omega (arith, ints, left, f));
          item = omega (arith, ints);
          behind = keeps (first_item h.behind);
        },
        record {
          from = omega (arith, ints, clamps, a);
          to = omega (arith, ints, clamps, b);
          end =
              inr refl;
          near_from = ma;
          near_to = mb;
        },
      );
    }

-- ---- ripple

pub ripple_is : (n : ℕ) (by_head by_tail : ℤ) (h : Held) (z : Interval) (m : Moves) → 0 < n
    → pos 0 <ℤ ticks h.item → m ≡ ripple_by (pos n) h.item (in_ticks (pos n) by_head by_tail)
    → IsMove m.head → IsMove m.tail → z.from ≡ start h → z.to ≡ end h → IsInstant z.from
    → IsInstant z.to
    → IsMotion (pos n) (M.Ripple by_head by_tail) h
    (W.Edges z (ripple_shape m.head m.tail) (m.tail -ℤ m.head))
ripple_is n by_head by_tail h z m k t e mh mt a b ma mb =
    let left = ripple_left n h.item (in_ticks (pos n) by_head by_tail) k t in
    let same : item_zone h ≡ zone_of z = sym (zone_same z (start h) (end h) a b) in
    let made : held_list (pos n) (M.Ripple by_head by_tail) h
    ≡ reshaped h (zone_of z) (ripple_shape m.head m.tail) =
    ap (rippled h) (sym e) ∙ shaped m.head m.tail ∙ ap
    (λ q. reshaped h q (ripple_shape m.head m.tail)) same in
    let heads = ap (λ (q : Moves). q.head) e in
    let tails = ap (λ (q : Moves). q.tail) e in
    record {
      made = made;
      zone = ap Some same;
      grows = ap long made ∙ grows h (zone_of z) (ripple_shape m.head m.tail) (pos 0) (pos 0)
          (m.tail -ℤ m.head) (pos 0) (pos 0) (m.tail -ℤ m.head)
          (kept_before h (zone_of z)) no_gap (moved_by m.head m.tail h.item (m.tail -ℤ m.head) refl)
          no_gap (kept_behind h (zone_of z)) (omega (arith, ints));
      suits = (
        record { before = keep_change; item = (mh, mt); behind = keep_change },
        record {
          before = keeps (last_item h.before);
          item =
              omega (arith, ints, left, heads, tails);
          behind = keeps (first_item h.behind);
        },
        record {
          from = omega (arith, ints, a);
          to = omega (arith, ints, b);
          end =
              inr refl;
          near_from = ma;
          near_to = mb;
        },
      );
    }
  where
    shaped : (head tail : ℤ) → rippled h (record { head = head; tail = tail })
        ≡ reshaped h (item_zone h) (ripple_shape head tail)
    shaped head tail = ap₂ (λ p q. p ++ (one (moved head tail h.item) ++ q))
        (sym (last_keep (left_before h (item_zone h))))
        (sym (first_keep (left_behind h (item_zone h))))

-- ---- roll

pub roll_is : (n : ℕ) (by_head by_tail : ℤ) (h : Held) (z : Interval) (m : Moves) → 0 < n
    → pos 0 <ℤ ticks h.item → m ≡ roll_by (pos n) h (in_ticks (pos n) by_head by_tail)
    → IsMove m.head → IsMove m.tail → z.from ≡ int_min (start h) (start h +ℤ m.head)
    → z.to ≡ int_max (end h) (end h +ℤ m.tail) → IsInstant z.from → IsInstant z.to
    → IsMotion (pos n) (M.Roll by_head by_tail) h (W.Edges z (roll_shape m.head m.tail) (pos 0))
roll_is n by_head by_tail h z m k t e mh mt a b ma mb =
    let r : Rolls h m = subst (Rolls h) (sym e) (rolls n h (in_ticks (pos n) by_head by_tail) k t)
    in
    let left = r.left in
    let same : moves_zone h m ≡ zone_of z = sym (zone_same z (int_min (start h) (start h +ℤ m.head))
    (int_max (end h) (end h +ℤ m.tail)) a b) in
    let made : held_list (pos n) (M.Roll by_head by_tail) h
    ≡ reshaped h (zone_of z) (roll_shape m.head m.tail) =
    ap (rolled h) (sym e) ∙ ap (λ q. reshaped h q (roll_shape m.head m.tail)) same in
    record {
      made = made;
      zone = ap (λ q. Some (moves_zone h q)) (sym e) ∙ ap Some same;
      grows = ap long made ∙ grows h (zone_of z) (roll_shape m.head m.tail) m.head (pos 0)
          (m.tail -ℤ m.head) (pos 0) (pos 0 -ℤ m.tail) (pos 0)
          (before_grows (last_item h.before) refl r.before) no_gap
          (moved_by m.head m.tail h.item (m.tail -ℤ m.head) refl) no_gap
          (behind_grows (first_item h.behind) refl r.behind) (omega (arith, ints));
      suits = (
        record { before = (no_move, mh); item = (mh, mt); behind = (mt, no_move) },
        record {
          before = before_left (last_item h.before) r.before;
          item = left;
          behind =
              behind_left (first_item h.behind) r.behind;
        },
        record {
          from = omega (arith, ints, clamps, a);
          to = omega (arith, ints, clamps, b);
          end =
              inl (omega (arith, ints, clamps, b));
          near_from = ma;
          near_to = mb;
        },
      );
    }
  where
    before_grows : (o : Option (ItemOf Listed)) → last_item h.before ≡ o → GivesBefore o m.head
        → long (last_changed (changed (C.Move (pos 0) m.head)) (left_before h (zone_of z)))
        ≡ (added h.before +ℤ m.head)
    before_grows None f g =
        let p = ap long (last_none (changed (C.Move (pos 0) m.head)) (left_before h (zone_of z))
        (last_strip h.before z.from z.to ∙ f)) in
        let q = long_olds (left_before h (zone_of z)) in
        let r = added_strip h.before z.from z.to in
        omega (arith, ints, p, q, r, g)
    before_grows (Some y) f g = put_before (C.Move (pos 0) m.head) h (zone_of z) y m.head f
        (moved_by (pos 0) m.head y m.head (omega (arith, ints)))

    behind_grows : (o : Option (ItemOf Listed)) → first_item h.behind ≡ o → GivesBehind o m.tail
        → long (first_changed (changed (C.Move m.tail (pos 0))) (left_behind h (zone_of z)))
        ≡ (added h.behind +ℤ (pos 0 -ℤ m.tail))
    behind_grows None f g =
        let p = ap long (first_none (changed (C.Move m.tail (pos 0))) (left_behind h (zone_of z))
        (first_strip h.behind (z.from -ℤ end h) (z.to -ℤ end h) ∙ f)) in
        let q = long_olds (left_behind h (zone_of z)) in
        let r = added_strip h.behind (z.from -ℤ end h) (z.to -ℤ end h) in
        omega (arith, ints, p, q, r, g)
    behind_grows (Some y) f g = put_behind (C.Move m.tail (pos 0)) h (zone_of z) y (pos 0 -ℤ m.tail)
        f (moved_by m.tail (pos 0) y (pos 0 -ℤ m.tail) (omega (arith, ints)))

    before_left : (o : Option (ItemOf Listed)) → GivesBefore o m.head
        → IfSome o (Leaves (C.Move (pos 0) m.head))
    before_left None g = tt
    before_left (Some y) g = omega (arith, ints, g)

    behind_left : (o : Option (ItemOf Listed)) → GivesBehind o m.tail
        → IfSome o (Leaves (C.Move m.tail (pos 0)))
    behind_left None g = tt
    behind_left (Some y) g = omega (arith, ints, g)

-- ---- slip

pub slip_is : (n : ℕ) (by : ℤ) (h : Held) (d : ℤ) → d ≡ slip_by (pos n) h (by *ℤ pos n) → IsMove d
    → IsMotion (pos n) (M.Slip by) h (W.Media d)
slip_is n by h d e m =
    let made : held_list (pos n) (M.Slip by) h ≡ olds h.before
    ++ (slipped_item d h.item ∷ olds h.behind) =
    ap (λ q. olds h.before ++ (slipped_item q h.item ∷ olds h.behind)) (sym e) in
    record {
      made = made;
      zone = refl;
      grows =
          let a = long_both (olds h.before) (slipped_item d h.item ∷ olds h.behind) in
          let b = long_olds h.before in
          let c = long_olds h.behind in
          let g = added_both h.before (h.item ∷ h.behind) in
          let s = long_slipped d h.item in
          ap long made ∙ omega (arith, ints, a, b, c, g, s);
      suits = m;
    }
  where
    long_slipped : (q : ℤ) (x : ItemOf Listed) → child_ticks (slipped_item q x) ≡ ticks x
    long_slipped q x = cases (is_zero q || is_gap x) (λ s. rw s refl) (λ s. rw s refl)
