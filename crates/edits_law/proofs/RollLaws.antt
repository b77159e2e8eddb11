-- What lists show after a roll and a trim.
use Rattle.std.proofs.Common.{◌≡◌, refl, sym, subst, ap, ap₂, ◌∙◌, ℤ, pos, ◌+ℤ◌, ◌-ℤ◌, ◌≤ℤ◌, ◌<ℤ◌, Option, List, [], ◌∷◌, ◌++◌, arith, append_assoc}
use Rattle.std.proofs.lemmas.Int.{ints, by_lt_z, clamps}
use Rattle.otio_model.specs.declared.compositions.ItemOf.{ItemOf}
use Rattle.otio_model.specs.declared.compositions.Listed.{Listed}
use Rattle.coord.specs.Looks.{Show, Look, list_shows, total}
use Rattle.coord.specs.Sights.{View, sight, seen, looks}
use Rattle.edits.specs.Splices.{AreGood}
use Rattle.edits.specs.Children.{Child, child_looks}
use Rattle.edits.specs.Cuts.{strip, olds}
use Rattle.edits.specs.Edges.{Held, start, end, Moves, moved, left_before, left_behind, moves_zone, last_item, first_item, rolled, one, last_changed, first_changed}
use Rattle.edits.specs.Laws.{item_at, item_or, ticks_or, zoned, roll_law}
use Rattle.edits.specs.Good.{IsHeld, IsMoved, IsBefore, IsBehind}
use Rattle.coord.proofs.LookSteps.{missed_before, missed_behind, is_within}
use Rattle.edits_law.proofs.Splice.{AreClear}
use Rattle.edits_law.proofs.Seams.{items_clear}
use Rattle.edits_law.proofs.Pieces.{looks_append, append_looks, olds_look}
use Rattle.edits_law.proofs.Shaped.{longer, shifted, shifted_item, clear_later, clear_first, good_first, total_join}
use Rattle.edits_law.proofs.Rolls.{Heads, Tails, Rolls, old_list, new_list, roll_before, roll_head, roll_middle, roll_tail, roll_behind}
use Rattle.edits_law.proofs.Ends.{head_item, head_none, tail_item, tail_none}
use Rattle.edits_law.proofs.Beside.{total_strip, Ending, bare, last, ending, last_put, Opening, nothing, first, opening, first_put}
use Rattle.edits_law.proofs.EdgeLaws.{moved_look, tail_look, thing_item, held_looks, before_good, behind_good, before_clear, behind_clear}

-- what comes before the item, as looks
pub record NewBefore (v : View) (h : Held) (m : Moves) (cs : List Child) (c : ℤ → Show) : Type 0 where
  pub list : List Look
  pub was : List Look
  pub now : List Look
  pub old : looks v (left_before h (moves_zone h m)) ≡ list ++ was
  pub new : child_looks v cs ≡ list ++ now
  pub heads : Heads list was now m.head c
  pub good : AreGood list
  pub clear : AreClear (moves_zone h m).from (moves_zone h m).to list

-- what comes after it
pub record NewBehind (v : View) (h : Held) (m : Moves) (ds : List Child) (d : ℤ → Show) : Type 0 where
  pub now : List Look
  pub new : child_looks v ds ≡ now
  pub tails : Tails (looks v (left_behind h (moves_zone h m))) now m.tail d
  pub clear : AreClear (((moves_zone h m).from -ℤ end h) -ℤ m.tail) (((moves_zone h m).to -ℤ end h) -ℤ m.tail) now

abbrev pub around : List Child → Held → Moves → List Child → List Child
around cs h m ds = cs ++ (moved m.head m.tail h.item ∷ ds)

pub zone_ordered : (h : Held) (m : Moves) → (moves_zone h m).from ≤ℤ (moves_zone h m).to
zone_ordered h m = omega (arith, ints, clamps)

-- what is shown before, in and after the zone
pub record Facts (v : View) (l : List (ItemOf Listed)) (h : Held) (m : Moves) (cs ds : List Child) (c d : ℤ → Show) : Type 0 where
  pub before : (w : ℤ) → w <ℤ (moves_zone h m).from → list_shows (child_looks v (around cs h m ds)) w ≡ zoned v l (moves_zone h m) w
  pub head : (w : ℤ) → start h ≤ℤ w → w <ℤ (start h +ℤ m.head) → list_shows (child_looks v (around cs h m ds)) w ≡ c (w -ℤ start h)
  pub middle : (w : ℤ) → (start h +ℤ m.head) ≤ℤ w → w <ℤ (end h +ℤ m.tail) → list_shows (child_looks v (around cs h m ds)) w ≡ item_at v h.item (w -ℤ start h)
  pub tail : (w : ℤ) → (end h +ℤ m.tail) ≤ℤ w → w <ℤ end h → list_shows (child_looks v (around cs h m ds)) w ≡ d (w -ℤ end h)
  pub behind : (w : ℤ) → (moves_zone h m).to ≤ℤ w → list_shows (child_looks v (around cs h m ds)) w ≡ zoned v l (moves_zone h m) w

pub facts : (v : View) (l : List (ItemOf Listed)) (h : Held) (m : Moves) (cs ds : List Child) (c d : ℤ → Show) → IsHeld l h → IsMoved h.item m → NewBefore v h m cs c → NewBehind v h m ds d → Facts v l h m cs ds c d
facts v l h m cs ds c d k i b e =
    let x : Look = seen v (sight h.item) in
    let r : List Look = looks v (left_behind h (moves_zone h m)) in
    let left = i.left in
    let new : child_looks v (around cs h m ds) ≡ new_list b.list b.now (seen v (sight h.item)) m.head m.tail e.now =
    append_looks v cs _ ∙ ap₂ (λ p q. p ++ q) b.new (ap₂ (λ p q. p ∷ q) (moved_look v h.item m.head m.tail k.thing i.whole) e.new)
    ∙ append_assoc b.list b.now _ in
    let old : looks v (strip l (moves_zone h m).from (moves_zone h m).to) ≡ old_list b.list b.was (seen v (sight h.item)) (looks v (left_behind h (moves_zone h m))) =
    held_looks v l h (moves_zone h m) k ∙ ap (λ p. p ++ (seen v (sight h.item) ∷ looks v (left_behind h (moves_zone h m)))) b.old ∙ append_assoc b.list b.was _ in
    let long : start h ≡ total b.list +ℤ total b.was = sym (total_strip v h.before _ _) ∙ ap total b.old ∙ total_join b.list b.was in
    let zone = zone_ordered h m in
    let rolls : Rolls b.list b.was b.now (seen v (sight h.item)) (looks v (left_behind h (moves_zone h m))) e.now m.head m.tail (moves_zone h m).from (moves_zone h m).to (start h) (end h) c d = record {
      heads = b.heads;
      tails = e.tails;
      good = b.good;
      item = thing_item v h.item k.thing;
      left = left;
      starts = long;
      stops = refl;
      from = refl;
      to = refl;
      clear = b.clear;
      clear_behind = behind_clear v l h (moves_zone h m) k zone;
      clear_new = e.clear;
    } in
    record {
      before = λ w s. ap (λ q. list_shows q w) new ∙ roll_before _ _ _ _ _ _ _ _ _ _ _ _ _ _ w rolls s ∙ ap (λ q. list_shows q w) (sym old);
      head = λ w s t. ap (λ q. list_shows q w) new ∙ roll_head _ _ _ _ _ _ _ _ _ _ _ _ _ _ w rolls s t;
      middle = λ w s t. ap (λ q. list_shows q w) new ∙ roll_middle _ _ _ _ _ _ _ _ _ _ _ _ _ _ w rolls s t;
      tail = λ w s t. ap (λ q. list_shows q w) new ∙ roll_tail _ _ _ _ _ _ _ _ _ _ _ _ _ _ w rolls s t;
      behind = λ w s. ap (λ q. list_shows q w) new ∙ roll_behind _ _ _ _ _ _ _ _ _ _ _ _ _ _ w rolls s ∙ ap (λ q. list_shows q w) (sym old);
    }

-- ---- roll

abbrev pub beside_head : View → Option (ItemOf Listed) → ℤ → Show
beside_head v o u = item_or v o (u +ℤ ticks_or o)

roll_new_before : (v : View) (l : List (ItemOf Listed)) (h : Held) (m : Moves) → IsHeld l h → IsBefore (last_item h.before) m.head
    → NewBefore v h m (last_changed (λ y. one (moved (pos 0) m.head y)) (left_before h (moves_zone h m))) (beside_head v (last_item h.before))
roll_new_before v l h m k i = with_end (ending h.before (moves_zone h m).from (moves_zone h m).to (omega (arith, ints, clamps)) (omega (arith, ints, clamps)))
  where
    f : ItemOf Listed → List Child
    f y = one (moved (pos 0) m.head y)

    with_end : Ending (left_before h (moves_zone h m)) (last_item h.before) → NewBefore v h m (last_changed (λ y. one (moved (pos 0) m.head y)) (left_before h (moves_zone h m))) (beside_head v (last_item h.before))
    with_end (bare e g) = record {
      list = [];
      was = [];
      now = [];
      old = ap (looks v) g;
      new = ap (λ r. child_looks v (last_changed (λ y. one (moved (pos 0) m.head y)) r)) g;
      heads = head_none [] m.head _ tt tt (subst (λ o. IsBefore o m.head) e i);
      good = tt;
      clear = tt;
    }
    with_end (last n y e t u g) =
        let split : looks v (left_before h (moves_zone h m)) ≡ looks v n ++ (seen v (sight y) ∷ []) = ap (looks v) g ∙ looks_append v n (y ∷ []) in
        let gb = good_first (looks v n) _ (subst AreGood split (before_good v l h (moves_zone h m) k)) in
        record {
          list = looks v n;
          was = seen v (sight y) ∷ [];
          now = longer (seen v (sight y)) m.head ∷ [];
          old = split;
          new = ap (λ r. child_looks v (last_changed (λ y. one (moved (pos 0) m.head y)) r)) g
              ∙ ap (child_looks v) (last_put (λ y. one (moved (pos 0) m.head y)) n y u)
              ∙ append_looks v (olds n) _
              ∙ ap₂ (λ a b. a ++ (b ∷ [])) (olds_look v n) (tail_look v y m.head t);
          heads = subst (λ o. Heads (looks v n) (seen v (sight y) ∷ []) (longer (seen v (sight y)) m.head ∷ []) m.head (beside_head v o)) (sym e)
              (head_item (looks v n) (seen v (sight y)) m.head gb (thing_item v y t) (subst (λ o. IsBefore o m.head) e i));
          good = gb;
          clear = clear_first (looks v n) _ _ _ (subst (AreClear (moves_zone h m).from (moves_zone h m).to) split (before_clear v l h (moves_zone h m) k (zone_ordered h m)));
        }

roll_new_behind : (v : View) (l : List (ItemOf Listed)) (h : Held) (m : Moves) → IsHeld l h → IsMoved h.item m → IsBehind (first_item h.behind) m.tail
    → NewBehind v h m (first_changed (λ z. one (moved m.tail (pos 0) z)) (left_behind h (moves_zone h m))) (item_or v (first_item h.behind))
roll_new_behind v l h m k j i = with_start (opening h.behind ((moves_zone h m).from -ℤ end h) ((moves_zone h m).to -ℤ end h) (omega (arith, ints, clamps)) (omega (arith, ints, clamps)))
  where
    with_start : Opening (left_behind h (moves_zone h m)) (first_item h.behind) → NewBehind v h m (first_changed (λ z. one (moved m.tail (pos 0) z)) (left_behind h (moves_zone h m))) (item_or v (first_item h.behind))
    with_start (nothing e g) = record {
      now = [];
      new = ap (λ r. child_looks v (first_changed (λ z. one (moved m.tail (pos 0) z)) r)) g;
      tails = subst (λ r. Tails (looks v r) [] m.tail (item_or v (first_item h.behind))) (sym g) (tail_none [] m.tail _ tt (subst (λ o. IsBehind o m.tail) e i));
      clear = tt;
    }
    with_start (first z n e t u g) =
        let both = subst (λ o. IsBehind o m.tail) e i in
        let left = j.left in
        let gb = subst (λ r. AreGood (looks v r)) g (behind_good v l h (moves_zone h m) k) in
        let cb = subst (λ r. AreClear ((moves_zone h m).from -ℤ end h) ((moves_zone h m).to -ℤ end h) (looks v r)) g (behind_clear v l h (moves_zone h m) k (zone_ordered h m)) in
        record {
          now = shifted (seen v (sight z)) m.tail (pos 0) ∷ looks v n;
          new = ap (λ r. child_looks v (first_changed (λ z. one (moved m.tail (pos 0) z)) r)) g
              ∙ ap (child_looks v) (first_put (λ z. one (moved m.tail (pos 0) z)) z n u)
              ∙ ap₂ (λ a b. a ∷ b) (moved_look v z m.tail (pos 0) t both.1) (olds_look v n);
          tails = subst (λ o. Tails (looks v (left_behind h (moves_zone h m))) (shifted (seen v (sight z)) m.tail (pos 0) ∷ looks v n) m.tail (item_or v o)) (sym e)
              (subst (λ r. Tails (looks v r) (shifted (seen v (sight z)) m.tail (pos 0) ∷ looks v n) m.tail (item_at v z)) (sym g)
              (tail_item (seen v (sight z)) (looks v n) m.tail gb.1 (thing_item v z t) both.0));
          clear = (
            (items_clear (shifted (seen v (sight z)) m.tail (pos 0) ∷ []) _ _ (shifted_item (seen v (sight z)) m.tail (pos 0) (omega (arith, ints, both.0)), tt)).0,
            clear_later (looks v n) _ _ _ _ gb.1 cb.1 (omega (arith, ints, clamps)) (omega (arith, ints)),
          );
        }

pub roll_shows : (v : View) (l : List (ItemOf Listed)) (h : Held) (m : Moves) (w : ℤ) → IsHeld l h → IsMoved h.item m → IsBefore (last_item h.before) m.head → IsBehind (first_item h.behind) m.tail
    → list_shows (child_looks v (rolled h m)) w ≡ roll_law v l h m w
roll_shows v l h m w k i b e =
    let left = i.left in
    let f : Facts v l h m (last_changed (λ y. one (moved (pos 0) m.head y)) (left_before h (moves_zone h m))) (first_changed (λ z. one (moved m.tail (pos 0) z)) (left_behind h (moves_zone h m))) (beside_head v (last_item h.before)) (item_or v (first_item h.behind)) =
    facts v l h m _ _ _ _ k i (roll_new_before v l h m k b) (roll_new_behind v l h m k i e) in
    by_lt_z w (moves_zone h m).from
    (λ s. rw (missed_before (start h) (start h +ℤ m.head) w (omega (arith, ints, clamps)), missed_before (start h +ℤ m.head) (end h +ℤ m.tail) w (omega (arith, ints, clamps)), missed_before (end h +ℤ m.tail) (end h) w (omega (arith, ints, clamps))) (f.before w s))
    (λ s. by_lt_z w (moves_zone h m).to
    (λ t. by_lt_z w (start h +ℤ m.head)
    (λ n. rw (is_within (start h) (start h +ℤ m.head) w (omega (arith, ints, clamps)) n) (f.head w (omega (arith, ints, clamps)) n ∙ ap (item_or v (last_item h.before)) (omega (arith, ints))))
    (λ n. by_lt_z w (end h +ℤ m.tail)
    (λ o. rw (missed_behind (start h) (start h +ℤ m.head) w n, is_within (start h +ℤ m.head) (end h +ℤ m.tail) w n o) (f.middle w n o))
    (λ o. rw (missed_behind (start h) (start h +ℤ m.head) w n, missed_behind (start h +ℤ m.head) (end h +ℤ m.tail) w o, is_within (end h +ℤ m.tail) (end h) w o (omega (arith, ints, clamps))) (f.tail w o (omega (arith, ints, clamps))))))
    (λ t. rw (missed_behind (start h) (start h +ℤ m.head) w (omega (arith, ints, clamps)), missed_behind (start h +ℤ m.head) (end h +ℤ m.tail) w (omega (arith, ints, clamps)), missed_behind (end h +ℤ m.tail) (end h) w (omega (arith, ints, clamps))) (f.behind w t)))
