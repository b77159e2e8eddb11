-- What lists show where the edges of an item move, with what is next to it. Only looks are known here.
use Rattle.std.proofs.Common.{◌≡◌, sym, ap, ◌∙◌, ℤ, pos, ◌+ℤ◌, ◌-ℤ◌, ◌≤ℤ◌, ◌<ℤ◌, List, [], ◌∷◌, ◌++◌, arith, append_assoc}
use Rattle.std.specs.Int.{int_min, int_max}
use Rattle.std.proofs.lemmas.Int.{ints, clamps}
use Rattle.coord.specs.Looks.{Show, Look, item_shows, list_shows, total}
use Rattle.edits.specs.Splices.{AreGood, IsItem, AreItems}
use Rattle.coord.proofs.LookSteps.{item_past, item_hit}
use Rattle.edits_law.proofs.Splice.{IsLater, AreClear}
use Rattle.edits_law.proofs.Seams.{total_low, item_append, seam_behind, items_later, items_good, items_clear}
use Rattle.edits_law.proofs.Shaped.{shifted, shifted_item, total_join, clear_earlier, clear_later, clear_join, good_join, later_clear, zone_shows}

-- what stands before the item, with a head moved by h: n becomes m
pub record Heads (l n m : List Look) (h : ℤ) (c : ℤ → Show) : Type 0 where
  pub old : AreItems n
  pub new : AreItems m
  pub long : total m ≡ total n +ℤ h
  pub same : (r s : List Look) (w : ℤ) → IsLater r → IsLater s → w <ℤ (total l +ℤ total n) → w <ℤ (total l +ℤ total m) → list_shows (l ++ (n ++ r)) w ≡ list_shows (l ++ (m ++ s)) w
  pub moved : (r : List Look) (u : ℤ) → pos 0 ≤ℤ u → total n ≤ℤ u → u <ℤ total m → item_shows (m ++ r) u ≡ c (u -ℤ total n)

-- what stands after the item, with a tail moved by t: r becomes s
pub record Tails (r s : List Look) (t : ℤ) (c : ℤ → Show) : Type 0 where
  pub good : AreGood r
  pub good_new : AreGood s
  pub same : (v : ℤ) → pos 0 ≤ℤ v → t ≤ℤ v → list_shows s (v -ℤ t) ≡ list_shows r v
  pub moved : (u : ℤ) → pos 0 ≤ℤ u → u <ℤ (pos 0 -ℤ t) → item_shows s u ≡ c (u +ℤ t)

pub record Rolls (l n m : List Look) (x : Look) (r s : List Look) (h t a b p q : ℤ) (c d : ℤ → Show) : Type 0 where
  pub heads : Heads l n m h c
  pub tails : Tails r s t d
  pub good : AreGood l
  pub item : IsItem x
  pub left : pos 0 ≤ℤ ((x.length -ℤ h) +ℤ t)
  pub starts : p ≡ total l +ℤ total n
  pub stops : q ≡ p +ℤ x.length
  pub from : a ≡ int_min p (p +ℤ h)
  pub to : b ≡ int_max q (q +ℤ t)
  pub clear : AreClear a b l
  pub clear_behind : AreClear (a -ℤ q) (b -ℤ q) r
  pub clear_new : AreClear ((a -ℤ q) -ℤ t) ((b -ℤ q) -ℤ t) s

abbrev pub old_list : List Look → List Look → Look → List Look → List Look
old_list l n x r = l ++ (n ++ (x ∷ r))

abbrev pub new_list : List Look → List Look → Look → ℤ → ℤ → List Look → List Look
new_list l m x h t s = l ++ (m ++ (shifted x h t ∷ s))

pub items_join : (n m : List Look) → AreItems n → AreItems m → AreItems (n ++ m)
items_join [] m i j = j
items_join (x ∷ n) m i j = (i.0, items_join n m i.1 j)

-- after items that end after the zone's start, a list shows what stands there
pub parts_behind : (l n r : List Look) (a b w : ℤ) → AreGood l → AreClear a b l → total l ≤ℤ b → AreItems n → a ≤ℤ (total l +ℤ total n) → IsLater r → (total l +ℤ total n) ≤ℤ w
    → list_shows (l ++ (n ++ r)) w ≡ list_shows r (w -ℤ (total l +ℤ total n))
parts_behind l n r a b w g k e i f u h =
    let t = total_join l n in
    let c : ℤ = total (l ++ n) in
    ap (λ m. list_shows m w) (sym (append_assoc l n r))
    ∙ seam_behind (l ++ n) r w (good_join l n g (items_good n i))
    (clear_join l n (total (l ++ n)) (total (l ++ n)) (clear_earlier l a b (total (l ++ n)) (total (l ++ n)) g k e (omega (arith, ints, t))) (items_clear n _ _ i))
    u (omega (arith, ints, t))
    ∙ ap (list_shows r) (omega (arith, ints, t))

rest_later : (l n m : List Look) (x : Look) (r s : List Look) (h t a b p q : ℤ) (c d : ℤ → Show) → Rolls l n m x r s h t a b p q c d → IsLater r
rest_later l n m x r s h t a b p q c d k =
    let e = k.stops in let f = k.from in let g = k.to in let i = k.item.whole in let j = k.left in
    later_clear r (a -ℤ q) (b -ℤ q) k.tails.good k.clear_behind (omega (arith, ints, clamps)) (omega (arith, ints, clamps))

new_later : (l n m : List Look) (x : Look) (r s : List Look) (h t a b p q : ℤ) (c d : ℤ → Show) → Rolls l n m x r s h t a b p q c d → IsLater s
new_later l n m x r s h t a b p q c d k =
    let e = k.stops in let f = k.from in let g = k.to in let i = k.item.whole in let j = k.left in
    later_clear s ((a -ℤ q) -ℤ t) ((b -ℤ q) -ℤ t) k.tails.good_new k.clear_new (omega (arith, ints, clamps)) (omega (arith, ints, clamps))

pub roll_before : (l n m : List Look) (x : Look) (r s : List Look) (h t a b p q : ℤ) (c d : ℤ → Show) (w : ℤ) → Rolls l n m x r s h t a b p q c d → w <ℤ a
    → list_shows (new_list l m x h t s) w ≡ list_shows (old_list l n x r) w
roll_before l n m x r s h t a b p q c d w k u =
    let e = k.starts in let f = k.from in let g = k.heads.long in let j = k.left in
    sym (k.heads.same (x ∷ r) (shifted x h t ∷ s) w
    (items_later (x ∷ []) r (k.item, tt) (rest_later l n m x r s h t a b p q c d k))
    (items_later (shifted x h t ∷ []) s (shifted_item x h t j, tt) (new_later l n m x r s h t a b p q c d k))
    (omega (arith, ints, clamps)) (omega (arith, ints, clamps)))

new_zone : (l n m : List Look) (x : Look) (r s : List Look) (h t a b p q : ℤ) (c d : ℤ → Show) (w : ℤ) → Rolls l n m x r s h t a b p q c d → a ≤ℤ w → w <ℤ b → total l ≤ℤ w
    → list_shows (new_list l m x h t s) w ≡ item_shows (m ++ (shifted x h t ∷ s)) (w -ℤ total l)
new_zone l n m x r s h t a b p q c d w k u v o =
    let e = k.starts in let e2 = k.stops in let f = k.from in let f2 = k.to in let g = k.heads.long in let j = k.left in let i = k.item.whole in
    zone_shows (new_list l m x h t s) a b w
    (good_join l _ k.good (good_join m _ (items_good m k.heads.new) ((items_good (shifted x h t ∷ []) (shifted_item x h t j, tt)).0, k.tails.good_new)))
    (clear_join l _ a b k.clear (clear_join m _ (a -ℤ total l) (b -ℤ total l) (items_clear m _ _ k.heads.new) (
      (items_clear (shifted x h t ∷ []) ((a -ℤ total l) -ℤ total m) ((b -ℤ total l) -ℤ total m) (shifted_item x h t j, tt)).0,
      clear_later s ((a -ℤ q) -ℤ t) ((b -ℤ q) -ℤ t) _ _ k.tails.good_new k.clear_new (omega (arith, ints, clamps)) (omega (arith, ints)),
    )))
    u v
    ∙ item_append l (m ++ (shifted x h t ∷ s)) w k.good o

pub roll_head : (l n m : List Look) (x : Look) (r s : List Look) (h t a b p q : ℤ) (c d : ℤ → Show) (w : ℤ) → Rolls l n m x r s h t a b p q c d → p ≤ℤ w → w <ℤ (p +ℤ h)
    → list_shows (new_list l m x h t s) w ≡ c (w -ℤ p)
roll_head l n m x r s h t a b p q c d w k u v =
    let e = k.starts in let e2 = k.stops in let f = k.from in let f2 = k.to in let g = k.heads.long in let j = k.left in let i = k.item.whole in
    let low = total_low n (items_good n k.heads.old) in
    new_zone l n m x r s h t a b p q c d w k (omega (arith, ints, clamps)) (omega (arith, ints, clamps)) (omega (arith, ints))
    ∙ k.heads.moved (shifted x h t ∷ s) (w -ℤ total l) (omega (arith, ints)) (omega (arith, ints)) (omega (arith, ints))
    ∙ ap c (omega (arith, ints))

pub roll_middle : (l n m : List Look) (x : Look) (r s : List Look) (h t a b p q : ℤ) (c d : ℤ → Show) (w : ℤ) → Rolls l n m x r s h t a b p q c d → (p +ℤ h) ≤ℤ w → w <ℤ (q +ℤ t)
    → list_shows (new_list l m x h t s) w ≡ x.shows (w -ℤ p)
roll_middle l n m x r s h t a b p q c d w k u v =
    let e = k.starts in let e2 = k.stops in let f = k.from in let f2 = k.to in let g = k.heads.long in let j = k.left in let i = k.item.whole in
    let low = total_low m (items_good m k.heads.new) in
    new_zone l n m x r s h t a b p q c d w k (omega (arith, ints, clamps)) (omega (arith, ints, clamps)) (omega (arith, ints))
    ∙ item_append m (shifted x h t ∷ s) (w -ℤ total l) (items_good m k.heads.new) (omega (arith, ints))
    ∙ item_hit (shifted x h t) s ((w -ℤ total l) -ℤ total m) (omega (arith, ints)) (omega (arith, ints))
    ∙ ap x.shows (omega (arith, ints))

pub roll_tail : (l n m : List Look) (x : Look) (r s : List Look) (h t a b p q : ℤ) (c d : ℤ → Show) (w : ℤ) → Rolls l n m x r s h t a b p q c d → (q +ℤ t) ≤ℤ w → w <ℤ q
    → list_shows (new_list l m x h t s) w ≡ d (w -ℤ q)
roll_tail l n m x r s h t a b p q c d w k u v =
    let e = k.starts in let e2 = k.stops in let f = k.from in let f2 = k.to in let g = k.heads.long in let j = k.left in let i = k.item.whole in
    let low = total_low m (items_good m k.heads.new) in
    new_zone l n m x r s h t a b p q c d w k (omega (arith, ints, clamps)) (omega (arith, ints, clamps)) (omega (arith, ints))
    ∙ item_append m (shifted x h t ∷ s) (w -ℤ total l) (items_good m k.heads.new) (omega (arith, ints))
    ∙ item_past (shifted x h t) s ((w -ℤ total l) -ℤ total m) (omega (arith, ints))
    ∙ k.tails.moved _ (omega (arith, ints)) (omega (arith, ints))
    ∙ ap d (omega (arith, ints))

pub roll_behind : (l n m : List Look) (x : Look) (r s : List Look) (h t a b p q : ℤ) (c d : ℤ → Show) (w : ℤ) → Rolls l n m x r s h t a b p q c d → b ≤ℤ w
    → list_shows (new_list l m x h t s) w ≡ list_shows (old_list l n x r) w
roll_behind l n m x r s h t a b p q c d w k u =
    let e = k.starts in let e2 = k.stops in let f = k.from in let f2 = k.to in let g = k.heads.long in let j = k.left in let i = k.item.whole in
    let ln = total_low n (items_good n k.heads.old) in
    let tm = total_join m (shifted x h t ∷ []) in
    let tn = total_join n (x ∷ []) in
    ap (λ y. list_shows (l ++ y) w) (sym (append_assoc m (shifted x h t ∷ []) s))
    ∙ parts_behind l (m ++ (shifted x h t ∷ [])) s a b w k.good k.clear (omega (arith, ints, clamps)) (items_join m _ k.heads.new (shifted_item x h t j, tt)) (omega (arith, ints, clamps, tm)) (new_later l n m x r s h t a b p q c d k) (omega (arith, ints, clamps, tm))
    ∙ ap (list_shows s) (omega (arith, ints, tm))
    ∙ k.tails.same (w -ℤ q) (omega (arith, ints, clamps)) (omega (arith, ints, clamps))
    ∙ ap (list_shows r) (omega (arith, ints, tn))
    ∙ sym (parts_behind l (n ++ (x ∷ [])) r a b w k.good k.clear (omega (arith, ints, clamps)) (items_join n _ k.heads.old (k.item, tt)) (omega (arith, ints, clamps, tn)) (rest_later l n m x r s h t a b p q c d k) (omega (arith, ints, clamps, tn)))
    ∙ ap (λ y. list_shows (l ++ y) w) (append_assoc n (x ∷ []) r)
