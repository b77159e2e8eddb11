-- Some pieces of many, replaced by others.
use Rattle.std.proofs.Common.{◌≡◌, ℕ, ◌<◌, ◌+◌, ◌-◌, ◌*◌, ◌/◌, ◌≤◌, zero, suc, List, [], ◌∷◌, ◌++◌}
use Rattle.std.proofs.Common.{◌⊎◌, inl, inr, refl, ap, sym, ◌∙◌, length, take, drop, get_or, subst}
use Rattle.std.proofs.Common.{arith, length-append, append_assoc, append-nil, vec_len, Vec, Global}
use Rattle.std.proofs.Common.{drop-drop}
use Rattle.std.proofs.lemmas.List.{length-take-le, length-drop, take-append-drop, drop-append-le}
use Rattle.std.proofs.lemmas.List.{take-append-le, take_more, get_or-drop}
use Rattle.std.proofs.Math.Seq.{take-append-add}
use Rattle.std.proofs.Math.Seq.{drop-append-add, take-add}
use Rattle.otio_model.specs.Edits.{replaced}
use Rattle.otio_model.specs.declared.compositions.ItemOf.{ItemOf}
use Rattle.otio_model.specs.declared.compositions.Listed.{Listed}
use Rattle.otio_model.specs.declared.lists.Piece.{Piece}
use Rattle.otio_model.specs.Pieces.{all_items, AllPieces, AllFull, ArePieces, AreMade, IsCut}
use Rattle.otio_model.specs.Pieces.{IsWindow, IsStart, IsEnd, part}
use Rattle.otio_model.proofs.Cuts.{all_items-append, length_more}
use Rattle.otio_model.proofs.KeptLemmas.{piece_at}

-- what is replaced in the middle part is replaced in the whole
pub replaced_within : {A : Type 0} (at count : ℕ) (put a t d : List A) → length a ≤ at
    → at + count ≤ length a + length t
    → a ++ (replaced (at - length a) count put t ++ d) ≡ replaced at count put (a ++ (t ++ d))
replaced_within at count put a t d h k =
    let s = at - length a in
    let front : take at (a ++ (t ++ d)) ≡ a ++ take s t =
    ap (λ n. take n (a ++ (t ++ d))) (omega arith) ∙ take-append-add a (t ++ d) s
    ∙ ap (λ l. a ++ l) (take-append-le s t d (omega (arith, h, k))) in
    let rear : drop (at + count) (a ++ (t ++ d)) ≡ drop (s + count) t ++ d =
    ap (λ n. drop n (a ++ (t ++ d))) (omega arith) ∙ drop-append-add a (t ++ d) (s + count)
    ∙ drop-append-le (s + count) t d (omega (arith, h, k)) in
    ap (λ l. a ++ l) (append_assoc (take s t) (put ++ drop (s + count) t) d
    ∙ ap (λ l. take s t ++ l) (append_assoc put (drop (s + count) t) d))
    ∙ sym (append_assoc a (take s t) (put ++ (drop (s + count) t ++ d)))
    ∙ ap (λ l. l ++ (put ++ (drop (s + count) t ++ d))) (sym front)
    ∙ ap (λ l. take at (a ++ (t ++ d)) ++ (put ++ l)) (sym rear)

pub taken_within : {A : Type 0} (at count : ℕ) (a t d : List A) → length a ≤ at
    → at + count ≤ length a + length t
    → take count (drop (at - length a) t) ≡ take count (drop at (a ++ (t ++ d)))
taken_within at count a t d h k =
    let s = at - length a in
    let rear : drop at (a ++ (t ++ d)) ≡ drop s t ++ d =
    ap (λ n. drop n (a ++ (t ++ d))) (omega arith) ∙ drop-append-add a (t ++ d) s
    ∙ drop-append-le s t d (omega (arith, h, k)) in
    sym (ap (take count) rear
    ∙ take-append-le count (drop s t) d (omega (arith, length-drop s t, h, k)))

all-append : (ps qs : List Piece) → AllPieces ps → AllPieces qs → AllPieces (ps ++ qs)
all-append [] qs a b = b
all-append (p ∷ ps) qs a b = (a.0, all-append ps qs a.1 b)

all-split : (ps qs : List Piece) → AllPieces (ps ++ qs) → AllPieces ps × AllPieces qs
all-split [] qs a = (tt, a)
all-split (p ∷ ps) qs a = let r = all-split ps qs a.1 in ((a.0, r.0), r.1)

full-append : (ps qs : List Piece) → AllFull ps → AllFull qs → AllFull (ps ++ qs)
full-append [] qs a b = b
full-append (p ∷ ps) qs a b = (a.0, full-append ps qs a.1 b)

full-split : (ps qs : List Piece) → AllFull (ps ++ qs) → AllFull ps × AllFull qs
full-split [] qs a = (tt, a)
full-split (p ∷ ps) qs a = let r = full-split ps qs a.1 in ((a.0, r.0), r.1)

-- the three parts of the pieces
pub record Three (first end : ℕ) (ps : List Piece) : Type 0 where
  pub whole : ps ≡ take first ps ++ (part first end ps ++ drop end ps)
  pub items : all_items ps ≡ all_items (take first ps)
      ++ (all_items (part first end ps) ++ all_items (drop end ps))
  pub behind : drop (first + (end - first)) ps ≡ drop end ps

pub three : (first end : ℕ) (ps : List Piece) → first ≤ end → Three first end ps
three first end ps h =
    let n : first + (end - first) ≡ end = omega arith in
    let w : ps ≡ take first ps ++ (part first end ps ++ drop end ps) =
    sym (take-append-drop end ps)
    ∙ ap (λ k. take k ps ++ drop end ps) (sym n)
    ∙ ap (λ l. l ++ drop end ps) (take-add first (end - first) ps)
    ∙ append_assoc (take first ps) (part first end ps) (drop end ps) in
    record {
      whole = w;
      items = ap all_items w ∙ all_items-append (take first ps) (part first end ps ++ drop end ps)
          ∙ ap (λ l. all_items (take first ps) ++ l)
          (all_items-append (part first end ps) (drop end ps));
      behind = ap (λ k. drop k ps) n;
    }

-- pieces of which some have no items any more
pub record Poured (first end : ℕ) (ps qs : List Piece) : Type 0 where
  pub front : take first qs ≡ take first ps
  pub back : drop end qs ≡ drop end ps

-- those are replaced
pub replaced_between : (first end : ℕ) (ps new rest last : List Piece) → first ≤ end
    → Poured first end ps rest → last ≡ replaced first (end - first) new rest
    → last ≡ take first ps ++ (new ++ drop end ps)
replaced_between first end ps new rest last h p e =
    let n : first + (end - first) ≡ end = omega arith in
    e ∙ ap (λ l. l ++ (new ++ drop (first + (end - first)) rest)) p.front
    ∙ ap (λ m. take first ps ++ (new ++ drop m rest)) n
    ∙ ap (λ l. take first ps ++ (new ++ l)) p.back

-- the new pieces in their place are pieces
pub are_new : (first end at count put before : ℕ) (ps new : List Piece) (xs : List (ItemOf Listed))
    → IsWindow ps at count put first end before → ArePieces ps → IsCut xs new
    → length xs + count ≡ length (all_items (part first end ps)) + put
    → ArePieces (take first ps ++ (new ++ drop end ps))
are_new first end at count put before ps new xs w a c n =
    let t = three first end ps w.order in
    let s = all-split (take first ps) (part first end ps ++ drop end ps)
    (subst AllPieces t.whole a.all) in
    let r = all-split (part first end ps) (drop end ps) s.1 in
    record {
      all = all-append (take first ps) (new ++ drop end ps) s.0
          (all-append new (drop end ps) c.all r.1);
      full = λ h. by w.enough h;
    }
  where
    all_of : (first ≡ 0) × (end ≡ length ps) → take first ps ++ (new ++ drop end ps) ≡ new
    all_of h = ap (λ k. take k ps ++ (new ++ drop end ps)) h.0 ∙ ap (λ k. new ++ drop k ps) h.1
        ∙ ap (λ l. new ++ l) (past ps) ∙ append-nil new
      where
        past : (l : List Piece) → drop (length l) l ≡ []
        past [] = refl
        past (x ∷ l) = past l

    whole_full : (ys : List (ItemOf Listed)) (qs : List Piece) → IsCut ys qs → 2 ≤ length qs
        → AllFull qs
    whole_full ys qs i h = i.full (grind (arith, i.few))

    by : ((first ≡ 0) × (end ≡ length ps))
        ⊎ ((2 ≤ length ps) × (32 + count ≤ length (all_items (part first end ps)) + put))
        → 2 ≤ length (take first ps ++ (new ++ drop end ps))
        → AllFull (take first ps ++ (new ++ drop end ps))
    by (inl h) k = subst AllFull (sym (all_of h))
        (whole_full xs new c (omega (arith, k, ap length (all_of h))))
    by (inr h) k =
        let f = subst AllFull (three first end ps w.order).whole (a.full h.0) in
        let s = full-split (take first ps) (part first end ps ++ drop end ps) f in
        let r = full-split (part first end ps) (drop end ps) s.1 in
        full-append (take first ps) (new ++ drop end ps) s.0
        (full-append new (drop end ps) (c.full (omega (arith, n, h.1))) r.1)

pub few_pieces : (ps : List Piece) → AllPieces ps → length ps ≤ length (all_items ps)
few_pieces [] a = omega arith
few_pieces (p ∷ ps) a =
    omega (arith, a.0.some, few_pieces ps a.1, length-append p.items.items (all_items ps))

pub length_replaced : {A : Type 0} (at count : ℕ) (put xs : List A) → at + count ≤ length xs
    → length (replaced at count put xs) + count ≡ length xs + length put
length_replaced at count put xs h =
    omega (
      arith,
      length-append (take at xs) (put ++ drop (at + count) xs),
      length-append put (drop (at + count) xs),
      length-take-le at xs (omega (arith, h)),
      length-drop (at + count) xs,
    )

pub part_short : (first end : ℕ) (ps : List Piece) → first ≤ end
    → length (all_items (part first end ps)) ≤ length (all_items ps)
part_short first end ps h =
    let t = three first end ps h in
    omega (
      arith,
      ap length t.items,
      length-append (all_items (take first ps)) (all_items (part first end ps)
          ++ all_items (drop end ps)),
      length-append (all_items (part first end ps)) (all_items (drop end ps)),
    )

-- what is known while items in pieces (ps) are replaced: those of the window (mid), and what they
-- come to
pub record Works (ps : List Piece) (mid : List (ItemOf Listed))
    (at count put first end before : ℕ) : Type 0 where
  pub window : IsWindow ps at count put first end before
  pub is_mid : mid ≡ all_items (part first end ps)
  pub long : length mid ≡ length (all_items (part first end ps))
  pub short : length mid ≤ 2 * count + 384
  pub there : (at - before) + count ≤ length mid

pub works : {ps seen : List Piece} {mid : List (ItemOf Listed)} {at count long first end before : ℕ}
    (put : Vec (ItemOf Listed) Global) → seen ≡ ps → long ≡ vec_len put
    → IsWindow seen at count long first end before → mid ≡ all_items (part first end ps)
    → Works ps mid at count (length put.items) first end before
works {ps = ps} {seen = seen} {mid = mid} {at = at} {count = count} {long = long} {first = first}
    {end = end} {before = before} put same_seen counted ww m =
    let same_long : long ≡ length put.items = omega (arith, counted, put.ok) in
    let w : IsWindow ps at count (length put.items) first end before =
    subst (λ q. IsWindow q at count (length put.items) first end before) same_seen
    (subst (λ n. IsWindow seen at count n first end before) same_long ww) in
    record {
      window = w;
      is_mid = m;
      long = ap length m;
      short = omega (arith, ap length m, w.short);
      there = omega (arith, ap length m, w.ends, w.starts);
    }

-- the whole list afterwards
pub items_after : (ps rest new last : List Piece) (mid put after : List (ItemOf Listed))
    (at count n first end before : ℕ) → Works ps mid at count n first end before
    → Poured first end ps rest → after ≡ replaced (at - before) count put mid → IsCut after new
    → last ≡ replaced first (end - first) new rest
    → all_items last ≡ replaced at count put (all_items ps)
items_after ps rest new last mid put after at count n first end before w p f c g =
    let t = three first end ps w.window.order in
    let a = all_items (take first ps) in
    let m = all_items (part first end ps) in
    let d = all_items (drop end ps) in
    let l : last ≡ take first ps ++ (new ++ drop end ps) =
    replaced_between first end ps new rest last w.window.order p g in
    let i : all_items new ≡ replaced (at - length a) count put m = c.items ∙ f
    ∙ ap (replaced (at - before) count put) w.is_mid
    ∙ ap (λ b. replaced (at - b) count put m) (sym w.window.counted) in
    ap all_items l
    ∙ all_items-append (take first ps) (new ++ drop end ps)
    ∙ ap (λ x. a ++ x) (all_items-append new (drop end ps))
    ∙ ap (λ x. a ++ (x ++ d)) i
    ∙ replaced_within at count put a m d (omega (arith, w.window.counted, w.window.starts))
    (omega (arith, w.window.counted, w.window.ends))
    ∙ ap (replaced at count put) (sym t.items)

pub pieces_after : (ps rest new last : List Piece) (mid put after : List (ItemOf Listed))
    (at count first end before : ℕ) → Works ps mid at count (length put) first end before
    → ArePieces ps → Poured first end ps rest → after ≡ replaced (at - before) count put mid
    → IsCut after new → last ≡ replaced first (end - first) new rest → ArePieces last
pieces_after ps rest new last mid put after at count first end before w a p f c g =
    let l : last ≡ take first ps ++ (new ++ drop end ps) =
    replaced_between first end ps new rest last w.window.order p g in
    subst ArePieces (sym l)
    (are_new first end at count (length put) before ps new after w.window a c
    (omega (arith, ap length f, length_replaced (at - before) count put mid w.there, w.long)))

pub taken_after : (ps : List Piece) (mid got : List (ItemOf Listed))
    (at count n first end before : ℕ) → Works ps mid at count n first end before
    → got ≡ take count (drop (at - before) mid) → got ≡ take count (drop at (all_items ps))
taken_after ps mid got at count n first end before w g =
    let t = three first end ps w.window.order in
    let a = all_items (take first ps) in
    let m = all_items (part first end ps) in
    let d = all_items (drop end ps) in
    g
    ∙ ap (λ l. take count (drop (at - before) l)) w.is_mid
    ∙ ap (λ b. take count (drop (at - b) m)) (sym w.window.counted)
    ∙ taken_within at count a m d (omega (arith, w.window.counted, w.window.starts))
    (omega (arith, w.window.counted, w.window.ends))
    ∙ ap (λ l. take count (drop at l)) (sym t.items)

-- how many items are poured
pub poured : (ps seen : List Piece) (at count long first end before : ℕ) → seen ≡ ps
    → IsWindow seen at count long first end before
    → length (all_items (part first end ps)) ≤ 2 * count + 384
poured ps seen at count long first end before s w =
    omega (arith, ap (λ l. length (all_items (part first end l))) s, w.short)

pub drop_one_more : {A : Type 0} (xs ys : List A) (i : ℕ) → drop i xs ≡ drop i ys
    → drop (i + 1) xs ≡ drop (i + 1) ys
drop_one_more xs ys i e = sym (drop-drop 1 i xs) ∙ ap (drop 1) e ∙ drop-drop 1 i ys

-- one more piece (p) is poured
pub record OneMorePoured (ps : List Piece) (first i end : ℕ) (p : Piece) : Type 0 where
  pub items : all_items (part first (i + 1) ps) ≡ all_items (part first i ps) ++ p.items.items
  pub short : length (all_items (part first i ps)) + length p.items.items
      ≤ length (all_items (part first end ps))

pub one_more_poured : (ps qs : List Piece) (first i end : ℕ) (p : Piece) → first ≤ i → i < end
    → end ≤ length ps → drop i qs ≡ drop i ps → p ≡ get_or qs i p → OneMorePoured ps first i end p
one_more_poured ps qs first i end p h k long e f =
    let rest = drop first ps in
    let n : first + (i - first) ≡ i = omega arith in
    let m : i + 1 - first ≡ i - first + 1 = omega arith in
    let o : end - first ≡ i + 1 - first + (end - (i + 1)) = omega arith in
    let here : p ≡ get_or rest (i - first) p =
    f ∙ ap (λ j. get_or qs j p) (sym (plus_zero i)) ∙ sym (get_or-drop i qs 0 p)
    ∙ ap (λ l. get_or l 0 p) e ∙ get_or-drop i ps 0 p
    ∙ ap (λ j. get_or ps j p) (plus_zero i ∙ sym n) ∙ sym (get_or-drop first ps (i - first) p) in
    let more : all_items (part first (i + 1) ps) ≡ all_items (part first i ps) ++ p.items.items =
    ap (λ j. all_items (take j rest)) m
    ∙ ap all_items (take_more rest (i - first) p (omega (arith, length-drop first ps))
    ∙ ap (λ y. part first i ps ++ y ∷ []) (sym here))
    ∙ all_items-append (part first i ps) (p ∷ [])
    ∙ ap (λ l. all_items (part first i ps) ++ l) (append-nil p.items.items) in
    let others = take (end - (i + 1)) (drop (i + 1 - first) rest) in
    record {
      items = more;
      short = omega (
        arith,
        ap length more,
        length-append (all_items (part first i ps)) p.items.items,
        ap (λ j. length (all_items (take j rest))) o,
        ap (λ l. length (all_items l)) (take-add (i + 1 - first) (end - (i + 1)) rest),
        ap length (all_items-append (part first (i + 1) ps) others),
        length-append (all_items (part first (i + 1) ps)) (all_items others),
      );
    }
  where
    plus_zero : (j : ℕ) → j + 0 ≡ j
    plus_zero j = omega arith

pub taken_short : (ps : List Piece) (i : ℕ) → length (all_items (take i ps)) ≤ length (all_items ps)
taken_short ps i =
    omega (
      arith,
      ap (λ l. length (all_items l)) (take-append-drop i ps),
      ap length (all_items-append (take i ps) (drop i ps)),
      length-append (all_items (take i ps)) (all_items (drop i ps)),
    )

full_at : (ps : List Piece) (i : ℕ) (d : Piece) → i < length ps → AllFull ps
    → 32 ≤ length (get_or ps i d).items.items
full_at [] i d h a = absurd (omega arith)
full_at (p ∷ ps) zero d h a = a.0
full_at (p ∷ ps) (suc i) d h a = full_at ps i d (omega arith) a.1

-- what is known of the piece of a number
pub record Next (ps : List Piece) (i : ℕ) (p : Piece) : Type 0 where
  pub more : length (all_items (take (i + 1) ps))
      ≡ length (all_items (take i ps)) + length p.items.items
  pub some : 1 ≤ length p.items.items
  pub small : length p.items.items ≤ 64
  pub full : 2 ≤ length ps → 32 ≤ length p.items.items
  pub within : length (all_items (take (i + 1) ps)) ≤ length (all_items ps)

pub next : (ps : List Piece) (i : ℕ) (p : Piece) → i < length ps → p ≡ get_or ps i p → ArePieces ps
    → Next ps i p
next ps i p h e a =
    let k = piece_at ps i p h e a.all in
    record {
      more = length_more ps i p h e;
      some = k.some;
      small = k.small;
      full = λ t. omega (
        arith,
        full_at ps i p h (a.full t),
        ap (λ (q : Piece). length q.items.items) e,
      );
      within = taken_short ps (i + 1);
    }

small_all : (ps : List Piece) → AllPieces ps → length (all_items ps) ≤ 64 * length ps
small_all [] a = omega arith
small_all (p ∷ ps) a =
    omega (arith, a.0.small, small_all ps a.1, length-append p.items.items (all_items ps))

-- the part between two pieces
pub part_long : (ps : List Piece) (first end : ℕ) → first ≤ end → end ≤ length ps → ArePieces ps
    → (length (all_items (part first end ps)) + length (all_items (take first ps))
    ≡ length (all_items (take end ps)))
    × (length (all_items (part first end ps)) ≤ 64 * (end - first))
part_long ps first end h k a =
    let t = three first end ps h in
    let n : first + (end - first) ≡ end = omega arith in
    let front : all_items (take end ps) ≡ all_items (take first ps)
    ++ all_items (part first end ps) =
    ap (λ m. all_items (take m ps)) (sym n) ∙ ap all_items (take-add first (end - first) ps)
    ∙ all_items-append (take first ps) (part first end ps) in
    let s = all-split (take first ps) (part first end ps ++ drop end ps)
    (subst AllPieces t.whole a.all) in
    let r = all-split (part first end ps) (drop end ps) s.1 in
    let m : length (part first end ps) ≡ end - first =
    length-take-le (end - first) (drop first ps) (omega (arith, length-drop first ps)) in (
      omega (
        arith,
        ap length front,
        length-append (all_items (take first ps)) (all_items (part first end ps)),
      ),
      omega (arith, small_all (part first end ps) r.0, m),
    )

pub inside_end : (ps : List Piece) (i : ℕ) → length (all_items (take i ps)) < length (all_items ps)
    → i < length ps
inside_end [] zero h = absurd (omega arith)
inside_end [] (suc i) h = absurd (omega arith)
inside_end (p ∷ ps) zero h = omega arith
inside_end (p ∷ ps) (suc i) h =
    omega (
      arith,
      inside_end ps i
          (omega (
            arith,
            h,
            length-append p.items.items (all_items (take i ps)),
            length-append p.items.items (all_items ps),
          )),
    )

pub end_short : (long first end at count before behind : ℕ) → end + 1 ≤ long → first ≤ end
    → (first + 1 < long → at < before + 64) → (2 ≤ long → before + 32 * (end - first) ≤ behind)
    → behind < at + count → before ≤ at → 32 * (end + 1 - first) ≤ count + 128
end_short long first end at count before behind h o n f b s = by long (suc first + 1) h n f
  where
    by : (l m : ℕ) → end + 1 ≤ l → (first + 1 < l → at < before + 64)
        → (2 ≤ l → before + 32 * (end - first) ≤ behind) → 32 * (end + 1 - first) ≤ count + 128
    by l m h n f = grind (arith, b, s, o)

-- the four ways to choose the window
record Chosen (ps : List Piece) (at count first end before : ℕ) : Type 0 where
  long : length (all_items (part first end ps)) + before ≡ length (all_items (take end ps))
  short : length (all_items (part first end ps)) ≤ 64 * (end - first)

chosen : (ps : List Piece) (at count first end before : ℕ) → first ≤ end → end ≤ length ps
    → length (all_items (take first ps)) ≡ before → ArePieces ps
    → Chosen ps at count first end before
chosen ps at count first end before h k c a = let l = part_long ps first end h k a in
    record { long = omega (arith, l.0, c); short = l.1 }

pub window_same : (ps : List Piece) (at count put first end before behind : ℕ)
    → IsStart ps at first before → IsEnd ps at count first before end behind → ArePieces ps
    → ((first ≡ 0) × (end ≡ length ps)) ⊎ (32 + count ≤ put + (behind - before))
    → IsWindow ps at count put first end before
window_same ps at count put first end before behind s e a o =
    let c = chosen ps at count first end before e.order e.within s.counted a in
    record {
      order = e.order;
      within = e.within;
      counted = s.counted;
      starts = s.starts;
      ends = omega (arith, c.long, e.counted, e.ends);
      short = omega (arith, c.short, e.short);
      enough = by (length ps) refl o;
    }
  where
    by : (n : ℕ) → length ps ≡ n
        → ((first ≡ 0) × (end ≡ length ps)) ⊎ (32 + count ≤ put + (behind - before))
        → ((first ≡ 0) × (end ≡ length ps))
        ⊎ ((2 ≤ length ps) × (32 + count ≤ length (all_items (part first end ps)) + put))
    by n h (inl k) = inl k
    by zero h (inr k) = inl (omega (arith, h, e.order, e.within), omega (arith, h, e.within))
    by (suc zero) h (inr k) =
        inl (
          omega (arith, h, s.some (omega (arith, h))),
          omega (arith, h, e.within, e.some (omega (arith, h))),
        )
    by (suc (suc n)) h (inr k) = let c =
        chosen ps at count first end before e.order e.within s.counted a in
        inr (omega (arith, h), omega (arith, k, c.long, e.counted))

pub window_after : (ps : List Piece) (at count put first end before behind : ℕ) (p : Piece)
    → IsStart ps at first before → IsEnd ps at count first before end behind → ArePieces ps
    → end < length ps → p ≡ get_or ps end p
    → IsWindow ps at count put first (end + 1) before
window_after ps at count put first end before behind p s e a h k =
    let n = next ps end p h k a in
    let c = chosen ps at count first (end + 1) before (omega (arith, e.order)) (omega (arith, h))
    s.counted a in
    let two : 2 ≤ length ps = omega (arith, h, e.some (omega (arith, h))) in
    record {
      order = omega (arith, e.order);
      within = omega (arith, h);
      counted = s.counted;
      starts = s.starts;
      ends = omega (arith, c.long, n.more, e.counted, e.ends);
      short = omega (arith, c.short, e.short, e.order);
      enough = inr (two, omega (arith, c.long, n.more, e.counted, e.ends, n.full two, s.starts));
    }

pub window_before : {ps : List Piece} {at count first end before behind long : ℕ} {p : Piece}
    (put : ℕ) → IsStart ps at first before → IsEnd ps at count first before end behind → ArePieces ps
    → 0 < first → p ≡ get_or ps (first - 1) p
    → long ≡ vec_len (get_or ps (first - 1) p).items
    → IsWindow ps at count put (first - 1) end (before - long) × (long ≤ before)
window_before {ps = ps} {at = at} {count = count} {first = first} {end = end} {before = before}
    {long = long} {p = p} put s e a h k counted =
    let l : long ≡ length p.items.items =
    omega (arith, counted, p.items.ok, ap (λ (x : Piece). vec_len x.items) k) in
    let n = next ps (first - 1) p (omega (arith, h, s.within)) k a in
    let m : length (all_items (take first ps)) ≡ length (all_items (take (first - 1 + 1) ps)) =
    let f : first ≡ first - 1 + 1 = omega arith in ap (λ i. length (all_items (take i ps))) f in
    let counted : length (all_items (take (first - 1) ps)) ≡ before - long =
    omega (arith, n.more, m, s.counted, l) in
    let c = chosen ps at count (first - 1) end (before - long) (omega (arith, e.order))
    e.within counted a in
    let two : 2 ≤ length ps = omega (arith, h, s.within, s.some (omega (arith, h, s.within))) in
    let full = n.full two in
    let less : long ≤ before = omega (arith, n.more, m, s.counted, l) in (
      record {
        order = omega (arith, e.order);
        within = e.within;
        counted = counted;
        starts = omega (arith, s.starts);
        ends = omega (arith, c.long, e.counted, e.ends, less);
        short = omega (arith, c.short, e.short, e.order);
        enough = inr (two, omega (arith, c.long, e.counted, e.ends, full, s.starts, l, less));
      },
      less,
    )

pub piece_here : (ps : List Piece) (i : ℕ) → i < length ps → Piece
piece_here [] i h = absurd (omega arith)
piece_here (p ∷ ps) zero h = p
piece_here (p ∷ ps) (suc i) h = piece_here ps i (omega arith)

-- full pieces are few
full_few : (ps : List Piece) → AllFull ps → 32 * length ps ≤ length (all_items ps)
full_few [] a = omega arith
full_few (p ∷ ps) a =
    omega (arith, a.0, full_few ps a.1, length-append p.items.items (all_items ps))

pub few : (ps : List Piece) → ArePieces ps → length ps ≤ length (all_items ps) / 32 + 1
few [] a = omega arith
few (p ∷ []) a = omega arith
few (p ∷ q ∷ ps) a = let k = full_few (p ∷ q ∷ ps) (a.full (omega (arith))) in omega (arith, k)

-- pieces that were cut are pieces
pub cut_made : (xs : List (ItemOf Listed)) (ps : List Piece) → IsCut xs ps → AreMade xs ps
cut_made xs ps c = record {
  items = c.items;
  pieces =
      record { all = c.all; full = λ h. c.full (grind (arith, c.few)) };
}
