-- Texts in pieces by number, handed over one after another.
use Rattle.std.proofs.Common.{◌≡◌, ℕ, zero, suc, ◌+◌, ◌-◌, ◌<◌, List, [], ◌++◌, ap, sym, ◌∙◌, append_assoc, append-nil, subst, arith, true≢false, Result, Ok, Err, IsErr}
use Rattle.std.specs.List.{flat_map, range_with_len}
use Rattle.std.proofs.lemmas.List.Concat.{flat_map-cons}
use Rattle.dev_io.specs.Buffer.{Standing, Puts}
use Rattle.dev_io.proofs.BufferLemmas.{puts_then, puts_as, puts_none}
use Rattle.show_prog.specs.Handing.{PutsAll, PutsFront}

-- so many pieces from one on
abbrev pub pieces : (ℕ → List ℕ) → ℕ → ℕ → List ℕ
pieces f a m = flat_map f (range_with_len a m)

-- some pieces and the ones behind them
pub pieces_split : (f : ℕ → List ℕ) (a m n : ℕ) → pieces f a (m + n) ≡ pieces f a m ++ pieces f (a + m) n
pieces_split f a zero n =
    let e : zero + n ≡ n = omega arith in
    let k : a ≡ a + zero = omega arith in
    ap (pieces f a) e ∙ ap (λ (b : ℕ). pieces f b n) k
pieces_split f a (suc m) n =
    let e : suc m + n ≡ suc (m + n) = omega arith in
    let k : (a + 1) + m ≡ a + suc m = omega arith in
    ap (pieces f a) e ∙ flat_map-cons f a (range_with_len (a + 1) (m + n)) ∙ ap (λ (l : List ℕ). f a ++ l) (pieces_split f (a + 1) m n ∙ ap (λ (b : ℕ). pieces f (a + 1) m ++ pieces f b n) k)
    ∙ sym (append_assoc (f a) (pieces f (a + 1) m) (pieces f (a + suc m) n)) ∙ ap (λ (l : List ℕ). l ++ pieces f (a + suc m) n) (sym (flat_map-cons f a (range_with_len (a + 1) m)))

-- the first of some pieces
first_piece : (f : ℕ → List ℕ) (i n : ℕ) → 0 < n → pieces f i n ≡ f i ++ pieces f (i + 1) (n - 1)
first_piece f i zero some = absurd (omega (arith, some))
first_piece f i (suc n) some =
    let e : n ≡ suc n - 1 = omega arith in
    flat_map-cons f i (range_with_len (i + 1) n) ∙ ap (λ (k : ℕ). f i ++ pieces f (i + 1) k) e

one_piece : (f : ℕ → List ℕ) (i : ℕ) → pieces f i 1 ≡ f i ++ []
one_piece f i = flat_map-cons f i []

-- some pieces, the next one and the others
piece_within : (f : ℕ → List ℕ) (a m i n : ℕ) → i ≡ a + m → m < n → pieces f a n ≡ pieces f a m ++ (f i ++ pieces f (i + 1) ((n - m) - 1))
piece_within f a m i n e lt =
    let k : n ≡ m + (n - m) = omega arith in
    ap (pieces f a) k ∙ pieces_split f a m (n - m) ∙ ap (λ (b : ℕ). pieces f a m ++ pieces f b (n - m)) (sym e) ∙ ap (λ (l : List ℕ). pieces f a m ++ l) (first_piece f i (n - m) (omega arith))

piece_more : (f : ℕ → List ℕ) (a m i : ℕ) → i ≡ a + m → pieces f a m ++ f i ≡ pieces f a (m + 1)
piece_more f a m i e =
    ap (λ (l : List ℕ). pieces f a m ++ l) (sym (append-nil (f i)) ∙ sym (one_piece f i)) ∙ ap (λ (b : ℕ). pieces f a m ++ pieces f b 1) e ∙ sym (pieces_split f a m 1)

-- no piece yet
pub none_put : (s : Standing) (f : ℕ → List ℕ) (a m : ℕ) → m ≡ 0 → Puts s s (pieces f a m)
none_put s f a m e = subst (λ (k : ℕ). Puts s s (pieces f a k)) (sym e) (puts_none s)

-- one more piece
pub piece_put : {s b c : Standing} (f : ℕ → List ℕ) (a m i k : ℕ) → i ≡ a + m → k ≡ m + 1 → Puts s b (pieces f a m) → Puts b c (f i) → Puts s c (pieces f a k)
piece_put f a m i k e next p q = puts_as (pieces f a k) (puts_then p q) (piece_more f a m i e ∙ ap (pieces f a) (sym next))

-- a part of one more piece
pub piece_cut : {s b c : Standing} (f : ℕ → List ℕ) (a m i n : ℕ) → i ≡ a + m → m < n → Puts s b (pieces f a m) → PutsFront b c (f i) → PutsFront s c (pieces f a n)
piece_cut f a m i n e lt p q = record {
  front = pieces f a m ++ q.front;
  rest = q.rest ++ pieces f (i + 1) ((n - m) - 1);
  whole = piece_within f a m i n e lt ∙ ap (λ (l : List ℕ). pieces f a m ++ (l ++ pieces f (i + 1) ((n - m) - 1))) q.whole ∙ simp append_assoc;
  put = puts_then p q.put;
}

-- all pieces
pub all_put : {s b : Standing} (f : ℕ → List ℕ) (a m n : ℕ) → m ≡ n → Puts s b (pieces f a m) → Puts s b (pieces f a n)
all_put f a m n e p = puts_as (pieces f a n) p (ap (pieces f a) e)

-- where a call stopped, a part from the front was handed over
pub puts_cut : {T E : Type 0} {a b : Standing} {text : List ℕ} (r : Result T E) → IsErr r
    → PutsFront a b text → PutsAll a b text r
puts_cut (Ok x) e p = absurd (true≢false (sym e))
puts_cut (Err y) e p = p
