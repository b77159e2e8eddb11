-- What a text stands for is a JSON value.
use Rattle.std.proofs.Common.{◌≡◌, ◌<◌, ℕ, Bool, true, false, List, [], ◌∷◌, Some, refl, sym, subst, arith}
use Rattle.std.proofs.lemmas.Bool.Decides.{nat_tests}
use Rattle.std.specs.Char.{IsScalar, encode_utf8}
use Rattle.std.specs.Str.{IsUtf8, bytes_eq}
use Rattle.std.proofs.lemmas.Str.{encode_ascii, IsUtf8-append, IsUtf8-encode, IsUtf8-nil}
use lib.Utf8.{low_scalar}
use Rattle.sequences.specs.Pairs.{names_of, AreDistinct, put, put_all, merged}
use Rattle.json_value.specs.declared.Json.{Json}
use Rattle.json_text.specs.Grammar.{Chars, close, plain, short, code, pair, escaped, joined, IsHigh, IsLow, Value, blank, null, yes, no, number, string, list, map, Items, items_blank, items_none, items_some, MoreItems, more_items_blank, more_items_done, more_items_next, Pairs, pairs_blank, pairs_none, pairs_some, MorePairs, more_pairs_blank, more_pairs_done, more_pairs_next, Pair, pair_blank, pair_named}
use Rattle.json_text.proofs.Utf8Lemmas.{high_scalar}
use Rattle.sequences.proofs.PairLemmas.{AreDistinct-put}
use Rattle.json_law.specs.Written as W

-- a short escape stands for an ASCII character
escaped_ascii : (b c : ℕ) → escaped b ≡ Some c → c < 128
escaped_ascii b c e = grind (arith, nat_tests)

IsUtf8-ascii : (c : ℕ) → c < 128 → IsUtf8 (c ∷ [])
IsUtf8-ascii c h = subst IsUtf8 (encode_ascii c h) (IsUtf8-encode c (low_scalar c (omega arith)))

joined_scalar : (high low : ℕ) → IsHigh high → IsLow low → IsScalar (joined high low)
joined_scalar high low h l = high_scalar (joined high low) (omega (arith, h.0, h.1, l.0, l.1)) (omega (arith, h.0, h.1, l.0, l.1))

-- the text of a string's characters is UTF-8
chars_utf8 : (bytes text rest : List ℕ) → Chars bytes text rest → IsUtf8 text
chars_utf8 bytes text rest (close _ _ _ e f) = subst IsUtf8 (sym f) IsUtf8-nil
chars_utf8 bytes text rest (plain _ _ _ c more after s high n34 n92 e f h) = subst IsUtf8 (sym f) (IsUtf8-append (encode_utf8 c) after (IsUtf8-encode c s) (chars_utf8 more after rest h))
chars_utf8 bytes text rest (short _ _ _ b c more after e d f h) = subst IsUtf8 (sym f) (IsUtf8-append (c ∷ []) after (IsUtf8-ascii c (escaped_ascii b c d)) (chars_utf8 more after rest h))
chars_utf8 bytes text rest (code _ _ _ c more mid after e d s f h) = subst IsUtf8 (sym f) (IsUtf8-append (encode_utf8 c) after (IsUtf8-encode c s) (chars_utf8 mid after rest h))
chars_utf8 bytes text rest (pair _ _ _ high low more mid next end after e d hi g k lo f h) =
    subst IsUtf8 (sym f) (IsUtf8-append (encode_utf8 (joined high low)) after (IsUtf8-encode (joined high low) (joined_scalar high low hi lo)) (chars_utf8 end after rest h))

-- merged pairs have distinct names
AreDistinct-put_all : {X : Type 0} (ks ps : List (List ℕ × X)) → AreDistinct (names_of ks) → AreDistinct (names_of (put_all ks ps))
AreDistinct-put_all ks [] h = h
AreDistinct-put_all ks (p ∷ ps) h = AreDistinct-put_all (put p.0 p.1 ks) ps (AreDistinct-put p.0 p.1 ks h)

-- the first member, and the others
split_members : (room : ℕ) (p : List ℕ × Json) (ps : List (List ℕ × Json)) → W.AreMembers room (p ∷ ps) → IsUtf8 p.0 × W.IsJson room p.1 × W.AreMembers room ps
split_members room p ps (W.no_members _ _ e) = absurd (cc)
split_members room p ps (W.more_members _ _ name value others e u h hs) =
    let first : (name, value) ≡ p = cc in
    let rest : others ≡ ps = cc in
    (subst (λ (q : List ℕ × Json). IsUtf8 q.0) first u, subst (λ (q : List ℕ × Json). W.IsJson room q.1) first h, subst (λ l. W.AreMembers room l) rest hs)

-- a member put among members
AreMembers-put : (room : ℕ) (n : List ℕ) (x : Json) (ps : List (List ℕ × Json)) → IsUtf8 n → W.IsJson room x → W.AreMembers room ps → W.AreMembers room (put n x ps)
AreMembers-put room n x [] u h hs = W.more_members _ _ n x [] refl u h hs
AreMembers-put room n x (p ∷ ps) u h hs =
    let split = split_members room p ps hs in
    by (bytes_eq n p.0) refl split.0 split.1 split.2 (AreMembers-put room n x ps u h split.2) where
      by : (t : Bool) → bytes_eq n p.0 ≡ t → IsUtf8 p.0 → W.IsJson room p.1 → W.AreMembers room ps → W.AreMembers room (put n x ps) → W.AreMembers room (put n x (p ∷ ps))
      by true q pu ph hps below = rw q (W.more_members _ _ n x ps refl u h hps)
      by false q pu ph hps below = rw q (W.more_members _ _ p.0 p.1 (put n x ps) refl pu ph below)

AreMembers-put_all : (room : ℕ) (ks ps : List (List ℕ × Json)) → W.AreMembers room ks → W.AreMembers room ps → W.AreMembers room (put_all ks ps)
AreMembers-put_all room ks [] hk hp = hk
AreMembers-put_all room ks (p ∷ ps) hk hp =
    let split = split_members room p ps hp in
    AreMembers-put_all room (put p.0 p.1 ks) ps (AreMembers-put room p.0 p.1 ks split.0 split.1 hk) split.2

mutual
  value_is : (room : ℕ) (bytes : List ℕ) (value : Json) (rest : List ℕ) → Value room bytes value rest → W.IsJson room value
  value_is room bytes value rest (blank _ _ _ _ b more e s h) = value_is room more value rest h
  value_is room bytes value rest (null _ _ _ _ e v) = W.null room value v
  value_is room bytes value rest (yes _ _ _ _ e v) = W.truth room value true v
  value_is room bytes value rest (no _ _ _ _ e v) = W.truth room value false v
  value_is room bytes value rest (number _ _ _ _ spelled e v h) = W.number room value spelled v h
  value_is room bytes value rest (string _ _ _ _ more text e v h) = W.string room value text v (chars_utf8 more text rest h)
  value_is room bytes value rest (list _ _ _ _ inner more items r e v h) = W.list room value inner items r v (items_are inner more items rest h)
  value_is room bytes value rest (map _ _ _ _ inner more pairs r e v h) =
      W.object room value inner (merged pairs) r v (AreDistinct-put_all [] pairs tt) (AreMembers-put_all inner [] pairs (W.no_members _ _ refl) (pairs_are inner more pairs rest h))

  items_are : (room : ℕ) (bytes : List ℕ) (items : List Json) (rest : List ℕ) → Items room bytes items rest → W.AreJson room items
  items_are room bytes items rest (items_blank _ _ _ _ b more e s h) = items_are room more items rest h
  items_are room bytes items rest (items_none _ _ _ _ e v) = W.no_values room items v
  items_are room bytes items rest (items_some _ _ _ _ mid first others e h hs) = W.more_values room items first others e (value_is room bytes first mid h) (more_items_are room mid others rest hs)

  more_items_are : (room : ℕ) (bytes : List ℕ) (items : List Json) (rest : List ℕ) → MoreItems room bytes items rest → W.AreJson room items
  more_items_are room bytes items rest (more_items_blank _ _ _ _ b more e s h) = more_items_are room more items rest h
  more_items_are room bytes items rest (more_items_done _ _ _ _ e v) = W.no_values room items v
  more_items_are room bytes items rest (more_items_next _ _ _ _ more mid first others d e h hs) =
      W.more_values room items first others e (value_is room more first mid h) (more_items_are room mid others rest hs)

  pairs_are : (room : ℕ) (bytes : List ℕ) (pairs : List (List ℕ × Json)) (rest : List ℕ) → Pairs room bytes pairs rest → W.AreMembers room pairs
  pairs_are room bytes pairs rest (pairs_blank _ _ _ _ b more e s h) = pairs_are room more pairs rest h
  pairs_are room bytes pairs rest (pairs_none _ _ _ _ e v) = W.no_members room pairs v
  pairs_are room bytes pairs rest (pairs_some _ _ _ _ mid name value others e h hs) =
      let first = pair_is room bytes name value mid h in W.more_members room pairs name value others e first.0 first.1 (more_pairs_are room mid others rest hs)

  more_pairs_are : (room : ℕ) (bytes : List ℕ) (pairs : List (List ℕ × Json)) (rest : List ℕ) → MorePairs room bytes pairs rest → W.AreMembers room pairs
  more_pairs_are room bytes pairs rest (more_pairs_blank _ _ _ _ b more e s h) = more_pairs_are room more pairs rest h
  more_pairs_are room bytes pairs rest (more_pairs_done _ _ _ _ e v) = W.no_members room pairs v
  more_pairs_are room bytes pairs rest (more_pairs_next _ _ _ _ more mid name value others d e h hs) =
      let first = pair_is room more name value mid h in W.more_members room pairs name value others e first.0 first.1 (more_pairs_are room mid others rest hs)

  pair_is : (room : ℕ) (bytes name : List ℕ) (value : Json) (rest : List ℕ) → Pair room bytes name value rest → IsUtf8 name × W.IsJson room value
  pair_is room bytes name value rest (pair_blank _ _ _ _ _ b more e s h) = pair_is room more name value rest h
  pair_is room bytes name value rest (pair_named _ _ _ _ _ more mid after e c d h) = (chars_utf8 more name mid c, value_is room after value rest h)

pub read_is_json : W.ReadIsJson
read_is_json bytes value h = value_is 127 bytes value h.0 h.1
