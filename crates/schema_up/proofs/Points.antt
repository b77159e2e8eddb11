-- Where the first point of a text parts it.
use Rattle.std.proofs.Common.{◌≡◌, ◌<◌, ℕ, List, [], Option, Some, None, MatchOption, length, arith}
use Rattle.std.proofs.lemmas.List.{drop_all}
use Rattle.std.proofs.lemmas.Str.Pattern.{split_once_first, IsSplitOnceResult}
use Rattle.std.specs.List.{before_first, after_first, position_or_len}
use Rattle.schema_up.specs.Names.{is_point, IsSplit}
use denote.Ref.{Bor}

pub at_point : (text : List ℕ) (r : Option (Bor (List ℕ) × Bor (List ℕ))) → IsSplitOnceResult 46 text r → MatchOption r (after_first is_point text ≡ []) (λ parts. IsSplit text parts.0.now parts.1.now)
at_point text r h = by r (split_once_first 46 text r h (omega arith))
  where
    by : (r : Option (Bor (List ℕ) × Bor (List ℕ)))
        → MatchOption r (position_or_len is_point text ≡ length text) (λ x. (position_or_len is_point text < length text) × (x.0.now ≡ before_first is_point text) × (x.1.now ≡ after_first is_point text))
        → MatchOption r (after_first is_point text ≡ []) (λ parts. IsSplit text parts.0.now parts.1.now)
    by None h = drop_all _ text (omega (arith, h))
    by (Some x) h = record { front = h.1; back = h.2 }
