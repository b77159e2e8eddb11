-- The first item that has a clip, and the last before another one that may show something.
use Rattle.std.specs.Prelude.{◌≡◌, ℕ, ◌<◌, ℤ, pos, int_lt, Bool, true, false, ◌&&◌, List, Option}
use Rattle.std.specs.Prelude.{Some, None, slice_get}
use Rattle.otio_model.specs.declared.compositions.ItemOf.{ItemOf}
use Rattle.otio_model.specs.declared.compositions.Listed.{Listed}
use Rattle.otio_model.specs.Lengths.{length_of, or_zero}
use Rattle.otio_model.specs.Clips.{has_clip, is_lit}

-- whether an item that may be there is a clip or has one below it
abbrev pub clip_of : Option (ItemOf Listed) → Bool
clip_of o = elim o [ None ↦ false | Some x ↦ has_clip x ]

-- whether the item at an index is one or has one
abbrev pub clip_at : List (ItemOf Listed) → ℕ → Bool
clip_at xs i = clip_of (slice_get xs i)

-- the item at the index is the first that is a clip or has one below it
pub record IsFirstWithClip (xs : List (ItemOf Listed)) (index : ℕ) : Type 0 where
  pub there : clip_at xs index ≡ true
  pub none_before : (i : ℕ) → i < index → clip_at xs i ≡ false

-- no item is one or has one
abbrev pub HasNoClip : List (ItemOf Listed) → Type 0
HasNoClip xs = (i : ℕ) → clip_at xs i ≡ false

-- whether an item may show something so many ticks from its start, which it may only where it is
-- longer
abbrev pub may_show : ItemOf Listed → ℤ → Bool
may_show x ticks = is_lit x && int_lt ticks (pos (or_zero (length_of x)))

-- the same of an item that may be there
abbrev pub shows_of : Option (ItemOf Listed) → ℤ → Bool
shows_of o ticks = elim o [ None ↦ false | Some x ↦ may_show x ticks ]

-- whether the item at an index may show something so many ticks from its start
abbrev pub shows_at : List (ItemOf Listed) → ℤ → ℕ → Bool
shows_at xs ticks i = shows_of (slice_get xs i) ticks

-- the item at the index is the last before another index that may show something there
pub record IsLastLit (xs : List (ItemOf Listed)) (end : ℕ) (ticks : ℤ) (index : ℕ) : Type 0 where
  pub before : index < end
  pub there : shows_at xs ticks index ≡ true
  pub none_between : (i : ℕ) → index < i → i < end → shows_at xs ticks i ≡ false

-- no item before an index may show something there
abbrev pub HasNoLit : List (ItemOf Listed) → ℕ → ℤ → Type 0
HasNoLit xs end ticks = (i : ℕ) → i < end → shows_at xs ticks i ≡ false
