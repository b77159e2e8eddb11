-- The labels of a day in order, as SMPTE ST 12-1 counts them.
use Rattle.std.specs.Prelude.{◌≡◌, ◌==◌, ℕ, ◌+◌, ◌/◌, ◌%◌, Bool, not, ◌&&◌, nat_lt, List, [], ◌∷◌, map, filter, flat_map, slice_get, Some, if◌then◌else◌}
use Rattle.std.specs.List.{range_with_len}
use Rattle.smpte_tc.specs.declared.address.TimeAddress.{TimeAddress}
use Rattle.smpte_tc.specs.declared.modes.Mode.{Mode}

-- the numbers 0, 1, .. below n, in order
unfoldable pub below : ℕ → List ℕ
below n = range_with_len 0 n

-- the time address of four numbers
abbrev pub address : ℕ → ℕ → ℕ → ℕ → TimeAddress
address h m s f = record { hours = h; minutes = m; seconds = s; frames = f }

-- the time addresses of one second, in order
unfoldable pub second_of : ℕ → ℕ → ℕ → ℕ → List TimeAddress
second_of nominal h m s = map (address h m s) (below nominal)

-- the time addresses of one minute, in order
unfoldable pub minute_of : ℕ → ℕ → ℕ → List TimeAddress
minute_of nominal h m = flat_map (second_of nominal h m) (below 60)

-- the time addresses of one hour, in order
unfoldable pub hour_of : ℕ → ℕ → List TimeAddress
hour_of nominal h = flat_map (minute_of nominal h) (below 60)

-- all time addresses of a day in order: hours, minutes, seconds, frames
unfoldable pub day_of : ℕ → List TimeAddress
day_of nominal = flat_map (hour_of nominal) (below 24)

-- drop-frame leaves out the first frame numbers of each minute whose number is not a multiple of
-- ten
abbrev pub is_left_out : Mode → TimeAddress → Bool
is_left_out mode a = (a.seconds == 0) && nat_lt a.frames mode.dropped && not (a.minutes % 10 == 0)

-- drop-frame does not leave the time address out
abbrev pub is_counted : Mode → TimeAddress → Bool
is_counted mode a = not (is_left_out mode a)

-- the time addresses of a day that are counted, in order
unfoldable pub counted_of : Mode → List TimeAddress
counted_of mode = filter (is_counted mode) (day_of mode.nominal)

-- the first decimal digit of a number below a hundred, as a byte
abbrev pub tens : ℕ → ℕ
tens n = 48 + n / 10

-- the second decimal digit
abbrev pub units : ℕ → ℕ
units n = 48 + n % 10

-- eleven bytes: two digits each, with ':' between, and a mark of its own before the frames
abbrev pub spelled : ℕ → TimeAddress → List ℕ
spelled mark a =
    tens a.hours ∷ units a.hours ∷ 58 ∷ tens a.minutes ∷ units a.minutes ∷ 58 ∷ tens a.seconds
    ∷ units a.seconds ∷ mark ∷ tens a.frames ∷ units a.frames ∷ []

-- the labels of a day in order, with this mark before the frames
unfoldable pub labels_with : ℕ → Mode → List (List ℕ)
labels_with mark mode = map (spelled mark) (counted_of mode)

-- the bytes are the label of the frame number n: as many labels of the day come before it
pub record IsLabelWith (mark : ℕ) (mode : Mode) (n : ℕ) (bytes : List ℕ) : Type 0 where
  pub stands : slice_get (labels_with mark mode) n ≡ Some bytes

-- the mark before the frames that is written: ':', and ';' for drop-frame
abbrev pub mark_of : Mode → ℕ
mark_of mode = if mode.dropped == 0 then 58 else 59

-- the bytes are the label of the frame number n, as it is written
abbrev pub IsLabel : Mode → ℕ → List ℕ → Type 0
IsLabel mode n bytes = IsLabelWith (mark_of mode) mode n bytes

-- the labels of a day in order, as they are written
abbrev pub labels_of : Mode → List (List ℕ)
labels_of mode = labels_with (mark_of mode) mode
