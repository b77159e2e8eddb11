-- Speeds, rates, times and ranges of time in JSON give what they were written of.
use Rattle.std.proofs.Common.{◌≢◌, ℕ, ℤ, List, [], ◌∷◌, Some, refl}
use Rattle.json_value.specs.declared.Json.{Json}
use Rattle.json_value.specs.declared.Json.TheVariants as J
use Rattle.tick_time.specs.declared.rates.Rate.{Rate}
use Rattle.tick_time.specs.declared.times.Time.{Time}
use Rattle.tick_time.specs.declared.spans.Span.{Span}
use Rattle.tick_time.specs.Times.{IsSpeed}
use Rattle.schema_rows.specs.Rows as R
use Rattle.schema_rows.specs.declared.schemas.Schema.TheVariants as S
use Rattle.schema_rows.specs.declared.schemas.TheConstants as C
use Rattle.schema_rows.specs.declared.values.Value.TheVariants as V
use Rattle.schema_rows.specs.Stands as W
use Rattle.schema_rows.specs.Stands.{Gives, Gives_fields}
use Rattle.schema_write.specs.Texts.{decimal_text, rate_text, value_text}
use Rattle.schema_write.specs.Objects.{time_json, range_json}
use Rattle.schema_write.proofs.RereadTexts.{speed_reads, rate_reads, time_reads}
use Rattle.object_law.proofs.FoundMembers.{given}
use Rattle.object_law.proofs.NamedSchemas.{written_stands}

pub map_not_null : (members : List (List ℕ × Json)) → J.Map members ≢ J.Null
map_not_null members e = cc

pub num_not_null : (numeral : List ℕ) → J.Num numeral ≢ J.Null
num_not_null numeral e = cc

pub number_gives : (default speed : ℤ) → IsSpeed speed → Gives (R.number default) (J.Num (decimal_text speed)) (V.Number speed)
number_gives default speed h =
    let r = speed_reads speed h in
    W.number (R.number default) (J.Num (decimal_text speed)) (V.Number speed) default (decimal_text speed) r.decimal speed refl refl r.spelled r.nearest h refl

pub rate_gives : (rate : Rate) → Gives R.rate (J.Num (rate_text rate)) (V.Rate rate)
rate_gives rate =
    let r = rate_reads rate in
    W.rate R.rate (J.Num (rate_text rate)) (V.Rate rate) (rate_text rate) r.decimal rate refl refl r.spelled r.gives refl

pub time_gives : (time : Time) → Gives R.time (time_json time) (V.Time (Some time))
time_gives time =
    let r = time_reads time in
    let value : Gives R.numeral (J.Num (value_text time)) (V.Numeral r.decimal) =
    W.numeral R.numeral (J.Num (value_text time)) (V.Numeral r.decimal) (value_text time) r.decimal refl refl r.spelled refl in
    let known : Gives_fields C.TIMES (time_json time) (record { schema = S.RationalTime; values = V.Rate time.rate ∷ V.Numeral r.decimal ∷ []; rest = [] }) =
    written_stands C.TIMES S.RationalTime (J.Num (rate_text time.rate) ∷ J.Num (value_text time) ∷ []) (V.Rate time.rate ∷ V.Numeral r.decimal ∷ []) [] refl
    (given (num_not_null (rate_text time.rate)) (rate_gives time.rate), (given (num_not_null (value_text time)) value, tt)) refl refl refl in
    W.time R.time (time_json time) (V.Time (Some time)) (record { schema = S.RationalTime; values = V.Rate time.rate ∷ V.Numeral r.decimal ∷ []; rest = [] }) time.rate r.decimal time refl known refl r.gives refl

pub span_gives : (span : Span) → Gives R.span (range_json span) (V.Span (Some span))
span_gives span =
    let known : Gives_fields C.RANGES (range_json span) (record { schema = S.TimeRange; values = V.Time (Some span.len) ∷ V.Time (Some span.start) ∷ []; rest = [] }) =
    written_stands C.RANGES S.TimeRange (time_json span.len ∷ time_json span.start ∷ []) (V.Time (Some span.len) ∷ V.Time (Some span.start) ∷ []) [] refl
    (given (map_not_null _) (time_gives span.len), (given (map_not_null _) (time_gives span.start), tt)) refl refl refl in
    W.span R.span (range_json span) (V.Span (Some span)) (record { schema = S.TimeRange; values = V.Time (Some span.len) ∷ V.Time (Some span.start) ∷ []; rest = [] }) span refl known refl refl
