-- The value of a member that is absent.
use Rattle.std.specs.Prelude.{true, cond, [], Option, Some, None, codes}
use Rattle.tick_time.specs.Times.{is_speed}
use Rattle.otio_model.specs.declared.compositions.Listed.{Listed}
use Rattle.otio_model.specs.declared.compositions.StackOf.{StackOf}
use Rattle.otio_model.specs.declared.media.Media.TheVariants as M
use Rattle.otio_model.specs.declared.media.Missing.{Missing}
use Rattle.otio_model.specs.Trees.{listed}
use Rattle.schema_rows.specs.Rows as R
use Rattle.schema_rows.specs.declared.values.Value.{Value}
use Rattle.schema_rows.specs.declared.values.Value.TheVariants as V

-- the root stack of a timeline that has none: an empty one named `tracks`
abbrev pub empty_tracks : StackOf Listed
empty_tracks = record {
  metadata = [];
  name = codes "tracks";
  source_range = None;
  effects = [];
  markers = [];
  enabled = true;
  children = listed [];
  rest = [];
}

-- the media reference that null means
abbrev pub empty_missing : Missing
empty_missing = record { metadata = []; name = []; available_range = None; rest = [] }

-- the default of a kind; rates and numerals have none, nor has a number whose default is no speed
abbrev pub default_of : R.RowKind → Option Value
default_of (R.text default) = Some (V.Text default)
default_of R.flag = Some (V.Flag true)
default_of R.meta = Some (V.Meta [])
default_of R.span = Some (V.Span None)
default_of R.time = Some (V.Time None)
default_of (R.number n) = cond (is_speed n) (Some (V.Number n)) None
default_of R.items = Some (V.Items [])
default_of R.effects = Some (V.Effects [])
default_of R.markers = Some (V.Markers [])
default_of R.media = Some (V.Media [])
default_of R.medium = Some (V.Medium (M.Missing empty_missing))
default_of R.stack = Some (V.Stack empty_tracks)
default_of R.objects = Some (V.Objects [])
default_of R.rate = None
default_of R.numeral = None

-- the value of a row whose member is absent: its kind's default, and none where the member is
-- needed
abbrev pub absent_value : R.Row → Option Value
absent_value row = cond row.need None (default_of row.kind)
