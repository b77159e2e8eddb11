-- The fields of a line as plain lists of bytes.
use Rattle.std.specs.Prelude.{ℤ}
use Rattle.tick_time.specs.declared.rates.Rate.{Rate}
use Rattle.media_rows.specs.declared.row.MediaRow.{MediaRow}
use Rattle.media_list.specs.Lines.{Fields}
use Rattle.media_list.specs.declared.fields.LineFields.{LineFields}

abbrev pub fields_in : LineFields → Fields
fields_in f = record {
  reel = f.reel.now;
  rate = f.rate.now;
  start = f.start.now;
  count = f.count.now;
  url = f.url.now;
}

-- a row of these fields
abbrev pub row_of_fields : Fields → Rate → ℤ → ℤ → MediaRow
row_of_fields f rate start count =
    record { reel = f.reel; url = f.url; rate = rate; start = start; count = count }
