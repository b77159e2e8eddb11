-- What files are read as.
use Rattle.tick_time.specs.declared.rates.Rate.{Rate}

-- A JSON text, an object, a timeline, a list at this rate without its notes or with them, a media
-- list, a log, or a script.
pub data Kind : Type 0 where
  Json : Kind
  Object : Kind
  Timeline : Kind
  List : (rate : Rate) → Kind
  NotedList : (rate : Rate) → Kind
  Media : Kind
  Log : Kind
  Script : Kind
