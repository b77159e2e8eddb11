use Rattle.schema_write.proofs.TableForms.{object_tabled, item_tabled, effect_tabled, marker_tabled, medium_tabled}
use Rattle.schema_write.proofs.laws.written_by_tables.Goals as goal

pub returns-clause-objects : goal.returns-clause-objects
returns-clause-objects c = object_tabled

pub returns-clause-items : goal.returns-clause-items
returns-clause-items c = item_tabled

pub returns-clause-effects : goal.returns-clause-effects
returns-clause-effects c = effect_tabled

pub returns-clause-markers : goal.returns-clause-markers
returns-clause-markers c = marker_tabled

pub returns-clause-media : goal.returns-clause-media
returns-clause-media c = medium_tabled
