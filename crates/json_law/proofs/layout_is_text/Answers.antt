use Rattle.json_law.proofs.Texts.{layout_is_text}
use Rattle.json_law.proofs.Reading.{read_is_json}
use Rattle.json_law.proofs.layout_is_text.Goals as goal

pub returns-clause-layout : goal.returns-clause-layout
returns-clause-layout c = layout_is_text

pub returns-clause-read : goal.returns-clause-read
returns-clause-read c = read_is_json

pub returns-clause-reread : goal.returns-clause-reread
returns-clause-reread c bytes value text = layout_is_text value (read_is_json bytes value text)
