use Rattle.edl_list.proofs.LayoutLemmas.{wide_fits}
use Rattle.edl_list.proofs.laws.wide_columns.Goals as goal

pub returns : goal.returns
returns c = wide_fits
