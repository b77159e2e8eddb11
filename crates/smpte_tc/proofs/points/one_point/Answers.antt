use Rattle.smpte_tc.proofs.OnePoint.{point_once}
use Rattle.smpte_tc.proofs.points.one_point.Goals as goal

pub returns : goal.returns
returns c = point_once
