use Rattle.edl_list.proofs.ChannelLemmas.{runs_on}
use Rattle.edl_list.proofs.laws.channel_order.Goals as goal

pub returns : goal.returns
returns c = runs_on
