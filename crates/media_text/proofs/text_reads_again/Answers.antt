use Rattle.media_text.proofs.Rereading.{text_is_list}
use Rattle.media_text.proofs.text_reads_again.Goals as goal

pub returns : goal.returns
returns c = text_is_list
