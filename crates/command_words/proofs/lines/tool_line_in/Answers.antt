use Rattle.command_words.proofs.lines.tool_line_in.Goals as goal

pub returns : goal.returns
returns c = λ i. record {
  trim = c.value_of.ensures i;
  flatten = c.value_of-2.ensures i;
  list_tracks = c.has_flag.ensures i;
  list_clips = c.has_flag-2.ensures i;
  list_media = c.has_flag-3.ensures i;
  stats = c.has_flag-4.ensures i;
  video_only = c.has_flag-5.ensures i;
  audio_only = c.has_flag-6.ensures i;
  keep_flattened = c.has_flag-7.ensures i;
  remove_transitions = c.has_flag-8.ensures i;
  concat = c.has_flag-9.ensures i;
  stack = c.has_flag-10.ensures i;
}
