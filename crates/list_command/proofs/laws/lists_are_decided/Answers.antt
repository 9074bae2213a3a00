use Rattle.list_command.proofs.laws.lists_are_decided.Goals as goal

pub returns : goal.returns
returns c = record {
  text_once = c.texts_differ.ensures.injective;
  text_or_refused = c.bytes_have_one_answer.ensures.not_both;
  refused_once = c.bytes_have_one_answer.ensures.one;
  ends_once = c.one_ending.ensures;
  counts_once = c.one_counting.ensures;
}
