use Rattle.std.proofs.Common.{◌∙◌}
use Rattle.transitions.proofs.Columns.{count_is}
use Rattle.transitions.proofs.mark_words.MarkWords.count.Goals as goal

pub returns : goal.returns
returns c = c.len.ensures ∙ c.self.inside.lens.ok.0 ∙ count_is c.self.inside.words.items c.self.inside.lens.items c.args.self.now c.self.view_is
