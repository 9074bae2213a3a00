use Rattle.event_lines.proofs.Ending.{last_lines}
use Rattle.event_lines.proofs.closings.closing_lines.Goals as goal

pub returns : goal.returns
returns c = λ s. last_lines s c.most_lines.result.now 32 c.args.count c.requires (c.most_lines.ensures.lines s)
