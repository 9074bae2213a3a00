use Rattle.feasibility.proofs.Moving.{finds_on}
use Rattle.feasibility.proofs.explorer.Explorer.fill_content.Goals as goal

pub returns-clause-finds : goal.returns-clause-finds
returns-clause-finds g c = finds_on c.args.self.now c.fill_texts.new.self c.fill_openings.new.self c.fill_texts.ensures.finds c.fill_openings.ensures.finds
