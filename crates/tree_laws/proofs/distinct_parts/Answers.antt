use Rattle.tree_laws.proofs.Distinct.{front_distinct, back_distinct, parts_apart}
use Rattle.tree_laws.proofs.distinct_parts.Goals as goal

pub returns-clause-front : goal.returns-clause-front
returns-clause-front c = front_distinct

pub returns-clause-back : goal.returns-clause-back
returns-clause-back c = back_distinct

pub returns-clause-apart : goal.returns-clause-apart
returns-clause-apart c = parts_apart
