use Rattle.std.proofs.Common.{refl, true}
use Rattle.kept_elements.proofs.Searched.{grown_visit}
use Rattle.kept_elements.proofs.Lists.{read_at, get_set}
use Rattle.kept_elements.proofs.search.Search.visit.Goals as goal

pub returns-in_ok-push-clause-grown : goal.returns-in_ok-push-clause-grown
returns-in_ok-push-clause-grown c =
    grown_visit c.args.self.now _ c.args.id.0 (read_at _ _ _ _ c.requires c.index.ensures c.if-not-index.true) refl c.in_ok-push.ensures.items

pub returns-in_ok-push-clause-marked : goal.returns-in_ok-push-clause-marked
returns-in_ok-push-clause-marked c = get_set c.args.self.now.marks.items c.args.id.0 true c.requires

pub returns-else-not-index-clause-marked : goal.returns-else-not-index-clause-marked
returns-else-not-index-clause-marked c = read_at _ _ _ _ c.requires c.index.ensures c.if-not-index.false
