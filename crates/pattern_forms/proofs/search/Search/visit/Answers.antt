use Rattle.std.proofs.Common.{refl, true}
use Rattle.pattern_forms.proofs.Searched.{grown_visit, grown_same}
use Rattle.pattern_forms.proofs.Lists.{read_at, get_set}
use Rattle.pattern_forms.proofs.search.Search.visit.Goals as goal

pub returns-in_ok-push-clause-grown : goal.returns-in_ok-push-clause-grown
returns-in_ok-push-clause-grown c =
    grown_visit c.args.self.now _ c.args.node (read_at _ _ _ _ c.requires c.index.ensures c.if-not-index.true) refl c.in_ok-push.ensures.items

pub returns-in_ok-push-clause-marked : goal.returns-in_ok-push-clause-marked
returns-in_ok-push-clause-marked c = get_set c.args.self.now.marks.items c.args.node true c.requires

pub returns-else-not-index-clause-marked : goal.returns-else-not-index-clause-marked
returns-else-not-index-clause-marked c = read_at _ _ _ _ c.requires c.index.ensures c.if-not-index.false

pub returns-else-not-index-clause-grown : goal.returns-else-not-index-clause-grown
returns-else-not-index-clause-grown c = grown_same _ c.args.self.now
