use Rattle.restrictions.proofs.Standings.{attributes_group_is, interleave_is}
use Rattle.restrictions.proofs.standing.Standing.apart.Goals as goal

pub returns-clause-group : goal.returns-clause-group
returns-clause-group c = λ g names p q h i.
    attributes_group_is names g p q c.args.self c.args.other _ _ c.union.ensures c.union-deeper.ensures _ _ c.common-common.ensures c.union-2.ensures h i

pub returns-clause-interleave : goal.returns-clause-interleave
returns-clause-interleave c = λ g k names p q h i.
    interleave_is names g p q c.args.self c.args.other _ _ c.union.ensures c.union-deeper.ensures _ _ c.common-common.ensures c.union-2.ensures k h i
