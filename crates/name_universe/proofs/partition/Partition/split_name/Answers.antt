-- The name stands at the position that is found, and at no other.
use Rattle.name_universe.proofs.Splitting.{split_found, split_absent}
use Rattle.name_universe.proofs.partition.Partition.split_name.Goals as goal

pub returns-in_ok-split_off : goal.returns-in_ok-split_off
returns-in_ok-split_off c =
    split_found c.args.names.now.names c.list.ensures.ascending c.in-Some.position c.args.name.now c.in-Some.ensures.found c.args.number _ _ _ _ c.in_ok-split_off.ensures

pub returns-in_default : goal.returns-in_default
returns-in_default c = split_absent c.args.names.now.names c.args.name.now c.in_default.ensures.absent c.args.number _ _
