use Rattle.std.proofs.Common.{ap, map}
use Rattle.name_classes.specs.Views.{class_of}
use Rattle.pattern_intern.proofs.Starting.{started, pool_of}
use Rattle.pattern_intern.proofs.pool.Pool.new.Goals as goal

pub invariant_of-result : goal.invariant_of-result
invariant_of-result c =
    pool_of _ _ _ _
    (started _ _ _ _ _ _ _ _ _ _ _ c.new-nodes.ensures.empty c.new-facts.ensures.items c.in_ok-intern_node.ensures.made c.in_ok-intern_node-2.ensures.made c.in_ok-intern_node-3.ensures.made)
    (ap (map class_of) c.new.ensures.empty) c.new-2.ensures.empty
