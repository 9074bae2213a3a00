use Rattle.std.proofs.Common.{Option, Vec, Global}
use Rattle.std.proofs.lemmas.List.{map-set}
use Rattle.pattern_intern.specs.declared.id.PatternId.{PatternId}
use Rattle.feasibility.proofs.known.Known.put.Goals as goal

pub returns : goal.returns
returns c = rw (← c.self.view_is) (map-set (λ (list : Vec (Option PatternId) Global). list.items) c.self.inside.lists.items c.args.group c.args.list)
