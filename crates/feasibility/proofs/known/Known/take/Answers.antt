use Rattle.std.proofs.Common.{List, Option, Vec, Global, ◌∙◌, ap, map, slice_set}
use Rattle.std.proofs.lemmas.List.{map-set}
use Rattle.pattern_intern.specs.declared.id.PatternId.{PatternId}
use Rattle.feasibility.proofs.known.Known.take.Goals as goal

pub returns-clause-left : goal.returns-clause-left
returns-clause-left c =
    rw (← c.self.view_is)
    (map-set (λ (list : Vec (Option PatternId) Global). list.items) c.self.inside.lists.items c.args.group c.replace.new.dest
    ∙ ap (λ (list : List (Option PatternId)). slice_set (map (λ (one : Vec (Option PatternId) Global). one.items) c.self.inside.lists.items) c.args.group list) (ap (λ (list : Vec (Option PatternId) Global). list.items) c.replace.ensures.after ∙ c.new.ensures.items))
