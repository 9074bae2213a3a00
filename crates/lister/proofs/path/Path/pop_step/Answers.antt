use Rattle.std.proofs.Common.{subst, ◌∙◌}
use Rattle.skeleton.specs.Views.{code_of}
use Rattle.lister.specs.Paths.{IsBack}
use Rattle.lister.proofs.Popping.{pop_is, path_of}
use Rattle.lister.proofs.path.Path.pop_step.Goals as goal

pub returns-clause-some : goal.returns-clause-some
returns-clause-some c =
    let p = c.self.inside in
    subst (λ q. IsBack q (path_of p.room c.truncate.new.self.items c.pop.new.self.items) c.in_ok-step.step.id.0 (code_of c.index-code.result.now)) c.self.view_is
    (pop_is p.room c.len-place.result p.codes.items c.truncate.new.self.items p.steps.items c.pop.new.self.items c.in_ok-step.step c.index-code.result.now
    c.in_ok-step.ensures.items (c.len-place.ensures ∙ c.pop.new.self.ok.0) c.self.invariant.3.within c.index-code.ensures c.truncate.ensures.items)
