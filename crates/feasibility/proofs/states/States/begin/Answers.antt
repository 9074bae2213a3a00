use Rattle.std.proofs.Common.{ℕ, List, [], ◌∷◌, ◌++◌, length, sym, ◌∙◌, ap, subst, arith}
use Rattle.transitions.specs.declared.arc.Arc.{Arc}
use Rattle.feasibility.specs.Exploring.{found}
use Rattle.feasibility.specs.Grown.{IsGrown}
use Rattle.feasibility.proofs.Beginning.{grown_first}
use Rattle.feasibility.proofs.Tabling.{listable_on}
use Rattle.feasibility.proofs.states.States.begin.Goals as goal

pub returns-clause-grown : goal.returns-clause-grown
returns-clause-grown c =
    let x = c.in_ok-begin.ensures in
    let limit = x.finds.limit in
    let first = grown_first c.begin.new.self c.add_dead.new.frees.items (listable_on c.args.self.now.explorer c.begin.new.self x.finds c.requires.listable) (let small = c.requires.small in omega (arith, limit, small))
    x.exploring x.started x.one c.count-count.ensures.once (x.finds.level ∙ c.requires.level) (c.in_ok-add_dead.ensures.count ∙ c.count-count.ensures.count) c.in_ok-add_dead.ensures.dead in
    let levels = c.in_ok-note.ensures.ok ∙ ap (λ (xs : List ℕ). xs ++ c.count-count.result ∷ []) c.requires.levels ∙ ap (λ n. n ∷ []) c.count-count.ensures.count in
    subst (λ (xs : List ℕ). IsGrown c.begin.new.self c.add_dead.new.frees.items c.args.self.now.rows xs) (sym levels)
    (subst (λ (rs : List (List Arc)). IsGrown c.begin.new.self c.add_dead.new.frees.items rs (length (found c.begin.new.self) ∷ [])) (sym c.requires.rows) first)

pub returns-clause-begun : goal.returns-clause-begun
returns-clause-begun c = record { finds = c.in_ok-begin.ensures.finds; one = c.in_ok-begin.ensures.one; rows = c.requires.rows }
