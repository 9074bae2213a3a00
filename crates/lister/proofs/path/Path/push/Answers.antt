use Rattle.std.proofs.Common.{rules, ◌≡◌, ◌*◌, ◌<◌, ◌∷◌, [], ◌++◌, length, map, sym, subst, arith}
use Rattle.std.proofs.lemmas.List.{length-map}
use Rattle.skeleton.specs.Views.{code_of}
use Rattle.lister.specs.Standings.{AreStandings}
use Rattle.lister.proofs.Standings.{depth_within, code_more}
use Rattle.lister.proofs.path.Path.push.Goals as goal

pub after-self-inside-requires : goal.after-self-inside-requires
after-self-inside-requires c =
    let p = c.self.inside in
    let i = c.self.invariant in
    let few : length (map code_of p.codes.items) < 3 * p.room = subst (λ q. length q.codes < 3 * q.room) (sym c.self.view_is) c.requires in
    let d = depth_within p.codes.items p.steps.items p.standing i.3 in
    omega (arith, i.0, length-map p.codes.items code_of)

pub invariant_of-self : goal.invariant_of-self
invariant_of-self c =
    let p = c.self.inside in
    let i = c.self.invariant in
    let pushed : c.push.new.self.items ≡ p.codes.items ++ (c.args.code ∷ []) = rw c.unwrap.ensures at c.push.ensures.items in (
      i.0,
      search rules,
      i.2,
      subst (λ x. AreStandings x p.steps.items c.after-self-inside.result) (sym pushed)
          (code_more p.codes.items p.steps.items p.standing c.after-self-inside.result c.args.code i.3 c.after-self-inside.ensures),
    )
