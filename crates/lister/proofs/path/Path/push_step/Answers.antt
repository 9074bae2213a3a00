use Rattle.std.proofs.Common.{rules, ◌≡◌, ◌*◌, ◌<◌, ◌∷◌, [], ◌++◌, length, map, sym, subst, arith, refl, ◌∙◌}
use Rattle.std.proofs.lemmas.List.{length-map}
use Rattle.skeleton.specs.Views.{code_of}
use Rattle.lister.specs.declared.path.Step.{Step}
use Rattle.lister.specs.Standings.{AreStandings}
use Rattle.lister.proofs.Standings.{depth_within, step_more}
use Rattle.lister.proofs.path.Path.push_step.Goals as goal

pub after-self-inside-requires : goal.after-self-inside-requires
after-self-inside-requires c =
    let p = c.self.inside in
    let i = c.self.invariant in
    let few : length (map code_of p.codes.items) < 3 * p.room = subst (λ q. length q.codes < 3 * q.room) (sym c.self.view_is) c.requires.codes in
    let d = depth_within p.codes.items p.steps.items p.standing i.3 in
    omega (arith, i.0, length-map p.codes.items code_of)

pub invariant_of-self : goal.invariant_of-self
invariant_of-self c =
    let p = c.self.inside in
    let i = c.self.invariant in
    let more : Step = record { id = c.args.id; standing = p.standing } in
    let codes : c.push.new.self.items ≡ p.codes.items ++ (c.args.code ∷ []) = rw c.unwrap.ensures at c.push.ensures.items in
    let steps : c.push-2.new.self.items ≡ p.steps.items ++ (more ∷ []) = rw c.unwrap-2.ensures at c.push-2.ensures.items in
    let level : length p.steps.items ≡ length p.codes.items =
    sym (length-map p.steps.items (λ s. s.id.0)) ∙ subst (λ q. length q.states ≡ length q.codes) (sym c.self.view_is) c.requires.level ∙ length-map p.codes.items code_of in
    let are = step_more p.codes.items p.steps.items p.standing c.after-self-inside.result c.args.code i.3 c.after-self-inside.ensures more refl level in (
      i.0,
      search rules,
      search rules,
      subst (λ x. AreStandings c.push.new.self.items x c.after-self-inside.result) (sym steps)
          (subst (λ x. AreStandings x (p.steps.items ++ (more ∷ [])) c.after-self-inside.result) (sym codes) are),
    )
