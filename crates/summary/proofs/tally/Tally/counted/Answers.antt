use Rattle.std.specs.Prelude.{Some, set}
use Rattle.std.proofs.Common.{◌≡◌, ◌+◌, ◌-◌, ◌<◌, ◌≤◌, ◌%◌, ◌^◌, arith, refl, ap, sym, subst, ◌∙◌}
use Rattle.summary.specs.Totals.{IsTallyOf}
use Rattle.summary.proofs.Counting.{one_more}
use Rattle.summary.proofs.tally.Tally.counted.Goals as goal

pub returns : goal.returns
returns c = λ queue s tally same measure.
    let from : 1 ≤ c.args.size = c.requires.from in
    let to : c.args.size ≤ 64 = c.requires.to in
    let within : c.args.size - 1 < 64 = omega arith in
    let place : c.args.size ≡ (c.args.size - 1) + 1 = omega arith in
    let seen = subst (λ t. IsTallyOf t queue) (sym c.self.view_is) tally in
    one_more _ _ (c.args.size - 1) c.args.measure queue s within
    (ap (λ z. set c.self.inside.counts (c.args.size - 1) (Some ((z + 1) % 2 ^ 64))) c.unwrap_or-before.ensures) refl refl (same ∙ place) measure seen
