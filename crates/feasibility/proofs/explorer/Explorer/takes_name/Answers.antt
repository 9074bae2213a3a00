use Rattle.std.proofs.Common.{◌≡◌, IfOk, ap, subst}
use Rattle.std.specs.Prelude.{slice_index_or}
use Rattle.rng_model.specs.Patterns.{Pattern}
use Rattle.rng_model.specs.States.{no_name}
use Rattle.table_laws.specs.Remainders.{takes_name}
use Rattle.feasibility.specs.Exploring.{names}
use Rattle.feasibility.proofs.Finding.{with_machine}
use Rattle.feasibility.proofs.explorer.Explorer.takes_name.Goals as goal

pub returns-clause-takes : goal.returns-clause-takes
returns-clause-takes c =
    subst (λ (p : Pattern). IfOk c.takes_name.result (λ b. b ≡ takes_name (slice_index_or (names c.args.self.now).attributes c.args.name no_name) p)) c.pattern-pattern.ensures.is
    c.takes_name.ensures.takes_name

pub returns-clause-same : goal.returns-clause-same
returns-clause-same c = ap (with_machine c.args.self.now) c.takes_name.ensures.same
