use Rattle.std.proofs.Common.{ap, ◌∙◌, refl}
use Rattle.pattern_intern.specs.Schemas.{Numbered}
use Rattle.feasibility.proofs.Firsts.{first_started, started_dead, told}
use Rattle.feasibility.proofs.explorer.Explorer.begin.Goals as goal

pub returns-then-is_not_allowed-clause-started : goal.returns-then-is_not_allowed-clause-started
returns-then-is_not_allowed-clause-started c =
    started_dead c.args.self.now c.start-start.result c.requires.none c.start-start.ensures.state
    (told c.is_not_allowed.result c.args.self.now c.start-start.result _ (c.pool.ensures ∙ ap (λ (n : Numbered). n.pool) c.schema.ensures) c.is_not_allowed.ensures c.if-is_not_allowed.true)

pub returns-clause-started : goal.returns-clause-started
returns-clause-started c =
    first_started c.args.self.now
    (record {
      derivatives = c.args.self.now.derivatives;
      elements = c.args.self.now.elements;
      attributes = c.args.self.now.attributes;
      atoms = c.args.self.now.atoms;
      states = c.add.new.states;
      limit = c.args.self.now.limit;
      level = c.args.self.now.level;
    })
    refl c.start-start.result c.requires.none c.in_ok-add.ensures.keys c.start-start.ensures.state
