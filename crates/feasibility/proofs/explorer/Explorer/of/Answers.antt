use Rattle.std.proofs.Common.{ap, refl}
use Rattle.derivatives.specs.Views.{Machine}
use Rattle.feasibility.proofs.Beginning.{explores_of}
use Rattle.feasibility.proofs.explorer.Explorer.of.Goals as goal

pub returns-clause-schema : goal.returns-clause-schema
returns-clause-schema c = ap (λ (m : Machine). m.numbered.schema) c.new.ensures

pub returns-clause-lists : goal.returns-clause-lists
returns-clause-lists c = (ap (λ (m : Machine). m.universe) c.new.ensures, ap (λ (m : Machine). m.atoms) c.new.ensures)

pub returns-clause-limit : goal.returns-clause-limit
returns-clause-limit c = refl

pub returns-clause-level : goal.returns-clause-level
returns-clause-level c = refl

pub returns-clause-none : goal.returns-clause-none
returns-clause-none c = c.new-2.ensures.empty

pub returns-clause-exploring : goal.returns-clause-exploring
returns-clause-exploring c =
    explores_of
    (record {
      derivatives = c.new.result;
      elements = c.in_ok-alike.alike.elements;
      attributes = c.in_ok-alike.alike.attributes;
      atoms = c.in_ok-alike.alike.atoms;
      states = c.new-2.result;
      limit = c.args.limit;
      level = 0;
    })
    c.args.schema c.args.universe c.args.atoms c.in_ok-alike.ensures.literals c.new.ensures c.in_ok-alike.ensures.are_literals c.in_ok-alike.ensures.elements c.in_ok-alike.ensures.attributes
    c.in_ok-alike.ensures.atoms c.new-2.ensures.empty
