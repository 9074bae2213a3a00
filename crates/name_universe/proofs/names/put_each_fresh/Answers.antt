-- The first namespace that is left gets its fresh names.
use Rattle.std.proofs.Common.{subst, sym, List}
use Rattle.rng_model.specs.Texts.{Text}
use Rattle.rng_model.specs.Names.{Name}
use Rattle.name_universe.specs.Sets.{origin_in}
use Rattle.name_universe.specs.declared.origin.Origin.TheVariants.{FreshLocal}
use Rattle.name_universe.proofs.Popping.{AreFreshPut, fresh_next, fresh_puts, nothing_left}
use Rattle.name_universe.proofs.names.put_each_fresh.Goals as goal

pub spaces-preserved : goal.spaces-preserved
spaces-preserved c =
    subst (λ (firsts : List (Text × Name)). AreFreshPut (origin_in c.args.names.now) (origin_in c.put_fresh.new.names) FreshLocal c.args.taken.now.keys c.args.fresh c.args.spaces.keys c.pop_first.new.self.keys firsts)
    (sym c.in_ok-push.ensures.items)
    (fresh_next _ _ _ FreshLocal c.args.taken.now.keys c.args.fresh c.args.spaces.keys c.spaces.spaces.keys c.pop_first.new.self.keys c.spaces.firsts.items c.in-Some.ns c.in_ok-first.first
    c.in-Some.ensures.removal c.spaces.invariant c.in_ok-put_fresh.ensures c.in_ok-first.ensures.space c.in_ok-first.ensures.first)

pub returns-clause-puts : goal.returns-clause-puts
returns-clause-puts c = fresh_puts _ _ _ c.args.taken.now.keys c.args.fresh c.args.spaces.keys c.spaces.spaces.keys c.spaces.firsts.items (nothing_left _ c.in_default.ensures.variant.1) c.spaces.invariant
