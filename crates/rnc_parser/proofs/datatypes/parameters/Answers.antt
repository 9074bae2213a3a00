use Rattle.std.proofs.Common.{map, sym, ap, ◌∙◌, subst, arith}
use Rattle.schema_tree.specs.Trees.{parameter_of}
use Rattle.rnc_parser.specs.Reading.{no_memory}
use Rattle.rnc_parser.proofs.Steps.{inside, passed_on}
use Rattle.schema_tree.proofs.Folds as fold
use Rattle.rnc_parser.proofs.Lists as list
use Rattle.rnc_parser.proofs.datatypes.parameters.Goals as goal

pub loop-alloc-init : goal.loop-alloc-init
loop-alloc-init c =
    (subst (λ z. list.ParametersAt c.args.tokens.now c.args.tokens.now (map parameter_of z)) (sym c.new-found.ensures) list.parameters_begin, omega arith)

pub returns-in_err-next-clause-parsed : goal.returns-in_err-next-clause-parsed
returns-in_err-next-clause-parsed c =
    passed_on c.from_residual.result c.from_residual.ensures.1 (inside (list.another_parameter (map parameter_of c.loop-alloc.found) c.loop-alloc.invariant.0 c.loop-alloc-test.ensures) c.in_err-next.ensures.parsed)

pub returns-in_err-push-clause-parsed : goal.returns-in_err-push-clause-parsed
returns-in_err-push-clause-parsed c =
    passed_on c.from_residual-in_err-push.result c.from_residual-in_err-push.ensures.1 no_memory

pub loop-alloc-preserved : goal.loop-alloc-preserved
loop-alloc-preserved c = (
  subst (list.ParametersAt c.args.tokens.now c.parameter.new.tokens) (sym (ap (map parameter_of) c.in_ok-push.ensures.ok ∙ fold.map_push parameter_of c.loop-alloc.found c.in_ok-next.next))
      (list.parameters_step parameter_of (map parameter_of c.loop-alloc.found) c.loop-alloc.invariant.0 c.loop-alloc-test.ensures c.in_ok-next.ensures.parsed),
  omega (arith, c.loop-alloc.invariant.1, c.in_ok-next.ensures.shorter),
)

pub loop-alloc-smaller : goal.loop-alloc-smaller
loop-alloc-smaller c =
    c.in_ok-next.ensures.shorter

pub returns-clause-parsed : goal.returns-clause-parsed
returns-clause-parsed c =
    list.parameters_end (map parameter_of) c.loop-alloc.invariant.0 c.loop-alloc-test.ensures

pub returns-clause-shorter : goal.returns-clause-shorter
returns-clause-shorter c =
    c.loop-alloc.invariant.1
