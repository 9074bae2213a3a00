use Rattle.std.proofs.Common.{map, sym, ap, ◌∙◌, subst}
use Rattle.rnc_parser.specs.Reading.{no_memory}
use Rattle.rnc_parser.proofs.Steps.{inside, passed_on}
use Rattle.schema_tree.proofs.Folds as fold
use Rattle.rnc_parser.proofs.Lists as list
use Rattle.schema_tree.specs.Trees.{declaration_of}
use Rattle.rnc_parser.proofs.prologue.declarations.Goals as goal

pub loop-alloc-init : goal.loop-alloc-init
loop-alloc-init c =
    subst (λ z. list.DeclarationsAt c.args.tokens.now c.args.tokens.now (map declaration_of z)) (sym c.new-found.ensures) list.declarations_begin

pub returns-in_err-next : goal.returns-in_err-next
returns-in_err-next c =
    passed_on c.from_residual.result c.from_residual.ensures.1 (inside (list.another_declaration (map declaration_of c.loop-alloc.found) c.loop-alloc.invariant c.loop-alloc-test.ensures) c.in_err-next.ensures.parsed)

pub returns-in_err-push : goal.returns-in_err-push
returns-in_err-push c =
    passed_on c.from_residual-in_err-push.result c.from_residual-in_err-push.ensures.1 no_memory

pub loop-alloc-preserved : goal.loop-alloc-preserved
loop-alloc-preserved c =
    subst (list.DeclarationsAt c.args.tokens.now c.declaration.new.tokens) (sym (ap (map declaration_of) c.in_ok-push.ensures.ok ∙ fold.map_push declaration_of c.loop-alloc.found c.in_ok-next.next))
    (list.declarations_step declaration_of (map declaration_of c.loop-alloc.found) c.loop-alloc.invariant c.loop-alloc-test.ensures c.in_ok-next.ensures.parsed)

pub loop-alloc-smaller : goal.loop-alloc-smaller
loop-alloc-smaller c =
    c.in_ok-next.ensures.shorter

pub returns : goal.returns
returns c =
    list.declarations_end (map declaration_of) c.loop-alloc.invariant c.loop-alloc-test.ensures
