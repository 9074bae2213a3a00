use Rattle.std.proofs.Common.{true≢false, None, Some, sym, ◌∙◌, ap, option_map}
use Rattle.table_laws.specs.Reaching.{free_code}
use Rattle.skeleton.specs.Views.{code_of}
use Rattle.feasibility.proofs.Taken.{free_is, free_within, none_follows, none_marked, none_past}
use Rattle.feasibility.proofs.next_codes.free_taken.Goals as goal

pub returns-then-not-is_past-clause-none : goal.returns-then-not-is_past-clause-none
returns-then-not-is_past-clause-none c =
    none_past c.args.explorer.now c.args.frees.now c.args.marks.now c.args.id.0 c.args.rest (option_map code_of c.args.bound) c.requires (code_of c.free_code-code.result.0)
    (c.free_code-code.ensures.code ∙ ap free_code c.place.ensures)
    (λ p. true≢false (sym (c.is_past.ensures.1 p) ∙ c.if-not-is_past.true))

pub returns-in_default-clause-none : goal.returns-in_default-clause-none
returns-in_default-clause-none c =
    none_follows c.args.explorer.now c.args.frees.now c.args.marks.now c.args.id.0 c.args.rest (option_map code_of c.args.bound) c.requires
    (free_within c.args.explorer.now c.args.frees.now c.args.marks.now c.args.id.0 c.args.rest (option_map code_of c.args.bound) c.requires None c.in_default.is)

pub mark-requires : goal.mark-requires
mark-requires c =
    c.requires.marked c.in-Some.next
    (free_within c.args.explorer.now c.args.frees.now c.args.marks.now c.args.id.0 c.args.rest (option_map code_of c.args.bound) c.requires (Some c.in-Some.next) c.in-Some.is)

pub returns-then-mark-clause-some : goal.returns-then-mark-clause-some
returns-then-mark-clause-some c =
    free_is c.args.explorer.now c.args.frees.now c.args.marks.now c.args.id.0 c.args.rest (option_map code_of c.args.bound) c.requires (code_of c.free_code-code.result.0)
    (c.free_code-code.ensures.code ∙ ap free_code c.place.ensures) c.in-Some.next
    (free_within c.args.explorer.now c.args.frees.now c.args.marks.now c.args.id.0 c.args.rest (option_map code_of c.args.bound) c.requires (Some c.in-Some.next) c.in-Some.is)
    c.mark.result c.mark.ensures c.if-mark.true (c.is_past.ensures.0 c.if-not-is_past.false)

pub returns-else-mark-clause-none : goal.returns-else-mark-clause-none
returns-else-mark-clause-none c =
    none_marked c.args.explorer.now c.args.frees.now c.args.marks.now c.args.id.0 c.args.rest (option_map code_of c.args.bound) c.requires (code_of c.free_code-code.result.0)
    (c.free_code-code.ensures.code ∙ ap free_code c.place.ensures) c.in-Some.next
    (free_within c.args.explorer.now c.args.frees.now c.args.marks.now c.args.id.0 c.args.rest (option_map code_of c.args.bound) c.requires (Some c.in-Some.next) c.in-Some.is)
    c.mark.result c.mark.ensures c.if-mark.false
