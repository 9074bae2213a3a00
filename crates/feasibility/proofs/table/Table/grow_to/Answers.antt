use Rattle.std.proofs.Common.{◌≡◌, ◌+◌, ◌*◌, ◌≤◌, max, sym, ◌∙◌, subst, arith}
use Rattle.rng_model.specs.States.{ReachesMore}
use Rattle.feasibility.specs.Growing.{parts_of}
use Rattle.feasibility.specs.Limits.{IsOverLimit}
use Rattle.feasibility.specs.Marking.{AreFilled}
use Rattle.feasibility.specs.Tables.{Keeps, Table, group_total, lists}
use Rattle.feasibility.proofs.Keeping.{cut_filled}
use Rattle.feasibility.proofs.Tabling.{cut_view, few_after, keeps_itself, keeps_on, not_more, over_limit, refuses, spends, view_of}
use Rattle.feasibility.proofs.table.Table.grow_to.Goals as goal

pub returns-then-size-self-clause-few : goal.returns-then-size-self-clause-few
returns-then-size-self-clause-few g c =
    subst (λ (t : Table). ReachesMore t.schema (lists t) c.args.size t.limit → ⊥) c.self.view_is
    (not_more c.self.inside.states c.self.invariant.grown c.args.size (omega (arith, c.if-size-self.true)))

pub returns-in-Ok-clause-grown : goal.returns-in-Ok-clause-grown
returns-in-Ok-clause-grown g c =
    subst (λ (t : Table). c.fill.new.states.explorer.level ≡ max t.grown c.args.size) c.self.view_is (let a = c.in-Ok.ensures.level in omega (arith, a, c.if-size-self.false))

pub returns-in-Ok-clause-few : goal.returns-in-Ok-clause-few
returns-in-Ok-clause-few g c =
    subst (λ (t : Table). ReachesMore t.schema (lists t) c.args.size t.limit → ⊥) c.self.view_is
    (few_after c.self.inside.states c.fill.new.states c.fill.ensures.on c.in-Ok.ensures.filled.grown c.args.size (let a = c.in-Ok.ensures.level in omega (arith, a)))

pub returns-in-Ok-clause-kept : goal.returns-in-Ok-clause-kept
returns-in-Ok-clause-kept g c =
    subst (λ (t : Table). Keeps t (view_of (parts_of c.fill.new.states))) c.self.view_is
    (keeps_on (parts_of c.self.inside.states) (parts_of c.fill.new.states) c.fill.ensures.on)

pub returns-in-Ok-clause-spent : goal.returns-in-Ok-clause-spent
returns-in-Ok-clause-spent g c =
    subst (λ (t : Table). c.fill.new.steps + t.spent ≤ c.args.steps.now + (view_of (parts_of c.fill.new.states)).spent) c.self.view_is
    (spends (parts_of c.self.inside.states) (parts_of c.fill.new.states) c.args.steps.now c.fill.new.steps c.fill.ensures.on c.self.invariant.grown.all_frees c.in-Ok.ensures.filled.grown.all_frees
    c.in-Ok.ensures.ticks)

pub table_fault-requires : goal.table_fault-requires
table_fault-requires g c = subst (λ n. n ≤ 1000000) (sym (c.cut_back.ensures.limit ∙ c.fill.ensures.on.finds.limit)) c.self.invariant.grown.small

pub invariant_of-self-in-Err : goal.invariant_of-self-in-Err
invariant_of-self-in-Err g c =
    subst (AreFilled c.cut_back.new.self) (sym c.cut.ensures)
    (cut_filled c.self.inside.states c.fill.new.states c.cut_back.new.self c.extent-extent.result c.self.inside.marks c.fill.new.marks c.self.invariant c.fill.ensures.on c.extent-extent.ensures c.cut_back.ensures
    c.fill.ensures.right c.fill.ensures.kept)

pub returns-in-Err-clause-kept : goal.returns-in-Err-clause-kept
returns-in-Err-clause-kept g c =
    subst (λ (t : Table). Keeps c.args.self.now t)
    (sym (cut_view c.self.inside.states c.fill.new.states c.cut_back.new.self c.extent-extent.result c.self.invariant.grown c.fill.ensures.on c.extent-extent.ensures c.cut_back.ensures ∙ c.self.view_is))
    (keeps_itself c.args.self.now)

pub returns-in-Err-clause-limit : goal.returns-in-Err-clause-limit
returns-in-Err-clause-limit g c =
    subst (λ (t : Table). IsOverLimit t c.args.size c.table_fault.result) c.self.view_is
    (subst (IsOverLimit (view_of (parts_of c.self.inside.states)) c.args.size) (sym c.table_fault.ensures)
    (over_limit (parts_of c.self.inside.states) c.args.size c.cut_back.new.self.explorer.limit c.in-Err.refusal (c.cut_back.ensures.limit ∙ c.fill.ensures.on.finds.limit) c.in-Err.ensures.full))

pub returns-in-Err-clause-unchanged : goal.returns-in-Err-clause-unchanged
returns-in-Err-clause-unchanged g c =
    cut_view c.self.inside.states c.fill.new.states c.cut_back.new.self c.extent-extent.result c.self.invariant.grown c.fill.ensures.on c.extent-extent.ensures c.cut_back.ensures ∙ c.self.view_is

pub returns-in-Err-clause-refused : goal.returns-in-Err-clause-refused
returns-in-Err-clause-refused g c =
    subst (λ (t : Table). c.fill.new.steps + t.spent ≤ c.args.steps.now + group_total t * (t.limit + 1)) c.self.view_is
    (refuses (parts_of c.self.inside.states) c.args.steps.now c.fill.new.steps c.self.invariant.grown.all_frees c.in-Err.ensures.tick)
