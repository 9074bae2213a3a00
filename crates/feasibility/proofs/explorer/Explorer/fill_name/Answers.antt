use Rattle.std.proofs.Common.{List, Option, length, ◌+◌, ◌≤◌, refl, sym, subst, arith}
use Rattle.pattern_intern.specs.declared.id.PatternId.{PatternId}
use Rattle.feasibility.specs.Costs.{names_cost}
use Rattle.feasibility.specs.Exploring.{AreKnown, at, found, groups_of, names, schema}
use Rattle.feasibility.proofs.Moving.{on_ok_map}
use Rattle.feasibility.proofs.Naming.{all_names, named_cost, named_known, named_most, put_back}
use Rattle.feasibility.proofs.Passing.{name_ends}
use Rattle.feasibility.proofs.Sharing.{all_texts}
use Rattle.feasibility.proofs.explorer.Explorer.fill_name.Goals as goal

pub group-group-requires : goal.group-group-requires
group-group-requires g c = let e = all_names c.args.self.now c.requires.exploring in let l = c.requires.name in omega (arith, e, l)

pub fill-filled-requires-clause-known : goal.fill-filled-requires-clause-known
fill-filled-requires-clause-known g c =
    c.requires.known c.args.name c.group-group.result c.take-texts.result.items c.requires.allowed c.group-group.ensures.group c.take-texts.ensures.list

pub returns-clause-known : goal.returns-clause-known
returns-clause-known g c =
    on_ok_map c.fill-filled.result
    (λ k. subst (λ (known : List (List (Option PatternId))). AreKnown c.fill-filled.new.self c.args.from.0 known)
    (sym (put_back c.args.known.now c.take-texts.new.self c.put.new.self c.group-group.result c.fill-filled.new.known.items c.take-texts.ensures.left c.put.ensures))
    (named_known c.args.self.now c.fill-filled.new.self c.args.from.0 c.args.name c.group-group.result (length (groups_of c.args.self.now).atoms) c.args.known.now
    c.fill-filled.new.known.items c.fill-filled.ensures.finds c.fill-filled.ensures.exploring c.requires.from c.requires.allowed c.group-group.ensures.group refl c.requires.known k))
    c.fill-filled.ensures.known

pub returns-clause-row : goal.returns-clause-row
returns-clause-row g c =
    on_ok_map c.fill-filled.result
    (name_ends (schema c.fill-filled.new.self) (names c.fill-filled.new.self) (found c.fill-filled.new.self) (at c.fill-filled.new.self c.args.from.0) c.args.name
    (length (groups_of c.args.self.now).atoms) c.fill-filled.new.row (all_texts c.args.self.now c.fill-filled.new.self c.requires.exploring c.fill-filled.ensures.finds))
    c.fill-filled.ensures.row

pub returns-clause-ticks : goal.returns-clause-ticks
returns-clause-ticks g c =
    on_ok_map c.fill-filled.result
    (λ t. subst (λ (known : List (List (Option PatternId))). c.fill-filled.new.steps + names_cost c.args.self.now known ≤ c.args.steps.now + names_cost c.args.self.now c.args.known.now)
    (sym (put_back c.args.known.now c.take-texts.new.self c.put.new.self c.group-group.result c.fill-filled.new.known.items c.take-texts.ensures.left c.put.ensures))
    (named_cost c.args.self.now c.group-group.result c.args.steps.now c.fill-filled.new.steps c.args.known.now c.take-texts.result.items c.fill-filled.new.known.items
    c.take-texts.ensures.list t)) c.fill-filled.ensures.ticks

pub returns-clause-most : goal.returns-clause-most
returns-clause-most g c =
    named_most c.args.self.now c.group-group.result c.args.steps.now c.fill-filled.new.steps c.args.known.now c.take-texts.result.items c.take-texts.ensures.list c.fill-filled.ensures.most
