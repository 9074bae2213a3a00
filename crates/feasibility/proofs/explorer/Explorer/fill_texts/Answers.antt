use Rattle.std.proofs.Common.{◌<◌, Option, List, length, sym, subst}
use Rattle.rng_model.specs.Codes.{Chars}
use Rattle.rng_model.specs.States.{State, IsAllowed}
use Rattle.pattern_intern.specs.declared.id.PatternId.{PatternId}
use Rattle.feasibility.specs.declared.explorer.Explorer.{Explorer}
use Rattle.feasibility.specs.declared.family.Family.TheVariants.{Texts}
use Rattle.feasibility.specs.Exploring.{IsExploring, IsKnown, at, found, groups_of, names, schema}
use Rattle.feasibility.proofs.Passing.{texts_end}
use Rattle.feasibility.proofs.Sharing.{all_texts, nothing_known}
use Rattle.feasibility.proofs.explorer.Explorer.fill_texts.Goals as goal

pub fill-requires-clause-known : goal.fill-requires-clause-known
fill-requires-clause-known g c =
    subst (λ (known : List (Option PatternId)). IsKnown c.takes_text.new.self c.args.from.0 Texts 0 known) (sym c.in_ok-known.ensures.items)
    (nothing_known c.takes_text.new.self (subst IsExploring (sym c.takes_text.ensures.same) c.requires.exploring) c.args.from.0 Texts)

pub returns-in_ok-fill-clause-row : goal.returns-in_ok-fill-clause-row
returns-in_ok-fill-clause-row g c =
    let same = sym c.takes_text.ensures.same in
    let from = subst (λ (e : Explorer). c.args.from.0 < length (found e)) same c.requires.from in
    let allowed = subst (λ (e : Explorer). IsAllowed (at e c.args.from.0).place (Chars 0)) same c.requires.allowed in
    texts_end (schema c.fill.new.self) (names c.fill.new.self) (found c.fill.new.self) (at c.fill.new.self c.args.from.0) (length (groups_of c.takes_text.new.self).atoms) c.fill.new.row
    (subst (λ (s : State). IsAllowed s.place (Chars 0)) (sym (c.fill.ensures.finds.states c.args.from.0 from)) allowed)
    (all_texts c.takes_text.new.self c.fill.new.self (subst IsExploring same c.requires.exploring) c.fill.ensures.finds) c.in_ok-fill.ensures.row
