use Rattle.std.proofs.Common.{ℕ, ◌+◌, List, [], ◌∷◌, ◌++◌, length, sym, ◌∙◌, ap, subst, arith, rules}
use Rattle.std.proofs.lemmas.List.{append-nil}
use Rattle.feasibility.specs.Exploring.{IsRightly, groups_of, names}
use Rattle.feasibility.specs.Grown.{IsGrown, row_total}
use Rattle.feasibility.specs.Growing.{at_level}
use Rattle.feasibility.proofs.Adding.{begins_itself, frees_on, on_err, rows_on}
use Rattle.feasibility.proofs.Cutting.{level_rows, level_finds, level_frees, times}
use Rattle.feasibility.proofs.Moving.{rightly_on}
use Rattle.feasibility.proofs.Sizes.{explores_next, grown_next, reached_one}
use Rattle.feasibility.proofs.states.States.grow_level.Goals as goal

pub find_rows-requires-clause-exploring : goal.find_rows-requires-clause-exploring
find_rows-requires-clause-exploring g c = explores_next c.args.self.now.explorer c.requires.grown.exploring

pub find_rows-requires-clause-rows : goal.find_rows-requires-clause-rows
find_rows-requires-clause-rows g c = record { within = c.requires.grown.some_rows; each = c.requires.grown.rows.row }

pub find_rows-requires-clause-reached : goal.find_rows-requires-clause-reached
find_rows-requires-clause-reached g c = λ id l. reached_one c.args.self.now.explorer id c.requires.grown.exploring (omega (arith, l, c.count-end.ensures.count))

pub find_frees-requires-clause-frees : goal.find_frees-requires-clause-frees
find_frees-requires-clause-frees g c =
    frees_on (at_level (c.args.self.now.explorer.level + 1) c.args.self.now.explorer) c.find_rows.new.explorer c.find_rows.ensures.adds.finds c.args.self.now.frees.items
    (record { within = (let a = c.requires.grown.all_frees in omega (arith, a)); each = c.requires.grown.rows.free })

pub returns-in_err-find_rows-clause-level : goal.returns-in_err-find_rows-clause-level
returns-in_err-find_rows-clause-level g c = c.find_rows.ensures.adds.finds.level

pub returns-in_err-find_rows-clause-on : goal.returns-in_err-find_rows-clause-on
returns-in_err-find_rows-clause-on g c =
    level_rows c.args.self.now.explorer c.find_rows.new.explorer c.find_rows.new.explorer c.args.self.now.frees.items c.args.self.now.frees.items c.args.self.now.rows c.find_rows.new.rows c.args.self.now.levels.items
    c.args.self.now.levels.items c.find_rows.ensures.adds c.find_rows.ensures.none

pub returns-in_err-find_rows-clause-tick : goal.returns-in_err-find_rows-clause-tick
returns-in_err-find_rows-clause-tick g c =
    let r = row_total (names c.args.self.now.explorer) (groups_of c.args.self.now.explorer) in
    let few = c.requires.grown.exploring.few in
    let all = c.requires.grown.all_frees in
    let h = times r c.count-end.result c.args.self.now.explorer.limit (omega (arith, few, c.count-end.ensures.count)) in
    on_err c.from_residual.result (omega (arith, h, few, all, c.in_err-find_rows.ensures.tick))

pub returns-in_err-find_frees-clause-level : goal.returns-in_err-find_frees-clause-level
returns-in_err-find_frees-clause-level g c = c.find_frees.ensures.adds.finds.level ∙ c.find_rows.ensures.adds.finds.level

pub returns-in_err-find_frees-clause-on : goal.returns-in_err-find_frees-clause-on
returns-in_err-find_frees-clause-on g c =
    level_frees c.args.self.now.explorer c.find_rows.new.explorer c.find_frees.new.explorer c.args.self.now.frees.items c.find_frees.new.frees.items c.args.self.now.rows c.find_rows.new.rows
    c.args.self.now.levels.items c.args.self.now.levels.items c.find_rows.ensures.adds c.find_rows.ensures.none c.find_frees.ensures.adds c.find_frees.ensures.none (begins_itself c.args.self.now.levels.items)

pub returns-in_err-find_frees-clause-full : goal.returns-in_err-find_frees-clause-full
returns-in_err-find_frees-clause-full g c =
    let h : IsRightly (at_level (c.args.self.now.explorer.level + 1) c.args.self.now.explorer) c.in_err-find_frees.field-0.0 =
    rightly_on (at_level (c.args.self.now.explorer.level + 1) c.args.self.now.explorer) c.find_rows.new.explorer c.in_err-find_frees.field-0.0 c.find_rows.ensures.adds.finds c.in_err-find_frees.ensures.full in
    search rules

pub returns-in_err-find_frees-clause-tick : goal.returns-in_err-find_frees-clause-tick
returns-in_err-find_frees-clause-tick g c =
    let r = row_total (names c.args.self.now.explorer) (groups_of c.args.self.now.explorer) in
    let few = c.find_rows.ensures.adds.exploring.few in
    let most = c.find_frees.ensures.adds.exploring.few in
    let same = c.find_rows.ensures.adds.finds.limit in
    let too = c.find_frees.ensures.adds.finds.limit in
    let within = c.find_rows.ensures.adds.rows.within in
    let h = times r (length c.find_rows.new.rows) c.args.self.now.explorer.limit (omega (arith, few, same, within)) in
    on_err c.from_residual-in_err-find_frees.result (omega (arith, h, most, same, too, c.in_ok-find_rows.ensures.ticks, c.find_frees.ensures.ticks))

pub returns-in_err-note-clause-level : goal.returns-in_err-note-clause-level
returns-in_err-note-clause-level g c = c.find_frees.ensures.adds.finds.level ∙ c.find_rows.ensures.adds.finds.level

pub returns-in_err-note-clause-on : goal.returns-in_err-note-clause-on
returns-in_err-note-clause-on g c =
    level_frees c.args.self.now.explorer c.find_rows.new.explorer c.find_frees.new.explorer c.args.self.now.frees.items c.find_frees.new.frees.items c.args.self.now.rows c.find_rows.new.rows
    c.args.self.now.levels.items _ c.find_rows.ensures.adds c.find_rows.ensures.none c.find_frees.ensures.adds c.find_frees.ensures.none ([], c.in_err-note.ensures.err ∙ sym (append-nil c.args.self.now.levels.items))

pub returns-in_err-note-clause-tick : goal.returns-in_err-note-clause-tick
returns-in_err-note-clause-tick g c =
    let r = row_total (names c.args.self.now.explorer) (groups_of c.args.self.now.explorer) in
    let few = c.find_rows.ensures.adds.exploring.few in
    let most = c.find_frees.ensures.adds.exploring.few in
    let same = c.find_rows.ensures.adds.finds.limit in
    let too = c.find_frees.ensures.adds.finds.limit in
    let within = c.find_rows.ensures.adds.rows.within in
    let h = times r (length c.find_rows.new.rows) c.args.self.now.explorer.limit (omega (arith, few, same, within)) in
    on_err c.from_residual-in_err-note.result (omega (arith, h, most, same, too, c.in_ok-find_rows.ensures.ticks, c.find_frees.ensures.ticks))

pub returns-clause-grown : goal.returns-clause-grown
returns-clause-grown g c =
    let finds = level_finds c.args.self.now.explorer c.find_rows.new.explorer c.find_frees.new.explorer c.args.self.now.frees.items c.find_frees.new.frees.items c.args.self.now.rows c.find_rows.new.rows
    c.args.self.now.levels.items c.args.self.now.levels.items c.find_rows.ensures.adds c.find_rows.ensures.none c.find_frees.ensures.adds in
    subst (λ (xs : List ℕ). IsGrown c.find_frees.new.explorer c.find_frees.new.frees.items c.find_rows.new.rows xs)
    (sym (c.in_ok-note.ensures.ok ∙ ap (λ n. c.args.self.now.levels.items ++ n ∷ []) c.count.ensures.count))
    (grown_next c.args.self.now.explorer c.find_frees.new.explorer c.args.self.now.frees.items c.find_frees.new.frees.items c.args.self.now.rows c.find_rows.new.rows c.args.self.now.levels.items c.requires.grown
    finds c.find_frees.ensures.adds.exploring c.count.ensures.once (λ z. c.find_frees.ensures.none (c.find_rows.ensures.none z)) c.find_frees.ensures.adds.frees c.in_ok-find_frees.ensures.all
    (rows_on c.find_rows.new.explorer c.find_frees.new.explorer c.find_frees.ensures.adds.finds c.find_rows.new.rows c.find_rows.ensures.adds.rows)
    (omega (arith, c.in_ok-find_rows.ensures.all, c.count-end.ensures.count)))

pub returns-clause-level : goal.returns-clause-level
returns-clause-level g c = c.find_frees.ensures.adds.finds.level ∙ c.find_rows.ensures.adds.finds.level

pub returns-clause-on : goal.returns-clause-on
returns-clause-on g c =
    level_frees c.args.self.now.explorer c.find_rows.new.explorer c.find_frees.new.explorer c.args.self.now.frees.items c.find_frees.new.frees.items c.args.self.now.rows c.find_rows.new.rows
    c.args.self.now.levels.items _ c.find_rows.ensures.adds c.find_rows.ensures.none c.find_frees.ensures.adds c.find_frees.ensures.none (c.count.result ∷ [], c.in_ok-note.ensures.ok)

pub returns-clause-ticks : goal.returns-clause-ticks
returns-clause-ticks g c =
    let all = c.in_ok-find_frees.ensures.all in
    omega (arith, all, c.in_ok-find_rows.ensures.ticks, c.find_frees.ensures.ticks)
