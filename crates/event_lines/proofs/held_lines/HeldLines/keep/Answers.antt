use Rattle.std.proofs.Common.{◌≤◌, length, refl, sym, subst}
use Rattle.event_lines.specs.Held.{Held, HoldsLines}
use Rattle.event_lines.proofs.Keeping.{take_front, kept}
use Rattle.event_lines.proofs.held_lines.HeldLines.keep.Goals as goal

pub returns-clause-holds : goal.returns-clause-holds
returns-clause-holds c = λ s holds.
    let within = subst (λ (h : Held). c.args.count ≤ length h.codes) (sym c.self.view_is) c.requires.within in
    kept s _ _ c.args.count (subst (HoldsLines s) (sym c.self.view_is) holds) within c.truncate.ensures
    (sym (take_front c.args.count c.self.inside.len c.self.inside.codes within)) refl
