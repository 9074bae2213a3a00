-- Numbered local names are NCNames.
use Rattle.std.proofs.Common.{◌≡◌, true, false, refl, sym, ◌∙◌, ap}
use Rattle.rng_model.specs.Names.{is_ncname}
use Rattle.name_universe.proofs.Numbered.{numbered_ncname}
use Rattle.name_universe.proofs.fresh.numbered_name.Goals as goal

pub unreachable-requires : goal.unreachable-requires
unreachable-requires c =
    let refused : is_ncname c.in_ok-local.local ≡ false = c.in-Err.ensures.not_ncname.0 refl in
    let taken : is_ncname c.in_ok-local.local ≡ true = ap is_ncname c.in_ok-local.ensures ∙ numbered_ncname c.args.number in
    let clash : true ≡ false = sym taken ∙ refused in
    cc
