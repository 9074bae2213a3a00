use Rattle.std.proofs.Common.{arith, ap, sym, ◌∙◌, subst, Option, ℕ, ◌+◌, option_map}
use Rattle.simple_form_laws.specs.Faults.{in_files}
use Rattle.name_resolution.specs.Least.{least}
use Rattle.name_resolution.specs.Places.{places_of, later_bindings}
use Rattle.name_resolution.proofs.Sums.{file_step, fits_step}
use Rattle.name_resolution.proofs.Within.{UpTo, twice_within}
use Rattle.name_resolution.proofs.namespaces.Namespaces.prefix_twice.Goals as goal

pub based-requires : goal.based-requires
based-requires c =
    let e = c.in_ok-twice.ensures ∙ ap (λ ds. least (later_bindings ds)) c.declarations.ensures.value in
    let P : Option ℕ → Type 0 = λ o. UpTo c.file-item.result.length o in
    fits_step c.files-file-items.result.now c.loop-file.file-index c.loop-file.base c.file-item.result c.in_ok-twice.twice (places_of c.args.self.now) (omega arith) c.file-item.is
    c.loop-file.invariant.1 c.files-file-items.ensures.places
    (subst P (sym e) (twice_within c.file-item.result.length c.file-item.result.declarations c.declarations.ensures.within))

pub loop-file-preserved : goal.loop-file-preserved
loop-file-preserved c =
    let e = c.in_ok-twice.ensures ∙ ap (λ ds. least (later_bindings ds)) c.declarations.ensures.value in
    file_step (λ g ds. later_bindings ds) c.files-file-items.result.now c.loop-file.file-index c.loop-file.base c.length.result c.file-item.result
    c.loop-file.found c.lesser-found.result c.based.result (least (in_files (λ g ds. later_bindings ds) 0 c.args.self.now)) (places_of c.args.self.now)
    (omega arith) c.file-item.is c.loop-file.invariant (c.based.ensures ∙ ap (λ (o : Option ℕ). option_map (λ (a : ℕ). c.loop-file.base + a) o) e) c.lesser-found.ensures c.length.ensures
