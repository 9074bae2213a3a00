use Rattle.std.proofs.Common.{arith, ap, sym, ◌∙◌, subst, Option, ℕ, map, ◌+◌, option_map}
use Rattle.schema_tree.specs.Trees.{declaration_of}
use Rattle.simple_form_laws.specs.Faults.{in_files}
use Rattle.name_resolution.specs.Least.{least}
use Rattle.name_resolution.specs.Places.{places_of, reserved_places}
use Rattle.name_resolution.proofs.Sums.{file_step, fits_step}
use Rattle.name_resolution.proofs.Within.{UpTo, reserved_within}
use Rattle.name_resolution.proofs.namespaces.Namespaces.reserved_prefix.Goals as goal

pub based-requires : goal.based-requires
based-requires c =
    let e = c.reserved_in-reserved.ensures ∙ ap (λ u. least (reserved_places u (map declaration_of c.declarations.result.now))) c.inherited.ensures
    ∙ ap (λ ds. least (reserved_places c.file-item.result.inherited ds)) c.declarations.ensures.value in
    let P : Option ℕ → Type 0 = λ o. UpTo c.file-item.result.length o in
    fits_step c.files-file-items.result.now c.loop-file.file-index c.loop-file.base c.file-item.result c.reserved_in-reserved.result (places_of c.args.self.now) (omega arith) c.file-item.is
    c.loop-file.invariant.1 c.files-file-items.ensures.places
    (subst P (sym e) (reserved_within c.file-item.result.inherited c.file-item.result.length c.file-item.result.declarations c.declarations.ensures.within))

pub loop-file-preserved : goal.loop-file-preserved
loop-file-preserved c =
    let e = c.reserved_in-reserved.ensures ∙ ap (λ u. least (reserved_places u (map declaration_of c.declarations.result.now))) c.inherited.ensures
    ∙ ap (λ ds. least (reserved_places c.file-item.result.inherited ds)) c.declarations.ensures.value in
    file_step (λ g ds. reserved_places g.inherited ds) c.files-file-items.result.now c.loop-file.file-index c.loop-file.base c.length.result c.file-item.result
    c.loop-file.found c.lesser-found.result c.based.result (least (in_files (λ g ds. reserved_places g.inherited ds) 0 c.args.self.now)) (places_of c.args.self.now)
    (omega arith) c.file-item.is c.loop-file.invariant (c.based.ensures ∙ ap (λ (o : Option ℕ). option_map (λ (a : ℕ). c.loop-file.base + a) o) e) c.lesser-found.ensures c.length.ensures
