use Rattle.std.proofs.Common.{arith, refl, ap}
use Rattle.schema_tree.specs.declared.files.Entry.{Entry}
use Rattle.schema_tree.specs.Files.{places_of}
use Rattle.schema_tree.proofs.Places.{based_places, based_pushed}
use Rattle.schema_tree.proofs.files.FileList.push.Goals as goal

pub overflow_add-self : goal.overflow_add-self
overflow_add-self c =
    let p = based_places c.self.inside.entries.items 0 c.self.inside.places c.self.invariant.1 in
    let q = ap places_of c.self.view_is in
    omega (arith, p, q, c.requires.fits)

pub overflow_add-self-2 : goal.overflow_add-self-2
overflow_add-self-2 c =
    let p = based_places c.self.inside.entries.items 0 c.self.inside.places c.self.invariant.1 in
    let q = ap places_of c.self.view_is in
    omega (arith, p, q, c.requires.fits)

pub invariant_of-self-2 : goal.invariant_of-self-2
invariant_of-self-2 c =
    let p = based_places c.self.inside.entries.items 0 c.self.inside.places c.self.invariant.1 in
    let q = ap places_of c.self.view_is in
    let e : Entry = record { name = c.args.name; length = c.args.length; base = c.self.inside.places; inherited = c.args.inherited; declarations = c.args.declarations } in
    (omega (arith, p, q, c.requires.fits), based_pushed c.self.inside.entries.items e c.self.inside.places c.self.invariant.1 refl c.requires.places c.in_ok-push.ensures.items)
