use Rattle.std.proofs.Common.{◌≡◌, ◌∙◌, ◌++◌, ◌∷◌, [], ap, sym}
use Rattle.name_resolution.proofs.NextFiles.{file_is, take_next, next_fits, within_file, all_within, pushed}
use Rattle.name_resolution.proofs.namespaces.Namespaces.push_file.Goals as goal

pub push-requires-clause-places : goal.push-requires-clause-places
push-requires-clause-places c =
    let file = file_is c.args.full.now.files c.args.file _ _ _ _ c.file_name-name.ensures c.file_length-length.ensures c.file_inherited-inherited.ensures c.declarations-declarations.ensures in
    rw c.requires.next.0 (next_fits c.args.full.now.files c.args.file _ file c.requires.places)

pub push-requires-clause-within : goal.push-requires-clause-within
push-requires-clause-within c =
    let file = file_is c.args.full.now.files c.args.file _ _ _ _ c.file_name-name.ensures c.file_length-length.ensures c.file_inherited-inherited.ensures c.declarations-declarations.ensures in
    rw c.as_slice.ensures (all_within _ _ (within_file c.args.full.now.files c.args.file _ file c.requires.within))

pub returns : goal.returns
returns c =
    let file = file_is c.args.full.now.files c.args.file _ _ _ _ c.file_name-name.ensures c.file_length-length.ensures c.file_inherited-inherited.ensures c.declarations-declarations.ensures in
    pushed c.push.result _ _ _ (rw c.requires.next.0 (sym (take_next c.args.full.now.files c.args.file _ file))) (rw c.as_slice.ensures at c.push.ensures.ok)
