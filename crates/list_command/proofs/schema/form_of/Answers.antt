use Rattle.schema_tree.specs.Files.{full_of}
use Rattle.list_command.proofs.Refusing.{refuses_feature, whole_tree, all_taken, accepts_given, sound_given}
use Rattle.list_command.proofs.schema.form_of.Goals as goal

pub returns-in-Some-clause-refused : goal.returns-in-Some-clause-refused
returns-in-Some-clause-refused c = λ bytes tree. rw c.feature_fault.ensures (refuses_feature bytes (full_of c.args.full.now) c.in-Some.feature c.in-Some.at tree (rw c.in-Some.is at c.refused_feature.ensures))

pub simplify-requires-clause-references : goal.simplify-requires-clause-references
simplify-requires-clause-references c = (whole_tree c.trees_are_whole.ensures.body c.requires.0 (full_of c.args.full.now) c.requires.1).1.references

pub simplify-requires-clause-taken : goal.simplify-requires-clause-taken
simplify-requires-clause-taken c = all_taken (full_of c.args.full.now) c.in_default.ensures

pub returns-in-Ok-clause-accepted : goal.returns-in-Ok-clause-accepted
returns-in-Ok-clause-accepted c = λ bytes tree. accepts_given bytes (full_of c.args.full.now) c.in-Ok.schema c.unbroken.result tree c.in_default.ensures c.in-Ok.ensures.ok c.unbroken.ensures.same c.unbroken.ensures.sound

pub returns-in-Ok-clause-refused : goal.returns-in-Ok-clause-refused
returns-in-Ok-clause-refused c = λ bytes tree. c.unbroken.ensures.refused bytes (full_of c.args.full.now) (tree, all_taken (full_of c.args.full.now) c.in_default.ensures) c.in-Ok.ensures.ok

pub returns-in-Err-clause-refused : goal.returns-in-Err-clause-refused
returns-in-Err-clause-refused c = λ bytes tree. c.no_form.ensures bytes (full_of c.args.full.now) (tree, all_taken (full_of c.args.full.now) c.in_default.ensures) c.in-Err.ensures.refused

pub returns-in-Ok-clause-sound : goal.returns-in-Ok-clause-sound
returns-in-Ok-clause-sound c = sound_given c.in-Ok.schema c.unbroken.result c.unbroken.ensures.same c.unbroken.ensures.sound
