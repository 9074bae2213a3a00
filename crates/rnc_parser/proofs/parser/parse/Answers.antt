use Rattle.std.proofs.Common.{map, sym, subst}
use Rattle.grammar_laws.specs.Faults as by
use Rattle.schema_tree.specs.Files.{AreWithin}
use Rattle.schema_tree.specs.Trees.{declaration_of, body_of}
use Rattle.schema_tree.specs.Sound.{IsSoundBody}
use Rattle.rnc_parser.proofs.Within.{parsed_within, parsed_sound}
use Rattle.rnc_parser.proofs.Wholes.{tree_read, refused_there}
use Rattle.rnc_parser.proofs.parser.parse.Goals as goal

pub returns-in-Some-clause-refused : goal.returns-in-Some-clause-refused
returns-in-Some-clause-refused c = by.deep c.in-Some.ensures.some

pub returns-in_ok-one_file-in-Ok-clause-ok : goal.returns-in_ok-one_file-in-Ok-clause-ok
returns-in_ok-one_file-in-Ok-clause-ok c = tree_read c.new-rest.ensures.tokens c.in_default.ensures.none c.in-Ok.ensures c.in_ok-one_file-in-Ok.ensures c.end_place.ensures.place

pub returns-in-Err-Syntax-clause-refused : goal.returns-in-Err-Syntax-clause-refused
returns-in-Err-Syntax-clause-refused c =
    refused_there c.in-Err-Syntax.field-0-is c.new-rest.ensures.tokens c.in_default.ensures.none c.in-Err-Syntax.ensures c.refused_at_the_error.ensures c.end_place-in-Err-Syntax.ensures.place c.place-at.ensures

pub one_file-requires-clause-places : goal.one_file-requires-clause-places
one_file-requires-clause-places c =
    subst (λ n. AreWithin n (map declaration_of c.in-Ok.parts.declarations)) (sym c.end_place.ensures.place) (parsed_within c.args.tokens.now.end c.new-rest.ensures.sound c.in-Ok.ensures)

pub one_file-requires-clause-sound : goal.one_file-requires-clause-sound
one_file-requires-clause-sound c =
    subst (λ n. IsSoundBody n (body_of c.in-Ok.parts.body)) (sym c.end_place.ensures.place) (parsed_sound c.args.tokens.now.end c.new-rest.ensures.sound c.in-Ok.ensures)
