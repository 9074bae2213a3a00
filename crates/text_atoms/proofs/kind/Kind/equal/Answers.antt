use Rattle.std.proofs.Common.{sym, ◌∙◌}
use Rattle.text_atoms.proofs.LoneWords.{refused, equal_lone, unequal_first, unequal_second}
use Rattle.text_atoms.proofs.kind.Kind.equal.Goals as goal

pub returns-in-Some-Some : goal.returns-in-Some-Some
returns-in-Some-Some c = c.equal_words.ensures ∙ sym (equal_lone c.args.self.now c.args.a.now c.args.b.now c.in-Some-Some.a.now c.in-Some-Some.b.now c.in_default.not-Str c.in-Some-Some.ensures c.in-Some-Some.ensures')

pub returns-in_default-2 : goal.returns-in_default-2
returns-in_default-2 c = unequal_second c.args.self.now c.args.a.now c.args.b.now (refused c.args.self.now c.args.b.now c.in_default.not-Str c.in_default.not-Token c.utf8.b c.in_default-2.ensures')

pub returns-in_default-2-2 : goal.returns-in_default-2-2
returns-in_default-2-2 c = unequal_first c.args.self.now c.args.a.now c.args.b.now (refused c.args.self.now c.args.a.now c.in_default.not-Str c.in_default.not-Token c.utf8.a c.in_default-2.ensures)
