use Rattle.std.proofs.Common.{sym, ◌∙◌}
use Rattle.text_atoms.proofs.LoneWords.{refused, allows_lone}
use Rattle.text_atoms.proofs.kind.Kind.allows.Goals as goal

pub returns-in-Some : goal.returns-in-Some
returns-in-Some c = c.allows_word.ensures ∙ sym (allows_lone c.args.self.now c.args.text.now c.in-Some.word.now c.in-Some.ensures)

pub returns-in-None : goal.returns-in-None
returns-in-None c = sym (refused c.args.self.now c.args.text.now c.in_default.not-Str c.in_default.not-Token c.utf8.text c.in-None.ensures)
