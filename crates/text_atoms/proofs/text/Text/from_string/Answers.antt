use Rattle.std.proofs.lemmas.Str.{IsUtf8-had}
use Rattle.text_atoms.proofs.text.Text.from_string.Goals as goal

pub invariant_of-result : goal.invariant_of-result
invariant_of-result c = IsUtf8-had _ c.args.string.ok
