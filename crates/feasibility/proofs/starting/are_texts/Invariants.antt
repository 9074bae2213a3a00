use Rattle.std.proofs.Common.{◌≡◌, ℕ, ◌<◌, Some, slice_get, IsUtf8}
use Rattle.rng_model.specs.Texts.{Text}
use Rattle.text_atoms.specs.Origins.{texts_of}
use Rattle.feasibility.proofs.starting.are_texts.Given as goal

abbrev pub invariant-loop-position : goal.invariant-loop-position
invariant-loop-position l = (i : ℕ) (x : Text) → i < l.position → slice_get (texts_of l.atoms) i ≡ Some x → IsUtf8 x
