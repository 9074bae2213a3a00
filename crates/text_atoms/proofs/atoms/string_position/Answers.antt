-- The text is at one place, if it is an atom.
use Rattle.std.proofs.Common.{◌≡◌, true, false, ◌∙◌, sym, subst, true≢false}
use Rattle.std.proofs.lemmas.Option.{get_or_from_slice_get}
use Rattle.text_atoms.specs.Standing.{IsStringAtom}
use Rattle.text_atoms.proofs.Finding.{Atom, no_text, no_string}
use Rattle.text_atoms.proofs.atoms.string_position.Goals as goal

pub returns-in_err-place-clause-absent : goal.returns-in_err-place-clause-absent
returns-in_err-place-clause-absent c = rw c.from_residual.ensures (no_text c.args.atoms.now c.args.text.now c.in_err-place.ensures.absent)

pub returns-else-is_string-clause-absent : goal.returns-else-is_string-clause-absent
returns-else-is_string-clause-absent c =
    no_string c.args.atoms.now c.requires c.args.text.now c.in_ok-place.place c.in_ok-place.ensures.found
    (λ a at is. (
    let same : a ≡ c.in_ok-atom.atom.now = sym (c.in_ok-atom.ensures.lookup.1 ∙ get_or_from_slice_get c.args.atoms.now c.in_ok-place.place a c.in_ok-atom.atom.now at) in
    let string : false ≡ true = c.if-is_string.ensures.1 (subst (λ (b : Atom). IsStringAtom b c.args.text.now) same is) in
    true≢false (sym string)))
