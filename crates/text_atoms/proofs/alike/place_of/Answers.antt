-- The signature is that of the text.
use Rattle.text_atoms.proofs.alike.place_of.Goals as goal

pub returns : goal.returns
returns c = record {
  signature = c.in_ok-signature.signature;
  sees = c.in_ok-signature.ensures;
  inserted = c.in_ok-place.ensures.keys;
  index = c.in_ok-place.ensures.index;
  found = c.in_ok-place.ensures.stored;
}
