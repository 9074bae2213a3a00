-- A text that is there stays as it is, and another comes with its origin.
use Rattle.std.proofs.Common.{sym}
use Rattle.text_atoms.proofs.Extending.{put_old, put_new, none_from}
use Rattle.text_atoms.proofs.origins.put.Goals as goal

pub returns-in_ok-insert : goal.returns-in_ok-insert
returns-in_ok-insert c = put_new c.args.atoms.now c.insert.new.self c.args.text c.args.origin (none_from _ c.if-not-contains_key.ensures) c.in_ok-insert.ensures.updates

pub returns-else-not-contains_key : goal.returns-else-not-contains_key
returns-else-not-contains_key c = put_old c.args.atoms.now c.args.text c.args.origin (sym c.if-not-contains_key.ensures)
