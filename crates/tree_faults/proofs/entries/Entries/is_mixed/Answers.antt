use Rattle.tree_faults.proofs.EntryLists.{mixed_plain, mixed_choice, mixed_interleave}
use Rattle.tree_faults.proofs.entries.Entries.is_mixed.Goals as goal

pub returns-in-Plain : goal.returns-in-Plain
returns-in-Plain c = λ es h. rw c.in-Plain.is (mixed_plain _ es)

pub returns-in-Choice : goal.returns-in-Choice
returns-in-Choice c = λ es h. rw c.in-Choice.is (rw c.has.ensures (mixed_choice c.args.self.now _ es h))

pub returns-in-Interleave : goal.returns-in-Interleave
returns-in-Interleave c = λ es h. rw c.in-Interleave.is (rw c.has-in-Interleave.ensures (mixed_interleave c.args.self.now _ es h))
