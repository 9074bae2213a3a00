use Rattle.tree_faults.proofs.EntryLists.{twice_plain, twice_choice, twice_interleave}
use Rattle.tree_faults.proofs.entries.Entries.is_twice.Goals as goal

pub returns-in-Plain : goal.returns-in-Plain
returns-in-Plain c = λ es h. rw c.in-Plain.is (rw c.has.ensures (twice_plain c.args.self.now _ es h))

pub returns-in-Choice : goal.returns-in-Choice
returns-in-Choice c = λ es h. rw c.in-Choice.is (twice_choice _ es)

pub returns-in-Interleave : goal.returns-in-Interleave
returns-in-Interleave c = λ es h. rw c.in-Interleave.is (twice_interleave _ es)
