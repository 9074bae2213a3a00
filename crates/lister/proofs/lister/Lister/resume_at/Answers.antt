use Rattle.lister.specs.Walks.{at}
use Rattle.lister.proofs.Arriving.{same_codes}
use Rattle.lister.proofs.Growing.{goes_on}
use Rattle.lister.proofs.lister.Lister.resume_at.Goals as goal

pub returns-clause-at : goal.returns-clause-at
returns-clause-at g c = λ codes h.
    same_codes c.args.table.now c.holds.ensures.listable c.args.cursor.now _ c.requires.listed c.follow.new.path.codes codes c.follow.ensures.codes h

pub returns-clause-grows : goal.returns-clause-grows
returns-clause-grows g c =
    let p = c.follow.new.path in
    rw c.size-self-inside.ensures (λ new k. goes_on c.args.table.now new _ (at p.codes p.states) k (c.follow.ensures.listed, c.follow.ensures.states))
