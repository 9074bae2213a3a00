use Rattle.std.proofs.Common.{refl}
use Rattle.list_command.proofs.Listings.{list_meaning, resume_meaning, after_meaning, listed_meaning, states_meaning, resume_needs}
use Rattle.list_command.proofs.laws.owed_is_asked.Goals as goal

pub returns-clause-list : goal.returns-clause-list
returns-clause-list c = λ words files r n file g u form asks read are needed o bytes owes.
    list_meaning c.lists_are_decided.ensures c.schemas_are_decided.ensures c.one_form.ensures words files r form n file g u asks read are owes

pub returns-clause-resume : goal.returns-clause-resume
returns-clause-resume c = λ words files r n file cursor g u d form asks read are has listed few needed o bytes owes.
    let lists = c.lists_are_decided.ensures in
    let schemas = c.schemas_are_decided.ensures in
    let once = c.one_form.ensures in
    listed_meaning lists schemas once words files r form n d g u listed few
    (after_meaning lists schemas once words files r form n d _ g u has.short has.skeleton refl
    (resume_meaning lists schemas once words files r form n file cursor _ g u asks read are has.held owes))

pub returns-clause-states : goal.returns-clause-states
returns-clause-states c = λ words files r n file g u form asks read are needed o bytes owes.
    states_meaning c.lists_are_decided.ensures c.schemas_are_decided.ensures c.one_form.ensures words files r form n file g u asks read are owes

pub returns-clause-files : goal.returns-clause-files
returns-clause-files c = λ words files r n file cursor g needed o bytes form asks read owes.
    resume_needs c.lists_are_decided.ensures c.schemas_are_decided.ensures c.one_form.ensures words files r form n file cursor g asks read owes
