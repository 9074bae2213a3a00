use Rattle.std.proofs.Common.{refl}
use Rattle.command_words.specs.Words.{Command}
use Rattle.list_command.specs.Owed.{OwesAccepted}
use Rattle.list_command.proofs.Listings.{owes_accepted}
use Rattle.list_command.proofs.Resuming.{list_ends}
use Rattle.list_command.proofs.laws.listing_owes_the_list.Goals as goal

pub returns : goal.returns
returns c = λ words files r n file bytes g u list form asks no_page few held accepts are listed.
    owes_accepted words files r file g (Command.list n file) form asks refl (bytes, held, accepts)
    (OwesAccepted.list are (list_ends c.counts_of_states.ensures.grows g u n list listed r no_page few) refl refl)
