use Rattle.std.proofs.Common.{refl}
use Rattle.command_words.specs.Words.{Command}
use Rattle.list_command.specs.Owed.{OwesAccepted}
use Rattle.list_command.proofs.Listings.{owes_accepted}
use Rattle.list_command.proofs.Resuming.{the_cut, rest_resumed, texts_split}
use Rattle.list_command.proofs.laws.resuming_goes_on.Goals as goal

pub returns : goal.returns
returns c = λ words files r n file cursor bytes g u list s form asks no_page few held accepts are listed there text short.
    let grows = c.counts_of_states.ensures.grows in
    let cut = the_cut g u n list listed s there in
    let resumed = rest_resumed g u n list listed s there grows r no_page few short in (
      cut.front,
      cut.back,
      cut.is,
      texts_split g u n list listed s there,
      owes_accepted words files r file g (Command.resume n file cursor) form asks refl (bytes, held, accepts) (OwesAccepted.resume are text resumed),
    )
