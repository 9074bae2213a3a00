-- How contracts see what is asked for.
use Rattle.std.specs.Prelude.{ℕ, List, Option}
use Rattle.rng_model.specs.Texts.{Text}
use Rattle.command_words.specs.Words.{Request, Command}
use Rattle.command_words.specs.declared.command.Command.{Command as Asked}
use Rattle.command_words.specs.declared.command.Command.TheVariants as asked
use Rattle.command_words.specs.declared.command_line.CommandLine.{CommandLine}

-- the command with its words
abbrev pub command_of : Asked → Command
command_of (asked.List size file) = Command.list size.nodes file.now
command_of (asked.Resume size file cursor) = Command.resume size.nodes file.now cursor.now
command_of (asked.Universe file) = Command.universe file.now
command_of (asked.States size file) = Command.states size.nodes file.now
command_of (asked.Seeded number size) = Command.seeded number size.nodes

-- all that is asked for
abbrev pub request_of : CommandLine → Request
request_of c = record { command = command_of c.command; page = c.page; limit = c.limit; fresh = c.fresh; texts = c.texts }
