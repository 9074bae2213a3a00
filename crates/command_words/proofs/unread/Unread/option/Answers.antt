use Rattle.std.proofs.Common.{map, string_bytes, rules}
use Rattle.command_words.proofs.Fronts.{first_front}
use Rattle.command_words.proofs.unread.Unread.option.Goals as goal

pub returns-in_default-read_number : goal.returns-in_default-read_number
returns-in_default-read_number c = (c.in-Some-behind.digits.now, first_front c.args.front.now (string_bytes c.in-Some.first.now) c.in-Some-behind.digits.now c.args.self.now (map string_bytes c.in-Some.rest.now) (search rules) (search rules), c.in_default-read_number.ensures.none)
