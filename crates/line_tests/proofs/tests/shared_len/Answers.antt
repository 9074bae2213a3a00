use Rattle.line_tests.proofs.Shared.{shared}
use Rattle.line_tests.proofs.tests.shared_len.Goals as goal

pub returns : goal.returns
returns c = shared c.common_len.result c.args.last.now c.args.codes.now c.common_len.ensures
