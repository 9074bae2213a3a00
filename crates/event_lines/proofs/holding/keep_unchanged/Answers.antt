use Rattle.std.proofs.Common.{length, ap, arith}
use Rattle.event_lines.proofs.Keeping.{start_within}
use Rattle.event_lines.proofs.holding.keep_unchanged.Goals as goal

pub keep-requires-clause-start : goal.keep-requires-clause-start
keep-requires-clause-start c =
    start_within c.args.spellings.now c.args.held.now c.min-kept.result c.requires.holds
    (omega (arith, ap length c.codes.ensures, c.min.ensures, c.min-kept.ensures))
