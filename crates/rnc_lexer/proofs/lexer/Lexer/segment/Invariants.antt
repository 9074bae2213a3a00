use Rattle.std.proofs.Common.{◌≡◌, ◌<◌, length, string_bytes}
use Rattle.rnc_lexer.specs.Steps.{LeadsSegment}
use Rattle.rnc_lexer.proofs.lexer.Lexer.segment.Given as goal

abbrev pub invariant-loop-text : goal.invariant-loop-text
invariant-loop-text l = (l.self.end ≡ l.fn.self.end) × LeadsSegment l.fn.self.end l.fn.self.rest.now l.mark l.long (string_bytes l.text) l.self.rest.now × (length l.self.rest.now < length l.fn.self.rest.now)

abbrev pub decreases-loop-text : goal.decreases-loop-text
decreases-loop-text l = length l.self.rest.now
