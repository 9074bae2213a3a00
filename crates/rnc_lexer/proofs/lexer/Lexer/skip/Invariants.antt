use Rattle.std.proofs.Common.{◌≡◌, ◌≤◌, length, chars}
use Rattle.rng_model.specs.Texts.{is_space}
use Rattle.token_laws.specs.Lexing.{EndsRun}
use Rattle.rnc_lexer.specs.Steps.{Skips}
use Rattle.rnc_lexer.proofs.lexer.Lexer.skip.Given as goal

abbrev pub invariant-loop-self : goal.invariant-loop-self
invariant-loop-self l = (l.self.end ≡ l.fn.self.end) × Skips l.fn.self.end l.fn.self.rest.now l.self.rest.now × EndsRun is_space (chars l.self.rest.now) × (length l.self.rest.now ≤ length l.fn.self.rest.now)

abbrev pub decreases-loop-self : goal.decreases-loop-self
decreases-loop-self l = length l.self.rest.now
