use Rattle.std.proofs.Common.{◌≡◌, ◌≤◌, false, length, chars, map}
use Rattle.token_laws.specs.Lexing.{start_of, apart}
use Rattle.rnc_lexer.specs.Steps.{Leads, is_gap, joined_size}
use Rattle.rnc_lexer.specs.Sound.{AreWithin}
use Rattle.rnc_lexer.specs.Views.{placed_of, joined_of}
use Rattle.rnc_lexer.proofs.lexer.Lexer.tokens.Given as goal

abbrev pub invariant-loop-first : goal.invariant-loop-first
invariant-loop-first l =
    (l.self.end ≡ l.fn.self.end) × Leads l.fn.self.end apart l.fn.self.rest.now (map placed_of l.lexed.items) (joined_of l.joined) l.self.rest.now × (is_gap (start_of (chars l.self.rest.now)) ≡ false) ×
    (joined_size (joined_of l.joined) ≤ 4096) × AreWithin l.fn.self.end (map placed_of l.lexed.items)

abbrev pub decreases-loop-first : goal.decreases-loop-first
decreases-loop-first l = length l.self.rest.now
