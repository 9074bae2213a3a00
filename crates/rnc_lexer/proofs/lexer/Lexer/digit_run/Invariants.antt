use Rattle.std.proofs.Common.{◌≡◌}
use denote.Text.{Utf8}
use denote.Shadow.{shadow}
use Rattle.rnc_lexer.specs.Steps.{is_hexadecimal}
use Rattle.rnc_lexer.proofs.Fronts.{Front}
use Rattle.rnc_lexer.proofs.lexer.Lexer.digit_run.Given as goal

abbrev pub invariant-loop-c : goal.invariant-loop-c
invariant-loop-c l = shadow (Utf8 l.rest) × (l.chars.rest.now ≡ l.rest) × Front is_hexadecimal l.initial.rest l.rest
