use Rattle.std.proofs.Common.{◌≡◌}
use denote.Text.{Utf8}
use denote.Shadow.{shadow}
use Rattle.token_laws.specs.Lexing.{is_allowed}
use Rattle.rnc_lexer.proofs.Fronts.{Front}
use Rattle.rnc_lexer.proofs.characters.first_refused.Given as goal

abbrev pub invariant-loop-c : goal.invariant-loop-c
invariant-loop-c l = shadow (Utf8 l.rest) × (l.chars.rest.now ≡ l.rest) × Front is_allowed l.initial.rest l.rest
