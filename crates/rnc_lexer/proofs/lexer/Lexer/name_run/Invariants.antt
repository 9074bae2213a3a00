use Rattle.std.proofs.Common.{◌≡◌}
use denote.Text.{Utf8}
use denote.Shadow.{shadow}
use Rattle.rng_model.specs.Names.{is_name_char}
use Rattle.rnc_lexer.proofs.Fronts.{Front}
use Rattle.rnc_lexer.proofs.lexer.Lexer.name_run.Given as goal

abbrev pub invariant-loop-c : goal.invariant-loop-c
invariant-loop-c l = shadow (Utf8 l.rest) × (l.chars.rest.now ≡ l.rest) × Front is_name_char l.initial.rest l.rest
