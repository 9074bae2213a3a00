use Rattle.rnc_parser.proofs.Steps.{begin, read, inside, passed_on, at_last, made}
use Rattle.rnc_parser.proofs.Tops as top
use Rattle.rnc_parser.proofs.schema.rest_of_pattern.Goals as goal

pub returns-in_err-follow : goal.returns-in_err-follow
returns-in_err-follow c =
    passed_on c.from_residual.result c.from_residual.ensures.1 (inside begin c.in_err-follow.ensures.parsed)

pub returns-in_err-particle : goal.returns-in_err-particle
returns-in_err-particle c =
    passed_on c.from_residual-in_err-particle.result c.from_residual-in_err-particle.ensures.1 (inside (read begin c.in_ok-follow.ensures.parsed) c.in_err-particle.ensures.parsed)

pub returns : goal.returns
returns c =
    at_last (read (read begin c.in_ok-follow.ensures.parsed) c.in_ok-particle.ensures.parsed) (λ v r. top.bare_behind (made c.in_ok-follow.ensures.parsed) (made c.in_ok-particle.ensures.parsed) r) c.more_patterns.ensures.parsed
