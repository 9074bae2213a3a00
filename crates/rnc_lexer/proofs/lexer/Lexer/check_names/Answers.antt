use Rattle.std.proofs.Common.{◌-◌, ◌≤◌, length, sym, ap, subst}
use Rattle.rnc_lexer.specs.Views.{word_of, IsFault}
use Rattle.rnc_lexer.specs.Steps.{TakesWord, StopsAnywhere}
use Rattle.rnc_lexer.proofs.Limits.{second_fits, long_ident, long_second, long_first, long_prefix, refuse}
use Rattle.rnc_lexer.proofs.Refusals.{passed_on}
use Rattle.rnc_lexer.proofs.lexer.Lexer.check_names.Goals as goal

pub returns-in_err-check_name-in-CName-clause-refused :
    goal.returns-in_err-check_name-in-CName-clause-refused
returns-in_err-check_name-in-CName-clause-refused c =
    let w = subst (λ w. TakesWord c.args.before.now (word_of w) c.args.self.now.rest.now) c.in-CName.is c.requires.word in
    let e = ap (λ p. p - length c.args.before.now) c.end.ensures in
    let g = c.in_err-check_name-in-CName.ensures.refused in
    passed_on c.from_residual.result c.in_err-check_name-in-CName.field-0.0 (StopsAnywhere c.args.self.now.end c.args.before.now) c.from_residual.ensures.1
    (subst (IsFault (StopsAnywhere c.args.self.now.end c.args.before.now)) (sym g.0) (long_first c.args.self.now.end _ c.requires.starts w g.1 e))

pub overflow_sub-place-in-CName : goal.overflow_sub-place-in-CName
overflow_sub-place-in-CName c =
    let w = subst (λ w. TakesWord c.args.before.now (word_of w) c.args.self.now.rest.now) c.in-CName.is c.requires.word in
    subst (λ p. length c.in-CName.name.now ≤ p) (sym c.place-in-CName.ensures) (second_fits c.args.self.now.end w c.requires.within)

pub returns-in-Ident-clause-refused : goal.returns-in-Ident-clause-refused
returns-in-Ident-clause-refused c =
    let w = subst (λ w. TakesWord c.args.before.now (word_of w) c.args.self.now.rest.now) c.in-Ident.is c.requires.word in
    let e = ap (λ p. p - length c.in-Ident.name.now) c.place.ensures in
    refuse c.check_name.result _ c.in-Ident.name.now (StopsAnywhere c.args.self.now.end c.args.before.now) c.check_name.ensures.refused
    (λ l. long_ident c.args.self.now.end _ c.requires.starts w c.requires.within l e)

pub returns-in-NsName-clause-refused : goal.returns-in-NsName-clause-refused
returns-in-NsName-clause-refused c =
    let w = subst (λ w. TakesWord c.args.before.now (word_of w) c.args.self.now.rest.now) c.in-NsName.is c.requires.word in
    let e = ap (λ p. p - length c.args.before.now) c.end.ensures in
    refuse c.check_name-in-NsName.result _ c.in-NsName.prefix.now (StopsAnywhere c.args.self.now.end c.args.before.now) c.check_name-in-NsName.ensures.refused
    (λ l. long_prefix c.args.self.now.end _ c.requires.starts w l e)

pub returns-in_ok-check_name-in-CName-clause-refused :
    goal.returns-in_ok-check_name-in-CName-clause-refused
returns-in_ok-check_name-in-CName-clause-refused c =
    let w = subst (λ w. TakesWord c.args.before.now (word_of w) c.args.self.now.rest.now) c.in-CName.is c.requires.word in
    let e = ap (λ p. p - length c.in-CName.name.now) c.place-in-CName.ensures in
    refuse c.check_name-in-CName-2.result _ c.in-CName.name.now (StopsAnywhere c.args.self.now.end c.args.before.now) c.check_name-in-CName-2.ensures.refused
    (λ l. long_second c.args.self.now.end _ c.requires.starts w c.requires.within c.in_ok-check_name-in-CName.ensures.ok l e)
