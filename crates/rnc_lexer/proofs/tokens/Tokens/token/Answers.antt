use Rattle.std.proofs.Common.{◌≡◌, ◌<◌, Some, slice_get, length, ap, sym, subst}
use Rattle.rnc_lexer.specs.Views.{placed_of}
use Rattle.rnc_lexer.proofs.Leads.{placed_at}
use Rattle.rnc_lexer.proofs.tokens.Tokens.token.Goals as goal

pub returns : goal.returns
returns c =
    let v = sym (ap (λ t. t.tokens) c.self.view_is) in
    let h = placed_at c.self.inside.lexed.items c.args.i c.index.result.now (subst (λ ts. c.args.i < length ts) v c.requires) c.index.ensures in
    (c.index.result.now.place, subst (λ ts. slice_get ts c.args.i ≡ Some (placed_of c.index.result.now)) (sym v) h)
