use Rattle.std.proofs.Common.{◌≡◌, ◌⊎◌, inl, inr}
use Rattle.std.proofs.lemmas.Result.{on_ok_weaker}
use Rattle.kept_elements.proofs.Searched.{grown_both}
use Rattle.kept_elements.proofs.search.Search.visit_both.Goals as goal

pub returns-clause-grown : goal.returns-clause-grown
returns-clause-grown c =
    on_ok_weaker c.visit-2.result
    (λ h. grown_both (λ i. i ≡ c.args.a.0) (λ i. i ≡ c.args.b.0) (λ i. (i ≡ c.args.a.0) ⊎ (i ≡ c.args.b.0)) c.args.self.now c.visit.new.self c.visit-2.new.self (λ i e. inl e) (λ i e. inr e) c.in_ok-visit.ensures.grown h)
    c.visit-2.ensures.grown
