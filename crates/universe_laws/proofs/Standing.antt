-- A name and the name that it stands for are in the same classes.
use Rattle.std.proofs.Common.{◌≡◌, inl, inr, sym, ◌∙◌, ap}
use Rattle.rng_model.specs.Names.{Name}
use Rattle.rng_model.specs.Classes.{Class, in_class}
use Rattle.universe_laws.specs.Overlaps.{fresh_in}
use Rattle.rng_model.specs.Universe.{NameStandsFor}
use Rattle.universe_laws.proofs.OverlapLaw.{fresh-same, stranger-same}

pub stands-same : (C : Class → Type 0) (n m : Name) → NameStandsFor C n m → (c : Class) → C c → in_class n c ≡ in_class m c
stands-same C n m (inl (is, e)) c h = ap (λ x. in_class x c) (sym e)
stands-same C n m (inr (inl (not, space, e, free))) c h =
    fresh-same c n (λ k. not (c, h, k)) ∙ ap (λ u. fresh_in u c) (sym e) ∙ sym (fresh-same c m (λ k. free.free (c, h, k)))
stands-same C n m (inr (inr (not, free, e))) c h =
    stranger-same c n (λ k. not (c, h, k)) ∙ sym (stranger-same c m (λ k. free.free (c, h, k)))
