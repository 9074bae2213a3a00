-- What the laws on listed skeletons ask of a schema and of its lists.
use Rattle.rng_model.specs.Patterns.{Schema, IsSimpleForm}
use Rattle.rng_model.specs.Restrictions.{BreaksNoRule}
use Rattle.rng_model.specs.Universe.{Lists, Ascend, IsAlphabet}

-- The schema is a simple form that breaks no rule; the lists ascend, and names and texts of documents stand in them.
pub record AreListable (g : Schema) (u : Lists) : Type 0 where
  pub unbroken : BreaksNoRule g
  pub simple : IsSimpleForm g
  pub ascend : Ascend u
  pub alphabet : IsAlphabet u
