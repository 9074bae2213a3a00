-- Rows of codes: their parts, their nodes, and that no match stays so.
use Rattle.std.proofs.Common.{◌≡◌, ◌≢◌, ◌+◌, List, [], ◌∷◌, ◌++◌, refl, ◌∙◌, ap, arith, false, IsTrue}
use Rattle.rng_model.specs.Patterns.{Pattern, Schema, not_allowed}
use Rattle.rng_model.specs.Matching.{nullable}
use Rattle.rng_model.specs.Universe.{Lists}
use Rattle.rng_model.specs.States.{State, step, steps}
use Rattle.rng_model.specs.Codes.{Code, nodes}
use Rattle.derivative_laws.proofs.Accepting.{nothing_step as nothing_at}
use Rattle.table_laws.specs.Reaching.{weight}

pub nodes-cons : (c : Code) (cs : List Code) → nodes (c ∷ cs) ≡ weight c + nodes cs
nodes-cons (Code.Opening i) cs = omega arith
nodes-cons (Code.Attr j s) cs = omega arith
nodes-cons Code.Body cs = omega arith
nodes-cons (Code.Chars s) cs = omega arith
nodes-cons Code.Closing cs = omega arith

pub nodes-append : (xs ys : List Code) → nodes (xs ++ ys) ≡ nodes xs + nodes ys
nodes-append [] ys = omega arith
nodes-append (x ∷ xs) ys = omega (arith, nodes-append xs ys, nodes-cons x (xs ++ ys), nodes-cons x xs)

module _ (g : Schema) (u : Lists) where
  pub steps-append : (s : State) (cs ds : List Code) → steps g u s (cs ++ ds) ≡ steps g u (steps g u s cs) ds
  steps-append s [] ds = refl
  steps-append s (c ∷ cs) ds = steps-append (step g u s c) cs ds

  pub nothing_step : (s : State) (c : Code) → s.pattern ≡ not_allowed → (step g u s c).pattern ≡ not_allowed
  nothing_step s c e =
      let f : s ≡ record { place = s.place; pattern = not_allowed } = λ i. record { place = s.place; pattern = e i } in
      ap (λ x. (step g u x c).pattern) f ∙ nothing_at g u s.place c

  pub nothing_steps : (cs : List Code) (s : State) → s.pattern ≡ not_allowed → (steps g u s cs).pattern ≡ not_allowed
  nothing_steps [] s e = e
  nothing_steps (c ∷ cs) s e = nothing_steps cs (step g u s c) (nothing_step s c e)

  -- what isn't dead at the end wasn't before
  pub alive : (cs : List Code) (s : State) → (steps g u s cs).pattern ≢ not_allowed → s.pattern ≢ not_allowed
  alive cs s h e = h (nothing_steps cs s e)

pub nullable-alive : (p : Pattern) → IsTrue (nullable p) → p ≢ not_allowed
unfolding nullable
nullable-alive p h e = let f : nullable p ≡ false = rw e refl in absurd (cc)
