-- What the steps of a walk say of documents.
use Rattle.std.proofs.Common.{ℕ, List, subst}
use Rattle.rng_model.specs.Hedges.{Skeleton}
use Rattle.rng_model.specs.Codes.{Code}
use Rattle.table_laws.specs.Premises.{AreListable}
use Rattle.table_laws.specs.Walking.{IsOfSize}
use Rattle.table_laws.proofs.ListedCodes.{over_codes, skeleton_codes}
use Rattle.table_laws.proofs.Nexts.{first_is, next_is, last_is}
use Rattle.feasibility.specs.Tables.{Table, lists}
use Rattle.lister.specs.Walks.{Stage, nowhere, before, at, past, IsStep, GoesToNext}
use Rattle.lister.specs.Descents.{listed_codes}

module _ (t : Table) (are : AreListable t.schema (lists t)) (n : ℕ) where
  none_of_size : ((codes : List Code) → listed_codes t n codes → ⊥) → (s : Skeleton) → IsOfSize t.schema (lists t) n s → ⊥
  none_of_size none s l =
      let c = over_codes t.schema (lists t) s l.listed.over in
      none c.0 (subst (λ k. listed_codes t k c.0) l.exact (skeleton_codes t.schema (lists t) are.unbroken are.ascend n s l.listed c.0 c.1))

  -- the codes of a step are those of documents
  pub to_next : (old new : Stage) → IsStep t n old new → GoesToNext t n old new
  to_next before (at codes states) h = first_is t.schema (lists t) are.unbroken are.simple are.ascend are.alphabet n codes h
  to_next before past h = none_of_size h
  to_next (at codes states) (at next more) h = λ s a e. next_is t.schema (lists t) are.unbroken are.simple are.ascend are.alphabet n s codes next a e h
  to_next (at codes states) past h = λ s a e. last_is t.schema (lists t) are.unbroken are.ascend n s codes a e h
  to_next past past h = tt
  to_next nowhere new h = absurd h
  to_next before nowhere h = absurd h
  to_next before before h = absurd h
  to_next (at codes states) nowhere h = absurd h
  to_next (at codes states) before h = absurd h
  to_next past nowhere h = absurd h
  to_next past before h = absurd h
  to_next past (at codes states) h = absurd h
