-- What the laws that stand below say, as one fact each: this project's own.
use Rattle.std.specs.Prelude.{◌≡◌, ℕ, List, Option}
use Rattle.rng_model.specs.Texts.{Text}
use Rattle.rng_model.specs.Patterns.{Schema}
use Rattle.rng_model.specs.Hedges.{Skeleton, IsSkeleton}
use Rattle.rng_model.specs.Lines.{skeleton_text}
use Rattle.line_laws.specs.LineRefusals.{IsText, LineFault, LineRefusal}
use Rattle.listing_laws.specs.Pending.{Asked, Ending, Ends}
use Rattle.listing_laws.specs.StateCounts.{EndsCounting}
use Rattle.list_command.specs.declared.outcome.SchemaFault.{SchemaFault}

-- a schema's bytes have one fault, or are accepted as one schema, and never both
pub record AreDecided (Refuses : List ℕ → SchemaFault → Type 0) (Accepts : List ℕ → Schema → Type 0) : Type 0 where
  pub one_fault : {bytes : List ℕ} {f h : SchemaFault} → Refuses bytes f → Refuses bytes h → f ≡ h
  pub not_both : {bytes : List ℕ} {f : SchemaFault} {g : Schema} → Refuses bytes f → Accepts bytes g → ⊥
  pub one_schema : {bytes : List ℕ} {g h : Schema} → Accepts bytes g → Accepts bytes h → g ≡ h

-- Bytes are one skeleton's text or refused for one fault, never both; a listing and a counting end in one way.
pub record AreListLaws : Type 0 where
  pub text_once : (s t : Skeleton) → IsSkeleton s → IsSkeleton t → skeleton_text s ≡ skeleton_text t → s ≡ t
  pub text_or_refused : (bytes : Text) → IsText bytes → (f : LineFault) → LineRefusal bytes f → ⊥
  pub refused_once : (bytes : Text) (f g : LineFault) → LineRefusal bytes f → LineRefusal bytes g → f ≡ g
  pub ends_once : (a : Asked) (page : Option ℕ) (e f : Ending) (xs ys : List Skeleton) → Ends a page e xs → Ends a page f ys → (e ≡ f) × (xs ≡ ys)
  pub counts_once : (a : Asked) (e f : Ending) (xs ys : List ℕ) → EndsCounting a e xs → EndsCounting a f ys → (e ≡ f) × (xs ≡ ys)
