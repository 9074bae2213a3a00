-- What contracts see of a lister: this project's own.
use Rattle.std.specs.Prelude.{◌≡◌, ◌≢◌, ℕ, ⊤, List, [], take, slice_get, Some}
use Rattle.rng_model.specs.Hedges.{Skeleton, size}
use Rattle.rng_model.specs.Events.{events}
use Rattle.rng_model.specs.Codes.{Code, AreCodes}
use Rattle.rng_model.specs.States.{after_codes}
use Rattle.table_laws.specs.Walking.{AreListedCodes, IsLeastRest, IsNextList, NothingAbove, IsOfSize, IsFirst, IsNext, GoesThrough}
use Rattle.feasibility.specs.Tables.{Table, Keeps, lists, state_of}
use Rattle.feasibility.specs.Following.{IsHeld}

-- Where a walk through the documents of one size stands: nowhere yet; before the first; at a document, by its codes and the numbers of the
-- states before and after each code; past the last.
pub data Stage : Type 0 where
  nowhere : Stage
  before : Stage
  at : (codes : List Code) (states : List ℕ) → Stage
  past : Stage

-- the greatest size, the size of the walk, its stage, and how many codes of its document stand as in the one before
pub record Walk : Type 0 where
  pub room : ℕ
  pub size : ℕ
  pub stage : Stage
  pub unchanged : ℕ

-- the numbers are those of the states before and after each of the codes
pub record AreStates (t : Table) (codes : List Code) (states : List ℕ) : Type 0 where
  pub each : (k id : ℕ) → slice_get states k ≡ Some id → IsHeld t id × (state_of t id ≡ after_codes t.schema (lists t) (take k codes))

-- the states that the walk keeps are those of the table, and its document is listed
abbrev pub IsWalkOf : Table → ℕ → Stage → Type 0
IsWalkOf t n (Stage.at codes states) = AreListedCodes t.schema (lists t) n codes × AreStates t codes states
IsWalkOf t n stage = ⊤

-- and those of each table to which it grows
abbrev pub IsWalkOfGrown : Table → ℕ → Stage → Type 0
IsWalkOfGrown t n stage = (new : Table) → Keeps t new → IsWalkOf new n stage

-- from one stage to the next, by codes: to the least ones of the size or the next ones, or past the last where there are none
abbrev pub IsStep : Table → ℕ → Stage → Stage → Type 0
IsStep t n Stage.before (Stage.at codes states) = IsLeastRest (AreListedCodes t.schema (lists t) n) [] codes
IsStep t n Stage.before Stage.past = (codes : List Code) → AreListedCodes t.schema (lists t) n codes → ⊥
IsStep t n (Stage.at codes states) (Stage.at next more) = IsNextList (AreListedCodes t.schema (lists t) n) codes next
IsStep t n (Stage.at codes states) Stage.past = NothingAbove (AreListedCodes t.schema (lists t) n) [] codes
IsStep t n Stage.past Stage.past = ⊤
IsStep t n _ _ = ⊥

-- The same by documents: to the first one of the size or the next one, or past the last where there is none or none follows.
abbrev pub GoesToNext : Table → ℕ → Stage → Stage → Type 0
GoesToNext t n Stage.before (Stage.at codes states) = (s : Skeleton) × AreCodes (lists t) (events s) codes × IsFirst t.schema (lists t) n s
GoesToNext t n Stage.before Stage.past = (s : Skeleton) → IsOfSize t.schema (lists t) n s → ⊥
GoesToNext t n (Stage.at codes states) (Stage.at next more) =
    (s : Skeleton) → AreCodes (lists t) (events s) codes → size s ≡ n → (r : Skeleton) × AreCodes (lists t) (events r) next × IsNext t.schema (lists t) n s r
GoesToNext t n (Stage.at codes states) Stage.past = (s : Skeleton) → AreCodes (lists t) (events s) codes → size s ≡ n → GoesThrough t.schema (lists t) n s []
GoesToNext t n Stage.past Stage.past = ⊤
GoesToNext t n _ _ = ⊥

-- the first k codes of a document are those of the one before it, and none are those of one before the first
abbrev pub KeepsFront : Stage → ℕ → Stage → Type 0
KeepsFront (Stage.at codes states) k (Stage.at next more) = take k next ≡ take k codes
KeepsFront Stage.before k (Stage.at next more) = k ≡ 0
KeepsFront _ k _ = ⊤

-- the code behind the first k is another one than in the document before
abbrev pub ChangesAt : Stage → ℕ → Stage → Type 0
ChangesAt (Stage.at codes states) k (Stage.at next more) = slice_get next k ≢ slice_get codes k
ChangesAt _ k _ = ⊤

-- the walk stands at a document
abbrev pub IsAtOne : Stage → Type 0
IsAtOne (Stage.at codes states) = ⊤
IsAtOne _ = ⊥

-- a size was set
abbrev pub IsSet : Stage → Type 0
IsSet Stage.nowhere = ⊥
IsSet _ = ⊤

-- the walk stands at a document with these codes
abbrev pub IsAt : Stage → List Code → Type 0
IsAt (Stage.at codes states) wanted = codes ≡ wanted
IsAt _ wanted = ⊥
