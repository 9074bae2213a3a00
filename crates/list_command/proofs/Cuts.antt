-- What was written of a listing, before it is whole.
use Rattle.std.proofs.Common.{◌≡◌, ℕ, ◌+◌, List, [], ◌∷◌, ◌++◌, length, refl, ap, sym, ◌∙◌, inl, inr, arith, codes}
use Rattle.std.specs.Prelude.{decimal}
use Rattle.std.specs.List.{AllByRecursion}
use Rattle.std.proofs.lemmas.Grind.{flat_map-append}
use Rattle.std.proofs.lemmas.List.{append-nil, append_assoc}
use Rattle.rng_model.specs.Hedges.{Skeleton, IsSkeleton}
use Rattle.rng_model.specs.Lines.{skeleton_text}
use Rattle.derivative_laws.proofs.Members.{IsIn, contained}
use Rattle.outside.specs.Devices.{IsFrontOf}
use Rattle.listing_laws.specs.Pending.{Asked}
use Rattle.listing_laws.specs.Fronts.{AreBelow, BeginsWith}
use Rattle.command_words.specs.Words.{Request}
use Rattle.list_command.specs.declared.outcome.Outcome.{Outcome}
use Rattle.list_command.specs.Texts.{lines, below_size, AreWholeSizes}
use Rattle.list_command.specs.Owed.{state_lines}
use Rattle.list_command.proofs.Rows.{AreTextLaws, one_row, whole_sizes, given_pending}
use Rattle.list_command.specs.Meanings.{IsListing}

-- the texts of a first part are a front of all
pub front_of_lines : (front given : List Skeleton) → BeginsWith front given → IsFrontOf (lines front) (lines given)
front_of_lines front given begins = (lines begins.rest, ap lines begins.is ∙ flat_map-append skeleton_text front begins.rest)

-- and so is a part of the text of the next one behind them
pub cut_of_lines : (front given : List Skeleton) (t : Skeleton) (part : List ℕ) → BeginsWith (front ++ t ∷ []) given → IsFrontOf part (skeleton_text t) →
    IsFrontOf (lines front ++ part) (lines given)
cut_of_lines front given t part begins (more, is) = (
  more ++ lines begins.rest,
  ap lines begins.is ∙ flat_map-append skeleton_text (front ++ t ∷ []) begins.rest
      ∙ ap (λ xs. xs ++ lines begins.rest) (flat_map-append skeleton_text front (t ∷ []) ∙ ap (λ xs. lines front ++ xs) (append-nil (skeleton_text t) ∙ is))
      ∙ parts (lines front) part more (lines begins.rest),
)
  where
    parts : (a b c d : List ℕ) → (a ++ (b ++ c)) ++ d ≡ (a ++ b) ++ (c ++ d)
    parts a b c d = ap (λ xs. xs ++ d) (sym (append_assoc a b c)) ∙ append_assoc (a ++ b) c d

-- the documents of a listing are skeletons
pub all_skeletons : (xs : List Skeleton) → ((z : Skeleton) → IsIn z xs → IsSkeleton z) → AllByRecursion IsSkeleton xs
all_skeletons [] f = tt
all_skeletons (x ∷ xs) f = (f x (inl refl), all_skeletons xs (λ z h. f z (inr h)))

module _ (laws : AreTextLaws) (a : Asked) (m : ℕ) (front : List Skeleton) (below : AreBelow a m front) where
  -- before a size, those below it were written, whatever list of skeletons the owed texts are
  pub sizes_of_listing : (r : Request) (outcome : Outcome) (bytes : List ℕ) (owed : IsListing r a outcome bytes) → BeginsWith front owed.given →
      (given : List Skeleton) → AllByRecursion IsSkeleton given → bytes ≡ lines given → AreWholeSizes (lines front) given
  sizes_of_listing r outcome bytes owed begins given are is =
      let skeletons = all_skeletons owed.given (λ z h. (given_pending a m front below owed.ends z (contained z owed.given h)).listed.skeleton) in
      let same : owed.given ≡ given = one_row laws owed.given given skeletons are (sym owed.is ∙ is) in
      (m, ap lines (whole_sizes a m front below owed.given owed.ends begins ∙ ap (below_size m) same))

-- the lines of more sizes stand behind those of the first ones
pub state_lines-append : (from : ℕ) (counts more : List ℕ) → state_lines from (counts ++ more) ≡ state_lines from counts ++ state_lines (from + length counts) more
state_lines-append from [] more = ap (λ k. state_lines k more) nothing
  where
    nothing : from ≡ from + 0
    nothing = omega arith
state_lines-append from (count ∷ counts) more = next (from + length (count ∷ counts)) (omega arith) (state_lines-append (from + 1) counts more)
  where
    next : (k : ℕ) → from + 1 + length counts ≡ k →
        state_lines (from + 1) (counts ++ more) ≡ state_lines (from + 1) counts ++ state_lines (from + 1 + length counts) more →
        state_lines from (count ∷ (counts ++ more)) ≡ state_lines from (count ∷ counts) ++ state_lines k more
    next k same is =
        ap (λ t. (decimal from ++ codes " " ++ decimal count ++ codes "\n") ++ t) (is ∙ ap (λ j. state_lines (from + 1) counts ++ state_lines j more) same)
        ∙ sym (append_assoc (decimal from ++ codes " " ++ decimal count ++ codes "\n") (state_lines (from + 1) counts) (state_lines k more))
