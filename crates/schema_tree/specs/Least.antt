-- What stands first.
use Rattle.std.specs.Prelude.{◌≡◌, ℕ, ◌+◌, ◌*◌, ◌≤◌, ◌<◌, ◌⊎◌, Bool, true, false, Option, Some, None, ⊤}
use Rattle.schema_tree.specs.declared.features.Feature.{Feature}
use Rattle.grammar_laws.specs.Files.{Full}
use Rattle.schema_tree.specs.Features.{IsReference, HasFeature}

-- all features are looked for, or references alone
abbrev pub Wants : Bool → Feature → Type 0
Wants false f = ⊤
Wants true f = IsReference f

-- the features in their order
abbrev pub feature_rank : Feature → ℕ
feature_rank Feature.Include = 0
feature_rank Feature.External = 1
feature_rank Feature.Inherit = 2
feature_rank Feature.List = 3
feature_rank Feature.ForeignType = 4
feature_rank Feature.Parameter = 5

-- a feature at a place as a number: by place, and at one place by the order of features
unfoldable pub feature_order : Feature → ℕ → ℕ
feature_order f a = a * 6 + feature_rank f

-- the least among those that are looked for, or none
abbrev pub IsLeast : Bool → (Feature → ℕ → Type 0) → Option (Feature × ℕ) → Type 0
IsLeast w F None = (f : Feature) (a : ℕ) → Wants w f → F f a → ⊥
IsLeast w F (Some x) = (Wants w (x.0) × F (x.0) (x.1)) × ((f : Feature) (a : ℕ) → Wants w f → F f a → feature_order (x.0) (x.1) ≤ feature_order f a)

-- the earlier of the two
abbrev pub IsEarlier : Option (Feature × ℕ) → Option (Feature × ℕ) → Option (Feature × ℕ) → Type 0
IsEarlier None y z = z ≡ y
IsEarlier (Some x) None z = z ≡ Some x
IsEarlier (Some x) (Some y) z =
    ((feature_order (x.0) (x.1) ≤ feature_order (y.0) (y.1)) × (z ≡ Some x)) ⊎ ((feature_order (y.0) (y.1) < feature_order (x.0) (x.1)) × (z ≡ Some y))

-- the first feature of a schema stands at the place
pub record IsFirstFeature (t : Full) (f : Feature) (a : ℕ) : Type 0 where
  pub there : HasFeature t f a
  pub first : (g : Feature) (b : ℕ) → HasFeature t g b → feature_order f a ≤ feature_order g b

-- the least place, or none
abbrev pub IsFirst : (ℕ → Type 0) → Option ℕ → Type 0
IsFirst P None = (a : ℕ) → P a → ⊥
IsFirst P (Some b) = P b × ((a : ℕ) → P a → b ≤ a)
