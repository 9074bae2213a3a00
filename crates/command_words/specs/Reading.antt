-- What reading words says, part by part.
use Rattle.std.specs.Prelude.{◌≡◌, ◌⊎◌, ℕ, List, [], ◌∷◌, ◌++◌, Option, Some, None, Result, Ok, Err, codes, length, ◌≤◌}
use Rattle.rng_model.specs.Texts.{Text}
use Rattle.command_words.specs.declared.unread.BadNumber.{BadNumber}
use Rattle.command_words.specs.Words.{IsNumber, Command, AreCommand, AreTexts, TakesPage, TakesLimit}

-- the first of the words is the front and v
abbrev pub HasFront : Text → List Text → Text → Type 0
HasFront front [] v = ⊥
HasFront front (w ∷ ws) v = w ≡ front ++ v

-- a number within limits is the first of the words and the others are left, or it isn't the first
abbrev pub PassesNumber : ℕ → ℕ → List Text → Option ℕ → List Text → Type 0
PassesNumber low high words (Some n) rest = (w : Text) × (words ≡ w ∷ rest) × IsNumber low high w n
PassesNumber low high words None rest = (w : Text) (ws : List Text) (n : ℕ) → words ≡ w ∷ ws → IsNumber low high w n → ⊥

-- the front and a number are the first of the words and the others are left, or no word with this front is the first, or one that is refused
abbrev pub PassesOption : Text → ℕ → ℕ → List Text → Result (Option ℕ) BadNumber → List Text → Type 0
PassesOption front low high words (Ok None) rest = (rest ≡ words) × ((v : Text) → HasFront front words v → ⊥)
PassesOption front low high words (Ok (Some n)) rest = (v : Text) × (words ≡ (front ++ v) ∷ rest) × IsNumber low high v n
PassesOption front low high words (Err e) rest = (v : Text) × HasFront front words v × ((n : ℕ) → IsNumber low high v n → ⊥)

-- the words of the command are the first and the others are left
pub record BeginsWith (words : List Text) (command : Command) (rest : List Text) : Type 0 where
  pub front : List Text
  pub is : words ≡ front ++ rest
  pub has_command : AreCommand front command

-- no command begins the words
abbrev pub BeginsWithNone : List Text → Type 0
BeginsWithNone words = (command : Command) (rest : List Text) → BeginsWith words command rest → ⊥

-- the front and a number, or nothing
pub data IsOption (front : Text) (low high : ℕ) : List Text → Option ℕ → Type 0 where
  none : IsOption front low high [] None
  some : {v w : Text} {n : ℕ} → IsNumber low high v n → w ≡ front ++ v → IsOption front low high (w ∷ []) (Some n)

-- the words are these options in their order, and texts
pub record AreOptions (words : List Text) (page limit fresh : Option ℕ) (extra : List Text) : Type 0 where
  pub pages : List Text
  pub limits : List Text
  pub freshes : List Text
  pub texts : List Text
  pub is : words ≡ pages ++ (limits ++ (freshes ++ texts))
  pub has_page : IsOption (codes "max=") 1 1000000000 pages page
  pub has_limit : IsOption (codes "states=") 1 1000000 limits limit
  pub has_fresh : IsOption (codes "fresh=") 1 3 freshes fresh
  pub has_texts : AreTexts texts extra
  pub few : length extra ≤ 8

-- the command takes the options that are given
abbrev pub AreTaken : Command → Option ℕ → Option ℕ → Type 0
AreTaken command page limit = ((page ≡ None) ⊎ TakesPage command) × ((limit ≡ None) ⊎ TakesLimit command)

-- the words are no options
abbrev pub AreNoOptions : List Text → Type 0
AreNoOptions words = (page limit fresh : Option ℕ) (extra : List Text) → AreOptions words page limit fresh extra → ⊥
