-- The words of a run: this project's own.
use Rattle.std.specs.Prelude.{◌≡◌, ℕ, ◌≤◌, ◌⊎◌, List, [], ◌∷◌, ◌++◌, ⊤, IsTrue, IsUtf8, length, chars, Option, Some, None, codes, decimal}
use Rattle.std.specs.List.{list_all}
use Rattle.rng_model.specs.Texts.{Text}
use Rattle.token_laws.specs.Lexing.{is_allowed}

-- a decimal number without sign or leading zero, within limits
pub record IsNumber (low high : ℕ) (word : Text) (n : ℕ) : Type 0 where
  pub spelled : word ≡ decimal n
  pub least : low ≤ n
  pub most : n ≤ high

-- A command with its words. More commands are more constructors.
pub data Command : Type 0 where
  list : (n : ℕ) (file : Text) → Command
  resume : (n : ℕ) (file cursor : Text) → Command
  universe : (file : Text) → Command
  states : (n : ℕ) (file : Text) → Command
  seeded : (z n : ℕ) → Command

-- What a run is asked for: a command, K of `max=K`, L of `states=L`, F of `fresh=F` and the texts of `text=T`.
pub record Request : Type 0 where
  pub command : Command
  pub page : Option ℕ
  pub limit : ℕ
  pub fresh : ℕ
  pub texts : List Text

-- the words of a command, without options
pub data AreCommand : List Text → Command → Type 0 where
  list : {w file : Text} {n : ℕ} → IsNumber 1 64 w n → AreCommand (codes "list" ∷ w ∷ file ∷ []) (Command.list n file)
  resume : {w file cursor : Text} {n : ℕ} → IsNumber 1 64 w n → AreCommand (codes "resume" ∷ w ∷ file ∷ cursor ∷ []) (Command.resume n file cursor)
  universe : {file : Text} → AreCommand (codes "universe" ∷ file ∷ []) (Command.universe file)
  states : {w file : Text} {n : ℕ} → IsNumber 1 64 w n → AreCommand (codes "states" ∷ w ∷ file ∷ []) (Command.states n file)
  seeded : {v w : Text} {z n : ℕ} → IsNumber 0 4294967295 v z → IsNumber 1 64 w n → AreCommand (codes "seeded" ∷ v ∷ w ∷ []) (Command.seeded z n)

-- `max=K`, or nothing
pub data ArePage : List Text → Option ℕ → Type 0 where
  none : ArePage [] None
  some : {v w : Text} {k : ℕ} → IsNumber 1 1000000000 v k → w ≡ codes "max=" ++ v → ArePage (w ∷ []) (Some k)

-- `states=L`, or nothing
pub data AreLimit : List Text → ℕ → Type 0 where
  none : AreLimit [] 100000
  some : {v w : Text} {l : ℕ} → IsNumber 1 1000000 v l → w ≡ codes "states=" ++ v → AreLimit (w ∷ []) l

-- `fresh=F`, or nothing
pub data AreFresh : List Text → ℕ → Type 0 where
  none : AreFresh [] 1
  some : {v w : Text} {f : ℕ} → IsNumber 1 3 v f → w ≡ codes "fresh=" ++ v → AreFresh (w ∷ []) f

-- T of `text=T`: a text of characters that a schema may hold, of at most 4,096 bytes
pub record IsExtraText (t : Text) : Type 0 where
  pub text : IsUtf8 t
  pub allowed : IsTrue (list_all is_allowed (chars t))
  pub short : length t ≤ 4096

-- words `text=T`
pub data AreTexts : List Text → List Text → Type 0 where
  none : AreTexts [] []
  next : {w t : Text} {ws ts : List Text} → IsExtraText t → w ≡ codes "text=" ++ t → AreTexts ws ts → AreTexts (w ∷ ws) (t ∷ ts)

-- which options a command takes
abbrev pub TakesPage : Command → Type 0
TakesPage (Command.universe file) = ⊥
TakesPage (Command.states n file) = ⊥
TakesPage _ = ⊤

abbrev pub TakesLimit : Command → Type 0
TakesLimit (Command.universe file) = ⊥
TakesLimit _ = ⊤

-- The words have the form of the request: a command, and options in their order.
pub record HasForm (words : List Text) (request : Request) : Type 0 where
  pub front : List Text
  pub page : List Text
  pub limit : List Text
  pub fresh : List Text
  pub texts : List Text
  pub is : words ≡ front ++ page ++ limit ++ fresh ++ texts
  pub command : AreCommand front request.command
  pub has_page : ArePage page request.page
  pub has_limit : AreLimit limit request.limit
  pub has_fresh : AreFresh fresh request.fresh
  pub has_texts : AreTexts texts request.texts
  pub few_texts : length request.texts ≤ 8
  pub takes_page : (page ≡ []) ⊎ TakesPage request.command
  pub takes_limit : (limit ≡ []) ⊎ TakesLimit request.command

-- no request has the form of the words
abbrev pub HasNoForm : List Text → Type 0
HasNoForm words = (request : Request) → HasForm words request → ⊥

-- the command's schema file
abbrev pub HasFile : Command → Text → Type 0
HasFile (Command.list n file) name = file ≡ name
HasFile (Command.resume n file cursor_file) name = file ≡ name
HasFile (Command.universe file) name = file ≡ name
HasFile (Command.states n file) name = file ≡ name
HasFile (Command.seeded z n) name = ⊥

abbrev pub HasNoFile : Command → Type 0
HasNoFile command = (name : Text) → HasFile command name → ⊥
