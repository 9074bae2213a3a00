-- How many calls a run makes, and what it misses.
use Rattle.std.proofs.Common.{◌≡◌, ◌⊎◌, inl, inr, ℕ, ◌+◌, ◌≤◌, List, [], ◌∷◌, refl, sym, ap, ◌∙◌, arith}
use Rattle.std.specs.Prelude.{Option, None, Some, IfSome}
use Rattle.std.proofs.lemmas.List.Sums.{sum_by-cons}
use Rattle.rng_model.specs.Texts.{Text}
use Rattle.rng_model.specs.Patterns.{Schema}
use Rattle.outside.specs.Counts.{RisesAtMost}
use Rattle.outside.specs.Devices.{Shelved, bytes_of, length_of, IsMissing}
use Rattle.command_words.specs.declared.command.Command.{Command as Asked}
use Rattle.command_words.specs.declared.command.Command.TheVariants as asked
use Rattle.command_words.specs.declared.size.Size.{Size}
use Rattle.command_words.specs.Requests.{command_of}
use Rattle.command_words.specs.Words.{Command, Request, HasForm, HasFile, HasNoFile}
use Rattle.list_command.specs.declared.outcome.Outcome.{Outcome}
use Rattle.list_command.specs.Reading.{calls_for}
use Rattle.list_command.specs.Asking.{HasCursor, MissesCursor, cursor_calls}
use Rattle.list_command.specs.Runs.{OwesFor, IsRead, IsReadFaultOwed, CallsAsNeeded, MissesAsOwed, CallsAsAsked}
use Rattle.list_command.proofs.Owing.{AskOnce}
use Rattle.list_command.proofs.Exits.{owes_missing_cursor, rises_more, rises_both, calls_as_needed}

-- no call more
pub rises_none : (calls : Option ℕ) → RisesAtMost 0 calls calls
rises_none None = tt
rises_none (Some n) = omega arith

pub rises_not : (told : Option Shelved) (most : Shelved → ℕ) (calls : Option ℕ) → IfSome told (λ files. RisesAtMost (most files) calls calls)
rises_not None most calls = tt
rises_not (Some files) most calls = rises_more 0 (most files) calls calls (omega arith) (rises_none calls)

-- a cursor that is missing is a read fault that is owed
pub missing_cursor : (r : Request) (file : Text) (g : Schema) (told : Option Shelved) → HasFile r.command file →
    ((files : Shelved) → told ≡ Some files → IsRead file files g) → MissesCursor r told → MissesAsOwed r told
missing_cursor r file g None has read (name, is, missing) words form = absurd missing
missing_cursor r file g (Some files) has read (name, is, missing) words form = go r.command refl has is
  where
    go : (c : Command) → r.command ≡ c → HasFile c file → HasCursor c name → IsReadFaultOwed words (Some files)
    go (Command.list n f) e h k = absurd k
    go (Command.resume n f cursor) e h k =
        let owes = owes_missing_cursor words r n file name g files form (rw (← h, ← k) e) (read files refl) missing in
        (file ∷ name ∷ [], owes)
    go (Command.universe f) e h k = absurd k
    go (Command.states n f) e h k = absurd k
    go (Command.seeded z n) e h k = absurd k

-- which files a resumed listing needs
abbrev pub NeedsCursor : Type 0
NeedsCursor = (words : List Text) (files : Shelved) (r : Request) (n : ℕ) (file cursor : Text) (g : Schema) (needed : List Text) (o : Outcome) (bytes : List ℕ) →
    HasForm words r → r.command ≡ Command.resume n file cursor → IsRead file files g → OwesFor words files needed o bytes → needed ≡ file ∷ cursor ∷ []

-- the calls for a schema's file and then for a cursor's
pub calls_over : AskOnce → NeedsCursor → (r : Request) (file : Text) (g : Schema) (told : Option Shelved) (calls between calls_now : Option ℕ) → HasFile r.command file →
    ((files : Shelved) → told ≡ Some files → IsRead file files g) →
    IfSome told (λ files. RisesAtMost (length_of files file + 2) calls between) → IfSome told (λ files. RisesAtMost (cursor_calls files r.command) between calls_now) →
    CallsAsAsked r told calls calls_now
calls_over once needs r file g None calls between calls_now has read first second words form = tt
calls_over once needs r file g (Some files) calls between calls_now has read first second words form = go r.command refl has second
  where
    alone : RisesAtMost 0 between calls_now → CallsAsNeeded words (Some files) calls calls_now
    alone none =
        calls_as_needed once words r form file (Some files) calls calls_now has
        (rises_more (length_of files file + 2 + 0) (length_of files file + 2) calls calls_now (omega arith)
        (rises_both (length_of files file + 2) 0 calls between calls_now first none))

    go : (c : Command) → r.command ≡ c → HasFile c file → RisesAtMost (cursor_calls files c) between calls_now → CallsAsNeeded words (Some files) calls calls_now
    go (Command.list n f) e h k = alone k
    go (Command.resume n f cursor) e h k = λ needed o bytes owes.
        let all = needs words files r n file cursor g needed o bytes form (rw (← h) e) (read files refl) owes in
        rw (all, sum_by-cons (λ m. length_of files m + 2) file (cursor ∷ []), sum_by-cons (λ m. length_of files m + 2) cursor [])
        (rises_more (length_of files file + 2 + (length_of files cursor + 2)) _ calls calls_now (omega arith)
        (rises_both (length_of files file + 2) (length_of files cursor + 2) calls between calls_now first k))
    go (Command.universe f) e h k = alone k
    go (Command.states n f) e h k = alone k
    go (Command.seeded z n) e h k = absurd h

-- a command's words, with the name of its file
pub lists_file : (c : Command) (n : ℕ) (f file : Text) → c ≡ Command.list n f → HasFile c file → c ≡ Command.list n file
lists_file c n f file is has = let same : f ≡ file = rw is at has in is ∙ ap (λ x. Command.list n x) same

pub resumes_file : (c : Command) (n : ℕ) (f file cursor : Text) → c ≡ Command.resume n f cursor → HasFile c file → c ≡ Command.resume n file cursor
resumes_file c n f file cursor is has = let same : f ≡ file = rw is at has in is ∙ ap (λ x. Command.resume n x cursor) same

pub universe_of_file : (c : Command) (f file : Text) → c ≡ Command.universe f → HasFile c file → c ≡ Command.universe file
universe_of_file c f file is has = let same : f ≡ file = rw is at has in is ∙ ap (λ x. Command.universe x) same

pub states_of_file : (c : Command) (n : ℕ) (f file : Text) → c ≡ Command.states n f → HasFile c file → c ≡ Command.states n file
states_of_file c n f file is has = let same : f ≡ file = rw is at has in is ∙ ap (λ x. Command.states n x) same

pub seeded_in_no_file : (c : Command) (z n : ℕ) (file : Text) → c ≡ Command.seeded z n → HasFile c file → ⊥
seeded_in_no_file c z n file is has = let none : HasFile (Command.seeded z n) file = rw is at has in none

-- a resumed listing misses its cursor, and calls for it
pub misses_cursor : (r : Request) (told : Option Shelved) (n : ℕ) (f cursor : Text) → r.command ≡ Command.resume n f cursor → IsMissing told cursor → MissesCursor r told
misses_cursor r told n f cursor is missing = (cursor, rw is refl, missing)

pub calls_for_cursor : (r : Request) (told : Option Shelved) (n : ℕ) (f cursor : Text) (calls calls_now : Option ℕ) → r.command ≡ Command.resume n f cursor →
    IfSome told (λ files. RisesAtMost (length_of files cursor + 2) calls calls_now) → IfSome told (λ files. RisesAtMost (cursor_calls files r.command) calls calls_now)
calls_for_cursor r None n f cursor calls calls_now is h = tt
calls_for_cursor r (Some files) n f cursor calls calls_now is h = rw is h

-- a command that isn't one for a number has a file
pub has_some_file : (a : Asked) → ((number : ℕ) (size : Size) → a ≡ Asked.Seeded number size → ⊥) → HasNoFile (command_of a) → ⊥
has_some_file (asked.List size file) never none = none file.now refl
has_some_file (asked.Resume size file cursor) never none = none file.now refl
has_some_file (asked.Universe file) never none = none file.now refl
has_some_file (asked.States size file) never none = none file.now refl
has_some_file (asked.Seeded number size) never none = never number size refl

-- no call at all
pub no_calls : (words : List Text) (told : Option Shelved) (calls : Option ℕ) → CallsAsNeeded words told calls calls
no_calls words None calls = tt
no_calls words (Some files) calls = λ needed outcome bytes o. rises_more 0 (calls_for files needed) calls calls (omega arith) (rises_none calls)

-- what is missed of a schema's file and then of a cursor's
pub misses_over : (old between new : ℕ) (M N P : Type 0) → (M → P) → (N → P) → (between ≡ old) ⊎ M → (new ≡ between) ⊎ N → (new ≡ old) ⊎ P
misses_over old between new M N P f g (inl a) (inl b) = inl (b ∙ a)
misses_over old between new M N P f g (inl a) (inr n) = inr (g n)
misses_over old between new M N P f g (inr m) b = inr (f m)
