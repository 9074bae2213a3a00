-- Each way in which a run ends.
use Rattle.std.proofs.Common.{◌≡◌, ◌⊎◌, inl, inr, ℕ, ◌+◌, ◌≤◌, List, [], ◌∷◌, refl, ap, sym, arith}
use Rattle.std.specs.Prelude.{Option, None, Some, IfSome}
use Rattle.std.specs.Io.KnownBytes.{Keeps, Appends}
use Rattle.std.proofs.lemmas.List.{append-nil}
use Rattle.std.proofs.lemmas.List.Sums.{sum_by-cons}
use Rattle.rng_model.specs.Texts.{Text}
use Rattle.rng_model.specs.Patterns.{Schema}
use Rattle.outside.specs.Counts.{Rose, RisesAtMost}
use Rattle.outside.specs.Devices.{Shelved, bytes_of, length_of, IsMissing, AreBytesOf, IsLonger, IsFrontOf, AppendsFront}
use Rattle.list_command.specs.declared.outcome.Outcome.{Outcome}
use Rattle.list_command.specs.declared.outcome.SchemaFault.{SchemaFault}
use Rattle.command_words.specs.Words.{Command, Request, HasForm, HasFile}
use Rattle.list_command.specs.Reading.{Reads, calls_for}
use Rattle.list_command.specs.Texts.{lines}
use Rattle.list_command.specs.Owed.{Owes, OwesAccepted}
use Rattle.list_command.specs.Accepting.{Refuses, Accepts}
use Rattle.list_command.specs.Runs.{OwesFor, IsFrontOfOwed, HasWholeSizes, EndsAsOwed, EndsUnread, IsRead, IsReadFaultOwed, CallsAsNeeded}
use Rattle.seeded_schema.specs.Made.{made}
use Rattle.summary.specs.Summary.{summary}
use Rattle.list_command.proofs.Owing.{one_file, file_of, AskOnce, IsOwed, owed_meaning}
use Rattle.list_command.proofs.Listings.{owes_accepted}
use Rattle.list_command.proofs.Rows.{none_below}

-- nothing was written
pub appends_nothing : (taken : Option (List ℕ)) → Appends taken taken []
appends_nothing None = tt
appends_nothing (Some xs) = sym (append-nil xs)

pub keeps_taken : (taken : Option (List ℕ)) → Keeps taken taken
keeps_taken None = tt
keeps_taken (Some xs) = refl

-- no bytes are a front of all
pub nothing_of_owed : (words : List Text) (files : Shelved) → IsFrontOfOwed words files []
nothing_of_owed words files = λ needed outcome bytes o. (bytes, refl)

-- and the texts of those below size 0
pub no_size_of_owed : (words : List Text) (files : Shelved) → HasWholeSizes words files []
no_size_of_owed words files = λ r form writes needed outcome bytes o given are is. (0, sym (ap lines (none_below given)))

-- memory ran out before anything was written
pub ends_unwritten : (words : List Text) (files : Shelved) (taken : Option (List ℕ)) (reads reads_now writes : ℕ) (r : Request) → HasForm words r →
    EndsAsOwed words files taken taken reads reads_now writes writes Outcome.OutOfMemory
ends_unwritten words files taken reads reads_now writes r form =
    EndsAsOwed.out_of_memory [] form (nothing_of_owed words files) (no_size_of_owed words files) (appends_nothing taken)

-- the reading of a file ends
module _ (file : Text) (files : Shelved) (reads reads_now : ℕ) where
  pub unread_memory : EndsUnread file files reads reads_now Outcome.OutOfMemory
  unread_memory words request form has taken writes = ends_unwritten words files taken reads reads_now writes request form

  pub unread_fault : (told : Option Shelved) (more : Type 0) → told ≡ Some files → Rose reads reads_now ⊎ (IsMissing told file × more) →
      EndsUnread file files reads reads_now Outcome.ReadFault
  unread_fault told more is (inl rose) words request form has taken writes = EndsAsOwed.read_fault rose (keeps_taken taken)
  unread_fault told more is (inr (none, _)) words request form has taken writes =
      let missing : bytes_of files file ≡ None = rw is at none in
      EndsAsOwed.owed (Owes.missing form has (Reads.missing missing)) (appends_nothing taken)

  pub unread_refused : (fault : SchemaFault) (bytes : List ℕ) (outcome : Outcome) → bytes_of files file ≡ Some bytes → Refuses bytes fault →
      (outcome ≡ Outcome.SchemaRefused fault file) ⊎ (outcome ≡ Outcome.OutOfMemory) → EndsUnread file files reads reads_now outcome
  unread_refused fault bytes outcome held refuses (inl is) words request form has taken writes =
      rw is (EndsAsOwed.owed (Owes.refused form has (Reads.refused held refuses)) (appends_nothing taken))
  unread_refused fault bytes outcome held refuses (inr is) words request form has taken writes = rw is (unread_memory words request form has taken writes)

-- what is told of a file that is too long
pub too_long : (told : Option Shelved) (files : Shelved) (file : Text) → told ≡ Some files → IsLonger told file 1048576 →
    (bytes : List ℕ) × (bytes_of files file ≡ Some bytes) × Refuses bytes SchemaFault.TooLong
too_long told files file is long = let h : IsLonger (Some files) file 1048576 = rw is at long in (h.0, h.1, Refuses.too_long h.2)

pub held_bytes : (told : Option Shelved) (files : Shelved) (file : Text) (bytes : List ℕ) → told ≡ Some files → AreBytesOf told file bytes → bytes_of files file ≡ Some bytes
held_bytes told files file bytes is h = rw is at h

-- a schema's file that isn't held is owed a read fault
pub owes_missing : (words : List Text) (request : Request) (file : Text) (told : Option Shelved) → HasForm words request → HasFile request.command file → IsMissing told file → IsReadFaultOwed words told
owes_missing words request file None form has none = elim none [ ]
owes_missing words request file (Some files) form has none = (file ∷ [], Owes.missing form has (Reads.missing none))

-- and so is a cursor's, where the schema is accepted
pub owes_missing_cursor : (words : List Text) (r : Request) (n : ℕ) (file cursor : Text) (g : Schema) (files : Shelved) → HasForm words r → r.command ≡ Command.resume n file cursor →
    IsRead file files g → bytes_of files cursor ≡ None → OwesFor words files (file ∷ cursor ∷ []) Outcome.ReadFault []
owes_missing_cursor words r n file cursor g files form asks read none =
    owes_accepted words files r file g (Command.resume n file cursor) form asks refl read (OwesAccepted.no_cursor none)

-- calls in all
pub rises_more : (a b : ℕ) (calls now : Option ℕ) → a ≤ b → RisesAtMost a calls now → RisesAtMost b calls now
rises_more a b calls None less h = tt
rises_more a b None (Some n) less h = elim h [ ]
rises_more a b (Some m) (Some n) less h = omega arith

pub rises_both : (a b : ℕ) (calls between now : Option ℕ) → RisesAtMost a calls between → RisesAtMost b between now → RisesAtMost (a + b) calls now
rises_both a b calls between None h k = tt
rises_both a b calls None (Some n) h k = elim k [ ]
rises_both a b None (Some l) (Some n) h k = elim h [ ]
rises_both a b (Some m) (Some l) (Some n) h k = omega arith

module _ (once : AskOnce) (words : List Text) (r : Request) (form : HasForm words r) where
  -- those for the schema's file alone
  pub calls_as_needed : (file : Text) (told : Option Shelved) (calls calls_now : Option ℕ) → HasFile r.command file →
      IfSome told (λ files. RisesAtMost (length_of files file + 2) calls calls_now) → CallsAsNeeded words told calls calls_now
  calls_as_needed file None calls calls_now has h = tt
  calls_as_needed file (Some files) calls calls_now has h = λ needed outcome bytes o. go (owed_meaning Refuses Accepts made summary once r form o)
    where
      enough : (name : Text) (more : List Text) → HasFile r.command name → RisesAtMost (calls_for files (name ∷ more)) calls calls_now
      enough name more also =
          let same : name ≡ file = one_file r.command _ _ also has in
          rises_more (length_of files file + 2) (calls_for files (name ∷ more)) calls calls_now (rw (same, sum_by-cons (λ n. length_of files n + 2) file more) (omega arith)) h

      go : {needed : List Text} {outcome : Outcome} {bytes : List ℕ} → IsOwed Refuses Accepts made summary r files needed outcome bytes →
          RisesAtMost (calls_for files needed) calls calls_now
      go (IsOwed.missing also none) = enough _ [] also
      go (IsOwed.refused also held f) = enough _ [] also
      go (IsOwed.seeded asks owes) = absurd (file_of _ r.command _ (sym asks) has)
      go (IsOwed.accepted {further = further} also held accepts owes all) = rw all (enough _ further also)

-- words and files owe one thing
abbrev pub OneIsOwed : Type 0
OneIsOwed = (words : List Text) (files : Shelved) (m n : List Text) (o p : Outcome) (b c : List ℕ) →
    OwesFor words files m o b → OwesFor words files n p c → (m ≡ n) × (o ≡ p) × (b ≡ c)

module _ (words : List Text) (files : Shelved) (taken taken_now : Option (List ℕ)) (reads reads_now writes writes_now : ℕ)
    {needed : List Text} {outcome : Outcome} (text written : List ℕ) (owes : OwesFor words files needed outcome text) (is : written ≡ text) where
  -- all that is owed was written
  pub ends_written : Appends taken taken_now written → EndsAsOwed words files taken taken_now reads reads_now writes writes_now outcome
  ends_written grown = EndsAsOwed.owed owes (rw is at grown)

  -- a front of it was written
  pub ends_cut : OneIsOwed → Rose writes writes_now → AppendsFront taken taken_now written → EndsAsOwed words files taken taken_now reads reads_now writes writes_now Outcome.WriteFault
  ends_cut one rose grown = go taken taken_now refl refl grown
    where
      front_of_owed : (front : List ℕ) → IsFrontOf front written → IsFrontOfOwed words files front
      front_of_owed front is_front = λ more other bytes o. let same = one words files more needed other outcome bytes text o owes in rw (same.2, ← is) is_front

      go : (old new : Option (List ℕ)) → taken ≡ old → taken_now ≡ new → AppendsFront old new written → EndsAsOwed words files taken taken_now reads reads_now writes writes_now Outcome.WriteFault
      go None new p q h = EndsAsOwed.write_fault [] rose (nothing_of_owed words files) (rw p tt)
      go (Some xs) None p q h = elim h [ ]
      go (Some xs) (Some ys) p q (front, is_front, grown) = EndsAsOwed.write_fault front rose (front_of_owed front is_front) (rw (p, q) grown)
