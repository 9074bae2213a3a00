-- Where a schema is accepted, and what is so of the one that was read is so of it.
use Rattle.std.proofs.Common.{◌≡◌, ◌⊎◌, inl, inr, ℕ, List, [], refl, sym, ◌∙◌, subst}
use Rattle.std.specs.Prelude.{Some}
use Rattle.rng_model.specs.Texts.{Text}
use Rattle.rng_model.specs.Patterns.{Schema}
use Rattle.outside.specs.Devices.{Shelved, bytes_of}
use Rattle.seeded_schema.specs.Made.{made}
use Rattle.summary.specs.Summary.{summary}
use Rattle.command_words.specs.Words.{Request, Command, HasForm, HasFile}
use Rattle.list_command.specs.declared.outcome.Outcome.{Outcome}
use Rattle.list_command.specs.declared.outcome.SchemaFault.{SchemaFault}
use Rattle.list_command.specs.Accepting.{Refuses, Accepts}
use Rattle.list_command.specs.Laws.{AreDecided}
use Rattle.list_command.specs.Owed.{OwesAccepted, OwesResumed, OwesAfter, OwesMade, outcome_of}
use Rattle.list_command.specs.Runs.{OwesFor, IsRead, IsSchemaOf}
use Rattle.list_command.specs.Ticks.{ListsUpTo, CountsAccepted, SumsWithin, MadeWithin}
use Rattle.listing_laws.specs.Pending.{Ending}
use Rattle.list_command.proofs.Owing.{one_file, AskOnce, IsOwed, owed_meaning}
use Rattle.list_command.proofs.OneOwed.{same_some}
use Rattle.list_command.proofs.Calls.{seeded_in_no_file}

-- what the words of a command write up to
pub lists_to : (c : Command) (m n : ℕ) (file : Text) → c ≡ Command.list m file → ListsUpTo c n → m ≡ n
lists_to c m n file is up = let it : ListsUpTo (Command.list m file) n = subst (λ d. ListsUpTo d n) is up in it

pub resumes_to : (c : Command) (m n : ℕ) (file cursor : Text) → c ≡ Command.resume m file cursor → ListsUpTo c n → m ≡ n
resumes_to c m n file cursor is up = let it : ListsUpTo (Command.resume m file cursor) n = subst (λ d. ListsUpTo d n) is up in it

pub universe_to : (c : Command) (n : ℕ) (file : Text) → c ≡ Command.universe file → ListsUpTo c n → ⊥
universe_to c n file is up = let it : ListsUpTo (Command.universe file) n = subst (λ d. ListsUpTo d n) is up in it

pub states_to : (c : Command) (m n : ℕ) (file : Text) → c ≡ Command.states m file → ListsUpTo c n → ⊥
states_to c m n file is up = let it : ListsUpTo (Command.states m file) n = subst (λ d. ListsUpTo d n) is up in it

pub seeded_to : (c : Command) (z m n : ℕ) → c ≡ Command.seeded z m → ListsUpTo c n → ⊥
seeded_to c z m n is up = let it : ListsUpTo (Command.seeded z m) n = subst (λ d. ListsUpTo d n) is up in it

-- the schema of a command's file is the one that was read
pub schema_read : AreDecided Refuses Accepts → (c : Command) (files : Shelved) (file : Text) (g h : Schema) → HasFile c file → IsRead file files g → IsSchemaOf files h c → g ≡ h
schema_read decided c files file g h has read (IsSchemaOf.in_file other {bytes = bytes} also held accepts) =
    let here = subst (λ f. bytes_of files f ≡ Some bytes) (one_file c other file also has) held in
    decided.one_schema read.2 (subst (λ b. Accepts b h) (same_some here read.1) accepts)
schema_read decided c files file g h has read (IsSchemaOf.for_number {z = z} {n = n} asks accepts) = absurd (seeded_in_no_file c z n file asks has)

-- no words are refused whose schema is accepted
module _ (files : Shelved) (g : Schema) (r : Request) (fault : SchemaFault) (name : Text) where
  ending_not_refused : (limit : ℕ) (e : Ending) → Outcome.SchemaRefused fault name ≡ outcome_of limit e → ⊥
  ending_not_refused limit Ending.full is = absurd (cc)
  ending_not_refused limit (Ending.stopped m) is = absurd (cc)
  ending_not_refused limit Ending.whole is = absurd (cc)

  after_not_refused : {u : _} {n : ℕ} {c : _} {o : Outcome} {b : List ℕ} → OwesAfter g u n c r o b → o ≡ Outcome.SchemaRefused fault name → ⊥
  after_not_refused (OwesAfter.too_large large) is = absurd (cc)
  after_not_refused (OwesAfter.stopped size small more count) is = absurd (cc)
  after_not_refused (OwesAfter.stray small few stray) is = absurd (cc)
  after_not_refused (OwesAfter.listing {ending = e} listed few ends outcome bytes) is = ending_not_refused r.limit e (sym is ∙ outcome)

  resumed_not_refused : {u : _} {n : ℕ} {text : List ℕ} {o : Outcome} {b : List ℕ} → OwesResumed g u n text r o b → o ≡ Outcome.SchemaRefused fault name → ⊥
  resumed_not_refused (OwesResumed.too_long long) is = absurd (cc)
  resumed_not_refused (OwesResumed.no_text short refused) is = absurd (cc)
  resumed_not_refused (OwesResumed.text short skeleton same owes) is = after_not_refused owes is

  accepted_not_refused : (command : Command) {further : List Text} {o : Outcome} {b : List ℕ} → OwesAccepted Refuses Accepts files g r command further o b →
      o ≡ Outcome.SchemaRefused fault name → ⊥
  accepted_not_refused (Command.list n file) (OwesAccepted.list {ending = e} are ends outcome bytes) is = ending_not_refused r.limit e (sym is ∙ outcome)
  accepted_not_refused (Command.resume n file cursor) (OwesAccepted.no_cursor none) is = absurd (cc)
  accepted_not_refused (Command.resume n file cursor) (OwesAccepted.resume are held owes) is = resumed_not_refused owes is
  accepted_not_refused (Command.universe file) (OwesAccepted.universe are bytes) is = absurd (cc)
  accepted_not_refused (Command.states n file) (OwesAccepted.states {ending = e} are ends outcome bytes) is = ending_not_refused r.limit e (sym is ∙ outcome)
  accepted_not_refused (Command.seeded z n) owes is = elim owes [ ]

module _ (decided : AreDecided Refuses Accepts) (files : Shelved) (g : Schema) (r : Request) (fault : SchemaFault) (name : Text) where
  file_not_refused : (file : Text) (bytes : List ℕ) (f : SchemaFault) → HasFile r.command file → bytes_of files file ≡ Some bytes → Refuses bytes f →
      IsSchemaOf files g r.command → ⊥
  file_not_refused file bytes f has held refuses (IsSchemaOf.in_file other {bytes = others} also again accepts) =
      let here = subst (λ k. bytes_of files k ≡ Some others) (one_file r.command other file also has) again in
      decided.not_both refuses (subst (λ b. Accepts b g) (same_some here held) accepts)
  file_not_refused file bytes f has held refuses (IsSchemaOf.for_number {z = z} {n = n} asks accepts) = seeded_in_no_file r.command z n file asks has

  made_not_refused : {z n : ℕ} {o : Outcome} {b : List ℕ} → r.command ≡ Command.seeded z n → OwesMade Refuses Accepts made summary z n r o b →
      o ≡ Outcome.SchemaRefused fault name → IsSchemaOf files g r.command → ⊥
  made_not_refused {z} {n} asks owes is (IsSchemaOf.in_file file has held accepts) = seeded_in_no_file r.command z n file asks has
  made_not_refused {z} {n} asks (OwesMade.refused {fault = f} refuses) is (IsSchemaOf.for_number {z = y} {n = m} also accepts) =
      let command : Command.seeded z n ≡ Command.seeded y m = sym asks ∙ also in
      let number : z ≡ y = cc in
      decided.not_both (subst (λ k. Refuses (made k) f) number refuses) accepts
  made_not_refused asks (OwesMade.listing {ending = e} accepts are ends outcome bytes) is (IsSchemaOf.for_number also again) =
      ending_not_refused files g r fault name r.limit e (sym is ∙ outcome)

  owed_not_refused : {needed : List Text} {o : Outcome} {b : List ℕ} → IsOwed Refuses Accepts made summary r files needed o b →
      o ≡ Outcome.SchemaRefused fault name → IsSchemaOf files g r.command → ⊥
  owed_not_refused (IsOwed.missing has none) is schema = absurd (cc)
  owed_not_refused (IsOwed.refused {file = file} {bytes = bytes} {fault = f} has held refuses) is schema = file_not_refused file bytes f has held refuses schema
  owed_not_refused (IsOwed.seeded asks owes) is schema = made_not_refused asks owes is schema
  owed_not_refused (IsOwed.accepted {g = h} has held accepts owes all) is schema = accepted_not_refused files h r fault name r.command owes is

-- steps are counted only where the schema is accepted, and so none where it is refused
pub unrefused : AreDecided Refuses Accepts → AskOnce → (words : List Text) (files : Shelved) (r : Request) → HasForm words r → (ticks ticks_now : ℕ) →
    CountsAccepted ticks ticks_now r files → (needed : List Text) (fault : SchemaFault) (name : Text) →
    OwesFor words files needed (Outcome.SchemaRefused fault name) [] → ticks_now ≡ ticks
unrefused decided once words files r form ticks ticks_now (inl same) needed fault name owes = same
unrefused decided once words files r form ticks ticks_now (inr (g, schema)) needed fault name owes =
    absurd (owed_not_refused decided files g r fault name (owed_meaning Refuses Accepts made summary once r form owes) refl schema)

-- what was made for the number
module _ (r : Request) (number size : ℕ) (is : r.command ≡ Command.seeded number size) (ticks ticks_now : ℕ) where
  pub made_within : (outcome : Outcome) → ((g : Schema) → Accepts (made number) g → SumsWithin ticks ticks_now g r size outcome) → MadeWithin ticks ticks_now r outcome
  made_within outcome within z n g asks accepts =
      let command : Command.seeded number size ≡ Command.seeded z n = sym is ∙ asks in
      let same_number : number ≡ z = cc in
      let same_size : size ≡ n = cc in
      subst (λ k. SumsWithin ticks ticks_now g r k outcome) same_size (within g (subst (λ k. Accepts (made k) g) (sym same_number) accepts))

module _ (r : Request) (files : Shelved) (number size : ℕ) (is : r.command ≡ Command.seeded number size) (ticks ticks_now : ℕ) where
  pub made_accepted : (ticks_now ≡ ticks) ⊎ ((g : Schema) × Accepts (made number) g) → CountsAccepted ticks ticks_now r files
  made_accepted (inl same) = inl same
  made_accepted (inr (g, accepts)) = inr (g, IsSchemaOf.for_number is accepts)
