-- Words and files owe one thing.
use Rattle.std.proofs.Common.{◌≡◌, ℕ, ◌<◌, List, [], ◌∷◌, drop, refl, ap, ap₂, sym, ◌∙◌, arith}
use Rattle.std.specs.Prelude.{Option, None, Some}
use Rattle.std.proofs.lemmas.List.{take-append-drop}
use Rattle.rng_model.specs.Texts.{Text}
use Rattle.rng_model.specs.Patterns.{Schema}
use Rattle.rng_model.specs.Hedges.{Skeleton, IsSkeleton, size}
use Rattle.rng_model.specs.Events.{events}
use Rattle.rng_model.specs.Lines.{skeleton_text}
use Rattle.rng_model.specs.Universe.{Lists}
use Rattle.rng_model.specs.Listing.{IsListed}
use Rattle.line_laws.specs.LineRefusals.{IsText, LineFault, LineRefusal}
use Rattle.outside.specs.Devices.{Shelved}
use Rattle.event_lines.specs.Parts.{universe_text}
use Rattle.listing_laws.specs.Pending.{Asked, Ending, Ends}
use Rattle.listing_laws.specs.StateCounts.{EndsCounting}
use Rattle.list_command.specs.declared.outcome.Outcome.{Outcome}
use Rattle.list_command.specs.declared.outcome.SchemaFault.{SchemaFault}
use Rattle.list_command.specs.declared.outcome.CursorRefusal.{CursorRefusal}
use Rattle.command_words.specs.Words.{Request, Command, HasForm, HasFile}
use Rattle.list_command.specs.Laws.{AreDecided, AreListLaws}
use Rattle.list_command.specs.Texts.{lines}
use Rattle.list_command.specs.Cursors.{LinesRefused, IsStrayAt, line_refusal}
use Rattle.list_command.specs.Owed.{Owes, OwesAccepted, OwesMade, OwesResumed, OwesAfter, asked, outcome_of, state_lines, summed}
use Rattle.list_command.proofs.OneUniverse.{one_universe}
use Rattle.list_command.proofs.Owing.{one_file, file_of, AskOnce, IsOwed, owed_meaning}

pub some_not_none : {X : Type 0} {b : X} {held : Option X} → held ≡ None → held ≡ Some b → ⊥
some_not_none {X} {b} p q = never (sym p ∙ q)
  where
    never : None ≡ Some b → ⊥
    never e = cc

pub same_some : {X : Type 0} {b c : X} {held : Option X} → held ≡ Some b → held ≡ Some c → b ≡ c
same_some {X} {b} {c} p q = let e : Some b ≡ Some c = sym p ∙ q in cc

abbrev pub AreSame : List Text → List Text → Outcome → Outcome → List ℕ → List ℕ → Type 0
AreSame m n o p b c = (m ≡ n) × (o ≡ p) × (b ≡ c)

module _ (laws : AreListLaws) (g : Schema) (u : Lists) (n : ℕ) (r : Request) where
  -- one line of a cursor that isn't listed
  same_line : (c : Skeleton) (k l : ℕ) → IsStrayAt g u c k → IsStrayAt g u c l → k ≡ l
  same_line c k l a b = not_apart (λ less. a.stray (b.first k a.from less)) (λ less. b.stray (a.first l b.from less))
    where
      not_apart : (k < l → ⊥) → (l < k → ⊥) → k ≡ l
      not_apart p q = omega (arith, p, q)

  -- none of one that is
  pub not_stray : (c : Skeleton) (k : ℕ) → IsListed g u n c → IsStrayAt g u c k → ⊥
  not_stray c k listed a = a.stray (record {
    skeleton = c;
    listed = record { skeleton = listed.skeleton; over = listed.over; small = omega arith; matches = listed.matches };
    exact = refl;
    back = drop k (events c);
    is = sym (take-append-drop k (events c));
  })

  same_after : (c : Skeleton) {o p : Outcome} {a b : List ℕ} → OwesAfter g u n c r o a → OwesAfter g u n c r p b → (o ≡ p) × (a ≡ b)
  same_after c (OwesAfter.too_large large) (OwesAfter.too_large also) = (refl, refl)
  same_after c (OwesAfter.too_large large) (OwesAfter.stopped is small more count) = absurd (omega arith)
  same_after c (OwesAfter.too_large large) (OwesAfter.stray small few at) = absurd (omega arith)
  same_after c (OwesAfter.too_large large) (OwesAfter.listing listed few ends outcome is) = let small = listed.small in absurd (omega arith)
  same_after c (OwesAfter.stopped is small more count) (OwesAfter.too_large large) = absurd (omega arith)
  same_after c (OwesAfter.stopped is small more count) (OwesAfter.stopped also again over total) =
      (ap₂ (λ m k. Outcome.StateLimit m k) (is ∙ sym also) (count ∙ sym total), refl)
  same_after c (OwesAfter.stopped is small more count) (OwesAfter.stray again few at) = absurd (few (rw is at more))
  same_after c (OwesAfter.stopped is small more count) (OwesAfter.listing listed few ends outcome bytes) = absurd (few (rw is at more))
  same_after c (OwesAfter.stray small few at) (OwesAfter.too_large large) = absurd (omega arith)
  same_after c (OwesAfter.stray small few at) (OwesAfter.stopped is again more count) = absurd (few (rw is at more))
  same_after c (OwesAfter.stray small few at) (OwesAfter.stray again also other) =
      (ap (λ k. Outcome.CursorRefused (CursorRefusal.CursorStray k)) (same_line c _ _ at other), refl)
  same_after c (OwesAfter.stray small few at) (OwesAfter.listing listed also ends outcome is) = absurd (not_stray c _ listed at)
  same_after c (OwesAfter.listing listed few ends outcome is) (OwesAfter.too_large large) = let small = listed.small in absurd (omega arith)
  same_after c (OwesAfter.listing listed few ends outcome is) (OwesAfter.stopped size small more count) = absurd (few (rw size at more))
  same_after c (OwesAfter.listing listed few ends outcome is) (OwesAfter.stray small also at) = absurd (not_stray c _ listed at)
  same_after c (OwesAfter.listing listed few ends outcome is) (OwesAfter.listing again also other result bytes) =
      let same = laws.ends_once (asked g u n (Some c) r) r.page _ _ _ _ ends other in
      (outcome ∙ ap (outcome_of r.limit) same.0 ∙ sym result, is ∙ ap lines same.1 ∙ sym bytes)

  -- a refused text is no skeleton's
  pub not_refused : {text : List ℕ} {refusal : CursorRefusal} (c : Skeleton) → IsSkeleton c → text ≡ skeleton_text c → LinesRefused text refusal → ⊥
  not_refused {text} c skeleton is (fault, refused, same) = laws.text_or_refused text (c, skeleton, sym is) fault refused

  same_refusal : {text : List ℕ} {a b : CursorRefusal} → LinesRefused text a → LinesRefused text b → a ≡ b
  same_refusal {text} (f, refused, is) (h, also, same) = is ∙ ap line_refusal (laws.refused_once text f h refused also) ∙ sym same

  same_resumed : (text : List ℕ) {o p : Outcome} {a b : List ℕ} → OwesResumed g u n text r o a → OwesResumed g u n text r p b → (o ≡ p) × (a ≡ b)
  same_resumed text (OwesResumed.too_long long) (OwesResumed.too_long also) = (refl, refl)
  same_resumed text (OwesResumed.too_long long) (OwesResumed.no_text short refused) = absurd (omega arith)
  same_resumed text (OwesResumed.too_long long) (OwesResumed.text short skeleton is owes) = absurd (omega arith)
  same_resumed text (OwesResumed.no_text short refused) (OwesResumed.too_long long) = absurd (omega arith)
  same_resumed text (OwesResumed.no_text short refused) (OwesResumed.no_text again also) =
      (ap (λ x. Outcome.CursorRefused x) (same_refusal refused also), refl)
  same_resumed text (OwesResumed.no_text short refused) (OwesResumed.text again skeleton is owes) = absurd (not_refused _ skeleton is refused)
  same_resumed text (OwesResumed.text short skeleton is owes) (OwesResumed.too_long long) = absurd (omega arith)
  same_resumed text (OwesResumed.text short skeleton is owes) (OwesResumed.no_text again refused) = absurd (not_refused _ skeleton is refused)
  same_resumed text (OwesResumed.text {c = c} short skeleton is owes) (OwesResumed.text {c = d} again also same other) =
      let cursor : d ≡ c = laws.text_once d c also skeleton (sym same ∙ is) in
      same_after c owes (rw cursor at other)

module _ (Refuses : List ℕ → SchemaFault → Type 0) (Accepts : List ℕ → Schema → Type 0) (made : ℕ → List ℕ) (summary : List Skeleton → List ℕ) where
  module _ (laws : AreListLaws) (decided : AreDecided Refuses Accepts) (r : Request) (files : Shelved) where
    same_accepted : (g : Schema) (command : Command) {m n : List Text} {o p : Outcome} {b c : List ℕ} →
        OwesAccepted Refuses Accepts files g r command m o b → OwesAccepted Refuses Accepts files g r command n p c → AreSame m n o p b c
    same_accepted g (Command.list n file) (OwesAccepted.list {u = u} are ends outcome is) (OwesAccepted.list {u = v} also other result same) =
        let lists : v ≡ u = one_universe g r.fresh r.texts v u also are in
        let both = laws.ends_once (asked g u n None r) r.page _ _ _ _ ends (rw lists at other) in
        (refl, outcome ∙ ap (outcome_of r.limit) both.0 ∙ sym result, is ∙ ap lines both.1 ∙ sym same)
    same_accepted g (Command.resume n file cursor) (OwesAccepted.no_cursor none) (OwesAccepted.no_cursor also) = (refl, refl, refl)
    same_accepted g (Command.resume n file cursor) (OwesAccepted.no_cursor none) (OwesAccepted.resume are held owes) = absurd (some_not_none none held)
    same_accepted g (Command.resume n file cursor) (OwesAccepted.resume are held owes) (OwesAccepted.no_cursor none) = absurd (some_not_none none held)
    same_accepted g (Command.resume n file cursor) (OwesAccepted.resume {u = u} {text = s} are held owes) (OwesAccepted.resume {u = v} {text = t} also again other) =
        let lists : v ≡ u = one_universe g r.fresh r.texts v u also are in
        let text : t ≡ s = same_some again held in
        let both = same_resumed laws g u n r s owes (rw (lists, text) at other) in
        (refl, both.0, both.1)
    same_accepted g (Command.universe file) (OwesAccepted.universe {u = u} are is) (OwesAccepted.universe {u = v} also same) =
        (refl, refl, is ∙ ap universe_text (one_universe g r.fresh r.texts u v are also) ∙ sym same)
    same_accepted g (Command.states n file) (OwesAccepted.states {u = u} are ends outcome is) (OwesAccepted.states {u = v} also other result same) =
        let lists : v ≡ u = one_universe g r.fresh r.texts v u also are in
        let both = laws.counts_once (asked g u n None r) _ _ _ _ ends (rw lists at other) in
        (refl, outcome ∙ ap (outcome_of r.limit) both.0 ∙ sym result, is ∙ ap (state_lines 1) both.1 ∙ sym same)
    same_accepted g (Command.seeded z n) owes other = elim owes [ ]

    same_made : (z n : ℕ) {o p : Outcome} {b c : List ℕ} →
        OwesMade Refuses Accepts made summary z n r o b → OwesMade Refuses Accepts made summary z n r p c → (o ≡ p) × (b ≡ c)
    same_made z n (OwesMade.refused f) (OwesMade.refused h) = (ap (λ x. Outcome.SchemaRefused x []) (decided.one_fault f h), refl)
    same_made z n (OwesMade.refused f) (OwesMade.listing accepts are ends outcome is) = absurd (decided.not_both f accepts)
    same_made z n (OwesMade.listing accepts are ends outcome is) (OwesMade.refused f) = absurd (decided.not_both f accepts)
    same_made z n (OwesMade.listing {g = g} {u = u} accepts are ends outcome is) (OwesMade.listing {g = h} {u = v} again also other result same) =
        let schema : h ≡ g = decided.one_schema again accepts in
        let lists : v ≡ u = one_universe g r.fresh r.texts v u (rw schema at also) are in
        let both = laws.ends_once (asked g u n None r) r.page _ _ _ _ ends (rw (schema, lists) at other) in
        (outcome ∙ ap (outcome_of r.limit) both.0 ∙ sym result, is ∙ ap₂ (summed Refuses Accepts made summary) both.0 both.1 ∙ sym same)

    -- a schema that is made for a number stands in no file
    pub no_file : {z n : ℕ} (file : Text) → r.command ≡ Command.seeded z n → HasFile r.command file → ⊥
    no_file {z} {n} file asks has = file_of (Command.seeded z n) r.command file (sym asks) has

    pub same_asked : {y z m n : ℕ} → r.command ≡ Command.seeded y m → r.command ≡ Command.seeded z n → (z ≡ y) × (n ≡ m)
    same_asked {y} {z} {m} {n} a b = let e : Command.seeded z n ≡ Command.seeded y m = sym b ∙ a in (cc, cc)

    two_owed : {m n : List Text} {o p : Outcome} {b c : List ℕ} →
        IsOwed Refuses Accepts made summary r files m o b → IsOwed Refuses Accepts made summary r files n p c → AreSame m n o p b c
    two_owed (IsOwed.missing has none) (IsOwed.missing also other) = (ap (λ x. x ∷ []) (one_file r.command _ _ has also), refl, refl)
    two_owed (IsOwed.missing has none) (IsOwed.refused also held f) = absurd (some_not_none none (rw (one_file r.command _ _ also has) at held))
    two_owed (IsOwed.missing has none) (IsOwed.seeded asks owes) = absurd (no_file _ asks has)
    two_owed (IsOwed.missing has none) (IsOwed.accepted also held accepts owes all) = absurd (some_not_none none (rw (one_file r.command _ _ also has) at held))
    two_owed (IsOwed.refused has held f) (IsOwed.missing also none) = absurd (some_not_none none (rw (one_file r.command _ _ has also) at held))
    two_owed (IsOwed.refused has held f) (IsOwed.refused also again h) =
        let file = one_file r.command _ _ also has in
        let bytes = same_some (rw file at again) held in
        (ap (λ x. x ∷ []) (sym file), ap₂ (λ x y. Outcome.SchemaRefused x y) (decided.one_fault f (rw bytes at h)) (sym file), refl)
    two_owed (IsOwed.refused has held f) (IsOwed.seeded asks owes) = absurd (no_file _ asks has)
    two_owed (IsOwed.refused has held f) (IsOwed.accepted also again accepts owes all) =
        let file = one_file r.command _ _ also has in
        let bytes = same_some (rw file at again) held in
        absurd (decided.not_both f (rw bytes at accepts))
    two_owed (IsOwed.seeded asks owes) (IsOwed.missing has none) = absurd (no_file _ asks has)
    two_owed (IsOwed.seeded asks owes) (IsOwed.refused has held f) = absurd (no_file _ asks has)
    two_owed (IsOwed.seeded {z = z} {n = n} asks owes) (IsOwed.seeded also other) =
        let asked = same_asked asks also in
        let both = same_made z n owes (rw (asked.0, asked.1) at other) in
        (refl, both.0, both.1)
    two_owed (IsOwed.seeded asks owes) (IsOwed.accepted has held accepts other all) = absurd (no_file _ asks has)
    two_owed (IsOwed.accepted has held accepts owes all) (IsOwed.missing also none) = absurd (some_not_none none (rw (one_file r.command _ _ has also) at held))
    two_owed (IsOwed.accepted has held accepts owes all) (IsOwed.refused also again f) =
        let file = one_file r.command _ _ also has in
        let bytes = same_some (rw file at again) held in
        absurd (decided.not_both (rw bytes at f) accepts)
    two_owed (IsOwed.accepted has held accepts owes all) (IsOwed.seeded asks other) = absurd (no_file _ asks has)
    two_owed (IsOwed.accepted {g = g} has held accepts owes all) (IsOwed.accepted {g = h} also again accepted other every) =
        let file = one_file r.command _ _ also has in
        let bytes = same_some (rw file at again) held in
        let schema : h ≡ g = decided.one_schema (rw bytes at accepted) accepts in
        let both = same_accepted g r.command owes (rw schema at other) in
        (all ∙ ap₂ (λ x y. x ∷ y) (sym file) both.0 ∙ sym every, both.1, both.2)

  module _ (laws : AreListLaws) (decided : AreDecided Refuses Accepts) (once : AskOnce) (words : List Text) (files : Shelved) where
    with_form : (r : Request) → HasForm words r → {m n : List Text} {o p : Outcome} {b c : List ℕ} →
        Owes Refuses Accepts made summary words files m o b → Owes Refuses Accepts made summary words files n p c → AreSame m n o p b c
    with_form r form v w =
        two_owed laws decided r files (owed_meaning Refuses Accepts made summary once r form v) (owed_meaning Refuses Accepts made summary once r form w)

    pub one_owed : (m n : List Text) (o p : Outcome) (b c : List ℕ) →
        Owes Refuses Accepts made summary words files m o b → Owes Refuses Accepts made summary words files n p c → AreSame m n o p b c
    one_owed m n o p b c (Owes.words none) (Owes.words other) = (refl, refl, refl)
    one_owed m n o p b c (Owes.words none) (Owes.missing {r = r} f has reads) = absurd (none r f)
    one_owed m n o p b c (Owes.words none) (Owes.refused {r = r} f has reads) = absurd (none r f)
    one_owed m n o p b c (Owes.words none) (Owes.seeded {r = r} f asks owes) = absurd (none r f)
    one_owed m n o p b c (Owes.words none) (Owes.accepted {r = r} f has reads owes all) = absurd (none r f)
    one_owed m n o p b c (Owes.missing {r = r} f has reads) w = with_form r f (Owes.missing f has reads) w
    one_owed m n o p b c (Owes.refused {r = r} f has reads) w = with_form r f (Owes.refused f has reads) w
    one_owed m n o p b c (Owes.seeded {r = r} f asks owes) w = with_form r f (Owes.seeded f asks owes) w
    one_owed m n o p b c (Owes.accepted {r = r} f has reads owes all) w = with_form r f (Owes.accepted f has reads owes all) w
