-- Codes that lead to a nullable pattern are the codes of a skeleton: first, that they can be read so.
use Rattle.std.proofs.Common.{◌≡◌, ℕ, zero, suc, ◌+◌, ◌≤◌, inl, inr, List, [], ◌∷◌, refl, ◌∙◌, ap, Bool, true, false, not, IsTrue, get_or, nat_le, rules, Option, Some, None, slice_get}
use Rattle.std.specs.Prelude.{⊤}
use Rattle.std.specs.List.{AllByRecursion}
use Rattle.rng_model.specs.Texts.{Text, is_white}
use Rattle.rng_model.specs.Names.{Name}
use Rattle.rng_model.specs.Patterns.{HasNoAfter, Pattern, Schema, Definition, not_allowed, empty, text, ref, value, data_type, data_except, attribute, one_or_more, choice, group, interleave, after}
use Rattle.rng_model.specs.Constructors.{choice_of, after_of}
use Rattle.rng_model.specs.Universe.{Lists}
use Rattle.rng_model.specs.Inside.{Within}
use Rattle.rng_model.specs.Restrictions.{IsNoStart}
use Rattle.rng_model.specs.Matching.{nullable}
use Rattle.rng_model.specs.Derivatives.{where_true, text_step, attribute_step, opening, close, ending, element_step}
use Rattle.rng_model.specs.Codes.{Code, IsInRange}
use Rattle.rng_model.specs.States.{Place, Tag, Fresh, AfterText, AfterElement, State, step, steps}
use Rattle.derivative_laws.proofs.ChoiceLaw.{IsAll_of, choice_of-all}
use Rattle.derivative_laws.proofs.Spines.{SpineOf, spine_all, text_members, attribute_members, close_members, spine_step, spine_ending, spine_opening_of}

-- what is left after the root: nothing, or no match
abbrev pub IsDone : Pattern → Type 0
IsDone not_allowed = ⊤
IsDone empty = ⊤
IsDone (choice p q) = IsDone p × IsDone q
IsDone _ = ⊥

-- what a start pattern is: references
abbrev pub AreRefs : Pattern → Type 0
AreRefs not_allowed = ⊤
AreRefs (ref d) = ⊤
AreRefs (choice p q) = AreRefs p × AreRefs q
AreRefs _ = ⊥

-- inside d elements
abbrev pub Depth : ℕ → Pattern → Type 0
Depth zero p = IsDone p
Depth (suc d) p = SpineOf (Depth d) p

done_all : IsAll_of IsDone
done_all = record { always = tt; first = λ p q h. h.0; second = λ p q h. h.1; from = λ p q h k. (h, k) }

depth_all : (d : ℕ) → IsAll_of (Depth d)
depth_all zero = done_all
depth_all (suc d) = spine_all (Depth d)

-- restriction 6
pub start_refs : (p : Pattern) → HasNoAfter p → (Within IsNoStart p → ⊥) → AreRefs p
start_refs not_allowed n f = tt
start_refs (ref d) n f = tt
start_refs (choice p q) n f = (start_refs p n.0 (λ h. f (inl h)), start_refs q n.1 (λ h. f (inr h)))
start_refs empty n f = absurd (f tt)
start_refs text n f = absurd (f tt)
start_refs (value k v) n f = absurd (f tt)
start_refs (data_type k) n f = absurd (f tt)
start_refs (data_except k e) n f = absurd (f (inl tt))
start_refs (attribute c p) n f = absurd (f (inl tt))
start_refs (one_or_more p) n f = absurd (f (inl tt))
start_refs (group p q) n f = absurd (f (inl tt))
start_refs (interleave p q) n f = absurd (f (inl tt))
start_refs (after p q) n f = absurd n

choice_nothing : (p q : Pattern) → p ≡ not_allowed → q ≡ not_allowed → choice_of p q ≡ not_allowed
unfolding choice_of
choice_nothing p q e f = rw (e, f) refl

-- after the root nothing follows
done_opening : (g : Schema) (n : Name) (p : Pattern) → IsDone p → opening g n p ≡ not_allowed
unfolding opening
done_opening g n (choice p q) h = choice_nothing _ _ (done_opening g n p h.0) (done_opening g n q h.1)
done_opening g n not_allowed h = refl
done_opening g n empty h = refl
done_opening g n p h = absurd h

done_text : (s : Text) (p : Pattern) → IsDone p → text_step s p ≡ not_allowed
unfolding text_step
done_text s (choice p q) h = choice_nothing _ _ (done_text s p h.0) (done_text s q h.1)
done_text s not_allowed h = refl
done_text s empty h = refl
done_text s p h = absurd h

done_ending : (p : Pattern) → IsDone p → ending p ≡ not_allowed
unfolding ending
done_ending (choice p q) h = choice_nothing _ _ (done_ending p h.0) (done_ending q h.1)
done_ending not_allowed h = refl
done_ending empty h = refl
done_ending p h = absurd h

-- before the root nothing but an element comes
refs_text : (s : Text) (p : Pattern) → AreRefs p → text_step s p ≡ not_allowed
unfolding text_step
refs_text s (choice p q) h = choice_nothing _ _ (refs_text s p h.0) (refs_text s q h.1)
refs_text s not_allowed h = refl
refs_text s (ref d) h = refl
refs_text s p h = absurd h

refs_all : IsAll_of AreRefs
refs_all = record { always = tt; first = λ p q h. h.0; second = λ p q h. h.1; from = λ p q h k. (h, k) }

refs_ending : (p : Pattern) → AreRefs p → ending p ≡ not_allowed
unfolding ending
refs_ending (choice p q) h = choice_nothing _ _ (refs_ending p h.0) (refs_ending q h.1)
refs_ending not_allowed h = refl
refs_ending (ref d) h = refl
refs_ending p h = absurd h

refs_nullable : (p : Pattern) → AreRefs p → nullable p ≡ false
unfolding nullable
refs_nullable (choice p q) h = rw (refs_nullable p h.0, refs_nullable q h.1) refl
refs_nullable not_allowed h = refl
refs_nullable (ref d) h = refl
refs_nullable p h = absurd h

spine_nullable : (K : Pattern → Type 0) (p : Pattern) → SpineOf K p → nullable p ≡ false
unfolding nullable
spine_nullable K (choice p q) h = rw (spine_nullable K p h.0, spine_nullable K q h.1) refl
spine_nullable K not_allowed h = refl
spine_nullable K (after x y) h = refl
spine_nullable K p h = absurd h

spine_where : (K : Pattern → Type 0) (b : Bool) (p : Pattern) → SpineOf K p → SpineOf K (where_true b p)
spine_where K true p h = h
spine_where K false p h = tt

spine_after : (K : Pattern → Type 0) (x y : Pattern) → K y → SpineOf K (after_of x y)
spine_after K not_allowed y k = tt
spine_after K x not_allowed k = tt
spine_after K x y k = k

root_element : (n : Name) (o : Option Definition) → SpineOf IsDone (element_step n o)
root_element n None = tt
root_element n (Some e) = spine_where IsDone _ (after_of e.content empty) (spine_after IsDone e.content empty tt)

root_opening : (g : Schema) (n : Name) (p : Pattern) → AreRefs p → SpineOf IsDone (opening g n p)
unfolding opening
root_opening g n (choice p q) h = choice_of-all (SpineOf IsDone) (spine_all IsDone) _ _ (root_opening g n p h.0) (root_opening g n q h.1)
root_opening g n not_allowed h = tt
root_opening g n (ref d) h = root_element n (slice_get g.elements d)
root_opening g n p h = absurd h

where_nothing : (b : Bool) → where_true b not_allowed ≡ not_allowed
where_nothing true = refl
where_nothing false = refl

module _ (g : Schema) where
  -- inside an element, an opening goes one deeper
  depth_opening : (n : Name) (d : ℕ) (p : Pattern) → Depth (suc d) p → Depth (suc (suc d)) (opening g n p)
  depth_opening n d p h = spine_opening_of g n (Depth d) p h

  module _ (u : Lists) where
    -- no match stays so
    pub nothing_step : (pl : Place) (c : Code) → (step g u (record { place = pl; pattern = not_allowed }) c).pattern ≡ not_allowed
    unfolding opening attribute_step text_step close ending choice_of
    nothing_step (Tag k) (Code.Opening i) = refl
    nothing_step Fresh (Code.Opening i) = refl
    nothing_step AfterText (Code.Opening i) = refl
    nothing_step AfterElement (Code.Opening i) = refl
    nothing_step (Tag k) (Code.Attr j s) = where_nothing (nat_le k j)
    nothing_step Fresh (Code.Attr j s) = refl
    nothing_step AfterText (Code.Attr j s) = refl
    nothing_step AfterElement (Code.Attr j s) = refl
    nothing_step (Tag k) Code.Body = refl
    nothing_step Fresh Code.Body = refl
    nothing_step AfterText Code.Body = refl
    nothing_step AfterElement Code.Body = refl
    nothing_step (Tag k) (Code.Chars s) = refl
    nothing_step Fresh (Code.Chars s) = where_nothing _
    nothing_step AfterText (Code.Chars s) = refl
    nothing_step AfterElement (Code.Chars s) = where_nothing _
    nothing_step (Tag k) Code.Closing = refl
    nothing_step Fresh Code.Closing = refl
    nothing_step AfterText Code.Closing = refl
    nothing_step AfterElement Code.Closing = refl

    pub nothing_accepts : (cs : List Code) (s : State) → s.pattern ≡ not_allowed → IsTrue (nullable (steps g u s cs).pattern) → ⊥
    unfolding nullable
    nothing_accepts [] s e h = let f : nullable s.pattern ≡ false = rw e refl in absurd (cc)
    nothing_accepts (c ∷ cs) s e h =
        let f : s ≡ record { place = s.place; pattern = not_allowed } = λ i. record { place = s.place; pattern = e i } in
        nothing_accepts cs (step g u s c) (ap (λ x. (step g u x c).pattern) f ∙ nothing_step s.place c) h

    abbrev at : Place → Pattern → State
    at pl v = record { place = pl; pattern = v }

    -- the codes can be read as the rest of d open elements, from the place
    abbrev pub Reads : ℕ → Place → List Code → Type 0
    Reads zero pl cs = cs ≡ []
    Reads (suc d) pl [] = ⊥
    Reads (suc d) (Tag k) (Code.Attr j s ∷ cs) = (k ≤ j) × IsInRange u (Code.Attr j s) × Reads (suc d) (Tag (j + 1)) cs
    Reads (suc d) (Tag k) (Code.Body ∷ cs) = Reads (suc d) Fresh cs
    Reads (suc d) Fresh (Code.Opening i ∷ cs) = IsInRange u (Code.Opening i) × Reads (suc (suc d)) (Tag 0) cs
    Reads (suc d) AfterText (Code.Opening i ∷ cs) = IsInRange u (Code.Opening i) × Reads (suc (suc d)) (Tag 0) cs
    Reads (suc d) AfterElement (Code.Opening i ∷ cs) = IsInRange u (Code.Opening i) × Reads (suc (suc d)) (Tag 0) cs
    Reads (suc d) Fresh (Code.Chars s ∷ cs) = IsInRange u (Code.Chars s) × (is_white (get_or u.atoms s []) ≡ false) × Reads (suc d) AfterText cs
    Reads (suc d) AfterElement (Code.Chars s ∷ cs) = IsInRange u (Code.Chars s) × (is_white (get_or u.atoms s []) ≡ false) × Reads (suc d) AfterText cs
    Reads (suc d) Fresh (Code.Closing ∷ cs) = Reads d AfterElement cs
    Reads (suc d) AfterText (Code.Closing ∷ cs) = Reads d AfterElement cs
    Reads (suc d) AfterElement (Code.Closing ∷ cs) = Reads d AfterElement cs
    Reads (suc d) _ _ = ⊥

    abbrev pub Accepts : Place → Pattern → List Code → Type 0
    Accepts pl v cs = IsTrue (nullable (steps g u (at pl v) cs).pattern)

    -- after the root
    done_ends : (v : Pattern) → IsDone v → (cs : List Code) → Accepts AfterElement v cs → cs ≡ []
    done_ends v d [] h = refl
    done_ends v d (Code.Opening i ∷ cs) h = absurd (nothing_accepts cs (step g u (at AfterElement v) (Code.Opening i)) (done_opening g _ v d) h)
    done_ends v d (Code.Attr j s ∷ cs) h = absurd (nothing_accepts cs (step g u (at AfterElement v) (Code.Attr j s)) refl h)
    done_ends v d (Code.Body ∷ cs) h = absurd (nothing_accepts cs (step g u (at AfterElement v) Code.Body) refl h)
    done_ends v d (Code.Chars s ∷ cs) h =
        absurd (nothing_accepts cs (step g u (at AfterElement v) (Code.Chars s)) (ap (where_true _) (done_text _ v d) ∙ where_nothing _) h)
    done_ends v d (Code.Closing ∷ cs) h = absurd (nothing_accepts cs (step g u (at AfterElement v) Code.Closing) (done_ending v d) h)

    depth_text : (s : Text) (d : ℕ) (v : Pattern) → Depth (suc d) v → Depth (suc d) (text_step s v)
    depth_text s d v h = spine_step (text_step s) (text_members s) (Depth d) v h

    depth_end : (d : ℕ) (v : Pattern) → Depth (suc d) v → Depth d (ending v)
    depth_end d v h = spine_ending (Depth d) (depth_all d) v h

    depth_or : (d : ℕ) (v : Pattern) → Depth (suc d) v → Depth (suc d) (choice_of v (text_step [] v))
    depth_or d v h = choice_of-all (SpineOf (Depth d)) (spine_all (Depth d)) v (text_step [] v) h (depth_text [] d v h)

    by_test : (b : Bool) (x : Pattern) (pl : Place) (cs : List Code) → Accepts pl (where_true b x) cs → (b ≡ true) × Accepts pl x cs
    by_test true x pl cs h = (refl, h)
    by_test false x pl cs h = absurd (nothing_accepts cs (at pl not_allowed) refl h)

    true_le : (k j : ℕ) → nat_le k j ≡ true → k ≤ j
    true_le k j h = search (rules)

    true_not : (b : Bool) → not b ≡ true → b ≡ false
    true_not true h = absurd (cc)
    true_not false h = refl

    -- codes that accept can be read
    abbrev ReadsLaw : List Code → Type 0
    ReadsLaw cs = (d : ℕ) (pl : Place) (v : Pattern) → Depth (suc d) v → Accepts pl v cs → AllByRecursion (IsInRange u) cs → Reads (suc d) pl cs

    after_end : (cs : List Code) → ReadsLaw cs → (d : ℕ) (v : Pattern) → Depth d v → Accepts AfterElement v cs → AllByRecursion (IsInRange u) cs → Reads d AfterElement cs
    after_end cs law zero v dv h r = done_ends v dv cs h
    after_end cs law (suc d) v dv h r = law d AfterElement v dv h r

    read_text : (cs : List Code) → ReadsLaw cs → (d : ℕ) (v : Pattern) (s : ℕ) → Depth (suc d) v → Accepts AfterText (where_true (not (is_white (get_or u.atoms s []))) (text_step (get_or u.atoms s []) v)) cs →
        AllByRecursion (IsInRange u) cs → (is_white (get_or u.atoms s []) ≡ false) × Reads (suc d) AfterText cs
    read_text cs law d v s dv h r =
        let t = by_test _ _ AfterText cs h in (true_not _ t.0, law d AfterText (text_step (get_or u.atoms s []) v) (depth_text _ d v dv) t.1 r)

    pub reads_law : (cs : List Code) → ReadsLaw cs
    reads_law [] d pl v dv h r = let e = spine_nullable (Depth d) v dv in absurd (cc)
    reads_law (Code.Attr j s ∷ cs) d (Tag k) v dv h r =
        let t = by_test (nat_le k j) _ (Tag (j + 1)) cs h in
        (true_le k j t.0, r.0, reads_law cs d (Tag (j + 1)) _ (spine_step (attribute_step _ _) (attribute_members _ _) (Depth d) v dv) t.1 r.1)
    reads_law (Code.Body ∷ cs) d (Tag k) v dv h r = reads_law cs d Fresh (close v) (spine_step close close_members (Depth d) v dv) h r.1
    reads_law (Code.Opening i ∷ cs) d Fresh v dv h r = (r.0, reads_law cs (suc d) (Tag 0) _ (depth_opening _ d v dv) h r.1)
    reads_law (Code.Opening i ∷ cs) d AfterText v dv h r = (r.0, reads_law cs (suc d) (Tag 0) _ (depth_opening _ d v dv) h r.1)
    reads_law (Code.Opening i ∷ cs) d AfterElement v dv h r = (r.0, reads_law cs (suc d) (Tag 0) _ (depth_opening _ d v dv) h r.1)
    reads_law (Code.Chars s ∷ cs) d Fresh v dv h r = let t = read_text cs (reads_law cs) d v s dv h r.1 in (r.0, t.0, t.1)
    reads_law (Code.Chars s ∷ cs) d AfterElement v dv h r = let t = read_text cs (reads_law cs) d v s dv h r.1 in (r.0, t.0, t.1)
    reads_law (Code.Closing ∷ cs) d Fresh v dv h r = after_end cs (reads_law cs) d _ (depth_end d _ (depth_or d v dv)) h r.1
    reads_law (Code.Closing ∷ cs) d AfterText v dv h r = after_end cs (reads_law cs) d _ (depth_end d v dv) h r.1
    reads_law (Code.Closing ∷ cs) d AfterElement v dv h r = after_end cs (reads_law cs) d _ (depth_end d v dv) h r.1
    reads_law (Code.Opening i ∷ cs) d (Tag k) v dv h r = absurd (nothing_accepts cs (at Fresh not_allowed) refl h)
    reads_law (Code.Chars s ∷ cs) d (Tag k) v dv h r = absurd (nothing_accepts cs (at Fresh not_allowed) refl h)
    reads_law (Code.Closing ∷ cs) d (Tag k) v dv h r = absurd (nothing_accepts cs (at Fresh not_allowed) refl h)
    reads_law (Code.Chars s ∷ cs) d AfterText v dv h r = absurd (nothing_accepts cs (at Fresh not_allowed) refl h)
    reads_law (Code.Attr j s ∷ cs) d Fresh v dv h r = absurd (nothing_accepts cs (at Fresh not_allowed) refl h)
    reads_law (Code.Attr j s ∷ cs) d AfterText v dv h r = absurd (nothing_accepts cs (at Fresh not_allowed) refl h)
    reads_law (Code.Attr j s ∷ cs) d AfterElement v dv h r = absurd (nothing_accepts cs (at Fresh not_allowed) refl h)
    reads_law (Code.Body ∷ cs) d Fresh v dv h r = absurd (nothing_accepts cs (at Fresh not_allowed) refl h)
    reads_law (Code.Body ∷ cs) d AfterText v dv h r = absurd (nothing_accepts cs (at Fresh not_allowed) refl h)
    reads_law (Code.Body ∷ cs) d AfterElement v dv h r = absurd (nothing_accepts cs (at Fresh not_allowed) refl h)

    -- the root comes first
    abbrev pub ReadsRoot : List Code → Type 0
    ReadsRoot (Code.Opening i ∷ cs) = IsInRange u (Code.Opening i) × Reads 1 (Tag 0) cs
    ReadsRoot _ = ⊥

    pub reads_root : (v : Pattern) → AreRefs v → (cs : List Code) → Accepts Fresh v cs → AllByRecursion (IsInRange u) cs → ReadsRoot cs
    reads_root v refs [] h r = let e = refs_nullable v refs in absurd (cc)
    reads_root v refs (Code.Opening i ∷ cs) h r = (r.0, reads_law cs 0 (Tag 0) _ (root_opening g _ v refs) h r.1)
    reads_root v refs (Code.Attr j s ∷ cs) h r = absurd (nothing_accepts cs (at Fresh not_allowed) refl h)
    reads_root v refs (Code.Body ∷ cs) h r = absurd (nothing_accepts cs (at Fresh not_allowed) refl h)
    reads_root v refs (Code.Chars s ∷ cs) h r =
        absurd (nothing_accepts cs (step g u (at Fresh v) (Code.Chars s)) (ap (where_true _) (refs_text _ v refs) ∙ where_nothing _) h)
    reads_root v refs (Code.Closing ∷ cs) h r =
        absurd (nothing_accepts cs (step g u (at Fresh v) Code.Closing) (refs_ending _ (choice_of-all AreRefs refs_all v (text_step [] v) refs (rw (refs_text [] v refs) tt))) h)
