-- The first fault of bytes that begin with the lines of events.
use Rattle.std.proofs.Common.{◌≡◌, ℕ, zero, suc, ◌+◌, ◌<◌, ◌≤◌, ◌⊎◌, inl, inr, true, false, Bool, ◌&&◌, List, [], ◌∷◌, ◌++◌, length, get_or, take, drop, ◌-◌, map, length-drop, Option, Some, None, refl, sym, ◌∙◌, ap, subst, append_assoc, arith, flat_map}
use Rattle.std.specs.Prelude.{bytes_eq}
use Rattle.std.specs.List.{AllByRecursion}
use Rattle.std.proofs.lemmas.List.{take_all, length-map, get_or-map}
use Rattle.rng_model.specs.Texts.{Text}
use Rattle.rng_model.specs.Events.{Event, Opening, Attr, Body, Chars, Closing}
use Rattle.rng_model.specs.Lines.{event_line}
use Rattle.line_laws.specs.EventLists.{IsEvent, AreEvents, IsNoSkeleton}
use Rattle.line_laws.specs.Walks.{Walk, Before, Tag, Content, After, event_step, walk, walk_if, follows, fault_number}
use Rattle.line_laws.specs.LineRefusals.{LineFault, BadLine, Unfinished, Trailing, NotOrdered, IsText, cut_lines}
use Rattle.line_laws.specs.LineWalks.{refused_event, at_line, past_fault, line_fault, text_fault}
use Rattle.line_laws.proofs.Cutting.{cut_line, event_is_line}
use Rattle.line_laws.proofs.RefusalLaw.{joined_cut}
use Rattle.line_laws.proofs.WalkLaw.{went, after_stuck, Stuck, Short, fault-some, fault-none, accepts, refuses}
use Rattle.line_laws.proofs.OneRefusal.{read_line, lines_read, text_exact, fault_exact}
use Rattle.skeleton.specs.declared.event.Event as shown
use Rattle.skeleton.specs.Views.{event_of}
use Rattle.line_reader.specs.declared.reading.LineFault as code
use Rattle.line_reader.specs.declared.reading.LineFault.TheVariants as codes
use Rattle.line_reader.specs.Faults.{IsRefused, refusal_of, is_attribute, attribute_fault, stray_fault}
use Rattle.line_reader.specs.Spellings.{BeginsNoLine}
use Rattle.line_reader.proofs.Lines.{fault_from, reads_none}

-- the line of an event that comes at its place
step_line : (k : ℕ) (w v : Walk) (e : Event) (f : Walk → Option LineFault) (past : Option LineFault) → event_step w e ≡ Some v →
    at_line k w (event_line e) (Some e) f past ≡ f v
step_line k Before v e f past s = rw s
step_line k (Tag d last) v e f past s = rw s
step_line k (Content d b) v e f past s = rw s
step_line k After v e f past s = let bad : None ≡ Some v = sym (after_stuck e) ∙ s in absurd (cc)

no_empty_line : (e : Event) → bytes_eq (event_line e) (10 ∷ []) ≡ false
no_empty_line (Opening n) = refl
no_empty_line (Attr n t) = refl
no_empty_line Body = refl
no_empty_line (Chars t) = refl
no_empty_line Closing = refl

-- the line of an event that can't come
stuck_line : (k : ℕ) (w : Walk) (e : Event) (f : Walk → Option LineFault) (past : Option LineFault) → event_step w e ≡ None →
    at_line k w (event_line e) (Some e) f past ≡ Some (refused_event k w e)
stuck_line k Before e f past s = rw s
stuck_line k (Tag d last) e f past s = rw s
stuck_line k (Content d b) e f past s = rw s
stuck_line k After e f past s = rw (no_empty_line e)

-- a line is cut off and read
first_line : (k : ℕ) (w : Walk) (e : Event) (x : Text) → IsEvent e →
    fault_from read_line k w (cut_lines (event_line e ++ x)) ≡ at_line k w (event_line e) (Some e) (λ v. fault_from read_line (suc k) v (cut_lines x)) (past_fault k (cut_lines x).0 (cut_lines x).1)
first_line k w e x is =
    ap (fault_from read_line k w) (cut_line (event_line e) x (event_is_line e is))
    ∙ ap (λ o. at_line k w (event_line e) o (λ v. fault_from read_line (suc k) v (cut_lines x)) (past_fault k (cut_lines x).0 (cut_lines x).1)) ((lines_read (event_line e) e).1 (is, refl))

-- lines of events that come at their places
lines_pass : (es : List Event) (k : ℕ) (w v : Walk) (x : Text) → AllByRecursion IsEvent es → walk w es ≡ Some v →
    fault_from read_line k w (cut_lines (flat_map event_line es ++ x)) ≡ fault_from read_line (k + length es) v (cut_lines x)
lines_pass [] k w v x all h =
    let e : w ≡ v = cc in
    let z : k ≡ k + 0 = omega arith in
    λ i. fault_from read_line (z i) (e i) (cut_lines x)
lines_pass (e ∷ es) k w v x all h =
    let g = went (event_step w e) (λ v. walk v es) v h in
    let n : suc k + length es ≡ k + length (e ∷ es) = omega arith in
    ap (λ z. fault_from read_line k w (cut_lines z)) (append_assoc (event_line e) (flat_map event_line es) x)
    ∙ first_line k w e (flat_map event_line es ++ x) all.0
    ∙ step_line k w g.0 e (λ v. fault_from read_line (suc k) v (cut_lines (flat_map event_line es ++ x))) (past_fault k (cut_lines (flat_map event_line es ++ x)).0 (cut_lines (flat_map event_line es ++ x)).1) g.1
    ∙ lines_pass es (suc k) g.0 v x all.1 g.2
    ∙ ap (λ z. fault_from read_line z v (cut_lines x)) n

-- an attribute stands before
abbrev is_named : Walk → Bool
is_named Before = false
is_named (Tag d None) = false
is_named (Tag d (Some m)) = true
is_named (Content d b) = false
is_named After = false

passed : (b : Bool) (w v : Walk) → walk_if b w ≡ Some v → w ≡ v
passed true w v h = cc
passed false w v h = absurd (cc)

named_behind : (w v : Walk) (e : Event) → event_step w e ≡ Some v → is_named v ≡ is_attribute e
named_behind Before v (Opening n) h = let s : Tag 0 None ≡ v = cc in ap is_named (sym s)
named_behind Before v (Attr n t) h = absurd (cc)
named_behind Before v Body h = absurd (cc)
named_behind Before v (Chars t) h = absurd (cc)
named_behind Before v Closing h = absurd (cc)
named_behind (Tag d last) v (Opening n) h = absurd (cc)
named_behind (Tag d last) v (Attr n t) h = ap is_named (sym (passed (follows last n) (Tag d (Some n)) v h))
named_behind (Tag d last) v Body h = let s : Content d true ≡ v = cc in ap is_named (sym s)
named_behind (Tag d last) v (Chars t) h = absurd (cc)
named_behind (Tag d last) v Closing h = absurd (cc)
named_behind (Content d b) v (Opening n) h = let s : Tag (suc d) None ≡ v = cc in ap is_named (sym s)
named_behind (Content d b) v (Attr n t) h = absurd (cc)
named_behind (Content d b) v Body h = absurd (cc)
named_behind (Content d b) v (Chars t) h = ap is_named (sym (passed _ (Content d false) v h))
named_behind (Content zero b) v Closing h = let s : After ≡ v = cc in ap is_named (sym s)
named_behind (Content (suc d) b) v Closing h = let s : Content d true ≡ v = cc in ap is_named (sym s)
named_behind After v e h = let bad : None ≡ Some v = sym (after_stuck e) ∙ h in absurd (cc)

refused_is : (k : ℕ) (w : Walk) (e : Event) → refused_event k w e ≡ attribute_fault (is_named w && is_attribute e) k
refused_is k Before e = refl
refused_is k (Tag d None) e = refl
refused_is k (Tag d (Some m)) (Opening n) = refl
refused_is k (Tag d (Some m)) (Attr n t) = refl
refused_is k (Tag d (Some m)) Body = refl
refused_is k (Tag d (Some m)) (Chars t) = refl
refused_is k (Tag d (Some m)) Closing = refl
refused_is k (Content d b) e = refl
refused_is k After e = refl

-- the fault of an event by those before it
stray_is : (front : List Event) (stray : Event) (back : List Event) (k : ℕ) (w v : Walk) → walk w front ≡ Some v →
    refused_event (k + length front) v stray ≡ stray_fault (is_named w) (front ++ (stray ∷ back)) (length front) k
stray_is [] stray back k w v h =
    let e : v ≡ w = cc in
    let z : k + 0 ≡ k = omega arith in
    (λ i. refused_event (z i) (e i) stray) ∙ refused_is k w stray
stray_is (x ∷ front) stray back k w v h =
    let g = went (event_step w x) (λ v. walk v front) v h in
    let n : k + length (x ∷ front) ≡ suc k + length front = omega arith in
    ap (λ z. refused_event z v stray) n
    ∙ stray_is front stray back (suc k) g.0 v g.2
    ∙ ap (λ b. stray_fault b (front ++ (stray ∷ back)) (length front) (suc k)) (named_behind w g.0 x g.1)

parts : (xs ys : List Event) → AllByRecursion IsEvent (xs ++ ys) → AllByRecursion IsEvent xs × AllByRecursion IsEvent ys
parts [] ys h = (tt, h)
parts (x ∷ xs) ys h = let p = parts xs ys h.1 in ((h.0, p.0), p.1)

flat_parts : (front : List Event) (stray : Event) (back : List Event) (x : Text) →
    flat_map event_line (front ++ (stray ∷ back)) ++ x ≡ flat_map event_line front ++ (event_line stray ++ (flat_map event_line back ++ x))
flat_parts [] stray back x = append_assoc (event_line stray) (flat_map event_line back) x
flat_parts (e ∷ front) stray back x =
    append_assoc (event_line e) (flat_map event_line (front ++ (stray ∷ back))) x
    ∙ ap (λ z. event_line e ++ z) (flat_parts front stray back x)
    ∙ sym (append_assoc (event_line e) (flat_map event_line front) (event_line stray ++ (flat_map event_line back ++ x)))

below : (front : List Event) (stray : Event) (back : List Event) → length front < length (front ++ (stray ∷ back))
below [] stray back = omega arith
below (x ∷ front) stray back = let l = below front stray back in omega arith

-- the events are refused before their end
pub stray_text : (es : List Event) (rest bytes : Text) (j : ℕ) → AllByRecursion IsEvent es → bytes ≡ flat_map event_line es ++ rest →
    fault_number Before es ≡ Some j → j < length es → text_fault read_line bytes ≡ Some (stray_fault false es j 1)
stray_text es rest bytes j all cut h low = go (fault-some es Before j h)
  where
    go : Stuck Before es j ⊎ Short Before es j → text_fault read_line bytes ≡ Some (stray_fault false es j 1)
    go (inr s) = let a = s.at in absurd (omega arith)
    go (inl s) =
        let both = parts s.front (s.stray ∷ s.back) (subst (AllByRecursion IsEvent) s.is all) in
        let x = flat_map event_line s.back ++ rest in
        ap (λ z. fault_from read_line 1 Before (cut_lines z)) (cut ∙ ap (λ z. flat_map event_line z ++ rest) s.is ∙ flat_parts s.front s.stray s.back rest)
        ∙ lines_pass s.front 1 Before s.reached (event_line s.stray ++ x) both.0 s.reaches
        ∙ first_line (1 + length s.front) s.reached s.stray x both.1.0
        ∙ stuck_line (1 + length s.front) s.reached s.stray (λ v. fault_from read_line (suc (1 + length s.front)) v (cut_lines x)) (past_fault (1 + length s.front) (cut_lines x).0 (cut_lines x).1) s.stuck
        ∙ ap Some (stray_is s.front s.stray s.back 1 Before s.reached s.reaches)
        ∙ (λ i. Some (stray_fault false (sym s.is i) (sym s.at i) 1))

-- what follows begins with no event's line
open_rest : (k : ℕ) (w : Walk) (rest : Text) → (w ≡ After → ⊥) → BeginsNoLine rest →
    fault_from read_line k w (cut_lines rest) ≡ fault_from reads_none k Before (cut_lines rest)
open_rest k w rest unended none = go (cut_lines rest) (joined_cut rest)
  where
    bad : (w : Walk) (l : Text) (o : Option Event) (f : Walk → Option LineFault) (past : Option LineFault) → (w ≡ After → ⊥) → o ≡ None → at_line k w l o f past ≡ Some (BadLine k)
    bad Before l o f past u e = rw e
    bad (Tag d last) l o f past u e = rw e
    bad (Content d b) l o f past u e = rw e
    bad After l o f past u e = absurd (u refl)

    unread : (l : Text) (o : Option Event) → read_line l ≡ o → ((e : Event) → IsEvent e → event_line e ≡ l → ⊥) → o ≡ None
    unread l None h no_event = refl
    unread l (Some e) h no_event = let r = (lines_read l e).0 h in absurd (no_event e r.0 r.1)

    go : (p : List Text × Text) → flat_map (λ l. l) p.0 ++ p.1 ≡ rest → fault_from read_line k w p ≡ fault_from reads_none k Before p
    go ([], t) j = refl
    go (l ∷ ls, t) j =
        bad w l (read_line l) (λ v. line_fault read_line (suc k) v ls t) (past_fault k ls t) unended
        (unread l (read_line l) refl (λ e is same. none e (flat_map (λ l. l) ls ++ t) is (ap (λ z. z ++ (flat_map (λ l. l) ls ++ t)) same ∙ sym (append_assoc l (flat_map (λ l. l) ls) t) ∙ j)))

-- the events end too early
pub short_text : (es : List Event) (rest bytes : Text) (j : ℕ) → AllByRecursion IsEvent es → bytes ≡ flat_map event_line es ++ rest →
    fault_number Before es ≡ Some j → length es ≤ j → BeginsNoLine rest →
    text_fault read_line bytes ≡ fault_from reads_none (1 + length es) Before (cut_lines rest)
short_text es rest bytes j all cut h high none = go (fault-some es Before j h)
  where
    go : Stuck Before es j ⊎ Short Before es j → text_fault read_line bytes ≡ fault_from reads_none (1 + length es) Before (cut_lines rest)
    go (inl s) =
        let l = below s.front s.stray s.back in
        let m : length es ≡ length (s.front ++ (s.stray ∷ s.back)) = ap length s.is in
        let a = s.at in
        absurd (omega arith)
    go (inr s) =
        ap (λ z. fault_from read_line 1 Before (cut_lines z)) cut
        ∙ lines_pass es 1 Before s.reached rest all s.reaches
        ∙ open_rest (1 + length es) s.reached rest s.unended none

after_reads : (k : ℕ) (p : List Text × Text) → fault_from read_line k After p ≡ fault_from reads_none k After p
after_reads k ([], t) = refl
after_reads k (l ∷ ls, t) = refl

-- the events are a skeleton's
pub whole_text : (es : List Event) (rest bytes : Text) → AllByRecursion IsEvent es → bytes ≡ flat_map event_line es ++ rest →
    fault_number Before es ≡ None → text_fault read_line bytes ≡ fault_from reads_none (1 + length es) After (cut_lines rest)
whole_text es rest bytes all cut h =
    ap (λ z. fault_from read_line 1 Before (cut_lines z)) cut
    ∙ lines_pass es 1 Before After rest all (fault-none es Before h)
    ∙ after_reads (1 + length es) (cut_lines rest)

-- the fault is told
pub is_refused : (bytes : Text) (f : code.LineFault) → text_fault read_line bytes ≡ refusal_of f → IsRefused bytes f
is_refused bytes (codes.BadLine line) h = (fault_exact read_line lines_read bytes (BadLine line)).0 h
is_refused bytes codes.Unfinished h = (fault_exact read_line lines_read bytes Unfinished).0 h
is_refused bytes (codes.Trailing line) h = (fault_exact read_line lines_read bytes (Trailing line)).0 h
is_refused bytes (codes.NotOrdered line) h = (fault_exact read_line lines_read bytes (NotOrdered line)).0 h
is_refused bytes codes.OutOfMemory h = tt

pub is_accepted : (bytes : Text) (f : code.LineFault) → text_fault read_line bytes ≡ refusal_of f → IsText bytes → f ≡ codes.OutOfMemory
is_accepted bytes f h text = go f (sym ((text_exact read_line lines_read bytes).1 text) ∙ h)
  where
    go : (f : code.LineFault) → None ≡ refusal_of f → f ≡ codes.OutOfMemory
    go (codes.BadLine line) h = absurd (cc)
    go codes.Unfinished h = absurd (cc)
    go (codes.Trailing line) h = absurd (cc)
    go (codes.NotOrdered line) h = absurd (cc)
    go codes.OutOfMemory h = refl

-- the fault of an event by the one before it
pub stray_pair : (b : Bool) (es : List Event) (j k : ℕ) (d e : Event) → suc j < length es → d ≡ get_or es j d → e ≡ get_or es (suc j) e →
    stray_fault b es (suc j) k ≡ attribute_fault (is_attribute d && is_attribute e) (k + suc j)
stray_pair b [] j k d e low hd he = absurd (omega arith)
stray_pair b (x ∷ []) zero k d e low hd he = absurd (omega arith)
stray_pair b (x ∷ y ∷ es) zero k d e low hd he =
    let n : suc k ≡ k + 1 = omega arith in
    λ i. attribute_fault (is_attribute (sym hd i) && is_attribute (sym he i)) (n i)
stray_pair b (x ∷ es) (suc j) k d e low hd he =
    let n : suc k + suc j ≡ k + suc (suc j) = omega arith in
    stray_pair (is_attribute x) es j (suc k) d e (omega arith) hd he ∙ ap (attribute_fault (is_attribute d && is_attribute e)) n

pub stray_first : (es : List Event) (k : ℕ) → stray_fault false es 0 k ≡ BadLine k
stray_first [] k = refl
stray_first (e ∷ es) k = refl

-- the fault of an event that the code has found
pub pair_fault : (xs : List shown.Event) (i p : ℕ) (x y : shown.Event) → p ≡ suc i → p < length xs → x ≡ get_or xs i x → y ≡ get_or xs p y →
    stray_fault false (map event_of xs) p 1 ≡ attribute_fault (is_attribute (event_of x) && is_attribute (event_of y)) (p + 1)
pair_fault xs i p x y e low hx hy =
    let long : length (map event_of xs) ≡ length xs = length-map xs event_of in
    let first : event_of x ≡ get_or (map event_of xs) i (event_of x) = ap event_of hx ∙ sym (get_or-map event_of xs i x (event_of x) (omega arith)) in
    let second : event_of y ≡ get_or (map event_of xs) (suc i) (event_of y) = ap event_of hy ∙ sym (get_or-map event_of xs p y (event_of y) low) ∙ ap (λ z. get_or (map event_of xs) z (event_of y)) e in
    ap (λ z. stray_fault false (map event_of xs) z 1) e
    ∙ stray_pair false (map event_of xs) i 1 (event_of x) (event_of y) (omega arith) first second
    ∙ ap (attribute_fault (is_attribute (event_of x) && is_attribute (event_of y))) (omega arith)

-- the faults of what stands behind the events
pub behind_whole : (es : List Event) (rest slice bytes : Text) (line : ℕ) (f : code.LineFault) → AllByRecursion IsEvent es →
    bytes ≡ flat_map event_line es ++ rest → AreEvents es → line ≡ 1 + length es → slice ≡ rest →
    fault_from reads_none line After (cut_lines slice) ≡ refusal_of f → text_fault read_line bytes ≡ refusal_of f
behind_whole es rest slice bytes line f all cut are n same h =
    whole_text es rest bytes all cut ((accepts es all).1 are) ∙ (λ i. fault_from reads_none (sym n i) After (cut_lines (sym same i))) ∙ h

pub behind_front : (es : List Event) (rest slice bytes : Text) (j line : ℕ) (f : code.LineFault) → AllByRecursion IsEvent es →
    bytes ≡ flat_map event_line es ++ rest → IsNoSkeleton es j → length es ≤ j → BeginsNoLine rest → line ≡ 1 + length es → slice ≡ rest →
    fault_from reads_none line Before (cut_lines slice) ≡ refusal_of f → text_fault read_line bytes ≡ refusal_of f
behind_front es rest slice bytes j line f all cut no_events high none n same h =
    short_text es rest bytes j all cut ((refuses es all j).1 no_events) high none ∙ (λ i. fault_from reads_none (sym n i) Before (cut_lines (sym same i))) ∙ h

pub among_events : (es fs : List Event) (rest bytes : Text) (j : ℕ) (f : code.LineFault) → AllByRecursion IsEvent es →
    bytes ≡ flat_map event_line es ++ rest → IsNoSkeleton es j → j < length es → fs ≡ es →
    refusal_of f ≡ Some (stray_fault false fs j 1) → text_fault read_line bytes ≡ refusal_of f
among_events es fs rest bytes j f all cut no_events low same h =
    stray_text es rest bytes j all cut ((refuses es all j).1 no_events) low ∙ sym (h ∙ ap (λ z. Some (stray_fault false z j 1)) same)

pub slice_from : (bytes : Text) (n : ℕ) → take (length bytes - n) (drop n bytes) ≡ drop n bytes
slice_from bytes n = take_all (length bytes - n) (drop n bytes) (omega (arith, length-drop n bytes))
