-- Lists of the grammar read from the left by a loop. `LeadX ts us xs`: the loop stands at us and has read xs, so that
-- whatever list is read from us is the rest of a list read from ts.
use Rattle.std.proofs.Common.{◌≡◌, ℕ, zero, suc, List, [], ◌∷◌, ◌++◌, refl, sym, ap, ◌∙◌, subst, append_assoc, append-nil}
use Rattle.rng_model.specs.Texts.{Text}
use Rattle.token_laws.specs.Tokens.{Symbol, Token, segment, symbol, Placed, ◌at◌, open_bracket, close_bracket, bar, tilde, follows, equals}
use Rattle.grammar_laws.specs.Trees.{Declaration, Parameter, Class, Classes, Pattern, Patterns, no_pattern, more_patterns, patterns_of, Item, Items, no_item, more_items, items_of, classes_of}
use Rattle.grammar_laws.specs.Grammar.{IsAnyId, IsAnnotationName, IsItemName, IsNoBracket, ReadsLiteral, ReadsFilling, ReadsBlock, ReadsBlocks, ReadsFollow, ReadsDeclaration, ReadsDeclarations, ReadsParameters, ReadsSimple, ReadsAlternatives, ReadsParticle, ReadsMembers, ReadsItem, ReadsItems}
use Rattle.grammar_laws.specs.Grammar as by

-- The members of a pattern, after any number of which the sign s stands.
abbrev pub before_patterns : List Pattern → Patterns → Patterns
before_patterns [] qs = qs
before_patterns (p ∷ ps) qs = more_patterns p (before_patterns ps qs)

push_pattern : (ps : List Pattern) (p : Pattern) (qs : Patterns) → before_patterns (ps ++ p ∷ []) qs ≡ before_patterns ps (more_patterns p qs)
push_pattern [] p qs = refl
push_pattern (q ∷ ps) p qs = ap (more_patterns q) (push_pattern ps p qs)

all_patterns : (ps : List Pattern) → before_patterns ps no_pattern ≡ patterns_of ps
all_patterns [] = refl
all_patterns (p ∷ ps) = ap (more_patterns p) (all_patterns ps)

abbrev pub LeadMembers : Symbol → List Placed → List Placed → List Pattern → Type 0
LeadMembers s ts us ps = (vs : List Placed) (qs : Patterns) → ReadsMembers s us vs qs → ReadsMembers s ts vs (before_patterns ps qs)

pub no_members : (s : Symbol) (ts : List Placed) → LeadMembers s ts ts []
no_members s ts vs qs r = r

pub next_member : (ps : List Pattern) {s : Symbol} {a : ℕ} {ts us vs : List Placed} {p : Pattern} → LeadMembers s ts us ps → ReadsParticle us (symbol s at a ∷ vs) p → LeadMembers s ts vs (ps ++ p ∷ [])
next_member ps {s = s} {ts = ts} {p = p} lead r ws qs m =
    subst (ReadsMembers s ts ws) (sym (push_pattern ps p qs)) (lead ws (more_patterns p qs) (by.ReadsMembers.more r m))

pub last_member : (ps : List Pattern) {s : Symbol} {ts us vs : List Placed} {p : Pattern} → LeadMembers s ts us ps → ReadsParticle us vs p → ReadsMembers s ts vs (patterns_of (ps ++ p ∷ []))
last_member ps {s = s} {ts = ts} {vs = vs} {p = p} lead r =
    let m : ReadsMembers s ts vs (before_patterns ps (more_patterns p no_pattern)) = lead vs (more_patterns p no_pattern) (by.ReadsMembers.last r) in
    subst (ReadsMembers s ts vs) (sym (push_pattern ps p no_pattern) ∙ all_patterns (ps ++ p ∷ [])) m

-- The alternatives of a name class.
abbrev pub before_classes : List Class → Classes → Classes
before_classes [] ds = ds
before_classes (c ∷ cs) ds = Classes.more_classes c (before_classes cs ds)

push_class : (cs : List Class) (c : Class) (ds : Classes) → before_classes (cs ++ c ∷ []) ds ≡ before_classes cs (Classes.more_classes c ds)
push_class [] c ds = refl
push_class (d ∷ cs) c ds = ap (Classes.more_classes d) (push_class cs c ds)

all_classes : (cs : List Class) → before_classes cs Classes.no_classes ≡ classes_of cs
all_classes [] = refl
all_classes (c ∷ cs) = ap (Classes.more_classes c) (all_classes cs)

abbrev pub LeadAlternatives : List Placed → List Placed → List Class → Type 0
LeadAlternatives ts us cs = (vs : List Placed) (ds : Classes) → ReadsAlternatives us vs ds → ReadsAlternatives ts vs (before_classes cs ds)

pub no_alternatives : (ts : List Placed) → LeadAlternatives ts ts []
no_alternatives ts vs ds r = r

pub next_alternative : (cs : List Class) {a : ℕ} {ts us vs : List Placed} {c : Class} → LeadAlternatives ts us cs → ReadsSimple us (symbol bar at a ∷ vs) c → LeadAlternatives ts vs (cs ++ c ∷ [])
next_alternative cs {ts = ts} {c = c} lead r ws ds m =
    subst (ReadsAlternatives ts ws) (sym (push_class cs c ds)) (lead ws (Classes.more_classes c ds) (by.ReadsAlternatives.more r m))

pub last_alternative : (cs : List Class) {ts us vs : List Placed} {c : Class} → LeadAlternatives ts us cs → ReadsSimple us vs c → ReadsAlternatives ts vs (classes_of (cs ++ c ∷ []))
last_alternative cs {ts = ts} {vs = vs} {c = c} lead r =
    let m : ReadsAlternatives ts vs (before_classes cs (Classes.more_classes c Classes.no_classes)) = lead vs (Classes.more_classes c Classes.no_classes) (by.ReadsAlternatives.last r) in
    subst (ReadsAlternatives ts vs) (sym (push_class cs c Classes.no_classes) ∙ all_classes (cs ++ c ∷ [])) m

-- Items.
abbrev pub before_items : List Item → Items → Items
before_items [] js = js
before_items (i ∷ is) js = more_items i (before_items is js)

push_item : (is : List Item) (i : Item) (js : Items) → before_items (is ++ i ∷ []) js ≡ before_items is (more_items i js)
push_item [] i js = refl
push_item (k ∷ is) i js = ap (more_items k) (push_item is i js)

all_items : (is : List Item) → before_items is no_item ≡ items_of is
all_items [] = refl
all_items (i ∷ is) = ap (more_items i) (all_items is)

abbrev pub LeadItems : List Placed → List Placed → List Item → Type 0
LeadItems ts us is = (vs : List Placed) (js : Items) → ReadsItems us vs js → ReadsItems ts vs (before_items is js)

pub no_items_yet : (ts : List Placed) → LeadItems ts ts []
no_items_yet ts vs js r = r

pub next_item : (is : List Item) {ts us vs ws : List Placed} {i : Item} → LeadItems ts us is → ReadsBlocks us vs → ReadsItem vs ws i → LeadItems ts ws (is ++ i ∷ [])
next_item is {ts = ts} {i = i} lead b r xs js m =
    subst (ReadsItems ts xs) (sym (push_item is i js)) (lead xs (more_items i js) (by.item b r m))

pub next_annotation : (is : List Item) {t : Token} {a : ℕ} {ts us vs : List Placed} → LeadItems ts (t at a ∷ us) is → IsItemName t → ReadsBlock us vs → LeadItems ts vs is
next_annotation is lead n b xs js m = lead xs js (by.annotation n b m)

pub all_items_read : (is : List Item) {ts us : List Placed} → LeadItems ts us is → ReadsItems ts us (items_of is)
all_items_read is {ts = ts} {us = us} lead = subst (ReadsItems ts us) (all_items is) (lead us no_item by.no_items)

-- Declarations.
abbrev pub LeadDeclarations : List Placed → List Placed → List Declaration → Type 0
LeadDeclarations ts us ds = (vs : List Placed) (es : List Declaration) → ReadsDeclarations us vs es → ReadsDeclarations ts vs (ds ++ es)

pub no_declarations : (ts : List Placed) → LeadDeclarations ts ts []
no_declarations ts vs es r = r

pub next_declaration : (ds : List Declaration) {ts us vs : List Placed} {d : Declaration} → LeadDeclarations ts us ds → ReadsDeclaration us vs d → LeadDeclarations ts vs (ds ++ d ∷ [])
next_declaration ds {ts = ts} {d = d} lead r ws es m =
    subst (ReadsDeclarations ts ws) (sym (append_assoc ds (d ∷ []) es)) (lead ws (d ∷ es) (by.ReadsDeclarations.more r m))

pub all_declarations : (ds : List Declaration) {ts us : List Placed} → LeadDeclarations ts us ds → ReadsDeclarations ts us ds
all_declarations ds {ts = ts} {us = us} lead = subst (ReadsDeclarations ts us) (append-nil ds) (lead us [] by.ReadsDeclarations.none)

-- Parameters.
abbrev pub LeadParameters : List Placed → List Placed → List Parameter → Type 0
LeadParameters ts us ps = (vs : List Placed) (qs : List Parameter) → ReadsParameters us vs qs → ReadsParameters ts vs (ps ++ qs)

pub no_parameters : (ts : List Placed) → LeadParameters ts ts []
no_parameters ts vs qs r = r

pub next_parameter : (ps : List Parameter) (n : Text) {t : Token} {l : Text} {a b : ℕ} {ts us vs ws : List Placed} → LeadParameters ts us ps →
    ReadsBlocks us (t at a ∷ symbol equals at b ∷ vs) → IsAnyId t n → ReadsLiteral vs ws l → LeadParameters ts ws (ps ++ record { name = n; literal = l; place = a } ∷ [])
next_parameter ps n {l = l} {a = a} {ts = ts} lead b i r xs qs m =
    subst (ReadsParameters ts xs) (sym (append_assoc ps (record { name = n; literal = l; place = a } ∷ []) qs))
    (lead xs (record { name = n; literal = l; place = a } ∷ qs) (by.ReadsParameters.more b i r m))

pub all_parameters : (ps : List Parameter) {ts us : List Placed} → LeadParameters ts us ps → ReadsParameters ts us ps
all_parameters ps {ts = ts} {us = us} lead = subst (ReadsParameters ts us) (append-nil ps) (lead us [] by.ReadsParameters.none)

-- The segments of a literal.
abbrev pub LeadLiteral : List Placed → List Placed → Text → Type 0
LeadLiteral ts us s = (vs : List Placed) (l : Text) → ReadsLiteral us vs l → ReadsLiteral ts vs (s ++ l)

pub no_segment : (ts : List Placed) → LeadLiteral ts ts []
no_segment ts vs l r = r

pub next_segment : (s : Text) {u : Text} {a b : ℕ} {ts us : List Placed} → LeadLiteral ts (segment u at a ∷ symbol tilde at b ∷ us) s → LeadLiteral ts us (s ++ u)
next_segment s {u = u} {ts = ts} lead vs l r = subst (ReadsLiteral ts vs) (sym (append_assoc s u l)) (lead vs (u ++ l) (by.joined r refl))

pub last_segment : (s : Text) {u : Text} {a : ℕ} {ts us : List Placed} → LeadLiteral ts (segment u at a ∷ us) s → ReadsLiteral ts us (s ++ u)
last_segment s {u = u} {us = us} lead = lead us u by.one

-- Blocks and follow parts.
abbrev pub LeadBlocks : List Placed → List Placed → Type 0
LeadBlocks ts us = (vs : List Placed) → ReadsBlocks us vs → ReadsBlocks ts vs

pub next_block : {ts us vs : List Placed} → LeadBlocks ts us → ReadsBlock us vs → LeadBlocks ts vs
next_block lead b ws r = lead ws (by.ReadsBlocks.more b r)

abbrev pub LeadFollow : List Placed → List Placed → Type 0
LeadFollow ts us = (vs : List Placed) → ReadsFollow us vs → ReadsFollow ts vs

pub next_follow : {t : Token} {a b : ℕ} {ts us vs : List Placed} → LeadFollow ts (symbol follows at a ∷ t at b ∷ us) → IsAnnotationName t → ReadsBlock us vs → LeadFollow ts vs
next_follow lead n b ws r = lead ws (by.ReadsFollow.more n b r)

-- Inside a block, n brackets deeper than its own: the loop counts.
abbrev pub Fillings : ℕ → List Placed → List Placed → Type 0
Fillings zero us rest = us ≡ rest
Fillings (suc n) us rest = (vs : List Placed) × ReadsFilling us vs × Fillings n vs rest

abbrev pub LeadFilling : ℕ → List Placed → List Placed → Type 0
LeadFilling n ts us = (rest : List Placed) → Fillings (suc n) us rest → ReadsFilling ts rest

pub opened : (ts : List Placed) → LeadFilling zero ts ts
opened ts rest (vs, f, e) = subst (ReadsFilling ts) e f

pub past_token : (n : ℕ) {t : Token} {a : ℕ} {ts us : List Placed} → LeadFilling n ts (t at a ∷ us) → IsNoBracket t → LeadFilling n ts us
past_token n lead i rest (vs, f, e) = lead rest (vs, by.passed i f, e)

pub past_opening : (n : ℕ) {a : ℕ} {ts us : List Placed} → LeadFilling n ts (symbol open_bracket at a ∷ us) → LeadFilling (suc n) ts us
past_opening n lead rest (vs, f, (ws, g, e)) = lead rest (ws, by.nested f g, e)

pub past_closing : (n : ℕ) {a : ℕ} {ts us : List Placed} → LeadFilling (suc n) ts (symbol close_bracket at a ∷ us) → LeadFilling n ts us
past_closing n {us = us} lead rest (vs, f, e) = lead rest (us, by.closed, (vs, f, e))

pub past_block : {a : ℕ} {ts us : List Placed} → LeadFilling zero ts (symbol close_bracket at a ∷ us) → ReadsFilling ts us
past_block {us = us} lead = lead us (us, by.closed, refl)
