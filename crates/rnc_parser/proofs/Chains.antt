-- Patterns: chains, signs, types and excepts.
use Rattle.std.proofs.Common.{◌≡◌, ℕ, Bool, true, false, inl, inr, List, [], ◌∷◌, ◌++◌, map, Option, Some, None, Result, Ok, refl, sym, ap, ◌∙◌, subst, append_assoc, append-nil}
use Rattle.token_laws.specs.Tokens.{Symbol, symbol, Placed, ◌at◌, comma, bar, ampersand, question, star, plus, minus}
use Rattle.grammar_laws.specs.Trees as tree
use Rattle.grammar_laws.specs.Trees.{TypeName, patterns_of, items_of}
use Rattle.grammar_laws.specs.Grammar.{IsType, ReadsLiteral, ReadsBraces, ReadsBlocks, ReadsBare, ReadsPrimary, ReadsParticle, ReadsMembers, ReadsPattern, ReadsItem, ReadsItems, HasNoInclude, IsItemName, ReadsBlock}
use Rattle.grammar_laws.specs.Grammar as by
use Rattle.grammar_laws.proofs.Loops.{LeadMembers, no_members, next_member, last_member, LeadItems, no_items_yet, next_item, next_annotation, all_items_read}
use Rattle.syntax_laws.specs.Expecting.{Part, pass, become, refuse, first, next, Stands, is_symbol, begins_item}
use Rattle.syntax_laws.specs.Expecting as part
use Rattle.rnc_parser.specs.Reading.{Parsed, parsed}
use Rattle.rnc_parser.specs.Parts.{ReadsOperand, BehindType, BehindPrimary, BehindParticle, ReadsMore, AreInner, IsInnerItem, ReadsNext, ReadsMoreItems}
use Rattle.schema_tree.specs.Trees.{pattern_of, item_of, type_of, parameter_of}
use Rattle.rnc_parser.specs.declared.stop.Stop.{Stop}
use Rattle.schema_tree.specs.declared.tree.Pattern.{Pattern}
use Rattle.schema_tree.specs.declared.tree.Item.{Item}
use Rattle.schema_tree.specs.declared.tree.TypeName as src
use Rattle.schema_tree.specs.declared.tree.Parameter.{Parameter}
use Rattle.schema_tree.specs.declared.tree.Item.TheViews as view
use Rattle.rnc_parser.proofs.Steps.{begin, turn, past, read, made, no_symbol, symbol_passes}
use Rattle.schema_tree.proofs.Folds.{pattern_data_type, pattern_data_except}

abbrev pub IsNot : Symbol → List Placed → Type 0
IsNot s ts = (a : ℕ) (xs : List Placed) → ts ≡ symbol s at a ∷ xs → ⊥

-- the same, where a test has left the tokens as they were
pub moved : {T : Type 0} {R : List Placed → List Placed → T → Type 0} {xs : List Part} {ts t1 us : List Placed} {r : Result T Stop} → t1 ≡ ts → Parsed xs R t1 r us → Parsed xs R ts r us
moved {R = R} {xs = xs} {us = us} {r = r} e m = subst (λ z. Parsed xs R z r us) e m

no_sign : {ts : List Placed} → IsNot comma ts → IsNot bar ts → IsNot ampersand ts → Stands (part.more_patterns ∷ []) ts [] ts
no_sign {ts = ts} h i j =
    turn begin
    (ap (λ z. part.more_patterns_move z (is_symbol bar (first ts)) (is_symbol ampersand (first ts))) (no_symbol comma ts h) ∙
    (ap (λ z. part.more_patterns_move false z (is_symbol ampersand (first ts))) (no_symbol bar ts i) ∙ ap (part.more_patterns_move false false) (no_symbol ampersand ts j)))

pub one_particle : {A : Type 0} (of : A → tree.Pattern) {v : A} {ts t1 t2 t3 : List Placed} → (t1 ≡ ts) × IsNot comma ts → (t2 ≡ t1) × IsNot bar t1 → (t3 ≡ t2) × IsNot ampersand t2 →
    Parsed (part.more_patterns ∷ []) (λ xs ys q. BehindParticle (of v) xs ys (of q)) ts (Ok v) t3
one_particle of {v = v} {ts = ts} (e, h) (f, i) (g, j) =
    subst (λ z. Parsed (part.more_patterns ∷ []) (λ xs ys q. BehindParticle (of v) xs ys (of q)) ts (Ok v) z) (sym (g ∙ (f ∙ e)))
    (parsed (λ start r. by.ReadsPattern.single r) (no_sign h (subst (IsNot bar) e i) (subst (IsNot ampersand) (f ∙ e) j)))

no_postfix : {ts : List Placed} → IsNot question ts → IsNot star ts → IsNot plus ts → Stands (part.postfix ∷ []) ts [] ts
no_postfix {ts = ts} h i j =
    turn begin
    (ap (λ z. part.postfix_move z (is_symbol star (first ts)) (is_symbol plus (first ts))) (no_symbol question ts h) ∙
    (ap (λ z. part.postfix_move false z (is_symbol plus (first ts))) (no_symbol star ts i) ∙ ap (part.postfix_move false false) (no_symbol plus ts j)))

pub no_repetition : {A : Type 0} (of : A → tree.Pattern) {v : A} {ts t1 t2 t3 : List Placed} → (t1 ≡ ts) × IsNot question ts → (t2 ≡ t1) × IsNot star t1 → (t3 ≡ t2) × IsNot plus t2 →
    Parsed (part.postfix ∷ []) (λ xs ys q. BehindPrimary (of v) xs ys (of q)) ts (Ok v) t3
no_repetition of {v = v} {ts = ts} (e, h) (f, i) (g, j) =
    subst (λ z. Parsed (part.postfix ∷ []) (λ xs ys q. BehindPrimary (of v) xs ys (of q)) ts (Ok v) z) (sym (g ∙ (f ∙ e)))
    (parsed (λ start r. by.once r) (no_postfix h (subst (IsNot star) e i) (subst (IsNot plus) (f ∙ e) j)))

-- the members of a chain: the loop stands at us, behind a sign
abbrev pub MembersAt : Symbol → tree.Pattern → List Placed → List Placed → List tree.Pattern → Type 0
MembersAt s p ts us ps = (qs : List tree.Pattern) × (ps ≡ p ∷ qs) × LeadMembers s ts us qs × Stands (part.members s ∷ []) ts (part.members s ∷ []) us

pub members_begin : (s : Symbol) (p : tree.Pattern) (ts : List Placed) → MembersAt s p ts ts (p ∷ [])
members_begin s p ts = ([], refl, no_members s ts, begin)

pub members_go_on : {A : Type 0} (of : A → tree.Pattern) (s : Symbol) (p : tree.Pattern) (ps : List tree.Pattern) {v : A} {ts us vs ws : List Placed} → MembersAt s p ts us ps →
    Parsed (part.particle ∷ []) (λ xs ys q. ReadsParticle xs ys (of q)) us (Ok v) vs → (a : ℕ) × (vs ≡ symbol s at a ∷ ws) → MembersAt s p ts ws (ps ++ of v ∷ [])
members_go_on of s p ps {v = v} {us = us} (qs, e, lead, st) r (a, f) = (
  qs ++ of v ∷ [],
  ap (λ z. z ++ of v ∷ []) e,
  next_member qs lead (subst (λ z. ReadsParticle us z (of v)) f (made r)),
  past (read (turn st refl) r) f (ap (part.more_members_move s) (symbol_passes s a)),
)

pub members_end : {A B : Type 0} (of : A → tree.Pattern) (all : B → List tree.Pattern) (s : Symbol) (p : tree.Pattern) (ps : List tree.Pattern) {v : A} {w : B} {ts us vs ws : List Placed} → MembersAt s p ts us ps →
    Parsed (part.particle ∷ []) (λ xs ys q. ReadsParticle xs ys (of q)) us (Ok v) vs → (ws ≡ vs) × IsNot s vs → all w ≡ ps ++ of v ∷ [] → Parsed (part.members s ∷ []) (λ xs ys q. ReadsMore s p xs ys (all q)) ts (Ok w) ws
members_end of all s p ps {v = v} {w = w} {ts = ts} {vs = vs} (qs, e, lead, st) r (f, h) same =
    subst (λ z. Parsed (part.members s ∷ []) (λ xs ys q. ReadsMore s p xs ys (all q)) ts (Ok w) z) (sym f)
    (parsed (qs ++ of v ∷ [], same ∙ ap (λ z. z ++ of v ∷ []) e, last_member qs lead (made r)) (turn (read (turn st refl) r) (ap (part.more_members_move s) (no_symbol s vs h))))

-- excepts
pub no_operand : (e : Bool) {ts : List Placed} → e ≡ false → Parsed (part.except e ∷ []) (ReadsOperand e) ts (Ok None) ts
no_operand false h = parsed refl (turn begin refl)
no_operand true h = cc h

pub no_minus : (e : Bool) {ts us : List Placed} → e ≡ true → (us ≡ ts) × IsNot minus ts → Parsed (part.except e ∷ []) (ReadsOperand e) ts (Ok None) us
no_minus false h m = cc h
no_minus true {ts = ts} h (e, n) =
    subst (λ z. Parsed (part.except true ∷ []) (ReadsOperand true) ts (Ok None) z) (sym e) (parsed refl (turn begin (ap (part.except_move true) (no_symbol minus ts n))))

pub behind_minus : (e : Bool) {ts us : List Placed} → e ≡ true → (a : ℕ) × (ts ≡ symbol minus at a ∷ us) → Stands (part.except e ∷ []) ts (part.blocks ∷ part.bare false ∷ []) us
behind_minus false h m = cc h
behind_minus true h (a, e) = past begin e refl

pub operand_read : (e : Bool) {ts us vs ws : List Placed} {p q : Pattern} → e ≡ true → (a : ℕ) × (ts ≡ symbol minus at a ∷ us) → ReadsBlocks us vs → ReadsBare vs ws (pattern_of p) → q ≡ p → ReadsOperand e ts ws (Some q)
operand_read false h m b r e = cc h
operand_read true {us = us} {vs = vs} {ws = ws} h (a, e) b r same = (a, us, vs, e, b, subst (λ z. ReadsBare vs ws (pattern_of z)) (sym same) r)

-- types
pub typed_read : (e : Bool) (of : src.TypeName) (ps : List Parameter) (o : Option Pattern) (vs : List Placed) {ts us : List Placed} → ReadsBraces ts us (map parameter_of ps) → ReadsOperand e us vs o →
    BehindType e (type_of of) ts vs (pattern_of (view.DataType of ps o))
typed_read false of ps None vs {ts = ts} b m t a i = subst (ReadsBare (t at a ∷ ts) vs) (sym (pattern_data_type of ps)) (by.data_type i (subst (λ z. ReadsBraces ts z (map parameter_of ps)) (sym m) b))
typed_read true of ps None vs {ts = ts} b m t a i = inl (subst (ReadsBare (t at a ∷ ts) vs) (sym (pattern_data_type of ps)) (by.data_type i (subst (λ z. ReadsBraces ts z (map parameter_of ps)) (sym m) b)))
typed_read false of ps (Some p) vs b m t a i = absurd m
typed_read true of ps (Some p) vs {ts = ts} b (c, xs, ys, f, bl, r) t a i =
    inr (record {
      of = type_of of;
      parameters = map parameter_of ps;
      operand = pattern_of p;
      token = t;
      place = a;
      sign = c;
      behind = ts;
      braces = xs;
      blocks = ys;
      begins = refl;
      type = i;
      given = subst (λ z. ReadsBraces ts z (map parameter_of ps)) f b;
      annotated = bl;
      bare = r;
      made = pattern_data_except of ps p;
    })

-- items: the loop stands at us
abbrev pub ItemsAt : Bool → List tree.Item → List Placed → List Placed → List tree.Item → Type 0
ItemsAt inner is ts us js = (ks : List tree.Item) × (js ≡ is ++ ks) × LeadItems ts us ks × AreInner inner (items_of ks) × Stands (part.items inner ∷ []) ts (part.items inner ∷ []) us

pub items_begin : (inner : Bool) (is : List tree.Item) (ts : List Placed) → ItemsAt inner is ts ts is
items_begin false is ts = ([], sym (append-nil is), no_items_yet ts, tt, begin)
items_begin true is ts = ([], sym (append-nil is), no_items_yet ts, tt, begin)

pub another_item : (inner : Bool) {ts us : List Placed} → Stands (part.items inner ∷ []) ts (part.items inner ∷ []) us → true ≡ begins_item (first us) → Stands (part.items inner ∷ []) ts (part.next_item inner ∷ part.items inner ∷ []) us
another_item inner s e = turn s (ap (part.items_move inner) (sym e))

no_include_push : (ks : List tree.Item) (k : tree.Item) → HasNoInclude (items_of ks) → by.IsInner k → HasNoInclude (items_of (ks ++ k ∷ []))
no_include_push [] k h i = (i, tt)
no_include_push (j ∷ ks) k (h, hs) i = (h, no_include_push ks k hs i)

inner_push : (inner : Bool) (ks : List tree.Item) (k : tree.Item) → AreInner inner (items_of ks) → IsInnerItem inner k → AreInner inner (items_of (ks ++ k ∷ []))
inner_push false ks k h i = tt
inner_push true ks k h i = no_include_push ks k h i

pub items_step : (inner : Bool) (is js : List tree.Item) {i : Item} {ts us vs : List Placed} → ItemsAt inner is ts us js → true ≡ begins_item (first us) → Parsed (part.next_item inner ∷ []) (ReadsNext inner) us (Ok (Some i)) vs →
    ItemsAt inner is ts vs (js ++ item_of i ∷ [])
items_step inner is js {i = i} (ks, e, lead, h, s) t r =
    let m = made r in
    (ks ++ item_of i ∷ [], ap (λ z. z ++ item_of i ∷ []) e ∙ append_assoc is ks (item_of i ∷ []), next_item ks lead m.0.1 m.0.2, inner_push inner ks (item_of i) h m.1, read (another_item inner s t) r)

pub items_skip : (inner : Bool) (is js : List tree.Item) {ts us vs : List Placed} → ItemsAt inner is ts us js → true ≡ begins_item (first us) → Parsed (part.next_item inner ∷ []) (ReadsNext inner) us (Ok None) vs → ItemsAt inner is ts vs js
items_skip inner is js {ts = ts} (ks, e, lead, h, s) t r =
    let m = made r in
    (ks, e, next_annotation ks (subst (λ z. LeadItems ts z ks) m.3 lead) m.4 m.5, h, read (another_item inner s t) r)

pub items_end : {A : Type 0} (all : A → List tree.Item) (inner : Bool) (is : List tree.Item) {v : A} {ts us : List Placed} → ItemsAt inner is ts us (all v) → false ≡ begins_item (first us) →
    Parsed (part.items inner ∷ []) (λ xs ys js. ReadsMoreItems inner is xs ys (all js)) ts (Ok v) us
items_end all inner is (ks, e, lead, h, s) t = parsed (ks, e, all_items_read ks lead, h) (turn s (ap (part.items_move inner) (sym t)))

-- items behind none
pub fresh_items : (inner : Bool) (before : List Item) {ts us : List Placed} {js : List tree.Item} → before ≡ [] → ReadsMoreItems inner (map item_of before) ts us js → ReadsItems ts us (items_of js) × AreInner inner (items_of js)
fresh_items inner before {ts = ts} {us = us} e (ks, f, r, h) =
    let same = f ∙ ap (λ z. map item_of z ++ ks) e in
    (subst (λ z. ReadsItems ts us (items_of z)) (sym same) r, subst (λ z. AreInner inner (items_of z)) (sym same) h)

-- what holds inside an include's braces holds outside
pub outside_too : (inner : Bool) (ts us : List Placed) (o : Option Item) → ReadsNext true ts us o → ReadsNext inner ts us o
outside_too false ts us (Some i) (r, h) = (r, tt)
outside_too true ts us (Some i) (r, h) = (r, h)
outside_too inner ts us None r = r
