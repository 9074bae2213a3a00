-- What the grammar derives is read: patterns and items.
use Rattle.std.proofs.Common.{ℕ, zero-le, le_refl, Option, Bool, true, false, List, [], ◌∷◌, refl}
use Rattle.std.specs.Prelude.{⊤}
use Rattle.rng_model.specs.Texts.{Text}
use Rattle.token_laws.specs.Tokens.{Symbol, Token, keyword, ident, cname, ns_name, segment, symbol, Placed, ◌at◌, open_brace, close_brace, close_paren, minus}
use Rattle.token_laws.specs.Tokens as word
use Rattle.grammar_laws.specs.Trees.{Parameter, Passed, Pattern, Patterns, Item, Items}
use Rattle.grammar_laws.specs.Grammar.{ReadsLiteral, ReadsBlock, ReadsBlocks, ReadsFollow, ReadsBraces, ReadsInherit, ReadsClass, IsItemName, IsType, IsConnector, IsPostfix, IsAssign, ReadsPattern, ReadsMembers, ReadsParticle, ReadsPrimary, ReadsBare, ReadsItems, ReadsItem, ReadsInner, HasNoInclude, IsInner}
use Rattle.grammar_laws.specs.Grammar as by
use Rattle.grammar_laws.proofs.Ends.{Stops, rank, brace_rank, up, no_tilde, no_brace, no_inherit, no_follows}
use Rattle.grammar_laws.proofs.Parameters.{IsClosed}
use Rattle.grammar_laws.proofs.Patterns.{End, bare_no_bracket, type_no_bracket, inner_end, inherit_no_tilde}
use Rattle.grammar_laws.proofs.Items.{postfix_end, connector_end, before_items, item_no_bracket, inner_no_tilde, inner_no_inherit, end_4}
use Rattle.syntax_laws.specs.Expecting.{Part, become, first, next, Stands}
use Rattle.syntax_laws.specs.Expecting as part
use Rattle.syntax_laws.proofs.Local.{ended, turns, takes, no_parts, joins, joins_all, stands_to_end}
use Rattle.syntax_laws.proofs.Stops.{pattern_ends, members_end, postfix_ends, except_ends, no_value, inner_ends, items_end, type_passes, type_begins, assign_passes, assign_behind_name, postfix_passes, connector_passes, member_passes}
use Rattle.syntax_laws.proofs.ReadsLeaves.{literal_read, block_read, blocks_read, follow_read, braces_read, inherit_read}
use Rattle.syntax_laws.proofs.ReadsClasses.{class_read}

-- in an include's braces there is no include
abbrev AreAllowed : Bool → Items → Type 0
AreAllowed false is = ⊤
AreAllowed true is = HasNoInclude is

abbrev IsAllowed : Bool → Item → Type 0
IsAllowed false i = ⊤
IsAllowed true i = IsInner i

first_allowed : (b : Bool) (i : Item) (is : Items) → AreAllowed b (Items.more_items i is) → IsAllowed b i
first_allowed false i is h = tt
first_allowed true i is h = h.0

others_allowed : (b : Bool) (i : Item) (is : Items) → AreAllowed b (Items.more_items i is) → AreAllowed b is
others_allowed false i is h = tt
others_allowed true i is h = h.1

div_allowed : (b : Bool) (is : Items) → IsAllowed b (Item.div is) → AreAllowed b is
div_allowed false is h = tt
div_allowed true is h = h

-- behind a type: a value, or a datatype

value_behind : (b : Bool) {ts us : List Placed} {l : Text} → ReadsLiteral ts us l → Stands (part.literal ∷ []) ts [] us → Stands (part.typed b ∷ []) ts [] us
value_behind b by.one s = turns refl s
value_behind b (by.joined r made) s = turns refl s

data_behind : (b : Bool) {xs : List Part} {ts us vs : List Placed} {ps : List Parameter} → ReadsBraces ts us ps → Stops rank 4 us → Stands (part.braces ∷ part.except b ∷ xs) ts [] vs → Stands (part.typed b ∷ xs) ts [] vs
data_behind b (by.ReadsBraces.none {ts = ts}) e s = turns (no_value b ts e) s
data_behind b (by.ReadsBraces.braces r) e s = turns refl s

literal_pattern : (b : Bool) {ts us : List Placed} {l : Text} → ReadsLiteral ts us l → Stands (part.literal ∷ []) ts [] us → Stands (part.bare b ∷ []) ts [] us
literal_pattern b by.one s = turns refl s
literal_pattern b (by.joined r made) s = turns refl s

datatype_read : (b : Bool) {ts us : List Placed} {ps : List Parameter} → ReadsBraces ts us ps → End 3 us → Stands (part.typed b ∷ []) ts [] us
datatype_read b {us = us} r e = data_behind b r (up rank 3 us e) (joins (braces_read r (no_brace us (up rank 3 us e))) (turns (except_ends b us e) no_parts))

-- an item behind no annotations is its name and what stands behind it, or another item
named_behind : (b : Bool) {n : Text} {a : ℕ} {ts us : List Placed} → Stands (part.item b ∷ []) (ident n at a ∷ ts) [] us → Stands (part.assign ∷ part.pattern ∷ []) ts [] us
named_behind b s = stands_to_end (ended (ended (s.runs [])))

include_item : (b : Bool) {a : ℕ} {ts us : List Placed} (l : Text) (h : Option Passed) (is : Items) → IsAllowed b (Item.include l h is a) →
    Stands (part.literal ∷ part.passed ∷ part.inner ∷ []) ts [] us → Stands (part.item b ∷ []) (keyword word.include at a ∷ ts) [] us
include_item false l h is i s = turns refl (takes refl s)
include_item true l h is i s = elim i [ ]

items_next : (b : Bool) {ts us vs ws : List Placed} {i : Item} → ReadsBlocks ts us → ReadsItem us vs i → Stands (part.blocks ∷ []) ts [] us → Stands (part.item b ∷ []) us [] vs → Stands (part.items b ∷ []) vs [] ws →
    Stands (part.items b ∷ []) ts [] ws
items_next b by.ReadsBlocks.none (by.ReadsItem.start i p) bs s r = turns refl (turns refl (joins s r))
items_next b by.ReadsBlocks.none (by.define i p) bs s r = turns refl (turns refl (turns refl (takes refl (turns (assign_behind_name i) (joins_all (named_behind b s) r)))))
items_next b by.ReadsBlocks.none (by.div is) bs s r = turns refl (turns refl (joins s r))
items_next b by.ReadsBlocks.none (by.include l h is) bs s r = turns refl (turns refl (joins s r))
items_next b (by.ReadsBlocks.more (by.block f) rest) i bs s r = turns refl (turns refl (joins bs (joins s r)))

annotation_next : (b : Bool) (t : Token) {a : ℕ} {ts us vs : List Placed} → IsItemName t → ReadsBlock ts us → Stands (part.items b ∷ []) us [] vs → Stands (part.items b ∷ []) (t at a ∷ ts) [] vs
annotation_next b (keyword k) n bl r = elim n [ ]
annotation_next b (ident m) n (by.block f) r = turns refl (turns refl (turns refl (takes refl (turns refl (joins (block_read (by.block f)) r)))))
annotation_next b (cname p m) n bl r = turns refl (turns refl (takes refl (joins (block_read bl) r)))
annotation_next b (ns_name p) n bl r = elim n [ ]
annotation_next b (segment s) n bl r = elim n [ ]
annotation_next b (symbol s) n bl r = elim n [ ]

mutual
  pub pattern_read : {ts us : List Placed} {p : Pattern} → ReadsPattern ts us p → End 0 us → Stands (part.pattern ∷ []) ts [] us
  pattern_read (by.ReadsPattern.single {us = us} r) e = turns refl (joins (particle_read r (up rank 0 us e)) (turns (pattern_ends us e) no_parts))
  pattern_read (by.chain {a = a} {us = us} i r rs made) e = turns refl (joins (particle_read r (connector_end a us i)) (takes (connector_passes i) (members_read rs i e)))

  members_read : {s : Symbol} {join : Patterns → Pattern} {ts us : List Placed} {ps : Patterns} → ReadsMembers s ts us ps → IsConnector s join → End 0 us → Stands (part.members s ∷ []) ts [] us
  members_read (by.ReadsMembers.last {us = us} r) i e = turns refl (joins (particle_read r (up rank 0 us e)) (turns (members_end i us e) no_parts))
  members_read (by.ReadsMembers.more {a = a} {us = us} r rs) i e = turns refl (joins (particle_read r (connector_end a us i)) (takes (member_passes i) (members_read rs i e)))

  particle_read : {ts us : List Placed} {p : Pattern} → ReadsParticle ts us p → End 1 us → Stands (part.particle ∷ []) ts [] us
  particle_read (by.once {us = us} r) e = turns refl (joins (primary_read r (up rank 1 us e)) (turns (postfix_ends us e) no_parts))
  particle_read (by.postfix {a = a} {us = us} {vs = vs} i r f made) e = turns refl (joins (primary_read r (postfix_end a us i)) (takes (postfix_passes i) (follow_read f (no_follows vs (up rank 1 vs e)))))

  primary_read : {ts us : List Placed} {p : Pattern} → ReadsPrimary ts us p → End 2 us → Stands (part.primary ∷ []) ts [] us
  primary_read (by.primary {ws = ws} b r f) e = turns refl (joins (blocks_read b (bare_no_bracket r)) (joins (bare_read true r (inner_end f e)) (follow_read f (no_follows ws e))))
  primary_read (by.ReadsPrimary.except {us = us} {ys = ys} b i br bl r f) e =
      turns refl
      (joins (blocks_read b (type_no_bracket us i))
      (turns (type_begins true i)
      (takes (type_passes i)
      (data_behind true br (le_refl 4)
      (joins (braces_read br zero-le) (takes refl (joins (blocks_read bl (bare_no_bracket r)) (joins (bare_read false r (inner_end f e)) (follow_read f (no_follows ys e))))))))))

  bare_read : (b : Bool) {ts us : List Placed} {p : Pattern} → ReadsBare ts us p → End 3 us → Stands (part.bare b ∷ []) ts [] us
  bare_read b (by.element c q) e = turns refl (takes refl (joins (class_read c zero-le) (turns refl (takes refl (joins (pattern_read q zero-le) (takes refl no_parts))))))
  bare_read b (by.attribute c q) e = turns refl (takes refl (joins (class_read c zero-le) (turns refl (takes refl (joins (pattern_read q zero-le) (takes refl no_parts))))))
  bare_read b (by.list q) e = turns refl (takes refl (turns refl (takes refl (joins (pattern_read q zero-le) (takes refl no_parts)))))
  bare_read b (by.mixed q) e = turns refl (takes refl (turns refl (takes refl (joins (pattern_read q zero-le) (takes refl no_parts)))))
  bare_read b by.ref e = turns refl (takes refl no_parts)
  bare_read b by.parent e = turns refl (takes refl (takes refl no_parts))
  bare_read b by.empty e = turns refl (takes refl no_parts)
  bare_read b by.text e = turns refl (takes refl no_parts)
  bare_read b by.not_allowed e = turns refl (takes refl no_parts)
  bare_read b (by.ReadsBare.literal {us = us} l) e = literal_pattern b l (literal_read l (no_tilde us e))
  bare_read b (by.value {us = us} i l) e = turns (type_begins b i) (takes (type_passes i) (value_behind b l (literal_read l (no_tilde us e))))
  bare_read b (by.data_type i br) e = turns (type_begins b i) (takes (type_passes i) (datatype_read b br e))
  bare_read b (by.external {vs = vs} l h) e = turns refl (takes refl (joins (literal_read l (inherit_no_tilde h (no_tilde vs e))) (inherit_read h (no_inherit vs e))))
  bare_read b (by.grammar is) e = turns refl (takes refl (takes refl (joins (items_read false is tt tt) (takes refl no_parts))))
  bare_read b (by.ReadsBare.parentheses q) e = turns refl (takes refl (joins (pattern_read q zero-le) (takes refl no_parts)))

  pub items_read : (b : Bool) {ts us : List Placed} {is : Items} → ReadsItems ts us is → AreAllowed b is → IsClosed us → Stands (part.items b ∷ []) ts [] us
  items_read b (by.no_items {ts = ts}) h e = turns (items_end b ts e) no_parts
  items_read b (by.item {i = i} {is = is} bs r rs) h e =
      items_next b bs r (blocks_read bs (item_no_bracket r)) (item_read b r (first_allowed b i is h) (before_items rs e)) (items_read b rs (others_allowed b i is h) e)
  items_read b (by.annotation {t = t} n bl rs) h e = annotation_next b t n bl (items_read b rs h e)

  item_read : (b : Bool) {ts us : List Placed} {i : Item} → ReadsItem ts us i → IsAllowed b i → End 0 us → Stands (part.item b ∷ []) ts [] us
  item_read b (by.ReadsItem.start i p) h e = turns refl (takes refl (takes (assign_passes i) (pattern_read p e)))
  item_read b (by.define i p) h e = turns refl (takes refl (takes (assign_passes i) (pattern_read p e)))
  item_read b (by.div {is = is} rs) h e = turns refl (takes refl (takes refl (joins (items_read b rs (div_allowed b is h) tt) (takes refl no_parts))))
  item_read b (by.include {ws = ws} {l = l} {h = g} {is = is} lit inh inn) h e =
      include_item b l g is h (joins (literal_read lit (inherit_no_tilde inh (inner_no_tilde inn e))) (joins (inherit_read inh (inner_no_inherit inn e)) (inner_read inn (no_brace ws (end_4 ws e)))))

  inner_read : {ts us : List Placed} {is : Items} → ReadsInner ts us is → Stops brace_rank 0 us → Stands (part.inner ∷ []) ts [] us
  inner_read (by.no_inner {ts = ts}) e = turns (inner_ends ts e) no_parts
  inner_read (by.inner rs h) e = takes refl (joins (items_read true rs h tt) (takes refl no_parts))
