-- What is read from tokens that are sound is a sound tree.
use Rattle.std.proofs.Common.{◌≡◌, ℕ, ◌≤◌, arith, true, List, [], ◌∷◌, ◌++◌, Option, refl, sym, ap, ◌∙◌, subst}
use Rattle.rng_model.specs.Texts.{Text}
use Rattle.rng_model.specs.Names.{is_ncname, is_name_start, is_name_char}
use Rattle.std.specs.Str.{chars, is_utf8}
use Rattle.token_laws.specs.Tokens.{Keyword, Symbol, Token, keyword, ident, cname, Placed, ◌at◌}
use Rattle.token_laws.specs.Tokens as word
use Rattle.token_laws.specs.Spellings.{keyword_text}
use Rattle.grammar_laws.specs.Trees.{TypeName, Parameter, Passed, Class, Classes, Pattern, Patterns, more_patterns, Item, Items, Body, File}
use Rattle.grammar_laws.specs.Grammar.{IsAnyId, ReadsClass, ReadsAlternatives, ReadsSimple, ReadsBareClass, ReadsClassExcept, IsType, ReadsParameters, ReadsBraces, ReadsInherit, IsConnector, IsPostfix, ReadsPattern, ReadsMembers, ReadsParticle, ReadsPrimary, ReadsBare, ReadsItems, ReadsItem, ReadsInner, DerivesBody, Derives}
use Rattle.grammar_laws.specs.Grammar as by
use Rattle.grammar_laws.proofs.Fronts.{part_literal, part_block, part_blocks, part_declarations, part_class, part_simple, part_braces, part_inherit, part_particle, part_item}
use Rattle.rnc_lexer.specs.Sound.{HasNcNames, AreSound}
use Rattle.schema_tree.specs.Sound.{IsSoundClass, AreSoundClasses, HasTwoClasses, HasTwo, IsSoundType, AreSoundParameters, IsSoundPassed, IsSoundPattern, AreSoundPatterns, IsSoundItem, AreSoundItems, IsSoundBody}

sound_rest : (n : ℕ) (xs us : List Placed) → AreSound n (xs ++ us) → AreSound n us
sound_rest n [] us s = s
sound_rest n (t at a ∷ xs) us (h, s) = sound_rest n xs us s

-- what is behind a part is sound
pub behind : (n : ℕ) {ts us : List Placed} {f : List Placed → List Placed} → ((xs : List Placed) × ((vs : List Placed) → xs ++ vs ≡ f vs)) → ts ≡ f us → AreSound n ts → AreSound n us
behind n {us = us} (xs, front) e s = sound_rest n xs us (subst (AreSound n) (e ∙ sym (front us)) s)

keyword_name : (k : Keyword) → is_ncname (keyword_text k) ≡ true
unfolding chars is_utf8 is_ncname is_name_start is_name_char
keyword_name word.attribute = refl
keyword_name word.default = refl
keyword_name word.datatypes = refl
keyword_name word.div = refl
keyword_name word.element = refl
keyword_name word.empty = refl
keyword_name word.external = refl
keyword_name word.grammar = refl
keyword_name word.include = refl
keyword_name word.inherit = refl
keyword_name word.list = refl
keyword_name word.mixed = refl
keyword_name word.namespace = refl
keyword_name word.not_allowed = refl
keyword_name word.parent = refl
keyword_name word.start = refl
keyword_name word.string = refl
keyword_name word.text = refl
keyword_name word.token = refl

any_name : (t : Token) (l : Text) → HasNcNames t → IsAnyId t l → is_ncname l ≡ true
any_name (keyword k) l h e = ap is_ncname e ∙ keyword_name k
any_name (cname p m) l h e = elim e [ ]
any_name (word.ns_name p) l h e = elim e [ ]
any_name (word.segment m) l h e = elim e [ ]
any_name (word.symbol m) l h e = elim e [ ]
any_name (ident m) l h e = ap is_ncname e ∙ h m (0, omega arith, refl)

local_name : (p l : Text) → HasNcNames (cname p l) → is_ncname l ≡ true
local_name p l h = h l (1, omega arith, refl)

type_sound : (n : ℕ) {t : Token} {a : ℕ} {k : TypeName} → IsType t a k → a ≤ n → IsSoundType n k
type_sound n by.IsType.prefixed h = h
type_sound n by.IsType.string h = h
type_sound n by.IsType.token h = h

parameters_sound : (n : ℕ) {ts us : List Placed} {ps : List Parameter} → ReadsParameters ts us ps → AreSound n ts → AreSoundParameters n ps
parameters_sound n by.ReadsParameters.none s = tt
parameters_sound n (by.ReadsParameters.more b i l ps) s = let r = behind n ((part_blocks b).1) ((part_blocks b).2) s in (r.0.0, parameters_sound n ps (behind n ((part_literal l).1) ((part_literal l).2) r.1.1))

braces_sound : (n : ℕ) {ts us : List Placed} {ps : List Parameter} → ReadsBraces ts us ps → AreSound n ts → AreSoundParameters n ps
braces_sound n by.ReadsBraces.none s = tt
braces_sound n (by.braces ps) (h, s) = parameters_sound n ps s

passed_sound : (n : ℕ) {ts us : List Placed} {h : Option Passed} → ReadsInherit ts us h → AreSound n ts → IsSoundPassed n h
passed_sound n by.ReadsInherit.none s = tt
passed_sound n (by.passed i) (h, s) = h.0

two_classes : (c : Class) {ts us : List Placed} {cs : Classes} → ReadsAlternatives ts us cs → HasTwoClasses (Classes.more_classes c cs)
two_classes d (by.ReadsAlternatives.last c) = tt
two_classes d (by.ReadsAlternatives.more c cs) = tt

mutual
  class_sound : (n : ℕ) {ts us : List Placed} {c : Class} → ReadsClass ts us c → AreSound n ts → IsSoundClass n c
  class_sound n (by.ReadsClass.single c) s = simple_sound n c s
  class_sound n (by.ReadsClass.choice {c = d} c cs) s = (two_classes d cs, (simple_sound n c s, classes_sound n cs (behind n ((part_simple c).1) ((part_simple c).2) s).1))

  classes_sound : (n : ℕ) {ts us : List Placed} {cs : Classes} → ReadsAlternatives ts us cs → AreSound n ts → AreSoundClasses n cs
  classes_sound n (by.ReadsAlternatives.last c) s = (simple_sound n c s, tt)
  classes_sound n (by.ReadsAlternatives.more c cs) s = (simple_sound n c s, classes_sound n cs (behind n ((part_simple c).1) ((part_simple c).2) s).1)

  simple_sound : (n : ℕ) {ts us : List Placed} {c : Class} → ReadsSimple ts us c → AreSound n ts → IsSoundClass n c
  simple_sound n (by.simple b c f) s = bare_class_sound n c (behind n ((part_blocks b).1) ((part_blocks b).2) s)
  simple_sound n (by.ReadsSimple.except b c f) s = except_class_sound n c (behind n ((part_blocks b).1) ((part_blocks b).2) s)

  bare_class_sound : (n : ℕ) {ts us : List Placed} {c : Class} → ReadsBareClass ts us c → AreSound n ts → IsSoundClass n c
  bare_class_sound n (by.ReadsBareClass.plain {t = t} {n = l} i) (h, s) = (h.0, any_name t l h.1 i)
  bare_class_sound n (by.ReadsBareClass.prefixed {p = p} {n = l}) (h, s) = (h.0, local_name p l h.1)
  bare_class_sound n (by.ReadsBareClass.parentheses c) (h, s) = class_sound n c s
  bare_class_sound n by.ReadsBareClass.any (h, s) = h.0
  bare_class_sound n by.ReadsBareClass.namespace (h, s) = h.0

  except_class_sound : (n : ℕ) {ts us : List Placed} {c : Class} → ReadsClassExcept ts us c → AreSound n ts → IsSoundClass n c
  except_class_sound n (by.any_except b c) (h, s) = (h.0, bare_class_sound n c (behind n ((part_blocks b).1) ((part_blocks b).2) s.1))
  except_class_sound n (by.namespace_except b c) (h, s) = (h.0, bare_class_sound n c (behind n ((part_blocks b).1) ((part_blocks b).2) s.1))

two_members : (p : Pattern) {s : Symbol} {ts us : List Placed} {ps : Patterns} → ReadsMembers s ts us ps → HasTwo (more_patterns p ps)
two_members q (by.ReadsMembers.last p) = tt
two_members q (by.ReadsMembers.more p ps) = tt

joined_sound : (n : ℕ) {s : Symbol} {join : Patterns → Pattern} (ps : Patterns) → IsConnector s join → HasTwo ps → AreSoundPatterns n ps → IsSoundPattern n (join ps)
joined_sound n ps by.IsConnector.group t s = (t, s)
joined_sound n ps by.IsConnector.choice t s = (t, s)
joined_sound n ps by.IsConnector.interleave t s = (t, s)

repeated_sound : (n : ℕ) {s : Symbol} {repeat : Pattern → Pattern} (p : Pattern) → IsPostfix s repeat → IsSoundPattern n p → IsSoundPattern n (repeat p)
repeated_sound n p by.IsPostfix.optional s = s
repeated_sound n p by.IsPostfix.zero_or_more s = s
repeated_sound n p by.IsPostfix.one_or_more s = s

mutual
  pattern_sound : (n : ℕ) {ts us : List Placed} {p : Pattern} → ReadsPattern ts us p → AreSound n ts → IsSoundPattern n p
  pattern_sound n (by.ReadsPattern.single p) s = particle_sound n p s
  pattern_sound n (by.ReadsPattern.chain {p = p} {ps = ps} c q qs e) s =
      subst (IsSoundPattern n) (sym e) (joined_sound n (more_patterns p ps) c (two_members p qs) (particle_sound n q s, members_sound n qs (behind n ((part_particle q).1) ((part_particle q).2) s).1))

  members_sound : (n : ℕ) {s : Symbol} {ts us : List Placed} {ps : Patterns} → ReadsMembers s ts us ps → AreSound n ts → AreSoundPatterns n ps
  members_sound n (by.ReadsMembers.last p) s = (particle_sound n p s, tt)
  members_sound n (by.ReadsMembers.more p ps) s = (particle_sound n p s, members_sound n ps (behind n ((part_particle p).1) ((part_particle p).2) s).1)

  particle_sound : (n : ℕ) {ts us : List Placed} {p : Pattern} → ReadsParticle ts us p → AreSound n ts → IsSoundPattern n p
  particle_sound n (by.once p) s = primary_sound n p s
  particle_sound n (by.postfix {p = p} m q f e) s = subst (IsSoundPattern n) (sym e) (repeated_sound n p m (primary_sound n q s))

  primary_sound : (n : ℕ) {ts us : List Placed} {p : Pattern} → ReadsPrimary ts us p → AreSound n ts → IsSoundPattern n p
  primary_sound n (by.primary b p f) s = bare_sound n p (behind n ((part_blocks b).1) ((part_blocks b).2) s)
  primary_sound n (by.ReadsPrimary.except b t ps c p f) s =
      let r = behind n ((part_blocks b).1) ((part_blocks b).2) s in
      (type_sound n t r.0.0, braces_sound n ps r.1, bare_sound n p (behind n ((part_blocks c).1) ((part_blocks c).2) (behind n ((part_braces ps).1) ((part_braces ps).2) r.1).1))

  bare_sound : (n : ℕ) {ts us : List Placed} {p : Pattern} → ReadsBare ts us p → AreSound n ts → IsSoundPattern n p
  bare_sound n (by.ReadsBare.element c p) (h, s) = (h.0, class_sound n c s, pattern_sound n p (behind n ((part_class c).1) ((part_class c).2) s).1)
  bare_sound n (by.ReadsBare.attribute c p) (h, s) = (h.0, class_sound n c s, pattern_sound n p (behind n ((part_class c).1) ((part_class c).2) s).1)
  bare_sound n (by.ReadsBare.list p) (h, s) = (h.0, pattern_sound n p s.1)
  bare_sound n (by.ReadsBare.mixed p) (h, s) = pattern_sound n p s.1
  bare_sound n by.ReadsBare.ref (h, s) = h.0
  bare_sound n by.ReadsBare.parent (h, s) = h.0
  bare_sound n by.ReadsBare.empty s = tt
  bare_sound n by.ReadsBare.text s = tt
  bare_sound n by.ReadsBare.not_allowed s = tt
  bare_sound n (by.ReadsBare.literal l) s = tt
  bare_sound n (by.ReadsBare.value t l) (h, s) = type_sound n t h.0
  bare_sound n (by.ReadsBare.data_type t ps) (h, s) = (type_sound n t h.0, braces_sound n ps s)
  bare_sound n (by.ReadsBare.external l i) (h, s) = (h.0, passed_sound n i (behind n ((part_literal l).1) ((part_literal l).2) s))
  bare_sound n (by.ReadsBare.grammar is) (h, s) = items_sound n is s.1
  bare_sound n (by.ReadsBare.parentheses p) (h, s) = pattern_sound n p s

  items_sound : (n : ℕ) {ts us : List Placed} {is : Items} → ReadsItems ts us is → AreSound n ts → AreSoundItems n is
  items_sound n by.ReadsItems.no_items s = tt
  items_sound n (by.ReadsItems.item b i is) s =
      let r = behind n ((part_blocks b).1) ((part_blocks b).2) s in
      (item_sound n i r, items_sound n is (behind n ((part_item i).1) ((part_item i).2) r))
  items_sound n (by.ReadsItems.annotation t b is) (h, s) = items_sound n is (behind n ((part_block b).1) ((part_block b).2) s)

  item_sound : (n : ℕ) {ts us : List Placed} {i : Item} → ReadsItem ts us i → AreSound n ts → IsSoundItem n i
  item_sound n (by.ReadsItem.start m p) (h, s) = (h.0, pattern_sound n p s.1)
  item_sound n (by.ReadsItem.define m p) (h, s) = (h.0, pattern_sound n p s.1)
  item_sound n (by.ReadsItem.div is) (h, s) = items_sound n is s.1
  item_sound n (by.ReadsItem.include l i is) (h, s) =
      let r = behind n ((part_literal l).1) ((part_literal l).2) s in
      (h.0, passed_sound n i r, inner_sound n is (behind n ((part_inherit i).1) ((part_inherit i).2) r))

  inner_sound : (n : ℕ) {ts us : List Placed} {is : Items} → ReadsInner ts us is → AreSound n ts → AreSoundItems n is
  inner_sound n by.no_inner s = tt
  inner_sound n (by.inner is f) (h, s) = items_sound n is s

body_sound : (n : ℕ) {ts : List Placed} {b : Body} → DerivesBody ts b → AreSound n ts → IsSoundBody n b
body_sound n (by.DerivesBody.pattern p) s = pattern_sound n p s
body_sound n (by.DerivesBody.items is) s = items_sound n is s

pub tree_sound : (n : ℕ) (ts : List Placed) (f : File) → AreSound n ts → Derives ts f → IsSoundBody n f.body
tree_sound n ts f s (by.top ds b) = body_sound n b (behind n ((part_declarations ds).1) ((part_declarations ds).2) s)
