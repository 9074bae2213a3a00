-- What stands for a part in the reader's table is that part, whatever token is next.
use Rattle.std.proofs.Common.{ℕ, Bool, true, false, List, [], ◌∷◌, ◌++◌, Option, refl}
use Rattle.rng_model.specs.Texts.{Text}
use Rattle.token_laws.specs.Tokens.{Keyword, Symbol, Token, keyword, ident, cname, ns_name, segment, symbol, Placed, ◌at◌}
use Rattle.token_laws.specs.Tokens.{open_brace, close_brace, open_paren, close_paren, open_bracket, close_bracket, equals, bar_equals, ampersand_equals, comma, ampersand, bar, question, star, plus, minus, tilde, follows}
use Rattle.token_laws.specs.Tokens as kw
use Rattle.grammar_laws.specs.Trees.{TypeName, Class, Classes, Pattern, Patterns, Item, Items, Uri, Declaration, Parameter, Passed, Method, more_items}
use Rattle.grammar_laws.specs.Grammar.{IsNoBracket, IsConnector, IsPostfix, IsType, ReadsLiteral, ReadsFilling, ReadsBlock, ReadsBlocks, ReadsFollow, ReadsUri, ReadsDeclaration, ReadsDeclarations, ReadsClass, ReadsAlternatives, ReadsSimple, ReadsBareClass, ReadsParameters, ReadsBraces, ReadsInherit, ReadsPattern, ReadsMembers, ReadsParticle, ReadsPrimary, ReadsBare, ReadsItem, ReadsItems, ReadsInner, IsInner}
use Rattle.grammar_laws.specs.Grammar as by
use Rattle.syntax_laws.specs.Expecting.{Part, Move, pass, become, refuse, next, is_symbol, is_word, is_assign}
use Rattle.syntax_laws.specs.Expecting as part
use Rattle.syntax_laws.proofs.SoundMeanings.{Means, AllMean, done, also, IsSound, ReadsSign, ReadsWord, ReadsName, ReadsPlainName, ReadsPrefixedName, ReadsNamespaceName, ReadsAnnotationName, ReadsSegment, ReadsTypeName, ReadsAssign, ReadsNothing, ReadsDefaultPrefix, ReadsBraced, ReadsParameter, BehindSegment, BehindSimple, IsBareClass, BehindAny, BehindParticle, BehindMember, BehindPrimary, IsBare, BehindType, BehindBraces, AreInner, IsInnerItem, AreItems, IsNextItem, BehindItemName, ReadsBody, BehindFirstName, BehindFirstType, BehindFirstBlocks, BehindAnnotatedName}
use Rattle.syntax_laws.proofs.SoundMeanings as read

-- parts of one token, passed
pub sign_passed : {s : Symbol} {a : ℕ} {ts us : List Placed} → AllMean [] ts us → ReadsSign s (symbol s at a ∷ ts) us
sign_passed done = read.sign

pub word_passed : {k : Keyword} {a : ℕ} {ts us : List Placed} → AllMean [] ts us → ReadsWord k (keyword k at a ∷ ts) us
word_passed done = read.word

pub plain_name_passed : {n : Text} {a : ℕ} {ts us : List Placed} → AllMean [] ts us → ReadsPlainName (ident n at a ∷ ts) us
plain_name_passed done = read.plain_name

pub prefixed_name_passed : {p n : Text} {a : ℕ} {ts us : List Placed} → AllMean [] ts us → ReadsPrefixedName (cname p n at a ∷ ts) us
prefixed_name_passed done = read.prefixed_name

pub namespace_name_passed : {p : Text} {a : ℕ} {ts us : List Placed} → AllMean [] ts us → ReadsNamespaceName (ns_name p at a ∷ ts) us
namespace_name_passed done = read.namespace_name

pub segment_passed : {s : Text} {a : ℕ} {ts us : List Placed} → AllMean [] ts us → ReadsSegment (segment s at a ∷ ts) us
segment_passed done = read.one_segment

pub name_passed : {t : Token} (n : Text) → by.IsAnyId t n → {a : ℕ} {ts us : List Placed} → AllMean [] ts us → ReadsName (t at a ∷ ts) us
name_passed n i done = read.name n i

pub annotation_name_passed : {t : Token} → by.IsAnnotationName t → {a : ℕ} {ts us : List Placed} → AllMean [] ts us → ReadsAnnotationName (t at a ∷ ts) us
annotation_name_passed i done = read.annotation_name i

pub type_passed : {t : Token} {a : ℕ} {of : TypeName} → IsType t a of → {ts us : List Placed} → AllMean [] ts us → ReadsTypeName (t at a ∷ ts) us
type_passed i done = read.type_name i

pub assign_passed : {s : Symbol} {m : Method} → by.IsAssign s m → {a : ℕ} {ts us : List Placed} → AllMean [] ts us → ReadsAssign (symbol s at a ∷ ts) us
assign_passed i done = read.assign i

pub nothing_read : {ts us : List Placed} → AllMean [] ts us → ReadsNothing ts us
nothing_read done = read.nothing

-- literals and annotations
pub literal_read : {ts us : List Placed} → AllMean (part.one_segment ∷ part.more_literal ∷ []) ts us → (l : Text) × ReadsLiteral ts us l
literal_read (also (read.one_segment {s = s} {a = a}) (also m done)) = m s a

pub literal_joined : {a : ℕ} {ts us : List Placed} → AllMean (part.literal ∷ []) ts us → BehindSegment (symbol tilde at a ∷ ts) us
literal_joined (also (l, r) done) s b = (s ++ l, by.joined r refl)

pub literal_ended : {ts us : List Placed} → AllMean [] ts us → BehindSegment ts us
literal_ended done s a = (s, by.one)

pub filling_closed : {a : ℕ} {ts us : List Placed} → AllMean [] ts us → ReadsFilling (symbol close_bracket at a ∷ ts) us
filling_closed done = by.closed

pub filling_nested : {a : ℕ} {ts us : List Placed} → AllMean (part.filling ∷ part.filling ∷ []) ts us → ReadsFilling (symbol open_bracket at a ∷ ts) us
filling_nested (also r (also s done)) = by.nested r s

pub filling_passed : {t : Token} → IsNoBracket t → {a : ℕ} {ts us : List Placed} → AllMean (part.filling ∷ []) ts us → ReadsFilling (t at a ∷ ts) us
filling_passed i (also r done) = by.ReadsFilling.passed i r

pub block_read : {ts us : List Placed} → AllMean (part.sign open_bracket ∷ part.filling ∷ []) ts us → ReadsBlock ts us
block_read (also read.sign (also r done)) = by.block r

pub blocks_read : {ts us : List Placed} → AllMean (part.block ∷ part.blocks ∷ []) ts us → ReadsBlocks ts us
blocks_read (also b (also r done)) = by.ReadsBlocks.more b r

pub no_blocks : {ts us : List Placed} → AllMean [] ts us → ReadsBlocks ts us
no_blocks done = by.ReadsBlocks.none

pub follow_read : {a : ℕ} {ts us : List Placed} → AllMean (part.annotation_name ∷ part.block ∷ part.follow ∷ []) ts us → ReadsFollow (symbol follows at a ∷ ts) us
follow_read (also (read.annotation_name i) (also b (also r done))) = by.ReadsFollow.more i b r

pub no_follow : {ts us : List Placed} → AllMean [] ts us → ReadsFollow ts us
no_follow done = by.ReadsFollow.none

-- declarations
pub inherit_read : {ts us : List Placed} → AllMean (part.word kw.inherit ∷ []) ts us → (u : Uri) × ReadsUri ts us u
inherit_read (also read.word done) = (_, by.inherit)

pub uri_read : {ts us : List Placed} → AllMean (part.literal ∷ []) ts us → (u : Uri) × ReadsUri ts us u
uri_read (also (l, r) done) = (_, by.ReadsUri.literal r)

pub prefix_read : {ts us : List Placed} → AllMean (part.name ∷ []) ts us → ReadsDefaultPrefix ts us
prefix_read (also (read.name n i) done) = read.a_prefix n i

pub no_prefix : {ts us : List Placed} → AllMean [] ts us → ReadsDefaultPrefix ts us
no_prefix done = read.no_prefix

pub namespace_read : {ts us : List Placed} → AllMean (part.word kw.namespace ∷ part.name ∷ part.sign equals ∷ part.uri ∷ []) ts us → (d : Declaration) × ReadsDeclaration ts us d
namespace_read (also read.word (also (read.name n i) (also read.sign (also (u, r) done)))) = (_, by.ReadsDeclaration.namespace i r)

pub default_read : {ts us : List Placed} → AllMean (part.word kw.default ∷ part.word kw.namespace ∷ part.default_prefix ∷ part.sign equals ∷ part.uri ∷ []) ts us → (d : Declaration) × ReadsDeclaration ts us d
default_read (also read.word (also read.word (also read.no_prefix (also read.sign (also (u, r) done))))) = (_, by.default r)
default_read (also read.word (also read.word (also (read.a_prefix n i) (also read.sign (also (u, r) done))))) = (_, by.default_prefix i r)

pub datatypes_read : {ts us : List Placed} → AllMean (part.word kw.datatypes ∷ part.name ∷ part.sign equals ∷ part.literal ∷ []) ts us → (d : Declaration) × ReadsDeclaration ts us d
datatypes_read (also read.word (also (read.name n i) (also read.sign (also (l, r) done)))) = (_, by.datatypes i r)

pub declarations_read : {ts us : List Placed} → AllMean (part.declaration ∷ part.declarations ∷ []) ts us → (ds : List Declaration) × ReadsDeclarations ts us ds
declarations_read (also (d, r) (also (ds, s) done)) = (_, by.ReadsDeclarations.more r s)

pub no_declarations : {ts us : List Placed} → AllMean [] ts us → (ds : List Declaration) × ReadsDeclarations ts us ds
no_declarations done = ([], by.ReadsDeclarations.none)

-- name classes
pub open_class : (e : Bool) {ts us : List Placed} {c : Class} → ReadsBareClass ts us c → IsBareClass e ts us
open_class false {c = c} r = (c, r)
open_class true {c = c} r = λ start ws b f. (c, by.simple b r f)

as_alternatives : {ts us : List Placed} {c : Class} → ReadsClass ts us c → (cs : Classes) × ReadsAlternatives ts us cs
as_alternatives (by.ReadsClass.single r) = (_, by.ReadsAlternatives.last r)
as_alternatives (by.ReadsClass.choice r s) = (_, by.ReadsAlternatives.more r s)

pub class_read : {ts us : List Placed} → AllMean (part.simple ∷ part.more_classes ∷ []) ts us → (c : Class) × ReadsClass ts us c
class_read (also (c, r) (also m done)) = m _ c r

pub classes_joined : {a : ℕ} {ts us : List Placed} → AllMean (part.class ∷ []) ts us → BehindSimple (symbol bar at a ∷ ts) us
classes_joined (also (d, s) done) start c r = (_, by.ReadsClass.choice r ((as_alternatives s).1))

pub classes_ended : {ts us : List Placed} → AllMean [] ts us → BehindSimple ts us
classes_ended done start c r = (c, by.ReadsClass.single r)

pub simple_read : {ts us : List Placed} → AllMean (part.blocks ∷ part.bare_class true ∷ part.follow ∷ []) ts us → (c : Class) × ReadsSimple ts us c
simple_read (also b (also m (also f done))) = m _ _ b f

pub plain_class_read : (e : Bool) {ts us : List Placed} → AllMean (part.name ∷ []) ts us → IsBareClass e ts us
plain_class_read e (also (read.name n i) done) = open_class e (by.plain i)

pub prefixed_class_read : (e : Bool) {ts us : List Placed} → AllMean (part.prefixed_name ∷ []) ts us → IsBareClass e ts us
prefixed_class_read e (also read.prefixed_name done) = open_class e by.ReadsBareClass.prefixed

pub class_in_parentheses : (e : Bool) {ts us : List Placed} → AllMean (part.sign open_paren ∷ part.class ∷ part.sign close_paren ∷ []) ts us → IsBareClass e ts us
class_in_parentheses e (also read.sign (also (c, r) (also read.sign done))) = open_class e (by.ReadsBareClass.parentheses r)

pub any_read : (e : Bool) {ts us : List Placed} → AllMean (part.sign star ∷ part.class_except e ∷ []) ts us → IsBareClass e ts us
any_read e (also (read.sign {a = a}) (also m done)) = m.0 a

pub any_in_namespace : (e : Bool) {ts us : List Placed} → AllMean (part.namespace_name ∷ part.class_except e ∷ []) ts us → IsBareClass e ts us
any_in_namespace e (also (read.namespace_name {p = p} {a = a}) (also m done)) = m.1 p a

pub class_except_read : {b : ℕ} {ts us : List Placed} → AllMean (part.blocks ∷ part.bare_class false ∷ []) ts us → BehindAny true (symbol minus at b ∷ ts) us
class_except_read (also b (also (c, r) done)) =
    (λ a start ws s f. (_, by.ReadsSimple.except s (by.any_except b r) f), λ p a start ws s f. (_, by.ReadsSimple.except s (by.namespace_except b r) f))

pub no_class_except : (e : Bool) {ts us : List Placed} → AllMean [] ts us → BehindAny e ts us
no_class_except e done = (λ a. open_class e by.any, λ p a. open_class e by.ReadsBareClass.namespace)

-- the parameters of types
pub parameter_read : {ts us : List Placed} → AllMean (part.blocks ∷ part.name ∷ part.sign equals ∷ part.literal ∷ []) ts us → ReadsParameter ts us
parameter_read (also b (also (read.name n i) (also read.sign (also (l, r) done)))) = read.parameter n b i r

pub parameters_read : {ts us : List Placed} → AllMean (part.parameter ∷ part.parameters ∷ []) ts us → (ps : List Parameter) × ReadsParameters ts us ps
parameters_read (also (read.parameter n b i r) (also (ps, s) done)) = (_, by.ReadsParameters.more b i r s)

pub no_parameters : {ts us : List Placed} → AllMean [] ts us → (ps : List Parameter) × ReadsParameters ts us ps
no_parameters done = ([], by.ReadsParameters.none)

pub braces_read : {a : ℕ} {ts us : List Placed} → AllMean (part.parameters ∷ part.sign close_brace ∷ []) ts us → (ps : List Parameter) × ReadsBraces (symbol open_brace at a ∷ ts) us ps
braces_read (also (ps, r) (also read.sign done)) = (ps, by.braces r)

pub no_braces : {ts us : List Placed} → AllMean [] ts us → (ps : List Parameter) × ReadsBraces ts us ps
no_braces done = ([], by.ReadsBraces.none)

pub passed_read : {ts us : List Placed} → AllMean (part.word kw.inherit ∷ part.sign equals ∷ part.name ∷ []) ts us → (h : Option Passed) × ReadsInherit ts us h
passed_read (also read.word (also read.sign (also (read.name n i) done))) = (_, by.ReadsInherit.passed i)

pub none_passed : {ts us : List Placed} → AllMean [] ts us → (h : Option Passed) × ReadsInherit ts us h
none_passed done = (_, by.ReadsInherit.none)

-- patterns
pub open_bare : (e : Bool) {ts us : List Placed} {p : Pattern} → ReadsBare ts us p → IsBare e ts us
open_bare false {p = p} r = (p, r)
open_bare true {p = p} r = λ start ws b f. (p, by.primary b r f)

pub pattern_read : {ts us : List Placed} → AllMean (part.particle ∷ part.more_patterns ∷ []) ts us → (p : Pattern) × ReadsPattern ts us p
pattern_read (also (p, r) (also m done)) = m _ p r

pub patterns_joined : {s : Symbol} {join : (Patterns → Pattern)} → IsConnector s join → {a : ℕ} {ts us : List Placed} → AllMean (part.members s ∷ []) ts us → BehindParticle (symbol s at a ∷ ts) us
patterns_joined c (also (ps, m) done) start p r = (_, by.chain c r m refl)

pub patterns_ended : {ts us : List Placed} → AllMean [] ts us → BehindParticle ts us
patterns_ended done start p r = (p, by.ReadsPattern.single r)

pub members_read : (s : Symbol) {ts us : List Placed} → AllMean (part.particle ∷ part.more_members s ∷ []) ts us → (ps : Patterns) × ReadsMembers s ts us ps
members_read s (also (p, r) (also m done)) = m _ p r

pub members_joined : (s : Symbol) {a : ℕ} {ts us : List Placed} → AllMean (part.members s ∷ []) ts us → BehindMember s (symbol s at a ∷ ts) us
members_joined s (also (ps, m) done) start p r = (_, by.ReadsMembers.more r m)

pub members_ended : (s : Symbol) {ts us : List Placed} → AllMean [] ts us → BehindMember s ts us
members_ended s done start p r = (_, by.ReadsMembers.last r)

pub particle_read : {ts us : List Placed} → AllMean (part.primary ∷ part.postfix ∷ []) ts us → (p : Pattern) × ReadsParticle ts us p
particle_read (also (p, r) (also m done)) = m _ p r

pub postfix_read : {s : Symbol} {repeat : (Pattern → Pattern)} → IsPostfix s repeat → {a : ℕ} {ts us : List Placed} → AllMean (part.follow ∷ []) ts us → BehindPrimary (symbol s at a ∷ ts) us
postfix_read c (also f done) start p r = (_, by.postfix c r f refl)

pub no_postfix : {ts us : List Placed} → AllMean [] ts us → BehindPrimary ts us
no_postfix done start p r = (p, by.once r)

pub primary_read : {ts us : List Placed} → AllMean (part.blocks ∷ part.bare true ∷ part.follow ∷ []) ts us → (p : Pattern) × ReadsPrimary ts us p
primary_read (also b (also m (also f done))) = m _ _ b f

pub braced_read : {ts us : List Placed} → AllMean (part.sign open_brace ∷ part.pattern ∷ part.sign close_brace ∷ []) ts us → ReadsBraced ts us
braced_read (also read.sign (also (p, r) (also read.sign done))) = read.braced r

pub element_read : (e : Bool) {ts us : List Placed} → AllMean (part.word kw.element ∷ part.class ∷ part.braced ∷ []) ts us → IsBare e ts us
element_read e (also read.word (also (c, r) (also (read.braced s) done))) = open_bare e (by.element r s)

pub attribute_read : (e : Bool) {ts us : List Placed} → AllMean (part.word kw.attribute ∷ part.class ∷ part.braced ∷ []) ts us → IsBare e ts us
attribute_read e (also read.word (also (c, r) (also (read.braced s) done))) = open_bare e (by.attribute r s)

pub list_read : (e : Bool) {ts us : List Placed} → AllMean (part.word kw.list ∷ part.braced ∷ []) ts us → IsBare e ts us
list_read e (also read.word (also (read.braced s) done)) = open_bare e (by.list s)

pub mixed_read : (e : Bool) {ts us : List Placed} → AllMean (part.word kw.mixed ∷ part.braced ∷ []) ts us → IsBare e ts us
mixed_read e (also read.word (also (read.braced s) done)) = open_bare e (by.mixed s)

pub reference_read : (e : Bool) {ts us : List Placed} → AllMean (part.plain_name ∷ []) ts us → IsBare e ts us
reference_read e (also read.plain_name done) = open_bare e by.ref

pub parent_read : (e : Bool) {ts us : List Placed} → AllMean (part.word kw.parent ∷ part.plain_name ∷ []) ts us → IsBare e ts us
parent_read e (also read.word (also read.plain_name done)) = open_bare e by.parent

pub empty_read : (e : Bool) {ts us : List Placed} → AllMean (part.word kw.empty ∷ []) ts us → IsBare e ts us
empty_read e (also read.word done) = open_bare e by.empty

pub text_read : (e : Bool) {ts us : List Placed} → AllMean (part.word kw.text ∷ []) ts us → IsBare e ts us
text_read e (also read.word done) = open_bare e by.text

pub not_allowed_read : (e : Bool) {ts us : List Placed} → AllMean (part.word kw.not_allowed ∷ []) ts us → IsBare e ts us
not_allowed_read e (also read.word done) = open_bare e by.not_allowed

pub value_read : (e : Bool) {ts us : List Placed} → AllMean (part.literal ∷ []) ts us → IsBare e ts us
value_read e (also (l, r) done) = open_bare e (by.ReadsBare.literal r)

pub typed_read : (e : Bool) {ts us : List Placed} → AllMean (part.type_name ∷ part.typed e ∷ []) ts us → IsBare e ts us
typed_read e (also (read.type_name {t = t} {a = a} {of = of} i) (also m done)) = m t a of i

pub external_read : (e : Bool) {ts us : List Placed} → AllMean (part.word kw.external ∷ part.literal ∷ part.passed ∷ []) ts us → IsBare e ts us
external_read e (also read.word (also (l, r) (also (h, s) done))) = open_bare e (by.external r s)

pub grammar_read : (e : Bool) {ts us : List Placed} → AllMean (part.word kw.grammar ∷ part.sign open_brace ∷ part.items false ∷ part.sign close_brace ∷ []) ts us → IsBare e ts us
grammar_read e (also read.word (also read.sign (also m (also read.sign done)))) = open_bare e (by.grammar m.1)

pub pattern_in_parentheses : (e : Bool) {ts us : List Placed} → AllMean (part.sign open_paren ∷ part.pattern ∷ part.sign close_paren ∷ []) ts us → IsBare e ts us
pattern_in_parentheses e (also read.sign (also (p, r) (also read.sign done))) = open_bare e (by.ReadsBare.parentheses r)

pub typed_value_read : (e : Bool) {ts us : List Placed} → AllMean (part.literal ∷ []) ts us → BehindType e ts us
typed_value_read e (also (l, r) done) t a of i = open_bare e (by.value i r)

pub type_alone_read : (e : Bool) {ts us : List Placed} → AllMean (part.braces ∷ part.except e ∷ []) ts us → BehindType e ts us
type_alone_read e (also (ps, r) (also m done)) t a of i = m t a of _ ps i r

pub except_read : {b : ℕ} {ts us : List Placed} → AllMean (part.blocks ∷ part.bare false ∷ []) ts us → BehindBraces true (symbol minus at b ∷ ts) us
except_read (also b (also (p, r) done)) t a of start ps i g first ws s f = (_, by.ReadsPrimary.except s i g b r f)

pub no_except : (e : Bool) {ts us : List Placed} → AllMean [] ts us → BehindBraces e ts us
no_except e done t a of start ps i g = open_bare e (by.data_type i g)

-- items
inner_item : (i : Bool) (it : Item) → IsInner it → IsInnerItem i it
inner_item false it h = tt
inner_item true it h = h

pub inner_div : (i : Bool) (is : Items) → AreInner i is → IsInnerItem i (Item.div is)
inner_div false is h = tt
inner_div true is h = h

next_inner : (i : Bool) (it : Item) (is : Items) → IsInnerItem i it → AreInner i is → AreInner i (more_items it is)
next_inner false it is h l = tt
next_inner true it is h l = (h, l)

pub start_read : (i : Bool) {ts us : List Placed} → AllMean (part.word kw.start ∷ part.assign ∷ part.pattern ∷ []) ts us → (it : Item) × ReadsItem ts us it × IsInnerItem i it
start_read i (also read.word (also (read.assign s) (also (p, r) done))) = (_, by.ReadsItem.start s r, inner_item i _ tt)

pub define_read : (i : Bool) {ts us : List Placed} → AllMean (part.plain_name ∷ part.assign ∷ part.pattern ∷ []) ts us → (it : Item) × ReadsItem ts us it × IsInnerItem i it
define_read i (also read.plain_name (also (read.assign s) (also (p, r) done))) = (_, by.define s r, inner_item i _ tt)

pub div_read : (i : Bool) {ts us : List Placed} → AllMean (part.word kw.div ∷ part.sign open_brace ∷ part.items i ∷ part.sign close_brace ∷ []) ts us → (it : Item) × ReadsItem ts us it × IsInnerItem i it
div_read i (also read.word (also read.sign (also (is, r, h) (also read.sign done)))) = (_, by.div r, inner_div i is h)

pub include_read : {ts us : List Placed} → AllMean (part.word kw.include ∷ part.literal ∷ part.passed ∷ part.inner ∷ []) ts us → (it : Item) × ReadsItem ts us it × IsInnerItem false it
include_read (also read.word (also (l, r) (also (h, s) (also (is, v) done)))) = (_, by.include r s v, tt)

pub annotated_item_read : (i : Bool) {ts us : List Placed} → AllMean (part.blocks ∷ part.item i ∷ []) ts us → IsNextItem i ts us
annotated_item_read i (also b (also (it, r, h) done)) ws m = (_, by.item b r m.1, next_inner i it m.0 h m.2)

pub named_next : (i : Bool) {ts us : List Placed} → AllMean (part.named_item ∷ []) ts us → IsNextItem i ts us
named_next i (also m done) = m i

pub annotation_read : (i : Bool) {ts us : List Placed} → AllMean (part.prefixed_name ∷ part.block ∷ []) ts us → IsNextItem i ts us
annotation_read i (also read.prefixed_name (also b done)) ws m = (m.0, by.annotation tt b m.1, m.2)

pub item_read : (i : Bool) {ts us : List Placed} → AllMean (part.item i ∷ []) ts us → IsNextItem i ts us
item_read i (also (it, r, h) done) ws m = (_, by.item by.ReadsBlocks.none r m.1, next_inner i it m.0 h m.2)

pub named_item_read : {ts us : List Placed} → AllMean (part.plain_name ∷ part.behind_name ∷ []) ts us → (i : Bool) → IsNextItem i ts us
named_item_read (also (read.plain_name {n = n} {a = a}) (also m done)) = m n a

pub named_annotation_read : {ts us : List Placed} → AllMean (part.block ∷ []) ts us → BehindItemName ts us
named_annotation_read (also b done) n a i ws m = (m.0, by.annotation tt b m.1, m.2)

pub definition_read : {ts us : List Placed} → AllMean (part.assign ∷ part.pattern ∷ []) ts us → BehindItemName ts us
definition_read (also (read.assign s) (also (p, r) done)) n a i ws m = (_, by.item by.ReadsBlocks.none (by.define s r) m.1, next_inner i _ m.0 (inner_item i _ tt) m.2)

pub items_read : (i : Bool) {ts us : List Placed} → AllMean (part.next_item i ∷ part.items i ∷ []) ts us → AreItems i ts us
items_read i (also m (also l done)) = m _ l

pub no_items : (i : Bool) {ts us : List Placed} → AllMean [] ts us → AreItems i ts us
no_items false done = (_, by.no_items, tt)
no_items true done = (_, by.no_items, tt)

pub inner_read : {a : ℕ} {ts us : List Placed} → AllMean (part.items true ∷ part.sign close_brace ∷ []) ts us → (is : Items) × ReadsInner (symbol open_brace at a ∷ ts) us is
inner_read (also (is, r, h) (also read.sign done)) = (is, by.inner r h)

pub no_inner : {ts us : List Placed} → AllMean [] ts us → (is : Items) × ReadsInner ts us is
no_inner done = (_, by.no_inner)

-- bodies
whole_pattern : {start ts us vs : List Placed} {p : Pattern} → ReadsPrimary start ts p → BehindPrimary ts us → BehindParticle us vs → ReadsBody start vs
whole_pattern {start = start} {p = p} r m n = let q = m start p r in let s = n start q.0 q.1 in read.a_pattern s.1

pub annotated_body_read : {ts us : List Placed} → AllMean (part.blocks ∷ part.annotated_body ∷ []) ts us → ReadsBody ts us
annotated_body_read (also b (also m done)) = m _ b

pub named_body_read : {ts us : List Placed} → AllMean (part.plain_name ∷ part.named_body ∷ []) ts us → ReadsBody ts us
named_body_read (also (read.plain_name {n = n} {a = a}) (also m done)) = m n a

pub typed_body_read : {ts us : List Placed} → AllMean (part.prefixed_name ∷ part.typed_body ∷ []) ts us → ReadsBody ts us
typed_body_read (also (read.prefixed_name {p = p} {n = n} {a = a}) (also m done)) = m p n a

pub pattern_body_read : {ts us : List Placed} → AllMean (part.pattern ∷ []) ts us → ReadsBody ts us
pattern_body_read (also (p, r) done) = read.a_pattern r

pub items_body_read : {ts us : List Placed} → AllMean (part.items false ∷ []) ts us → ReadsBody ts us
items_body_read (also m done) = read.some_items m.1

pub first_annotation_read : {ts us : List Placed} → AllMean (part.block ∷ part.items false ∷ []) ts us → BehindFirstName ts us
first_annotation_read (also b (also m done)) n a = read.some_items (by.annotation tt b m.1)

pub first_define_read : {ts us : List Placed} → AllMean (part.assign ∷ part.pattern ∷ part.items false ∷ []) ts us → BehindFirstName ts us
first_define_read (also (read.assign s) (also (p, r) (also m done))) n a = read.some_items (by.item by.ReadsBlocks.none (by.define s r) m.1)

pub first_reference_read : {ts us : List Placed} → AllMean (part.follow ∷ part.postfix ∷ part.more_patterns ∷ []) ts us → BehindFirstName ts us
first_reference_read (also f (also m (also o done))) n a = whole_pattern (by.primary by.ReadsBlocks.none by.ref f) m o

pub typed_annotation_read : {ts us : List Placed} → AllMean (part.block ∷ part.items false ∷ []) ts us → BehindFirstType ts us
typed_annotation_read (also b (also m done)) p n a = read.some_items (by.annotation tt b m.1)

pub first_type_read : {ts us : List Placed} → AllMean (part.typed true ∷ part.follow ∷ part.postfix ∷ part.more_patterns ∷ []) ts us → BehindFirstType ts us
first_type_read (also k (also f (also m (also o done)))) p n a = whole_pattern ((k (cname p n) a _ by.IsType.prefixed _ _ by.ReadsBlocks.none f).1) m o

pub first_item_read : {ts us : List Placed} → AllMean (part.item false ∷ part.items false ∷ []) ts us → BehindFirstBlocks ts us
first_item_read (also (it, r, h) (also m done)) start b = read.some_items (by.item b r m.1)

pub annotated_name_read : {ts us : List Placed} → AllMean (part.plain_name ∷ part.annotated_name ∷ []) ts us → BehindFirstBlocks ts us
annotated_name_read (also (read.plain_name {n = n} {a = a}) (also m done)) start b = m start n a b

pub annotated_pattern_read : {ts us : List Placed} → AllMean (part.bare true ∷ part.follow ∷ part.postfix ∷ part.more_patterns ∷ []) ts us → BehindFirstBlocks ts us
annotated_pattern_read (also k (also f (also m (also o done)))) start b = whole_pattern ((k start _ b f).1) m o

pub annotated_define_read : {ts us : List Placed} → AllMean (part.assign ∷ part.pattern ∷ part.items false ∷ []) ts us → BehindAnnotatedName ts us
annotated_define_read (also (read.assign s) (also (p, r) (also m done))) start n a b = read.some_items (by.item b (by.define s r) m.1)

pub annotated_reference_read : {ts us : List Placed} → AllMean (part.follow ∷ part.postfix ∷ part.more_patterns ∷ []) ts us → BehindAnnotatedName ts us
annotated_reference_read (also f (also m (also o done))) start n a b = whole_pattern (by.primary b by.ref f) m o
