-- The places of the references in what is read are places of the tokens that it is read from, in their order.
use Rattle.std.proofs.Common.{◌≡◌, ℕ, List, [], ◌∷◌, ◌++◌, Option, refl, sym, ap, ◌∙◌, subst}
use Rattle.rng_model.specs.Texts.{Text}
use Rattle.token_laws.specs.Tokens.{Token, Symbol, Placed, ◌at◌}
use Rattle.grammar_laws.specs.Trees.{Uri, Declaration, Parameter, Passed, Class, Classes, Pattern, Patterns, more_patterns, Item, Items, Body}
use Rattle.grammar_laws.specs.Grammar.{ReadsLiteral, ReadsFilling, ReadsBlock, ReadsBlocks, ReadsFollow, ReadsUri, ReadsDeclaration, ReadsDeclarations, ReadsClass, ReadsAlternatives, ReadsSimple, ReadsBareClass, ReadsClassExcept, ReadsParameters, ReadsBraces, ReadsInherit, IsConnector, IsPostfix, ReadsPattern, ReadsMembers, ReadsParticle, ReadsPrimary, ReadsBare, ReadsItems, ReadsItem, ReadsInner, DerivesBody}
use Rattle.grammar_laws.specs.Grammar as by
use Rattle.tree_laws.specs.WholeBodies.{references, references_of_patterns, references_of_item, references_of_items, references_of_body}

-- the numbers are places of some of the tokens that ts has before us, in their order
pub data Picks : List Placed → List Placed → List ℕ → Type 0 where
  done : {ts : List Placed} → Picks ts ts []
  skip : {t : Token} {a : ℕ} {ts us : List Placed} {xs : List ℕ} → Picks ts us xs → Picks (t at a ∷ ts) us xs
  pick : {t : Token} {a : ℕ} {ts us : List Placed} {xs : List ℕ} → Picks ts us xs → Picks (t at a ∷ ts) us (a ∷ xs)

pub then : {ts us vs : List Placed} {xs ys : List ℕ} → Picks ts us xs → Picks us vs ys → Picks ts vs (xs ++ ys)
then done q = q
then (skip p) q = skip (then p q)
then (pick p) q = pick (then p q)

-- with none behind
pub upto : {ts us vs : List Placed} {xs : List ℕ} → Picks ts us xs → Picks us vs [] → Picks ts vs xs
upto done q = q
upto (skip p) q = skip (upto p q)
upto (pick p) q = pick (upto p q)

-- one token more
pub upto_one : {ts us : List Placed} {t : Token} {a : ℕ} {xs : List ℕ} → Picks ts (t at a ∷ us) xs → Picks ts us xs
upto_one p = upto p (skip done)

pub pick_literal : {ts us : List Placed} {l : Text} → ReadsLiteral ts us l → Picks ts us []
pick_literal by.one = skip done
pick_literal (by.joined r made) = skip (skip (pick_literal r))

pub pick_filling : {ts us : List Placed} → ReadsFilling ts us → Picks ts us []
pick_filling by.closed = skip done
pick_filling (by.passed i r) = skip (pick_filling r)
pick_filling (by.nested r s) = skip (then (pick_filling r) (pick_filling s))

pub pick_block : {ts us : List Placed} → ReadsBlock ts us → Picks ts us []
pick_block (by.block r) = skip (pick_filling r)

pub pick_blocks : {ts us : List Placed} → ReadsBlocks ts us → Picks ts us []
pick_blocks by.ReadsBlocks.none = done
pick_blocks (by.ReadsBlocks.more b r) = then (pick_block b) (pick_blocks r)

pub pick_follow : {ts us : List Placed} → ReadsFollow ts us → Picks ts us []
pick_follow by.ReadsFollow.none = done
pick_follow (by.ReadsFollow.more i r s) = skip (skip (then (pick_block r) (pick_follow s)))

pub pick_uri : {ts us : List Placed} {u : Uri} → ReadsUri ts us u → Picks ts us []
pick_uri (by.literal r) = pick_literal r
pick_uri by.inherit = skip done

pub pick_declaration : {ts us : List Placed} {d : Declaration} → ReadsDeclaration ts us d → Picks ts us []
pick_declaration (by.namespace i r) = skip (skip (skip (pick_uri r)))
pick_declaration (by.default r) = skip (skip (skip (pick_uri r)))
pick_declaration (by.default_prefix i r) = skip (skip (skip (skip (pick_uri r))))
pick_declaration (by.datatypes i r) = skip (skip (skip (pick_literal r)))

pub pick_declarations : {ts us : List Placed} {ds : List Declaration} → ReadsDeclarations ts us ds → Picks ts us []
pick_declarations by.ReadsDeclarations.none = done
pick_declarations (by.ReadsDeclarations.more r s) = then (pick_declaration r) (pick_declarations s)

mutual
  pub pick_class : {ts us : List Placed} {c : Class} → ReadsClass ts us c → Picks ts us []
  pick_class (by.ReadsClass.single r) = pick_simple r
  pick_class (by.ReadsClass.choice r s) = then (pick_simple r) (skip (pick_alternatives s))

  pub pick_alternatives : {ts us : List Placed} {cs : Classes} → ReadsAlternatives ts us cs → Picks ts us []
  pick_alternatives (by.ReadsAlternatives.last r) = pick_simple r
  pick_alternatives (by.ReadsAlternatives.more r s) = then (pick_simple r) (skip (pick_alternatives s))

  pub pick_simple : {ts us : List Placed} {c : Class} → ReadsSimple ts us c → Picks ts us []
  pick_simple (by.simple b r f) = then (pick_blocks b) (then (pick_bare_class r) (pick_follow f))
  pick_simple (by.ReadsSimple.except b r f) = then (pick_blocks b) (then (pick_class_except r) (pick_follow f))

  pub pick_bare_class : {ts us : List Placed} {c : Class} → ReadsBareClass ts us c → Picks ts us []
  pick_bare_class (by.plain i) = skip done
  pick_bare_class by.prefixed = skip done
  pick_bare_class (by.ReadsBareClass.parentheses r) = skip (upto_one (pick_class r))
  pick_bare_class by.any = skip done
  pick_bare_class by.ReadsBareClass.namespace = skip done

  pub pick_class_except : {ts us : List Placed} {c : Class} → ReadsClassExcept ts us c → Picks ts us []
  pick_class_except (by.any_except r s) = skip (skip (then (pick_blocks r) (pick_bare_class s)))
  pick_class_except (by.namespace_except r s) = skip (skip (then (pick_blocks r) (pick_bare_class s)))

pub pick_parameters : {ts us : List Placed} {ps : List Parameter} → ReadsParameters ts us ps → Picks ts us []
pick_parameters by.ReadsParameters.none = done
pick_parameters (by.ReadsParameters.more b i r s) = then (pick_blocks b) (skip (skip (then (pick_literal r) (pick_parameters s))))

pub pick_braces : {ts us : List Placed} {ps : List Parameter} → ReadsBraces ts us ps → Picks ts us []
pick_braces by.ReadsBraces.none = done
pick_braces (by.ReadsBraces.braces r) = skip (upto_one (pick_parameters r))

pub pick_inherit : {ts us : List Placed} {h : Option Passed} → ReadsInherit ts us h → Picks ts us []
pick_inherit by.ReadsInherit.none = done
pick_inherit (by.ReadsInherit.passed i) = skip (skip (skip done))

joined : {s : Symbol} {join : Patterns → Pattern} (ps : Patterns) → IsConnector s join → references_of_patterns ps ≡ references (join ps)
joined ps by.IsConnector.group = refl
joined ps by.IsConnector.choice = refl
joined ps by.IsConnector.interleave = refl

repeated : {s : Symbol} {repeat : Pattern → Pattern} (p : Pattern) → IsPostfix s repeat → references p ≡ references (repeat p)
repeated p by.IsPostfix.optional = refl
repeated p by.IsPostfix.zero_or_more = refl
repeated p by.IsPostfix.one_or_more = refl

mutual
  pub pick_pattern : {ts us : List Placed} {p : Pattern} → ReadsPattern ts us p → Picks ts us (references p)
  pick_pattern (by.ReadsPattern.single r) = pick_particle r
  pick_pattern (by.chain {ts = ts} {vs = vs} {p = p} {ps = ps} i r rs made) =
      subst (Picks ts vs) (joined (more_patterns p ps) i ∙ ap references (sym made)) (then (pick_particle r) (skip (pick_members rs)))

  pub pick_members : {s : Symbol} {ts us : List Placed} {ps : Patterns} → ReadsMembers s ts us ps → Picks ts us (references_of_patterns ps)
  pick_members (by.ReadsMembers.last r) = then (pick_particle r) done
  pick_members (by.ReadsMembers.more r rs) = then (pick_particle r) (skip (pick_members rs))

  pub pick_particle : {ts us : List Placed} {p : Pattern} → ReadsParticle ts us p → Picks ts us (references p)
  pick_particle (by.once r) = pick_primary r
  pick_particle (by.postfix {ts = ts} {vs = vs} {p = p} i r f made) =
      subst (Picks ts vs) (repeated p i ∙ ap references (sym made)) (upto (pick_primary r) (skip (pick_follow f)))

  pub pick_primary : {ts us : List Placed} {p : Pattern} → ReadsPrimary ts us p → Picks ts us (references p)
  pick_primary (by.primary b r f) = then (pick_blocks b) (upto (pick_bare r) (pick_follow f))
  pick_primary (by.ReadsPrimary.except b i br c r f) =
      then (pick_blocks b) (skip (then (pick_braces br) (skip (then (pick_blocks c) (upto (pick_bare r) (pick_follow f))))))

  pub pick_bare : {ts us : List Placed} {p : Pattern} → ReadsBare ts us p → Picks ts us (references p)
  pick_bare (by.element r s) = skip (then (pick_class r) (skip (upto_one (pick_pattern s))))
  pick_bare (by.attribute r s) = skip (then (pick_class r) (skip (upto_one (pick_pattern s))))
  pick_bare (by.list r) = skip (skip (upto_one (pick_pattern r)))
  pick_bare (by.mixed r) = skip (skip (upto_one (pick_pattern r)))
  pick_bare by.ref = pick done
  pick_bare by.parent = pick (skip done)
  pick_bare by.empty = skip done
  pick_bare by.text = skip done
  pick_bare by.not_allowed = skip done
  pick_bare (by.ReadsBare.literal r) = pick_literal r
  pick_bare (by.value i r) = skip (pick_literal r)
  pick_bare (by.data_type i r) = skip (pick_braces r)
  pick_bare (by.external r s) = skip (then (pick_literal r) (pick_inherit s))
  pick_bare (by.grammar r) = skip (skip (upto_one (pick_items r)))
  pick_bare (by.ReadsBare.parentheses r) = skip (upto_one (pick_pattern r))

  pub pick_items : {ts us : List Placed} {is : Items} → ReadsItems ts us is → Picks ts us (references_of_items is)
  pick_items by.no_items = done
  pick_items (by.item b r s) = then (pick_blocks b) (then (pick_item r) (pick_items s))
  pick_items (by.annotation i r s) = skip (then (pick_block r) (pick_items s))

  pub pick_item : {ts us : List Placed} {i : Item} → ReadsItem ts us i → Picks ts us (references_of_item i)
  pick_item (by.ReadsItem.start i r) = skip (skip (pick_pattern r))
  pick_item (by.define i r) = skip (skip (pick_pattern r))
  pick_item (by.div r) = skip (skip (upto_one (pick_items r)))
  pick_item (by.include r s u) = skip (then (pick_literal r) (then (pick_inherit s) (pick_inner u)))

  pub pick_inner : {ts us : List Placed} {is : Items} → ReadsInner ts us is → Picks ts us (references_of_items is)
  pick_inner by.no_inner = done
  pick_inner (by.inner r h) = skip (upto_one (pick_items r))

pub pick_body : {ts : List Placed} {b : Body} → DerivesBody ts b → Picks ts [] (references_of_body b)
pick_body (by.DerivesBody.pattern r) = pick_pattern r
pick_body (by.DerivesBody.items r) = pick_items r
