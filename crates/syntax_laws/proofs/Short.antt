-- For each part a short list of tokens that is the part: what is read so far can be completed by these.
use Rattle.std.proofs.Common.{Bool, true, false, List, [], ◌∷◌, ◌++◌, refl}
use Rattle.token_laws.specs.Tokens.{keyword, ident, cname, ns_name, segment, symbol, Placed, ◌at◌, open_brace, close_brace, open_bracket, close_bracket, equals, star}
use Rattle.token_laws.specs.Tokens as kw
use Rattle.grammar_laws.specs.Trees.{Pattern, no_item}
use Rattle.grammar_laws.specs.Grammar.{ReadsBlocks, ReadsBare}
use Rattle.grammar_laws.specs.Grammar as by
use Rattle.grammar_laws.proofs.Shortest.{short_declaration, short_class, short_simple, short_primary, short_particle, short_pattern, short_item}
use Rattle.syntax_laws.specs.Expecting.{Part}
use Rattle.syntax_laws.specs.Expecting as part
use Rattle.syntax_laws.proofs.SoundMeanings.{Means, AllMean, done, also, AreInner, ReadsBody}
use Rattle.syntax_laws.proofs.SoundMeanings as read
use Rattle.syntax_laws.proofs.SoundParts.{open_class, open_bare, inner_div}

abbrev pub Short : Part → Type 0
Short x = (ws : List Placed) × ((us : List Placed) → Means x (ws ++ us) us)

no_inner : (i : Bool) → AreInner i no_item
no_inner false = tt
no_inner true = tt

-- a bare pattern behind blocks is a body
bare_body : {start ts us : List Placed} {p : Pattern} → ReadsBlocks start ts → ReadsBare ts us p → ReadsBody start us
bare_body b r = read.a_pattern (by.ReadsPattern.single (by.once (by.primary b r by.ReadsFollow.none)))

pub short : (x : Part) → Short x
short (part.sign s) = (symbol s at 0 ∷ [], λ us. read.sign)
short (part.word k) = (keyword k at 0 ∷ [], λ us. read.word)
short part.name = (ident [] at 0 ∷ [], λ us. read.name [] refl)
short part.plain_name = (ident [] at 0 ∷ [], λ us. read.plain_name)
short part.prefixed_name = (cname [] [] at 0 ∷ [], λ us. read.prefixed_name)
short part.namespace_name = (ns_name [] at 0 ∷ [], λ us. read.namespace_name)
short part.annotation_name = (ident [] at 0 ∷ [], λ us. read.annotation_name tt)
short part.one_segment = (segment [] at 0 ∷ [], λ us. read.one_segment)
short part.type_name = (keyword kw.string at 0 ∷ [], λ us. read.type_name by.IsType.string)
short part.assign = (symbol equals at 0 ∷ [], λ us. read.assign by.IsAssign.plain)
short part.end = ([], λ us. read.nothing)
short part.literal = (segment [] at 0 ∷ [], λ us. ([], by.one))
short part.more_literal = ([], λ us s a. (s, by.one))
short part.filling = (symbol close_bracket at 0 ∷ [], λ us. by.closed)
short part.block = (symbol open_bracket at 0 ∷ symbol close_bracket at 0 ∷ [], λ us. by.block by.closed)
short part.blocks = ([], λ us. by.ReadsBlocks.none)
short part.follow = ([], λ us. by.ReadsFollow.none)
short part.uri = (keyword kw.inherit at 0 ∷ [], λ us. (_, by.inherit))
short part.default_prefix = ([], λ us. read.no_prefix)
short part.declaration = (keyword kw.default at 0 ∷ keyword kw.namespace at 0 ∷ symbol equals at 0 ∷ keyword kw.inherit at 0 ∷ [], λ us. (_, short_declaration us))
short part.declarations = ([], λ us. ([], by.ReadsDeclarations.none))
short part.class = (symbol star at 0 ∷ [], λ us. (_, short_class us))
short part.more_classes = ([], λ us start c r. (c, by.ReadsClass.single r))
short part.simple = (symbol star at 0 ∷ [], λ us. (_, short_simple us))
short (part.bare_class e) = (symbol star at 0 ∷ [], λ us. open_class e by.any)
short (part.class_except e) = ([], λ us. (λ a. open_class e by.any, λ p a. open_class e by.ReadsBareClass.namespace))
short part.parameter = (ident [] at 0 ∷ symbol equals at 0 ∷ segment [] at 0 ∷ [], λ us. read.parameter [] by.ReadsBlocks.none refl by.one)
short part.parameters = ([], λ us. ([], by.ReadsParameters.none))
short part.braces = ([], λ us. ([], by.ReadsBraces.none))
short part.passed = ([], λ us. (_, by.ReadsInherit.none))
short part.pattern = (keyword kw.empty at 0 ∷ [], λ us. (_, short_pattern us))
short part.more_patterns = ([], λ us start p r. (p, by.ReadsPattern.single r))
short (part.members s) = (keyword kw.empty at 0 ∷ [], λ us. (_, by.ReadsMembers.last (short_particle us)))
short (part.more_members s) = ([], λ us start p r. (_, by.ReadsMembers.last r))
short part.particle = (keyword kw.empty at 0 ∷ [], λ us. (_, short_particle us))
short part.postfix = ([], λ us start p r. (p, by.once r))
short part.primary = (keyword kw.empty at 0 ∷ [], λ us. (_, short_primary us))
short (part.bare e) = (keyword kw.empty at 0 ∷ [], λ us. open_bare e by.empty)
short (part.typed e) = ([], λ us t a of i. open_bare e (by.data_type i by.ReadsBraces.none))
short (part.except e) = ([], λ us t a of start ps i r. open_bare e (by.data_type i r))
short part.braced = (symbol open_brace at 0 ∷ keyword kw.empty at 0 ∷ symbol close_brace at 0 ∷ [], λ us. read.braced (short_pattern _))
short (part.item i) = (keyword kw.div at 0 ∷ symbol open_brace at 0 ∷ symbol close_brace at 0 ∷ [], λ us. (_, short_item us, inner_div i no_item (no_inner i)))
short part.named_item = (ident [] at 0 ∷ symbol open_bracket at 0 ∷ symbol close_bracket at 0 ∷ [], λ us i ws m. (m.0, by.annotation tt (by.block by.closed) m.1, m.2))
short part.behind_name = (symbol open_bracket at 0 ∷ symbol close_bracket at 0 ∷ [], λ us n a i ws m. (m.0, by.annotation tt (by.block by.closed) m.1, m.2))
short (part.next_item i) = (ident [] at 0 ∷ symbol open_bracket at 0 ∷ symbol close_bracket at 0 ∷ [], λ us ws m. (m.0, by.annotation tt (by.block by.closed) m.1, m.2))
short (part.items i) = ([], λ us. (_, by.no_items, no_inner i))
short part.inner = ([], λ us. (_, by.no_inner))
short part.body = ([], λ us. read.some_items by.no_items)
short part.named_body = ([], λ us n a. bare_body by.ReadsBlocks.none by.ref)
short part.typed_body = ([], λ us p n a. bare_body by.ReadsBlocks.none (by.data_type by.IsType.prefixed by.ReadsBraces.none))
short part.annotated_body = (keyword kw.empty at 0 ∷ [], λ us start b. bare_body b by.empty)
short part.annotated_name = ([], λ us start n a b. bare_body b by.ref)

-- all the parts up to the end of the tokens
pub all_short : (xs : List Part) → (ws : List Placed) × AllMean xs ws []
all_short [] = ([], done)
all_short (x ∷ xs) =
    let s = short x in
    let r = all_short xs in
    (s.0 ++ r.0, also (s.1 r.0) r.1)
