-- What the grammar derives is read: blocks, literals, declarations, parameters and what may stand behind them.
use Rattle.std.proofs.Common.{◌≡◌, ℕ, List, [], ◌∷◌, refl, sym, subst}
use Rattle.rng_model.specs.Texts.{Text}
use Rattle.token_laws.specs.Tokens.{Token, symbol, Placed, ◌at◌, equals}
use Rattle.grammar_laws.specs.Trees.{Uri, Declaration, Parameter}
use Rattle.grammar_laws.specs.Grammar.{ReadsLiteral, IsAnyId, ReadsFilling, ReadsBlock, ReadsBlocks, ReadsFollow, ReadsUri, ReadsDeclaration, ReadsDeclarations, ReadsParameters, ReadsBraces, ReadsInherit}
use Rattle.grammar_laws.specs.Grammar as by
use Rattle.grammar_laws.proofs.Ends.{Stops, tilde_rank, bracket_rank, brace_rank, inherit_rank, follows_rank}
use Rattle.grammar_laws.proofs.Declarations.{declaration_rank, before}
use Rattle.grammar_laws.proofs.Parameters.{IsClosed, id_no_bracket, parameters_no_tilde}
use Rattle.syntax_laws.specs.Expecting.{Part, pass, become, first, next, Stands}
use Rattle.syntax_laws.specs.Expecting as part
use Rattle.syntax_laws.proofs.Local.{turns, takes, no_parts, joins}
use Rattle.syntax_laws.proofs.Stops.{literal_ends, blocks_end, follow_ends, parameters_end, braces_end, passed_ends, declarations_end, name_passes, prefix_begins, parameter_begins, annotation_name_passes, filling_passes}

pub literal_read : {ts us : List Placed} {l : Text} → ReadsLiteral ts us l → Stops tilde_rank 0 us → Stands (part.literal ∷ []) ts [] us
literal_read (by.one {ts = ts}) e = turns refl (takes refl (turns (literal_ends ts e) no_parts))
literal_read (by.joined r made) e = turns refl (takes refl (takes refl (literal_read r e)))

pub filling_read : {ts us : List Placed} → ReadsFilling ts us → Stands (part.filling ∷ []) ts [] us
filling_read by.closed = takes refl no_parts
filling_read (by.passed {t = t} h r) = takes (filling_passes t h) (filling_read r)
filling_read (by.nested f g) = takes refl (joins (filling_read f) (filling_read g))

pub block_read : {ts us : List Placed} → ReadsBlock ts us → Stands (part.block ∷ []) ts [] us
block_read (by.block f) = turns refl (takes refl (filling_read f))

first_block : {ts us vs : List Placed} → ReadsBlock ts us → Stands (part.blocks ∷ []) us [] vs → Stands (part.blocks ∷ []) ts [] vs
first_block (by.block f) s = turns refl (joins (block_read (by.block f)) s)

pub blocks_read : {ts us : List Placed} → ReadsBlocks ts us → Stops bracket_rank 0 us → Stands (part.blocks ∷ []) ts [] us
blocks_read (by.ReadsBlocks.none {ts = ts}) e = turns (blocks_end ts e) no_parts
blocks_read (by.ReadsBlocks.more b r) e = first_block b (blocks_read r e)

pub follow_read : {ts us : List Placed} → ReadsFollow ts us → Stops follows_rank 0 us → Stands (part.follow ∷ []) ts [] us
follow_read (by.ReadsFollow.none {ts = ts}) e = turns (follow_ends ts e) no_parts
follow_read (by.ReadsFollow.more {t = t} n b r) e = takes refl (takes (annotation_name_passes t n) (joins (block_read b) (follow_read r e)))

literal_uri_read : {ts us : List Placed} {l : Text} → ReadsLiteral ts us l → Stands (part.literal ∷ []) ts [] us → Stands (part.uri ∷ []) ts [] us
literal_uri_read by.one s = turns refl s
literal_uri_read (by.joined r made) s = turns refl s

pub uri_read : {ts us : List Placed} {u : Uri} → ReadsUri ts us u → Stops tilde_rank 0 us → Stands (part.uri ∷ []) ts [] us
uri_read (by.literal l) e = literal_uri_read l (literal_read l e)
uri_read by.inherit e = turns refl (takes refl no_parts)

pub declaration_read : {ts us : List Placed} {d : Declaration} → ReadsDeclaration ts us d → Stops tilde_rank 0 us → Stands (part.declaration ∷ []) ts [] us
declaration_read (by.namespace {t = t} {p = p} i u) e = turns refl (takes refl (takes (name_passes t p i) (takes refl (uri_read u e))))
declaration_read (by.default u) e = turns refl (takes refl (takes refl (turns refl (takes refl (uri_read u e)))))
declaration_read (by.default_prefix {t = t} {p = p} i u) e = turns refl (takes refl (takes refl (turns (prefix_begins t p i) (takes (name_passes t p i) (takes refl (uri_read u e))))))
declaration_read (by.datatypes {t = t} {p = p} i l) e = turns refl (takes refl (takes (name_passes t p i) (takes refl (literal_read l e))))

first_declaration : {ts us vs : List Placed} {d : Declaration} → ReadsDeclaration ts us d → Stands (part.declaration ∷ []) ts [] us → Stands (part.declarations ∷ []) us [] vs → Stands (part.declarations ∷ []) ts [] vs
first_declaration (by.namespace i u) s r = turns refl (joins s r)
first_declaration (by.default u) s r = turns refl (joins s r)
first_declaration (by.default_prefix i u) s r = turns refl (joins s r)
first_declaration (by.datatypes i l) s r = turns refl (joins s r)

pub declarations_read : {ts us : List Placed} {ds : List Declaration} → ReadsDeclarations ts us ds → Stops declaration_rank 0 us → Stands (part.declarations ∷ []) ts [] us
declarations_read (by.ReadsDeclarations.none {ts = ts}) e = turns (declarations_end ts e) no_parts
declarations_read (by.ReadsDeclarations.more d ds) e = first_declaration d (declaration_read d (before ds e)) (declarations_read ds e)

-- parameters begin with an annotation or a name
first_parameter : {t : Token} {a : ℕ} (n : Text) {ts us vs ws : List Placed} → ReadsBlocks ts us → us ≡ t at a ∷ vs → IsAnyId t n →
    Stands (part.parameter ∷ part.parameters ∷ []) ts [] ws → Stands (part.parameters ∷ []) ts [] ws
first_parameter {t = t} n by.ReadsBlocks.none same i s = turns (subst (λ z. next part.parameters (first z) ≡ become (part.parameter ∷ part.parameters ∷ [])) (sym same) (parameter_begins t n i)) s
first_parameter n (by.ReadsBlocks.more (by.block f) r) same i s = turns refl s

pub parameters_read : {ts us : List Placed} {ps : List Parameter} → ReadsParameters ts us ps → IsClosed us → Stands (part.parameters ∷ []) ts [] us
parameters_read (by.ReadsParameters.none {ts = ts}) e = turns (parameters_end ts e) no_parts
parameters_read (by.ReadsParameters.more {t = t} {n = n} {a = a} {b = c} {us = us} b i l r) e =
    first_parameter n b refl i
    (turns refl (joins (blocks_read b (id_no_bracket t a (symbol equals at c ∷ us) n i)) (takes (name_passes t n i) (takes refl (joins (literal_read l (parameters_no_tilde r e)) (parameters_read r e))))))

pub braces_read : {ts us : List Placed} {ps : List Parameter} → ReadsBraces ts us ps → Stops brace_rank 0 us → Stands (part.braces ∷ []) ts [] us
braces_read (by.ReadsBraces.none {ts = ts}) e = turns (braces_end ts e) no_parts
braces_read (by.ReadsBraces.braces r) e = takes refl (joins (parameters_read r tt) (takes refl no_parts))

pub inherit_read : {ts us : List Placed} {h : _} → ReadsInherit ts us h → Stops inherit_rank 0 us → Stands (part.passed ∷ []) ts [] us
inherit_read (by.ReadsInherit.none {ts = ts}) e = turns (passed_ends ts e) no_parts
inherit_read (by.ReadsInherit.passed {t = t} {p = p} i) e = turns refl (takes refl (takes refl (takes (name_passes t p i) no_parts)))
