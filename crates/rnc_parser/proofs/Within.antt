-- The places of the declarations that are read are places of the text.
use Rattle.std.proofs.Common.{ℕ, List, map, Ok}
use Rattle.token_laws.specs.Tokens.{Placed}
use Rattle.grammar_laws.specs.Trees as tree
use Rattle.grammar_laws.specs.Grammar.{ReadsUri, ReadsDeclaration, ReadsDeclarations}
use Rattle.grammar_laws.specs.Grammar as by
use Rattle.grammar_laws.proofs.Fronts.{part_declaration}
use Rattle.grammar_laws.proofs.Trees.{derives_meaning}
use Rattle.rnc_lexer.specs.Sound.{AreSound}
use Rattle.schema_tree.specs.declared.full.Parts.{Parts}
use Rattle.schema_tree.specs.Files.{IsUriWithin, IsWithin, AreWithin}
use Rattle.schema_tree.specs.Trees.{declaration_of, body_of}
use Rattle.syntax_laws.specs.Expecting.{Part}
use Rattle.rnc_parser.specs.Parts.{DerivesFile, tree_of_file}
use Rattle.rnc_parser.proofs.SoundTrees.{behind, tree_sound}
use Rattle.schema_tree.specs.Sound.{IsSoundBody}
use Rattle.rnc_parser.specs.Reading.{Parsed, parsed}

uri_within : (n : ℕ) {ts us : List Placed} {u : tree.Uri} → ReadsUri ts us u → AreSound n ts → IsUriWithin n u
uri_within n (by.ReadsUri.literal r) s = tt
uri_within n by.ReadsUri.inherit s = s.0.0

declaration_within : (n : ℕ) {ts us : List Placed} {d : tree.Declaration} → ReadsDeclaration ts us d → AreSound n ts → IsWithin n d
declaration_within n (by.namespace i r) (h, s) = (h.0, uri_within n r s.1.1)
declaration_within n (by.default r) (h, s) = (h.0, uri_within n r s.1.1)
declaration_within n (by.default_prefix i r) (h, s) = (h.0, uri_within n r s.1.1.1)
declaration_within n (by.datatypes i r) (h, s) = h.0

declarations_within : (n : ℕ) {ts us : List Placed} {ds : List tree.Declaration} → ReadsDeclarations ts us ds → AreSound n ts → AreWithin n ds
declarations_within n by.ReadsDeclarations.none s = tt
declarations_within n (by.ReadsDeclarations.more {ts = ts} {us = us} d ds) s =
    let p = part_declaration d in
    (declaration_within n d s, declarations_within n ds (behind n (p.1) (p.2) s))

file_read : {xs : List Part} {ts us : List Placed} {v : Parts} → Parsed xs DerivesFile ts (Ok v) us → DerivesFile ts us v
file_read (parsed d s) = d

pub parsed_within : {xs : List Part} {ts us : List Placed} {v : Parts} (n : ℕ) → AreSound n ts → Parsed xs DerivesFile ts (Ok v) us → AreWithin n (map declaration_of v.declarations)
parsed_within n s r = let m = derives_meaning (file_read r) in declarations_within n m.1 s

pub parsed_sound : {xs : List Part} {ts us : List Placed} {v : Parts} (n : ℕ) → AreSound n ts → Parsed xs DerivesFile ts (Ok v) us → IsSoundBody n (body_of v.body)
parsed_sound {ts = ts} {v = v} n s r = tree_sound n ts (tree_of_file v) s (file_read r)
