-- Which schemas are refused, and which is accepted as what.
use Rattle.std.specs.Prelude.{◌≡◌, ℕ, ◌<◌, ◌≤◌, List, length, Some}
use Rattle.rng_model.specs.Patterns.{Schema}
use Rattle.rng_model.specs.Restrictions.{BreaksNoRule}
use Rattle.restrictions.specs.Rules.{IsLeastBroken, number_of}
use Rattle.restrictions.specs.declared.rule.Rule.{Rule}
use Rattle.token_laws.specs.Tokens.{Placed}
use Rattle.token_laws.specs.Lexing.{Fault, Tokens, LexRefusal, bad_utf8, bad_character, open_literal, bad_escape, escape_refused, literal_too_long, name_too_long}
use Rattle.grammar_laws.specs.Trees.{File}
use Rattle.grammar_laws.specs.Files.{Full, of_one}
use Rattle.grammar_laws.specs.Faults.{ParseFault, Parses, ParseRefusal, syntax_error, too_deep}
use Rattle.simple_form_laws.specs.Faults as simple
use Rattle.simple_form_laws.specs.Faults.{SimplifyRefusal, Simple}
use Rattle.schema_tree.specs.Features.{HasFeature}
use Rattle.schema_tree.specs.Least.{IsFirstFeature}
use Rattle.schema_tree.specs.declared.features.Feature.{Feature}
use Rattle.list_command.specs.declared.outcome.SchemaFault.{SchemaFault}

-- a fault of lexing at its place, as the fault of a schema
abbrev pub lexing_fault : Fault → ℕ → SchemaFault
lexing_fault bad_utf8 place = SchemaFault.BadUtf8 place
lexing_fault bad_character place = SchemaFault.BadCharacter place
lexing_fault open_literal place = SchemaFault.OpenLiteral place
lexing_fault bad_escape place = SchemaFault.BadEscape place
lexing_fault escape_refused place = SchemaFault.EscapeRefused place
lexing_fault literal_too_long place = SchemaFault.LiteralTooLong place
lexing_fault name_too_long place = SchemaFault.NameTooLong place

-- a fault of the grammar
abbrev pub parsing_fault : ParseFault → ℕ → SchemaFault
parsing_fault syntax_error place = SchemaFault.Syntax place
parsing_fault too_deep place = SchemaFault.TooDeep place

-- a feature that isn't taken
abbrev pub feature_fault : Feature → ℕ → SchemaFault
feature_fault Feature.Include place = SchemaFault.Include place
feature_fault Feature.External place = SchemaFault.External place
feature_fault Feature.Inherit place = SchemaFault.Inherit place
feature_fault Feature.List place = SchemaFault.List place
feature_fault Feature.ForeignType place = SchemaFault.ForeignType place
feature_fault Feature.Parameter place = SchemaFault.Parameter place

-- a fault of simplification
abbrev pub simplifying_fault : simple.Fault → SchemaFault
simplifying_fault (simple.UnboundPrefix place) = SchemaFault.UnboundPrefix place
simplifying_fault (simple.PrefixTwice place) = SchemaFault.PrefixTwice place
simplifying_fault (simple.ReservedPrefix place) = SchemaFault.ReservedPrefix place
simplifying_fault (simple.ClassConstraint place) = SchemaFault.ClassConstraint place
simplifying_fault (simple.XmlnsAttribute place) = SchemaFault.XmlnsAttribute place
simplifying_fault simple.NoStart = SchemaFault.NoStart
simplifying_fault (simple.UndefinedName place) = SchemaFault.UndefinedName place
simplifying_fault (simple.ParentOutside place) = SchemaFault.ParentOutside place
simplifying_fault (simple.CombineMixed place) = SchemaFault.CombineMixed place
simplifying_fault (simple.DefinedTwice place) = SchemaFault.DefinedTwice place
simplifying_fault (simple.Loop place) = SchemaFault.Loop place
simplifying_fault simple.ExpandedTooDeep = SchemaFault.ExpandedTooDeep
simplifying_fault (simple.BadValue place) = SchemaFault.BadValue place

-- the tokens and the tree of a file within the limits
pub record HasTree (bytes : List ℕ) (tokens : List Placed) (file : File) : Type 0 where
  pub short : length bytes ≤ 1048576
  pub lexed : Tokens bytes tokens
  pub parsed : Parses tokens file

-- the tree of a whole schema, in one file
abbrev pub IsTreeOf : List ℕ → Full → Type 0
IsTreeOf bytes full = (tokens : List Placed) × (file : File) × HasTree bytes tokens file × (full ≡ of_one (length bytes) file)

-- no feature stands in it that isn't taken
abbrev pub IsTaken : Full → Type 0
IsTaken full = (f : Feature) (place : ℕ) → HasFeature full f place → ⊥

-- the schema's tree, in which all is taken
abbrev pub IsTakenTree : List ℕ → Full → Type 0
IsTakenTree bytes full = IsTreeOf bytes full × IsTaken full

-- too many bytes, no tokens, no tree, a feature that isn't taken, no simple form, or a simple form that breaks a rule
pub data Refuses (bytes : List ℕ) : SchemaFault → Type 0 where
  too_long : 1048576 < length bytes → Refuses bytes SchemaFault.TooLong
  no_tokens : {f : Fault} {place : ℕ} {fault : SchemaFault} →
      length bytes ≤ 1048576 → LexRefusal bytes f place → fault ≡ lexing_fault f place → Refuses bytes fault
  no_tree : {tokens : List Placed} {f : ParseFault} {place : ℕ} {fault : SchemaFault} →
      length bytes ≤ 1048576 → Tokens bytes tokens → ParseRefusal tokens (length bytes) f place → fault ≡ parsing_fault f place → Refuses bytes fault
  feature : {full : Full} (f : Feature) {place : ℕ} {fault : SchemaFault} →
      IsTreeOf bytes full → IsFirstFeature full f place → fault ≡ feature_fault f place → Refuses bytes fault
  no_form : {full : Full} {f : simple.Fault} {fault : SchemaFault} →
      IsTakenTree bytes full → SimplifyRefusal full f → fault ≡ simplifying_fault f → Refuses bytes fault
  broken : {full : Full} {g : Schema} (rule : Rule) {fault : SchemaFault} →
      IsTakenTree bytes full → Simple full g → IsLeastBroken g (Some rule) → fault ≡ SchemaFault.Restriction (number_of rule) → Refuses bytes fault

-- the bytes' simple form, which breaks no rule
pub record Accepts (bytes : List ℕ) (g : Schema) : Type 0 where
  pub tree : Full
  pub taken : IsTakenTree bytes tree
  pub simple : Simple tree g
  pub sound : BreaksNoRule g
