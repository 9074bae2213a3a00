-- What refuses a schema, and what is accepted.
use Rattle.std.proofs.Common.{◌≡◌, ℕ, ◌≤◌, List, length, false, refl, subst, sym}
use Rattle.std.specs.Prelude.{Some, None, Result, Ok, Err, IfOk}
use Rattle.rng_model.specs.Patterns.{Schema}
use Rattle.rng_model.specs.Restrictions.{BreaksNoRule}
use Rattle.restrictions.specs.Rules.{IsLeastBroken, number_of}
use Rattle.restrictions.specs.declared.rule.Rule.{Rule}
use Rattle.list_command.specs.declared.outcome.SchemaFault.{SchemaFault}
use Rattle.token_laws.specs.Tokens.{Placed}
use Rattle.token_laws.specs.Lexing.{Fault, Tokens, LexRefusal}
use Rattle.grammar_laws.specs.Trees.{File, Body}
use Rattle.grammar_laws.specs.Grammar.{Derives}
use Rattle.grammar_laws.specs.Files.{Full, of_one}
use Rattle.grammar_laws.specs.Faults.{ParseFault, ParseRefusal}
use Rattle.tree_laws.specs.WholeBodies.{IsWhole}
use Rattle.simple_form_laws.specs.Faults as simple
use Rattle.simple_form_laws.specs.Faults.{SimplifyRefusal, Simple}
use Rattle.pattern_intern.specs.Schemas.{Numbered}
use Rattle.list_command.specs.declared.schema.ReadSchemaFault.{ReadSchemaFault}
use Rattle.schema_tree.specs.Features.{HasFeature}
use Rattle.schema_tree.specs.Least.{IsLeast, IsFirstFeature}
use Rattle.schema_tree.specs.declared.features.Feature.{Feature}
use Rattle.list_command.specs.Accepting.{IsTreeOf, IsTaken, IsTakenTree, Refuses, Accepts, lexing_fault, parsing_fault, feature_fault, simplifying_fault}

-- a fault of lexing refuses a schema
pub refuses_at : (f : Fault) (place : ℕ) (bytes : List ℕ) → length bytes ≤ 1048576 → LexRefusal bytes f place → Refuses bytes (lexing_fault f place)
refuses_at f place bytes short refusal = Refuses.no_tokens short refusal refl

-- and so does one of the grammar
pub refuses_tree : (f : ParseFault) (place : ℕ) (bytes : List ℕ) (tokens : List Placed) → length bytes ≤ 1048576 → Tokens bytes tokens →
    ParseRefusal tokens (length bytes) f place → Refuses bytes (parsing_fault f place)
refuses_tree f place bytes tokens short lexed refusal = Refuses.no_tree short lexed refusal refl

-- the least feature of a tree
least_feature : (t : Full) (f : Feature) (a : ℕ) → IsLeast false (HasFeature t) (Some (f, a)) → IsFirstFeature t f a
least_feature t f a h = record { there = h.0.1; first = λ g b is. h.1 g b tt is }

pub refuses_feature : (bytes : List ℕ) (t : Full) (f : Feature) (a : ℕ) → IsTreeOf bytes t → IsLeast false (HasFeature t) (Some (f, a)) → Refuses bytes (feature_fault f a)
refuses_feature bytes t f a tree h = Refuses.feature f tree (least_feature t f a h) refl

-- and a fault of simplification
pub refuses_form : (f : simple.Fault) (bytes : List ℕ) (t : Full) → IsTakenTree bytes t → SimplifyRefusal t f → Refuses bytes (simplifying_fault f)
refuses_form f bytes t taken refusal = Refuses.no_form taken refusal refl

-- no feature was found
pub all_taken : (t : Full) → IsLeast false (HasFeature t) None → IsTaken t
all_taken t none = λ f a h. none f a tt h

pub accepts : (bytes : List ℕ) (t : Full) (g : Schema) → IsTreeOf bytes t → IsLeast false (HasFeature t) None → Simple t g → BreaksNoRule g → Accepts bytes g
accepts bytes t g tree none simple sound = record { tree = t; taken = (tree, all_taken t none); simple = simple; sound = sound }

-- a broken rule refuses a schema
pub refuses_broken : (bytes : List ℕ) (t : Full) (g : Schema) (rule : Rule) → IsTakenTree bytes t → Simple t g → IsLeastBroken g (Some rule) →
    Refuses bytes (SchemaFault.Restriction (number_of rule))
refuses_broken bytes t g rule taken simple least = Refuses.broken rule taken simple least refl

-- what the law of trees says
abbrev pub TreesAreWhole : Type 0
TreesAreWhole = (bytes : List ℕ) (ts : List Placed) (f : File) → Tokens bytes ts → Derives ts f → IsWhole (length bytes) f.body

pub whole_tree : TreesAreWhole → (bytes : List ℕ) (t : Full) → IsTreeOf bytes t → (end : ℕ) × IsWhole end t.body
whole_tree whole bytes t (tokens, file, tree, same) =
    (length bytes, subst (λ (u : Full). IsWhole (length bytes) u.body) (sym same) (whole bytes tokens file tree.lexed tree.parsed.derives))

-- the schema that is given is the one that was made, and breaks no rule
pub accepts_given : (bytes : List ℕ) (t : Full) (given : Numbered) (r : Result Numbered ReadSchemaFault) → IsTreeOf bytes t → IsLeast false (HasFeature t) None → Simple t given.schema →
    IfOk r (λ s. s ≡ given) → IfOk r (λ s. BreaksNoRule given.schema) → IfOk r (λ s. Accepts bytes s.schema)
accepts_given bytes t given (Ok s) tree none simple same sound = accepts bytes t s.schema tree none (rw same simple) (rw same sound)
accepts_given bytes t given (Err e) tree none simple same sound = tt

pub sound_given : (given : Numbered) (r : Result Numbered ReadSchemaFault) → IfOk r (λ s. s ≡ given) → IfOk r (λ s. BreaksNoRule given.schema) →
    IfOk r (λ s. BreaksNoRule s.schema)
sound_given given (Ok s) same sound = rw same sound
sound_given given (Err e) same sound = tt
