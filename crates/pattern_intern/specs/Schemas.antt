-- What contracts see of a schema: its start and element definitions as patterns, and the pool of their numbers.
use Rattle.std.specs.Prelude.{◌≡◌, ℕ, ◌<◌, List, length, map, slice_get, slice_index_or, Some, ⊤, refl}
use Rattle.std.specs.Coded.{Coded, code_by, coded_ℕ, coded×}
use Rattle.rng_model.specs.Classes.{Class, any}
use Rattle.rng_model.specs.Patterns.{Pattern, Schema, Definition, IsSimpleForm, not_allowed, ref, data_except, attribute, one_or_more, choice, group, interleave, after}
use Rattle.rng_model.specs.CodedPatterns.{class_code, schema_code}
use Rattle.pattern_intern.specs.Ordered.{IsOrdered}
use Rattle.pattern_intern.specs.Stored.{Stored, stored_code, count, tree_at}

pub record Numbered : Type 0 where
  pub schema : Schema
  pub pool : Stored

abbrev pub numbered_code : Coded Numbered
numbered_code = code_by (Schema × Stored) (coded× schema_code stored_code) (λ n. (n.schema, n.pool)) (λ x. record { schema = x.0; pool = x.1 }) (λ _. refl)

-- each reference in the pattern is to one of the first n definitions
abbrev pub HasRefsBelow : ℕ → Pattern → Type 0
HasRefsBelow n (ref d) = d < n
HasRefsBelow n (data_except k e) = HasRefsBelow n e
HasRefsBelow n (attribute c p) = HasRefsBelow n p
HasRefsBelow n (one_or_more p) = HasRefsBelow n p
HasRefsBelow n (choice p q) = HasRefsBelow n p × HasRefsBelow n q
HasRefsBelow n (group p q) = HasRefsBelow n p × HasRefsBelow n q
HasRefsBelow n (interleave p q) = HasRefsBelow n p × HasRefsBelow n q
HasRefsBelow n (after p q) = HasRefsBelow n p × HasRefsBelow n q
HasRefsBelow n _ = ⊤

-- and in each pattern of the pool
pub record AreRefsBelow (n : ℕ) (s : Stored) : Type 0 where
  pub each : (id : ℕ) → id < count s → HasRefsBelow n (tree_at s id)

-- a name class, and the number of the content
abbrev pub Entry : Type 0
Entry = Class × ℕ

abbrev pub entry_code : Coded Entry
entry_code = coded× class_code coded_ℕ

abbrev pub entry_at : List Entry → ℕ → Entry
entry_at entries k = slice_index_or entries k (any, 0)

-- definitions by number, as patterns
abbrev pub definition_of : Stored → Entry → Definition
definition_of s x = record { class = x.0; content = tree_at s x.1 }

abbrev pub schema_of : Stored → ℕ → List Entry → Schema
schema_of s start entries = record { start = tree_at s start; elements = map (definition_of s) entries }

abbrev pub numbered_of : Stored → ℕ → List Entry → Numbered
numbered_of s start entries = record { schema = schema_of s start entries; pool = s }

-- the contents are numbers below n
pub record AreBelow (n : ℕ) (entries : List Entry) : Type 0 where
  pub each : (k : ℕ) (x : Entry) → slice_get entries k ≡ Some x → x.1 < n

abbrev pub AreWithin : Stored → List Entry → Type 0
AreWithin s entries = AreBelow (count s) entries

-- the definition of a number
abbrev pub definition_at : Numbered → ℕ → Definition
definition_at n k = slice_index_or n.schema.elements k (record { class = any; content = not_allowed })

-- the numbers of a schema, and what they stand for
pub record IsSchema (s : Stored) (start : ℕ) (entries : List Entry) : Type 0 where
  pub within : start < count s
  pub contents : AreWithin s entries
  pub form : IsSimpleForm (schema_of s start entries)
  pub refs : AreRefsBelow (length entries) s

-- What holds of every schema: no After stands in its start or in a content, each reference is to one of its definitions, and each
-- choice is the ascending list of its members, each once.
pub record IsNumbered (n : Numbered) : Type 0 where
  pub form : IsSimpleForm n.schema
  pub refs : AreRefsBelow (length n.schema.elements) n.pool
  pub ordered : (id : ℕ) → id < count n.pool → IsOrdered (tree_at n.pool id)
