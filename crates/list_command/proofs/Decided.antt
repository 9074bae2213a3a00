-- A schema's bytes have one fault, or are accepted as one schema, and never both.
use Rattle.std.proofs.Common.{◌≡◌, ◌⊎◌, inl, inr, ℕ, ◌≤◌, ◌<◌, ◌↔◌, List, [], length, refl, ap, ap₂, sym, ◌∙◌, arith}
use Rattle.std.specs.Prelude.{Option, None, Some}
use Rattle.rng_model.specs.Patterns.{Schema}
use Rattle.rng_model.specs.Restrictions.{BreaksNoRule}
use Rattle.restrictions.specs.Rules.{IsLeastBroken, number_of}
use Rattle.restrictions.specs.declared.rule.Rule.{Rule}
use Rattle.token_laws.specs.Tokens.{Placed}
use Rattle.token_laws.specs.Lexing.{Fault, Tokens, LexRefusal}
use Rattle.grammar_laws.specs.Trees.{File}
use Rattle.grammar_laws.specs.Grammar.{Derives}
use Rattle.grammar_laws.specs.Files.{Full, of_one}
use Rattle.grammar_laws.specs.Faults.{ParseFault, Parses, ParseRefusal}
use Rattle.simple_form_laws.specs.Faults as simple
use Rattle.simple_form_laws.specs.Faults.{Simple, SimplifyRefusal}
use Rattle.schema_tree.specs.Features.{HasFeature}
use Rattle.schema_tree.specs.Least.{IsFirstFeature}
use Rattle.schema_tree.specs.declared.features.Feature.{Feature}
use Rattle.schema_tree.proofs.Leasts.{first_feature_once}
use Rattle.list_command.specs.declared.outcome.SchemaFault.{SchemaFault}
use Rattle.list_command.specs.Accepting.{HasTree, IsTreeOf, IsTaken, Refuses, Accepts, lexing_fault, parsing_fault, feature_fault, simplifying_fault}

-- what the laws of tokens, of trees and of simple forms say
pub record AreLaws : Type 0 where
  pub lexed_once : (bytes : List ℕ) (ts us : List Placed) → Tokens bytes ts → Tokens bytes us → ts ≡ us
  pub refused_once : (bytes : List ℕ) (f g : Fault) (p q : ℕ) → LexRefusal bytes f p → LexRefusal bytes g q → (f ≡ g) × (p ≡ q)
  pub lexed_or_refused : (bytes : List ℕ) (ts : List Placed) (f : Fault) (p : ℕ) → Tokens bytes ts → LexRefusal bytes f p → ⊥
  pub derived_once : (ts : List Placed) (f g : File) → Derives ts f → Derives ts g → f ≡ g
  pub unparsed_once : (ts : List Placed) (end : ℕ) (f g : ParseFault) (a b : ℕ) → ParseRefusal ts end f a → ParseRefusal ts end g b → (f ≡ g) × (a ≡ b)
  pub parsed_or_refused : (ts : List Placed) (end : ℕ) (t : File) (f : ParseFault) (a : ℕ) → Parses ts t → ParseRefusal ts end f a → ⊥
  pub formed_once : (t : Full) (g h : Schema) → Simple t g → Simple t h → g ≡ h
  pub unformed_once : (t : Full) (f g : simple.Fault) → SimplifyRefusal t f → SimplifyRefusal t g → f ≡ g
  pub formed_or_refused : (t : Full) (g : Schema) (f : simple.Fault) → Simple t g → SimplifyRefusal t f → ⊥

module _ (laws : AreLaws) where
  -- a file has one list of tokens and one tree
  same_tree : {bytes : List ℕ} {t u : Full} → IsTreeOf bytes t → IsTreeOf bytes u → t ≡ u
  same_tree {bytes = bytes} (ts, f, r, is) (us, g, s, also) =
      let same : us ≡ ts = laws.lexed_once bytes us ts s.lexed r.lexed in
      let derived : Derives ts g = rw same at s.parsed.derives in
      is ∙ ap (of_one (length bytes)) (laws.derived_once ts f g r.parsed.derives derived) ∙ sym also

  few_bytes : {bytes : List ℕ} {t : Full} → IsTreeOf bytes t → length bytes ≤ 1048576
  few_bytes (ts, f, r, is) = r.short

  -- none where tokens or a tree are refused
  no_tree_without_tokens : {bytes : List ℕ} {t : Full} {fault : Fault} {p : ℕ} → IsTreeOf bytes t → LexRefusal bytes fault p → ⊥
  no_tree_without_tokens (ts, f, r, is) refusal = laws.lexed_or_refused _ _ _ _ r.lexed refusal

  no_tree_refused : {bytes : List ℕ} {t : Full} {us : List Placed} {fault : ParseFault} {p : ℕ} → IsTreeOf bytes t → Tokens bytes us → ParseRefusal us (length bytes) fault p → ⊥
  no_tree_refused {bytes = bytes} {us = us} (ts, f, r, is) lexed refusal =
      let same : us ≡ ts = laws.lexed_once bytes us ts lexed r.lexed in
      laws.parsed_or_refused ts (length bytes) _ _ _ r.parsed (rw same at refusal)

  -- one refusal of the grammar
  same_refusal : {bytes : List ℕ} {ts us : List Placed} {f g : ParseFault} {p q : ℕ} → Tokens bytes ts → Tokens bytes us →
      ParseRefusal ts (length bytes) f p → ParseRefusal us (length bytes) g q → (f ≡ g) × (p ≡ q)
  same_refusal {bytes = bytes} {ts = ts} {us = us} lexed again refusal refused =
      let same : us ≡ ts = laws.lexed_once bytes us ts again lexed in
      laws.unparsed_once ts (length bytes) _ _ _ _ refusal (rw same at refused)

  -- one first feature
  same_feature : {bytes : List ℕ} {t u : Full} {f g : Feature} {p q : ℕ} → IsTreeOf bytes t → IsTreeOf bytes u → IsFirstFeature t f p → IsFirstFeature u g q → (f ≡ g) × (p ≡ q)
  same_feature {t = t} {f = f} {g = g} {p = p} {q = q} r s first again = first_feature_once t f g p q first (rw (same_tree s r) at again)

  not_taken : {bytes : List ℕ} {t u : Full} {f : Feature} {p : ℕ} → IsTreeOf bytes t → IsTreeOf bytes u → IsFirstFeature t f p → IsTaken u → ⊥
  not_taken {f = f} {p = p} r s first taken = taken f p (rw (same_tree r s) at first.there)

  -- one refusal of simplification, and none of a simple form
  same_fault : {bytes : List ℕ} {t u : Full} {f g : simple.Fault} → IsTreeOf bytes t → IsTreeOf bytes u → SimplifyRefusal t f → SimplifyRefusal u g → f ≡ g
  same_fault {t = t} {f = f} {g = g} r s refusal refused = laws.unformed_once t f g refusal (rw (same_tree s r) at refused)

  no_form_refused : {bytes : List ℕ} {t u : Full} {f : simple.Fault} {g : Schema} → IsTreeOf bytes t → IsTreeOf bytes u → SimplifyRefusal t f → Simple u g → ⊥
  no_form_refused {u = u} {f = f} {g = g} r s refusal formed = laws.formed_or_refused u g f formed (rw (same_tree r s) at refusal)

  -- one broken rule is the least
  same_rule : {bytes : List ℕ} {t u : Full} {g h : Schema} (r s : Rule) → IsTreeOf bytes t → IsTreeOf bytes u → Simple t g → Simple u h →
      IsLeastBroken g (Some r) → IsLeastBroken h (Some s) → number_of r ≡ number_of s
  same_rule {t = t} {g = g} {h = h} r s read again formed also broken least =
      let one : Simple t h = rw (same_tree again read) at also in
      let schema : h ≡ g = laws.formed_once t h g one formed in
      let other : IsLeastBroken g (Some s) = rw schema at least in
      between (λ b. broken.1 (number_of s) b other.0) (λ b. other.1 (number_of r) b broken.0)
    where
      between : (number_of s < number_of r → ⊥) → (number_of r < number_of s → ⊥) → number_of r ≡ number_of s
      between a b = omega (arith, a, b)

  -- no rule is broken of an accepted schema
  not_broken : {bytes : List ℕ} {t u : Full} {g h : Schema} (r : Rule) → IsTreeOf bytes t → IsTreeOf bytes u → Simple t g → Simple u h → IsLeastBroken g (Some r) → BreaksNoRule h → ⊥
  not_broken {u = u} {g = g} {h = h} r read again formed also broken sound =
      let one : Simple u g = rw (same_tree read again) at formed in
      let schema : g ≡ h = laws.formed_once u g h one also in
      sound (number_of r) (rw schema at broken.0)

  -- a schema has one fault
  pub one_fault : {bytes : List ℕ} {f h : SchemaFault} → Refuses bytes f → Refuses bytes h → f ≡ h
  one_fault (Refuses.too_long many) (Refuses.too_long more) = refl
  one_fault (Refuses.too_long many) (Refuses.no_tokens few refusal is) = absurd (omega arith)
  one_fault (Refuses.too_long many) (Refuses.no_tree few lexed refusal is) = absurd (omega arith)
  one_fault (Refuses.too_long many) (Refuses.feature f read first is) = absurd (let few = few_bytes read in omega arith)
  one_fault (Refuses.too_long many) (Refuses.no_form read refusal is) = absurd (let few = few_bytes read.0 in omega arith)
  one_fault (Refuses.too_long many) (Refuses.broken r read formed least is) = absurd (let few = few_bytes read.0 in omega arith)
  one_fault (Refuses.no_tokens few refusal is) (Refuses.too_long many) = absurd (omega arith)
  one_fault (Refuses.no_tokens few refusal is) (Refuses.no_tokens less refused also) =
      let same = laws.refused_once _ _ _ _ _ refusal refused in
      is ∙ ap₂ lexing_fault same.0 same.1 ∙ sym also
  one_fault (Refuses.no_tokens few refusal is) (Refuses.no_tree less lexed refused also) = absurd (laws.lexed_or_refused _ _ _ _ lexed refusal)
  one_fault (Refuses.no_tokens few refusal is) (Refuses.feature g read first also) = absurd (no_tree_without_tokens read refusal)
  one_fault (Refuses.no_tokens few refusal is) (Refuses.no_form read refused also) = absurd (no_tree_without_tokens read.0 refusal)
  one_fault (Refuses.no_tokens few refusal is) (Refuses.broken r read formed least also) = absurd (no_tree_without_tokens read.0 refusal)
  one_fault (Refuses.no_tree few lexed refusal is) (Refuses.too_long many) = absurd (omega arith)
  one_fault (Refuses.no_tree few lexed refusal is) (Refuses.no_tokens less refused also) = absurd (laws.lexed_or_refused _ _ _ _ lexed refused)
  one_fault (Refuses.no_tree few lexed refusal is) (Refuses.no_tree less again refused also) =
      let same = same_refusal lexed again refusal refused in
      is ∙ ap₂ parsing_fault same.0 same.1 ∙ sym also
  one_fault (Refuses.no_tree few lexed refusal is) (Refuses.feature g read first also) = absurd (no_tree_refused read lexed refusal)
  one_fault (Refuses.no_tree few lexed refusal is) (Refuses.no_form read refused also) = absurd (no_tree_refused read.0 lexed refusal)
  one_fault (Refuses.no_tree few lexed refusal is) (Refuses.broken r read formed least also) = absurd (no_tree_refused read.0 lexed refusal)
  one_fault (Refuses.feature f read first is) (Refuses.too_long many) = absurd (let few = few_bytes read in omega arith)
  one_fault (Refuses.feature f read first is) (Refuses.no_tokens less refused also) = absurd (no_tree_without_tokens read refused)
  one_fault (Refuses.feature f read first is) (Refuses.no_tree less lexed refused also) = absurd (no_tree_refused read lexed refused)
  one_fault (Refuses.feature f read first is) (Refuses.feature g again second also) =
      let same = same_feature read again first second in
      is ∙ ap₂ feature_fault same.0 same.1 ∙ sym also
  one_fault (Refuses.feature f read first is) (Refuses.no_form again refused also) = absurd (not_taken read again.0 first again.1)
  one_fault (Refuses.feature f read first is) (Refuses.broken r again formed least also) = absurd (not_taken read again.0 first again.1)
  one_fault (Refuses.no_form read refusal is) (Refuses.too_long many) = absurd (let few = few_bytes read.0 in omega arith)
  one_fault (Refuses.no_form read refusal is) (Refuses.no_tokens less refused also) = absurd (no_tree_without_tokens read.0 refused)
  one_fault (Refuses.no_form read refusal is) (Refuses.no_tree less lexed refused also) = absurd (no_tree_refused read.0 lexed refused)
  one_fault (Refuses.no_form read refusal is) (Refuses.feature g again first also) = absurd (not_taken again read.0 first read.1)
  one_fault (Refuses.no_form read refusal is) (Refuses.no_form again refused also) = is ∙ ap simplifying_fault (same_fault read.0 again.0 refusal refused) ∙ sym also
  one_fault (Refuses.no_form read refusal is) (Refuses.broken r again formed least also) = absurd (no_form_refused read.0 again.0 refusal formed)
  one_fault (Refuses.broken r read formed least is) (Refuses.too_long many) = absurd (let few = few_bytes read.0 in omega arith)
  one_fault (Refuses.broken r read formed least is) (Refuses.no_tokens less refused also) = absurd (no_tree_without_tokens read.0 refused)
  one_fault (Refuses.broken r read formed least is) (Refuses.no_tree less lexed refused also) = absurd (no_tree_refused read.0 lexed refused)
  one_fault (Refuses.broken r read formed least is) (Refuses.feature g again first also) = absurd (not_taken again read.0 first read.1)
  one_fault (Refuses.broken r read formed least is) (Refuses.no_form again refused also) = absurd (no_form_refused again.0 read.0 refused formed)
  one_fault (Refuses.broken r read formed least is) (Refuses.broken s again also_formed other also) =
      is ∙ ap (λ n. SchemaFault.Restriction n) (same_rule r s read.0 again.0 formed also_formed least other) ∙ sym also

  -- an accepted schema has none
  pub not_both : {bytes : List ℕ} {f : SchemaFault} {g : Schema} → Refuses bytes f → Accepts bytes g → ⊥
  not_both (Refuses.too_long many) a = let short = few_bytes a.taken.0 in omega arith
  not_both (Refuses.no_tokens few refusal is) a = no_tree_without_tokens a.taken.0 refusal
  not_both (Refuses.no_tree few lexed refusal is) a = no_tree_refused a.taken.0 lexed refusal
  not_both (Refuses.feature f read first is) a = not_taken read a.taken.0 first a.taken.1
  not_both (Refuses.no_form read refusal is) a = no_form_refused read.0 a.taken.0 refusal a.simple
  not_both (Refuses.broken r read formed least is) a = not_broken r read.0 a.taken.0 formed a.simple least a.sound

  -- it is one
  pub same_schema : {bytes : List ℕ} {g h : Schema} → Accepts bytes g → Accepts bytes h → g ≡ h
  same_schema {g = g} {h = h} a b = laws.formed_once a.tree g h a.simple (rw (same_tree b.taken.0 a.taken.0) at b.simple)
