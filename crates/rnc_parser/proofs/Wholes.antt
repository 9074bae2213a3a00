-- Whole schemas: the tree that is read, or the place of the syntax error.
use Rattle.std.proofs.Common.{◌≡◌, ℕ, List, Ok, Err, sym, ap, ◌∙◌, subst}
use Rattle.token_laws.specs.Tokens.{Placed}
use Rattle.grammar_laws.specs.Trees.{File}
use Rattle.grammar_laws.specs.Grammar.{Derives}
use Rattle.grammar_laws.specs.Files as schema
use Rattle.grammar_laws.specs.Files.{of_one}
use Rattle.grammar_laws.specs.Nesting.{TooDeep}
use Rattle.grammar_laws.specs.Faults.{SyntaxAt, Parses, ParseRefusal, syntax_error}
use Rattle.grammar_laws.specs.Faults as by
use Rattle.grammar_laws.specs.Prefixes.{place_at}
use Rattle.syntax_laws.specs.Expecting.{Part, Sticks}
use Rattle.schema_tree.specs.declared.full.Parts.{Parts}
use Rattle.rnc_parser.specs.Parts.{DerivesFile, tree_of_file}
use Rattle.rnc_parser.specs.Reading.{at_token, Parsed, parsed, failed}
use Rattle.rnc_parser.specs.declared.stop.Stop.{Stop}

pub tree_read : {xs : List Part} {ts start us : List Placed} {m n : ℕ} {v : Parts} {w : schema.Full} → start ≡ ts → ((a : ℕ) → TooDeep ts a → ⊥) → Parsed xs DerivesFile start (Ok v) us →
    w ≡ of_one m (tree_of_file v) → m ≡ n → (f : File) × Parses ts f × (w ≡ of_one n f)
tree_read {v = v} e shallow (parsed d s) made same =
    (tree_of_file v, record { derives = subst (λ z. Derives z (tree_of_file v)) e d; shallow = shallow }, made ∙ ap (λ k. of_one k (tree_of_file v)) same)

stuck_there : {xs : List Part} {start us : List Placed} → Parsed xs DerivesFile start (Err Stop.Syntax) us → Sticks xs start us
stuck_there (failed (at_token s)) = s

pub refused_there : {xs : List Part} {ts start us : List Placed} {m n p : ℕ} {d : Stop} → d ≡ Stop.Syntax → start ≡ ts → ((a : ℕ) → TooDeep ts a → ⊥) → Parsed xs DerivesFile start (Err d) us →
    ((ts us : List Placed) (n : ℕ) → Sticks xs ts us → SyntaxAt ts n (place_at us n 0)) → m ≡ n → p ≡ place_at us m 0 → ParseRefusal ts n syntax_error p
refused_there {xs = xs} {ts = ts} {start = start} {us = us} {n = n} {p = p} syntax e shallow r law same at =
    let s = subst (λ z. SyntaxAt z n (place_at us n 0)) e (law start us n (stuck_there (subst (λ z. Parsed xs DerivesFile start (Err z) us) syntax r))) in
    by.syntax shallow (subst (SyntaxAt ts n) (sym (at ∙ ap (λ k. place_at us k 0) same)) s)
