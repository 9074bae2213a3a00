-- References of trees that texts have, no two at one place.
use Rattle.std.proofs.Common.{◌≡◌, ℕ, List, length, subst, sym}
use Rattle.token_laws.specs.Tokens.{Placed}
use Rattle.token_laws.specs.Lexing.{Tokens}
use Rattle.grammar_laws.specs.Trees.{File}
use Rattle.grammar_laws.specs.Grammar.{Derives}
use Rattle.grammar_laws.specs.Files.{Full, of_one}
use Rattle.grammar_laws.specs.Faults.{Parses}
use Rattle.tree_laws.specs.WholeBodies.{AreDistinct, IsWhole, references_of_body}

abbrev pub TreesAreWhole : Type 0
TreesAreWhole = (bytes : List ℕ) (ts : List Placed) (f : File) → Tokens bytes ts → Derives ts f → IsWhole (length bytes) f.body

-- the references of a tree that bytes have
pub are_distinct : TreesAreWhole → (bytes : List ℕ) (ts : List Placed) (end : ℕ) (t : Full) → Tokens bytes ts → ((f : File) × Parses ts f × (t ≡ of_one end f)) →
    AreDistinct (references_of_body t.body)
are_distinct whole bytes ts end t lexed (f, parsed, same) =
    (subst (λ (u : Full). IsWhole (length bytes) u.body) (sym same) (whole bytes ts f lexed parsed.derives)).references
