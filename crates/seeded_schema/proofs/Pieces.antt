-- Texts that grow piece by piece.
use Rattle.std.proofs.Common.{◌≡◌, ℕ, List, ◌++◌, arith}
use Rattle.std.proofs.lemmas.List.{append_assoc}

pub two : (t u v a b : List ℕ) → u ≡ t ++ a → v ≡ u ++ b → v ≡ t ++ (a ++ b)
two t u v a b d e = grind (arith, append_assoc)

pub three : (t u v w a b c : List ℕ) → u ≡ t ++ a → v ≡ u ++ b → w ≡ v ++ c → w ≡ t ++ (a ++ b ++ c)
three t u v w a b c d e f = grind (arith, append_assoc)

pub six : (t p q r s u v a b c d e f : List ℕ) → p ≡ t ++ a → q ≡ p ++ b → r ≡ q ++ c → s ≡ r ++ d → u ≡ s ++ e → v ≡ u ++ f →
    v ≡ t ++ (a ++ b ++ c ++ d ++ e ++ f)
six t p q r s u v a b c d e f g h i j k l = grind (arith, append_assoc)

pub behind : (a b c d : List ℕ) → a ++ (b ++ (c ++ d)) ≡ a ++ b ++ c ++ d
behind a b c d = grind (arith, append_assoc)
