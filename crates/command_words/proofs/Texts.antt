-- What the tests on texts say.
use Rattle.std.proofs.Common.{◌≡◌, List, ℕ, Bool, false}
use Rattle.std.specs.Str.{bytes_eq}
use Rattle.std.proofs.lemmas.Slice.Eq.{bytes_eq-Decides}

pub differ : (b : Bool) (x y : List ℕ) → b ≡ bytes_eq x y → b ≡ false → x ≡ y → ⊥
differ b x y e f same = let d = (bytes_eq-Decides x y).1 same in cc
