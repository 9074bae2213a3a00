-- What is read of a file, and what the calls that read it count.
use Rattle.std.proofs.Common.{◌≡◌, ℕ, ◌+◌, ◌≤◌, ◌<◌, List, [], ◌++◌, length, length-append, ap, sym, ◌∙◌, append_assoc, arith, Bool, true, false, not, if◌then◌else◌, Option, Some, None, IfSome, unwrap_or}
use Rattle.std.specs.Io.KnownBytes.{Consumes}
use Rattle.outside.specs.Counts.{RisesAtMost, IsOneMore}
use Rattle.outside.specs.Devices.{Shelved, IsRestAfter, IsLonger, length_of, bytes_of}

-- where the files are told, a file is as long as what was read of it, and longer by what is left
length-of_rest : (files : Shelved) (name bytes left : List ℕ) → bytes_of files name ≡ Some (bytes ++ left) → length_of files name ≡ length bytes + length left
length-of_rest files name bytes left e = ap (λ o. length (unwrap_or o [])) e ∙ length-append bytes left

-- two calls more than bytes were read are two more than the file has
pub told_rises : (files : Option Shelved) (name bytes : List ℕ) (left : Option (List ℕ)) (most : ℕ) (before now : Option ℕ) → IsRestAfter files name bytes left → most ≤ length bytes + 2 → RisesAtMost most before now → IfSome files (λ held. RisesAtMost (length_of held name + 2) before now)
told_rises None name bytes left most before now rest few rises = tt
told_rises (Some held) name bytes None most before now rest few rises = absurd rest
told_rises (Some held) name bytes (Some left) most before None rest few rises = tt
told_rises (Some held) name bytes (Some left) most None (Some n) rest few rises = rises
told_rises (Some held) name bytes (Some left) most (Some m) (Some n) rest few rises = omega (arith, length-of_rest held name bytes left rest)

-- one call more
pub rises_more : (most : ℕ) (before between now : Option ℕ) → RisesAtMost most before between → IsOneMore between now → RisesAtMost (most + 1) before now
rises_more most before between None rises one = tt
rises_more most before None (Some n) rises one = absurd one
rises_more most None (Some m) (Some n) rises one = absurd rises
rises_more most (Some l) (Some m) (Some n) rises one = omega arith

-- what is consumed comes behind what was read
pub rest_more : (files : Option Shelved) (name bytes : List ℕ) (before now : Option (List ℕ)) (taken : List ℕ) → IsRestAfter files name bytes before → Consumes before now taken → IsRestAfter files name (bytes ++ taken) now
rest_more None name bytes before now taken rest consumed = tt
rest_more (Some held) name bytes None now taken rest consumed = absurd rest
rest_more (Some held) name bytes (Some left) None taken rest consumed = absurd consumed
rest_more (Some held) name bytes (Some left) (Some after) taken rest consumed = rest ∙ ap (λ r. Some (bytes ++ r)) consumed ∙ ap Some (sym (append_assoc bytes taken after))

-- a file of which more bytes were read than so many
pub longer : (files : Option Shelved) (name bytes : List ℕ) (left : Option (List ℕ)) (most : ℕ) → IsRestAfter files name bytes left → most < length bytes → IsLonger files name most
longer None name bytes left most rest long = tt
longer (Some held) name bytes None most rest long = absurd rest
longer (Some held) name bytes (Some left) most rest long = (bytes ++ left, rest, omega (arith, length-append bytes left))

-- a bound that is larger
pub rises_within : (few most : ℕ) (before now : Option ℕ) → few ≤ most → RisesAtMost few before now → RisesAtMost most before now
rises_within few most before None within rises = tt
rises_within few most None (Some n) within rises = rises
rises_within few most (Some m) (Some n) within rises = omega arith

-- what a call that didn't fail has made
pub made : {A : Type 0} (is_ok failed : Bool) (new joined old : A) → is_ok ≡ not failed → failed ≡ false → new ≡ (if is_ok then joined else old) → new ≡ joined
made true failed new joined old says held e = e
made false failed new joined old says held e = absurd (cc (says ∙ ap not held))
