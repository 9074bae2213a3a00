-- A word that spells a number is read as it.
use Rattle.std.proofs.Common.{◌≡◌, ℕ, ◌^◌, ◌<◌, ◌≤◌, List, arith, sym, ◌∙◌}
use Rattle.std.specs.Prelude.{Result, Ok, decimal}
use Rattle.std.specs.Str.Parse.{ParsesUnsigned}
use Rattle.std.proofs.lemmas.Fmt.{parse-decimal, decimal_injective}
use Rattle.command_words.specs.Words.{IsNumber}

pub decimal-parses : {E : Type 0} (n : ℕ) (w : List ℕ) (r : Result ℕ E) → ParsesUnsigned 64 10 w r → n < 2 ^ 64 → w ≡ decimal n → r ≡ Ok n
decimal-parses n w r p h e = parse-decimal 64 n w r h h e p

-- two readings of one word
pub same_text : {E : Type 0} (r : Result ℕ E) (m n : ℕ) (w text : List ℕ) → r ≡ Ok m → r ≡ Ok n → text ≡ decimal m → w ≡ decimal n → text ≡ w
same_text r m n w text p q e f = cc

-- a word spells one number
pub IsNumber-same : (low high n m : ℕ) (w : List ℕ) → high < 2 ^ 64 → m < 2 ^ 64 → IsNumber low high w n → w ≡ decimal m → n ≡ m
IsNumber-same low high n m w h k i e =
    let most : n ≤ high = i.most in
    decimal_injective n m (omega arith) k (sym i.spelled ∙ e)

pub IsNumber-one : (low high n m : ℕ) (w : List ℕ) → high < 2 ^ 64 → IsNumber low high w n → IsNumber low high w m → n ≡ m
IsNumber-one low high n m w h i k =
    let most : m ≤ high = k.most in
    IsNumber-same low high n m w h (omega arith) i k.spelled
