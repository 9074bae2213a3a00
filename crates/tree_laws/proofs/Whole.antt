-- Every tree that the tokens of a text derive is whole.
use Rattle.std.proofs.Common.{ℕ, zero, suc, ◌≤◌, List, [], ◌∷◌, length, refl, ap, arith}
use Rattle.std.specs.Prelude.{Contains, ⊤}
use Rattle.rng_model.specs.Texts.{Text}
use Rattle.token_laws.specs.Tokens.{Token, keyword, ident, cname, ns_name, segment, symbol, Placed, ◌at◌}
use Rattle.token_laws.specs.Names.{names_of}
use Rattle.token_laws.specs.Lexing.{Tokens}
use Rattle.token_laws.proofs.Names.{IsNcText, names_are}
use Rattle.grammar_laws.specs.Trees.{File, Body}
use Rattle.grammar_laws.specs.Grammar.{Derives, DerivesBody}
use Rattle.grammar_laws.specs.Grammar as by
use Rattle.tree_laws.specs.WholeBodies.{with_members, with_ncnames, within, references_of_body, AreDistinct, AreDeclarationsWithin, IsWhole}
use Rattle.tree_laws.proofs.Picks.{Picks, done, skip, pick, pick_declarations, pick_body}
use Rattle.tree_laws.proofs.Nodes.{whole, NamesNcname, AreGood, behind, declarations_within, whole_body}
use Rattle.tree_laws.proofs.Places.{AreAscending, places_ascend}
use Rattle.tree_laws.proofs.Narrow.{narrow_body}

-- Each token of the text is good.
named : (t : Token) → ((n : Text) → Contains (names_of t) n → IsNcText n) → NamesNcname t
named (keyword k) h = tt
named (ident n) h = h n (zero, omega arith, refl)
named (cname p n) h = h n (1, omega arith, refl)
named (ns_name p) h = tt
named (segment s) h = tt
named (symbol s) h = tt

good : (low end : ℕ) (ts : List Placed) → AreAscending low end ts → ((t : Token) (a : ℕ) → Contains ts (t at a) → NamesNcname t) → AreGood end ts
good low end [] asc h = tt
good low end (t at a ∷ ts) asc h =
    (omega (arith, asc.1), h t a (zero, omega arith, refl), good (suc a) end ts asc.2 (λ u b c. h u b (suc c.0, omega (arith, c.1), c.2)))

tokens_good : {bytes : List ℕ} {ts : List Placed} → Tokens bytes ts → AreGood (length bytes) ts
tokens_good {bytes = bytes} {ts = ts} lexed =
    good 0 (length bytes) ts (places_ascend lexed) (λ t a c. named t (λ n d. names_are bytes ts t a n lexed c d))

-- Numbers that ascend are distinct.
abbrev Rise : ℕ → List ℕ → Type 0
Rise low [] = ⊤
Rise low (a ∷ xs) = (low ≤ a) × Rise (suc a) xs

lower : (low high : ℕ) (xs : List ℕ) → low ≤ high → Rise high xs → Rise low xs
lower low high [] h r = tt
lower low high (a ∷ xs) h r = (omega (arith, r.0), r.1)

rise : (low end : ℕ) {ts us : List Placed} {xs : List ℕ} → Picks ts us xs → AreAscending low end ts → Rise low xs
rise low end done asc = tt
rise low end (skip {a = a} {xs = xs} p) asc = lower low (suc a) xs (omega (arith, asc.0)) (rise (suc a) end p asc.2)
rise low end (pick {a = a} p) asc = (asc.0, rise (suc a) end p asc.2)

least : (low a : ℕ) (xs : List ℕ) → Rise low xs → Contains xs a → low ≤ a
least low a [] r (k, less, is) = absurd (omega arith)
least low a (x ∷ xs) r (zero, less, is) = omega (arith, r.0, is)
least low a (x ∷ xs) r (suc k, less, is) = omega (arith, r.0, least (suc x) a xs r.1 (k, omega arith, is))

distinct : (low : ℕ) (xs : List ℕ) → Rise low xs → AreDistinct xs
distinct low [] r a (k, less, is) n = absurd (omega arith)
distinct low (x ∷ xs) r a (zero, less, is) (zero, less', is') = refl
distinct low (x ∷ xs) r a (zero, less, is) (suc l, less', is') = absurd (omega (arith, is, least (suc x) a xs r.1 (l, omega arith, is')))
distinct low (x ∷ xs) r a (suc k, less, is) (zero, less', is') = absurd (omega (arith, is', least (suc x) a xs r.1 (k, omega arith, is)))
distinct low (x ∷ xs) r a (suc k, less, is) (suc l, less', is') = ap suc (distinct (suc x) xs r.1 a (k, omega arith, is) (l, omega arith, is'))

-- what the places behind the first tokens have
rest_ascends : (low end : ℕ) {ts us : List Placed} {xs : List ℕ} → Picks ts us xs → AreAscending low end ts → (more : ℕ) × AreAscending more end us
rest_ascends low end done asc = (low, asc)
rest_ascends low end (skip {a = a} p) asc = rest_ascends (suc a) end p asc.2
rest_ascends low end (pick {a = a} p) asc = rest_ascends (suc a) end p asc.2

whole_from : (low end : ℕ) {ts : List Placed} {b : Body} → DerivesBody ts b → AreGood end ts → AreAscending low end ts → IsWhole end b
whole_from low end {b = b} d g asc =
    let w = whole_body end d g in
    record {
      places = narrow_body (whole end) (within end) (record { pattern = λ p h. h.1; class = λ c h. h.2; item = λ i h. h }) b w;
      names = narrow_body (whole end) with_ncnames (record { pattern = λ p h. tt; class = λ c h. h.1; item = λ i h. tt }) b w;
      members = narrow_body (whole end) with_members (record { pattern = λ p h. h.0; class = λ c h. h.0; item = λ i h. tt }) b w;
      references = distinct low (references_of_body b) (rise low end (pick_body d) asc);
    }

pub body_whole : (bytes : List ℕ) (ts : List Placed) (f : File) → Tokens bytes ts → Derives ts f → IsWhole (length bytes) f.body
body_whole bytes ts f lexed (by.top ds d) =
    let end = length bytes in
    let p = pick_declarations ds in
    let asc = rest_ascends 0 end p (places_ascend lexed) in
    whole_from asc.0 end d (behind end p (tokens_good lexed)) asc.1

pub declarations_whole : (bytes : List ℕ) (ts : List Placed) (f : File) → Tokens bytes ts → Derives ts f → AreDeclarationsWithin (length bytes) f.declarations
declarations_whole bytes ts f lexed (by.top ds d) = declarations_within (length bytes) ds (tokens_good lexed)
