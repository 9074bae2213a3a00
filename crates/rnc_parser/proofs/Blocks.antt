-- Annotations, read by loops.
use Rattle.std.proofs.Common.{◌≡◌, ℕ, zero, suc, true, false, List, [], ◌∷◌, length, Ok, Err, refl, sym, ap, ◌∙◌, subst, arith}
use Rattle.std.proofs.Common.{◌≤◌}
use Rattle.std.specs.Prelude.{⊤}
use Rattle.token_laws.specs.Tokens.{Symbol, Token, symbol, Placed, ◌at◌, open_bracket, follows}
use Rattle.grammar_laws.specs.Grammar.{IsNoBracket, ReadsFilling, ReadsBlock, ReadsBlocks, ReadsFollow}
use Rattle.grammar_laws.specs.Grammar as by
use Rattle.grammar_laws.proofs.Loops.{Fillings, LeadBlocks, next_block, LeadFollow, next_follow}
use Rattle.syntax_laws.specs.Expecting.{Part, pass, become, refuse, first, next, Stands}
use Rattle.syntax_laws.specs.Expecting as part
use Rattle.rnc_parser.specs.Reading.{Is, Eats, Takes, InBlock, IsOpenBehind, Fails, no_memory, Parsed, parsed, IsSign, IsBeforeBlock}
use Rattle.rnc_parser.specs.declared.stop.Stop.{Stop}
use Rattle.rnc_parser.proofs.Steps.{begin, turn, past, read, took, stuck, made, no_symbol, symbol_first}

abbrev pub fillings : ℕ → List Part
fillings zero = []
fillings (suc n) = part.filling ∷ fillings n

-- in a block from ts on, the loop stands at us, before the ends of n brackets
abbrev pub BlockAt : ℕ → List Placed → List Placed → Type 0
BlockAt n ts us = ((rest : List Placed) → Fillings n us rest → ReadsBlock ts rest) × Stands (part.block ∷ []) ts (fillings n) us

pub block_begins : {ts us : List Placed} {a : ℕ} → Takes (part.sign open_bracket) (IsSign open_bracket) ts (Ok a) us → BlockAt 1 ts us
block_begins {ts = ts} {us = us} m = (
  (λ rest (vs, f, e). subst (ReadsBlock ts) e (subst (λ z. ReadsBlock z vs) (sym (symbol_first m)) (by.block f))),
  took (turn begin refl) m,
)

step : (n m : ℕ) (t : Token) (a : ℕ) (ts us : List Placed) → IsOpenBehind (suc n) t m → BlockAt (suc n) ts (t at a ∷ us) → BlockAt m ts us
step n m (symbol Symbol.open_bracket) a ts us e (lead, s) =
    subst (λ z. BlockAt z ts us) (sym e) ((λ rest (vs, f, (ws, g, h)). lead rest (ws, by.nested f g, h)), past s refl refl)
step n m (symbol Symbol.close_bracket) a ts us e (lead, s) =
    let f : n ≡ m = cc in
    subst (λ z. BlockAt z ts us) f ((λ rest h. lead rest (us, by.closed, h)), past s refl refl)
step n m (symbol Symbol.open_brace) a ts us e (lead, s) = subst (λ z. BlockAt z ts us) (sym e) ((λ rest (vs, f, h). lead rest (vs, by.passed tt f, h)), past s refl refl)
step n m (symbol Symbol.close_brace) a ts us e (lead, s) = subst (λ z. BlockAt z ts us) (sym e) ((λ rest (vs, f, h). lead rest (vs, by.passed tt f, h)), past s refl refl)
step n m (symbol Symbol.open_paren) a ts us e (lead, s) = subst (λ z. BlockAt z ts us) (sym e) ((λ rest (vs, f, h). lead rest (vs, by.passed tt f, h)), past s refl refl)
step n m (symbol Symbol.close_paren) a ts us e (lead, s) = subst (λ z. BlockAt z ts us) (sym e) ((λ rest (vs, f, h). lead rest (vs, by.passed tt f, h)), past s refl refl)
step n m t a ts us e (lead, s) = subst (λ z. BlockAt z ts us) (sym e) ((λ rest (vs, f, h). lead rest (vs, by.passed tt f, h)), past s refl refl)

pub block_step : (n m : ℕ) {ts us vs : List Placed} → BlockAt (suc n) ts us → InBlock (suc n) us (Ok m) vs → BlockAt m ts vs
block_step n m {ts = ts} {vs = vs} b (t, a, e, o) = step n m t a ts vs o (subst (BlockAt (suc n) ts) e b)

pub block_step_above : (k m : ℕ) {ts us vs : List Placed} → 1 ≤ k → BlockAt k ts us → InBlock k us (Ok m) vs → BlockAt m ts vs
block_step_above zero m h b i = absurd (omega arith)
block_step_above (suc n) m h b i = block_step n m b i

pub block_ends : (k : ℕ) {ts us : List Placed} → k ≡ 0 → BlockAt k ts us → Parsed {A = ⊤} (part.block ∷ []) (λ xs ys x. ReadsBlock xs ys) ts (Ok tt) us
block_ends zero {us = us} e (lead, s) = parsed (lead us refl) s
block_ends (suc n) e b = absurd (omega arith)

open_fails : (d : Stop) (n : ℕ) {ts us vs : List Placed} → BlockAt (suc n) ts us → InBlock (suc n) us (Err d) vs → Fails (part.block ∷ []) ts vs d
open_fails Stop.Syntax n {ts = ts} {us = us} (lead, s) (e, f) =
    subst (λ z. Fails (part.block ∷ []) ts z Stop.Syntax) (sym e) (stuck s (ap (λ z. next part.filling (first z)) f))
open_fails Stop.OutOfMemory n b i = no_memory

pub block_fails : (d : Stop) (k : ℕ) {ts us vs : List Placed} → 1 ≤ k → BlockAt k ts us → InBlock k us (Err d) vs → Fails (part.block ∷ []) ts vs d
block_fails d zero h b i = absurd (omega arith)
block_fails d (suc n) h b i = open_fails d n b i

-- blocks
abbrev pub BlocksAt : List Placed → List Placed → Type 0
BlocksAt ts us = LeadBlocks ts us × Stands (part.blocks ∷ []) ts (part.blocks ∷ []) us

pub blocks_begin : {ts : List Placed} → BlocksAt ts ts
blocks_begin = ((λ vs r. r), begin)

pub another_block : {ts us : List Placed} → BlocksAt ts us → Is open_bracket us true → Stands (part.blocks ∷ []) ts (part.block ∷ part.blocks ∷ []) us
another_block s (a, vs, e) = turn s.1 (ap (λ z. next part.blocks (first z)) e)

pub blocks_step : {ts us vs : List Placed} → BlocksAt ts us → Is open_bracket us true → Parsed {A = ⊤} (part.block ∷ []) (λ xs ys x. ReadsBlock xs ys) us (Ok tt) vs → BlocksAt ts vs
blocks_step s i r = (next_block s.0 (made r), read (another_block s i) r)

pub blocks_end : {ts us : List Placed} → BlocksAt ts us → Is open_bracket us false → Parsed {A = ⊤} (part.blocks ∷ []) (λ xs ys x. ReadsBlocks xs ys) ts (Ok tt) us
blocks_end {us = us} s i = parsed (s.0 us by.ReadsBlocks.none) (turn s.1 (ap part.blocks_move (no_symbol open_bracket us i)))

-- follow parts
abbrev pub FollowAt : List Placed → List Placed → Type 0
FollowAt ts us = LeadFollow ts us × Stands (part.follow ∷ []) ts (part.follow ∷ []) us

pub follow_begins : {ts : List Placed} → FollowAt ts ts
follow_begins = ((λ vs r. r), begin)

pub another_follow : {ts us vs : List Placed} → FollowAt ts us → Eats follows us true vs → Stands (part.follow ∷ []) ts (part.annotation_name ∷ part.block ∷ part.follow ∷ []) vs
another_follow s (a, e) = past s.1 e refl

pub follow_step : {ts us vs ws xs : List Placed} {v : ⊤} → FollowAt ts us → Eats follows us true vs → Takes part.annotation_name IsBeforeBlock vs (Ok v) ws → Parsed {A = ⊤} (part.block ∷ []) (λ xs ys x. ReadsBlock xs ys) ws (Ok tt) xs → FollowAt ts xs
follow_step {ts = ts} s (a, e) m r = (next_follow (subst (LeadFollow ts) (e ∙ ap (λ z. symbol follows at a ∷ z) m.2) s.0) m.4 (made r), read (took (another_follow s (a, e)) m) r)

pub follow_ends : {ts us vs : List Placed} → FollowAt ts us → Eats follows us false vs → Parsed {A = ⊤} (part.follow ∷ []) (λ xs ys x. ReadsFollow xs ys) ts (Ok tt) vs
follow_ends {ts = ts} {us = us} s (e, h) = subst (λ z. Parsed {A = ⊤} (part.follow ∷ []) (λ xs ys x. ReadsFollow xs ys) ts (Ok tt) z) (sym e) (parsed (s.0 us by.ReadsFollow.none) (turn s.1 (ap part.follow_move (no_symbol follows us h))))

open_behind : (n m : ℕ) (t : Token) → IsOpenBehind n t m → m ≤ suc n
open_behind n m (symbol Symbol.open_bracket) e = omega (arith, e)
open_behind n m (symbol Symbol.close_bracket) e = omega (arith, e)
open_behind n m t e = omega (arith, e)

-- a token less is left, and at most one bracket more is open
pub in_block_length : (n : ℕ) {m : ℕ} {ts us : List Placed} → InBlock n ts (Ok m) us → (length ts ≡ suc (length us)) × (m ≤ suc n)
in_block_length n {m = m} (t, a, e, o) = (ap length e, open_behind n m t o)
