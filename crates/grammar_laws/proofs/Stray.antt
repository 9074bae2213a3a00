-- The worked example of a syntax error's place: `a, b | c` fails at the bar.
use Rattle.std.proofs.Common.{◌≡◌, ℕ, zero-le, ◌+◌, ◌⊎◌, inl, inr, List, [], ◌∷◌, length, take, refl, sym, ap, ◌∙◌, subst, arith, codes}
use Rattle.token_laws.specs.Tokens.{Symbol, ident, symbol, Placed, ◌at◌, comma, bar}
use Rattle.grammar_laws.specs.Trees.{Method, Pattern, more_patterns, no_pattern, Item, Items, Body}
use Rattle.grammar_laws.specs.Grammar.{IsAssign, ReadsBlock, ReadsBlocks, ReadsPattern, ReadsMembers, ReadsParticle, ReadsItem, ReadsItems, Begins}
use Rattle.grammar_laws.specs.Grammar as by
use Rattle.grammar_laws.specs.Faults.{SyntaxAt}
use Rattle.grammar_laws.specs.Prefixes.{FailsAt}
use Rattle.grammar_laws.specs.Examples.{mixed_chain}
use Rattle.grammar_laws.proofs.Ends.{rank, rest_same}
use Rattle.grammar_laws.proofs.Leaves.{block_meaning, blocks_meaning}
use Rattle.grammar_laws.proofs.Parameters.{IsClosed}
use Rattle.grammar_laws.proofs.Patterns.{End, symbol_same}
use Rattle.grammar_laws.proofs.Items.{ItemsMeaning, items_meaning, AssignMeaning, item_meaning}
use Rattle.grammar_laws.proofs.Fronts.{part_particle, part_declarations}
use Rattle.grammar_laws.proofs.Prefixes.{agree_cons, part_length, syntax_at}
use Rattle.grammar_laws.proofs.Tops.{HasNoTree, no_body, body_fails, declarations_length}
use Rattle.grammar_laws.proofs.Chains.{particle_length, chain_fails, other_sign}

-- a name alone
one_name : (n : List ℕ) (a : ℕ) (ts : List Placed) → ReadsParticle (ident n at a ∷ ts) ts (Pattern.ref n a)
one_name n a ts = by.once (by.primary by.ReadsBlocks.none by.ref by.ReadsFollow.none)

one_long : (n : List ℕ) (a : ℕ) (ts : List Placed) → particle_length (one_name n a ts) ≡ 1
one_long n a ts =
    let h : length (ident n at a ∷ ts) ≡ particle_length (one_name n a ts) + length ts = part_length ReadsParticle (part_particle (one_name n a ts)) in
    omega arith

behind_comma : List Placed
behind_comma = ident (codes "b") at 3 ∷ symbol bar at 5 ∷ ident (codes "c") at 7 ∷ []

comma_or_bar : comma ≡ bar → ⊥
comma_or_bar e = cc

pattern_fails_at_bar : FailsAt ReadsPattern (End 0) 3 mixed_chain
unfolding behind_comma
pattern_fails_at_bar =
    let inner = other_sign by.IsConnector.group by.IsConnector.choice comma_or_bar (one_name (codes "b") 3 (symbol bar at 5 ∷ ident (codes "c") at 7 ∷ [])) in
    let one : particle_length (one_name (codes "b") 3 (symbol bar at 5 ∷ ident (codes "c") at 7 ∷ [])) + 0 ≡ 1 = ap (λ n. n + 0) (one_long (codes "b") 3 (symbol bar at 5 ∷ ident (codes "c") at 7 ∷ [])) in
    let outer = chain_fails by.IsConnector.group (one_name (codes "a") 0 (symbol comma at 1 ∷ behind_comma)) 1 (subst (λ k. FailsAt (ReadsMembers comma) (End 0) k behind_comma) one inner) in
    subst (λ k. FailsAt ReadsPattern (End 0) k mixed_chain) (ap (λ n. n + 2) (one_long (codes "a") 0 (symbol comma at 1 ∷ behind_comma))) outer

-- no items begin with a name and a comma
assign_rank : {s : Symbol} {m : Method} → IsAssign s m → rank (symbol s) ≡ 0
assign_rank by.IsAssign.plain = refl
assign_rank by.IsAssign.choice = refl
assign_rank by.IsAssign.interleave = refl

no_definition : (vs us : List Placed) (i : Item) → ReadsItem (ident (codes "a") at 0 ∷ symbol comma at 1 ∷ vs) us i → ⊥
no_definition vs us i r = go (item_meaning r)
  where
    go : AssignMeaning (λ m p. Item.define (codes "a") m p 0) (symbol comma at 1 ∷ vs) us i → ⊥
    go (s, m, b, ws, p, begins, assign, _, _) =
        let h : rank (symbol comma) ≡ 0 = subst (λ z. rank (symbol z) ≡ 0) (sym (symbol_same begins)) (assign_rank assign) in
        omega arith

no_items : (vs us : List Placed) (is : Items) → ReadsItems (ident (codes "a") at 0 ∷ symbol comma at 1 ∷ vs) us is → IsClosed us → ⊥
no_items vs us is r closed = go (items_meaning r)
  where
    front : List Placed
    front = ident (codes "a") at 0 ∷ symbol comma at 1 ∷ vs

    first : (ws xs : List Placed) (i : Item) → (ws ≡ front) ⊎ ((ys : List Placed) × ReadsBlock front ys × ReadsBlocks ys ws) → ReadsItem ws xs i → ⊥
    first ws xs i (inl same) item = no_definition vs xs i (subst (λ z. ReadsItem z xs i) same item)
    first ws xs i (inr (ys, b, bs)) item = block_meaning b

    go : ItemsMeaning front us is → ⊥
    go (inl (x, y)) = subst IsClosed x closed
    go (inr (inl (ws, xs, i, js, b, item, rs, made))) = first ws xs i (blocks_meaning b) item
    go (inr (inr (t, a, ws, xs, begins, n, b, rs))) = block_meaning (subst (λ z. ReadsBlock z xs) (sym (rest_same begins)) b)

items_fail : FailsAt ReadsItems IsClosed 3 mixed_chain
unfolding behind_comma
items_fail ts' us is e r closed =
    let one = agree_cons 2 (ident (codes "a") at 0) (symbol comma at 1 ∷ behind_comma) ts' e in
    let two = agree_cons 1 (symbol comma at 1) behind_comma one.0 one.2 in
    no_items two.0 us is (subst (λ z. ReadsItems z us is) (one.1 ∙ ap (λ z. ident (codes "a") at 0 ∷ z) two.1) r) closed

no_tree : HasNoTree 3 mixed_chain
no_tree =
    let none : by.ReadsDeclarations mixed_chain mixed_chain [] = by.ReadsDeclarations.none in
    let long : length mixed_chain ≡ declarations_length none + length mixed_chain = part_length by.ReadsDeclarations (part_declarations none) in
    let zero : declarations_length none + 3 ≡ 3 = omega arith in
    subst (λ k. HasNoTree k mixed_chain) zero (body_fails none zero-le 3 (no_body 3 mixed_chain pattern_fails_at_bar items_fail))

begins : Begins (take 3 mixed_chain)
begins = (
  [],
  record { declarations = []; body = Body.pattern (Pattern.group (more_patterns (Pattern.ref (codes "a") 0) (more_patterns (Pattern.ref (codes "b") 3) no_pattern))) },
  by.top by.ReadsDeclarations.none (by.DerivesBody.pattern (by.chain by.IsConnector.group (one_name (codes "a") 0 (symbol comma at 1 ∷ ident (codes "b") at 3 ∷ []))
      (by.ReadsMembers.last (one_name (codes "b") 3 [])) refl)),
)

pub stray_bar : SyntaxAt mixed_chain 8 5
stray_bar = syntax_at 3 mixed_chain 8 begins no_tree
