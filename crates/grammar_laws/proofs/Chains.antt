-- The failure of a chain of particles: of its first particle, of a later one, and where another sign stands.
use Rattle.std.proofs.Common.{◌≡◌, ℕ, suc, ◌≤◌, ◌+◌, List, [], ◌∷◌, length, sym, subst, arith}
use Rattle.token_laws.specs.Tokens.{Symbol, symbol, Placed, ◌at◌}
use Rattle.grammar_laws.specs.Trees.{Pattern, Patterns}
use Rattle.grammar_laws.specs.Grammar.{IsConnector, ReadsPattern, ReadsMembers, ReadsParticle}
use Rattle.grammar_laws.specs.Grammar as by
use Rattle.grammar_laws.specs.Prefixes.{AgreeThrough, FailsAt}
use Rattle.grammar_laws.proofs.Ends.{rank, up, rest_same}
use Rattle.grammar_laws.proofs.Patterns.{End, symbol_same}
use Rattle.grammar_laws.proofs.Items.{connector_end}
use Rattle.grammar_laws.proofs.Trees.{unique_particle}
use Rattle.grammar_laws.proofs.Fronts.{part_particle}
use Rattle.grammar_laws.proofs.Prefixes.{stops_alike, same_end}

abbrev pub particle_length : {ts us : List Placed} {p : Pattern} → ReadsParticle ts us p → ℕ
particle_length r = length ((part_particle r).1.0)

-- another particle in a list that agrees ends at the same place
particle_behind : {ts us : List Placed} {p : Pattern} (r : ReadsParticle ts us p) → End 1 us → (j : ℕ) (ts' vs : List Placed) (q : Pattern) →
    AgreeThrough (particle_length r + j) ts ts' → ReadsParticle ts' vs q → End 1 vs → AgreeThrough j us vs
particle_behind {us = us} r end j = same_end ReadsParticle (End 1) (part_particle r) j (λ vs e. stops_alike rank 1 j us vs e end) (λ ts vs r s. unique_particle r s)

-- the first particle fails
pub pattern_fails : (k : ℕ) (ts : List Placed) → FailsAt ReadsParticle (End 1) k ts → FailsAt ReadsPattern (End 0) k ts
pattern_fails k ts fails ts' us p e (by.ReadsPattern.single {p = q} r) end = fails ts' us q e r (up rank 0 us end)
pattern_fails k ts fails ts' us p e (by.chain {s = s} {a = a} {us = vs} {p = q} i r rs made) end = fails ts' (symbol s at a ∷ vs) q e r (connector_end a vs i)

pub members_fail : {s : Symbol} {join : Patterns → Pattern} (k : ℕ) (ts : List Placed) → IsConnector s join → FailsAt ReadsParticle (End 1) k ts → FailsAt (ReadsMembers s) (End 0) k ts
members_fail k ts i fails ts' us ps e (by.ReadsMembers.last {p = q} r) end = fails ts' us q e r (up rank 0 us end)
members_fail k ts i fails ts' us ps e (by.ReadsMembers.more {s = s} {a = a} {us = vs} {p = q} r rs) end = fails ts' (symbol s at a ∷ vs) q e r (connector_end a vs i)

-- a particle is read up to a sign, and what stands behind the sign fails
not_end : (j : ℕ) (s : Symbol) (a : ℕ) (us vs : List Placed) {join : Patterns → Pattern} → IsConnector s join → AgreeThrough j (symbol s at a ∷ us) vs → End 0 vs → ⊥
not_end j s a us vs i e end = signed i (stops_alike rank 0 j vs (symbol s at a ∷ us) (sym e) end)
  where
    signed : {t : Symbol} {join : Patterns → Pattern} → IsConnector t join → rank (symbol t) ≤ 0 → ⊥
    signed by.IsConnector.group h = omega arith
    signed by.IsConnector.choice h = omega arith
    signed by.IsConnector.interleave h = omega arith

pub next_member_fails : {s : Symbol} {join : Patterns → Pattern} {a : ℕ} {ts us : List Placed} {p : Pattern} (i : IsConnector s join) (r : ReadsParticle ts (symbol s at a ∷ us) p) (k : ℕ) →
    FailsAt (ReadsMembers s) (End 0) k us → FailsAt (ReadsMembers s) (End 0) (particle_length r + suc k) ts
next_member_fails {s = s} {a = a} {us = us} i r k fails ts' vs ps e (by.ReadsMembers.last {p = q} r') end =
    not_end (suc k) s a us vs i (particle_behind r (connector_end a us i) (suc k) ts' vs q e r' (up rank 0 vs end)) end
next_member_fails {s = s} {a = a} {us = us} i r k fails ts' vs ps e (by.ReadsMembers.more {a = b} {us = ws} {p = q} {ps = qs} r' rs) end =
    fails ws vs qs (rest_same (particle_behind r (connector_end a us i) (suc k) ts' (symbol s at b ∷ ws) q e r' (connector_end b ws i))) rs end

pub chain_fails : {s : Symbol} {join : Patterns → Pattern} {a : ℕ} {ts us : List Placed} {p : Pattern} (i : IsConnector s join) (r : ReadsParticle ts (symbol s at a ∷ us) p) (k : ℕ) →
    FailsAt (ReadsMembers s) (End 0) k us → FailsAt ReadsPattern (End 0) (particle_length r + suc k) ts
chain_fails {s = s} {a = a} {us = us} i r k fails ts' vs p e (by.ReadsPattern.single {p = q} r') end =
    not_end (suc k) s a us vs i (particle_behind r (connector_end a us i) (suc k) ts' vs q e r' (up rank 0 vs end)) end
chain_fails {s = s} {a = a} {us = us} i r k fails ts' vs p e (by.chain {s = t} {a = b} {us = ws} {p = q} {ps = qs} j r' rs made) end =
    let same = particle_behind r (connector_end a us i) (suc k) ts' (symbol t at b ∷ ws) q e r' (connector_end b ws j) in
    let sign : t ≡ s = symbol_same same in
    fails ws vs qs (rest_same same) (subst (λ z. ReadsMembers z ws vs qs) sign rs) end

-- a particle is read up to a sign of another chain
pub other_sign : {s t : Symbol} {join join' : Patterns → Pattern} {a : ℕ} {ts us : List Placed} {p : Pattern} (i : IsConnector s join) (j : IsConnector t join') → (s ≡ t → ⊥) →
    (r : ReadsParticle ts (symbol t at a ∷ us) p) → FailsAt (ReadsMembers s) (End 0) (particle_length r + 0) ts
other_sign {s = s} {t = t} {a = a} {us = us} i j differs r ts' vs ps e (by.ReadsMembers.last {p = q} r') end =
    not_end 0 t a us vs j (particle_behind r (connector_end a us j) 0 ts' vs q e r' (up rank 0 vs end)) end
other_sign {s = s} {t = t} {a = a} {us = us} i j differs r ts' vs ps e (by.ReadsMembers.more {a = b} {us = ws} {p = q} r' rs) end =
    let same : (symbol s at b ∷ []) ≡ (symbol t at a ∷ []) = particle_behind r (connector_end a us j) 0 ts' (symbol s at b ∷ ws) q e r' (connector_end b ws i) in
    differs (symbol_same same)

-- The loop: n tokens have been read, and a failure behind them is one of the whole chain.
abbrev pub LeadFails : Symbol → List Placed → List Placed → ℕ → Type 0
LeadFails s ts us n = (k : ℕ) → FailsAt (ReadsMembers s) (End 0) k us → FailsAt (ReadsMembers s) (End 0) (n + k) ts

pub lead_fails_step : (ts : List Placed) (n : ℕ) {s : Symbol} {join : Patterns → Pattern} {a : ℕ} {us vs : List Placed} {p : Pattern} (i : IsConnector s join) (r : ReadsParticle us (symbol s at a ∷ vs) p) →
    LeadFails s ts us n → LeadFails s ts vs (n + (particle_length r + 1))
lead_fails_step ts n {s = s} i r lead k fails =
    let place : n + (particle_length r + suc k) ≡ n + (particle_length r + 1) + k = omega arith in
    subst (λ z. FailsAt (ReadsMembers s) (End 0) z ts) place (lead (particle_length r + suc k) (next_member_fails i r k fails))
