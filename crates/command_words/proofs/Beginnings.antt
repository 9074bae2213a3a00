-- Commands with their words.
use Rattle.std.proofs.Common.{false, ◌≡◌, ℕ, ◌≤◌, ◌<◌, ◌^◌, List, [], ◌∷◌, ◌++◌, refl, sym, ap, ap₂, ◌∙◌, arith, codes}
use Rattle.std.specs.Prelude.{Option, Some, None, IfNone}
use Rattle.std.specs.Str.{bytes_eq}
use Rattle.std.proofs.lemmas.Slice.Eq.{bytes_eq-Decides}
use Rattle.rng_model.specs.Texts.{Text}
use Rattle.command_words.specs.Words.{IsNumber, Command, AreCommand}
use Rattle.command_words.specs.Reading.{PassesNumber, BeginsWith, BeginsWithNone}
use Rattle.command_words.proofs.Numbers.{IsNumber-one}

-- other words
apart : (x y : Text) → bytes_eq x y ≡ false → x ≡ y → ⊥
apart x y other same = let d = (bytes_eq-Decides x y).1 same in cc

pub begins_list : (words ws rest : List Text) (n : ℕ) (file : Text) → PassesNumber 1 64 words (Some n) ws → ws ≡ file ∷ rest → BeginsWith (codes "list" ∷ words) (Command.list n file) rest
begins_list words ws rest n file (w, is, i) e = record { front = codes "list" ∷ w ∷ file ∷ []; is = cc; has_command = AreCommand.list i }

pub begins_resume : (words ws vs rest : List Text) (n : ℕ) (file cursor : Text) → PassesNumber 1 64 words (Some n) ws → ws ≡ file ∷ vs → vs ≡ cursor ∷ rest →
    BeginsWith (codes "resume" ∷ words) (Command.resume n file cursor) rest
begins_resume words ws vs rest n file cursor (w, is, i) e f = record { front = codes "resume" ∷ w ∷ file ∷ cursor ∷ []; is = cc; has_command = AreCommand.resume i }

pub begins_universe : (words rest : List Text) (file : Text) → words ≡ file ∷ rest → BeginsWith (codes "universe" ∷ words) (Command.universe file) rest
begins_universe words rest file e = record { front = codes "universe" ∷ file ∷ []; is = cc; has_command = AreCommand.universe }

pub begins_states : (words ws rest : List Text) (n : ℕ) (file : Text) → PassesNumber 1 64 words (Some n) ws → ws ≡ file ∷ rest → BeginsWith (codes "states" ∷ words) (Command.states n file) rest
begins_states words ws rest n file (w, is, i) e = record { front = codes "states" ∷ w ∷ file ∷ []; is = cc; has_command = AreCommand.states i }

pub begins_seeded : (words ws rest : List Text) (z n : ℕ) → PassesNumber 0 4294967295 words (Some z) ws → PassesNumber 1 64 ws (Some n) rest →
    BeginsWith (codes "seeded" ∷ words) (Command.seeded z n) rest
begins_seeded words ws rest z n (v, is, i) (w, e, j) = record { front = codes "seeded" ∷ v ∷ w ∷ []; is = cc; has_command = AreCommand.seeded i j }

pub not_seeded : {X : Type 0} (words ws rest : List Text) (z : ℕ) (r : Option X) → PassesNumber 0 4294967295 words (Some z) ws → PassesNumber 1 64 ws None rest →
    IfNone r (BeginsWithNone (codes "seeded" ∷ words))
not_seeded words ws rest z (Some x) first bad = tt
not_seeded words ws rest z None (v, is, i) bad = λ command more b. go b.front command more b.is b.has_command
  where
    go : (front : List Text) (command : Command) (more : List Text) → codes "seeded" ∷ words ≡ front ++ more → AreCommand front command → ⊥
    go _ _ more e (AreCommand.seeded {v = u} {w = w} {n = n} j k) = bad w more n (cc) k
    go _ _ more e (AreCommand.list k) = apart (codes "seeded") (codes "list") refl (cc)
    go _ _ more e (AreCommand.resume k) = apart (codes "seeded") (codes "resume") refl (cc)
    go _ _ more e AreCommand.universe = apart (codes "seeded") (codes "universe") refl (cc)
    go _ _ more e (AreCommand.states k) = apart (codes "seeded") (codes "states") refl (cc)

-- by the first word
pub none_by_word : {X : Type 0} (words rest : List Text) (word wanted : Text) (r : Option X) → words ≡ word ∷ rest → word ≡ wanted →
    IfNone r (BeginsWithNone (wanted ∷ rest)) → IfNone r (BeginsWithNone words)
none_by_word words rest word wanted r e f none = rw (e, f) none

-- words begin with one command
one_command : (fs gs rest more : List Text) (c d : Command) → AreCommand fs c → AreCommand gs d → fs ++ rest ≡ gs ++ more → (d ≡ c) × (more ≡ rest)
one_command _ _ rest more _ _ (AreCommand.list {w = aw} {file = af} {n = an} ai) (AreCommand.list {w = bw} {file = bf} {n = bn} bi) e =
    let word : aw ≡ bw = cc in
    let number : bn ≡ an = IsNumber-one 1 64 bn an bw (omega arith) bi (rw word at ai) in
    let file : bf ≡ af = cc in
    (cc, cc)
one_command _ _ rest more _ _ (AreCommand.list i) (AreCommand.resume k) e = absurd (apart (codes "list") (codes "resume") refl (cc))
one_command _ _ rest more _ _ (AreCommand.list i) AreCommand.universe e = absurd (apart (codes "list") (codes "universe") refl (cc))
one_command _ _ rest more _ _ (AreCommand.list i) (AreCommand.states k) e = absurd (apart (codes "list") (codes "states") refl (cc))
one_command _ _ rest more _ _ (AreCommand.list i) (AreCommand.seeded k l) e = absurd (apart (codes "list") (codes "seeded") refl (cc))
one_command _ _ rest more _ _ (AreCommand.resume i) (AreCommand.list k) e = absurd (apart (codes "resume") (codes "list") refl (cc))
one_command _ _ rest more _ _ (AreCommand.resume {w = aw} {file = af} {cursor = ac} {n = an} ai) (AreCommand.resume {w = bw} {file = bf} {cursor = bc} {n = bn} bi) e =
    let word : aw ≡ bw = cc in
    let number : bn ≡ an = IsNumber-one 1 64 bn an bw (omega arith) bi (rw word at ai) in
    let file : bf ≡ af = cc in
    let cursor : bc ≡ ac = cc in
    (cc, cc)
one_command _ _ rest more _ _ (AreCommand.resume i) AreCommand.universe e = absurd (apart (codes "resume") (codes "universe") refl (cc))
one_command _ _ rest more _ _ (AreCommand.resume i) (AreCommand.states k) e = absurd (apart (codes "resume") (codes "states") refl (cc))
one_command _ _ rest more _ _ (AreCommand.resume i) (AreCommand.seeded k l) e = absurd (apart (codes "resume") (codes "seeded") refl (cc))
one_command _ _ rest more _ _ AreCommand.universe (AreCommand.list k) e = absurd (apart (codes "universe") (codes "list") refl (cc))
one_command _ _ rest more _ _ AreCommand.universe (AreCommand.resume k) e = absurd (apart (codes "universe") (codes "resume") refl (cc))
one_command _ _ rest more _ _ (AreCommand.universe {file = af}) (AreCommand.universe {file = bf}) e =
    let file : bf ≡ af = cc in
    (cc, cc)
one_command _ _ rest more _ _ AreCommand.universe (AreCommand.states k) e = absurd (apart (codes "universe") (codes "states") refl (cc))
one_command _ _ rest more _ _ AreCommand.universe (AreCommand.seeded k l) e = absurd (apart (codes "universe") (codes "seeded") refl (cc))
one_command _ _ rest more _ _ (AreCommand.states i) (AreCommand.list k) e = absurd (apart (codes "states") (codes "list") refl (cc))
one_command _ _ rest more _ _ (AreCommand.states i) (AreCommand.resume k) e = absurd (apart (codes "states") (codes "resume") refl (cc))
one_command _ _ rest more _ _ (AreCommand.states i) AreCommand.universe e = absurd (apart (codes "states") (codes "universe") refl (cc))
one_command _ _ rest more _ _ (AreCommand.states {w = aw} {file = af} {n = an} ai) (AreCommand.states {w = bw} {file = bf} {n = bn} bi) e =
    let word : aw ≡ bw = cc in
    let number : bn ≡ an = IsNumber-one 1 64 bn an bw (omega arith) bi (rw word at ai) in
    let file : bf ≡ af = cc in
    (cc, cc)
one_command _ _ rest more _ _ (AreCommand.states i) (AreCommand.seeded k l) e = absurd (apart (codes "states") (codes "seeded") refl (cc))
one_command _ _ rest more _ _ (AreCommand.seeded j i) (AreCommand.list k) e = absurd (apart (codes "seeded") (codes "list") refl (cc))
one_command _ _ rest more _ _ (AreCommand.seeded j i) (AreCommand.resume k) e = absurd (apart (codes "seeded") (codes "resume") refl (cc))
one_command _ _ rest more _ _ (AreCommand.seeded j i) AreCommand.universe e = absurd (apart (codes "seeded") (codes "universe") refl (cc))
one_command _ _ rest more _ _ (AreCommand.seeded j i) (AreCommand.states k) e = absurd (apart (codes "seeded") (codes "states") refl (cc))
one_command _ _ rest more _ _ (AreCommand.seeded {v = av} {w = aw} {z = az} {n = an} aj ai) (AreCommand.seeded {v = bv} {w = bw} {z = bz} {n = bn} bj bi) e =
    let word : aw ≡ bw = cc in
    let number : bn ≡ an = IsNumber-one 1 64 bn an bw (omega arith) bi (rw word at ai) in
    let other : av ≡ bv = cc in
    let seed : bz ≡ az = IsNumber-one 0 4294967295 bz az bv (omega arith) bj (rw other at aj) in
    (cc, cc)

pub begins_once : (words rest more : List Text) (c d : Command) → BeginsWith words c rest → BeginsWith words d more → (d ≡ c) × (more ≡ rest)
begins_once words rest more c d b e = one_command b.front e.front rest more c d b.has_command e.has_command (sym b.is ∙ e.is)
