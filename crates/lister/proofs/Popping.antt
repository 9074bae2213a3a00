-- A path in its two arrays, and what is left of it.
use Rattle.std.proofs.Common.{◌≡◌, ℕ, suc, ◌<◌, ◌≤◌, List, [], ◌∷◌, ◌++◌, length, map, take, drop, get_or, refl, sym, ◌∙◌, ap, arith, length-append}
use Rattle.std.proofs.Math.Seq.{drop-cons}
use Rattle.std.proofs.lemmas.List.{map-append, take-append-drop, length-take-le, length-map}
use Rattle.skeleton.specs.declared.code.Code as coded
use Rattle.skeleton.specs.Views.{code_of}
use Rattle.lister.specs.declared.path.Step.{Step}
use Rattle.lister.specs.Paths.{Path, IsBack}

abbrev pub path_of : ℕ → List coded.Code → List Step → Path
path_of room codes steps = record { room = room; codes = map code_of codes; states = map (λ s. s.id.0) steps }

pub pop_is : (room place : ℕ) (codes left : List coded.Code) (steps less : List Step) (step : Step) (code : coded.Code) →
    steps ≡ less ++ (step ∷ []) → place ≡ length less → length steps ≤ length codes → code ≡ get_or codes place code → left ≡ take place codes →
    IsBack (path_of room codes steps) (path_of room left less) step.id.0 (code_of code)
pop_is room place codes left steps less step code e p l at cut =
    let n : place < length codes = omega (arith, ap length e, length-append less (step ∷ [])) in
    let h : place ≤ length codes = omega arith in
    let whole : codes ≡ left ++ (code ∷ drop (suc place) codes) =
    sym (take-append-drop place codes) ∙ ap (λ x. x ++ drop place codes) (sym cut) ∙ ap (λ x. left ++ x) (drop-cons codes place code n ∙ ap (λ x. x ∷ drop (suc place) codes) (sym at)) in
    record {
      room = refl;
      states = ap (map (λ s. s.id.0)) e ∙ map-append (λ s. s.id.0) less (step ∷ []);
      rest = map code_of (drop (suc place) codes);
      codes = ap (map code_of) whole ∙ map-append code_of left (code ∷ drop (suc place) codes);
      level = length-map left code_of ∙ ap length cut ∙ length-take-le place codes h ∙ p ∙ sym (length-map less (λ s. s.id.0));
    }
