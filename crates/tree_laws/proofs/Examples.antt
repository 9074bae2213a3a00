-- Bodies that are not whole.
use Rattle.std.proofs.Common.{◌≡◌, zero, [], ◌∷◌, refl, sym, ap, ◌∙◌, arith, chars, true}
use Rattle.std.specs.Prelude.{Contains, codes}
use Rattle.std.proofs.lemmas.Str.{chars-encodes}
use Rattle.rng_model.specs.Names.{is_ncname, is_name_start, are_name_chars}
use Rattle.token_laws.proofs.Runs.{clash}
use Rattle.tree_laws.specs.WholeBodies.{references_of_body, IsWhole}
use Rattle.tree_laws.specs.Examples.{digit_name, shared_place}

digit : is_ncname (codes "1") ≡ true → ⊥
unfolding is_ncname is_name_start lib.Utf8.encode
digit e =
    let same : chars (49 ∷ []) ≡ 49 ∷ [] = chars-encodes (49 ∷ []) refl in
    clash (sym (ap are_name_chars same) ∙ e) refl

pub digit_no_name : IsWhole 9 digit_name → ⊥
digit_no_name w = digit w.names.1.1

pub one_place : IsWhole 9 shared_place → ⊥
one_place w =
    let first : Contains (references_of_body shared_place) 0 = (zero, omega arith, refl) in
    let second : Contains (references_of_body shared_place) 0 = (1, omega arith, refl) in
    omega (arith, w.references 0 first second)
