use Rattle.std.proofs.Common.{◌≡◌, refl, sym, subst, length}
use Rattle.std.specs.Prelude.{slice_get, Some}
use Rattle.schema_tree.specs.Files.{file_of}
use Rattle.schema_tree.proofs.Places.{only_one}
use Rattle.schema_tree.proofs.files.FileList.into_declarations.Goals as goal

pub returns : goal.returns
returns c =
    (file_of c.in-Some.entry, subst (λ z. slice_get z 0 ≡ Some (file_of c.in-Some.entry)) c.self.view_is (only_one _ _ _ c.in-Some.ensures.items (subst (λ z. length z ≡ 1) (sym c.self.view_is) c.requires)), refl)
