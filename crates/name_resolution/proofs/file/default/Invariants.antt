use Rattle.std.proofs.Common.{◌≡◌, [], take}
use Rattle.std.specs.Prelude.{flat_map}
use Rattle.schema_tree.specs.Trees.{declaration_of}
use Rattle.simple_form_laws.specs.Prefixes.{defaults}
use Rattle.name_resolution.proofs.file.default.Given as goal

abbrev pub invariant-loop-declaration : goal.invariant-loop-declaration
invariant-loop-declaration l = flat_map (λ d. defaults l.inherited (declaration_of d)) (take l.declaration-index l.declarations) ≡ []
