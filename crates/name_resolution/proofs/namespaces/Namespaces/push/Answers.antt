use Rattle.std.proofs.Common.{arith, ap, ◌≡◌, ◌∷◌, []}
use Rattle.name_resolution.specs.Places.{places_of}
use Rattle.name_resolution.proofs.Sums.{places_append}
use Rattle.name_resolution.proofs.namespaces.Namespaces.push.Goals as goal

pub invariant_of-self-2 : goal.invariant_of-self-2
invariant_of-self-2 c =
    let e = places_append c.self.inside.files.items (c.in_ok-file.file ∷ []) in
    let l : c.in_ok-file.file.length ≡ c.args.length = ap (λ f. f.length) c.in_ok-file.ensures in
    let v : places_of c.self.inside.files.items ≡ places_of c.args.self.now = ap (λ fs. places_of fs) c.self.view_is in
    rw c.in_ok-push.ensures.items (omega (arith, e, l, v))
