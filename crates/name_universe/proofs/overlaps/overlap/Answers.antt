-- The test decides the overlap, since what stands in the classes are names and texts.
use Rattle.std.proofs.Common.{sym, ◌∙◌}
use Rattle.name_classes.specs.Views.{class_of}
use Rattle.universe_laws.proofs.OverlapLaw.{overlap-exact}
use Rattle.name_universe.proofs.Named.{named}
use Rattle.name_universe.proofs.overlaps.overlap.Goals as goal

pub returns : goal.returns
returns c =
    let same = c.pass_test.ensures in
    let law = overlap-exact (class_of c.args.a.now) (class_of c.args.b.now) (named _ c.is_named.ensures) (named _ c.is_named-2.ensures) in
    ((λ h. law.0 (sym same ∙ h)), (λ o. same ∙ law.1 o))
