use Rattle.std.proofs.Common.{◌≡◌, ◌≤◌, ◌-◌, map, length, ap, ◌∙◌, ◌++◌, sym, arith, Some}
use Rattle.std.proofs.lemmas.List.{length-map}
use Rattle.std.specs.Prelude.{flat_map}
use Rattle.name_classes.specs.Parts.{parts_of}
use Rattle.name_classes.specs.Views.{class_of}
use Rattle.name_classes.proofs.Making.{all_nested}
use Rattle.name_classes.proofs.class.NameClass.choice_of.Goals as goal

pub of_parts-requires : goal.of_parts-requires
of_parts-requires c =
    (all_nested (map class_of c.args.members.items) c.in-Some.choices _
    (omega (arith, c.in-Some.ensures, c.len.ensures, length-map c.args.members.items class_of))
    (omega (arith, c.in-Some.ensures, c.len.ensures, length-map c.args.members.items class_of))
    (c.in_ok-append_members.ensures ∙ ap (λ xs. xs ++ flat_map parts_of (map class_of c.args.members.items)) c.in_ok-parts.ensures)).0

pub returns : goal.returns
returns c =
    let (a, e) =
    all_nested (map class_of c.args.members.items) c.in-Some.choices c.append_members.new.parts.items
    (omega (arith, c.in-Some.ensures, c.len.ensures, length-map c.args.members.items class_of))
    (omega (arith, c.in-Some.ensures, c.len.ensures, length-map c.args.members.items class_of))
    (c.in_ok-append_members.ensures ∙ ap (λ xs. xs ++ flat_map parts_of (map class_of c.args.members.items)) c.in_ok-parts.ensures) in
    ap Some (c.of_parts.ensures a.class a.is) ∙ e
