use Rattle.std.proofs.Common.{◌≡◌, ap, rules, List, ℕ, ◌∙◌, Option, option_map, subst, sym}
use Rattle.std.specs.Prelude.{IfOk}
use denote.Param.Weighed.{at_most}
use Rattle.rng_model.specs.Classes as simple
use Rattle.name_classes.specs.Views.{class_of as class_value}
use Rattle.schema_tree.specs.Trees.{class_of as tree_class}
use Rattle.simple_form_laws.specs.ClassForms.{named, namespace_except_of}
use Rattle.simple_form_laws.specs.Prefixes.{namespace_of}
use Rattle.name_resolution.specs.Owners.{use_of}
use Rattle.name_resolution.proofs.Folds.{class_prefixed, namespace_is, namespace_alone_is}
use Rattle.name_resolution.proofs.Simple.{made_more, member_none, choice_all, named_at}
use Rattle.name_resolution.proofs.namespaces.Namespaces.+class.Goals as goal

pub class-returns-in-Prefixed : goal.class-returns-in-Prefixed
class-returns-in-Prefixed t c =
    let e = ap tree_class c.in-Prefixed.is ∙ class_prefixed c.in-Prefixed.prefix c.in-Prefixed.local c.in-Prefixed.at in
    let P : Option (List ℕ) → Type 0 = λ o. IfOk c.prefixed.result (λ k. option_map class_value k ≡ option_map (λ u. simple.one (named u c.in-Prefixed.local)) o) in
    rw e (subst P (c.namespace.ensures ∙ ap (λ p. namespace_of c.args.self.now p c.in-Prefixed.at) c.as_str.ensures) c.prefixed.ensures)

pub class-returns-in_ok-except-in-Some-except : goal.class-returns-in_ok-except-in-Some-except
class-returns-in_ok-except-in-Some-except t c =
    let e = namespace_is c.args.class.now c.in-Namespace.prefix c.in-Namespace.except c.in-Some-except.except c.get-in-Some-except.result.now c.in-Namespace.at c.in-Namespace.is c.in-Some-except.is c.get-in-Some-except.ensures in
    let P : Option (List ℕ) → Type 0 = λ o. IfOk c.namespace_except.result (λ k. option_map class_value k ≡ namespace_except_of o (option_map class_value c.in_ok-except-in-Some-except.except)) in
    let Q : Option simple.Class → Type 0 = λ o. IfOk c.namespace_except.result (λ k. option_map class_value k ≡ namespace_except_of (namespace_of c.args.self.now c.in-Namespace.prefix c.in-Namespace.at) o) in
    rw e (subst Q c.in_ok-except-in-Some-except.ensures (subst P (c.namespace-namespace.ensures ∙ ap (λ p. namespace_of c.args.self.now p c.in-Namespace.at) c.as_str-in-Namespace.ensures) c.namespace_except.ensures))

pub class-returns-in-None-except : goal.class-returns-in-None-except
class-returns-in-None-except t c =
    let e = namespace_alone_is c.args.class.now c.in-Namespace.prefix c.in-Namespace.except c.in-Namespace.at c.in-Namespace.is c.in-None-except.is in
    let P : Option (List ℕ) → Type 0 = λ o. IfOk c.all_names.result (λ k. option_map class_value k ≡ option_map simple.namespace o) in
    rw e (subst P (c.namespace-namespace.ensures ∙ ap (λ p. namespace_of c.args.self.now p c.in-Namespace.at) c.as_str-in-Namespace.ensures) c.all_names.ensures)

pub choice-class-requires : goal.choice-class-requires
choice-class-requires t c = (
  search (rules, at_most, c.member-item.is),
  named_at tree_class c.args.members.now c.loop-member.member-index c.member-item.result c.loop-member-test.true c.member-item.is c.requires,
)

pub choice-loop-member-preserved : goal.choice-loop-member-preserved
choice-loop-member-preserved t c =
    made_more c.args.self.now (use_of c.args.owner) tree_class c.args.members.now c.loop-member.member-index c.member-item.result c.loop-member.made.items _ c.in-Some.next
    c.loop-member-test.true c.member-item.is c.loop-member.invariant (sym (ap (option_map class_value) c.in-Some.is) ∙ c.in_ok-next.ensures) c.in_ok-push.ensures.items

pub choice-returns : goal.choice-returns
choice-returns t c =
    subst (λ (o : Option simple.Class). IfOk c.choice_of.result (λ k. option_map class_value k ≡ o))
    (choice_all c.args.self.now (use_of c.args.owner) tree_class c.args.members.now c.loop-member.member-index c.loop-member.made.items c.loop-member-test.false c.loop-member.invariant) c.choice_of.ensures

pub choice-returns-in_default : goal.choice-returns-in_default
choice-returns-in_default t c =
    member_none c.args.self.now (use_of c.args.owner) tree_class c.args.members.now c.loop-member.member-index c.member-item.result
    c.loop-member-test.true c.member-item.is (sym (ap (option_map class_value) c.in_default.is) ∙ c.in_ok-next.ensures)
