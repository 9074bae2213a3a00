use Rattle.std.proofs.Common.{◌≡◌, refl, ap, sym, arith, ◌∙◌, map}
use Rattle.std.specs.Prelude.{flat_map}
use Rattle.grammar_laws.specs.Trees as tree
use Rattle.schema_tree.specs.Trees.{class_of}
use Rattle.simple_form_laws.specs.Faults.{unbound_in_class, xmlns_in_class}
use Rattle.simple_form_laws.specs.ClassForms.{class_parts}
use Rattle.name_resolution.specs.ClassPlaces.{refused_places, xmlns_places}
use Rattle.name_resolution.specs.Owners.{use_of}
use Rattle.name_resolution.proofs.Folds.{class_choice, class_prefixed, any_is, namespace_is, namespace_alone_is}
use Rattle.name_resolution.proofs.ClassParts.{least_flat, least_refused, least_xmlns, alone, alone_attribute, before, before_attribute, any_walked, namespace_walked, walked_more, walked_all}
use Rattle.name_resolution.proofs.namespaces.Namespaces.+walk.Goals as goal

pub loop-member-preserved : goal.loop-member-preserved
loop-member-preserved t c = (
  walked_more class_of (flat_map (unbound_in_class c.args.self.now)) c.as_slice-member-items.result.now c.loop-member.member-index c.member-item.result _ _ _ (omega arith) c.member-item.is
      (least_flat (unbound_in_class c.args.self.now)) c.loop-member.invariant.0 c.walk-found.ensures.unbound,
  walked_more class_of (refused_places c.args.around) c.as_slice-member-items.result.now c.loop-member.member-index c.member-item.result _ _ _ (omega arith) c.member-item.is
      (least_refused c.args.around) c.loop-member.invariant.1 c.walk-found.ensures.constraint,
  walked_more class_of (xmlns_places c.args.self.now (use_of c.args.owner)) c.as_slice-member-items.result.now c.loop-member.member-index c.member-item.result _ _ _ (omega arith) c.member-item.is
      (least_xmlns c.args.self.now (use_of c.args.owner)) c.loop-member.invariant.2 c.walk-found.ensures.xmlns,
)

pub returns-after-loop-member-clause-unbound : goal.returns-after-loop-member-clause-unbound
returns-after-loop-member-clause-unbound t c =
    let e : class_of c.args.class.now ≡ tree.choice_class (tree.classes_of (map class_of c.as_slice-member-items.result.now)) =
    ap class_of c.in-Choice.is ∙ class_choice c.in-Choice.members ∙ ap (λ cs. tree.choice_class (tree.classes_of (map class_of cs))) (sym c.as_slice-member-items.ensures) in
    rw e (walked_all class_of (flat_map (unbound_in_class c.args.self.now)) c.as_slice-member-items.result.now c.loop-member.member-index _ _ (omega arith) c.loop-member.invariant.0)

pub returns-after-loop-member-clause-constraint : goal.returns-after-loop-member-clause-constraint
returns-after-loop-member-clause-constraint t c =
    let e : class_of c.args.class.now ≡ tree.choice_class (tree.classes_of (map class_of c.as_slice-member-items.result.now)) =
    ap class_of c.in-Choice.is ∙ class_choice c.in-Choice.members ∙ ap (λ cs. tree.choice_class (tree.classes_of (map class_of cs))) (sym c.as_slice-member-items.ensures) in
    rw e (walked_all class_of (refused_places c.args.around) c.as_slice-member-items.result.now c.loop-member.member-index _ _ (omega arith) c.loop-member.invariant.1)

pub returns-after-loop-member-clause-xmlns : goal.returns-after-loop-member-clause-xmlns
returns-after-loop-member-clause-xmlns t c =
    let e : class_of c.args.class.now ≡ tree.choice_class (tree.classes_of (map class_of c.as_slice-member-items.result.now)) =
    ap class_of c.in-Choice.is ∙ class_choice c.in-Choice.members ∙ ap (λ cs. tree.choice_class (tree.classes_of (map class_of cs))) (sym c.as_slice-member-items.ensures) in
    rw e (walked_all class_of (xmlns_places c.args.self.now (use_of c.args.owner)) c.as_slice-member-items.result.now c.loop-member.member-index _ _ (omega arith) c.loop-member.invariant.2)

pub returns-in-Prefixed-clause-unbound : goal.returns-in-Prefixed-clause-unbound
returns-in-Prefixed-clause-unbound t c =
    let e = ap class_of c.in-Prefixed.is ∙ class_prefixed c.in-Prefixed.prefix c.in-Prefixed.local c.in-Prefixed.at in
    rw e (alone c.args.found.unbound_prefix _ _ (unbound_in_class c.args.self.now (tree.prefixed c.in-Prefixed.prefix c.in-Prefixed.local c.in-Prefixed.at)) refl c.with_prefixed_name.ensures.unbound)

pub returns-in-Prefixed-clause-xmlns : goal.returns-in-Prefixed-clause-xmlns
returns-in-Prefixed-clause-xmlns t c =
    let e = ap class_of c.in-Prefixed.is ∙ class_prefixed c.in-Prefixed.prefix c.in-Prefixed.local c.in-Prefixed.at in
    rw e (alone_attribute (use_of c.args.owner) c.args.found.xmlns_attribute _ _ (xmlns_in_class c.args.self.now (tree.prefixed c.in-Prefixed.prefix c.in-Prefixed.local c.in-Prefixed.at)) refl c.with_prefixed_name.ensures.xmlns)

pub returns-in-Some-clause-constraint : goal.returns-in-Some-clause-constraint
returns-in-Some-clause-constraint t c =
    let e = any_is c.args.class.now c.in-Any.except c.in-Some.except c.get.result.now c.in-Any.at c.in-Any.is c.in-Some.is c.get.ensures in
    rw e (any_walked c.args.around c.within_any.result (class_of c.get.result.now) c.in-Any.at c.refuses_any.result c.args.found.constraint c.with_wildcard-found.result.constraint _
    c.refuses_any.ensures c.within_any.ensures (ap (λ f. f.constraint) c.with_wildcard-found.ensures) c.walk.ensures.constraint)

pub returns-in-Some-except-clause-unbound : goal.returns-in-Some-except-clause-unbound
returns-in-Some-except-clause-unbound t c =
    let e = namespace_is c.args.class.now c.in-Namespace.prefix c.in-Namespace.except c.in-Some-except.except c.get-in-Some-except.result.now c.in-Namespace.at c.in-Namespace.is c.in-Some-except.is c.get-in-Some-except.ensures in
    rw e (before c.args.found.unbound_prefix c.with_wildcard-found-in-Namespace.result.unbound_prefix c.with_namespace-found.result.unbound_prefix _
    (unbound_in_class c.args.self.now (tree.namespace_except c.in-Namespace.prefix (class_of c.get-in-Some-except.result.now) c.in-Namespace.at))
    (flat_map (unbound_in_class c.args.self.now) (class_parts (class_of c.get-in-Some-except.result.now)))
    (ap (λ f. f.unbound_prefix) c.with_wildcard-found-in-Namespace.ensures) c.with_namespace-found.ensures.unbound c.walk-in-Some-except.ensures.unbound)

pub returns-in-Some-except-clause-xmlns : goal.returns-in-Some-except-clause-xmlns
returns-in-Some-except-clause-xmlns t c =
    let e = namespace_is c.args.class.now c.in-Namespace.prefix c.in-Namespace.except c.in-Some-except.except c.get-in-Some-except.result.now c.in-Namespace.at c.in-Namespace.is c.in-Some-except.is c.get-in-Some-except.ensures in
    rw e (before_attribute (use_of c.args.owner) c.args.found.xmlns_attribute c.with_wildcard-found-in-Namespace.result.xmlns_attribute c.with_namespace-found.result.xmlns_attribute _
    (xmlns_in_class c.args.self.now (tree.namespace_except c.in-Namespace.prefix (class_of c.get-in-Some-except.result.now) c.in-Namespace.at))
    (flat_map (xmlns_in_class c.args.self.now) (class_parts (class_of c.get-in-Some-except.result.now)))
    (ap (λ f. f.xmlns_attribute) c.with_wildcard-found-in-Namespace.ensures) c.with_namespace-found.ensures.xmlns c.walk-in-Some-except.ensures.xmlns)

pub returns-in-Some-except-clause-constraint : goal.returns-in-Some-except-clause-constraint
returns-in-Some-except-clause-constraint t c =
    let e = namespace_is c.args.class.now c.in-Namespace.prefix c.in-Namespace.except c.in-Some-except.except c.get-in-Some-except.result.now c.in-Namespace.at c.in-Namespace.is c.in-Some-except.is c.get-in-Some-except.ensures in
    rw e (namespace_walked c.args.around c.in-Namespace.prefix (class_of c.get-in-Some-except.result.now) c.in-Namespace.at c.refuses_namespace.result c.args.found.constraint
    c.with_wildcard-found-in-Namespace.result.constraint c.with_namespace-found.result.constraint _
    c.refuses_namespace.ensures (ap (λ f. f.constraint) c.with_wildcard-found-in-Namespace.ensures) c.with_namespace-found.ensures.constraint c.walk-in-Some-except.ensures.constraint)

pub returns-in-None-except-clause-unbound : goal.returns-in-None-except-clause-unbound
returns-in-None-except-clause-unbound t c =
    let e = namespace_alone_is c.args.class.now c.in-Namespace.prefix c.in-Namespace.except c.in-Namespace.at c.in-Namespace.is c.in-None-except.is in
    rw e (alone c.args.found.unbound_prefix c.with_wildcard-found-in-Namespace.result.unbound_prefix _ (unbound_in_class c.args.self.now (tree.namespace c.in-Namespace.prefix c.in-Namespace.at))
    (ap (λ f. f.unbound_prefix) c.with_wildcard-found-in-Namespace.ensures) c.with_namespace-found.ensures.unbound)

pub returns-in-None-except-clause-xmlns : goal.returns-in-None-except-clause-xmlns
returns-in-None-except-clause-xmlns t c =
    let e = namespace_alone_is c.args.class.now c.in-Namespace.prefix c.in-Namespace.except c.in-Namespace.at c.in-Namespace.is c.in-None-except.is in
    rw e (alone_attribute (use_of c.args.owner) c.args.found.xmlns_attribute c.with_wildcard-found-in-Namespace.result.xmlns_attribute _ (xmlns_in_class c.args.self.now (tree.namespace c.in-Namespace.prefix c.in-Namespace.at))
    (ap (λ f. f.xmlns_attribute) c.with_wildcard-found-in-Namespace.ensures) c.with_namespace-found.ensures.xmlns)
