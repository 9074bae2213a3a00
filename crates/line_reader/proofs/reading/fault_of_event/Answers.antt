use Rattle.std.proofs.Common.{◌≡◌, ◌-◌, ◌+◌, ◌∙◌, ap, sym, Some, false, ◌&&◌, map, get_or, arith}
use Rattle.std.proofs.lemmas.List.{get_or_default}
use Rattle.skeleton.specs.Views.{event_of}
use Rattle.line_reader.specs.Faults.{attribute_fault, is_attribute, stray_fault}
use Rattle.line_reader.proofs.Faulted.{pair_fault, stray_first}
use Rattle.line_reader.proofs.reading.fault_of_event.Goals as goal
use Rattle.line_reader.proofs.reading.fault_of_event.Goals.{else-position-gt0-via-then-position-gt0+then-is_attribute+else-is_attribute-2, else-position-gt0-via-then-position-gt0+else-is_attribute, else-position-gt0-via-else-position-gt0}

pub returns-then-is_attribute-2 : goal.returns-then-is_attribute-2
returns-then-is_attribute-2 c =
    let before = pair_fault c.args.events.now (c.args.position - 1) c.args.position c.index-events-position.result c.index-events-position-then-is_attribute.result (omega arith) c.requires c.index-events-position.is c.index-events-position-then-is_attribute.is in
    ap Some (sym (before ∙ (λ i. attribute_fault (sym c.if-is_attribute.ensures i && sym c.if-is_attribute-2.ensures i) (c.args.position + 1))))

pub returns : goal.returns
returns c =
    elim c.else-position-gt0.branch [
      | else-position-gt0-via-then-position-gt0+then-is_attribute+else-is_attribute-2 w ↦
          (let before = pair_fault c.args.events.now (c.args.position - 1) c.args.position w.index-events-position.result w.index-events-position-then-is_attribute.result (omega arith) c.requires w.index-events-position.is w.index-events-position-then-is_attribute.is in
          ap Some (sym (before ∙ (λ i. attribute_fault (sym w.if-is_attribute.ensures i && sym w.if-is_attribute-2.ensures i) (c.args.position + 1)))))
      | else-position-gt0-via-then-position-gt0+else-is_attribute w ↦
          (let after = get_or c.args.events.now c.args.position w.index-events-position.result in
          let before = pair_fault c.args.events.now (c.args.position - 1) c.args.position w.index-events-position.result after (omega arith) c.requires w.index-events-position.is (get_or_default c.args.events.now c.args.position w.index-events-position.result after c.requires) in
          ap Some (sym (before ∙ (λ i. attribute_fault (sym w.if-is_attribute.ensures i && is_attribute (event_of after)) (c.args.position + 1)))))
      | else-position-gt0-via-else-position-gt0 w ↦
          (let none : c.args.position ≡ 0 = omega arith in
          let one : 1 ≡ c.args.position + 1 = omega arith in
          ap Some (sym (ap (λ p. stray_fault false (map event_of c.args.events.now) p 1) none ∙ stray_first (map event_of c.args.events.now) 1 ∙ ap (attribute_fault false) one)))
    ]
