use Rattle.std.proofs.Common.{◌≡◌, ◌<◌, ◌≤◌, List, Bool, OnOk, length, set, sym, ◌∙◌, ap, subst, arith}
use Rattle.transitions.specs.Bits.{list_of}
use Rattle.transitions.specs.Marked.{AreMarks, AreRight, HasMarks, IsClosed, KeepsMarks, Stay, end_of}
use Rattle.transitions.proofs.Finishing.{ready_stays, right_set}
use Rattle.transitions.proofs.Keeping.{has_set, keeps_set, stay_set}
use Rattle.transitions.proofs.Lists.{on_ok_map}
use Rattle.transitions.proofs.Settling.{list_is, list_right}
use Rattle.feasibility.proofs.explorer.Explorer.mark_list.Goals as goal

pub block-requires : goal.block-requires
block-requires g c =
    let r = c.requires.1.1.1.1.1.0 in
    (c.requires.0, (c.requires.1.0, (c.requires.1.1.0, (ready_stays g.of c.args.rows.now c.args.rest c.args.count c.args.marks.now c.begin.new.self c.begin.ensures.stay r, (let h = c.if-start-count.false in omega (arith, h), c.requires.1.1.1.1.0)))))

pub settle-requires : goal.settle-requires
settle-requires g c =
    let e = c.in_ok-block.ensures in (
      c.requires.1.1.0,
      (
        subst (λ n. IsClosed g.of c.args.frees.now n) (sym e.end) c.requires.1.1.1.0,
        (
          e.block,
          (
            subst (λ r. r < length c.begin.new.self) (sym e.rest) c.in_ok-begin.ensures.listed,
            (
              subst (λ r. AreMarks g.of r (list_of c.begin.new.self r)) (sym e.rest)
                  (list_right g.of c.begin.new.self c.args.rest (c.begin.ensures.right g.of c.requires.1.1.1.1.1.1.0) c.in_ok-begin.ensures.listed),
              e.start ∙ c.len-start.ensures ∙ ap (λ r. length (list_of c.begin.new.self r)) (sym e.rest),
            ),
          ),
        ),
      ),
    )

pub returns-clause-right : goal.returns-clause-right
returns-clause-right g c =
    let w = subst (λ r. c.settle.new.self ≡ set c.begin.new.self r (list_of c.settle.new.self r)) c.in_ok-block.ensures.rest c.settle.ensures.alone in
    subst (λ (ms : List (List Bool)). AreRight g.of ms) (sym w)
    (right_set g.of c.begin.new.self c.args.rest (list_of c.settle.new.self c.args.rest) (c.begin.ensures.right g.of c.requires.1.1.1.1.1.1.0)
    (subst (λ r. AreMarks g.of r (list_of c.settle.new.self r)) c.in_ok-block.ensures.rest c.settle.ensures.right))

pub returns-clause-stay : goal.returns-clause-stay
returns-clause-stay g c =
    let w = subst (λ r. c.settle.new.self ≡ set c.begin.new.self r (list_of c.settle.new.self r)) c.in_ok-block.ensures.rest c.settle.ensures.alone in
    subst (λ (ms : List (List Bool)). Stay c.args.rest c.args.marks.now ms) (sym w)
    (stay_set c.args.marks.now c.begin.new.self c.args.rest (list_of c.settle.new.self c.args.rest) c.begin.ensures.stay)

pub returns-clause-kept : goal.returns-clause-kept
returns-clause-kept g c =
    let w = subst (λ r. c.settle.new.self ≡ set c.begin.new.self r (list_of c.settle.new.self r)) c.in_ok-block.ensures.rest c.settle.ensures.alone in
    let l = subst (λ r. length (list_of c.begin.new.self r) ≤ length (list_of c.settle.new.self r)) c.in_ok-block.ensures.rest c.settle.ensures.longer in
    subst (λ (ms : List (List Bool)). KeepsMarks c.args.marks.now ms) (sym w)
    (keeps_set c.args.marks.now c.begin.new.self c.args.rest (list_of c.settle.new.self c.args.rest) c.begin.ensures.kept
    (λ other h. subst (λ (ys : List Bool). length ys ≤ length (list_of c.settle.new.self c.args.rest)) (list_is c.begin.new.self c.args.rest other h) l))

pub returns-clause-all : goal.returns-clause-all
returns-clause-all g c =
    let w = subst (λ r. c.settle.new.self ≡ set c.begin.new.self r (list_of c.settle.new.self r)) c.in_ok-block.ensures.rest c.settle.ensures.alone in
    let a = subst (λ r. OnOk c.settle.result (end_of c.in_ok-block.block ≤ length (list_of c.settle.new.self r))) c.in_ok-block.ensures.rest c.settle.ensures.all in
    on_ok_map c.settle.result (end_of c.in_ok-block.block ≤ length (list_of c.settle.new.self c.args.rest)) (HasMarks c.settle.new.self c.args.rest c.args.count)
    (λ l. subst (λ (ms : List (List Bool)). HasMarks ms c.args.rest c.args.count) (sym w)
    (has_set c.begin.new.self c.args.rest c.args.count (list_of c.settle.new.self c.args.rest) c.in_ok-begin.ensures.listed
    (subst (λ n. n ≤ length (list_of c.settle.new.self c.args.rest)) c.in_ok-block.ensures.end l))) a
