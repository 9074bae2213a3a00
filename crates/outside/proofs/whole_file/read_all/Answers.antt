use Rattle.std.proofs.Common.{◌≡◌, ◌∙◌, ℕ, ◌+◌, ◌++◌, vec_len, length, take, length-append, length-take, arith, rules}
use Rattle.outside.proofs.Reading.{told_rises, rises_more, rises_within, rest_more, made, longer}
use Rattle.outside.proofs.whole_file.read_all.Goals as goal

pub returns-in-Err-clause-told_calls : goal.returns-in-Err-clause-told_calls
returns-in-Err-clause-told_calls g c = told_rises _ _ _ _ _ _ _ c.loop-count.invariant.rest (omega arith) (rises_more _ _ _ _ c.loop-count.invariant.calls c.read.ensures.counted)

pub returns-then-limit-len-clause-told_calls : goal.returns-then-limit-len-clause-told_calls
returns-then-limit-len-clause-told_calls g c = told_rises _ _ _ _ _ _ _ c.loop-count.invariant.rest (omega arith) (rises_more _ _ _ _ c.loop-count.invariant.calls c.read.ensures.counted)

pub returns-then-is_err-2-clause-told_calls : goal.returns-then-is_err-2-clause-told_calls
returns-then-is_err-2-clause-told_calls g c = told_rises _ _ _ _ _ _ _ c.loop-count.invariant.rest (omega arith) (rises_more _ _ _ _ c.loop-count.invariant.calls c.read.ensures.counted)

pub returns-then-limit-len-clause-too_long : goal.returns-then-limit-len-clause-too_long
returns-then-limit-len-clause-too_long g c = λ _. longer _ _ _ _ _ (rest_more _ _ _ _ _ _ c.loop-count.invariant.rest c.in-Ok.ensures.bytes.0) (omega (arith, c.in-Ok.ensures.bound, length-append {A = ℕ}, length-take {A = ℕ}))

pub loop-count-preserved : goal.loop-count-preserved
loop-count-preserved g c =
    let items : c.extend_from_slice.new.self.items ≡ c.loop-count.bytes.items ++ take c.in-Ok.count c.read.new.buf =
    made _ _ _ _ _ c.is_err-in-loop-count.ensures.negation c.if-is_err-2.false c.extend_from_slice.ensures.items in
    let len : vec_len c.extend_from_slice.new.self ≡ vec_len c.loop-count.bytes + length (take c.in-Ok.count c.read.new.buf) =
    made _ _ _ _ _ c.is_err-in-loop-count.ensures.negation c.if-is_err-2.false c.extend_from_slice.ensures.len in
    record {
      current = c.read.ensures.current;
      files = c.read.ensures.same_files ∙ c.loop-count.invariant.files;
      rest = rw items (rest_more _ _ _ _ _ _ c.loop-count.invariant.rest c.in-Ok.ensures.bytes.0);
      short = omega (arith, c.in-Ok.ensures.bound, length-take {A = ℕ});
      buffer = search rules;
      faults = search rules;
      misses = c.read.ensures.misses ∙ c.loop-count.invariant.misses;
      calls = rises_within _ _ _ _ (omega (arith, c.in-Ok.ensures.bound, length-take {A = ℕ})) (rises_more _ _ _ _ c.loop-count.invariant.calls c.read.ensures.counted);
    }
